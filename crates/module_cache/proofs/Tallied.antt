-- What a fetch makes of the tally.
use Rattle.std.proofs.Common.{◌≡◌, ℕ, ◌+◌, ◌-◌, ◌^◌, min, Bool, true, false, cond, List, Some, None, refl, sym, ap, subst, ◌∙◌, inl, inr, arith}
use Rattle.gatekeeper.specs.declared.served.Served.{Served}
use Rattle.gatekeeper.specs.declared.served.Served.TheVariants.{Pinned, Recent, File, Decoded}
use Rattle.gatekeeper.specs.Cache.{Cache, Tally, Look, is_among, to_front, looked, stowed, after_look, tallied}
use Rattle.gatekeeper.specs.Fetches.{found_in_cache}
use Rattle.module_cache.specs.declared.counts.Counts.{Counts}
use Rattle.module_cache.specs.Counted.{counted, tally_with}
use Rattle.module_cache.specs.Found.{Finds}

-- what a look answers where the code is pinned or not, and recent or not
abbrev look_by : Cache → List ℕ → Bool → Bool → Look
look_by c code pinned recent =
    cond pinned (record { held = Some Pinned; cache = c })
    (cond recent (record { held = Some Recent; cache = record c { recent = to_front code c.recent } })
    (record { held = None; cache = c }))

-- one more where two counts are added
one_more_of_both : (f d m : ℕ) → min (min (f + 1) m + d) m ≡ min (min (f + d) m + 1) m
one_more_of_both f d m = omega arith

one_more_of_both_last : (f d m : ℕ) → min (f + min (d + 1) m) m ≡ min (min (f + d) m + 1) m
one_more_of_both_last f d m = omega arith

abbrev after : Tally → List ℕ → Look → Tally
after t code look = after_look t code look.held look.cache

hit_by : (c : Cache) (n : Counts) (code : List ℕ) (p r : Bool) (s : Served) → (look_by c code p r).held ≡ Some s
    → tally_with (look_by c code p r).cache (counted n s) ≡ after (tally_with c n) code (look_by c code p r)
hit_by c n code true r s h =
    let e : Pinned ≡ s = cc in subst (λ x. tally_with c (counted n x) ≡ after (tally_with c n) code (look_by c code true r)) e refl
hit_by c n code false true s h =
    let e : Recent ≡ s = cc in subst (λ x. tally_with (look_by c code false true).cache (counted n x) ≡ after (tally_with c n) code (look_by c code false true)) e refl
hit_by c n code false false s h = cc

-- a code that is held is looked up
pub hit_tallied : (c : Cache) (n : Counts) (code : List ℕ) (s : Served) → (looked c code).held ≡ Some s
    → tally_with (looked c code).cache (counted n s) ≡ tallied (tally_with c n) code
hit_tallied c n code s h = hit_by c n code (is_among code c.pinned) (is_among code c.recent) s h

missed_as : (c : Cache) (n : Counts) (code : List ℕ) (s : Served) → found_in_cache s ≡ None
    → tally_with (stowed c code) (counted n s) ≡ after_look (tally_with c n) code None c
missed_as c n code Pinned h = cc
missed_as c n code Recent h = cc
missed_as c n code File h = ap (λ m. record { cache = stowed c code; pinned = n.pinned; recent = n.recent; missed = m }) (one_more_of_both n.file n.decoded (2 ^ 64 - 1))
missed_as c n code Decoded h = ap (λ m. record { cache = stowed c code; pinned = n.pinned; recent = n.recent; missed = m }) (one_more_of_both_last n.file n.decoded (2 ^ 64 - 1))

miss_by : (c : Cache) (n : Counts) (code : List ℕ) (p r : Bool) (s : Served) → (look_by c code p r).held ≡ None → found_in_cache s ≡ None
    → tally_with (stowed (look_by c code p r).cache code) (counted n s) ≡ after (tally_with c n) code (look_by c code p r)
miss_by c n code true r s h g = cc
miss_by c n code false true s h g = cc
miss_by c n code false false s h g = missed_as c n code s g

-- another one is stowed
pub miss_tallied : (c : Cache) (n : Counts) (code : List ℕ) (s : Served) → (looked c code).held ≡ None → found_in_cache s ≡ None
    → tally_with (stowed (looked c code).cache code) (counted n s) ≡ tallied (tally_with c n) code
miss_tallied c n code s h g = miss_by c n code (is_among code c.pinned) (is_among code c.recent) s h g

hit_serves_by : (c : Cache) (code : List ℕ) (p r : Bool) (s : Served) → (look_by c code p r).held ≡ Some s → found_in_cache s ≡ (look_by c code p r).held
hit_serves_by c code true r s h = let e : Pinned ≡ s = cc in subst (λ x. found_in_cache x ≡ Some Pinned) e refl
hit_serves_by c code false true s h = let e : Recent ≡ s = cc in subst (λ x. found_in_cache x ≡ Some Recent) e refl
hit_serves_by c code false false s h = cc

pub hit_serves : (c : Cache) (code : List ℕ) (s : Served) → (looked c code).held ≡ Some s → found_in_cache s ≡ (looked c code).held
hit_serves c code s h = hit_serves_by c code (is_among code c.pinned) (is_among code c.recent) s h

pins_by : (t : Tally) (code : List ℕ) (p r : Bool) → (after t code (look_by t.cache code p r)).cache.pinned ≡ t.cache.pinned
pins_by t code true r = refl
pins_by t code false true = refl
pins_by t code false false = refl

-- no fetch changes what is pinned
pub tallied_pins : (t : Tally) (code : List ℕ) → (tallied t code).cache.pinned ≡ t.cache.pinned
tallied_pins t code = pins_by t code (is_among code t.cache.pinned) (is_among code t.cache.recent)

-- the tally after the code was found so
pub found_tallied : (c d : Cache) (n : Counts) (code : List ℕ) (s : Served) → Finds c code s d → tally_with d (counted n s) ≡ tallied (tally_with c n) code
found_tallied c d n code s (inl h) = ap (λ x. tally_with x (counted n s)) h.1 ∙ hit_tallied c n code s h.0
found_tallied c d n code s (inr h) = ap (λ x. tally_with x (counted n s)) h.2 ∙ miss_tallied c n code s h.0 h.1

pub found_serves : (c d : Cache) (code : List ℕ) (s : Served) → Finds c code s d → found_in_cache s ≡ (looked c code).held
found_serves c d code s (inl h) = hit_serves c code s h.0
found_serves c d code s (inr h) = h.1 ∙ sym h.0
