-- Which ids are those of codes, and why changes are refused.
use Rattle.std.proofs.Common.{◌≡◌, ℕ, ◌<◌, ◌≤◌, Bool, true, false, cond, ◌&&◌, ◌||◌, List, [], ◌∷◌, Option, Some, None, refl, sym, ap, ◌∙◌, subst, arith, nat_le, nat_lt}
use Rattle.std.proofs.lemmas.Bool.Decides.{nat_tests}
use Rattle.std.specs.Option.{is_some, option_map}
use Rattle.std.specs.List.{list_any}
use Rattle.std.specs.Ordering.{nat_cmp, eq_by_cmp}
use Rattle.std.specs.FinMap.{get}
use Rattle.wasm_types.specs.Typing.{or_else}
use Rattle.chain_records.specs.declared.record.Counters.{Counters}
use Rattle.chain_records.specs.Records.{PlainFacts}
use Rattle.chain_records.specs.State.{Code, State}
use Rattle.code_registry.specs.declared.stop.CodeStop.{CodeStop}
use Rattle.code_registry.specs.declared.stop.CodeStop.TheVariants as stops
use Rattle.code_registry.specs.Codes.{Refusal, not_authority, no_such_code, too_many_pins, is_the, is_authority, first_unknown, unpin_refusal}
use Rattle.code_registry.specs.Lawful.{HasLawfulCodes}
use Rattle.code_registry.specs.Refusals.{IsStop, UnlessNoMemory}
use Rattle.code_registry.specs.Steps.{is_given, first_outside}

-- ---- ids

some_code : (o : Option Code) → (code : Code) × (o ≡ Some code) → is_some o ≡ true
some_code (Some c) found = refl
some_code None found = let e = found.1 in absurd cc

code_there : (o : Option Code) → is_some o ≡ true → (code : Code) × (o ≡ Some code)
code_there (Some c) e = (c, refl)
code_there None e = absurd cc

parts : (next id : ℕ) → is_given next id ≡ true → (1 ≤ id) × (id < next)
parts next id is = (grind (arith, nat_tests), grind (arith, nat_tests))

whole : (next id : ℕ) → 1 ≤ id → id < next → is_given next id ≡ true
whole next id from below = grind (arith, nat_tests)

pub there_is_given : (s : State) → HasLawfulCodes s → (id : ℕ) → is_some (get s.codes id) ≡ is_given s.counters.next_code id
there_is_given s lawful id = go (is_some (get s.codes id)) refl (is_given s.counters.next_code id) refl
  where
    go : (b : Bool) → is_some (get s.codes id) ≡ b → (t : Bool) → is_given s.counters.next_code id ≡ t → b ≡ t
    go true there true given = refl
    go true there false given =
        let is = (lawful.numbered id).0 (code_there (get s.codes id) there) in
        let other = whole s.counters.next_code id is.0 is.1 in
        sym other ∙ given
    go false there true given =
        let is = parts s.counters.next_code id given in
        let other = some_code (get s.codes id) ((lawful.numbered id).1 (is.0, is.1)) in
        sym there ∙ other
    go false there false given = refl

pub unknown_is_outside : (s : State) → HasLawfulCodes s → (ids : List ℕ) → first_unknown s ids ≡ first_outside s.counters.next_code ids
unknown_is_outside s lawful [] = refl
unknown_is_outside s lawful (id ∷ ids) =
    ap (λ b. cond b (first_unknown s ids) (Some id)) (there_is_given s lawful id)
    ∙ ap (λ (o : Option ℕ). cond (is_given s.counters.next_code id) o (Some id)) (unknown_is_outside s lawful ids)

-- where none is unknown, there is a code with each
pub known : (s : State) (ids : List ℕ) → first_unknown s ids ≡ None → (q : ℕ) → list_any (eq_by_cmp nat_cmp q) ids ≡ true → (code : Code) × (get s.codes q ≡ Some code)
known s [] none q any = absurd cc
known s (id ∷ ids) none q any = go (is_some (get s.codes id)) refl none (eq_by_cmp nat_cmp q id) refl any (λ rest more. known s ids rest q more)
  where
    go : (b : Bool) → is_some (get s.codes id) ≡ b → cond b (first_unknown s ids) (Some id) ≡ None → (t : Bool) → eq_by_cmp nat_cmp q id ≡ t → (t || list_any (eq_by_cmp nat_cmp q) ids) ≡ true
        → (first_unknown s ids ≡ None → list_any (eq_by_cmp nat_cmp q) ids ≡ true → (code : Code) × (get s.codes q ≡ Some code)) → (code : Code) × (get s.codes q ≡ Some code)
    go true there rest true tied any later =
        let same : id ≡ q = grind (arith, nat_tests) in
        subst (λ (x : ℕ). (code : Code) × (get s.codes x ≡ Some code)) same (code_there (get s.codes id) there)
    go true there rest false tied any later = later rest any
    go false there rest t tied any later = absurd cc

-- ---- refusals

pub none_unknown : (b : Bool) (o : Option ℕ) → cond b (option_map no_such_code o) (Some not_authority) ≡ None → o ≡ None
none_unknown true (Some id) e = absurd cc
none_unknown true None e = refl
none_unknown false o e = absurd cc

pub within_limit : (refusal : Option Refusal) (n : ℕ) → refusal ≡ None → n ≤ 64 → or_else refusal (cond (nat_le n 64) None (Some too_many_pins)) ≡ None
within_limit refusal n none few = ap (λ (r : Option Refusal). or_else r (cond (nat_le n 64) None (Some too_many_pins))) none ∙ fits (nat_le n 64) (grind (arith, nat_tests))
  where
    fits : (b : Bool) → b ≡ true → cond b None (Some too_many_pins) ≡ None
    fits b e = ap (λ t. cond t None (Some too_many_pins)) e

pub both_none : (refusal : Option Refusal) (n : ℕ) → or_else refusal (cond (nat_le n 64) None (Some too_many_pins)) ≡ None → (refusal ≡ None) × (n ≤ 64)
both_none (Some r) n e = absurd cc
both_none None n e = (refl, go (nat_le n 64) refl e)
  where
    go : (b : Bool) → nat_le n 64 ≡ b → cond b None (Some too_many_pins) ≡ None → n ≤ 64
    go true is e = grind (arith, nat_tests)
    go false is e = absurd cc

pub over_limit : (refusal : Option Refusal) (n : ℕ) → refusal ≡ None → 64 < n → or_else refusal (cond (nat_le n 64) None (Some too_many_pins)) ≡ Some too_many_pins
over_limit refusal n none many = ap (λ (r : Option Refusal). or_else r (cond (nat_le n 64) None (Some too_many_pins))) none ∙ over (nat_le n 64) (grind (arith, nat_tests))
  where
    over : (b : Bool) → b ≡ false → cond b None (Some too_many_pins) ≡ Some too_many_pins
    over b e = ap (λ t. cond t None (Some too_many_pins)) e

first_stays : (first then : Option Refusal) (r : Refusal) → first ≡ Some r → or_else first then ≡ Some r
first_stays first then r e = ap (λ (o : Option Refusal). or_else o then) e

-- a stop of the first of two refusals is one of both
pub stop_of_first : (stop : CodeStop) (first then : Option Refusal) → IsStop stop first → IsStop stop (or_else first then)
stop_of_first (stops.Refused r) first then is = first_stays first then _ is
stop_of_first stops.NotAuthority first then is = first_stays first then _ is
stop_of_first (stops.NoSuchCode id) first then is = first_stays first then _ is
stop_of_first stops.TooManyCodes first then is = first_stays first then _ is
stop_of_first stops.TooManyPins first then is = first_stays first then _ is
stop_of_first stops.NoMemory first then is = tt

pub unless_no_memory : (stop : CodeStop) (P : Type 0) → P → UnlessNoMemory stop P
unless_no_memory (stops.Refused r) P p = p
unless_no_memory stops.NotAuthority P p = p
unless_no_memory (stops.NoSuchCode id) P p = p
unless_no_memory stops.TooManyCodes P p = p
unless_no_memory stops.TooManyPins P p = p
unless_no_memory stops.NoMemory P p = tt

pub not_the_authority : (b : Bool) (refusal : Option Refusal) → b ≡ false → cond b refusal (Some not_authority) ≡ Some not_authority
not_the_authority b refusal e = ap (λ t. cond t refusal (Some not_authority)) e

pub the_authority : (b : Bool) (o p : Option ℕ) → b ≡ true → o ≡ p → cond b (option_map no_such_code o) (Some not_authority) ≡ option_map no_such_code p
the_authority b o p e same = ap (λ t. cond t (option_map no_such_code o) (Some not_authority)) e ∙ ap (option_map no_such_code) same

pub authority_is : (s : State) (f : PlainFacts) (sender : List ℕ) (b t : Bool) → f ≡ s.facts → b ≡ is_the f.authority sender → b ≡ t → is_authority s sender ≡ t
authority_is s f sender b t same is test = ap (λ (g : PlainFacts). is_the g.authority sender) (sym same) ∙ sym is ∙ test

pub outside_is : (s : State) (given : Counters) (ids : List ℕ) (o : Option ℕ) → HasLawfulCodes s → given ≡ s.counters → o ≡ first_outside given.next_code ids → first_unknown s ids ≡ o
outside_is s given ids o lawful same is = unknown_is_outside s lawful ids ∙ ap (λ (c : Counters). first_outside c.next_code ids) (sym same) ∙ sym is
