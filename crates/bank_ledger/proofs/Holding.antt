-- What an address has, from one denom on.
use Rattle.std.proofs.Common.{◌≡◌, ℕ, ◌<◌, Bool, true, false, cond, ◌&&◌, List, [], ◌∷◌, ◌++◌, map, Option, Some, None, refl, sym, ap, ◌∙◌, subst, arith, append_assoc}
use lib.Dec.{T}
use Rattle.std.specs.Str.{bytes_eq}
use Rattle.std.specs.List.{filter, AllByRecursion}
use Rattle.std.specs.List.Sorted.{IsStrictlySortedBy}
use Rattle.std.specs.declared.cmp.Ordering.{Ordering}
use Rattle.std.specs.declared.cmp.Ordering.TheVariants.{Less, Equal, Greater}
use Rattle.std.specs.Ordering.{nat_cmp, is_le, is_lt, is_eq, eq_by_cmp, ordering_then, ordering_reverse}
use Rattle.std.specs.Cmp.{ranked, tied_itself}
use Rattle.std.specs.Cmp.Lexicographic.{slice_cmp, nat_list_cmp_total}
use Rattle.std.specs.FinMap.{entries, entries_sorted, get-entries}
use Rattle.std.specs.FinMap.Entries.{find, is_sorted, below_all}
use Rattle.std.proofs.lemmas.List.Elements.{All-from_recursion}
use Rattle.std.proofs.lemmas.Slice.Eq.{bytes_eq-Decides}
use Rattle.coin_amounts.specs.Plain.{Coin}
use Rattle.coin_amounts.specs.Order.{IsRising, IsPositive}
use Rattle.chain_records.specs.Keys.{key_bytes}
use Rattle.chain_records.specs.Keys as keys
use Rattle.chain_records.specs.State.{Addressed, addressed_cmp, State}
use Rattle.bank_ledger.specs.Accounts.{held}
use Rattle.bank_ledger.specs.Lawful.{HasLawfulAmounts}
use Rattle.bank_ledger.specs.Steps.{IsNextHeld}
use Rattle.bank_ledger.proofs.Orders.{addressed_total, addressed_exact, equal_of}
use Rattle.bank_ledger.proofs.Places.{place_of, front}

abbrev Entry : Type 0
Entry = Addressed × ℕ

abbrev coin_of : Entry → Coin
coin_of account = record { denom = account.0.1; amount = account.1 }

-- the key with a byte 0 more is the next greater one
pub after_le : (key q : List ℕ) → is_le (slice_cmp nat_cmp (key ++ 0 ∷ []) q) ≡ is_lt (slice_cmp nat_cmp key q)
after_le [] [] = refl
after_le [] (y ∷ ys) =
    elim (nat_cmp 0 y) as (λ r. r ≡ nat_cmp 0 y → is_le (ordering_then r (slice_cmp nat_cmp [] ys)) ≡ true) [
      | Less ↦ λ _. refl
      | Equal ↦ λ _. elim ys as (λ zs. is_le (slice_cmp nat_cmp [] zs) ≡ true) [ [] ↦ refl | (z ∷ zs) ↦ refl ]
      | Greater ↦ λ e. absurd (omega (arith, ranked 0 y Greater e))
    ] refl
after_le (x ∷ xs) [] = refl
after_le (x ∷ xs) (y ∷ ys) =
    elim (nat_cmp x y) as (λ r. is_le (ordering_then r (slice_cmp nat_cmp (xs ++ 0 ∷ []) ys)) ≡ is_lt (ordering_then r (slice_cmp nat_cmp xs ys))) [
      | Less ↦ refl
      | Equal ↦ after_le xs ys
      | Greater ↦ refl
    ]

-- ---- tests of entries

abbrev is_of : List ℕ → Entry → Bool
is_of addr account = bytes_eq account.0.0 addr

abbrev is_from : List ℕ → List ℕ → Entry → Bool
is_from addr lo account = is_of addr account && is_le (slice_cmp nat_cmp lo account.0.1)

-- the coins of an address whose denoms aren't below a bound
abbrev pub rest_of : List ℕ → List ℕ → List Entry → List Coin
rest_of addr lo es = map coin_of (filter (is_from addr lo) es)

filter_same : (p q : Entry → Bool) → ((e : Entry) → p e ≡ q e) → (es : List Entry) → filter p es ≡ filter q es
filter_same p q same [] = refl
filter_same p q same (e ∷ es) = λ i. cond (same e i) (e ∷ filter_same p q same es i) (filter_same p q same es i)

first_of : (a b : Bool) → T (a && b) → T a
first_of true b p = tt
first_of false b p = p

second_of : (a b : Bool) → T (a && b) → T b
second_of true b p = p
second_of false b p = absurd p

less_of : (r : Ordering) → T (is_lt r) → r ≡ Less
less_of Less p = refl
less_of Equal p = absurd p
less_of Greater p = absurd p

filter_above : (p q : Entry → Bool) (k : Addressed) → ((e : Entry) → addressed_cmp k e.0 ≡ Less → p e ≡ q e) → (es : List Entry) → T (below_all addressed_cmp k es) → filter p es ≡ filter q es
filter_above p q k same [] above = refl
filter_above p q k same (e ∷ es) above =
    let here = same e (less_of _ (first_of _ _ above)) in
    let rest = filter_above p q k same es (second_of _ _ above) in
    λ i. cond (here i) (e ∷ rest i) (rest i)

least_le : (d : List ℕ) → is_le (slice_cmp nat_cmp [] d) ≡ true
least_le [] = refl
least_le (x ∷ d) = refl

and_true : (a b : Bool) → b ≡ true → (a && b) ≡ a
and_true true b e = e
and_true false b e = refl

pub all_left : (addr : List ℕ) (s : State) → held s addr ≡ rest_of addr [] (entries s.balances)
all_left addr s = ap (map coin_of) (filter_same (is_of addr) (is_from addr []) (λ e. sym (and_true (is_of addr e) _ (least_le e.0.1))) (entries s.balances))

-- ---- orders

same_addr : (a addr : List ℕ) → bytes_eq a addr ≡ true → a ≡ addr
same_addr a addr e = (bytes_eq-Decides a addr).0 e

cmp_itself : (a : List ℕ) → slice_cmp nat_cmp a a ≡ Equal
cmp_itself a = tied_itself nat_list_cmp_total a

-- of one address's accounts the denoms are compared
by_denom : (a b x y : List ℕ) → a ≡ b → addressed_cmp (a, x) (b, y) ≡ slice_cmp nat_cmp x y
by_denom a b x y e = ap (λ (c : List ℕ). ordering_then (slice_cmp nat_cmp a c) (slice_cmp nat_cmp x y)) (sym e) ∙ ap (λ r. ordering_then r (slice_cmp nat_cmp x y)) (cmp_itself a)

le_less : (r : Ordering) (l x d : List ℕ) → slice_cmp nat_cmp l x ≡ r → is_le r ≡ true → slice_cmp nat_cmp x d ≡ Less → is_le (slice_cmp nat_cmp l d) ≡ true
le_less Less l x d e le less = ap is_le (nat_list_cmp_total.trans l x d e less)
le_less Equal l x d e le less = ap is_le (nat_list_cmp_total.congr l x d e ∙ less)
le_less Greater l x d e le less = absurd cc

not_less : (x d : List ℕ) → slice_cmp nat_cmp d x ≡ Less → is_lt (slice_cmp nat_cmp x d) ≡ false
not_less x d less = ap is_lt (nat_list_cmp_total.antisymm x d ∙ ap ordering_reverse less)

-- ---- look-ups in entries in order

found_above : (k q : Addressed) (n : ℕ) (es : List Entry) → T (below_all addressed_cmp k es) → find addressed_cmp q es ≡ Some n → addressed_cmp k q ≡ Less
found_above k q n [] above found = absurd cc
found_above k q n (e ∷ es) above found = go (eq_by_cmp addressed_cmp q e.0) refl found (found_above k q n es (second_of _ _ above))
  where
    go : (b : Bool) → eq_by_cmp addressed_cmp q e.0 ≡ b → cond b (Some e.1) (find addressed_cmp q es) ≡ Some n → (find addressed_cmp q es ≡ Some n → addressed_cmp k q ≡ Less) → addressed_cmp k q ≡ Less
    go true t f rest =
        let same = addressed_exact q e.0 (equal_of (addressed_cmp q e.0) t) in
        ap (addressed_cmp k) same ∙ less_of _ (first_of _ _ above)
    go false t f rest = rest f

found_first : (e : Entry) (es : List Entry) → find addressed_cmp e.0 (e ∷ es) ≡ Some e.1
found_first e es = ap (λ r. cond (is_eq r) (Some e.1) (find addressed_cmp e.0 es)) (tied_itself addressed_total e.0)

rest_none : (b : Bool) (n : ℕ) (rest : Option ℕ) → cond b (Some n) rest ≡ None → rest ≡ None
rest_none true n rest e = absurd cc
rest_none false n rest e = e

-- ---- nothing is left

pub none_left : (addr lo : List ℕ) (es : List Entry) → ((d : List ℕ) → is_le (slice_cmp nat_cmp lo d) ≡ true → find addressed_cmp (addr, d) es ≡ None) → rest_of addr lo es ≡ []
none_left addr lo [] none = refl
none_left addr lo (e ∷ es) none = go (is_of addr e) refl (is_le (slice_cmp nat_cmp lo e.0.1)) refl (none_left addr lo es (λ d le. rest_none _ _ _ (none d le)))
  where
    go : (a : Bool) → is_of addr e ≡ a → (b : Bool) → is_le (slice_cmp nat_cmp lo e.0.1) ≡ b → rest_of addr lo es ≡ [] → map coin_of (cond (a && b) (e ∷ filter (is_from addr lo) es) (filter (is_from addr lo) es)) ≡ []
    go true p true q rest =
        let there = none e.0.1 q in
        let here : find addressed_cmp (addr, e.0.1) (e ∷ es) ≡ Some e.1 = ap (λ (a : List ℕ). find addressed_cmp (a, e.0.1) (e ∷ es)) (sym (same_addr e.0.0 addr p)) ∙ found_first e es in
        let both = sym here ∙ there in
        absurd cc
    go true p false q rest = rest
    go false p b q rest = rest

-- ---- one coin is first

module _ (addr lo x : List ℕ) (n : ℕ) (from : is_le (slice_cmp nat_cmp lo x) ≡ true) where
  above_same : (e : Entry) → addressed_cmp (addr, x) e.0 ≡ Less → is_from addr lo e ≡ is_from addr (x ++ 0 ∷ []) e
  above_same e above = go (is_of addr e) refl
    where
      go : (b : Bool) → is_of addr e ≡ b → (b && is_le (slice_cmp nat_cmp lo e.0.1)) ≡ (b && is_le (slice_cmp nat_cmp (x ++ 0 ∷ []) e.0.1))
      go true p =
          let less = sym (by_denom addr e.0.0 x e.0.1 (sym (same_addr e.0.0 addr p))) ∙ above in
          le_less _ lo x e.0.1 refl from less ∙ sym (after_le x e.0.1 ∙ ap is_lt less)
      go false p = refl

  pub first_left : (es : List Entry) → T (is_sorted addressed_cmp es) → find addressed_cmp (addr, x) es ≡ Some n
      → ((d : List ℕ) → is_le (slice_cmp nat_cmp lo d) ≡ true → is_lt (slice_cmp nat_cmp d x) ≡ true → find addressed_cmp (addr, d) es ≡ None)
      → rest_of addr lo es ≡ record { denom = x; amount = n } ∷ rest_of addr (x ++ 0 ∷ []) es
  first_left [] sorted found before = absurd cc
  first_left (e ∷ es) sorted found before = go (eq_by_cmp addressed_cmp (addr, x) e.0) refl found (λ f. first_left es (second_of _ _ sorted) f (λ d le lt. rest_none _ _ _ (before d le lt)))
    where
      above : T (below_all addressed_cmp e.0 es)
      above = first_of _ _ sorted

      passes : (a b : Bool) → a ≡ true → b ≡ true → (a && b) ≡ true
      passes a b p q = rw (p, q) refl

      fails : (a b : Bool) → b ≡ false → (a && b) ≡ false
      fails true b q = q
      fails false b q = refl

      here : ◌≡◌ {A = Addressed} (addr, x) e.0 → Some e.1 ≡ Some n → rest_of addr lo (e ∷ es) ≡ record { denom = x; amount = n } ∷ rest_of addr (x ++ 0 ∷ []) (e ∷ es)
      here same value =
          let denom : x ≡ e.0.1 = ap (λ (k : Addressed). k.1) same in
          let owner : addr ≡ e.0.0 = ap (λ (k : Addressed). k.0) same in
          let amount : e.1 ≡ n = cc value in
          let taken : is_from addr lo e ≡ true =
          passes (is_of addr e) (is_le (slice_cmp nat_cmp lo e.0.1)) ((bytes_eq-Decides e.0.0 addr).1 (sym owner)) (subst (λ (d : List ℕ). is_le (slice_cmp nat_cmp lo d) ≡ true) denom from) in
          let past : is_from addr (x ++ 0 ∷ []) e ≡ false =
          fails (is_of addr e) _ (after_le x e.0.1 ∙ ap (λ (d : List ℕ). is_lt (slice_cmp nat_cmp x d)) (sym denom) ∙ ap is_lt (cmp_itself x)) in
          let later = filter_above (is_from addr lo) (is_from addr (x ++ 0 ∷ [])) (addr, x) above_same es (subst (λ (k : Addressed). T (below_all addressed_cmp k es)) (sym same) above) in
          ap (λ b. map coin_of (cond b (e ∷ filter (is_from addr lo) es) (filter (is_from addr lo) es))) taken
          ∙ (λ i. record { denom = sym denom i; amount = amount i } ∷ map coin_of (later i))
          ∙ ap (λ b. record { denom = x; amount = n } ∷ map coin_of (cond b (e ∷ filter (is_from addr (x ++ 0 ∷ [])) es) (filter (is_from addr (x ++ 0 ∷ [])) es))) (sym past)

      dropped : find addressed_cmp (addr, x) es ≡ Some n → (a : Bool) → is_of addr e ≡ a → (b : Bool) → is_le (slice_cmp nat_cmp lo e.0.1) ≡ b
          → ((a && b) ≡ false) × ((a && is_le (slice_cmp nat_cmp (x ++ 0 ∷ []) e.0.1)) ≡ false)
      dropped f false p b q = (refl, refl)
      dropped f true p b q =
          let less = sym (by_denom e.0.0 addr e.0.1 x (same_addr e.0.0 addr p)) ∙ found_above e.0 (addr, x) n es above f in
          (not_from b q less, after_le x e.0.1 ∙ not_less x e.0.1 less)
        where
          not_from : (c : Bool) → is_le (slice_cmp nat_cmp lo e.0.1) ≡ c → slice_cmp nat_cmp e.0.1 x ≡ Less → c ≡ false
          not_from false r less = refl
          not_from true r less =
              let there = before e.0.1 r (ap is_lt less) in
              let first : find addressed_cmp (addr, e.0.1) (e ∷ es) ≡ Some e.1 = ap (λ (a : List ℕ). find addressed_cmp (a, e.0.1) (e ∷ es)) (sym (same_addr e.0.0 addr p)) ∙ found_first e es in
              let both = sym first ∙ there in
              absurd cc

      go : (b : Bool) → eq_by_cmp addressed_cmp (addr, x) e.0 ≡ b → cond b (Some e.1) (find addressed_cmp (addr, x) es) ≡ Some n
          → (find addressed_cmp (addr, x) es ≡ Some n → rest_of addr lo es ≡ record { denom = x; amount = n } ∷ rest_of addr (x ++ 0 ∷ []) es)
          → rest_of addr lo (e ∷ es) ≡ record { denom = x; amount = n } ∷ rest_of addr (x ++ 0 ∷ []) (e ∷ es)
      go true t f rest = here (addressed_exact (addr, x) e.0 (equal_of (addressed_cmp (addr, x) e.0) t)) f
      go false t f rest =
          let drops = dropped f (is_of addr e) refl (is_le (slice_cmp nat_cmp lo e.0.1)) refl in
          ap (λ b. map coin_of (cond b (e ∷ filter (is_from addr lo) es) (filter (is_from addr lo) es))) drops.0
          ∙ rest f
          ∙ ap (λ b. record { denom = x; amount = n } ∷ map coin_of (cond b (e ∷ filter (is_from addr (x ++ 0 ∷ [])) es) (filter (is_from addr (x ++ 0 ∷ [])) es))) (sym drops.1)

-- ---- what is held rises, and is above 0

denoms_above : (addr : List ℕ) (k : Addressed) (es : List Entry) → k.0 ≡ addr → T (below_all addressed_cmp k es) → AllByRecursion (λ d. slice_cmp nat_cmp k.1 d ≡ Less) (map (λ (c : Coin). c.denom) (map coin_of (filter (is_of addr) es)))
denoms_above addr k [] same above = tt
denoms_above addr k (e ∷ es) same above = go (is_of addr e) refl (denoms_above addr k es same (second_of _ _ above))
  where
    go : (b : Bool) → is_of addr e ≡ b → AllByRecursion (λ d. slice_cmp nat_cmp k.1 d ≡ Less) (map (λ (c : Coin). c.denom) (map coin_of (filter (is_of addr) es)))
        → AllByRecursion (λ d. slice_cmp nat_cmp k.1 d ≡ Less) (map (λ (c : Coin). c.denom) (map coin_of (cond b (e ∷ filter (is_of addr) es) (filter (is_of addr) es))))
    go true p rest = (sym (by_denom k.0 e.0.0 k.1 e.0.1 (same ∙ sym (same_addr e.0.0 addr p))) ∙ less_of _ (first_of _ _ above), rest)
    go false p rest = rest

held_rises : (addr : List ℕ) (es : List Entry) → T (is_sorted addressed_cmp es) → IsRising (map coin_of (filter (is_of addr) es))
unfolding IsStrictlySortedBy
held_rises addr [] sorted = tt
held_rises addr (e ∷ es) sorted = go (is_of addr e) refl (held_rises addr es (second_of _ _ sorted))
  where
    go : (b : Bool) → is_of addr e ≡ b → IsRising (map coin_of (filter (is_of addr) es)) → IsRising (map coin_of (cond b (e ∷ filter (is_of addr) es) (filter (is_of addr) es)))
    go true p rest = (denoms_above addr e.0 es (same_addr e.0.0 addr p) (first_of _ _ sorted), rest)
    go false p rest = rest

pub held_is_rising : (s : State) (addr : List ℕ) → IsRising (held s addr)
held_is_rising s addr = held_rises addr (entries s.balances) (entries_sorted s.balances)

above_zero : (addr : List ℕ) (es : List Entry) → T (is_sorted addressed_cmp es) → ((q : Addressed) (n : ℕ) → find addressed_cmp q es ≡ Some n → 0 < n) → AllByRecursion (λ (c : Coin). 0 < c.amount) (map coin_of (filter (is_of addr) es))
above_zero addr [] sorted positive = tt
above_zero addr (e ∷ es) sorted positive = go (is_of addr e) (above_zero addr es (second_of _ _ sorted) later)
  where
    later : (q : Addressed) (n : ℕ) → find addressed_cmp q es ≡ Some n → 0 < n
    later q n found =
        let less = found_above e.0 q n es (first_of _ _ sorted) found in
        let other : eq_by_cmp addressed_cmp q e.0 ≡ false = ap is_eq (addressed_total.antisymm q e.0 ∙ ap ordering_reverse less) in
        positive q n (ap (λ b. cond b (Some e.1) (find addressed_cmp q es)) other ∙ found)

    go : (b : Bool) → AllByRecursion (λ (c : Coin). 0 < c.amount) (map coin_of (filter (is_of addr) es)) → AllByRecursion (λ (c : Coin). 0 < c.amount) (map coin_of (cond b (e ∷ filter (is_of addr) es) (filter (is_of addr) es)))
    go true rest = (positive e.0 e.1 (found_first e es), rest)
    go false rest = rest

pub held_is_positive : (s : State) (addr : List ℕ) → HasLawfulAmounts s → IsPositive (held s addr)
held_is_positive s addr lawful =
    All-from_recursion (λ (c : Coin). 0 < c.amount) (held s addr)
    (above_zero addr (entries s.balances) (entries_sorted s.balances) (λ q n found. (lawful.accounts q.0 q.1 n (get-entries s.balances q ∙ found)).0))

-- ---- one step of reading them

pub held_next : (s : State) (addr lo key : List ℕ) (done : List Coin) (coin : Coin) → IsNextHeld s addr lo (Some (key, coin)) → held s addr ≡ done ++ rest_of addr lo (entries s.balances)
    → held s addr ≡ (done ++ coin ∷ []) ++ rest_of addr (coin.denom ++ 0 ∷ []) (entries s.balances)
held_next s addr lo key done coin next so =
    so
    ∙ ap (λ (rest : List Coin). done ++ rest)
    (first_left addr lo coin.denom coin.amount next.1 (entries s.balances) (entries_sorted s.balances) (sym (get-entries s.balances (addr, coin.denom)) ∙ next.2) (λ d le lt. sym (get-entries s.balances (addr, d)) ∙ next.4 d le lt))
    ∙ sym (append_assoc done (coin ∷ []) (rest_of addr (coin.denom ++ 0 ∷ []) (entries s.balances)))

append_nothing : (xs : List Coin) → xs ++ [] ≡ xs
append_nothing [] = refl
append_nothing (x ∷ xs) = ap (λ l. x ∷ l) (append_nothing xs)

pub held_none : (s : State) (addr lo : List ℕ) (done : List Coin) → IsNextHeld s addr lo None → held s addr ≡ done ++ rest_of addr lo (entries s.balances) → held s addr ≡ done
held_none s addr lo done next so =
    so ∙ ap (λ (rest : List Coin). done ++ rest) (none_left addr lo (entries s.balances) (λ d le. sym (get-entries s.balances (addr, d)) ∙ next d le)) ∙ append_nothing done

pub next_place : (addr denom key : List ℕ) → key ≡ key_bytes (keys.balance addr denom) → key ++ 0 ∷ [] ≡ key_bytes (keys.balance addr (denom ++ 0 ∷ []))
next_place addr denom key is = ap (λ (k : List ℕ). k ++ 0 ∷ []) (is ∙ place_of addr denom) ∙ append_assoc (front addr) denom (0 ∷ []) ∙ sym (place_of addr (denom ++ 0 ∷ []))

-- the next place is a later one
greater_of : (r : Ordering) → is_le r ≡ false → r ≡ Greater
greater_of Less e = absurd cc
greater_of Equal e = absurd cc
greater_of Greater e = refl

turned_le : (r : Ordering) → is_le r ≡ true → is_lt (ordering_reverse r) ≡ false
turned_le Less e = refl
turned_le Equal e = refl
turned_le Greater e = absurd cc

pub next_later : (lo denom : List ℕ) → is_le (slice_cmp nat_cmp lo denom) ≡ true → slice_cmp nat_cmp lo (denom ++ 0 ∷ []) ≡ Less
next_later lo denom le =
    let not_below : is_lt (slice_cmp nat_cmp denom lo) ≡ false = ap is_lt (nat_list_cmp_total.antisymm denom lo) ∙ turned_le _ le in
    nat_list_cmp_total.antisymm lo (denom ++ 0 ∷ []) ∙ ap ordering_reverse (greater_of _ (after_le denom lo ∙ not_below))

pub end_place : (addr : List ℕ) → key_bytes (keys.balance addr []) ++ 255 ∷ [] ≡ key_bytes (keys.balance addr (255 ∷ []))
end_place addr = ap (λ (k : List ℕ). k ++ 255 ∷ []) (place_of addr []) ∙ append_assoc (front addr) [] (255 ∷ []) ∙ sym (place_of addr (255 ∷ []))
