-- The parts of a pile.
use Rattle.std.proofs.Common.{◌≡◌, refl, sym, ◌∙◌, ap, ℕ, ◌+◌, ◌-◌, ◌≤◌, List, [], ◌++◌, take, drop, length, reverse, arith, length-take, length-drop, min, ◌<◌, Bool, true, false, leb-true, leb-false}
use Rattle.std.specs.Prelude.{nat_le}
use Rattle.std.proofs.lemmas.List.{append-nil, length-reverse, reverse-append, reverse-reverse, take-append-drop, take_at, drop_at, drop-drop, drop-take, take-take, drop-append-le, drop_all}
use Rattle.wasm_machine.specs.declared.pile.Pile.{Pile}
use Rattle.wasm_machine.specs.Piles.{all, below, span, own}

-- what waits and what runs are all
pub size_split : {T : Type 0} (p : Pile T) → length (all p) ≡ length (below p) + length (own p)
unfolding below span
size_split {T} p = omega (arith, length-take p.floor p.items.items, length-drop p.floor p.items.items, length-reverse (drop p.floor p.items.items))

pub all_split : {T : Type 0} (p : Pile T) → all p ≡ below p ++ span p
unfolding below span
all_split p = sym (take-append-drop p.floor p.items.items)

-- the upper part of a list, and the lower, from the top
pub upper_reversed : {T : Type 0} (xs : List T) (n : ℕ) → n ≤ length xs → drop (length xs - n) xs ≡ reverse (take n (reverse xs))
upper_reversed {T} xs n h =
    let k : ℕ = length xs - n in
    let both : reverse xs ≡ reverse (drop k xs) ++ reverse (take k xs) = ap reverse (sym (take-append-drop k xs)) ∙ reverse-append (take k xs) (drop k xs) in
    let size : length (reverse (drop k xs)) ≡ n = omega (arith, length-reverse (drop k xs), length-drop k xs) in
    sym (ap (λ (ys : List T). reverse (take n ys)) both ∙ ap reverse (take_at (reverse (drop k xs)) (reverse (take k xs)) n size) ∙ reverse-reverse (drop k xs))

pub lower_reversed : {T : Type 0} (xs : List T) (n : ℕ) → n ≤ length xs → reverse (take (length xs - n) xs) ≡ drop n (reverse xs)
lower_reversed {T} xs n h =
    let k : ℕ = length xs - n in
    let both : reverse xs ≡ reverse (drop k xs) ++ reverse (take k xs) = ap reverse (sym (take-append-drop k xs)) ∙ reverse-append (take k xs) (drop k xs) in
    let size : length (reverse (drop k xs)) ≡ n = omega (arith, length-reverse (drop k xs), length-drop k xs) in
    sym (ap (λ (ys : List T). drop n ys) both ∙ drop_at (reverse (drop k xs)) (reverse (take k xs)) n size)

-- a floor that is raised over n items of the upper part
pub raised_span : {T : Type 0} (items : List T) (floor n : ℕ) → floor ≤ length items → n ≤ length (reverse (drop floor items)) → drop (length items - n) items ≡ reverse (take n (reverse (drop floor items)))
raised_span {T} items floor n low h =
    let size : length (drop floor items) ≡ length items - floor = length-drop floor items in
    let some : n ≤ length (drop floor items) = omega (arith, length-reverse (drop floor items)) in
    let at : length items - n ≡ floor + (length (drop floor items) - n) = omega arith in
    ap (λ k. drop k items) at ∙ sym (drop-drop (length (drop floor items) - n) floor items) ∙ upper_reversed (drop floor items) n some

pub raised_rest : {T : Type 0} (items : List T) (floor n : ℕ) → floor ≤ length items → n ≤ length (reverse (drop floor items)) → reverse (drop floor (take (length items - n) items)) ≡ drop n (reverse (drop floor items))
raised_rest {T} items floor n low h =
    let size : length (drop floor items) ≡ length items - floor = length-drop floor items in
    let some : n ≤ length (drop floor items) = omega (arith, length-reverse (drop floor items)) in
    let at : length items - n ≡ floor + (length (drop floor items) - n) = omega arith in
    ap (λ k. reverse (drop floor (take k items))) at ∙ ap reverse (drop-take floor (length (drop floor items) - n) items) ∙ lower_reversed (drop floor items) n some

pub raised_below : {T : Type 0} (items : List T) (floor n : ℕ) → floor ≤ length items → n ≤ length (reverse (drop floor items)) → take floor (take (length items - n) items) ≡ take floor items
raised_below items floor n low h =
    take-take floor (length items - n) items (omega (arith, length-reverse (drop floor items), length-drop floor items))

-- a floor that is set down
pub lowered_span : {T : Type 0} (items : List T) (floor new : ℕ) → floor ≤ length items → drop (min new floor) items ≡ drop new (take floor items) ++ drop floor items
lowered_span items floor new low = go (nat_le new floor) refl
  where
    at_min : (m n : ℕ) → m ≤ n → min m n ≡ m
    at_min m n h = omega arith

    at_other : (m n : ℕ) → n ≤ m → min m n ≡ n
    at_other m n h = omega arith

    go : (b : Bool) → nat_le new floor ≡ b → drop (min new floor) items ≡ drop new (take floor items) ++ drop floor items
    go true e =
        let le : new ≤ floor = leb-true new floor e in
        ap (λ k. drop k items) (at_min new floor le) ∙ ap (drop new) (sym (take-append-drop floor items)) ∙ drop-append-le new (take floor items) (drop floor items) (omega (arith, length-take floor items))
    go false e =
        let lt : floor < new = leb-false new floor e in
        ap (λ k. drop k items) (at_other new floor (omega arith)) ∙ sym (ap (λ ys. ys ++ drop floor items) (drop_all new (take floor items) (omega (arith, length-take floor items))))

-- a floor that is set down in a pile of which what runs has nothing
pub cleared_span : {T : Type 0} (xs ys zs : List T) → ys ≡ [] → zs ≡ xs ++ ys → zs ≡ xs
cleared_span xs ys zs none e = e ∙ ap (λ us. xs ++ us) none ∙ append-nil xs
