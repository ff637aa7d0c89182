-- The first entry between two bounds, in rising or in falling order of keys. What has entries is given
-- as a function from keys, which has none where it gives none.
use Rattle.std.specs.Prelude.{ℕ, ◌≡◌, Bool, true, List, Option, Some, None, ◌&&◌}
use Rattle.std.specs.Ordering.{is_lt, is_le}
use Rattle.kv_layers.specs.declared.order.Order.{Order}
use Rattle.kv_layers.specs.declared.order.Order.TheVariants.{Ascending, Descending}
use Rattle.kv_layers.specs.Bytes.{bytes_cmp}

-- whether the first key comes before the second
abbrev pub comes_before : Order → List ℕ → List ℕ → Bool
comes_before Ascending a b = is_lt (bytes_cmp a b)
comes_before Descending a b = is_lt (bytes_cmp b a)

-- a lower bound is included
abbrev pub is_from : Option (List ℕ) → List ℕ → Bool
is_from None key = true
is_from (Some lo) key = is_le (bytes_cmp lo key)

-- an upper bound is not
abbrev pub is_below : Option (List ℕ) → List ℕ → Bool
is_below None key = true
is_below (Some hi) key = is_lt (bytes_cmp key hi)

abbrev pub is_within : Option (List ℕ) → Option (List ℕ) → List ℕ → Bool
is_within lo hi key = is_from lo key && is_below hi key

-- the key and value of the first entry within the bounds, or nothing where there is none
abbrev pub IsNext : {X : Type 0} → (List ℕ → Option X) → Option (List ℕ) → Option (List ℕ) → Order → Option (List ℕ × X) → Type 0
IsNext entry lo hi order None = (key : List ℕ) → is_within lo hi key ≡ true → entry key ≡ None
IsNext entry lo hi order (Some e) =
    (is_within lo hi e.0 ≡ true) × (entry e.0 ≡ Some e.1)
    × ((key : List ℕ) → is_within lo hi key ≡ true → comes_before order key e.0 ≡ true → entry key ≡ None)
