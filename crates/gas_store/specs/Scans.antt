-- The scans of a contract's call: two bounds and an order each, and the number of bytes that the bounds had when it began.
use Rattle.std.specs.Prelude.{ℕ, List, [], ◌∷◌, filter, Option, Some, None}
use Rattle.std.specs.FinMap.{entries}
use Rattle.kv_layers.specs.declared.order.Order.{Order}
use Rattle.kv_layers.specs.declared.order.Order.TheVariants.{Ascending, Descending}
use Rattle.kv_layers.specs.Bytes.{Bytes}
use Rattle.kv_layers.specs.Next.{is_within}
use Rattle.kv_layers.specs.Sorted.{narrowed_lower, narrowed_upper}

pub record Scan : Type 0 where
  pub lo : Option (List ℕ)
  pub hi : Option (List ℕ)
  pub order : Order
  pub given : ℕ

abbrev pub Entry : Type 0
Entry = List ℕ × List ℕ

abbrev pub head_of : List Entry → Option Entry
head_of [] = None
head_of (e ∷ es) = Some e

abbrev pub last_of : List Entry → Option Entry
last_of [] = None
last_of (e ∷ []) = Some e
last_of (e ∷ f ∷ es) = last_of (f ∷ es)

-- the entry with the least key, or with the greatest one; keys rise in the list
abbrev pub first_of : Order → List Entry → Option Entry
first_of Ascending es = head_of es
first_of Descending es = last_of es

-- the entry of a storage that a scan gives next: that with the least or greatest key within its bounds
abbrev pub next_of : Bytes → Scan → Option Entry
next_of storage scan = first_of scan.order (filter (λ e. is_within scan.lo scan.hi e.0) (entries storage))

-- the bounds are past what was given
abbrev pub narrowed : Scan → Option Entry → Scan
narrowed scan None = scan
narrowed scan (Some e) = record scan { lo = narrowed_lower scan.order scan.lo e.0; hi = narrowed_upper scan.order scan.hi e.0 }
