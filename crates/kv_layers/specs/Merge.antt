-- The first of two entries in the order of a scan.
use Rattle.std.specs.Prelude.{ℕ, List, Option, Some, None, if◌then◌else◌}
use denote.Ref.{Bor}
use Rattle.std.specs.Global.{Vec}
use Rattle.kv_layers.specs.declared.order.Order.{Order}
use Rattle.kv_layers.specs.Next.{comes_before}
use Rattle.kv_layers.specs.Plain.{value_view}

-- of two with one key the upper one
abbrev pub chosen : {X : Type 0} → Order → Option (List ℕ × X) → Option (List ℕ × X) → Option (List ℕ × X)
chosen order None lower = lower
chosen order (Some upper) None = Some upper
chosen order (Some upper) (Some lower) = if comes_before order lower.0 upper.0 then Some lower else Some upper

-- the change that two references show
abbrev pub shown_change : Bor (Vec ℕ) × Bor (Option (Vec ℕ)) → List ℕ × Option (List ℕ)
shown_change change = (change.0.now.items, value_view change.1.now)

-- an entry as a change
abbrev pub as_change : List ℕ × List ℕ → List ℕ × Option (List ℕ)
as_change entry = (entry.0, Some entry.1)
