-- A fact for each thing that a look for the next line may give.
use Rattle.std.specs.Prelude.{Option, None, Some, Result, Ok, Err, ⊤}

-- of the line, where there is one
abbrev pub IfLine : {T E : Type 0} → Result (Option T) E → (T → Type 0) → Type 0
IfLine (Ok None) P = ⊤
IfLine (Ok (Some line)) P = P line
IfLine (Err stop) P = ⊤

-- where there is none
abbrev pub IfNoLine : {T E : Type 0} → Result (Option T) E → Type 0 → Type 0
IfNoLine (Ok None) P = P
IfNoLine (Ok (Some line)) P = ⊤
IfNoLine (Err stop) P = ⊤
