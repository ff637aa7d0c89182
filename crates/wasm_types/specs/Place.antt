-- A place in the input, and where reading it breaks.
use Rattle.std.specs.Prelude.{ℕ, List, Result, Ok, Err}
use Rattle.wasm_types.specs.declared.kind.ReadKind.{ReadKind}

-- how many bytes of the input stand before, and the bytes from here to the end of the innermost body, section or input
pub record Place : Type 0 where
  pub at : ℕ
  pub rest : List ℕ

-- the place up to which parts are spelled and at which the next isn't, and why
pub record Broken : Type 0 where
  pub at : ℕ
  pub kind : ReadKind

-- what reading a part from a place gives: its value and the place after it, or where it breaks
abbrev pub Reading : Type 0 → Type 0
Reading A = Result (A × Place) Broken

abbrev pub then_read : {A B : Type 0} → Reading A → (A → Place → Reading B) → Reading B
then_read (Ok x) f = f x.0 x.1
then_read (Err e) f = Err e

abbrev pub breaks : {A : Type 0} → ℕ → ReadKind → Reading A
breaks at kind = Err (record { at = at; kind = kind })
