-- Not for readers of contracts: it serves the proofs of this crate alone.
-- An answer to the line of `check`.
use Rattle.std.specs.Prelude.{◌≡◌, ℕ, Bool, true, false, List, Option, IfSome}
use Rattle.wasmnode.specs.declared.checking.Answer.{Answer}
use Rattle.wasmnode.specs.Checking.{first_line, Checked, judged, unread, checked, check_answer}

abbrev pub is_judged : Checked → Bool
is_judged (judged refusal) = true
is_judged (unread kind) = false

abbrev pub IsAnswer : Answer → Checked → Type 0
IsAnswer answer c = (answer.text.items ≡ check_answer c) × (answer.judged ≡ is_judged c)

abbrev pub AnswersFirst : Answer → List (List ℕ) → Option (List ℕ) → Type 0
AnswersFirst answer caps left = IfSome left (λ input. IsAnswer answer (checked caps (first_line input)))
