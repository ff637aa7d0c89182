-- What results say, where each of their facts gives another.
use Rattle.std.proofs.Common.{◌≡◌, ◌≤◌, ℕ, Result, Ok, Err, OnOk, IfErr, IsErrAnd, sym, ◌∙◌, arith}
use Rattle.outside_io.specs.Cause.{Rose}

pub rose_later : (first mid last : ℕ) → first ≤ mid → Rose mid last → Rose first last
rose_later first mid last before rose = omega (arith, before, rose)

pub ok_so : {A E P Q : Type 0} (result : Result A E) → (P → Q) → OnOk result P → OnOk result Q
ok_so (Ok x) so p = so p
ok_so (Err e) so p = tt

pub err_so : {A E : Type 0} {P Q : E → Type 0} (result : Result A E) → ((e : E) → P e → Q e) → IfErr result P → IfErr result Q
err_so (Ok x) so p = tt
err_so (Err e) so p = so e p

-- the error that was handed on is the one that came
pub err_is : {A E : Type 0} (P : E → Type 0) (result : Result A E) (error : E) → IsErrAnd result (λ e. e ≡ error) → P error → IfErr result P
err_is P (Ok x) error is p = tt
err_is P (Err e) error is p = rw is p

-- so is its cause
pub err_caused : {A E P : Type 0} (result : Result A E) (error wanted : E) → IsErrAnd result (λ e. e ≡ error) → (error ≡ wanted → P) → result ≡ Err wanted → P
err_caused (Ok x) error wanted is cause same = absurd (grind (arith, same))
err_caused (Err e) error wanted is cause same =
    let here : e ≡ wanted = cc in
    cause (sym is ∙ here)
