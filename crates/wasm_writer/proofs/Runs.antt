-- The runs of neighbours of one type, from the front.
use Rattle.std.proofs.Common.{◌≡◌, ℕ, suc, ◌+◌, ◌-◌, ◌<◌, true, List, [], ◌∷◌, ◌++◌, length, take, drop, get_or, refl, sym, ap, ◌∙◌, append_assoc, arith, add-one}
use Rattle.std.proofs.lemmas.List.{take_rest}
use Rattle.wasm_types.specs.declared.value.ValType.{ValType}
use Rattle.wasm_types.specs.declared.value.ValType.TheVariants as val_types
use Rattle.wasm_writer.specs.declared.locals.Run.{Run}
use Rattle.wasm_writer.specs.Spelling.{same_type, with_first, runs, front_len}

abbrev run : ℕ → ValType → Run
run n t = record { count = n; ty = t }

before_i32 : (l : List Run) (n : ℕ) (rest : List Run) → l ≡ run n val_types.I64 ∷ rest → with_first val_types.I32 l ≡ run 1 val_types.I32 ∷ l
before_i32 l n rest e = ap (with_first val_types.I32) e ∙ sym (ap (λ (m : List Run). run 1 val_types.I32 ∷ m) e)

before_i64 : (l : List Run) (n : ℕ) (rest : List Run) → l ≡ run n val_types.I32 ∷ rest → with_first val_types.I64 l ≡ run 1 val_types.I64 ∷ l
before_i64 l n rest e = ap (with_first val_types.I64) e ∙ sym (ap (λ (m : List Run). run 1 val_types.I64 ∷ m) e)

pub first_run : (t : ValType) (types : List ValType) → runs (t ∷ types) ≡ run (front_len t types + 1) t ∷ runs (drop (front_len t types) types)
first_run t [] = refl
first_run val_types.I32 (val_types.I32 ∷ types) =
    rw (first_run val_types.I32 types, add-one (front_len val_types.I32 types)) (rw (add-one (suc (front_len val_types.I32 types))) refl)
first_run val_types.I64 (val_types.I64 ∷ types) =
    rw (first_run val_types.I64 types, add-one (front_len val_types.I64 types)) (rw (add-one (suc (front_len val_types.I64 types))) refl)
first_run val_types.I32 (val_types.I64 ∷ types) = before_i32 (runs (val_types.I64 ∷ types)) _ _ (first_run val_types.I64 types)
first_run val_types.I64 (val_types.I32 ∷ types) = before_i64 (runs (val_types.I32 ∷ types)) _ _ (first_run val_types.I32 types)

pub same_is : (t : ValType) → same_type t t ≡ true
same_is val_types.I32 = refl
same_is val_types.I64 = refl

-- the run at the front of some types
pub front_run : (t d : ValType) (rest : List ValType) → 0 < length rest → t ≡ get_or rest 0 d → runs rest ≡ run (front_len t rest) t ∷ runs (drop (front_len t rest) rest)
front_run t d [] some e = absurd (omega arith)
front_run t d (u ∷ types) some e =
    rw (sym e) (rw (same_is t) (rw (first_run t types, add-one (front_len t types)) refl))

-- a run more, in front of those of the types behind it
pub run_more : (all more : List Run) (rest : List ValType) (t d : ValType) (n : ℕ) (whole : List Run) → 0 < length rest → t ≡ get_or rest 0 d → n ≡ front_len t rest → more ≡ all ++ run n t ∷ [] → all ++ runs rest ≡ whole → more ++ runs (take (length rest - n) (drop n rest)) ≡ whole
run_more all more rest t d n whole some head e added h =
    rw (take_rest rest n, added, append_assoc all (run n t ∷ []) (runs (drop n rest)), e) (rw (sym (front_run t d rest some head)) h)
