-- The shortest spelling of locals: one group for each run of one type.
use Rattle.std.proofs.Common.{◌≡◌, ℕ, zero, suc, ◌+◌, ◌/◌, ◌%◌, ◌^◌, ◌≤◌, ◌<◌, true, false, List, [], ◌∷◌, ◌++◌, length, replicate, refl, sym, ap, subst, ◌∙◌, arith, inl, inr, add-one}
use Rattle.std.specs.Prelude.{◌⊎◌}
use Rattle.std.specs.List.{flat_map}
use Rattle.std.proofs.lemmas.Bool.{leb-true, le-leb, lt-ltb, cases_Bool}
use Rattle.std.proofs.lemmas.List.{append-nil, length-append, length-replicate}
use Rattle.wasm_types.specs.declared.value.ValType.{ValType}
use Rattle.wasm_types.specs.declared.value.ValType.TheVariants as val_types
use Rattle.wasm_types.specs.Number.{IsNumber}
use Rattle.wasm_types.specs.Types.{val_type}
use Rattle.wasm_types.specs.Body.{max_locals, group, AreGroups, locals}
use Rattle.wasm_writer.specs.declared.locals.Run.{Run}
use Rattle.wasm_writer.specs.ShortNumber.{unsigned}
use Rattle.wasm_writer.specs.Spelling.{vector_text, val_type_text, same_type, with_first, runs, run_text, locals_text}
use Rattle.wasm_writer.proofs.Least.{Bytes, front_bytes, back_bytes, both_bytes, Shorter, Least}
use Rattle.wasm_writer.proofs.LeastNumbers.{unsigned_short}

abbrev run : ℕ → ValType → Run
run n t = record { count = n; ty = t }

-- ---- the locals of some runs

abbrev expand : List Run → List ValType
expand rs = flat_map (λ r. replicate r.count r.ty) rs

same_types : (t u : ValType) → same_type t u ≡ true → u ≡ t
same_types val_types.I32 val_types.I32 e = refl
same_types val_types.I64 val_types.I64 e = refl
same_types val_types.I32 val_types.I64 e = absurd cc
same_types val_types.I64 val_types.I32 e = absurd cc

same_is : (t : ValType) → same_type t t ≡ true
same_is val_types.I32 = refl
same_is val_types.I64 = refl

expand_first : (t : ValType) (rs : List Run) → expand (with_first t rs) ≡ t ∷ expand rs
expand_first t [] = refl
expand_first t (r ∷ rest) =
    elim (cases_Bool (same_type t r.ty)) [
      | inl e ↦ rw e (rw (add-one r.count, same_types t r.ty e) refl)
      | inr e ↦ rw e refl
    ]

expand_runs : (types : List ValType) → expand (runs types) ≡ types
expand_runs [] = refl
expand_runs (t ∷ types) = expand_first t (runs types) ∙ ap (λ (l : List ValType). t ∷ l) (expand_runs types)

-- so many of a type in front make a run of their own, or the first run longer
abbrev Merges : ℕ → ValType → List Run → List Run → Type 0
Merges n t rs all =
    (all ≡ run n t ∷ rs) ⊎ ((r : Run) × (rest : List Run) × (rs ≡ r ∷ rest) × (all ≡ run (r.count + n) t ∷ rest))

merges_one : (t : ValType) (rs : List Run) → Merges 1 t rs (with_first t rs)
merges_one t [] = inl refl
merges_one t (r ∷ rest) =
    elim (cases_Bool (same_type t r.ty)) [ inl e ↦ inr (r, rest, refl, rw e refl) | inr e ↦ inl (rw e refl) ]

again : (t : ValType) (n : ℕ) (rest : List Run) → with_first t (run n t ∷ rest) ≡ run (n + 1) t ∷ rest
again t n rest = rw (same_is t) refl

merges : (n : ℕ) (t : ValType) (others : List ValType) → Merges (suc n) t (runs others) (runs (replicate (suc n) t ++ others))
merges zero t others = merges_one t (runs others)
merges (suc n) t others =
    let more : (m k : ℕ) (rest : List Run) → m + 1 ≡ k → runs (replicate (suc n) t ++ others) ≡ run m t ∷ rest → runs (replicate (suc (suc n)) t ++ others) ≡ run k t ∷ rest
    = λ m k rest f e. ap (λ (l : List Run). with_first t l) e ∙ again t m rest ∙ ap (λ (j : ℕ). run j t ∷ rest) f in
    elim (merges n t others) [
      | inl e ↦ inl (more (suc n) (suc (suc n)) (runs others) (omega arith) e)
      | inr m ↦ inr (m.0, m.1, m.2, more (m.0.count + suc n) (m.0.count + suc (suc n)) m.1 (omega arith) m.3)
    ]

-- ---- groups

record IsGroup (before : ℕ) (text : List ℕ) (own : List ValType) : Type 0 where
  number : List ℕ
  n : ℕ
  ty : ValType
  spelled : IsNumber false 32 number n
  types : own ≡ replicate n ty
  fits : before + n ≤ max_locals
  len : length text ≡ length number + 1
  back : List ℕ
  cut : text ≡ number ++ back

group_is : (before : ℕ) (text : List ℕ) (own : List ValType) → (group before).Spells text own → IsGroup before text own
unfolding group val_type
group_is before text own s =
    let v = s.second.first in
    record {
      number = s.front;
      n = s.value;
      ty = s.second.value;
      spelled = s.first.0;
      types = s.second.second.1;
      fits = leb-true (before + s.value) max_locals s.first.1;
      len = omega (arith, ap length s.cut, length-append s.front s.back, ap length s.second.cut, length-append s.second.front s.second.back, ap length v.1, ap length s.second.second.0);
      back = s.back;
      cut = s.cut;
    }

val_type_spelled : (t : ValType) → val_type.Spells (val_type_text t) t
unfolding val_type
val_type_spelled val_types.I32 = (0x7F, refl, refl)
val_type_spelled val_types.I64 = (0x7E, refl, refl)

val_type_bytes : (t : ValType) → Bytes (val_type_text t)
val_type_bytes val_types.I32 = (omega arith, tt)
val_type_bytes val_types.I64 = (omega arith, tt)

-- a number of locals has at most two bytes
small : (n : ℕ) → n ≤ max_locals → Shorter (λ t. IsNumber false 32 t n) ((n % 128 + 128) ∷ n / 128 ∷ []) (unsigned n)
small n le =
    let low : n / 128 < 128 = omega arith in
    let fits : n / 128 < 2 ^ 25 = omega arith in
    unsigned_short 5 32 ((n % 128 + 128) ∷ n / 128 ∷ []) n n (omega arith, (omega arith, tt)) (omega arith, omega arith, n / 128, omega arith, (low, rw (lt-ltb _ _ fits) refl)) (omega arith) (omega arith) (omega arith)

groups_fit : (groups before : ℕ) (text : List ℕ) (types : List ValType) → AreGroups groups before text types → before ≤ max_locals → before + length types ≤ max_locals
groups_fit zero before text types s le = omega (arith, ap length s.1)
groups_fit (suc groups) before text types s le =
    let g = group_is before s.front s.value s.first in
    let n-is : length s.value ≡ g.n = ap length g.types ∙ length-replicate g.n g.ty in
    let ih = groups_fit groups (before + length s.value) s.second.front s.second.value s.second.first (omega (arith, n-is, g.fits)) in
    omega (arith, ih, ap length s.second.second.1, length-append s.value s.second.value)

-- ---- the runs are groups

runs_are_groups : (before : ℕ) (rs : List Run) → before + length (expand rs) ≤ max_locals → AreGroups (length rs) before (flat_map run_text rs) (expand rs)
unfolding group
runs_are_groups before [] le = (refl, refl)
runs_are_groups before (r ∷ rest) le =
    let all = length-append (replicate r.count r.ty) (expand rest) in
    let len = length-replicate r.count r.ty in
    let fits : before + r.count ≤ max_locals = omega (arith, le, all, len) in
    let ih = runs_are_groups (before + length (replicate r.count r.ty)) rest (omega (arith, le, all)) in
    record {
      front = run_text r;
      back = flat_map run_text rest;
      value = replicate r.count r.ty;
      cut = refl;
      first = record {
        front = unsigned r.count;
        back = val_type_text r.ty;
        value = r.count;
        cut = refl;
        first = ((small r.count (omega arith)).spelled, le-leb _ _ fits);
        second = record { front = val_type_text r.ty; back = []; value = r.ty; cut = refl; first = val_type_spelled r.ty; second = (refl, refl) };
      };
      second = record { front = flat_map run_text rest; back = []; value = expand rest; cut = sym (append-nil (flat_map run_text rest)); first = ih; second = (refl, refl) };
    }

runs_bytes : (rs : List Run) → length (expand rs) ≤ max_locals → Bytes (flat_map run_text rs)
runs_bytes [] le = tt
runs_bytes (r ∷ rest) le =
    let all = length-append (replicate r.count r.ty) (expand rest) in
    let len = length-replicate r.count r.ty in
    both_bytes (run_text r) (flat_map run_text rest) (both_bytes (unsigned r.count) (val_type_text r.ty) (small r.count (omega arith)).bytes (val_type_bytes r.ty)) (runs_bytes rest (omega (arith, all)))

-- ---- no other groups are shorter

abbrev AreShort : ℕ → List ℕ → List ValType → Type 0
AreShort groups text types = (length (runs types) ≤ groups) × (length (flat_map run_text (runs types)) ≤ length text)

run_len : (n : ℕ) (t : ValType) (rest : List Run) → length (flat_map run_text (run n t ∷ rest)) ≡ length (unsigned n) + 1 + length (flat_map run_text rest)
run_len n t rest = omega (arith, length-append (run_text (run n t)) (flat_map run_text rest), length-append (unsigned n) (val_type_text t))

count_fits : (r : Run) (rest : List Run) (others : List ValType) → runs others ≡ r ∷ rest → r.count ≤ length others
count_fits r rest others e =
    omega (arith, ap length (sym (expand_runs others) ∙ ap expand e), length-append (replicate r.count r.ty) (expand rest), length-replicate r.count r.ty)

number_some : (text : List ℕ) (n : ℕ) → IsNumber false 32 text n → 0 < length text
number_some [] n h = absurd h
number_some (b ∷ text) n h = omega arith

merged_short : (groups n : ℕ) (t : ValType) (number text : List ℕ) (others : List ValType) → Bytes number → IsNumber false 32 number (suc n) → suc n + length others ≤ max_locals → AreShort groups text others → (length (runs (replicate (suc n) t ++ others)) ≤ suc groups) × (length (flat_map run_text (runs (replicate (suc n) t ++ others))) ≤ length number + 1 + length text)
merged_short groups n t number text others bytes spelled fits short =
    elim (merges n t others) [
      | inl e ↦
          let own = unsigned_short 5 32 number (suc n) (suc n) bytes spelled (omega arith) (omega arith) (omega arith) in
          (omega (arith, ap length e, short.0), omega (arith, ap (λ (l : List Run). length (flat_map run_text l)) e, run_len (suc n) t (runs others), own.short, short.1))
      | inr m ↦
          let two = small (m.0.count + suc n) (omega (arith, count_fits m.0 m.1 others m.2, fits)) in (
            omega (arith, ap length m.2, ap length m.3, short.0),
            omega (arith, ap (λ (l : List Run). length (flat_map run_text l)) m.3, run_len (m.0.count + suc n) t m.1, two.short, ap (λ (l : List Run). length (flat_map run_text l)) m.2, run_len m.0.count m.0.ty m.1, number_some number (suc n) spelled, short.1),
          )
    ]

group_short : (groups n : ℕ) (t : ValType) (number text : List ℕ) (others : List ValType) → Bytes number → IsNumber false 32 number n → n + length others ≤ max_locals → AreShort groups text others → (length (runs (replicate n t ++ others)) ≤ suc groups) × (length (flat_map run_text (runs (replicate n t ++ others))) ≤ length number + 1 + length text)
group_short groups zero t number text others bytes spelled fits short = (omega (arith, short.0), omega (arith, short.1))
group_short groups (suc n) t number text others bytes spelled fits short = merged_short groups n t number text others bytes spelled fits short

runs_are_short : (groups before : ℕ) (text : List ℕ) (types : List ValType) → Bytes text → AreGroups groups before text types → before ≤ max_locals → AreShort groups text types
runs_are_short zero before text types bytes s le =
    subst (λ (l : List ValType). AreShort zero text l) (sym s.1) (omega arith, omega arith)
runs_are_short (suc groups) before text types bytes s le =
    let g = group_is before s.front s.value s.first in
    let n-is : length s.value ≡ g.n = ap length g.types ∙ length-replicate g.n g.ty in
    let r = s.second in
    let back-is : s.back ≡ r.front = r.cut ∙ ap (λ (x : List ℕ). r.front ++ x) r.second.0 ∙ append-nil r.front in
    let all = subst (λ (x : List ℕ). Bytes x) s.cut bytes in
    let number-bytes = front_bytes g.number g.back (subst (λ (x : List ℕ). Bytes x) g.cut (front_bytes s.front s.back all)) in
    let rest-bytes = subst (λ (x : List ℕ). Bytes x) back-is (back_bytes s.front s.back all) in
    let fits = groups_fit groups (before + length s.value) r.front r.value r.first (omega (arith, n-is, g.fits)) in
    let ih = runs_are_short groups (before + length s.value) r.front r.value rest-bytes r.first (omega (arith, n-is, g.fits)) in
    let made = group_short groups g.n g.ty g.number r.front r.value number-bytes g.spelled (omega (arith, n-is, fits)) ih in
    let types-is : types ≡ replicate g.n g.ty ++ r.value = r.second.1 ∙ ap (λ (l : List ValType). l ++ r.value) g.types in
    subst (λ (l : List ValType). AreShort (suc groups) text l) (sym types-is)
    (made.0, omega (arith, made.1, g.len, ap length s.cut, length-append s.front s.back, ap length back-is))

pub least_locals : Least locals locals_text
unfolding locals vector_text
least_locals = record { holds = holds }
  where
    holds : (types : List ValType) (other : List ℕ) → Bytes other → locals.Spells other types → Shorter (λ u. locals.Spells u types) other (locals_text types)
    holds types other bytes s =
        let all = subst (λ (x : List ℕ). Bytes x) s.cut bytes in
        let fits = groups_fit s.value 0 s.back types s.second (omega arith) in
        let e = expand_runs types in
        let short = runs_are_short s.value 0 s.back types (back_bytes s.front s.back all) s.second (omega arith) in
        let one = unsigned_short 5 32 s.front (length (runs types)) s.value (front_bytes s.front s.back all) s.first short.0 (omega arith) (omega arith) in
        let groups = subst (λ (l : List ValType). AreGroups (length (runs types)) 0 (flat_map run_text (runs types)) l) e (runs_are_groups 0 (runs types) (omega (arith, fits, ap length e))) in
        record {
          bytes = both_bytes (unsigned (length (runs types))) (flat_map run_text (runs types)) one.bytes (runs_bytes (runs types) (omega (arith, fits, ap length e)));
          spelled = record { front = unsigned (length (runs types)); back = flat_map run_text (runs types); value = length (runs types); cut = refl; first = one.spelled; second = groups };
          short = omega (arith, one.short, short.1, ap length s.cut, length-append s.front s.back, length-append (unsigned (length (runs types))) (flat_map run_text (runs types)));
        }
