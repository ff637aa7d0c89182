-- A module is read from its file, and from no other bytes.
use Rattle.std.proofs.Common.{◌≡◌, ℕ, ◌<◌, List, [], ◌∷◌, length, Some, None, refl, sym, ap, subst, ◌∙◌, arith, inl, inr, Bool, true, false}
use Rattle.std.specs.Cmp.Lexicographic.{same_text}
use Rattle.std.specs.Str.{bytes_eq}
use Rattle.std.proofs.lemmas.Bool.{cases_lt}
use Rattle.std.proofs.lemmas.List.{append-nil, get_or_past}
use Rattle.std.proofs.lemmas.List.Elements.{All-get_or}
use Rattle.std.proofs.lemmas.Slice.Eq.{bytes_eq-Decides}
use Rattle.wasm_types.specs.declared.limits.Limits.{Limits}
use Rattle.wasm_types.specs.Plain.{PlainFuncType, PlainImport, PlainModule}
use Rattle.wasm_types.specs.ModuleText.{IsModule}
use Rattle.wasm_types.specs.ModuleText as modules
use Rattle.wasm_types.specs.Laws.{IsTheSpelled}
use Rattle.wasm_types.specs.Bounds.{IsBounded, SpelledAreBounded}
use Rattle.module_file.specs.Form.{Reading}
use Rattle.module_file.specs.ModuleFile.{later_lists, lists, magic, file, file_text, ended, all_of, module_in, IsFileOf, IsLoaded}
use Rattle.module_file.specs.Laws.{ReadsWritten, ReadsOnlyWritten, TellsModules}
use Rattle.module_file.proofs.Steps.{AreBytes, made, some_is}
use Rattle.module_file.proofs.FormLaws.{Lawful, LawfulRest, Any, then_field, lawful_done, lawful_whole, lawful_behind, lawful_index, lawful_list}
use Rattle.module_file.proofs.PartLaws.{lawful_func_type, lawful_limits, lawful_import, lawful_export, lawful_global, lawful_elem, lawful_seg}
use Rattle.module_file.proofs.CodeLaws.{lawful_code}

lawful_later : (types : List PlainFuncType) (imports : List PlainImport) (funcs : List ℕ) (tables memories : List Limits)
    → LawfulRest IsBounded (λ m. ((((Any m × (m.types ≡ types)) × (m.imports ≡ imports)) × (m.funcs ≡ funcs)) × (m.tables ≡ tables)) × (m.memories ≡ memories)) (later_lists types imports funcs tables memories)
unfolding later_lists
lawful_later types imports funcs tables memories =
    then_field {get = λ (m : PlainModule). m.globals} (lawful_list lawful_global) (λ w h. h.globals) (λ globals.
    then_field {get = λ (m : PlainModule). m.exports} (lawful_list lawful_export) (λ w h. h.exports) (λ exports.
    then_field {get = λ (m : PlainModule). m.elems} (lawful_list lawful_elem) (λ w h. h.elems) (λ elems.
    then_field {get = λ (m : PlainModule). m.codes} (lawful_list lawful_code) (λ w h. h.codes) (λ codes.
    then_field {get = λ (m : PlainModule). m.segs} (lawful_list lawful_seg) (λ w h. h.segs) (λ segs.
    lawful_done _ ((((((((((tt, refl), refl), refl), refl), refl), refl), refl), refl), refl), refl))))))

lists_rest : LawfulRest IsBounded Any lists
unfolding lists
lists_rest =
    then_field {get = λ (m : PlainModule). m.types} (lawful_list lawful_func_type) (λ w h. h.types) (λ types.
    then_field {get = λ (m : PlainModule). m.imports} (lawful_list lawful_import) (λ w h. h.imports) (λ imports.
    then_field {get = λ (m : PlainModule). m.funcs} (lawful_list lawful_index) (λ w h. h.funcs) (λ funcs.
    then_field {get = λ (m : PlainModule). m.tables} (lawful_list lawful_limits) (λ w h. h.tables) (λ tables.
    then_field {get = λ (m : PlainModule). m.memories} (lawful_list lawful_limits) (λ w h. h.memories) (λ memories.
    lawful_later types imports funcs tables memories)))))

lawful_lists : Lawful IsBounded lists
unfolding lists later_lists
lawful_lists = lawful_whole {Is = IsBounded} (λ w. refl) lists_rest

lawful_file : Lawful IsBounded file
unfolding file
lawful_file = lawful_behind magic lawful_lists

-- ---- whole files

all_is : {A : Type 0} (r : Reading A) (a : A) → all_of r ≡ Some a → r ≡ Some (a, [])
all_is {A} (Some x) a e = go x.0 x.1 e
  where
    go : (b : A) (rest : List ℕ) → ended b rest ≡ Some a → made {A = A × List ℕ} (b, rest) ≡ Some (a, [])
    go b [] e = ap (λ c. Some (c, [])) (some_is b a e)
    go b (c ∷ rest) e = absurd cc
all_is None a e = absurd cc

pub reads_bounded : (m : PlainModule) → IsBounded m → module_in (file_text m) ≡ Some m
unfolding module_in
reads_bounded m h = ap (λ (t : List ℕ). all_of (file.read t)) (sym (append-nil (file.text m))) ∙ rw (lawful_file.again m [] h) refl

pub reads_only : (bytes : List ℕ) (m : PlainModule) → AreBytes bytes → module_in bytes ≡ Some m → bytes ≡ file_text m
unfolding module_in
reads_only bytes m are e =
    let t = lawful_file.takes bytes [] m are (all_is (file.read bytes) m e) in
    t.parts ∙ append-nil (file.text m)

each_byte : (bytes : List ℕ) → modules.AreBytes bytes → AreBytes bytes
each_byte bytes h i =
    elim (cases_lt i (length bytes)) [
      | inl lt ↦ All-get_or (λ b. b < 256) bytes i 0 lt h
      | inr le ↦ rw (get_or_past bytes i 0 le) (omega arith)
    ]

pub reads_written : SpelledAreBounded → ReadsWritten
reads_written bounded m spelled = reads_bounded m (bounded m spelled)

pub reads_only_written : ReadsOnlyWritten
reads_only_written bytes m are e = reads_only bytes m (each_byte bytes are) e

pub tells_modules : SpelledAreBounded → TellsModules
tells_modules bounded one other spelled spelled_too same =
    some_is one other (sym (reads_written bounded one spelled) ∙ ap module_in same ∙ reads_written bounded other spelled_too)

-- ---- files of codes

module _ (bounded : SpelledAreBounded) (the : IsTheSpelled) (bytes code : List ℕ) (are_code : modules.AreBytes code) where
  -- the file of the code's module is read as that module
  file_is_read : (m : PlainModule) → IsFileOf bytes code m → module_in bytes ≡ Some m
  file_is_read m h = ap module_in h.same ∙ reads_written bounded m (code, (the code m are_code).0 h.spelled)

  pub none_unread : module_in bytes ≡ None → IsLoaded bytes code None
  none_unread e m h = let some = file_is_read m h in absurd cc

  -- what was read is no module of the code
  pub none_unspelled : (found : PlainModule) → module_in bytes ≡ Some found → (IsModule code found → ⊥) → IsLoaded bytes code None
  none_unspelled found e other m h =
      let same = some_is m found (sym (file_is_read m h) ∙ e) in
      other (subst (λ (n : PlainModule). IsModule code n) same ((the code m are_code).0 h.spelled))

  pub some_loaded : (found : PlainModule) → AreBytes bytes → module_in bytes ≡ Some found → IsModule code found → IsLoaded bytes code (Some found)
  some_loaded found are e spelled = record { spelled = (the code found are_code).1 spelled; same = reads_only bytes found are e }

-- ---- files of codes that are decoded

module _ (the : IsTheSpelled) (bytes code : List ℕ) (are_code : modules.AreBytes code) where
  pub none_decoded : ((m : PlainModule) → IsModule code m → ⊥) → IsLoaded bytes code None
  none_decoded none m h = none m ((the code m are_code).0 h.spelled)

  pub same_decoded : (found : PlainModule) (same : Bool) → IsModule code found → same ≡ bytes_eq (file_text found) bytes → same ≡ true → IsLoaded bytes code (Some found)
  same_decoded found same spelled is holds = record { spelled = (the code found are_code).1 spelled; same = sym (same_text (file_text found) bytes (sym holds ∙ is)) }

  pub other_decoded : (found : PlainModule) (same : Bool) → IsModule code found → same ≡ bytes_eq (file_text found) bytes → same ≡ false → IsLoaded bytes code None
  other_decoded found same spelled is fails m h =
      let one = some_is found m (sym ((the code found are_code).1 spelled) ∙ h.spelled) in
      let equal : bytes_eq (file_text found) bytes ≡ true = (bytes_eq-Decides (file_text found) bytes).1 (ap file_text one ∙ sym h.same) in
      absurd cc
