-- An accepted code taken apart, rule by rule.
use Rattle.std.proofs.Common.{◌≡◌, ℕ, ◌+◌, ◌<◌, ◌≤◌, Bool, true, false, not, ◌&&◌, ◌||◌, List, [], ◌∷◌, ◌++◌, length, Option, Some, None, Result, Ok, Err, refl, sym, ap, ◌∙◌, arith}
use Rattle.std.specs.Prelude.{All, Any, IsSome, is_some, is_none, ◌==◌, option_map, slice_get, ◌*◌}
use Rattle.std.specs.List.{list_any}
use Rattle.std.specs.Str.{bytes_eq}
use Rattle.std.specs.Cmp.Lexicographic.{pointwise}
use Rattle.std.proofs.lemmas.Bool.{leb-true, ltb-true, eqb-true}
use Rattle.std.proofs.lemmas.List.{length-append}
use Rattle.std.proofs.lemmas.List.Elements.{All-nil, All-cons}
use Rattle.std.proofs.lemmas.List.Folds.{Any-from_list_any}
use Rattle.std.proofs.lemmas.Slice.Eq.{bytes_eq-Decides}
use Rattle.wasm_types.specs.declared.value.ValType.{ValType}
use Rattle.wasm_types.specs.declared.value.ValType.TheVariants.{I32, I64}
use Rattle.wasm_types.specs.declared.kind.ValidKind.{ValidKind}
use Rattle.wasm_types.specs.declared.kind.ValidKind.TheVariants as kinds
use Rattle.wasm_types.specs.declared.limits.Limits.{Limits}
use Rattle.wasm_types.specs.declared.import.Desc.{Desc}
use Rattle.wasm_types.specs.declared.import.Desc.TheVariants as descs
use Rattle.wasm_types.specs.Plain.{PlainFuncType, PlainImport, PlainExport, PlainModule, PlainRefusal, invalid, table_no_max}
use Rattle.wasm_types.specs.Place.{Reading}
use Rattle.wasm_types.specs.ModuleText.{module_in, module_of, broken, broken_in, reading_of}
use Rattle.wasm_types.specs.Typing.{◌>>=◌, or_else, needs, same_type, same_result}
use Rattle.wasm_valid.specs.Sections.{imports_fault, funcs_fault, tables_fault, memories_fault, contents_fault}
use Rattle.wasm_types.specs.Validity.{Fault, most_elements, most_pages, fault_at, first_fault, first_in, only_one, limits_kept, valid_fault, imported, table_in, memory_in}
use Rattle.wasm_types.specs.Laws.{IsTheSpelled}
use Rattle.wasm_types.specs.Interface.{entry_points, wanted_exports, type_named}
use Rattle.wasm_types.specs.Gate.{unless, first_some, first_refused, of_first, gzip_rule, size_rule, is_func, are_same, same_func_type, max_refused, wanted_type, desc_type, offset_of, least_size, page, most_imports, most_initial_pages, most_bytes, most_table_elements, module_rules, reading_rules, required, capability_refused, entry_refused, is_other_interface, ext_type, is_exported, gate}
use Rattle.gatekeeper.specs.Accepted.{required_in}
use Rattle.gatekeeper.specs.Contract.{IsFunction, IsExported, IsEntry, IsCapable, HasMax, IsHostFunction, ElementsFit, DataFits, IsContract, TakenIsContract, AcceptedIsContract, DecodedIsSpelled}

abbrev Refusal : Type 0
Refusal = Option PlainRefusal

-- ---- rules of which none refuses

neither : {A : Type 0} (a r : Option A) → or_else a r ≡ None → (a ≡ None) × (r ≡ None)
neither (Some x) r e = absurd cc
neither None r e = (refl, e)

kept : (b : Bool) (r : PlainRefusal) → unless b r ≡ None → b ≡ true
kept true r e = refl
kept false r e = absurd cc

module _ {A : Type 0} (P : A → Type 0) where
  all_kept : (judge : ℕ → A → Refusal) → ((at : ℕ) (x : A) → judge at x ≡ None → P x) → (at : ℕ) (xs : List A) → first_refused judge at xs ≡ None → All P xs
  unfolding first_refused
  all_kept judge keeps at [] e = All-nil P
  all_kept judge keeps at (x ∷ xs) e =
      let both = neither (judge at x) (first_refused judge (at + 1) xs) e in
      All-cons P x xs (keeps at x both.0) (all_kept judge keeps (at + 1) xs both.1)

  first_kept : (judge : A → Refusal) → ((x : A) → judge x ≡ None → P x) → (xs : List A) → length xs ≤ 1 → of_first judge xs ≡ None → All P xs
  first_kept judge keeps [] one e = All-nil P
  first_kept judge keeps (x ∷ []) one e = All-cons P x [] (keeps x e) (All-nil P)
  first_kept judge keeps (x ∷ y ∷ xs) one e = absurd (omega arith)

-- each rule of a list
abbrev EachNone : List Refusal → Type 0
EachNone [] = Unit {0}
EachNone (r ∷ rules) = (r ≡ None) × EachNone rules

each_none : (rules : List Refusal) → first_some rules ≡ None → EachNone rules
each_none [] e = tt
each_none (r ∷ rules) e =
    let both = neither r (first_some rules) e in
    (both.0, each_none rules both.1)

only : {A : Type 0} (xs : List A) → 0 < length xs → length xs ≤ 1 → (x : A) × (xs ≡ x ∷ [])
only [] some one = absurd (omega arith)
only (x ∷ []) some one = (x, refl)
only (x ∷ y ∷ xs) some one = absurd (omega arith)

-- ---- at most one table and one memory

needed : (kind : ValidKind) (b : Bool) (r : Result (Unit {0}) ValidKind) (at : ℕ) → fault_at at (needs kind b >>= (λ done. r)) ≡ None → b ≡ true
needed kind true r at e = refl
needed kind false r at e = absurd cc

few : (kind : ValidKind) (most : ℕ) (before xs : List Limits) → first_in (λ earlier size. only_one kind most (before ++ earlier) size) xs ≡ None → length xs ≤ 1
unfolding first_fault
few kind most before [] e = omega arith
few kind most before (x ∷ []) e = omega arith
few kind most before (x ∷ y ∷ xs) e =
    let judge : List Limits → Limits → Result (Unit {0}) ValidKind = λ earlier size. only_one kind most (before ++ earlier) size in
    let rest = first_fault judge (x ∷ y ∷ []) xs in
    let later = neither (fault_at 0 (judge [] x)) (or_else (fault_at 1 (judge (x ∷ []) y)) rest) e in
    let here = neither (fault_at 1 (judge (x ∷ []) y)) rest later.1 in
    let none : length (before ++ x ∷ []) ≡ 0 = eqb-true (length (before ++ x ∷ [])) 0 (needed kind (length (before ++ x ∷ []) == 0) (needs kinds.Limits (limits_kept most y)) 1 here.0) in
    absurd (omega (arith, none, length-append before (x ∷ [])))

no_fault : (o : Option Fault) → option_map (λ (f : Fault). invalid f.kind) o ≡ None → o ≡ None
no_fault None e = refl
no_fault (Some f) e = absurd cc

at_most_one : (m : PlainModule) → valid_fault m ≡ None → (length m.tables ≤ 1) × (length m.memories ≤ 1)
unfolding valid_fault
at_most_one m e =
    let after_funcs = or_else (tables_fault m) (or_else (memories_fault m) (contents_fault m)) in
    let a = neither (imports_fault m) (or_else (funcs_fault m) after_funcs) e in
    let b = neither (funcs_fault m) after_funcs a.1 in
    let c = neither (tables_fault m) (or_else (memories_fault m) (contents_fault m)) b.1 in
    let d = neither (memories_fault m) (contents_fault m) c.1 in
    (few kinds.ManyTables most_elements (imported table_in m.imports) m.tables c.0, few kinds.ManyMemories most_pages (imported memory_in m.imports) m.memories d.0)

-- ---- types

and_both : (a b : Bool) → (a && b) ≡ true → (a ≡ true) × (b ≡ true)
and_both true b e = (refl, e)
and_both false b e = absurd cc

one_type : (t u : ValType) → same_type t u ≡ true → t ≡ u
one_type I32 I32 e = refl
one_type I64 I64 e = refl
one_type I32 I64 e = absurd cc
one_type I64 I32 e = absurd cc

one_list : (ts us : List ValType) → pointwise same_type ts us ≡ true → ts ≡ us
one_list [] [] e = refl
one_list [] (u ∷ us) e = absurd cc
one_list (t ∷ ts) [] e = absurd cc
one_list (t ∷ ts) (u ∷ us) e =
    let both = and_both (same_type t u) (pointwise same_type ts us) e in
    let a : t ≡ u = one_type t u both.0 in
    let b : ts ≡ us = one_list ts us both.1 in
    cc

one_result : (t u : Option ValType) → same_result t u ≡ true → t ≡ u
one_result None None e = refl
one_result (Some t) (Some u) e = ap Some (one_type t u e)
one_result None (Some u) e = absurd cc
one_result (Some t) None e = absurd cc

one_func_type : (t u : PlainFuncType) → same_func_type t u ≡ true → t ≡ u
one_func_type t u e =
    let both = and_both (pointwise same_type t.params u.params) (same_result t.result u.result) e in
    let first : t ≡ record t { params = u.params } = ap (λ (ps : List ValType). record t { params = ps }) (one_list t.params u.params both.0) in
    let second : record t { params = u.params } ≡ u = ap (λ (r : Option ValType). record u { result = r }) (one_result t.result u.result both.1) in
    first ∙ second

both_same : (a b : Option PlainFuncType) → are_same a b ≡ true → (t : PlainFuncType) × (a ≡ Some t) × (b ≡ Some t)
both_same (Some t) (Some u) e = (u, ap Some (one_func_type t u e), refl)
both_same (Some t) None e = absurd cc
both_same None b e = absurd cc

-- ---- the rules

is_function : (d : Desc) → is_func d ≡ true → (ty : ℕ) × (d ≡ descs.Func ty)
is_function (descs.Func ty) e = (ty, refl)
is_function (descs.Table size) e = absurd cc
is_function (descs.Memory size) e = absurd cc
is_function (descs.Global ty mutable) e = absurd cc

no_value : {A : Type 0} (o : Option A) → is_none o ≡ true → o ≡ None
no_value None e = refl
no_value (Some a) e = absurd cc

has_max : (size : Limits) (o : Option ℕ) → size.max ≡ o → is_some o ≡ true → max_refused o ≡ None → HasMax most_table_elements size
has_max size None is some e = absurd cc
has_max size (Some max) is some e = (max, is, leb-true max most_table_elements (kept _ _ e))

none_is : {A : Type 0} (p : A → Bool) (xs : List A) → list_any p xs ≡ false → All (λ x. p x ≡ false) xs
none_is p [] e = All-nil (λ x. p x ≡ false)
none_is {A} p (x ∷ xs) e = go (λ rest. none_is p xs rest) (p x) refl e
  where
    go : (list_any p xs ≡ false → All (λ (y : A). p y ≡ false) xs) → (b : Bool) → p x ≡ b → (b || list_any p xs) ≡ false → All (λ (y : A). p y ≡ false) (x ∷ xs)
    go others true is e = absurd cc
    go others false is e = All-cons (λ (y : A). p y ≡ false) x xs is (others e)

not_true : (b : Bool) → not b ≡ true → b ≡ false
not_true false e = refl
not_true true e = absurd cc

is_there : (m : PlainModule) (name : List ℕ) → is_exported m name ≡ true → IsExported m name
is_there m name e =
    let any = Any-from_list_any (λ (x : PlainExport). bytes_eq x.name name) m.exports e in
    (any.0, any.1, any.2, any.3, (bytes_eq-Decides any.1.name name).0 any.4)

is_entry : (m : PlainModule) (e : PlainExport) (o : Option PlainFuncType) → entry_refused m e o ≡ None → (t : PlainFuncType) → o ≡ Some t → ext_type m e.ext ≡ Some t
is_entry m e None none t is = absurd cc
is_entry m e (Some u) none t is =
    let same = both_same (ext_type m e.ext) (Some u) (kept _ _ none) in
    same.1 ∙ sym same.2 ∙ is

is_capable : (caps : List (List ℕ)) (o : Option (List ℕ)) → capability_refused caps o ≡ None → (name : List ℕ) → o ≡ Some name → Any (λ (cap : List ℕ). cap ≡ name) caps
is_capable caps None none name is = absurd cc
is_capable caps (Some wanted) none name is =
    let any = Any-from_list_any (λ (cap : List ℕ). bytes_eq cap wanted) caps (kept _ _ none) in
    let same : wanted ≡ name = cc in
    (any.0, any.1, any.2, any.3, (bytes_eq-Decides any.1 wanted).0 any.4 ∙ same)

sized : (tables : List Limits) → length tables ≤ 1 → of_first (λ (size : Limits). unless (is_some size.max) table_no_max) tables ≡ None → of_first (λ (size : Limits). max_refused size.max) tables ≡ None → All (HasMax most_table_elements) tables
sized [] one has small = All-nil (HasMax most_table_elements)
sized (size ∷ []) one has small = All-cons (HasMax most_table_elements) size [] (has_max size size.max refl (kept _ _ has) small) (All-nil (HasMax most_table_elements))
sized (size ∷ x ∷ tables) one has small = absurd (omega arith)

module _ (spells : IsTheSpelled) (caps : List (List ℕ)) (bytes : List ℕ) (m : PlainModule) where
  contract : module_of bytes ≡ Some m → gzip_rule bytes ≡ None → size_rule bytes ≡ None → first_some (module_rules caps m) ≡ None → IsContract caps bytes m
  contract is no_gzip small e =
      let rules = each_none (module_rules caps m) e in
      let valid : valid_fault m ≡ None = no_fault (valid_fault m) rules.0 in
      let one = at_most_one m valid in
      let rules = rules.1 in
      let functions = rules.0 in
      let count = rules.1.0 in
      let known = rules.1.1.0 in
      let typed = rules.1.1.1.0 in
      let rules = rules.1.1.1.1 in
      let missing = rules.0 in
      let memory_max = rules.1.0 in
      let memory_min = rules.1.1.0 in
      let table_max = rules.1.1.1.0 in
      let table_size = rules.1.1.1.1.0 in
      let rules = rules.1.1.1.1.1 in
      let elements = rules.0 in
      let datas = rules.1.0 in
      let exported = rules.1.1.0 in
      let interface = rules.1.1.1.0 in
      let entries = rules.1.1.1.1.0 in
      let capabilities = rules.1.1.1.1.1.0 in
      record {
        decoded = is;
        spelled = λ are. (spells bytes m are).0 is;
        not_gzip = not_true _ (kept _ _ no_gzip);
        size = leb-true (length bytes) most_bytes (kept _ _ small);
        valid = valid;
        imports_are_functions = all_kept IsFunction _ (λ at i none. is_function i.desc (kept _ _ none)) 0 m.imports functions;
        few_imports = leb-true (length m.imports) most_imports (kept _ _ count);
        imports_are_known = all_kept (λ (i : PlainImport). IsSome (wanted_type i)) _ (λ at i none. kept _ _ none) 0 m.imports known;
        imports_are_typed = all_kept (IsHostFunction m) _ (λ at i none. both_same (desc_type m i.desc) (wanted_type i) (kept _ _ none)) 0 m.imports typed;
        memory = only m.memories (ltb-true 0 (length m.memories) (kept _ _ missing)) one.1;
        memory_has_no_max = first_kept (λ (size : Limits). size.max ≡ None) _ (λ size none. no_value size.max (kept _ _ none)) m.memories one.1 memory_max;
        memory_begins_small = first_kept (λ (size : Limits). size.min ≤ most_initial_pages) _ (λ size none. leb-true size.min most_initial_pages (kept _ _ none)) m.memories one.1 memory_min;
        few_tables = one.0;
        table_has_max = first_kept (λ (size : Limits). IsSome size.max) _ (λ size none. kept _ _ none) m.tables one.0 table_max;
        table_stays_small = sized m.tables one.0 table_max table_size;
        elements_fit = all_kept (ElementsFit m) _ (λ at x none. leb-true (offset_of x.offset + length x.funcs) (least_size (slice_get m.tables x.table)) (kept _ _ none)) 0 m.elems elements;
        data_fits = all_kept (DataFits m) _ (λ at x none. leb-true (offset_of x.offset + length x.bytes) (page * least_size (slice_get m.memories x.memory)) (kept _ _ none)) 0 m.segs datas;
        wanted_are_exported = all_kept (IsExported m) _ (λ at name none. is_there m name (kept _ _ none)) 0 wanted_exports exported;
        one_interface = none_is is_other_interface m.exports (not_true _ (kept _ _ interface));
        entries_are_typed = all_kept (IsEntry m) _ (λ at x none. is_entry m x (type_named entry_points x.name) none) 0 m.exports entries;
        capable = all_kept (IsCapable caps) _ (λ at x none. is_capable caps (required x.name) none) 0 m.exports capabilities;
      }

pub taken_is_contract : IsTheSpelled → TakenIsContract
unfolding gate
taken_is_contract spells bytes caps e = go (reading_of bytes) refl b.1
  where
    a : (gzip_rule bytes ≡ None) × (or_else (size_rule bytes) (reading_rules caps (reading_of bytes)) ≡ None)
    a = neither (gzip_rule bytes) (or_else (size_rule bytes) (reading_rules caps (reading_of bytes))) e

    b : (size_rule bytes ≡ None) × (reading_rules caps (reading_of bytes) ≡ None)
    b = neither (size_rule bytes) (reading_rules caps (reading_of bytes)) a.1

    go : (r : Reading PlainModule) → reading_of bytes ≡ r → reading_rules caps r ≡ None → (m : PlainModule) × IsContract caps bytes m
    go (Ok x) is e = (x.0, contract spells caps bytes x.0 (ap module_in is) a.0 b.0 e)
    go (Err broken) is e = absurd cc

pub accepted_is_contract : IsTheSpelled → AcceptedIsContract
accepted_is_contract spells bytes e = taken_is_contract spells bytes (required_in (module_of bytes)) e

pub decoded_is_spelled : IsTheSpelled → DecodedIsSpelled
decoded_is_spelled spells bytes m are is = (bytes, (spells bytes m are).0 is)

-- ---- a code that spells a module breaks nowhere

pub breaks_nowhere : (bytes : List ℕ) (m : PlainModule) → module_of bytes ≡ Some m → broken bytes ≡ None
breaks_nowhere bytes m e = go (reading_of bytes) e
  where
    go : (r : Reading PlainModule) → module_in r ≡ Some m → broken_in r ≡ None
    go (Ok x) e = refl
    go (Err b) e = absurd cc
