-- What the gate answers, by its parts.
use Rattle.std.proofs.Common.{◌≡◌, ℕ, ◌+◌, Bool, true, false, ◌||◌, List, [], ◌∷◌, ◌++◌, Option, Some, None, Result, Ok, Err, refl, sym, ap, subst, ◌∙◌, append_assoc}
use Rattle.std.specs.Prelude.{filter_map}
use Rattle.std.specs.List.{list_any, cons_option}
use Rattle.std.specs.Str.{bytes_eq}
use Rattle.std.proofs.lemmas.List.Folds.{list_any-append}
use Rattle.std.proofs.lemmas.Slice.Eq.{bytes_eq-Decides}
use Rattle.wasm_types.specs.Plain.{PlainExport, PlainModule, PlainRefusal}
use Rattle.wasm_types.specs.Place.{Reading}
use Rattle.wasm_types.specs.ModuleText.{module_in, reading_of}
use Rattle.wasm_types.specs.Typing.{or_else}
use Rattle.wasm_types.specs.Gate.{first_some, first_refused, gzip_rule, size_rule, invalid_rule, import_kind_rule, import_count_rule, import_unknown_rule, import_type_rule, memory_missing_rule, memory_max_rule, memory_initial_rule, table_no_max_rule, table_size_rule, element_range_rule, data_range_rule, export_missing_rule, interface_twice_rule, export_type_rule, capability_rule, required, capability_refused, module_rules, reading_rules, gate}
use Rattle.gatekeeper.specs.declared.stop.GateStop.{GateStop}
use Rattle.gatekeeper.specs.declared.stop.GateStop.TheVariants as stops
use Rattle.gatekeeper.specs.Judging.{Judges}
use Rattle.gatekeeper.specs.Rules.{bytes_rules}
use Rattle.gatekeeper.specs.Accepted.{required_in, TakenIsAccepted}

abbrev Refusal : Type 0
Refusal = Option PlainRefusal

-- ---- the bytes, and then the module

module _ (a b r : Refusal) where
  pub both : or_else a (or_else b None) ≡ None → (a ≡ None) × (b ≡ None)
  both e = go a b e
    where
      go : (a b : Refusal) → or_else a (or_else b None) ≡ None → (a ≡ None) × (b ≡ None)
      go (Some x) b e = absurd cc
      go None (Some x) e = absurd cc
      go None None e = (refl, refl)

  passed : or_else a (or_else b None) ≡ None → or_else a (or_else b r) ≡ r
  passed e = rw ((both e).0, (both e).1) refl

  refused : {x : PlainRefusal} → or_else a (or_else b None) ≡ Some x → or_else a (or_else b r) ≡ Some x
  refused {x} e = go a b e
    where
      go : (a b : Refusal) → or_else a (or_else b None) ≡ Some x → or_else a (or_else b r) ≡ Some x
      go (Some y) b e = e
      go None (Some y) e = e
      go None None e = absurd cc

module _ (A B : Type 0) (code : List ℕ) (caps : List (List ℕ)) where
  pub bytes_refuse : (stop : GateStop) → Judges {A = A} (Err stop) (first_some (bytes_rules code)) → Judges {A = B} (Err stop) (gate code caps)
  unfolding gate
  bytes_refuse (stops.Refused r) e = refused (gzip_rule code) (size_rule code) (reading_rules caps (reading_of code)) e
  bytes_refuse stops.NoMemory e = tt

  pub reading_refuses : (stop : GateStop) → first_some (bytes_rules code) ≡ None → Judges {A = A} (Err stop) (reading_rules caps (reading_of code)) → Judges {A = B} (Err stop) (gate code caps)
  unfolding gate
  reading_refuses (stops.Refused r) e f = passed (gzip_rule code) (size_rule code) (reading_rules caps (reading_of code)) e ∙ f
  reading_refuses stops.NoMemory e f = tt

pub taken : (code : List ℕ) (caps : List (List ℕ)) → first_some (bytes_rules code) ≡ None → reading_rules caps (reading_of code) ≡ None → gate code caps ≡ None
unfolding gate
taken code caps e f = passed (gzip_rule code) (size_rule code) (reading_rules caps (reading_of code)) e ∙ f

-- a code that spells a module is judged by it
pub judged_module : (A : Type 0) (result : Result A GateStop) (code : List ℕ) (caps : List (List ℕ)) (m : PlainModule) → module_in (reading_of code) ≡ Some m → Judges result (first_some (module_rules caps m)) → Judges result (reading_rules caps (reading_of code))
judged_module A result code caps m e j = go (reading_of code) e
  where
    go : (r : Reading PlainModule) → module_in r ≡ Some m → Judges result (reading_rules caps r)
    go (Ok x) e = let same : x.0 ≡ m = cc in subst (λ (n : PlainModule). Judges result (first_some (module_rules caps n))) (sym same) j
    go (Err broken) e = absurd cc

-- ---- what is taken under some capabilities is taken under those that it requires

or_true : (a : Bool) → (a || true) ≡ true
or_true true = refl
or_true false = refl

is_among : (before rest : List (List ℕ)) (name : List ℕ) → list_any (λ cap. bytes_eq cap name) (before ++ name ∷ rest) ≡ true
is_among before rest name =
    list_any-append (λ cap. bytes_eq cap name) before (name ∷ rest)
    ∙ ap (λ (b : Bool). list_any (λ cap. bytes_eq cap name) before || (b || list_any (λ cap. bytes_eq cap name) rest)) ((bytes_eq-Decides name name).1 refl)
    ∙ or_true (list_any (λ cap. bytes_eq cap name) before)

abbrev wanted : PlainExport → Option (List ℕ)
wanted e = required e.name

abbrev judge : List (List ℕ) → ℕ → PlainExport → Refusal
judge caps at e = capability_refused caps (wanted e)

own_pass : (before : List (List ℕ)) (at : ℕ) (exports : List PlainExport) → first_refused (judge (before ++ filter_map wanted exports)) at exports ≡ None
unfolding first_refused
own_pass before at [] = refl
own_pass before at (e ∷ exports) = go (wanted e) refl (own_pass before (at + 1) exports) (λ name. own_pass (before ++ name ∷ []) (at + 1) exports)
  where
    go : (o : Option (List ℕ)) → wanted e ≡ o → first_refused (judge (before ++ filter_map wanted exports)) (at + 1) exports ≡ None
        → ((name : List ℕ) → first_refused (judge ((before ++ name ∷ []) ++ filter_map wanted exports)) (at + 1) exports ≡ None)
        → or_else (capability_refused (before ++ cons_option o (filter_map wanted exports)) o) (first_refused (judge (before ++ cons_option o (filter_map wanted exports))) (at + 1) exports) ≡ None
    go None is none some = none
    go (Some name) is none some =
        rw (is_among before (filter_map wanted exports) name)
        (ap (λ (caps : List (List ℕ)). first_refused (judge caps) (at + 1) exports) (sym (append_assoc before (name ∷ []) (filter_map wanted exports))) ∙ some name)

abbrev own : PlainModule → List (List ℕ)
own m = filter_map wanted m.exports

own_passes : (m : PlainModule) → capability_rule (own m) m ≡ None
own_passes m = own_pass [] 0 m.exports

last_changed : (front : List Refusal) (r s : Refusal) → first_some (front ++ r ∷ []) ≡ None → s ≡ None → first_some (front ++ s ∷ []) ≡ None
last_changed [] r s e f = rw f refl
last_changed (a ∷ front) r s e f = go a (λ e. last_changed front r s e f) e
  where
    go : (a : Refusal) → (first_some (front ++ r ∷ []) ≡ None → first_some (front ++ s ∷ []) ≡ None) → or_else a (first_some (front ++ r ∷ [])) ≡ None → or_else a (first_some (front ++ s ∷ [])) ≡ None
    go (Some x) later e = absurd cc
    go None later e = later e

abbrev front_rules : PlainModule → List Refusal
front_rules m =
    invalid_rule m ∷ import_kind_rule m ∷ import_count_rule m ∷ import_unknown_rule m ∷ import_type_rule m ∷ memory_missing_rule m ∷ memory_max_rule m ∷ memory_initial_rule m ∷ table_no_max_rule m ∷ table_size_rule m
    ∷ element_range_rule m ∷ data_range_rule m ∷ export_missing_rule m ∷ interface_twice_rule m ∷ export_type_rule m ∷ []

reading_accepted : (r : Reading PlainModule) (caps : List (List ℕ)) → reading_rules caps r ≡ None → reading_rules (required_in (module_in r)) r ≡ None
reading_accepted (Ok x) caps e = last_changed (front_rules x.0) (capability_rule caps x.0) (capability_rule (own x.0) x.0) e (own_passes x.0)
reading_accepted (Err broken) caps e = absurd cc

three : (a b r : Refusal) → or_else a (or_else b r) ≡ None → (or_else a (or_else b None) ≡ None) × (r ≡ None)
three (Some x) b r e = absurd cc
three None (Some x) r e = absurd cc
three None None r e = (refl, e)

pub taken_is_accepted : TakenIsAccepted
unfolding gate
taken_is_accepted code caps e =
    let parts = three (gzip_rule code) (size_rule code) (reading_rules caps (reading_of code)) e in
    taken code (required_in (module_in (reading_of code))) parts.0 (reading_accepted (reading_of code) caps parts.1)
