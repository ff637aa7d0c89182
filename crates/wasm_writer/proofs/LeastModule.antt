-- The shortest spelling of a module.
use Rattle.std.proofs.Common.{ℕ, List, [], ◌∷◌, ◌++◌, length, refl, sym, ap, ◌∙◌, arith, inl, inr}
use Rattle.std.proofs.lemmas.List.{append-nil}
use Rattle.wasm_types.specs.declared.kind.ReadKind.TheVariants.{Section, Magic}
use Rattle.wasm_types.specs.Plain.{PlainModule}
use Rattle.wasm_types.specs.Part.{Part, exactly, vector}
use Rattle.wasm_types.specs.ModuleText.{header, customs, numbered, section, input_end, module_part, module_in}
use Rattle.wasm_types.proofs.TextLaws.{is_read}
use Rattle.wasm_writer.specs.ShortNumber.{unsigned}
use Rattle.wasm_writer.specs.Spelling.{sized_text, func_type_text, import_text, table_text, limits_text, global_text, export_text, elem_text, code_text, seg_text, section_text, spelling_of}
use Rattle.wasm_writer.specs.Shortest.{SpellsShortest, ReadsAgain}
use Rattle.wasm_writer.proofs.Least.{Bytes, bytes_of, are_bytes, Shorter, Least, itself, least_made, least_join}
use Rattle.wasm_writer.proofs.LeastNumbers.{least_unsigned}
use Rattle.wasm_writer.proofs.LeastParts.{least_vector, least_sized, least_marker, least_func_type, least_import, least_table, least_limits, least_global, least_export, least_elem, least_seg}
use Rattle.wasm_writer.proofs.LeastBody.{least_code}

least_customs : Least customs (λ _. [])
least_customs = record { holds = λ u other bytes s. record { bytes = tt; spelled = (0, refl); short = omega arith } }

least_numbered : {A : Type 0} {p : Part (List A)} {t : List A → List ℕ} (k : ℕ) → Least p t → Least (numbered k p) (λ items. k ∷ sized_text (t items))
least_numbered {A} {p} {t} k l =
    least_join {t2 = λ _ items. sized_text (t items)} (least_marker k Section) (λ _.
    least_join {t2 = λ _ _. []} (least_sized l) (λ items. least_made least_customs (λ _. items) (λ _. refl))
    (λ items b front rest f s. ap (λ (i : List A). sized_text (t i)) s.second.1 ∙ sym (append-nil (sized_text (t items)))))
    (λ _ items front rest f s. refl)

least_section : {A : Type 0} {p : Part A} {t : A → List ℕ} (k : ℕ) → Least p t → Least (section k (vector p)) (section_text k t)
least_section {A} {p} {t} k l = record { holds = holds }
  where
    holds : (items : List A) (other : List ℕ) → Bytes other → (section k (vector p)).Spells other items → Shorter (λ u. (section k (vector p)).Spells u items) other (section_text k t items)
    holds [] other bytes s = record { bytes = tt; spelled = inl (refl, refl); short = omega arith }
    holds (a ∷ items) other bytes (inl s) = absurd cc
    holds (a ∷ items) other bytes (inr s) =
        let one = (least_numbered k (least_vector l)).holds (a ∷ items) other bytes s in
        record { bytes = one.bytes; spelled = inr one.spelled; short = one.short }

least_header : Least (exactly header Magic) (λ _. header)
least_header = record { holds = λ u other bytes s. itself (λ t. (exactly header Magic).Spells t u) other header bytes s (sym s) }

least_end : (funcs codes : ℕ) → Least (input_end funcs codes) (λ _. [])
least_end funcs codes = record { holds = λ u other bytes s. record { bytes = tt; spelled = (refl, s.1); short = omega arith } }

-- ---- the sections from each on

abbrev from_11 : PlainModule → List ℕ
from_11 m = section_text 11 seg_text m.segs

abbrev from_10 : PlainModule → List ℕ
from_10 m = section_text 10 code_text m.codes ++ from_11 m

abbrev from_9 : PlainModule → List ℕ
from_9 m = section_text 9 elem_text m.elems ++ from_10 m

abbrev from_7 : PlainModule → List ℕ
from_7 m = section_text 7 export_text m.exports ++ from_9 m

abbrev from_6 : PlainModule → List ℕ
from_6 m = section_text 6 global_text m.globals ++ from_7 m

abbrev from_5 : PlainModule → List ℕ
from_5 m = section_text 5 limits_text m.memories ++ from_6 m

abbrev from_4 : PlainModule → List ℕ
from_4 m = section_text 4 table_text m.tables ++ from_5 m

abbrev from_3 : PlainModule → List ℕ
from_3 m = section_text 3 unsigned m.funcs ++ from_4 m

abbrev from_2 : PlainModule → List ℕ
from_2 m = section_text 2 import_text m.imports ++ from_3 m

abbrev from_1 : PlainModule → List ℕ
from_1 m = section_text 1 func_type_text m.types ++ from_2 m

pub least_module : Least module_part spelling_of
unfolding module_part spelling_of
least_module =
    least_join {t2 = λ _ m. from_1 m} least_header (λ _.
    least_join {t2 = λ _ m. from_1 m} least_customs (λ _.
    least_join {t2 = λ _ m. from_2 m} (least_section 1 least_func_type) (λ types.
    least_join {t2 = λ _ m. from_3 m} (least_section 2 least_import) (λ imports.
    least_join {t2 = λ _ m. from_4 m} (least_section 3 least_unsigned) (λ funcs.
    least_join {t2 = λ _ m. from_5 m} (least_section 4 least_table) (λ tables.
    least_join {t2 = λ _ m. from_6 m} (least_section 5 least_limits) (λ memories.
    least_join {t2 = λ _ m. from_7 m} (least_section 6 least_global) (λ globals.
    least_join {t2 = λ _ m. from_9 m} (least_section 7 least_export) (λ exports.
    least_join {t2 = λ _ m. from_10 m} (least_section 9 least_elem) (λ elems.
    least_join {t2 = λ _ m. from_11 m} (least_section 10 (least_sized least_code)) (λ codes.
    least_join {t2 = λ _ m. []} (least_section 11 least_seg) (λ segs.
    least_made (least_end (length funcs) (length codes)) (λ _. record { types = types; imports = imports; funcs = funcs; tables = tables; memories = memories; globals = globals; exports = exports; elems = elems; codes = codes; segs = segs }) (λ _. refl))
    (λ segs m front rest f s. ap (λ (o : PlainModule). section_text 11 seg_text o.segs) s.second.1 ∙ sym (append-nil (section_text 11 seg_text segs))))
    (λ codes m front rest f s. ap (λ (o : PlainModule). section_text 10 code_text o.codes ++ from_11 m) s.second.second.1))
    (λ elems m front rest f s. ap (λ (o : PlainModule). section_text 9 elem_text o.elems ++ from_10 m) s.second.second.second.1))
    (λ exports m front rest f s. ap (λ (o : PlainModule). section_text 7 export_text o.exports ++ from_9 m) s.second.second.second.second.1))
    (λ globals m front rest f s. ap (λ (o : PlainModule). section_text 6 global_text o.globals ++ from_7 m) s.second.second.second.second.second.1))
    (λ memories m front rest f s. ap (λ (o : PlainModule). section_text 5 limits_text o.memories ++ from_6 m) s.second.second.second.second.second.second.1))
    (λ tables m front rest f s. ap (λ (o : PlainModule). section_text 4 table_text o.tables ++ from_5 m) s.second.second.second.second.second.second.second.1))
    (λ funcs m front rest f s. ap (λ (o : PlainModule). section_text 3 unsigned o.funcs ++ from_4 m) s.second.second.second.second.second.second.second.second.1))
    (λ imports m front rest f s. ap (λ (o : PlainModule). section_text 2 import_text o.imports ++ from_3 m) s.second.second.second.second.second.second.second.second.second.1))
    (λ types m front rest f s. ap (λ (o : PlainModule). section_text 1 func_type_text o.types ++ from_2 m) s.second.second.second.second.second.second.second.second.second.second.1))
    (λ _ m front rest f s. refl))
    (λ _ m front rest f s. refl)

pub spells_shortest : SpellsShortest
spells_shortest m h =
    let one = least_module.holds m h.0 (bytes_of h.0 h.1.0) h.1.1 in
    record {
      spelled = (are_bytes (spelling_of m) one.bytes, one.spelled);
      shortest = λ other s. (least_module.holds m other (bytes_of other s.0) s.1).short;
    }

pub reads_again : ReadsAgain
reads_again m h = ap module_in (is_read (spelling_of m) m (spells_shortest m h).spelled)
