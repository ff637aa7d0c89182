-- Instructions and codes are lawful.
use Rattle.std.proofs.Common.{◌≡◌, ℕ, ◌<◌, List, [], ◌∷◌, ◌++◌, length, Option, Some, None, Result, Ok, Err, refl, sym, ap, subst, ◌∙◌, arith, inl, inr}
use Rattle.std.specs.Prelude.{IfSome}
use Rattle.wasm_types.specs.declared.kind.ReadKind.{ReadKind}
use Rattle.wasm_types.specs.declared.value.ValType.{ValType}
use Rattle.wasm_types.specs.declared.value.Value.TheVariants as values
use Rattle.wasm_types.specs.declared.opcode.Shape.{Shape}
use Rattle.wasm_types.specs.declared.opcode.Shape.TheVariants as shapes
use Rattle.wasm_types.specs.declared.instr.Instr.{Instr}
use Rattle.wasm_types.specs.declared.instr.Instr.TheVariants.{Op, Index, CallIndirect, BrTable, Mem, Const, Block, Loop, If, Else, End}
use Rattle.wasm_types.specs.Opcodes.{shape}
use Rattle.wasm_types.specs.Bounds.{IsIndex, IsInstr, IsCode}
use Rattle.module_file.specs.Parts.{tagged}
use Rattle.module_file.specs.Codes.{table_fields, access_fields, block_fields, if_fields, instr_text, fields_read, instr_read, instr, code}
use Rattle.module_file.proofs.Steps.{AreBytes, made, some_is, Takes}
use Rattle.module_file.proofs.FormLaws.{Lawful, then_field, lawful_done, lawful_whole, lawful_pair, variant, lawful_index, lawful_long, lawful_list, lawful_optional}
use Rattle.module_file.proofs.PartLaws.{lawful_val_type, lawful_optional_type, tagged_law}
use Rattle.module_file.proofs.Shapes.{Known, known_op}

-- an instruction of some code whose targets and places are numbered by 32 bits
pub record IsSomeInstr (i : Instr) : Type 0 where
  pub targets : ℕ
  pub places : ℕ
  pub few_targets : IsIndex targets
  pub few_places : IsIndex places
  pub fits : IsInstr targets places i

-- ---- the fields behind opcodes

lawful_table : Lawful (λ (x : ℕ × (ℕ × ℕ)). IsIndex x.0 × (IsIndex x.1.0 × IsIndex x.1.1)) table_fields
lawful_table = lawful_pair lawful_index (lawful_pair lawful_index lawful_index)

lawful_access : Lawful (λ (x : ℕ × ℕ). IsIndex x.0 × IsIndex x.1) access_fields
lawful_access = lawful_pair lawful_index lawful_index

lawful_block : Lawful (λ (x : Option ValType × ℕ). Unit {0} × IsIndex x.1) block_fields
lawful_block = lawful_pair lawful_optional_type lawful_index

lawful_if : Lawful (λ (x : Option ValType × (Option ℕ × ℕ)). Unit {0} × (IfSome x.1.0 IsIndex × IsIndex x.1.1)) if_fields
lawful_if = lawful_pair lawful_optional_type (lawful_pair (lawful_optional lawful_index) lawful_index)

place_fits : (places : ℕ) (els : Option ℕ) → IsIndex places → IfSome els (λ at. at < places) → IfSome els IsIndex
place_fits places None few h = tt
place_fits places (Some at) few h = omega (arith, few, h)

instr_again : (i : Instr) (rest : List ℕ) → IsSomeInstr i → tagged instr_read (instr_text i ++ rest) ≡ Some (i, rest)
unfolding shape
instr_again (Op op) rest h =
    elim h.fits [
      | inl o ↦ rw o.known refl
      | inr o ↦ rw o.known refl
    ]
instr_again (Index op i) rest h = rw (h.fits.0.known, lawful_index.again i rest h.fits.1) refl
instr_again (CallIndirect ty) rest h = rw (lawful_index.again ty rest h.fits) refl
instr_again (BrTable first count default) rest h =
    rw (lawful_table.again (first, (count, default)) rest (omega (arith, h.fits.0, h.few_targets), (omega (arith, h.fits.0, h.few_targets), h.fits.1))) refl
instr_again (Mem op align offset) rest h = rw (h.fits.0.known, lawful_access.again (align, offset) rest (h.fits.1, h.fits.2)) refl
instr_again (Const (values.I32 n)) rest h = rw (lawful_index.again n rest h.fits) refl
instr_again (Const (values.I64 n)) rest h = rw (lawful_long.again n rest h.fits) refl
instr_again (Block t end) rest h = rw (lawful_block.again (t, end) rest (tt, omega (arith, h.fits, h.few_places))) refl
instr_again (Loop t end) rest h = rw (lawful_block.again (t, end) rest (tt, omega (arith, h.fits, h.few_places))) refl
instr_again (If t els end) rest h =
    rw (lawful_if.again (t, (els, end)) rest (tt, (place_fits h.places els h.few_places h.fits.0, omega (arith, h.fits.1, h.few_places)))) refl
instr_again (Else end) rest h = rw (lawful_index.again end rest (omega (arith, h.fits, h.few_places))) refl
instr_again End rest h = refl

-- an instruction without fields
alone : (op n : ℕ) (i : Instr) → instr_text i ≡ n ∷ [] → op ≡ n → (bytes rest : List ℕ) (j : Instr) → AreBytes bytes → made {A = Instr × List ℕ} (i, bytes) ≡ Some (j, rest) → Takes (op ∷ bytes) (instr_text j) rest
alone op n i text same bytes rest j are e =
    let taken : Takes (op ∷ bytes) (instr_text i) bytes = record { parts = ap (λ (k : ℕ). k ∷ bytes) same ∙ ap (λ (t : List ℕ). t ++ bytes) (sym text); are_bytes = are } in
    subst (λ (x : Instr × List ℕ). Takes (op ∷ bytes) (instr_text x.0) x.1) (some_is (i, bytes) (j, rest) e) taken

fields_take : (op : ℕ) (r : Result Shape ReadKind) → Known op r → (bytes rest : List ℕ) (i : Instr) → AreBytes bytes → fields_read op r bytes ≡ Some (i, rest) → Takes (op ∷ bytes) (instr_text i) rest
fields_take op (Ok shapes.Plain) k bytes rest i are e = alone op op (Op op) refl refl bytes rest i are e
fields_take op (Ok shapes.Reserved) k bytes rest i are e = alone op op (Op op) refl refl bytes rest i are e
fields_take op (Ok shapes.Index) k bytes rest i are e = variant instr_text op op lawful_index (Index op) (λ a. refl) refl bytes rest i are e
fields_take op (Ok shapes.CallIndirect) k bytes rest i are e = variant instr_text op 0x11 lawful_index CallIndirect (λ a. refl) k bytes rest i are e
fields_take op (Ok shapes.BrTable) k bytes rest i are e = variant instr_text op 0x0E lawful_table (λ x. BrTable x.0 x.1.0 x.1.1) (λ a. refl) k bytes rest i are e
fields_take op (Ok shapes.Memory) k bytes rest i are e = variant instr_text op op lawful_access (λ x. Mem op x.0 x.1) (λ a. refl) refl bytes rest i are e
fields_take op (Ok shapes.I32Const) k bytes rest i are e = variant instr_text op 0x41 lawful_index (λ n. Const (values.I32 n)) (λ a. refl) k bytes rest i are e
fields_take op (Ok shapes.I64Const) k bytes rest i are e = variant instr_text op 0x42 lawful_long (λ n. Const (values.I64 n)) (λ a. refl) k bytes rest i are e
fields_take op (Ok shapes.Block) k bytes rest i are e = variant instr_text op 0x02 lawful_block (λ x. Block x.0 x.1) (λ a. refl) k bytes rest i are e
fields_take op (Ok shapes.Loop) k bytes rest i are e = variant instr_text op 0x03 lawful_block (λ x. Loop x.0 x.1) (λ a. refl) k bytes rest i are e
fields_take op (Ok shapes.If) k bytes rest i are e = variant instr_text op 0x04 lawful_if (λ x. If x.0 x.1.0 x.1.1) (λ a. refl) k bytes rest i are e
fields_take op (Ok shapes.Else) k bytes rest i are e = variant instr_text op 0x05 lawful_index Else (λ a. refl) k bytes rest i are e
fields_take op (Ok shapes.End) k bytes rest i are e = alone op 0x0B End refl k bytes rest i are e
fields_take op (Err why) k bytes rest i are e = absurd cc

instr_takes : (op : ℕ) (bytes rest : List ℕ) (i : Instr) → AreBytes bytes → instr_read op bytes ≡ Some (i, rest) → Takes (op ∷ bytes) (instr_text i) rest
instr_takes op = fields_take op (shape op) (known_op op)

lawful_instr : Lawful IsSomeInstr instr
unfolding instr
lawful_instr = tagged_law instr_text instr_read instr_again instr_takes

-- ---- codes

pub lawful_code : Lawful IsCode code
unfolding code
lawful_code = lawful_whole (λ w. refl)
    (then_field (lawful_list lawful_val_type) (λ w h. record { few = omega (arith, h.locals); each = λ k d lt. tt }) (λ locals.
    then_field (lawful_list lawful_index) (λ w h. h.targets) (λ targets.
    then_field (lawful_list lawful_instr) (λ w h. record {
      few = h.body.few;
      each = λ k d lt. record { targets = length w.targets; places = length w.body; few_targets = h.targets.few; few_places = h.body.few; fits = h.body.each k d lt };
    }) (λ body.
    lawful_done _ (((tt, refl), refl), refl)))))
