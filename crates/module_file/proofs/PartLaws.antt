-- Each part of a module other than codes is lawful.
use Rattle.std.proofs.Common.{◌≡◌, ℕ, Bool, true, false, List, [], ◌∷◌, ◌++◌, Option, Some, None, refl, ap, ◌∙◌}
use Rattle.std.specs.Prelude.{◌==◌, IfSome}
use Rattle.std.proofs.lemmas.Bool.{eqb-true}
use Rattle.wasm_types.specs.declared.value.ValType.{ValType}
use Rattle.wasm_types.specs.declared.value.ValType.TheVariants as val_types
use Rattle.wasm_types.specs.declared.value.Value.{Value}
use Rattle.wasm_types.specs.declared.value.Value.TheVariants as values
use Rattle.wasm_types.specs.declared.import.Desc.{Desc}
use Rattle.wasm_types.specs.declared.import.Desc.TheVariants as descs
use Rattle.wasm_types.specs.declared.export.Ext.{Ext}
use Rattle.wasm_types.specs.declared.export.Ext.TheVariants as exts
use Rattle.wasm_types.specs.declared.global.Init.{Init}
use Rattle.wasm_types.specs.declared.global.Init.TheVariants as inits
use Rattle.wasm_types.specs.declared.global.GlobalVar.{GlobalVar}
use Rattle.wasm_types.specs.Plain.{PlainFuncType}
use Rattle.wasm_types.specs.Bounds.{IsValue, IsFuncType, IsLimits, IsDesc, IsImport, IsExt, IsExport, IsInit, IsGlobal, IsElem, IsSeg}
use Rattle.module_file.specs.Form.{Reading, form_of, optional}
use Rattle.module_file.specs.Parts.{tagged, val_type_byte, val_type_of, val_type, flag_byte, flag_of, flag, func_type, limits, global_type, desc_text, desc_read, desc, import_, ext_text, ext_read, ext, export_, value_text, value_read, value, init_text, init_read, init, global, elem, seg}
use Rattle.module_file.proofs.Steps.{AreBytes, bytes-rest, some_is, either, Takes}
use Rattle.module_file.proofs.FormLaws.{Lawful, Any, narrower, then_field, lawful_done, lawful_whole, lawful_pair, variant, lawful_byte, lawful_index, lawful_long, lawful_bytes, lawful_utf8, lawful_list, lawful_optional}

-- ---- types

val_type_back : (t : ValType) → val_type_of (val_type_byte t) ≡ Some t
val_type_back val_types.I32 = refl
val_type_back val_types.I64 = refl

val_type_only : (b : ℕ) (t : ValType) → val_type_of b ≡ Some t → b ≡ val_type_byte t
val_type_only b t =
    either (λ (o : Option ValType). o ≡ Some t → b ≡ val_type_byte t) (b == 0x7F) _ _
    (λ c e. eqb-true b 0x7F c ∙ ap val_type_byte (some_is val_types.I32 t e))
    (λ _. either (λ (o : Option ValType). o ≡ Some t → b ≡ val_type_byte t) (b == 0x7E) _ _
    (λ c e. eqb-true b 0x7E c ∙ ap val_type_byte (some_is val_types.I64 t e))
    (λ _ e. absurd cc))

pub lawful_val_type : Lawful Any val_type
unfolding val_type
lawful_val_type = lawful_byte val_type_byte val_type_of val_type_back val_type_only

flag_back : (f : Bool) → flag_of (flag_byte f) ≡ Some f
flag_back false = refl
flag_back true = refl

flag_only : (b : ℕ) (f : Bool) → flag_of b ≡ Some f → b ≡ flag_byte f
flag_only b f =
    either (λ (o : Option Bool). o ≡ Some f → b ≡ flag_byte f) (b == 0) _ _
    (λ c e. eqb-true b 0 c ∙ ap flag_byte (some_is false f e))
    (λ _. either (λ (o : Option Bool). o ≡ Some f → b ≡ flag_byte f) (b == 1) _ _
    (λ c e. eqb-true b 1 c ∙ ap flag_byte (some_is true f e))
    (λ _ e. absurd cc))

lawful_flag : Lawful Any flag
unfolding flag
lawful_flag = lawful_byte flag_byte flag_of flag_back flag_only

if_any : {A : Type 0} (o : Option A) → IfSome o Any
if_any None = tt
if_any (Some a) = tt

pub lawful_optional_type : Lawful Any (optional val_type)
lawful_optional_type = narrower (lawful_optional lawful_val_type) (λ o _. if_any o)

pub lawful_func_type : Lawful IsFuncType func_type
unfolding func_type
lawful_func_type = lawful_whole (λ w. refl)
    (then_field (lawful_list lawful_val_type) (λ w h. record { few = h.params; each = λ k d lt. tt }) (λ params.
    then_field {get = λ (t : PlainFuncType). t.result} lawful_optional_type (λ w h. tt) (λ result.
    lawful_done _ ((tt, refl), refl))))

pub lawful_limits : Lawful IsLimits limits
unfolding limits
lawful_limits = lawful_whole (λ w. refl)
    (then_field lawful_index (λ w h. h.min) (λ min.
    then_field (lawful_optional lawful_index) (λ w h. h.max) (λ max.
    lawful_done _ ((tt, refl), refl))))

-- ---- types with variants

pub tagged_law : {A : Type 0} {Is : A → Type 0} (text : A → List ℕ) (read : ℕ → List ℕ → Reading A)
    → ((a : A) (rest : List ℕ) → Is a → tagged read (text a ++ rest) ≡ Some (a, rest))
    → ((tag : ℕ) (bytes rest : List ℕ) (a : A) → AreBytes bytes → read tag bytes ≡ Some (a, rest) → Takes (tag ∷ bytes) (text a) rest) → Lawful Is (form_of text (tagged read))
tagged_law {A} {Is} text read again take = record { again = again; takes = takes }
  where
    takes : (bytes rest : List ℕ) (a : A) → AreBytes bytes → tagged read bytes ≡ Some (a, rest) → Takes bytes (text a) rest
    takes [] rest a are e = absurd cc
    takes (tag ∷ bytes) rest a are e = take tag bytes rest a (bytes-rest tag bytes are) e

lawful_global_type : Lawful Any global_type
lawful_global_type = narrower (lawful_pair lawful_val_type lawful_flag) (λ x _. (tt, tt))

desc_again : (d : Desc) (rest : List ℕ) → IsDesc d → tagged desc_read (desc_text d ++ rest) ≡ Some (d, rest)
desc_again (descs.Func ty) rest h = rw (lawful_index.again ty rest h) refl
desc_again (descs.Table size) rest h = rw (lawful_limits.again size rest h) refl
desc_again (descs.Memory size) rest h = rw (lawful_limits.again size rest h) refl
desc_again (descs.Global ty mutable) rest h = rw (lawful_global_type.again (ty, mutable) rest tt) refl

desc_takes : (tag : ℕ) (bytes rest : List ℕ) (d : Desc) → AreBytes bytes → desc_read tag bytes ≡ Some (d, rest) → Takes (tag ∷ bytes) (desc_text d) rest
desc_takes tag bytes rest d are =
    let Goal : Reading Desc → Type 0 = λ r. r ≡ Some (d, rest) → Takes (tag ∷ bytes) (desc_text d) rest in
    either Goal (tag == 0) _ _ (λ c. variant desc_text tag 0 lawful_index descs.Func (λ a. refl) (eqb-true tag 0 c) bytes rest d are)
    (λ _. either Goal (tag == 1) _ _ (λ c. variant desc_text tag 1 lawful_limits descs.Table (λ a. refl) (eqb-true tag 1 c) bytes rest d are)
    (λ _. either Goal (tag == 2) _ _ (λ c. variant desc_text tag 2 lawful_limits descs.Memory (λ a. refl) (eqb-true tag 2 c) bytes rest d are)
    (λ _. either Goal (tag == 3) _ _ (λ c. variant desc_text tag 3 lawful_global_type (λ x. descs.Global x.0 x.1) (λ a. refl) (eqb-true tag 3 c) bytes rest d are)
    (λ _ e. absurd cc))))

lawful_desc : Lawful IsDesc desc
unfolding desc
lawful_desc = tagged_law desc_text desc_read desc_again desc_takes

pub lawful_import : Lawful IsImport import_
unfolding import_
lawful_import = lawful_whole (λ w. refl)
    (then_field lawful_utf8 (λ w h. h.from) (λ from.
    then_field lawful_utf8 (λ w h. h.name) (λ name.
    then_field lawful_desc (λ w h. h.desc) (λ what.
    lawful_done _ (((tt, refl), refl), refl)))))

ext_again : (x : Ext) (rest : List ℕ) → IsExt x → tagged ext_read (ext_text x ++ rest) ≡ Some (x, rest)
ext_again (exts.Func i) rest h = rw (lawful_index.again i rest h) refl
ext_again (exts.Table i) rest h = rw (lawful_index.again i rest h) refl
ext_again (exts.Memory i) rest h = rw (lawful_index.again i rest h) refl
ext_again (exts.Global i) rest h = rw (lawful_index.again i rest h) refl

ext_takes : (tag : ℕ) (bytes rest : List ℕ) (x : Ext) → AreBytes bytes → ext_read tag bytes ≡ Some (x, rest) → Takes (tag ∷ bytes) (ext_text x) rest
ext_takes tag bytes rest x are =
    let Goal : Reading Ext → Type 0 = λ r. r ≡ Some (x, rest) → Takes (tag ∷ bytes) (ext_text x) rest in
    either Goal (tag == 0) _ _ (λ c. variant ext_text tag 0 lawful_index exts.Func (λ a. refl) (eqb-true tag 0 c) bytes rest x are)
    (λ _. either Goal (tag == 1) _ _ (λ c. variant ext_text tag 1 lawful_index exts.Table (λ a. refl) (eqb-true tag 1 c) bytes rest x are)
    (λ _. either Goal (tag == 2) _ _ (λ c. variant ext_text tag 2 lawful_index exts.Memory (λ a. refl) (eqb-true tag 2 c) bytes rest x are)
    (λ _. either Goal (tag == 3) _ _ (λ c. variant ext_text tag 3 lawful_index exts.Global (λ a. refl) (eqb-true tag 3 c) bytes rest x are)
    (λ _ e. absurd cc))))

lawful_ext : Lawful IsExt ext
unfolding ext
lawful_ext = tagged_law ext_text ext_read ext_again ext_takes

pub lawful_export : Lawful IsExport export_
unfolding export_
lawful_export = lawful_whole (λ w. refl)
    (then_field lawful_utf8 (λ w h. h.name) (λ name.
    then_field lawful_ext (λ w h. h.ext) (λ what.
    lawful_done _ ((tt, refl), refl))))

value_again : (v : Value) (rest : List ℕ) → IsValue v → tagged value_read (value_text v ++ rest) ≡ Some (v, rest)
value_again (values.I32 n) rest h = rw (lawful_index.again n rest h) refl
value_again (values.I64 n) rest h = rw (lawful_long.again n rest h) refl

value_takes : (tag : ℕ) (bytes rest : List ℕ) (v : Value) → AreBytes bytes → value_read tag bytes ≡ Some (v, rest) → Takes (tag ∷ bytes) (value_text v) rest
value_takes tag bytes rest v are =
    let Goal : Reading Value → Type 0 = λ r. r ≡ Some (v, rest) → Takes (tag ∷ bytes) (value_text v) rest in
    either Goal (tag == 0) _ _ (λ c. variant value_text tag 0 lawful_index values.I32 (λ a. refl) (eqb-true tag 0 c) bytes rest v are)
    (λ _. either Goal (tag == 1) _ _ (λ c. variant value_text tag 1 lawful_long values.I64 (λ a. refl) (eqb-true tag 1 c) bytes rest v are)
    (λ _ e. absurd cc))

lawful_value : Lawful IsValue value
unfolding value
lawful_value = tagged_law value_text value_read value_again value_takes

init_again : (i : Init) (rest : List ℕ) → IsInit i → tagged init_read (init_text i ++ rest) ≡ Some (i, rest)
init_again (inits.Const v) rest h = rw (lawful_value.again v rest h) refl
init_again (inits.Global i) rest h = rw (lawful_index.again i rest h) refl

init_takes : (tag : ℕ) (bytes rest : List ℕ) (i : Init) → AreBytes bytes → init_read tag bytes ≡ Some (i, rest) → Takes (tag ∷ bytes) (init_text i) rest
init_takes tag bytes rest i are =
    let Goal : Reading Init → Type 0 = λ r. r ≡ Some (i, rest) → Takes (tag ∷ bytes) (init_text i) rest in
    either Goal (tag == 0) _ _ (λ c. variant init_text tag 0 lawful_value inits.Const (λ a. refl) (eqb-true tag 0 c) bytes rest i are)
    (λ _. either Goal (tag == 1) _ _ (λ c. variant init_text tag 1 lawful_index inits.Global (λ a. refl) (eqb-true tag 1 c) bytes rest i are)
    (λ _ e. absurd cc))

lawful_init : Lawful IsInit init
unfolding init
lawful_init = tagged_law init_text init_read init_again init_takes

-- ---- globals and segments

pub lawful_global : Lawful IsGlobal global
unfolding global
lawful_global = lawful_whole (λ w. refl)
    (then_field {get = λ (g : GlobalVar). g.ty} lawful_val_type (λ w h. tt) (λ ty.
    then_field {get = λ (g : GlobalVar). g.mutable} lawful_flag (λ w h. tt) (λ mutable.
    then_field lawful_init (λ w h. h.init) (λ first.
    lawful_done _ (((tt, refl), refl), refl)))))

pub lawful_elem : Lawful IsElem elem
unfolding elem
lawful_elem = lawful_whole (λ w. refl)
    (then_field lawful_index (λ w h. h.table) (λ table.
    then_field lawful_init (λ w h. h.offset) (λ offset.
    then_field (lawful_list lawful_index) (λ w h. h.funcs) (λ funcs.
    lawful_done _ (((tt, refl), refl), refl)))))

pub lawful_seg : Lawful IsSeg seg
unfolding seg
lawful_seg = lawful_whole (λ w. refl)
    (then_field lawful_index (λ w h. h.memory) (λ memory.
    then_field lawful_init (λ w h. h.offset) (λ offset.
    then_field lawful_bytes (λ w h. h.bytes.few) (λ bytes.
    lawful_done _ (((tt, refl), refl), refl)))))
