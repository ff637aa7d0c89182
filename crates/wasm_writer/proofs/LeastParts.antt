-- The shortest spellings of lists, and of the parts that sections other than that of codes are made of.
use Rattle.std.proofs.Common.{◌≡◌, ℕ, zero, suc, Bool, true, false, List, [], ◌∷◌, ◌++◌, length, Option, Some, None, is_some, Result, Ok, Err, refl, sym, ap, subst, arith, inl, inr}
use Rattle.std.specs.Prelude.{◌==◌, ◌||◌, nat_le}
use Rattle.std.specs.Str.{is_utf8}
use Rattle.std.specs.List.{flat_map}
use Rattle.std.proofs.lemmas.Bool.{eqb-true, leb-true, cases_Bool}
use Rattle.std.proofs.lemmas.List.{append-nil, length-append}
use Rattle.wasm_types.specs.declared.kind.ReadKind.{ReadKind}
use Rattle.wasm_types.specs.declared.kind.ReadKind.TheVariants.{Cut, Name, Form, ValueType, Results, Flag, Kind, Float}
use Rattle.wasm_types.specs.Part.{Part, done, ◌>>=◌, byte, marker, index, vector, sized}
use Rattle.wasm_types.specs.declared.value.ValType.{ValType}
use Rattle.wasm_types.specs.declared.value.Value.TheVariants as values
use Rattle.wasm_types.specs.declared.limits.Limits.{Limits}
use Rattle.wasm_types.specs.declared.import.Desc.{Desc}
use Rattle.wasm_types.specs.declared.import.Desc.TheVariants as descs
use Rattle.wasm_types.specs.declared.export.Ext.{Ext}
use Rattle.wasm_types.specs.declared.export.Ext.TheVariants as exts
use Rattle.wasm_types.specs.declared.global.Init.{Init}
use Rattle.wasm_types.specs.declared.global.Init.TheVariants as inits
use Rattle.wasm_types.specs.declared.global.GlobalVar.{GlobalVar}
use Rattle.wasm_types.specs.declared.sort.Sort.{Sort}
use Rattle.wasm_types.specs.declared.sort.Sort.TheVariants as sorts
use Rattle.wasm_types.specs.declared.opcode.ConstOp.{ConstOp}
use Rattle.wasm_types.specs.declared.opcode.ConstOp.TheVariants as consts
use Rattle.wasm_types.specs.Opcodes.{const_op}
use Rattle.wasm_types.specs.Plain.{PlainFuncType, PlainImport, PlainExport, PlainElem, PlainSeg}
use Rattle.wasm_types.specs.Types.{text, val_type, val_type_of, so_many_results, result_type, func_type, flag, flag_of, limits_with, limits, table, sort_of, global_desc, desc_of, desc, import_, ext_of, ext, export_, const_operand, const_value, const_end, end_of, init, global, elem, seg}
use Rattle.wasm_writer.specs.ShortNumber.{unsigned, signed_32, signed_64}
use Rattle.wasm_writer.specs.Spelling.{vector_text, sized_text, val_type_byte, val_type_text, result_text, func_type_text, flag_byte, max_text, limits_text, table_text, desc_text, import_text, ext_text, export_text, init_value_text, init_text, global_text, elem_text, seg_text}
use Rattle.wasm_writer.proofs.Least.{Bytes, front_bytes, back_bytes, both_bytes, Shorter, Least, least_done, least_made, least_join, least_byte, least_judged, least_anything, repeated_len, least_times}
use Rattle.wasm_writer.proofs.Shapes.{either, const_byte, const_is, end_is}
use Rattle.wasm_writer.proofs.LeastNumbers.{unsigned_short, least_unsigned, least_signed_32, least_signed_64}

pub least_vector : {A : Type 0} {p : Part A} {t : A → List ℕ} → Least p t → Least (vector p) (vector_text t)
unfolding vector_text
least_vector {A} {p} {t} l =
    least_join least_unsigned (λ n. least_times l n) (λ n items front rest f s. ap (λ (k : ℕ). unsigned k ++ flat_map t items) (repeated_len p.Spells n rest items s))

pub least_sized : {A : Type 0} {p : Part A} {t : A → List ℕ} → Least p t → Least (sized p) (λ a. sized_text (t a))
unfolding sized_text
least_sized {A} {p} {t} l = record { holds = holds }
  where
    holds : (a : A) (other : List ℕ) → Bytes other → (sized p).Spells other a → Shorter (λ u. (sized p).Spells u a) other (unsigned (length (t a)) ++ t a)
    holds a other bytes s =
        let all = subst (λ (x : List ℕ). Bytes x) s.cut bytes in
        let two = l.holds a s.back (back_bytes s.front s.back all) s.second.1 in
        let one = unsigned_short 5 32 s.front (length (t a)) s.value (front_bytes s.front s.back all) s.first (omega (arith, two.short, s.second.0)) (omega arith) (omega arith) in
        record {
          bytes = both_bytes (unsigned (length (t a))) (t a) one.bytes two.bytes;
          spelled = record { front = unsigned (length (t a)); back = t a; value = length (t a); cut = refl; first = one.spelled; second = (refl, two.spelled) };
          short = omega (arith, one.short, two.short, ap length s.cut, length-append s.front s.back, length-append (unsigned (length (t a))) (t a));
        }

-- this byte alone
marker_is : (wanted b : ℕ) (why : ReadKind) (u : Unit {0}) → marker wanted why b ≡ Ok u → wanted ≡ b
marker_is wanted b why u e =
    elim (cases_Bool (b == wanted)) [ inl t ↦ sym (eqb-true b wanted t) | inr f ↦ let g = rw f at e in absurd cc ]

pub least_marker : (wanted : ℕ) (why : ReadKind) → Least (byte (marker wanted why)) (λ _. wanted ∷ [])
least_marker wanted why = least_byte Cut (marker wanted why) (λ _. wanted) (λ b u lt e. marker_is wanted b why u e)

-- ---- types

pub least_text : Least text sized_text
unfolding text
least_text = least_sized (least_judged Name is_utf8 least_anything)

-- what a value says of its byte, where there is one
abbrev pub Says : {A : Type 0} → (A → ℕ) → ℕ → Result A ReadKind → Type 0
Says byte_of b (Ok a) = byte_of a ≡ b
Says byte_of b (Err why) = Unit {0}

pub same_byte : (b n : ℕ) → (b == n) ≡ true → n ≡ b
same_byte b n t = sym (eqb-true b n t)

pub val_type_says : (b : ℕ) → Says val_type_byte b (val_type_of b)
val_type_says b =
    either (Says val_type_byte b) (b == 0x7F) _ _ (same_byte b 0x7F) (λ _.
    either (Says val_type_byte b) (b == 0x7E) _ _ (same_byte b 0x7E) (λ _.
    either (Says val_type_byte b) (b == 0x7C || b == 0x7D) (Err Float) (Err ValueType) (λ _. tt) (λ _. tt)))

pub said : {A : Type 0} (byte_of : A → ℕ) (value_of : ℕ → Result A ReadKind) → ((b : ℕ) → Says byte_of b (value_of b)) → Least (byte value_of) (λ a. byte_of a ∷ [])
said {A} byte_of value_of says =
    least_byte Cut value_of byte_of (λ b a lt e. subst (λ (r : Result A ReadKind). Says byte_of b r) e (says b))

pub least_val_type : Least val_type val_type_text
unfolding val_type
least_val_type = said val_type_byte val_type_of val_type_says

abbrev one_text : Option ValType → List ℕ
one_text None = []
one_text (Some t) = val_type_text t

least_results : (n : ℕ) → Least (so_many_results n) one_text
least_results zero = least_done None refl
least_results (suc n) = least_made least_val_type (λ t. Some t) (λ t. refl)

results_text : (n : ℕ) (o : Option ValType) (rest : List ℕ) → nat_le n 1 ≡ true → (so_many_results n).Spells rest o → result_text o ≡ unsigned n ++ one_text o
results_text zero o rest few s = rw s.1 (sym (append-nil (unsigned 0)))
results_text (suc zero) o rest few s = rw s.second.1 refl
results_text (suc (suc n)) o rest few s = absurd (omega (arith, leb-true (suc (suc n)) 1 few))

least_result_type : Least result_type result_text
unfolding result_type
least_result_type =
    least_join (least_judged Results (λ n. nat_le n 1) least_unsigned) least_results (λ n o front rest f s. results_text n o rest f.1 s)

pub least_func_type : Least func_type func_type_text
unfolding func_type
least_func_type =
    least_join {t2 = λ _ t. vector_text val_type_text t.params ++ result_text t.result} (least_marker 0x60 Form) (λ _.
    least_join {t2 = λ _ t. result_text t.result} (least_vector least_val_type) (λ params.
    least_made least_result_type (λ result. record { params = params; result = result }) (λ result. refl))
    (λ params t front rest f s. ap (λ (u : PlainFuncType). vector_text val_type_text u.params ++ result_text t.result) s.second.1))
    (λ _ t front rest f s. refl)

flag_says : (b : ℕ) → Says flag_byte b (flag_of b)
flag_says b =
    either (Says flag_byte b) (b == 0) _ _ (same_byte b 0) (λ _. either (Says flag_byte b) (b == 1) (Ok true) (Err Flag) (same_byte b 1) (λ _. tt))

pub least_flag : Least flag (λ b. flag_byte b ∷ [])
unfolding flag
least_flag = said flag_byte flag_of flag_says

has_max_is : (has_max : Bool) (l : Limits) (rest : List ℕ) → (index >>= limits_with has_max).Spells rest l → flag_byte (is_some l.max) ≡ flag_byte has_max
has_max_is false l rest s = ap (λ (m : Limits). flag_byte (is_some m.max)) s.second.1
has_max_is true l rest s = ap (λ (m : Limits). flag_byte (is_some m.max)) s.second.second.1

min_is : (has_max : Bool) (min : ℕ) (l : Limits) (rest : List ℕ) → (limits_with has_max min).Spells rest l → l.min ≡ min
min_is false min l rest s = ap (λ (m : Limits). m.min) s.1
min_is true min l rest s = ap (λ (m : Limits). m.min) s.second.1

least_limits_with : (has_max : Bool) (min : ℕ) → Least (limits_with has_max min) (λ l. max_text l.max)
least_limits_with false min = least_done _ refl
least_limits_with true min = least_made least_unsigned (λ max. record { min = min; max = Some max }) (λ max. refl)

pub least_limits : Least limits limits_text
unfolding limits
least_limits =
    least_join {t2 = λ _ l. unsigned l.min ++ max_text l.max} least_flag (λ has_max.
    least_join {t2 = λ _ l. max_text l.max} least_unsigned (λ min. least_limits_with has_max min)
    (λ min l front rest f s. ap (λ (n : ℕ). unsigned n ++ max_text l.max) (min_is has_max min l rest s)))
    (λ has_max l front rest f s. ap (λ (b : ℕ). b ∷ (unsigned l.min ++ max_text l.max)) (has_max_is has_max l rest s))

pub least_table : Least table table_text
unfolding table
least_table = least_join {t2 = λ _ l. limits_text l} (least_marker 0x70 ValueType) (λ _. least_limits) (λ _ l front rest f s. refl)

-- ---- imports and exports

abbrev sort_byte : Sort → ℕ
sort_byte sorts.Func = 0
sort_byte sorts.Table = 1
sort_byte sorts.Memory = 2
sort_byte sorts.Global = 3

sort_says : (b : ℕ) → Says sort_byte b (sort_of b)
sort_says b =
    either (Says sort_byte b) (b == 0) _ _ (same_byte b 0) (λ _.
    either (Says sort_byte b) (b == 1) _ _ (same_byte b 1) (λ _.
    either (Says sort_byte b) (b == 2) _ _ (same_byte b 2) (λ _.
    either (Says sort_byte b) (b == 3) (Ok sorts.Global) (Err Kind) (same_byte b 3) (λ _. tt))))

-- what stands behind the sort
abbrev desc_rest : Desc → List ℕ
desc_rest (descs.Func ty) = unsigned ty
desc_rest (descs.Table size) = table_text size
desc_rest (descs.Memory size) = limits_text size
desc_rest (descs.Global ty mutable) = val_type_byte ty ∷ flag_byte mutable ∷ []

abbrev desc_flag : Desc → List ℕ
desc_flag (descs.Global ty mutable) = flag_byte mutable ∷ []
desc_flag _ = []

least_global_desc : Least global_desc desc_rest
unfolding global_desc
least_global_desc =
    least_join {t2 = λ _ d. desc_flag d} least_val_type (λ ty. least_made least_flag (λ mutable. descs.Global ty mutable) (λ mutable. refl))
    (λ ty d front rest f s. rw s.second.1 refl)

least_desc_of : (sort : Sort) → Least (desc_of sort) desc_rest
least_desc_of sorts.Func = least_made least_unsigned (λ ty. descs.Func ty) (λ ty. refl)
least_desc_of sorts.Table = least_made least_table (λ size. descs.Table size) (λ size. refl)
least_desc_of sorts.Memory = least_made least_limits (λ size. descs.Memory size) (λ size. refl)
least_desc_of sorts.Global = least_global_desc

desc_is : (sort : Sort) (d : Desc) (rest : List ℕ) → (desc_of sort).Spells rest d → desc_text d ≡ sort_byte sort ∷ desc_rest d
unfolding global_desc
desc_is sorts.Func d rest s = rw s.second.1 refl
desc_is sorts.Table d rest s = rw s.second.1 refl
desc_is sorts.Memory d rest s = rw s.second.1 refl
desc_is sorts.Global d rest s = rw s.second.second.1 refl

least_desc : Least desc desc_text
unfolding desc
least_desc = least_join {t2 = λ _ d. desc_rest d} (said sort_byte sort_of sort_says) least_desc_of (λ sort d front rest f s. desc_is sort d rest s)

pub least_import : Least import_ import_text
unfolding import_
least_import =
    least_join {t2 = λ _ i. sized_text i.name ++ desc_text i.desc} least_text (λ from.
    least_join {t2 = λ _ i. desc_text i.desc} least_text (λ name.
    least_made least_desc (λ what. record { «module» = from; name = name; desc = what }) (λ what. refl))
    (λ name i front rest f s. ap (λ (j : PlainImport). sized_text j.name ++ desc_text i.desc) s.second.1))
    (λ from i front rest f s. ap (λ (j : PlainImport). sized_text j.module ++ (sized_text i.name ++ desc_text i.desc)) s.second.second.1)

abbrev ext_rest : Ext → List ℕ
ext_rest (exts.Func i) = unsigned i
ext_rest (exts.Table i) = unsigned i
ext_rest (exts.Memory i) = unsigned i
ext_rest (exts.Global i) = unsigned i

least_ext_of : (sort : Sort) → Least (index >>= (λ i. done (ext_of sort i))) ext_rest
least_ext_of sorts.Func = least_made least_unsigned (ext_of sorts.Func) (λ i. refl)
least_ext_of sorts.Table = least_made least_unsigned (ext_of sorts.Table) (λ i. refl)
least_ext_of sorts.Memory = least_made least_unsigned (ext_of sorts.Memory) (λ i. refl)
least_ext_of sorts.Global = least_made least_unsigned (ext_of sorts.Global) (λ i. refl)

ext_is : (sort : Sort) (i : ℕ) (e : Ext) → e ≡ ext_of sort i → ext_text e ≡ sort_byte sort ∷ ext_rest e
ext_is sorts.Func i e same = rw same refl
ext_is sorts.Table i e same = rw same refl
ext_is sorts.Memory i e same = rw same refl
ext_is sorts.Global i e same = rw same refl

least_ext : Least ext ext_text
unfolding ext
least_ext = least_join {t2 = λ _ e. ext_rest e} (said sort_byte sort_of sort_says) least_ext_of (λ sort e front rest f s. ext_is sort s.value e s.second.1)

pub least_export : Least export_ export_text
unfolding export_
least_export =
    least_join {t2 = λ _ e. ext_text e.ext} least_text (λ name. least_made least_ext (λ what. record { name = name; ext = what }) (λ what. refl))
    (λ name e front rest f s. ap (λ (o : PlainExport). sized_text o.name ++ ext_text e.ext) s.second.1)

-- ---- constant expressions, globals and segments

abbrev operand_text : Init → List ℕ
operand_text (inits.Const (values.I32 n)) = signed_32 n
operand_text (inits.Const (values.I64 n)) = signed_64 n
operand_text (inits.Global i) = unsigned i

least_const_operand : (op : ConstOp) → Least (const_operand op) operand_text
least_const_operand consts.I32Const = least_made least_signed_32 (λ n. inits.Const (values.I32 n)) (λ n. refl)
least_const_operand consts.I64Const = least_made least_signed_64 (λ n. inits.Const (values.I64 n)) (λ n. refl)
least_const_operand consts.GlobalGet = least_made least_unsigned (λ i. inits.Global i) (λ i. refl)

operand_is : (op : ConstOp) (i : Init) (rest : List ℕ) → (const_operand op).Spells rest i → init_value_text i ≡ const_byte op ∷ operand_text i
operand_is consts.I32Const i rest s = rw s.second.1 refl
operand_is consts.I64Const i rest s = rw s.second.1 refl
operand_is consts.GlobalGet i rest s = rw s.second.1 refl

least_const_value : Least const_value init_value_text
unfolding const_value
least_const_value =
    least_join {t2 = λ _ i. operand_text i} (least_byte Cut const_op const_byte (λ b op lt e. const_is b op e)) least_const_operand
    (λ op i front rest f s. operand_is op i rest s)

least_const_end : Least const_end (λ _. 0x0B ∷ [])
unfolding const_end
least_const_end = least_byte Cut end_of (λ _. 0x0B) (λ b u lt e. end_is b u e)

pub least_init : Least init init_text
unfolding init
least_init =
    least_join {t2 = λ _ i. 0x0B ∷ []} least_const_value (λ value. least_made least_const_end (λ _. value) (λ _. refl))
    (λ value i front rest f s. ap (λ (j : Init). init_value_text j ++ 0x0B ∷ []) s.second.1)

pub least_global : Least global global_text
unfolding global
least_global =
    least_join {t2 = λ _ g. flag_byte g.mutable ∷ init_text g.init} least_val_type (λ ty.
    least_join {t2 = λ _ g. init_text g.init} least_flag (λ mutable.
    least_made least_init (λ value. record { ty = ty; mutable = mutable; init = value }) (λ value. refl))
    (λ mutable g front rest f s. ap (λ (h : GlobalVar). flag_byte h.mutable ∷ init_text g.init) s.second.1))
    (λ ty g front rest f s. ap (λ (h : GlobalVar). val_type_byte h.ty ∷ flag_byte g.mutable ∷ init_text g.init) s.second.second.1)

pub least_elem : Least elem elem_text
unfolding elem
least_elem =
    least_join {t2 = λ _ e. init_text e.offset ++ vector_text unsigned e.funcs} least_unsigned (λ table.
    least_join {t2 = λ _ e. vector_text unsigned e.funcs} least_init (λ offset.
    least_made (least_vector least_unsigned) (λ funcs. record { table = table; offset = offset; funcs = funcs }) (λ funcs. refl))
    (λ offset e front rest f s. ap (λ (o : PlainElem). init_text o.offset ++ vector_text unsigned e.funcs) s.second.1))
    (λ table e front rest f s. ap (λ (o : PlainElem). unsigned o.table ++ (init_text e.offset ++ vector_text unsigned e.funcs)) s.second.second.1)

pub least_seg : Least seg seg_text
unfolding seg
least_seg =
    least_join {t2 = λ _ e. init_text e.offset ++ sized_text e.bytes} least_unsigned (λ memory.
    least_join {t2 = λ _ e. sized_text e.bytes} least_init (λ offset.
    least_made (least_sized least_anything) (λ bytes. record { memory = memory; offset = offset; bytes = bytes }) (λ bytes. refl))
    (λ offset e front rest f s. ap (λ (o : PlainSeg). init_text o.offset ++ sized_text e.bytes) s.second.1))
    (λ memory e front rest f s. ap (λ (o : PlainSeg). unsigned o.memory ++ (init_text e.offset ++ sized_text e.bytes)) s.second.second.1)
