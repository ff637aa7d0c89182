-- The parts of a module that is read, one behind the other.
use Rattle.std.proofs.Common.{◌≡◌, ℕ, List, [], length, Ok, sym, ap, subst, ◌∙◌}
use Rattle.wasm_types.specs.declared.kind.ReadKind.TheVariants.{Magic}
use Rattle.wasm_types.specs.declared.limits.Limits.{Limits}
use Rattle.wasm_types.specs.declared.global.GlobalVar.{GlobalVar}
use Rattle.wasm_types.specs.Plain.{PlainModule, PlainFuncType, PlainImport, PlainExport, PlainElem, PlainCode, PlainSeg}
use Rattle.wasm_types.specs.Place.{Place, Reading, then_read}
use Rattle.wasm_types.specs.Part.{index, sized, word_read}
use Rattle.wasm_types.specs.Types.{func_type, import_, table, limits, global, export_, elem, seg}
use Rattle.wasm_types.specs.Body.{code}
use Rattle.wasm_types.specs.ModuleText.{header, customs, section_read, end_read, module_part}
use Rattle.wasm_reader.specs.Gives.{vector_read}
use Rattle.wasm_reader.proofs.Tables.{bind_ok, ok_is, value, place_of}

pub record Parts (start : Place) (m : PlainModule) : Type 0 where
  pub p0 : Place
  pub p1 : Place
  pub p2 : Place
  pub p3 : Place
  pub p4 : Place
  pub p5 : Place
  pub p6 : Place
  pub p7 : Place
  pub p8 : Place
  pub p9 : Place
  pub p10 : Place
  pub p11 : Place
  pub is_header : word_read header Magic start ≡ Ok (tt, p0)
  pub are_customs : customs.read p0 ≡ Ok (tt, p1)
  pub types : section_read 1 (vector_read func_type.read) p1 ≡ Ok (m.types, p2)
  pub imports : section_read 2 (vector_read import_.read) p2 ≡ Ok (m.imports, p3)
  pub funcs : section_read 3 (vector_read index.read) p3 ≡ Ok (m.funcs, p4)
  pub tables : section_read 4 (vector_read table.read) p4 ≡ Ok (m.tables, p5)
  pub memories : section_read 5 (vector_read limits.read) p5 ≡ Ok (m.memories, p6)
  pub globals : section_read 6 (vector_read global.read) p6 ≡ Ok (m.globals, p7)
  pub exports : section_read 7 (vector_read export_.read) p7 ≡ Ok (m.exports, p8)
  pub elems : section_read 9 (vector_read elem.read) p8 ≡ Ok (m.elems, p9)
  pub codes : section_read 10 (vector_read (sized code).read) p9 ≡ Ok (m.codes, p10)
  pub segs : section_read 11 (vector_read seg.read) p10 ≡ Ok (m.segs, p11)

empty : PlainModule
empty = record { types = []; imports = []; funcs = []; tables = []; memories = []; globals = []; exports = []; elems = []; codes = []; segs = [] }

-- What is still read, where the parts before it are those of a module.
rest11 : PlainModule → Place → Reading PlainModule
rest11 m start = then_read (end_read (length m.funcs) (length m.codes) start) (λ _ after. Ok (m, after))

rest10 : PlainModule → Place → Reading PlainModule
rest10 m start = then_read (section_read 11 (vector_read seg.read) start) (λ xs. rest11 (record m { segs = xs }))

rest9 : PlainModule → Place → Reading PlainModule
rest9 m start = then_read (section_read 10 (vector_read (sized code).read) start) (λ xs. rest10 (record m { codes = xs }))

rest8 : PlainModule → Place → Reading PlainModule
rest8 m start = then_read (section_read 9 (vector_read elem.read) start) (λ xs. rest9 (record m { elems = xs }))

rest7 : PlainModule → Place → Reading PlainModule
rest7 m start = then_read (section_read 7 (vector_read export_.read) start) (λ xs. rest8 (record m { exports = xs }))

rest6 : PlainModule → Place → Reading PlainModule
rest6 m start = then_read (section_read 6 (vector_read global.read) start) (λ xs. rest7 (record m { globals = xs }))

rest5 : PlainModule → Place → Reading PlainModule
rest5 m start = then_read (section_read 5 (vector_read limits.read) start) (λ xs. rest6 (record m { memories = xs }))

rest4 : PlainModule → Place → Reading PlainModule
rest4 m start = then_read (section_read 4 (vector_read table.read) start) (λ xs. rest5 (record m { tables = xs }))

rest3 : PlainModule → Place → Reading PlainModule
rest3 m start = then_read (section_read 3 (vector_read index.read) start) (λ xs. rest4 (record m { funcs = xs }))

rest2 : PlainModule → Place → Reading PlainModule
rest2 m start = then_read (section_read 2 (vector_read import_.read) start) (λ xs. rest3 (record m { imports = xs }))

rest1 : PlainModule → Place → Reading PlainModule
rest1 m start = then_read (section_read 1 (vector_read func_type.read) start) (λ xs. rest2 (record m { types = xs }))

step1 : (m n : PlainModule) (start end : Place) → rest1 m start ≡ Ok (n, end) → (x : List PlainFuncType × Place) × (section_read 1 (vector_read func_type.read) start ≡ Ok x) × (rest2 (record m { types = x.0 }) x.1 ≡ Ok (n, end))
unfolding rest1
step1 m n start end e = bind_ok (section_read 1 (vector_read func_type.read) start) (λ xs. rest2 (record m { types = xs })) (n, end) e

step2 : (m n : PlainModule) (start end : Place) → rest2 m start ≡ Ok (n, end) → (x : List PlainImport × Place) × (section_read 2 (vector_read import_.read) start ≡ Ok x) × (rest3 (record m { imports = x.0 }) x.1 ≡ Ok (n, end))
unfolding rest2
step2 m n start end e = bind_ok (section_read 2 (vector_read import_.read) start) (λ xs. rest3 (record m { imports = xs })) (n, end) e

step3 : (m n : PlainModule) (start end : Place) → rest3 m start ≡ Ok (n, end) → (x : List ℕ × Place) × (section_read 3 (vector_read index.read) start ≡ Ok x) × (rest4 (record m { funcs = x.0 }) x.1 ≡ Ok (n, end))
unfolding rest3
step3 m n start end e = bind_ok (section_read 3 (vector_read index.read) start) (λ xs. rest4 (record m { funcs = xs })) (n, end) e

step4 : (m n : PlainModule) (start end : Place) → rest4 m start ≡ Ok (n, end) → (x : List Limits × Place) × (section_read 4 (vector_read table.read) start ≡ Ok x) × (rest5 (record m { tables = x.0 }) x.1 ≡ Ok (n, end))
unfolding rest4
step4 m n start end e = bind_ok (section_read 4 (vector_read table.read) start) (λ xs. rest5 (record m { tables = xs })) (n, end) e

step5 : (m n : PlainModule) (start end : Place) → rest5 m start ≡ Ok (n, end) → (x : List Limits × Place) × (section_read 5 (vector_read limits.read) start ≡ Ok x) × (rest6 (record m { memories = x.0 }) x.1 ≡ Ok (n, end))
unfolding rest5
step5 m n start end e = bind_ok (section_read 5 (vector_read limits.read) start) (λ xs. rest6 (record m { memories = xs })) (n, end) e

step6 : (m n : PlainModule) (start end : Place) → rest6 m start ≡ Ok (n, end) → (x : List GlobalVar × Place) × (section_read 6 (vector_read global.read) start ≡ Ok x) × (rest7 (record m { globals = x.0 }) x.1 ≡ Ok (n, end))
unfolding rest6
step6 m n start end e = bind_ok (section_read 6 (vector_read global.read) start) (λ xs. rest7 (record m { globals = xs })) (n, end) e

step7 : (m n : PlainModule) (start end : Place) → rest7 m start ≡ Ok (n, end) → (x : List PlainExport × Place) × (section_read 7 (vector_read export_.read) start ≡ Ok x) × (rest8 (record m { exports = x.0 }) x.1 ≡ Ok (n, end))
unfolding rest7
step7 m n start end e = bind_ok (section_read 7 (vector_read export_.read) start) (λ xs. rest8 (record m { exports = xs })) (n, end) e

step8 : (m n : PlainModule) (start end : Place) → rest8 m start ≡ Ok (n, end) → (x : List PlainElem × Place) × (section_read 9 (vector_read elem.read) start ≡ Ok x) × (rest9 (record m { elems = x.0 }) x.1 ≡ Ok (n, end))
unfolding rest8
step8 m n start end e = bind_ok (section_read 9 (vector_read elem.read) start) (λ xs. rest9 (record m { elems = xs })) (n, end) e

step9 : (m n : PlainModule) (start end : Place) → rest9 m start ≡ Ok (n, end) → (x : List PlainCode × Place) × (section_read 10 (vector_read (sized code).read) start ≡ Ok x) × (rest10 (record m { codes = x.0 }) x.1 ≡ Ok (n, end))
unfolding rest9
step9 m n start end e = bind_ok (section_read 10 (vector_read (sized code).read) start) (λ xs. rest10 (record m { codes = xs })) (n, end) e

step10 : (m n : PlainModule) (start end : Place) → rest10 m start ≡ Ok (n, end) → (x : List PlainSeg × Place) × (section_read 11 (vector_read seg.read) start ≡ Ok x) × (rest11 (record m { segs = x.0 }) x.1 ≡ Ok (n, end))
unfolding rest10
step10 m n start end e = bind_ok (section_read 11 (vector_read seg.read) start) (λ xs. rest11 (record m { segs = xs })) (n, end) e

last_step : (m n : PlainModule) (start end : Place) → rest11 m start ≡ Ok (n, end) → m ≡ n
unfolding rest11
last_step m n start end e =
    let x = bind_ok (end_read (length m.funcs) (length m.codes) start) (λ _ after. Ok (m, after)) (n, end) e in
    value (ok_is (m, x.0.1) (n, end) x.2)

headed : (start : Place) (m : PlainModule) (end : Place) → module_part.read start ≡ Ok (m, end) → (p0 : Place) × (p1 : Place) × (word_read header Magic start ≡ Ok (tt, p0)) × (customs.read p0 ≡ Ok (tt, p1)) × (rest1 empty p1 ≡ Ok (m, end))
unfolding module_part empty rest1 rest2 rest3 rest4 rest5 rest6 rest7 rest8 rest9 rest10 rest11
headed start m end e =
    let x = bind_ok (word_read header Magic start) (λ _ here. then_read (customs.read here) (λ _. rest1 empty)) (m, end) e in
    let y = bind_ok (customs.read x.0.1) (λ _. rest1 empty) (m, end) x.2 in
    (x.0.1, y.0.1, x.1, y.1, y.2)

pub parts : (start : Place) (m : PlainModule) (end : Place) → module_part.read start ≡ Ok (m, end) → Parts start m
parts start m end e =
    let h = headed start m end e in
    let m0 : PlainModule = empty in
    let x1 = step1 m0 m h.1 end h.4 in
    let m1 : PlainModule = record m0 { types = x1.0.0 } in
    let x2 = step2 m1 m x1.0.1 end x1.2 in
    let m2 : PlainModule = record m1 { imports = x2.0.0 } in
    let x3 = step3 m2 m x2.0.1 end x2.2 in
    let m3 : PlainModule = record m2 { funcs = x3.0.0 } in
    let x4 = step4 m3 m x3.0.1 end x3.2 in
    let m4 : PlainModule = record m3 { tables = x4.0.0 } in
    let x5 = step5 m4 m x4.0.1 end x4.2 in
    let m5 : PlainModule = record m4 { memories = x5.0.0 } in
    let x6 = step6 m5 m x5.0.1 end x5.2 in
    let m6 : PlainModule = record m5 { globals = x6.0.0 } in
    let x7 = step7 m6 m x6.0.1 end x6.2 in
    let m7 : PlainModule = record m6 { exports = x7.0.0 } in
    let x8 = step8 m7 m x7.0.1 end x7.2 in
    let m8 : PlainModule = record m7 { elems = x8.0.0 } in
    let x9 = step9 m8 m x8.0.1 end x8.2 in
    let m9 : PlainModule = record m8 { codes = x9.0.0 } in
    let x10 = step10 m9 m x9.0.1 end x9.2 in
    let m10 : PlainModule = record m9 { segs = x10.0.0 } in
    let same : m10 ≡ m = last_step m10 m x10.0.1 end x10.2 in
    subst (λ (n : PlainModule). Parts start n) same (record {
      p0 = h.0;
      p1 = h.1;
      p2 = x1.0.1;
      p3 = x2.0.1;
      p4 = x3.0.1;
      p5 = x4.0.1;
      p6 = x5.0.1;
      p7 = x6.0.1;
      p8 = x7.0.1;
      p9 = x8.0.1;
      p10 = x9.0.1;
      p11 = x10.0.1;
      is_header = h.2;
      are_customs = h.3;
      types = x1.1;
      imports = x2.1;
      funcs = x3.1;
      tables = x4.1;
      memories = x5.1;
      globals = x6.1;
      exports = x7.1;
      elems = x8.1;
      codes = x9.1;
      segs = x10.1;
    })

-- two readings of one part end at one place
pub agree : {A : Type 0} (read : Place → Reading A) (p p' : Place) (x x' : A) (q q' : Place) → read p ≡ Ok (x, q) → p ≡ p' → read p' ≡ Ok (x', q') → q ≡ q'
agree read p p' x x' q q' e same f = place_of (ok_is (x, q) (x', q') (sym e ∙ ap read same ∙ f))
