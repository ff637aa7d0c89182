-- Runs of a few small modules.
use Rattle.std.specs.Prelude.{◌≡◌, ℕ, ◌-◌, List, [], ◌∷◌, ◌++◌, Some, None, refl}
use Rattle.gas_meter.specs.Costs.{standard_schedule}
use Rattle.linear_memory.specs.Numbers.{number_of, bytes_of}
use Rattle.wasm_types.specs.declared.value.ValType.TheVariants as val_types
use Rattle.wasm_types.specs.declared.value.Value.TheVariants.{I32}
use Rattle.wasm_types.specs.declared.import.Desc.TheVariants as descs
use Rattle.wasm_types.specs.declared.instr.Instr.{Instr}
use Rattle.wasm_types.specs.declared.instr.Instr.TheVariants.{Op, Index, Mem, Const, Loop, End}
use Rattle.wasm_types.specs.Plain.{PlainFuncType, PlainCode, PlainModule}
use Rattle.wasm_machine.specs.declared.turn.TrapKind.TheVariants.{StackOverflow, OutOfBounds}
use Rattle.wasm_machine.specs.Acts.{Act, call, go, answer, memory, Standing, done, trap, out_of_gas, ask}
use Rattle.wasm_machine.specs.Start.{start_memory, start_globals, func_type, code_at}
use Rattle.wasm_machine.specs.Exec.{run, exec}

abbrev code_of : List Instr → PlainCode
code_of body = record { locals = []; targets = []; body = body ++ End ∷ [] }

-- functions of one type, without a memory
abbrev module_of : PlainFuncType → List PlainCode → PlainModule
module_of t codes = record {
  types = t ∷ [];
  imports = [];
  funcs = 0 ∷ 0 ∷ 0 ∷ [];
  tables = [];
  memories = [];
  globals = [];
  exports = [];
  elems = [];
  codes = codes;
  segs = [];
}

abbrev to_i32 : PlainFuncType
to_i32 = record { params = val_types.I32 ∷ []; result = Some val_types.I32 }

abbrev to_none : PlainFuncType
to_none = record { params = val_types.I32 ∷ []; result = None }

abbrev standing_after : PlainModule → List Act → Standing × ℕ
standing_after m acts = let r = exec m acts in (r.standing, r.left)

-- a loop that never ends is out of gas
abbrev spin : PlainModule
spin = module_of to_i32 (code_of (Loop (Some val_types.I32) 2 ∷ Index 0x0C 0 ∷ End ∷ []) ∷ [])

pub a_loop_without_end_uses_all_gas : standing_after spin (call 0 (I32 0 ∷ []) ∷ go 100 standard_schedule ∷ []) ≡ (out_of_gas, 0)
unfolding exec run start_memory start_globals func_type code_at
a_loop_without_end_uses_all_gas = refl

-- a function that calls itself meets the limit of frames, each call for 11
abbrev diver : PlainModule
diver = module_of to_none (code_of (Index 0x20 0 ∷ Index 0x10 0 ∷ []) ∷ [])

pub frames_end_at_512 : standing_after diver (call 0 (I32 0 ∷ []) ∷ go 10000 standard_schedule ∷ []) ≡ (trap StackOverflow, 10000 - 5632)
unfolding exec run start_memory start_globals func_type code_at
frames_end_at_512 = refl

-- A call that asks is answered with an act of memory and another call before; then it goes on where it paused.
abbrev keeper : PlainModule
keeper = record {
  types = record { params = val_types.I32 ∷ val_types.I32 ∷ []; result = None } ∷ to_i32 ∷ [];
  imports = record { «module» = []; name = []; desc = descs.Func 0 } ∷ [];
  funcs = 1 ∷ 1 ∷ [];
  tables = [];
  memories = [];
  globals = [];
  exports = [];
  elems = [];
  codes = code_of (Const (I32 64) ∷ Const (I32 80) ∷ Index 0x10 0 ∷ Index 0x20 0 ∷ []) ∷ code_of (Index 0x20 0 ∷ Op 0x0F ∷ []) ∷ [];
  segs = [];
}

abbrev asked : List Act
asked = call 1 (I32 3 ∷ []) ∷ go 100 standard_schedule ∷ []

abbrev answered : List Act
answered = asked ++ memory (7 ∷ []) ∷ call 2 (I32 5 ∷ []) ∷ go 88 standard_schedule ∷ answer None ∷ go 86 standard_schedule ∷ []

pub an_import_is_asked : standing_after keeper asked ≡ (ask 0 (I32 64 ∷ I32 80 ∷ []), 88)
unfolding exec run start_memory start_globals func_type code_at
an_import_is_asked = refl

pub an_answered_call_goes_on : exec keeper answered ≡ record { standing = done (Some (I32 3)); memory = 7 ∷ []; globals = []; left = 85 }
unfolding exec run start_memory start_globals func_type code_at
an_answered_call_goes_on = refl

-- a store where the place and the offset together pass 2^32
abbrev far : PlainModule
far = module_of to_none (code_of (Index 0x20 0 ∷ Const (I32 9) ∷ Mem 0x3A 0 0xFFFFFFFF ∷ []) ∷ [])

pub no_sum_of_places_wraps : standing_after far (memory (1 ∷ 2 ∷ []) ∷ call 0 (I32 1 ∷ []) ∷ go 10 standard_schedule ∷ []) ≡ (trap OutOfBounds, 6)
unfolding exec run start_memory start_globals func_type code_at number_of bytes_of
no_sum_of_places_wraps = refl
