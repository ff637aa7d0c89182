-- What a call that looks at a rule of the gate says of it.
use Rattle.std.specs.Prelude.{◌≡◌, Option, Some, None, Result, Ok, Err, ⊤}
use Rattle.wasm_types.specs.Plain.{PlainRefusal, plain_refusal}
use Rattle.gatekeeper.specs.declared.stop.GateStop.{GateStop}
use Rattle.gatekeeper.specs.declared.stop.GateStop.TheVariants as stops

-- the code is taken where no rule refuses it; want of memory says nothing
abbrev pub Judges : {A : Type 0} → Result A GateStop → Option PlainRefusal → Type 0
Judges (Ok a) refusal = refusal ≡ None
Judges (Err (stops.Refused r)) refusal = refusal ≡ Some (plain_refusal r)
Judges (Err stops.NoMemory) refusal = ⊤
