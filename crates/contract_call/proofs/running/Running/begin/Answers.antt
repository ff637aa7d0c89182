use Rattle.std.proofs.Common.{refl, sym, ap}
use Rattle.wasm_types.specs.Plain.{plain_module}
use Rattle.contract_call.specs.Running.{StandsForPart, CanGoOn}
use Rattle.contract_call.proofs.running.Running.begin.Goals as goal

pub returns-clause-stands : goal.returns-clause-stands
unfolding StandsForPart
returns-clause-stands c = λ outset. (
  refl,
  record {
    runs = ap plain_module (sym c.in_ok-machine.ensures.module);
    acts = c.in_ok-machine.ensures.stands;
    same_entry = refl;
    same_args = sym c.in_ok-args.ensures;
    same_pinned = refl;
  },
)

pub returns-clause-ready : goal.returns-clause-ready
unfolding CanGoOn
returns-clause-ready c = c.in_ok-machine.ensures.phase
