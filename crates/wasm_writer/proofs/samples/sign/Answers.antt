use Rattle.std.proofs.Common.{subst, sym}
use Rattle.wasm_types.specs.Plain.{PlainModule}
use Rattle.wasm_writer.specs.Samples.{sign_module}
use Rattle.wasm_types.specs.ModuleText.{HasSpelling}
use Rattle.wasm_writer.proofs.SampleSpellings.{sign_spelled}
use Rattle.wasm_writer.proofs.samples.sign.Goals as goal

pub returns-clause-module : goal.returns-clause-module
unfolding sign_module
returns-clause-module c = c.in_ok-sample.ensures

pub returns-clause-spelled : goal.returns-clause-spelled
unfolding sign_module
returns-clause-spelled c = subst (λ (m : PlainModule). HasSpelling m) (sym c.in_ok-sample.ensures) sign_spelled
