use Rattle.wasm_types.proofs.KindLaws.{header_faults, type_faults, code_faults, constant_faults, section_faults}
use Rattle.wasm_types.proofs.laws.faults_have_their_kinds.Goals as goal

pub returns : goal.returns
returns c = record { header = header_faults; types = type_faults; codes = code_faults; constants = constant_faults; sections = section_faults }
