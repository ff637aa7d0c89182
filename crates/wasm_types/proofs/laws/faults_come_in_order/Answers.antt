use Rattle.wasm_types.proofs.TextLaws.{wants_instruction, wants_same_count, cuts_number, cuts_header, cuts_byte, cuts_length}
use Rattle.wasm_types.proofs.laws.faults_come_in_order.Goals as goal

pub returns : goal.returns
returns c = record {
  nesting = wants_instruction;
  count = wants_same_count;
  cut_number = cuts_number;
  cut_header = cuts_header;
  cut_byte = cuts_byte;
  cut_length = cuts_length;
}
