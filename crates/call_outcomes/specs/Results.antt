-- What the result of a contract's call says (CosmWasm 1.x), and the failure of a message or a reply whose call failed.
use Rattle.std.specs.Prelude.{ℕ, List, ◌++◌, codes, Result, Ok, Err}
use Rattle.chain_msgs.specs.Answers.{Outcome, says, no_json, no_form, bad_event, response_in}
use Rattle.chain_msgs.specs.Messages.{Response, Told, told, error}
use Rattle.chain_msgs.specs.Plain.{Failure, call_failed}
use Rattle.host_imports.specs.Faults.{Fault, bad_result, fault_text}
use Rattle.host_imports.specs.Faults as faults
use Rattle.contract_call.specs.declared.entry.Entry.{Entry}
use Rattle.contract_call.specs.declared.entry.Entry.TheVariants.{Instantiate, Execute, Migrate, Sudo, Reply, Query}

-- ---- failed calls

-- the code of a failed call, by the entry that was called; a query is no message, and has that of an execute
abbrev pub call_code : Entry → ℕ
call_code Instantiate = 4
call_code Execute = 5
call_code Migrate = 11
call_code Sudo = 5
call_code Reply = 5
call_code Query = 5

-- with this text
abbrev pub failed_with : Entry → List ℕ → Failure
failed_with entry text = record { kind = call_failed; codespace = codes "wasm"; code = call_code entry; detail = text }

abbrev pub faulted_with : Entry → Fault → Failure
faulted_with entry fault = failed_with entry (fault_text fault)

-- ---- results

-- what the contract tells, or the failure where it tells of an error, or where its result hasn't the form
abbrev pub said : Entry → Outcome (Told Response) → Result Response Failure
said entry (says (told r)) = Ok r
said entry (says (error text)) = Err (failed_with entry (codes "ContractError " ++ text))
said entry no_json = Err (faulted_with entry bad_result)
said entry (no_form fault) = Err (faulted_with entry bad_result)
said entry (bad_event number) = Err (faulted_with entry faults.bad_event)

-- of the bytes of a result
abbrev pub response_of : Entry → List ℕ → Result Response Failure
response_of entry bytes = said entry (response_in bytes)
