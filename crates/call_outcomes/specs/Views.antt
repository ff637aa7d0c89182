-- What the call that reads a contract's result answers, by what the result says.
use Rattle.std.specs.Prelude.{◌≡◌, Result, Ok, Err, ⊤}
use Rattle.std.specs.declared.alloc.AllocError.{AllocError}
use Rattle.chain_msgs.specs.declared.failure.Failure as failure_type
use Rattle.chain_msgs.specs.declared.response.ResponseStop.{ResponseStop}
use Rattle.chain_msgs.specs.declared.response.ResponseStop.TheVariants as stops
use Rattle.host_imports.specs.Faults.{bad_result, bad_event}
use Rattle.contract_call.specs.declared.entry.Entry.{Entry}
use Rattle.call_outcomes.specs.Results.{faulted_with}
use Rattle.chain_msgs.specs.declared.response.Response as response_type
use Rattle.chain_msgs.specs.Messages.{Response, response_view}
use Rattle.chain_msgs.specs.Plain.{Failure, failure_view}
use Rattle.call_outcomes.specs.declared.stop.CallStop.{CallStop}
use Rattle.call_outcomes.specs.declared.stop.CallStop.TheVariants.{Failed, NoMemory}

-- the response or the failure; want of memory says nothing
abbrev pub Says : Result response_type.Response CallStop → Result Response Failure → Type 0
Says (Ok response) said = said ≡ Ok (response_view response)
Says (Err (Failed failure)) said = said ≡ Err (failure_view failure)
Says (Err NoMemory) said = ⊤

-- ---- stops

-- the stop of a failure that was made, or of want of memory
abbrev pub stop_from : Result failure_type.Failure AllocError → CallStop
stop_from (Ok failure) = Failed failure
stop_from (Err error) = NoMemory

-- the stop is this failure, unless memory ran out
abbrev pub Fails : CallStop → Failure → Type 0
Fails (Failed found) failure = failure_view found ≡ failure
Fails NoMemory failure = ⊤

-- the stop of a result that wasn't read
abbrev pub IsUnread : Entry → ResponseStop → CallStop → Type 0
IsUnread entry stops.Json stop = Fails stop (faulted_with entry bad_result)
IsUnread entry (stops.Shape path want) stop = Fails stop (faulted_with entry bad_result)
IsUnread entry (stops.Event number) stop = Fails stop (faulted_with entry bad_event)
IsUnread entry stops.NoMemory stop = stop ≡ NoMemory
