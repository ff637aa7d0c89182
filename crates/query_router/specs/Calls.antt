-- What comes of a contract's call on a state of the chain: its queries are answered on the way, from what it did so far.
use Rattle.std.specs.Prelude.{ℕ, zero, suc, ◌+◌, ◌-◌, Bool, List, [], ◌∷◌, ◌++◌, codes, Option, Some, None}
use Rattle.std.specs.Option.{is_some}
use Rattle.std.specs.FinMap.{get}
use Rattle.gas_meter.specs.declared.schedule.Schedule.{Schedule}
use Rattle.chain_addr.specs.Text.{text_of}
use Rattle.chain_msgs.specs.Answers.{Outcome, says, no_json, no_form, bad_event, query_result_in}
use Rattle.chain_msgs.specs.Messages.{Told, told, error}
use Rattle.chain_msgs.specs.Plain.{answered, contract_error}
use Rattle.chain_msgs.specs.Plain as chain
use Rattle.chain_msgs.specs.Texts.{env_text, answer_text}
use Rattle.chain_records.specs.Records.{PlainContract}
use Rattle.chain_records.specs.State.{Bytes, State}
use Rattle.code_registry.specs.Codes.{bytes_at}
use Rattle.wasm_types.specs.Plain.{PlainModule}
use Rattle.wasm_types.specs.ModuleText.{module_of}
use Rattle.gas_store.specs.Typed.{storage_in, with_storage}
use Rattle.host_imports.specs.Faults.{bad_result, fault_text}
use Rattle.host_imports.specs.Work.{Place, Ended, gave, faulted, ran_out}
use Rattle.contract_call.specs.declared.entry.Entry.{Entry}
use Rattle.contract_call.specs.declared.entry.Entry.TheVariants.{Query}
use Rattle.contract_call.specs.Calls.{Call, call_of, Outset, Answer, Reached, finished, wants, arguments, part}
use Rattle.query_router.specs.Queries.{Queried, Asking, Smart, answers, at_contract, paid_answer}

-- how the call ended, what the contract keeps then, the gas that is left, and the codes that were asked for, in order
pub record Called : Type 0 where
  pub ended : Ended (List ℕ)
  pub storage : Bytes
  pub left : ℕ
  pub fetched : List (List ℕ)

abbrev pub over : Ended (List ℕ) → Place → Called
over ended p = record { ended = ended; storage = p.storage; left = p.left; fetched = [] }

abbrev pub fetched_before : List (List ℕ) → Called → Called
fetched_before codes c = record c { fetched = codes ++ c.fetched }

-- ---- queries on the way

-- the answer is told to the contract, which goes on; without an answer the gas has run out
abbrev pub told_answer : Option chain.Answer → ℕ → List (List ℕ) → Bytes → (Answer → Called) → Called
told_answer None left fetched storage next = record { ended = ran_out; storage = storage; left = left; fetched = fetched }
told_answer (Some a) left fetched storage next = fetched_before fetched (next (record { bytes = answer_text a; left = left }))

abbrev pub told_query : Queried → Bytes → (Answer → Called) → Called
told_query q storage next = told_answer q.answer q.left q.fetched storage next

-- a query sees what the contract keeps by now
abbrev pub gone_on : Asking → State → List ℕ → Ended Reached → Place → (Answer → Called) → Called
gone_on ask s addr (gave (finished bytes)) p next = over (gave bytes) p
gone_on ask s addr (gave (wants request)) p next = told_query (ask (with_storage s addr p.storage) request p.left) p.storage next
gone_on ask s addr (faulted fault) p next = over (faulted fault) p
gone_on ask s addr ran_out p next = over ran_out p

-- what comes of a call after these answers, the newest first, where at most so many queries are still to come
unfoldable pub gathered : Asking → State → List ℕ → Call → Outset → ℕ → List Answer → Called
gathered ask s addr c o zero so_far = over ran_out (part c o so_far).place
gathered ask s addr c o (suc n) so_far =
    let r = part c o so_far in
    gone_on ask s addr r.ended r.place (λ a. gathered ask s addr c o n (a ∷ so_far))

-- After its first query, each query of a call leaves less gas than the one before, so `left + 2` of them are more than there are.
abbrev pub gathered_all : Asking → State → List ℕ → Call → Outset → Called
gathered_all ask s addr c o = gathered ask s addr c o (o.left + 2) []

-- ---- calls

-- each contract of a lawful state has a code, and the code a module; anywhere else this counts as gas that has run out
abbrev pub no_call : State → List ℕ → ℕ → Called
no_call s addr left = record { ended = ran_out; storage = storage_in s addr; left = left; fetched = [] }

abbrev pub outset_of : Schedule → State → List ℕ → ℕ → Outset
outset_of costs s addr left = record { costs = costs; prefix = s.facts.prefix; storage = storage_in s addr; left = left }

abbrev pub call_of_module : Asking → Schedule → State → List ℕ → Entry → List (List ℕ) → Bool → ℕ → Option PlainModule → Called
call_of_module ask costs s addr entry args pinned left None = no_call s addr left
call_of_module ask costs s addr entry args pinned left (Some m) = gathered_all ask s addr (call_of m entry args pinned) (outset_of costs s addr left)

-- the code is asked for before anything is charged
abbrev pub call_of_code : Asking → Schedule → State → List ℕ → Entry → List (List ℕ) → Bool → ℕ → Option (List ℕ) → Called
call_of_code ask costs s addr entry args pinned left None = no_call s addr left
call_of_code ask costs s addr entry args pinned left (Some bytes) = fetched_before (bytes ∷ []) (call_of_module ask costs s addr entry args pinned left (module_of bytes))

-- the contract with this address is called, as the code with this id has it
unfoldable pub call_on : Asking → Schedule → State → List ℕ → ℕ → Entry → List (List ℕ) → ℕ → Called
call_on ask costs s addr id entry args left = call_of_code ask costs s addr entry args (is_some (get s.pins id)) left (bytes_at s id)

-- ---- contracts that are asked

-- a query has no place in a block
abbrev pub query_env : State → List ℕ → List ℕ
query_env s addr = env_text (record { height = s.facts.height; time = s.facts.time; chain_id = s.facts.chain_id; index = None; contract = text_of s.facts.prefix addr })

abbrev pub result_answer : Outcome (Told (List ℕ)) → chain.Answer
result_answer (says (told bytes)) = answered bytes
result_answer (says (error text)) = contract_error text
result_answer no_json = contract_error (fault_text bad_result)
result_answer (no_form fault) = contract_error (fault_text bad_result)
result_answer (bad_event number) = contract_error (fault_text bad_result)

abbrev pub ended_answer : Ended (List ℕ) → Option chain.Answer
ended_answer (gave bytes) = Some (result_answer (query_result_in bytes))
ended_answer (faulted fault) = Some (contract_error (fault_text fault))
ended_answer ran_out = None

abbrev pub smart_told : Called → Queried
smart_told c = record { answer = ended_answer c.ended; left = c.left; fetched = c.fetched }

abbrev pub smart_call : Asking → Schedule → State → List ℕ → List ℕ → PlainContract → ℕ → Queried
smart_call ask costs s msg addr c left = smart_told (call_on ask costs s addr c.code_id Query (arguments (query_env s addr) None msg) left)

-- the contract's queries are asked in this way
abbrev pub smart_at : Asking → Schedule → Smart
smart_at ask costs s request contract msg = at_contract s request contract (smart_call ask costs s msg)

-- the depth is looked at before the address
abbrev pub too_deep : Smart
too_deep s request contract msg = answers (contract_error (codes "QueryDepth"))

-- ---- depths

-- a query that may ask contracts through so many levels
unfoldable pub queries : Schedule → ℕ → Asking
queries costs zero = paid_answer too_deep costs
queries costs (suc n) = paid_answer (smart_at (queries costs n) costs) costs

-- the bytes of a request, asked at this depth, which is 10 at most, with so much gas left
abbrev pub query : Schedule → State → List ℕ → ℕ → ℕ → Queried
query costs s request depth left = queries costs (10 - depth) s request left
