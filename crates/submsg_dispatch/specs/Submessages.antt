-- Messages by their kind, the submessages that contracts ask for, and the replies to them, by levels of depth.
use Rattle.std.specs.Prelude.{ℕ, zero, suc, ◌-◌, List, [], ◌∷◌, ◌++◌, Option, None, Some, Result, Ok, Err, is_ok, if◌then◌else◌}
use Rattle.gas_meter.specs.declared.schedule.Schedule.{Schedule}
use Rattle.chain_records.specs.State.{State}
use Rattle.chain_msgs.specs.Plain.{Event, Failure}
use Rattle.chain_msgs.specs.Messages.{CosmosMsg, bank_send, bank_burn, execute, instantiate, migrate, update_admin, clear_admin, other, SubMsg, Reply, ReplyResult}
use Rattle.chain_msgs.specs.Messages as messages
use Rattle.contract_call.specs.declared.entry.Entry.{Entry}
use Rattle.contract_call.specs.declared.entry.Entry.TheVariants.{Instantiate, Execute, Migrate, Sudo, Query}
use Rattle.contract_call.specs.declared.entry.Entry.TheVariants as entries
use Rattle.call_outcomes.specs.Events.{told_events}
use Rattle.call_outcomes.specs.Replies.{wants_reply, failure_told, data_told, address_told}
use Rattle.submsg_dispatch.specs.Parts.{Part, done, fails, charge, reads, attempt, ◌>>=◌}
use Rattle.submsg_dispatch.specs.Failures.{too_deep, unsupported}
use Rattle.submsg_dispatch.specs.Messages.{Outcome, send_coins, burn_coins, change_admin, drop_admin}
use Rattle.submsg_dispatch.specs.Calling.{Called, executes, instantiates, migrates, commands, replies}

-- what is done one level deeper: the message of a sender, and the reply to the contract with an address
pub record Level : Type 0 where
  pub message : List ℕ → CosmosMsg → Part Outcome
  pub reply : List ℕ → Reply → Part Outcome

-- what a call with its submessages gives so far: events, and data
pub record Given : Type 0 where
  pub events : List Event
  pub out : Option (List ℕ)

-- ---- one submessage

-- what a reply is told of it
abbrev pub result_told : Result Outcome Failure → ReplyResult
result_told (Ok o) = messages.done o.events o.reply_out
result_told (Err failure) = messages.failed (failure_told failure)

-- a failed one has no events
abbrev pub events_of : Result Outcome Failure → List Event
events_of (Ok o) = o.events
events_of (Err failure) = []

abbrev pub replaced_by : Option (List ℕ) → Option (List ℕ) → Option (List ℕ)
replaced_by before None = before
replaced_by before (Some out) = Some out

-- its events stand before those of its reply; data of the reply, if there are any, take the place of what there was
abbrev pub with_reply : Given → List Event → Outcome → Given
with_reply g events reply = record { events = g.events ++ events ++ reply.events; out = replaced_by g.out reply.out }

-- without a reply its failure is that of the caller
abbrev pub unreplied : Given → Result Outcome Failure → Part Given
unreplied g (Ok o) = done (record { events = g.events ++ o.events; out = g.out })
unreplied g (Err failure) = fails failure

-- what becomes of the caller
abbrev pub settled : Level → List ℕ → SubMsg → Given → Result Outcome Failure → Part Given
settled l caller m g r =
    if wants_reply m.reply_on (is_ok r) then (l.reply caller (record { id = m.id; result = result_told r }) >>= λ reply. done (with_reply g (events_of r) reply))
    else unreplied g r

-- within its limit of gas
abbrev pub sub : Level → List ℕ → SubMsg → Given → Part Given
sub l caller m g = attempt m.gas_limit (l.message caller m.msg) >>= settled l caller m g

-- in order, each with its own submessages and its reply before the next
unfoldable pub subs : Level → List ℕ → List SubMsg → Given → Part Given
subs l caller [] g = done g
subs l caller (m ∷ more) g = sub l caller m g >>= subs l caller more

-- ---- what comes of a call

-- behind the events of the call itself stand those that the contract tells
abbrev pub given_at_first : Called → Given
given_at_first c = record { events = c.own ++ told_events c.contract c.response.attributes c.response.events; out = c.response.out }

-- what a reply to the message is told of its data: of an instantiate with the contract's address before it; nobody replies to a `sudo` or a reply
abbrev pub told_of : Entry → List ℕ → Option (List ℕ) → Option (List ℕ)
told_of Execute contract out = data_told out
told_of Migrate contract out = data_told out
told_of Instantiate contract out = address_told contract out
told_of Sudo contract out = None
told_of entries.Reply contract out = None
told_of Query contract out = None

abbrev pub outcome_of : Called → Given → Outcome
outcome_of c g = record { events = g.events; out = g.out; reply_out = told_of c.entry c.contract g.out }

-- and then those of the submessages
abbrev pub responds : Level → Called → Part Outcome
responds l c = subs l c.addr c.response.messages (given_at_first c) >>= λ g. done (outcome_of c g)

-- ---- every message

-- by its kind, with its submessages at a level; what isn't there is unsupported, by the name of its form
abbrev pub by_kind : Level → Schedule → ℕ → List ℕ → List ℕ → CosmosMsg → Part Outcome
by_kind l costs index prefix sender (bank_send to amount) = send_coins costs sender to amount
by_kind l costs index prefix sender (bank_burn amount) = burn_coins costs sender amount
by_kind l costs index prefix sender (execute contract msg funds) = executes costs index prefix sender contract msg funds >>= responds l
by_kind l costs index prefix sender (instantiate admin id msg funds label salt) = instantiates costs index prefix sender admin id msg funds label salt >>= responds l
by_kind l costs index prefix sender (migrate contract id msg) = migrates costs index prefix sender contract id msg >>= responds l
by_kind l costs index prefix sender (update_admin contract admin) = change_admin sender contract admin
by_kind l costs index prefix sender (clear_admin contract) = drop_admin sender contract
by_kind l costs index prefix sender (other kind) = fails (unsupported kind)

-- ---- levels

-- at the greatest depth a message is paid and then too deep, and a reply is too deep at once
abbrev pub lowest : Schedule → Level
lowest costs = record {
  message = λ sender msg. charge costs.message >>= λ _. fails too_deep;
  reply = λ addr r. fails too_deep;
}

-- above another level, at which the submessages of its messages and of its replies are
abbrev pub above : Level → Schedule → ℕ → Level
above l costs index = record {
  message = λ sender msg. charge costs.message >>= λ _. reads (λ s. by_kind l costs index s.facts.prefix sender msg);
  reply = λ addr r. reads (λ s. replies costs index s.facts.prefix addr r) >>= responds l;
}

-- with so many levels below it
unfoldable pub level : Schedule → ℕ → ℕ → Level
level costs index zero = lowest costs
level costs index (suc n) = above (level costs index n) costs index

-- messages and replies nest at most so deep
abbrev pub deepest : ℕ
deepest = 32

abbrev pub at_depth : Schedule → ℕ → ℕ → Level
at_depth costs index depth = level costs index (deepest - depth)

-- a message of this sender at this depth, in the transaction of this index
abbrev pub handled : Schedule → List ℕ → CosmosMsg → ℕ → ℕ → Part Outcome
handled costs sender msg index depth = (at_depth costs index depth).message sender msg

-- a `sudo` of a transaction, whose submessages have depth 1
abbrev pub commanded : Schedule → List ℕ → ℕ → List ℕ → List ℕ → Part Outcome
commanded costs sender index contract msg = reads (λ s. commands costs index s.facts.prefix sender contract msg) >>= responds (at_depth costs index 1)
