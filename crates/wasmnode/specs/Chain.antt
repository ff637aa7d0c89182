-- The chain at a height, and the texts that answer a genesis, a block and a query.
use Rattle.std.specs.Prelude.{ℕ, ◌+◌, ◌-◌, List, [], ◌∷◌, take, Option, None, Some, unwrap_or, nat_lt, if◌then◌else◌}
use Rattle.gas_meter.specs.Costs.{standard_schedule}
use Rattle.chain_records.specs.State.{State}
use Rattle.chain_msgs.specs.Plain.{Genesis, Block, Answer}
use Rattle.query_router.specs.Calls.{query}
use Rattle.query_router.specs.Queries.{Queried}
use Rattle.submsg_dispatch.specs.Blocks.{BlockRan, block, state_at}
use Rattle.line_protocol.specs.Forms.{Question}
use Rattle.line_protocol.specs.Texts.{line_text, genesis_data, block_data, next_digest, first_digest, QueryResult, answer, out_of_gas, not_yet, pruned, QueryReply, query_data}

-- the state, and the digest of the block that led to it
pub record Chain : Type 0 where
  pub state : State
  pub digest : List ℕ

abbrev pub genesis_answer : Genesis → List ℕ
genesis_answer g = line_text (genesis_data g)

-- ---- a block

abbrev pub block_on : Chain → Block → BlockRan
block_on chain b = block standard_schedule chain.state b

abbrev pub next_height : Chain → ℕ
next_height chain = chain.state.facts.height + 1

abbrev pub block_digest : Chain → Block → List ℕ
block_digest chain b = next_digest chain.digest (next_height chain) (block_on chain b).results

-- the digest after these blocks, the first of which comes on this state and after this digest
abbrev pub digest_after : State → List ℕ → List Block → List ℕ
digest_after s last [] = last
digest_after s last (b ∷ blocks) =
    let chain : Chain = record { state = s; digest = last } in
    digest_after (block_on chain b).state (block_digest chain b) blocks

-- the chain after the first k blocks of a list
abbrev pub chain_after : State → List Block → ℕ → Chain
chain_after start blocks k = record {
  state = state_at standard_schedule start blocks k;
  digest = digest_after start first_digest (take k blocks);
}

abbrev pub block_answer : Chain → Block → List ℕ
block_answer chain b = line_text (block_data (next_height chain) (block_on chain b).results (block_digest chain b))

-- ---- a query

abbrev pub result_of : Option Answer → QueryResult
result_of None = out_of_gas
result_of (Some found) = answer found

-- the oldest height that can be asked where n is the newest one
abbrev pub oldest : ℕ → ℕ → ℕ
oldest keep n = n + 1 - keep

abbrev pub reply : Question → ℕ → ℕ → ℕ → QueryResult → QueryReply
reply q n height gas result = record { line = q.line; client = q.client; n = n; height = height; gas = gas; result = result }

-- what the query is answered on the state of this height
abbrev pub answered : Question → ℕ → ℕ → State → QueryReply
answered q n height s =
    let ran : Queried = query standard_schedule s q.request 0 s.facts.query_gas in
    reply q n height (s.facts.query_gas - ran.left) (result_of ran.answer)

-- The reply to a query that saw n as the newest height, where so many heights are kept. A height that isn't there yet, or not
-- any more, is told, and uses no gas.
abbrev pub reply_at : (ℕ → State) → ℕ → Question → ℕ → ℕ → QueryReply
reply_at states keep q n height =
    if nat_lt n height then reply q n height 0 (not_yet n)
    else (if nat_lt height (oldest keep n) then reply q n height 0 (pruned (oldest keep n) n) else answered q n height (states height))

-- the asked height, or the newest
abbrev pub reply_of : (ℕ → State) → ℕ → Question → ℕ → QueryReply
reply_of states keep q n = reply_at states keep q n (unwrap_or q.height n)

abbrev pub query_answer : (ℕ → State) → ℕ → Question → ℕ → List ℕ
query_answer states keep q n = line_text (query_data (reply_of states keep q n))
