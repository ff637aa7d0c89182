-- How a query is replied, from where its height stands and what is answered on the state.
use Rattle.std.proofs.Common.{◌≡◌, ◌∙◌, ℕ, ◌+◌, ◌<◌, ◌≤◌, Bool, false, List, sym, ap, refl, arith}
use Rattle.std.specs.Prelude.{nat_lt, unwrap_or, if◌then◌else◌}
use Rattle.std.proofs.lemmas.Bool.{lt-ltb, le-ltb}
use denote.Ref.{Bor}
use Rattle.gas_meter.specs.declared.schedule.Schedule.{Schedule}
use Rattle.gas_meter.specs.Costs.{standard_schedule}
use Rattle.gas_meter.specs.Gas.{Gas, unused}
use Rattle.chain_records.specs.State.{Bytes, State}
use Rattle.kv_layers.specs.declared.layers.Layers.{Layers}
use Rattle.kv_layers.specs.Layers.{Stands, HasCurrent}
use Rattle.kv_layers.specs.Maps.{new_maps}
use Rattle.state_runs.specs.Runs.{Run, map_of}
use Rattle.query_router.specs.Lawful.{HasLawful}
use Rattle.query_router.specs.Calls.{query}
use Rattle.query_router.specs.Queries.{Queried}
use Rattle.line_protocol.specs.Parts.{Question}
use Rattle.line_protocol.specs.Texts.{QueryResult, not_yet, pruned, QueryReply}
use Rattle.wasmnode.specs.Asking.{IsAnswered, IsReplied}
use Rattle.wasmnode.specs.Chain.{result_of, oldest, reply, answered, reply_at, reply_of}
use Rattle.wasmnode.specs.History.{History, newest, state_of}
use Rattle.wasmnode.specs.Standing.{Shows}

-- ---- where a height stands

-- the reply, by whether the height is past the newest one, and whether it is below the oldest that is kept
abbrev windowed : ℕ → History → ℕ → Question → Bool → Bool → QueryReply
windowed keep h height q past below =
    let top = newest h in
    if past then reply q top height 0 (not_yet top) else (if below then reply q top height 0 (pruned (oldest keep top) top) else answered q top height (state_of h height))

-- a height that is there
is_within : (keep : ℕ) (h : History) (height : ℕ) (q : Question) → height ≤ newest h → reply_at (state_of h) keep q (newest h) height ≡ windowed keep h height q false (nat_lt height (oldest keep (newest h)))
is_within keep h height q low = ap (λ past. windowed keep h height q past (nat_lt height (oldest keep (newest h)))) (le-ltb (newest h) height low)

-- one below the oldest that is kept
pub is_pruned : (keep : ℕ) (h : History) (height n old : ℕ) (q : Question) → n ≡ newest h → height ≤ n → height < oldest keep (newest h) → old ≡ oldest keep (newest h) → IsReplied keep h q height 0 (pruned old n)
is_pruned keep h height n old q e low below is =
    let top = newest h in
    is_within keep h height q (omega (arith, e, low)) ∙ ap (windowed keep h height q false) (lt-ltb height (oldest keep top) below) ∙ ap (λ m. reply q top height 0 (pruned m top)) (sym is)
    ∙ ap (λ m. reply q top height 0 (pruned old m)) (sym e)

-- one that is kept
pub is_asked : (keep : ℕ) (h : History) (height : ℕ) (q : Question) → height ≤ newest h → oldest keep (newest h) ≤ height → reply_at (state_of h) keep q (newest h) height ≡ answered q (newest h) height (state_of h height)
is_asked keep h height q low above =
    is_within keep h height q low ∙ ap (windowed keep h height q false) (le-ltb height (oldest keep (newest h)) above)

-- ---- what is answered on a state

abbrev Shown : Bor (List Run) → Bytes → Type 0
Shown base map = map_of base.now ≡ map

pub has_lawful : (layers : Layers (Bor (List Run))) (snapshot : Bor (List Run)) (s : State) → ((map : Bytes) → Shown snapshot map → Stands Shown layers (new_maps map)) → Shows snapshot.now s → HasLawful (HasCurrent Shown layers)
has_lawful layers snapshot s made shows = record {
  map = map_of snapshot.now;
  state = s;
  stands = (new_maps (map_of snapshot.now), made (map_of snapshot.now) refl, refl);
  spelled = shows.spelled;
  holds = shows.lawful;
}

pub is_answered : (s : State) (request : List ℕ) (limit : ℕ) (costs : Schedule) (old new : Gas) (result : QueryResult) → costs ≡ standard_schedule → old ≡ unused limit → new.left + new.used ≡ old.left + old.used → (result ≡ result_of (query costs s request 0 old.left).answer) × ((query costs s request 0 old.left).left ≡ new.left) → IsAnswered s request limit new.used result
is_answered s request limit costs old new result standard begun sum gives =
    let same : query costs s request 0 old.left ≡ query standard_schedule s request 0 limit =
    ap (λ c. query c s request 0 old.left) standard ∙ ap (λ (g : Gas). query standard_schedule s request 0 g.left) begun in
    let left : (query standard_schedule s request 0 limit).left ≡ new.left = sym (ap (λ (r : Queried). r.left) same) ∙ gives.1 in
    let all : old.left + old.used ≡ limit + 0 = ap (λ (g : Gas). g.left + g.used) begun in
    record {
      gas_used = omega (arith, left, all, sum);
      told = gives.0 ∙ ap (λ (r : Queried). result_of r.answer) same;
    }

-- ---- the reply

pub replied : (keep : ℕ) (h : History) (q : Question) (n height gas : ℕ) (result : QueryResult) → n ≡ newest h → height ≡ unwrap_or q.height n → IsReplied keep h q height gas result → reply q n height gas result ≡ reply_of (state_of h) keep q (newest h)
replied keep h q n height gas result e at is =
    let top = newest h in
    let asked : height ≡ unwrap_or q.height top = at ∙ ap (unwrap_or q.height) e in
    ap (λ m. reply q m height gas result) e ∙ sym is ∙ ap (reply_at (state_of h) keep q top) asked
