-- What came so far of transactions that run one after the other, and what those left do.
use Rattle.std.proofs.Common.{◌≡◌, ◌∙◌, ℕ, ◌+◌, List, [], ◌∷◌, ◌++◌, Option, append-nil, append_assoc, refl, sym, ap, subst}
use Rattle.gas_meter.specs.declared.schedule.Schedule.{Schedule}
use Rattle.kv_layers.specs.declared.layers.Layers.{Layers}
use Rattle.kv_layers.specs.Layers.{Stands, HasCurrent}
use Rattle.kv_layers.specs.Maps.{Maps, changed}
use Rattle.chain_records.specs.Records.{PlainFacts}
use Rattle.chain_records.specs.State.{Bytes, State, Spells}
use Rattle.chain_msgs.specs.Plain.{Tx, TxResult}
use Rattle.gatekeeper.specs.Cache.{Tally}
use Rattle.gatekeeper.specs.Fetches.{Tallies, TalliesJoin}
use Rattle.query_router.specs.Lawful.{IsLawful, HasLawful}
use Rattle.submsg_dispatch.specs.Reaching.{Arrives, RunsAll}
use Rattle.submsg_dispatch.specs.Transactions.{TxRan, tx}
use Rattle.submsg_dispatch.specs.Blocks.{BlockRan, all_run}
use Rattle.submsg_dispatch.specs.Under.{HasLawfulUnder, RunsUnder, RunsAllUnder}
use Rattle.submsg_dispatch.proofs.Leading.{no_fetch}

-- with what came before in front
abbrev pub with_front : List TxResult → List (List ℕ) → BlockRan → BlockRan
with_front front codes ran = record { state = ran.state; results = front ++ ran.results; fetched = codes ++ ran.fetched }

-- one transaction is done, and the others go on
one_more : (front : List TxResult) (codes : List (List ℕ)) (first : TxRan) (result : TxResult) (rest : BlockRan) → result ≡ first.result
    → with_front front codes (record { state = rest.state; results = first.result ∷ rest.results; fetched = first.fetched ++ rest.fetched }) ≡ with_front (front ++ result ∷ []) (codes ++ first.fetched) rest
one_more front codes first result rest is =
    let results : front ++ first.result ∷ rest.results ≡ (front ++ result ∷ []) ++ rest.results = ap (λ (r : TxResult). front ++ r ∷ rest.results) (sym is) ∙ sym (append_assoc front (result ∷ []) rest.results) in
    let fetched : codes ++ (first.fetched ++ rest.fetched) ≡ (codes ++ first.fetched) ++ rest.fetched = sym (append_assoc codes first.fetched rest.fetched) in
    λ i. record { state = rest.state; results = results i; fetched = fetched i }

same_prefix : {one other : PlainFacts} {prefix : List ℕ} → one ≡ other → other.prefix ≡ prefix → one.prefix ≡ prefix
same_prefix same is = ap (λ (f : PlainFacts). f.prefix) same ∙ is

-- ---- on the way

-- Some transactions were done on layers that stood for these maps, of which the current one spelled the state. What came of them
-- and what those left give is what all give.
pub record Reached {B : Type 0} (S : B → Bytes → Type 0) (now : Layers B) (maps : Maps) (s : State) (before after : Option Tally) (costs : Schedule) (front : List TxResult) (index : ℕ) (left : List Tx) (all : BlockRan) : Type 0 where
  pub state : State
  pub arrives : Arrives S now maps s state
  pub codes : List (List ℕ)
  pub tallies : Tallies before codes after
  pub same : all ≡ with_front front codes (all_run costs state index left)

-- for each map and lawful state with this prefix that the layers stood for at first
pub record Reaches {B : Type 0} (prefix : List ℕ) (S : B → Bytes → Type 0) (first now : Layers B) (before after : Option Tally) (costs : Schedule) (front : List TxResult) (index : ℕ) (left txs : List Tx) : Type 0 where
  pub reached : (maps : Maps) (s : State) → Stands S first maps → Spells maps.current s → IsLawful s → s.facts.prefix ≡ prefix → Reached S now maps s before after costs front index left (all_run costs s 0 txs)

module _ {B : Type 0} {S : B → Bytes → Type 0} {prefix : List ℕ} where
  pub reach_start : {layers : Layers B} {tally : Option Tally} {costs : Schedule} (front : List TxResult) (txs : List Tx) → front ≡ [] → Reaches prefix S layers layers tally tally costs front 0 txs txs
  reach_start {tally = tally} {costs = costs} front txs none = record {
    reached = λ maps s stands spelled lawful is. record {
      state = s;
      arrives = record { map = maps.current; stands = stands; spelled = spelled; lawful = lawful; facts = refl };
      codes = [];
      tallies = no_fetch tally;
      same = ap (λ (f : List TxResult). with_front f [] (all_run costs s 0 txs)) (sym none);
    };
  }

  -- the layers stand for a lawful state at each turn
  pub reach_lawful : {first now : Layers B} {before after : Option Tally} {costs : Schedule} {front : List TxResult} {index : ℕ} {left txs : List Tx} → HasLawfulUnder prefix (HasCurrent S first)
      → Reaches prefix S first now before after costs front index left txs → HasLawfulUnder prefix (HasCurrent S now)
  reach_lawful some reaches =
      let maps = some.stands.0 in
      let at = reaches.reached maps some.state some.stands.1 (rw some.stands.2 some.spelled) some.holds.0 some.holds.1 in
      record { map = at.arrives.map; state = at.state; stands = (changed maps at.arrives.map, at.arrives.stands, refl); spelled = at.arrives.spelled; holds = (at.arrives.lawful, same_prefix at.arrives.facts some.holds.1) }

  pub reach_more : {first now next : Layers B} {before between after : Option Tally} {costs : Schedule} (front : List TxResult) (index : ℕ) (t : Tx) (ts txs : List Tx) (result : TxResult) → TalliesJoin
      → RunsUnder prefix S now next between after (λ s. tx costs s t index) result → Reaches prefix S first now before between costs front index (t ∷ ts) txs
      → Reaches prefix S first next before after costs (front ++ result ∷ []) (index + 1) ts txs
  reach_more {before = before} {between = between} {after = after} {costs = costs} front index t ts txs result join runs reaches = record {
    reached = λ maps s stands spelled lawful is.
        let at = reaches.reached maps s stands spelled lawful is in
        let did = runs.ran (changed maps at.arrives.map) at.state at.arrives.stands at.arrives.spelled at.arrives.lawful (same_prefix at.arrives.facts is) in
        let first : TxRan = tx costs at.state t index in
        record {
          state = first.state;
          arrives = record { map = did.0.map; stands = did.0.stands; spelled = did.0.spelled; lawful = did.0.lawful; facts = did.0.facts ∙ at.arrives.facts };
          codes = at.codes ++ first.fetched;
          tallies = join at.codes first.fetched before between after at.tallies did.2;
          same = at.same ∙ one_more front at.codes first result (all_run costs first.state (index + 1) ts) did.1;
        };
  }

  pub reach_end : {first now : Layers B} {before after : Option Tally} {costs : Schedule} {front : List TxResult} {index : ℕ} {txs : List Tx} → Reaches prefix S first now before after costs front index [] txs → RunsAllUnder prefix S first now before after costs txs front
  reach_end {now = now} {before = before} {after = after} {front = front} reaches = record {
    ran = λ maps s stands spelled lawful is.
        let at = reaches.reached maps s stands spelled lawful is in
        subst (λ (ran : BlockRan). Arrives S now maps s ran.state × (front ≡ ran.results) × Tallies before ran.fetched after) (sym at.same)
        (at.arrives, sym (append-nil front), subst (λ (codes : List (List ℕ)). Tallies before codes after) (sym (append-nil at.codes)) at.tallies);
  }

  -- ---- for callers

  pub all_for_all : {old new : Layers B} {before after : Option Tally} {costs : Schedule} {txs : List Tx} {results : List TxResult} → ((maps : Maps) (s : State) → Stands S old maps → Spells maps.current s → s.facts.prefix ≡ prefix) → RunsAllUnder prefix S old new before after costs txs results → RunsAll S old new before after costs txs results
  all_for_all is runs maps s stands spelled lawful = runs.ran maps s stands spelled lawful (is maps s stands spelled)

  pub lawful_all : {old new : Layers B} {before after : Option Tally} {costs : Schedule} {txs : List Tx} {results : List TxResult} → HasLawfulUnder prefix (HasCurrent S old) → RunsAllUnder prefix S old new before after costs txs results → HasLawful (HasCurrent S new)
  lawful_all {costs = costs} {txs = txs} some runs =
      let maps = some.stands.0 in
      let did = runs.ran maps some.state some.stands.1 (rw some.stands.2 some.spelled) some.holds.0 some.holds.1 in
      record { map = did.0.map; state = (all_run costs some.state 0 txs).state; stands = (changed maps did.0.map, did.0.stands, refl); spelled = did.0.spelled; holds = did.0.lawful }
