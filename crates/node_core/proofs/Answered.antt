-- What the answers to events are, and what they say of the state.
use Rattle.std.proofs.Common.{◌≡◌, ℕ, zero, suc, ◌+◌, ◌<◌, ◌≤◌, ◌==◌, nat_lt, Bool, true, false, cond, ◌⊎◌, List, [], ◌∷◌, length, get_or, set, replicate, is_some, unwrap_or, refl, sym, ap, subst, ◌∙◌, inl, inr, arith}
use Rattle.std.proofs.lemmas.Bool.{eqb-true, eqb-false, ltb-true, ltb-false}
use Rattle.std.proofs.lemmas.List.{get_or-set_same, get_or-set_other}
use Rattle.gatekeeper.specs.Cache.{looked}
use Rattle.node_core.specs.declared.answer.CoreAnswer.{CoreAnswer}
use Rattle.node_core.specs.declared.answer.CoreAnswer.TheVariants.{Nothing, Entered, NotYet, Pruned, Found, Refused}
use Rattle.node_core.specs.Plain.{Event, publish, enter, look, stow, pins, shelf_answer, tell}
use Rattle.node_core.specs.Steps.{State, Step, start, named, oldest, window_at, lawful, is_reader, is_actor, seen_by, found_or_missing, stepped}
use Rattle.node_core.specs.Events.{state_after}
use Rattle.node_core.specs.Laws.{FindsAsked, NeverFalls, IsWithin, reached}

-- an answer that isn't a refusal is that of the step
answered_by : (ok : Bool) (s : State) (step : Step) (x : CoreAnswer) → (lawful ok s step).answer ≡ x → (step.answer ≡ x) ⊎ (Refused ≡ x)
answered_by true s step x h = inl h
answered_by false s step x h = inr h

-- ---- what is found

found_if : (there : Bool) (code asked : ℕ) → found_or_missing there asked ≡ Found code → (there ≡ true) × (asked ≡ code)
found_if true code asked h = (refl, cc)
found_if false code asked h = cc

window_finds_nothing : (keep n height code : ℕ) → window_at keep n height ≡ Found code → ⊥
window_finds_nothing keep n height code h =
    elim (nat_lt n height) as (λ b. cond b (NotYet n) (cond (nat_lt height (oldest keep n)) (Pruned (oldest keep n) n) (Entered n height)) ≡ Found code → ⊥) [
      | true ↦ λ g. cc
      | false ↦ elim (nat_lt height (oldest keep n)) as (λ b. cond b (Pruned (oldest keep n) n) (Entered n height) ≡ Found code → ⊥) [
        | true ↦ λ g. cc
        | false ↦ λ g. cc
      ]
    ] h

pub finds_asked : FindsAsked
finds_asked s (publish height) code h =
    elim (answered_by (height == s.newest + 1) s _ (Found code) h) [ inl g ↦ cc | inr g ↦ cc ]
finds_asked s (enter reader height) code h =
    elim (answered_by (is_reader s reader) s _ (Found code) h) [ inl g ↦ absurd (window_finds_nothing s.keep s.newest (unwrap_or height s.newest) code g) | inr g ↦ cc ]
finds_asked s (look actor asked) code h =
    elim (answered_by (is_actor s actor) s _ (Found code) h) [
      | inl g ↦ inl (actor, ap (look actor) (found_if (is_some (looked s.cache (named asked)).held) code asked g).1)
      | inr g ↦ cc
    ]
finds_asked s (stow actor asked) code h =
    elim (answered_by (is_actor s actor) s _ (Found code) h) [ inl g ↦ cc | inr g ↦ cc ]
finds_asked s (pins codes) code h = cc
finds_asked s (shelf_answer actor asked good) code h =
    elim (answered_by (is_actor s actor) s _ (Found code) h) [
      | inl g ↦ let f = found_if good code asked g in inr (actor, ap (λ c. shelf_answer actor c good) f.1 ∙ ap (shelf_answer actor code) f.0)
      | inr g ↦ cc
    ]
finds_asked s (tell reader) code h =
    elim (answered_by (is_reader s reader) s _ (Found code) h) [ inl g ↦ cc | inr g ↦ cc ]

-- ---- what is entered

abbrev Within : ℕ → ℕ → ℕ → ℕ → Type 0
Within keep n newest height = (newest ≡ n) × (oldest keep newest ≤ height) × (height ≤ newest)

entered_is : (keep n asked newest height : ℕ) → oldest keep n ≤ asked → asked ≤ n → Entered n asked ≡ Entered newest height → Within keep n newest height
entered_is keep n asked newest height low high h =
    let n_is : n ≡ newest = cc in
    let height_is : asked ≡ height = cc in
    subst (λ x. Within keep n x height) n_is (subst (λ x. Within keep n n x) height_is (refl, low, high))

window_within : (keep n asked newest height : ℕ) → window_at keep n asked ≡ Entered newest height → Within keep n newest height
window_within keep n asked newest height h =
    (elim (nat_lt n asked) as (λ b. nat_lt n asked ≡ b → cond b (NotYet n) (cond (nat_lt asked (oldest keep n)) (Pruned (oldest keep n) n) (Entered n asked)) ≡ Entered newest height → Within keep n newest height) [
      | true ↦ λ t g. cc
      | false ↦ λ t. (elim (nat_lt asked (oldest keep n)) as (λ b. nat_lt asked (oldest keep n) ≡ b → cond b (Pruned (oldest keep n) n) (Entered n asked) ≡ Entered newest height → Within keep n newest height) [
        | true ↦ λ u g. cc
        | false ↦ λ u g. entered_is keep n asked newest height (ltb-false asked (oldest keep n) u) (ltb-false n asked t) g
      ]) refl
    ]) refl h

pub is_within : IsWithin
is_within s (publish height) newest entered h =
    elim (answered_by (height == s.newest + 1) s _ (Entered newest entered) h) [ inl g ↦ cc | inr g ↦ cc ]
is_within s (enter reader asked) newest entered h =
    elim (answered_by (is_reader s reader) s _ (Entered newest entered) h) [ inl g ↦ window_within s.keep s.newest (unwrap_or asked s.newest) newest entered g | inr g ↦ cc ]
is_within s (look actor asked) newest entered h =
    elim (answered_by (is_actor s actor) s _ (Entered newest entered) h) [
      | inl g ↦ elim (is_some (looked s.cache (named asked)).held) as (λ b. found_or_missing b asked ≡ Entered newest entered → Within s.keep s.newest newest entered) [ true ↦ λ f. cc | false ↦ λ f. cc ] g
      | inr g ↦ cc
    ]
is_within s (stow actor asked) newest entered h =
    elim (answered_by (is_actor s actor) s _ (Entered newest entered) h) [ inl g ↦ cc | inr g ↦ cc ]
is_within s (pins codes) newest entered h = cc
is_within s (shelf_answer actor asked good) newest entered h =
    elim (answered_by (is_actor s actor) s _ (Entered newest entered) h) [
      | inl g ↦ elim good as (λ b. found_or_missing b asked ≡ Entered newest entered → Within s.keep s.newest newest entered) [ true ↦ λ f. cc | false ↦ λ f. cc ] g
      | inr g ↦ cc
    ]
is_within s (tell reader) newest entered h =
    elim (answered_by (is_reader s reader) s _ (Entered newest entered) h) [ inl g ↦ cc | inr g ↦ cc ]

-- ---- what readers have seen

-- no reader has seen a height above the newest
abbrev IsSeen : State → Type 0
IsSeen s = (r : ℕ) → get_or s.seen r 0 ≤ s.newest

seen_below : (l : List ℕ) (i v r : ℕ) → i < length l → ((k : ℕ) → get_or l k 0 ≤ v) → get_or (set l i v) r 0 ≤ v
seen_below l i v r within below =
    (elim (r == i) as (λ b. (r == i) ≡ b → get_or (set l i v) r 0 ≤ v) [
      | true ↦ λ t. subst (λ k. get_or (set l i v) k 0 ≤ v) (sym (eqb-true r i t)) (let at = get_or-set_same l i v 0 within in omega (arith, at))
      | false ↦ λ t. let at = get_or-set_other l i r v 0 (eqb-false r i t) in let had = below r in omega (arith, at, had)
    ]) refl

seen_by_reader : (s : State) (reader : ℕ) (b : Bool) (step : Step) → is_reader s reader ≡ b → step.state ≡ seen_by s reader → IsSeen s → IsSeen (lawful b s step).state
seen_by_reader s reader true step t e h =
    subst IsSeen (sym e) (λ r. seen_below s.seen reader s.newest r (ltb-true reader (length s.seen) t) h)
seen_by_reader s reader false step t e h = h

newer : (s : State) (height : ℕ) (b : Bool) → (height == s.newest + 1) ≡ b → IsSeen s → IsSeen (lawful b s (record { state = record s { newest = height }; answer = Nothing })).state
newer s height true t h = λ r. let had = h r in let is : height ≡ s.newest + 1 = eqb-true height (s.newest + 1) t in omega (arith, had, is)
newer s height false t h = h

-- a step that leaves heights as they are
same_heights : (s : State) (b : Bool) (step : Step) → step.state.newest ≡ s.newest → step.state.seen ≡ s.seen → IsSeen s → IsSeen (lawful b s step).state
same_heights s true step n l h = λ r. let had = h r in let same : get_or step.state.seen r 0 ≡ get_or s.seen r 0 = ap (λ xs. get_or xs r 0) l in omega (arith, had, same, n)
same_heights s false step n l h = h

seen_stepped : (s : State) (e : Event) → IsSeen s → IsSeen (stepped s e).state
seen_stepped s (publish height) h = newer s height (height == s.newest + 1) refl h
seen_stepped s (enter reader height) h = seen_by_reader s reader (is_reader s reader) _ refl refl h
seen_stepped s (look actor code) h = same_heights s (is_actor s actor) _ refl refl h
seen_stepped s (stow actor code) h = same_heights s (is_actor s actor) _ refl refl h
seen_stepped s (pins codes) h = h
seen_stepped s (shelf_answer actor code good) h = same_heights s (is_actor s actor) _ refl refl h
seen_stepped s (tell reader) h = seen_by_reader s reader (is_reader s reader) _ refl refl h

seen_after : (s : State) (events : List Event) → IsSeen s → IsSeen (state_after s events)
seen_after s [] h = h
seen_after s (e ∷ events) h = seen_after (stepped s e).state events (seen_stepped s e h)

none_seen : (n r : ℕ) → get_or (replicate n 0) r 0 ≤ 0
none_seen zero r = omega arith
none_seen (suc n) zero = omega arith
none_seen (suc n) (suc r) = none_seen n r

pub never_falls : NeverFalls
never_falls keep recent readers events reader asked newest height h =
    let s : State = reached keep recent readers events in
    let seen = seen_after (start keep recent readers) events (none_seen readers) reader in
    let n_is = (is_within s (enter reader asked) newest height h).0 in omega (arith, seen, n_is)
