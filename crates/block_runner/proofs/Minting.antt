-- Records to which coins are added one by one.
use Rattle.std.proofs.Common.{◌≡◌, ◌∙◌, ℕ, ◌+◌, ◌<◌, List, [], ◌∷◌, ◌++◌, length, map, take, get_or, Option, sym, ap, subst, arith}
use Rattle.std.specs.Prelude.{unwrap_or}
use Rattle.std.specs.Ordering.{nat_cmp}
use Rattle.std.specs.Cmp.Lexicographic.{slice_cmp}
use Rattle.std.specs.FinMap.{get-empty}
use Rattle.std.proofs.lemmas.List.{take_more, map-append}
use Rattle.std.proofs.lemmas.List.Sums.{fold-append, sum_by_push}
use Rattle.coin_amounts.specs.declared.coin.Coin as coin_type
use Rattle.coin_amounts.specs.Plain.{Coin, coin_view}
use Rattle.chain_records.specs.Records.{PlainFacts}
use Rattle.chain_records.specs.State.{Bytes, State, Spells}
use Rattle.bank_ledger.specs.Accounts.{supply}
use Rattle.bank_ledger.specs.Balances.{share, amount_in}
use Rattle.bank_ledger.specs.Lawful.{HasLawfulAmounts}
use Rattle.bank_ledger.specs.Minted.{opening, minted, IsMinted, HasLawfulRecords}
use Rattle.block_runner.specs.Crediting.{AreLawfulFacts, Records, HasRecords}
use Rattle.block_runner.specs.Opening.{Account, supply_of, credited, all_credited}
use Rattle.block_runner.proofs.Lawfulness.{opening_lawful, minted_lawful}

-- how much there is of each denom
abbrev pub Supplies : Type 0
Supplies = List ℕ → ℕ

pub opening_records : (f : PlainFacts) (plain : Bytes) → AreLawfulFacts f → Spells plain (opening f) → HasLawfulAmounts (opening f) → Records (opening f) (λ denom. 0) plain
opening_records f plain facts spelled amounts = record {
  spelled = spelled;
  lawful = opening_lawful f facts amounts;
  supplies_are = λ denom. ap (λ (o : Option ℕ). unwrap_or o 0) (get-empty (slice_cmp nat_cmp) denom);
}

pub lawful_records : (plain : Bytes) → HasRecords plain → HasLawfulRecords plain
lawful_records plain h = record { state = h.state; spelled = h.are.spelled; lawful = h.are.lawful.amounts }

pub some_records : (s : State) (u : Supplies) (plain : Bytes) → Records s u plain → HasRecords plain
some_records s u plain r = record { state = s; supplies = u; are = r }

records_same : (s : State) (u v : Supplies) (plain : Bytes) → ((denom : List ℕ) → u denom ≡ v denom) → Records s u plain → Records s v plain
records_same s u v plain same r = record { spelled = r.spelled; lawful = r.lawful; supplies_are = λ denom. r.supplies_are denom ∙ same denom }

abbrev pub Mints : Bytes → Bytes → List ℕ → List ℕ → ℕ → Type 0
Mints old new to denom n = (s : State) → Spells old s → HasLawfulAmounts s → (t : State) × Spells new t × IsMinted s to denom n t

pub records_minted : (old new : Bytes) (to : List ℕ) (coin : Coin) → Mints old new to coin.denom coin.amount → (s : State) (u : Supplies) → Records s u old → Records (minted s to coin.denom coin.amount) (λ denom. u denom + share denom coin) new
records_minted old new to coin mints s u r =
    let m = mints s r.spelled r.lawful.amounts in
    let Gained : State → Type 0 = λ t. Spells new t × HasLawfulAmounts t × ((denom : List ℕ) → supply t denom ≡ supply s denom + share denom coin) in
    let gained = subst Gained m.2.state (m.1, m.2.lawful, m.2.supplies) in
    record {
      spelled = gained.0;
      lawful = minted_lawful s to coin.denom coin.amount r.lawful gained.1;
      supplies_are = λ denom. gained.2 denom ∙ ap (λ (n : ℕ). n + share denom coin) (r.supplies_are denom);
    }

-- ---- coins of an account, one after the other

pub none_added : (s : State) (u : Supplies) (plain : Bytes) (to : List ℕ) → Records s u plain → Records (credited s (to, [])) (λ denom. u denom + amount_in [] denom) plain
none_added s u plain to r = records_same s u _ plain (λ denom. omega arith) r

next_supply : (n some one all : ℕ) → all ≡ some + one → (n + some) + one ≡ n + all
next_supply n some one all e = omega arith

coin_added : (s : State) (u : Supplies) (plain : Bytes) (to : List ℕ) (coins : List Coin) (coin : Coin) → Records (minted (credited s (to, coins)) to coin.denom coin.amount) (λ denom. (u denom + amount_in coins denom) + share denom coin) plain
    → Records (credited s (to, coins ++ coin ∷ [])) (λ denom. u denom + amount_in (coins ++ coin ∷ []) denom) plain
coin_added s u plain to coins coin r =
    let all : Supplies = λ denom. u denom + amount_in (coins ++ coin ∷ []) denom in
    let more = fold-append (λ (t : State) (c : Coin). minted t to c.denom c.amount) s coins (coin ∷ []) in
    subst (λ (t : State). Records t all plain) (sym more)
    (records_same _ _ all plain (λ denom. next_supply (u denom) (amount_in coins denom) (share denom coin) (amount_in (coins ++ coin ∷ []) denom) (sum_by_push (share denom) coins coin)) r)

coins_more : (items : List coin_type.Coin) (i : ℕ) (item : coin_type.Coin) → i < length items → item ≡ get_or items i item → map coin_view (take (i + 1) items) ≡ map coin_view (take i items) ++ coin_view item ∷ []
coins_more items i item within is =
    ap (map coin_view) (take_more items i item within ∙ ap (λ x. take i items ++ x ∷ []) (sym is)) ∙ map-append coin_view (take i items) (item ∷ [])

pub next_added : (s : State) (u : Supplies) (plain : Bytes) (to : List ℕ) (items : List coin_type.Coin) (i : ℕ) (item : coin_type.Coin) → i < length items → item ≡ get_or items i item
    → Records (minted (credited s (to, map coin_view (take i items))) to (coin_view item).denom item.amount) (λ denom. (u denom + amount_in (map coin_view (take i items)) denom) + share denom (coin_view item)) plain
    → Records (credited s (to, map coin_view (take (i + 1) items))) (λ denom. u denom + amount_in (map coin_view (take (i + 1) items)) denom) plain
next_added s u plain to items i item within is r =
    subst (λ (l : List Coin). Records (credited s (to, l)) (λ denom. u denom + amount_in l denom) plain) (sym (coins_more items i item within is))
    (coin_added s u plain to (map coin_view (take i items)) (coin_view item) r)

-- ---- accounts, one after the other

pub account_added : (s : State) (plain : Bytes) (done : List Account) (account : Account) → Records (credited (all_credited s done) account) (λ denom. supply_of done denom + amount_in account.1 denom) plain
    → Records (all_credited s (done ++ account ∷ [])) (supply_of (done ++ account ∷ [])) plain
account_added s plain done account r =
    let all : Supplies = supply_of (done ++ account ∷ []) in
    subst (λ (t : State). Records t all plain) (sym (fold-append credited s done (account ∷ [])))
    (records_same _ _ all plain (λ denom. sym (sum_by_push (λ (a : Account). amount_in a.1 denom) done account)) r)
