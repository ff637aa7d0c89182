-- The first entry between two keys of an address is the first coin that it has.
use Rattle.std.proofs.Common.{◌≡◌, ℕ, Bool, true, false, ◌&&◌, List, [], ◌∷◌, ◌++◌, Option, Some, None, refl, sym, ap, ◌∙◌, subst}
use Rattle.std.specs.Option.{option_map}
use Rattle.std.specs.Ordering.{nat_cmp, is_le, is_lt}
use Rattle.std.specs.Cmp.Lexicographic.{slice_cmp}
use Rattle.std.specs.FinMap.{get}
use Rattle.coin_amounts.specs.Plain.{Coin}
use Rattle.coin_amounts.specs.Denom.{IsDenom}
use Rattle.chain_records.specs.Keys.{PlainKey, key_bytes, IsKey, IsKeyOf}
use Rattle.chain_records.specs.Keys as keys
use Rattle.chain_records.specs.Records.{PlainStored, amount, stored_bytes, IsRecordUnder}
use Rattle.chain_records.specs.State.{Bytes, State, entry_of, Spells, IsFound}
use Rattle.chain_records.specs.Laws.{SpellsRecords, TellsRecords}
use Rattle.kv_layers.specs.declared.order.Order.TheVariants.{Ascending}
use Rattle.kv_layers.specs.Next.{IsNext, is_within}
use Rattle.bank_ledger.specs.Lawful.{HasLawfulAmounts}
use Rattle.bank_ledger.specs.Steps.{IsNextHeld, IsBalance}
use Rattle.bank_ledger.proofs.Found.{found_at, found_amount}
use Rattle.bank_ledger.proofs.Places.{cmp-prefix, between, front, place_of, one_place, only_balance, denom_below}

abbrev pub end : List ℕ
end = 255 ∷ []

-- ---- what the map has where the state has a balance

balance_entry : (s : State) (addr denom : List ℕ) → entry_of s (keys.balance addr denom) ≡ option_map amount (get s.balances (addr, denom))
unfolding entry_of
balance_entry s addr denom = refl

none_of : (o : Option ℕ) (found : Option (List ℕ)) → found ≡ option_map stored_bytes (option_map amount o) → found ≡ None → o ≡ None
none_of None found is e = refl
none_of (Some n) found is e = let some = sym is ∙ e in absurd cc

both : (a b : Bool) → a ≡ true → b ≡ true → (a && b) ≡ true
both a b p q = rw (p, q) refl

first_of : (a b : Bool) → (a && b) ≡ true → a ≡ true
first_of true b p = refl
first_of false b p = absurd cc

second_of : (a b : Bool) → (a && b) ≡ true → b ≡ true
second_of true b p = p
second_of false b p = absurd cc

module _ (map : Bytes) (s : State) (spelled : Spells map s) (lawful : HasLawfulAmounts s) (addr lo lo_bytes hi_bytes : List ℕ) (is_lo : lo_bytes ≡ key_bytes (keys.balance addr lo)) (is_hi : hi_bytes ≡ key_bytes (keys.balance addr end)) where
  le_place : (denom : List ℕ) → slice_cmp nat_cmp lo_bytes (key_bytes (keys.balance addr denom)) ≡ slice_cmp nat_cmp lo denom
  le_place denom =
      ap (λ (x : List ℕ). slice_cmp nat_cmp x (key_bytes (keys.balance addr denom))) (is_lo ∙ place_of addr lo)
      ∙ ap (slice_cmp nat_cmp (front addr ++ lo)) (place_of addr denom) ∙ cmp-prefix (front addr) lo denom

  lt_place : (denom : List ℕ) → slice_cmp nat_cmp (key_bytes (keys.balance addr denom)) hi_bytes ≡ slice_cmp nat_cmp denom end
  lt_place denom =
      ap (slice_cmp nat_cmp (key_bytes (keys.balance addr denom))) (is_hi ∙ place_of addr end)
      ∙ ap (λ (x : List ℕ). slice_cmp nat_cmp x (front addr ++ end)) (place_of addr denom) ∙ cmp-prefix (front addr) denom end

  -- where the map has nothing under the key of a denom that may stand there, nor has the state
  absent : (denom : List ℕ) → (is_within (Some lo_bytes) (Some hi_bytes) (key_bytes (keys.balance addr denom)) ≡ true → get map (key_bytes (keys.balance addr denom)) ≡ None)
      → is_le (slice_cmp nat_cmp lo denom) ≡ true → get s.balances (addr, denom) ≡ None
  absent denom none le = go (get s.balances (addr, denom)) refl
    where
      go : (o : Option ℕ) → get s.balances (addr, denom) ≡ o → o ≡ None
      go None e = refl
      go (Some n) e =
          let entry : entry_of s (keys.balance addr denom) ≡ Some (amount n) = balance_entry s addr denom ∙ ap (option_map amount) e in
          let is_key = (spelled.well_formed (keys.balance addr denom) (amount n) entry).0 in
          let is_denom = (lawful.accounts addr denom n e).1 in
          let within = both _ _ (ap is_le (le_place denom) ∙ le) (ap is_lt (lt_place denom) ∙ denom_below denom is_denom) in
          none_of (Some n) (get map (key_bytes (keys.balance addr denom))) (spelled.same (keys.balance addr denom) is_key ∙ ap (option_map stored_bytes) entry) (none within)

  pub next_none : IsNext (get map) (Some lo_bytes) (Some hi_bytes) Ascending None → IsNextHeld s addr lo None
  next_none next denom le = absent denom (λ within. next (key_bytes (keys.balance addr denom)) within) le

  module _ (key bytes : List ℕ) (next : IsNext (get map) (Some lo_bytes) (Some hi_bytes) Ascending (Some (key, bytes))) where
    -- the key is that of one of the address's balances
    pub key_between : (x : List ℕ) × (key ≡ front addr ++ x)
    key_between =
        between (front addr) lo end key
        (subst (λ (l : List ℕ). is_le (slice_cmp nat_cmp l key) ≡ true) (is_lo ∙ place_of addr lo) (first_of _ _ next.0))
        (subst (λ (h : List ℕ). is_lt (slice_cmp nat_cmp key h) ≡ true) (is_hi ∙ place_of addr end) (second_of _ _ next.0))

    found_key : (x : List ℕ) × IsKeyOf key (keys.balance addr x)
    found_key =
        let only = spelled.only key bytes next.1 in
        let at = key_between in
        (at.0, subst (IsKeyOf key) (only_balance only.0 addr at.0 (only.1.same ∙ at.1)) only.1)

    pub a_balance : SpellsRecords → (coin : Coin) × IsBalance key bytes coin
    a_balance law =
        let at = found_key in
        let found = found_amount law map s (keys.balance addr at.0) key bytes at.1.is_key at.1 spelled (sym next.1) in
        (record { denom = at.0; amount = found.0 }, record { addr = addr; key = at.1; amount = found.1 })

    some_of : (o : Option ℕ) (n : ℕ) → option_map amount o ≡ Some (amount n) → o ≡ Some n
    some_of (Some m) n e = let same : m ≡ n = cc in ap (λ x. Some x) same
    some_of None n e = absurd cc

    pub next_some : SpellsRecords → TellsRecords → (coin : Coin) → IsBalance key bytes coin → IsNextHeld s addr lo (Some (key, coin))
    next_some law tells coin is = (sym here.same, le, found, is_denom, others)
      where
        same : (is.addr ≡ addr) × (coin.denom ≡ key_between.0)
        same = one_place is.addr coin.denom addr key_between.0 (is.key.same ∙ key_between.1)

        here : IsKeyOf key (keys.balance addr coin.denom)
        here = subst (λ (a : List ℕ). IsKeyOf key (keys.balance a coin.denom)) same.0 is.key

        le : is_le (slice_cmp nat_cmp lo coin.denom) ≡ true
        le = ap is_le (sym (le_place coin.denom)) ∙ subst (λ (k : List ℕ). is_le (slice_cmp nat_cmp lo_bytes k) ≡ true) (sym here.same) (first_of _ _ next.0)

        there : IsFound (keys.balance addr coin.denom) (Some bytes) (entry_of s (keys.balance addr coin.denom))
        there = found_at law map s (keys.balance addr coin.denom) key (Some bytes) here spelled (sym next.1)

        under : IsRecordUnder (keys.balance addr coin.denom) bytes (amount coin.amount)
        under = subst (λ (a : List ℕ). IsRecordUnder (keys.balance a coin.denom) bytes (amount coin.amount)) same.0 is.amount

        found : get s.balances (addr, coin.denom) ≡ Some coin.amount
        found = some_of (get s.balances (addr, coin.denom)) coin.amount
            (sym (balance_entry s addr coin.denom) ∙ there.1 ∙ ap (λ (x : PlainStored). Some x) (tells (keys.balance addr coin.denom) bytes there.0 (amount coin.amount) there.2 under))

        is_denom : IsDenom coin.denom
        is_denom = (lawful.accounts addr coin.denom coin.amount found).1

        others : (denom : List ℕ) → is_le (slice_cmp nat_cmp lo denom) ≡ true → is_lt (slice_cmp nat_cmp denom coin.denom) ≡ true → get s.balances (addr, denom) ≡ None
        others denom from below =
            absent denom (λ within. next.2 (key_bytes (keys.balance addr denom)) within
            (subst (λ (k : List ℕ). is_lt (slice_cmp nat_cmp (key_bytes (keys.balance addr denom)) k) ≡ true) here.same
            (ap is_lt (ap (slice_cmp nat_cmp (key_bytes (keys.balance addr denom))) (place_of addr coin.denom) ∙ ap (λ (x : List ℕ). slice_cmp nat_cmp x (front addr ++ coin.denom)) (place_of addr denom) ∙ cmp-prefix (front addr) denom coin.denom) ∙ below))) from
