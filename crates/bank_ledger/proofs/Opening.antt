-- A chain that begins has no amounts, which is lawful, and amounts that are minted leave it lawful.
use Rattle.std.proofs.Common.{◌≡◌, ℕ, ◌+◌, ◌<◌, ◌^◌, Bool, true, false, cond, List, [], Option, None, refl, sym, ap, ◌∙◌, subst, arith, sum_by}
use Rattle.std.specs.Option.{unwrap_or}
use Rattle.std.specs.Ordering.{nat_cmp}
use Rattle.std.specs.Str.{bytes_eq}
use Rattle.std.specs.Cmp.Lexicographic.{slice_cmp}
use Rattle.std.specs.FinMap.{insert, empty, entries, get-empty, len-empty, len-entries}
use Rattle.std.proofs.lemmas.List.{nil_from_length}
use Rattle.std.proofs.lemmas.Slice.Eq.{bytes_eq-Decides}
use Rattle.coin_amounts.specs.Denom.{IsDenom}
use Rattle.chain_records.specs.declared.record.Counters.{Counters}
use Rattle.chain_records.specs.Keys.{IsAddress, IsKeyOf}
use Rattle.chain_records.specs.Keys as keys
use Rattle.chain_records.specs.Records.{PlainFacts, facts, counters, IsRecordOf}
use Rattle.chain_records.specs.State.{Bytes, addressed_cmp, State, Spells}
use Rattle.chain_records.specs.Changes.{bare}
use Rattle.chain_records.specs.Laws.{SpellsFirst}
use Rattle.bank_ledger.specs.Accounts.{supply, counted}
use Rattle.bank_ledger.specs.Lawful.{HasLawfulAmounts}
use Rattle.bank_ledger.specs.Minted.{minted}
use Rattle.bank_ledger.specs.Amounts.{with_more}
use Rattle.bank_ledger.proofs.Changed.{total_more, accounts_with_amount, supplies_with_amount, supply_more}

-- the bytes of facts and counters, written under those of their keys
pub spelled_first : SpellsFirst → (f : PlainFacts) (c : Counters) (kf vf kc vc : List ℕ) → IsKeyOf kf keys.facts → IsRecordOf vf (facts f) → IsKeyOf kc keys.counters → IsRecordOf vc (counters c) → Spells (insert (insert empty kf vf) kc vc) (bare f c)
spelled_first law f c kf vf kc vc is_kf is_vf is_kc is_vc =
    subst (λ (m : Bytes). Spells m (bare f c)) (λ i. insert (insert empty (is_kf.same i) (is_vf.same i)) (is_kc.same i) (is_vc.same i)) (law f c is_vf.is_record is_vc.is_record)

no_entries : entries (empty {X = ℕ} {R = addressed_cmp}) ≡ []
no_entries = nil_from_length _ (sym (len-entries _) ∙ len-empty addressed_cmp ℕ)

none_of : (m : Option ℕ) → m ≡ None → unwrap_or m 0 ≡ 0
none_of m e = ap (λ (o : Option ℕ). unwrap_or o 0) e

pub opening_lawful : (f : PlainFacts) (c : Counters) → HasLawfulAmounts (bare f c)
opening_lawful f c = record {
  sums = λ denom. none_of _ (get-empty (slice_cmp nat_cmp) denom) ∙ sym (ap (sum_by (counted denom)) no_entries);
  bounded = λ denom. omega (arith, none_of _ (get-empty (slice_cmp nat_cmp) denom));
  accounts = λ addr denom n e. let none = sym e ∙ get-empty addressed_cmp (addr, denom) in absurd cc;
  supplies = λ denom n e. let none = sym e ∙ get-empty (slice_cmp nat_cmp) denom in absurd cc;
}

-- ---- an amount that is minted

still_bounded : (b : Bool) (n here there : ℕ) → (b ≡ true → here ≡ there) → here + n < 2 ^ 128 → there < 2 ^ 128 → there + cond b n 0 < 2 ^ 128
still_bounded true n here there same room bound = let e = same refl in omega arith
still_bounded false n here there same room bound = omega arith

pub minted_lawful : (s : State) (addr denom : List ℕ) (n : ℕ) → IsAddress addr → IsDenom denom → supply s denom + n < 2 ^ 128 → HasLawfulAmounts s → HasLawfulAmounts (minted s addr denom n)
minted_lawful s addr denom n is_address is_denom room lawful =
    let paid = with_more s (keys.balance addr denom) n in
    record {
      sums = λ e. supply_more paid denom n e ∙ ap (λ x. x + cond (bytes_eq denom e) n 0) (lawful.sums e) ∙ sym (total_more s addr denom n e);
      bounded = λ e. subst (λ (x : ℕ). x < 2 ^ 128) (sym (supply_more paid denom n e)) (still_bounded (bytes_eq denom e) n (supply s denom) (supply s e) (λ q. ap (supply s) ((bytes_eq-Decides denom e).0 q)) room (lawful.bounded e));
      accounts = accounts_with_amount s addr denom _ is_denom is_address lawful.accounts;
      supplies = supplies_with_amount paid denom _ is_denom lawful.supplies;
    }
