-- What was found so far is what the address has before the denom that is next looked from.
use Rattle.std.proofs.Common.{◌≡◌, ℕ, List, [], ◌∷◌, ◌++◌, map}
use Rattle.std.specs.FinMap.{entries}
use Rattle.coin_amounts.specs.Plain.{coin_view}
use Rattle.chain_records.specs.Keys.{key_bytes}
use Rattle.chain_records.specs.Keys as keys
use Rattle.chain_records.specs.Spelled.{OfEach}
use Rattle.bank_ledger.specs.Accounts.{held}
use Rattle.bank_ledger.specs.Lawful.{HasLawfulAmounts}
use Rattle.bank_ledger.proofs.Holding.{rest_of}
use Rattle.bank_ledger.proofs.Room.{room, AreBytes}
use Rattle.bank_ledger.proofs.holdings.all_balances.Given as goal

abbrev pub invariant-coins : goal.invariant-coins
invariant-coins g l = record {
  hi : l.hi.items ≡ key_bytes (keys.balance l.fn.addr (255 ∷ []));
  lo : (from : List ℕ)
      × AreBytes from
      × (l.lo.items ≡ key_bytes (keys.balance l.fn.addr from))
      × OfEach (g.B.Base.stands_for l.fn.view) (λ s. HasLawfulAmounts s → held s l.fn.addr ≡ map coin_view l.list.items ++ rest_of l.fn.addr from (entries s.balances));
}

abbrev pub decreases-coins : goal.decreases-coins
decreases-coins g l = room l.lo.items
