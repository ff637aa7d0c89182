-- Not for readers of contracts: it serves the proofs of this crate alone.
-- The contract that a request names, as it is found.
use Rattle.std.specs.Prelude.{ℕ, ◌≡◌, List, Some, string_bytes, ⊤}
use Rattle.std.specs.FinMap.{get}
use Rattle.chain_addr.specs.Address.{address_of}
use Rattle.chain_addr.specs.Letters.{IsPrefix}
use Rattle.chain_msgs.specs.Plain.{answer_view}
use Rattle.chain_records.specs.Keys.{IsAddress}
use Rattle.chain_records.specs.Records.{PlainContract, plain_contract}
use Rattle.chain_records.specs.State.{State}
use Rattle.query_router.specs.declared.contracts.Found.{Found}
use Rattle.query_router.specs.declared.contracts.Named as named_type
use Rattle.query_router.specs.declared.contracts.Named.TheVariants as named
use Rattle.query_router.specs.Queries.{Queried, answers, at_contract}

-- the text is the contract's address
pub record IsFoundAt (s : State) (text : List ℕ) (found : Found) : Type 0 where
  pub addr : address_of s.facts.prefix text ≡ Some found.addr.items
  pub contract : get s.contracts found.addr.items ≡ Some (plain_contract found.contract)
  pub prefix : string_bytes found.prefix ≡ s.facts.prefix

-- or whatever is done with contracts, this is answered
abbrev pub IsNamed : State → List ℕ → List ℕ → named_type.Named → Type 0
IsNamed s request text (named.Contract found) = IsFoundAt s text found
IsNamed s request text (named.Nothing answer) =
    (rest : List ℕ → PlainContract → ℕ → Queried) (left : ℕ) → at_contract s request text rest left ≡ answers (answer_view answer) left

-- address and prefix can be written
abbrev pub IsNamedWell : named_type.Named → Type 0
IsNamedWell (named.Contract found) = IsPrefix (string_bytes found.prefix) × IsAddress found.addr.items
IsNamedWell (named.Nothing answer) = ⊤
