-- What the calls of the registry do to a state with lawful codes.
use Rattle.std.specs.Prelude.{ℕ, ◌≡◌, List, Option, None}
use Rattle.chain_records.specs.State.{State}
use Rattle.code_registry.specs.Codes.{stored, pinned, unpinned, store_refusal, pin_refusal, unpin_refusal}
use Rattle.code_registry.specs.Lawful.{HasLawfulCodes}

-- the code has the next id, and nothing else is changed
pub record IsStored (s : State) (creator bytes : List ℕ) (allow : Option (List (List ℕ))) (id : ℕ) (t : State) : Type 0 where
  pub taken : store_refusal s bytes ≡ None
  pub next : id ≡ s.counters.next_code
  pub state : t ≡ stored s creator bytes allow
  pub lawful : HasLawfulCodes t

-- the ids are pinned besides those that were, and nothing else is changed
pub record IsPinned (s : State) (sender ids : List ℕ) (t : State) : Type 0 where
  pub taken : pin_refusal s sender ids ≡ None
  pub state : t ≡ pinned s ids
  pub lawful : HasLawfulCodes t

-- the ids aren't pinned any more, and nothing else is changed
pub record IsUnpinned (s : State) (sender ids : List ℕ) (t : State) : Type 0 where
  pub taken : unpin_refusal s sender ids ≡ None
  pub state : t ≡ unpinned s ids
  pub lawful : HasLawfulCodes t
