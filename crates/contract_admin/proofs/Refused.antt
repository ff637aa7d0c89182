-- What is found of codes and contracts, and what it says of refusals.
use Rattle.std.proofs.Common.{◌≡◌, ℕ, Bool, ◌||◌, List, [], ◌∷◌, map, Option, Some, None, refl, ap, ◌∙◌}
use Rattle.std.specs.Option.{is_some, option_map, option_or}
use Rattle.std.specs.List.{list_any}
use Rattle.std.specs.FinMap.{get}
use Rattle.chain_records.specs.Keys as keys
use Rattle.chain_records.specs.Records.{code_info, contract}
use Rattle.chain_records.specs.State.{Code, State, entry_of}
use Rattle.contract_admin.specs.Administration.{Refusal, no_such_code, unless, code_refusal}

-- ---- codes and contracts that there are

there : {X Y : Type 0} (f : X → Y) (o : Option X) → is_some (option_map f o) ≡ is_some o
there f (Some x) = refl
there f None = refl

pub code_there : (s : State) (id : ℕ) → is_some (entry_of s (keys.code_info id)) ≡ is_some (get s.codes id)
unfolding entry_of
code_there s id = there (λ (c : Code). code_info c.info) (get s.codes id)

pub contract_there : (s : State) (addr : List ℕ) → is_some (entry_of s (keys.contract addr)) ≡ is_some (get s.contracts addr)
unfolding entry_of
contract_there s addr = there contract (get s.contracts addr)

-- a test on plain forms
pub any_shown : {X Y : Type 0} (shown : X → Y) (test : Y → Bool) (xs : List X) → list_any (λ (x : X). test (shown x)) xs ≡ list_any test (map shown xs)
any_shown shown test [] = refl
any_shown shown test (x ∷ xs) = ap (λ (b : Bool). test (shown x) || b) (any_shown shown test xs)

-- ---- what is found

pub code_found : (s : State) (id : ℕ) → code_refusal s id ≡ None → (code : Code) × (get s.codes id ≡ Some code)
code_found s id none = go (get s.codes id) none
  where
    go : (o : Option Code) → unless (is_some o) (no_such_code id) ≡ None → (code : Code) × (o ≡ Some code)
    go (Some code) e = (code, refl)
    go None e = absurd cc

-- ---- of two refusals neither holds

pub first_none : (first later : Option Refusal) → option_or first later ≡ None → first ≡ None
first_none None later none = refl
first_none (Some refusal) later none = absurd cc

pub later_none : (first later : Option Refusal) → option_or first later ≡ None → later ≡ None
later_none None later none = none
later_none (Some refusal) later none = absurd cc

pub neither : (first later : Option Refusal) → first ≡ None → later ≡ None → option_or first later ≡ None
neither first later none also = ap (λ (o : Option Refusal). option_or o later) none ∙ also
