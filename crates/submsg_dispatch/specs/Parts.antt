-- Parts of a transaction's work, one after the other on one state and one amount of gas.
use Rattle.std.specs.Prelude.{ℕ, ◌+◌, ◌-◌, min, Bool, false, List, [], ◌++◌, Option, None, Some, Result, Ok, Err, nat_le, nat_lt, if◌then◌else◌}
use Rattle.chain_msgs.specs.Plain.{Failure}
use Rattle.chain_records.specs.State.{State}
use Rattle.submsg_dispatch.specs.Failures as failures

-- how a part ends: with a state and what it gives, with a failure, or without gas
pub data Ended (A : Type 0) : Type 0 where
  kept : State → A → Ended A
  failed : Failure → Ended A
  out_of_gas : Ended A

-- the gas that it leaves, and the codes that its calls asked for, in order
pub record Ran (A : Type 0) : Type 0 where
  pub ended : Ended A
  pub left : ℕ
  pub fetched : List (List ℕ)

-- from a state and the gas that is left
abbrev pub Part : Type 0 → Type 0
Part A = State → ℕ → Ran A

abbrev pub done : {A : Type 0} → A → Part A
done x s left = record { ended = kept s x; left = left; fetched = [] }

abbrev pub fails : {A : Type 0} → Failure → Part A
fails failure s left = record { ended = failed failure; left = left; fetched = [] }

-- where too little gas is left, all of it is used
abbrev pub charge : ℕ → Part (Unit {0})
charge cost s left =
    if nat_lt left cost then record { ended = out_of_gas; left = 0; fetched = [] }
    else record { ended = kept s tt; left = left - cost; fetched = [] }

-- with what there is, or a failure where there is nothing
abbrev pub or_fails : {A : Type 0} → Failure → Option A → Part A
or_fails failure None = fails failure
or_fails failure (Some x) = done x

-- nothing where there is no failure, and else that one
abbrev pub stops_if : Option Failure → Part (Unit {0})
stops_if None = done tt
stops_if (Some failure) = fails failure

-- nothing where the test holds, and else a failure
abbrev pub needs : Bool → Failure → Part (Unit {0})
needs holds failure = if holds then done tt else fails failure

-- what there is, or the failure that there is in its place
abbrev pub or_fails_with : {A : Type 0} → Result A Failure → Part A
or_fails_with (Ok x) = done x
or_fails_with (Err failure) = fails failure

-- the state becomes what a function makes of it
abbrev pub becomes : (State → State) → Part (Unit {0})
becomes step s left = record { ended = kept (step s) tt; left = left; fetched = [] }

-- with what the state says
abbrev pub reads : {A : Type 0} → (State → Part A) → Part A
reads part s left = part s s left

abbrev pub fetched_before : {A : Type 0} → List (List ℕ) → Ran A → Ran A
fetched_before codes r = record { ended = r.ended; left = r.left; fetched = codes ++ r.fetched }

abbrev pub goes_on : {A B : Type 0} → (A → Part B) → Ended A → ℕ → List (List ℕ) → Ran B
goes_on next (kept s x) left codes = fetched_before codes (next x s left)
goes_on next (failed failure) left codes = record { ended = failed failure; left = left; fetched = codes }
goes_on next out_of_gas left codes = record { ended = out_of_gas; left = left; fetched = codes }

infixl 10 ◌>>=◌
abbrev pub ◌>>=◌ : {A B : Type 0} → Part A → (A → Part B) → Part B
(part >>= next) s left =
    let r = part s left in
    goes_on next r.ended r.left r.fetched

-- ---- a part within a limit of gas

-- the smaller of the limit and the gas that is left
abbrev pub share : Option ℕ → ℕ → ℕ
share None left = left
share (Some limit) left = min limit left

-- a limit counts where it is at most the gas that is left
abbrev pub counts : Option ℕ → ℕ → Bool
counts None left = false
counts (Some limit) left = nat_le limit left

-- A failure is caught, and the state is as before. The end of the gas is a failure where the limit counts, and else passes up.
abbrev pub caught_end : {A : Type 0} → Bool → State → Ended A → Ended (Result A Failure)
caught_end counting s (kept t x) = kept t (Ok x)
caught_end counting s (failed failure) = kept s (Err failure)
caught_end counting s out_of_gas = if counting then kept s (Err failures.out_of_gas) else out_of_gas

abbrev pub caught : {A : Type 0} → Bool → State → ℕ → Ran A → Ran (Result A Failure)
caught counting s beside r = record { ended = caught_end counting s r.ended; left = beside + r.left; fetched = r.fetched }

-- the part on its share of the gas, whatever comes of it
unfoldable pub attempt : {A : Type 0} → Option ℕ → Part A → Part (Result A Failure)
attempt limit part s left = caught (counts limit left) s (left - share limit left) (part s (share limit left))
