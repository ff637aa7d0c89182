-- How a call goes on with an answer, and how it ends.
use Rattle.std.proofs.Common.{◌≡◌, ℕ, suc, List, ◌∷◌, ◌++◌, Option, Some, None, sym, ap, ◌∙◌, append_assoc}
use Rattle.chain_msgs.specs.Plain as chain
use Rattle.chain_msgs.specs.Texts.{answer_text}
use Rattle.chain_records.specs.State.{State}
use Rattle.gas_store.specs.Typed.{with_storage}
use Rattle.host_imports.specs.Faults.{Fault}
use Rattle.host_imports.specs.Work.{Ended, gave, faulted, ran_out}
use Rattle.contract_call.specs.Calls.{Call, Outset, Answer, Reached, finished, wants, part}
use Rattle.query_router.specs.Calls.{Called, over, fetched_before, told_answer, told_query, gone_on, gathered}
use Rattle.query_router.specs.Queries.{Queried, Asking}

module _ (ask : Asking) (s : State) (addr : List ℕ) (c : Call) (o : Outset) (n : ℕ) (so_far : List Answer) where
  next : Answer → Called
  next a = gathered ask s addr c o n (a ∷ so_far)

  -- one query more
  step : (ended : Ended Reached) → (part c o so_far).ended ≡ ended → gathered ask s addr c o (suc n) so_far ≡ gone_on ask s addr ended (part c o so_far).place (λ a. gathered ask s addr c o n (a ∷ so_far))
  unfolding gathered
  step ended is = ap (λ (e : Ended Reached). gone_on ask s addr e (part c o so_far).place (λ a. gathered ask s addr c o n (a ∷ so_far))) is

  pub finished_here : (bytes : List ℕ) → (part c o so_far).ended ≡ gave (finished bytes) → gathered ask s addr c o (suc n) so_far ≡ over (gave bytes) (part c o so_far).place
  finished_here bytes is = step (gave (finished bytes)) is

  pub faulted_here : (fault : Fault) → (part c o so_far).ended ≡ faulted fault → gathered ask s addr c o (suc n) so_far ≡ over (faulted fault) (part c o so_far).place
  faulted_here fault is = step (faulted fault) is

  pub ran_out_here : (part c o so_far).ended ≡ ran_out → gathered ask s addr c o (suc n) so_far ≡ over ran_out (part c o so_far).place
  ran_out_here is = step ran_out is

  asked_here : (request : List ℕ) (q : Queried) → (part c o so_far).ended ≡ gave (wants request) → ask (with_storage s addr (part c o so_far).place.storage) request (part c o so_far).place.left ≡ q
      → gathered ask s addr c o (suc n) so_far ≡ told_query q (part c o so_far).place.storage (λ a. gathered ask s addr c o n (a ∷ so_far))
  asked_here request q is same = step (gave (wants request)) is ∙ ap (λ (r : Queried). told_query r (part c o so_far).place.storage (λ a. gathered ask s addr c o n (a ∷ so_far))) same

  pub answered_here : (request : List ℕ) (q : Queried) (a : chain.Answer) (bytes : List ℕ) (left : ℕ) → (part c o so_far).ended ≡ gave (wants request)
      → ask (with_storage s addr (part c o so_far).place.storage) request (part c o so_far).place.left ≡ q → q.answer ≡ Some a → q.left ≡ left → bytes ≡ answer_text a
      → gathered ask s addr c o (suc n) so_far ≡ fetched_before q.fetched (gathered ask s addr c o n (record { bytes = bytes; left = left } ∷ so_far))
  answered_here request q a bytes left is same there gas text =
      asked_here request q is same
      ∙ ap (λ (x : Option chain.Answer). told_answer x q.left q.fetched (part c o so_far).place.storage (λ a. gathered ask s addr c o n (a ∷ so_far))) there
      ∙ (λ i. fetched_before q.fetched (gathered ask s addr c o n (record { bytes = sym text i; left = gas i } ∷ so_far)))

  pub unanswered_here : (request : List ℕ) (q : Queried) → (part c o so_far).ended ≡ gave (wants request)
      → ask (with_storage s addr (part c o so_far).place.storage) request (part c o so_far).place.left ≡ q → q.answer ≡ None
      → gathered ask s addr c o (suc n) so_far ≡ record { ended = ran_out; storage = (part c o so_far).place.storage; left = q.left; fetched = q.fetched }
  unanswered_here request q is same none =
      asked_here request q is same
      ∙ ap (λ (x : Option chain.Answer). told_answer x q.left q.fetched (part c o so_far).place.storage (λ a. gathered ask s addr c o n (a ∷ so_far))) none

-- what is fetched before what is fetched before
pub fetched_twice : (first second : List (List ℕ)) (c : Called) → fetched_before first (fetched_before second c) ≡ fetched_before (first ++ second) c
fetched_twice first second c = ap (λ (codes : List (List ℕ)). record c { fetched = codes }) (sym (append_assoc first second c.fetched))
