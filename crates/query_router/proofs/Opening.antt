-- What comes of a call whose code is found, and of one without a code.
use Rattle.std.proofs.Common.{◌≡◌, ℕ, List, [], ◌∷◌, Option, Some, None, refl, sym, ap, ◌∙◌}
use Rattle.std.specs.Prelude.{string_bytes}
use Rattle.std.specs.Option.{is_some}
use Rattle.std.specs.FinMap.{get}
use Rattle.gas_meter.specs.declared.schedule.Schedule.{Schedule}
use Rattle.chain_addr.specs.Address.{address_of}
use Rattle.chain_records.specs.Records.{PlainContract}
use Rattle.chain_records.specs.State.{State}
use Rattle.code_registry.specs.Codes.{bytes_at}
use Rattle.wasm_types.specs.Plain.{PlainModule}
use Rattle.wasm_types.specs.ModuleText.{module_of}
use Rattle.gatekeeper.specs.Cache.{Tally}
use Rattle.gas_store.specs.Views.{addr_of}
use Rattle.contract_call.specs.declared.entry.Entry.{Entry}
use Rattle.contract_call.specs.declared.entry.Entry.TheVariants.{Query}
use Rattle.contract_call.specs.Calls.{call_of, arguments}
use Rattle.query_router.specs.declared.calls.Opened.{Opened}
use Rattle.query_router.specs.Calling.{IsCallOf, IsQueryCall}
use Rattle.query_router.specs.Calls.{call_of_code, call_of_module, call_on, fetched_before, gathered_all, no_call, outset_of, query_env, smart_at, smart_call, smart_told}
use Rattle.query_router.specs.Parts.{out_of_gas}
use Rattle.query_router.specs.Queries.{Asking}
use Rattle.query_router.proofs.Telling.{contract_there}

module _ (ask : Asking) (costs : Schedule) (s : State) (addr : List ℕ) (id : ℕ) (entry : Entry) (args : List (List ℕ)) (left : ℕ) where
  pub called_on : (bytes : List ℕ) (m : PlainModule) → bytes_at s id ≡ Some bytes → module_of bytes ≡ Some m
      → call_on ask costs s addr id entry args left ≡ fetched_before (bytes ∷ []) (gathered_all ask s addr (call_of m entry args (is_some (get s.pins id))) (outset_of costs s addr left))
  unfolding call_on
  called_on bytes m has_code has_module =
      ap (λ (x : Option (List ℕ)). call_of_code ask costs s addr entry args (is_some (get s.pins id)) left x) has_code
      ∙ ap (λ (x : Option PlainModule). fetched_before (bytes ∷ []) (call_of_module ask costs s addr entry args (is_some (get s.pins id)) left x)) has_module

  pub uncalled : bytes_at s id ≡ None → call_on ask costs s addr id entry args left ≡ no_call s addr left
  unfolding call_on
  uncalled none = ap (λ (x : Option (List ℕ)). call_of_code ask costs s addr entry args (is_some (get s.pins id)) left x) none

module _ (s : State) (costs : Schedule) (left : ℕ) (request text msg addr : List ℕ) (c : PlainContract) (found : address_of s.facts.prefix text ≡ Some addr) (there : get s.contracts addr ≡ Some c) where
  pub smart_called : (bytes : List ℕ) (m : PlainModule) → bytes_at s c.code_id ≡ Some bytes → module_of bytes ≡ Some m → (ask : Asking)
      → smart_at ask costs s request text msg left
      ≡ smart_told (fetched_before (bytes ∷ []) (gathered_all ask s addr (call_of m Query (arguments (query_env s addr) None msg) (is_some (get s.pins c.code_id))) (outset_of costs s addr left)))
  smart_called bytes m has_code has_module ask =
      contract_there s request text (smart_call ask costs s msg) addr c left found there
      ∙ ap smart_told (called_on ask costs s addr c.code_id Query (arguments (query_env s addr) None msg) left bytes m has_code has_module)

  pub smart_uncalled : bytes_at s c.code_id ≡ None → (ask : Asking) → smart_at ask costs s request text msg left ≡ out_of_gas left
  smart_uncalled none ask =
      contract_there s request text (smart_call ask costs s msg) addr c left found there ∙ ap smart_told (uncalled ask costs s addr c.code_id Query (arguments (query_env s addr) None msg) left none)

-- the call of a contract that was found, in the code
pub query_call : (s : State) (costs : Schedule) (left : ℕ) (request text msg addr env : List ℕ) (c : PlainContract) (opened : Opened) (before after : Option Tally) → address_of s.facts.prefix text ≡ Some addr → get s.contracts addr ≡ Some c
    → env ≡ query_env s addr → addr_of opened.store ≡ addr → string_bytes opened.prefix ≡ s.facts.prefix → IsCallOf s c.code_id Query (arguments env None msg) before after opened
    → IsQueryCall s costs left before after (λ ask. smart_at ask costs s request text msg left) opened
query_call s costs left request text msg addr env c opened before after found there env_is same_addr same_prefix h = record {
  call = call_of h.module Query (arguments env None msg) (is_some (get s.pins c.code_id));
  code = h.bytes;
  stands = h.stands;
  reads = refl;
  same_prefix = same_prefix;
  fetched = h.fetched;
  told = λ ask.
      smart_called s costs left request text msg addr c found there h.bytes h.module h.has_code h.has_module ask
      ∙ (λ i. smart_told (fetched_before (h.bytes ∷ []) (gathered_all ask s (sym same_addr i) (call_of h.module Query (arguments (sym env_is i) None msg) (is_some (get s.pins c.code_id))) (outset_of costs s (sym same_addr i) left))));
}
