-- What imports find before they do anything.
use Rattle.std.proofs.Common.{◌≡◌, ◌==◌, Bool, true, false, refl, sym, ◌∙◌, ap, ℕ, List, Option, Some, None, Result, Ok, Err}
use Rattle.std.specs.Prelude.{if◌then◌else◌}
use Rattle.std.specs.Global.{Vec}
use Rattle.std.proofs.lemmas.Bool.{ne_eqb}
use Rattle.kv_layers.specs.declared.layers.Layers.{Layers}
use Rattle.kv_layers.specs.declared.order.Order.{Order}
use Rattle.kv_layers.specs.declared.order.Order.TheVariants.{Ascending, Descending}
use Rattle.kv_layers.specs.Bytes.{Bytes}
use Rattle.kv_layers.specs.Plain.{bytes_view, value_view}
use Rattle.gas_store.specs.declared.scoped.Scoped.{Scoped}
use Rattle.wasm_types.specs.declared.value.Value.{Value}
use Rattle.wasm_types.specs.Plain.{PlainModule}
use Rattle.wasm_machine.specs.declared.machine.Machine.{Machine}
use Rattle.wasm_machine.specs.Machine.{plain_of}
use Rattle.host_imports.specs.declared.fault.CallFault.TheVariants as call_faults
use Rattle.host_imports.specs.declared.request.Request.{Request}
use Rattle.host_imports.specs.declared.stop.Stop.{Stop}
use Rattle.host_imports.specs.declared.stop.Stop.TheVariants as stops
use Rattle.host_imports.specs.Faults.{write_in_query, bad_order}
use Rattle.host_imports.specs.Work.{done, faults, ◌>>=◌}
use Rattle.host_imports.specs.Allocation.{region}
use Rattle.host_imports.specs.Imports.{Setting, Settled, may_write, order_of, bound, longest_key, if_asked, host}
use Rattle.host_imports.specs.Parts.{same_view, unit_view, ended_of, Moves, Does}
use Rattle.host_imports.specs.Requests.{asked}
use Rattle.host_imports.proofs.Works.{for_some, done_moves, fault_moves, moves_then, moves_stop, moves_along, reach_along}

-- ---- writes

pub may_write_so : {k : Machine} {g : ℕ} (read_only : Bool) → read_only ≡ false → Moves k k g g (may_write read_only) unit_view (Ok tt)
may_write_so read_only e = moves_along (ap may_write e) (done_moves tt)

pub may_not_write : {k : Machine} {g : ℕ} (read_only : Bool) → read_only ≡ true → Moves k k g g (may_write read_only) unit_view (Err (stops.Fault call_faults.WriteInQuery))
may_not_write read_only e = moves_along (ap may_write e) (fault_moves write_in_query call_faults.WriteInQuery refl)

-- ---- orders and bounds

order_if : (first second : Bool) (order : ℕ) → (order == 1) ≡ first → (order == 2) ≡ second → order_of order ≡ (if first then done Ascending else if second then done Descending else faults bad_order)
order_if first second order e f = λ i. if e i then done Ascending else if f i then done Descending else faults bad_order

pub order_refused : {k : Machine} {g : ℕ} (order : ℕ) → (order ≡ 1 → ⊥) → (order ≡ 2 → ⊥) → Moves k k g g (order_of order) same_view (Err (stops.Fault call_faults.BadOrder))
order_refused order one two = moves_along (order_if false false order (ne_eqb order 1 one) (ne_eqb order 2 two)) (fault_moves bad_order call_faults.BadOrder refl)

pub order_given : {k : Machine} {g : ℕ} (order : ℕ) (given : ℕ) (o : Order) → order ≡ given → order_of given ≡ done o → Moves k k g g (order_of order) same_view (Ok o)
order_given order given o e f = moves_along (ap order_of e ∙ f) (done_moves o)

bound_if : (none : Bool) (pointer : ℕ) → (pointer == 0) ≡ none → bound pointer ≡ (if none then done None else region longest_key pointer >>= λ bytes. done (Some bytes))
bound_if none pointer e = ap (λ (b : Bool). if b then done None else region longest_key pointer >>= λ bytes. done (Some bytes)) e

pub no_bound : {k : Machine} {g : ℕ} (pointer : ℕ) → pointer ≡ 0 → Moves k k g g (bound pointer) value_view (Ok None)
no_bound pointer e = moves_along (ap bound e) (done_moves {view = value_view} None)

pub bound_read : {k : Machine} {g : ℕ} (pointer : ℕ) (bytes : Vec ℕ) → (pointer ≡ 0 → ⊥) → Moves k k g g (region longest_key pointer) bytes_view (Ok bytes) → Moves k k g g (bound pointer) value_view (Ok (Some bytes))
bound_read pointer bytes some m = moves_along (bound_if false pointer (ne_eqb pointer 0 some)) (moves_then _ m (done_moves {view = value_view} (Some bytes)))

pub bound_unread : {k : Machine} {g : ℕ} (pointer : ℕ) (stop : Stop) → (pointer ≡ 0 → ⊥) → Moves k k g g (region longest_key pointer) bytes_view (Err stop) → Moves k k g g (bound pointer) value_view (Err stop)
bound_unread pointer stop some m = moves_along (bound_if false pointer (ne_eqb pointer 0 some)) (moves_stop _ stop m)

-- ---- what is asked

pub asked_does : {B X : Type 0} {S : B → Bytes → Type 0} {l0 l1 : Layers B} {s0 s1 : Scoped} {k0 k1 : Machine} {g0 g1 : ℕ} {view : X → Settled} {result : Result X Stop} (s : Setting) (import : ℕ) (args : List Value) (request : Option Request) → request ≡ asked (plain_of k0) import args → Does S l0 l1 s0 s1 k0 k1 g0 g1 (if_asked s request) view result → Does S l0 l1 s0 s1 k0 k1 g0 g1 (host s import args) view result
unfolding host
asked_does {view = view} {result = result} s import args request e d = record {
  does = λ maps p at holds.
      let so = ap (λ (r : Option Request). if_asked s r p) (ap (λ (m : PlainModule). asked m import args) at.runs ∙ sym e) in
      for_some (ended_of view result) (λ ended c. reach_along so c) (d.does maps p at holds);
}
