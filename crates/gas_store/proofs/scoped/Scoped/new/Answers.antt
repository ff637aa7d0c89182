use Rattle.std.proofs.Common.{◌≡◌, ◌≤◌, ℕ, List, drop, length, sym, ap, ◌∙◌, arith, sum_by}
use Rattle.chain_records.specs.Keys.{key_bytes}
use Rattle.chain_records.specs.Keys as keys
use Rattle.gas_store.specs.Ends.{end_of}
use Rattle.gas_store.specs.Givens.{given_of}
use Rattle.gas_store.specs.Storage.{prefix_of}
use Rattle.gas_store.proofs.Storages.{addr_behind, prefix_length}
use Rattle.gas_store.proofs.scoped.Scoped.new.Goals as goal

pub invariant_of-result : goal.invariant_of-result
invariant_of-result c =
    let addr = c.args.addr.now in
    let copied = c.in_ok-to_vec.ensures.items_if_clones_equal (λ x y e. e) in
    let front : c.in_ok-prefix.prefix.items ≡ prefix_of addr = sym c.in_ok-prefix.ensures.same ∙ ap (λ (a : List ℕ). key_bytes (keys.storage a c.new.result.items)) copied ∙ ap (λ (k : List ℕ). key_bytes (keys.storage addr k)) c.new.ensures.items in
    let short : length c.in_ok-prefix.prefix.items ≤ 66 = omega (arith, ap length front, prefix_length addr, c.requires.1) in
    record {
      own = front ∙ ap prefix_of (sym (ap (drop 2) front ∙ addr_behind addr));
      short = short;
      bounded = c.in_ok-end.ensures ∙ ap end_of c.deref.ensures.value;
      counted = sym (ap (sum_by given_of) c.new-2.ensures.items);
      within = omega arith;
      few = omega (arith, c.new-2.ensures.len);
    }

pub returns-clause-addr : goal.returns-clause-addr
returns-clause-addr c =
    let addr = c.args.addr.now in
    let copied = c.in_ok-to_vec.ensures.items_if_clones_equal (λ x y e. e) in
    let front : c.in_ok-prefix.prefix.items ≡ prefix_of addr = sym c.in_ok-prefix.ensures.same ∙ ap (λ (a : List ℕ). key_bytes (keys.storage a c.new.result.items)) copied ∙ ap (λ (k : List ℕ). key_bytes (keys.storage addr k)) c.new.ensures.items in
    ap (drop 2) front ∙ addr_behind addr
