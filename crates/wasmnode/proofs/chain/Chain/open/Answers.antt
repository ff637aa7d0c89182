use Rattle.std.proofs.Common.{◌≡◌, ◌∙◌, List, [], ◌∷◌, ◌++◌, Ok, sym, ap, subst, refl, arith}
use Rattle.circular_buffer.specs.Buffer.{Buffer, buffer, keep_last}
use Rattle.chain_msgs.specs.Plain.{genesis_view}
use Rattle.chain_records.specs.State.{Bytes, Spells}
use Rattle.state_runs.specs.Runs.{Run}
use Rattle.line_protocol.specs.Texts.{first_digest}
use Rattle.wasmnode.specs.declared.chain.Chain as chain_type
use Rattle.wasmnode.specs.Standing.{OpensAs}
use Rattle.wasmnode.proofs.Merges.{whole_few}
use Rattle.wasmnode.proofs.Openings.{stands_first}
use Rattle.wasmnode.proofs.chain.Chain.open.Goals as goal

pub returns-clause-opens : goal.returns-clause-opens
returns-clause-opens c =
    let g = genesis_view c.args.g.now in
    let keep = c.args.keep in
    let made = c.in-Ok.ensures in
    let runs = c.in_ok-from_plain.field-0 in
    let new : chain_type.Chain = record { heights = c.push_back.new.self; height = 0; query_gas = c.args.g.now.query_gas; digest = first_digest } in
    let heights : c.push_back.new.self ≡ buffer (keep_last keep (runs ∷ [])) keep =
    c.push_back.ensures.items ∙ ap (λ (b : Buffer (List Run)). buffer (keep_last b.capacity (b.items ++ runs ∷ [])) b.capacity) c.in_ok-heights.ensures in
    let whole = c.in_ok-from_plain.ensures.whole in
    let stands = stands_first keep g made.state made.authority runs new c.requires.keep made.facts (record {
      spelled = subst (λ (m : Bytes). Spells m made.state) (sym c.in_ok-from_plain.ensures.map) made.spelled;
      lawful = made.lawful;
      few = let few = whole_few runs c.in-Ok.records whole in omega (arith, few);
    }) heights refl refl refl in
    subst (OpensAs keep g (Ok new)) (sym made.opens) stands
