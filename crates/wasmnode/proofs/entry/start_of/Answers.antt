use Rattle.std.proofs.Common.{◌≡◌, ◌∙◌, Ok, sym, ap, string_bytes}
use Rattle.chain_msgs.specs.Plain.{genesis_view}
use Rattle.line_protocol.specs.Forms.{line_of, genesis_line}
use Rattle.line_protocol.specs.Plain.{line_view}
use Rattle.wasmnode.proofs.Prefixes.{prefix_is}
use Rattle.wasmnode.proofs.entry.start_of.Goals as goal

pub returns-in-Genesis : goal.returns-in-Genesis
returns-in-Genesis c =
    let line : line_of c.args.line.now.number c.args.line.now.bytes.items ≡ Ok (genesis_line (genesis_view c.in-Genesis.genesis)) =
    ap (line_of c.args.line.now.number) (sym c.deref.ensures.value) ∙ c.in_ok-parse.ensures.said ∙ ap (λ l. Ok (line_view l)) c.in-Genesis.is in
    rw line c.in_ok-start_with-in-Genesis.ensures

pub start_with-requires-clause-prefix : goal.start_with-requires-clause-prefix
start_with-requires-clause-prefix c = prefix_is (string_bytes c.in-Genesis.genesis.prefix) (rw c.in-Genesis.is at c.in_ok-parse.ensures.prefix)
