use Rattle.std.proofs.Common.{◌≡◌, IfOk, sym, subst}
use Rattle.wasmnode.specs.History.{entry_text}
use Rattle.wasmnode.specs.Said.{entry_view}
use Rattle.wasmnode.specs.Standing.{OfChain}
use Rattle.wasmnode.proofs.entry.process.Goals as goal

pub returns-in-Block-clause-text : goal.returns-in-Block-clause-text
returns-in-Block-clause-text c =
    subst (λ e. IfOk c.deliver.result (λ text. OfChain c.args.chain.now (λ keep h. text.items ≡ entry_text keep h (entry_view e)))) (sym c.in-Block.is) c.deliver.ensures.text
