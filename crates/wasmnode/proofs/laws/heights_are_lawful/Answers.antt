use Rattle.wasmnode.proofs.Bridge.{heights_lawful}
use Rattle.wasmnode.proofs.laws.heights_are_lawful.Goals as goal

pub returns : goal.returns
returns c = heights_lawful
