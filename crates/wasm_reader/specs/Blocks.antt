-- Not for readers of contracts: it serves the proofs of this crate alone.
-- The blocks that are open, as a reader keeps them: the innermost, and those around it.
use Rattle.std.specs.Prelude.{Bool, List, [], ◌∷◌, Option, Some, None}

abbrev pub blocks_of : Option Bool → List Bool → List Bool
blocks_of None outer = []
blocks_of (Some inner) outer = inner ∷ outer
