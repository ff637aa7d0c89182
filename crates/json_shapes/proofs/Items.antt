-- Reading the items of a list one by one.
use Rattle.std.proofs.Common.{List, ◌++◌}
use Rattle.json_shapes.specs.Shapes.{Reading, mapped}

-- what the items left give, with what was read in front
abbrev pub with_front : {A : Type 0} → List A → Reading (List A) → Reading (List A)
with_front front rest = mapped (λ xs. front ++ xs) rest
