-- Not for readers of contracts: it serves the proofs of this crate alone.
-- Where the bytes end that begin with some bytes.
use Rattle.std.specs.Prelude.{ℕ, ◌+◌, List, [], ◌∷◌, ◌==◌, if◌then◌else◌}

abbrev pub end_behind : ℕ → List ℕ → List ℕ
end_behind b [] = if b == 255 then [] else (b + 1) ∷ []
end_behind b (c ∷ bytes) = b ∷ c ∷ bytes

-- the least bytes above all those that begin with these; none where all of these are 255
abbrev pub end_of : List ℕ → List ℕ
end_of [] = []
end_of (b ∷ bytes) = end_behind b (end_of bytes)
