-- Whole numbers as lists of bits, by which WebAssembly core 1.0 (section 4.3.1) defines the bit instructions.
-- A list has the lowest bit first, where the standard writes the highest first.
use Rattle.std.specs.Prelude.{ℕ, zero, suc, ◌+◌, ◌*◌, ◌/◌, ◌%◌, List, [], ◌∷◌}

-- the n lowest bits of a number
unfoldable pub bits_of : ℕ → ℕ → List ℕ
bits_of zero i = []
bits_of (suc n) i = i % 2 ∷ bits_of n (i / 2)

-- the number that has these bits
unfoldable pub number_of : List ℕ → ℕ
number_of [] = 0
number_of (bit ∷ bits) = bit + 2 * number_of bits

-- two lists joined bit by bit
unfoldable pub joined : (ℕ → ℕ → ℕ) → List ℕ → List ℕ → List ℕ
joined f [] others = []
joined f (bit ∷ bits) [] = []
joined f (bit ∷ bits) (other ∷ others) = f bit other ∷ joined f bits others

-- how many zeros stand at the front of a list
unfoldable pub zeros_in_front : List ℕ → ℕ
zeros_in_front [] = 0
zeros_in_front (zero ∷ bits) = suc (zeros_in_front bits)
zeros_in_front (suc bit ∷ bits) = 0
