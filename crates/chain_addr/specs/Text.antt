-- The text of the bytes of an address in bech32 (BIP 173), as a function of the prefix and the bytes.
use Rattle.std.specs.Prelude.{ℕ, zero, suc, ◌+◌, ◌-◌, ◌*◌, ◌/◌, ◌%◌, ◌^◌, List, [], ◌∷◌, ◌++◌, length, map, bit_xor}
use Rattle.chain_addr.specs.Checksum.{remainder, expanded}
use Rattle.chain_addr.specs.Groups.{number}
use Rattle.chain_addr.specs.Letters.{letter_of}

-- so many groups of five bits of a number, the highest first
abbrev pub groups_in : ℕ → ℕ → List ℕ
groups_in zero n = []
groups_in (suc count) n = n / 2 ^ (5 * count) % 32 ∷ groups_in count n

-- the bytes in as few groups of five bits as hold them, the last filled up with bits 0
abbrev pub group_count : List ℕ → ℕ
group_count bytes = (8 * length bytes + 4) / 5

abbrev pub in_groups : List ℕ → List ℕ
in_groups bytes = groups_in (group_count bytes) (number 256 bytes * 2 ^ (5 * group_count bytes - 8 * length bytes))

-- the checksum of values: the remainder of them and six values 0, xor 1, in six groups
abbrev pub checksum : List ℕ → List ℕ
checksum values = groups_in 6 (bit_xor (remainder (values ++ 0 ∷ 0 ∷ 0 ∷ 0 ∷ 0 ∷ 0 ∷ [])) 1)

-- the prefix, `1`, and the letters of the bytes in groups and of the checksum
unfoldable pub text_of : List ℕ → List ℕ → List ℕ
text_of prefix bytes = prefix ++ 49 ∷ map letter_of (in_groups bytes ++ checksum (expanded prefix ++ in_groups bytes))
