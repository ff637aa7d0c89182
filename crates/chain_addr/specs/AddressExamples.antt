-- Texts and the addresses that they stand for.
use Rattle.std.specs.Prelude.{◌≡◌, [], ◌∷◌, codes, Some, None, refl}
use Rattle.chain_addr.specs.Address.{address_of}
use Rattle.chain_addr.specs.Reading.{fault_of, groups_of}
use Rattle.chain_addr.specs.Checksum.{step}
use Rattle.chain_addr.specs.Text.{text_of}

twenty_bytes :
    address_of (codes "abcdef") (codes "abcdef1qpzry9x8gf2tvdw0s3jn54khce6mua7lmqqqxw")
    ≡ Some (0x00 ∷ 0x44 ∷ 0x32 ∷ 0x14 ∷ 0xc7 ∷ 0x42 ∷ 0x54 ∷ 0xb6 ∷ 0x35 ∷ 0xcf ∷ 0x84 ∷ 0x65 ∷ 0x3a ∷ 0x56 ∷ 0xd7 ∷ 0xc6 ∷ 0x75 ∷ 0xbe ∷ 0x77 ∷ 0xdf ∷ [])
unfolding address_of fault_of groups_of step
twenty_bytes = refl

text_of_twenty_bytes :
    text_of (codes "abcdef") (0x00 ∷ 0x44 ∷ 0x32 ∷ 0x14 ∷ 0xc7 ∷ 0x42 ∷ 0x54 ∷ 0xb6 ∷ 0x35 ∷ 0xcf ∷ 0x84 ∷ 0x65 ∷ 0x3a ∷ 0x56 ∷ 0xd7 ∷ 0xc6 ∷ 0x75 ∷ 0xbe ∷ 0x77 ∷ 0xdf ∷ [])
    ≡ codes "abcdef1qpzry9x8gf2tvdw0s3jn54khce6mua7lmqqqxw"
unfolding text_of step
text_of_twenty_bytes = refl

-- bech32, but of no bytes
no_bytes : address_of (codes "a") (codes "A12UEL5L") ≡ None
unfolding address_of fault_of groups_of step
no_bytes = refl

text_of_no_bytes : text_of (codes "a") [] ≡ codes "a12uel5l"
unfolding text_of step
text_of_no_bytes = refl
