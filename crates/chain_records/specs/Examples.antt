-- What the definitions say of small keys and records.
use Rattle.std.specs.Prelude.{◌≡◌, [], ◌∷◌, ◌++◌, codes, Some, None, refl}
use Rattle.std.specs.declared.cmp.Ordering.TheVariants.{Less}
use Rattle.std.specs.Ordering.{nat_cmp}
use Rattle.std.specs.Cmp.Lexicographic.{slice_cmp}
use Rattle.chain_records.specs.Pieces.{optional}
use Rattle.chain_records.specs.Keys.{balance, code, pin, key_bytes}
use Rattle.chain_records.specs.Records.{amount, contract, counters, stored_bytes}
use Rattle.chain_records.specs.Changes.{BecomesUnder}

first_code : key_bytes (code 1) ≡ 2 ∷ 0 ∷ 0 ∷ 0 ∷ 0 ∷ 0 ∷ 0 ∷ 0 ∷ 1 ∷ []
unfolding key_bytes
first_code = refl

balance_of_an_address : key_bytes (balance (0xAA ∷ 0xBB ∷ []) (codes "utok")) ≡ 1 ∷ 2 ∷ 0xAA ∷ 0xBB ∷ codes "utok"
unfolding key_bytes
balance_of_an_address = refl

pin_of_a_code : key_bytes (pin 0x0102) ≡ 6 ∷ 0 ∷ 0 ∷ 0 ∷ 0 ∷ 0 ∷ 0 ∷ 1 ∷ 2 ∷ []
unfolding key_bytes
pin_of_a_code = refl

ten : stored_bytes (amount 10) ≡ 0 ∷ 0 ∷ 0 ∷ 0 ∷ 0 ∷ 0 ∷ 0 ∷ 0 ∷ 0 ∷ 0 ∷ 0 ∷ 0 ∷ 0 ∷ 0 ∷ 0 ∷ 0x0A ∷ []
unfolding stored_bytes
ten = refl

two_counters : stored_bytes (counters (record { next_code = 1; next_instance = 2 })) ≡ 0 ∷ 0 ∷ 0 ∷ 0 ∷ 0 ∷ 0 ∷ 0 ∷ 1 ∷ 0 ∷ 0 ∷ 0 ∷ 0 ∷ 0 ∷ 0 ∷ 0 ∷ 2 ∷ []
unfolding stored_bytes
two_counters = refl

contract_with_an_admin :
    stored_bytes (contract (record { code_id = 9; creator = 0xAA ∷ []; admin = Some (0xBB ∷ []); label = codes "l" }))
    ≡ (0 ∷ 0 ∷ 0 ∷ 0 ∷ 0 ∷ 0 ∷ 0 ∷ 9 ∷ []) ++ (0 ∷ 0 ∷ 0 ∷ 0 ∷ 0 ∷ 0 ∷ 0 ∷ 1 ∷ 0xAA ∷ []) ++ (1 ∷ 0 ∷ 0 ∷ 0 ∷ 0 ∷ 0 ∷ 0 ∷ 0 ∷ 1 ∷ 0xBB ∷ []) ++ (0 ∷ 0 ∷ 0 ∷ 0 ∷ 0 ∷ 0 ∷ 0 ∷ 1 ∷ codes "l")
unfolding stored_bytes optional
contract_with_an_admin = refl

-- the last change of a key is what is left of it
removed_after_written : BecomesUnder (pin 1) None ((pin 1, Some (amount 7)) ∷ (pin 1, None) ∷ []) None
removed_after_written = (λ same. (λ again. refl, λ differ. absurd (differ refl)), λ differ. absurd (differ refl))

code_255_before_256 : slice_cmp nat_cmp (key_bytes (code 255)) (key_bytes (code 256)) ≡ Less
unfolding key_bytes
code_255_before_256 = refl
