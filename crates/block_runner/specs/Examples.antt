-- Geneses that open a chain, and faults of some that open none.
use Rattle.std.specs.Prelude.{◌≡◌, ℕ, true, List, [], ◌∷◌, codes, Some, Err, is_some, refl}
use Rattle.std.specs.Result.{result_ok}
use Rattle.coin_amounts.specs.Plain.{RawCoin}
use Rattle.chain_addr.specs.Address.{address_of}
use Rattle.chain_addr.specs.Reading.{fault_of, groups_of}
use Rattle.chain_addr.specs.Checksum.{step}
use Rattle.chain_msgs.specs.Plain.{Genesis, Holding}
use Rattle.block_runner.specs.Opening.{bad_address, bad_coins, bad_supply, opened}

abbrev one : List ℕ
one = codes "abcdef1qpzry9x8gf2tvdw0s3jn54khce6mua7lmqqqxw"

-- the same address
abbrev upper : List ℕ
upper = codes "ABCDEF1QPZRY9X8GF2TVDW0S3JN54KHCE6MUA7LMQQQXW"

abbrev other : List ℕ
other = codes "abcdef1qpzry9x8gf2tvdw0s3jn54khce6mua77xk54mu"

abbrev utok : List ℕ → List RawCoin
utok amount = record { denom = codes "utok"; amount = amount } ∷ []

abbrev most : List ℕ
most = codes "340282366920938463463374607431768211455"

abbrev holding : List Holding → Genesis
holding balances = record { chain_id = codes "t-1"; time = 0; prefix = codes "abcdef"; authority = Some one; capabilities = []; balances = balances; query_gas = 1000000 }

as_much_as_fits : is_some (result_ok (opened (holding ((one, utok most) ∷ (other, []) ∷ [])))) ≡ true
unfolding opened address_of fault_of groups_of step
as_much_as_fits = refl

one_too_many : opened (holding ((one, utok most) ∷ (other, utok (codes "1")) ∷ [])) ≡ Err bad_supply
unfolding opened address_of fault_of groups_of step
one_too_many = refl

twice : opened (holding ((one, []) ∷ (upper, []) ∷ [])) ≡ Err bad_address
unfolding opened address_of fault_of groups_of step
twice = refl

-- all addresses come before the first coin
unread_address : opened (holding ((one, utok (codes "0")) ∷ (codes "zz", []) ∷ [])) ≡ Err bad_address
unfolding opened address_of fault_of groups_of step
unread_address = refl

-- all coins come before the supplies
no_amount : opened (holding ((one, utok most) ∷ (other, record { denom = codes "utok"; amount = codes "1" } ∷ utok (codes "0")) ∷ [])) ≡ Err bad_coins
unfolding opened address_of fault_of groups_of step
no_amount = refl
