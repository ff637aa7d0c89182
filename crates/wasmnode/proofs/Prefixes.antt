-- What a line takes for the beginning of addresses is such a beginning.
use Rattle.std.proofs.Common.{◌≡◌, ◌≤◌, ◌&&◌, ℕ, Bool, true, false, List, length, get_or, refl, arith}
use Rattle.std.proofs.lemmas.Bool.Decides.{nat_tests}
use Rattle.std.proofs.lemmas.List.Sums.{AllPass-from_list_all}
use Rattle.std.specs.Prelude.{nat_le}
use Rattle.std.specs.List.{list_all}
use Rattle.chain_addr.specs.Letters.{IsPrefix}
use Rattle.line_protocol.specs.Forms.{is_lower, is_prefix}

three : (a b c : Bool) → (a && b && c) ≡ true → (a ≡ true) × (b ≡ true) × (c ≡ true)
three true true true is = (refl, refl, refl)
three true true false is = absurd cc
three true false c is = absurd cc
three false b c is = absurd cc

is_at_least : (n m : ℕ) → nat_le n m ≡ true → n ≤ m
is_at_least n m is = grind (arith, nat_tests)

lower_is : (c : ℕ) (low high : Bool) → nat_le 97 c ≡ low → nat_le c 122 ≡ high → (low && high) ≡ true → (97 ≤ c) × (c ≤ 122)
lower_is c true true low high is = (is_at_least 97 c low, is_at_least c 122 high)
lower_is c true false low high is = absurd cc
lower_is c false high_ low high is = absurd cc

pub prefix_is : (prefix : List ℕ) → is_prefix prefix ≡ true → IsPrefix prefix
prefix_is prefix is =
    let tests = three (nat_le 1 (length prefix)) (nat_le (length prefix) 20) (list_all is_lower prefix) is in
    record {
      some = is_at_least 1 (length prefix) tests.0;
      few = is_at_least (length prefix) 20 tests.1;
      lower = λ k d within. lower_is (get_or prefix k d) (nat_le 97 (get_or prefix k d)) (nat_le (get_or prefix k d) 122) refl refl (AllPass-from_list_all is_lower prefix tests.2 k d within);
    }
