-- Writing a number to the base 128 byte by byte.
use Rattle.std.proofs.Common.{◌≡◌, ◌*◌, ℕ, zero, suc, ◌+◌, ◌-◌, ◌/◌, ◌%◌, ◌<◌, ◌≤◌, List, [], ◌∷◌, ◌++◌, Result, Ok, Err, OnOk, length, sym, ◌∙◌, append_assoc, append-nil, arith}
use Rattle.std.proofs.lemmas.Bool.{le-ltb}
use Rattle.chain_msgs.specs.Protobuf.{varint_in, varint, bytes_field}

pub on_ok : {T E : Type 0} {P Q : Type 0} (r : Result T E) → (P → Q) → OnOk r P → OnOk r Q
on_ok (Ok x) f h = f h
on_ok (Err e) f h = h

one_less : (more : ℕ) → suc more - 1 ≡ more
one_less more = omega arith

module _ (front middle whole : List ℕ) where
  pub varint_more : (most n : ℕ) → 0 < most → 128 ≤ n → middle ≡ front ++ (n % 128 + 128) ∷ [] → whole ≡ middle ++ varint_in (most - 1) (n / 128) → whole ≡ front ++ varint_in most n
  unfolding varint_in
  varint_more zero n some large e f = absurd (omega arith)
  varint_more (suc more) n some large e f =
      rw (le-ltb _ _ large) (rw (one_less more, e, append_assoc front ((n % 128 + 128) ∷ []) (varint_in more (n / 128))) at f)

pub no_bytes : (front : List ℕ) (number : ℕ) (bytes : List ℕ) → length bytes ≡ 0 → front ≡ front ++ bytes_field number bytes
no_bytes front number [] none = sym (append-nil front)
no_bytes front number (b ∷ bytes) none = absurd (omega arith)

pub some_bytes : (front one two whole : List ℕ) (number : ℕ) (bytes : List ℕ) → 0 < length bytes
    → one ≡ front ++ (8 * number + 2) ∷ [] → two ≡ one ++ varint (length bytes) → whole ≡ two ++ bytes → whole ≡ front ++ bytes_field number bytes
some_bytes front one two whole number [] some e f g = absurd (omega arith)
some_bytes front one two whole number (b ∷ bytes) some e f g =
    let key = (8 * number + 2) ∷ [] in
    let size = varint (length (b ∷ bytes)) in
    rw (g, f, e) (append_assoc (front ++ key) size (b ∷ bytes) ∙ append_assoc front key (size ++ b ∷ bytes))
