-- Writing a number byte by byte.
use Rattle.std.proofs.Common.{◌≡◌, ℕ, zero, suc, ◌+◌, ◌-◌, ◌/◌, ◌%◌, ◌<◌, ◌≤◌, List, [], ◌∷◌, ◌++◌, None, Result, Ok, Err, OnOk, sym, append_assoc, arith}
use Rattle.std.proofs.lemmas.Bool.{le-ltb}
use Rattle.wasm_writer.specs.ShortNumber.{unsigned_in, signed_byte, signed_in}

pub on_ok : {T E : Type 0} {P Q : Type 0} (r : Result T E) → (P → Q) → OnOk r P → OnOk r Q
on_ok (Ok x) f h = f h
on_ok (Err e) f h = h

one_less : (more : ℕ) → suc more - 1 ≡ more
one_less more = omega arith

module _ (front middle whole : List ℕ) where
  pub unsigned_more : (most n : ℕ) → 0 < most → 128 ≤ n → middle ≡ front ++ (n % 128 + 128) ∷ [] → whole ≡ middle ++ unsigned_in (most - 1) (n / 128) → whole ≡ front ++ unsigned_in most n
  unfolding unsigned_in
  unsigned_more zero n some large e f = absurd (omega arith)
  unsigned_more (suc more) n some large e f =
      rw (le-ltb _ _ large) (rw (one_less more, e, append_assoc front ((n % 128 + 128) ∷ []) (unsigned_in more (n / 128))) at f)

  pub signed_more : (most bits n : ℕ) → 0 < most → None ≡ signed_byte bits n → middle ≡ front ++ (n % 128 + 128) ∷ [] → whole ≡ middle ++ signed_in (most - 1) (bits - 7) (n / 128) → whole ≡ front ++ signed_in most bits n
  unfolding signed_in
  signed_more zero bits n some none e f = absurd (omega arith)
  signed_more (suc more) bits n some none e f =
      rw (sym none) (rw (one_less more, e, append_assoc front ((n % 128 + 128) ∷ []) (signed_in more (bits - 7) (n / 128))) at f)
