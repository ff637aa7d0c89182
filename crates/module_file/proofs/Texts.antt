-- Whether bytes are a text.
use Rattle.std.proofs.Common.{◌≡◌, ℕ, List, Bool, true, false, Some, None, refl}
use Rattle.std.specs.Str.{is_utf8, IsUtf8}
use Rattle.std.proofs.lemmas.Str.{is_utf8-from_IsUtf8, IsUtf8-from_is_utf8}
use Rattle.module_file.specs.Form.{text_of}

pub text_is : (bytes : List ℕ) → IsUtf8 bytes → text_of bytes ≡ Some bytes
unfolding text_of
text_is bytes u = let e : is_utf8 bytes ≡ true = is_utf8-from_IsUtf8 bytes u in rw e refl

not_utf8 : (bytes : List ℕ) → (IsUtf8 bytes → ⊥) → is_utf8 bytes ≡ false
not_utf8 bytes h = go (is_utf8 bytes) refl
  where
    go : (b : Bool) → is_utf8 bytes ≡ b → b ≡ false
    go true e = absurd (h (IsUtf8-from_is_utf8 bytes e))
    go false e = refl

pub text_is_none : (bytes : List ℕ) → (IsUtf8 bytes → ⊥) → text_of bytes ≡ None
unfolding text_of
text_is_none bytes h = let e : is_utf8 bytes ≡ false = not_utf8 bytes h in rw e refl
