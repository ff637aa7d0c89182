-- Texts and lists of bytes, from the place inside them and the place behind.
use Rattle.std.proofs.Common.{◌≡◌, ℕ, List, Bool, true, false, Ok, refl}
use Rattle.std.specs.Str.{is_utf8, IsUtf8}
use Rattle.std.proofs.lemmas.Str.{is_utf8-from_IsUtf8, IsUtf8-from_is_utf8}
use Rattle.wasm_types.specs.declared.kind.ReadKind.TheVariants.{Name}
use Rattle.wasm_types.specs.Place.{Place, breaks}
use Rattle.wasm_types.specs.Part.{part_read, sized_read, used_up_read, byte_list}
use Rattle.wasm_types.specs.Types.{text}
use Rattle.wasm_reader.specs.declared.stop.ReadStop.{ReadStop}
use Rattle.wasm_reader.specs.declared.stop.ReadStop.TheVariants.{Fault, NoMemory}
use Rattle.wasm_reader.specs.Gives.{Fails}

pub no_text : (e : ReadStop) (start : Place) → Fails e (part_read start) → Fails e (text.read start)
unfolding text sized_read
no_text NoMemory start h = tt
no_text (Fault at why) start h = rw h refl

pub text_is : (start within after : Place) → part_read start ≡ Ok (within, after) → IsUtf8 within.rest → text.read start ≡ Ok (within.rest, after)
unfolding text sized_read used_up_read
text_is start within after h u = let e : is_utf8 within.rest ≡ true = is_utf8-from_IsUtf8 within.rest u in rw (h, e) refl

pub not_utf8 : (bytes : List ℕ) → (IsUtf8 bytes → ⊥) → is_utf8 bytes ≡ false
not_utf8 bytes h = go (is_utf8 bytes) refl
  where
    go : (b : Bool) → is_utf8 bytes ≡ b → b ≡ false
    go true e = absurd (h (IsUtf8-from_is_utf8 bytes e))
    go false e = refl

pub text_is_none : (start within after : Place) → part_read start ≡ Ok (within, after) → (IsUtf8 within.rest → ⊥) → text.read start ≡ breaks within.at Name
unfolding text sized_read used_up_read
text_is_none start within after h u = let e : is_utf8 within.rest ≡ false = not_utf8 within.rest u in rw (h, e) refl

pub no_bytes : (e : ReadStop) (start : Place) → Fails e (part_read start) → Fails e (byte_list.read start)
unfolding sized_read
no_bytes NoMemory start h = tt
no_bytes (Fault at why) start h = rw h refl

pub bytes_are : (start within after : Place) → part_read start ≡ Ok (within, after) → byte_list.read start ≡ Ok (within.rest, after)
unfolding sized_read used_up_read
bytes_are start within after h = rw h refl
