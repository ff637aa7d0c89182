-- Reading at a place of a whole input.
use Rattle.std.proofs.Common.{◌≡◌, ℕ, ◌+◌, ◌-◌, ◌<◌, ◌≤◌, Bool, true, false, cond, ltb, List, ◌∷◌, length, get_or, take, drop, Ok, refl, arith, add-one, drop-cons}
use Rattle.std.specs.Prelude.{nat_eq}
use Rattle.std.specs.List.{starts_with}
use Rattle.std.proofs.lemmas.Bool.{lt-ltb, le-ltb}
use Rattle.std.proofs.lemmas.List.{drop_all, drop-drop, drop-take, length-drop}
use Rattle.wasm_types.specs.declared.kind.ReadKind.{ReadKind}
use Rattle.wasm_types.specs.declared.kind.ReadKind.TheVariants.{Cut, Magic, Size}
use Rattle.wasm_types.specs.Place.{Place, breaks}
use Rattle.wasm_types.specs.Number.{place_at, number_read}
use Rattle.wasm_types.specs.Part.{next_read, used_up_read, word_read, part_read, length_read}
use Rattle.wasm_types.specs.ModuleText.{header}
use Rattle.wasm_reader.specs.declared.stop.ReadStop.{ReadStop}
use Rattle.wasm_reader.specs.declared.stop.ReadStop.TheVariants.{Fault, NoMemory}
use Rattle.wasm_reader.specs.Gives.{Fails}

here : (bytes : List ℕ) (at : ℕ) → at < length bytes → drop at bytes ≡ get_or bytes at 0 ∷ drop (at + 1) bytes
here bytes at lt = rw (add-one, drop-cons bytes at 0) refl

pub next_end : (why : ReadKind) (bytes : List ℕ) (at : ℕ) → length bytes ≤ at → next_read why (place_at at bytes) ≡ breaks at why
unfolding next_read
next_end why bytes at le = rw (drop_all at bytes le) refl

pub next_here : (why : ReadKind) (bytes : List ℕ) (at : ℕ) → at < length bytes → next_read why (place_at at bytes) ≡ Ok (get_or bytes at 0, place_at (at + 1) bytes)
unfolding next_read
next_here why bytes at lt = rw (here bytes at lt) refl

-- ---- the end of a part

pub left_over : (bytes : List ℕ) (at : ℕ) → at < length bytes → used_up_read (place_at at bytes) ≡ breaks at Size
unfolding used_up_read
left_over bytes at lt = rw (here bytes at lt) refl

pub nothing_left : (bytes : List ℕ) (at : ℕ) → length bytes ≤ at → used_up_read (place_at at bytes) ≡ Ok (tt, place_at at bytes)
unfolding used_up_read
nothing_left bytes at le = rw (drop_all at bytes le) refl

-- ---- the header

pub word_found : (bytes : List ℕ) (at : ℕ) → starts_with nat_eq (drop at bytes) header ≡ true → word_read header Magic (place_at at bytes) ≡ Ok (tt, place_at (at + 8) bytes)
unfolding word_read
word_found bytes at e = rw (e, drop-drop 8 at bytes) refl

pub word_missing : (bytes : List ℕ) (at : ℕ) (cut : Bool) → starts_with nat_eq (drop at bytes) header ≡ false → starts_with nat_eq header (drop at bytes) ≡ cut → word_read header Magic (place_at at bytes) ≡ breaks at (cond cut Cut Magic)
unfolding word_read
word_missing bytes at cut e f = rw (e, f) refl

-- ---- a part that begins with its length

pub no_length : (e : ReadStop) (start : Place) → Fails e (number_read false 32 start) → Fails e (part_read start)
unfolding part_read length_read
no_length NoMemory start h = tt
no_length (Fault at why) start h = rw h refl

pub too_long : (start : Place) (n : ℕ) (at : ℕ) (bytes : List ℕ) → number_read false 32 start ≡ Ok (n, place_at at bytes) → length bytes - at < n → part_read start ≡ breaks start.at Cut
unfolding part_read length_read
too_long start n at bytes e lt =
    let short : ltb (length (drop at bytes)) n ≡ true = lt-ltb _ _ (omega (arith, length-drop at bytes)) in
    rw (e, short) refl

pub long_enough : (start : Place) (n : ℕ) (at : ℕ) (bytes : List ℕ) → number_read false 32 start ≡ Ok (n, place_at at bytes) → n ≤ length bytes - at
    → part_read start ≡ Ok (place_at at (take (at + n) bytes), place_at (at + n) bytes)
unfolding part_read length_read
long_enough start n at bytes e le =
    let long : ltb (length (drop at bytes)) n ≡ false = le-ltb _ _ (omega (arith, length-drop at bytes)) in
    rw (e, long, drop-take at n bytes, drop-drop n at bytes) refl
