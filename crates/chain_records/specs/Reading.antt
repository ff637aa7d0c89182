-- What is read from the front of bytes: a value and the bytes after it, or none.
use Rattle.std.specs.Prelude.{◌≡◌, ℕ, zero, suc, List, [], ◌∷◌, length, take, drop, Option, Some, None, Result, Ok, Err, nat_lt, if◌then◌else◌}
use Rattle.std.specs.Int.{w64, from_be_bytes}
use Rattle.std.specs.Str.{is_utf8}
use Rattle.chain_records.specs.declared.fault.Stop.{Stop}
use Rattle.chain_records.specs.declared.fault.Stop.TheVariants.{Unreadable, NoMemory}

infixl 10 ◌>>=◌
abbrev pub ◌>>=◌ : {A B : Type 0} → Option A → (A → Option B) → Option B
(Some a) >>= f = f a
None >>= f = None

-- What a reader answers, seen by view, is what is read, unless memory runs out.
abbrev pub Fails : {Y : Type 0} → Stop → Option Y → Type 0
Fails Unreadable read = read ≡ None
Fails NoMemory read = Unit {0}

abbrev pub Gives : {X Y : Type 0} → (X → Y) → Result X Stop → Option Y → Type 0
Gives view (Ok x) read = read ≡ Some (view x)
Gives view (Err e) read = Fails e read

-- nothing is left
abbrev pub end_of : List ℕ → Option (Unit {0})
end_of [] = Some tt
end_of (b ∷ bytes) = None

-- this value, where nothing is left
abbrev pub ended : {A : Type 0} → A → List ℕ → Option A
ended a bytes = do
  _ ← end_of bytes
  Some a

-- so many bytes
unfoldable pub front_at : ℕ → List ℕ → Option (List ℕ × List ℕ)
front_at n bytes = if nat_lt (length bytes) n then None else Some (take n bytes, drop n bytes)

unfoldable pub number_at : List ℕ → Option (ℕ × List ℕ)
number_at bytes = do
  front ← front_at 8 bytes
  Some (from_be_bytes w64 front.0, front.1)

-- all of the bytes
abbrev pub number_of : List ℕ → Option ℕ
number_of bytes = do
  number ← number_at bytes
  ended number.0 number.1

unfoldable pub text_of : List ℕ → Option (List ℕ)
text_of bytes = if is_utf8 bytes then Some bytes else None

-- ---- parts of a record

-- bytes behind their number
unfoldable pub bytes_at : List ℕ → Option (List ℕ × List ℕ)
bytes_at bytes = do
  count ← number_at bytes
  front_at count.0 count.1

unfoldable pub text_at : List ℕ → Option (List ℕ × List ℕ)
text_at bytes = do
  front ← bytes_at bytes
  text ← text_of front.0
  Some (text, front.1)

-- so many items
unfoldable pub items_at : {A : Type 0} → (List ℕ → Option (A × List ℕ)) → ℕ → List ℕ → Option (List A × List ℕ)
items_at read zero bytes = Some ([], bytes)
items_at read (suc n) bytes = do
  first ← read bytes
  others ← items_at read n first.1
  Some (first.0 ∷ others.0, others.1)

unfoldable pub list_at : {A : Type 0} → (List ℕ → Option (A × List ℕ)) → List ℕ → Option (List A × List ℕ)
list_at read bytes = do
  count ← number_at bytes
  items_at read count.0 count.1

unfoldable pub optional_at : {A : Type 0} → (List ℕ → Option (A × List ℕ)) → List ℕ → Option (Option A × List ℕ)
optional_at read [] = None
optional_at read (zero ∷ bytes) = Some (None, bytes)
optional_at read (suc zero ∷ bytes) = do
  a ← read bytes
  Some (Some a.0, a.1)
optional_at read (suc (suc b) ∷ bytes) = None
