-- How values stand in a file. A form says what the bytes of a value are, and what is read from the front of bytes: a value and the
-- bytes after it, or none. Larger forms are made of smaller ones by `do`, field by field, so that one text says both.
use Rattle.std.specs.Prelude.{ℕ, zero, suc, nat_eq, nat_lt, if◌then◌else◌, List, [], ◌∷◌, ◌++◌, length, take, drop, Option, Some, None}
use Rattle.std.specs.Int.{w32, w64, to_le_bytes, from_le_bytes}
use Rattle.std.specs.List.{flat_map, starts_with}
use Rattle.std.specs.Str.{is_utf8}

-- what reading from the front of bytes gives: a value and the bytes after it
abbrev pub Reading : Type 0 → Type 0
Reading A = Option (A × List ℕ)

abbrev pub then_read : {A B : Type 0} → Reading A → (A → List ℕ → Reading B) → Reading B
then_read (Some x) f = f x.0 x.1
then_read None f = None

-- a value that bytes before these stand for, if they do
abbrev pub known : {A : Type 0} → Option A → List ℕ → Reading A
known (Some a) rest = Some (a, rest)
known None rest = None

-- A part of a whole: what the whole has there, the bytes of that, and what is read of it.
pub record Part (Whole A : Type 0) : Type 0 where
  pub value : Whole → A
  pub text : Whole → List ℕ
  pub read : List ℕ → Reading A

-- The whole of a value.
abbrev pub Form : Type 0 → Type 0
Form A = Part A A

abbrev pub form_of : {A : Type 0} → (A → List ℕ) → (List ℕ → Reading A) → Form A
form_of text read = record { value = λ a. a; text = text; read = read }

-- ---- joining parts

-- a field of the whole, in its own form
abbrev pub field : {Whole A : Type 0} → (Whole → A) → Form A → Part Whole A
field value form = record { value = value; text = λ w. form.text (value w); read = form.read }

-- nothing more: the whole is this
abbrev pub done : {Whole A : Type 0} → A → Part Whole A
done a = record { value = λ w. a; text = λ w. []; read = λ bytes. Some (a, bytes) }

-- a part, and then one that depends on its value
infixl 10 ◌>>=◌
abbrev pub ◌>>=◌ : {Whole A B : Type 0} → Part Whole A → (A → Part Whole B) → Part Whole B
p >>= q = record {
  value = λ w. (q (p.value w)).value w;
  text = λ w. p.text w ++ (q (p.value w)).text w;
  read = λ bytes. then_read (p.read bytes) (λ a rest. (q a).read rest);
}

-- one form, and then another
abbrev pub pair : {A B : Type 0} → Form A → Form B → Form (A × B)
pair {A} {B} p q = form_of (λ (x : A × B). p.text x.0 ++ q.text x.1) (λ bytes. then_read (p.read bytes) (λ a rest. then_read (q.read rest) (λ b after. Some ((a, b), after))))

-- what is made of a value that is read
abbrev pub read_as : {A B : Type 0} → Form A → (A → B) → List ℕ → Reading B
read_as form make bytes = then_read (form.read bytes) (λ a rest. Some (make a, rest))

-- this word, and then the form
unfoldable pub word_read : List ℕ → List ℕ → Reading (Unit {0})
word_read word bytes = if starts_with nat_eq bytes word then Some (tt, drop (length word) bytes) else None

abbrev pub behind : {A : Type 0} → List ℕ → Form A → Form A
behind word form = form_of (λ a. word ++ form.text a) (λ bytes. then_read (word_read word bytes) (λ _ rest. form.read rest))

-- ---- bytes and numbers

abbrev pub byte_read : {A : Type 0} → (ℕ → Option A) → List ℕ → Reading A
byte_read value_of [] = None
byte_read value_of (b ∷ bytes) = known (value_of b) bytes

-- a byte that stands for a value
abbrev pub byte : {A : Type 0} → (A → ℕ) → (ℕ → Option A) → Form A
byte byte_of value_of = form_of (λ a. byte_of a ∷ []) (byte_read value_of)

-- so many bytes
unfoldable pub front_read : ℕ → List ℕ → Reading (List ℕ)
front_read n bytes = if nat_lt (length bytes) n then None else Some (take n bytes, drop n bytes)

-- an index, a count or another number of four bytes, the lowest first
unfoldable pub index : Form ℕ
index = form_of (to_le_bytes w32) (λ bytes. then_read (front_read 4 bytes) (λ front rest. Some (from_le_bytes w32 front, rest)))

-- a number of eight bytes, the lowest first
unfoldable pub long : Form ℕ
long = form_of (to_le_bytes w64) (λ bytes. then_read (front_read 8 bytes) (λ front rest. Some (from_le_bytes w64 front, rest)))

-- ---- bytes and texts, behind their number

unfoldable pub byte_list : Form (List ℕ)
byte_list = form_of (λ bytes. index.text (length bytes) ++ bytes) (λ bytes. then_read (index.read bytes) front_read)

unfoldable pub text_of : List ℕ → Option (List ℕ)
text_of bytes = if is_utf8 bytes then Some bytes else None

-- a text in UTF-8
unfoldable pub utf8 : Form (List ℕ)
utf8 = form_of byte_list.text (λ bytes. then_read (byte_list.read bytes) (λ front rest. known (text_of front) rest))

-- ---- lists and optional values

unfoldable pub times_read : {A : Type 0} → (List ℕ → Reading A) → ℕ → List ℕ → Reading (List A)
times_read read zero bytes = Some ([], bytes)
times_read read (suc n) bytes = then_read (read bytes) (λ a rest. then_read (times_read read n rest) (λ others after. Some (a ∷ others, after)))

unfoldable pub list_text : {A : Type 0} → (A → List ℕ) → List A → List ℕ
list_text text items = index.text (length items) ++ flat_map text items

unfoldable pub list_read : {A : Type 0} → (List ℕ → Reading A) → List ℕ → Reading (List A)
list_read read bytes = then_read (index.read bytes) (times_read read)

-- the number of items, and the items
abbrev pub list : {A : Type 0} → Form A → Form (List A)
list item = form_of (list_text item.text) (list_read item.read)

unfoldable pub optional_text : {A : Type 0} → (A → List ℕ) → Option A → List ℕ
optional_text text None = 0 ∷ []
optional_text text (Some a) = 1 ∷ text a

unfoldable pub optional_read : {A : Type 0} → (List ℕ → Reading A) → List ℕ → Reading (Option A)
optional_read read [] = None
optional_read read (zero ∷ bytes) = Some (None, bytes)
optional_read read (suc zero ∷ bytes) = then_read (read bytes) (λ a rest. Some (Some a, rest))
optional_read read (suc (suc b) ∷ bytes) = None

-- a byte that tells whether there is a value, and the value
abbrev pub optional : {A : Type 0} → Form A → Form (Option A)
optional form = form_of (optional_text form.text) (optional_read form.read)
