-- A part of the binary format. It says which bytes spell which values; what reading it from a place gives, the value and the
-- place after it, or the fault; and of which of its parts that fault is: the first that can't be read, at its first byte.
-- Larger parts are made of smaller ones by `do`, so that one text says all three.
use Rattle.std.specs.Prelude.{◌≡◌, ℕ, zero, suc, ◌+◌, ◌<◌, ◌⊎◌, Bool, true, false, ◌==◌, if◌then◌else◌, nat_lt, List, [], ◌∷◌, ◌++◌, length, take, drop, Result, Ok, Err, nat_eq}
use Rattle.std.specs.List.{starts_with}
use Rattle.wasm_types.specs.declared.kind.ReadKind.{ReadKind}
use Rattle.wasm_types.specs.declared.kind.ReadKind.TheVariants.{Cut, Leb, Size}
use Rattle.wasm_types.specs.Place.{Place, Broken, Reading, then_read, breaks}
use Rattle.wasm_types.specs.Number.{IsNumber, IsCutNumber, number_read}

pub record Part (A : Type 0) : Type 1 where
  pub Spells : List ℕ → A → Type 0
  pub read : Place → Reading A
  -- read from the place, it has this fault
  pub BreaksAt : Place → Broken → Type 0

abbrev pub NeverBreaks : Place → Broken → Type 0
NeverBreaks start fault = ⊥

-- a fault with this kind at this place
abbrev pub IsFault : ℕ → ReadKind → Broken → Type 0
IsFault at kind fault = fault ≡ record { at = at; kind = kind }

-- it is cut where the bytes are a front of it, and else of another kind
abbrev pub IsCutOr : Type 0 → ReadKind → ReadKind → Type 0
IsCutOr IsFront other kind = (IsFront × (kind ≡ Cut)) ⊎ ((IsFront → ⊥) × (kind ≡ other))

-- ---- joining parts

-- nothing, with this value
abbrev pub done : {A : Type 0} → A → Part A
done a = record { Spells = λ text b. (text ≡ []) × (b ≡ a); read = λ start. Ok (a, start); BreaksAt = NeverBreaks }

-- a part, and then one that depends on its value
pub record Joins {A B : Type 0} (First : List ℕ → A → Type 0) (Second : A → List ℕ → B → Type 0) (text : List ℕ) (b : B) : Type 0 where
  pub front : List ℕ
  pub back : List ℕ
  pub value : A
  pub cut : text ≡ front ++ back
  pub first : First front value
  pub second : Second value back b

-- what is read from a place up to another has a fault behind it
abbrev pub BreaksBehind : {A : Type 0} → Reading A → (A → Place → Type 0) → Type 0
BreaksBehind {A} reading Breaks = (a : A) × (after : Place) × (reading ≡ Ok (a, after)) × Breaks a after

infixl 10 ◌>>=◌
abbrev pub ◌>>=◌ : {A B : Type 0} → Part A → (A → Part B) → Part B
p >>= q = record {
  Spells = Joins p.Spells (λ a. (q a).Spells);
  read = λ start. then_read (p.read start) (λ a. (q a).read);
  BreaksAt = λ start fault. p.BreaksAt start fault ⊎ BreaksBehind (p.read start) (λ a after. (q a).BreaksAt after fault);
}

-- a part whose value passes the test; else its first byte is the place of the fault
abbrev pub passing : {A : Type 0} → Bool → ReadKind → A → Place → Place → Reading A
passing true why a start after = Ok (a, after)
passing false why a start after = breaks start.at why

abbrev pub judged : {A : Type 0} → ReadKind → (A → Bool) → Part A → Part A
judged why test p = record {
  Spells = λ text a. p.Spells text a × (test a ≡ true);
  read = λ start. then_read (p.read start) (λ a after. passing (test a) why a start after);
  BreaksAt = λ start fault. p.BreaksAt start fault ⊎ BreaksBehind (p.read start) (λ a after. (test a ≡ false) × IsFault start.at why fault);
}

-- ---- bytes and numbers

-- the next byte, and the kind of the fault where none is left
abbrev pub next_of : ReadKind → ℕ → List ℕ → Reading ℕ
next_of why at [] = breaks at why
next_of why at (b ∷ bytes) = Ok (b, record { at = at + 1; rest = bytes })

unfoldable pub next_read : ReadKind → Place → Reading ℕ
next_read why start = next_of why start.at start.rest

abbrev pub known : {A : Type 0} → Result A ReadKind → Place → Place → Reading A
known (Ok a) start after = Ok (a, after)
known (Err why) start after = breaks start.at why

abbrev pub IsNoByte : {A : Type 0} → ReadKind → (ℕ → Result A ReadKind) → ℕ → List ℕ → Broken → Type 0
IsNoByte why value_of at [] fault = IsFault at why fault
IsNoByte why value_of at (b ∷ bytes) fault = (fault.at ≡ at) × (value_of b ≡ Err fault.kind)

-- a byte that stands for a value, or is wrong for a reason
abbrev pub byte_or : {A : Type 0} → ReadKind → (ℕ → Result A ReadKind) → Part A
byte_or why value_of = record {
  Spells = λ text a. (b : ℕ) × (text ≡ b ∷ []) × (value_of b ≡ Ok a);
  read = λ start. then_read (next_read why start) (λ b after. known (value_of b) start after);
  BreaksAt = λ start fault. IsNoByte why value_of start.at start.rest fault;
}

abbrev pub byte : {A : Type 0} → (ℕ → Result A ReadKind) → Part A
byte value_of = byte_or Cut value_of

-- this byte alone
abbrev pub marker : ℕ → ReadKind → ℕ → Result (Unit {0}) ReadKind
marker wanted why b = if b == wanted then Ok tt else Err why

-- no spelling of a number stands here
pub record IsNoNumber (signed : Bool) (bits : ℕ) (start : Place) (fault : Broken) : Type 0 where
  pub none : (text rest : List ℕ) (n : ℕ) → start.rest ≡ text ++ rest → IsNumber signed bits text n → ⊥
  pub place : fault.at ≡ start.at
  pub kind : IsCutOr (IsCutNumber signed bits start.rest) Leb fault.kind

-- a number of so many bits
abbrev pub number : Bool → ℕ → Part ℕ
number signed bits = record { Spells = IsNumber signed bits; read = number_read signed bits; BreaksAt = IsNoNumber signed bits }

-- an index or another number without sign, of 32 bits
abbrev pub index : Part ℕ
index = number false 32

-- all of these bytes. A front of them is cut.
unfoldable pub word_read : List ℕ → ReadKind → Place → Reading (Unit {0})
word_read word why start =
    if starts_with nat_eq start.rest word
    then Ok (tt, record { at = start.at + length word; rest = drop (length word) start.rest })
    else breaks start.at (if starts_with nat_eq word start.rest then Cut else why)

abbrev pub IsFrontOf : List ℕ → List ℕ → Type 0
IsFrontOf front word = (more : List ℕ) × (word ≡ front ++ more)

pub record IsNoWord (word : List ℕ) (why : ReadKind) (start : Place) (fault : Broken) : Type 0 where
  pub none : IsFrontOf word start.rest → ⊥
  pub place : fault.at ≡ start.at
  pub kind : IsCutOr (IsFrontOf start.rest word) why fault.kind

abbrev pub exactly : List ℕ → ReadKind → Part (Unit {0})
exactly word why = record { Spells = λ text _. text ≡ word; read = word_read word why; BreaksAt = IsNoWord word why }

-- any bytes, up to the end of what holds them
abbrev pub anything : Part (List ℕ)
anything = record {
  Spells = λ text bytes. bytes ≡ text;
  read = λ start. Ok (start.rest, record { at = start.at + length start.rest; rest = [] });
  BreaksAt = NeverBreaks;
}

-- ---- lists

abbrev pub IsRepeated : {A : Type 0} → (List ℕ → A → Type 0) → ℕ → List ℕ → List A → Type 0
IsRepeated Spells zero text items = (text ≡ []) × (items ≡ [])
IsRepeated Spells (suc n) text items = Joins Spells (λ a. Joins (IsRepeated Spells n) (λ others rest all. (rest ≡ []) × (all ≡ a ∷ others))) text items

unfoldable pub times_read : {A : Type 0} → (Place → Reading A) → ℕ → Place → Reading (List A)
times_read read zero start = Ok ([], start)
times_read read (suc n) start = then_read (read start) (λ a after. then_read (times_read read n after) (λ others end. Ok (a ∷ others, end)))

-- one of so many, behind those before it, which are read
abbrev pub BreaksInList : {A : Type 0} → (Place → Broken → Type 0) → (Place → Reading A) → ℕ → Place → Broken → Type 0
BreaksInList Breaks read n start fault = (before : ℕ) × (before < n) × BreaksBehind (times_read read before start) (λ items here. Breaks here fault)

-- the part, so many times
abbrev pub times : {A : Type 0} → ℕ → Part A → Part (List A)
times n p = record { Spells = IsRepeated p.Spells n; read = times_read p.read n; BreaksAt = BreaksInList p.BreaksAt p.read n }

-- a number of items, and the items
abbrev pub vector : {A : Type 0} → Part A → Part (List A)
vector p = do
  n ← index
  times n p

-- ---- parts that say how long they are

-- a length counts where so many bytes follow it; else it is cut
abbrev pub long_enough : Bool → ℕ → Place → Place → Reading ℕ
long_enough true n start after = breaks start.at Cut
long_enough false n start after = Ok (n, after)

unfoldable pub length_read : Place → Reading ℕ
length_read start = then_read (index.read start) (λ n after. long_enough (nat_lt (length after.rest) n) n start after)

abbrev pub IsNoLength : Place → Broken → Type 0
IsNoLength start fault = index.BreaksAt start fault ⊎ BreaksBehind (index.read start) (λ n from. (length from.rest < n) × IsFault start.at Cut fault)

abbrev pub inside : ℕ → Place → Place
inside n start = record { at = start.at; rest = take n start.rest }

abbrev pub behind : ℕ → Place → Place
behind n start = record { at = start.at + n; rest = drop n start.rest }

-- the first place inside a part that begins with its length, and the place behind the part
unfoldable pub part_read : Place → Reading Place
part_read start = then_read (length_read start) (λ n from. Ok (inside n from, behind n from))

-- the part ends where it says; else the first byte left over is the place of the fault
abbrev pub used_up : Place → List ℕ → Reading (Unit {0})
used_up left [] = Ok (tt, left)
used_up left (b ∷ bytes) = breaks left.at Size

unfoldable pub used_up_read : Place → Reading (Unit {0})
used_up_read left = used_up left left.rest

unfoldable pub sized_read : {A : Type 0} → (Place → Reading A) → Place → Reading A
sized_read read start =
    then_read (part_read start) (λ within after. then_read (read within) (λ a left. then_read (used_up_read left) (λ _ _. Ok (a, after))))

-- bytes that are left over
abbrev pub HasMore : Place → Broken → Type 0
HasMore left fault = (0 < length left.rest) × IsFault left.at Size fault

-- the length can't be read, or the part within it, or that ends before its length does
abbrev pub BreaksInSized : {A : Type 0} → (Place → Broken → Type 0) → (Place → Reading A) → Place → Broken → Type 0
BreaksInSized Breaks read start fault =
    IsNoLength start fault
    ⊎ BreaksBehind (length_read start) (λ n from. Breaks (inside n from) fault ⊎ BreaksBehind (read (inside n from)) (λ a left. HasMore left fault))

-- the part, behind its length in bytes
abbrev pub sized : {A : Type 0} → Part A → Part A
sized p = record {
  Spells = Joins (IsNumber false 32) (λ n text a. (length text ≡ n) × p.Spells text a);
  read = sized_read p.read;
  BreaksAt = BreaksInSized p.BreaksAt p.read;
}

abbrev pub byte_list : Part (List ℕ)
byte_list = sized anything
