-- Which bytes are which module (core 1.0, section 5.5), and where bytes that are none break first.
use Rattle.std.specs.Prelude.{◌≡◌, ◌≢◌, ℕ, zero, suc, ◌<◌, ◌==◌, if◌then◌else◌, Bool, true, false, List, [], ◌∷◌, length, All, Option, Some, None, Ok, Err, ◌⊎◌}
use Rattle.wasm_types.specs.declared.kind.ReadKind.TheVariants.{Magic, Section, Start, Count}
use Rattle.wasm_types.specs.Plain.{PlainModule}
use Rattle.wasm_types.specs.Place.{Place, Broken, Reading, then_read, breaks}
use Rattle.wasm_types.specs.Part.{Part, Joins, BreaksBehind, IsFault, done, ◌>>=◌, byte, marker, index, exactly, anything, vector, sized, sized_read}
use Rattle.wasm_types.specs.Types.{text, func_type, import_, table, limits, global, export_, elem, seg}
use Rattle.wasm_types.specs.Body.{code}

abbrev pub header : List ℕ
header = 0x00 ∷ 0x61 ∷ 0x73 ∷ 0x6D ∷ 0x01 ∷ 0x00 ∷ 0x00 ∷ 0x00 ∷ []

abbrev pub begins : ℕ → List ℕ → Bool
begins wanted [] = false
begins wanted (b ∷ bytes) = b == wanted

-- ---- custom sections, which have a name and are dropped

unfoldable pub named_bytes : Part (Unit {0})
named_bytes = do
  _ ← text
  _ ← anything
  done tt

unfoldable pub custom : Part (Unit {0})
custom = do
  _ ← byte (marker 0 Section)
  sized named_bytes

abbrev pub AreCustoms : ℕ → List ℕ → Type 0
AreCustoms zero bytes = bytes ≡ []
AreCustoms (suc n) bytes = Joins custom.Spells (λ _ rest _. AreCustoms n rest) bytes (tt {0})

-- Each has a byte, so as many steps are enough as there are bytes.
unfoldable pub customs_read : ℕ → Place → Reading (Unit {0})
customs_read zero start = Ok (tt, start)
customs_read (suc steps) start =
    if begins 0 start.rest then then_read (custom.read start) (λ _ after. customs_read steps after) else Ok (tt, start)

-- so many are read, and the next one, which begins as one, can't be
abbrev pub BreaksAfterCustoms : ℕ → Place → Broken → Type 0
BreaksAfterCustoms zero start fault = (begins 0 start.rest ≡ true) × custom.BreaksAt start fault
BreaksAfterCustoms (suc n) start fault = BreaksBehind (custom.read start) (λ _ after. BreaksAfterCustoms n after fault)

-- those that stand next to one another here, all of them
abbrev pub customs : Part (Unit {0})
customs = record {
  Spells = λ bytes _. (n : ℕ) × AreCustoms n bytes;
  read = λ start. customs_read (length start.rest) start;
  BreaksAt = λ start fault. (n : ℕ) × BreaksAfterCustoms n start fault;
}

-- ---- sections, each at most once and in the order of their numbers

abbrev pub numbered : {A : Type 0} → ℕ → Part (List A) → Part (List A)
numbered k p = do
  _ ← byte (marker k Section)
  items ← sized p
  _ ← customs
  done items

abbrev pub where_present : {A : Type 0} → Bool → Reading (List A) → Place → Reading (List A)
where_present true read start = read
where_present false read start = Ok ([], start)

unfoldable pub section_read : {A : Type 0} → ℕ → (Place → Reading (List A)) → Place → Reading (List A)
section_read k read start = where_present (begins k start.rest) (then_read ((byte (marker k Section)).read start) (λ _ here. then_read (sized_read read here) (λ items behind. then_read (customs.read behind) (λ _ after. Ok (items, after))))) start

-- a section with this number, and the custom ones behind it; or nothing, which is the empty list
abbrev pub section : {A : Type 0} → ℕ → Part (List A) → Part (List A)
section k p = record {
  Spells = λ bytes items. ((bytes ≡ []) × (items ≡ [])) ⊎ (numbered k p).Spells bytes items;
  read = section_read k p.read;
  BreaksAt = λ start fault. (begins k start.rest ≡ true) × (numbered k p).BreaksAt start fault;
}

-- the end of the input, which may come where the functions are as many as the codes
abbrev pub end_from : ℕ → ℕ → ℕ → List ℕ → Reading (Unit {0})
end_from funcs codes at [] = if funcs == codes then Ok (tt, record { at = at; rest = [] }) else breaks at Count
end_from funcs codes at (b ∷ bytes) = breaks at (if b == 8 then Start else Section)

unfoldable pub end_read : ℕ → ℕ → Place → Reading (Unit {0})
end_read funcs codes start = end_from funcs codes start.at start.rest

-- at the end of the input the numbers differ; before it stands a section that is unknown, repeated, out of order, or a start section
abbrev pub IsNoEnd : ℕ → ℕ → ℕ → List ℕ → Broken → Type 0
IsNoEnd funcs codes at [] fault = (funcs ≢ codes) × IsFault at Count fault
IsNoEnd funcs codes at (b ∷ bytes) fault = ((b ≡ 8) × IsFault at Start fault) ⊎ ((b ≢ 8) × IsFault at Section fault)

abbrev pub input_end : ℕ → ℕ → Part (Unit {0})
input_end funcs codes = record {
  Spells = λ bytes _. (bytes ≡ []) × (funcs ≡ codes);
  read = end_read funcs codes;
  BreaksAt = λ start fault. IsNoEnd funcs codes start.at start.rest fault;
}

unfoldable pub module_part : Part PlainModule
module_part = do
  _ ← exactly header Magic
  _ ← customs
  types ← section 1 (vector func_type)
  imports ← section 2 (vector import_)
  funcs ← section 3 (vector index)
  tables ← section 4 (vector table)
  memories ← section 5 (vector limits)
  globals ← section 6 (vector global)
  exports ← section 7 (vector export_)
  elems ← section 9 (vector elem)
  codes ← section 10 (vector (sized code))
  segs ← section 11 (vector seg)
  _ ← input_end (length funcs) (length codes)
  done (record {
    types = types;
    imports = imports;
    funcs = funcs;
    tables = tables;
    memories = memories;
    globals = globals;
    exports = exports;
    elems = elems;
    codes = codes;
    segs = segs;
  })

-- ---- modules

abbrev pub AreBytes : List ℕ → Type 0
AreBytes bytes = All (λ b. b < 256) bytes

-- the bytes are a spelling of the module
abbrev pub IsModule : List ℕ → PlainModule → Type 0
IsModule bytes m = AreBytes bytes × module_part.Spells bytes m

abbrev pub HasSpelling : PlainModule → Type 0
HasSpelling m = (bytes : List ℕ) × IsModule bytes m

abbrev pub reading_of : List ℕ → Reading PlainModule
reading_of bytes = module_part.read (record { at = 0; rest = bytes })

abbrev pub module_in : Reading PlainModule → Option PlainModule
module_in (Ok x) = Some x.0
module_in (Err e) = None

abbrev pub broken_in : Reading PlainModule → Option Broken
broken_in (Ok x) = None
broken_in (Err e) = Some e

-- the module that the bytes spell, if they spell one
abbrev pub module_of : List ℕ → Option PlainModule
module_of bytes = module_in (reading_of bytes)

-- the first part that can't be read, from the front of the bytes, stands here, and this is why
abbrev pub BreaksThere : List ℕ → Broken → Type 0
BreaksThere bytes fault = module_part.BreaksAt (record { at = 0; rest = bytes }) fault

-- where the bytes break, and why, if they spell none
abbrev pub broken : List ℕ → Option Broken
broken bytes = broken_in (reading_of bytes)
