-- How the text of an address is read (BIP 173): the first fault of a text, or its groups of five bits.
use Rattle.std.specs.Prelude.{ℕ, ◌≡◌, ◌+◌, ◌-◌, ◌<◌, ◌≤◌, ◌⊎◌, ◌++◌, Bool, not, ◌&&◌, ◌||◌, ◌==◌, List, Option, Some, None, Result, Ok, Err, All, map, take, drop, reverse, length, position, find, nat_lt, nat_le, is_some, unwrap_or, if◌then◌else◌}
use Rattle.std.specs.Option.{option_map, option_or}
use Rattle.std.specs.Str.{bytes_eq}
use Rattle.chain_addr.specs.declared.fault.AddrKind.{AddrKind}
use Rattle.chain_addr.specs.declared.fault.AddrKind.TheVariants.{TooLong, Character, Mixed, Separator, Checksum, Prefix, Padding, Length}
use Rattle.chain_addr.specs.declared.fault.AddrFault.{AddrFault}
use Rattle.chain_addr.specs.declared.fault.AddrFault.TheVariants.{Bad, NoMemory}
use Rattle.chain_addr.specs.declared.fault.Misread.{Misread}
use Rattle.chain_addr.specs.Checksum.{remainder, expanded}
use Rattle.chain_addr.specs.Groups.{IsGrouped}
use Rattle.chain_addr.specs.Letters.{letters}

abbrev pub is_upper : ℕ → Bool
is_upper c = nat_le 65 c && nat_le c 90

abbrev pub lower : ℕ → ℕ
lower c = if is_upper c then c + 32 else c

abbrev pub is_letter : ℕ → Bool
is_letter c = nat_le 97 (lower c) && nat_le (lower c) 122

-- the place of a character among the letters, in either case
abbrev pub place_of : ℕ → Option ℕ
place_of c = position (λ letter. letter == lower c) letters

abbrev pub value_of : ℕ → ℕ
value_of c = unwrap_or (place_of c) 0

abbrev pub is_printable : ℕ → Bool
is_printable c = nat_le 33 c && nat_le c 126

abbrev pub is_data : ℕ → Bool
is_data c = is_printable c && is_some (place_of c)

-- how many characters stand after the last `1`, if there is one
abbrev pub after_separator : List ℕ → Option ℕ
after_separator text = position (λ c. c == 49) (reverse text)

-- the place of the first character that is not printable, or no letter of bech32 from `start` on
abbrev pub bad_character : ℕ → List ℕ → Option ℕ
bad_character start text =
    option_or (position (λ c. not (is_printable c)) (take start text)) (option_map (λ k. start + k) (position (λ c. not (is_data c)) (drop start text)))

-- the place of the first letter whose case differs from the first letter's
abbrev pub is_other_case : ℕ → ℕ → Bool
is_other_case first c = if is_upper first then is_letter c && not (is_upper c) else is_upper c

abbrev pub mixed_after : List ℕ → Option ℕ → Option ℕ
mixed_after text None = None
mixed_after text (Some first) = position (is_other_case first) text

abbrev pub mixed_letter : List ℕ → Option ℕ
mixed_letter text = mixed_after text (find is_letter text)

-- what stands before the last `1`, where n characters stand after it, and these
abbrev pub before : ℕ → List ℕ → List ℕ
before n text = take (length text - n - 1) text

abbrev pub after : ℕ → List ℕ → List ℕ
after n text = drop (length text - n) text

abbrev pub remainder_of : List ℕ → List ℕ → ℕ
remainder_of name characters = remainder (expanded (map lower name) ++ map value_of characters)

abbrev pub misread : AddrKind → Option ℕ → Option Misread
misread kind place = option_map (λ at. record { kind = kind; at = at }) place

-- the fault of a text whose characters are good, n of them after the last `1`
abbrev pub fault_of_parts : List ℕ → List ℕ → ℕ → Option Misread
fault_of_parts prefix text n =
    if (length text == n + 1) || nat_lt n 6 then Some (record { kind = Separator; at = 0 })
    else if not (remainder_of (before n text) (after n text) == 1) then Some (record { kind = Checksum; at = 0 })
    else if not (bytes_eq (map lower (before n text)) prefix) then Some (record { kind = Prefix; at = 0 })
    else None

abbrev pub fault_after : List ℕ → List ℕ → Option ℕ → Option Misread
fault_after prefix text None = Some (record { kind = Separator; at = 0 })
fault_after prefix text (Some n) = fault_of_parts prefix text n

-- the first fault of a text but those of its bytes
unfoldable pub fault_of : List ℕ → List ℕ → Option Misread
fault_of prefix text =
    if nat_lt 256 (length text) then Some (record { kind = TooLong; at = 0 })
    else option_or (option_or (misread Character (bad_character (length text - unwrap_or (after_separator text) 0) text)) (misread Mixed (mixed_letter text)))
    (fault_after prefix text (after_separator text))

-- the groups of five bits of the address
unfoldable pub groups_of : List ℕ → List ℕ
groups_of text = let n = unwrap_or (after_separator text) 0 in map value_of (take (n - 6) (after n text))

-- the faults of the bytes, which come after those of the text
abbrev pub IsLateFault : AddrKind → List ℕ → Type 0
IsLateFault Padding groups = (bytes : List ℕ) (padding : ℕ) → IsGrouped bytes groups padding → ⊥
IsLateFault Length groups = (bytes : List ℕ) × (padding : ℕ) × IsGrouped bytes groups padding × ((length bytes ≡ 0) ⊎ (64 < length bytes))
IsLateFault kind groups = ⊥

-- the bytes of an address, or the first fault of the text
abbrev pub ReadsAs : List ℕ → List ℕ → Result (List ℕ) Misread → Type 0
ReadsAs prefix text (Ok bytes) =
    (fault_of prefix text ≡ None) × ((padding : ℕ) × IsGrouped bytes (groups_of text) padding) × (1 ≤ length bytes) × (length bytes ≤ 64)
ReadsAs prefix text (Err fault) =
    (fault_of prefix text ≡ Some fault) ⊎ ((fault_of prefix text ≡ None) × (fault.at ≡ 0) × IsLateFault fault.kind (groups_of text))

-- the fault that is reported, if it isn't want of memory
abbrev pub IsReported : List ℕ → List ℕ → AddrFault → Type 0
IsReported prefix text (Bad kind at) = ReadsAs prefix text (Err (record { kind = kind; at = at }))
IsReported prefix text NoMemory = Unit {0}

-- the text of an address, in lower case
abbrev pub IsNormal : List ℕ → List ℕ → Type 0
IsNormal prefix text = All (λ c. lower c ≡ c) text × ((bytes : List ℕ) × ReadsAs prefix text (Ok bytes))
