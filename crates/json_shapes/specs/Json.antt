-- JSON texts by RFC 8259: what one reads as, whether its numbers are whole, and an object's one field. That standard leaves
-- limits on nesting and numbers to readers, and what a repeated name means.
use Rattle.std.specs.Prelude.{◌≡◌, ℕ, List, Option, Some, None, false, if◌then◌else◌}
use Rattle.std.specs.Str.{is_utf8}
use Rattle.serde_json.specs.Data.{Data, null, boolean, number, string, array, object, no_members, member}
use Rattle.serde_json.specs.Read.{read}
use Rattle.serde_json.specs.Written.{has_float}

-- what a text reads as: it is UTF-8, and JSON of nesting at most 127 whose numbers are none too large for a float
unfoldable pub json_of : List ℕ → Option Data
json_of text = if is_utf8 text then read text else None

-- No number is a float. What is kept of a text has then only integers of 64 bits: one past them, one with a fraction or an
-- exponent, and `-0`, are read as floats.
abbrev pub IsWhole : Data → Type 0
IsWhole d = has_float d ≡ false

-- the value, where it is whole
abbrev pub whole_numbered : Data → Option Data
whole_numbered d = if has_float d then None else Some d

-- the name and the value of an object's one field
abbrev pub variant_of : Data → Option (List ℕ × Data)
variant_of null = None
variant_of (boolean b) = None
variant_of (number n) = None
variant_of (string s) = None
variant_of (array ds) = None
variant_of (object no_members) = None
variant_of (object (member name d no_members)) = Some (name, d)
variant_of (object (member name d (member other e more))) = None
