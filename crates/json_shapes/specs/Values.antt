-- What is written as JSON, in its small parts.
use Rattle.std.specs.Prelude.{ℕ, List}
use Rattle.base64.specs.Engines.{standard}
use Rattle.base64.specs.GeneralPurpose.{encode_of}
use Rattle.serde_json.specs.Data.{Data, number, unsigned, string, array, object, no_members, member}
use Rattle.serde_json.specs.View.{items_of}

abbrev pub whole : ℕ → Data
whole n = number (unsigned n)

abbrev pub list_data : List Data → Data
list_data ds = array (items_of ds)

-- bytes in standard base64 with its padding
abbrev pub binary_data : List ℕ → Data
binary_data bytes = string (encode_of standard bytes)

-- the variant of this name
abbrev pub variant_data : List ℕ → Data → Data
variant_data name d = object (member name d no_members)
