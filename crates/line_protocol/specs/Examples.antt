-- A few inputs and their lines, what lines say, and the texts of answers.
use Rattle.std.specs.Prelude.{◌≡◌, ℕ, List, [], ◌∷◌, None, Ok, Err, codes, refl}
use Rattle.std.specs.Fmt.{digits}
use Rattle.std.specs.Str.{is_utf8, chars}
use Rattle.serde_json.proofs.OnLiterals.{serde_json_on_literals}
use Rattle.json_shapes.specs.Json.{json_of}
use Rattle.line_protocol.specs.declared.kind.BadKind.TheVariants.{Long, Json, Number, Shape}
use Rattle.line_protocol.specs.Forms.{line_of, query_line, empty_line}
use Rattle.line_protocol.specs.Lines.{Raw, raws_of}
use Rattle.line_protocol.specs.Parts.{question_of}
use Rattle.line_protocol.specs.Texts.{line_text, bad_data, body_text}

abbrev raw : List ℕ → ℕ → Raw
raw text size = record { text = text; size = size }

-- the last line may lack its line feed
cut : raws_of (codes "ab\n\nc") ≡ raw (codes "ab") 3 ∷ raw [] 1 ∷ raw (codes "c") 1 ∷ []
unfolding raws_of
cut = refl

fed : raws_of (codes "ab\n") ≡ raw (codes "ab") 3 ∷ []
unfolding raws_of
fed = refl

blanks : line_of 1 (codes " \t\r") ≡ Ok empty_line
unfolding line_of
blanks = refl

-- of a repeated field the last one counts, so the fraction does not; and the request is written anew
query : line_of 3 (codes "{\"query\":{\"client\":1.5,\"client\":2,\"request\":[ 1 ]}}")
    ≡ Ok (query_line (record { line = 3; client = 2; height = None; request = codes "[1]" }))
unfolding line_of json_of question_of is_utf8 chars digits serde_json_on_literals
query = refl

-- a text that breaks off is no JSON, though what it has is of no shape
broken : line_of 3 (codes "[1.5") ≡ Err Json
unfolding line_of json_of is_utf8 chars serde_json_on_literals
broken = refl

-- a fraction comes before a shape that is of no line
fraction : line_of 3 (codes "[1.5]") ≡ Err Number
unfolding line_of json_of is_utf8 chars serde_json_on_literals
fraction = refl

-- a fraction counts in a field that is ignored too
ignored : line_of 3 (codes "{\"query\":{\"client\":1,\"more\":1.5,\"request\":1}}") ≡ Err Number
unfolding line_of json_of is_utf8 chars serde_json_on_literals
ignored = refl

no_request : line_of 3 (codes "{\"query\":{\"client\":1}}") ≡ Err Shape
unfolding line_of json_of question_of is_utf8 chars serde_json_on_literals
no_request = refl

bad : line_text (bad_data Long 2) ≡ codes "{\"bad_line\":{\"kind\":\"long\",\"line\":2}}\n"
unfolding digits serde_json_on_literals
bad = refl

body : body_text 1 [] ≡ codes "{\"height\":1,\"results\":[]}"
unfolding digits serde_json_on_literals
body = refl
