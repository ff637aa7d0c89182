-- A block's line, around its body's text.
use Rattle.std.proofs.Common.{◌≡◌, ◌∷◌, [], ◌++◌, List, ℕ, codes, append_assoc}
use Rattle.serde_json.specs.Data.{Data, string}
use Rattle.serde_json.specs.Written.{compact_text}
use Rattle.serde_json.proofs.OnLiterals.{serde_json_on_literals}
use Rattle.hex.specs.Hex.{encode_lower}
use Rattle.line_protocol.specs.Texts.{line_text, digested}

-- closing brackets may stand one by one
closed : (a d b h : List ℕ) → (((a ++ d) ++ b) ++ h) ++ (125 ∷ 125 ∷ 10 ∷ []) ≡ a ++ (((d ++ (b ++ (h ++ 125 ∷ []))) ++ 125 ∷ []) ++ 10 ∷ [])
closed a d b h = simp append_assoc

pub around_body : (d : Data) (digest : List ℕ)
    → (((codes "{\"block\":{\"body\":" ++ compact_text d) ++ codes ",\"digest\":") ++ compact_text (string (encode_lower digest))) ++ codes "}}\n" ≡ line_text (digested d digest)
unfolding serde_json_on_literals
around_body d digest = closed (codes "{\"block\":{\"body\":") (compact_text d) (codes ",\"digest\":") (compact_text (string (encode_lower digest)))
