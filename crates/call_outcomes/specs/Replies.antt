-- When a contract is told what became of its submessage, and what it is told.
use Rattle.std.specs.Prelude.{ℕ, Bool, true, false, not, List, [], ◌∷◌, ◌++◌, codes, decimal, Option, None, Some}
use Rattle.chain_msgs.specs.Plain.{Failure}
use Rattle.chain_msgs.specs.Protobuf.{reply_bytes}
use Rattle.chain_msgs.specs.declared.response.ReplyOn.{ReplyOn}
use Rattle.chain_msgs.specs.declared.response.ReplyOn.TheVariants.{Always, Error, Success, Never}

-- whether it wants to be told, of a submessage that succeeded or failed
abbrev pub wants_reply : ReplyOn → Bool → Bool
wants_reply Always succeeded = true
wants_reply Error succeeded = not succeeded
wants_reply Success succeeded = succeeded
wants_reply Never succeeded = false

-- of a failure the codespace and the code, and nothing else
abbrev pub failure_told : Failure → List ℕ
failure_told f = codes "codespace: " ++ f.codespace ++ codes ", code: " ++ decimal f.code

-- ---- data

-- none where there are no bytes
abbrev pub unless_empty : List ℕ → Option (List ℕ)
unless_empty [] = None
unless_empty (b ∷ bytes) = Some (b ∷ bytes)

-- of an execute and a migrate the data that it gave
abbrev pub data_told : Option (List ℕ) → Option (List ℕ)
data_told out = unless_empty (reply_bytes None out)

-- of an instantiate the text of the contract's address, and the data
abbrev pub address_told : List ℕ → Option (List ℕ) → Option (List ℕ)
address_told contract out = unless_empty (reply_bytes (Some contract) out)
