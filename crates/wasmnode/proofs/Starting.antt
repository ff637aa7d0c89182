-- What a line says, where it opens a chain or is answered by one.
use Rattle.std.proofs.Common.{◌≡◌, ℕ, List, Option, Result, Ok, Err, refl, sym, subst}
use Rattle.std.specs.Global.{Vec}
use Rattle.std.specs.Io.KnownBytes.{Appends}
use Rattle.chain_records.specs.State.{State}
use Rattle.chain_msgs.specs.Plain.{Genesis}
use Rattle.block_runner.specs.Opening.{Fault}
use Rattle.wasmnode.specs.declared.chain.Chain as chain_type
use Rattle.wasmnode.specs.declared.entry.Start as start_type
use Rattle.wasmnode.specs.Chain.{genesis_answer}
use Rattle.wasmnode.specs.History.{History, entry_text, entry_next}
use Rattle.wasmnode.specs.Playing.{Follows}
use Rattle.wasmnode.specs.Reading.{Said, nothing, says, refused, opened_by, Entry}
use Rattle.wasmnode.specs.Said.{OpensStart}
use Rattle.wasmnode.specs.Standing.{StandsFor, IsChain, OpensAs}

abbrev pub start : chain_type.Chain → Vec ℕ → start_type.Start
start chain text = record { chain = chain; text = text }

-- the start that a genesis gives
pub starts : (keep : ℕ) (g : Genesis) (chain : chain_type.Chain) (text : Vec ℕ) (o : Result State Fault) → OpensAs keep g (Ok chain) o → text.items ≡ genesis_answer g
    → OpensStart keep (Ok (start chain text)) (opened_by g o)
starts keep g chain text (Ok s) stands same = (record { genesis = g; state = s }, refl, record { stands = stands; text = same })
starts keep g chain text (Err fault) stands same = absurd stands

-- an entry that was answered
pub follows_entry : (keep : ℕ) (h : History) (said : Said Entry) (entry : Entry) (chain : chain_type.Chain) (written : List ℕ) (old new : Option (List ℕ)) → said ≡ says entry → StandsFor keep chain (entry_next h entry)
    → written ≡ entry_text keep h entry → Appends old new written → Follows keep h said chain old new
follows_entry keep h said entry chain written old new is stands same appends =
    subst (λ (s : Said Entry). Follows keep h s chain old new) (sym is) (stands, subst (Appends old new) same appends)

-- the chain after a line that was answered stands for a history
pub follows_stands : (keep : ℕ) (h : History) (said : Said Entry) (chain : chain_type.Chain) (old new : Option (List ℕ)) → Follows keep h said chain old new → IsChain chain
follows_stands keep h nothing chain old new f = (keep, h, f.0)
follows_stands keep h (says entry) chain old new f = (keep, entry_next h entry, f.0)
follows_stands keep h (refused kind) chain old new f = absurd f
