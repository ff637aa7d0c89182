-- From what reading the module gives to what is spelled and where the bytes break.
use Rattle.std.proofs.Common.{◌≡◌, ◌↔◌, IsTrue, Bool, true, false, List, ℕ, Result, Ok, Err, Option, Some, None, refl, sym, ap, ◌∙◌, ◌⊎◌, inl, inr}
use Rattle.std.specs.Prelude.{IfOk, IfErr, MatchResult}
use Rattle.wasm_types.specs.declared.module.Module.{Module}
use Rattle.wasm_types.specs.Plain.{PlainModule, plain_module}
use Rattle.wasm_types.specs.Place.{Place, Broken, Reading}
use Rattle.wasm_types.specs.ModuleText.{AreBytes, IsModule, broken, broken_in, reading_of}
use Rattle.wasm_types.proofs.TextLaws.{is_read, is_spelled}
use Rattle.wasm_reader.specs.declared.stop.ReadStop.{ReadStop}
use Rattle.wasm_reader.specs.declared.stop.ReadStop.TheVariants.{Fault, NoMemory}
use Rattle.wasm_reader.specs.Gives.{Gives, Compares}
use Rattle.wasm_reader.specs.Answers.{IsFault}
use Rattle.wasm_reader.proofs.Tables.{ok_is, value}

abbrev stopped : ReadStop → Result Module ReadStop
stopped e = Err e

abbrev fault_of : Option Broken → ReadStop
fault_of None = NoMemory
fault_of (Some f) = Fault f.at f.kind

abbrev ok_reading : PlainModule × Place → Reading PlainModule
ok_reading x = Ok x

module _ (bytes : List ℕ) (fits : AreBytes bytes) (after : Place) where
  pub found : (r : Result Module ReadStop) → Gives plain_module r after (reading_of bytes) → IfOk r (λ m. IsModule bytes (plain_module m))
  found (Ok m) h = is_spelled bytes (plain_module m) after fits h
  found (Err e) h = tt

  pub fault : (r : Result Module ReadStop) → Gives plain_module r after (reading_of bytes) → IfErr r (λ e. IsFault e (broken bytes))
  fault (Ok m) h = tt
  fault (Err NoMemory) h = tt
  fault (Err (Fault at why)) h = ap broken_in h

  pub spelled : (r : Result Module ReadStop) → Gives plain_module r after (reading_of bytes) → (m : PlainModule) → IsModule bytes m → MatchResult r (λ found. plain_module found ≡ m) (λ e. e ≡ NoMemory)
  spelled (Ok n) h m s = value (ok_is (plain_module n, after) (m, _) (sym h ∙ is_read bytes m s))
  spelled (Err NoMemory) h m s = refl
  spelled (Err (Fault at why)) h m s = absurd (differ (sym (is_read bytes m s) ∙ h))
    where
      differ : {x : PlainModule × Place} {f : Broken} → ok_reading x ≡ Err f → ⊥
      differ e = cc

  pub breaks_at : (r : Result Module ReadStop) → Gives plain_module r after (reading_of bytes) → (f : Broken) → broken bytes ≡ Some f → (r ≡ Err (Fault f.at f.kind)) ⊎ (r ≡ Err NoMemory)
  breaks_at (Ok n) h f e = absurd (none (sym (ap broken_in h) ∙ e))
    where
      none : {f : Broken} → None ≡ Some f → ⊥
      none e = cc
  breaks_at (Err NoMemory) h f e = inr refl
  breaks_at (Err (Fault at why)) h f e = inl (same (sym (ap broken_in h) ∙ e))
    where
      same : {g : Broken} → Some (record { at = at; kind = why }) ≡ Some g → stopped (Fault at why) ≡ stopped (Fault g.at g.kind)
      same e = ap (λ (o : Option Broken). stopped (fault_of o)) e

  pub same_module : (m : PlainModule) (b : Bool) → Compares m (Ok b) after (reading_of bytes) → IsTrue b ↔ IsModule bytes m
  same_module m true h = (λ t. is_spelled bytes m after fits h, λ s. refl)
  same_module m false h = (λ t. absurd cc, λ s. absurd (h _ (is_read bytes m s)))

  pub no_module : (m : PlainModule) (f : Broken) → reading_of bytes ≡ Err f → IsTrue false ↔ IsModule bytes m
  no_module m f h = (λ t. absurd cc, λ s. absurd (differ (sym (is_read bytes m s) ∙ h)))
    where
      differ : {x : PlainModule × Place} → ok_reading x ≡ Err f → ⊥
      differ e = cc
