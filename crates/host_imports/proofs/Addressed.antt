-- Addresses that are read, and what is written to a second Region or answered in its place.
use Rattle.std.proofs.Common.{◌≡◌, Bool, true, false, refl, sym, ap, ◌∙◌, ℕ, List, Option, Result, Err}
use Rattle.std.specs.Prelude.{if◌then◌else◌, codes}
use Rattle.std.specs.Str.{is_utf8, IsUtf8}
use Rattle.std.proofs.lemmas.Bool.{false_from_ne_true}
use Rattle.std.proofs.lemmas.Str.{IsUtf8-from_is_utf8, is_utf8-from_IsUtf8}
use Rattle.chain_addr.specs.Address.{address_of}
use Rattle.gas_meter.specs.declared.schedule.Schedule.{Schedule}
use Rattle.wasm_machine.specs.declared.machine.Machine.{Machine}
use Rattle.host_imports.specs.declared.settled.Settled as settled_type
use Rattle.host_imports.specs.declared.stop.Stop.{Stop}
use Rattle.host_imports.specs.Addresses.{found, canonical}
use Rattle.host_imports.specs.Imports.{puts}
use Rattle.host_imports.specs.Parts.{settled_view, Moves}
use Rattle.host_imports.proofs.Works.{moves_along}

-- what was read decides
pub put_so : {k0 k1 : Machine} {g0 g1 : ℕ} {result : Result settled_type.Settled Stop} (costs : Schedule) (target : ℕ) (read is : Result (List ℕ) (List ℕ)) → read ≡ is → Moves k0 k1 g0 g1 (puts costs target is) settled_view result → Moves k0 k1 g0 g1 (puts costs target read) settled_view result
put_so costs target read is e m = moves_along (ap (λ (r : Result (List ℕ) (List ℕ)). puts costs target r) e) m

-- ---- texts that are read

canonical_if : (prefix text : List ℕ) (utf8 : Bool) (address : Option (List ℕ)) → is_utf8 text ≡ utf8 → address_of prefix text ≡ address → canonical prefix text ≡ (if utf8 then found address else Err (codes "not utf8"))
canonical_if prefix text utf8 address e f = λ i. if e i then found (f i) else Err (codes "not utf8")

pub not_utf8 : (prefix text : List ℕ) → (IsUtf8 text → ⊥) → canonical prefix text ≡ Err (codes "not utf8")
not_utf8 prefix text bad = canonical_if prefix text false (address_of prefix text) (false_from_ne_true (is_utf8 text) (λ e. bad (IsUtf8-from_is_utf8 text e))) refl

pub read_as : (prefix text other : List ℕ) (address : Option (List ℕ)) → other ≡ text → IsUtf8 text → address_of prefix other ≡ address → canonical prefix text ≡ found address
read_as prefix text other address same utf8 e = canonical_if prefix text true address (is_utf8-from_IsUtf8 text utf8) (ap (λ (t : List ℕ). address_of prefix t) (sym same) ∙ e)
