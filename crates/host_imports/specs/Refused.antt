-- Not for readers of contracts: it serves the proofs of this crate alone.
-- What is answered in place of an address.
use Rattle.std.specs.Prelude.{ℕ, ◌≡◌, List, Result, Ok, Err, codes}
use Rattle.std.specs.Global.{Vec}
use Rattle.host_imports.specs.declared.address_stop.AddressRefusal.{AddressRefusal}
use Rattle.host_imports.specs.declared.address_stop.AddressRefusal.TheVariants.{NotUtf8, BadAddress, NotNormalized, BadLength}
use Rattle.host_imports.specs.declared.address_stop.AddressStop.{AddressStop}
use Rattle.host_imports.specs.declared.address_stop.AddressStop.TheVariants.{Refused, NoMemory}

abbrev pub refusal_text : AddressRefusal → List ℕ
refusal_text NotUtf8 = codes "not utf8"
refusal_text BadAddress = codes "bad address"
refusal_text NotNormalized = codes "not normalized"
refusal_text BadLength = codes "bad length"

-- an answer tells what was read, unless memory ran out
abbrev pub Reads : Result (Vec ℕ) AddressStop → Result (List ℕ) (List ℕ) → Type 0
Reads (Ok bytes) read = read ≡ Ok bytes.items
Reads (Err (Refused why)) read = read ≡ Err (refusal_text why)
Reads (Err NoMemory) read = Unit {0}
