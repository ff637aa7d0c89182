-- The address that a text stands for under a prefix (BIP 173), as bytes, or that it stands for none.
use Rattle.std.specs.Prelude.{ℕ, zero, suc, ◌*◌, ◌/◌, ◌%◌, ◌^◌, ◌≡◌, ◌&&◌, ◌==◌, List, [], ◌∷◌, length, Option, None, Some, option_and_then, is_some, Result, Ok, Err, nat_lt, nat_le, if◌then◌else◌}
use Rattle.std.specs.Global.{Vec}
use Rattle.chain_addr.specs.declared.fault.AddrFault.{AddrFault}
use Rattle.chain_addr.specs.declared.fault.AddrFault.TheVariants.{Bad, NoMemory}
use Rattle.chain_addr.specs.Groups.{number}
use Rattle.chain_addr.specs.Reading.{fault_of, groups_of}

-- so many bytes of a number, the highest first
abbrev pub bytes_in : ℕ → ℕ → List ℕ
bytes_in zero n = []
bytes_in (suc count) n = n / 2 ^ (8 * count) % 256 ∷ bytes_in count n

-- the bits of groups of five as bytes, where fewer than five bits are left, and these are 0
abbrev pub bytes_of : List ℕ → Option (List ℕ)
bytes_of groups =
    let bits = 5 * length groups in
    let padding = bits % 8 in
    if nat_lt padding 5 && (number 32 groups % 2 ^ padding == 0) then Some (bytes_in (bits / 8) (number 32 groups / 2 ^ padding)) else None

-- an address has 1 to 64 bytes
abbrev pub sized : List ℕ → Option (List ℕ)
sized bytes = if nat_le 1 (length bytes) && nat_le (length bytes) 64 then Some bytes else None

-- the bytes that the text of an address stands for, where it has no fault
unfoldable pub address_of : List ℕ → List ℕ → Option (List ℕ)
address_of prefix text = if is_some (fault_of prefix text) then None else option_and_then sized (bytes_of (groups_of text))

-- what reading a text answers: its address, or that it has none, unless memory ran out
abbrev pub Decodes : Result (Vec ℕ) AddrFault → Option (List ℕ) → Type 0
Decodes (Ok bytes) address = address ≡ Some bytes.items
Decodes (Err (Bad kind at)) address = address ≡ None
Decodes (Err NoMemory) address = Unit {0}
