-- The bytes of a code that the gate takes.
use Rattle.std.specs.Prelude.{ℕ, List}
use Rattle.gatekeeper.specs.declared.code.ValidCode.{ValidCode}

abbrev pub code_bytes : ValidCode → List ℕ
code_bytes c = c.bytes.items
