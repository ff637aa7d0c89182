-- The addresses so far stand in front of those of the texts that are left.
use Rattle.std.proofs.Common.{◌≡◌, map, drop, string_bytes}
use Rattle.std.specs.Prelude.{All}
use Rattle.chain_records.specs.Keys.{IsAddress}
use Rattle.chain_records.specs.Records.{list_view}
use Rattle.submsg_dispatch.specs.Messages.{addresses_of}
use Rattle.submsg_dispatch.proofs.Listing.{in_front}
use Rattle.submsg_dispatch.proofs.codes.addresses_in.Given as goal

abbrev pub invariant-loop-text : goal.invariant-loop-text
invariant-loop-text l = record {
  found : addresses_of l.prefix (map string_bytes l.fn.texts) ≡ in_front (list_view l.addresses) (addresses_of l.prefix (map string_bytes (drop l.text-index l.fn.texts)));
  addresses : All IsAddress (list_view l.addresses);
}
