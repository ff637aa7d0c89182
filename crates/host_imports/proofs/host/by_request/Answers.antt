use Rattle.std.proofs.Common.{refl}
use Rattle.host_imports.specs.Faults.{signature_out_of_scope}
use Rattle.host_imports.proofs.Works.{moves_does, scans_does, fault_moves}
use Rattle.host_imports.proofs.host.by_request.Goals as goal

pub returns-in-DbScan-clause-does : goal.returns-in-DbScan-clause-does
returns-in-DbScan-clause-does g c = rw c.in-DbScan.is (scans_does c.db_scan.ensures.scope.addr c.db_scan.ensures.scans)

pub returns-in-AddrValidate-clause-does : goal.returns-in-AddrValidate-clause-does
returns-in-AddrValidate-clause-does g c = rw c.in-AddrValidate.is (moves_does c.addr_validate.ensures.moves)

pub returns-in-AddrCanonicalize-clause-does : goal.returns-in-AddrCanonicalize-clause-does
returns-in-AddrCanonicalize-clause-does g c = rw c.in-AddrCanonicalize.is (moves_does c.addr_canonicalize.ensures.moves)

pub returns-in-AddrHumanize-clause-does : goal.returns-in-AddrHumanize-clause-does
returns-in-AddrHumanize-clause-does g c = rw c.in-AddrHumanize.is (moves_does c.addr_humanize.ensures.moves)

pub returns-in-Debug-clause-does : goal.returns-in-Debug-clause-does
returns-in-Debug-clause-does g c = rw c.in-Debug.is (moves_does c.debug.ensures.moves)

pub returns-in-QueryChain-clause-does : goal.returns-in-QueryChain-clause-does
returns-in-QueryChain-clause-does g c = rw c.in-QueryChain.is (moves_does (c.query_chain.ensures.moves c.args.meter.now.left))

pub returns-in-Abort-clause-does : goal.returns-in-Abort-clause-does
returns-in-Abort-clause-does g c = rw c.in-Abort.is (moves_does (c.abort.ensures.moves c.args.meter.now.left))

pub returns-in-Signature-clause-does : goal.returns-in-Signature-clause-does
returns-in-Signature-clause-does g c = rw c.in-Signature.is (moves_does (fault_moves signature_out_of_scope _ refl))
