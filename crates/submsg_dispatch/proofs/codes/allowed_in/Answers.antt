use Rattle.std.proofs.Common.{Some, ap, map, option_map, string_bytes}
use Rattle.submsg_dispatch.specs.Failures.{address_bad}
use Rattle.submsg_dispatch.specs.Messages.{addresses_of}
use Rattle.submsg_dispatch.proofs.Listing.{missed_then}
use Rattle.submsg_dispatch.proofs.codes.allowed_in.Goals as goal

pub returns-in-Ok-clause-found : goal.returns-in-Ok-clause-found
returns-in-Ok-clause-found c =
    let found = rw c.deref.ensures.value at c.in-Ok.ensures.found in
    rw c.in-Some.is (ap (option_map Some) found)

pub returns-in-Err-clause-found : goal.returns-in-Err-clause-found
returns-in-Err-clause-found c =
    let miss = rw c.deref.ensures.value at c.in-Err.ensures.found in
    rw c.in-Some.is (missed_then address_bad c.in-Err.stop (addresses_of c.args.prefix.now (map string_bytes c.in-Some.texts.items)) (option_map Some (addresses_of c.args.prefix.now (map string_bytes c.in-Some.texts.items))) (λ none. ap (option_map Some) none) miss)
