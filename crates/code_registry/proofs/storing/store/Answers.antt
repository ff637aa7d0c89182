use Rattle.std.proofs.Common.{◌≡◌, ◌<◌, ◌^◌, ℕ, List, None, map, refl, sym, ap, ◌∙◌, subst, string_bytes, arith}
use Rattle.std.specs.Option.{option_map}
use Rattle.sha2.specs.Sha256.{sha256}
use Rattle.wasm_types.specs.Gate.{gate}
use Rattle.chain_records.specs.Records.{PlainFacts, plain_facts, list_view}
use Rattle.chain_records.specs.State.{State}
use Rattle.code_registry.specs.Codes.{stored}
use Rattle.code_registry.specs.Effects.{IsStored}
use Rattle.code_registry.proofs.StoredCode.{is_stored, same_code, no_id_left}
use Rattle.code_registry.proofs.Writing.{Becomes-lawful}
use Rattle.code_registry.proofs.storing.store.Goals as goal

pub returns-clause-stored : goal.returns-clause-stored
returns-clause-stored g c = λ maps s stands spelled lawful.
    let creator = c.args.creator.now in
    let bytes = c.args.code.items in
    let allow = option_map list_view c.args.allow in
    let given = c.in_ok-given.ensures maps.current s (maps, stands, refl) spelled in
    let facts : plain_facts c.in_ok-chain.chain ≡ s.facts = c.in_ok-chain.ensures maps.current s (maps, stands, refl) spelled in
    let taken = subst (λ (f : PlainFacts). gate bytes f.caps ≡ None) facts (rw c.deref.ensures.value at c.in_ok-code.ensures.taken) in
    let written = c.in_ok-put_code.ensures.ok maps s stands spelled given in
    let sum = c.checksum.ensures ∙ ap sha256 c.in_ok-code.ensures.bytes in (
      written.0,
      stored s creator bytes allow,
      written.1,
      same_code written.0 s creator bytes allow _ _ _ c.in_ok-owner.ensures.items (c.bytes.ensures ∙ c.in_ok-code.ensures.bytes) sum written.2,
      is_stored s creator bytes allow c.in_ok-given.given lawful taken given (omega arith) c.requires.creator c.requires.allow,
    )

pub returns-clause-lawful : goal.returns-clause-lawful
returns-clause-lawful g c =
    Becomes-lawful g.B.Base.stands_for c.args.layers.now c.put_code.new.layers (λ (s t : State). IsStored s c.args.creator.now c.args.code.items (option_map list_view c.args.allow) c.in_ok-given.given.next_code t) (λ s t is. is.lawful) (returns-clause-stored g c) c.requires.lawful
