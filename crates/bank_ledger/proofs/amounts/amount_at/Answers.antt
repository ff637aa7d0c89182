use Rattle.std.proofs.Common.{ℕ, Result, Ok, Err, IfOk, sym, ap, ◌∙◌}
use Rattle.std.specs.declared.alloc.AllocError.{AllocError}
use Rattle.chain_records.specs.Keys.{plain_key}
use Rattle.kv_layers.specs.Plain.{value_view}
use Rattle.bank_ledger.proofs.Found.{found_amount, same_amount, found_none}
use Rattle.bank_ledger.proofs.amounts.amount_at.Goals as goal

if_ok : (P Q : ℕ → Type 0) → ((n : ℕ) → P n → Q n) → (r : Result ℕ AllocError) → IfOk r P → IfOk r Q
if_ok P Q step (Ok n) h = step n h
if_ok P Q step (Err e) h = h

pub amount_of-requires : goal.amount_of-requires
amount_of-requires g c =
    let t = c.requires.typed in
    let is = sym (ap value_view c.in-Some.is) ∙ rw c.deref.ensures.value at (c.in_ok-bytes.ensures t.map t.stands) in
    let found = found_amount c.maps_give_records.ensures t.map t.state (plain_key c.args.key.now) c.in_ok-place.place.items c.in-Some.bytes.items c.requires.key c.in_ok-place.ensures t.spelled is in
    (found.0, rw c.deref-in-Some.ensures.value found.1)

pub returns-in-Some : goal.returns-in-Some
returns-in-Some g c = if_ok _ _ (λ n under map s stands spelled.
    same_amount c.maps_give_records.ensures c.bytes_tell_records.ensures map s (plain_key c.args.key.now) c.in_ok-place.place.items c.in-Some.bytes.items n c.requires.key c.in_ok-place.ensures spelled
    (sym (ap value_view c.in-Some.is) ∙ rw c.deref.ensures.value at (c.in_ok-bytes.ensures map stands))
    (rw c.deref-in-Some.ensures.value at under)) c.amount_of.result c.amount_of.ensures

pub returns : goal.returns
returns g c = λ map s stands spelled.
    found_none c.maps_give_records.ensures map s (plain_key c.args.key.now) c.in_ok-place.place.items c.in_ok-place.ensures spelled
    (sym (ap value_view c.in-None.is) ∙ rw c.deref.ensures.value at (c.in_ok-bytes.ensures map stands))
