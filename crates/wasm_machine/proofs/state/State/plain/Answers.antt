use Rattle.std.proofs.Common.{sym, ◌∙◌, ap}
use Rattle.std.proofs.lemmas.Result.{err_from_is_err_and}
use Rattle.wasm_machine.specs.Kinds.{plain_kind}
use Rattle.wasm_machine.specs.Exec.{price, plain_move}
use Rattle.wasm_machine.specs.Values.{beside, seen}
use Rattle.wasm_machine.specs.Rests.{ahead, moved}
use Rattle.wasm_machine.proofs.Blocks.{leads_from}
use Rattle.wasm_machine.proofs.Moves.{unpaid, is_paid}
use Rattle.wasm_machine.proofs.state.State.plain.Goals as goal

pub returns-in_err-charge-in-Return-clause-leads : goal.returns-in_err-charge-in-Return-clause-leads
returns-in_err-charge-in-Return-clause-leads c = λ m acts.
    let s = c.args.self.now in
    let costs = c.args.costs.now in
    let p = err_from_is_err_and c.from_residual.result c.from_residual.ensures.1 in
    rw (p.1, p.2) (unpaid m s c.args.next (price costs c.args.op) _ _ _ costs acts (λ a. plain_move (plain_kind c.args.op) c.args.op (beside s.values) c.args.next.place (seen s.values) a) _ c.cheap.ensures c.in_err-charge-in-Return.ensures.left)

pub returns-in_err-charge-in-MemoryGrow-clause-leads : goal.returns-in_err-charge-in-MemoryGrow-clause-leads
returns-in_err-charge-in-MemoryGrow-clause-leads c = λ m acts.
    let s = c.args.self.now in
    let costs = c.args.costs.now in
    let p = err_from_is_err_and c.from_residual-in_err-charge-in-MemoryGrow.result c.from_residual-in_err-charge-in-MemoryGrow.ensures.1 in
    rw (p.1, p.2) (unpaid m s c.args.next (price costs c.args.op) _ _ _ costs acts (λ a. plain_move (plain_kind c.args.op) c.args.op (beside s.values) c.args.next.place (seen s.values) a) _ c.growth.ensures c.in_err-charge-in-MemoryGrow.ensures.left)

pub returns-in_err-charge-in-Nop-clause-leads : goal.returns-in_err-charge-in-Nop-clause-leads
returns-in_err-charge-in-Nop-clause-leads c = λ m acts.
    let s = c.args.self.now in
    let costs = c.args.costs.now in
    let p = err_from_is_err_and c.from_residual-in_err-charge-in-Nop.result c.from_residual-in_err-charge-in-Nop.ensures.1 in
    rw (p.1, p.2) (unpaid m s c.args.next (price costs c.args.op) _ _ _ costs acts (λ a. plain_move (plain_kind c.args.op) c.args.op (beside s.values) c.args.next.place (seen s.values) a) _ c.cheap-in-Nop.ensures c.in_err-charge-in-Nop.ensures.left)

pub returns-in_err-charge-in-Drop-clause-leads : goal.returns-in_err-charge-in-Drop-clause-leads
returns-in_err-charge-in-Drop-clause-leads c = λ m acts.
    let s = c.args.self.now in
    let costs = c.args.costs.now in
    let p = err_from_is_err_and c.from_residual-in_err-charge-in-Drop.result c.from_residual-in_err-charge-in-Drop.ensures.1 in
    rw (p.1, p.2) (unpaid m s c.args.next (price costs c.args.op) _ _ _ costs acts (λ a. plain_move (plain_kind c.args.op) c.args.op (beside s.values) c.args.next.place (seen s.values) a) _ c.cheap-in-Drop.ensures c.in_err-charge-in-Drop.ensures.left)

pub returns-in_err-charge-in-Select-clause-leads : goal.returns-in_err-charge-in-Select-clause-leads
returns-in_err-charge-in-Select-clause-leads c = λ m acts.
    let s = c.args.self.now in
    let costs = c.args.costs.now in
    let p = err_from_is_err_and c.from_residual-in_err-charge-in-Select.result c.from_residual-in_err-charge-in-Select.ensures.1 in
    rw (p.1, p.2) (unpaid m s c.args.next (price costs c.args.op) _ _ _ costs acts (λ a. plain_move (plain_kind c.args.op) c.args.op (beside s.values) c.args.next.place (seen s.values) a) _ c.cheap-in-Select.ensures c.in_err-charge-in-Select.ensures.left)

pub returns-in_err-charge-in-MemorySize-clause-leads : goal.returns-in_err-charge-in-MemorySize-clause-leads
returns-in_err-charge-in-MemorySize-clause-leads c = λ m acts.
    let s = c.args.self.now in
    let costs = c.args.costs.now in
    let p = err_from_is_err_and c.from_residual-in_err-charge-in-MemorySize.result c.from_residual-in_err-charge-in-MemorySize.ensures.1 in
    rw (p.1, p.2) (unpaid m s c.args.next (price costs c.args.op) _ _ _ costs acts (λ a. plain_move (plain_kind c.args.op) c.args.op (beside s.values) c.args.next.place (seen s.values) a) _ c.cheap-in-MemorySize.ensures c.in_err-charge-in-MemorySize.ensures.left)

pub returns-in_err-charge-in-OnOne-clause-leads : goal.returns-in_err-charge-in-OnOne-clause-leads
returns-in_err-charge-in-OnOne-clause-leads c = λ m acts.
    let s = c.args.self.now in
    let costs = c.args.costs.now in
    let p = err_from_is_err_and c.from_residual-in_err-charge-in-OnOne.result c.from_residual-in_err-charge-in-OnOne.ensures.1 in
    rw (p.1, p.2) (unpaid m s c.args.next (price costs c.args.op) _ _ _ costs acts (λ a. plain_move (plain_kind c.args.op) c.args.op (beside s.values) c.args.next.place (seen s.values) a) _ c.cheap-in-OnOne.ensures c.in_err-charge-in-OnOne.ensures.left)

pub returns-in_err-charge-in-OnTwo-clause-leads : goal.returns-in_err-charge-in-OnTwo-clause-leads
returns-in_err-charge-in-OnTwo-clause-leads c = λ m acts.
    let s = c.args.self.now in
    let costs = c.args.costs.now in
    let p = err_from_is_err_and c.from_residual-in_err-charge-in-OnTwo.result c.from_residual-in_err-charge-in-OnTwo.ensures.1 in
    rw (p.1, p.2) (unpaid m s c.args.next (price costs c.args.op) _ _ _ costs acts (λ a. plain_move (plain_kind c.args.op) c.args.op (beside s.values) c.args.next.place (seen s.values) a) _ c.on_two.ensures c.in_err-charge-in-OnTwo.ensures.left)

pub returns-in_err-charge-in-Unreachable-clause-leads : goal.returns-in_err-charge-in-Unreachable-clause-leads
returns-in_err-charge-in-Unreachable-clause-leads c = λ m acts.
    let s = c.args.self.now in
    let costs = c.args.costs.now in
    let p = err_from_is_err_and c.from_residual-in_err-charge-in-Unreachable.result c.from_residual-in_err-charge-in-Unreachable.ensures.1 in
    rw (p.1, p.2) (unpaid m s c.args.next (price costs c.args.op) _ _ _ costs acts (λ a. plain_move (plain_kind c.args.op) c.args.op (beside s.values) c.args.next.place (seen s.values) a) _ c.other.ensures c.in_err-charge-in-Unreachable.ensures.left)

pub returns-in_ok-charge-in-Unreachable-clause-leads : goal.returns-in_ok-charge-in-Unreachable-clause-leads
returns-in_ok-charge-in-Unreachable-clause-leads c = λ m acts.
    let s = c.args.self.now in
    let costs = c.args.costs.now in
    let a = ahead c.charge-in-Unreachable.new.meter.left costs acts in
    leads_from m c.args.next _ _ _ _ _
    (is_paid m s c.args.next (price costs c.args.op) _ _ _ costs acts (λ a. plain_move (plain_kind c.args.op) c.args.op (beside s.values) c.args.next.place (seen s.values) a) c.other.ensures c.in_ok-charge-in-Unreachable.ensures.left
    ∙ ap (λ kind. moved m s c.args.next (plain_move kind c.args.op (beside s.values) c.args.next.place (seen s.values) a)) (sym c.plain_kind.ensures ∙ c.in-Unreachable.is))
    (c.apply_plain-in-Unreachable.ensures.leads m (ahead c.charge-in-Unreachable.new.meter.left costs acts))
