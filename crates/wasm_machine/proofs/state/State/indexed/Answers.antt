use Rattle.std.proofs.Common.{sym, ◌∙◌, ap}
use Rattle.std.proofs.lemmas.Result.{err_from_is_err_and}
use Rattle.wasm_types.specs.Plain.{plain_module}
use Rattle.wasm_machine.specs.Kinds.{index_kind}
use Rattle.wasm_machine.specs.Exec.{price, index_move}
use Rattle.wasm_machine.specs.Values.{beside, seen}
use Rattle.wasm_machine.specs.Rests.{ahead, moved}
use Rattle.wasm_machine.proofs.Blocks.{leads_from}
use Rattle.wasm_machine.proofs.Moves.{unpaid, is_paid}
use Rattle.wasm_machine.proofs.state.State.indexed.Goals as goal

pub returns-in_err-charge-in-Branch-clause-leads : goal.returns-in_err-charge-in-Branch-clause-leads
returns-in_err-charge-in-Branch-clause-leads c = λ acts.
    let s = c.args.self.now in
    let costs = c.args.code.now.costs.now in
    let m = plain_module c.args.code.now.module.now in
    let p = err_from_is_err_and c.from_residual.result c.from_residual.ensures.1 in
    rw (p.1, p.2) (unpaid m s c.args.next (price costs c.args.op) _ _ _ costs acts (λ a. index_move m (index_kind c.args.op) c.args.i (beside s.values) c.args.next.place (seen s.values) a) _ c.cheap_index.ensures c.in_err-charge-in-Branch.ensures.left)

pub returns-in_err-charge-in-BranchIf-clause-leads : goal.returns-in_err-charge-in-BranchIf-clause-leads
returns-in_err-charge-in-BranchIf-clause-leads c = λ acts.
    let s = c.args.self.now in
    let costs = c.args.code.now.costs.now in
    let m = plain_module c.args.code.now.module.now in
    let p = err_from_is_err_and c.from_residual-in_err-charge-in-BranchIf.result c.from_residual-in_err-charge-in-BranchIf.ensures.1 in
    rw (p.1, p.2) (unpaid m s c.args.next (price costs c.args.op) _ _ _ costs acts (λ a. index_move m (index_kind c.args.op) c.args.i (beside s.values) c.args.next.place (seen s.values) a) _ c.cheap_index-in-BranchIf.ensures c.in_err-charge-in-BranchIf.ensures.left)

pub returns-in_err-charge-in-Call-clause-leads : goal.returns-in_err-charge-in-Call-clause-leads
returns-in_err-charge-in-Call-clause-leads c = λ acts.
    let s = c.args.self.now in
    let costs = c.args.code.now.costs.now in
    let m = plain_module c.args.code.now.module.now in
    let p = err_from_is_err_and c.from_residual-in_err-charge-in-Call.result c.from_residual-in_err-charge-in-Call.ensures.1 in
    rw (p.1, p.2) (unpaid m s c.args.next (price costs c.args.op) _ _ _ costs acts (λ a. index_move m (index_kind c.args.op) c.args.i (beside s.values) c.args.next.place (seen s.values) a) _ c.call.ensures c.in_err-charge-in-Call.ensures.left)

pub returns-in_err-charge-in-LocalGet-clause-leads : goal.returns-in_err-charge-in-LocalGet-clause-leads
returns-in_err-charge-in-LocalGet-clause-leads c = λ acts.
    let s = c.args.self.now in
    let costs = c.args.code.now.costs.now in
    let m = plain_module c.args.code.now.module.now in
    let p = err_from_is_err_and c.from_residual-in_err-charge-in-LocalGet.result c.from_residual-in_err-charge-in-LocalGet.ensures.1 in
    rw (p.1, p.2) (unpaid m s c.args.next (price costs c.args.op) _ _ _ costs acts (λ a. index_move m (index_kind c.args.op) c.args.i (beside s.values) c.args.next.place (seen s.values) a) _ c.cheap_index-in-LocalGet.ensures c.in_err-charge-in-LocalGet.ensures.left)

pub returns-in_err-charge-in-LocalSet-clause-leads : goal.returns-in_err-charge-in-LocalSet-clause-leads
returns-in_err-charge-in-LocalSet-clause-leads c = λ acts.
    let s = c.args.self.now in
    let costs = c.args.code.now.costs.now in
    let m = plain_module c.args.code.now.module.now in
    let p = err_from_is_err_and c.from_residual-in_err-charge-in-LocalSet.result c.from_residual-in_err-charge-in-LocalSet.ensures.1 in
    rw (p.1, p.2) (unpaid m s c.args.next (price costs c.args.op) _ _ _ costs acts (λ a. index_move m (index_kind c.args.op) c.args.i (beside s.values) c.args.next.place (seen s.values) a) _ c.cheap_index-in-LocalSet.ensures c.in_err-charge-in-LocalSet.ensures.left)

pub returns-in_err-charge-in-LocalTee-clause-leads : goal.returns-in_err-charge-in-LocalTee-clause-leads
returns-in_err-charge-in-LocalTee-clause-leads c = λ acts.
    let s = c.args.self.now in
    let costs = c.args.code.now.costs.now in
    let m = plain_module c.args.code.now.module.now in
    let p = err_from_is_err_and c.from_residual-in_err-charge-in-LocalTee.result c.from_residual-in_err-charge-in-LocalTee.ensures.1 in
    rw (p.1, p.2) (unpaid m s c.args.next (price costs c.args.op) _ _ _ costs acts (λ a. index_move m (index_kind c.args.op) c.args.i (beside s.values) c.args.next.place (seen s.values) a) _ c.cheap_index-in-LocalTee.ensures c.in_err-charge-in-LocalTee.ensures.left)

pub returns-in_err-charge-in-GlobalGet-clause-leads : goal.returns-in_err-charge-in-GlobalGet-clause-leads
returns-in_err-charge-in-GlobalGet-clause-leads c = λ acts.
    let s = c.args.self.now in
    let costs = c.args.code.now.costs.now in
    let m = plain_module c.args.code.now.module.now in
    let p = err_from_is_err_and c.from_residual-in_err-charge-in-GlobalGet.result c.from_residual-in_err-charge-in-GlobalGet.ensures.1 in
    rw (p.1, p.2) (unpaid m s c.args.next (price costs c.args.op) _ _ _ costs acts (λ a. index_move m (index_kind c.args.op) c.args.i (beside s.values) c.args.next.place (seen s.values) a) _ c.cheap_index-in-GlobalGet.ensures c.in_err-charge-in-GlobalGet.ensures.left)

pub returns-in_err-charge-in-GlobalSet-clause-leads : goal.returns-in_err-charge-in-GlobalSet-clause-leads
returns-in_err-charge-in-GlobalSet-clause-leads c = λ acts.
    let s = c.args.self.now in
    let costs = c.args.code.now.costs.now in
    let m = plain_module c.args.code.now.module.now in
    let p = err_from_is_err_and c.from_residual-in_err-charge-in-GlobalSet.result c.from_residual-in_err-charge-in-GlobalSet.ensures.1 in
    rw (p.1, p.2) (unpaid m s c.args.next (price costs c.args.op) _ _ _ costs acts (λ a. index_move m (index_kind c.args.op) c.args.i (beside s.values) c.args.next.place (seen s.values) a) _ c.cheap_index-in-GlobalSet.ensures c.in_err-charge-in-GlobalSet.ensures.left)

pub returns-in_err-charge-in-Unreachable-clause-leads : goal.returns-in_err-charge-in-Unreachable-clause-leads
returns-in_err-charge-in-Unreachable-clause-leads c = λ acts.
    let s = c.args.self.now in
    let costs = c.args.code.now.costs.now in
    let m = plain_module c.args.code.now.module.now in
    let p = err_from_is_err_and c.from_residual-in_err-charge-in-Unreachable.result c.from_residual-in_err-charge-in-Unreachable.ensures.1 in
    rw (p.1, p.2) (unpaid m s c.args.next (price costs c.args.op) _ _ _ costs acts (λ a. index_move m (index_kind c.args.op) c.args.i (beside s.values) c.args.next.place (seen s.values) a) _ c.other.ensures c.in_err-charge-in-Unreachable.ensures.left)

pub returns-in_ok-charge-in-Unreachable-clause-leads : goal.returns-in_ok-charge-in-Unreachable-clause-leads
returns-in_ok-charge-in-Unreachable-clause-leads c = λ acts.
    let s = c.args.self.now in
    let costs = c.args.code.now.costs.now in
    let m = plain_module c.args.code.now.module.now in
    let a = ahead c.charge-in-Unreachable.new.meter.left costs acts in
    leads_from m c.args.next _ _ _ _ _
    (is_paid m s c.args.next (price costs c.args.op) _ _ _ costs acts (λ a. index_move m (index_kind c.args.op) c.args.i (beside s.values) c.args.next.place (seen s.values) a) c.other.ensures c.in_ok-charge-in-Unreachable.ensures.left
    ∙ ap (λ kind. moved m s c.args.next (index_move m kind c.args.i (beside s.values) c.args.next.place (seen s.values) a)) (sym c.index_kind.ensures ∙ c.in-Unreachable.is))
    (c.apply_indexed-in-Unreachable.ensures.leads m (ahead c.charge-in-Unreachable.new.meter.left costs acts))
