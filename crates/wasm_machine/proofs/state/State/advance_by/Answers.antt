use Rattle.std.proofs.lemmas.Result.{err_from_is_err_and}
use Rattle.wasm_types.specs.declared.instr.Instr.TheVariants.{CallIndirect, BrTable, Mem, Const, Block, Loop, If}
use Rattle.wasm_types.specs.Plain.{plain_module}
use Rattle.wasm_machine.specs.Kinds.{opcode}
use Rattle.wasm_machine.specs.Exec.{price, move_paid}
use Rattle.wasm_machine.specs.Values.{beside, seen}
use Rattle.wasm_machine.proofs.Moves.{unpaid, price_is, const_price}
use Rattle.wasm_machine.proofs.state.State.advance_by.Goals as goal

pub returns-in_err-charge-in-CallIndirect-clause-leads : goal.returns-in_err-charge-in-CallIndirect-clause-leads
returns-in_err-charge-in-CallIndirect-clause-leads c = λ acts h.
    let s = c.args.self.now in
    let costs = c.args.code.now.costs.now in
    let m = plain_module c.args.code.now.module.now in
    let i = CallIndirect c.in-CallIndirect.ty in
    let p = err_from_is_err_and c.from_residual.result c.from_residual.ensures.1 in
    rw (p.1, p.2, c.in-CallIndirect.is) (unpaid m s c.args.next (price costs (opcode i)) _ _ _ costs acts (λ a. move_paid m c.args.targets.now (beside s.values) c.args.next.place i (seen s.values) a) _ (price_is costs.call_indirect c.requires.call_indirect.0) c.in_err-charge-in-CallIndirect.ensures.left)

pub returns-in_err-charge-in-BrTable-clause-leads : goal.returns-in_err-charge-in-BrTable-clause-leads
returns-in_err-charge-in-BrTable-clause-leads c = λ acts h.
    let s = c.args.self.now in
    let costs = c.args.code.now.costs.now in
    let m = plain_module c.args.code.now.module.now in
    let i = BrTable c.in-BrTable.first c.in-BrTable.count c.in-BrTable.default in
    let p = err_from_is_err_and c.from_residual-in_err-charge-in-BrTable.result c.from_residual-in_err-charge-in-BrTable.ensures.1 in
    rw (p.1, p.2, c.in-BrTable.is) (unpaid m s c.args.next (price costs (opcode i)) _ _ _ costs acts (λ a. move_paid m c.args.targets.now (beside s.values) c.args.next.place i (seen s.values) a) _ (price_is costs.table_jump c.requires.table_jump.0) c.in_err-charge-in-BrTable.ensures.left)

pub returns-in_err-charge-in-Mem-clause-leads : goal.returns-in_err-charge-in-Mem-clause-leads
returns-in_err-charge-in-Mem-clause-leads c = λ acts h.
    let s = c.args.self.now in
    let costs = c.args.code.now.costs.now in
    let m = plain_module c.args.code.now.module.now in
    let i = Mem c.in-Mem.op c.in-Mem.align c.in-Mem.offset in
    let p = err_from_is_err_and c.from_residual-in_err-charge-in-Mem.result c.from_residual-in_err-charge-in-Mem.ensures.1 in
    rw (p.1, p.2, c.in-Mem.is) (unpaid m s c.args.next (price costs (opcode i)) _ _ _ costs acts (λ a. move_paid m c.args.targets.now (beside s.values) c.args.next.place i (seen s.values) a) _ c.access.ensures c.in_err-charge-in-Mem.ensures.left)

pub returns-in_err-charge-in-Const-clause-leads : goal.returns-in_err-charge-in-Const-clause-leads
returns-in_err-charge-in-Const-clause-leads c = λ acts h.
    let s = c.args.self.now in
    let costs = c.args.code.now.costs.now in
    let m = plain_module c.args.code.now.module.now in
    let i = Const c.in-Const.value in
    let p = err_from_is_err_and c.from_residual-in_err-charge-in-Const.result c.from_residual-in_err-charge-in-Const.ensures.1 in
    rw (p.1, p.2, c.in-Const.is) (unpaid m s c.args.next (price costs (opcode i)) _ _ _ costs acts (λ a. move_paid m c.args.targets.now (beside s.values) c.args.next.place i (seen s.values) a) _ (const_price costs c.in-Const.value c.requires.plain.0) c.in_err-charge-in-Const.ensures.left)

pub returns-in_err-charge-in-Block-clause-leads : goal.returns-in_err-charge-in-Block-clause-leads
returns-in_err-charge-in-Block-clause-leads c = λ acts h.
    let s = c.args.self.now in
    let costs = c.args.code.now.costs.now in
    let m = plain_module c.args.code.now.module.now in
    let i = Block c.in-Block.ty c.in-Block.end in
    let p = err_from_is_err_and c.from_residual-in_err-charge-in-Block.result c.from_residual-in_err-charge-in-Block.ensures.1 in
    rw (p.1, p.2, c.in-Block.is) (unpaid m s c.args.next (price costs (opcode i)) _ _ _ costs acts (λ a. move_paid m c.args.targets.now (beside s.values) c.args.next.place i (seen s.values) a) _ (price_is costs.plain c.requires.plain.0) c.in_err-charge-in-Block.ensures.left)

pub returns-in_err-charge-in-Loop-clause-leads : goal.returns-in_err-charge-in-Loop-clause-leads
returns-in_err-charge-in-Loop-clause-leads c = λ acts h.
    let s = c.args.self.now in
    let costs = c.args.code.now.costs.now in
    let m = plain_module c.args.code.now.module.now in
    let i = Loop c.in-Loop.ty c.in-Loop.end in
    let p = err_from_is_err_and c.from_residual-in_err-charge-in-Loop.result c.from_residual-in_err-charge-in-Loop.ensures.1 in
    rw (p.1, p.2, c.in-Loop.is) (unpaid m s c.args.next (price costs (opcode i)) _ _ _ costs acts (λ a. move_paid m c.args.targets.now (beside s.values) c.args.next.place i (seen s.values) a) _ (price_is costs.plain c.requires.plain.0) c.in_err-charge-in-Loop.ensures.left)

pub returns-in_err-charge-in-If-clause-leads : goal.returns-in_err-charge-in-If-clause-leads
returns-in_err-charge-in-If-clause-leads c = λ acts h.
    let s = c.args.self.now in
    let costs = c.args.code.now.costs.now in
    let m = plain_module c.args.code.now.module.now in
    let i = If c.in-If.ty c.in-If.els c.in-If.end in
    let p = err_from_is_err_and c.from_residual-in_err-charge-in-If.result c.from_residual-in_err-charge-in-If.ensures.1 in
    rw (p.1, p.2, c.in-If.is) (unpaid m s c.args.next (price costs (opcode i)) _ _ _ costs acts (λ a. move_paid m c.args.targets.now (beside s.values) c.args.next.place i (seen s.values) a) _ (price_is costs.plain c.requires.plain.0) c.in_err-charge-in-If.ensures.left)
