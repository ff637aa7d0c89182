use Rattle.std.proofs.Common.{◌∷◌, ap}
use Rattle.wasm_valid.specs.Frames.{Frame, frame, frames, outer_frames}
use Rattle.wasm_valid.specs.Contexts.{plain_context}
use Rattle.wasm_valid.proofs.Stepping.{block_advances, loop_advances, if_advances, if_stops, else_advances, else_stops, end_advances, end_stops, turn_advances, turn_stops, plain_is}
use Rattle.wasm_valid.proofs.body.advance.Goals as goal

pub returns-in-Err : goal.returns-in-Err
returns-in-Err c = if_stops (plain_context c.args.c.now) c.args.instr (frame c.args.blocks.now.inner) (outer_frames c.args.blocks.now) (outer_frames c.args.blocks.now) c.in-If.result c.in-If.els c.in-If.end c.in-Err.kind c.in-If.is c.in-Err.ensures

pub returns-in_ok-open-in-Block : goal.returns-in_ok-open-in-Block
returns-in_ok-open-in-Block c = block_advances (plain_context c.args.c.now) c.args.instr (frame c.args.blocks.now.inner) (outer_frames c.args.blocks.now) (frames c.open.new.self) c.in-Block.result c.in-Block.end c.in-Block.is c.in_ok-open-in-Block.ensures

pub returns-in_ok-open-in-Loop : goal.returns-in_ok-open-in-Loop
returns-in_ok-open-in-Loop c = loop_advances (plain_context c.args.c.now) c.args.instr (frame c.args.blocks.now.inner) (outer_frames c.args.blocks.now) (frames c.open-in-Loop.new.self) c.in-Loop.result c.in-Loop.end c.in-Loop.is c.in_ok-open-in-Loop.ensures

pub returns-in_ok-open-in-If : goal.returns-in_ok-open-in-If
returns-in_ok-open-in-If c = if_advances (plain_context c.args.c.now) c.args.instr (frame c.args.blocks.now.inner) (outer_frames c.args.blocks.now) (frames c.open-in-If.new.self) c.in-If.result c.in-If.els c.in-If.end _ c.in-If.is c.in-Ok.ensures c.in_ok-open-in-If.ensures

pub returns-in-Ok-begin_other : goal.returns-in-Ok-begin_other
returns-in-Ok-begin_other c = else_advances (plain_context c.args.c.now) c.args.instr (frame c.args.blocks.now.inner) (outer_frames c.args.blocks.now) _ c.in-Else.end c.in-Else.is c.in-Ok-begin_other.ensures.ends (ap (λ (f : Frame). f ∷ outer_frames c.args.blocks.now) c.in-Ok-begin_other.ensures.begun)

pub returns-in-Err-begin_other : goal.returns-in-Err-begin_other
returns-in-Err-begin_other c = else_stops (plain_context c.args.c.now) c.args.instr (frame c.args.blocks.now.inner) (outer_frames c.args.blocks.now) (frames record { inner = c.begin_other.new.self; outer = c.args.blocks.now.outer }) c.in-Else.end c.in-Err-begin_other.kind c.in-Else.is c.in-Err-begin_other.ensures.ends

pub returns-in-Ok-close : goal.returns-in-Ok-close
returns-in-Ok-close c = end_advances (plain_context c.args.c.now) c.args.instr c.in-Ok-close.more (frames c.args.blocks.now) (frames c.close.new.self) c.in-End.is c.in-Ok-close.ensures

pub returns-in-Err-close : goal.returns-in-Err-close
returns-in-Err-close c = end_stops (plain_context c.args.c.now) c.args.instr c.in-Err-close.kind (frames c.args.blocks.now) (frames c.close.new.self) c.in-End.is c.in-Err-close.ensures

pub returns-in-Ok-turn : goal.returns-in-Ok-turn
returns-in-Ok-turn c = turn_advances (plain_context c.args.c.now) c.args.instr (frame c.args.blocks.now.inner) (outer_frames c.args.blocks.now) (frames c.turn.new.blocks) (plain_is c.args.instr c.in-Op.is) c.in-Ok-turn.ensures

pub returns-in-Err-turn : goal.returns-in-Err-turn
returns-in-Err-turn c = turn_stops (plain_context c.args.c.now) c.args.instr (frame c.args.blocks.now.inner) (outer_frames c.args.blocks.now) (frames c.turn.new.blocks) c.in-Err-turn.stop (plain_is c.args.instr c.in-Op.is) c.in-Err-turn.ensures
