-- `cpu::stages::eval_packed_generic` meets its contract.
use Rattle.cpu.proofs.Filled.{filled_lent}
use Rattle.cpu.proofs.Whole.{context-length, instruction-length, flow-length, stages}
use Rattle.cpu.proofs.stages.eval_packed_generic.Goals as goal

pub returns : goal.returns
returns c =
    rw (c.eval_opcodes.ensures, c.eval_flow.ensures, c.eval_instruction.ensures, c.eval_context.ensures, stages)
    (filled_lent _ _ _ _ c.args.out.now (context-length _) (instruction-length _) (flow-length _))
