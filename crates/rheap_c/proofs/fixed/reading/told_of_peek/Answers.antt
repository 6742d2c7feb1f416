use Rattle.std.proofs.Common.{sym, ◌∙◌}
use Rattle.rheap_c.proofs.Readings.{peek_answer-load}
use Rattle.rheap_c.proofs.fixed.reading.told_of_peek.Goals as goal

pub returns : goal.returns
returns c = c.peek.ensures.answer ∙ sym (peek_answer-load c.args.heap.now c.args.owner c.args.src c.args.field)
