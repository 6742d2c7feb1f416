use Rattle.std.proofs.Common.{sym, ◌∙◌}
use Rattle.rheap_c.proofs.Readings.{field_answer-load}
use Rattle.rheap_c.proofs.fixed.reading.told_of_field.Goals as goal

pub returns : goal.returns
returns c = c.peek.ensures.answer ∙ sym (field_answer-load c.args.heap.now c.args.root c.args.field)
