use Rattle.rheap_c.proofs.Readings.{field_answer-peek, peek_answer-into, peek_answer-load, root_answer-copy}
use Rattle.rheap_c.proofs.laws.readings.readings_answer_as_commands.Goals as goal

pub returns : goal.returns
returns c = record {
  peek = peek_answer-load;
  into = peek_answer-into;
  field = field_answer-peek;
  root = root_answer-copy;
}
