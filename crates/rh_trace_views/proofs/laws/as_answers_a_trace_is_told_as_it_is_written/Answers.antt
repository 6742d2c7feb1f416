use Rattle.rh_trace_views.proofs.AsAnswers.{told_plain}
use Rattle.rh_trace_views.proofs.laws.as_answers_a_trace_is_told_as_it_is_written.Goals as goal

pub returns : goal.returns
returns c = told_plain
