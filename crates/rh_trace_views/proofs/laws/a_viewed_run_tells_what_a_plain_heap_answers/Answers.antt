use Rattle.rh_trace_views.proofs.PlainRuns.{plainly_viewed}
use Rattle.rh_trace_views.proofs.laws.a_viewed_run_tells_what_a_plain_heap_answers.Goals as goal

pub returns : goal.returns
returns c = plainly_viewed c.the_history_of_plain_answers_is_legal.ensures
