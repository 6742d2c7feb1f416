use Rattle.rh_trace.proofs.OneTotal.{total_line-injective}
use Rattle.rh_trace.proofs.laws.summaries.each_total_line_is_of_one_summary.Goals as goal

pub returns : goal.returns
returns c = total_line-injective
