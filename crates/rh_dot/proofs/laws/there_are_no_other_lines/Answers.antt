use Rattle.rh_dot.proofs.LineCount.{lines_count}
use Rattle.rh_dot.proofs.laws.there_are_no_other_lines.Goals as goal

pub returns : goal.returns
returns c = lines_count
