use Rattle.rh_trace_views.proofs.Unescaped.{line_kept, name_kept}
use Rattle.rh_trace_views.proofs.laws.lines_and_names_need_no_escape.Goals as goal

pub returns-clause-line : goal.returns-clause-line
returns-clause-line c = line_kept

pub returns-clause-name : goal.returns-clause-name
returns-clause-name c = name_kept
