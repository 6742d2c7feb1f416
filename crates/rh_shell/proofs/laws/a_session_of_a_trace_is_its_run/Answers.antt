use Rattle.rh_text.specs.RawLine.{lines_of}
use Rattle.rh_shell.proofs.Runs.{lines_run}
use Rattle.rh_shell.proofs.laws.a_session_of_a_trace_is_its_run.Goals as goal

pub returns : goal.returns
returns c = λ script typed text sum read good h. lines_run (lines_of typed) script text sum read good h
