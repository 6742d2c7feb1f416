use Rattle.rheap_c_traces.proofs.Statuses.{run_1_or_3, run_failed}
use Rattle.rheap_c_traces.proofs.laws.statuses_1_and_3_say_why_there_is_no_text.Goals as goal

pub returns-clause-failed : goal.returns-clause-failed
returns-clause-failed c = run_failed

pub returns-clause-faulty : goal.returns-clause-faulty
returns-clause-faulty c = run_1_or_3
