use Rattle.rh_trace.proofs.FixedRuns.{ends_as, ends_plainly}
use Rattle.rh_trace.proofs.laws.ways.a_fixed_run_ends_as_its_trace.Goals as goal

pub returns-clause-told : goal.returns-clause-told
returns-clause-told g c = ends_as g.row.F.Denot

pub returns-clause-faults : goal.returns-clause-faults
returns-clause-faults g c = ends_plainly
