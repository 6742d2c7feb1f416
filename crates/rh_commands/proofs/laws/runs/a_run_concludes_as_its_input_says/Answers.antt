use Rattle.std.proofs.Common.{Result, subst}
use Rattle.rh_trace.specs.declared.summary.Summary.{Summary}
use Rattle.rh_trace.specs.declared.way_fault.WayFault.{WayFault}
use Rattle.rh_paced_trace.specs.declared.fault.Unpaced.{Unpaced}
use Rattle.rh_commands.specs.Runs.{IsWayStatus}
use Rattle.rh_commands.proofs.laws.runs.a_run_concludes_as_its_input_says.Goals as goal

pub returns-clause-fixed : goal.returns-clause-fixed
returns-clause-fixed c = λ input status old new e.
    let told = c.a_fixed_run_ends_as_its_trace.ensures.faults input e.0 old new e.1 in
    (told.0, told.2, subst (λ (o : Result Summary (WayFault Unpaced)). IsWayStatus o status) told.1 e.2)

pub returns-clause-paced : goal.returns-clause-paced
returns-clause-paced c = λ mark input status old new e. (e.0, c.a_paced_run_ends_as_its_input_says.ensures mark input e.0 old new e.1, e.2)

pub returns-clause-growing : goal.returns-clause-growing
returns-clause-growing c = λ at_most input status old new e. (e.0, c.a_growing_run_ends_as_its_input_says.ensures at_most input e.0 old new e.1, e.2)
