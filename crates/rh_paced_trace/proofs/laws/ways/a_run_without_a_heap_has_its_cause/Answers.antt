use Rattle.rh_paced_trace.proofs.laws.ways.a_run_without_a_heap_has_its_cause.Goals as goal

pub returns-clause-limits : goal.returns-clause-limits
returns-clause-limits c = λ mark input old new ends. ends.3

pub returns-clause-paced : goal.returns-clause-paced
returns-clause-paced c = λ mark input fault old new ends. (ends.0, ends.1, ends.2)

pub returns-clause-growing : goal.returns-clause-growing
returns-clause-growing c = λ at_most input fault old new ends. (ends.0, ends.1, ends.2)
