use Rattle.rh_cli.proofs.StatusLaws.{concludes_run_fault, concludes_replay_fault, concludes_dump_fault, concludes_dot_fault, concludes_snapshot_fault, concludes_why_fault, concludes_paced_fault, concludes_growing_fault}
use Rattle.rh_cli.proofs.SharedStatuses.{concludes_shared_fault}
use Rattle.rh_cli.proofs.laws.a_faulty_input_ends_with_1_or_3.Goals as goal

pub returns-clause-run : goal.returns-clause-run
returns-clause-run c = concludes_run_fault

pub returns-clause-threads : goal.returns-clause-threads
returns-clause-threads c = λ replicators idle. concludes_shared_fault (record { replicators = replicators; idle = idle })

pub returns-clause-replay : goal.returns-clause-replay
returns-clause-replay c = concludes_replay_fault

pub returns-clause-dump : goal.returns-clause-dump
returns-clause-dump c = concludes_dump_fault

pub returns-clause-paced : goal.returns-clause-paced
returns-clause-paced c = λ mark input status old new. concludes_paced_fault mark input old new status

pub returns-clause-growing : goal.returns-clause-growing
returns-clause-growing c = λ at_most input status old new. concludes_growing_fault at_most input old new status

pub returns-clause-dot : goal.returns-clause-dot
returns-clause-dot c = concludes_dot_fault

pub returns-clause-snapshot : goal.returns-clause-snapshot
returns-clause-snapshot c = concludes_snapshot_fault

pub returns-clause-why : goal.returns-clause-why
returns-clause-why c = concludes_why_fault
