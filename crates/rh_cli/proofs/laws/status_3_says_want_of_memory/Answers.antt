use Rattle.rh_cli.proofs.StatusLaws.{memory_is_3, concludes_paced_3, concludes_growing_3, concludes_run_3, concludes_replay_3, concludes_dump_3, concludes_dot_3, concludes_snapshot_3, concludes_why_3, concludes_draw_3, concludes_completions_3, concludes_lisp_3, way_memory_is_3}
use Rattle.rh_cli.proofs.SharedStatuses.{concludes_shared_3}
use Rattle.rh_cli.proofs.laws.status_3_says_want_of_memory.Goals as goal

pub returns-clause-fault : goal.returns-clause-fault
returns-clause-fault c = memory_is_3

pub returns-clause-run : goal.returns-clause-run
returns-clause-run c = concludes_run_3

pub returns-clause-paced : goal.returns-clause-paced
returns-clause-paced c = concludes_paced_3

pub returns-clause-threads : goal.returns-clause-threads
returns-clause-threads c = λ replicators idle. concludes_shared_3 (record { replicators = replicators; idle = idle })

pub returns-clause-replay : goal.returns-clause-replay
returns-clause-replay c = concludes_replay_3

pub returns-clause-dump : goal.returns-clause-dump
returns-clause-dump c = concludes_dump_3

pub returns-clause-run_fault : goal.returns-clause-run_fault
returns-clause-run_fault c = way_memory_is_3

pub returns-clause-growing : goal.returns-clause-growing
returns-clause-growing c = concludes_growing_3

pub returns-clause-dot : goal.returns-clause-dot
returns-clause-dot c = concludes_dot_3

pub returns-clause-snapshot : goal.returns-clause-snapshot
returns-clause-snapshot c = concludes_snapshot_3

pub returns-clause-why : goal.returns-clause-why
returns-clause-why c = concludes_why_3

pub returns-clause-draw : goal.returns-clause-draw
returns-clause-draw c = concludes_draw_3

pub returns-clause-completions : goal.returns-clause-completions
returns-clause-completions c = concludes_completions_3

pub returns-clause-lisp : goal.returns-clause-lisp
returns-clause-lisp c = concludes_lisp_3
