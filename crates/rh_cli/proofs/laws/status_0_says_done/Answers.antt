use Rattle.rh_cli.proofs.StatusLaws.{concludes_run_0, concludes_replay_0, concludes_dump_0, concludes_dot_0, concludes_snapshot_0, concludes_why_0, concludes_draw_0, concludes_completions_0, concludes_session_0, concludes_lisp_0, done_is_0, only_help_is_0, concludes_paced_run, concludes_growing_run}
use Rattle.rh_cli.proofs.LispStatuses.{lisp_cycles_is_0, lisp_session_is_0}
use Rattle.rh_cli.proofs.SharedStatuses.{concludes_shared_0}
use Rattle.rh_cli.proofs.laws.status_0_says_done.Goals as goal

pub returns-clause-run : goal.returns-clause-run
returns-clause-run c = concludes_run_0

pub returns-clause-threads : goal.returns-clause-threads
returns-clause-threads c = λ replicators idle. concludes_shared_0 (record { replicators = replicators; idle = idle })

pub returns-clause-replay : goal.returns-clause-replay
returns-clause-replay c = concludes_replay_0

pub returns-clause-dump : goal.returns-clause-dump
returns-clause-dump c = concludes_dump_0

pub returns-clause-ending : goal.returns-clause-ending
returns-clause-ending c = done_is_0

pub returns-clause-fault : goal.returns-clause-fault
returns-clause-fault c = only_help_is_0

pub returns-clause-paced : goal.returns-clause-paced
returns-clause-paced c = concludes_paced_run

pub returns-clause-growing : goal.returns-clause-growing
returns-clause-growing c = concludes_growing_run

pub returns-clause-dot : goal.returns-clause-dot
returns-clause-dot c = concludes_dot_0

pub returns-clause-snapshot : goal.returns-clause-snapshot
returns-clause-snapshot c = concludes_snapshot_0

pub returns-clause-why : goal.returns-clause-why
returns-clause-why c = concludes_why_0

pub returns-clause-draw : goal.returns-clause-draw
returns-clause-draw c = concludes_draw_0

pub returns-clause-lisp : goal.returns-clause-lisp
returns-clause-lisp c = concludes_lisp_0

pub returns-clause-lisp_cycles : goal.returns-clause-lisp_cycles
returns-clause-lisp_cycles c = lisp_cycles_is_0

pub returns-clause-lisp_session : goal.returns-clause-lisp_session
returns-clause-lisp_session c = λ limits input. lisp_session_is_0 limits

pub returns-clause-session : goal.returns-clause-session
returns-clause-session c = concludes_session_0

pub returns-clause-completions : goal.returns-clause-completions
returns-clause-completions c = concludes_completions_0
