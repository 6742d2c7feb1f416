use Rattle.rh_cli.proofs.ViewStatuses.{viewed_dump_0, viewed_growing_0, viewed_growing_3, viewed_late, viewed_paced_0, viewed_paced_3, viewed_replay_0, viewed_replay_4, viewed_run_0, viewed_run_3, viewed_run_unfailed}
use Rattle.rh_cli.proofs.laws.what_is_viewed_ends_with_the_same_statuses.Goals as goal

pub returns-clause-late : goal.returns-clause-late
returns-clause-late c = viewed_late

pub returns-clause-run : goal.returns-clause-run
returns-clause-run c = viewed_run_0

pub returns-clause-unfailed : goal.returns-clause-unfailed
returns-clause-unfailed c = viewed_run_unfailed

pub returns-clause-paced : goal.returns-clause-paced
returns-clause-paced c = viewed_paced_0

pub returns-clause-growing : goal.returns-clause-growing
returns-clause-growing c = viewed_growing_0

pub returns-clause-replay : goal.returns-clause-replay
returns-clause-replay c = viewed_replay_0

pub returns-clause-wrong : goal.returns-clause-wrong
returns-clause-wrong c = viewed_replay_4

pub returns-clause-dump : goal.returns-clause-dump
returns-clause-dump c = viewed_dump_0

pub returns-clause-run_refused : goal.returns-clause-run_refused
returns-clause-run_refused c = viewed_run_3

pub returns-clause-paced_refused : goal.returns-clause-paced_refused
returns-clause-paced_refused c = viewed_paced_3

pub returns-clause-growing_refused : goal.returns-clause-growing_refused
returns-clause-growing_refused c = viewed_growing_3
