use Rattle.rh_cli.proofs.ThreadsHistory.{threads_never_wrong}
use Rattle.rh_cli.proofs.laws.a_history_of_threads_is_never_found_wrong.Goals as goal

pub returns : goal.returns
returns c = threads_never_wrong
