use Rattle.rh_engine.proofs.TrayEntries.{pair_at-with_all, rises-with_all}
use Rattle.rh_engine.proofs.laws.joined_items_are_the_newest.Goals as goal

pub returns-clause-content : goal.returns-clause-content
returns-clause-content c = pair_at-with_all

pub returns-clause-order : goal.returns-clause-order
returns-clause-order c = rises-with_all
