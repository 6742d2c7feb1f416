use Rattle.rh_lisp_run.proofs.Entries.{entries_parted, entries_then}
use Rattle.rh_lisp_run.proofs.laws.entries_follow_each_other.Goals as goal

pub returns-clause-joined : goal.returns-clause-joined
returns-clause-joined g c = λ mutators step steps n m old mid new first last p q. entries_then mutators step steps n m old mid new first last p q

pub returns-clause-parted : goal.returns-clause-parted
returns-clause-parted g c = λ mutators step steps n m old new text p. entries_parted mutators step steps n m old new text p
