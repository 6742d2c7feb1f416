use Rattle.rh_lisp_run.proofs.EntryText.{entry_prints}
use Rattle.rh_lisp_run.proofs.laws.an_entry_prints_what_it_prints_on_the_plain_heap.Goals as goal

pub returns : goal.returns
returns g c = λ mutators step steps old new text entry p stands. entry_prints mutators step steps old new text entry p stands
