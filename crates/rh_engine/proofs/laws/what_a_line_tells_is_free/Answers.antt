use Rattle.std.proofs.Common.{refl, ap, ℕ, List, get_or, ◌∙◌}
use Rattle.rh_watches.specs.declared.watch.Watch.TheVariants.{Free}
use Rattle.rh_engine.specs.Engine.{freed}
use Rattle.rh_engine.proofs.TellAll.{freed-free, freed-others}
use Rattle.rh_engine.proofs.laws.what_a_line_tells_is_free.Goals as goal

pub returns-clause-told : goal.returns-clause-told
returns-clause-told c = λ e. refl

pub returns-clause-free : goal.returns-clause-free
returns-clause-free c = λ e ticket before after is.
    ap (λ (told : List ℕ). get_or (freed e.heap.watches.tickets told) ticket Free) is ∙ freed-free before after e.heap.watches.tickets ticket

pub returns-clause-others : goal.returns-clause-others
returns-clause-others c = λ e ticket others. freed-others e.heap.watches.gone e.heap.watches.tickets ticket others

pub returns-clause-once : goal.returns-clause-once
returns-clause-once c = λ e. refl
