use Rattle.std.proofs.Common.{◌≡◌, Ok, length, refl}
use Rattle.std.specs.Vec.Iter.{into_iter_items, into_iter_len}
use Rattle.std.proofs.lemmas.Iterator.{items_from_collect}
use Rattle.std.proofs.lemmas.Iterator.Adapters.{YieldsList-from_vec}
use Rattle.rh_cli.proofs.program.arguments_of.Goals as goal

pub returns-in_ok-collect-in-Ok-clause-texts : goal.returns-in_ok-collect-in-Ok-clause-texts
returns-in_ok-collect-in-Ok-clause-texts c =
    let arguments = c.in-Ok.arguments in
    let many : into_iter_len arguments ≡ length (into_iter_items arguments) = arguments.rest.ok.0 in
    let kept = items_from_collect {E = Unit {0}} (Ok c.in_ok-collect-in-Ok.field-0) c.in_ok-collect-in-Ok.ensures.ran (YieldsList-from_vec (into_iter_items arguments) refl many) in
    rw c.in-Ok.is kept
