use Rattle.std.proofs.Common.{subst}
use Rattle.std.specs.List.{AllByRecursion}
use Rattle.shared_tests.specs.Beside.{AreEndsOf}
use Rattle.shared_tests.proofs.EndsHere.{run-of}
use Rattle.shared_tests.proofs.settled.play.Goals as goal

-- the crew gives back replicators that have the heap's rings
pub settle_all-requires : goal.settle_all-requires
settle_all-requires g c =
    let replicators = c.replicators_of-replicators.result.items in
    let begun = subst (λ pairs. AllByRecursion (λ own. AreEndsOf pairs own.0) replicators) c.requires.kept c.replicators_of-replicators.ensures in
    run-of (λ before answer after. Unit {0}) (λ before stepped after. Unit {0}) _ g.B.Rings.pairs replicators c.in-Ok.ended.items c.in-Ok.ensures.run begun
