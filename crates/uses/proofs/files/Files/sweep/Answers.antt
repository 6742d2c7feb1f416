use Rattle.std.proofs.Common.{Some, refl, arith}
use Rattle.uses.proofs.FileSteps.{sweeping-closes}
use Rattle.uses.proofs.files.Files.sweep.Goals as goal

pub loop-closed-preserved : goal.loop-closed-preserved
loop-closed-preserved g c =
    let before = c.loop-closed.invariant in
    let one = sweeping-closes c.args.self.now c.loop-closed.self c.next_to_close.new.self (Some c.in-Some.field-0) c.in-Some.field-0 refl c.in-Some.ensures.closed before.0 in
    (one.0, omega (arith, before.1, one.1), before.2)
