use Rattle.std.proofs.Common.{Ok, refl}
use Rattle.rh_layout.specs.declared.command.Command.TheVariants.{Store}
use Rattle.rheap_c.proofs.Tried.{IsInsistedCall-tried}
use Rattle.rheap_c.proofs.fixed.value_rows.insist_first.Goals as goal

pub returns-in-Some : goal.returns-in-Some
returns-in-Some c =
    IsInsistedCall-tried c.args.heap.now c.store_straight.new.self c.args.owner (Store c.args.obj c.args.field c.args.operand) (Ok c.in-Some.reply) c.in-Some.ensures.done refl
