use Rattle.std.proofs.Common.{ℕ}
use Rattle.rh_layout.specs.declared.command.Command.TheVariants.{Store}
use Rattle.rheap_c.proofs.GrownTried.{grown-accepted, grown-again}
use Rattle.rheap_c.proofs.growing.insisting.insist_store_in.Goals as goal

pub returns-in-Ok : goal.returns-in-Ok
returns-in-Ok c = (λ (i : ℕ). c.store.ensures.0, grown-accepted c.store.ensures.0 _ _ c.args.owner (Store c.args.obj c.args.field c.args.operand) _ c.store.ensures.1 c.in-Ok.reply c.in-Ok.is)

pub returns-in-Err : goal.returns-in-Err
returns-in-Err c = (c.insisted.ensures.0, grown-again c.store.ensures.0 _ _ c.args.owner (Store c.args.obj c.args.field c.args.operand) _ c.store.ensures.1 _ c.in-Err.is _ _ _ c.insisted.ensures.1)
