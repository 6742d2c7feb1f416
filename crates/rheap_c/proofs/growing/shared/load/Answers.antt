use Rattle.std.proofs.Common.{subst}
use Rattle.rh_layout.specs.declared.command.RootId.{RootId}
use Rattle.rheap_c.specs.Grown.{IsGrownLoaded}
use Rattle.rheap_c.proofs.growing.shared.load.Goals as goal

pub returns : goal.returns
returns c = subst (λ (it : RootId × RootId). IsGrownLoaded c.args.heap.now.state c.load.new.heap.state 0 it.0 it.1 c.args.field c.load.result c.load.new.value) (λ k. (c.shared.ensures k, c.shared-2.ensures k)) c.load.ensures
