use Rattle.std.proofs.Common.{subst}
use Rattle.rh_layout.specs.declared.command.RootId.{RootId}
use Rattle.rheap_c.specs.Grown.{OnPaced}
use Rattle.rheap_c.specs.Read.{IsAnswered, peek_answer}
use Rattle.rheap_c.proofs.growing.shared.peek.Goals as goal

pub returns : goal.returns
returns c = subst (λ (r : RootId). OnPaced (λ old new. IsAnswered (λ s. peek_answer s 0 r c.args.field) old new c.peek.result c.peek.new.value) c.args.heap.now.state c.peek.new.heap.state) c.shared.ensures c.peek.ensures
