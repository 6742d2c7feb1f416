use Rattle.std.proofs.Common.{Option, Result, subst}
use Rattle.rh_syntax.specs.declared.fault.TraceFault.{TraceFault}
use Rattle.rh_syntax.specs.declared.request.Request.{Request}
use Rattle.rh_shell.specs.Session.{PlayingState, IsAnswerAt, IsNextAnswer}
use Rattle.rh_shell.proofs.laws.a_line_of_no_trace_changes_nothing.Goals as goal

pub returns : goal.returns
returns c = λ s t p line fault text some is answer.
    let at = subst (λ (o : Option PlayingState). IsAnswerAt o s line text t) some answer in
    (subst (λ (r : Result Request TraceFault). IsNextAnswer s p line r text t) is at).1
