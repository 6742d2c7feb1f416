use Rattle.std.proofs.Common.{rules, ◌≡◌, ◌∷◌, sym, subst, ◌∙◌}
use Rattle.rh_shared_trace.specs.Matching.{AreCallsFor, lines_of}
use Rattle.rh_shared_trace.proofs.Matched.{called-first}
use Rattle.rh_shared_trace.proofs.matching.after_line.Goals as goal

pub returns-then-is_same_command-clause-found : goal.returns-then-is_same_command-clause-found
returns-then-is_same_command-clause-found c = λ full call calls same.
    let line = c.in-Command.line in
    let later = lines_of c.args.owner c.in-Some.after.now in
    let lines : lines_of c.args.owner c.loop-request.rest.now ≡ line ∷ later = search rules in
    let first = called-first c.args.limits full line later call calls (same ∙ sym (c.is_same_command.ensures.0 c.if-is_same_command.true)) in
    let all = c.loop-request.invariant full call calls same in (
      (λ are. all.0 (subst (λ ls. AreCallsFor c.args.limits full ls (call ∷ calls)) (sym lines) (first.0 are))),
      (λ are. first.1 (subst (λ ls. AreCallsFor c.args.limits full ls (call ∷ calls)) lines (all.1 are))),
    )
