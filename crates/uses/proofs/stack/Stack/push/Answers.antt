use Rattle.std.proofs.Common.{rules, ℤ, ◌∷◌, FitsSigned, w64, subst, arith}
use Rattle.std.specs.Prelude.{IfErr, IfOk}
use Rattle.std.proofs.lemmas.Int.{to_z-of_z}
use Rattle.std.proofs.lemmas.Result.{err_from_is_err_and}
use Rattle.uses.proofs.StackCalls.{on-joined, stack-refused, stored-as, why-joined}
use Rattle.uses.specs.Stack.{IsStack, MayRefuse, top_segment}
use Rattle.uses.proofs.stack.Stack.push.Goals as goal

pub returns-in_err-call-clause-refused : goal.returns-in_err-call-clause-refused
returns-in_err-call-clause-refused g c = λ numbers stack.
    let p = err_from_is_err_and c.from_residual.result c.from_residual.ensures.1 in
    let called = c.in_err-call.ensures.call in
    rw p.1 (stack-refused called.0 _ _ _ _ called.1 _ numbers stack)

pub returns-in_err-call-clause-room : goal.returns-in_err-call-clause-room
returns-in_err-call-clause-room g c = λ roomy.
    let p = err_from_is_err_and c.from_residual.result c.from_residual.ensures.1 in
    rw (p.1, p.2) (c.in_err-call.ensures.room 130 roomy (omega arith))

pub returns-clause-pushed : goal.returns-clause-pushed
returns-clause-pushed g c = λ numbers stack.
    let called = c.in_ok-call.ensures.call in
    let n : ℤ = c.args.number in
    let fits : FitsSigned w64 n = search rules in
    let same = to_z-of_z w64 n fits in
    let stored = stored-as called.0 _ _ top_segment _ _ n _ same called.1 in
    on-joined c.plain_heaps_stay_well_formed.ensures.step called.0 _ _ _ numbers c.store_writes_a_field.ensures.number n _ c.if-self-ge-LAST.false stored stack

pub returns-clause-room : goal.returns-clause-room
returns-clause-room g c = λ roomy. ((c.in_ok-call.ensures.room 130 roomy (omega arith)).0, tt)

pub returns-in_err-call-clause-why : goal.returns-in_err-call-clause-why
returns-in_err-call-clause-why g c = λ numbers stack.
    let p = err_from_is_err_and c.from_residual.result c.from_residual.ensures.1 in
    let refused = c.in_err-call.ensures.call in
    let n : ℤ = c.args.number in
    let fits : FitsSigned w64 n = search rules in
    let same = to_z-of_z w64 n fits in
    let stored = stored-as refused.0 _ _ top_segment _ _ n _ same refused.1 in
    rw (p.1, p.2) (why-joined refused.0 _ _ _ _ n numbers c.if-self-ge-LAST.false stored stack)

pub returns-then-self-ge-LAST-clause-pushed : goal.returns-then-self-ge-LAST-clause-pushed
returns-then-self-ge-LAST-clause-pushed g c = λ numbers stack.
    let done = c.push_on_new_segment in
    let n : ℤ = c.args.number in
    let fits : FitsSigned w64 n = search rules in
    let same = to_z-of_z w64 n fits in
    subst (λ (k : ℤ). IfOk done.result (λ _. IsStack done.new.self.heap done.new.self.top (k ∷ numbers))) same (done.ensures.pushed numbers stack)

pub returns-then-self-ge-LAST-clause-why : goal.returns-then-self-ge-LAST-clause-why
returns-then-self-ge-LAST-clause-why g c = λ numbers stack.
    let done = c.push_on_new_segment in
    let n : ℤ = c.args.number in
    let fits : FitsSigned w64 n = search rules in
    let same = to_z-of_z w64 n fits in
    subst (λ (k : ℤ). IfErr done.result (MayRefuse done.new.self.heap c.args.self.now.top k)) same (done.ensures.why numbers stack)
