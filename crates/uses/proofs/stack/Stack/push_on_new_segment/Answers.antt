use Rattle.std.proofs.Common.{rules, ℤ, ◌∷◌, FitsSigned, w64, arith}
use Rattle.std.proofs.lemmas.Int.{to_z-of_z}
use Rattle.std.proofs.lemmas.Result.{err_from_is_err_and}
use Rattle.uses.proofs.StackCalls.{Begun, Filled, Linked, dropped, holds-begun, holds-filled, holds-linked, on-allocated, on-filled, on-linked, on-refused, on-so, on-stood, stack-back, stack-full, stack-refused, stored-as, to-stack, why-allocated, why-filled, why-linked, why-stood}
use Rattle.uses.proofs.Stacks.{new_segment}
use Rattle.uses.proofs.stack.Stack.push_on_new_segment.Goals as goal

pub returns-in_err-call-clause-refused : goal.returns-in_err-call-clause-refused
returns-in_err-call-clause-refused g c = λ numbers stack.
    let p = err_from_is_err_and c.from_residual.result c.from_residual.ensures.1 in
    let called = c.in_err-call.ensures.call in
    rw p.1 (stack-refused called.0 _ _ _ _ called.1 _ numbers stack)

pub returns-in_err-call-2-clause-refused : goal.returns-in_err-call-2-clause-refused
returns-in_err-call-2-clause-refused g c = λ numbers stack.
    let p = err_from_is_err_and c.from_residual-in_err-call-2.result c.from_residual-in_err-call-2.ensures.1 in
    let formed = c.plain_heaps_stay_well_formed.ensures.step in
    let called = c.in_ok-call.ensures.call in
    let refused = c.in_err-call-2.ensures.call in
    let full = stack-full _ _ numbers c.requires stack in
    let begun = on-allocated formed called.0 _ _ _ numbers c.alloc_makes_an_object.ensures called.1 _ c.requires stack in
    rw p.1 (stack-back _ _ numbers full (on-so _ (Begun numbers) _ (holds-begun numbers) (on-refused formed refused.0 _ _ _ _ refused.1 (Begun numbers) begun)))

pub returns-in_err-call-3-clause-refused : goal.returns-in_err-call-3-clause-refused
returns-in_err-call-3-clause-refused g c = λ numbers stack.
    let p = err_from_is_err_and c.from_residual-in_err-call-3.result c.from_residual-in_err-call-3.ensures.1 in
    let formed = c.plain_heaps_stay_well_formed.ensures.step in
    let called = c.in_ok-call.ensures.call in
    let called2 = c.in_ok-call-2.ensures.call in
    let refused = c.in_err-call-3.ensures.call in
    let full = stack-full _ _ numbers c.requires stack in
    let begun = on-allocated formed called.0 _ _ _ numbers c.alloc_makes_an_object.ensures called.1 _ c.requires stack in
    let linked = on-linked formed called2.0 _ _ _ numbers c.store_writes_a_field.ensures.root called2.1 begun in
    rw p.1 (stack-back _ _ numbers full (on-so _ (Linked numbers) _ (holds-linked numbers) (on-refused formed refused.0 _ _ _ _ refused.1 (Linked numbers) linked)))

pub returns-in_err-call-4-clause-refused : goal.returns-in_err-call-4-clause-refused
returns-in_err-call-4-clause-refused g c = λ numbers stack.
    let p = err_from_is_err_and c.from_residual-in_err-call-4.result c.from_residual-in_err-call-4.ensures.1 in
    let formed = c.plain_heaps_stay_well_formed.ensures.step in
    let called = c.in_ok-call.ensures.call in
    let called2 = c.in_ok-call-2.ensures.call in
    let called3 = c.in_ok-call-3.ensures.call in
    let refused = c.in_err-call-4.ensures.call in
    let full = stack-full _ _ numbers c.requires stack in
    let begun = on-allocated formed called.0 _ _ _ numbers c.alloc_makes_an_object.ensures called.1 _ c.requires stack in
    let linked = on-linked formed called2.0 _ _ _ numbers c.store_writes_a_field.ensures.root called2.1 begun in
    let n : ℤ = c.args.number in
    let fits : FitsSigned w64 n = search rules in
    let same = to_z-of_z w64 n fits in
    let stored = stored-as called3.0 _ _ new_segment 1 _ n _ same called3.1 in
    let filled = on-filled formed called3.0 _ _ _ numbers c.store_writes_a_field.ensures.number n stored linked in
    rw p.1 (stack-back _ _ numbers full (on-so _ (Filled c.args.number numbers) _ (holds-filled c.args.number numbers) (on-refused formed refused.0 _ _ _ _ refused.1 (Filled c.args.number numbers) filled)))

pub returns-clause-pushed : goal.returns-clause-pushed
returns-clause-pushed g c = λ numbers stack.
    let formed = c.plain_heaps_stay_well_formed.ensures.step in
    let called = c.in_ok-call.ensures.call in
    let called2 = c.in_ok-call-2.ensures.call in
    let called3 = c.in_ok-call-3.ensures.call in
    let called4 = c.in_ok-call-4.ensures.call in
    let called5 = c.call-5.ensures.call in
    let begun = on-allocated formed called.0 _ _ _ numbers c.alloc_makes_an_object.ensures called.1 _ c.requires stack in
    let linked = on-linked formed called2.0 _ _ _ numbers c.store_writes_a_field.ensures.root called2.1 begun in
    let n : ℤ = c.args.number in
    let fits : FitsSigned w64 n = search rules in
    let same = to_z-of_z w64 n fits in
    let stored = stored-as called3.0 _ _ new_segment 1 _ n _ same called3.1 in
    let filled = on-filled formed called3.0 _ _ _ numbers c.store_writes_a_field.ensures.number n stored linked in
    let stood = on-stood formed called4.0 _ _ _ numbers c.copy_copies_a_root.ensures n called4.1 filled in
    to-stack _ 1 (n ∷ numbers) (dropped formed c.drop_makes_a_root_nil.ensures called5.0 _ _ _ called5.1 1 (n ∷ numbers) stood)

pub returns-in_err-call-clause-room : goal.returns-in_err-call-clause-room
returns-in_err-call-clause-room g c = λ roomy.
    let p = err_from_is_err_and c.from_residual.result c.from_residual.ensures.1 in
    rw (p.1, p.2) (c.in_err-call.ensures.room 130 roomy (omega arith))

pub returns-in_err-call-2-clause-room : goal.returns-in_err-call-2-clause-room
returns-in_err-call-2-clause-room g c = λ roomy.
    let p = err_from_is_err_and c.from_residual-in_err-call-2.result c.from_residual-in_err-call-2.ensures.1 in
    let made = (c.in_ok-call.ensures.room 130 roomy (omega arith)).0 in
    rw (p.1, p.2) (c.in_err-call-2.ensures.room 130 made (omega arith))

pub returns-in_err-call-3-clause-room : goal.returns-in_err-call-3-clause-room
returns-in_err-call-3-clause-room g c = λ roomy.
    let p = err_from_is_err_and c.from_residual-in_err-call-3.result c.from_residual-in_err-call-3.ensures.1 in
    let made = (c.in_ok-call.ensures.room 130 roomy (omega arith)).0 in
    let linked = (c.in_ok-call-2.ensures.room 130 made (omega arith)).0 in
    rw (p.1, p.2) (c.in_err-call-3.ensures.room 130 linked (omega arith))

pub returns-in_err-call-4-clause-room : goal.returns-in_err-call-4-clause-room
returns-in_err-call-4-clause-room g c = λ roomy.
    let p = err_from_is_err_and c.from_residual-in_err-call-4.result c.from_residual-in_err-call-4.ensures.1 in
    let made = (c.in_ok-call.ensures.room 130 roomy (omega arith)).0 in
    let linked = (c.in_ok-call-2.ensures.room 130 made (omega arith)).0 in
    let filled = (c.in_ok-call-3.ensures.room 130 linked (omega arith)).0 in
    rw (p.1, p.2) (c.in_err-call-4.ensures.room 130 filled (omega arith))

pub returns-clause-room : goal.returns-clause-room
returns-clause-room g c = λ roomy.
    let made = (c.in_ok-call.ensures.room 130 roomy (omega arith)).0 in
    let linked = (c.in_ok-call-2.ensures.room 130 made (omega arith)).0 in
    let filled = (c.in_ok-call-3.ensures.room 130 linked (omega arith)).0 in
    let stood = (c.in_ok-call-4.ensures.room 130 filled (omega arith)).0 in
    ((c.call-5.ensures.room 130 stood (omega arith)).0, tt)

pub returns-in_err-call-clause-why : goal.returns-in_err-call-clause-why
returns-in_err-call-clause-why g c = λ numbers stack.
    let p = err_from_is_err_and c.from_residual.result c.from_residual.ensures.1 in
    let refused = c.in_err-call.ensures.call in
    rw (p.1, p.2) (why-allocated refused.0 _ _ _ _ c.args.number numbers c.requires refused.1 stack)

pub returns-in_err-call-2-clause-why : goal.returns-in_err-call-2-clause-why
returns-in_err-call-2-clause-why g c = λ numbers stack.
    let p = err_from_is_err_and c.from_residual-in_err-call-2.result c.from_residual-in_err-call-2.ensures.1 in
    let formed = c.plain_heaps_stay_well_formed.ensures.step in
    let called = c.in_ok-call.ensures.call in
    let begun = on-allocated formed called.0 _ _ _ numbers c.alloc_makes_an_object.ensures called.1 _ c.requires stack in
    let refused = c.in_err-call-2.ensures.call in
    rw (p.1, p.2) (why-linked refused.0 _ _ _ _ c.args.number numbers refused.1 begun)

pub returns-in_err-call-3-clause-why : goal.returns-in_err-call-3-clause-why
returns-in_err-call-3-clause-why g c = λ numbers stack.
    let p = err_from_is_err_and c.from_residual-in_err-call-3.result c.from_residual-in_err-call-3.ensures.1 in
    let formed = c.plain_heaps_stay_well_formed.ensures.step in
    let called = c.in_ok-call.ensures.call in
    let begun = on-allocated formed called.0 _ _ _ numbers c.alloc_makes_an_object.ensures called.1 _ c.requires stack in
    let called2 = c.in_ok-call-2.ensures.call in
    let linked = on-linked formed called2.0 _ _ _ numbers c.store_writes_a_field.ensures.root called2.1 begun in
    let refused = c.in_err-call-3.ensures.call in
    let n : ℤ = c.args.number in
    let fits : FitsSigned w64 n = search rules in
    let same = to_z-of_z w64 n fits in
    rw (p.1, p.2) (why-filled refused.0 _ _ _ _ n numbers (stored-as refused.0 _ _ new_segment 1 _ n _ same refused.1) linked)

pub returns-in_err-call-4-clause-why : goal.returns-in_err-call-4-clause-why
returns-in_err-call-4-clause-why g c = λ numbers stack.
    let p = err_from_is_err_and c.from_residual-in_err-call-4.result c.from_residual-in_err-call-4.ensures.1 in
    let formed = c.plain_heaps_stay_well_formed.ensures.step in
    let called = c.in_ok-call.ensures.call in
    let begun = on-allocated formed called.0 _ _ _ numbers c.alloc_makes_an_object.ensures called.1 _ c.requires stack in
    let called2 = c.in_ok-call-2.ensures.call in
    let linked = on-linked formed called2.0 _ _ _ numbers c.store_writes_a_field.ensures.root called2.1 begun in
    let called3 = c.in_ok-call-3.ensures.call in
    let n : ℤ = c.args.number in
    let fits : FitsSigned w64 n = search rules in
    let same = to_z-of_z w64 n fits in
    let stored = stored-as called3.0 _ _ new_segment 1 _ n _ same called3.1 in
    let filled = on-filled formed called3.0 _ _ _ numbers c.store_writes_a_field.ensures.number n stored linked in
    let refused = c.in_err-call-4.ensures.call in
    rw (p.1, p.2) (why-stood refused.0 _ _ _ _ c.args.number numbers c.what_changes_roots_alone_meets_no_limit.ensures refused.1 filled)
