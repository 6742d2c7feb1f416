use Rattle.std.proofs.Common.{arith}
use Rattle.uses.proofs.StackCalls.{on-left}
use Rattle.uses.proofs.stack.Stack.leave_segment.Goals as goal

pub returns-clause-left : goal.returns-clause-left
returns-clause-left g c = λ number numbers stack.
    let called = c.call.ensures.call in
    on-left c.plain_heaps_stay_well_formed.ensures.step c.load_reads_a_field.ensures c.what_changes_roots_alone_meets_no_limit.ensures called.0 _ _ _ called.1 _ c.requires number numbers stack

pub returns-clause-room : goal.returns-clause-room
returns-clause-room g c = λ roomy. (c.call.ensures.room 130 roomy (omega arith)).0
