use Rattle.std.proofs.Common.{Err, ap, ◌∙◌}
use Rattle.rh_core.specs.declared.errors.HeapError.TheVariants as heap_errors
use Rattle.rh_growing.specs.declared.errors.GrowingError.TheVariants as errors
use Rattle.rh_paced_trace.proofs.GrownFaults.{grows-made, of-growth}
use Rattle.rh_paced_trace.proofs.ways.grown_heap.Goals as goal

pub returns-in-Ok-clause-grows : goal.returns-in-Ok-clause-grows
returns-in-Ok-clause-grows g c = grows-made c.args.growth c.requires.factor c.requires.sizes c.in-Ok.heap c.of.result c.in-Ok.is c.of.ensures.fault

pub returns-in-Err-BadFactor-clause-fault : goal.returns-in-Err-BadFactor-clause-fault
returns-in-Err-BadFactor-clause-fault g c =
    let has = (c.of.ensures.fault errors.BadFactor (λ is. cc)).0 (c.in-Err-BadFactor.is ∙ ap Err c.in-Err-BadFactor.field-0-is) in
    absurd (of-growth c.args.growth c.requires.factor c.requires.sizes errors.BadFactor has)

pub returns-in-Err-BadLimits-clause-fault : goal.returns-in-Err-BadLimits-clause-fault
returns-in-Err-BadLimits-clause-fault g c = (c.of.ensures.fault errors.BadLimits (λ is. cc)).0 (c.in-Err-BadLimits.is ∙ ap Err c.in-Err-BadLimits.field-0-is)

pub returns-in-Err-Pace-clause-fault : goal.returns-in-Err-Pace-clause-fault
returns-in-Err-Pace-clause-fault g c = (c.of.ensures.fault (errors.Pace c.in-Err-Pace.why) (λ is. cc)).0 (c.in-Err-Pace.is ∙ ap Err c.in-Err-Pace.field-0-is)

pub returns-in-Err-Heap-Config-clause-fault : goal.returns-in-Err-Heap-Config-clause-fault
returns-in-Err-Heap-Config-clause-fault g c =
    let error = errors.Heap (heap_errors.Config c.in-Err-Heap-Config.fault) in
    let has = (c.of.ensures.fault error (λ is. cc)).0 (c.in-Err-Heap-Config.is ∙ ap Err (c.in-Err-Heap-Config.field-0-is ∙ ap errors.Heap c.in-Err-Heap-Config.field-0-0-is)) in
    of-growth c.args.growth c.requires.factor c.requires.sizes error has
