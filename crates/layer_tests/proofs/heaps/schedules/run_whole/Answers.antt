use Rattle.std.proofs.Common.{ap, sym, ◌∙◌}
use Rattle.rh_layout.specs.declared.kind.Kind.TheVariants.{Copies, Entries}
use Rattle.rh_core.specs.Heap.{HeapState}
use Rattle.rh_core.specs.Dealing.{undealt_count}
use Rattle.rh_core.specs.runs.Schedules.{no_dealing}
use Rattle.layer_tests.proofs.heaps.schedules.run_whole.Goals as goal

pub returns : goal.returns
returns g c = λ begun copies entries given.
    let last = c.in_ok-run.ensures.state in
    ap (λ (h : HeapState). h.joint.missing) last
    ∙ c.all_that_was_dealt_is_current.ensures.given c.args.heap.now c.stat.ensures.heap c.args.events.now begun
    (sym (ap (λ (h : HeapState). undealt_count h Copies) last) ∙ copies)
    (sym (ap (λ (h : HeapState). undealt_count h Entries) last) ∙ entries)
    no_dealing given
