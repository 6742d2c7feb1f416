use Rattle.std.proofs.Common.{List, Some, Ok, Err, ap, subst, sym, ◌∙◌}
use Rattle.rh_mutator.specs.declared.config.Config.{Config}
use Rattle.rh_mutator.specs.Config.{fault_of}
use Rattle.rh_core.specs.Heap.{new_heap}
use Rattle.rh_pace.specs.Paced.{paced_heap}
use Rattle.rh_syntax.specs.declared.line.Header.{Header}
use Rattle.rh_syntax.specs.declared.request.Request.{Request}
use Rattle.rh_paced_trace.specs.Pacing.{IsPaceOf}
use Rattle.rh_paced_trace.proofs.ways.PacedWayCommandedPacedHeapUnpaced.prepare.Goals as goal

pub returns-in-Err-Config-clause-refused : goal.returns-in-Err-Config-clause-refused
returns-in-Err-Config-clause-refused g c =
    let refused = c.in-Err-Config.is ∙ ap Err c.in-Err-Config.field-0-is in
    (c.in-Ok.ensures.has.0, ap fault_of (sym c.in-Ok.ensures.sizes) ∙ (c.new.ensures.fault c.in-Err-Config.fault).0 refused ∙ ap Some (sym c.in-Err-Config.fault-is))

pub returns-in-Ok-new-clause-made : goal.returns-in-Ok-new-clause-made
returns-in-Ok-new-clause-made g c =
    let script = c.args.trace.now in
    let pace = c.in-Ok-pace_of.pace in
    let mark = c.args.self.now.mark in
    let paced = subst (λ (r : List Request). IsPaceOf mark (record { header = script.header; requests = r }) (Ok pace)) c.requests.ensures
    (subst (λ (h : Header). IsPaceOf mark (record { header = h; requests = c.requests.result.now }) (Ok pace)) c.header.ensures c.in-Ok-pace_of.ensures) in
    (pace, c.in-Ok.ensures.has, paced, c.new-in-Ok-new.ensures ∙ c.in-Ok-new.ensures.made ∙ ap (λ (conf : Config). paced_heap (new_heap conf) pace) c.in-Ok.ensures.sizes)
