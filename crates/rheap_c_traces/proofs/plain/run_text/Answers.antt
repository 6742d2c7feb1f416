use Rattle.std.proofs.Common.{Some, Ok, Err, subst}
use Rattle.rh_trace.specs.declared.way_fault.NoFault.{NoFault}
use Rattle.rh_trace.specs.declared.way_fault.WayFault.{WayFault}
use Rattle.rh_trace.specs.Fixed.{FixedEnds}
use Rattle.rheap_c_traces.proofs.plain.run_text.Goals as goal

pub returns-in-Ok-clause-told : goal.returns-in-Ok-clause-told
returns-in-Ok-clause-told c =
    c.a_fixed_run_ends_as_its_trace.ensures.told c.args.trace.now (Ok c.in-Ok.summary) (Some c.args.text.now.items) (Some c.run_bytes.new.out.items) c.in-Ok.ensures.told

pub returns-in-Err-clause-told : goal.returns-in-Err-clause-told
returns-in-Err-clause-told c =
    let old = Some c.args.text.now.items in
    let new = Some c.run_bytes.new.out.items in
    c.a_fixed_run_ends_as_its_trace.ensures.told c.args.trace.now (Err c.fixed_fault.result) old new
    (subst (λ (fault : WayFault NoFault). FixedEnds c.args.trace.now (Err fault) old new) c.fixed_fault.ensures c.in-Err.ensures.told)
