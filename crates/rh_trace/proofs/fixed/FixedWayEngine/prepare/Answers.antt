use Rattle.std.proofs.Common.{◌≡◌, Some, ap, sym, ◌∙◌}
use Rattle.rh_core.specs.declared.errors.HeapError.TheVariants as errors
use Rattle.rh_core.specs.Config.{fault_of}
use Rattle.rh_trace.specs.Run.{config_of}
use Rattle.rh_trace.proofs.AnswersInTurn.{refused_with}
use Rattle.rh_trace.proofs.fixed.FixedWayEngine.prepare.Goals as goal

pub returns-in-Err-Config-clause-refused : goal.returns-in-Err-Config-clause-refused
returns-in-Err-Config-clause-refused g c =
    let header = c.args.trace.now.header in
    let fault = c.in-Err-Config.fault in
    let config_is : c.config_of.result ≡ config_of header = c.config_of.ensures ∙ ap config_of c.header.ensures in
    let refused = refused_with c.new.result c.in-Err-Config.field-0 (errors.Config fault) c.in-Err-Config.is c.in-Err-Config.field-0-is in
    let bad : fault_of (config_of header) ≡ Some fault = ap fault_of (sym config_is) ∙ (c.new.ensures.fault fault).0 refused in
    rw c.in-Err-Config.field-0-is bad
