use Rattle.std.proofs.Common.{◌∙◌, sym, ap, Some}
use Rattle.rh_syntax.specs.declared.fault.TraceFault.{TraceFault}
use Rattle.rh_paced_trace.proofs.TraceLines.{told_first, first_told, none_other}
use Rattle.rh_paced_trace.proofs.laws.the_first_line_that_is_no_command_is_told.Goals as goal

pub returns-clause-told : goal.returns-clause-told
returns-clause-told c = λ requests fault. (told_first 2 requests fault, λ first. first_told 2 requests first.0 first.1 ∙ sym (ap (λ (f : TraceFault). Some f) first.2))

pub returns-clause-none : goal.returns-clause-none
returns-clause-none c = none_other 2
