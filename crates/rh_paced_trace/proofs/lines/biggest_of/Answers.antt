use Rattle.std.proofs.Common.{arith}
use Rattle.rh_paced_trace.specs.Lines.{commands_in}
use Rattle.rh_paced_trace.proofs.TraceLines.{biggest-least}
use Rattle.rh_paced_trace.proofs.lines.biggest_of.Goals as goal

pub loop-request-init : goal.loop-request-init
loop-request-init c = record { rest = omega (arith, biggest-least (commands_in c.args.requests.now)); least = omega arith }
