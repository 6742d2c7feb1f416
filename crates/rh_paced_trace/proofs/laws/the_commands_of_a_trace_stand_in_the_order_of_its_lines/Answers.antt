use Rattle.rh_paced_trace.proofs.TraceLines.{placed_in_order, commands_counted, commands_alone}
use Rattle.rh_paced_trace.proofs.laws.the_commands_of_a_trace_stand_in_the_order_of_its_lines.Goals as goal

pub returns-clause-placed : goal.returns-clause-placed
returns-clause-placed c = placed_in_order

pub returns-clause-count : goal.returns-clause-count
returns-clause-count c = commands_counted

pub returns-clause-alone : goal.returns-clause-alone
returns-clause-alone c = commands_alone
