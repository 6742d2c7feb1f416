use Rattle.rh_trace.proofs.CountedCommands.{commands_of-requests, refused_of-requests}
use Rattle.rh_trace.proofs.laws.summaries.a_summary_has_the_commands_of_its_lines.Goals as goal

pub returns-clause-commands : goal.returns-clause-commands
returns-clause-commands g c = commands_of-requests

pub returns-clause-refused : goal.returns-clause-refused
returns-clause-refused g c = refused_of-requests _
