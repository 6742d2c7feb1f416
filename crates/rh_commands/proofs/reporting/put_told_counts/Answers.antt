use Rattle.std.proofs.Common.{ap₂, ◌∙◌}
use Rattle.rh_trace_views.specs.Json.{json_dump}
use Rattle.rh_commands.proofs.reporting.put_told_counts.Goals as goal

pub returns-in-Answers : goal.returns-in-Answers
returns-in-Answers g c = rw c.in-Answers.is c.put_counts.ensures

pub returns-in-Echo : goal.returns-in-Echo
returns-in-Echo g c = rw c.in-Echo.is c.put_counts-in-Echo.ensures

pub returns-in-Json : goal.returns-in-Json
returns-in-Json g c = rw c.in-Json.is (c.put_json_dump.ensures ∙ ap₂ json_dump c.roots.ensures.value c.objects.ensures)
