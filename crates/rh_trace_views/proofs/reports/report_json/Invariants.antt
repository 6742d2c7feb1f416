use Rattle.std.proofs.Common.{◌≡◌}
use Rattle.rh_trace_views.specs.Json.{json_owners}
use Rattle.rh_trace_views.proofs.reports.report_json.Given as goal

abbrev pub invariant-loop-owner : goal.invariant-loop-owner
invariant-loop-owner g l = l.text.items ≡ json_owners l.calls l.owner
