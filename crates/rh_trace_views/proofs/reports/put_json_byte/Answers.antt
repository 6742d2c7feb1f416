use Rattle.std.proofs.Common.{rules}
use Rattle.rh_trace_views.proofs.reports.put_json_byte.Goals as goal

pub returns-then-byte-eq34 : goal.returns-then-byte-eq34
returns-then-byte-eq34 g c = search rules
