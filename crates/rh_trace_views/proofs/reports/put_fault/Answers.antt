use Rattle.std.specs.Prelude.{codes}
use Rattle.rh_trace_views.specs.Json.{json_string}
use Rattle.rh_trace_views.proofs.Pieces.{five}
use Rattle.rh_trace_views.proofs.reports.put_fault.Goals as goal

pub returns : goal.returns
returns g c =
    five c.args.text.now.items (codes "{\"fault\":\"") c.put.new.text.items c.in_ok-put.ensures (json_string c.args.fault.now) c.put_json_string.new.text.items (codes "\"") c.put-2.new.text.items _ c.put_place.new.text.items (codes "}\n") c.put-3.new.text.items
    c.in_ok-put_json_string.ensures c.in_ok-put-2.ensures c.in_ok-put_place.ensures c.in_ok-put-3.ensures
