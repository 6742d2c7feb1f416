use Rattle.std.proofs.Common.{◌++◌}
use Rattle.std.specs.Prelude.{codes, decimal}
use Rattle.rh_trace_views.proofs.Pieces.{four}
use Rattle.rh_trace_views.proofs.viewing.put_dump_line.Goals as goal

pub returns : goal.returns
returns g c =
    four c.args.text.now.items (codes "{\"line\":" ++ decimal c.args.line) c.put_part.new.text.items c.in_ok-put_part.ensures (codes ",\"dump\":\"") c.put.new.text.items c.args.bytes.now c.put-2.new.text.items (codes "\"}\n") c.put-3.new.text.items c.in_ok-put.ensures c.in_ok-put-2.ensures c.in_ok-put-3.ensures
