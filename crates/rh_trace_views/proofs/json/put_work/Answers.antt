use Rattle.std.proofs.Common.{◌++◌}
use Rattle.std.specs.Prelude.{codes, decimal}
use Rattle.rh_trace_views.proofs.Pieces.{five}
use Rattle.rh_trace_views.proofs.json.put_work.Goals as goal

pub returns : goal.returns
returns g c =
    let s = c.args.stat.now in
    five c.args.text.now.items (codes ",\"granted\":" ++ decimal s.granted) c.put_part.new.text.items c.in_ok-put_part.ensures (codes ",\"spent\":" ++ decimal s.spent) c.put_part-2.new.text.items (codes ",\"placed\":" ++ decimal s.placed) c.put_part-3.new.text.items
    (codes ",\"missing\":" ++ decimal s.missing) c.put_part-4.new.text.items (codes ",\"idle\":" ++ decimal s.idle) c.put_part-5.new.text.items c.in_ok-put_part-2.ensures c.in_ok-put_part-3.ensures c.in_ok-put_part-4.ensures c.in_ok-put_part-5.ensures
