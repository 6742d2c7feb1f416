use Rattle.std.proofs.Common.{◌++◌}
use Rattle.std.specs.Prelude.{codes, decimal}
use Rattle.rh_trace_views.proofs.Pieces.{three}
use Rattle.rh_trace_views.proofs.json.put_log.Goals as goal

pub returns : goal.returns
returns g c =
    let s = c.args.stat.now in
    three c.args.text.now.items (codes ",\"epoch\":" ++ decimal s.epoch) c.put_part.new.text.items c.in_ok-put_part.ensures (codes ",\"number\":" ++ decimal s.number) c.put_part-2.new.text.items
    (codes ",\"log\":" ++ decimal s.log) c.put_part-3.new.text.items c.in_ok-put_part-2.ensures c.in_ok-put_part-3.ensures
