use Rattle.rh_trace_views.specs.Views.{json_start}
use Rattle.rh_trace_views.proofs.Pieces.{four}
use Rattle.rh_trace_views.proofs.viewing.put_object.Goals as goal

pub returns : goal.returns
returns g c =
    four c.args.text.now.items (json_start c.args.line c.args.request.now) c.put_json_start.new.text.items c.in_ok-put_json_start.ensures c.args.before.now c.put.new.text.items c.args.told.now c.put-2.new.text.items c.args.after.now c.put-3.new.text.items c.in_ok-put.ensures c.in_ok-put-2.ensures c.in_ok-put-3.ensures
