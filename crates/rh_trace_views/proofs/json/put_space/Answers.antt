use Rattle.std.proofs.Common.{Bool, ◌++◌, ap, sym, ◌∙◌}
use Rattle.std.specs.Prelude.{codes, decimal}
use Rattle.rh_trace_views.specs.Views.{json_cycle}
use Rattle.rh_trace_views.proofs.Pieces.{three}
use Rattle.rh_trace_views.proofs.json.put_space.Goals as goal

pub returns-in_ok-put : goal.returns-in_ok-put
returns-in_ok-put g c =
    let old = c.args.text.now.items in
    let used = codes "\"used\":" ++ decimal c.args.stat.now.used in
    let free = codes ",\"free\":" ++ decimal c.args.stat.now.free in
    three old used c.put_part.new.text.items c.in_ok-put_part.ensures free c.put_part-2.new.text.items (codes ",\"cycle\":true") c.put.new.text.items c.in_ok-put_part-2.ensures c.in_ok-put.ensures
    ∙ ap (λ (b : Bool). old ++ (used ++ (free ++ json_cycle b))) (sym c.if-stat.true)

pub returns-in_ok-put-2 : goal.returns-in_ok-put-2
returns-in_ok-put-2 g c =
    let old = c.args.text.now.items in
    let used = codes "\"used\":" ++ decimal c.args.stat.now.used in
    let free = codes ",\"free\":" ++ decimal c.args.stat.now.free in
    three old used c.put_part.new.text.items c.in_ok-put_part.ensures free c.put_part-2.new.text.items (codes ",\"cycle\":false") c.put-else-stat.new.text.items c.in_ok-put_part-2.ensures c.in_ok-put-2.ensures
    ∙ ap (λ (b : Bool). old ++ (used ++ (free ++ json_cycle b))) (sym c.if-stat.false)
