use Rattle.std.proofs.Common.{ℕ, List, ◌++◌, ap, ◌∙◌}
use Rattle.std.specs.Prelude.{codes, decimal}
use Rattle.rh_trace_views.proofs.Pieces.{five}
use Rattle.rh_trace_views.proofs.json.put_json_tray.Goals as goal

pub returns : goal.returns
returns g c =
    let name = c.in_ok-put-2.ensures ∙ ap (λ (x : List ℕ). c.put.new.text.items ++ x) c.as_bytes.ensures.bytes in
    five c.args.text.now.items (codes ",{\"name\":\"") c.put.new.text.items c.in_ok-put.ensures c.args.name c.put-2.new.text.items (codes "\",\"epoch\":" ++ decimal c.epoch.result) c.put_part.new.text.items (codes ",\"entries\":" ++ decimal c.len.result) c.put_part-2.new.text.items (codes "}") c.put-3.new.text.items name c.in_ok-put_part.ensures c.in_ok-put_part-2.ensures c.in_ok-put-3.ensures
    ∙ ap (λ (n : ℕ). c.args.text.now.items ++ (codes ",{\"name\":\"" ++ (c.args.name ++ ((codes "\",\"epoch\":" ++ decimal n) ++ ((codes ",\"entries\":" ++ decimal c.len.result) ++ codes "}"))))) c.epoch.ensures
    ∙ ap (λ (n : ℕ). c.args.text.now.items ++ (codes ",{\"name\":\"" ++ (c.args.name ++ ((codes "\",\"epoch\":" ++ decimal c.args.replica.now.epoch) ++ ((codes ",\"entries\":" ++ decimal n) ++ codes "}"))))) c.len.ensures.len
