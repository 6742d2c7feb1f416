use Rattle.std.proofs.Common.{ℕ, List, ◌++◌, ap, ◌∙◌}
use Rattle.std.specs.Prelude.{codes, decimal}
use Rattle.rh_trace_views.specs.Lines.{request_text}
use Rattle.rh_trace_views.proofs.Pieces.{four}
use Rattle.rh_trace_views.proofs.viewing.put_json_start.Goals as goal

pub returns : goal.returns
returns g c =
    let request = c.in_ok-put-2.ensures ∙ ap (λ (x : List ℕ). c.put.new.text.items ++ x) (c.as_bytes.ensures ∙ c.put_request_text.ensures.value) in
    four c.args.text.now.items (codes "{\"line\":" ++ decimal c.args.line) c.put_part.new.text.items c.in_ok-put_part.ensures (codes ",\"text\":\"") c.put.new.text.items (request_text c.args.request.now) c.put-2.new.text.items (codes "\",\"") c.put-3.new.text.items c.in_ok-put.ensures request c.in_ok-put-3.ensures
