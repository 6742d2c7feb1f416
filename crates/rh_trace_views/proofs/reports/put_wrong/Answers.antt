use Rattle.std.proofs.Common.{ℕ, List, ◌++◌, ap, ◌∙◌}
use Rattle.std.specs.Prelude.{codes, decimal}
use Rattle.rh_syntax.specs.CommandAnswers.{answer_text}
use Rattle.rh_trace_views.proofs.Pieces.{four}
use Rattle.rh_trace_views.proofs.reports.put_wrong.Goals as goal

pub returns : goal.returns
returns g c =
    let answer = c.in_ok-put-2.ensures ∙ ap (λ (x : List ℕ). c.put.new.text.items ++ x) (c.as_bytes.ensures ∙ c.put_answer_text.ensures.value) in
    four c.args.text.now.items (codes "{\"wrong\":" ++ decimal c.args.at) c.put_part.new.text.items c.in_ok-put_part.ensures (codes ",\"expected\":\"") c.put.new.text.items (answer_text c.args.expected) c.put-2.new.text.items (codes "\"}\n") c.put-3.new.text.items c.in_ok-put.ensures answer c.in_ok-put-3.ensures
