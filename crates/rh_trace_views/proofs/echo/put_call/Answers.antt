use Rattle.std.proofs.Common.{ℕ, List, [], ◌∷◌, ◌++◌, ap, ◌∙◌}
use Rattle.std.specs.Prelude.{codes, decimal}
use Rattle.rh_syntax.specs.CommandAnswers.{answer_text}
use Rattle.rh_syntax.specs.Spelling.{command_text}
use Rattle.rh_trace_views.proofs.Pieces.{five}
use Rattle.rh_trace_views.proofs.echo.put_call.Goals as goal

pub returns : goal.returns
returns g c =
    let call = c.args.call.now in
    let command = c.in_ok-put-2.ensures ∙ ap (λ (x : List ℕ). c.put.new.text.items ++ x) (c.as_bytes.ensures ∙ c.put_command_text.ensures.value) in
    five c.args.text.now.items (decimal c.args.line) c.put_part.new.text.items c.in_ok-put_part.ensures (codes "\t") c.put.new.text.items (command_text call.owner call.command) c.put-2.new.text.items (codes "\t") c.put-3.new.text.items (answer_text call.answer ++ 10 ∷ []) c.put_answer.new.text.items c.in_ok-put.ensures command c.in_ok-put-3.ensures c.in_ok-put_answer.ensures
