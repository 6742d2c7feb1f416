use Rattle.std.proofs.Common.{◌≡◌, ℕ, List, [], ◌∷◌, ◌++◌, ap, codes, ◌∙◌, append_assoc}
use Rattle.rh_syntax.specs.CommandAnswers.{answer_text}
use Rattle.rh_syntax.specs.Spelling.{command_text}
use Rattle.rh_replay.proofs.writing.put_call.Goals as goal

-- a line that is put part by part
line_is : (command between answer first second line : List ℕ) → first ≡ command ++ between → second ≡ first ++ answer → line ≡ second ++ 10 ∷ [] → line ≡ command ++ (between ++ (answer ++ 10 ∷ []))
line_is command between answer first second line is then ended =
    ended ∙ ap (λ (t : List ℕ). t ++ 10 ∷ []) (then ∙ ap (λ (t : List ℕ). t ++ answer) is)
    ∙ append_assoc (command ++ between) answer (10 ∷ []) ∙ append_assoc command between (answer ++ 10 ∷ [])

pub returns : goal.returns
returns c =
    let call = c.args.call.now in
    line_is (command_text call.owner call.command) (codes " = ") (answer_text call.answer) c.put.new.self c.put-2.new.self c.put-3.new.self
    (c.put.ensures ∙ ap (λ (t : List ℕ). t ++ codes " = ") c.put_command_text.ensures.value)
    (c.put-2.ensures ∙ ap (λ (t : List ℕ). c.put.new.self ++ t) (c.as_bytes.ensures ∙ c.put_answer_text.ensures.value))
    c.put-3.ensures
