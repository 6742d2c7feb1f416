use Rattle.std.proofs.Common.{ℕ, List, ◌++◌, ap, ◌∙◌}
use Rattle.std.specs.Prelude.{codes, decimal}
use Rattle.rh_cycle_events.specs.Line.{number_at}
use Rattle.rh_cycle_events.proofs.Spelled.{put-five}
use Rattle.rh_cycle_events.proofs.spelling.put_units.Goals as goal

-- the text by its numbers
abbrev units : ℕ → ℕ → ℕ → ℕ → List ℕ
units at granted idle spent =
    codes ",\n{\"name\":\"units\",\"ph\":\"C\",\"pid\":1,\"ts\":" ++ (decimal at ++ (codes ",\"args\":{\"granted\":" ++ (decimal granted
    ++ (codes ",\"idle\":" ++ (decimal idle ++ (codes ",\"spent\":" ++ (decimal spent ++ codes "}}")))))))

pub returns : goal.returns
returns c =
    put-five c.clear.new.self c.put_part.new.self c.put_part-2.new.self c.put_part-3.new.self c.put_part-4.new.self c.put.new.self
    (codes ",\n{\"name\":\"units\",\"ph\":\"C\",\"pid\":1,\"ts\":" ++ decimal c.args.at) (codes ",\"args\":{\"granted\":" ++ decimal c.number.result)
    (codes ",\"idle\":" ++ decimal c.number-2.result) (codes ",\"spent\":" ++ decimal c.number-3.result) (codes "}}")
    c.clear.ensures c.put_part.ensures.value c.put_part-2.ensures.value c.put_part-3.ensures.value c.put_part-4.ensures.value c.put.ensures
    ∙ ap (λ (n : ℕ). units c.args.at n c.number-2.result c.number-3.result) c.number.ensures
    ∙ ap (λ (n : ℕ). units c.args.at (number_at c.args.line.now 9) n c.number-3.result) c.number-2.ensures
    ∙ ap (λ (n : ℕ). units c.args.at (number_at c.args.line.now 9) (number_at c.args.line.now 10) n) c.number-3.ensures
