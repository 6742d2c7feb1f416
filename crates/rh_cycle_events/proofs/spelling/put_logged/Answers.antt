use Rattle.std.proofs.Common.{ℕ, ◌++◌, ap, ◌∙◌}
use Rattle.std.specs.Prelude.{codes, decimal}
use Rattle.rh_cycle_events.proofs.Spelled.{put-three}
use Rattle.rh_cycle_events.proofs.spelling.put_logged.Goals as goal

pub returns : goal.returns
returns c =
    put-three c.clear.new.self c.put_part.new.self c.put_part-2.new.self c.put.new.self (codes ",\n{\"name\":\"log\",\"ph\":\"C\",\"pid\":1,\"ts\":" ++ decimal c.args.at)
    (codes ",\"args\":{\"stores\":" ++ decimal c.number.result) (codes "}}") c.clear.ensures c.put_part.ensures.value c.put_part-2.ensures.value c.put.ensures
    ∙ ap (λ (n : ℕ). codes ",\n{\"name\":\"log\",\"ph\":\"C\",\"pid\":1,\"ts\":" ++ (decimal c.args.at ++ (codes ",\"args\":{\"stores\":" ++ (decimal n ++ codes "}}")))) c.number.ensures
