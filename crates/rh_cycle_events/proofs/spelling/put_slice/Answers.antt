use Rattle.std.proofs.Common.{ℕ, ◌++◌, ap, ◌∙◌}
use Rattle.std.specs.Prelude.{codes, decimal}
use Rattle.rh_cycle_events.proofs.Spelled.{put-three}
use Rattle.rh_cycle_events.proofs.spelling.put_slice.Goals as goal

pub returns : goal.returns
returns c =
    put-three c.clear.new.self c.put_part.new.self c.put_part-2.new.self c.put_part-3.new.self (codes ",\n{\"name\":\"cycle " ++ decimal c.number.result)
    (codes "\",\"ph\":\"X\",\"pid\":1,\"tid\":1,\"ts\":" ++ decimal c.args.begins) (codes ",\"dur\":" ++ decimal c.args.lasts) c.clear.ensures c.put_part.ensures.value c.put_part-2.ensures.value c.put_part-3.ensures.value
    ∙ ap (λ (n : ℕ). codes ",\n{\"name\":\"cycle " ++ (decimal n ++ (codes "\",\"ph\":\"X\",\"pid\":1,\"tid\":1,\"ts\":" ++ (decimal c.args.begins ++ (codes ",\"dur\":" ++ decimal c.args.lasts))))) c.number.ensures
