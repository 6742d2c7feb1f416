-- A worked trace: the queue that fills 45 in 100 words of its space.
use Rattle.std.specs.Prelude.{ℕ, map}
use Rattle.rh_syntax.specs.declared.request.Request.TheVariants as requests
use Rattle.rh_syntax.specs.Spelling.{Script}
use Rattle.rh_pace.specs.Worked.{queue_calls}

-- 250 cells of 4 words at most, of which one joins and one leaves so many times
abbrev pub queue_script : ℕ → Script
queue_script rounds = record {
  header = record { words = 2218; ratio = 8; log = 603; owners = 2; slots = 3 };
  requests = map (λ call. requests.Command call.0 call.1) (queue_calls 248 rounds);
}
