use Rattle.std.proofs.Common.{◌≡◌, ◌++◌, drop}
use Rattle.std.specs.List.{flat_map}
use Rattle.rh_engine.specs.WatchAnswers.{gone_text, next_ticket}
use Rattle.rh_engine.proofs.watch_answers.gone_line.Given as goal

-- the line so far, and what the tickets that are left add, are the whole line
abbrev pub invariant-loop-ticket : goal.invariant-loop-ticket
invariant-loop-ticket g l = l.line.items ++ flat_map next_ticket (drop l.ticket-index l.tickets) ≡ gone_text l.tickets
