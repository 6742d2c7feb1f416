use Rattle.std.proofs.Common.{List, Result, subst, sym, arith}
use Rattle.std.specs.Prelude.{All, IsOk}
use Rattle.rh_layout.specs.declared.command.Reply.{Reply}
use Rattle.rh_layout.specs.declared.refusal.Refusal.{Refusal}
use Rattle.rh_pace.specs.Pace.{paced_by}
use Rattle.rh_pace.specs.Worked.{queue_calls}
use Rattle.uses.specs.Queue.{queue_config}
use Rattle.uses.proofs.Accepted.{queue-replies}
use Rattle.uses.proofs.Filled.{few-calls, sound}
use Rattle.uses.proofs.queue.no_call_of_the_queue_is_refused.Goals as goal

pub returns : goal.returns
returns g c = λ rounds turns.
    let worked = c.a_queue_in_45_percent_of_the_space_has_room.ensures in
    let calls = queue_calls 248 rounds in
    let few = few-calls 248 rounds (omega arith) turns in
    let bounded = worked.bounded 248 rounds 1000 (omega arith) in
    let answers = c.within_its_bounds_a_program_meets_no_limit.ensures.commands 1000 4 queue_config sound (paced_by 601 4 8) worked.pace worked.log calls bounded few.0 few.1 in
    subst (λ (replies : List (Result Reply Refusal)). All (λ reply. IsOk reply) replies) (sym answers.1) (queue-replies 248 rounds)
