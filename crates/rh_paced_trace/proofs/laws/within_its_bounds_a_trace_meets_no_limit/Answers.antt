use Rattle.std.proofs.Common.{◌≡◌, length, None, refl, sym, ap, subst, ◌∙◌, arith}
use Rattle.rh_model.specs.Plain.{empty_plain}
use Rattle.rh_pace.specs.Pace.{words_left}
use Rattle.rh_pace.specs.PlainBounds.{AreBounded}
use Rattle.rh_pace.specs.Worked.{queue_calls}
use Rattle.rh_trace.specs.Run.{config_of}
use Rattle.rh_paced_trace.specs.Lines.{Commands, biggest_of, commands_in}
use Rattle.rh_paced_trace.specs.Pacing.{pace_at}
use Rattle.rh_paced_trace.specs.Worked.{queue_script}
use Rattle.rh_paced_trace.proofs.WithinBounds.{commands_in-few, commands_in-map, length-queue, plain_text}
use Rattle.rh_paced_trace.proofs.laws.within_its_bounds_a_trace_meets_no_limit.Goals as goal

pub returns-clause-commands : goal.returns-clause-commands
returns-clause-commands c = λ script sizes live biggest pace up log bounded few.
    let met = c.within_its_bounds_a_program_meets_no_limit.ensures.commands live biggest (config_of script.header) sizes pace up log (commands_in script.requests) bounded (omega (arith, few)) (omega (arith, few)) in
    (met.0, plain_text script pace met.1)

pub returns-clause-run : goal.returns-clause-run
returns-clause-run c = λ mark input script pace is live biggest up log bounded.
    let lines = (c.what_is_spelled_is_read.ensures.read input script is.trace.read).0.few in
    let few = commands_in-few script.requests in
    returns-clause-commands c script is.sizes live biggest pace up log bounded (omega (arith, lines, few))

pub returns-clause-by_sizes : goal.returns-clause-by_sizes
returns-clause-by_sizes c = λ input script pace is log bounded.
    returns-clause-run c None input script pace is (words_left script.header.words pace) (biggest_of (commands_in script.requests)) is.paced.0 log bounded

pub returns-clause-worked : goal.returns-clause-worked
returns-clause-worked c = λ rounds few.
    let script = queue_script rounds in
    let same : commands_in script.requests ≡ queue_calls 248 rounds = commands_in-map (queue_calls 248 rounds) in
    let count = ap (λ (calls : Commands). length calls) same ∙ length-queue rounds in
    let bounded = subst (AreBounded 1000 4 (empty_plain 2 3)) (sym same) (c.a_queue_in_45_percent_of_the_space_has_room.ensures.bounded 248 rounds 1000 (omega arith)) in
    (returns-clause-commands c script refl 1000 4 (pace_at 609 script.header) (record { paces = record { room = omega arith; enough = omega arith; store_units = refl }; fits = omega arith }) (omega arith) bounded (omega (arith, count, few))).0
