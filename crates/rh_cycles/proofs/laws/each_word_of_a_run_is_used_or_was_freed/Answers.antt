use Rattle.std.proofs.Common.{◌+◌, refl, sym, ap, ◌∙◌}
use Rattle.rh_core.specs.declared.stat.Stat.{Stat}
use Rattle.rh_core.specs.Stat.{stat_of}
use Rattle.rh_cycles.specs.Cycles.{cycles_of, new_reader}
use Rattle.rh_cycles.specs.Runs.{readings_of, steps_of, words_freed}
use Rattle.rh_cycles.proofs.Events.{events-AreSteps, last-read}
use Rattle.rh_cycles.proofs.laws.each_word_of_a_run_is_used_or_was_freed.Goals as goal

pub returns-clause-words : goal.returns-clause-words
returns-clause-words g c = λ h well off line events.
    let steps = steps_of line h events in
    let r = new_reader (stat_of h) in
    let are = events-AreSteps c.each_event_is_a_step.ensures c.every_event_keeps_a_heap_well_formed.ensures.event line h well events in
    ap (λ (s : Stat). words_freed (cycles_of r (readings_of steps)) + s.used) (sym (last-read line h events r refl))
    ∙ c.cycles_account_for_all_words_and_flips.ensures.words r steps (sym off) are

pub returns-clause-flips : goal.returns-clause-flips
returns-clause-flips g c = λ h well off line events.
    let steps = steps_of line h events in
    let r = new_reader (stat_of h) in
    let are = events-AreSteps c.each_event_is_a_step.ensures c.every_event_keeps_a_heap_well_formed.ensures.event line h well events in
    ap (λ (s : Stat). s.flips) (sym (last-read line h events r refl))
    ∙ c.cycles_account_for_all_words_and_flips.ensures.flips r steps (sym off) are
