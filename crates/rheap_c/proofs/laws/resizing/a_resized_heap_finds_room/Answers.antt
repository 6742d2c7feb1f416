use Rattle.std.proofs.Common.{ℕ, ◌+◌, refl, sym, subst}
use Rattle.std.specs.declared.alloc.Global.{Global}
use Rattle.rh_pace.specs.declared.pace.Pace.{Pace}
use Rattle.rh_pace.specs.InTime.{IsInTime}
use Rattle.rh_pace.specs.Pace.{CanKeepUp, KeepsUp, words_left}
use Rattle.rh_pace.proofs.StepLaws.{step_laws}
use Rattle.rheap_c.specs.Opened.{IsFillingPace, IsPaceFor, config_at}
use Rattle.rheap_c.specs.Room.{FindsRoom}
use Rattle.rheap_c.proofs.InTime.{FindsRoom-in_time, opened-new}
use Rattle.rheap_c.proofs.ResizedRoom.{done_of, free-in_time, keeps-up, new-pays, on-in_time, once-free, pace_of, pays_of}
use Rattle.rheap_c.proofs.laws.resizing.a_resized_heap_finds_room.Goals as goal

pub returns-clause-resized : goal.returns-clause-resized
returns-clause-resized c = λ words live biggest s t is pays off room.
    let laws = step_laws Global c.every_event_keeps_a_heap_well_formed.ensures.event c.a_new_heap_is_well_formed.ensures.well_formed c.classes_are_told_apart.ensures c.a_flip_is_refused_exactly_where_its_cycle_is_not_closed.ensures.flipped in
    let done = done_of (IsPaceFor words live biggest) (CanKeepUp words live biggest) words s t is in
    let resized = done.2 in
    FindsRoom-in_time laws live biggest t resized.kept (free-in_time words live biggest done.0 s t resized done.1.0 pays off room)

pub returns-clause-sized : goal.returns-clause-sized
returns-clause-sized c = λ words biggest s t is pays off room.
    let laws = step_laws Global c.every_event_keeps_a_heap_well_formed.ensures.event c.a_new_heap_is_well_formed.ensures.well_formed c.classes_are_told_apart.ensures c.a_flip_is_refused_exactly_where_its_cycle_is_not_closed.ensures.flipped in
    let done = done_of (IsFillingPace words biggest) (CanKeepUp words (biggest + 1) biggest) words s t is in
    let resized = done.2 in
    let live : ℕ = words_left words done.0 in
    subst (λ (pace : Pace). FindsRoom (words_left words pace) biggest t) (sym (pace_of words live biggest done.0 s t resized done.1.0 pays))
    (FindsRoom-in_time laws live biggest t resized.kept (free-in_time words live biggest done.0 s t resized done.1.0 pays off room))

pub returns-clause-goes_on : goal.returns-clause-goes_on
returns-clause-goes_on c = λ words live biggest s t is timely more.
    let laws = step_laws Global c.every_event_keeps_a_heap_well_formed.ensures.event c.a_new_heap_is_well_formed.ensures.well_formed c.classes_are_told_apart.ensures c.a_flip_is_refused_exactly_where_its_cycle_is_not_closed.ensures.flipped in
    let done = done_of (IsPaceFor words live biggest) (CanKeepUp words live biggest) words s t is in
    let resized = done.2 in
    FindsRoom-in_time laws live biggest t resized.kept (on-in_time words live biggest done.0 s t resized done.1.0 timely more)

pub returns-clause-keeps_up : goal.returns-clause-keeps_up
returns-clause-keeps_up c = λ words live biggest s t is pays.
    let done = done_of (IsPaceFor words live biggest) (CanKeepUp words live biggest) words s t is in
    keeps-up words live biggest done.0 s t done.2 done.1.0 pays

pub returns-clause-keeps_up_sized : goal.returns-clause-keeps_up_sized
returns-clause-keeps_up_sized c = λ words biggest s t is pays.
    let done = done_of (IsFillingPace words biggest) (CanKeepUp words (biggest + 1) biggest) words s t is in
    let live : ℕ = words_left words done.0 in
    subst (λ (pace : Pace). KeepsUp t.heap.mutators.config.words (words_left words pace) biggest t.heap.mutators.config.ratio t.pace)
    (sym (pace_of words live biggest done.0 s t done.2 done.1.0 pays))
    (keeps-up words live biggest done.0 s t done.2 done.1.0 pays)

pub returns-clause-once_free : goal.returns-clause-once_free
returns-clause-once_free c = λ live biggest s kept up off free.
    let laws = step_laws Global c.every_event_keeps_a_heap_well_formed.ensures.event c.a_new_heap_is_well_formed.ensures.well_formed c.classes_are_told_apart.ensures c.a_flip_is_refused_exactly_where_its_cycle_is_not_closed.ensures.flipped in
    FindsRoom-in_time laws live biggest s kept (once-free live biggest s up off free)

pub returns-clause-kept : goal.returns-clause-kept
returns-clause-kept c = λ words live biggest s t is.
    let done = done_of (IsPaceFor words live biggest) (CanKeepUp words live biggest) words s t is in let resized = done.2 in resized.kept

pub returns-clause-kept_sized : goal.returns-clause-kept_sized
returns-clause-kept_sized c = λ words biggest s t is.
    let done = done_of (IsFillingPace words biggest) (CanKeepUp words (biggest + 1) biggest) words s t is in let resized = done.2 in resized.kept

pub returns-clause-pays : goal.returns-clause-pays
returns-clause-pays c = λ words live biggest. pays_of (IsPaceFor words live biggest) (CanKeepUp words live biggest) words

pub returns-clause-pays_sized : goal.returns-clause-pays_sized
returns-clause-pays_sized c = λ words biggest. pays_of (IsFillingPace words biggest) (CanKeepUp words (biggest + 1) biggest) words

pub returns-clause-open : goal.returns-clause-open
returns-clause-open c = λ words live biggest ratio owners slots status s is.
    let new = opened-new (IsPaceFor words live biggest ratio) (CanKeepUp words live biggest ratio) (λ (pace : Pace). config_at pace words ratio owners slots) s status is in
    new-pays words live biggest ratio (config_at new.0 words ratio owners slots) new.0 s refl new.1.0 new.2

pub returns-clause-open_sized : goal.returns-clause-open_sized
returns-clause-open_sized c = λ words biggest ratio owners slots status s is.
    let new = opened-new (IsFillingPace words biggest ratio) (CanKeepUp words (biggest + 1) biggest ratio) (λ (pace : Pace). config_at pace words ratio owners slots) s status is in
    new-pays words (words_left words new.0) biggest ratio (config_at new.0 words ratio owners slots) new.0 s refl new.1.0 new.2

pub returns-clause-in_time : goal.returns-clause-in_time
returns-clause-in_time c = λ live biggest s kept timely.
    let laws = step_laws Global c.every_event_keeps_a_heap_well_formed.ensures.event c.a_new_heap_is_well_formed.ensures.well_formed c.classes_are_told_apart.ensures c.a_flip_is_refused_exactly_where_its_cycle_is_not_closed.ensures.flipped in
    FindsRoom-in_time laws live biggest s kept timely
