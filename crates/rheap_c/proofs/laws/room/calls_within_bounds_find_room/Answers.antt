use Rattle.std.proofs.Common.{ℕ, ◌+◌, map, Some, None, sym, ap, subst}
use Rattle.std.specs.declared.alloc.Global.{Global}
use Rattle.rh_pace.specs.declared.pace.Pace.{Pace}
use Rattle.rh_pace.specs.Pace.{CanKeepUp, KeepsUp, lag_of, words_left}
use Rattle.rh_pace.specs.Paced.{PacedState}
use Rattle.rh_pace.proofs.StepLaws.{step_laws}
use Rattle.rheap_c.specs.Opened.{IsFillingPace, IsNew, IsOpened, IsPaceFor, Opens, config_at}
use Rattle.rheap_c.specs.Runs.{doing}
use Rattle.rheap_c.proofs.InTime.{AlwaysFindRoom-fit, AlwaysFindSpace-new, FindRoomIfFit-new, CallsStayWithin-doing, HasLog-new, InsistOnNothing-doing, RowsFit-doing, opened-new}
use Rattle.rheap_c.proofs.laws.room.calls_within_bounds_find_room.Goals as goal

-- what an open at a number of live words made
open_new : (words live biggest ratio owners slots status : ℕ) (s : PacedState)
    → IsOpened (Opens (IsPaceFor words live biggest ratio) (CanKeepUp words live biggest ratio) (λ pace. config_at pace words ratio owners slots)) None (Some s) status
    → (pace : Pace) × KeepsUp words live biggest ratio pace × IsNew (config_at pace words ratio owners slots) pace s
open_new words live biggest ratio owners slots status s is =
    let new = opened-new (IsPaceFor words live biggest ratio) (CanKeepUp words live biggest ratio) (λ (pace : Pace). config_at pace words ratio owners slots) s status is in
    (new.0, new.1.0, new.2)

-- and one at as many as its pace leaves
open_sized_new : (words biggest ratio owners slots status : ℕ) (s : PacedState)
    → IsOpened (Opens (IsFillingPace words biggest ratio) (CanKeepUp words (biggest + 1) biggest ratio) (λ pace. config_at pace words ratio owners slots)) None (Some s) status
    → (pace : Pace) × KeepsUp words (words_left words s.pace) biggest ratio pace × IsNew (config_at pace words ratio owners slots) pace s
open_sized_new words biggest ratio owners slots status s is =
    let new = opened-new (IsFillingPace words biggest ratio) (CanKeepUp words (biggest + 1) biggest ratio) (λ (pace : Pace). config_at pace words ratio owners slots) s status is in (
      new.0,
      subst (λ (pace : Pace). KeepsUp words (words_left words pace) biggest ratio new.0) (sym (ap (λ (t : PacedState). t.pace) new.2.made)) new.1.0,
      new.2,
    )

pub returns-clause-open : goal.returns-clause-open
returns-clause-open c = λ words live biggest ratio owners slots status s is.
    let laws = step_laws Global c.every_event_keeps_a_heap_well_formed.ensures.event c.a_new_heap_is_well_formed.ensures.well_formed c.classes_are_told_apart.ensures c.a_flip_is_refused_exactly_where_its_cycle_is_not_closed.ensures.flipped in
    let new = open_new words live biggest ratio owners slots status s is in
    FindRoomIfFit-new laws live biggest (config_at new.0 words ratio owners slots) new.0 s new.2 new.1

pub returns-clause-open_space : goal.returns-clause-open_space
returns-clause-open_space c = λ words live biggest ratio owners slots status s is.
    let laws = step_laws Global c.every_event_keeps_a_heap_well_formed.ensures.event c.a_new_heap_is_well_formed.ensures.well_formed c.classes_are_told_apart.ensures c.a_flip_is_refused_exactly_where_its_cycle_is_not_closed.ensures.flipped in
    let new = open_new words live biggest ratio owners slots status s is in
    AlwaysFindSpace-new laws live biggest (config_at new.0 words ratio owners slots) new.0 s new.2 new.1

pub returns-clause-open_sized : goal.returns-clause-open_sized
returns-clause-open_sized c = λ words biggest ratio owners slots status s is.
    let laws = step_laws Global c.every_event_keeps_a_heap_well_formed.ensures.event c.a_new_heap_is_well_formed.ensures.well_formed c.classes_are_told_apart.ensures c.a_flip_is_refused_exactly_where_its_cycle_is_not_closed.ensures.flipped in
    let new = open_sized_new words biggest ratio owners slots status s is in
    FindRoomIfFit-new laws (words_left words s.pace) biggest (config_at new.0 words ratio owners slots) new.0 s new.2 new.1

pub returns-clause-open_sized_space : goal.returns-clause-open_sized_space
returns-clause-open_sized_space c = λ words biggest ratio owners slots status s is.
    let laws = step_laws Global c.every_event_keeps_a_heap_well_formed.ensures.event c.a_new_heap_is_well_formed.ensures.well_formed c.classes_are_told_apart.ensures c.a_flip_is_refused_exactly_where_its_cycle_is_not_closed.ensures.flipped in
    let new = open_sized_new words biggest ratio owners slots status s is in
    AlwaysFindSpace-new laws (words_left words s.pace) biggest (config_at new.0 words ratio owners slots) new.0 s new.2 new.1

pub returns-clause-new : goal.returns-clause-new
returns-clause-new c = λ config pace s is_new live biggest up log new calls answers made within.
    let laws = step_laws Global c.every_event_keeps_a_heap_well_formed.ensures.event c.a_new_heap_is_well_formed.ensures.well_formed c.classes_are_told_apart.ensures c.a_flip_is_refused_exactly_where_its_cycle_is_not_closed.ensures.flipped in
    FindRoomIfFit-new laws live biggest config pace s is_new up new calls answers made within (HasLog-new biggest config pace s is_new log)

pub returns-clause-commands : goal.returns-clause-commands
returns-clause-commands c = λ config pace s is_new live biggest up new given answers made within.
    let laws = step_laws Global c.every_event_keeps_a_heap_well_formed.ensures.event c.a_new_heap_is_well_formed.ensures.well_formed c.classes_are_told_apart.ensures c.a_flip_is_refused_exactly_where_its_cycle_is_not_closed.ensures.flipped in
    let calls_within = CallsStayWithin-doing live biggest given s within in (
      AlwaysFindSpace-new laws live biggest config pace s is_new up new (map doing given) answers made calls_within (InsistOnNothing-doing given),
      λ log. AlwaysFindRoom-fit biggest s (map doing given) answers
          (FindRoomIfFit-new laws live biggest config pace s is_new up new (map doing given) answers made calls_within (HasLog-new biggest config pace s is_new log))
          (RowsFit-doing (lag_of s.pace biggest) s.heap.mutators.config.log_limit given),
    )

pub returns-clause-fit : goal.returns-clause-fit
returns-clause-fit c = AlwaysFindRoom-fit
