use Rattle.std.proofs.Common.{refl, ap, ◌∙◌, ◌+◌}
use Rattle.rh_mutator.specs.declared.config.Config.{Config}
use Rattle.rh_core.specs.Heap.{HeapState}
use Rattle.rh_pace.specs.Pace.{CanKeepUp}
use Rattle.rheap_c.specs.Opened.{IsFillingPace}
use Rattle.rheap_c.proofs.Resizes.{by_pace, log_asked}
use Rattle.rheap_c.proofs.fixed.resizing.resized_filling.Goals as goal

pub resized_at-requires : goal.resized_at-requires
resized_at-requires c = log_asked c.args.biggest c.in-Ok.pace c.in-Ok.ensures.log_limit

pub returns-in-Ok : goal.returns-in-Ok
returns-in-Ok c =
    let told = c.in-Ok.ensures in
    by_pace (IsFillingPace c.args.words c.args.biggest) (CanKeepUp c.args.words (c.args.biggest + 1) c.args.biggest) c.args.words _ _ c.in-Ok.pace _ _ _
    (ap (λ (g : Config). g.ratio) c.config.ensures.config ∙ ap (λ (h : HeapState). h.mutators.config.ratio) c.heap.ensures)
    (told.keeps_up, told.lowest, told.log_limit) (told.exactly.0 refl) c.resized_at.ensures
