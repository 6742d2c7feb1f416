use Rattle.rh_pace.specs.Pace.{CanKeepUp}
use Rattle.rheap_c.specs.Opened.{IsPaceFor}
use Rattle.rheap_c.proofs.Resizes.{held-resized}
use Rattle.rheap_c.proofs.fixed.resizing.resize.Goals as goal

pub returns-in-Some : goal.returns-in-Some
returns-in-Some c =
    held-resized (IsPaceFor c.args.words c.args.live c.args.biggest) (CanKeepUp c.args.words c.args.live c.args.biggest) c.args.words _ _ c.in-Some.inner.value c.deref_mut.result.now _ _
    c.in-Some.ensures.taken c.deref_mut.ensures.value c.give.ensures c.resized-status.ensures
