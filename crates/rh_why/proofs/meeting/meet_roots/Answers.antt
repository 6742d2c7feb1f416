use Rattle.std.proofs.Common.{ap, refl, sym, ◌∙◌}
use Rattle.std.proofs.lemmas.List.{drop_all}
use Rattle.rh_why.specs.Path.{with_roots}
use Rattle.rh_why.proofs.Steps.{roots_next}
use Rattle.rh_why.proofs.meeting.meet_roots.Goals as goal

pub loop-root-init : goal.loop-root-init
loop-root-init g c = refl

pub loop-root-preserved : goal.loop-root-preserved
loop-root-preserved g c =
    roots_next c.args.holders.now.items c.loop-root.holders.items c.meet.new.holders.items c.args.roots.now c.loop-root.root-index _ c.loop-root-test.true c.in_ok-meet.ensures c.loop-root.invariant

pub returns : goal.returns
returns g c = sym (ap (with_roots c.loop-root.holders.items) (drop_all c.loop-root.root-index c.args.roots.now c.loop-root-test.false)) ∙ c.loop-root.invariant
