use Rattle.std.proofs.Common.{◌≡◌, sym, ap, subst, ◌∙◌, arith}
use Rattle.rh_model.specs.Graph.{root_value}
use Rattle.rh_dump.specs.Numbering.{filled_roots}
use Rattle.rh_dump.specs.Dumpable.{IsDumpable}
use Rattle.rh_dump.specs.Meeting.{NumberingState, with_roots}
use Rattle.rh_dump.proofs.numbers.NumberingSteps.{with_roots-none, owners-next, roots_of-all}
use Rattle.rh_dump.proofs.numbering.Numbering.put_roots.Goals as goal

pub loop-owner-init : goal.loop-owner-init
loop-owner-init g c = sym (with_roots-none c.args.self.now)

pub put_slots-requires-clause-dumpable : goal.put_slots-requires-clause-dumpable
put_slots-requires-clause-dumpable g c =
    subst (λ n. IsDumpable n (g.H.ObjectGraph.graph c.args.heap.now)) (sym (ap (λ (s : NumberingState). s.limit) c.loop-owner.invariant)) c.requires.dumpable

pub loop-owner-preserved : goal.loop-owner-preserved
loop-owner-preserved g c =
    owners-next (root_value (g.H.ObjectGraph.graph c.args.heap.now)) c.args.self.now c.loop-owner.self c.put_slots.new.self c.args.slots c.loop-owner.owner c.loop-owner.invariant c.in_ok-put_slots.ensures

pub returns : goal.returns
returns g c =
    let graph = g.H.ObjectGraph.graph c.args.heap.now in
    let last : c.loop-owner.owner ≡ c.args.owners = omega (arith, c.loop-owner.auto.owner-end, c.loop-owner-test.false) in
    c.loop-owner.invariant
    ∙ ap (λ n. with_roots c.args.self.now (filled_roots (root_value graph) c.args.slots n)) last
    ∙ ap (with_roots c.args.self.now) (roots_of-all graph c.args.owners c.args.slots c.requires.owners c.requires.slots)
