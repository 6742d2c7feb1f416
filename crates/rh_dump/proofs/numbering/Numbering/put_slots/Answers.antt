use Rattle.std.proofs.Common.{◌≡◌, sym, ap, subst, ◌∙◌, arith}
use Rattle.rh_model.specs.Graph.{root_value}
use Rattle.rh_dump.specs.Numbering.{filled_slots}
use Rattle.rh_dump.specs.Meeting.{NumberingState, IsBelow, with_roots}
use Rattle.rh_dump.proofs.numbers.RootLists.{root_named}
use Rattle.rh_dump.proofs.numbers.NumberingSteps.{with_roots-none, slots-next, IsBelow-root}
use Rattle.rh_dump.proofs.numbering.Numbering.put_slots.Goals as goal

pub loop-slot-init : goal.loop-slot-init
loop-slot-init g c = sym (with_roots-none c.args.self.now)

pub put_root-requires : goal.put_root-requires
put_root-requires g c =
    subst (λ n. IsBelow n c.held.result) (sym (ap (λ (s : NumberingState). s.limit) c.loop-slot.invariant))
    (IsBelow-root c.args.self.now.limit (g.H.ObjectGraph.graph c.args.heap.now) c.requires.dumpable (root_named c.args.owner c.loop-slot.slot) c.held.result c.held.ensures)

pub loop-slot-preserved : goal.loop-slot-preserved
loop-slot-preserved g c =
    slots-next (root_value (g.H.ObjectGraph.graph c.args.heap.now)) c.args.self.now c.loop-slot.self c.put_root.new.self c.args.owner c.loop-slot.slot c.held.result c.loop-slot.invariant c.in_ok-put_root.ensures c.held.ensures

pub returns : goal.returns
returns g c =
    let last : c.loop-slot.slot ≡ c.args.slots = omega (arith, c.loop-slot.auto.slot-end, c.loop-slot-test.false) in
    c.loop-slot.invariant ∙ ap (λ n. with_roots c.args.self.now (filled_slots (root_value (g.H.ObjectGraph.graph c.args.heap.now)) c.args.owner n)) last
