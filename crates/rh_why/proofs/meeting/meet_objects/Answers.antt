use Rattle.std.proofs.Common.{List, length, ap, refl, sym, ◌∙◌, arith}
use Rattle.std.proofs.lemmas.List.{drop_all}
use Rattle.rh_layout.specs.declared.shape.Shape.{Shape}
use Rattle.rh_dump.specs.Graph.{objects_in}
use Rattle.rh_dump.proofs.texts.Sending.{total_more}
use Rattle.rh_why.specs.Path.{with_objects}
use Rattle.rh_why.proofs.Steps.{objects_next}
use Rattle.rh_why.proofs.meeting.meet_objects.Goals as goal

pub loop-shape-init : goal.loop-shape-init
loop-shape-init g c = record { met = refl; filled = c.requires; object = refl }

pub loop-shape-preserved : goal.loop-shape-preserved
loop-shape-preserved g c =
    let s = c.split_at.result in
    let shapes = c.args.shapes.now in
    record {
      met = objects_next (with_objects c.args.holders.now.items 0 (objects_in shapes c.args.values.now)) c.loop-shape.holders.items c.meet_fields.new.holders.items c.loop-shape.object c.loop-shape.shape-index shapes _ c.loop-shape.rest.now s.0.now s.1.now c.loop-shape-test.true c.split_at.ensures.front c.split_at.ensures.back c.in_ok-meet_fields.ensures c.loop-shape.invariant.met;
      filled = total_more shapes _ c.loop-shape.shape-index (length c.loop-shape.rest.now) (length s.1.now) c.loop-shape-test.true c.loop-shape.invariant.filled c.split_at.ensures.back_len;
      object = omega (arith, c.loop-shape.invariant.object);
    }

pub returns : goal.returns
returns g c =
    sym (ap (λ (ss : List Shape). with_objects c.loop-shape.holders.items c.loop-shape.object (objects_in ss c.loop-shape.rest.now)) (drop_all c.loop-shape.shape-index c.args.shapes.now c.loop-shape-test.false)) ∙ c.loop-shape.invariant.met
