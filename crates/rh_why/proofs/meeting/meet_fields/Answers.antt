use Rattle.std.proofs.Common.{ap, refl, sym, ◌∙◌, arith}
use Rattle.std.proofs.lemmas.List.{drop_all}
use Rattle.rh_why.specs.Path.{with_fields}
use Rattle.rh_why.proofs.Steps.{fields_next}
use Rattle.rh_why.proofs.meeting.meet_fields.Goals as goal

pub loop-value-init : goal.loop-value-init
loop-value-init g c = record { met = refl; field = refl }

pub loop-value-preserved : goal.loop-value-preserved
loop-value-preserved g c = record {
  met = fields_next c.args.holders.now.items c.loop-value.holders.items c.meet.new.holders.items c.args.object c.loop-value.field c.args.fields.now c.loop-value.value-index _ c.loop-value-test.true c.in_ok-meet.ensures c.loop-value.invariant.met;
  field = omega (arith, c.loop-value.invariant.field);
}

pub returns : goal.returns
returns g c =
    sym (ap (with_fields c.loop-value.holders.items c.args.object c.loop-value.field) (drop_all c.loop-value.value-index c.args.fields.now c.loop-value-test.false)) ∙ c.loop-value.invariant.met
