use Rattle.std.proofs.Common.{◌≡◌, Some, Err, ap, ◌∙◌, rules}
use Rattle.rh_mutator.specs.Config.{fault_of}
use Rattle.rh_replay.proofs.Replays.{legal-empty}
use Rattle.rh_shared.proofs.KeptCalls.{IsKept-new}
use Rattle.rh_shared.proofs.NewLinks.{count-rings}
use Rattle.rh_shared.proofs.start.Start.new.Goals as goal

pub unreachable-requires : goal.unreachable-requires
unreachable-requires g c =
    let which = c.in-Err-Config in
    let told : fault_of c.args.config ≡ Some which.field-0-0 = (c.new.ensures.fault which.field-0-0).0 (which.is ∙ ap Err which.field-0-is) in
    absurd (cc (told, c.fault.ensures, c.in_default.is))

pub invariant_of-result : goal.invariant_of-result
invariant_of-result g c = record {
  kept = IsKept-new c.in-Ok-recorder_for.recorder c.in-Ok.heap c.args.config.owners c.args.config.slots c.args.shared.history c.in-Ok-recorder_for.ensures
      (legal-empty c.args.config.owners c.args.config.slots) c.in-Ok.ensures.stands;
  config = Prim.search rules;
  limit = Prim.search rules;
  owners = Prim.search rules;
  slots = Prim.search rules;
  count = count-rings c.in-Ok-links_of.links.items c.args.shared.replicators c.in-Ok-links_of.ensures.count;
  links = c.in-Ok-links_of.ensures.links;
}
