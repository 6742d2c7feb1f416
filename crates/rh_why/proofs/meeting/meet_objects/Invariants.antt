use Rattle.std.proofs.Common.{◌≡◌, drop, length}
use Rattle.rh_dump.specs.Graph.{objects_in, total}
use Rattle.rh_why.specs.Path.{with_objects}
use Rattle.rh_why.proofs.meeting.meet_objects.Given as goal

abbrev pub invariant-loop-shape : goal.invariant-loop-shape
invariant-loop-shape g l = record {
  met : with_objects l.holders.items l.object (objects_in (drop l.shape-index l.shapes) l.rest) ≡ with_objects l.fn.holders.items 0 (objects_in l.shapes l.values);
  filled : total (drop l.shape-index l.shapes) ≡ length l.rest;
  object : l.object ≡ l.shape-index;
}
