use Rattle.std.proofs.Common.{◌≡◌, ◌≤◌, length, take}
use Rattle.std.specs.List.{filter}
use Rattle.rh_snapshot.specs.Snapshot.{holds_reference}
use Rattle.rh_snapshot.proofs.counting.count_root_references.Given as goal

abbrev pub invariant-loop-root : goal.invariant-loop-root
invariant-loop-root l = record {
  counted : l.references ≡ length (filter holds_reference (take l.root-index l.roots));
  few : l.references ≤ l.root-index;
}
