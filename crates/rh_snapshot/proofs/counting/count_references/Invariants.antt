use Rattle.std.proofs.Common.{◌≡◌, ◌≤◌, length, take}
use Rattle.std.specs.List.{filter}
use Rattle.rh_layout.specs.Value.{is_reference}
use Rattle.rh_snapshot.proofs.counting.count_references.Given as goal

abbrev pub invariant-loop-value : goal.invariant-loop-value
invariant-loop-value l = record {
  counted : l.references ≡ length (filter is_reference (take l.value-index l.values));
  few : l.references ≤ l.value-index;
}
