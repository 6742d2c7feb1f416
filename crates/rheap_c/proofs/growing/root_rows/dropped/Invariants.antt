use Rattle.std.proofs.Common.{◌≡◌, ◌≤◌, ◌-◌, List, length}
use Rattle.rh_layout.specs.declared.command.Reply.{Reply}
use Rattle.rh_pace.specs.Paced.{paced_step}
use Rattle.rh_growing.specs.Growing.{with_paced}
use Rattle.rheap_c.specs.RootRows.{after_replies, done_until, row_drops}
use Rattle.rheap_c.proofs.growing.root_rows.dropped.Given as goal

-- what was replied so far, and what comes of the drops that are left, is what comes of all
abbrev pub invariant-loop-at : goal.invariant-loop-at
invariant-loop-at l = record {
  rest : l.heap ≡ with_paced l.fn.heap l.heap.paced;
  told : List Reply;
  many : length told ≡ l.at;
  few : l.at ≤ l.fn.length;
  leads : after_replies told (done_until paced_step l.heap.paced (row_drops l.owner l.root (l.length - l.at))) ≡ done_until paced_step l.fn.heap.paced (row_drops l.fn.owner l.fn.first l.fn.length);
}
