use Rattle.std.proofs.Common.{◌≡◌, ◌≤◌, List, length, drop}
use Rattle.rh_layout.specs.declared.command.Reply.{Reply}
use Rattle.rh_pace.specs.Paced.{paced_step}
use Rattle.rh_growing.specs.Growing.{with_paced}
use Rattle.rheap_c.specs.RootRows.{after_replies, done_until, last_value, path_loads}
use Rattle.rheap_c.proofs.growing.root_rows.followed.Given as goal

-- what was replied so far, and what comes of the loads that are left, is what comes of all
abbrev pub invariant-loop-at : goal.invariant-loop-at
invariant-loop-at l = record {
  rest : l.heap ≡ with_paced l.fn.heap l.heap.paced;
  told : List Reply;
  many : length told ≡ l.at;
  few : l.at ≤ length l.fn.fields;
  leads : after_replies told (done_until paced_step l.heap.paced (path_loads l.owner l.dst l.src (drop l.at l.fields))) ≡ done_until paced_step l.fn.heap.paced (path_loads l.fn.owner l.fn.dst l.fn.src l.fn.fields);
  value : l.value ≡ last_value told;
}
