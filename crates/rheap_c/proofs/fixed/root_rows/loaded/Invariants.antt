use Rattle.std.proofs.Common.{◌≡◌, ◌≤◌, ◌-◌, List, length}
use Rattle.rh_layout.specs.declared.command.Reply.{Reply}
use Rattle.rh_pace.specs.Paced.{paced_step}
use Rattle.rheap_c.specs.RootRows.{after_replies, done_until, row_loads, values_over}
use Rattle.rheap_c.proofs.fixed.root_rows.loaded.Given as goal

-- what was replied so far, and what comes of the loads that are left, is what comes of all
abbrev pub invariant-loop-at : goal.invariant-loop-at
invariant-loop-at l = record {
  told : List Reply;
  many : length told ≡ l.at;
  few : l.at ≤ length l.fn.values;
  leads : after_replies told (done_until paced_step l.heap (row_loads l.owner l.dst l.src l.field (length l.fn.values - l.at))) ≡ done_until paced_step l.fn.heap (row_loads l.fn.owner l.fn.first l.fn.src l.fn.from (length l.fn.values));
  values : l.values ≡ values_over told l.fn.values;
  same_length : length l.values ≡ length l.fn.values;
}
