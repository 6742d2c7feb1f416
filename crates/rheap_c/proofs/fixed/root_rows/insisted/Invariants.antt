use Rattle.std.proofs.Common.{◌≡◌, ◌≤◌, ◌-◌, List, length}
use Rattle.rh_layout.specs.declared.command.Reply.{Reply}
use Rattle.rh_pace.specs.Collecting.{insist_step}
use Rattle.rheap_c.specs.RootRows.{after_replies, done_until, row_stores}
use Rattle.rheap_c.proofs.fixed.root_rows.insisted.Given as goal

-- what was replied so far, and what comes of the stores that are left, is what comes of all
abbrev pub invariant-loop-at : goal.invariant-loop-at
invariant-loop-at l = record {
  told : List Reply;
  many : length told ≡ l.at;
  few : l.at ≤ l.fn.length;
  leads : after_replies told (done_until insist_step l.heap (row_stores l.owner l.object l.field l.src (l.length - l.at))) ≡ done_until insist_step l.fn.heap (row_stores l.fn.owner l.fn.object l.fn.from l.fn.first l.fn.length);
}
