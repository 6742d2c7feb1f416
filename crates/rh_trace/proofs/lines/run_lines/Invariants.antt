use Rattle.std.proofs.Common.{◌≡◌, ℕ, ◌+◌, ◌≤◌, ◌*◌, ◌^◌, false, length, take}
use Rattle.rh_text.specs.IoLog.{MadeSince}
use Rattle.rh_trace.proofs.LinesInTurn.{Played}
use Rattle.rh_trace.proofs.lines.run_lines.Given as goal

abbrev pub invariant-loop-request : goal.invariant-loop-request
invariant-loop-request g l = record {
  played : Played g.P.Player.Steps g.P.Player.total g.L.Listener.next g.L.Listener.show g.L.Listener.closing g.L.Listener.lead g.L.Listener.opening l.fn.player (g.L.Listener.begun (g.L.Listener.state l.fn.listener) l.fn.header l.fn.player) (g.L.Listener.contents l.fn.out) (take l.request-index l.requests) l.player (g.L.Listener.state l.listener) l.counted (g.L.Listener.contents l.out);
  line : l.line ≡ l.request-index + 2;
  room : (n : ℕ) → n + l.request-index ≡ length l.requests → g.L.Listener.HasRoom l.listener n;
  commands : l.counted.commands ≤ l.request-index;
  refused : l.counted.refused ≤ l.request-index;
  flips : l.counted.flips ≤ l.request-index;
  root_words : l.counted.root_words ≤ 2 ^ 32 * l.request-index;
  none_failed : l.writes.failed ≡ false;
  counted : MadeSince 0 l.fn.writes l.writes;
}
