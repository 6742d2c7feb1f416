use Rattle.std.proofs.Common.{◌≡◌, take}
use Rattle.std.specs.Io.KnownBytes.{Appends}
use Rattle.rh_cycle_events.specs.Events.{events_in, heard_after}
use Rattle.rh_cycle_events.proofs.events.CycleEventsWrite.write.Given as goal

abbrev pub invariant-loop-byte : goal.invariant-loop-byte
invariant-loop-byte g l = record {
  sent : Appends (g.W.Write.contents l.fn.self.out) (g.W.Write.contents l.self.out) (events_in l.fn.self.heard (take l.byte-index l.buf));
  heard : l.self.heard ≡ heard_after l.fn.self.heard (take l.byte-index l.buf);
  ended : l.self.is_ended ≡ l.fn.self.is_ended;
}
