use Rattle.std.proofs.Common.{sym}
use Rattle.rh_text.specs.RawLine.{lines_of}
use Rattle.rh_replay.proofs.ReadIsSpelled.{IsReadable-made}
use Rattle.rh_replay.proofs.history_text.history_in.Goals as goal

pub of_calls-requires : goal.of_calls-requires
of_calls-requires g c =
    let raw = c.first_line-ended.result in
    (IsReadable-made (record { bytes = raw.0.now; ended = raw.1 }) (lines_of raw.2.now) (c.in_ok-owners.owners, c.in_ok-owners.slots) c.in_ok-calls.calls.items (sym c.in_ok-owners.ensures) c.in_ok-calls.ensures).0
