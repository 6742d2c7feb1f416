use Rattle.std.proofs.Common.{rules}
use Rattle.rh_replay.proofs.recorder.Recorder.note.Goals as goal

pub note-requires-clause-few : goal.note-requires-clause-few
note-requires-clause-few g c = search rules
