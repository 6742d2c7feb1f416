use Rattle.std.proofs.Common.{refl}
use Rattle.rh_model.specs.Plain.{empty_plain}
use Rattle.rh_replay.specs.History.{empty_history}
use Rattle.rh_replay.proofs.Replays.{legal-empty}
use Rattle.rh_trace_views.proofs.LegalHistory.{legal_lines}
use Rattle.rh_trace_views.proofs.laws.the_history_of_plain_answers_is_legal.Goals as goal

pub returns : goal.returns
returns c = λ owners slots requests answers told. legal_lines 2 requests answers (empty_plain owners slots) (empty_history owners slots) (legal-empty owners slots) refl told
