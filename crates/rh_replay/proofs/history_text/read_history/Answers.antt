use Rattle.std.proofs.Common.{Result, ap, subst, ◌∙◌}
use Rattle.rh_replay.specs.declared.fault.HistoryFault.{HistoryFault}
use Rattle.rh_replay.specs.History.{HistoryState}
use Rattle.rh_replay.specs.Reading.{Gives, history_of}
use Rattle.rh_replay.proofs.ReadIsSpelled.{read_is_spelled}
use Rattle.rh_replay.proofs.SpelledIsRead.{history_of-spelling}
use Rattle.rh_replay.proofs.history_text.read_history.Goals as goal

pub returns-clause-found : goal.returns-clause-found
returns-clause-found g c = read_is_spelled (λ h. h.contents) c.args.bytes.now c.history_in.result c.history_in.ensures

pub returns-clause-only : goal.returns-clause-only
returns-clause-only g c = λ t is e. subst (λ (r : Result HistoryState HistoryFault). Gives (λ x. x.contents) c.history_in.result r) (ap history_of e ∙ history_of-spelling t is) c.history_in.ensures
