use Rattle.std.proofs.Common.{sym}
use Rattle.std.proofs.lemmas.Bool.{false≢true}
use Rattle.rheap_c.proofs.Openings.{IsOpened-no_pace}
use Rattle.rheap_c.proofs.fixed.opening.open_sized.Goals as goal

pub returns-in-Err : goal.returns-in-Err
returns-in-Err c =
    IsOpened-no_pace _ _ _ _ _ (sym c.if-not-is_empty.ensures.empty) c.is_empty.ensures.kept (λ can. false≢true (c.in-Err.ensures.exactly.1 can))
