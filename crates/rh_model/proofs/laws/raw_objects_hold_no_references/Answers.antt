use Rattle.std.proofs.Common.{sym, ◌∙◌}
use Rattle.std.proofs.lemmas.Bool.{true≢false}
use Rattle.rh_model.proofs.laws.raw_objects_hold_no_references.Goals as goal

pub returns : goal.returns
returns c = λ p formed a f b raw holds. true≢false (sym raw ∙ formed.references.raw a f b holds)
