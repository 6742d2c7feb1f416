use Rattle.std.proofs.Common.{refl}
use Rattle.rheap_c.specs.Making.{making}
use Rattle.rheap_c.proofs.MadeWith.{made-given, made-otherwise}
use Rattle.rheap_c.proofs.fixed.making.made.Goals as goal

pub returns-in-Some : goal.returns-in-Some
returns-in-Some c = made-given _ _ _ _ _ _ c.args.insists _ (c.in-Some.ensures.known refl) c.in-Some.ensures.done

pub returns-in-None : goal.returns-in-None
returns-in-None c = made-otherwise (making c.args.insists) _ _ _ _ c.args.owner c.args.dst c.args.shape _ _ c.in-None.ensures.nothing c.made_by_operands.ensures
