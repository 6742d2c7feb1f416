use Rattle.std.proofs.Common.{rules, FitsSigned, w64, refl}
use Rattle.std.proofs.lemmas.Int.{to_z-of_z}
use Rattle.rheap_c.specs.Told.{root_of}
use Rattle.rheap_c.proofs.CrossedNumbers.{number-done, number-grown_done}
use Rattle.rheap_c.proofs.Parts.{Calls-fixed, Calls-growing}
use Rattle.rheap_c.proofs.calls.fields.rheap_store_int.Goals as goal

pub returns-then-is_empty : goal.returns-then-is_empty
returns-then-is_empty c =
    let fits : FitsSigned w64 c.args.number = search rules in
    Calls-growing _ _ _ _ _ _ _ c.is_empty.ensures.empty c.if-is_empty.true c.is_empty.ensures.kept
    (number-grown_done _ c.args.number (to_z-of_z w64 c.args.number fits) c.args.owner (root_of c.args.object) c.args.field c.store_int.result _ _ (rw (c.of.ensures) at c.store_int.ensures))

pub returns : goal.returns
returns c =
    let fits : FitsSigned w64 c.args.number = search rules in
    Calls-fixed _ _ _ _ _ _ _ _ c.is_empty.ensures.empty c.if-is_empty.false c.is_empty.ensures.kept
    (number-done _ c.args.number (to_z-of_z w64 c.args.number fits) c.args.owner (root_of c.args.object) c.args.field c.store_int-2.result _ _ c.store_int-2.ensures) refl
