use Rattle.std.proofs.Common.{◌≡◌, ◌<◌, Some, length, refl, sym, ap, ◌∙◌}
use Rattle.std.specs.Prelude.{slice_get}
use Rattle.std.proofs.lemmas.Bool.{ltb-true}
use Rattle.std.proofs.lemmas.Option.{same_Some, slice_get_read}
use Rattle.rh_shared.proofs.closing.stands_at.Goals as goal

pub returns-in-Some : goal.returns-in-Some
returns-in-Some c =
    let share = c.args.share.now in
    let own = c.in-Some.own.now in
    let within : c.args.before < length share = ltb-true c.args.before (length share) (sym c.in-Some.ensures.lookup.0) in
    let got : slice_get share c.args.before ≡ Some own = slice_get_read share (length share) c.args.before own refl within c.in-Some.ensures.lookup.1 in
    (λ same. got ∙ ap Some (c.is_same_call.ensures.0 same), λ stands. c.is_same_call.ensures.1 (same_Some own c.args.call.now (sym got ∙ stands)))
