use Rattle.std.proofs.Common.{◌≡◌, ◌∷◌, ◌++◌, ◌∙◌, sym, arith, inl}
use Rattle.std.specs.Prelude.{decimal}
use Rattle.rh_text.proofs.RootHead.{after_number, root_then, tails}
use Rattle.rh_text.proofs.leading.leading_root.Goals as goal

pub returns-in_err-owner : goal.returns-in_err-owner
returns-in_err-owner c =
    rw c.from_residual.ensures (λ root byte rest owner slot out is.
    c.in_err-owner.ensures root.owner 46 (decimal root.slot ++ byte ∷ rest) owner (inl (omega arith)) (is ∙ root_then root byte rest))

pub returns-in_err-rest : goal.returns-in_err-rest
returns-in_err-rest c =
    let o = c.in_ok-owner in
    rw c.from_residual-in_err-rest.ensures (λ root byte rest owner slot out is.
    c.in_err-rest.ensures (decimal root.slot ++ byte ∷ rest) (after_number c.args.text.now o.rest.now o.owner root.owner 46 (decimal root.slot ++ byte ∷ rest) o.ensures.3 o.ensures.1 owner (inl (omega arith)) (is ∙ root_then root byte rest) o.ensures.2))

pub returns-in_err-slot : goal.returns-in_err-slot
returns-in_err-slot c =
    let o = c.in_ok-owner in
    rw c.from_residual-in_err-slot.ensures (λ root byte rest owner slot out is.
    let after = decimal root.slot ++ byte ∷ rest in
    let stands : o.rest.now ≡ 46 ∷ after = after_number c.args.text.now o.rest.now o.owner root.owner 46 after o.ensures.3 o.ensures.1 owner (inl (omega arith)) (is ∙ root_then root byte rest) o.ensures.2 in
    c.in_err-slot.ensures root.slot byte rest slot out (tails 46 46 c.in_ok-rest.rest.now after (sym c.in_ok-rest.ensures ∙ stands)))
