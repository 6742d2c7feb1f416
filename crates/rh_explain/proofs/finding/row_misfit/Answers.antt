use Rattle.std.proofs.Common.{map, sym, inl, length, subst, ◌∙◌, ℕ}
use Rattle.std.proofs.lemmas.List.{length-map}
use Rattle.rh_text.specs.Parts.{parts_of}
use Rattle.rh_explain.specs.Explain.{sort_of}
use Rattle.rh_explain.specs.Judging.{misfit_verdict, IsMiscounted}
use Rattle.rh_explain.proofs.Lines.{parts_judged, count_judged}
use Rattle.rh_explain.proofs.Walk.{misfit_judged, misfit_placed}
use Rattle.rh_explain.proofs.finding.row_misfit.Goals as goal

pub returns-in-Some-clause-judged : goal.returns-in-Some-clause-judged
returns-in-Some-clause-judged c =
    let form = c.args.row.form.now in
    let parts = parts_of c.args.line.now in
    rw c.in-Some.ensures.1 (count_judged (map sort_of form) parts c.in-Some.misfit.index (subst (λ (n : ℕ). IsMiscounted n (length parts) c.in-Some.misfit.index) (sym (length-map form sort_of)) c.in-Some.ensures.0))

pub returns-in-Some-clause-place : goal.returns-in-Some-clause-place
returns-in-Some-clause-place c =
    let form = c.args.row.form.now in
    let parts = parts_of c.args.line.now in
    inl (c.in-Some.ensures.1, subst (λ (n : ℕ). IsMiscounted n (length parts) c.in-Some.misfit.index) (sym (length-map form sort_of)) c.in-Some.ensures.0)

pub returns-clause-judged : goal.returns-clause-judged
returns-clause-judged c =
    let sorts = map sort_of c.args.row.form.now in
    let parts = parts_of c.args.line.now in
    parts_judged sorts parts (misfit_verdict c.argument_misfit.result) (c.in_default.ensures ∙ sym (length-map c.args.row.form.now sort_of)) (misfit_judged sorts parts c.argument_misfit.result c.argument_misfit.ensures)

pub returns-clause-place : goal.returns-clause-place
returns-clause-place c = misfit_placed (map sort_of c.args.row.form.now) (parts_of c.args.line.now) c.argument_misfit.result c.argument_misfit.ensures
