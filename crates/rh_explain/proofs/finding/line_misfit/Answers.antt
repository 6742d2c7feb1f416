use Rattle.std.proofs.Common.{ℕ, List, ◌∷◌, sym, ap, ◌∙◌}
use Rattle.rh_text.specs.Parts.{parts_of, parts_left}
use Rattle.rh_explain.specs.Explain.{sorts_of, class}
use Rattle.rh_explain.specs.Judging.{misfit_verdict}
use Rattle.rh_explain.proofs.Lines.{keyword_line, owned_line, keyword_unknown_line, owned_unknown_line, alone_line, blank_line}
use Rattle.rh_explain.proofs.Places.{blank_place, alone_place, unknown_keyword_place, unknown_command_place, keyword_found, owned_found}
use Rattle.rh_explain.proofs.Walk.{first_is, none_left}
use Rattle.rh_explain.proofs.finding.line_misfit.Goals as goal

pub returns-in_default-clause-judged : goal.returns-in_default-clause-judged
returns-in_default-clause-judged c = blank_line (parts_of c.args.line.now) (none_left _ c.in_default.ensures)

pub returns-in_default-clause-place : goal.returns-in_default-clause-place
returns-in_default-clause-place c = blank_place (parts_of c.args.line.now) (none_left _ c.in_default.ensures)

pub returns-in-Some-leading_row-clause-judged : goal.returns-in-Some-leading_row-clause-judged
returns-in-Some-leading_row-clause-judged c =
    let is = first_is _ _ c.in-Some.ensures in
    keyword_line (parts_of c.args.line.now) c.in-Some.first.now (parts_left c.in-Some.rest) (sorts_of c.in-Some-leading_row.row) (misfit_verdict c.row_misfit.result) is
    (sym c.begins_with_digit.ensures ∙ c.if-not-begins_with_digit.true) (sym c.in-Some-leading_row.ensures) c.row_misfit.ensures.judged

pub returns-in-Some-leading_row-clause-place : goal.returns-in-Some-leading_row-clause-place
returns-in-Some-leading_row-clause-place c =
    let is = first_is _ _ c.in-Some.ensures in
    keyword_found (parts_of c.args.line.now) c.in-Some.first.now (parts_left c.in-Some.rest) (sorts_of c.in-Some-leading_row.row) c.row_misfit.result is
    (sym c.begins_with_digit.ensures ∙ c.if-not-begins_with_digit.true) (sym c.in-Some-leading_row.ensures) c.row_misfit.ensures.place

pub returns-in-None-clause-judged : goal.returns-in-None-clause-judged
returns-in-None-clause-judged c =
    let is = first_is _ _ c.in-Some.ensures in
    keyword_unknown_line (parts_of c.args.line.now) c.in-Some.first.now (parts_left c.in-Some.rest) (class c.why_no_keyword.result) is (sym c.begins_with_digit.ensures ∙ c.if-not-begins_with_digit.true) (sym c.in-None.ensures) c.why_no_keyword.ensures

pub returns-in-None-clause-place : goal.returns-in-None-clause-place
returns-in-None-clause-place c =
    let is = first_is _ _ c.in-Some.ensures in
    unknown_keyword_place (parts_of c.args.line.now) c.in-Some.first.now (parts_left c.in-Some.rest) (class c.why_no_keyword.result) is (sym c.begins_with_digit.ensures ∙ c.if-not-begins_with_digit.true) (sym c.in-None.ensures) c.why_no_keyword.ensures

pub returns-in_default-next_part-clause-judged : goal.returns-in_default-next_part-clause-judged
returns-in_default-next_part-clause-judged c =
    let is = first_is _ _ c.in-Some.ensures in
    let then = none_left _ c.in_default-next_part.ensures in
    let owner = c.in-Some.first.now in
    alone_line (parts_of c.args.line.now) owner (is ∙ ap (λ (ps : List (List ℕ)). owner ∷ ps) then) (sym c.begins_with_digit.ensures ∙ c.if-not-begins_with_digit.false)

pub returns-in_default-next_part-clause-place : goal.returns-in_default-next_part-clause-place
returns-in_default-next_part-clause-place c =
    let is = first_is _ _ c.in-Some.ensures in
    let then = none_left _ c.in_default-next_part.ensures in
    let owner = c.in-Some.first.now in
    alone_place (parts_of c.args.line.now) owner (is ∙ ap (λ (ps : List (List ℕ)). owner ∷ ps) then) (sym c.begins_with_digit.ensures ∙ c.if-not-begins_with_digit.false)

pub returns-in-Some-owned_row-clause-judged : goal.returns-in-Some-owned_row-clause-judged
returns-in-Some-owned_row-clause-judged c =
    let is = first_is _ _ c.in-Some.ensures in
    let then = first_is _ _ c.in-Some-next_part.ensures in
    let owner = c.in-Some.first.now in
    owned_line (parts_of c.args.line.now) owner c.in-Some-next_part.word.now (parts_left c.in-Some-next_part.field-0-1) (sorts_of c.in-Some-owned_row.row) (misfit_verdict c.row_misfit-in-Some-owned_row.result) (is ∙ ap (λ (ps : List (List ℕ)). owner ∷ ps) then)
    (sym c.begins_with_digit.ensures ∙ c.if-not-begins_with_digit.false) (sym c.in-Some-owned_row.ensures) c.row_misfit-in-Some-owned_row.ensures.judged

pub returns-in-Some-owned_row-clause-place : goal.returns-in-Some-owned_row-clause-place
returns-in-Some-owned_row-clause-place c =
    let is = first_is _ _ c.in-Some.ensures in
    let then = first_is _ _ c.in-Some-next_part.ensures in
    let owner = c.in-Some.first.now in
    owned_found (parts_of c.args.line.now) owner c.in-Some-next_part.word.now (parts_left c.in-Some-next_part.field-0-1) (sorts_of c.in-Some-owned_row.row) c.row_misfit-in-Some-owned_row.result (is ∙ ap (λ (ps : List (List ℕ)). owner ∷ ps) then)
    (sym c.begins_with_digit.ensures ∙ c.if-not-begins_with_digit.false) (sym c.in-Some-owned_row.ensures) c.row_misfit-in-Some-owned_row.ensures.place

pub returns-in-None-owned_row-clause-judged : goal.returns-in-None-owned_row-clause-judged
returns-in-None-owned_row-clause-judged c =
    let is = first_is _ _ c.in-Some.ensures in
    let then = first_is _ _ c.in-Some-next_part.ensures in
    let owner = c.in-Some.first.now in
    owned_unknown_line (parts_of c.args.line.now) owner c.in-Some-next_part.word.now (parts_left c.in-Some-next_part.field-0-1) (class c.why_no_owned_keyword.result) (is ∙ ap (λ (ps : List (List ℕ)). owner ∷ ps) then) (sym c.begins_with_digit.ensures ∙ c.if-not-begins_with_digit.false) (sym c.in-None-owned_row.ensures) c.why_no_owned_keyword.ensures

pub returns-in-None-owned_row-clause-place : goal.returns-in-None-owned_row-clause-place
returns-in-None-owned_row-clause-place c =
    let is = first_is _ _ c.in-Some.ensures in
    let then = first_is _ _ c.in-Some-next_part.ensures in
    let owner = c.in-Some.first.now in
    unknown_command_place (parts_of c.args.line.now) owner c.in-Some-next_part.word.now (parts_left c.in-Some-next_part.field-0-1) (class c.why_no_owned_keyword.result) (is ∙ ap (λ (ps : List (List ℕ)). owner ∷ ps) then)
    (sym c.begins_with_digit.ensures ∙ c.if-not-begins_with_digit.false) (sym c.in-None-owned_row.ensures) c.why_no_owned_keyword.ensures
