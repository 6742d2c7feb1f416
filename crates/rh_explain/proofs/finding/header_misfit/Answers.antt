use Rattle.std.proofs.Common.{map, length, sym, ap, subst, ◌∙◌, List, ℕ}
use Rattle.std.proofs.lemmas.List.{length-map}
use Rattle.rh_text.specs.Parts.{parts_of, parts_left}
use Rattle.rh_text.specs.lemmas.Stages.{Judges}
use Rattle.rh_syntax.specs.Faults.{Sort, each_part}
use Rattle.rh_explain.specs.Explain.{sort_of, class}
use Rattle.rh_explain.specs.Judging.{misfit_verdict, IsMiscounted}
use Rattle.rh_explain.proofs.Lines.{header_line, header_count_line, no_heap_line, no_header_line}
use Rattle.rh_explain.proofs.Places.{no_parts_place, no_heap_place, header_count_place, header_found}
use Rattle.rh_explain.proofs.Walk.{first_is, none_left, misfit_judged}
use Rattle.rh_explain.proofs.finding.header_misfit.Goals as goal

pub returns-in_default-clause-judged : goal.returns-in_default-clause-judged
returns-in_default-clause-judged c = no_header_line (parts_of c.args.line.now) (none_left _ c.in_default.ensures)

pub returns-in_default-clause-place : goal.returns-in_default-clause-place
returns-in_default-clause-place c = no_parts_place (parts_of c.args.line.now) (none_left _ c.in_default.ensures)

pub returns-then-not-is_text-clause-judged : goal.returns-then-not-is_text-clause-judged
returns-then-not-is_text-clause-judged c =
    let is = first_is _ _ c.in-Some.ensures in
    no_heap_line (parts_of c.args.line.now) c.in-Some.first.now (parts_left c.in-Some.field-0-1) (class c.why_no_heap.result) is (sym c.is_text.ensures ∙ c.if-not-is_text.true) c.why_no_heap.ensures

pub returns-then-not-is_text-clause-place : goal.returns-then-not-is_text-clause-place
returns-then-not-is_text-clause-place c =
    let is = first_is _ _ c.in-Some.ensures in
    no_heap_place (parts_of c.args.line.now) c.in-Some.first.now (parts_left c.in-Some.field-0-1) (class c.why_no_heap.result) is (sym c.is_text.ensures ∙ c.if-not-is_text.true) c.why_no_heap.ensures

pub returns-in-Some-count_misfit-clause-judged : goal.returns-in-Some-count_misfit-clause-judged
returns-in-Some-count_misfit-clause-judged c =
    let six = sym (length-map c.header_row-row.result.form.now sort_of) ∙ ap length c.header_row-row.ensures in
    let parts = parts_of c.args.line.now in
    header_count_line parts c.in-Some-count_misfit.misfit.index (class c.header_count.result.why) (subst (λ (n : ℕ). IsMiscounted n (length parts) c.in-Some-count_misfit.misfit.index) six c.in-Some-count_misfit.ensures.0) c.header_count.ensures.class

pub returns-in-Some-count_misfit-clause-place : goal.returns-in-Some-count_misfit-clause-place
returns-in-Some-count_misfit-clause-place c =
    let is = first_is _ _ c.in-Some.ensures in
    let six = sym (length-map c.header_row-row.result.form.now sort_of) ∙ ap length c.header_row-row.ensures in
    let parts = parts_of c.args.line.now in
    rw c.header_count.ensures.index
    (header_count_place parts c.in-Some.first.now (parts_left c.in-Some.field-0-1) c.in-Some-count_misfit.misfit.index (class c.header_count.result.why) is (sym c.is_text.ensures ∙ c.if-not-is_text.false)
    (subst (λ (n : ℕ). IsMiscounted n (length parts) c.in-Some-count_misfit.misfit.index) six c.in-Some-count_misfit.ensures.0) c.header_count.ensures.class)

pub returns-clause-judged : goal.returns-clause-judged
returns-clause-judged c =
    let is = first_is _ _ c.in-Some.ensures in
    let parts = parts_of c.args.line.now in
    let read = misfit_verdict c.argument_misfit.result in
    let count = c.in_default-count_misfit.ensures ∙ sym (length-map c.header_row-row.result.form.now sort_of) ∙ ap length c.header_row-row.ensures in
    let judged = misfit_judged (map sort_of c.header_row-row.result.form.now) parts c.argument_misfit.result c.argument_misfit.ensures in
    header_line parts c.in-Some.first.now (parts_left c.in-Some.field-0-1) read is (sym c.is_text.ensures ∙ c.if-not-is_text.false) count (subst (λ (sorts : List Sort). Judges (each_part sorts parts) read) c.header_row-row.ensures judged)

pub returns-clause-place : goal.returns-clause-place
returns-clause-place c =
    let is = first_is _ _ c.in-Some.ensures in
    header_found (parts_of c.args.line.now) c.in-Some.first.now (parts_left c.in-Some.field-0-1) (map sort_of c.header_row-row.result.form.now) c.argument_misfit.result is (sym c.is_text.ensures ∙ c.if-not-is_text.false) c.header_row-row.ensures c.argument_misfit.ensures
