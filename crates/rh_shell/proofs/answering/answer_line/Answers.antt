use Rattle.std.proofs.Common.{◌≡◌, ◌≤◌, ℕ, true, false, not, is_some, Ok, Err, refl, sym, ap, subst, ◌∙◌}
use Rattle.rh_text.specs.RawLine.{RawLine}
use Rattle.rh_syntax.specs.Reading.{request_or_fault}
use Rattle.rh_syntax.specs.lemmas.LinesInTurn.{number_within}
use Rattle.rh_shell.proofs.Lines.{on_ok, first_fault, next_fault, next_answer}
use Rattle.rh_shell.proofs.answering.answer_line.Goals as goal

pub returns-in-Err-clause-told : goal.returns-in-Err-clause-told
returns-in-Err-clause-told g c =
    let s = c.args.session.now in
    let line : RawLine = record { bytes = c.args.line.now; ended = c.args.ended } in
    let told = c.answer_other.ensures.told in
    let none : is_some s.playing ≡ false = ap is_some (sym (ap (λ x. x.playing) c.session.view_is)) ∙ c.is_none.ensures ∙ ap not c.if-is_none.true in
    (told.0, s, first_fault s.playing s line c.in-Err.fault told.0 none c.in-Err.ensures told.1, on_ok c.answer_other.result refl, told.2)

pub answer_request-requires-clause-few : goal.answer_request-requires-clause-few
answer_request-requires-clause-few g c =
    let line : RawLine = record { bytes = c.args.line.now; ended = c.args.ended } in
    subst (λ (n : ℕ). n ≤ 1048576) (ap (λ x. x.number) c.session.view_is) (number_within c.session.inside.number line c.in-Ok-request_or_fault.request c.in-Ok-request_or_fault.ensures)

pub returns-in-Ok-request_or_fault-clause-told : goal.returns-in-Ok-request_or_fault-clause-told
returns-in-Ok-request_or_fault-clause-told g c =
    let known = g.W.Write.contents in
    let s = c.args.session.now in
    let line : RawLine = record { bytes = c.args.line.now; ended = c.args.ended } in
    let some : is_some s.playing ≡ true = ap is_some (sym (ap (λ x. x.playing) c.session.view_is)) ∙ c.is_none.ensures ∙ ap not c.if-is_none.false in
    let is : Ok c.in-Ok-request_or_fault.request ≡ request_or_fault s.number line = c.in-Ok-request_or_fault.ensures ∙ ap (λ (n : ℕ). request_or_fault n line) (ap (λ x. x.number) c.session.view_is) in
    next_answer s.playing s line c.in-Ok-request_or_fault.request c.answer_request.new.session c.answer_request.result (known c.args.writer.now) (known c.answer_request.new.writer) some is c.answer_request.ensures.told

pub returns-in-Err-request_or_fault-clause-told : goal.returns-in-Err-request_or_fault-clause-told
returns-in-Err-request_or_fault-clause-told g c =
    let s = c.args.session.now in
    let line : RawLine = record { bytes = c.args.line.now; ended = c.args.ended } in
    let told = c.answer_other-in-Err-request_or_fault.ensures.told in
    let some : is_some s.playing ≡ true = ap is_some (sym (ap (λ x. x.playing) c.session.view_is)) ∙ c.is_none.ensures ∙ ap not c.if-is_none.false in
    let is : Err c.in-Err-request_or_fault.fault ≡ request_or_fault s.number line = c.in-Err-request_or_fault.ensures ∙ ap (λ (n : ℕ). request_or_fault n line) (ap (λ x. x.number) c.session.view_is) in
    (told.0, s, next_fault s.playing s line c.in-Err-request_or_fault.fault told.0 some is told.1, on_ok c.answer_other-in-Err-request_or_fault.result refl, told.2)
