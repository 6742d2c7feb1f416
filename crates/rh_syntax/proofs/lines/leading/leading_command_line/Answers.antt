use Rattle.rh_syntax.proofs.Begins.{line_ended, window_leads}
use Rattle.rh_syntax.proofs.lines.leading.leading_command_line.Goals as goal

pub returns-in_err-owner : goal.returns-in_err-owner
returns-in_err-owner c = rw c.from_residual-in_err-owner.ensures tt

pub returns-in_err-rest : goal.returns-in_err-rest
returns-in_err-rest c = rw c.from_residual-in_err-rest.ensures tt

pub returns-in_err-owner-2 : goal.returns-in_err-owner-2
returns-in_err-owner-2 c = rw c.from_residual-in_err-owner-2.ensures tt

pub returns-in_err-rest-2 : goal.returns-in_err-rest-2
returns-in_err-rest-2 c = rw c.from_residual-in_err-rest-2.ensures tt

pub returns : goal.returns
returns c =
    let command = c.in_ok-owner-2.ensures in
    let window = c.in_ok-window.ensures.cases in
    let line = line_ended _ _ _ _ _ _ _ c.in_ok-owner.ensures.1 c.in_ok-rest.ensures command.1 c.in_ok-rest-2.ensures in
    (c.if-number-gt-MAX_LINES.false, command.0, rw c.split_at.ensures.back (window_leads c.args.text.now c.in_ok-window.field-0.now _ c.in_ok-rest-2.rest.now 64 window.enough window.same line))
