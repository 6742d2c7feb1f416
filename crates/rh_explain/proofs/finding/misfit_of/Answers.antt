use Rattle.rh_text.specs.Parts.{parts_of}
use Rattle.rh_explain.specs.Judging.{misfit_verdict}
use Rattle.rh_explain.proofs.Lines.{of_first, of_later}
use Rattle.rh_explain.proofs.Places.{found_of_first, found_of_later}
use Rattle.rh_explain.proofs.finding.misfit_of.Goals as goal

pub returns-then-number-eq1-clause-judged : goal.returns-then-number-eq1-clause-judged
returns-then-number-eq1-clause-judged c = of_first c.args.number (parts_of c.args.line.now) (misfit_verdict c.header_misfit.result) c.if-number-eq1.true c.header_misfit.ensures.judged

pub returns-then-number-eq1-clause-place : goal.returns-then-number-eq1-clause-place
returns-then-number-eq1-clause-place c = found_of_first c.args.number (parts_of c.args.line.now) c.header_misfit.result c.if-number-eq1.true c.header_misfit.ensures.place

pub returns-clause-judged : goal.returns-clause-judged
returns-clause-judged c = of_later c.args.number (parts_of c.args.line.now) (misfit_verdict c.line_misfit.result) c.if-number-eq1.false c.line_misfit.ensures.judged

pub returns-clause-place : goal.returns-clause-place
returns-clause-place c = found_of_later c.args.number (parts_of c.args.line.now) c.line_misfit.result c.if-number-eq1.false c.line_misfit.ensures.place
