use Rattle.rh_text.specs.lemmas.Cuts.{lines_found, last_line, cut_shorter}
use Rattle.rh_text.proofs.raw_line.first_line.Goals as goal

pub returns-in-Some-clause-lines : goal.returns-in-Some-clause-lines
returns-in-Some-clause-lines c = lines_found c.args.bytes.now c.in-Some.line.now c.in-Some.rest.now c.requires c.in-Some.ensures

pub returns-in-Some-clause-shorter : goal.returns-in-Some-clause-shorter
returns-in-Some-clause-shorter c = cut_shorter 10 c.args.bytes.now c.in-Some.line.now c.in-Some.rest.now c.in-Some.ensures

pub returns-in-None-clause-lines : goal.returns-in-None-clause-lines
returns-in-None-clause-lines c = last_line c.args.bytes.now c.requires c.in-None.ensures
