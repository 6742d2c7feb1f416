use Rattle.std.proofs.Common.{Result, ap, subst, ◌∙◌}
use Rattle.rh_syntax.specs.declared.fault.TraceFault.{TraceFault}
use Rattle.rh_syntax.specs.Spelling.{Script}
use Rattle.rh_syntax.specs.Reading.{Gives, trace_of}
use Rattle.rh_syntax.specs.lemmas.ReadIsSpelled.{parsed_is_spelled}
use Rattle.rh_syntax.specs.lemmas.SpelledIsRead.{trace_of-spelling}
use Rattle.rh_syntax.proofs.trace.parse.Goals as goal

pub returns-clause-found : goal.returns-clause-found
returns-clause-found g c = parsed_is_spelled c.args.bytes.now c.trace_in.result c.trace_in.ensures

pub returns-clause-only : goal.returns-clause-only
returns-clause-only g c = λ t is e. subst (λ (r : Result Script TraceFault). Gives (λ x. x) c.trace_in.result r) (ap trace_of e ∙ trace_of-spelling t is) c.trace_in.ensures
