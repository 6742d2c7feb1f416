use Rattle.std.proofs.Common.{◌≡◌, Some, Ok, sym, ap, ◌∙◌}
use Rattle.std.proofs.lemmas.Result.{err_from_is_err_and}
use Rattle.rh_dump.specs.Dump.{met_with}
use Rattle.rh_dump.specs.Graph.{FlatGraph}
use Rattle.rh_dump.specs.texts.Line.{root_due}
use Rattle.rh_dump.specs.declared.reading.due.Due.{Due}
use Rattle.rh_dump.proofs.texts.PutRead.{root_refused, root_put}
use Rattle.rh_dump.proofs.reading.line_reading.read_root.Goals as goal

pub returns-in_err-root : goal.returns-in_err-root
returns-in_err-root g c =
    let p = err_from_is_err_and c.from_residual.result c.from_residual.ensures.1 in
    rw (p.1, p.2) (root_refused c.args.builder.now c.args.version c.args.left c.args.last c.args.met c.args.line.now c.in_err-root.field-0.0 c.in_err-root.ensures.value)

pub returns-in_err-push_root : goal.returns-in_err-push_root
returns-in_err-push_root g c =
    let p = err_from_is_err_and c.from_residual-in_err-push_root.result c.from_residual-in_err-push_root.ensures.1 in rw (p.1, p.2) tt

pub returns : goal.returns
returns g c =
    let flat = c.args.builder.now in
    let root = c.in_ok-root.root in
    let value = c.in_ok-root.value in
    let due : c.root_due.result ≡ root_due c.args.version c.args.left (Some root) (met_with c.args.met value) = c.root_due.ensures ∙ ap (root_due c.args.version c.args.left (Some root)) c.met_with.ensures in
    root_put flat c.args.version c.args.left c.args.last c.args.met c.args.line.now root value c.in_ok-root.ensures.value
    ∙ ap (λ (f : FlatGraph). Ok (f, root_due c.args.version c.args.left (Some root) (met_with c.args.met value))) (sym c.in_ok-push_root.ensures.ok)
    ∙ ap (λ (d : Due). Ok (c.push_root.new.self, d)) (sym due)
