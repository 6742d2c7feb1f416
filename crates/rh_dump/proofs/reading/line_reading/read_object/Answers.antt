use Rattle.std.proofs.Common.{ℕ, Ok, Err, sym, ap, subst, ◌∙◌}
use Rattle.std.proofs.lemmas.Result.{err_from_is_err_and}
use Rattle.rh_text.specs.Parts.{parts_left}
use Rattle.rh_dump.specs.Graph.{FlatGraph}
use Rattle.rh_dump.specs.texts.Reading.{values_or_fault}
use Rattle.rh_dump.specs.texts.Putting.{put_values, Tells}
use Rattle.rh_dump.specs.declared.reading.due.Due.{Due}
use Rattle.rh_dump.proofs.texts.PutRead.{object_refused, object_put, object_fails}
use Rattle.rh_dump.proofs.reading.line_reading.read_object.Goals as goal

pub returns-in_err-shape : goal.returns-in_err-shape
returns-in_err-shape g c =
    let p = err_from_is_err_and c.from_residual.result c.from_residual.ensures.1 in
    rw (p.1, p.2) (object_refused c.args.builder.now c.args.version c.args.number c.args.count c.args.met c.args.line.now c.in_err-shape.field-0.0 c.in_err-shape.ensures.value)

pub returns-in_err-begin_object : goal.returns-in_err-begin_object
returns-in_err-begin_object g c =
    let p = err_from_is_err_and c.from_residual-in_err-begin_object.result c.from_residual-in_err-begin_object.ensures.1 in rw (p.1, p.2) tt

pub returns-in_err-met : goal.returns-in_err-met
returns-in_err-met g c =
    let flat = c.args.builder.now in
    let new = c.read_values.new.builder in
    let error = c.in_err-met.field-0.0 in
    let shape = c.in_ok-shape.shape in
    let parts = parts_left c.in_ok-shape.values in
    let read = values_or_fault shape.raw c.args.count c.args.met parts in
    let p = err_from_is_err_and c.from_residual-in_err-met.result c.from_residual-in_err-met.ensures.1 in
    rw (p.1, p.2) (object_fails flat new c.args.version c.args.number c.args.count c.args.met shape parts c.args.line.now error c.in_ok-shape.ensures.value
    (subst (λ (f : FlatGraph). Tells (λ (m : ℕ). (new, m)) (Err error) (put_values f c.args.met read)) c.in_ok-begin_object.ensures.ok c.in_err-met.ensures))

pub returns : goal.returns
returns g c =
    let flat = c.args.builder.now in
    let shape = c.in_ok-shape.shape in
    let parts = parts_left c.in_ok-shape.values in
    let new = c.read_values.new.builder in
    let read = values_or_fault shape.raw c.args.count c.args.met parts in
    let put = ap (λ (f : FlatGraph). put_values f c.args.met read) (sym c.in_ok-begin_object.ensures.ok) ∙ c.in_ok-met.ensures in
    object_put flat c.args.version c.args.number c.args.count c.args.met shape parts c.args.line.now new c.in_ok-met.met c.in_ok-shape.ensures.value c.in_ok-shape.ensures.count put
    ∙ ap (λ (d : Due). Ok (new, d)) (sym c.object_due.ensures)
