use Rattle.std.proofs.Common.{◌≡◌, ℕ, ◌++◌, ◌∷◌, [], sym, ap, ◌∙◌}
use Rattle.std.proofs.lemmas.Result.{err_from_is_err_and}
use Rattle.rh_text.specs.Parts.{parts_left}
use Rattle.rh_dump.specs.Graph.{FlatGraph}
use Rattle.rh_dump.specs.texts.Reading.{values_or_fault}
use Rattle.rh_dump.specs.texts.Putting.{put_values}
use Rattle.rh_dump.proofs.texts.PutRead.{first_is, none_left, values_next, values_stop, values_done}
use Rattle.rh_dump.proofs.reading.line_reading.read_values.Goals as goal

pub returns-in_err-value : goal.returns-in_err-value
returns-in_err-value g c =
    let p = err_from_is_err_and c.from_residual.result c.from_residual.ensures.1 in
    let left = parts_left c.loop-part.left in
    let others = parts_left c.in-Some.others in
    let next : left ≡ c.in-Some.part.now ∷ others = first_is left (c.in-Some.part.now, others) c.in-Some.ensures in
    rw (p.1, p.2) (sym c.loop-part.invariant ∙ values_stop c.loop-part.builder c.args.raw c.args.count c.loop-part.met left others c.in-Some.part.now c.in_err-value.field-0.0 next c.in_err-value.ensures.value)

pub returns-in_err-push_value : goal.returns-in_err-push_value
returns-in_err-push_value g c =
    let p = err_from_is_err_and c.from_residual-in_err-push_value.result c.from_residual-in_err-push_value.ensures.1 in rw (p.1, p.2) tt

pub loop-part-preserved : goal.loop-part-preserved
loop-part-preserved g c =
    let flat = c.loop-part.builder in
    let value = c.in_ok-value.value in
    let left = parts_left c.loop-part.left in
    let others = parts_left c.in-Some.others in
    let next : left ≡ c.in-Some.part.now ∷ others = first_is left (c.in-Some.part.now, others) c.in-Some.ensures in
    ap (λ (f : FlatGraph). put_values f c.met_with-met.result (values_or_fault c.args.raw c.args.count c.met_with-met.result others)) c.in_ok-push_value.ensures.ok
    ∙ ap (λ (m : ℕ). put_values (record flat { values = flat.values ++ value ∷ [] }) m (values_or_fault c.args.raw c.args.count m others)) c.met_with-met.ensures
    ∙ values_next flat c.args.raw c.args.count c.loop-part.met left others c.in-Some.part.now value next c.in_ok-value.ensures.value
    ∙ c.loop-part.invariant

pub returns : goal.returns
returns g c =
    let left = parts_left c.loop-part.left in
    sym c.loop-part.invariant ∙ values_done c.loop-part.builder c.args.raw c.args.count c.loop-part.met left (none_left left c.in_default.ensures)
