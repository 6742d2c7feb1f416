use Rattle.std.proofs.Common.{◌≡◌, ◌<◌, length, take, sym, ap, subst, ◌∙◌, arith}
use Rattle.rh_layout.specs.declared.shape.Shape.{Shape}
use Rattle.rh_layout.specs.Shape.{shape_of}
use Rattle.rh_dump.specs.Numbering.{values_in}
use Rattle.rh_dump.specs.Meeting.{NumberingState, IsBelow, with_shape, with_fields}
use Rattle.rh_dump.proofs.numbers.FlatDump.{take-all}
use Rattle.rh_dump.proofs.numbers.NumberingSteps.{with_fields-none, fields-next, IsBelow-field}
use Rattle.rh_dump.proofs.numbering.Numbering.put_object.Goals as goal

pub loop-field-init : goal.loop-field-init
loop-field-init g c =
    let graph = g.H.ObjectGraph.graph c.args.heap.now in
    c.in_ok-put_shape.ensures ∙ ap (with_shape c.args.self.now) c.shape-shape.ensures
    ∙ sym (with_fields-none (with_shape c.args.self.now (shape_of (length (values_in (graph.fields c.args.name))) (graph.raw c.args.name))))

pub put_field-requires : goal.put_field-requires
put_field-requires g c =
    let fields = values_in ((g.H.ObjectGraph.graph c.args.heap.now).fields c.args.name) in
    let count : c.shape-shape.result.fields ≡ length fields = ap (λ (s : Shape). s.fields) c.shape-shape.ensures in
    let within : c.loop-field.field < length fields = omega (arith, count) in
    subst (λ n. IsBelow n c.value.result) (sym (ap (λ (s : NumberingState). s.limit) c.loop-field.invariant))
    (IsBelow-field c.args.self.now.limit (g.H.ObjectGraph.graph c.args.heap.now) c.requires.dumpable c.args.name c.loop-field.field c.value.result within c.value.ensures)

pub loop-field-preserved : goal.loop-field-preserved
loop-field-preserved g c =
    let graph = g.H.ObjectGraph.graph c.args.heap.now in
    let fields = values_in (graph.fields c.args.name) in
    let count : c.shape-shape.result.fields ≡ length fields = ap (λ (s : Shape). s.fields) c.shape-shape.ensures in
    let within : c.loop-field.field < length fields = omega (arith, count) in
    fields-next (with_shape c.args.self.now (shape_of (length fields) (graph.raw c.args.name))) c.loop-field.self c.put_field.new.self fields c.loop-field.field c.value.result within c.loop-field.invariant c.in_ok-put_field.ensures c.value.ensures

pub returns : goal.returns
returns g c =
    let graph = g.H.ObjectGraph.graph c.args.heap.now in
    let fields = values_in (graph.fields c.args.name) in
    let begun = with_shape c.args.self.now (shape_of (length fields) (graph.raw c.args.name)) in
    let count : c.shape-shape.result.fields ≡ length fields = ap (λ (s : Shape). s.fields) c.shape-shape.ensures in
    let last : c.loop-field.field ≡ c.shape-shape.result.fields = omega (arith, c.loop-field.auto.field-end, c.loop-field-test.false) in
    c.loop-field.invariant
    ∙ ap (λ n. with_fields begun (take n fields)) last
    ∙ ap (λ n. with_fields begun (take n fields)) count
    ∙ ap (with_fields begun) (take-all fields)
