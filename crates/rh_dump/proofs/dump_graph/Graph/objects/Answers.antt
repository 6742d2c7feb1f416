use Rattle.std.proofs.Common.{rules, ◌≡◌, length, sym, ap, ◌∙◌}
use Rattle.rh_dump.specs.Dump.{GraphState}
use Rattle.rh_dump.proofs.numbers.ObjectsIn.{length-objects_in}
use Rattle.rh_dump.proofs.dump_graph.Graph.objects.Goals as goal

pub returns : goal.returns
returns g c =
    let i = c.self.inside in
    let e : c.len.result ≡ length i.shapes.items = search rules in
    e ∙ sym (length-objects_in i.shapes.items i.values.items) ∙ ap (λ (x : GraphState). length x.objects) c.self.view_is
