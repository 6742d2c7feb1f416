use Rattle.std.proofs.Common.{Ok, sym, ap, ◌∙◌}
use Rattle.rh_text.specs.RawLine.{lines_of}
use Rattle.rh_dump.specs.Dump.{GraphState}
use Rattle.rh_dump.specs.Graph.{FlatGraph}
use Rattle.rh_dump.specs.texts.Reading.{lines_from}
use Rattle.rh_dump.specs.texts.Putting.{put_lines}
use Rattle.rh_dump.specs.declared.reading.due.Due.TheVariants as dues
use Rattle.rh_dump.proofs.texts.PutLines.{whole, whole_error}
use Rattle.rh_dump.proofs.reading.graph_in_text.Goals as goal

pub finish-requires-clause-filled : goal.finish-requires-clause-filled
finish-requires-clause-filled g c =
    let put = ap (λ (f : FlatGraph). put_lines f (lines_from 268435456 dues.Header 1 0 (lines_of c.args.text.now))) (sym c.new-builder.ensures) ∙ c.in-Ok.ensures in
    (whole 268435456 c.args.text.now c.read_lines.new.builder put).filled

pub finish-requires-clause-graph : goal.finish-requires-clause-graph
finish-requires-clause-graph g c =
    let put = ap (λ (f : FlatGraph). put_lines f (lines_from 268435456 dues.Header 1 0 (lines_of c.args.text.now))) (sym c.new-builder.ensures) ∙ c.in-Ok.ensures in
    (whole 268435456 c.args.text.now c.read_lines.new.builder put).graph

pub returns-in-Ok : goal.returns-in-Ok
returns-in-Ok g c =
    let put = ap (λ (f : FlatGraph). put_lines f (lines_from 268435456 dues.Header 1 0 (lines_of c.args.text.now))) (sym c.new-builder.ensures) ∙ c.in-Ok.ensures in
    (whole 268435456 c.args.text.now c.read_lines.new.builder put).read ∙ ap (λ (made : GraphState). Ok made) (sym c.finish.ensures)

pub returns-in-Err : goal.returns-in-Err
returns-in-Err g c = whole_error (λ (u : Unit {0}). c.read_lines.new.builder) (λ (made : GraphState). made) 268435456 c.args.text.now c.in-Err.error (rw c.new-builder.ensures at c.in-Err.ensures)
