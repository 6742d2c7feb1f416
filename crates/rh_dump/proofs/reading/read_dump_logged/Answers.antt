use Rattle.std.proofs.Common.{rules, ℕ, Vec}
use Rattle.rh_dump.specs.Dump.{GraphState}
use Rattle.rh_dump.proofs.texts.ReadInput.{reads_past, reads_told}
use Rattle.rh_dump.proofs.reading.read_dump_logged.Goals as goal

pub returns-in-Ok-clause-told : goal.returns-in-Ok-clause-told
returns-in-Ok-clause-told g c =
    let known = g.R.Read.remaining in
    let left = known c.read_past.new.reader in
    reads_told (λ (made : GraphState). made) c.graph_in_text.result (known c.args.reader.now) left
    (reads_past (λ (v : Vec ℕ g.row.A.Denot). v.items) c.in-Ok.text (λ (made : GraphState). made) c.graph_in_text.result c.deref.result.now (known c.args.reader.now) left c.in-Ok.ensures.bytes c.deref.ensures.value c.graph_in_text.ensures)

pub returns-in-Ok-clause-bytes : goal.returns-in-Ok-clause-bytes
returns-in-Ok-clause-bytes g c =
    let known = g.R.Read.remaining in
    reads_past (λ (v : Vec ℕ g.row.A.Denot). v.items) c.in-Ok.text (λ (made : GraphState). made) c.graph_in_text.result c.deref.result.now (known c.args.reader.now) (known c.read_past.new.reader) c.in-Ok.ensures.bytes c.deref.ensures.value c.graph_in_text.ensures

pub returns-in-Err-Read : goal.returns-in-Err-Read
returns-in-Err-Read g c = search rules
