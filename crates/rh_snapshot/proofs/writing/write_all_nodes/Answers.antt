use Rattle.std.proofs.Common.{List, ◌++◌, false, map, ap, sym, refl, ◌∙◌}
use Rattle.rh_model.specs.Plain.{PlainObject}
use Rattle.rh_dump.specs.Graph.{objects_in}
use Rattle.rh_snapshot.specs.Snapshot.{object_nodes}
use Rattle.rh_snapshot.specs.Text.{listed, meta_text, node_text, nodes_section}
use Rattle.rh_snapshot.proofs.Sections.{counts_of, counts_sent, roots_sent, roots_text}
use Rattle.std.proofs.lemmas.Result.{err_from_is_err_and}
use Rattle.rh_dump.proofs.texts.Counts.{made_by, spent_by, made_after, spent_after, made_more, spent_more, err_ok, err_err}
use Rattle.rh_dump.proofs.texts.Sending.{Sent-begin, Sent-next, Sent-less, Sent-last, Sent-last_less, on_ok, on_err}
use Rattle.rh_snapshot.proofs.writing.write_all_nodes.Goals as goal

pub returns-in_err-send-clause-err : goal.returns-in_err-send-clause-err
returns-in_err-send-clause-err g c =
    let p = err_from_is_err_and c.from_residual.result c.from_residual.ensures.1 in
    rw p.1 (Sent-less (g.W.Write.contents c.args.writer.now) (g.W.Write.contents c.args.writer.now) (g.W.Write.contents c.send.new.writer) (nodes_section c.args.graph.now) (nodes_section c.args.graph.now) (meta_text) (counts_of c.args.graph.now ++ (roots_text c.args.graph.now ++ listed false (map node_text (object_nodes 0 c.args.graph.now.objects)))) (Sent-begin (g.W.Write.contents c.args.writer.now) (nodes_section c.args.graph.now)) (refl) c.in_err-send.ensures.err)

pub returns-in_err-send-clause-ok : goal.returns-in_err-send-clause-ok
returns-in_err-send-clause-ok g c = err_ok _ c.from_residual.result c.from_residual.ensures.0

pub returns-in_err-send-clause-none_failed : goal.returns-in_err-send-clause-none_failed
returns-in_err-send-clause-none_failed g c = err_ok _ c.from_residual.result c.from_residual.ensures.0

pub returns-in_err-send-clause-failed : goal.returns-in_err-send-clause-failed
returns-in_err-send-clause-failed g c = err_err c.from_residual.result c.in_err-send.ensures.failed

pub returns-in_err-send-clause-spent : goal.returns-in_err-send-clause-spent
returns-in_err-send-clause-spent g c =
    err_err c.from_residual.result (spent_by c.args.writes.now c.send.new.writes c.in_err-send.ensures.failed c.send.ensures.counted)

pub returns-in_err-send-clause-counted : goal.returns-in_err-send-clause-counted
returns-in_err-send-clause-counted g c =
    made_by c.args.writes.now c.send.new.writes c.send.ensures.counted

pub returns-in_err-send-2-clause-err : goal.returns-in_err-send-2-clause-err
returns-in_err-send-2-clause-err g c =
    let p = err_from_is_err_and c.from_residual-in_err-send-2.result c.from_residual-in_err-send-2.ensures.1 in
    let s0 = Sent-next (g.W.Write.contents c.args.writer.now) (g.W.Write.contents c.args.writer.now) (g.W.Write.contents c.send.new.writer) (nodes_section c.args.graph.now) (nodes_section c.args.graph.now) (meta_text) (counts_of c.args.graph.now ++ (roots_text c.args.graph.now ++ listed false (map node_text (object_nodes 0 c.args.graph.now.objects)))) (Sent-begin (g.W.Write.contents c.args.writer.now) (nodes_section c.args.graph.now)) (refl) c.in_ok-send.ensures.ok in
    rw p.1 (Sent-less (g.W.Write.contents c.args.writer.now) (g.W.Write.contents c.send.new.writer) (g.W.Write.contents c.send-2.new.writer) (nodes_section c.args.graph.now) (counts_of c.args.graph.now ++ (roots_text c.args.graph.now ++ listed false (map node_text (object_nodes 0 c.args.graph.now.objects)))) (c.as_bytes.result.now) (roots_text c.args.graph.now ++ listed false (map node_text (object_nodes 0 c.args.graph.now.objects))) (s0) (counts_sent c.args.graph.now c.object_parts.result.0.now c.object_parts.result.1.now c.root_entries.result.now c.count_root_references-root_references.result c.count_references.result _ c.object_parts.ensures.objects c.object_parts.ensures.filled c.root_entries.ensures c.count_root_references-root_references.ensures.count c.count_references.ensures.count (c.as_bytes.ensures ∙ c.put_counts.ensures) (roots_text c.args.graph.now ++ listed false (map node_text (object_nodes 0 c.args.graph.now.objects)))) c.in_err-send-2.ensures.err)

pub returns-in_err-send-2-clause-ok : goal.returns-in_err-send-2-clause-ok
returns-in_err-send-2-clause-ok g c = err_ok _ c.from_residual-in_err-send-2.result c.from_residual-in_err-send-2.ensures.0

pub returns-in_err-send-2-clause-none_failed : goal.returns-in_err-send-2-clause-none_failed
returns-in_err-send-2-clause-none_failed g c = err_ok _ c.from_residual-in_err-send-2.result c.from_residual-in_err-send-2.ensures.0

pub returns-in_err-send-2-clause-failed : goal.returns-in_err-send-2-clause-failed
returns-in_err-send-2-clause-failed g c = err_err c.from_residual-in_err-send-2.result c.in_err-send-2.ensures.failed

pub returns-in_err-send-2-clause-spent : goal.returns-in_err-send-2-clause-spent
returns-in_err-send-2-clause-spent g c =
    let m0 = made_by c.args.writes.now c.send.new.writes c.send.ensures.counted in
    err_err c.from_residual-in_err-send-2.result (spent_more c.args.writes.now c.send.new.writes c.send-2.new.writes m0 c.in_err-send-2.ensures.failed c.send-2.ensures.counted)

pub returns-in_err-send-2-clause-counted : goal.returns-in_err-send-2-clause-counted
returns-in_err-send-2-clause-counted g c =
    let m0 = made_by c.args.writes.now c.send.new.writes c.send.ensures.counted in
    made_more c.args.writes.now c.send.new.writes c.send-2.new.writes m0 c.send-2.ensures.counted

pub returns-in_err-send-3-clause-err : goal.returns-in_err-send-3-clause-err
returns-in_err-send-3-clause-err g c =
    let p = err_from_is_err_and c.from_residual-in_err-send-3.result c.from_residual-in_err-send-3.ensures.1 in
    let s0 = Sent-next (g.W.Write.contents c.args.writer.now) (g.W.Write.contents c.args.writer.now) (g.W.Write.contents c.send.new.writer) (nodes_section c.args.graph.now) (nodes_section c.args.graph.now) (meta_text) (counts_of c.args.graph.now ++ (roots_text c.args.graph.now ++ listed false (map node_text (object_nodes 0 c.args.graph.now.objects)))) (Sent-begin (g.W.Write.contents c.args.writer.now) (nodes_section c.args.graph.now)) (refl) c.in_ok-send.ensures.ok in
    let s1 = Sent-next (g.W.Write.contents c.args.writer.now) (g.W.Write.contents c.send.new.writer) (g.W.Write.contents c.send-2.new.writer) (nodes_section c.args.graph.now) (counts_of c.args.graph.now ++ (roots_text c.args.graph.now ++ listed false (map node_text (object_nodes 0 c.args.graph.now.objects)))) (c.as_bytes.result.now) (roots_text c.args.graph.now ++ listed false (map node_text (object_nodes 0 c.args.graph.now.objects))) (s0) (counts_sent c.args.graph.now c.object_parts.result.0.now c.object_parts.result.1.now c.root_entries.result.now c.count_root_references-root_references.result c.count_references.result _ c.object_parts.ensures.objects c.object_parts.ensures.filled c.root_entries.ensures c.count_root_references-root_references.ensures.count c.count_references.ensures.count (c.as_bytes.ensures ∙ c.put_counts.ensures) (roots_text c.args.graph.now ++ listed false (map node_text (object_nodes 0 c.args.graph.now.objects)))) c.in_ok-send-2.ensures.ok in
    rw p.1 (Sent-less (g.W.Write.contents c.args.writer.now) (g.W.Write.contents c.send-2.new.writer) (g.W.Write.contents c.send-3.new.writer) (nodes_section c.args.graph.now) (roots_text c.args.graph.now ++ listed false (map node_text (object_nodes 0 c.args.graph.now.objects))) (c.as_bytes-2.result.now) (listed false (map node_text (object_nodes 0 (objects_in c.object_parts.result.0.now c.object_parts.result.1.now)))) (s1) (roots_sent c.args.graph.now c.object_parts.result.0.now c.object_parts.result.1.now c.root_entries.result.now c.count_root_references-root_references.result _ c.object_parts.ensures.objects c.root_entries.ensures c.count_root_references-root_references.ensures.count (c.as_bytes-2.ensures ∙ c.put_roots_node.ensures) (listed false (map node_text (object_nodes 0 c.args.graph.now.objects))) ∙ ap (λ (o : List PlainObject). c.as_bytes-2.result.now ++ listed false (map node_text (object_nodes 0 o))) (sym c.object_parts.ensures.objects)) c.in_err-send-3.ensures.err)

pub returns-in_err-send-3-clause-ok : goal.returns-in_err-send-3-clause-ok
returns-in_err-send-3-clause-ok g c = err_ok _ c.from_residual-in_err-send-3.result c.from_residual-in_err-send-3.ensures.0

pub returns-in_err-send-3-clause-none_failed : goal.returns-in_err-send-3-clause-none_failed
returns-in_err-send-3-clause-none_failed g c = err_ok _ c.from_residual-in_err-send-3.result c.from_residual-in_err-send-3.ensures.0

pub returns-in_err-send-3-clause-failed : goal.returns-in_err-send-3-clause-failed
returns-in_err-send-3-clause-failed g c = err_err c.from_residual-in_err-send-3.result c.in_err-send-3.ensures.failed

pub returns-in_err-send-3-clause-spent : goal.returns-in_err-send-3-clause-spent
returns-in_err-send-3-clause-spent g c =
    let m0 = made_by c.args.writes.now c.send.new.writes c.send.ensures.counted in
    let m1 = made_more c.args.writes.now c.send.new.writes c.send-2.new.writes m0 c.send-2.ensures.counted in
    err_err c.from_residual-in_err-send-3.result (spent_more c.args.writes.now c.send-2.new.writes c.send-3.new.writes m1 c.in_err-send-3.ensures.failed c.send-3.ensures.counted)

pub returns-in_err-send-3-clause-counted : goal.returns-in_err-send-3-clause-counted
returns-in_err-send-3-clause-counted g c =
    let m0 = made_by c.args.writes.now c.send.new.writes c.send.ensures.counted in
    let m1 = made_more c.args.writes.now c.send.new.writes c.send-2.new.writes m0 c.send-2.ensures.counted in
    made_more c.args.writes.now c.send-2.new.writes c.send-3.new.writes m1 c.send-3.ensures.counted

pub returns-clause-ok : goal.returns-clause-ok
returns-clause-ok g c =
    let s0 = Sent-next (g.W.Write.contents c.args.writer.now) (g.W.Write.contents c.args.writer.now) (g.W.Write.contents c.send.new.writer) (nodes_section c.args.graph.now) (nodes_section c.args.graph.now) (meta_text) (counts_of c.args.graph.now ++ (roots_text c.args.graph.now ++ listed false (map node_text (object_nodes 0 c.args.graph.now.objects)))) (Sent-begin (g.W.Write.contents c.args.writer.now) (nodes_section c.args.graph.now)) (refl) c.in_ok-send.ensures.ok in
    let s1 = Sent-next (g.W.Write.contents c.args.writer.now) (g.W.Write.contents c.send.new.writer) (g.W.Write.contents c.send-2.new.writer) (nodes_section c.args.graph.now) (counts_of c.args.graph.now ++ (roots_text c.args.graph.now ++ listed false (map node_text (object_nodes 0 c.args.graph.now.objects)))) (c.as_bytes.result.now) (roots_text c.args.graph.now ++ listed false (map node_text (object_nodes 0 c.args.graph.now.objects))) (s0) (counts_sent c.args.graph.now c.object_parts.result.0.now c.object_parts.result.1.now c.root_entries.result.now c.count_root_references-root_references.result c.count_references.result _ c.object_parts.ensures.objects c.object_parts.ensures.filled c.root_entries.ensures c.count_root_references-root_references.ensures.count c.count_references.ensures.count (c.as_bytes.ensures ∙ c.put_counts.ensures) (roots_text c.args.graph.now ++ listed false (map node_text (object_nodes 0 c.args.graph.now.objects)))) c.in_ok-send-2.ensures.ok in
    let s2 = Sent-next (g.W.Write.contents c.args.writer.now) (g.W.Write.contents c.send-2.new.writer) (g.W.Write.contents c.send-3.new.writer) (nodes_section c.args.graph.now) (roots_text c.args.graph.now ++ listed false (map node_text (object_nodes 0 c.args.graph.now.objects))) (c.as_bytes-2.result.now) (listed false (map node_text (object_nodes 0 (objects_in c.object_parts.result.0.now c.object_parts.result.1.now)))) (s1) (roots_sent c.args.graph.now c.object_parts.result.0.now c.object_parts.result.1.now c.root_entries.result.now c.count_root_references-root_references.result _ c.object_parts.ensures.objects c.root_entries.ensures c.count_root_references-root_references.ensures.count (c.as_bytes-2.ensures ∙ c.put_roots_node.ensures) (listed false (map node_text (object_nodes 0 c.args.graph.now.objects))) ∙ ap (λ (o : List PlainObject). c.as_bytes-2.result.now ++ listed false (map node_text (object_nodes 0 o))) (sym c.object_parts.ensures.objects)) c.in_ok-send-3.ensures.ok in
    on_ok c.write_nodes.result (Sent-last (g.W.Write.contents c.args.writer.now) (g.W.Write.contents c.send-3.new.writer) (g.W.Write.contents c.write_nodes.new.writer) (nodes_section c.args.graph.now) (listed false (map node_text (object_nodes 0 (objects_in c.object_parts.result.0.now c.object_parts.result.1.now)))) s2) c.write_nodes.ensures.ok

pub returns-clause-err : goal.returns-clause-err
returns-clause-err g c =
    let s0 = Sent-next (g.W.Write.contents c.args.writer.now) (g.W.Write.contents c.args.writer.now) (g.W.Write.contents c.send.new.writer) (nodes_section c.args.graph.now) (nodes_section c.args.graph.now) (meta_text) (counts_of c.args.graph.now ++ (roots_text c.args.graph.now ++ listed false (map node_text (object_nodes 0 c.args.graph.now.objects)))) (Sent-begin (g.W.Write.contents c.args.writer.now) (nodes_section c.args.graph.now)) (refl) c.in_ok-send.ensures.ok in
    let s1 = Sent-next (g.W.Write.contents c.args.writer.now) (g.W.Write.contents c.send.new.writer) (g.W.Write.contents c.send-2.new.writer) (nodes_section c.args.graph.now) (counts_of c.args.graph.now ++ (roots_text c.args.graph.now ++ listed false (map node_text (object_nodes 0 c.args.graph.now.objects)))) (c.as_bytes.result.now) (roots_text c.args.graph.now ++ listed false (map node_text (object_nodes 0 c.args.graph.now.objects))) (s0) (counts_sent c.args.graph.now c.object_parts.result.0.now c.object_parts.result.1.now c.root_entries.result.now c.count_root_references-root_references.result c.count_references.result _ c.object_parts.ensures.objects c.object_parts.ensures.filled c.root_entries.ensures c.count_root_references-root_references.ensures.count c.count_references.ensures.count (c.as_bytes.ensures ∙ c.put_counts.ensures) (roots_text c.args.graph.now ++ listed false (map node_text (object_nodes 0 c.args.graph.now.objects)))) c.in_ok-send-2.ensures.ok in
    let s2 = Sent-next (g.W.Write.contents c.args.writer.now) (g.W.Write.contents c.send-2.new.writer) (g.W.Write.contents c.send-3.new.writer) (nodes_section c.args.graph.now) (roots_text c.args.graph.now ++ listed false (map node_text (object_nodes 0 c.args.graph.now.objects))) (c.as_bytes-2.result.now) (listed false (map node_text (object_nodes 0 (objects_in c.object_parts.result.0.now c.object_parts.result.1.now)))) (s1) (roots_sent c.args.graph.now c.object_parts.result.0.now c.object_parts.result.1.now c.root_entries.result.now c.count_root_references-root_references.result _ c.object_parts.ensures.objects c.root_entries.ensures c.count_root_references-root_references.ensures.count (c.as_bytes-2.ensures ∙ c.put_roots_node.ensures) (listed false (map node_text (object_nodes 0 c.args.graph.now.objects))) ∙ ap (λ (o : List PlainObject). c.as_bytes-2.result.now ++ listed false (map node_text (object_nodes 0 o))) (sym c.object_parts.ensures.objects)) c.in_ok-send-3.ensures.ok in
    on_err c.write_nodes.result (Sent-last_less (g.W.Write.contents c.args.writer.now) (g.W.Write.contents c.send-3.new.writer) (g.W.Write.contents c.write_nodes.new.writer) (nodes_section c.args.graph.now) (listed false (map node_text (object_nodes 0 (objects_in c.object_parts.result.0.now c.object_parts.result.1.now)))) s2) c.write_nodes.ensures.err

pub returns-clause-failed : goal.returns-clause-failed
returns-clause-failed g c = c.write_nodes.ensures.failed

pub returns-clause-none_failed : goal.returns-clause-none_failed
returns-clause-none_failed g c = c.write_nodes.ensures.none_failed

pub returns-clause-spent : goal.returns-clause-spent
returns-clause-spent g c =
    let m0 = made_by c.args.writes.now c.send.new.writes c.send.ensures.counted in
    let m1 = made_more c.args.writes.now c.send.new.writes c.send-2.new.writes m0 c.send-2.ensures.counted in
    let m2 = made_more c.args.writes.now c.send-2.new.writes c.send-3.new.writes m1 c.send-3.ensures.counted in
    on_err c.write_nodes.result (λ spent. spent_after c.args.writes.now c.send-3.new.writes c.write_nodes.new.writes m2 spent) c.write_nodes.ensures.spent

pub returns-clause-counted : goal.returns-clause-counted
returns-clause-counted g c =
    let m0 = made_by c.args.writes.now c.send.new.writes c.send.ensures.counted in
    let m1 = made_more c.args.writes.now c.send.new.writes c.send-2.new.writes m0 c.send-2.ensures.counted in
    let m2 = made_more c.args.writes.now c.send-2.new.writes c.send-3.new.writes m1 c.send-3.ensures.counted in
    made_after c.args.writes.now c.send-3.new.writes c.write_nodes.new.writes m2 c.write_nodes.ensures.counted
