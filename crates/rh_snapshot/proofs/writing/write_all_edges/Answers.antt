use Rattle.std.proofs.Common.{List, ◌++◌, true, false, map, ap₂, sym, refl}
use Rattle.rh_layout.specs.declared.value.Value.{Value}
use Rattle.rh_layout.specs.declared.command.RootId.{RootId}
use Rattle.rh_model.specs.Plain.{PlainObject}
use Rattle.rh_dump.specs.Graph.{objects_in}
use Rattle.rh_snapshot.specs.Snapshot.{object_edges, root_edges}
use Rattle.rh_snapshot.specs.Text.{edge_text, edges_section, listed}
use Rattle.rh_snapshot.proofs.Sections.{edges_open}
use Rattle.std.proofs.lemmas.Result.{err_from_is_err_and}
use Rattle.rh_dump.proofs.texts.Counts.{made_by, spent_by, made_after, spent_after, made_more, spent_more, err_ok, err_err}
use Rattle.rh_dump.proofs.texts.Sending.{Sent-begin, Sent-next, Sent-less, Sent-last, Sent-last_less, on_ok, on_err}
use Rattle.rh_snapshot.proofs.writing.write_all_edges.Goals as goal

pub returns-in_err-send-clause-err : goal.returns-in_err-send-clause-err
returns-in_err-send-clause-err g c =
    let p = err_from_is_err_and c.from_residual.result c.from_residual.ensures.1 in
    rw p.1 (Sent-less (g.W.Write.contents c.args.writer.now) (g.W.Write.contents c.args.writer.now) (g.W.Write.contents c.send.new.writer) (edges_section c.args.graph.now) (edges_section c.args.graph.now) (edges_open) (listed true (map edge_text (root_edges 0 c.args.graph.now.roots)) ++ listed false (map edge_text (object_edges c.args.graph.now.objects))) (Sent-begin (g.W.Write.contents c.args.writer.now) (edges_section c.args.graph.now)) (refl) c.in_err-send.ensures.err)

pub returns-in_err-send-clause-ok : goal.returns-in_err-send-clause-ok
returns-in_err-send-clause-ok g c = err_ok _ c.from_residual.result c.from_residual.ensures.0

pub returns-in_err-send-clause-none_failed : goal.returns-in_err-send-clause-none_failed
returns-in_err-send-clause-none_failed g c = err_ok _ c.from_residual.result c.from_residual.ensures.0

pub returns-in_err-send-clause-failed : goal.returns-in_err-send-clause-failed
returns-in_err-send-clause-failed g c = err_err c.from_residual.result c.in_err-send.ensures.failed

pub returns-in_err-send-clause-spent : goal.returns-in_err-send-clause-spent
returns-in_err-send-clause-spent g c =
    err_err c.from_residual.result (spent_by c.args.writes.now c.send.new.writes c.in_err-send.ensures.failed c.send.ensures.counted)

pub returns-in_err-send-clause-counted : goal.returns-in_err-send-clause-counted
returns-in_err-send-clause-counted g c =
    made_by c.args.writes.now c.send.new.writes c.send.ensures.counted

pub returns-in_err-write_root_edges-clause-err : goal.returns-in_err-write_root_edges-clause-err
returns-in_err-write_root_edges-clause-err g c =
    let p = err_from_is_err_and c.from_residual-in_err-write_root_edges.result c.from_residual-in_err-write_root_edges.ensures.1 in
    let s0 = Sent-next (g.W.Write.contents c.args.writer.now) (g.W.Write.contents c.args.writer.now) (g.W.Write.contents c.send.new.writer) (edges_section c.args.graph.now) (edges_section c.args.graph.now) (edges_open) (listed true (map edge_text (root_edges 0 c.args.graph.now.roots)) ++ listed false (map edge_text (object_edges c.args.graph.now.objects))) (Sent-begin (g.W.Write.contents c.args.writer.now) (edges_section c.args.graph.now)) (refl) c.in_ok-send.ensures.ok in
    rw p.1 (Sent-less (g.W.Write.contents c.args.writer.now) (g.W.Write.contents c.send.new.writer) (g.W.Write.contents c.write_root_edges.new.writer) (edges_section c.args.graph.now) (listed true (map edge_text (root_edges 0 c.args.graph.now.roots)) ++ listed false (map edge_text (object_edges c.args.graph.now.objects))) (listed true (map edge_text (root_edges 0 c.root_entries.result.now))) (listed false (map edge_text (object_edges (objects_in c.object_parts.result.0.now c.object_parts.result.1.now)))) (s0) (ap₂ (λ (r : List (RootId × Value)) (o : List PlainObject). listed true (map edge_text (root_edges 0 r)) ++ listed false (map edge_text (object_edges o))) (sym c.root_entries.ensures) (sym c.object_parts.ensures.objects)) c.in_err-write_root_edges.ensures.err)

pub returns-in_err-write_root_edges-clause-ok : goal.returns-in_err-write_root_edges-clause-ok
returns-in_err-write_root_edges-clause-ok g c = err_ok _ c.from_residual-in_err-write_root_edges.result c.from_residual-in_err-write_root_edges.ensures.0

pub returns-in_err-write_root_edges-clause-none_failed : goal.returns-in_err-write_root_edges-clause-none_failed
returns-in_err-write_root_edges-clause-none_failed g c = err_ok _ c.from_residual-in_err-write_root_edges.result c.from_residual-in_err-write_root_edges.ensures.0

pub returns-in_err-write_root_edges-clause-failed : goal.returns-in_err-write_root_edges-clause-failed
returns-in_err-write_root_edges-clause-failed g c = err_err c.from_residual-in_err-write_root_edges.result c.in_err-write_root_edges.ensures.failed

pub returns-in_err-write_root_edges-clause-spent : goal.returns-in_err-write_root_edges-clause-spent
returns-in_err-write_root_edges-clause-spent g c =
    let m0 = made_by c.args.writes.now c.send.new.writes c.send.ensures.counted in
    err_err c.from_residual-in_err-write_root_edges.result (spent_after c.args.writes.now c.send.new.writes c.write_root_edges.new.writes m0 c.in_err-write_root_edges.ensures.spent)

pub returns-in_err-write_root_edges-clause-counted : goal.returns-in_err-write_root_edges-clause-counted
returns-in_err-write_root_edges-clause-counted g c =
    let m0 = made_by c.args.writes.now c.send.new.writes c.send.ensures.counted in
    made_after c.args.writes.now c.send.new.writes c.write_root_edges.new.writes m0 c.write_root_edges.ensures.counted

pub returns-clause-ok : goal.returns-clause-ok
returns-clause-ok g c =
    let s0 = Sent-next (g.W.Write.contents c.args.writer.now) (g.W.Write.contents c.args.writer.now) (g.W.Write.contents c.send.new.writer) (edges_section c.args.graph.now) (edges_section c.args.graph.now) (edges_open) (listed true (map edge_text (root_edges 0 c.args.graph.now.roots)) ++ listed false (map edge_text (object_edges c.args.graph.now.objects))) (Sent-begin (g.W.Write.contents c.args.writer.now) (edges_section c.args.graph.now)) (refl) c.in_ok-send.ensures.ok in
    let s1 = Sent-next (g.W.Write.contents c.args.writer.now) (g.W.Write.contents c.send.new.writer) (g.W.Write.contents c.write_root_edges.new.writer) (edges_section c.args.graph.now) (listed true (map edge_text (root_edges 0 c.args.graph.now.roots)) ++ listed false (map edge_text (object_edges c.args.graph.now.objects))) (listed true (map edge_text (root_edges 0 c.root_entries.result.now))) (listed false (map edge_text (object_edges (objects_in c.object_parts.result.0.now c.object_parts.result.1.now)))) (s0) (ap₂ (λ (r : List (RootId × Value)) (o : List PlainObject). listed true (map edge_text (root_edges 0 r)) ++ listed false (map edge_text (object_edges o))) (sym c.root_entries.ensures) (sym c.object_parts.ensures.objects)) c.in_ok-write_root_edges.ensures.ok in
    on_ok c.write_object_edges.result (Sent-last (g.W.Write.contents c.args.writer.now) (g.W.Write.contents c.write_root_edges.new.writer) (g.W.Write.contents c.write_object_edges.new.writer) (edges_section c.args.graph.now) (listed false (map edge_text (object_edges (objects_in c.object_parts.result.0.now c.object_parts.result.1.now)))) s1) c.write_object_edges.ensures.ok

pub returns-clause-err : goal.returns-clause-err
returns-clause-err g c =
    let s0 = Sent-next (g.W.Write.contents c.args.writer.now) (g.W.Write.contents c.args.writer.now) (g.W.Write.contents c.send.new.writer) (edges_section c.args.graph.now) (edges_section c.args.graph.now) (edges_open) (listed true (map edge_text (root_edges 0 c.args.graph.now.roots)) ++ listed false (map edge_text (object_edges c.args.graph.now.objects))) (Sent-begin (g.W.Write.contents c.args.writer.now) (edges_section c.args.graph.now)) (refl) c.in_ok-send.ensures.ok in
    let s1 = Sent-next (g.W.Write.contents c.args.writer.now) (g.W.Write.contents c.send.new.writer) (g.W.Write.contents c.write_root_edges.new.writer) (edges_section c.args.graph.now) (listed true (map edge_text (root_edges 0 c.args.graph.now.roots)) ++ listed false (map edge_text (object_edges c.args.graph.now.objects))) (listed true (map edge_text (root_edges 0 c.root_entries.result.now))) (listed false (map edge_text (object_edges (objects_in c.object_parts.result.0.now c.object_parts.result.1.now)))) (s0) (ap₂ (λ (r : List (RootId × Value)) (o : List PlainObject). listed true (map edge_text (root_edges 0 r)) ++ listed false (map edge_text (object_edges o))) (sym c.root_entries.ensures) (sym c.object_parts.ensures.objects)) c.in_ok-write_root_edges.ensures.ok in
    on_err c.write_object_edges.result (Sent-last_less (g.W.Write.contents c.args.writer.now) (g.W.Write.contents c.write_root_edges.new.writer) (g.W.Write.contents c.write_object_edges.new.writer) (edges_section c.args.graph.now) (listed false (map edge_text (object_edges (objects_in c.object_parts.result.0.now c.object_parts.result.1.now)))) s1) c.write_object_edges.ensures.err

pub returns-clause-failed : goal.returns-clause-failed
returns-clause-failed g c = c.write_object_edges.ensures.failed

pub returns-clause-none_failed : goal.returns-clause-none_failed
returns-clause-none_failed g c = c.write_object_edges.ensures.none_failed

pub returns-clause-spent : goal.returns-clause-spent
returns-clause-spent g c =
    let m0 = made_by c.args.writes.now c.send.new.writes c.send.ensures.counted in
    let m1 = made_after c.args.writes.now c.send.new.writes c.write_root_edges.new.writes m0 c.write_root_edges.ensures.counted in
    on_err c.write_object_edges.result (λ spent. spent_after c.args.writes.now c.write_root_edges.new.writes c.write_object_edges.new.writes m1 spent) c.write_object_edges.ensures.spent

pub returns-clause-counted : goal.returns-clause-counted
returns-clause-counted g c =
    let m0 = made_by c.args.writes.now c.send.new.writes c.send.ensures.counted in
    let m1 = made_after c.args.writes.now c.send.new.writes c.write_root_edges.new.writes m0 c.write_root_edges.ensures.counted in
    made_after c.args.writes.now c.write_root_edges.new.writes c.write_object_edges.new.writes m1 c.write_object_edges.ensures.counted
