use Rattle.std.proofs.Common.{List, ◌++◌, false, map, ap, sym, refl}
use Rattle.rh_layout.specs.declared.value.Value.{Value}
use Rattle.rh_layout.specs.declared.command.RootId.{RootId}
use Rattle.rh_snapshot.specs.Text.{edges_section, listed, nodes_section, root_string, snapshot_text, strings_section}
use Rattle.rh_snapshot.proofs.Sections.{end_text, names_text}
use Rattle.std.proofs.lemmas.Result.{err_from_is_err_and}
use Rattle.rh_dump.proofs.texts.Counts.{made_by, spent_by, made_after, spent_after, made_more, spent_more, err_ok, err_err}
use Rattle.rh_dump.proofs.texts.Sending.{Sent-begin, Sent-next, Sent-less, Sent-last, Sent-last_less, on_ok, on_err}
use Rattle.rh_snapshot.proofs.writing.write_snapshot.Goals as goal

pub returns-in_err-write_all_nodes-clause-err : goal.returns-in_err-write_all_nodes-clause-err
returns-in_err-write_all_nodes-clause-err g c =
    let p = err_from_is_err_and c.from_residual.result c.from_residual.ensures.1 in
    rw p.1 (Sent-less (g.W.Write.contents c.args.writer.now) (g.W.Write.contents c.args.writer.now) (g.W.Write.contents c.write_all_nodes.new.writer) (snapshot_text c.args.graph.now) (snapshot_text c.args.graph.now) (nodes_section c.args.graph.now) (edges_section c.args.graph.now ++ strings_section c.args.graph.now) (Sent-begin (g.W.Write.contents c.args.writer.now) (snapshot_text c.args.graph.now)) (refl) c.in_err-write_all_nodes.ensures.err)

pub returns-in_err-write_all_nodes-clause-ok : goal.returns-in_err-write_all_nodes-clause-ok
returns-in_err-write_all_nodes-clause-ok g c = err_ok _ c.from_residual.result c.from_residual.ensures.0

pub returns-in_err-write_all_nodes-clause-none_failed : goal.returns-in_err-write_all_nodes-clause-none_failed
returns-in_err-write_all_nodes-clause-none_failed g c = err_ok _ c.from_residual.result c.from_residual.ensures.0

pub returns-in_err-write_all_nodes-clause-failed : goal.returns-in_err-write_all_nodes-clause-failed
returns-in_err-write_all_nodes-clause-failed g c = err_err c.from_residual.result c.in_err-write_all_nodes.ensures.failed

pub returns-in_err-write_all_nodes-clause-spent : goal.returns-in_err-write_all_nodes-clause-spent
returns-in_err-write_all_nodes-clause-spent g c =
    err_err c.from_residual.result (c.in_err-write_all_nodes.ensures.spent)

pub returns-in_err-write_all_nodes-clause-counted : goal.returns-in_err-write_all_nodes-clause-counted
returns-in_err-write_all_nodes-clause-counted g c =
    c.write_all_nodes.ensures.counted

pub returns-in_err-write_all_edges-clause-err : goal.returns-in_err-write_all_edges-clause-err
returns-in_err-write_all_edges-clause-err g c =
    let p = err_from_is_err_and c.from_residual-in_err-write_all_edges.result c.from_residual-in_err-write_all_edges.ensures.1 in
    let s0 = Sent-next (g.W.Write.contents c.args.writer.now) (g.W.Write.contents c.args.writer.now) (g.W.Write.contents c.write_all_nodes.new.writer) (snapshot_text c.args.graph.now) (snapshot_text c.args.graph.now) (nodes_section c.args.graph.now) (edges_section c.args.graph.now ++ strings_section c.args.graph.now) (Sent-begin (g.W.Write.contents c.args.writer.now) (snapshot_text c.args.graph.now)) (refl) c.in_ok-write_all_nodes.ensures.ok in
    rw p.1 (Sent-less (g.W.Write.contents c.args.writer.now) (g.W.Write.contents c.write_all_nodes.new.writer) (g.W.Write.contents c.write_all_edges.new.writer) (snapshot_text c.args.graph.now) (edges_section c.args.graph.now ++ strings_section c.args.graph.now) (edges_section c.args.graph.now) (strings_section c.args.graph.now) (s0) (refl) c.in_err-write_all_edges.ensures.err)

pub returns-in_err-write_all_edges-clause-ok : goal.returns-in_err-write_all_edges-clause-ok
returns-in_err-write_all_edges-clause-ok g c = err_ok _ c.from_residual-in_err-write_all_edges.result c.from_residual-in_err-write_all_edges.ensures.0

pub returns-in_err-write_all_edges-clause-none_failed : goal.returns-in_err-write_all_edges-clause-none_failed
returns-in_err-write_all_edges-clause-none_failed g c = err_ok _ c.from_residual-in_err-write_all_edges.result c.from_residual-in_err-write_all_edges.ensures.0

pub returns-in_err-write_all_edges-clause-failed : goal.returns-in_err-write_all_edges-clause-failed
returns-in_err-write_all_edges-clause-failed g c = err_err c.from_residual-in_err-write_all_edges.result c.in_err-write_all_edges.ensures.failed

pub returns-in_err-write_all_edges-clause-spent : goal.returns-in_err-write_all_edges-clause-spent
returns-in_err-write_all_edges-clause-spent g c =
    let m0 = c.write_all_nodes.ensures.counted in
    err_err c.from_residual-in_err-write_all_edges.result (spent_after c.args.writes.now c.write_all_nodes.new.writes c.write_all_edges.new.writes m0 c.in_err-write_all_edges.ensures.spent)

pub returns-in_err-write_all_edges-clause-counted : goal.returns-in_err-write_all_edges-clause-counted
returns-in_err-write_all_edges-clause-counted g c =
    let m0 = c.write_all_nodes.ensures.counted in
    made_after c.args.writes.now c.write_all_nodes.new.writes c.write_all_edges.new.writes m0 c.write_all_edges.ensures.counted

pub returns-in_err-send-clause-err : goal.returns-in_err-send-clause-err
returns-in_err-send-clause-err g c =
    let p = err_from_is_err_and c.from_residual-in_err-send.result c.from_residual-in_err-send.ensures.1 in
    let s0 = Sent-next (g.W.Write.contents c.args.writer.now) (g.W.Write.contents c.args.writer.now) (g.W.Write.contents c.write_all_nodes.new.writer) (snapshot_text c.args.graph.now) (snapshot_text c.args.graph.now) (nodes_section c.args.graph.now) (edges_section c.args.graph.now ++ strings_section c.args.graph.now) (Sent-begin (g.W.Write.contents c.args.writer.now) (snapshot_text c.args.graph.now)) (refl) c.in_ok-write_all_nodes.ensures.ok in
    let s1 = Sent-next (g.W.Write.contents c.args.writer.now) (g.W.Write.contents c.write_all_nodes.new.writer) (g.W.Write.contents c.write_all_edges.new.writer) (snapshot_text c.args.graph.now) (edges_section c.args.graph.now ++ strings_section c.args.graph.now) (edges_section c.args.graph.now) (strings_section c.args.graph.now) (s0) (refl) c.in_ok-write_all_edges.ensures.ok in
    rw p.1 (Sent-less (g.W.Write.contents c.args.writer.now) (g.W.Write.contents c.write_all_edges.new.writer) (g.W.Write.contents c.send.new.writer) (snapshot_text c.args.graph.now) (strings_section c.args.graph.now) (names_text) (listed false (map root_string c.args.graph.now.roots) ++ end_text) (s1) (refl) c.in_err-send.ensures.err)

pub returns-in_err-send-clause-ok : goal.returns-in_err-send-clause-ok
returns-in_err-send-clause-ok g c = err_ok _ c.from_residual-in_err-send.result c.from_residual-in_err-send.ensures.0

pub returns-in_err-send-clause-none_failed : goal.returns-in_err-send-clause-none_failed
returns-in_err-send-clause-none_failed g c = err_ok _ c.from_residual-in_err-send.result c.from_residual-in_err-send.ensures.0

pub returns-in_err-send-clause-failed : goal.returns-in_err-send-clause-failed
returns-in_err-send-clause-failed g c = err_err c.from_residual-in_err-send.result c.in_err-send.ensures.failed

pub returns-in_err-send-clause-spent : goal.returns-in_err-send-clause-spent
returns-in_err-send-clause-spent g c =
    let m0 = c.write_all_nodes.ensures.counted in
    let m1 = made_after c.args.writes.now c.write_all_nodes.new.writes c.write_all_edges.new.writes m0 c.write_all_edges.ensures.counted in
    err_err c.from_residual-in_err-send.result (spent_more c.args.writes.now c.write_all_edges.new.writes c.send.new.writes m1 c.in_err-send.ensures.failed c.send.ensures.counted)

pub returns-in_err-send-clause-counted : goal.returns-in_err-send-clause-counted
returns-in_err-send-clause-counted g c =
    let m0 = c.write_all_nodes.ensures.counted in
    let m1 = made_after c.args.writes.now c.write_all_nodes.new.writes c.write_all_edges.new.writes m0 c.write_all_edges.ensures.counted in
    made_more c.args.writes.now c.write_all_edges.new.writes c.send.new.writes m1 c.send.ensures.counted

pub returns-in_err-write_strings-clause-err : goal.returns-in_err-write_strings-clause-err
returns-in_err-write_strings-clause-err g c =
    let p = err_from_is_err_and c.from_residual-in_err-write_strings.result c.from_residual-in_err-write_strings.ensures.1 in
    let s0 = Sent-next (g.W.Write.contents c.args.writer.now) (g.W.Write.contents c.args.writer.now) (g.W.Write.contents c.write_all_nodes.new.writer) (snapshot_text c.args.graph.now) (snapshot_text c.args.graph.now) (nodes_section c.args.graph.now) (edges_section c.args.graph.now ++ strings_section c.args.graph.now) (Sent-begin (g.W.Write.contents c.args.writer.now) (snapshot_text c.args.graph.now)) (refl) c.in_ok-write_all_nodes.ensures.ok in
    let s1 = Sent-next (g.W.Write.contents c.args.writer.now) (g.W.Write.contents c.write_all_nodes.new.writer) (g.W.Write.contents c.write_all_edges.new.writer) (snapshot_text c.args.graph.now) (edges_section c.args.graph.now ++ strings_section c.args.graph.now) (edges_section c.args.graph.now) (strings_section c.args.graph.now) (s0) (refl) c.in_ok-write_all_edges.ensures.ok in
    let s2 = Sent-next (g.W.Write.contents c.args.writer.now) (g.W.Write.contents c.write_all_edges.new.writer) (g.W.Write.contents c.send.new.writer) (snapshot_text c.args.graph.now) (strings_section c.args.graph.now) (names_text) (listed false (map root_string c.args.graph.now.roots) ++ end_text) (s1) (refl) c.in_ok-send.ensures.ok in
    rw p.1 (Sent-less (g.W.Write.contents c.args.writer.now) (g.W.Write.contents c.send.new.writer) (g.W.Write.contents c.write_strings.new.writer) (snapshot_text c.args.graph.now) (listed false (map root_string c.args.graph.now.roots) ++ end_text) (listed false (map root_string c.root_entries.result.now)) (end_text) (s2) (ap (λ (r : List (RootId × Value)). listed false (map root_string r) ++ end_text) (sym c.root_entries.ensures)) c.in_err-write_strings.ensures.err)

pub returns-in_err-write_strings-clause-ok : goal.returns-in_err-write_strings-clause-ok
returns-in_err-write_strings-clause-ok g c = err_ok _ c.from_residual-in_err-write_strings.result c.from_residual-in_err-write_strings.ensures.0

pub returns-in_err-write_strings-clause-none_failed : goal.returns-in_err-write_strings-clause-none_failed
returns-in_err-write_strings-clause-none_failed g c = err_ok _ c.from_residual-in_err-write_strings.result c.from_residual-in_err-write_strings.ensures.0

pub returns-in_err-write_strings-clause-failed : goal.returns-in_err-write_strings-clause-failed
returns-in_err-write_strings-clause-failed g c = err_err c.from_residual-in_err-write_strings.result c.in_err-write_strings.ensures.failed

pub returns-in_err-write_strings-clause-spent : goal.returns-in_err-write_strings-clause-spent
returns-in_err-write_strings-clause-spent g c =
    let m0 = c.write_all_nodes.ensures.counted in
    let m1 = made_after c.args.writes.now c.write_all_nodes.new.writes c.write_all_edges.new.writes m0 c.write_all_edges.ensures.counted in
    let m2 = made_more c.args.writes.now c.write_all_edges.new.writes c.send.new.writes m1 c.send.ensures.counted in
    err_err c.from_residual-in_err-write_strings.result (spent_after c.args.writes.now c.send.new.writes c.write_strings.new.writes m2 c.in_err-write_strings.ensures.spent)

pub returns-in_err-write_strings-clause-counted : goal.returns-in_err-write_strings-clause-counted
returns-in_err-write_strings-clause-counted g c =
    let m0 = c.write_all_nodes.ensures.counted in
    let m1 = made_after c.args.writes.now c.write_all_nodes.new.writes c.write_all_edges.new.writes m0 c.write_all_edges.ensures.counted in
    let m2 = made_more c.args.writes.now c.write_all_edges.new.writes c.send.new.writes m1 c.send.ensures.counted in
    made_after c.args.writes.now c.send.new.writes c.write_strings.new.writes m2 c.write_strings.ensures.counted

pub returns-clause-ok : goal.returns-clause-ok
returns-clause-ok g c =
    let s0 = Sent-next (g.W.Write.contents c.args.writer.now) (g.W.Write.contents c.args.writer.now) (g.W.Write.contents c.write_all_nodes.new.writer) (snapshot_text c.args.graph.now) (snapshot_text c.args.graph.now) (nodes_section c.args.graph.now) (edges_section c.args.graph.now ++ strings_section c.args.graph.now) (Sent-begin (g.W.Write.contents c.args.writer.now) (snapshot_text c.args.graph.now)) (refl) c.in_ok-write_all_nodes.ensures.ok in
    let s1 = Sent-next (g.W.Write.contents c.args.writer.now) (g.W.Write.contents c.write_all_nodes.new.writer) (g.W.Write.contents c.write_all_edges.new.writer) (snapshot_text c.args.graph.now) (edges_section c.args.graph.now ++ strings_section c.args.graph.now) (edges_section c.args.graph.now) (strings_section c.args.graph.now) (s0) (refl) c.in_ok-write_all_edges.ensures.ok in
    let s2 = Sent-next (g.W.Write.contents c.args.writer.now) (g.W.Write.contents c.write_all_edges.new.writer) (g.W.Write.contents c.send.new.writer) (snapshot_text c.args.graph.now) (strings_section c.args.graph.now) (names_text) (listed false (map root_string c.args.graph.now.roots) ++ end_text) (s1) (refl) c.in_ok-send.ensures.ok in
    let s3 = Sent-next (g.W.Write.contents c.args.writer.now) (g.W.Write.contents c.send.new.writer) (g.W.Write.contents c.write_strings.new.writer) (snapshot_text c.args.graph.now) (listed false (map root_string c.args.graph.now.roots) ++ end_text) (listed false (map root_string c.root_entries.result.now)) (end_text) (s2) (ap (λ (r : List (RootId × Value)). listed false (map root_string r) ++ end_text) (sym c.root_entries.ensures)) c.in_ok-write_strings.ensures.ok in
    on_ok c.send-2.result (Sent-last (g.W.Write.contents c.args.writer.now) (g.W.Write.contents c.write_strings.new.writer) (g.W.Write.contents c.send-2.new.writer) (snapshot_text c.args.graph.now) (end_text) s3) c.send-2.ensures.ok

pub returns-clause-err : goal.returns-clause-err
returns-clause-err g c =
    let s0 = Sent-next (g.W.Write.contents c.args.writer.now) (g.W.Write.contents c.args.writer.now) (g.W.Write.contents c.write_all_nodes.new.writer) (snapshot_text c.args.graph.now) (snapshot_text c.args.graph.now) (nodes_section c.args.graph.now) (edges_section c.args.graph.now ++ strings_section c.args.graph.now) (Sent-begin (g.W.Write.contents c.args.writer.now) (snapshot_text c.args.graph.now)) (refl) c.in_ok-write_all_nodes.ensures.ok in
    let s1 = Sent-next (g.W.Write.contents c.args.writer.now) (g.W.Write.contents c.write_all_nodes.new.writer) (g.W.Write.contents c.write_all_edges.new.writer) (snapshot_text c.args.graph.now) (edges_section c.args.graph.now ++ strings_section c.args.graph.now) (edges_section c.args.graph.now) (strings_section c.args.graph.now) (s0) (refl) c.in_ok-write_all_edges.ensures.ok in
    let s2 = Sent-next (g.W.Write.contents c.args.writer.now) (g.W.Write.contents c.write_all_edges.new.writer) (g.W.Write.contents c.send.new.writer) (snapshot_text c.args.graph.now) (strings_section c.args.graph.now) (names_text) (listed false (map root_string c.args.graph.now.roots) ++ end_text) (s1) (refl) c.in_ok-send.ensures.ok in
    let s3 = Sent-next (g.W.Write.contents c.args.writer.now) (g.W.Write.contents c.send.new.writer) (g.W.Write.contents c.write_strings.new.writer) (snapshot_text c.args.graph.now) (listed false (map root_string c.args.graph.now.roots) ++ end_text) (listed false (map root_string c.root_entries.result.now)) (end_text) (s2) (ap (λ (r : List (RootId × Value)). listed false (map root_string r) ++ end_text) (sym c.root_entries.ensures)) c.in_ok-write_strings.ensures.ok in
    on_err c.send-2.result (Sent-last_less (g.W.Write.contents c.args.writer.now) (g.W.Write.contents c.write_strings.new.writer) (g.W.Write.contents c.send-2.new.writer) (snapshot_text c.args.graph.now) (end_text) s3) c.send-2.ensures.err

pub returns-clause-failed : goal.returns-clause-failed
returns-clause-failed g c = c.send-2.ensures.failed

pub returns-clause-none_failed : goal.returns-clause-none_failed
returns-clause-none_failed g c = c.send-2.ensures.none_failed

pub returns-clause-spent : goal.returns-clause-spent
returns-clause-spent g c =
    let m0 = c.write_all_nodes.ensures.counted in
    let m1 = made_after c.args.writes.now c.write_all_nodes.new.writes c.write_all_edges.new.writes m0 c.write_all_edges.ensures.counted in
    let m2 = made_more c.args.writes.now c.write_all_edges.new.writes c.send.new.writes m1 c.send.ensures.counted in
    let m3 = made_after c.args.writes.now c.send.new.writes c.write_strings.new.writes m2 c.write_strings.ensures.counted in
    on_err c.send-2.result (λ spent. spent_more c.args.writes.now c.write_strings.new.writes c.send-2.new.writes m3 spent c.send-2.ensures.counted) c.send-2.ensures.failed

pub returns-clause-counted : goal.returns-clause-counted
returns-clause-counted g c =
    let m0 = c.write_all_nodes.ensures.counted in
    let m1 = made_after c.args.writes.now c.write_all_nodes.new.writes c.write_all_edges.new.writes m0 c.write_all_edges.ensures.counted in
    let m2 = made_more c.args.writes.now c.write_all_edges.new.writes c.send.new.writes m1 c.send.ensures.counted in
    let m3 = made_after c.args.writes.now c.send.new.writes c.write_strings.new.writes m2 c.write_strings.ensures.counted in
    made_more c.args.writes.now c.write_strings.new.writes c.send-2.new.writes m3 c.send-2.ensures.counted
