use Rattle.std.proofs.Common.{List, true, drop, ap, refl, ◌∙◌, arith}
use Rattle.std.proofs.lemmas.Result.{err_from_is_err_and}
use Rattle.std.proofs.lemmas.List.{drop_all}
use Rattle.rh_layout.specs.declared.value.Value.{Value}
use Rattle.rh_layout.specs.declared.command.RootId.{RootId}
use Rattle.rh_dump.proofs.texts.Sending.{Sent-begin, Sent-all}
use Rattle.rh_snapshot.proofs.Parts.{root_edges_less, root_edges_next, root_edges_text}
use Rattle.rh_dump.proofs.texts.Counts.{made_none, made_more, spent_more, err_ok, err_err}
use Rattle.rh_snapshot.proofs.writing.write_root_edges.Goals as goal

pub returns-in_err-send-clause-err : goal.returns-in_err-send-clause-err
returns-in_err-send-clause-err g c =
    let p = err_from_is_err_and c.from_residual.result c.from_residual.ensures.1 in
    rw p.1 (root_edges_less (g.W.Write.contents c.args.writer.now) (g.W.Write.contents c.loop-root.writer) (g.W.Write.contents c.send.new.writer) (root_edges_text true 0 c.args.roots.now) c.as_bytes.result.now c.args.roots.now c.loop-root.is_first c.put_root_edge-is_first.result c.loop-root.position c.loop-root.root-index _ c.loop-root-test.true (c.as_bytes.ensures ∙ c.put_root_edge-is_first.ensures.text) c.put_root_edge-is_first.ensures.next c.loop-root.invariant.sent c.in_err-send.ensures.err)

pub loop-root-preserved : goal.loop-root-preserved
loop-root-preserved g c = record {
  sent = root_edges_next (g.W.Write.contents c.args.writer.now) (g.W.Write.contents c.loop-root.writer) (g.W.Write.contents c.send.new.writer) (root_edges_text true 0 c.args.roots.now) c.as_bytes.result.now c.args.roots.now c.loop-root.is_first c.put_root_edge-is_first.result c.loop-root.position c.loop-root.root-index _ c.loop-root-test.true (c.as_bytes.ensures ∙ c.put_root_edge-is_first.ensures.text) c.put_root_edge-is_first.ensures.next c.loop-root.invariant.sent c.in_ok-send.ensures.ok;
  position = omega (arith, c.loop-root.invariant.position);
  none_failed = c.in_ok-send.ensures.none_failed;
  counted = made_more c.args.writes.now c.loop-root.writes c.send.new.writes c.loop-root.invariant.counted c.send.ensures.counted;
}

pub loop-root-init : goal.loop-root-init
loop-root-init g c = record {
  sent = Sent-begin (g.W.Write.contents c.args.writer.now) (root_edges_text true 0 c.args.roots.now);
  position = refl;
  none_failed = c.requires;
  counted = made_none c.args.writes.now;
}

pub send-requires : goal.send-requires
send-requires g c = c.loop-root.invariant.none_failed

pub returns-in_err-send-clause-ok : goal.returns-in_err-send-clause-ok
returns-in_err-send-clause-ok g c = err_ok _ c.from_residual.result c.from_residual.ensures.0

pub returns-in_err-send-clause-none_failed : goal.returns-in_err-send-clause-none_failed
returns-in_err-send-clause-none_failed g c = err_ok _ c.from_residual.result c.from_residual.ensures.0

pub returns-in_err-send-clause-failed : goal.returns-in_err-send-clause-failed
returns-in_err-send-clause-failed g c = err_err c.from_residual.result c.in_err-send.ensures.failed

pub returns-in_err-send-clause-spent : goal.returns-in_err-send-clause-spent
returns-in_err-send-clause-spent g c = err_err c.from_residual.result (spent_more c.args.writes.now c.loop-root.writes c.send.new.writes c.loop-root.invariant.counted c.in_err-send.ensures.failed c.send.ensures.counted)

pub returns-in_err-send-clause-counted : goal.returns-in_err-send-clause-counted
returns-in_err-send-clause-counted g c = made_more c.args.writes.now c.loop-root.writes c.send.new.writes c.loop-root.invariant.counted c.send.ensures.counted

pub returns-clause-ok : goal.returns-clause-ok
returns-clause-ok g c = Sent-all (g.W.Write.contents c.args.writer.now) (g.W.Write.contents c.loop-root.writer) (root_edges_text true 0 c.args.roots.now) (root_edges_text c.loop-root.is_first c.loop-root.position (drop c.loop-root.root-index c.args.roots.now)) (ap (λ (roots : List (RootId × Value)). root_edges_text c.loop-root.is_first c.loop-root.position roots) (drop_all c.loop-root.root-index c.args.roots.now c.loop-root-test.false)) c.loop-root.invariant.sent

pub returns-clause-err : goal.returns-clause-err
returns-clause-err g c = tt

pub returns-clause-failed : goal.returns-clause-failed
returns-clause-failed g c = tt

pub returns-clause-spent : goal.returns-clause-spent
returns-clause-spent g c = tt

pub returns-clause-none_failed : goal.returns-clause-none_failed
returns-clause-none_failed g c = c.loop-root.invariant.none_failed

pub returns-clause-counted : goal.returns-clause-counted
returns-clause-counted g c = c.loop-root.invariant.counted
