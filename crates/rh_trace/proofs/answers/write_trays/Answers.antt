use Rattle.std.proofs.Common.{◌≡◌, ◌+◌, [], get_or, take, Err, ap, subst, sym, ◌∙◌, arith, ℕ, List}
use Rattle.std.specs.Io.KnownBytes.{Appends}
use Rattle.std.proofs.lemmas.Result.{err_from_is_err_and}
use Rattle.std.proofs.lemmas.Option.{get_or_from_slice_get, slice_get_within, slice_get-get_or}
use Rattle.rh_trace.specs.Answers.{with_line_end, trays_text}
use Rattle.rh_engine.specs.CycleAnswers.{tray_text}
use Rattle.rh_engine.specs.Trays.{Tray, tray_of}
use Rattle.rh_trace.specs.Run.{Writes}
use Rattle.rh_text.specs.IoLog.{MadeSince}
use Rattle.rh_text.specs.lemmas.Appends.{sent_next}
use Rattle.rh_trace.proofs.WrittenInTurn.{stopped_at, ok_no_error}
use Rattle.rh_trace.proofs.answers.write_trays.Goals as goal
use Rattle.rh_trace.proofs.answers.write_trays.Goals.{in-Some+in_ok-write_line, in_default}

-- the line of a tray
abbrev line_of : List ℕ × Tray → List ℕ
line_of t = with_line_end (tray_text t.0 t.1)

pub returns-in_err-write_line-clause-written : goal.returns-in_err-write_line-clause-written
returns-in_err-write_line-clause-written g c =
    let known = g.W.Write.contents in
    let p = err_from_is_err_and c.from_residual.result c.from_residual.ensures.1 in
    let i = c.loop-i.i in
    let t : List ℕ × Tray = (c.in-Some.tray.0, tray_of c.in-Some.tray.1.now) in
    let there = sym c.in-Some.ensures in
    let here : with_line_end c.put_tray.new.text ≡ line_of t = ap with_line_end c.put_tray.ensures.value in
    let line : with_line_end c.put_tray.new.text ≡ line_of (get_or c.args.trays.now i t) = here ∙ ap line_of (sym (get_or_from_slice_get c.args.trays.now i t t there)) in
    let stop = c.in_err-write_line.field-0.0 in
    rw p.1 (stopped_at (Unit {0}) (Unit {0}) stop (known c.args.writer.now) (known c.loop-i.writer) (known c.write_line.new.writer) line_of c.args.trays.now i t (slice_get_within c.args.trays.now i t there) c.loop-i.invariant.sent (subst (λ text. Writes {X = Unit {0}} text (Err stop) (known c.loop-i.writer) (known c.write_line.new.writer)) line c.in_err-write_line.ensures.written))

pub loop-i-preserved : goal.loop-i-preserved
loop-i-preserved g c = elim c.match-tray.branch [
  | in-Some+in_ok-write_line w ↦
      let known = g.W.Write.contents in
      let i = c.loop-i.i in
      let t : List ℕ × Tray = (w.in-Some.tray.0, tray_of w.in-Some.tray.1.now) in
      let there = sym w.in-Some.ensures in
      let here : with_line_end w.put_tray.new.text ≡ line_of t = ap with_line_end w.put_tray.ensures.value in
      let line : with_line_end w.put_tray.new.text ≡ line_of (get_or c.args.trays.now i t) = here ∙ ap line_of (sym (get_or_from_slice_get c.args.trays.now i t t there)) in
      let counted : MadeSince 0 c.args.writes.now w.write_line.new.writes = grind (arith, w.in_ok-write_line.ensures.counted, c.loop-i.invariant.counted) in
      record {
        sent = subst (λ writer. Appends (known c.args.writer.now) (known writer) (trays_text (take (i + 1) c.args.trays.now))) (sym w.writer-is)
            (sent_next line_of (known c.args.writer.now) (known c.loop-i.writer) (known w.write_line.new.writer) [] (with_line_end w.put_tray.new.text) c.args.trays.now i t (slice_get_within c.args.trays.now i t there) line c.loop-i.invariant.sent w.in_ok-write_line.ensures.written);
        none_failed = ap (λ writes. writes.failed) w.writes-is ∙ w.in_ok-write_line.ensures.none_failed (ok_no_error _ _);
        counted = subst (MadeSince 0 c.args.writes.now) (sym w.writes-is) counted;
      }
  | in_default w ↦
      let none = w.in_default.ensures ∙ slice_get-get_or c.args.trays.now c.loop-i.i ([], record { epoch = 0; entries = [] }) (omega (arith, c.loop-i-test.true, c.len-i-end.ensures)) in
      absurd cc
]
