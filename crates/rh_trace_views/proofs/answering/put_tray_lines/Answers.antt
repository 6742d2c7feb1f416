use Rattle.std.proofs.Common.{◌≡◌, ◌∷◌, ◌++◌, [], take, ap, sym, ◌∙◌, arith, ℕ, List}
use Rattle.std.proofs.lemmas.List.{flat_map_more, take_more}
use Rattle.std.proofs.lemmas.Option.{get_or_from_slice_get, slice_get_within, slice_get-get_or}
use Rattle.rh_trace.specs.Answers.{with_line_end, trays_text}
use Rattle.rh_engine.specs.CycleAnswers.{tray_text}
use Rattle.rh_engine.specs.Trays.{Tray, tray_of}
use Rattle.rh_trace_views.proofs.answering.put_tray_lines.Goals as goal
use Rattle.rh_trace_views.proofs.answering.put_tray_lines.Goals.{in-Some+in_ok-put_line, in_default}

-- the line of a tray
abbrev line_of : List ℕ × Tray → List ℕ
line_of t = with_line_end (tray_text t.0 t.1)

pub loop-i-preserved : goal.loop-i-preserved
loop-i-preserved g c = elim c.match-tray.branch [
  | in-Some+in_ok-put_line w ↦
      let i = c.loop-i.i in
      let trays = c.args.trays.now in
      let before = c.args.told.now.items in
      let t : List ℕ × Tray = (w.in-Some.tray.0, tray_of w.in-Some.tray.1.now) in
      let there = sym w.in-Some.ensures in
      let at = get_or_from_slice_get trays i t t there in
      let here : with_line_end w.put_tray.new.text ≡ line_of t = ap with_line_end w.put_tray.ensures.value in
      ap (λ told. told.items) w.told-is ∙ w.in_ok-put_line.ensures ∙ ap (λ (x : List ℕ). c.loop-i.told.items ++ x) here ∙ ap (λ (x : List ℕ). x ++ line_of t) c.loop-i.invariant
      ∙ flat_map_more line_of before (take i trays) t ∙ ap (λ ts. before ++ trays_text ts) (ap (λ x. take i trays ++ x ∷ []) (sym at) ∙ sym (take_more trays i t (slice_get_within trays i t there)))
  | in_default w ↦
      let none = w.in_default.ensures ∙ slice_get-get_or c.args.trays.now c.loop-i.i ([], record { epoch = 0; entries = [] }) (omega (arith, c.loop-i-test.true, c.len-i-end.ensures)) in
      absurd cc
]
