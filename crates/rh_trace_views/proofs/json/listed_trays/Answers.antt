use Rattle.std.proofs.Common.{◌∷◌, ◌++◌, [], take, ap, sym, ◌∙◌, arith, ℕ, List}
use Rattle.std.specs.List.{flat_map}
use Rattle.std.proofs.lemmas.List.{flat_map_more, take_more}
use Rattle.std.proofs.lemmas.Option.{get_or_from_slice_get, slice_get_within, slice_get-get_or}
use Rattle.rh_engine.specs.Trays.{Tray, tray_of}
use Rattle.rh_trace_views.specs.Views.{json_tray}
use Rattle.rh_trace_views.proofs.json.listed_trays.Goals as goal
use Rattle.rh_trace_views.proofs.json.listed_trays.Goals.{in-Some+in_ok-put_json_tray, in_default}

-- the object of a tray
abbrev object_of : List ℕ × Tray → List ℕ
object_of t = json_tray t.0 t.1

pub loop-i-preserved : goal.loop-i-preserved
loop-i-preserved g c = elim c.match-tray.branch [
  | in-Some+in_ok-put_json_tray w ↦
      let i = c.loop-i.i in
      let trays = c.args.trays.now in
      let t : List ℕ × Tray = (w.in-Some.tray.0, tray_of w.in-Some.tray.1.now) in
      let there = sym w.in-Some.ensures in
      let at = get_or_from_slice_get trays i t t there in
      ap (λ text. text.items) w.text-is ∙ w.in_ok-put_json_tray.ensures ∙ ap (λ (x : List ℕ). x ++ object_of t) c.loop-i.invariant
      ∙ flat_map_more object_of [] (take i trays) t ∙ ap (λ ts. flat_map object_of ts) (ap (λ x. take i trays ++ x ∷ []) (sym at) ∙ sym (take_more trays i t (slice_get_within trays i t there)))
  | in_default w ↦
      let none = w.in_default.ensures ∙ slice_get-get_or c.args.trays.now c.loop-i.i ([], record { epoch = 0; entries = [] }) (omega (arith, c.loop-i-test.true, c.len-i-end.ensures)) in
      absurd cc
]
