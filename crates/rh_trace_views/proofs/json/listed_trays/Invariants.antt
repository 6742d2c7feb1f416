use Rattle.std.proofs.Common.{◌≡◌, take}
use Rattle.std.specs.List.{flat_map}
use Rattle.rh_trace_views.specs.Views.{json_tray}
use Rattle.rh_trace_views.proofs.json.listed_trays.Given as goal

abbrev pub invariant-loop-i : goal.invariant-loop-i
invariant-loop-i g l = l.text.items ≡ flat_map (λ t. json_tray t.0 t.1) (take l.i l.trays)
