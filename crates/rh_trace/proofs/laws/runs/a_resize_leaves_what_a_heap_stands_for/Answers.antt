use Rattle.std.proofs.Common.{refl}
use Rattle.rh_trace.proofs.ResizedHeaps.{resize-well_formed, resize-stands, resize-stores}
use Rattle.rh_trace.proofs.laws.runs.a_resize_leaves_what_a_heap_stands_for.Goals as goal

pub returns-clause-step : goal.returns-clause-step
returns-clause-step c = λ e words. refl

pub returns-clause-heap : goal.returns-clause-heap
returns-clause-heap c = resize-well_formed

pub returns-clause-stands : goal.returns-clause-stands
returns-clause-stands c = resize-stands

pub returns-clause-stores : goal.returns-clause-stores
returns-clause-stores c = resize-stores
