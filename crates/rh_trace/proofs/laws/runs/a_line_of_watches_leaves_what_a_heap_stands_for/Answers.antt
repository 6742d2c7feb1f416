use Rattle.std.proofs.Common.{refl}
use Rattle.rh_trace.proofs.WatchedHeaps.{tickets-alone, watched-well_formed, watched-stands, watched-stores}
use Rattle.rh_trace.proofs.laws.runs.a_line_of_watches_leaves_what_a_heap_stands_for.Goals as goal

pub returns-clause-step : goal.returns-clause-step
returns-clause-step c = λ e owner tickets ticket root. (refl, refl, refl, refl)

pub returns-clause-alone : goal.returns-clause-alone
returns-clause-alone c = tickets-alone

pub returns-clause-heap : goal.returns-clause-heap
returns-clause-heap c = watched-well_formed

pub returns-clause-stands : goal.returns-clause-stands
returns-clause-stands c = watched-stands

pub returns-clause-stores : goal.returns-clause-stores
returns-clause-stores c = watched-stores
