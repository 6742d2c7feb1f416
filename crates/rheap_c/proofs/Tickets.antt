-- Tickets that aren't there.
use Rattle.std.proofs.Common.{◌≡◌, ℕ, ◌≤◌, Bool, false, length, sym, ap}
use Rattle.std.specs.Prelude.{is_some}
use Rattle.std.proofs.lemmas.List.{get_or_past}
use Rattle.rh_watches.specs.declared.watch.Watch.{Watch}
use Rattle.rh_watches.specs.declared.watch.Watch.TheVariants.{Free}
use Rattle.rh_watches.specs.Watches.{address_of}
use Rattle.rh_core.specs.Heap.{HeapState}
use Rattle.rh_core.specs.Watching.{unwatch_if, unwatch_step}
use Rattle.rh_pace.specs.Paced.{PacedState}
use Rattle.rh_pace.specs.Watching.{with_heap}
use Rattle.rheap_c.specs.Watching.{unwatch_status}

-- one that isn't there isn't freed, and nothing changes
unwatch_step-past : (h : HeapState) (ticket : ℕ) → length h.watches.tickets ≤ ticket
    → unwatch_step h ticket ≡ (h, false)
unfolding unwatch_step
unwatch_step-past h ticket past =
    ap (λ (w : Watch). unwatch_if (is_some (address_of w)) h ticket)
    (get_or_past h.watches.tickets ticket Free past)

pub unwatched-past : (s : PacedState) (ticket : ℕ) → length s.heap.watches.tickets ≤ ticket
    → s ≡ with_heap s (unwatch_step s.heap ticket).0
unwatched-past s ticket past =
    ap (λ (r : HeapState × Bool). with_heap s r.0) (sym (unwatch_step-past s.heap ticket past))

pub unwatch_status-past : (s : PacedState) (ticket : ℕ) → length s.heap.watches.tickets ≤ ticket
    → 18 ≡ unwatch_status (unwatch_step s.heap ticket).1
unwatch_status-past s ticket past =
    ap (λ (r : HeapState × Bool). unwatch_status r.1) (sym (unwatch_step-past s.heap ticket past))
