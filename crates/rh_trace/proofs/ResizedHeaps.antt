-- A heap whose spaces get other sizes stays what it is.
use Rattle.std.proofs.Common.{ℕ, suc, ◌<◌, ◌≤◌, List, arith}
use Rattle.std.proofs.Math.Nat.{lt_of_not-le}
use Rattle.rh_layout.specs.declared.item.Item.{Item}
use Rattle.rh_model.specs.Plain.{PlainHeap}
use Rattle.rh_core.specs.Mutator.{StandsFor}
use Rattle.rh_core.specs.Heap.{IsWellFormed}
use Rattle.rh_core.specs.Stat.{stat_of}
use Rattle.rh_core.specs.runs.Stores.{IsStoreList}
use Rattle.rh_core.proofs.ResizeLaws.{MayResize, IsWellFormed-sizes, StandsFor-sizes, IsStoreList-sizes}
use Rattle.rh_engine.specs.Engine.{EngineState, resize_line_step}
use Rattle.rh_engine.proofs.ResizeOrder.{IsOut, in_range, resize-either}

module _ (e : EngineState) (words : ℕ) where
  -- only memory can refuse what the engine doesn't
  may_resize : IsWellFormed e.heap → ¬ IsOut words → ¬ (words < (stat_of e.heap).used) → MayResize e.heap words e.heap.mutators.config.log_limit
  may_resize fine found few =
      let ends = in_range words found in
      let log = fine.heap.mutators.log in
      record {
        least = ends.0;
        most = ends.1;
        used = omega (arith, lt_of_not-le (λ (h : suc words ≤ (stat_of e.heap).used). few h));
        some_limit = omega (arith, log.some_limit, fine.heap.mutators.limit);
        small_limit = omega (arith, log.small_limit, fine.heap.mutators.limit);
        kept = omega (arith, log.fits, fine.heap.mutators.limit);
      }

  pub resize-well_formed : IsWellFormed e.heap → IsWellFormed (resize_line_step e words).0.heap
  resize-well_formed fine = resize-either e words (λ x. IsWellFormed x.heap) fine (λ found few. IsWellFormed-sizes e.heap words e.heap.mutators.config.log_limit fine (may_resize fine found few))

  pub resize-stands : (p : PlainHeap) → StandsFor e.heap.mutators p → StandsFor (resize_line_step e words).0.heap.mutators p
  resize-stands p stands = resize-either e words (λ x. StandsFor x.heap.mutators p) stands (λ found few. (StandsFor-sizes e.heap words e.heap.mutators.config.log_limit p).0 stands)

  pub resize-stores : (stores : List Item) → IsStoreList e.heap stores → IsStoreList (resize_line_step e words).0.heap stores
  resize-stores stores are = resize-either e words (λ x. IsStoreList x.heap stores) are (λ found few. (IsStoreList-sizes e.heap words e.heap.mutators.config.log_limit stores).0 are)
