-- Ends that are of a heap's rings stay so.
use Rattle.std.proofs.Common.{◌≡◌, ℕ, Bool, List, [], ◌∷◌, Some, sym, ap, ◌∙◌}
use Rattle.std.specs.Prelude.{slice_get}
use Rattle.std.specs.List.{AllByRecursion}
use Rattle.rh_replicator.specs.Ends.{EndsState}
use Rattle.rh_replicator.specs.declared.stepped.Stepped.{Stepped}
use Rattle.rh_replicator.specs.declared.running.RunEnd.{RunEnd}
use Rattle.rh_replicator.specs.Crew.{WereRun}
use Rattle.rh_replicator.specs.Stepping.{AreSameEnds}
use Rattle.rh_collector.specs.Settling.{ends_pair, RingPair}
use Rattle.shared_tests.specs.Beside.{AreEndsOf}

module _ {A : Type 0} where
  same-of : (pairs : List (RingPair A)) (before after : EndsState A) → AreSameEnds before after → AreEndsOf pairs before → AreEndsOf pairs after
  same-of pairs before after same here =
      let pair : ends_pair after ≡ ends_pair before =
      ap (λ name. record { pieces_ring = name; replicas_ring = after.replicas_ring }) same.pieces_ring
      ∙ ap (λ name. record { pieces_ring = before.pieces_ring; replicas_ring = name }) same.replicas_ring in
      ap (λ n. slice_get pairs n) same.replicator ∙ (here ∙ ap (λ (p : RingPair A). Some p) (sym pair))

  -- the ends of replicators that a crew ran
  pub run-of : {G : Type 0} (passes : G → Bool → G → Type 0) (tells : G → Stepped → G → Type 0) (turns : ℕ) (pairs : List (RingPair A)) (before : List (EndsState A × G)) (after : List (EndsState A × RunEnd))
      → WereRun passes tells turns before after → AllByRecursion (λ own. AreEndsOf pairs own.0) before → AllByRecursion (λ own. AreEndsOf pairs own.0) after
  run-of passes tells turns pairs [] [] ran all = tt
  run-of passes tells turns pairs [] (end ∷ ends) ran all = absurd ran
  run-of passes tells turns pairs (own ∷ more) [] ran all = absurd ran
  run-of passes tells turns pairs (own ∷ more) (end ∷ ends) ran all =
      (same-of pairs own.0 end.0 ran.0.0 all.0, run-of passes tells turns pairs more ends ran.1 all.1)
