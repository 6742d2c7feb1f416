-- What the status of a check tells apart.
use Rattle.std.proofs.Common.{◌≡◌, ◌⊎◌, ◌↔◌, inl, inr, ℕ, refl, sym}
use Rattle.std.specs.Prelude.{Ok}
use Rattle.rh_replay.specs.declared.checking.Verdict.{Verdict}
use Rattle.rh_replay.specs.declared.checking.Verdict.TheVariants.{Legal, Wrong}
use Rattle.rh_commands.specs.Replay.{IsReplayStatus}
use Rattle.rh_commands.specs.lemmas.Statuses.{usual_is_told}

-- whatever the verdict, a failed flush is 1
pub failed_flush : (verdict : Verdict) → IsReplayStatus (Ok verdict) 1
failed_flush (Legal count) = inr refl
failed_flush (Wrong at expected) = inr refl

abbrev late_is_not_0_or_4 : (own n : ℕ) → (n ≡ 0) ⊎ (n ≡ 4) → (own ≡ 1) ⊎ (own ≡ 3) → own ≡ n → ⊥
late_is_not_0_or_4 own n quiet late is = usual_is_told n own (sym is) late quiet

-- such a fault isn't the end of a check that told something of the history
pub late_is_not_0 : (own : ℕ) (X : Type 0) → (own ≡ 1) ⊎ (own ≡ 3) → (own ≡ 0) ↔ (⊥ × X)
late_is_not_0 own X late = (λ is. absurd (late_is_not_0_or_4 own 0 (inl refl) late is), λ both. absurd both.0)

pub late_is_not_4 : (own : ℕ) (X : Type 0) → (own ≡ 1) ⊎ (own ≡ 3) → (own ≡ 4) ↔ (⊥ × X)
late_is_not_4 own X late = (λ is. absurd (late_is_not_0_or_4 own 4 (inr refl) late is), λ both. absurd both.0)
