-- What is told of a filling pace tells all of it.
use Rattle.std.proofs.Common.{◌≡◌, ℕ, ◌+◌, ◌<◌, ◌≤◌, Result, Ok, Err, inl, inr, refl}
use Rattle.std.specs.Prelude.{◌↔◌, IfOk, IsOk}
use Rattle.std.proofs.lemmas.Bool.{cases_lt}
use Rattle.rh_pace.specs.declared.errors.PaceError.{PaceError}
use Rattle.rh_pace.specs.declared.errors.PaceError.TheVariants.{RatioTooLow, TooSmall}
use Rattle.rh_pace.specs.declared.pace.Pace.{Pace}
use Rattle.rh_pace.specs.Pace.{AsksForLog, CanKeepUp, IsLowestFilling, KeepsUp, words_left}
use Rattle.rh_paced_trace.specs.Pacing.{IsFilling}

module _ (words biggest ratio : ℕ) where
  pub filling : (paced : Result Pace PaceError)
      → IfOk paced (λ pace. KeepsUp words (words_left words pace) biggest ratio pace)
      → IfOk paced (λ pace. IsLowestFilling words biggest ratio pace)
      → IfOk paced (λ pace. AsksForLog biggest pace)
      → IsOk paced ↔ CanKeepUp words (biggest + 1) biggest ratio
      → (paced ≡ Err RatioTooLow) ↔ (ratio < 4)
      → ((need : ℕ) → paced ≡ Err (TooSmall need) → (n : ℕ) → CanKeepUp n (biggest + 1) biggest ratio ↔ (need ≤ n))
      → IsFilling words biggest ratio paced
  filling (Ok pace) keeps lowest asks exactly low needs = (keeps, lowest, asks, exactly.0 refl)
  filling (Err RatioTooLow) keeps lowest asks exactly low needs = low.0 refl
  filling (Err (TooSmall need)) keeps lowest asks exactly low needs =
      let enough : 4 ≤ ratio = elim (cases_lt ratio 4) [ inl less ↦ absurd (let same = low.1 less in cc) | inr more ↦ more ] in
      let few : words < need = elim (cases_lt words need) [ inl less ↦ less | inr more ↦ absurd (let fits = exactly.1 ((needs need refl words).1 more) in cc) ] in
      (enough, few, needs need refl)
