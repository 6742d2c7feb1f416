-- What statuses tell apart.
use Rattle.std.proofs.Common.{◌≡◌, ◌↔◌, ◌⊎◌, inl, inr, ℕ, List, refl, arith}
use Rattle.std.specs.Prelude.{◌<◌, ◌≤◌, length}
use Rattle.rh_trace.specs.declared.way_fault.WayFault.{WayFault}
use Rattle.rh_trace.specs.declared.way_fault.WayFault.TheVariants as faults
use Rattle.rh_paced_trace.specs.declared.fault.Unpaced.{Unpaced}
use Rattle.rheap_c_traces.specs.Told.{AnswersText, run_status}

-- 0 where there is room, and 5 where there is none
pub done_fits : (text old new : List ℕ) (status count : ℕ) → AnswersText text status old new count → (status ≡ 0) ↔ (length text ≤ length old)
done_fits text old new status count (inl told) = (λ done. told.1.0, λ fits. told.0)
done_fits text old new status count (inr told) = (λ done. absurd (omega (arith, done, told.0)), λ fits. absurd (omega (arith, fits, told.1.0)))

pub no_room_is_5 : (text old new : List ℕ) (status count : ℕ) → AnswersText text status old new count → (status ≡ 5) ↔ (length old < length text)
no_room_is_5 text old new status count (inl told) = (λ five. absurd (omega (arith, five, told.0)), λ short. absurd (omega (arith, short, told.1.0)))
no_room_is_5 text old new status count (inr told) = (λ five. told.1.0, λ short. told.0)

-- none of three holds
none_of : {A B C D : Type 0} → (A → D) → (B → D) → (C → D) → A ⊎ (B ⊎ C) → D
none_of a b c (inl x) = a x
none_of a b c (inr (inl x)) = b x
none_of a b c (inr (inr x)) = c x

-- 3 is for a read, a write and memory alone
pub run_failed : (fault : WayFault Unpaced) → (run_status fault ≡ 3) ↔ ((fault ≡ faults.Read) ⊎ ((fault ≡ faults.Write) ⊎ (fault ≡ faults.OutOfMemory)))
run_failed faults.Read = (λ is. inl refl, λ which. refl)
run_failed faults.Long = (λ is. absurd (omega (arith, is)), none_of (λ is. cc) (λ is. cc) (λ is. cc))
run_failed (faults.Trace fault) = (λ is. absurd (omega (arith, is)), none_of (λ is. cc) (λ is. cc) (λ is. cc))
run_failed (faults.New fault) = (λ is. absurd (omega (arith, is)), none_of (λ is. cc) (λ is. cc) (λ is. cc))
run_failed (faults.Way why) = (λ is. absurd (omega (arith, is)), none_of (λ is. cc) (λ is. cc) (λ is. cc))
run_failed faults.Write = (λ is. inr (inl refl), λ which. refl)
run_failed faults.OutOfMemory = (λ is. inr (inr refl), λ which. refl)

-- all others have 1
pub run_1_or_3 : (fault : WayFault Unpaced) → (run_status fault ≡ 1) ⊎ (run_status fault ≡ 3)
run_1_or_3 faults.Read = inr refl
run_1_or_3 faults.Long = inl refl
run_1_or_3 (faults.Trace fault) = inl refl
run_1_or_3 (faults.New fault) = inl refl
run_1_or_3 (faults.Way why) = inl refl
run_1_or_3 faults.Write = inr refl
run_1_or_3 faults.OutOfMemory = inr refl
