-- Where two lists that differ part.
use Rattle.std.proofs.Common.{◌≡◌, ◌≢◌, ℕ, zero, suc, ◌+◌, List, [], ◌∷◌, Some, take, refl, sym, ap, subst, ◌∙◌, arith}
use Rattle.std.specs.Prelude.{slice_get}
use Rattle.rh_replay.specs.declared.call.Call.{Call}
use Rattle.rh_shared.specs.declared.closing.CloseError.TheVariants as close_errors
use Rattle.rh_shared.specs.Shares.{BeginApart, MutatorState, PartAt, WhyNotClosed, calls_of, share_of}

apart-first : (xs ys : List Call) → slice_get xs 0 ≢ slice_get ys 0 → BeginApart xs ys
apart-first [] [] differ = differ refl
apart-first [] (y ∷ ys) differ = tt
apart-first (x ∷ xs) [] differ = tt
apart-first (x ∷ xs) (y ∷ ys) differ = λ same. differ (ap Some same)

-- after so many that are the same
parts-after : (n : ℕ) (xs ys : List Call) → take n xs ≡ take n ys → slice_get xs n ≢ slice_get ys n → PartAt xs ys (n + 1)
parts-after zero xs ys same differ = record { common = []; of_xs = xs; of_ys = ys; xs_go = refl; ys_go = refl; next = refl; apart = apart-first xs ys differ }
parts-after (suc n) [] [] same differ = absurd (differ refl)
parts-after (suc n) [] (y ∷ ys) same differ = absurd (cc)
parts-after (suc n) (x ∷ xs) [] same differ = absurd (cc)
parts-after (suc n) (x ∷ xs) (y ∷ ys) same differ =
    let first : y ≡ x = cc in
    let rest : take n xs ≡ take n ys = cc in
    let later = parts-after n xs ys rest differ in
    record {
      common = x ∷ later.common;
      of_xs = later.of_xs;
      of_ys = later.of_ys;
      xs_go = ap (λ zs. x ∷ zs) later.xs_go;
      ys_go = ap (λ z. z ∷ ys) first ∙ ap (λ zs. x ∷ zs) later.ys_go;
      next = omega (arith, later.next);
      apart = later.apart;
    }

pub reason-parts : (owners owner at : ℕ) (ms : List MutatorState) (calls : List Call) → WhyNotClosed owners ms calls (close_errors.HistoryDiffers owner at)
    → PartAt (share_of owner ms) (calls_of owner calls) at
reason-parts owners owner at ms calls why =
    let first = why.1.differs in
    subst (PartAt (share_of owner ms) (calls_of owner calls)) (sym first.counted) (parts-after first.before (share_of owner ms) (calls_of owner calls) first.same first.differ)
