-- A shared heap has one reason at most not to be closed, and none where it may be.
use Rattle.std.proofs.Common.{◌≡◌, ◌≢◌, ℕ, zero, suc, ◌<◌, Bool, true, false, List, [], ◌∷◌, take, refl, sym, ap, subst, ◌∙◌, arith}
use Rattle.std.specs.Prelude.{nat_lt, slice_get}
use Rattle.std.proofs.lemmas.Bool.{ltb-true, ltb-false}
use Rattle.rh_replay.specs.declared.call.Call.{Call}
use Rattle.rh_shared.specs.declared.closing.CloseError.{CloseError}
use Rattle.rh_shared.specs.declared.closing.CloseError.TheVariants as close_errors
use Rattle.rh_shared.specs.Shares.{HasShares, HistoryDiffersAt, MutatorState, WhyNotClosed, calls_of, share_of, IsFirstDifference, IsOneEach}

-- of two numbers neither of which is less than the other
same-number : (m n : ℕ) → (m < n → ⊥) → (n < m → ⊥) → m ≡ n
same-number m n not_less not_more = by_test (nat_lt m n) (nat_lt n m) refl refl
  where
    by_test : (s t : Bool) → nat_lt m n ≡ s → nat_lt n m ≡ t → m ≡ n
    by_test true t e f = absurd (not_less (ltb-true m n e))
    by_test false true e f = absurd (not_more (ltb-true n m f))
    by_test false false e f = omega (arith, ltb-false m n e, ltb-false n m f)

get-taken : {X : Type 0} (k i : ℕ) (xs : List X) → i < k → slice_get (take k xs) i ≡ slice_get xs i
get-taken zero i xs less = absurd (omega (arith, less))
get-taken (suc k) i [] less = refl
get-taken (suc k) zero (x ∷ xs) less = refl
get-taken (suc k) (suc i) (x ∷ xs) less = get-taken k i xs (omega (arith, less))

get-same : {X : Type 0} (k i : ℕ) (xs ys : List X) → take k xs ≡ take k ys → i < k → slice_get xs i ≡ slice_get ys i
get-same k i xs ys same less = sym (get-taken k i xs less) ∙ ap (λ zs. slice_get zs i) same ∙ get-taken k i ys less

-- Two lists differ first at one place, and are not the same then.

first-once : (xs ys : List Call) (m n : ℕ) → IsFirstDifference xs ys m → IsFirstDifference xs ys n → m ≡ n
first-once xs ys m n one other =
    let same : one.before ≡ other.before = same-number one.before other.before
    (λ less. one.differ (get-same other.before one.before xs ys other.same less))
    (λ less. other.differ (get-same one.before other.before xs ys one.same less)) in
    omega (arith, same, one.counted, other.counted)

first-not_same : (xs ys : List Call) (n : ℕ) → IsFirstDifference xs ys n → xs ≢ ys
first-not_same xs ys n first same = first.differ (ap (λ zs. slice_get zs first.before) same)

-- So it is with the owner, and with the reason.

owner-once : (ms : List MutatorState) (calls : List Call) (o p m n : ℕ) → HistoryDiffersAt ms calls o m → HistoryDiffersAt ms calls p n → o ≡ p
owner-once ms calls o p m n one other = same-number o p
    (λ less. first-not_same (share_of o ms) (calls_of o calls) m one.differs (other.least o less))
    (λ less. first-not_same (share_of p ms) (calls_of p calls) n other.differs (one.least p less))

place-once : (ms : List MutatorState) (calls : List Call) (o p m n : ℕ) → o ≡ p → HistoryDiffersAt ms calls o m → HistoryDiffersAt ms calls p n → m ≡ n
place-once ms calls o p m n same one other =
    let moved : HistoryDiffersAt ms calls p m = subst (λ q. HistoryDiffersAt ms calls q m) same one in
    first-once (share_of p ms) (calls_of p calls) m n moved.differs other.differs

pub reason-once : (owners : ℕ) (ms : List MutatorState) (calls : List Call) (why other : CloseError)
    → WhyNotClosed owners ms calls why → WhyNotClosed owners ms calls other → why ≡ other
reason-once owners ms calls close_errors.SharesMissing close_errors.SharesMissing is too = refl
reason-once owners ms calls close_errors.SharesMissing (close_errors.HistoryDiffers p n) is too = absurd (is too.0)
reason-once owners ms calls (close_errors.HistoryDiffers o m) close_errors.SharesMissing is too = absurd (too is.0)
reason-once owners ms calls (close_errors.HistoryDiffers o m) (close_errors.HistoryDiffers p n) is too =
    let owner : o ≡ p = owner-once ms calls o p m n is.1 too.1 in
    let place : m ≡ n = place-once ms calls o p m n owner is.1 too.1 in
    ap (λ q. close_errors.HistoryDiffers q m) owner ∙ ap (λ q. close_errors.HistoryDiffers p q) place

pub reason-none : (owners : ℕ) (ms : List MutatorState) (calls : List Call) (why : CloseError)
    → IsOneEach owners ms → HasShares ms calls → ¬ WhyNotClosed owners ms calls why
reason-none owners ms calls close_errors.SharesMissing each shares why = why each
reason-none owners ms calls (close_errors.HistoryDiffers o n) each shares why = first-not_same (share_of o ms) (calls_of o calls) n why.1.differs (shares o)
