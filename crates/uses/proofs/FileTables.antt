-- Tables of files by ticket: what they have once a ticket got a file, or let go of it.
use Rattle.std.proofs.Common.{◌≡◌, ◌≢◌, ◌↔◌, Bool, true, ℕ, zero, suc, ◌+◌, ◌-◌, ◌<◌, ◌≤◌, ◌==◌, ◌⊎◌, inl, inr, if◌then◌else◌, List, [], ◌∷◌, ◌++◌, length, get_or, set, replicate, take, Option, Some, None, refl, sym, ap, ◌∙◌, arith, length-set, get_or-set_same, get_or-set_other}
use Rattle.std.specs.Prelude.{is_some}
use Rattle.std.proofs.lemmas.Bool.{cases_eq, cases_lt}
use Rattle.std.proofs.lemmas.List.{get_or_past, length-replicate, take_all}
use Rattle.std.proofs.lemmas.List.Sums.{sum_by-set, sum_by-cons, count_by-le-length}
use Rattle.rh_watches.specs.declared.watch.Watch.{Watch}
use Rattle.rh_watches.specs.declared.watch.Watch.TheVariants.{Free, Gone}
use Rattle.rh_watches.specs.Watches.{WatchTable, no_watches, ticket_at, with_room}
use Rattle.rh_model.specs.Graph.{Graph}
use Rattle.uses.specs.Files.{AreFiles, TicketsFollow, file_at, files_open, is_file, times_open}

abbrev pub one_if : Bool → ℕ
one_if b = if b then 1 else 0

-- A ticket gets another value, and so does the file beside it: a file exactly where the ticket isn't
-- free.
pub AreFiles-set : (t new : WatchTable) (table : List (Option ℕ)) (i : ℕ) (w : Watch) (o : Option ℕ)
    → AreFiles t table → i < length t.tickets → new.tickets ≡ set t.tickets i w → ((o ≡ None) ↔ (w ≡ Free))
    → AreFiles new (set table i o)
AreFiles-set t new table i w o files here is both = record {
  places = length-set table i o ∙ files.places ∙ sym (length-set t.tickets i w) ∙ sym (ap length is);
  free = λ n. elim (cases_eq n i) [
    | inl same ↦
        let file : get_or (set table i o) n None ≡ o = ap (λ k. get_or (set table i o) k None) same ∙ get_or-set_same table i o None (omega (arith, here, files.places)) in
        let ticket : ticket_at new n ≡ w = ap (λ l. get_or l n Free) is ∙ ap (λ k. get_or (set t.tickets i w) k Free) same ∙ get_or-set_same t.tickets i w Free here in
        (λ none. ticket ∙ both.0 (sym file ∙ none), λ free. file ∙ both.1 (sym ticket ∙ free))
    | inr other ↦
        let file : get_or (set table i o) n None ≡ get_or table n None = get_or-set_other table i n o None other in
        let ticket : ticket_at new n ≡ ticket_at t n = ap (λ l. get_or l n Free) is ∙ get_or-set_other t.tickets i n w Free other in
        (λ none. ticket ∙ (files.free n).0 (sym file ∙ none), λ free. file ∙ (files.free n).1 (sym ticket ∙ free))
  ];
}

-- Tickets that follow objects keep their files.
pub AreFiles-follow : (g : Graph) (t new : WatchTable) (table : List (Option ℕ)) → AreFiles t table → TicketsFollow g t new → AreFiles new table
AreFiles-follow g t new table files follow = record {
  places = files.places ∙ sym follow.room;
  free = λ n. (λ none. (follow.free n).1 ((files.free n).0 none), λ free. (files.free n).1 ((follow.free n).0 free));
}

-- None is open.
get_or-replicate : {X : Type 0} → (n i : ℕ) (x : X) → get_or (replicate n x) i x ≡ x
get_or-replicate zero i x = get_or_past [] i x (omega arith)
get_or-replicate (suc n) zero x = refl
get_or-replicate (suc n) (suc i) x = get_or-replicate n i x

pub AreFiles-new : (n : ℕ) (t : WatchTable) (table : List (Option ℕ)) → t ≡ with_room n no_watches → table ≡ replicate n None → AreFiles t table
AreFiles-new n t table is none = record {
  places = ap length none ∙ length-replicate n None ∙ sym (ap (λ (k : WatchTable). length k.tickets) is ∙ length-replicate (n - 0) Free ∙ omega arith);
  free = λ i. (
    λ _. ap (λ (k : WatchTable). ticket_at k i) is ∙ get_or-replicate (n - 0) i Free,
    λ _. ap (λ l. get_or l i None) none ∙ get_or-replicate n i None,
  );
}

pub times-none : (file n : ℕ) → times_open file (replicate n None) ≡ 0
times-none file zero = refl
times-none file (suc n) =
    let step = sum_by-cons (λ o. one_if (is_file file o)) None (replicate n None) in
    omega (arith, step, times-none file n)

-- A file joins, or leaves.
pub times-joined : (file i n : ℕ) (table : List (Option ℕ)) → i < length table → get_or table i None ≡ None → times_open file (set table i (Some n)) ≡ one_if (n == file) + times_open file table
times-joined file i n table here none =
    let both = sum_by-set (λ o. one_if (is_file file o)) table i (Some n) None here in
    let old : one_if (is_file file (get_or table i None)) ≡ 0 = ap (λ o. one_if (is_file file o)) none in
    omega (arith, both, old)

pub times-left : (file i n : ℕ) (table : List (Option ℕ)) → i < length table → get_or table i None ≡ Some n → times_open file table ≡ one_if (n == file) + times_open file (set table i None)
times-left file i n table here some =
    let both = sum_by-set (λ o. one_if (is_file file o)) table i None None here in
    let old : one_if (is_file file (get_or table i None)) ≡ one_if (n == file) = ap (λ o. one_if (is_file file o)) some in
    omega (arith, both, old)

pub filled-left : (i n : ℕ) (table : List (Option ℕ)) → i < length table → get_or table i None ≡ Some n → files_open table ≡ 1 + files_open (set table i None)
filled-left i n table here some =
    let both = sum_by-set (λ o. one_if (is_some o)) table i None None here in
    let old : one_if (is_some (get_or table i None)) ≡ 1 = ap (λ o. one_if (is_some o)) some in
    omega (arith, both, old)

pub filled-most : (table : List (Option ℕ)) → files_open table ≤ length table
filled-most table = count_by-le-length (λ o. is_some o) table

pub filled-none : (table : List (Option ℕ)) → files_open table ≡ 0 → (i : ℕ) → get_or table i None ≡ None
filled-none [] zero-filled i = get_or_past [] i None (omega arith)
filled-none (None ∷ table) empty zero = refl
filled-none (None ∷ table) empty (suc i) = filled-none table (omega (arith, empty, sum_by-cons (λ o. one_if (is_some o)) None table)) i
filled-none (Some n ∷ table) empty i = absurd (omega (arith, empty, sum_by-cons (λ o. one_if (is_some o)) (Some n) table))

-- A sweep that goes on: each ticket is as it was, and has its file; or its object was gone, and it is
-- free now.
abbrev pub IsSweeping : WatchTable → WatchTable → List (Option ℕ) → List (Option ℕ) → Type 0
IsSweeping t now table files =
    (n : ℕ)
    → ((ticket_at now n ≡ ticket_at t n) × (file_at files n ≡ file_at table n))
    ⊎ ((ticket_at t n ≡ Gone) × (ticket_at now n ≡ Free) × (file_at files n ≡ None))

pub IsSweeping-first : (t : WatchTable) (table : List (Option ℕ)) → IsSweeping t t table table
IsSweeping-first t table = λ n. inl (refl, refl)

pub free-gone : Free ≡ Gone → ⊥
free-gone same = cc

-- one more is closed
pub IsSweeping-next : (t now next : WatchTable) (table files : List (Option ℕ)) (i : ℕ)
    → IsSweeping t now table files → i < length files → ticket_at now i ≡ Gone → ticket_at next i ≡ Free
    → ((n : ℕ) → n ≢ i → ticket_at next n ≡ ticket_at now n)
    → IsSweeping t next table (set files i None)
IsSweeping-next t now next table files i sweeping here gone free others = λ n. elim (cases_eq n i) [
  | inl same ↦
      let file : get_or (set files i None) n None ≡ None = ap (λ k. get_or (set files i None) k None) same ∙ get_or-set_same files i None None here in
      let ticket : ticket_at next n ≡ Free = ap (ticket_at next) same ∙ free in
      let was : ticket_at now n ≡ Gone = ap (ticket_at now) same ∙ gone in
      elim (sweeping n) [
        | inl stays ↦ inr (sym stays.0 ∙ was, ticket, file)
        | inr closed ↦ absurd (free-gone (sym closed.1 ∙ was))
      ]
  | inr other ↦
      let file : get_or (set files i None) n None ≡ get_or files n None = get_or-set_other files i n None None other in
      elim (sweeping n) [
        | inl stays ↦ inl (others n other ∙ stays.0, file ∙ stays.1)
        | inr closed ↦ inr (closed.0, others n other ∙ closed.1, file ∙ closed.2)
      ]
]

-- none is left whose object is gone
pub sweeping-closed : (t now : WatchTable) (table files : List (Option ℕ)) → IsSweeping t now table files → ((n : ℕ) → ticket_at now n ≢ Gone)
    → (n : ℕ) → ticket_at t n ≡ Gone → (ticket_at now n ≡ Free) × (file_at files n ≡ None)
sweeping-closed t now table files sweeping none n gone = elim (sweeping n) [
  | inl stays ↦ absurd (none n (stays.0 ∙ gone))
  | inr closed ↦ (closed.1, closed.2)
]

pub sweeping-kept : (t now : WatchTable) (table files : List (Option ℕ)) → IsSweeping t now table files
    → (n : ℕ) → ticket_at t n ≢ Gone → (ticket_at now n ≡ ticket_at t n) × (file_at files n ≡ file_at table n)
sweeping-kept t now table files sweeping n other = elim (sweeping n) [
  | inl stays ↦ stays
  | inr closed ↦ absurd (other closed.0)
]

-- where no file is open none is gone
pub sweeping-empty : (t now : WatchTable) (table files : List (Option ℕ)) → AreFiles t table → IsSweeping t now table files → files_open files ≡ 0 → (n : ℕ) → ticket_at now n ≢ Gone
sweeping-empty t now table files all sweeping empty n gone = elim (sweeping n) [
  | inl stays ↦ absurd (free-gone (sym (stays.0 ∙ (all.free n).0 (sym stays.1 ∙ filled-none files empty n)) ∙ gone))
  | inr closed ↦ absurd (free-gone (sym closed.1 ∙ gone))
]

-- whatever stands for what isn't there, what is there is read
pub file-read : (table : List (Option ℕ)) (i : ℕ) (o : Option ℕ) → i < length table → o ≡ get_or table i o → o ≡ file_at table i
file-read table i o within is = is ∙ any table i within
  where
    any : (l : List (Option ℕ)) (n : ℕ) → n < length l → get_or l n o ≡ get_or l n None
    any [] n below = absurd (omega (arith, below))
    any (x ∷ l) zero below = refl
    any (x ∷ l) (suc n) below = any l n (omega (arith, below))

-- a file's place is there
pub file-within : (table : List (Option ℕ)) (i file : ℕ) → file_at table i ≡ Some file → i < length table
file-within table i file some = elim (cases_lt i (length table)) [
  | inl below ↦ below
  | inr past ↦ let none : None ≡ Some file = sym (get_or_past table i None past) ∙ some in absurd (cc)
]

-- A new table has no file.
pub resized-none : (n k : ℕ) (old new : List (Option ℕ)) (b : Bool) → new ≡ (if b then take n old ++ replicate (n - k) None else old) → b ≡ true → old ≡ [] → k ≡ 0 → new ≡ replicate n None
resized-none n k old new b is done same count =
    is ∙ ap (λ c. if c then take n old ++ replicate (n - k) None else old) done ∙ ap (λ l. take n l ++ replicate (n - k) None) same
    ∙ ap (λ l. l ++ replicate (n - k) None) (take_all n [] (omega arith)) ∙ ap (λ m. replicate m None) (omega (arith, count))
