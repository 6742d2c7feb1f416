-- A form and the parts of a line, walked side by side.
use Rattle.std.proofs.Common.{◌≡◌, ℕ, ◌+◌, ◌<◌, ◌≤◌, inr, List, [], ◌∷◌, ◌++◌, length, get_or, drop, map, Option, Some, None, Ok, Err, refl, sym, ap, ◌∙◌, arith, append_assoc}
use Rattle.std.specs.Prelude.{MatchOption, IfSome}
use Rattle.std.proofs.lemmas.List.{drop_more, drop_all, length-append}
use Rattle.rh_text.specs.Parts.{first_and_rest, end_of}
use Rattle.rh_text.specs.lemmas.Stages.{Judges, judges-end}
use Rattle.rh_syntax.specs.declared.fault.Kind.{Kind}
use Rattle.rh_syntax.specs.Faults.{Sort, each_part}
use Rattle.rh_explain.specs.declared.expected.Expected.{Expected}
use Rattle.rh_explain.specs.declared.part.Misfit.{Misfit}
use Rattle.rh_explain.specs.Explain.{sort_of, class}
use Rattle.rh_explain.specs.Judging.{Passes, Fails, FailsAt, MisfitAt, misfit_verdict}

-- so many parts are what they should be, and these sorts and parts are left
pub record Walked (sorts due : List Sort) (parts left : List (List ℕ)) (i : ℕ) : Type 0 where
  pub done : List Sort
  pub ahead : List (List ℕ)
  pub sorts_are : sorts ≡ done ++ due
  pub parts_are : parts ≡ ahead ++ left
  pub done_is : i ≡ length done
  pub index_is : i ≡ length ahead
  pub passes : Passes done ahead

pub walk_begins : (sorts : List Sort) (parts : List (List ℕ)) → Walked sorts sorts parts parts 0
walk_begins sorts parts = record { done = []; ahead = []; sorts_are = refl; parts_are = refl; done_is = refl; index_is = refl; passes = λ due left read judged. judged }

pub walk_goes_on : (sorts due : List Sort) (parts left : List (List ℕ)) (i : ℕ) (sort : Sort) (part : List ℕ) → Walked sorts (sort ∷ due) parts (part ∷ left) i → Passes (sort ∷ []) (part ∷ []) → Walked sorts due parts left (i + 1)
walk_goes_on sorts due parts left i sort part w fits = record {
  done = w.done ++ sort ∷ [];
  ahead = w.ahead ++ part ∷ [];
  sorts_are = w.sorts_are ∙ sym (append_assoc w.done (sort ∷ []) due);
  parts_are = w.parts_are ∙ sym (append_assoc w.ahead (part ∷ []) left);
  done_is = omega (arith, w.done_is, length-append w.done (sort ∷ []));
  index_is = omega (arith, w.index_is, length-append w.ahead (part ∷ []));
  passes = λ others behind read judged. rw (append_assoc w.done (sort ∷ []) others, append_assoc w.ahead (part ∷ []) behind) (w.passes (sort ∷ others) (part ∷ behind) read (fits others behind read judged));
}

pub walk_stops : (sorts due : List Sort) (parts left : List (List ℕ)) (i : ℕ) (sort : Sort) (part : List ℕ) (kind : Kind) → Walked sorts (sort ∷ due) parts (part ∷ left) i → Fails sort part kind → FailsAt sorts parts i kind
walk_stops sorts due parts left i sort part kind w fails = record {
  done = w.done;
  sort = sort;
  due = due;
  ahead = w.ahead;
  part = part;
  behind = left;
  sorts_are = w.sorts_are;
  parts_are = w.parts_are;
  even = omega (arith, w.done_is, w.index_is);
  index_is = w.index_is;
  passes = w.passes;
  fails = fails;
}

pub walk_ends : (sorts due : List Sort) (parts left : List (List ℕ)) (i : ℕ) → Walked sorts due parts left i → due ≡ [] → Judges (each_part sorts parts) (Ok (tt {0}))
walk_ends sorts due parts left i w e =
    rw (w.sorts_are, w.parts_are) (w.passes due left (Ok (tt {0})) (rw e (judges-end tt)))

no_parts : (due : List Sort) → Judges (each_part due []) (Ok (tt {0}))
no_parts [] = judges-end tt
no_parts (sort ∷ due) = judges-end tt

pub walk_short : (sorts due : List Sort) (parts left : List (List ℕ)) (i : ℕ) → Walked sorts due parts left i → left ≡ [] → Judges (each_part sorts parts) (Ok (tt {0}))
walk_short sorts due parts left i w e =
    rw (w.sorts_are, w.parts_are) (w.passes due left (Ok (tt {0})) (rw e (no_parts due)))

pub judged_fails : (sorts : List Sort) (parts : List (List ℕ)) (index : ℕ) (kind : Kind) → FailsAt sorts parts index kind → Judges {A = Unit {0}} (each_part sorts parts) (Err kind)
judged_fails sorts parts index kind at = rw (at.sorts_are, at.parts_are) (at.passes (at.sort ∷ at.due) (at.part ∷ at.behind) (Err kind) (at.fails at.due at.behind))

-- ---- the steps of a loop over a form

pub first_is : (parts : List (List ℕ)) (x : List ℕ × List (List ℕ)) → Some x ≡ first_and_rest parts → parts ≡ x.0 ∷ x.1
first_is [] x e = absurd cc
first_is (p ∷ ps) x e =
    let same : x ≡ (p, ps) = cc in
    sym (ap (λ (y : List ℕ × List (List ℕ)). y.0 ∷ y.1) same)

pub none_left : (parts : List (List ℕ)) → None ≡ first_and_rest parts → parts ≡ []
none_left [] e = refl
none_left (p ∷ ps) e = absurd cc

pub next_sort : (form : List Expected) (i : ℕ) (d : Expected) → i < length form → map sort_of (drop i form) ≡ sort_of (get_or form i d) ∷ map sort_of (drop (i + 1) form)
next_sort form i d lt = ap (map sort_of) (drop_more form i d lt)

pub filled : (parts : List (List ℕ)) → None ≡ end_of parts → 0 < length parts
filled [] e = absurd cc
filled (p ∷ ps) e = omega arith

pub none_due : (form : List Expected) (i : ℕ) → length form ≤ i → map sort_of (drop i form) ≡ []
none_due form i le = ap (map sort_of) (drop_all i form le)

pub at_part : (sorts due_now due : List Sort) (parts left_now left : List (List ℕ)) (i : ℕ) (sort : Sort) (part : List ℕ) → Walked sorts due_now parts left_now i → due_now ≡ sort ∷ due → left_now ≡ part ∷ left → Walked sorts (sort ∷ due) parts (part ∷ left) i
at_part sorts due_now due parts left_now left i sort part w e f = rw (sym e, sym f) w

pub misfit_judged : (sorts : List Sort) (parts : List (List ℕ)) (found : Option Misfit) → MatchOption found (Judges (each_part sorts parts) (Ok (tt {0}))) (λ m. FailsAt sorts parts m.index (class m.why)) → Judges (each_part sorts parts) (misfit_verdict found)
misfit_judged sorts parts None judged = judged
misfit_judged sorts parts (Some m) at = judged_fails sorts parts m.index (class m.why) at

pub misfit_placed : (sorts : List Sort) (parts : List (List ℕ)) (found : Option Misfit) → MatchOption found (Judges (each_part sorts parts) (Ok (tt {0}))) (λ m. FailsAt sorts parts m.index (class m.why))
    → IfSome found (λ m. MisfitAt sorts parts m.index (class m.why))
misfit_placed sorts parts None judged = tt
misfit_placed sorts parts (Some m) at = inr at
