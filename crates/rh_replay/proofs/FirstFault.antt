-- The fault that reading a history finds comes first in the order of the format.
use Rattle.std.proofs.Common.{◌≡◌, ℕ, ◌+◌, ◌<◌, ◌≤◌, ◌⊎◌, Bool, true, false, cond, ltb, eqb, not, ◌||◌, List, [], ◌∷◌, length, Option, Some, None, Result, Ok, Err, refl, sym, ap, subst, ◌∙◌, arith, inl, inr}
use Rattle.std.specs.Bool.{Decides}
use Rattle.std.specs.Prelude.{codes, decimal, ⊤}
use Rattle.std.specs.Str.{bytes_eq}
use Rattle.std.proofs.lemmas.Bool.{false≢true}
use Rattle.std.proofs.lemmas.Bool.Decides.{Decides-or, Decides-ltb, Decides-not, not_from_Decides, Decides-eqb}
use Rattle.std.proofs.lemmas.Slice.Eq.{bytes_eq-Decides}
use Rattle.rh_layout.specs.declared.command.Reply.{Reply}
use Rattle.rh_layout.specs.declared.refusal.Refusal.{Refusal}
use Rattle.rh_text.specs.Number.{IsU32, number_of}
use Rattle.rh_text.specs.Parts.{parts_of, is_formed, one_part, three_parts, IsFormedLine}
use Rattle.rh_text.specs.RawLine.{RawLine, lines_of}
use Rattle.rh_text.specs.Stages.{◌when◌, ◌▸◌, no_fault, in_lines, IsLeast, IsFirst}
use Rattle.rh_text.specs.Steps.{◌>>=◌, or_fault, with_fault}
use Rattle.rh_text.specs.lemmas.Numbers.{number_means, number_of-decimal}
use Rattle.rh_text.specs.lemmas.Stages.{Judges, JudgesLines, judges-end, judges-here, judges-later, judges-found, judges-line, judges-no_lines, judges-made, judges-step, in_lines-from}
use Rattle.rh_syntax.specs.declared.fault.Kind.{Kind}
use Rattle.rh_syntax.specs.declared.fault.Kind.TheVariants.{Empty, Long, Cut, Form, Header, Word, Number}
use Rattle.rh_syntax.specs.Faults.{IsNumber, IsFirstPart, raw_line_faults}
use Rattle.rh_syntax.specs.Reading.{checked_parts}
use Rattle.rh_text.specs.lemmas.Cuts.{some_is}
use Rattle.rh_text.specs.lemmas.Formed.{is_formed-Decides, not_ended}
use Rattle.rh_text.specs.lemmas.Steps.{ok_is, err_is, ok_err, none_some, bind_ok, refused}
use Rattle.rh_syntax.specs.lemmas.FirstFault.{judges-owned, judges-raw_line, no_number, number_is}
use Rattle.rh_replay.specs.declared.call.Call.{Call}
use Rattle.rh_replay.specs.declared.fault.HistoryKind.{HistoryKind}
use Rattle.rh_replay.specs.declared.fault.HistoryKind.TheVariants.{Line, Trailing, Answer, Count, End}
use Rattle.rh_replay.specs.declared.fault.HistoryFault.{HistoryFault}
use Rattle.rh_replay.specs.History.{HistoryState}
use Rattle.rh_replay.specs.Faults.{◌▹◌, chosen_faults, of_line, IsUpTo, size_faults, header_part_faults, header_faults, IsAnswer, command_before_faults, cut_call_faults, call_faults, IsCount, end_faults, line_part_faults, line_faults, trailing_faults, begins_with_end, later_faults, text_faults}
use Rattle.rh_replay.proofs.FirstEquals.{cut_is, cut_once}
use Rattle.rh_replay.specs.Reading.{answer_of, before_equals, after_equals, command_before, call_of_parts, end_of_parts, line_of_parts, line_or_kind, size_up_to, sizes_of, header_of_parts, header_of_line, header_or_kind, fault_at, kind_after_end, end_from, next_calls, calls_from, history_or_fault, history_of}
use Rattle.rh_replay.proofs.ReadIsSpelled.{answer_of-means, size_up_to-means, with_ok}
use Rattle.rh_replay.proofs.SpelledIsRead.{answer_read, size_up_to-decimal}

-- ---- faults of a trace's line

none_of_line : (faults : ℕ → Kind → Type 0) → ((p : ℕ) (k : Kind) → faults p k → ⊥) → (p : ℕ) (k : HistoryKind) → of_line faults p k → ⊥
none_of_line faults none p (Line k) h = none p k h
none_of_line faults none p Trailing h = h
none_of_line faults none p Answer h = h
none_of_line faults none p Count h = h
none_of_line faults none p End h = h

least_of_line : (faults : ℕ → Kind → Type 0) (kind : Kind) (l : IsLeast faults kind) (p : ℕ) (k : HistoryKind) → of_line faults p k → (l.stage < p) ⊎ ((p ≡ l.stage) × (k ≡ Line kind))
least_of_line faults kind l p (Line k) h = elim (l.least p k h) [ inl lt ↦ inl lt | inr same ↦ inr (same.0, ap (λ (j : Kind). Line j) same.1) ]
least_of_line faults kind l p Trailing h = absurd h
least_of_line faults kind l p Answer h = absurd h
least_of_line faults kind l p Count h = absurd h
least_of_line faults kind l p End h = absurd h

judges-of_line : {A : Type 0} (faults : ℕ → Kind → Type 0) (r : Result A Kind) → Judges faults r → Judges (of_line faults) (with_fault Line r)
judges-of_line {A = A} faults (Ok x) judged = record {
  none = λ y e. none_of_line faults (judged.none x refl);
  least = λ k e. absurd (ok_err {A = A} {K = HistoryKind} x k e);
}
judges-of_line {A = A} faults (Err kind) judged =
    let l = judged.least kind refl in
    record {
      none = λ y e. absurd (ok_err {A = A} {K = HistoryKind} y (Line kind) (sym e));
      least = λ k e. subst (IsLeast (of_line faults)) (err_is {A = A} {K = HistoryKind} (Line kind) k e) (record { stage = l.stage; holds = l.holds; least = least_of_line faults kind l });
    }

-- a chain, and then another that is looked at only where none of the first holds
judges-after : {A B : Type 0} (faults later : ℕ → HistoryKind → Type 0) (r : Result A HistoryKind) (f : A → Result B HistoryKind) → Judges faults r → ((x : A) → Judges later (f x)) → Judges (faults ▹ later) (r >>= f)
judges-after {A = A} {B = B} faults later (Ok x) f judged next =
    let none = judged.none x refl in
    let rest = next x in
    record {
      none = λ y e p k h. elim h [ inl first ↦ none p k first | inr other ↦ rest.none y e p k other.1 ];
      least = λ k e.
          let l = rest.least k e in
          record { stage = l.stage; holds = inr (none, l.holds); least = λ p j h. elim h [ inl first ↦ absurd (none p j first) | inr other ↦ l.least p j other.1 ] };
    }
judges-after {A = A} {B = B} faults later (Err kind) f judged next =
    let l = judged.least kind refl in
    record {
      none = λ y e. absurd (ok_err {A = B} {K = HistoryKind} y kind (sym e));
      least = λ k e. subst (IsLeast (faults ▹ later)) (err_is {A = B} {K = HistoryKind} kind k e) (record {
        stage = l.stage;
        holds = inl l.holds;
        least = λ p j h. elim h [ inl first ↦ l.least p j first | inr other ↦ absurd (other.0 l.stage kind l.holds) ];
      });
    }

-- ---- a call's line

judges-before : (parts : List (List ℕ)) → Judges (command_before_faults parts) (command_before parts)
unfolding command_before
judges-before [] = judges-here Word ⊤ no_fault tt
judges-before (part ∷ parts) = judges-owned (part ∷ parts)

no_answer : (parts : List (List ℕ)) → answer_of parts ≡ None → ¬ IsAnswer parts
no_answer parts e h = none_some (answer_of parts) h.0 e (ap answer_of h.2 ∙ answer_read h.0 h.1)

answer_is : (parts : List (List ℕ)) (a : Result Reply Refusal) → answer_of parts ≡ Some a → IsAnswer parts
answer_is parts a e = let m = answer_of-means parts a e in (a, m.1, m.0)

judges-cut_call : (parts : List (List ℕ)) → Judges (cut_call_faults (before_equals parts) (after_equals parts)) (call_of_parts parts)
unfolding call_of_parts
judges-cut_call parts =
    let answers : ℕ → HistoryKind → Type 0 = Answer when (¬ IsAnswer (after_equals parts)) ▸ no_fault in
    judges-after (of_line (command_before_faults (before_equals parts))) answers (with_fault Line (command_before (before_equals parts))) _ (judges-of_line (command_before_faults (before_equals parts)) (command_before (before_equals parts)) (judges-before (before_equals parts)))
    (λ owned. judges-found (answer_of (after_equals parts)) Answer (¬ IsAnswer (after_equals parts)) no_fault _ (no_answer (after_equals parts)) (λ a e fails. fails (answer_is (after_equals parts) a e)) (λ a e. judges-end _))

-- a fault of the line is one of its parts before and after the first that is `=`
fault_of_cut : (parts : List (List ℕ)) (p : ℕ) (k : HistoryKind) → call_faults parts p k → cut_call_faults (before_equals parts) (after_equals parts) p k
fault_of_cut parts p k h =
    let same = cut_once parts h.0 h.1 h.2 in
    subst (λ before. cut_call_faults before (after_equals parts) p k) same.0 (subst (λ after. cut_call_faults h.0 after p k) same.1 h.3)

judges-call : (parts : List (List ℕ)) → Judges (call_faults parts) (call_of_parts parts)
judges-call parts =
    let judged = judges-cut_call parts in
    record {
      none = λ call e p k h. judged.none call e p k (fault_of_cut parts p k h);
      least = λ kind e.
          let l = judged.least kind e in
          record {
            stage = l.stage;
            holds = (before_equals parts, after_equals parts, cut_is parts, l.holds);
            least = λ p k h. l.least p k (fault_of_cut parts p k h);
          };
    }

-- ---- the last line

same_number : (part : List ℕ) (m n : ℕ) → number_of part ≡ Some m → IsU32 n → part ≡ decimal n → n ≡ m
same_number part m n e small is = some_is n m (sym (number_of-decimal n small) ∙ ap number_of (sym is) ∙ e)

by_count : (t : Bool) (number : ℕ) (part : List ℕ) (n : ℕ) → Decides t (n + 2 ≡ number) → number_of part ≡ Some n → Judges {A = Option Call} (Count when (¬ IsCount number part) ▸ no_fault) (cond t (Ok None) (Err Count))
by_count true number part n decides e =
    let m = number_means part n e in
    judges-later Count (¬ IsCount number part) no_fault (Ok None) (λ fails. fails (n, m.1, decides.0 refl, m.0)) (judges-end None)
by_count false number part n decides e =
    judges-here Count (¬ IsCount number part) no_fault (λ h. not_from_Decides false decides refl (ap (λ (i : ℕ). i + 2) (sym (same_number part n h.0 e h.1 h.3)) ∙ h.2))

judges-end_line : (number : ℕ) (args : List (List ℕ)) → Judges (end_faults number args) (end_of_parts number args)
unfolding end_of_parts one_part
judges-end_line number [] = judges-here (Line Form) ⊤ no_fault tt
judges-end_line number (part ∷ []) =
    judges-found (number_of part) (Line Number) (¬ IsNumber part) (Count when (¬ IsCount number part) ▸ no_fault) (λ n. cond (eqb (n + 2) number) (Ok None) (Err Count)) (no_number part) (λ n e fails. fails (number_is part n e))
    (λ n e. by_count (eqb (n + 2) number) number part n (Decides-eqb (n + 2) number) e)
judges-end_line number (part ∷ another ∷ args) = judges-here (Line Form) ⊤ no_fault tt

-- ---- a line after the first

by_word : {A : Type 0} (t : Bool) (these those : ℕ → HistoryKind → Type 0) (r s : Result A HistoryKind) → Judges these r → Judges those s → Judges (chosen_faults t these those) (cond t r s)
by_word true these those r s here there = here
by_word false these those r s here there = there

judges-line_parts : (number : ℕ) (parts : List (List ℕ)) → Judges (line_part_faults number parts) (line_of_parts number parts)
unfolding line_of_parts
judges-line_parts number [] = judges-here (Line Form) ⊤ no_fault tt
judges-line_parts number (word ∷ args) =
    by_word (bytes_eq word (codes "end")) (end_faults number args) (call_faults (word ∷ args)) (end_of_parts number args) (call_of_parts (word ∷ args) >>= λ call. Ok (Some call)) (judges-end_line number args)
    (judges-step (call_of_parts (word ∷ args)) (λ call. Some call) (judges-call (word ∷ args)))

-- a test of a trace's line that decides the stage, and then the other steps
line_test : {A B : Type 0} (t : Bool) (kind : Kind) (P : Type 0) (others : ℕ → HistoryKind → Type 0) (r : Result A Kind) (f : A → Result B HistoryKind) → Decides t P → Judges others (with_fault Line r >>= f)
    → Judges (Line kind when P ▸ others) (with_fault Line (cond t (Err kind) r) >>= f)
line_test true kind P others r f decides next = judges-here (Line kind) P others (decides.0 refl)
line_test false kind P others r f decides next = judges-later (Line kind) P others (with_fault Line r >>= f) (λ h. false≢true (decides.1 h)) next

limits_decided : (number : ℕ) (line : RawLine) → Decides (ltb 1048576 number || ltb 256 (length line.bytes)) ((1048576 < number) ⊎ (256 < length line.bytes))
limits_decided number line = Decides-or (ltb 1048576 number) (ltb 256 (length line.bytes)) (Decides-ltb 1048576 number) (Decides-ltb 256 (length line.bytes))

judges-line_or_kind : (number : ℕ) (line : RawLine) → Judges (line_faults number line) (line_or_kind number line)
unfolding line_or_kind checked_parts
judges-line_or_kind number line =
    line_test (ltb 1048576 number || ltb 256 (length line.bytes)) Long ((1048576 < number) ⊎ (256 < length line.bytes)) _ _ (line_of_parts number) (limits_decided number line)
    (line_test (not line.ended) Cut (line.ended ≡ false) _ _ (line_of_parts number) (not_ended line.ended)
    (line_test (not (is_formed line.bytes)) Form (¬ IsFormedLine line.bytes) _ _ (line_of_parts number) (Decides-not (is_formed line.bytes) (is_formed-Decides line.bytes))
    (judges-line_parts number (parts_of line.bytes))))

-- ---- a line after the last

kind_test : {A : Type 0} (t : Bool) (kind other : HistoryKind) (P : Type 0) (others : ℕ → HistoryKind → Type 0) → Decides t P → Judges {A = A} others (Err other) → Judges {A = A} (kind when P ▸ others) (Err (cond t kind other))
kind_test true kind other P others decides next = judges-here kind P others (decides.0 refl)
kind_test false kind other P others decides next = judges-later kind P others (Err other) (λ h. false≢true (decides.1 h)) next

judges-trailing : (number : ℕ) (line : RawLine) → Judges {A = List Call} (trailing_faults number line) (Err (kind_after_end number line))
unfolding kind_after_end
judges-trailing number line =
    kind_test (ltb 1048576 number || ltb 256 (length line.bytes)) (Line Long) _ ((1048576 < number) ⊎ (256 < length line.bytes)) _ (limits_decided number line)
    (kind_test (not line.ended) (Line Cut) Trailing (line.ended ≡ false) _ (not_ended line.ended) (judges-here Trailing ⊤ no_fault tt))

-- ---- the whole text

abbrev line_at : HistoryFault → ℕ
line_at f = f.line

abbrev kind_at : HistoryFault → HistoryKind
kind_at f = f.kind

judges-end_from : (n : ℕ) (lines : List RawLine) → JudgesLines line_at kind_at (in_lines trailing_faults n lines) (end_from n lines)
unfolding end_from
judges-end_from n [] = judges-no_lines line_at kind_at trailing_faults n []
judges-end_from n (line ∷ lines) =
    let kind = kind_after_end n line in
    judges-line line_at kind_at (fault_at n) n (trailing_faults n line) (in_lines trailing_faults (n + 1) lines) (Err kind) (λ calls. Ok calls)
    (λ k. refl) (λ k. refl) (λ m p k h. let after = in_lines-from trailing_faults (n + 1) lines m p k h in omega arith)
    (judges-trailing n line) (λ calls e. absurd (ok_err {A = List Call} {K = HistoryKind} calls kind (sym e)))

-- a line that was read begins with `end` exactly where it is the last one
abbrev is_last : Option Call → Bool
is_last None = true
is_last (Some call) = false

some_none : (call : Call) → ◌≡◌ {A = Option Call} (Some call) None → ⊥
some_none call e = cc

count_none : (t : Bool) (r : Option Call) → cond t (Ok None) (Err Count) ≡ Ok r → None ≡ r
count_none true r e = ok_is {K = HistoryKind} None r e
count_none false r e = absurd (ok_err {A = Option Call} {K = HistoryKind} r Count (sym e))

no_call : (number : ℕ) (args : List (List ℕ)) (call : Call) → end_of_parts number args ≡ Ok (Some call) → ⊥
unfolding end_of_parts
no_call number args call e =
    let a = bind_ok (or_fault (one_part args) (Line Form)) (λ part. or_fault (number_of part) (Line Number) >>= λ count. cond (eqb (count + 2) number) (Ok None) (Err Count)) (Some call) e in
    let b = bind_ok (or_fault (number_of a.0) (Line Number)) (λ count. cond (eqb (count + 2) number) (Ok None) (Err Count)) (Some call) a.2 in
    some_none call (sym (count_none (eqb (b.0 + 2) number) (Some call) b.2))

last_by : (t : Bool) (number : ℕ) (word : List ℕ) (args : List (List ℕ)) (r : Option Call) → cond t (end_of_parts number args) (call_of_parts (word ∷ args) >>= λ call. Ok (Some call)) ≡ Ok r → t ≡ is_last r
last_by true number word args None e = refl
last_by true number word args (Some call) e = absurd (no_call number args call e)
last_by false number word args (Some call) e = refl
last_by false number word args None e = let a = bind_ok (call_of_parts (word ∷ args)) (λ call. Ok (Some call)) None e in absurd (some_none a.0 (ok_is {K = HistoryKind} (Some a.0) None a.2))

last_of_parts : (number : ℕ) (parts : List (List ℕ)) (r : Option Call) → line_of_parts number parts ≡ Ok r → begins_with_end parts ≡ is_last r
unfolding line_of_parts
last_of_parts number [] r e = absurd cc
last_of_parts number (word ∷ args) r e = last_by (bytes_eq word (codes "end")) number word args r e

checked_are : (number : ℕ) (raw : RawLine) (parts : List (List ℕ)) → checked_parts number raw ≡ Ok parts → parts_of raw.bytes ≡ parts
unfolding checked_parts
checked_are number raw parts e =
    let formed : Result (List (List ℕ)) Kind = cond (not (is_formed raw.bytes)) (Err Form) (Ok (parts_of raw.bytes)) in
    let a = refused (ltb 1048576 number || ltb 256 (length raw.bytes)) Long (cond (not raw.ended) (Err Cut) formed) parts e in
    let b = refused (not raw.ended) Cut formed parts a.1 in
    let c = refused (not (is_formed raw.bytes)) Form (Ok (parts_of raw.bytes)) parts b.1 in
    ok_is {K = Kind} (parts_of raw.bytes) parts c.1

last_line : (number : ℕ) (raw : RawLine) (r : Option Call) → line_or_kind number raw ≡ Ok r → begins_with_end (parts_of raw.bytes) ≡ is_last r
unfolding line_or_kind
last_line number raw r e =
    let a = bind_ok (with_fault Line (checked_parts number raw)) (line_of_parts number) r e in
    ap begins_with_end (checked_are number raw a.0 (with_ok Line (checked_parts number raw) a.0 a.1)) ∙ last_of_parts number a.0 r a.2

-- the faults of the lines after one, by whether it begins with `end`
abbrev faults_after : Bool → ℕ → List RawLine → ℕ → ℕ → HistoryKind → Type 0
faults_after last n lines line stage kind = chosen_faults last (in_lines trailing_faults (n + 1) lines line) (later_faults (n + 1) lines line) stage kind

after_from : (last : Bool) (n : ℕ) (lines : List RawLine) → ((m p : ℕ) (k : HistoryKind) → later_faults (n + 1) lines m p k → n + 1 ≤ m) → (m p : ℕ) (k : HistoryKind) → faults_after last n lines m p k → n + 1 ≤ m
after_from true n lines ih m p k h = in_lines-from trailing_faults (n + 1) lines m p k h
after_from false n lines ih m p k h = ih m p k h

later_from : (n : ℕ) (lines : List RawLine) (m p : ℕ) (k : HistoryKind) → later_faults n lines m p k → n ≤ m
later_from n [] m p k h = omega (arith, h.0)
later_from n (l ∷ ls) m p k h = elim h [
  | inl this ↦ omega (arith, this.0)
  | inr other ↦ let from = after_from (begins_with_end (parts_of l.bytes)) n ls (later_from (n + 1) ls) m p k other in omega (arith, from)
]

err_ok : {A : Type 0} (x : A) (f : HistoryFault) → ◌≡◌ {A = Result A HistoryFault} (Err f) (Ok x) → ⊥
err_ok x f e = cc

fault_is : {A : Type 0} (f g : HistoryFault) → ◌≡◌ {A = Result A HistoryFault} (Err f) (Err g) → f ≡ g
fault_is f g e = cc

lacks_end : (n : ℕ) → JudgesLines {A = List Call} line_at kind_at (later_faults n []) (Err (fault_at n End))
lacks_end n = record {
  none = λ x e m p k h. err_ok x (fault_at n End) e;
  first = λ f e. subst (λ (g : HistoryFault). IsFirst (later_faults n []) g.line g.kind) (fault_is {A = List Call} (fault_at n End) f e)
      (record { stage = 0; holds = (refl, refl, refl); first = λ m p k h. inr (h.0, inr (h.1, h.2)) });
}

by_last : (last : Bool) (n : ℕ) (lines : List RawLine) (r : Option Call) → last ≡ is_last r → JudgesLines line_at kind_at (later_faults (n + 1) lines) (calls_from (n + 1) lines)
    → JudgesLines line_at kind_at (faults_after last n lines) (next_calls r (end_from (n + 1) lines) (calls_from (n + 1) lines))
by_last true n lines None is ih = judges-end_from (n + 1) lines
by_last true n lines (Some call) is ih = absurd (false≢true (sym is))
by_last false n lines None is ih = absurd (false≢true is)
by_last false n lines (Some call) is ih = judges-made line_at kind_at (later_faults (n + 1) lines) (calls_from (n + 1) lines) (λ calls. call ∷ calls) ih

judges-calls_from : (n : ℕ) (lines : List RawLine) → JudgesLines line_at kind_at (later_faults n lines) (calls_from n lines)
unfolding calls_from
judges-calls_from n [] = lacks_end n
judges-calls_from n (line ∷ lines) =
    let last = begins_with_end (parts_of line.bytes) in
    judges-line line_at kind_at (fault_at n) n (line_faults n line) (faults_after last n lines) (line_or_kind n line) (λ read. next_calls read (end_from (n + 1) lines) (calls_from (n + 1) lines))
    (λ k. refl) (λ k. refl) (λ m p k h. let from = after_from last n lines (later_from (n + 1) lines) m p k h in omega (arith, from))
    (judges-line_or_kind n line) (λ read e. by_last last n lines read (last_line n line read e) (judges-calls_from (n + 1) lines))

-- ---- the first line

no_size : (most : ℕ) → most ≤ 256 → (part : List ℕ) → size_up_to most part ≡ None → ¬ IsUpTo most part
no_size most small part e h = none_some (size_up_to most part) h.0 e (ap (size_up_to most) h.3 ∙ size_up_to-decimal most h.0 (omega (arith, h.2)) h.1 h.2)

size_is : (most : ℕ) (part : List ℕ) (n : ℕ) → size_up_to most part ≡ Some n → IsUpTo most part
size_is most part n e = let m = size_up_to-means most part n e in (n, m.1, m.2, m.0)

judges-sizes : (word owners slots : List ℕ) → Judges (size_faults (word ∷ owners ∷ slots ∷ [])) (sizes_of owners slots)
unfolding sizes_of
judges-sizes word owners slots =
    judges-found (size_up_to 16 owners) Number (¬ IsUpTo 16 owners) _ _ (no_size 16 (omega arith) owners) (λ n e fails. fails (size_is 16 owners n e)) (λ n e.
    judges-found (size_up_to 256 slots) Number (¬ IsUpTo 256 slots) no_fault _ (no_size 256 (omega arith) slots) (λ m f fails. fails (size_is 256 slots m f)) (λ m f. judges-end _))

abbrev header_stage : List (List ℕ) → Type 0
header_stage parts = (¬ IsFirstPart (codes "history") parts) ⊎ (¬ (length parts ≡ 3))

by_history : (t : Bool) (word a b : List ℕ) → Decides t (word ≡ codes "history") → Judges (header_part_faults (word ∷ a ∷ b ∷ [])) (cond t (sizes_of a b) (Err Header))
by_history true word a b decides =
    let parts = word ∷ a ∷ b ∷ [] in
    judges-later Header (header_stage parts) (size_faults parts) (sizes_of a b) (λ h. elim h [ inl other ↦ other (decides.0 refl) | inr count ↦ count refl ]) (judges-sizes word a b)
by_history false word a b decides =
    let parts = word ∷ a ∷ b ∷ [] in
    judges-here Header (header_stage parts) (size_faults parts) (inl (not_from_Decides false decides refl))

wrong_count : (parts : List (List ℕ)) → ¬ (length parts ≡ 3) → Judges {A = ℕ × ℕ} (header_part_faults parts) (Err Header)
wrong_count parts count = judges-here Header (header_stage parts) (size_faults parts) (inr count)

judges-header_parts : (parts : List (List ℕ)) → Judges (header_part_faults parts) (header_of_parts parts)
unfolding header_of_parts three_parts
judges-header_parts [] = wrong_count [] (λ e. absurd (omega (arith, e)))
judges-header_parts (a ∷ []) = wrong_count (a ∷ []) (λ e. absurd (omega (arith, e)))
judges-header_parts (a ∷ b ∷ []) = wrong_count (a ∷ b ∷ []) (λ e. absurd (omega (arith, e)))
judges-header_parts (a ∷ b ∷ c ∷ []) = by_history (bytes_eq a (codes "history")) a b c (bytes_eq-Decides a (codes "history"))
judges-header_parts (a ∷ b ∷ c ∷ d ∷ parts) = wrong_count (a ∷ b ∷ c ∷ d ∷ parts) (λ e. absurd (omega (arith, e)))

judges-header_or_kind : (line : RawLine) → Judges (header_faults line) (header_or_kind line)
unfolding header_of_line
judges-header_or_kind line = judges-of_line (raw_line_faults header_part_faults 1 line) (checked_parts 1 line >>= header_of_parts) (judges-raw_line header_part_faults 1 line header_of_parts (judges-header_parts (parts_of line.bytes)))

-- ---- what the law says

empty_text : JudgesLines {A = HistoryState} line_at kind_at (text_faults []) (Err (fault_at 1 (Line Empty)))
empty_text = record {
  none = λ x e n p k h. err_ok x (fault_at 1 (Line Empty)) e;
  first = λ f e. subst (λ (g : HistoryFault). IsFirst (text_faults []) g.line g.kind) (fault_is {A = HistoryState} (fault_at 1 (Line Empty)) f e)
      (record { stage = 0; holds = (refl, refl, refl); first = λ n p k h. inr (h.0, inr (h.1, h.2)) });
}

judges-history : (lines : List RawLine) → JudgesLines line_at kind_at (text_faults lines) (history_or_fault lines)
unfolding history_or_fault
judges-history [] = empty_text
judges-history (line ∷ lines) =
    judges-line line_at kind_at (fault_at 1) 1 (header_faults line) (later_faults 2 lines) (header_or_kind line) (λ header. calls_from 2 lines >>= λ calls. Ok (record { owners = header.0; slots = header.1; calls = calls }))
    (λ k. refl) (λ k. refl) (λ m p k h. let from = later_from 2 lines m p k h in omega (arith, from))
    (judges-header_or_kind line) (λ header e. judges-made line_at kind_at (later_faults 2 lines) (calls_from 2 lines) (λ calls. record { owners = header.0; slots = header.1; calls = calls }) (judges-calls_from 2 lines))

pub first_fault : (bytes : List ℕ) (fault : HistoryFault) → history_of bytes ≡ Err fault → IsFirst (text_faults (lines_of bytes)) fault.line fault.kind
first_fault bytes fault e = (judges-history (lines_of bytes)).first fault e

pub no_fault_of_history : (bytes : List ℕ) (h : HistoryState) → history_of bytes ≡ Ok h → (n p : ℕ) (k : HistoryKind) → text_faults (lines_of bytes) n p k → ⊥
no_fault_of_history bytes h e = (judges-history (lines_of bytes)).none h e
