-- What is read of a history's text is spelled so, and fits.
use Rattle.std.proofs.Common.{◌≡◌, ℕ, ◌+◌, ◌≤◌, Bool, true, false, cond, ltb, leb, eqb, not, ◌||◌, ◌&&◌, List, [], ◌∷◌, ◌++◌, length, Option, Some, None, Result, Ok, Err, refl, sym, ap, subst, ◌∙◌, arith, append_assoc}
use Rattle.std.specs.Prelude.{codes, decimal, IfOk}
use Rattle.std.specs.Option.{option_map}
use Rattle.std.specs.List.{flat_map, join_with_byte, AllByRecursion}
use Rattle.std.specs.Str.{bytes_eq}
use Rattle.std.proofs.lemmas.Bool.{and_parts, leb-true, eqb-true, ltb-false, or_parts}
use Rattle.std.proofs.lemmas.List.{append-nil}
use Rattle.std.proofs.lemmas.Slice.Eq.{bytes_eq-Decides}
use Rattle.rh_layout.specs.declared.command.Command.{Command}
use Rattle.rh_layout.specs.declared.command.Command.TheVariants as commands
use Rattle.rh_layout.specs.declared.command.Reply.{Reply}
use Rattle.rh_layout.specs.declared.command.Reply.TheVariants.{Done, Nil, Int, Object, Raw, Same}
use Rattle.rh_layout.specs.declared.refusal.Refusal.{Refusal}
use Rattle.rh_layout.specs.declared.refusal.Refusal.TheVariants.{NoRoot, NotYours, NotObject, NoField, RawField, IntRange, FieldsRange, SpaceFull, LogFull, NumbersSpent}
use Rattle.rh_text.specs.Number.{number_of, integer_of}
use Rattle.rh_text.specs.Parts.{parts_of, is_formed, spell_parts, one_part, two_parts, three_parts, ◌>>=◌ as ◌>>=?◌}
use Rattle.rh_text.specs.RawLine.{RawLine, lines_of, raw_text}
use Rattle.rh_text.specs.Steps.{◌>>=◌, or_fault, with_fault}
use Rattle.rh_text.specs.lemmas.Cuts.{some_is}
use Rattle.rh_text.specs.lemmas.Formed.{one_part-means, three_parts-means}
use Rattle.rh_text.specs.lemmas.Integers.{integer_means}
use Rattle.rh_text.specs.lemmas.Numbers.{number_means}
use Rattle.rh_text.specs.lemmas.RawLines.{lines_text}
use Rattle.rh_text.specs.lemmas.Steps.{bind_ok, chosen, refused, ok_is, or_fault_ok}
use Rattle.rh_syntax.specs.CommandAnswers.{answer_text}
use Rattle.rh_syntax.specs.Reading.{checked_parts}
use Rattle.rh_syntax.specs.Spelling.{command_parts, command_text}
use Rattle.rh_syntax.specs.declared.fault.Kind.{Kind}
use Rattle.rh_syntax.specs.declared.fault.Kind.TheVariants as kinds
use Rattle.rh_syntax.specs.lemmas.ReadIsSpelled.{owned_command-means, checked_parts-means, Reads}
use Rattle.rh_replay.specs.declared.call.Call.{Call}
use Rattle.rh_replay.specs.declared.fault.HistoryKind.{HistoryKind}
use Rattle.rh_replay.specs.declared.fault.HistoryKind.TheVariants.{Line, Answer, Count}
use Rattle.rh_replay.specs.declared.fault.HistoryFault.{HistoryFault}
use Rattle.rh_replay.specs.declared.fault.HistoryError.{HistoryError}
use Rattle.rh_replay.specs.History.{HistoryState, AnswerFits, CallFits}
use Rattle.rh_replay.specs.Spelling.{header_parts, header_line, call_line, end_parts, end_line, spelling, answer_parts, IsReadable}
use Rattle.rh_replay.specs.Reading.{bare_answer, sameness_of, refusal_named, answer_with, answer_of, before_equals, after_equals, command_before, call_of_parts, end_of_parts, line_of_parts, line_or_kind, size_up_to, sizes_of, header_of_parts, header_of_line, fault_at, end_from, line_or_fault, next_calls, calls_from, header_or_fault, history_or_fault, history_of, Gives}

-- ---- answers

abbrev Ans : Type 0
Ans = Result Reply Refusal

abbrev Speaks : List (List ℕ) → Ans → Type 0
Speaks parts a = (parts ≡ answer_parts a) × AnswerFits a

by_test : {A : Type 0} (t : Bool) (this others : Option A) (x : A) (P : Type 0) → (t ≡ true → this ≡ Some x → P) → (others ≡ Some x → P) → cond t this others ≡ Some x → P
by_test true this others x P here there e = here refl e
by_test false this others x P here there e = there e

none_is : {A : Type 0} (x : A) → ◌≡◌ {A = Option A} None (Some x) → ⊥
none_is x e = cc

map_some : {A B : Type 0} (o : Option A) (f : A → B) (y : B) → option_map f o ≡ Some y → (x : A) × (o ≡ Some x) × (f x ≡ y)
map_some (Some x) f y e = (x, refl, some_is (f x) y e)
map_some {B = B} None f y e = absurd (none_is {A = B} y e)

word_is : (part word : List ℕ) → bytes_eq part word ≡ true → part ≡ word
word_is part word e = (bytes_eq-Decides part word).0 e

-- an answer whose last part is this word
spoken : (before : List ℕ → List (List ℕ)) (part word : List ℕ) (a b : Ans) → before word ≡ answer_parts a → AnswerFits a → bytes_eq part word ≡ true → Some a ≡ Some b → Speaks (before part) b
spoken before part word a b is fits same e = subst (Speaks (before part)) (some_is a b e) (ap before (word_is part word same) ∙ is, fits)

bare_answer-means : (word : List ℕ) (a : Ans) → bare_answer word ≡ Some a → Speaks (word ∷ []) a
unfolding bare_answer
bare_answer-means word a e =
    let before : List ℕ → List (List ℕ) = λ w. w ∷ [] in
    let nil : Option Ans = cond (bytes_eq word (codes "nil")) (Some (Ok Nil)) None in
    by_test (bytes_eq word (codes "done")) (Some (Ok Done)) nil a (Speaks (word ∷ []) a) (λ t f. spoken before word (codes "done") (Ok Done) a refl tt t f)
    (by_test (bytes_eq word (codes "nil")) (Some (Ok Nil)) None a (Speaks (word ∷ []) a) (λ t f. spoken before word (codes "nil") (Ok Nil) a refl tt t f) (λ f. absurd (none_is a f))) e

sameness_of-means : (part : List ℕ) (a : Ans) → sameness_of part ≡ Some a → Speaks (codes "same" ∷ part ∷ []) a
unfolding sameness_of
sameness_of-means part a e =
    let before : List ℕ → List (List ℕ) = λ w. codes "same" ∷ w ∷ [] in
    let no_word : Option Ans = cond (bytes_eq part (codes "no")) (Some (Ok (Same false))) None in
    by_test (bytes_eq part (codes "yes")) (Some (Ok (Same true))) no_word a (Speaks (codes "same" ∷ part ∷ []) a) (λ t f. spoken before part (codes "yes") (Ok (Same true)) a refl tt t f)
    (by_test (bytes_eq part (codes "no")) (Some (Ok (Same false))) None a (Speaks (codes "same" ∷ part ∷ []) a) (λ t f. spoken before part (codes "no") (Ok (Same false)) a refl tt t f) (λ f. absurd (none_is a f))) e

refusal_named-means : (part : List ℕ) (a : Ans) → refusal_named part ≡ Some a → Speaks (codes "refused" ∷ part ∷ []) a
unfolding refusal_named
refusal_named-means part a e =
    let before : List ℕ → List (List ℕ) = λ w. codes "refused" ∷ w ∷ [] in
    let goal : Type 0 = Speaks (codes "refused" ∷ part ∷ []) a in
    by_test (bytes_eq part (codes "NoRoot")) (Some (Err NoRoot)) _ a goal (λ t f. spoken before part (codes "NoRoot") (Err NoRoot) a refl refl t f)
    (by_test (bytes_eq part (codes "NotYours")) (Some (Err NotYours)) _ a goal (λ t f. spoken before part (codes "NotYours") (Err NotYours) a refl refl t f)
    (by_test (bytes_eq part (codes "NotObject")) (Some (Err NotObject)) _ a goal (λ t f. spoken before part (codes "NotObject") (Err NotObject) a refl refl t f)
    (by_test (bytes_eq part (codes "NoField")) (Some (Err NoField)) _ a goal (λ t f. spoken before part (codes "NoField") (Err NoField) a refl refl t f)
    (by_test (bytes_eq part (codes "RawField")) (Some (Err RawField)) _ a goal (λ t f. spoken before part (codes "RawField") (Err RawField) a refl refl t f)
    (by_test (bytes_eq part (codes "IntRange")) (Some (Err IntRange)) _ a goal (λ t f. spoken before part (codes "IntRange") (Err IntRange) a refl refl t f)
    (by_test (bytes_eq part (codes "FieldsRange")) (Some (Err FieldsRange)) None a goal (λ t f. spoken before part (codes "FieldsRange") (Err FieldsRange) a refl refl t f) (λ f. absurd (none_is a f)))))))) e

-- an answer of two parts, the first of which is this word
after_word : (t : Bool) (part word other : List ℕ) (a : Ans) → (t ≡ true → part ≡ word) → t ≡ true → Speaks (word ∷ other ∷ []) a → Speaks (part ∷ other ∷ []) a
after_word t part word other a is same speaks = (ap (λ (w : List ℕ). w ∷ other ∷ []) (is same) ∙ speaks.0, speaks.1)

int-means : (part : List ℕ) (a : Ans) → option_map (λ n. Ok (Int n)) (integer_of part) ≡ Some a → Speaks (codes "int" ∷ part ∷ []) a
int-means part a e =
    let m = map_some (integer_of part) (λ n. Ok (Int n)) a e in
    let n = integer_means part m.0 m.1 in
    subst (Speaks (codes "int" ∷ part ∷ [])) m.2 (ap (λ (p : List ℕ). codes "int" ∷ p ∷ []) n.0, n.1)

object-means : (part : List ℕ) (a : Ans) → option_map (λ n. Ok (Object n)) (number_of part) ≡ Some a → Speaks (codes "object" ∷ part ∷ []) a
object-means part a e =
    let m = map_some (number_of part) (λ n. Ok (Object n)) a e in
    let n = number_means part m.0 m.1 in
    subst (Speaks (codes "object" ∷ part ∷ [])) m.2 (ap (λ (p : List ℕ). codes "object" ∷ p ∷ []) n.0, n.1)

raw-means : (part : List ℕ) (a : Ans) → option_map (λ n. Ok (Raw n)) (number_of part) ≡ Some a → Speaks (codes "raw" ∷ part ∷ []) a
raw-means part a e =
    let m = map_some (number_of part) (λ n. Ok (Raw n)) a e in
    let n = number_means part m.0 m.1 in
    subst (Speaks (codes "raw" ∷ part ∷ [])) m.2 (ap (λ (p : List ℕ). codes "raw" ∷ p ∷ []) n.0, n.1)

answer_with-means : (word part : List ℕ) (a : Ans) → answer_with word part ≡ Some a → Speaks (word ∷ part ∷ []) a
unfolding answer_with
answer_with-means word part a e =
    let goal : Type 0 = Speaks (word ∷ part ∷ []) a in
    by_test (bytes_eq word (codes "int")) (option_map (λ n. Ok (Int n)) (integer_of part)) _ a goal (λ t f. after_word (bytes_eq word (codes "int")) word (codes "int") part a (word_is word (codes "int")) t (int-means part a f))
    (by_test (bytes_eq word (codes "object")) (option_map (λ n. Ok (Object n)) (number_of part)) _ a goal (λ t f. after_word (bytes_eq word (codes "object")) word (codes "object") part a (word_is word (codes "object")) t (object-means part a f))
    (by_test (bytes_eq word (codes "raw")) (option_map (λ n. Ok (Raw n)) (number_of part)) _ a goal (λ t f. after_word (bytes_eq word (codes "raw")) word (codes "raw") part a (word_is word (codes "raw")) t (raw-means part a f))
    (by_test (bytes_eq word (codes "same")) (sameness_of part) _ a goal (λ t f. after_word (bytes_eq word (codes "same")) word (codes "same") part a (word_is word (codes "same")) t (sameness_of-means part a f))
    (by_test (bytes_eq word (codes "refused")) (refusal_named part) None a goal (λ t f. after_word (bytes_eq word (codes "refused")) word (codes "refused") part a (word_is word (codes "refused")) t (refusal_named-means part a f)) (λ f. absurd (none_is a f)))))) e

pub answer_of-means : (parts : List (List ℕ)) (a : Ans) → answer_of parts ≡ Some a → Speaks parts a
unfolding answer_of one_part two_parts
answer_of-means [] a e = absurd (none_is a e)
answer_of-means (word ∷ []) a e = bare_answer-means word a e
answer_of-means (word ∷ part ∷ []) a e = answer_with-means word part a e
answer_of-means (word ∷ part ∷ other ∷ parts) a e = absurd (none_is a e)

-- ---- a line is its parts before and after `=`

no_parts : (x : List ℕ) (xs : List (List ℕ)) → ◌≡◌ {A = List (List ℕ)} [] (x ∷ xs) → ⊥
no_parts x xs e = cc

split_step : (t : Bool) (p : List ℕ) (ps : List (List ℕ)) (x : List ℕ) (xs : List (List ℕ)) → (t ≡ true → p ≡ codes "=") → (after_equals ps ≡ x ∷ xs → ps ≡ before_equals ps ++ codes "=" ∷ after_equals ps)
    → cond t ps (after_equals ps) ≡ x ∷ xs → p ∷ ps ≡ cond t [] (p ∷ before_equals ps) ++ codes "=" ∷ cond t ps (after_equals ps)
split_step true p ps x xs is ih e = ap (λ (w : List ℕ). w ∷ ps) (is refl)
split_step false p ps x xs is ih e = ap (λ (qs : List (List ℕ)). p ∷ qs) (ih e)

equals_split : (parts : List (List ℕ)) (x : List ℕ) (xs : List (List ℕ)) → after_equals parts ≡ x ∷ xs → parts ≡ before_equals parts ++ codes "=" ∷ after_equals parts
equals_split [] x xs e = absurd (no_parts x xs e)
equals_split (p ∷ ps) x xs e = split_step (bytes_eq p (codes "=")) p ps x xs (word_is p (codes "=")) (equals_split ps x xs) e

-- ---- what stands in a line of a call

-- the parts of a call's line
abbrev pub call_parts : Call → List (List ℕ)
call_parts call = command_parts call.owner call.command ++ codes "=" ∷ answer_parts call.answer

some_answer : (a : Ans) → (x : List ℕ) × (xs : List (List ℕ)) × (answer_parts a ≡ x ∷ xs)
some_answer (Ok Done) = (codes "done", [], refl)
some_answer (Ok Nil) = (codes "nil", [], refl)
some_answer (Ok (Int n)) = (codes "int", _, refl)
some_answer (Ok (Object n)) = (codes "object", _, refl)
some_answer (Ok (Raw n)) = (codes "raw", _, refl)
some_answer (Ok (Same true)) = (codes "same", _, refl)
some_answer (Ok (Same false)) = (codes "same", _, refl)
some_answer (Err refusal) = (codes "refused", _, refl)

pub with_ok : {A K F : Type 0} (g : K → F) (r : Result A K) (x : A) → with_fault g r ≡ Ok x → r ≡ Ok x
with_ok g (Ok y) x e = ap (λ z. Ok z) (ok_is y x e)
with_ok g (Err k) x e = absurd cc

command_before-means : (parts : List (List ℕ)) (owned : ℕ × Command) → command_before parts ≡ Ok owned → Reads parts owned
unfolding command_before
command_before-means [] owned e = absurd cc
command_before-means (part ∷ parts) owned e = owned_command-means (part ∷ parts) owned e

abbrev MeansCall : List (List ℕ) → Call → Type 0
MeansCall parts call = (parts ≡ call_parts call) × CallFits call

call_of_parts-means : (parts : List (List ℕ)) (call : Call) → call_of_parts parts ≡ Ok call → MeansCall parts call
unfolding call_of_parts
call_of_parts-means parts call e =
    let make : ℕ × Command → Ans → Call = λ owned answer. record { owner = owned.0; command = owned.1; answer = answer } in
    let a = bind_ok (with_fault Line (command_before (before_equals parts))) (λ owned. or_fault (answer_of (after_equals parts)) Answer >>= λ answer. Ok (make owned answer)) call e in
    let b = bind_ok (or_fault (answer_of (after_equals parts)) Answer) (λ answer. Ok (make a.0 answer)) call a.2 in
    let command = command_before-means (before_equals parts) a.0 (with_ok Line (command_before (before_equals parts)) a.0 a.1) in
    let answer = answer_of-means (after_equals parts) b.0 (or_fault_ok (answer_of (after_equals parts)) Answer b.0 b.1) in
    let shape = some_answer b.0 in
    let split = equals_split parts shape.0 shape.1 (answer.0 ∙ shape.2) in
    let whole : parts ≡ call_parts (make a.0 b.0) =
    split ∙ ap (λ (ps : List (List ℕ)). ps ++ codes "=" ∷ after_equals parts) command.0 ∙ ap (λ (ps : List (List ℕ)). command_parts a.0.0 a.0.1 ++ codes "=" ∷ ps) answer.0 in
    subst (MeansCall parts) (ok_is (make a.0 b.0) call b.2) (whole, (command.1, answer.1))

-- ---- joined parts

join-append : (x : List ℕ) (xs : List (List ℕ)) (y : List ℕ) (ys : List (List ℕ)) → join_with_byte 32 ((x ∷ xs) ++ y ∷ ys) ≡ join_with_byte 32 (x ∷ xs) ++ 32 ∷ join_with_byte 32 (y ∷ ys)
join-append x [] y ys = refl
join-append x (z ∷ xs) y ys =
    ap (λ (t : List ℕ). x ++ 32 ∷ t) (join-append z xs y ys) ∙ sym (append_assoc x (32 ∷ join_with_byte 32 (z ∷ xs)) (32 ∷ join_with_byte 32 (y ∷ ys)))

pub some_command : (owner : ℕ) (command : Command) → (xs : List (List ℕ)) × (command_parts owner command ≡ decimal owner ∷ xs)
some_command owner (commands.Alloc dst fields) = (_, refl)
some_command owner (commands.Raw dst fields) = (_, refl)
some_command owner (commands.Load dst src field) = (_, refl)
some_command owner (commands.Store obj field operand) = (_, refl)
some_command owner (commands.Copy dst src) = (_, refl)
some_command owner (commands.Same a b) = (_, refl)
some_command owner (commands.Drop root) = (_, refl)

answer_join : (a : Ans) → AnswerFits a → join_with_byte 32 (answer_parts a) ≡ answer_text a
answer_join (Ok Done) fits = refl
answer_join (Ok Nil) fits = refl
answer_join (Ok (Int n)) fits = refl
answer_join (Ok (Object n)) fits = refl
answer_join (Ok (Raw n)) fits = refl
answer_join (Ok (Same true)) fits = refl
answer_join (Ok (Same false)) fits = refl
answer_join (Err NoRoot) fits = refl
answer_join (Err NotYours) fits = refl
answer_join (Err NotObject) fits = refl
answer_join (Err NoField) fits = refl
answer_join (Err RawField) fits = refl
answer_join (Err IntRange) fits = refl
answer_join (Err FieldsRange) fits = refl
answer_join (Err (SpaceFull need free)) fits = absurd cc
answer_join (Err LogFull) fits = refl
answer_join (Err NumbersSpent) fits = refl

-- the parts of a call's line, joined, are its text
pub call_text : (call : Call) → CallFits call → spell_parts (call_parts call) ≡ call_line call
call_text call fits =
    let cs = some_command call.owner call.command in
    let shape = some_answer call.answer in
    let command = command_parts call.owner call.command in
    let answer = answer_parts call.answer in
    let tail : join_with_byte 32 (codes "=" ∷ answer) ≡ 61 ∷ 32 ∷ join_with_byte 32 answer =
    ap (λ (ps : List (List ℕ)). join_with_byte 32 (codes "=" ∷ ps)) shape.2 ∙ sym (ap (λ (ps : List (List ℕ)). 61 ∷ 32 ∷ join_with_byte 32 ps) shape.2) in
    let joined : join_with_byte 32 (command ++ codes "=" ∷ answer) ≡ command_text call.owner call.command ++ 32 ∷ join_with_byte 32 (codes "=" ∷ answer) =
    ap (λ (ps : List (List ℕ)). join_with_byte 32 (ps ++ codes "=" ∷ answer)) cs.1 ∙ join-append (decimal call.owner) cs.0 (codes "=") answer ∙ sym (ap (λ (ps : List (List ℕ)). join_with_byte 32 ps ++ 32 ∷ join_with_byte 32 (codes "=" ∷ answer)) cs.1) in
    let text : join_with_byte 32 (call_parts call) ≡ command_text call.owner call.command ++ (codes " = " ++ answer_text call.answer) =
    joined ∙ ap (λ (t : List ℕ). command_text call.owner call.command ++ 32 ∷ t) tail ∙ ap (λ (t : List ℕ). command_text call.owner call.command ++ (codes " = " ++ t)) (answer_join call.answer fits.1) in
    ap (λ (t : List ℕ). t ++ 10 ∷ []) text ∙ append_assoc (command_text call.owner call.command) (codes " = " ++ answer_text call.answer) (10 ∷ [])
    ∙ ap (λ (t : List ℕ). command_text call.owner call.command ++ t) (append_assoc (codes " = ") (answer_text call.answer) (10 ∷ []))

-- ---- a line after the first

-- what a line that was read is: that of a call, or the last one
abbrev MeansLine : ℕ → List (List ℕ) → Option Call → Type 0
MeansLine number parts (Some call) = MeansCall parts call
MeansLine number parts None = (count : ℕ) × (parts ≡ end_parts count) × (count + 2 ≡ number)

err_count : {A : Type 0} (x : A) → ◌≡◌ {A = Result A HistoryKind} (Err Count) (Ok x) → ⊥
err_count x e = cc

count_is : (t : Bool) (r : Option Call) → cond t (Ok None) (Err Count) ≡ Ok r → (t ≡ true) × (None ≡ r)
count_is true r e = (refl, ok_is {K = HistoryKind} None r e)
count_is false r e = absurd (err_count r e)

end_of_parts-means : (number : ℕ) (args : List (List ℕ)) (r : Option Call) → end_of_parts number args ≡ Ok r → MeansLine number (codes "end" ∷ args) r
unfolding end_of_parts
end_of_parts-means number args r e =
    let a = bind_ok (or_fault (one_part args) (Line kinds.Form)) (λ part. or_fault (number_of part) (Line kinds.Number) >>= λ count. cond (eqb (count + 2) number) (Ok None) (Err Count)) r e in
    let b = bind_ok (or_fault (number_of a.0) (Line kinds.Number)) (λ count. cond (eqb (count + 2) number) (Ok None) (Err Count)) r a.2 in
    let c = count_is (eqb (b.0 + 2) number) r b.2 in
    let args_are = one_part-means args a.0 (or_fault_ok (one_part args) (Line kinds.Form) a.0 a.1) in
    let part_is = number_means a.0 b.0 (or_fault_ok (number_of a.0) (Line kinds.Number) b.0 b.1) in
    let whole : codes "end" ∷ args ≡ end_parts b.0 = ap (λ (ps : List (List ℕ)). codes "end" ∷ ps) args_are ∙ ap (λ (p : List ℕ). codes "end" ∷ p ∷ []) part_is.0 in
    subst (MeansLine number (codes "end" ∷ args)) c.1 (b.0, whole, eqb-true (b.0 + 2) number c.0)

by_word : (t : Bool) (number : ℕ) (word : List ℕ) (args : List (List ℕ)) (r : Option Call) → (t ≡ true → word ≡ codes "end")
    → cond t (end_of_parts number args) (call_of_parts (word ∷ args) >>= λ call. Ok (Some call)) ≡ Ok r → MeansLine number (word ∷ args) r
by_word true number word args r is e = subst (λ (w : List ℕ). MeansLine number (w ∷ args) r) (sym (is refl)) (end_of_parts-means number args r e)
by_word false number word args r is e =
    let a = bind_ok (call_of_parts (word ∷ args)) (λ call. Ok (Some call)) r e in
    subst (MeansLine number (word ∷ args)) (ok_is (Some a.0) r a.2) (call_of_parts-means (word ∷ args) a.0 a.1)

line_of_parts-means : (number : ℕ) (parts : List (List ℕ)) (r : Option Call) → line_of_parts number parts ≡ Ok r → MeansLine number parts r
unfolding line_of_parts
line_of_parts-means number [] r e = absurd cc
line_of_parts-means number (word ∷ args) r e = by_word (bytes_eq word (codes "end")) number word args r (word_is word (codes "end")) e

-- a line that was read is within the limits
checked_within : (number : ℕ) (raw : RawLine) (parts : List (List ℕ)) → checked_parts number raw ≡ Ok parts → number ≤ 1048576
unfolding checked_parts
checked_within number raw parts e =
    let rest : Result (List (List ℕ)) Kind = cond (not raw.ended) (Err kinds.Cut) (cond (not (is_formed raw.bytes)) (Err kinds.Form) (Ok (parts_of raw.bytes))) in
    let a = refused (ltb 1048576 number || ltb 256 (length raw.bytes)) kinds.Long rest parts e in
    ltb-false 1048576 number (or_parts (ltb 1048576 number) (ltb 256 (length raw.bytes)) a.0).0

abbrev pub IsLine : ℕ → RawLine → Option Call → Type 0
IsLine number raw (Some call) = (raw_text raw ≡ call_line call) × CallFits call
IsLine number raw None = (count : ℕ) × (raw_text raw ≡ end_line count) × (count + 2 ≡ number)

of_parts : (number : ℕ) (raw : RawLine) (parts : List (List ℕ)) (r : Option Call) → raw_text raw ≡ spell_parts parts → MeansLine number parts r → IsLine number raw r
of_parts number raw parts (Some call) text means = (text ∙ ap spell_parts means.0 ∙ call_text call means.1, means.1)
of_parts number raw parts None text means = (means.0, text ∙ ap spell_parts means.1, means.2)

pub line_or_fault-means : (number : ℕ) (raw : RawLine) (r : Option Call) → line_or_fault number raw ≡ Ok r → IsLine number raw r × (number ≤ 1048576)
unfolding line_or_kind
line_or_fault-means number raw r e =
    let a = bind_ok (with_fault Line (checked_parts number raw)) (line_of_parts number) r (with_ok (fault_at number) (with_fault Line (checked_parts number raw) >>= line_of_parts number) r e) in
    let checked = with_ok Line (checked_parts number raw) a.0 a.1 in
    (of_parts number raw a.0 r (checked_parts-means number raw a.0 checked) (line_of_parts-means number a.0 r a.2), checked_within number raw a.0 checked)

-- ---- the lines after the first

pub record ReadAs (raws : List RawLine) (number : ℕ) (calls : List Call) : Type 0 where
  pub count : ℕ
  pub text : flat_map raw_text raws ≡ flat_map call_line calls ++ end_line count
  pub counted : count + 2 ≡ number + length calls
  pub fit : AllByRecursion CallFits calls
  pub few : number + length calls ≤ 1048576

ends_there : (number : ℕ) (raws : List RawLine) (calls : List Call) → end_from number raws ≡ Ok calls → (raws ≡ []) × ([] ≡ calls)
unfolding end_from
ends_there number [] calls e = (refl, ok_is {K = HistoryFault} [] calls e)
ends_there number (raw ∷ raws) calls e = absurd cc

next-means : (number : ℕ) (raw : RawLine) (raws : List RawLine) (r : Option Call) (calls : List Call) → IsLine number raw r × (number ≤ 1048576)
    → ((cs : List Call) → calls_from (number + 1) raws ≡ Ok cs → ReadAs raws (number + 1) cs)
    → next_calls r (end_from (number + 1) raws) (calls_from (number + 1) raws) ≡ Ok calls → ReadAs (raw ∷ raws) number calls
next-means number raw raws None calls line ih e =
    let end = ends_there (number + 1) raws calls e in
    let text : flat_map raw_text (raw ∷ raws) ≡ end_line line.0.0 = ap (λ (ls : List RawLine). raw_text raw ++ flat_map raw_text ls) end.0 ∙ append-nil (raw_text raw) ∙ line.0.1 in
    subst (ReadAs (raw ∷ raws) number) end.1 (record { count = line.0.0; text = text; counted = omega (arith, line.0.2); fit = tt; few = omega (arith, line.1) })
next-means number raw raws (Some call) calls line ih e =
    let a = bind_ok (calls_from (number + 1) raws) (λ cs. Ok (call ∷ cs)) calls e in
    let others = ih a.0 a.1 in
    let text : flat_map raw_text (raw ∷ raws) ≡ flat_map call_line (call ∷ a.0) ++ end_line others.count =
    ap (λ (t : List ℕ). t ++ flat_map raw_text raws) line.0.0 ∙ ap (λ (t : List ℕ). call_line call ++ t) others.text ∙ sym (append_assoc (call_line call) (flat_map call_line a.0) (end_line others.count)) in
    subst (ReadAs (raw ∷ raws) number) (ok_is (call ∷ a.0) calls a.2) (record { count = others.count; text = text; counted = omega (arith, others.counted); fit = (line.0.1, others.fit); few = omega (arith, others.few) })

pub calls_from-means : (raws : List RawLine) (number : ℕ) (calls : List Call) → calls_from number raws ≡ Ok calls → ReadAs raws number calls
unfolding calls_from
calls_from-means [] number calls e = absurd cc
calls_from-means (raw ∷ raws) number calls e =
    let a = bind_ok (line_or_fault number raw) (λ read. next_calls read (end_from (number + 1) raws) (calls_from (number + 1) raws)) calls e in
    next-means number raw raws a.0 calls (line_or_fault-means number raw a.0 a.1) (calls_from-means raws (number + 1)) a.2

-- ---- the first line

then_some : {A B : Type 0} (o : Option A) (f : A → Option B) (y : B) → (o >>=? f) ≡ Some y → (x : A) × (o ≡ Some x) × (f x ≡ Some y)
then_some (Some x) f y e = (x, refl, e)
then_some {B = B} None f y e = absurd (none_is {A = B} y e)

kept : (t : Bool) (m n : ℕ) → cond t (Some m) None ≡ Some n → (t ≡ true) × (m ≡ n)
kept true m n e = (refl, some_is m n e)
kept false m n e = absurd (none_is n e)

abbrev pub IsSize : ℕ → List ℕ → ℕ → Type 0
IsSize most part n = (part ≡ decimal n) × (1 ≤ n) × (n ≤ most)

pub size_up_to-means : (most : ℕ) (part : List ℕ) (n : ℕ) → size_up_to most part ≡ Some n → IsSize most part n
unfolding size_up_to
size_up_to-means most part n e =
    let a = then_some (number_of part) (λ m. cond (leb 1 m && leb m most) (Some m) None) n e in
    let b = kept (leb 1 a.0 && leb a.0 most) a.0 n a.2 in
    let m = number_means part a.0 a.1 in
    let range = and_parts (leb 1 a.0) (leb a.0 most) b.0 in
    subst (IsSize most part) b.1 (m.0, leb-true 1 a.0 range.0, leb-true a.0 most range.1)

abbrev pub HeaderMeans : List (List ℕ) → ℕ × ℕ → Type 0
HeaderMeans parts sizes = (parts ≡ header_parts sizes.0 sizes.1) × (1 ≤ sizes.0) × (sizes.0 ≤ 16) × (1 ≤ sizes.1) × (sizes.1 ≤ 256)

header_parts_are : (parts : List (List ℕ)) (a b c x y z : List ℕ) → parts ≡ a ∷ b ∷ c ∷ [] → a ≡ x → b ≡ y → c ≡ z → parts ≡ x ∷ y ∷ z ∷ []
header_parts_are parts a b c x y z e p q r = cc

header_of_parts-means : (parts : List (List ℕ)) (sizes : ℕ × ℕ) → header_of_parts parts ≡ Ok sizes → HeaderMeans parts sizes
unfolding header_of_parts sizes_of
header_of_parts-means parts sizes e =
    let read : List ℕ × List ℕ × List ℕ → Result (ℕ × ℕ) Kind = λ three. or_fault (size_up_to 16 three.1) kinds.Number >>= λ owners. or_fault (size_up_to 256 three.2) kinds.Number >>= λ slots. Ok (owners, slots) in
    let a = bind_ok (or_fault (three_parts parts) kinds.Header) (λ three. cond (bytes_eq three.0 (codes "history")) (read three) (Err kinds.Header)) sizes e in
    let are = three_parts-means parts a.0 (or_fault_ok (three_parts parts) kinds.Header a.0 a.1) in
    let b = chosen (bytes_eq a.0.0 (codes "history")) kinds.Header (read a.0) sizes a.2 in
    let c = bind_ok (or_fault (size_up_to 16 a.0.1) kinds.Number) (λ owners. or_fault (size_up_to 256 a.0.2) kinds.Number >>= λ slots. Ok (owners, slots)) sizes b.1 in
    let d = bind_ok (or_fault (size_up_to 256 a.0.2) kinds.Number) (λ slots. Ok (c.0, slots)) sizes c.2 in
    let owners = size_up_to-means 16 a.0.1 c.0 (or_fault_ok (size_up_to 16 a.0.1) kinds.Number c.0 c.1) in
    let slots = size_up_to-means 256 a.0.2 d.0 (or_fault_ok (size_up_to 256 a.0.2) kinds.Number d.0 d.1) in
    let whole : parts ≡ header_parts c.0 d.0 = header_parts_are parts a.0.0 a.0.1 a.0.2 (codes "history") (decimal c.0) (decimal d.0) are (word_is a.0.0 (codes "history") b.0) owners.0 slots.0 in
    subst (HeaderMeans parts) (ok_is (c.0, d.0) sizes d.2) (whole, owners.1, owners.2, slots.1, slots.2)

abbrev pub IsHeader : RawLine → ℕ × ℕ → Type 0
IsHeader raw sizes = (raw_text raw ≡ header_line sizes.0 sizes.1) × (1 ≤ sizes.0) × (sizes.0 ≤ 16) × (1 ≤ sizes.1) × (sizes.1 ≤ 256)

pub header_or_fault-means : (raw : RawLine) (sizes : ℕ × ℕ) → header_or_fault raw ≡ Ok sizes → IsHeader raw sizes
unfolding header_of_line
header_or_fault-means raw sizes e =
    let line = checked_parts 1 raw >>= header_of_parts in
    let a = bind_ok (checked_parts 1 raw) header_of_parts sizes (with_ok Line line sizes (with_ok (fault_at 1) (with_fault Line line) sizes e)) in
    let b = header_of_parts-means a.0 sizes a.2 in
    (checked_parts-means 1 raw a.0 a.1 ∙ ap spell_parts b.0, b.1, b.2, b.3, b.4)

-- ---- the whole text

-- a first line and calls that were read make a history that fits
pub IsReadable-made : (raw : RawLine) (raws : List RawLine) (sizes : ℕ × ℕ) (calls : List Call) → header_or_fault raw ≡ Ok sizes → calls_from 2 raws ≡ Ok calls → IsReadable (record { owners = sizes.0; slots = sizes.1; calls = calls })
IsReadable-made raw raws sizes calls first others =
    let h = header_or_fault-means raw sizes first in
    let c = calls_from-means raws 2 calls others in
    (record { some_owner = h.1; few_owners = h.2; some_slot = h.3; few_slots = h.4; calls = c.fit; few_calls = omega (arith, c.few) }, omega (arith, c.few))

history_or_fault-means : (raws : List RawLine) (h : HistoryState) → history_or_fault raws ≡ Ok h → IsReadable h × (flat_map raw_text raws ≡ spelling h)
unfolding history_or_fault
history_or_fault-means [] h e = absurd cc
history_or_fault-means (raw ∷ raws) h e =
    let make : ℕ × ℕ → List Call → HistoryState = λ sizes calls. record { owners = sizes.0; slots = sizes.1; calls = calls } in
    let a = bind_ok (header_or_fault raw) (λ header. calls_from 2 raws >>= λ calls. Ok (make header calls)) h e in
    let b = bind_ok (calls_from 2 raws) (λ calls. Ok (make a.0 calls)) h a.2 in
    let first = header_or_fault-means raw a.0 a.1 in
    let others = calls_from-means raws 2 b.0 b.1 in
    let count : others.count ≡ length b.0 = omega (arith, others.counted) in
    let text : flat_map raw_text (raw ∷ raws) ≡ spelling (make a.0 b.0) =
    ap (λ (t : List ℕ). t ++ flat_map raw_text raws) first.0 ∙ ap (λ (t : List ℕ). header_line a.0.0 a.0.1 ++ t) others.text ∙ ap (λ (n : ℕ). header_line a.0.0 a.0.1 ++ (flat_map call_line b.0 ++ end_line n)) count in
    subst (λ (s : HistoryState). IsReadable s × (flat_map raw_text (raw ∷ raws) ≡ spelling s)) (ok_is (make a.0 b.0) h b.2) (IsReadable-made raw raws a.0 b.0 a.1 b.1, text)

pub history_of-means : (bytes : List ℕ) (h : HistoryState) → history_of bytes ≡ Ok h → IsReadable h × (bytes ≡ spelling h)
history_of-means bytes h e =
    let m = history_or_fault-means (lines_of bytes) h e in
    (m.0, sym (lines_text bytes) ∙ m.1)

pub read_is_spelled : {X : Type 0} (view : X → HistoryState) (bytes : List ℕ) (r : Result X HistoryError) → Gives view r (history_of bytes) → IfOk r (λ x. IsReadable (view x) × (bytes ≡ spelling (view x)))
read_is_spelled view bytes (Ok x) given = history_of-means bytes (view x) given
read_is_spelled view bytes (Err e) given = tt
