-- What a history is spelled as is read as that history.
use Rattle.std.proofs.Common.{◌≡◌, ℕ, pos, negsuc, ◌+◌, ◌^◌, ◌<◌, ◌≤◌, Bool, true, false, cond, leb, eqb, ◌&&◌, List, [], ◌∷◌, ◌++◌, length, Option, Some, None, Result, Ok, Err, refl, sym, ap, subst, ◌∙◌, append_assoc, arith, eq-eqb}
use Rattle.std.specs.Prelude.{codes, decimal}
use Rattle.std.specs.Fmt.{signed_decimal}
use Rattle.std.specs.Option.{option_map}
use Rattle.std.specs.List.{flat_map, join_with_byte, AllByRecursion}
use Rattle.std.specs.Str.{bytes_eq}
use Rattle.std.proofs.lemmas.Bool.{false≢true, false_from_ne_true, and_from, le-leb}
use Rattle.std.proofs.lemmas.List.{append-nil, length-append}
use Rattle.std.proofs.lemmas.Slice.Eq.{bytes_eq-Decides}
use Rattle.rh_layout.specs.declared.command.Command.{Command}
use Rattle.rh_layout.specs.declared.command.Command.TheVariants.{Alloc, Load, Store, Copy, Drop}
use Rattle.rh_layout.specs.declared.command.Command.TheVariants as commands
use Rattle.rh_layout.specs.declared.command.Operand.{Operand}
use Rattle.rh_layout.specs.declared.command.Operand.TheVariants as operands
use Rattle.rh_layout.specs.declared.command.Reply.{Reply}
use Rattle.rh_layout.specs.declared.command.Reply.TheVariants.{Done, Nil, Int, Object, Raw, Same}
use Rattle.rh_layout.specs.declared.command.RootId.{RootId}
use Rattle.rh_layout.specs.declared.refusal.Refusal.{Refusal}
use Rattle.rh_layout.specs.declared.refusal.Refusal.TheVariants.{NoRoot, NotYours, NotObject, NoField, RawField, IntRange, FieldsRange, SpaceFull, LogFull, NumbersSpent}
use Rattle.rh_text.specs.Number.{IsU32}
use Rattle.rh_text.specs.Parts.{begins_with_digit, spell_parts, one_part, two_parts, three_parts, ◌>>=◌ as ◌>>=?◌}
use Rattle.rh_text.specs.RawLine.{RawLine, lines_of}
use Rattle.rh_text.specs.Root.{root_text, RootFits}
use Rattle.rh_text.specs.Steps.{◌>>=◌, or_fault, with_fault}
use Rattle.rh_text.specs.lemmas.Integers.{i64_size, integer_of-decimal}
use Rattle.rh_text.specs.lemmas.Numbers.{number_of-decimal}
use Rattle.rh_text.specs.lemmas.Joins.{IsPart, filled-decimal, decimal_digits, wide_digits, wide_filled, number_part, integer_part, ended_line}
use Rattle.rh_syntax.specs.Spelling.{operand_text, command_parts, OperandFits, CommandFits}
use Rattle.rh_syntax.specs.declared.fault.Kind.{Kind}
use Rattle.rh_syntax.specs.declared.fault.Kind.TheVariants as kinds
use Rattle.rh_syntax.specs.lemmas.SpelledIsRead.{AreParts, command-read, checked_parts-join, lines_of-parts, starts_with_digit, begins_with_digit-append}
use Rattle.rh_replay.specs.declared.call.Call.{Call}
use Rattle.rh_replay.specs.declared.fault.HistoryKind.{HistoryKind}
use Rattle.rh_replay.specs.declared.fault.HistoryKind.TheVariants.{Line, Answer, Count}
use Rattle.rh_replay.specs.declared.fault.HistoryFault.{HistoryFault}
use Rattle.rh_replay.specs.History.{HistoryState, IsHistory, AnswerFits, CallFits}
use Rattle.rh_replay.specs.Spelling.{header_parts, call_line, end_parts, end_line, spelling, answer_parts, IsReadable}
use Rattle.rh_replay.specs.Reading.{bare_answer, sameness_of, refusal_named, answer_with, answer_of, before_equals, after_equals, command_before, call_of_parts, end_of_parts, line_of_parts, line_or_kind, size_up_to, sizes_of, header_of_parts, header_of_line, fault_at, end_from, line_or_fault, next_calls, calls_from, header_or_fault, history_or_fault, history_of}
use Rattle.rh_replay.proofs.Equals.{before_equals-append, after_equals-append}
use Rattle.rh_replay.proofs.ReadIsSpelled.{call_parts, call_text, some_command}

abbrev Ans : Type 0
Ans = Result Reply Refusal

-- ---- no part of a command is `=`

not_mark : (part : List ℕ) → begins_with_digit part ≡ true → bytes_eq part (codes "=") ≡ false
not_mark part digit = false_from_ne_true (bytes_eq part (codes "=")) (λ e. false≢true (ap begins_with_digit (sym ((bytes_eq-Decides part (codes "=")).0 e)) ∙ digit))

not_end : (part : List ℕ) → begins_with_digit part ≡ true → bytes_eq part (codes "end") ≡ false
not_end part digit = false_from_ne_true (bytes_eq part (codes "end")) (λ e. false≢true (ap begins_with_digit (sym ((bytes_eq-Decides part (codes "end")).0 e)) ∙ digit))

digit_number : (n : ℕ) → IsU32 n → begins_with_digit (decimal n) ≡ true
digit_number n small = starts_with_digit (decimal n) (filled-decimal n small) (decimal_digits n small)

mark_number : (n : ℕ) → IsU32 n → bytes_eq (decimal n) (codes "=") ≡ false
mark_number n small = not_mark (decimal n) (digit_number n small)

mark_root : (root : RootId) → RootFits root → bytes_eq (root_text root) (codes "=") ≡ false
mark_root root fits = not_mark (root_text root) (begins_with_digit-append (decimal root.owner) (46 ∷ decimal root.slot) (digit_number root.owner fits.0))

mark_operand : (operand : Operand) → OperandFits operand → bytes_eq (operand_text operand) (codes "=") ≡ false
mark_operand operands.Nil fits = refl
mark_operand (operands.Int (pos k)) fits =
    let small : k < 2 ^ 64 = omega (arith, i64_size (pos k) fits) in
    not_mark (decimal k) (starts_with_digit (decimal k) (wide_filled k small) (wide_digits k small))
mark_operand (operands.Int (negsuc k)) fits = refl
mark_operand (operands.Root root) fits = mark_root root fits

free : (owner : ℕ) (command : Command) → CommandFits owner command → before_equals (command_parts owner command) ≡ command_parts owner command
free owner (Alloc dst fields) fits = rw (mark_number owner fits.0, mark_root dst fits.1, mark_number fields fits.2) refl
free owner (commands.Raw dst fields) fits = rw (mark_number owner fits.0, mark_root dst fits.1, mark_number fields fits.2) refl
free owner (Load dst src field) fits = rw (mark_number owner fits.0, mark_root dst fits.1, mark_root src fits.2, mark_number field fits.3) refl
free owner (Store obj field operand) fits = rw (mark_number owner fits.0, mark_root obj fits.1, mark_number field fits.2, mark_operand operand fits.3) refl
free owner (Copy dst src) fits = rw (mark_number owner fits.0, mark_root dst fits.1, mark_root src fits.2) refl
free owner (commands.Same a b) fits = rw (mark_number owner fits.0, mark_root a fits.1, mark_root b fits.2) refl
free owner (Drop root) fits = rw (mark_number owner fits.0, mark_root root fits.1) refl

-- ---- answers

pub answer_read : (a : Ans) → AnswerFits a → answer_of (answer_parts a) ≡ Some a
unfolding answer_of one_part two_parts bare_answer answer_with sameness_of refusal_named
answer_read (Ok Done) fits = refl
answer_read (Ok Nil) fits = refl
answer_read (Ok (Int n)) fits = ap (option_map (λ m. Ok (Int m))) (integer_of-decimal n fits)
answer_read (Ok (Object n)) fits = ap (option_map (λ m. Ok (Object m))) (number_of-decimal n fits)
answer_read (Ok (Raw n)) fits = ap (option_map (λ m. Ok (Raw m))) (number_of-decimal n fits)
answer_read (Ok (Same true)) fits = refl
answer_read (Ok (Same false)) fits = refl
answer_read (Err NoRoot) fits = refl
answer_read (Err NotYours) fits = refl
answer_read (Err NotObject) fits = refl
answer_read (Err NoField) fits = refl
answer_read (Err RawField) fits = refl
answer_read (Err IntRange) fits = refl
answer_read (Err FieldsRange) fits = refl
answer_read (Err (SpaceFull need free)) fits = absurd cc
answer_read (Err LogFull) fits = absurd cc
answer_read (Err NumbersSpent) fits = absurd cc

one_word : (word : List ℕ) → IsPart word → AllByRecursion IsPart (word ∷ [])
one_word word is = (is, tt)

two_words : (word part : List ℕ) → IsPart word → IsPart part → AllByRecursion IsPart (word ∷ part ∷ [])
two_words word part is other = (is, (other, tt))

refused_part : IsPart (codes "refused")
refused_part = record { filled = refl; glyphs = refl; short = omega arith }

same_part : IsPart (codes "same")
same_part = record { filled = refl; glyphs = refl; short = omega arith }

answer_parts_are : (a : Ans) → AnswerFits a → AllByRecursion IsPart (answer_parts a)
answer_parts_are (Ok Done) fits = one_word (codes "done") (record { filled = refl; glyphs = refl; short = omega arith })
answer_parts_are (Ok Nil) fits = one_word (codes "nil") (record { filled = refl; glyphs = refl; short = omega arith })
answer_parts_are (Ok (Int n)) fits = two_words (codes "int") (signed_decimal n) (record { filled = refl; glyphs = refl; short = omega arith }) (integer_part n fits)
answer_parts_are (Ok (Object n)) fits = two_words (codes "object") (decimal n) (record { filled = refl; glyphs = refl; short = omega arith }) (number_part n fits)
answer_parts_are (Ok (Raw n)) fits = two_words (codes "raw") (decimal n) (record { filled = refl; glyphs = refl; short = omega arith }) (number_part n fits)
answer_parts_are (Ok (Same true)) fits = two_words (codes "same") (codes "yes") same_part (record { filled = refl; glyphs = refl; short = omega arith })
answer_parts_are (Ok (Same false)) fits = two_words (codes "same") (codes "no") same_part (record { filled = refl; glyphs = refl; short = omega arith })
answer_parts_are (Err NoRoot) fits = two_words (codes "refused") (codes "NoRoot") refused_part (record { filled = refl; glyphs = refl; short = omega arith })
answer_parts_are (Err NotYours) fits = two_words (codes "refused") (codes "NotYours") refused_part (record { filled = refl; glyphs = refl; short = omega arith })
answer_parts_are (Err NotObject) fits = two_words (codes "refused") (codes "NotObject") refused_part (record { filled = refl; glyphs = refl; short = omega arith })
answer_parts_are (Err NoField) fits = two_words (codes "refused") (codes "NoField") refused_part (record { filled = refl; glyphs = refl; short = omega arith })
answer_parts_are (Err RawField) fits = two_words (codes "refused") (codes "RawField") refused_part (record { filled = refl; glyphs = refl; short = omega arith })
answer_parts_are (Err IntRange) fits = two_words (codes "refused") (codes "IntRange") refused_part (record { filled = refl; glyphs = refl; short = omega arith })
answer_parts_are (Err FieldsRange) fits = two_words (codes "refused") (codes "FieldsRange") refused_part (record { filled = refl; glyphs = refl; short = omega arith })
answer_parts_are (Err (SpaceFull need free)) fits = absurd cc
answer_parts_are (Err LogFull) fits = absurd cc
answer_parts_are (Err NumbersSpent) fits = absurd cc

answer_few : (a : Ans) → length (answer_parts a) ≤ 2
answer_few (Ok Done) = omega arith
answer_few (Ok Nil) = omega arith
answer_few (Ok (Int n)) = omega arith
answer_few (Ok (Object n)) = omega arith
answer_few (Ok (Raw n)) = omega arith
answer_few (Ok (Same true)) = omega arith
answer_few (Ok (Same false)) = omega arith
answer_few (Err refusal) = omega arith

-- ---- the line of a call

command_few : (owner : ℕ) (command : Command) → length (command_parts owner command) ≤ 5
command_few owner (Alloc dst fields) = omega arith
command_few owner (commands.Raw dst fields) = omega arith
command_few owner (Load dst src field) = omega arith
command_few owner (Store obj field operand) = omega arith
command_few owner (Copy dst src) = omega arith
command_few owner (commands.Same a b) = omega arith
command_few owner (Drop root) = omega arith

all-append : (xs ys : List (List ℕ)) → AllByRecursion IsPart xs → AllByRecursion IsPart ys → AllByRecursion IsPart (xs ++ ys)
all-append [] ys h k = k
all-append (x ∷ xs) ys h k = (h.0, all-append xs ys h.1 k)

mark_part : IsPart (codes "=")
mark_part = record { filled = refl; glyphs = refl; short = omega arith }

command_parts_are : (owner : ℕ) (command : Command) → CommandFits owner command → AllByRecursion IsPart (command_parts owner command)
command_parts_are owner command fits =
    let a = command-read owner command fits in
    subst (AllByRecursion IsPart) (sym a.spelled) a.are.each

-- what stands after the owner in a call's line
others_of : Call → List (List ℕ)
others_of call = (some_command call.owner call.command).0 ++ codes "=" ∷ answer_parts call.answer

call_is : (call : Call) → call_parts call ≡ decimal call.owner ∷ others_of call
unfolding others_of
call_is call = ap (λ (ps : List (List ℕ)). ps ++ codes "=" ∷ answer_parts call.answer) (some_command call.owner call.command).1

call_parts_are : (call : Call) → CallFits call → AreParts (decimal call.owner) (others_of call)
call_parts_are call fits =
    let all : AllByRecursion IsPart (call_parts call) = all-append (command_parts call.owner call.command) (codes "=" ∷ answer_parts call.answer) (command_parts_are call.owner call.command fits.0) (mark_part, answer_parts_are call.answer fits.1) in
    let whole : length (call_parts call) ≤ 8 = omega (arith, length-append (command_parts call.owner call.command) (codes "=" ∷ answer_parts call.answer), command_few call.owner call.command, answer_few call.answer) in
    record { each = subst (AllByRecursion IsPart) (call_is call) all; few = omega (arith, whole, ap length (call_is call)) }

owner_fits : (owner : ℕ) (command : Command) → CommandFits owner command → IsU32 owner
owner_fits owner (Alloc dst fields) fits = fits.0
owner_fits owner (commands.Raw dst fields) fits = fits.0
owner_fits owner (Load dst src field) fits = fits.0
owner_fits owner (Store obj field operand) fits = fits.0
owner_fits owner (Copy dst src) fits = fits.0
owner_fits owner (commands.Same a b) fits = fits.0
owner_fits owner (Drop root) fits = fits.0

command_before-read : (owner : ℕ) (command : Command) → CommandFits owner command → command_before (command_parts owner command) ≡ Ok (owner, command)
unfolding command_before
command_before-read owner command fits = let a = command-read owner command fits in ap command_before a.spelled ∙ a.read

call-read : (call : Call) → CallFits call → call_of_parts (call_parts call) ≡ Ok call
unfolding call_of_parts
call-read call fits =
    let parts = call_parts call in
    let command = command_parts call.owner call.command in
    let tail = codes "=" ∷ answer_parts call.answer in
    let clean = free call.owner call.command fits.0 in
    let make : ℕ × Command → Ans → Call = λ owned answer. record { owner = owned.0; command = owned.1; answer = answer } in
    let before : before_equals parts ≡ command = before_equals-append command tail clean ∙ append-nil command in
    let after : after_equals parts ≡ answer_parts call.answer = after_equals-append command tail clean in
    let owned : with_fault Line (command_before (before_equals parts)) ≡ Ok (call.owner, call.command) = ap (λ (ps : List (List ℕ)). with_fault Line (command_before ps)) before ∙ ap (with_fault Line) (command_before-read call.owner call.command fits.0) in
    let answered : or_fault (answer_of (after_equals parts)) Answer ≡ Ok call.answer = ap (λ (ps : List (List ℕ)). or_fault (answer_of ps) Answer) after ∙ ap (λ (o : Option Ans). or_fault o Answer) (answer_read call.answer fits.1) in
    ap (λ (r : Result (ℕ × Command) HistoryKind). r >>= λ o. or_fault (answer_of (after_equals parts)) Answer >>= λ answer. Ok (make o answer)) owned
    ∙ ap (λ (r : Result Ans HistoryKind). r >>= λ answer. Ok (make (call.owner, call.command) answer)) answered

line-read : (number : ℕ) (call : Call) → CallFits call → line_of_parts number (decimal call.owner ∷ others_of call) ≡ Ok (Some call)
unfolding line_of_parts
line-read number call fits =
    let digit = digit_number call.owner (owner_fits call.owner call.command fits.0) in
    let rest = others_of call in
    let read : call_of_parts (decimal call.owner ∷ rest) ≡ Ok call = ap call_of_parts (sym (call_is call)) ∙ call-read call fits in
    ap (λ (t : Bool). cond t (end_of_parts number rest) (call_of_parts (decimal call.owner ∷ rest) >>= λ c. Ok (Some c))) (not_end (decimal call.owner) digit)
    ∙ ap (λ (r : Result Call HistoryKind). r >>= λ c. Ok (Some c)) read

end-read : (number count : ℕ) → IsU32 count → count + 2 ≡ number → line_of_parts number (end_parts count) ≡ Ok None
unfolding line_of_parts end_of_parts one_part
end-read number count small counted =
    ap (λ (o : Option ℕ). or_fault o (Line kinds.Number) >>= λ n. cond (eqb (n + 2) number) (Ok None) (Err Count)) (number_of-decimal count small)
    ∙ ap (λ (t : Bool). cond t (Ok None) (Err Count)) (eq-eqb (count + 2) number counted)

line_or_fault-join : (number : ℕ) (first : List ℕ) (others : List (List ℕ)) (r : Option Call) → number ≤ 1048576 → AreParts first others → line_of_parts number (first ∷ others) ≡ Ok r → line_or_fault number (ended_line (join_with_byte 32 (first ∷ others))) ≡ Ok r
unfolding line_or_kind
line_or_fault-join number first others r small are read =
    ap (λ (c : Result (List (List ℕ)) Kind). with_fault (fault_at number) (with_fault Line c >>= line_of_parts number)) (checked_parts-join number first others small are)
    ∙ ap (with_fault (fault_at number)) read

-- ---- the lines after the first

end_parts_are : (count : ℕ) → IsU32 count → AreParts (codes "end") (decimal count ∷ [])
end_parts_are count small = record { each = (record { filled = refl; glyphs = refl; short = omega arith }, (number_part count small, tt)); few = omega arith }

calls_from-line : (number : ℕ) (raw : RawLine) (lines : List RawLine) (r : Option Call) → line_or_fault number raw ≡ Ok r → calls_from number (raw ∷ lines) ≡ next_calls r (end_from (number + 1) lines) (calls_from (number + 1) lines)
unfolding calls_from
calls_from-line number raw lines r e = ap (λ (s : Result (Option Call) HistoryFault). s >>= λ read. next_calls read (end_from (number + 1) lines) (calls_from (number + 1) lines)) e

nothing_left : (number : ℕ) → end_from number [] ≡ Ok []
unfolding end_from
nothing_left number = refl

pub calls_from-spelled : (calls : List Call) (number count : ℕ) → AllByRecursion CallFits calls → count + 2 ≡ number + length calls → number + length calls ≤ 1048576
    → calls_from number (lines_of (flat_map call_line calls ++ end_line count)) ≡ Ok calls
calls_from-spelled [] number count fit counted few =
    let small : IsU32 count = omega (arith, counted, few) in
    let first = codes "end" in
    let others : List (List ℕ) = decimal count ∷ [] in
    let are = end_parts_are count small in
    let raws : lines_of (end_line count) ≡ ended_line (join_with_byte 32 (first ∷ others)) ∷ [] = ap lines_of (sym (append-nil (end_line count))) ∙ lines_of-parts first others [] are in
    let read = line_or_fault-join number first others None (omega (arith, few)) are (end-read number count small (omega (arith, counted))) in
    ap (calls_from number) raws ∙ calls_from-line number (ended_line (join_with_byte 32 (first ∷ others))) [] None read ∙ nothing_left (number + 1)
calls_from-spelled (call ∷ calls) number count fit counted few =
    let rest = flat_map call_line calls ++ end_line count in
    let first = decimal call.owner in
    let others = others_of call in
    let are = call_parts_are call fit.0 in
    let text : flat_map call_line (call ∷ calls) ++ end_line count ≡ spell_parts (first ∷ others) ++ rest =
    append_assoc (call_line call) (flat_map call_line calls) (end_line count) ∙ ap (λ (t : List ℕ). t ++ rest) (sym (call_text call fit.0) ∙ ap spell_parts (call_is call)) in
    let raws : lines_of (flat_map call_line (call ∷ calls) ++ end_line count) ≡ ended_line (join_with_byte 32 (first ∷ others)) ∷ lines_of rest = ap lines_of text ∙ lines_of-parts first others rest are in
    let read = line_or_fault-join number first others (Some call) (omega (arith, few)) are (line-read number call fit.0) in
    let more = calls_from-spelled calls (number + 1) count fit.1 (omega (arith, counted)) (omega (arith, few)) in
    ap (calls_from number) raws ∙ calls_from-line number (ended_line (join_with_byte 32 (first ∷ others))) (lines_of rest) (Some call) read
    ∙ ap (λ (r : Result (List Call) HistoryFault). r >>= λ cs. Ok (call ∷ cs)) more

-- ---- the first line, and the whole text

pub size_up_to-decimal : (most n : ℕ) → IsU32 n → 1 ≤ n → n ≤ most → size_up_to most (decimal n) ≡ Some n
unfolding size_up_to
size_up_to-decimal most n small some few =
    ap (λ (o : Option ℕ). o >>=? λ m. cond (leb 1 m && leb m most) (Some m) None) (number_of-decimal n small)
    ∙ ap (λ (t : Bool). cond t (Some n) None) (and_from (leb 1 n) (leb n most) (le-leb 1 n some) (le-leb n most few))

header_parts_are : (owners slots : ℕ) → IsU32 owners → IsU32 slots → AreParts (codes "history") (decimal owners ∷ decimal slots ∷ [])
header_parts_are owners slots o s = record { each = (record { filled = refl; glyphs = refl; short = omega arith }, (number_part owners o, (number_part slots s, tt))); few = omega arith }

header_of_parts-spelled : (h : HistoryState) → IsHistory h → header_of_parts (header_parts h.owners h.slots) ≡ Ok (h.owners, h.slots)
unfolding header_of_parts three_parts sizes_of
header_of_parts-spelled h is =
    let owners = size_up_to-decimal 16 h.owners (omega (arith, is.few_owners)) is.some_owner is.few_owners in
    let slots = size_up_to-decimal 256 h.slots (omega (arith, is.few_slots)) is.some_slot is.few_slots in
    ap (λ (o : Option ℕ). or_fault o kinds.Number >>= λ n. or_fault (size_up_to 256 (decimal h.slots)) kinds.Number >>= λ m. Ok (n, m)) owners
    ∙ ap (λ (o : Option ℕ). or_fault o kinds.Number >>= λ m. Ok (h.owners, m)) slots

header_or_fault-join : (h : HistoryState) → IsHistory h → header_or_fault (ended_line (join_with_byte 32 (header_parts h.owners h.slots))) ≡ Ok (h.owners, h.slots)
unfolding header_of_line
header_or_fault-join h is =
    let are = header_parts_are h.owners h.slots (omega (arith, is.few_owners)) (omega (arith, is.few_slots)) in
    ap (λ (c : Result (List (List ℕ)) Kind). with_fault (fault_at 1) (with_fault Line (c >>= header_of_parts))) (checked_parts-join 1 (codes "history") (decimal h.owners ∷ decimal h.slots ∷ []) (omega arith) are)
    ∙ ap (λ (r : Result (ℕ × ℕ) Kind). with_fault (fault_at 1) (with_fault Line r)) (header_of_parts-spelled h is)

pub history_of-spelling : (h : HistoryState) → IsReadable h → history_of (spelling h) ≡ Ok h
unfolding history_or_fault
history_of-spelling h is =
    let rest = flat_map call_line h.calls ++ end_line (length h.calls) in
    let others : List (List ℕ) = decimal h.owners ∷ decimal h.slots ∷ [] in
    let are = header_parts_are h.owners h.slots (omega (arith, is.0.few_owners)) (omega (arith, is.0.few_slots)) in
    let raws : lines_of (spelling h) ≡ ended_line (join_with_byte 32 (header_parts h.owners h.slots)) ∷ lines_of rest = lines_of-parts (codes "history") others rest are in
    let calls = calls_from-spelled h.calls 2 (length h.calls) is.0.calls (omega arith) (omega (arith, is.1)) in
    let make : ℕ × ℕ → List Call → HistoryState = λ sizes cs. record { owners = sizes.0; slots = sizes.1; calls = cs } in
    ap history_or_fault raws
    ∙ ap (λ (r : Result (ℕ × ℕ) HistoryFault). r >>= λ header. calls_from 2 (lines_of rest) >>= λ cs. Ok (make header cs)) (header_or_fault-join h is.0)
    ∙ ap (λ (r : Result (List Call) HistoryFault). r >>= λ cs. Ok (make (h.owners, h.slots) cs)) calls
