-- Lines of commands that a heap plays: the answers are those of its steps, in order.
use Rattle.std.proofs.Common.{◌≡◌, ℕ, zero, suc, ◌+◌, ◌<◌, true, List, [], ◌∷◌, ◌++◌, length, take, Option, None, Result, Ok, Err, refl, sym, ap, subst, ◌∙◌, inl, inr, append_assoc, arith}
use Rattle.std.specs.Prelude.{count_by, is_err}
use Rattle.std.specs.List.{AllByRecursion, flat_map}
use Rattle.std.specs.Io.KnownBytes.{Appends}
use Rattle.std.proofs.lemmas.List.{length-append}
use Rattle.std.proofs.lemmas.Option.{none-some}
use Rattle.rh_layout.specs.declared.command.Command.{Command}
use Rattle.rh_layout.specs.declared.command.Reply.{Reply}
use Rattle.rh_layout.specs.declared.refusal.Refusal.{Refusal}
use Rattle.rh_model.specs.Plain.{PlainHeap}
use Rattle.rh_mutator.specs.Commands.{is_limit_answer, plain_unless}
use Rattle.rh_core.specs.runs.Programs.{CommandAnswers}
use Rattle.rh_pace.specs.Paced.{PacedState}
use Rattle.rh_text.specs.Output.{AppendsLess}
use Rattle.rh_syntax.specs.declared.fault.Kind.TheVariants.{Word}
use Rattle.rh_syntax.specs.Reading.{fault_at}
use Rattle.rh_syntax.specs.declared.request.Request.{Request}
use Rattle.rh_syntax.specs.declared.request.Request.TheVariants as requests
use Rattle.rh_trace.specs.declared.stop.Stop.{Stop}
use Rattle.rh_trace.specs.declared.stop.Stop.TheVariants as stops
use Rattle.rh_trace.specs.declared.summary.Summary.{Summary}
use Rattle.rh_trace.specs.Answers as answers
use Rattle.rh_trace.specs.Answers.{Answered, answer_line, answered_text, is_answer, is_refused, total_line}
use Rattle.rh_trace.specs.Events.{is_command}
use Rattle.rh_trace.specs.Lines.{HasOther, IsCutIn, LinesEnd, Runs, Seen, answers_in, left_by, shown, whole_text}
use Rattle.rh_trace.specs.Run as runs
use Rattle.rh_trace.specs.Run.{summary_of}
use Rattle.rh_trace.proofs.CountsByHead.{count_by-head}
use Rattle.rh_trace.proofs.LinesInTurn.{prefix_at, prefix_more}
use Rattle.rh_paced_trace.specs.Commanded.{CommandSteps, answered_by, total_at}
use Rattle.rh_paced_trace.specs.Lines.{Commands, commands_in, other_fault}
use Rattle.rh_paced_trace.specs.Playing.{after_by, output_by, replies_by, summary_by}
use Rattle.rh_paced_trace.specs.Run as paced_runs

-- ---- what they add up to, and their text

count_by-answers : (replies : CommandAnswers) → count_by is_answer (answered_by replies) ≡ length replies
count_by-answers [] = refl
count_by-answers (r ∷ replies) = omega (arith, count_by-head is_answer (answers.Answer r) (answered_by replies), count_by-answers replies)

count_by-refused : (replies : CommandAnswers) → count_by is_refused (answered_by replies) ≡ count_by is_err replies
count_by-refused [] = refl
count_by-refused (r ∷ replies) = omega (arith, count_by-head is_refused (answers.Answer r) (answered_by replies), count_by-head is_err r replies, count_by-refused replies)

sums : (a b c d f w : ℕ) → a ≡ c → b ≡ d → ◌≡◌ {A = Summary} (record { commands = a; refused = b; flips = f; root_words = w }) (record { commands = c; refused = d; flips = f; root_words = w })
sums a b c d f w p q = cc

-- the commands that were counted, and the flips of the heap, are the sums of a run of commands
pub total_at-answers : (last : PacedState) (replies : CommandAnswers) → total_at last (summary_of (answered_by replies)) ≡ paced_runs.summary_of replies last
total_at-answers last replies =
    sums (count_by is_answer (answered_by replies)) (count_by is_refused (answered_by replies)) (length replies) (count_by is_err replies) last.heap.flips last.heap.root_words (count_by-answers replies) (count_by-refused replies)

text_is : (replies : CommandAnswers) → flat_map answered_text (answered_by replies) ≡ flat_map answer_line replies
text_is [] = refl
text_is (r ∷ replies) = ap (λ (t : List ℕ). answer_line r ++ t) (text_is replies)

-- ---- the lines

-- where all requests are commands there is no other
pub no_other : (line : ℕ) (requests : List Request) → other_fault line requests ≡ None → HasOther requests → ⊥
no_other line [] none has = has
no_other line (requests.Command owner command ∷ others) none (inl not) = absurd cc
no_other line (requests.Command owner command ∷ others) none (inr has) = no_other (line + 1) others none has
no_other line (request ∷ others) none has = absurd (none-some (fault_at line Word) (sym none))

-- this is given first, and then the others
abbrev given_first : {X : Type 0} → X → (ℕ → X) → ℕ → X
given_first x others zero = x
given_first x others (suc i) = others i

module _ {X S : Type 0} (usual : X) (step : X → S → ℕ → Command → S × Result Reply Refusal) where
  -- all of them were played
  unfoldable pub by_steps : (line : ℕ) (s : S) (requests : List Request) (seen : List (Seen S)) → Runs (CommandSteps step) line s requests seen
      → (given : ℕ → X) × (answers_in seen ≡ answered_by (replies_by step given s (commands_in requests))) × (left_by s seen ≡ after_by step given s (commands_in requests))
  by_steps line s [] [] all = ((λ i. usual), refl, refl)
  by_steps line s [] (one ∷ seen) all = absurd all
  by_steps line s (r ∷ requests) [] all = absurd all
  by_steps line s (requests.Command owner command ∷ others) (one ∷ seen) all =
      let x = all.2.0 in
      let done = step x s owner command in
      let later = by_steps (line + 1) one.after others seen all.3 in
      let commands = commands_in others in (
        given_first x later.0,
        ap (λ (b : Answered). b ∷ answers_in seen) all.2.2
            ∙ ap (λ (bs : List Answered). answers.Answer done.1 ∷ bs) (later.1 ∙ ap (λ (n : S). answered_by (replies_by step later.0 n commands)) all.2.1),
        later.2 ∙ ap (λ (n : S). after_by step later.0 n commands) all.2.1,
      )
  by_steps line s (other ∷ others) (one ∷ seen) all = absurd all.2

  -- The first of them were played, so many of them: their text comes first of the text of all.
  pub first_by_steps : (line : ℕ) (s : S) (k : ℕ) (requests : List Request) (seen : List (Seen S)) → Runs (CommandSteps step) line s (take k requests) seen
      → (given : ℕ → X) × (rest : List ℕ) × (flat_map answered_text (answers_in seen) ++ rest ≡ flat_map answer_line (replies_by step given s (commands_in requests)))
  first_by_steps line s zero requests [] all =
      let given = λ (i : ℕ). usual in (given, flat_map answer_line (replies_by step given s (commands_in requests)), refl)
  first_by_steps line s zero requests (one ∷ seen) all = absurd all
  first_by_steps line s (suc k) [] [] all = ((λ i. usual), [], refl)
  first_by_steps line s (suc k) [] (one ∷ seen) all = absurd all
  first_by_steps line s (suc k) (r ∷ others) [] all = absurd all
  first_by_steps line s (suc k) (requests.Command owner command ∷ others) (one ∷ seen) all =
      let x = all.2.0 in
      let done = step x s owner command in
      let later = first_by_steps (line + 1) one.after k others seen all.3 in
      let commands = commands_in others in
      let text = λ (n : S). flat_map answer_line (replies_by step later.0 n commands) in (
        given_first x later.0,
        later.1,
        append_assoc (answered_text one.answered) (flat_map answered_text (answers_in seen)) later.1 ∙ ap (λ (u : List ℕ). answered_text one.answered ++ u) (later.2 ∙ ap text all.2.1)
            ∙ ap (λ (b : Answered). answered_text b ++ text done.0) all.2.2,
      )
  first_by_steps line s (suc k) (other ∷ others) (one ∷ seen) all = absurd all.2

  -- answers to commands that are a plain heap's are so line by line
  lines_transparent : (line : ℕ) (s : S) (requests : List Request) (seen : List (Seen S)) (p : PlainHeap) (replies : CommandAnswers) → Runs (CommandSteps step) line s requests seen → paced_runs.AreTransparent p (commands_in requests) replies
      → runs.AreTransparent p requests (answered_by replies)
  lines_transparent line s [] seen p [] all are = tt
  lines_transparent line s [] seen p (r ∷ replies) all are = absurd are
  lines_transparent line s (r ∷ requests) [] p replies all are = absurd all
  lines_transparent line s (requests.Command owner command ∷ others) (one ∷ seen) p [] all are = absurd are
  lines_transparent line s (requests.Command owner command ∷ others) (one ∷ seen) p (r ∷ replies) all are =
      ((r, refl, are.0), lines_transparent (line + 1) one.after others seen (plain_unless (is_limit_answer r) p owner command) replies all.3 are.1)
  lines_transparent line s (other ∷ others) (one ∷ seen) p replies all are = absurd all.2

  -- so are the answers to lines that were played, where a plain heap answers commands so whatever is given
  pub played_plainly : (line : ℕ) (s : S) (requests : List Request) (seen : List (Seen S)) (p : PlainHeap) → Runs (CommandSteps step) line s requests seen
      → ((given : ℕ → X) → paced_runs.AreTransparent p (commands_in requests) (replies_by step given s (commands_in requests))) → runs.AreTransparent p requests (answers_in seen)
  played_plainly line s requests seen p all plainly =
      let played = by_steps line s requests seen all in
      subst (runs.AreTransparent p requests) (sym played.1) (lines_transparent line s requests seen p (replies_by step played.0 s (commands_in requests)) all (plainly played.0))

-- ---- how they end, where their answers are written

module _ {X S : Type 0} (usual : X) (step : X → S → ℕ → Command → S × Result Reply Refusal) (paced : S → PacedState) where
  -- what is written of them
  abbrev pub next : Unit {0} → Seen S → Unit {0}
  next l one = l

  abbrev pub show : Unit {0} → Seen S → Unit {0} → List ℕ
  show l one w = answered_text one.answered

  abbrev pub closing : Unit {0} → Summary → Unit {0} → List ℕ
  closing l summary w = total_line summary

  abbrev pub opening : Unit {0} → List ℕ
  opening w = []

  abbrev pub total : S → Summary → Summary
  total s counted = total_at (paced s) counted

  shown_is : (seen : List (Seen S)) → shown next show tt seen tt ≡ flat_map answered_text (answers_in seen)
  shown_is [] = refl
  shown_is (one ∷ seen) = ap (λ (t : List ℕ). answered_text one.answered ++ t) (shown_is seen)

  -- the total line isn't empty
  total_filled : (text : List ℕ) (summary : Summary) → 0 < length (text ++ total_line summary)
  total_filled text summary = omega (arith, length-append text (total_line summary))

  -- how they end
  abbrev pub Ended : Type 0 → S → List Request → Result Summary Stop → (Unit {0} → Option (List ℕ)) → (Unit {0} → Option (List ℕ)) → Type 0
  Ended Needs s requests result old new = LinesEnd (CommandSteps step) total next show closing tt opening Needs tt s requests result old new

  module _ (s : S) (requests : List Request) (old new : Unit {0} → Option (List ℕ)) where
    abbrev commands : Commands
    commands = commands_in requests

    -- not all was written
    abbrev pub IsCut : Type 0
    IsCut = (given : ℕ → X) × AppendsLess (old tt) (new tt) (output_by step paced given s commands)

    cut_before : IsCutIn next show opening (CommandSteps step) tt s requests old new → IsCut
    cut_before cut =
        let first = first_by_steps usual step 2 s cut.0 requests cut.1 cut.2 in
        let given = first.0 in
        let seen = cut.1 in
        let lines = flat_map answer_line (replies_by step given s commands) in
        let summary = summary_by step paced given s commands in
        let less = prefix_at (old tt) (new tt) (flat_map answered_text (answers_in seen) ++ first.1) lines first.2
        (prefix_more (old tt) (new tt) (flat_map answered_text (answers_in seen)) first.1 (prefix_at (old tt) (new tt) (shown next show tt seen tt) (flat_map answered_text (answers_in seen)) (shown_is seen) (cut.3 tt))) in
        (given, (less.0, less.1 ++ total_line summary, ap (λ (t : List ℕ). t ++ total_line summary) less.2 ∙ append_assoc less.0 less.1 (total_line summary), total_filled less.1 summary, less.3))

    -- what all of them add up to
    summary_is : (seen : List (Seen S)) (given : ℕ → X) → answers_in seen ≡ answered_by (replies_by step given s commands) → left_by s seen ≡ after_by step given s commands
        → total (left_by s seen) (summary_of (answers_in seen)) ≡ summary_by step paced given s commands
    summary_is seen given answers left =
        ap (λ (bs : List Answered). total (left_by s seen) (summary_of bs)) answers
        ∙ ap (λ (n : S). total n (summary_of (answered_by (replies_by step given s commands)))) left
        ∙ total_at-answers (paced (after_by step given s commands)) (replies_by step given s commands)

    -- and their text
    whole_is : (seen : List (Seen S)) (given : ℕ → X) (summary : Summary) → answers_in seen ≡ answered_by (replies_by step given s commands) → summary ≡ summary_by step paced given s commands
        → whole_text next show closing opening tt seen summary tt ≡ output_by step paced given s commands
    whole_is seen given summary answers is =
        ap (λ (t : List ℕ). t ++ total_line summary) (shown_is seen ∙ ap (flat_map answered_text) answers ∙ text_is (replies_by step given s commands))
        ∙ ap (λ (sum : Summary). flat_map answer_line (replies_by step given s commands) ++ total_line sum) is

    -- all was written
    pub all_written : (Needs : Type 0) (summary : Summary) → Ended Needs s requests (Ok summary) old new
        → (given : ℕ → X) × (summary ≡ summary_by step paced given s commands) × Appends (old tt) (new tt) (output_by step paced given s commands)
    all_written Needs summary ends =
        let seen = ends.0 in
        let played = by_steps usual step 2 s requests seen ends.1 in
        let is = ends.2 ∙ summary_is seen played.0 played.1 played.2 in
        (played.0, is, subst (Appends (old tt) (new tt)) (whole_is seen played.0 summary played.1 is) (ends.3 tt))

    -- a write failed
    pub less_written : (Needs : Type 0) → Ended Needs s requests (Err stops.Write) old new → IsCut
    less_written Needs (inl cut) = cut_before cut
    less_written Needs (inr cut) =
        let seen = cut.0 in
        let played = by_steps usual step 2 s requests seen cut.1 in
        let summary = total (left_by s seen) (summary_of (answers_in seen)) in
        let is = summary_is seen played.0 played.1 played.2 in
        elim cut.2.1 as (λ _. IsCut) [
          | inl none ↦ absurd (omega (arith, ap length none, total_filled [] summary))
          | inr less ↦ (played.0, subst (AppendsLess (old tt) (new tt)) (whole_is seen played.0 summary played.1 is) less)
        ]
