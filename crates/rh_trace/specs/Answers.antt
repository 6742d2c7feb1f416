-- What is answered to a line, its text, and the line that ends the answers.
use Rattle.std.specs.Prelude.{ℕ, ◌+◌, Bool, true, false, is_err, is_some, List, [], ◌∷◌, ◌++◌, Option, Some, None, Result, codes, decimal}
use Rattle.std.specs.List.{flat_map}
use Rattle.std.specs.Result.{result_ok}
use Rattle.rh_layout.specs.declared.command.Reply.{Reply}
use Rattle.rh_layout.specs.declared.refusal.Refusal.{Refusal}
use Rattle.rh_core.specs.declared.outcomes as outcomes
use Rattle.rh_core.specs.declared.errors.BeginError.{BeginError}
use Rattle.rh_core.specs.declared.errors.FlipError.{FlipError}
use Rattle.rh_core.specs.declared.errors.IdleError.{IdleError}
use Rattle.rh_core.specs.declared.errors.NoCycle.{NoCycle}
use Rattle.rh_core.specs.declared.errors.RecallError.{RecallError}
use Rattle.rh_core.specs.declared.errors.ShadeError.{ShadeError}
use Rattle.rh_core.specs.declared.errors.WatchError.{WatchError}
use Rattle.rh_core.specs.declared.stat as stats
use Rattle.rh_dump.specs.Dump.{GraphState}
use Rattle.rh_dump.specs.texts.Line.{dump_text}
use Rattle.rh_syntax.specs.CommandAnswers.{answer_text, IsU128}
use Rattle.rh_engine.specs.CycleAnswers.{begin_text, shade_text, deal_text, give_text, join_text, flip_text, recall_text, abandon_text, idle_text, resize_text, tray_text, stat_text}
use Rattle.rh_engine.specs.WatchAnswers.{tickets_text, watch_text, unwatch_text, gone_text}
use Rattle.rh_engine.specs.Trays as trays
use Rattle.rh_engine.specs.declared.engine.TrayDeal.{TrayDeal}
use Rattle.rh_engine.specs.declared.engine.DealRefusal.{DealRefusal}
use Rattle.rh_engine.specs.declared.engine.GiveRefusal.{GiveRefusal}
use Rattle.rh_engine.specs.declared.engine.ResizeRefusal.{ResizeRefusal}
use Rattle.rh_engine.specs.declared.engine.TicketsRefusal.{TicketsRefusal}
use Rattle.rh_trace.specs.declared.summary.Summary.{Summary}
use Rattle.rh_engine.specs.declared.trays.JoinRefusal.{JoinRefusal}

-- what is answered to a line: a reply or a refusal to a command, an outcome or a refusal to a step
-- of a cycle, the words of a space or a refusal to a resize, tickets or a refusal to a line of
-- watches, the trays, the numbers of a heap, or the dump of a graph
pub data Answered : Type 0 where
  Answer : (answer : Result Reply Refusal) → Answered
  Begin : (answer : Result ℕ BeginError) → Answered
  Shade : (answer : Result outcomes.Shaded.Shaded ShadeError) → Answered
  Deal : (answer : Result TrayDeal DealRefusal) → Answered
  Give : (answer : Result outcomes.Given.Given GiveRefusal) → Answered
  Join : (answer : Result ℕ JoinRefusal) → Answered
  Flip : (answer : Result outcomes.Flipped.Flipped FlipError) → Answered
  Recall : (answer : Result ℕ RecallError) → Answered
  Abandon : (answer : Result ℕ NoCycle) → Answered
  Idle : (answer : Result ℕ IdleError) → Answered
  Resize : (answer : Result ℕ ResizeRefusal) → Answered
  Tickets : (answer : Result ℕ TicketsRefusal) → Answered
  Watch : (answer : Result ℕ WatchError) → Answered
  Unwatch : (watched : Bool) → Answered
  Gone : (tickets : List ℕ) → Answered
  Listing : (listed : trays.Trays) → Answered
  Numbers : (stat : stats.Stat.Stat) → Answered
  Dump : (graph : GraphState) → Answered

-- a text, with a line end
abbrev pub with_line_end : List ℕ → List ℕ
with_line_end text = text ++ 10 ∷ []

-- the line of an answer
abbrev pub answer_line : Result Reply Refusal → List ℕ
answer_line answer = with_line_end (answer_text answer)

-- the lines of the trays, in order of first use
abbrev pub trays_text : trays.Trays → List ℕ
trays_text listed = flat_map (λ t. with_line_end (tray_text t.0 t.1)) listed

-- the text of what is answered to a line: one line, or those of a listing or of a dump
abbrev pub answered_text : Answered → List ℕ
answered_text (Answer answer) = answer_line answer
answered_text (Begin answer) = with_line_end (begin_text answer)
answered_text (Shade answer) = with_line_end (shade_text answer)
answered_text (Deal answer) = with_line_end (deal_text answer)
answered_text (Give answer) = with_line_end (give_text answer)
answered_text (Join answer) = with_line_end (join_text answer)
answered_text (Flip answer) = with_line_end (flip_text answer)
answered_text (Recall answer) = with_line_end (recall_text answer)
answered_text (Abandon answer) = with_line_end (abandon_text answer)
answered_text (Idle answer) = with_line_end (idle_text answer)
answered_text (Resize answer) = with_line_end (resize_text answer)
answered_text (Tickets answer) = with_line_end (tickets_text answer)
answered_text (Watch answer) = with_line_end (watch_text answer)
answered_text (Unwatch watched) = with_line_end (unwatch_text watched)
answered_text (Gone tickets) = with_line_end (gone_text tickets)
answered_text (Listing listed) = trays_text listed
answered_text (Numbers stat) = with_line_end (stat_text stat)
answered_text (Dump graph) = dump_text graph

-- a command was answered
abbrev pub is_answer : Answered → Bool
is_answer (Answer answer) = true
is_answer other = false

-- a command was refused
abbrev pub is_refused : Answered → Bool
is_refused (Answer answer) = is_err answer
is_refused other = false

-- what a flip did, if it did
abbrev pub flip_of : Answered → Option outcomes.Flipped.Flipped
flip_of (Flip answer) = result_ok answer
flip_of other = None

-- a flip was done
abbrev pub is_flip : Answered → Bool
is_flip answered = is_some (flip_of answered)

-- the words of roots that a flip wrote, if it did
abbrev pub words_of : Option outcomes.Flipped.Flipped → ℕ
words_of None = 0
words_of (Some f) = f.roots

-- the words of roots that flips wrote
abbrev pub root_words_of : List Answered → ℕ
root_words_of [] = 0
root_words_of (answered ∷ answers) = words_of (flip_of answered) + root_words_of answers

-- the line after the last answer: total commands C refused R flips F rootwords W
abbrev pub total_line : Summary → List ℕ
total_line s =
    codes "total commands " ++ (decimal s.commands ++ (codes " refused " ++ (decimal s.refused
    ++ (codes " flips " ++ (decimal s.flips ++ (codes " rootwords " ++ (decimal s.root_words
    ++ 10 ∷ [])))))))

-- a summary whose numbers fit
pub record IsToldSummary (s : Summary) : Type 0 where
  pub commands : IsU128 s.commands
  pub refused : IsU128 s.refused
  pub flips : IsU128 s.flips
  pub root_words : IsU128 s.root_words
