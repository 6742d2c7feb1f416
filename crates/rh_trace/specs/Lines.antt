-- Lines of a trace, played one after the other, and what a listener makes of them.
use Rattle.std.specs.Prelude.{◌≡◌, ◌⊎◌, ℕ, ◌+◌, false, List, [], ◌∷◌, ◌++◌, map, take, Option, Result, Ok, Err}
use Rattle.std.specs.Io.KnownBytes.{Appends, Keeps}
use Rattle.rh_text.specs.Output.{AppendsLess, AppendsPrefix}
use Rattle.rh_syntax.specs.declared.request.Request.{Request}
use Rattle.rh_trace.specs.declared.stop.Stop.{Stop}
use Rattle.rh_trace.specs.declared.stop.Stop.TheVariants as stops
use Rattle.rh_trace.specs.declared.summary.Summary.{Summary}
use Rattle.rh_trace.specs.Answers.{Answered}
use Rattle.rh_trace.specs.Events.{is_command}
use Rattle.rh_trace.specs.Run.{summary_of, summary_with}

-- what is seen of a line: its number, its request, what that was answered, and what it leaves
pub record Seen (S : Type 0) : Type 0 where
  pub line : ℕ
  pub request : Request
  pub answered : Answered
  pub after : S

-- this is seen of a line
abbrev pub seen_of : {S : Type 0} → ℕ → Request → Answered → S → Seen S
seen_of line request answered after = record {
  line = line;
  request = request;
  answered = answered;
  after = after;
}

-- what lines were answered
abbrev pub answers_in : {S : Type 0} → List (Seen S) → List Answered
answers_in seen = map (λ one. one.answered) seen

-- what they leave
abbrev pub left_by : {S : Type 0} → S → List (Seen S) → S
left_by s [] = s
left_by s (one ∷ seen) = left_by one.after seen

-- Requests are played one after the other, from this line on, and this is seen of them.
abbrev pub Runs : {S : Type 0} → (S → Request → S → Answered → Type 0) → ℕ → S → List Request
    → List (Seen S) → Type 0
Runs Steps line s [] [] = Unit {0}
Runs Steps line s [] (one ∷ seen) = ⊥
Runs Steps line s (request ∷ others) [] = ⊥
Runs Steps line s (request ∷ others) (one ∷ seen) =
    (one.line ≡ line) × (one.request ≡ request) × Steps s request one.after one.answered
    × Runs Steps (line + 1) one.after others seen

-- what a listener keeps after lines
abbrev pub kept_by : {L E : Type 0} → (L → E → L) → L → List E → L
kept_by next l [] = l
kept_by next l (one ∷ seen) = kept_by next (next l one) seen

-- what it writes of them, for one of its writers
abbrev pub shown : {L E W : Type 0} → (L → E → L) → (L → E → W → List ℕ) → L → List E → W → List ℕ
shown next show l [] w = []
shown next show l (one ∷ seen) w = show l one w ++ shown next show (next l one) seen w

-- A text was written; or a prefix of it, where it was stopped.
abbrev pub Shows : {X E : Type 0} → List ℕ → Result X E → Option (List ℕ) → Option (List ℕ) → Type 0
Shows text (Ok x) old new = Appends old new text
Shows text (Err stop) old new = AppendsPrefix old new text

module _ {S L W : Type 0} (Steps : S → Request → S → Answered → Type 0)
    (next : L → Seen S → L) (show : L → Seen S → W → List ℕ) where
  -- A line was played and counted. The listener keeps it, and what it writes of it was written.
  abbrev pub IsPlayed : ℕ → S → Request → S → Summary → Summary → L → L → (W → Option (List ℕ))
      → (W → Option (List ℕ)) → Type 0
  IsPlayed line s request t counted more l kept old new =
      (answered : Answered) × Steps s request t answered × (more ≡ summary_with counted answered)
      × (kept ≡ next l (seen_of line request answered t))
      × ((w : W) → Appends (old w) (new w) (show l (seen_of line request answered t) w))

  -- A line was stopped: nothing was written, or it was played and a prefix of what is written of it
  -- was.
  abbrev pub IsStopped : ℕ → S → Request → S → L → (W → Option (List ℕ)) → (W → Option (List ℕ))
      → Type 0
  IsStopped line s request t l old new =
      ((w : W) → Keeps (old w) (new w))
      ⊎ ((answered : Answered) × Steps s request t answered
      × ((w : W) → AppendsPrefix (old w) (new w) (show l (seen_of line request answered t) w)))

-- some request is no command
abbrev pub HasOther : List Request → Type 0
HasOther [] = ⊥
HasOther (request ∷ others) = (is_command request ≡ false) ⊎ HasOther others

-- what lines add up to that begin so
abbrev pub summary_in : {S : Type 0} → (S → Summary → Summary) → S → List (Seen S) → Summary
summary_in total s seen = total (left_by s seen) (summary_of (answers_in seen))

module _ {S L W : Type 0} (next : L → Seen S → L) (show : L → Seen S → W → List ℕ)
    (opening : W → List ℕ) where
  -- what was written after these lines, by a listener that kept this before them
  abbrev pub lines_text : L → List (Seen S) → W → List ℕ
  lines_text l seen w = opening w ++ shown next show l seen w

  -- Of the text of the first lines, so many of them, a prefix was written.
  abbrev pub IsCutIn : (S → Request → S → Answered → Type 0) → L → S → List Request
      → (W → Option (List ℕ)) → (W → Option (List ℕ)) → Type 0
  IsCutIn Steps l s requests old new =
      (k : ℕ) × (seen : List (Seen S)) × Runs Steps 2 s (take k requests) seen
      × ((w : W) → AppendsPrefix (old w) (new w) (lines_text l seen w))

module _ {S L W : Type 0} (next : L → Seen S → L) (show : L → Seen S → W → List ℕ)
    (closing : L → Summary → W → List ℕ) (opening : W → List ℕ) where
  -- the text of all lines, and what is written at the end
  abbrev pub whole_text : L → List (Seen S) → Summary → W → List ℕ
  whole_text l seen summary w =
      lines_text next show opening l seen w ++ closing (kept_by next l seen) summary w

  -- Of the whole text of these lines a prefix was written, and not all by the writer that ends last,
  -- unless nothing is written to it at the end.
  abbrev pub IsCutWith : W → L → List (Seen S) → Summary → (W → Option (List ℕ))
      → (W → Option (List ℕ)) → Type 0
  IsCutWith lead l seen summary old new =
      ((w : W) → AppendsPrefix (old w) (new w) (whole_text l seen summary w))
      × ((closing (kept_by next l seen) summary lead ≡ [])
      ⊎ AppendsLess (old lead) (new lead) (whole_text l seen summary lead))

module _ {S L W : Type 0} (Steps : S → Request → S → Answered → Type 0)
    (total : S → Summary → Summary) (next : L → Seen S → L) (show : L → Seen S → W → List ℕ)
    (closing : L → Summary → W → List ℕ) (lead : W) (opening : W → List ℕ) where
  -- How lines end: with all texts written; where a write failed, in the lines or after them; or where
  -- memory was refused. That is only where the listener needs memory, or some request of the trace is
  -- no command.
  abbrev pub LinesEnd : Type 0 → L → S → List Request → Result Summary Stop
      → (W → Option (List ℕ)) → (W → Option (List ℕ)) → Type 0
  LinesEnd Needs l s requests (Ok summary) old new =
      (seen : List (Seen S)) × Runs Steps 2 s requests seen × (summary ≡ summary_in total s seen)
      × ((w : W) → Appends (old w) (new w) (whole_text next show closing opening l seen summary w))
  LinesEnd Needs l s requests (Err stops.Write) old new =
      IsCutIn next show opening Steps l s requests old new
      ⊎ ((seen : List (Seen S)) × Runs Steps 2 s requests seen
      × IsCutWith next show closing opening lead l seen (summary_in total s seen) old new)
  LinesEnd Needs l s requests (Err stops.OutOfMemory) old new =
      (Needs ⊎ HasOther requests) × IsCutIn next show opening Steps l s requests old new
