-- How a trace is read, and how a run of an input ends, whatever its lines are played on and whatever
-- is done with their answers.
use Rattle.std.specs.Prelude.{◌≡◌, ◌⊎◌, ℕ, ◌<◌, ◌≤◌, List, length, take, Option, Result, Ok, Err}
use Rattle.std.specs.Io.KnownBytes.{Appends, Consumes, Keeps}
use Rattle.rh_model.specs.Plain.{empty_plain}
use Rattle.rh_text.specs.Output.{AppendsPrefix}
use Rattle.rh_syntax.specs.declared.line.Header.{Header}
use Rattle.rh_syntax.specs.declared.request.Request.{Request}
use Rattle.rh_syntax.specs.Reading.{trace_of}
use Rattle.rh_syntax.specs.Spelling.{IsScript, Script, spelling}
use Rattle.rh_trace.specs.declared.run_fault.RunFault.{RunFault}
use Rattle.rh_trace.specs.declared.run_fault.RunFault.TheVariants as faults
use Rattle.rh_trace.specs.declared.stop.Stop.{Stop}
use Rattle.rh_trace.specs.declared.stop.Stop.TheVariants as stops
use Rattle.rh_trace.specs.declared.summary.Summary.{Summary}
use Rattle.rh_trace.specs.declared.way_fault.Unprepared.{Unprepared}
use Rattle.rh_trace.specs.declared.way_fault.Unprepared.TheVariants as reasons
use Rattle.rh_trace.specs.declared.way_fault.WayFault.{WayFault}
use Rattle.rh_trace.specs.declared.way_fault.WayFault.TheVariants as ends
use Rattle.rh_trace.specs.Answers.{Answered}
use Rattle.rh_trace.specs.Lines.{IsCutWith, LinesEnd, Runs, Seen, answers_in, lines_text, summary_in, whole_text}
use Rattle.rh_trace.specs.Run.{AreTransparent}

-- the input is this trace, and within the limit of bytes
abbrev pub IsTrace : List ℕ → Script → Type 0
IsTrace input script = (length input ≤ 16777216) × (trace_of input ≡ Ok script)

-- the input wasn't read as a trace, and this is why: it is too long, or else its text has a fault;
-- or a read failed or memory was refused, which says nothing of the input
abbrev pub IsUnread : List ℕ → RunFault → Type 0
IsUnread input faults.Long = 16777216 < length input
IsUnread input (faults.Trace fault) = (length input ≤ 16777216) × (trace_of input ≡ Err fault)
IsUnread input faults.Read = Unit {0}
IsUnread input faults.OutOfMemory = Unit {0}
IsUnread input (faults.New fault) = ⊥
IsUnread input faults.Write = ⊥

-- how reading an input as a trace ends
abbrev pub IsReadAs : List ℕ → Result Script RunFault → Type 0
IsReadAs input (Ok script) = IsTrace input script
IsReadAs input (Err fault) = IsUnread input fault

module _ {W : Type 0} where
  -- nothing was written
  abbrev pub KeepsAll : (W → Option (List ℕ)) → (W → Option (List ℕ)) → Type 0
  KeepsAll old new = (w : W) → Keeps (old w) (new w)

-- a fault of a run, as one of a run by a way
abbrev pub of_run_fault : {F : Type 0} → RunFault → WayFault F
of_run_fault faults.Read = ends.Read
of_run_fault faults.Long = ends.Long
of_run_fault (faults.Trace fault) = ends.Trace fault
of_run_fault (faults.New fault) = ends.New fault
of_run_fault faults.Write = ends.Write
of_run_fault faults.OutOfMemory = ends.OutOfMemory

-- and why nothing was made for a trace
abbrev pub of_unprepared : {F : Type 0} → Unprepared F → WayFault F
of_unprepared (reasons.Trace fault) = ends.Trace fault
of_unprepared (reasons.New fault) = ends.New fault
of_unprepared (reasons.Way fault) = ends.Way fault
of_unprepared reasons.OutOfMemory = ends.OutOfMemory

-- The bytes that a reader gave spell this trace, these requests were played on what fits it, and what
-- they were answered is what a plain heap answers that begins empty, but for limits.
pub record IsPlainlyPlayed {S : Type 0} (Steps : S → Request → S → Answered → Type 0)
    (fits : Script → S → Type 0) (script : Script) (s : S) (requests : List Request)
    (seen : List (Seen S)) (from to : Option (List ℕ)) : Type 0 where
  pub spelled : IsScript script
  pub read : Consumes from to (spelling script)
  pub made : fits script s
  pub runs : Runs Steps 2 s requests seen
  pub answered :
      AreTransparent (empty_plain script.header.owners script.header.slots) requests
      (answers_in seen)

module _ {S L W : Type 0} (Steps : S → Request → S → Answered → Type 0)
    (total : S → Summary → Summary) (next : L → Seen S → L) (show : L → Seen S → W → List ℕ)
    (closing : L → Summary → W → List ℕ) (lead : W) (opening : W → List ℕ)
    (begun : L → Header → S → L) (fits : Script → S → Type 0) where
  -- The lines of a trace were played on what fits it, by a listener that kept this before, and they
  -- end so.
  abbrev pub IsPlayedTrace : Type 0 → L → Script → Result Summary Stop → (W → Option (List ℕ))
      → (W → Option (List ℕ)) → Type 0
  IsPlayedTrace Needs l script result old new =
      (s : S) × fits script s
      × LinesEnd Steps total next show closing lead opening Needs (begun l script.header s) s
      script.requests result old new

  module _ {F : Type 0} (refuses : Script → Unprepared F → Type 0) (Needs : Type 0) where
    -- How a run of a trace ends: with all texts written; with the way's reason why nothing is made
    -- for it, and nothing written; where a write failed with a prefix of each text, and not all of
    -- the one that ends last, unless nothing is written to it at the end; where memory was refused
    -- with nothing, or with a prefix of what is written of the lines.
    abbrev pub TraceEnds : L → Script → Result Summary (WayFault F) → (W → Option (List ℕ))
        → (W → Option (List ℕ)) → Type 0
    TraceEnds l script (Ok summary) old new = IsPlayedTrace Needs l script (Ok summary) old new
    TraceEnds l script (Err ends.Write) old new =
        IsPlayedTrace Needs l script (Err stops.Write) old new
    TraceEnds l script (Err ends.OutOfMemory) old new =
        KeepsAll old new ⊎ IsPlayedTrace Needs l script (Err stops.OutOfMemory) old new
    TraceEnds l script (Err (ends.Trace fault)) old new =
        refuses script (reasons.Trace fault) × KeepsAll old new
    TraceEnds l script (Err (ends.New fault)) old new =
        refuses script (reasons.New fault) × KeepsAll old new
    TraceEnds l script (Err (ends.Way fault)) old new =
        refuses script (reasons.Way fault) × KeepsAll old new
    TraceEnds l script (Err ends.Read) old new = ⊥
    TraceEnds l script (Err ends.Long) old new = ⊥

    -- How a run of an input ends: it isn't read as a trace, and nothing is written; or it is one,
    -- and its run ends so.
    abbrev pub Ends : L → List ℕ → Result Summary (WayFault F) → (W → Option (List ℕ))
        → (W → Option (List ℕ)) → Type 0
    Ends l input result old new =
        ((fault : RunFault) × (result ≡ Err (of_run_fault fault)) × IsUnread input fault
        × KeepsAll old new)
        ⊎ ((script : Script) × IsTrace input script × TraceEnds l script result old new)

  -- All lines were answered so, this is what they add up to, and all of their texts was written.
  abbrev pub IsPlainlyTold : L → Summary → Option (List ℕ) → Option (List ℕ)
      → (W → Option (List ℕ)) → (W → Option (List ℕ)) → Type 0
  IsPlainlyTold l summary from to old new =
      (script : Script) × (s : S) × (seen : List (Seen S))
      × IsPlainlyPlayed Steps fits script s script.requests seen from to
      × (summary ≡ summary_in total s seen)
      × ((w : W) → Appends (old w) (new w)
      (whole_text next show closing opening (begun l script.header s) seen summary w))

  -- The first lines, so many, were answered so, and a prefix of their texts was written.
  abbrev pub IsPlainlyStopped : L → Option (List ℕ) → Option (List ℕ) → (W → Option (List ℕ))
      → (W → Option (List ℕ)) → Type 0
  IsPlainlyStopped l from to old new =
      (script : Script) × (s : S) × (k : ℕ) × (seen : List (Seen S))
      × IsPlainlyPlayed Steps fits script s (take k script.requests) seen from to
      × ((w : W) → AppendsPrefix (old w) (new w)
      (lines_text next show opening (begun l script.header s) seen w))

  -- It is so of the first lines; or all were answered so, and their whole text was cut.
  abbrev pub IsPlainlyCut : L → Option (List ℕ) → Option (List ℕ) → (W → Option (List ℕ))
      → (W → Option (List ℕ)) → Type 0
  IsPlainlyCut l from to old new =
      IsPlainlyStopped l from to old new
      ⊎ ((script : Script) × (s : S) × (seen : List (Seen S))
      × IsPlainlyPlayed Steps fits script s script.requests seen from to
      × IsCutWith next show closing opening lead (begun l script.header s) seen
      (summary_in total s seen) old new)
