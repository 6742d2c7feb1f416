-- What a viewed run tells and notes are the answers of a plain heap.
use Rattle.std.proofs.Common.{ℕ, List, Option, inl, inr, subst}
use Rattle.std.specs.Io.KnownBytes.{Appends}
use Rattle.rh_model.specs.Plain.{empty_plain}
use Rattle.rh_syntax.specs.declared.request.Request.{Request}
use Rattle.rh_replay.specs.Legal.{IsLegal}
use Rattle.rh_trace.specs.declared.summary.Summary.{Summary}
use Rattle.rh_trace.specs.Answers.{Answered}
use Rattle.rh_trace.specs.Fixed.{EngineSteps}
use Rattle.rh_trace.specs.Lines.{answers_in}
use Rattle.rh_trace.specs.Run.{AreTransparent}
use Rattle.rh_choices.specs.declared.telling.Telling.{Telling}
use Rattle.rh_trace_views.specs.History.{history_of}
use Rattle.rh_trace_views.specs.Listening.{ViewsToldPlainlyFixed, ViewsWriter, engine_first, engine_read, written_of}
use Rattle.rh_trace_views.specs.Run.{IsPlainlyViewed}
use Rattle.rh_trace_views.specs.Views.{numbered}
use Rattle.rh_trace_views.proofs.Listened.{whole-noted, whole-told}

-- the history of answers that are a plain heap's is legal
abbrev pub HistoriesAreLegal : Type 0
HistoriesAreLegal = (owners slots : ℕ) (requests : List Request) (answers : List Answered) → AreTransparent (empty_plain owners slots) requests answers → IsLegal (history_of owners slots (numbered 2 requests answers))

pub plainly_viewed : HistoriesAreLegal → (telling : Telling) (summary : Summary) (from to : Option (List ℕ)) (old new : ViewsWriter → Option (List ℕ)) → ViewsToldPlainlyFixed telling summary from to old new
    → IsPlainlyViewed telling from to (written_of old new) summary
plainly_viewed legal telling summary from to old new told =
    let script = told.0 in
    let s = told.1 in
    let seen = told.2 in
    let played = told.3 in
    let texts = told.5 in
    let q = engine_first s in (
      script,
      answers_in seen,
      record { fits = played.spelled; read = played.read; answered = played.answered },
      told.4,
      subst (Appends (old (inl tt)) (new (inl tt))) (whole-told engine_read EngineSteps telling script s q seen played.runs summary) (texts (inl tt)),
      subst (Appends (old (inr (inl tt))) (new (inr (inl tt)))) (whole-noted engine_read EngineSteps telling script s q seen played.runs) (texts (inr (inl tt))),
      legal script.header.owners script.header.slots script.requests (answers_in seen) played.answered,
    )
