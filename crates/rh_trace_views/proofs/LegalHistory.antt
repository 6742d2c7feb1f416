-- The history of answers that are a plain heap's is legal.
use Rattle.std.proofs.Common.{◌≡◌, ℕ, ◌+◌, Bool, List, [], ◌∷◌, ◌++◌, Result, inl, inr, sym, ap, subst, ◌∙◌, append_assoc}
use Rattle.std.proofs.lemmas.List.{append-nil}
use Rattle.rh_layout.specs.declared.command.Command.{Command}
use Rattle.rh_layout.specs.declared.command.Reply.{Reply}
use Rattle.rh_layout.specs.declared.refusal.Refusal.{Refusal}
use Rattle.rh_model.specs.Plain.{PlainHeap, step}
use Rattle.rh_mutator.specs.Commands.{is_limit_answer, AnswersAs, plain_unless}
use Rattle.rh_syntax.specs.declared.request.Request.{Request}
use Rattle.rh_syntax.specs.declared.request.Request.TheVariants as requests
use Rattle.rh_replay.specs.declared.call.Call.{Call}
use Rattle.rh_replay.specs.History.{HistoryState}
use Rattle.rh_replay.specs.Legal.{IsLegal, replay}
use Rattle.rh_replay.proofs.Replays.{legal-with_call, replay-with_call}
use Rattle.rh_trace.specs.Answers.{Answered}
use Rattle.rh_trace.specs.Run.{AreTransparent, IsPlainAnswer, plain_after}
use Rattle.rh_trace_views.specs.History.{call_of, calls_of, kept_unless, with_calls}
use Rattle.rh_trace_views.specs.Views.{numbered}

pub no_calls_more : (h : HistoryState) → h ≡ with_calls h []
no_calls_more h = ap (λ (calls : List Call). record { owners = h.owners; slots = h.slots; calls = calls }) (sym (append-nil h.calls))

-- the calls of some, and then those of others
pub calls_then : (h : HistoryState) (some others : List Call) → with_calls (with_calls h some) others ≡ with_calls h (some ++ others)
calls_then h some others = ap (λ (calls : List Call). record { owners = h.owners; slots = h.slots; calls = calls }) (append_assoc h.calls some others)

module _ (p : PlainHeap) (h : HistoryState) (legal : IsLegal h) (same : replay h ≡ p) where
  -- the history is legal, and its replay is this heap
  abbrev Goes : HistoryState → PlainHeap → Type 0
  Goes after next = IsLegal after × (replay after ≡ next)

  unchanged : Goes (with_calls h []) p
  unchanged = (subst IsLegal (no_calls_more h) legal, ap replay (sym (no_calls_more h)) ∙ same)

  command_goes : (owner : ℕ) (command : Command) (answer : Result Reply Refusal) → AnswersAs answer (step p owner command).1
      → Goes (with_calls h (kept_unless (is_limit_answer answer) (record { owner = owner; command = command; answer = answer }))) (plain_unless (is_limit_answer answer) p owner command)
  command_goes owner command answer judged =
      let call : Call = record { owner = owner; command = command; answer = answer } in
      let goal = λ (b : Bool). Goes (with_calls h (kept_unless b call)) (plain_unless b p owner command) in
      elim judged [
        | inl agrees ↦ subst goal (sym agrees.0) (
          legal-with_call h call legal (agrees.1 ∙ ap (λ (q : PlainHeap). (step q owner command).1) (sym same)),
          replay-with_call h call ∙ ap (λ (q : PlainHeap). (step q owner command).0) same,
        )
        | inr limited ↦ subst goal (sym limited.0) unchanged
      ]

  -- with the call of a line that is answered as by the plain heap
  line_goes : (request : Request) (answered : Answered) → IsPlainAnswer p request answered → Goes (with_calls h (call_of request answered)) (plain_after p request answered)
  line_goes (requests.Command owner command) answered told =
      subst (λ (a : Answered). Goes (with_calls h (call_of (requests.Command owner command) a)) (plain_after p (requests.Command owner command) a)) (sym told.1) (command_goes owner command told.0 told.2)
  line_goes request answered told = unchanged

pub legal_lines : (line : ℕ) (requests : List Request) (answered : List Answered) (p : PlainHeap) (h : HistoryState) → IsLegal h → replay h ≡ p → AreTransparent p requests answered → IsLegal (with_calls h (calls_of (numbered line requests answered)))
legal_lines line [] [] p h legal same told = subst IsLegal (no_calls_more h) legal
legal_lines line [] (a ∷ others) p h legal same told = absurd told
legal_lines line (r ∷ requests) [] p h legal same told = absurd told
legal_lines line (r ∷ requests) (a ∷ others) p h legal same told =
    let next = line_goes p h legal same r a told.0 in
    let later = calls_of (numbered (line + 1) requests others) in
    subst IsLegal (calls_then h (call_of r a) later) (legal_lines (line + 1) requests others (plain_after p r a) (with_calls h (call_of r a)) next.0 next.1 told.1)
