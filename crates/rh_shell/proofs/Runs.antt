-- A session of a trace's lines, and the run of that trace.
use Rattle.std.proofs.Common.{◌≡◌, ℕ, ◌+◌, List, [], ◌∷◌, ◌++◌, Option, Some, None, Result, Ok, Err, sym, ap, subst, ◌∙◌, arith}
use Rattle.std.specs.List.{flat_map}
use Rattle.rh_mutator.specs.declared.config.ConfigFault.{ConfigFault}
use Rattle.rh_core.specs.Config.{fault_of}
use Rattle.rh_core.specs.Heap.{new_heap}
use Rattle.rh_text.specs.RawLine.{RawLine}
use Rattle.rh_text.specs.Steps.{◌>>=◌}
use Rattle.rh_text.specs.lemmas.Steps.{bind_ok}
use Rattle.rh_syntax.specs.declared.fault.TraceFault.{TraceFault}
use Rattle.rh_syntax.specs.declared.line.Header.{Header}
use Rattle.rh_syntax.specs.declared.request.Request.{Request}
use Rattle.rh_syntax.specs.Reading.{header_or_fault, request_or_fault, requests_from, script_or_fault}
use Rattle.rh_syntax.specs.Spelling.{Script}
use Rattle.rh_engine.specs.Engine.{EngineState}
use Rattle.rh_trace.specs.declared.summary.Summary.{Summary}
use Rattle.rh_trace.specs.Answers.{Answered, answered_text, is_answer, is_refused, is_flip, total_line}
use Rattle.rh_trace.specs.Run.{config_of, request_step, answers_to, answers_of, summary_of, summary_with, output_of}
use Rattle.rh_trace.proofs.CountsByHead.{count_by-head}
use Rattle.rh_shell.specs.Session.{PlayingState, SessionState, new_playing, new_session, answered_step, IsHeapAnswer, IsFirstAnswer, IsNextAnswer, AreAnswers, IsSession}

-- the sum of two summaries
abbrev plus : Summary → Summary → Summary
plus a b = record {
  commands = a.commands + b.commands;
  refused = a.refused + b.refused;
  flips = a.flips + b.flips;
  root_words = a.root_words + b.root_words;
}

same_sum : (a b c d e f g h : ℕ) → a ≡ e → b ≡ f → c ≡ g → d ≡ h → ◌≡◌ {A = Summary} (record { commands = a; refused = b; flips = c; root_words = d }) (record { commands = e; refused = f; flips = g; root_words = h })
same_sum a b c d e f g h p q r s = cc

-- what is counted of an answer and of those after it
sum_head : (s : Summary) (x : Answered) (xs : List Answered) → plus (summary_with s x) (summary_of xs) ≡ plus s (summary_of (x ∷ xs))
sum_head s x xs = same_sum _ _ _ _ _ _ _ _
    (omega (arith, count_by-head is_answer x xs))
    (omega (arith, count_by-head is_refused x xs))
    (omega (arith, count_by-head is_flip x xs))
    (omega arith)

-- a session at a request
abbrev at : PlayingState → Summary → ℕ → SessionState
at p s n = record { playing = Some p; summary = s; number = n }

-- what the lines of requests are answered, and what that adds up to
pub record Follows (e : EngineState) (s : Summary) (requests : List Request) (text : List ℕ) (t : SessionState) : Type 0 where
  pub says : text ≡ flat_map answered_text (answers_to e requests)
  pub sums : t.summary ≡ plus s (summary_of (answers_to e requests))

no_requests : (requests : List Request) → ◌≡◌ {A = Result (List Request) TraceFault} (Ok []) (Ok requests) → requests ≡ []
no_requests requests e = cc

one_more : (first : Request) (others requests : List Request) → ◌≡◌ {A = Result (List Request) TraceFault} (Ok (first ∷ others)) (Ok requests) → requests ≡ first ∷ others
one_more first others requests e = cc

requests_follow : (n : ℕ) (p : PlayingState) (s : Summary) (lines : List RawLine) (requests : List Request) (text : List ℕ) (t : SessionState) → requests_from n lines ≡ Ok requests → AreAnswers (at p s n) lines text t → Follows p.engine s requests text t
unfolding requests_from
requests_follow n p s [] requests text t r h =
    let none = no_requests requests r in
    record {
      says = h.0 ∙ ap (λ (x : List Request). flat_map answered_text (answers_to p.engine x)) (sym none);
      sums = ap (λ (x : SessionState). x.summary) h.1 ∙ same_sum _ _ _ _ _ _ _ _ (omega arith) (omega arith) (omega arith) (omega arith) ∙ ap (λ (x : List Request). plus s (summary_of (answers_to p.engine x))) (sym none);
    }
requests_follow n p s (line ∷ lines) requests text t r h =
    let a = bind_ok (request_or_fault n line) (λ first. requests_from (n + 1) lines >>= λ others. Ok (first ∷ others)) requests r in
    let b = bind_ok (requests_from (n + 1) lines) (λ others. Ok (a.0 ∷ others)) requests a.2 in
    let is = one_more a.0 b.0 requests b.2 in
    let answered = subst (λ (x : Result Request TraceFault). IsNextAnswer (at p s n) p line x h.0 h.2) a.1 h.3 in
    let more = subst (λ (x : SessionState). AreAnswers x lines h.1 t) answered.1 h.4 in
    let step = request_step p.engine a.0 in
    let rest = requests_follow (n + 1) (answered_step p n a.0) (summary_with s step.1) lines b.0 h.1 t b.1 more in
    record {
      says = h.5 ∙ ap (λ (x : List ℕ). x ++ h.1) answered.0 ∙ ap (λ (x : List ℕ). answered_text step.1 ++ x) rest.says ∙ ap (λ (x : List Request). flat_map answered_text (answers_to p.engine x)) (sym is);
      sums = rest.sums ∙ sum_head s step.1 (answers_to step.0 b.0) ∙ ap (λ (x : List Request). plus s (summary_of (answers_to p.engine x))) (sym is);
    }

no_script : (f : TraceFault) (script : Script) → ◌≡◌ {A = Result Script TraceFault} (Err f) (Ok script) → ⊥
no_script f script e = cc

made_of : (header : Header) (requests : List Request) (script : Script) → ◌≡◌ {A = Result Script TraceFault} (Ok (record { header = header; requests = requests })) (Ok script) → script ≡ record { header = header; requests = requests }
made_of header requests script e = cc

nothing_counted : (answers : List Answered) → plus new_session.summary (summary_of answers) ≡ summary_of answers
nothing_counted answers = same_sum _ _ _ _ _ _ _ _ (omega arith) (omega arith) (omega arith) (omega arith)

pub lines_run : (lines : List RawLine) (script : Script) (text : List ℕ) (sum : Summary) → script_or_fault lines ≡ Ok script → fault_of (config_of script.header) ≡ None → IsSession lines text sum → (text ≡ output_of (answers_of script)) × (sum ≡ summary_of (answers_of script))
unfolding script_or_fault
lines_run [] script text sum r good h = absurd (no_script _ script r)
lines_run (line ∷ lines) script text sum r good h =
    let a = bind_ok (header_or_fault line) (λ header. requests_from 2 lines >>= λ requests. Ok (record { header = header; requests = requests })) script r in
    let b = bind_ok (requests_from 2 lines) (λ requests. Ok (record { header = a.0; requests = requests })) script a.2 in
    let is = made_of a.0 b.0 script b.2 in
    let made : fault_of (config_of a.0) ≡ None = subst (λ (x : Script). fault_of (config_of x.header) ≡ None) is good in
    let first = subst (λ (x : Result Header TraceFault). IsFirstAnswer new_session line x h.2.0 h.2.2) a.1 h.2.3 in
    let begun = subst (λ (o : Option ConfigFault). IsHeapAnswer new_session a.0 o h.2.0 h.2.2) made first in
    let run = new_playing (new_heap (config_of a.0)) in
    let more = subst (λ (x : SessionState). AreAnswers x lines h.2.1 h.1) begun.1 h.2.4 in
    let rest = requests_follow 2 run new_session.summary lines b.0 h.2.1 h.1 b.1 more in
    let answers = answers_to run.engine b.0 in
    let says : h.0 ≡ flat_map answered_text answers = h.2.5 ∙ ap (λ (x : List ℕ). x ++ h.2.1) begun.0 ∙ rest.says in
    let sums : h.1.summary ≡ summary_of answers = rest.sums ∙ nothing_counted answers in
    let same : answers ≡ answers_of script = ap answers_of (sym is) in
    (h.3 ∙ ap (λ (x : List ℕ). x ++ total_line h.1.summary) says ∙ ap (λ (x : Summary). flat_map answered_text answers ++ total_line x) sums ∙ ap output_of same, h.4 ∙ sums ∙ ap summary_of same)
