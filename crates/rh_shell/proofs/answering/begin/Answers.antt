use Rattle.std.proofs.Common.{◌≡◌, ℕ, List, [], Option, Some, None, Result, Err, refl, sym, ap, subst, ◌∙◌}
use Rattle.rh_mutator.specs.declared.config.ConfigFault.{ConfigFault}
use Rattle.rh_core.specs.declared.errors.HeapError.{HeapError}
use Rattle.rh_core.specs.declared.errors.HeapError.TheVariants as errors
use Rattle.rh_core.specs.Config.{fault_of}
use Rattle.rh_core.specs.Heap.{new_heap}
use Rattle.rh_text.specs.lemmas.Appends.{Appends-none}
use Rattle.rh_trace.specs.Run.{config_of}
use Rattle.rh_trace.proofs.AnswersInTurn.{no_fault}
use Rattle.rh_trace.proofs.WrittenInTurn.{ok_no_error}
use Rattle.rh_shell.specs.Session.{PlayingState, SessionState, new_playing, size_fault_name, IsFaultLine, IsHeapAnswer}
use Rattle.rh_shell.proofs.Shown.{prefix_of_none}
use Rattle.rh_shell.proofs.Lines.{on_ok, some_heap_answer, session_is}
use Rattle.rh_shell.proofs.answering.begin.Goals as goal

refused_with : {X : Type 0} (made : Result X HeapError) (e d : HeapError) → made ≡ Err e → e ≡ d → made ≡ Err d
refused_with made e d p q = cc

pub returns-in-Ok-clause-told : goal.returns-in-Ok-clause-told
returns-in-Ok-clause-told g c =
    let s = c.args.session.now in
    let header = c.args.header in
    let good : fault_of (config_of header) ≡ None = no_fault (fault_of (config_of header)) (λ f e. ok_no_error _ _ ((c.in-Ok.ensures.fault f).1 (ap fault_of c.config_of.ensures ∙ e))) in
    let made : PlayingState = new_playing (new_heap (config_of header)) in
    let is : c.new-in-Ok.result ≡ made = c.new-in-Ok.ensures ∙ ap new_playing (c.in-Ok.ensures.made ∙ ap new_heap c.config_of.ensures) in
    let t : SessionState = record { playing = Some made; summary = s.summary; number = 2 } in
    ([], t, subst (λ (o : Option ConfigFault). IsHeapAnswer s header o [] t) (sym good) (refl, refl), session_is (Some c.new-in-Ok.result) (Some made) c.session.inside.summary s.summary 2 (ap (λ x. Some x) is) (ap (λ x. x.summary) c.session.view_is), Appends-none (g.W.Write.contents c.args.writer.now))

pub returns-in-Err-Config-clause-told : goal.returns-in-Err-Config-clause-told
returns-in-Err-Config-clause-told g c =
    let s = c.args.session.now in
    let header = c.args.header in
    let text = c.as_bytes.result.now in
    let fault = c.in-Err-Config.fault in
    let is : fault_of (config_of header) ≡ Some fault = sym (ap fault_of c.config_of.ensures) ∙ (c.new.ensures.fault fault).0 (refused_with c.new.result c.in-Err-Config.field-0 (errors.Config fault) c.in-Err-Config.is c.in-Err-Config.field-0-is) in
    let line : IsFaultLine (size_fault_name fault) text = subst (λ (x : List ℕ). IsFaultLine (size_fault_name fault) x) (sym c.as_bytes.ensures) c.put_size_fault.ensures in
    (text, s, subst (λ (o : Option ConfigFault). IsHeapAnswer s header o text s) (sym is) (line, refl), on_ok c.tell.result refl, c.tell.ensures.written)

pub returns-in-Err-OutOfMemory-clause-told : goal.returns-in-Err-OutOfMemory-clause-told
returns-in-Err-OutOfMemory-clause-told g c =
    let q = some_heap_answer c.args.session.now c.args.header (fault_of (config_of c.args.header)) in
    (q.0, q.1, q.2, tt, prefix_of_none (g.W.Write.contents c.args.writer.now) q.0)
