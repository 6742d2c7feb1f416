-- What a run in threads prints is never found wrong.
use Rattle.std.proofs.Common.{◌≡◌, ◌≢◌, ◌⊎◌, inl, inr, ℕ, List, [], Option, Some, Result, Ok, sym, ap, subst, ◌∙◌, arith}
use Rattle.std.specs.Io.KnownBytes.{Appends, Keeps}
use Rattle.rh_layout.specs.declared.command.Reply.{Reply}
use Rattle.rh_layout.specs.declared.refusal.Refusal.{Refusal}
use Rattle.rh_syntax.specs.Spelling.{Script}
use Rattle.rh_replay.proofs.SpelledIsRead.{history_of-spelling}
use Rattle.rh_replay.specs.declared.checking.Verdict.TheVariants.{Wrong}
use Rattle.rh_replay.specs.declared.fault.HistoryFault.{HistoryFault}
use Rattle.rh_replay.specs.History.{HistoryState}
use Rattle.rh_replay.specs.Legal.{IsFirstWrong, IsLegal}
use Rattle.rh_replay.specs.Reading.{history_of}
use Rattle.rh_replay.specs.Report.{report_text}
use Rattle.rh_replay.specs.Spelling.{IsReadable, spelling}
use Rattle.rh_shared_trace.specs.Run.{IsHistoryOf}
use Rattle.rh_cli.specs.Drive.{Concludes}
use Rattle.rh_commands.specs.Replay.{IsJudged}
use Rattle.rh_command_line.specs.declared.ask.Subcommand.TheVariants.{Replay, Threads}
use Rattle.rh_cli.proofs.SharedStatuses.{concludes_shared_0}
use Rattle.rh_cli.proofs.StatusLaws.{concludes_4}

-- a legal history has no wrong call
no_wrong_call : (h : HistoryState) (at : ℕ) (expected : Result Reply Refusal) → IsLegal h → IsFirstWrong h at expected → ⊥
no_wrong_call h at expected legal first = first.wrong (legal first.position first.call first.stands ∙ sym first.answered)

abbrev read_as : HistoryState → Result HistoryState HistoryFault
read_as h = Ok h

the_same : (h k : HistoryState) → read_as h ≡ read_as k → h ≡ k
the_same h k is = cc

-- no two histories have one text
same_history : (h k : HistoryState) → IsReadable h → IsReadable k → spelling h ≡ spelling k → h ≡ k
same_history h k one other is = the_same h k (sym (history_of-spelling h one) ∙ ap history_of is ∙ history_of-spelling k other)

-- the text of a history of a trace isn't judged wrong
not_judged_wrong : (text : List ℕ) (script : Script) (h g : HistoryState) (at : ℕ) (expected : Result Reply Refusal) → IsHistoryOf script h → text ≡ spelling h → IsJudged text g (Wrong at expected) → ⊥
not_judged_wrong text script h g at expected of is judged =
    let same : g ≡ h = same_history g h judged.readable (of.history, omega (arith, of.few)) (sym judged.spelled ∙ is) in
    no_wrong_call h at expected of.legal (subst (λ (k : HistoryState). IsFirstWrong k at expected) same judged.judged)

not_found_wrong : (text : List ℕ) (script : Script) (h : HistoryState) (old new : Option (List ℕ)) → IsHistoryOf script h → text ≡ spelling h
    → ((Replay ≡ Replay) × ((g : HistoryState) × (at : ℕ) × (expected : Result Reply Refusal) × IsJudged text g (Wrong at expected) × Appends old new (report_text g (Wrong at expected))))
    ⊎ ((replicators : ℕ) × (idle : ℕ) × (Replay ≡ Threads replicators idle) × Keeps old new) → ⊥
not_found_wrong text script h old new of is (inl found) = not_judged_wrong text script h found.1.0 found.1.1 found.1.2 of is found.1.3
not_found_wrong text script h old new of is (inr other) = absurd (let differs = other.2 in cc)

pub threads_never_wrong : (replicators idle : ℕ) (input text : List ℕ) → Concludes (Threads replicators idle) input 0 (Some []) (Some text)
    → (status : ℕ) (old new : Option (List ℕ)) → Concludes Replay text status old new → status ≢ 4
threads_never_wrong replicators idle input text c status old new checked is =
    let done = concludes_shared_0 (record { replicators = replicators; idle = idle }) input (Some []) (Some text) c in
    not_found_wrong text done.0 done.1 old new done.3 done.4 (concludes_4 Replay text old new (subst (λ (n : ℕ). Concludes Replay text n old new) is checked))
