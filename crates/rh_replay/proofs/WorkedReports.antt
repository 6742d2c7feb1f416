-- The definitions at work: the text of a history, the verdict on it, and the report, where a load is
-- answered wrongly and where it isn't.
use Rattle.std.proofs.Common.{◌≡◌, ℕ, zero, suc, true, ◌<◌, List, [], ◌∷◌, ◌++◌, Result, Ok, Err, refl, arith}
use Rattle.std.specs.Prelude.{codes, pos}
use Rattle.std.specs.Fmt.{digits}
use Rattle.std.specs.List.{flat_map}
use Rattle.rh_layout.specs.declared.command.Command.{Command}
use Rattle.rh_layout.specs.declared.command.Command.TheVariants.{Alloc, Load, Store, Same, Drop}
use Rattle.rh_layout.specs.declared.command.Operand.TheVariants as operands
use Rattle.rh_layout.specs.declared.command.Reply.{Reply}
use Rattle.rh_layout.specs.declared.command.Reply.TheVariants as replies
use Rattle.rh_layout.specs.declared.command.RootId.{RootId}
use Rattle.rh_layout.specs.declared.refusal.Refusal.{Refusal}
use Rattle.rh_layout.specs.declared.refusal.Refusal.TheVariants as refusals
use Rattle.rh_model.specs.Graph.{fault_in, refusal_of, reply_to}
use Rattle.rh_model.specs.Plain.{plain_after_command, step}
use Rattle.rh_replay.specs.declared.call.Call.{Call}
use Rattle.rh_replay.specs.declared.checking.Verdict.TheVariants.{Legal, Wrong}
use Rattle.rh_replay.specs.History.{HistoryState}
use Rattle.rh_replay.specs.Legal.{IsRightAt, IsVerdict}
use Rattle.rh_replay.specs.Report.{report_text}
use Rattle.rh_replay.specs.Spelling.{spelling}
use Rattle.rh_replay.proofs.Replays.{right_where, all_right}

-- so many lines, each ended
text : List (List ℕ) → List ℕ
text lines = flat_map (λ line. line ++ 10 ∷ []) lines

root : ℕ → ℕ → RootId
root owner slot = record { owner = owner; slot = slot }

call : ℕ → Command → Result Reply Refusal → Call
call owner command answer = record { owner = owner; command = command; answer = answer }

-- a history in which the load is answered so
history : Reply → HistoryState
history read = record {
  owners = 3;
  slots = 2;
  calls =
      call 2 (Alloc (root 2 0) 1) (Ok (replies.Object 1))
      ∷ call 1 (Same (root 1 0) (root 1 1)) (Ok (replies.Same true))
      ∷ call 2 (Store (root 2 0) 0 (operands.Int (pos 5))) (Ok replies.Done)
      ∷ call 2 (Load (root 2 1) (root 2 0) 0) (Ok read)
      ∷ call 7 (Drop (root 1 0)) (Err refusals.NoRoot)
      ∷ call 1 (Drop (root 2 0)) (Err refusals.NotYours)
      ∷ [];
}

-- the answer is right
right : Reply
right = replies.Int (pos 5)

-- it isn't
wrong : Reply
wrong = replies.Int (pos 6)

lines : List ℕ → List (List ℕ)
lines read =
    codes "history 3 2"
    ∷ codes "2 alloc 2.0 1 = object 1"
    ∷ codes "1 same 1.0 1.1 = same yes"
    ∷ codes "2 store 2.0 0 5 = done"
    ∷ (codes "2 load 2.1 2.0 0 = " ++ read)
    ∷ codes "7 drop 1.0 = refused NoRoot"
    ∷ codes "1 drop 2.0 = refused NotYours"
    ∷ codes "end 6"
    ∷ []

spelled : spelling (history wrong) ≡ text (lines (codes "int 6"))
unfolding digits text root call history wrong lines
spelled = refl

-- ---- the verdicts

first_calls_right : (read : Reply) (i : ℕ) → i < 3 → IsRightAt (history read) i
unfolding step refusal_of fault_in reply_to plain_after_command root call history
first_calls_right read zero lt = right_where (history read) 0 _ refl refl
first_calls_right read (suc zero) lt = right_where (history read) 1 _ refl refl
first_calls_right read (suc (suc zero)) lt = right_where (history read) 2 _ refl refl
first_calls_right read (suc (suc (suc i))) lt = absurd (omega (arith, lt))

-- the fourth call is named, with the answer that is due
is_wrong : IsVerdict (history wrong) (Wrong 4 (Ok right))
unfolding step refusal_of fault_in reply_to plain_after_command root call history right wrong
is_wrong = record {
  position = 3;
  call = call 2 (Load (root 2 1) (root 2 0) 0) (Ok wrong);
  counted = refl;
  stands = refl;
  answered = refl;
  wrong = λ same. cc;
  first = first_calls_right wrong;
}

all_calls_right : (i : ℕ) → i < 6 → IsRightAt (history right) i
unfolding step refusal_of fault_in reply_to plain_after_command root call history right
all_calls_right zero lt = first_calls_right right 0 (omega arith)
all_calls_right (suc zero) lt = first_calls_right right 1 (omega arith)
all_calls_right (suc (suc zero)) lt = first_calls_right right 2 (omega arith)
all_calls_right (suc (suc (suc zero))) lt = right_where (history right) 3 _ refl refl
all_calls_right (suc (suc (suc (suc zero)))) lt = right_where (history right) 4 _ refl refl
all_calls_right (suc (suc (suc (suc (suc zero))))) lt = right_where (history right) 5 _ refl refl
all_calls_right (suc (suc (suc (suc (suc (suc i)))))) lt = absurd (omega (arith, lt))

is_legal : IsVerdict (history right) (Legal 6)
unfolding root call history right
is_legal = (all_right (history right) (history right).calls 6 refl (omega arith) all_calls_right, refl)

-- ---- the reports

wrong_report : report_text (history wrong) (Wrong 4 (Ok right)) ≡ text (codes "owner 1 calls 2" ∷ codes "owner 2 calls 3" ∷ codes "wrong 4 expected int 5" ∷ [])
unfolding digits text root call history right wrong
wrong_report = refl

legal_report : report_text (history right) (Legal 6) ≡ text (codes "owner 1 calls 2" ∷ codes "owner 2 calls 3" ∷ codes "legal 6" ∷ [])
unfolding digits text root call history right
legal_report = refl
