-- Reading the calls of a history one after the other, as a loop does.
use Rattle.std.proofs.Common.{◌≡◌, ℕ, ◌+◌, List, [], ◌∷◌, ◌++◌, Option, Some, None, Result, Ok, Err, refl, sym, ap, ◌∙◌, append_assoc}
use Rattle.std.proofs.lemmas.List.{append-nil}
use Rattle.rh_text.specs.RawLine.{RawLine, lines_of}
use Rattle.rh_text.specs.Steps.{◌>>=◌}
use Rattle.rh_replay.specs.declared.call.Call.{Call}
use Rattle.rh_replay.specs.declared.fault.HistoryFault.{HistoryFault}
use Rattle.rh_replay.specs.declared.fault.HistoryKind.TheVariants.{End}
use Rattle.rh_replay.specs.Reading.{fault_at, line_or_fault, next_calls, end_from, calls_from}

-- what was read before, and what is still read
abbrev pub after_prefix : List Call → Result (List Call) HistoryFault → Result (List Call) HistoryFault
after_prefix prefix read = read >>= λ calls. Ok (prefix ++ calls)

regroup : (prefix : List Call) (call : Call) (read : Result (List Call) HistoryFault) → after_prefix prefix (read >>= λ calls. Ok (call ∷ calls)) ≡ after_prefix (prefix ++ call ∷ []) read
regroup prefix call (Ok calls) = ap (λ (cs : List Call). Ok cs) (sym (append_assoc prefix (call ∷ []) calls))
regroup prefix call (Err fault) = refl

module _ (prefix : List Call) (number : ℕ) (rest after : List ℕ) (raw : RawLine) (total : Result (List Call) HistoryFault)
    (is : lines_of rest ≡ raw ∷ lines_of after) (so_far : after_prefix prefix (calls_from number (lines_of rest)) ≡ total) where
  one : (read : Result (Option Call) HistoryFault) → read ≡ line_or_fault number raw
      → calls_from number (lines_of rest) ≡ (read >>= λ r. next_calls r (end_from (number + 1) (lines_of after)) (calls_from (number + 1) (lines_of after)))
  unfolding calls_from
  one read e = ap (calls_from number) is ∙ ap (λ (r : Result (Option Call) HistoryFault). r >>= λ s. next_calls s (end_from (number + 1) (lines_of after)) (calls_from (number + 1) (lines_of after))) (sym e)

  pub goes_on : (call : Call) → Ok (Some call) ≡ line_or_fault number raw → after_prefix (prefix ++ call ∷ []) (calls_from (number + 1) (lines_of after)) ≡ total
  goes_on call read = sym (regroup prefix call (calls_from (number + 1) (lines_of after))) ∙ ap (after_prefix prefix) (sym (one (Ok (Some call)) read)) ∙ so_far

  pub stops : (fault : HistoryFault) → Err fault ≡ line_or_fault number raw → total ≡ Err fault
  stops fault read = sym so_far ∙ ap (after_prefix prefix) (one (Err fault) read)

  pub ends : Ok None ≡ line_or_fault number raw → end_from (number + 1) (lines_of after) ≡ Ok [] → total ≡ Ok prefix
  ends read end = sym so_far ∙ ap (after_prefix prefix) (one (Ok None) read ∙ end) ∙ ap (λ (cs : List Call). Ok cs) (append-nil prefix)

  pub trails : (fault : HistoryFault) → Ok None ≡ line_or_fault number raw → end_from (number + 1) (lines_of after) ≡ Err fault → total ≡ Err fault
  trails fault read end = sym so_far ∙ ap (after_prefix prefix) (one (Ok None) read ∙ end)

pub lacks_end : (prefix : List Call) (number : ℕ) (rest : List ℕ) (total : Result (List Call) HistoryFault) → rest ≡ [] → after_prefix prefix (calls_from number (lines_of rest)) ≡ total → total ≡ Err (fault_at number End)
unfolding calls_from
lacks_end prefix number rest total nothing so_far =
    sym so_far ∙ ap (λ (r : List ℕ). after_prefix prefix (calls_from number (lines_of r))) nothing
