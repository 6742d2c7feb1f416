use Rattle.std.proofs.Common.{sym, ◌∙◌}
use Rattle.std.specs.Prelude.{nat_le, length}
use Rattle.rh_shared_trace.proofs.OneOwner.{asked-of_lines}
use Rattle.rh_shared_trace.proofs.TellingCommands.{told_by_commands}
use Rattle.rh_shared_trace.proofs.laws.a_trace_of_one_owner_has_one_whole_history.Goals as goal

pub returns : goal.returns
returns c = λ script owner h k of_h of_k less others count_h count_k.
    let asked_h = asked-of_lines (nat_le 65536 (length h.calls)) script owner h.calls of_h.lines less others count_h in
    let asked_k = asked-of_lines (nat_le 65536 (length k.calls)) script owner k.calls of_k.lines less others count_k in
    told_by_commands h k of_h.legal of_k.legal (of_h.owners ∙ sym of_k.owners) (of_h.slots ∙ sym of_k.slots) (asked_h ∙ sym asked_k)
