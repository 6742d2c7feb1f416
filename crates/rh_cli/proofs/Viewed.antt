-- How a subcommand without views of its own is viewed.
use Rattle.std.proofs.Common.{◌≡◌, ◌≢◌, ℕ, List, Option, refl, sym, subst, arith}
use Rattle.rh_text.specs.IoLog.{CountsDown, IoLogState, no_calls}
use Rattle.rh_text.specs.lemmas.Appends.{Keeps-same}
use Rattle.rh_trace_views.specs.Run.{Written}
use Rattle.rh_choices.specs.declared.telling.Telling.{Telling}
use Rattle.rh_cli.specs.Drive.{Concludes}
use Rattle.rh_commands.specs.ViewLog.{FlushedSince, ViewLogState}
use Rattle.rh_commands.specs.Views.{ConcludesCounts, ConcludesReport}
use Rattle.rh_cli.specs.Views.{ConcludesViewed, KeepsOthers, reads_given, viewed_texts}
use Rattle.rh_command_line.specs.declared.ask.Subcommand.{Subcommand}
use Rattle.rh_command_line.specs.declared.ask.Subcommand.TheVariants.{Run, RunPaced, RunGrowing, Threads, Replay, Dump, Dot, Snapshot, Why, Draw, Session, Lisp, LispSession, Completions}

-- where the first writer was and is, and nothing was written to the others
abbrev pub told_alone : Option (List ℕ) → Option (List ℕ) → Option (List ℕ) → Option (List ℕ) → Written
told_alone old new history cycles = record {
  old = old;
  new = new;
  history_old = history;
  history_new = history;
  cycles_old = cycles;
  cycles_new = cycles;
}

pub others_kept : (old new history cycles : Option (List ℕ)) → KeepsOthers (told_alone old new history cycles)
others_kept old new history cycles = (Keeps-same history, Keeps-same cycles)

-- a check, and a count
pub viewed_check : (telling : Telling) (subcommand : Subcommand) (status : ℕ) (log : ViewLogState) (old new history cycles : Option (List ℕ)) → subcommand ≡ Replay
    → (input : List ℕ) → ConcludesReport telling input status log old new → ConcludesViewed telling subcommand input status log (told_alone old new history cycles)
viewed_check telling subcommand status log old new history cycles is input ends =
    subst (λ (s : Subcommand). ConcludesViewed telling s input status log (told_alone old new history cycles)) (sym is) (ends, others_kept old new history cycles)

pub viewed_count : (telling : Telling) (subcommand : Subcommand) (status : ℕ) (log : ViewLogState) (old new history cycles : Option (List ℕ)) → subcommand ≡ Dump
    → (input : List ℕ) → ConcludesCounts telling input status log old new → ConcludesViewed telling subcommand input status log (told_alone old new history cycles)
viewed_count telling subcommand status log old new history cycles is input ends =
    subst (λ (s : Subcommand). ConcludesViewed telling s input status log (told_alone old new history cycles)) (sym is) (ends, others_kept old new history cycles)

-- what isn't a dump's input has as many reads as a trace
pub other_reads : (subcommand : Subcommand) → subcommand ≢ Dump → reads_given subcommand ≡ no_calls
other_reads Dump other = absurd (other refl)
other_reads subcommand other = refl

-- it ends as it does without
pub unviewed : (telling : Telling) (subcommand : Subcommand) (status : ℕ) (log : ViewLogState) (old new history cycles : Option (List ℕ)) → subcommand ≢ Run → ((mark : Option ℕ) → subcommand ≢ RunPaced mark)
    → ((at_most : ℕ) → subcommand ≢ RunGrowing at_most) → subcommand ≢ Replay → subcommand ≢ Dump
    → (input : List ℕ) → Concludes subcommand input status old new → ConcludesViewed telling subcommand input status log (told_alone old new history cycles)
unviewed telling Run status log old new history cycles run paced growing replay dump input ends = absurd (run refl)
unviewed telling (RunPaced mark) status log old new history cycles run paced growing replay dump input ends = absurd (paced mark refl)
unviewed telling (RunGrowing at_most) status log old new history cycles run paced growing replay dump input ends = absurd (growing at_most refl)
unviewed telling Replay status log old new history cycles run paced growing replay dump input ends = absurd (replay refl)
unviewed telling Dump status log old new history cycles run paced growing replay dump input ends = absurd (dump refl)
unviewed telling (Threads replicators idle) status log old new history cycles run paced growing replay dump input ends = (ends, others_kept old new history cycles)
unviewed telling Dot status log old new history cycles run paced growing replay dump input ends = (ends, others_kept old new history cycles)
unviewed telling Snapshot status log old new history cycles run paced growing replay dump input ends = (ends, others_kept old new history cycles)
unviewed telling (Why object) status log old new history cycles run paced growing replay dump input ends = (ends, others_kept old new history cycles)
unviewed telling (Draw line) status log old new history cycles run paced growing replay dump input ends = (ends, others_kept old new history cycles)
unviewed telling (Lisp limits) status log old new history cycles run paced growing replay dump input ends = (ends, others_kept old new history cycles)
unviewed telling (LispSession limits) status log old new history cycles run paced growing replay dump input ends = (ends, others_kept old new history cycles)
unviewed telling Session status log old new history cycles run paced growing replay dump input ends = (ends, others_kept old new history cycles)
unviewed telling (Completions shell) status log old new history cycles run paced growing replay dump input ends = (ends, others_kept old new history cycles)

-- what has no views flushes nothing
pub none_flushed : (subcommand : Subcommand) (log : ViewLogState) → subcommand ≢ Run → ((mark : Option ℕ) → subcommand ≢ RunPaced mark) → ((at_most : ℕ) → subcommand ≢ RunGrowing at_most) → subcommand ≢ Replay → subcommand ≢ Dump
    → FlushedSince (viewed_texts subcommand) log log
none_flushed Run log run paced growing replay dump = absurd (run refl)
none_flushed (RunPaced mark) log run paced growing replay dump = absurd (paced mark refl)
none_flushed (RunGrowing at_most) log run paced growing replay dump = absurd (growing at_most refl)
none_flushed Replay log run paced growing replay dump = absurd (replay refl)
none_flushed Dump log run paced growing replay dump = absurd (dump refl)
none_flushed other log run paced growing replay dump = λ few. omega arith

-- no read was made
pub none_counted : (log : IoLogState) → CountsDown log.left log log
none_counted log = (omega arith, λ few. omega arith)
