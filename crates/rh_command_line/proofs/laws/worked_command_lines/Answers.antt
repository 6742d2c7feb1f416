use Rattle.std.proofs.Common.{refl}
use Rattle.clap.proofs.OnLiterals.{clap_on_literals}
use Rattle.std.specs.Fmt.{digits}
use Rattle.rh_text.specs.Number.{number_of}
use Rattle.rh_command_line.specs.Ask.{command_and_file_of, explains_of, is_taken, out_of, viewed_of}
use Rattle.rh_command_line.proofs.laws.worked_command_lines.Goals as goal

pub returns-clause-help : goal.returns-clause-help
returns-clause-help c = λ name. refl

pub returns-clause-run : goal.returns-clause-run
unfolding command_and_file_of clap_on_literals
returns-clause-run c = refl

pub returns-clause-replay : goal.returns-clause-replay
unfolding command_and_file_of clap_on_literals
returns-clause-replay c = refl

pub returns-clause-dump : goal.returns-clause-dump
unfolding command_and_file_of clap_on_literals
returns-clause-dump c = refl

pub returns-clause-input : goal.returns-clause-input
unfolding command_and_file_of clap_on_literals
returns-clause-input c = refl

pub returns-clause-taken : goal.returns-clause-taken
unfolding is_taken clap_on_literals
returns-clause-taken c = refl

pub returns-clause-bare : goal.returns-clause-bare
unfolding is_taken clap_on_literals
returns-clause-bare c = refl

pub returns-clause-no_file : goal.returns-clause-no_file
unfolding is_taken clap_on_literals
returns-clause-no_file c = refl

pub returns-clause-unknown : goal.returns-clause-unknown
unfolding is_taken clap_on_literals
returns-clause-unknown c = refl

pub returns-clause-two_files : goal.returns-clause-two_files
unfolding is_taken clap_on_literals
returns-clause-two_files c = refl

pub returns-clause-paced : goal.returns-clause-paced
unfolding command_and_file_of number_of digits clap_on_literals
returns-clause-paced c = refl

pub returns-clause-mark : goal.returns-clause-mark
unfolding command_and_file_of number_of digits clap_on_literals
returns-clause-mark c = refl

pub returns-clause-mark_0 : goal.returns-clause-mark_0
unfolding command_and_file_of number_of digits clap_on_literals
returns-clause-mark_0 c = refl

pub returns-clause-mark_alone : goal.returns-clause-mark_alone
unfolding command_and_file_of number_of digits clap_on_literals
returns-clause-mark_alone c = refl

pub returns-clause-no_number : goal.returns-clause-no_number
unfolding command_and_file_of number_of digits clap_on_literals
returns-clause-no_number c = refl

pub returns-clause-paced_replay : goal.returns-clause-paced_replay
unfolding is_taken clap_on_literals
returns-clause-paced_replay c = refl

pub returns-clause-threads : goal.returns-clause-threads
unfolding command_and_file_of number_of digits clap_on_literals
returns-clause-threads c = refl

pub returns-clause-replicators : goal.returns-clause-replicators
unfolding command_and_file_of number_of digits clap_on_literals
returns-clause-replicators c = refl

pub returns-clause-nine : goal.returns-clause-nine
unfolding command_and_file_of number_of digits clap_on_literals
returns-clause-nine c = refl

pub returns-clause-too_idle : goal.returns-clause-too_idle
unfolding command_and_file_of number_of digits clap_on_literals
returns-clause-too_idle c = refl

pub returns-clause-run_replicators : goal.returns-clause-run_replicators
unfolding is_taken clap_on_literals
returns-clause-run_replicators c = refl

pub returns-clause-grow : goal.returns-clause-grow
unfolding command_and_file_of number_of digits clap_on_literals
returns-clause-grow c = refl

pub returns-clause-grow_alone : goal.returns-clause-grow_alone
unfolding command_and_file_of number_of digits clap_on_literals
returns-clause-grow_alone c = refl

pub returns-clause-grow_mark : goal.returns-clause-grow_mark
unfolding command_and_file_of number_of digits clap_on_literals
returns-clause-grow_mark c = refl

pub returns-clause-grow_no_number : goal.returns-clause-grow_no_number
unfolding command_and_file_of number_of digits clap_on_literals
returns-clause-grow_no_number c = refl

pub returns-clause-grow_twice : goal.returns-clause-grow_twice
unfolding is_taken clap_on_literals
returns-clause-grow_twice c = refl

pub returns-clause-grow_threads : goal.returns-clause-grow_threads
unfolding is_taken clap_on_literals
returns-clause-grow_threads c = refl

pub returns-clause-dot : goal.returns-clause-dot
unfolding command_and_file_of clap_on_literals
returns-clause-dot c = refl

pub returns-clause-dot_run : goal.returns-clause-dot_run
unfolding is_taken clap_on_literals
returns-clause-dot_run c = refl

pub returns-clause-dot_twice : goal.returns-clause-dot_twice
unfolding is_taken clap_on_literals
returns-clause-dot_twice c = refl

pub returns-clause-draw : goal.returns-clause-draw
unfolding command_and_file_of clap_on_literals
returns-clause-draw c = refl

pub returns-clause-draw_line : goal.returns-clause-draw_line
unfolding command_and_file_of number_of digits clap_on_literals
returns-clause-draw_line c = refl

pub returns-clause-draw_line_0 : goal.returns-clause-draw_line_0
unfolding command_and_file_of number_of digits clap_on_literals
returns-clause-draw_line_0 c = refl

pub returns-clause-draw_run : goal.returns-clause-draw_run
unfolding is_taken clap_on_literals
returns-clause-draw_run c = refl

pub returns-clause-explain : goal.returns-clause-explain
unfolding explains_of clap_on_literals
returns-clause-explain c = refl

pub returns-clause-unexplained : goal.returns-clause-unexplained
unfolding explains_of clap_on_literals
returns-clause-unexplained c = refl

pub returns-clause-completions : goal.returns-clause-completions
unfolding command_and_file_of clap_on_literals
returns-clause-completions c = refl

pub returns-clause-no_shell : goal.returns-clause-no_shell
unfolding command_and_file_of clap_on_literals
returns-clause-no_shell c = refl

pub returns-clause-completions_bare : goal.returns-clause-completions_bare
unfolding is_taken clap_on_literals
returns-clause-completions_bare c = refl

pub returns-clause-session : goal.returns-clause-session
unfolding command_and_file_of clap_on_literals
returns-clause-session c = refl

pub returns-clause-session_file : goal.returns-clause-session_file
unfolding is_taken clap_on_literals
returns-clause-session_file c = refl

pub returns-clause-echo_json : goal.returns-clause-echo_json
unfolding command_and_file_of clap_on_literals
returns-clause-echo_json c = refl

pub returns-clause-dot_json : goal.returns-clause-dot_json
unfolding command_and_file_of clap_on_literals
returns-clause-dot_json c = refl

pub returns-clause-echo_output : goal.returns-clause-echo_output
unfolding command_and_file_of clap_on_literals
returns-clause-echo_output c = refl

pub returns-clause-crossed : goal.returns-clause-crossed
unfolding command_and_file_of clap_on_literals
returns-clause-crossed c = refl

pub returns-clause-crossed_texts : goal.returns-clause-crossed_texts
unfolding command_and_file_of clap_on_literals
returns-clause-crossed_texts c = refl

pub returns-clause-piped : goal.returns-clause-piped
unfolding command_and_file_of clap_on_literals
returns-clause-piped c = refl

pub returns-clause-echo_dump : goal.returns-clause-echo_dump
unfolding is_taken clap_on_literals
returns-clause-echo_dump c = refl

pub returns-clause-plain : goal.returns-clause-plain
unfolding viewed_of clap_on_literals
returns-clause-plain c = refl

pub returns-clause-viewed : goal.returns-clause-viewed
unfolding viewed_of clap_on_literals
returns-clause-viewed c = refl

pub returns-clause-lisp : goal.returns-clause-lisp
unfolding command_and_file_of number_of digits clap_on_literals
returns-clause-lisp c = refl

pub returns-clause-lisp_heap : goal.returns-clause-lisp_heap
unfolding command_and_file_of number_of digits clap_on_literals
returns-clause-lisp_heap c = refl

pub returns-clause-lisp_grow : goal.returns-clause-lisp_grow
unfolding command_and_file_of number_of digits clap_on_literals
returns-clause-lisp_grow c = refl

pub returns-clause-lisp_heaps : goal.returns-clause-lisp_heaps
unfolding command_and_file_of number_of digits clap_on_literals
returns-clause-lisp_heaps c = refl

pub returns-clause-lisp_steps : goal.returns-clause-lisp_steps
unfolding command_and_file_of number_of digits clap_on_literals
returns-clause-lisp_steps c = refl

pub returns-clause-lisp_session : goal.returns-clause-lisp_session
unfolding command_and_file_of number_of digits clap_on_literals
returns-clause-lisp_session c = refl

pub returns-clause-lisp_cycles : goal.returns-clause-lisp_cycles
unfolding command_and_file_of number_of digits clap_on_literals
returns-clause-lisp_cycles c = refl

pub returns-clause-lisp_viewed : goal.returns-clause-lisp_viewed
unfolding viewed_of clap_on_literals
returns-clause-lisp_viewed c = refl

pub returns-clause-lisp_session_cycles : goal.returns-clause-lisp_session_cycles
unfolding command_and_file_of number_of digits clap_on_literals
returns-clause-lisp_session_cycles c = refl

pub returns-clause-lisp_crossed : goal.returns-clause-lisp_crossed
unfolding command_and_file_of number_of digits clap_on_literals
returns-clause-lisp_crossed c = refl

pub returns-clause-lisp_mark : goal.returns-clause-lisp_mark
unfolding is_taken clap_on_literals
returns-clause-lisp_mark c = refl

pub returns-clause-snapshot : goal.returns-clause-snapshot
unfolding command_and_file_of number_of digits clap_on_literals
returns-clause-snapshot c = refl

pub returns-clause-snapshot_crossed : goal.returns-clause-snapshot_crossed
unfolding command_and_file_of number_of digits clap_on_literals
returns-clause-snapshot_crossed c = refl

pub returns-clause-snapshot_dot : goal.returns-clause-snapshot_dot
unfolding command_and_file_of number_of digits clap_on_literals
returns-clause-snapshot_dot c = refl

pub returns-clause-why : goal.returns-clause-why
unfolding command_and_file_of number_of digits clap_on_literals
returns-clause-why c = refl

pub returns-clause-why_at : goal.returns-clause-why_at
unfolding command_and_file_of number_of digits clap_on_literals
returns-clause-why_at c = refl

pub returns-clause-why_json : goal.returns-clause-why_json
unfolding command_and_file_of number_of digits clap_on_literals
returns-clause-why_json c = refl

pub returns-clause-why_no_number : goal.returns-clause-why_no_number
unfolding command_and_file_of number_of digits clap_on_literals
returns-clause-why_no_number c = refl

pub returns-clause-snapshot_out : goal.returns-clause-snapshot_out
unfolding out_of clap_on_literals
returns-clause-snapshot_out c = refl

pub returns-clause-events : goal.returns-clause-events
unfolding viewed_of clap_on_literals
returns-clause-events c = refl

pub returns-clause-events_alone : goal.returns-clause-events_alone
unfolding command_and_file_of clap_on_literals
returns-clause-events_alone c = refl
