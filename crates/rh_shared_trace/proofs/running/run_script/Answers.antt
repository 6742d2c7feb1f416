use Rattle.std.proofs.Common.{◌≡◌, ◌<◌, List, length, None, Some, Err, ap, sym, subst, ◌∙◌}
use Rattle.rh_mutator.specs.Config.{fault_of}
use Rattle.rh_text.specs.lemmas.Appends.{Keeps-same}
use Rattle.rh_syntax.specs.declared.line.Header.{Header}
use Rattle.rh_syntax.specs.declared.request.Request.{Request}
use Rattle.rh_trace.specs.Run.{config_of}
use Rattle.rh_collector.specs.SharedConfig.{shared_fault_of}
use Rattle.rh_shared_trace.specs.Lines.{line_fault}
use Rattle.rh_shared_trace.specs.Options.{shared_config_of}
use Rattle.rh_shared_trace.specs.Run.{IsSharedRun, IsSharedTrace}
use Rattle.rh_shared_trace.proofs.Ending.{ends-where_written, none-where}
use Rattle.rh_shared_trace.proofs.running.run_script.Goals as goal

pub line_fault-requires : goal.line_fault-requires
line_fault-requires g c =
    subst (λ (requests : List Request). length requests < 1048576) (sym c.requests.ensures) c.requires.fits.few

pub returns-in-Err-Config-clause-ends : goal.returns-in-Err-Config-clause-ends
returns-in-Err-Config-clause-ends g c = λ input is.
    let script = c.args.trace.now in
    let fault = c.in-Err-Config.fault in
    let header_is = c.header-header.ensures in
    let config_is : c.config_of.result ≡ config_of script.header = c.config_of.ensures ∙ ap config_of header_is in
    let none : line_fault script.header.owners 2 script.requests ≡ None =
    sym (ap (λ (h : Header). line_fault h.owners 2 script.requests) header_is) ∙ sym (ap (line_fault c.header-header.result.owners 2) c.requests.ensures) ∙ sym c.line_fault.ensures ∙ c.in_default.is in
    let whole : IsSharedTrace input script = record { few = is.0; read = is.1; commands = none } in
    let refused = c.in-Err-Config.is ∙ ap Err c.in-Err-Config.field-0-is in
    (script, whole, ap fault_of (sym config_is) ∙ (c.new.ensures.config fault).0 refused ∙ ap Some (sym c.in-Err-Config.fault-is), Keeps-same (g.W.Write.contents c.args.writer.now))

pub returns-in-Err-Shared-clause-ends : goal.returns-in-Err-Shared-clause-ends
returns-in-Err-Shared-clause-ends g c = λ input is.
    let script = c.args.trace.now in
    let fault = c.in-Err-Shared.fault in
    let header_is = c.header-header.ensures in
    let config_is : c.config_of.result ≡ config_of script.header = c.config_of.ensures ∙ ap config_of header_is in
    let shared_is : c.shared_config_of.result ≡ shared_config_of script.header c.args.options = c.shared_config_of.ensures ∙ ap (λ (h : Header). shared_config_of h c.args.options) header_is in
    let none : line_fault script.header.owners 2 script.requests ≡ None =
    sym (ap (λ (h : Header). line_fault h.owners 2 script.requests) header_is) ∙ sym (ap (line_fault c.header-header.result.owners 2) c.requests.ensures) ∙ sym c.line_fault.ensures ∙ c.in_default.is in
    let whole : IsSharedTrace input script = record { few = is.0; read = is.1; commands = none } in
    let refused = c.in-Err-Shared.is ∙ ap Err c.in-Err-Shared.field-0-is in
    let both = (c.new.ensures.shared fault).0 refused in
    (script, whole, ap fault_of (sym config_is) ∙ both.0, ap shared_fault_of (sym shared_is) ∙ both.1 ∙ ap Some (sym c.in-Err-Shared.fault-is), Keeps-same (g.W.Write.contents c.args.writer.now))

pub returns-in-Err-HistoryDiffers-clause-ends : goal.returns-in-Err-HistoryDiffers-clause-ends
returns-in-Err-HistoryDiffers-clause-ends g c = λ input is.
    let script = c.args.trace.now in
    let header_is = c.header-header.ensures in
    let config_is : c.config_of.result ≡ config_of script.header = c.config_of.ensures ∙ ap config_of header_is in
    let shared_is : c.shared_config_of.result ≡ shared_config_of script.header c.args.options = c.shared_config_of.ensures ∙ ap (λ (h : Header). shared_config_of h c.args.options) header_is in
    let none : line_fault script.header.owners 2 script.requests ≡ None =
    sym (ap (λ (h : Header). line_fault h.owners 2 script.requests) header_is) ∙ sym (ap (line_fault c.header-header.result.owners 2) c.requests.ensures) ∙ sym c.line_fault.ensures ∙ c.in_default.is in
    let whole : IsSharedTrace input script = record { few = is.0; read = is.1; commands = none } in
    let sizes : fault_of c.config_of.result ≡ None = none-where (fault_of c.config_of.result) (λ f bad. absurd (cc ((c.new.ensures.config f).1 bad, c.in-Ok.is))) in
    let asked : shared_fault_of c.shared_config_of.result ≡ None =
    none-where (shared_fault_of c.shared_config_of.result) (λ f bad. absurd (cc ((c.new.ensures.shared f).1 (sizes, bad), c.in-Ok.is))) in
    let run : IsSharedRun c.args.options input script =
    record { trace = whole; sizes = ap fault_of (sym config_is) ∙ sizes; shared = ap shared_fault_of (sym shared_is) ∙ asked } in
    (script, run, Keeps-same (g.W.Write.contents c.args.writer.now))

pub returns-in-Ok-play-clause-ends : goal.returns-in-Ok-play-clause-ends
returns-in-Ok-play-clause-ends g c = λ input is.
    let known = g.W.Write.contents in
    let script = c.args.trace.now in
    let header_is = c.header-header.ensures in
    let config_is : c.config_of.result ≡ config_of script.header = c.config_of.ensures ∙ ap config_of header_is in
    let shared_is : c.shared_config_of.result ≡ shared_config_of script.header c.args.options = c.shared_config_of.ensures ∙ ap (λ (h : Header). shared_config_of h c.args.options) header_is in
    let none : line_fault script.header.owners 2 script.requests ≡ None =
    sym (ap (λ (h : Header). line_fault h.owners 2 script.requests) header_is) ∙ sym (ap (line_fault c.header-header.result.owners 2) c.requests.ensures) ∙ sym c.line_fault.ensures ∙ c.in_default.is in
    let whole : IsSharedTrace input script = record { few = is.0; read = is.1; commands = none } in
    let sizes : fault_of c.config_of.result ≡ None = none-where (fault_of c.config_of.result) (λ f bad. absurd (cc ((c.new.ensures.config f).1 bad, c.in-Ok.is))) in
    let asked : shared_fault_of c.shared_config_of.result ≡ None =
    none-where (shared_fault_of c.shared_config_of.result) (λ f bad. absurd (cc ((c.new.ensures.shared f).1 (sizes, bad), c.in-Ok.is))) in
    let run : IsSharedRun c.args.options input script =
    record { trace = whole; sizes = ap fault_of (sym config_is) ∙ sizes; shared = ap shared_fault_of (sym shared_is) ∙ asked } in
    ends-where_written c.args.options input script c.history.result.now.contents c.write_checked.result (known c.args.writer.now) (known c.write_checked.new.writer) run c.write_checked.ensures.ends
