use Rattle.std.proofs.Common.{Result, sym, ap, subst, ◌∙◌}
use Rattle.rh_text.specs.Steps.{with_fault}
use Rattle.rh_dump.specs.texts.Reading.{line_due}
use Rattle.rh_dump.specs.texts.Putting.{put_read, Tells}
use Rattle.rh_dump.specs.declared.reading.due.Due.{Due}
use Rattle.rh_dump.specs.declared.reading.due.Due.TheVariants as dues
use Rattle.rh_dump.specs.declared.reading.read_error.LineError.{LineError}
use Rattle.rh_dump.specs.declared.reading.read_error.LineError.TheVariants.{Kind}
use Rattle.rh_dump.proofs.texts.PutRead.{header_put, roots_put, objects_put, end_put, nothing_put}
use Rattle.rh_dump.proofs.reading.line_reading.read_line.Goals as goal

pub returns-in-Header : goal.returns-in-Header
returns-in-Header g c =
    let flat = c.args.builder.now in
    let line = c.args.line.now in
    rw c.in-Header.is (subst (λ (r : Result Due LineError). Tells (λ (next : Due). (flat, next)) r (put_read flat dues.Header (line_due dues.Header line))) (sym (c.of_kind.ensures ∙ ap (with_fault Kind) c.after_header.ensures)) (header_put flat line))

pub returns-in-Roots : goal.returns-in-Roots
returns-in-Roots g c =
    let flat = c.args.builder.now in
    let line = c.args.line.now in
    let due = dues.Roots c.in-Roots.version in
    rw c.in-Roots.is (subst (λ (r : Result Due LineError). Tells (λ (next : Due). (flat, next)) r (put_read flat due (line_due due line))) (sym (c.of_kind-in-Roots.ensures ∙ ap (with_fault Kind) c.after_roots.ensures)) (roots_put flat c.in-Roots.version line))

pub returns-in-Objects : goal.returns-in-Objects
returns-in-Objects g c =
    let flat = c.args.builder.now in
    let line = c.args.line.now in
    let due = dues.Objects c.in-Objects.version c.in-Objects.met in
    rw c.in-Objects.is (subst (λ (r : Result Due LineError). Tells (λ (next : Due). (flat, next)) r (put_read flat due (line_due due line))) (sym (c.of_kind-in-Objects.ensures ∙ ap (with_fault Kind) c.after_objects.ensures)) (objects_put flat c.in-Objects.version c.in-Objects.met line (rw c.in-Objects.is at c.requires)))

pub returns-in-End : goal.returns-in-End
returns-in-End g c =
    let flat = c.args.builder.now in
    let line = c.args.line.now in
    rw c.in-End.is (subst (λ (r : Result Due LineError). Tells (λ (next : Due). (flat, next)) r (put_read flat dues.End (line_due dues.End line))) (sym (c.of_kind-in-End.ensures ∙ ap (with_fault Kind) c.after_end.ensures)) (end_put flat line))

pub returns-in-Nothing : goal.returns-in-Nothing
returns-in-Nothing g c = rw c.in-Nothing.is (nothing_put c.args.builder.now c.args.line.now)
