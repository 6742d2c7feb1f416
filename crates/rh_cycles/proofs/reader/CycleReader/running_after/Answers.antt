use Rattle.std.proofs.Common.{◌∙◌, ap, sym, Some}
use Rattle.rh_cycles.specs.Cycles.{Reading, going, goes_on}
use Rattle.rh_cycles.proofs.Readings.{running_after-going}
use Rattle.rh_cycles.proofs.reader.CycleReader.running_after.Goals as goal

pub returns-in-Some : goal.returns-in-Some
returns-in-Some c =
    let x : Reading = record { line = c.args.line; stat = c.args.stat.now; entries = c.args.entries } in
    let is = sym (ap (λ r. r.running) c.self.view_is) ∙ c.in-Some.is in
    let last = ap (λ r. r.last) c.self.view_is in
    let goes = ap (λ s. goes_on s c.args.stat.now) (sym last) ∙ sym c.goes_on.ensures ∙ c.if-not-goes_on.false in
    ap Some (c.going.ensures c.args.line ∙ ap (λ l. going l x c.in-Some.running) last)
    ∙ sym (running_after-going c.args.self.now x c.in-Some.running c.if-not-stat.false goes is)
