use Rattle.std.proofs.Common.{◌∙◌, ap, sym, Some}
use Rattle.rh_cycles.specs.Cycles.{Reading, cycle_of, going}
use Rattle.rh_cycles.proofs.Readings.{cycle_told-ended}
use Rattle.rh_cycles.proofs.reader.CycleReader.told.Goals as goal

pub returns-in-Some : goal.returns-in-Some
returns-in-Some c =
    let x : Reading = record { line = c.args.line; stat = c.args.stat.now; entries = c.args.entries } in
    let is = sym (ap (λ r. r.running) c.self.view_is) ∙ c.in-Some.is in
    let last = ap (λ r. r.last) c.self.view_is in
    ap Some (c.cycle.ensures ∙ ap (cycle_of c.args.self.now x) (c.going-whole.ensures c.args.line ∙ ap (λ l. going l x c.in-Some.running) last))
    ∙ sym (cycle_told-ended c.args.self.now x c.in-Some.running c.if-stat.false is)
