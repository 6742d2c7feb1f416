use Rattle.std.proofs.Common.{Err, inr, ap, ◌∙◌}
use Rattle.rh_trace.specs.declared.stop.Stop.TheVariants as stops
use Rattle.rh_trace.proofs.WaysInTurn.{played_lines, unprepared}
use Rattle.rh_trace.proofs.by_way.run_script.Goals as goal

pub returns-in-Err-clause-ends : goal.returns-in-Err-clause-ends
returns-in-Err-clause-ends g c =
    let P = g.P.Player in
    let Y = g.Y.Way in
    let L = g.L.Listener in
    let way = c.args.way.now in
    rw c.of_unprepared.ensures (unprepared P.Steps P.total L.next L.show L.closing L.lead L.opening L.begun (Y.fits way) (Y.refuses way) L.NeedsMemory (L.state c.args.listener.now) c.args.trace.now c.in-Err.why (L.contents c.args.out.now) c.in-Err.ensures.refused)

pub returns-in-Err-Write-clause-ends : goal.returns-in-Err-Write-clause-ends
returns-in-Err-Write-clause-ends g c =
    let P = g.P.Player in
    let Y = g.Y.Way in
    let L = g.L.Listener in
    let way = c.args.way.now in
    played_lines P.Steps P.total L.next L.show L.closing L.lead L.opening L.begun (Y.fits way) (Y.refuses way) L.NeedsMemory (L.state c.args.listener.now) c.args.trace.now c.in-Ok.player c.header-header.result c.requests.result.now c.run_lines.result (Err stops.Write) (L.contents c.args.out.now) (L.contents c.run_lines.new.out)
    c.in-Ok.ensures.made c.header-header.ensures c.requests.ensures (c.in-Err-Write.is ∙ ap Err c.in-Err-Write.field-0-is) c.run_lines.ensures.ends

pub returns-clause-ends : goal.returns-clause-ends
returns-clause-ends g c =
    let P = g.P.Player in
    let Y = g.Y.Way in
    let L = g.L.Listener in
    let way = c.args.way.now in
    inr (played_lines P.Steps P.total L.next L.show L.closing L.lead L.opening L.begun (Y.fits way) (Y.refuses way) L.NeedsMemory (L.state c.args.listener.now) c.args.trace.now c.in-Ok.player c.header-header.result c.requests.result.now c.run_lines.result (Err stops.OutOfMemory) (L.contents c.args.out.now) (L.contents c.run_lines.new.out)
    c.in-Ok.ensures.made c.header-header.ensures c.requests.ensures (c.in-Err-OutOfMemory.is ∙ ap Err c.in-Err-OutOfMemory.field-0-is) c.run_lines.ensures.ends)
