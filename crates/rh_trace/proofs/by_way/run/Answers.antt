use Rattle.std.proofs.Common.{Err, refl, ap, inl, inr}
use Rattle.rh_trace.proofs.WaysInTurn.{ended-unread, failed_read, keeps_all, never_wrote, plain, plain_memory, plain_prefix, told-traced, told-unread, was_read}
use Rattle.rh_trace.proofs.by_way.run.Goals as goal

pub returns-in-Ok-clause-told : goal.returns-in-Ok-clause-told
returns-in-Ok-clause-told g c =
    let P = g.P.Player in
    let Y = g.Y.Way in
    let L = g.L.Listener in
    let way = c.args.way.now in
    told-traced P.Steps P.total L.next L.show L.closing L.lead L.opening L.begun (Y.fits way) (Y.refuses way) L.NeedsMemory (L.state c.args.listener.now) (g.R.Read.remaining c.args.reader.now) c.in-Ok.trace c.run_script.result (L.contents c.args.out.now) (L.contents c.run_script.new.out) c.in-Ok.ensures.told c.run_script.ensures.ends

pub returns-in-Ok-clause-read : goal.returns-in-Ok-clause-read
returns-in-Ok-clause-read g c =
    let given = c.in-Ok.ensures.read in
    (given.0, given.1, inr (c.in-Ok.trace, given.2, c.run_script.ensures.ends))

pub returns-in-Ok-clause-plain : goal.returns-in-Ok-clause-plain
returns-in-Ok-clause-plain g c =
    let P = g.P.Player in
    let Y = g.Y.Way in
    let L = g.L.Listener in
    let way = c.args.way.now in
    let given = c.in-Ok.ensures.read in
    plain P.Steps P.total L.next L.show L.closing L.lead L.opening L.begun (Y.fits way) (Y.refuses way) L.NeedsMemory (L.state c.args.listener.now)
    (c.answers_as_the_plain_heap.ensures way) given.0 c.in-Ok.trace (g.R.Read.remaining c.args.reader.now) (g.R.Read.remaining c.read_trace.new.reader) (L.contents c.args.out.now) (L.contents c.run_script.new.out) given.2 given.1 c.run_script.result c.run_script.ensures.ends

pub returns-in-Ok-clause-plain_prefix : goal.returns-in-Ok-clause-plain_prefix
returns-in-Ok-clause-plain_prefix g c =
    let P = g.P.Player in
    let Y = g.Y.Way in
    let L = g.L.Listener in
    let way = c.args.way.now in
    let given = c.in-Ok.ensures.read in
    plain_prefix P.Steps P.total L.next L.show L.closing L.lead L.opening L.begun (Y.fits way) (Y.refuses way) L.NeedsMemory (L.state c.args.listener.now)
    (c.answers_as_the_plain_heap.ensures way) given.0 c.in-Ok.trace (g.R.Read.remaining c.args.reader.now) (g.R.Read.remaining c.read_trace.new.reader) (L.contents c.args.out.now) (L.contents c.run_script.new.out) given.2 given.1 c.run_script.result c.run_script.ensures.ends

pub returns-in-Ok-clause-plain_memory : goal.returns-in-Ok-clause-plain_memory
returns-in-Ok-clause-plain_memory g c =
    let P = g.P.Player in
    let Y = g.Y.Way in
    let L = g.L.Listener in
    let way = c.args.way.now in
    let given = c.in-Ok.ensures.read in
    plain_memory P.Steps P.total L.next L.show L.closing L.lead L.opening L.begun (Y.fits way) (Y.refuses way) L.NeedsMemory (L.state c.args.listener.now)
    (c.answers_as_the_plain_heap.ensures way) given.0 c.in-Ok.trace (g.R.Read.remaining c.args.reader.now) (g.R.Read.remaining c.read_trace.new.reader) (L.contents c.args.out.now) (L.contents c.run_script.new.out) given.2 given.1 c.run_script.result c.run_script.ensures.ends

pub returns-in-Err-clause-told : goal.returns-in-Err-clause-told
returns-in-Err-clause-told g c =
    let P = g.P.Player in
    let Y = g.Y.Way in
    let L = g.L.Listener in
    let way = c.args.way.now in
    told-unread P.Steps P.total L.next L.show L.closing L.lead L.opening L.begun (Y.fits way) (Y.refuses way) L.NeedsMemory (L.state c.args.listener.now) (g.R.Read.remaining c.args.reader.now) c.in-Err.fault (Err c.of_run_fault.result) (L.contents c.args.out.now) (ap Err c.of_run_fault.ensures) c.in-Err.ensures.told

pub returns-in-Err-clause-read : goal.returns-in-Err-clause-read
returns-in-Err-clause-read g c =
    let P = g.P.Player in
    let Y = g.Y.Way in
    let L = g.L.Listener in
    let way = c.args.way.now in
    let given = c.in-Err.ensures.read in
    (given.0, given.1, ended-unread P.Steps P.total L.next L.show L.closing L.lead L.opening L.begun (Y.fits way) (Y.refuses way) L.NeedsMemory (L.state c.args.listener.now) given.0 c.in-Err.fault (Err c.of_run_fault.result) (L.contents c.args.out.now) (ap Err c.of_run_fault.ensures) given.2)

pub returns-in-Err-clause-few_read : goal.returns-in-Err-clause-few_read
returns-in-Err-clause-few_read g c = λ failed. c.in-Err.ensures.few_read (ap Err (failed_read (Err c.of_run_fault.result) c.in-Err.fault (ap Err c.of_run_fault.ensures) failed))

pub returns-in-Err-clause-plain_prefix : goal.returns-in-Err-clause-plain_prefix
returns-in-Err-clause-plain_prefix g c = λ failed. absurd (never_wrote (Err c.of_run_fault.result) c.in-Err.fault c.in-Err.ensures.read.0 c.in-Err.ensures.read.2 (ap Err c.of_run_fault.ensures) failed)

pub returns-in-Err-clause-plain_memory : goal.returns-in-Err-clause-plain_memory
returns-in-Err-clause-plain_memory g c = λ failed. inl (keeps_all (g.L.Listener.contents c.args.out.now))

pub returns-in-Err-clause-read_failed : goal.returns-in-Err-clause-read_failed
returns-in-Err-clause-read_failed g c = λ failed. c.in-Err.ensures.read_failed (ap Err (failed_read (Err c.of_run_fault.result) c.in-Err.fault (ap Err c.of_run_fault.ensures) failed))

pub returns-in-Err-clause-no_read_failed : goal.returns-in-Err-clause-no_read_failed
returns-in-Err-clause-no_read_failed g c = λ never. c.in-Err.ensures.no_read_failed (λ failed. never (was_read (Err c.in-Err.fault) c.in-Err.fault (Err c.of_run_fault.result) refl (ap Err c.of_run_fault.ensures) failed))

pub returns-in-Err-clause-write_failed : goal.returns-in-Err-clause-write_failed
returns-in-Err-clause-write_failed g c = λ failed. absurd (never_wrote (Err c.of_run_fault.result) c.in-Err.fault c.in-Err.ensures.read.0 c.in-Err.ensures.read.2 (ap Err c.of_run_fault.ensures) failed)

pub returns-in-Err-clause-writes_spent : goal.returns-in-Err-clause-writes_spent
returns-in-Err-clause-writes_spent g c = λ failed. absurd (never_wrote (Err c.of_run_fault.result) c.in-Err.fault c.in-Err.ensures.read.0 c.in-Err.ensures.read.2 (ap Err c.of_run_fault.ensures) failed)
