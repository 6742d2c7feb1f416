use Rattle.std.proofs.Common.{Ok, Err}
use Rattle.rh_trace.specs.declared.run_fault.RunFault.TheVariants as faults
use Rattle.rh_trace.specs.declared.way_fault.NoFault.{NoFault}
use Rattle.rh_trace.proofs.FixedRuns.{ends_as, failed_as, failed_by, failed_ends_as, failed_told_as, plain_as, plain_memory_as, plain_prefix_as, told_as}
use Rattle.rh_trace.proofs.running.run_trace.Goals as goal

pub returns-in-Ok-clause-told : goal.returns-in-Ok-clause-told
returns-in-Ok-clause-told g c =
    told_as NoFault (g.R.Read.remaining c.args.reader.now) (Ok c.in-Ok.summary) (g.W.Write.contents c.args.writer.now) (g.W.Write.contents c.run.new.out) c.in-Ok.ensures.told

pub returns-in-Ok-clause-read : goal.returns-in-Ok-clause-read
returns-in-Ok-clause-read g c =
    let given = c.in-Ok.ensures.read in
    (given.0, given.1, ends_as NoFault given.0 (Ok c.in-Ok.summary) (g.W.Write.contents c.args.writer.now) (g.W.Write.contents c.run.new.out) given.2)

pub returns-in-Ok-clause-plain : goal.returns-in-Ok-clause-plain
returns-in-Ok-clause-plain g c =
    let given = c.in-Ok.ensures.read in
    let keeps = c.every_event_keeps_a_heap_well_formed.ensures.event in
    let steps = c.an_event_answers_as_the_plain_heap.ensures in
    plain_as keeps steps c.heaps_answer_as_plain_heaps.ensures.new c.a_heap_has_the_dump_of_its_plain_heap.ensures given.0 (g.R.Read.remaining c.args.reader.now) (g.R.Read.remaining c.run.new.reader) (g.W.Write.contents c.args.writer.now) (g.W.Write.contents c.run.new.out) given.1 (Ok c.in-Ok.summary) NoFault given.2

pub returns-in-Err-clause-told : goal.returns-in-Err-clause-told
returns-in-Err-clause-told g c =
    failed_told_as (g.R.Read.remaining c.args.reader.now) c.in-Err.fault c.fixed_fault.result (g.W.Write.contents c.args.writer.now) (g.W.Write.contents c.run.new.out) c.fixed_fault.ensures c.in-Err.ensures.told

pub returns-in-Err-clause-read : goal.returns-in-Err-clause-read
returns-in-Err-clause-read g c =
    let given = c.in-Err.ensures.read in
    (given.0, given.1, failed_ends_as c.in-Err.fault c.fixed_fault.result given.0 (g.W.Write.contents c.args.writer.now) (g.W.Write.contents c.run.new.out) c.fixed_fault.ensures given.2)

pub returns-in-Err-clause-few_read : goal.returns-in-Err-clause-few_read
returns-in-Err-clause-few_read g c = λ failed. c.in-Err.ensures.few_read (failed_by c.in-Err.fault c.fixed_fault.result faults.Read c.fixed_fault.ensures failed)

pub returns-in-Err-clause-plain_prefix : goal.returns-in-Err-clause-plain_prefix
returns-in-Err-clause-plain_prefix g c =
    let given = c.in-Err.ensures.read in
    let keeps = c.every_event_keeps_a_heap_well_formed.ensures.event in
    let steps = c.an_event_answers_as_the_plain_heap.ensures in
    let old = g.W.Write.contents c.args.writer.now in
    let new = g.W.Write.contents c.run.new.out in
    plain_prefix_as keeps steps c.heaps_answer_as_plain_heaps.ensures.new c.a_heap_has_the_dump_of_its_plain_heap.ensures given.0 (g.R.Read.remaining c.args.reader.now) (g.R.Read.remaining c.run.new.reader) old new given.1 (Err c.fixed_fault.result) NoFault (failed_as c.in-Err.fault c.fixed_fault.result given.0 old new c.fixed_fault.ensures given.2)

pub returns-in-Err-clause-plain_memory : goal.returns-in-Err-clause-plain_memory
returns-in-Err-clause-plain_memory g c =
    let given = c.in-Err.ensures.read in
    let keeps = c.every_event_keeps_a_heap_well_formed.ensures.event in
    let steps = c.an_event_answers_as_the_plain_heap.ensures in
    let old = g.W.Write.contents c.args.writer.now in
    let new = g.W.Write.contents c.run.new.out in
    plain_memory_as keeps steps c.heaps_answer_as_plain_heaps.ensures.new c.a_heap_has_the_dump_of_its_plain_heap.ensures given.0 (g.R.Read.remaining c.args.reader.now) (g.R.Read.remaining c.run.new.reader) old new given.1 (Err c.fixed_fault.result) NoFault (failed_as c.in-Err.fault c.fixed_fault.result given.0 old new c.fixed_fault.ensures given.2)
