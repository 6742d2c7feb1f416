use Rattle.std.proofs.Common.{subst}
use Rattle.rh_dump.specs.Dump.{GraphState}
use Rattle.rh_dump.specs.texts.Line.{dump_text}
use Rattle.rh_heap_dump.proofs.HeapDump.{dump_of-plain}
use Rattle.rheap_c.specs.Views.{IsToldOrRefused}
use Rattle.rheap_c.proofs.laws.views.a_dump_from_c_is_that_of_the_plain_heap.Goals as goal

pub returns : goal.returns
returns c s p stands new before after count status (left, told) =
    let same = dump_of-plain c.equal_dumps_are_same_graphs.ensures c.pairs_what_is_reached.ensures.there c.pairs_what_is_reached.ensures.back s.heap p stands in
    subst (λ (g : GraphState). IsToldOrRefused (dump_text g) before after count status) same told
