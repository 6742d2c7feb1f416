-- What the answer to a request says, where what is read of the heap or of trays is read then.
use Rattle.rh_core.specs.Heap.{HeapState}
use Rattle.rh_core.specs.Stat.{stat_of}
use Rattle.rh_engine.specs.Trays.{Trays}
use Rattle.rh_trace.specs.declared.answer.Answer.{Answer}
use Rattle.rh_trace.specs.declared.answer.Answer.TheVariants as forms
use Rattle.rh_trace.specs.Answers as answers
use Rattle.rh_trace.specs.Answers.{Answered}
use Rattle.rh_heap_dump.specs.HeapDump.{dump_of}

-- what was answered by a heap and trays that are so afterwards
abbrev pub answered_of : {A : Type 0} → HeapState → Trays → Answer A → Answered
answered_of heap trays (forms.Command answer) = answers.Answer answer
answered_of heap trays (forms.Begin answer) = answers.Begin answer
answered_of heap trays (forms.Shade answer) = answers.Shade answer
answered_of heap trays (forms.Deal answer) = answers.Deal answer
answered_of heap trays (forms.Give answer) = answers.Give answer
answered_of heap trays (forms.Join answer) = answers.Join answer
answered_of heap trays (forms.Flip answer) = answers.Flip answer
answered_of heap trays (forms.Recall answer) = answers.Recall answer
answered_of heap trays (forms.Abandon answer) = answers.Abandon answer
answered_of heap trays (forms.Idle answer) = answers.Idle answer
answered_of heap trays (forms.Resize answer) = answers.Resize answer
answered_of heap trays (forms.Tickets answer) = answers.Tickets answer
answered_of heap trays (forms.Watch answer) = answers.Watch answer
answered_of heap trays (forms.Unwatch watched) = answers.Unwatch watched
answered_of heap trays (forms.Gone tickets) = answers.Gone tickets.items
answered_of heap trays forms.Trays = answers.Listing trays
answered_of heap trays forms.Stat = answers.Numbers (stat_of heap)
answered_of heap trays forms.Dump = answers.Dump (dump_of heap)
