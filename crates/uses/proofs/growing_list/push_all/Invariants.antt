use Rattle.uses.specs.Room.{IsRoomy}
use Rattle.uses.proofs.growing_list.push_all.Given as goal

-- the heap goes on having room
abbrev pub invariant-loop-n : goal.invariant-loop-n
invariant-loop-n g l = IsRoomy 4 l.fn.heap → IsRoomy 4 l.heap
