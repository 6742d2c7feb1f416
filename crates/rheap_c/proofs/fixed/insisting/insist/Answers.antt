use Rattle.std.proofs.Common.{sym, ◌∙◌}
use Rattle.rheap_c.proofs.Tried.{IsInsistedCall-again, IsInsistedCall-tried}
use Rattle.rheap_c.proofs.fixed.insisting.insist.Goals as goal

pub returns-then-wants_room : goal.returns-then-wants_room
returns-then-wants_room c = λ before call.
    IsInsistedCall-again before c.args.heap.now c.args.owner c.args.command.now c.args.tried call (sym c.wants_room.ensures ∙ c.if-wants_room.true) c.insisted.new.heap c.insisted.result c.insisted.ensures

pub returns-else-wants_room : goal.returns-else-wants_room
returns-else-wants_room c = λ before call.
    IsInsistedCall-tried before c.args.heap.now c.args.owner c.args.command.now c.args.tried call (sym c.wants_room.ensures ∙ c.if-wants_room.false)
