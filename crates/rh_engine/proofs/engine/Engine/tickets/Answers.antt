use Rattle.std.proofs.Common.{◌<◌, length, Err, refl, ap, sym}
use Rattle.rh_engine.proofs.TicketOrder.{comes-made, comes-fewer, comes-many, comes-accepted}
use Rattle.rh_engine.proofs.engine.Engine.tickets.Goals as goal
use Rattle.rh_engine.proofs.engine.Engine.tickets.Goals.{in-Ok, in-Err-Fewer, in-Err-TooMany, in-Err-OutOfMemory}

pub returns-clause-state : goal.returns-clause-state
returns-clause-state g c = elim c.match-watch_room.branch [
  | in-Ok w ↦
      let enough : ¬ (c.args.tickets < length c.self.inside.heap.watches.tickets) = λ less. let fewer = (w.in-Ok.ensures.fewer _).1 (less, refl) in cc in
      let few : ¬ (65536 < c.args.tickets) = λ more. let many = w.in-Ok.ensures.many.1 more in cc in
      let done = comes-made _ c.args.self.now c.self.view_is c.watch_room.new.self c.args.tickets w.in-Ok.ensures.ok enough few in
      rw w.result-is (sym (ap (λ x. x.0) done))
  | in-Err-Fewer w ↦
      let done = comes-fewer _ c.args.self.now c.self.view_is c.watch_room.new.self c.args.tickets w.in-Err-Fewer.ensures.unchanged _ ((w.in-Err-Fewer.ensures.fewer _).0 (ap Err w.in-Err-Fewer.field-0-is)) in
      rw w.result-is (sym (ap (λ x. x.0) done))
  | in-Err-TooMany w ↦
      let many = w.in-Err-TooMany.field-0-is in
      let enough : ¬ (c.args.tickets < length c.self.inside.heap.watches.tickets) = λ less. let fewer = (w.in-Err-TooMany.ensures.fewer _).1 (less, refl) in cc in
      let done = comes-many _ c.args.self.now c.self.view_is c.watch_room.new.self c.args.tickets w.in-Err-TooMany.ensures.unchanged enough (w.in-Err-TooMany.ensures.many.0 (ap Err w.in-Err-TooMany.field-0-is)) in
      rw w.result-is (sym (ap (λ x. x.0) done))
  | in-Err-OutOfMemory w ↦ rw w.result-is tt
]

pub returns-clause-answer : goal.returns-clause-answer
returns-clause-answer g c = elim c.match-watch_room.branch [
  | in-Ok w ↦
      let enough : ¬ (c.args.tickets < length c.self.inside.heap.watches.tickets) = λ less. let fewer = (w.in-Ok.ensures.fewer _).1 (less, refl) in cc in
      let few : ¬ (65536 < c.args.tickets) = λ more. let many = w.in-Ok.ensures.many.1 more in cc in
      let done = comes-made _ c.args.self.now c.self.view_is c.watch_room.new.self c.args.tickets w.in-Ok.ensures.ok enough few in
      rw w.result-is (sym (ap (λ x. x.1) done))
  | in-Err-Fewer w ↦
      let done = comes-fewer _ c.args.self.now c.self.view_is c.watch_room.new.self c.args.tickets w.in-Err-Fewer.ensures.unchanged _ ((w.in-Err-Fewer.ensures.fewer _).0 (ap Err w.in-Err-Fewer.field-0-is)) in
      rw w.result-is (sym (ap (λ x. x.1) done))
  | in-Err-TooMany w ↦
      let many = w.in-Err-TooMany.field-0-is in
      let enough : ¬ (c.args.tickets < length c.self.inside.heap.watches.tickets) = λ less. let fewer = (w.in-Err-TooMany.ensures.fewer _).1 (less, refl) in cc in
      let done = comes-many _ c.args.self.now c.self.view_is c.watch_room.new.self c.args.tickets w.in-Err-TooMany.ensures.unchanged enough (w.in-Err-TooMany.ensures.many.0 (ap Err w.in-Err-TooMany.field-0-is)) in
      rw w.result-is (sym (ap (λ x. x.1) done))
  | in-Err-OutOfMemory w ↦ rw w.result-is tt
]

pub returns-clause-accepted : goal.returns-clause-accepted
returns-clause-accepted g c = elim c.match-watch_room.branch [
  | in-Ok w ↦ rw w.result-is tt
  | in-Err-Fewer w ↦ rw w.result-is tt
  | in-Err-TooMany w ↦ rw w.result-is tt
  | in-Err-OutOfMemory w ↦
      let memory = w.in-Err-OutOfMemory.field-0-is in
      let enough : ¬ (c.args.tickets < length c.self.inside.heap.watches.tickets) = λ less. let fewer = (w.in-Err-OutOfMemory.ensures.fewer _).1 (less, refl) in cc in
      let few : ¬ (65536 < c.args.tickets) = λ more. let many = w.in-Err-OutOfMemory.ensures.many.1 more in cc in
      rw w.result-is (comes-accepted _ c.args.self.now c.self.view_is c.watch_room.new.self c.args.tickets enough few)
]
