use Rattle.layer_tests.proofs.layers.place.Spaces.next.Goals as goal

pub invariant_of-self : goal.invariant_of-self
invariant_of-self c = (c.next.ensures.mirrors c.self.inside.space c.self.invariant.0, c.next.ensures.agrees c.self.inside.space c.self.invariant.1)
