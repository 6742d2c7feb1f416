use Rattle.std.proofs.Common.{Some, None, refl, arith, set, ap, ◌∙◌}
use Rattle.uses.specs.Texts.{TextsState}
use Rattle.uses.proofs.TextTables.{freed-kept, freed-texts, freed-within}
use Rattle.uses.proofs.texts.Texts.free_next.Goals as goal

pub index_mut-requires : goal.index_mut-requires
index_mut-requires g c =
    let within = freed-within c.self.inside.files c.next_to_close.new.self c.self.inside.texts.items c.self.invariant (Some c.in_ok-place.place) c.in_ok-place.place refl c.in_ok-place.ensures.closed in
    omega (arith, within, c.self.inside.texts.ok.0)

pub invariant_of-self-2 : goal.invariant_of-self-2
invariant_of-self-2 g c =
    freed-kept c.self.inside.files c.next_to_close.new.self c.self.inside.texts.items c.self.invariant (Some c.in_ok-place.place) c.in_ok-place.place refl c.in_ok-place.ensures.closed c.in_ok-place.ensures.times

pub returns-clause-texts : goal.returns-clause-texts
returns-clause-texts g c =
    freed-texts c.next_to_close.new.self c.self.inside.texts.items c.in_ok-place.place ∙ ap (λ (s : TextsState). set s.texts c.in_ok-place.place None) c.self.view_is

pub returns-clause-kept : goal.returns-clause-kept
returns-clause-kept g c =
    freed-kept c.self.inside.files c.next_to_close.new.self c.self.inside.texts.items c.self.invariant (Some c.in_ok-place.place) c.in_ok-place.place refl c.in_ok-place.ensures.closed c.in_ok-place.ensures.times
