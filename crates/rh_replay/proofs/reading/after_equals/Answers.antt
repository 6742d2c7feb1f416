use Rattle.rh_text.specs.lemmas.Cuts.{cut_shorter}
use Rattle.rh_replay.proofs.reading.after_equals.Goals as goal

pub loop-part-smaller : goal.loop-part-smaller
loop-part-smaller c = cut_shorter 32 c.loop-part.rest.now c.in-Some.part.now c.in-Some.after.now c.in-Some.ensures
