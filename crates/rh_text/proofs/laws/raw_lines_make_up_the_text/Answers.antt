use Rattle.rh_text.specs.lemmas.RawLines.{lines_text, lines_within, lines_ended, lines_filled}
use Rattle.rh_text.proofs.laws.raw_lines_make_up_the_text.Goals as goal

pub returns-clause-text : goal.returns-clause-text
returns-clause-text c bytes = lines_text bytes

pub returns-clause-within : goal.returns-clause-within
returns-clause-within c bytes l there = lines_within bytes l there

pub returns-clause-ended : goal.returns-clause-ended
returns-clause-ended c bytes i l here before = lines_ended bytes i l here before

pub returns-clause-filled : goal.returns-clause-filled
returns-clause-filled c bytes l there cut = lines_filled bytes l there cut
