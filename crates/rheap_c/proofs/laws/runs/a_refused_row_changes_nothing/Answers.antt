use Rattle.rheap_c.proofs.Rows.{refused-same, refused-store}
use Rattle.rheap_c.proofs.laws.runs.a_refused_row_changes_nothing.Goals as goal

pub returns : goal.returns
returns c = λ s owner object from numbers why is other. (refused-store s owner object from numbers why is, refused-same s owner object from numbers why is other)
