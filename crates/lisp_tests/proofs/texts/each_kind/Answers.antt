use Rattle.std.specs.Fmt.{digits}
use Rattle.lisp_tests.proofs.texts.each_kind.Goals as goal

pub returns : goal.returns
unfolding digits
returns c = c.as_slice.ensures
