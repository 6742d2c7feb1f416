-- What becomes of a handle whose heap was lent.
use Rattle.std.specs.Prelude.{Some}
use Rattle.std.specs.Borrow.{Fml, Lends, MutBor}
use Rattle.rh_pace.specs.Paced.{PacedState}
use Rattle.rheap_c.specs.Held.{heap_type}
use Rattle.rheap_c.specs.declared.fixed_part.FixedPart.{FixedPart}
use Rattle.rheap_c.specs.contracts.fixed_part.FixedPart.{the_row}

-- the handle with this heap in place of its own
abbrev pub with_heap : FixedPart → PacedState → FixedPart
with_heap h s = record h { state = Some s }

-- once the borrow r ends, the handle holds the last heap that was behind it
abbrev pub lends_heap : MutBor FixedPart → MutBor PacedState → Fml
lends_heap h r = Lends the_row heap_type h r (with_heap h.now)
