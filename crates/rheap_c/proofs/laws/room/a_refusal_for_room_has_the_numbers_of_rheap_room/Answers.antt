use Rattle.rheap_c.proofs.Refused.{alloc-full, alloc-refused, insisted_alloc-refused, insisted_raw-refused, raw-full, raw-refused}
use Rattle.rheap_c.proofs.laws.room.a_refusal_for_room_has_the_numbers_of_rheap_room.Goals as goal

pub returns : goal.returns
returns c = record {
  full = alloc-full;
  raw_full = raw-full;
  alloc = alloc-refused;
  raw = raw-refused;
  insist = insisted_alloc-refused;
  insist_raw = insisted_raw-refused;
}
