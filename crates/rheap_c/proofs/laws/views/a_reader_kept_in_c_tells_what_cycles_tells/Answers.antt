use Rattle.rheap_c.proofs.KeptReaders.{asked-read, left-read, told-read}
use Rattle.rheap_c.proofs.laws.views.a_reader_kept_in_c_tells_what_cycles_tells.Goals as goal

pub returns : goal.returns
returns c = record { told = told-read; kept = left-read; asked = asked-read }
