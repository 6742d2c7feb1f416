use Rattle.rh_collector.specs.Settling.{pairs_of}
use Rattle.shared_tests.proofs.settled.play_new.Given as goal

-- the rings of the heap that was just made
abbrev pub ghosts-play : goal.ghosts-play
ghosts-play g a = record { pairs = pairs_of a.kept.collector.rings }
