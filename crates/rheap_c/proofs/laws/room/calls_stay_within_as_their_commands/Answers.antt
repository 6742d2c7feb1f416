use Rattle.std.proofs.Common.{ℕ, List, [], ◌∷◌, map}
use Rattle.rh_layout.specs.declared.command.Command.{Command}
use Rattle.rh_model.specs.Plain.{PlainHeap, step}
use Rattle.rh_pace.specs.InTime.{StayWithin}
use Rattle.rh_pace.specs.Paced.{PacedState, paced_step}
use Rattle.rh_pace.specs.PlainBounds.{AreBounded}
use Rattle.rheap_c.specs.Room.{AreCallsBounded, CallsStayWithin}
use Rattle.rheap_c.specs.Runs.{doing}
use Rattle.rheap_c.proofs.Bounded.{AreCallsBounded-doing}
use Rattle.rheap_c.proofs.InTime.{CallsStayWithin-doing}
use Rattle.rheap_c.proofs.laws.room.calls_stay_within_as_their_commands.Goals as goal

-- what calls of commands are within, the commands are
doing-within : (live biggest : ℕ) (given : List (ℕ × Command)) (s : PacedState) → CallsStayWithin live biggest s (map doing given) → StayWithin live biggest s given
doing-within live biggest [] s within = tt
doing-within live biggest (c ∷ given) s within = (within.0, doing-within live biggest given (paced_step s c.0 c.1).0 within.1)

doing-bounded : (live biggest : ℕ) (given : List (ℕ × Command)) (p : PlainHeap) → AreCallsBounded live biggest p (map doing given) → AreBounded live biggest p given
doing-bounded live biggest [] p bounded = tt
doing-bounded live biggest (c ∷ given) p bounded = (bounded.0.0, doing-bounded live biggest given (step p c.0 c.1).0 bounded.1)

pub returns-clause-commands : goal.returns-clause-commands
returns-clause-commands c = λ live biggest s given. (doing-within live biggest given s, CallsStayWithin-doing live biggest given s)

pub returns-clause-bounded : goal.returns-clause-bounded
returns-clause-bounded c = λ live biggest p given. (doing-bounded live biggest given p, AreCallsBounded-doing live biggest given p)

pub returns-clause-load : goal.returns-clause-load
returns-clause-load c = λ live biggest owner dst src field. (λ s. (λ within. within.0, λ within. (within, tt)), λ p. (λ bounded. bounded.0.0, λ bounded. ((bounded, tt), tt)))

pub returns-clause-compare : goal.returns-clause-compare
returns-clause-compare c = λ live biggest owner r q. (λ s. (λ within. within.0, λ within. (within, tt)), λ p. (λ bounded. bounded.0.0, λ bounded. ((bounded, tt), tt)))

pub returns-clause-insist : goal.returns-clause-insist
returns-clause-insist c = λ live biggest owner command. (λ s. (λ within. within.0, λ within. (within, tt)), λ p. (λ bounded. bounded.0.0, λ bounded. ((bounded, tt), tt)))

pub returns-clause-row : goal.returns-clause-row
returns-clause-row c = λ live biggest s owner object from numbers. (λ within. within.0, λ within. (within, tt))

pub returns-clause-insisted_row : goal.returns-clause-insisted_row
returns-clause-insisted_row c = λ live biggest s owner object from numbers. (λ within. within, λ within. within)

pub returns-clause-row_bounded : goal.returns-clause-row_bounded
returns-clause-row_bounded c = λ live biggest p owner object from numbers. (λ bounded. bounded.0.1, λ bounded. ((tt, bounded), tt))

pub returns-clause-insisted_row_bounded : goal.returns-clause-insisted_row_bounded
returns-clause-insisted_row_bounded c = λ live biggest p owner object from numbers. (λ bounded. bounded, λ bounded. bounded)

pub returns-clause-collect : goal.returns-clause-collect
returns-clause-collect c = λ live biggest s. (λ within. within.0, λ within. (within, tt))

pub returns-clause-collect_bounded : goal.returns-clause-collect_bounded
returns-clause-collect_bounded c = λ live biggest p. (λ bounded. bounded.0, λ bounded. (bounded, tt))

pub returns-clause-others : goal.returns-clause-others
returns-clause-others c = λ live biggest s owner root field numbers text. (tt, (tt, (tt, (tt, (tt, (tt, (tt, (tt, tt))))))))

pub returns-clause-others_bounded : goal.returns-clause-others_bounded
returns-clause-others_bounded c = λ live biggest p owner root field numbers text. ((tt, tt), ((tt, tt), ((tt, tt), ((tt, tt), ((tt, tt), ((tt, tt), ((tt, tt), ((tt, tt), tt))))))))
