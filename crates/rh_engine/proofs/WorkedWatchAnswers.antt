-- The definitions at work: the texts of the answers to the lines of watches.
use Rattle.std.proofs.Common.{◌≡◌, [], ◌∷◌, Ok, Err, refl}
use Rattle.std.specs.Prelude.{true, false, codes}
use Rattle.std.specs.Fmt.{digits}
use Rattle.rh_core.specs.declared.errors.WatchError.TheVariants as watches
use Rattle.rh_engine.specs.declared.engine.TicketsRefusal.TheVariants as tickets_refusals
use Rattle.rh_engine.specs.WatchAnswers.{tickets_text, watch_text, unwatch_text, gone_text}

room : tickets_text (Ok 65536) ≡ codes "tickets 65536"
unfolding digits
room = refl

fewer : tickets_text (Err (tickets_refusals.Fewer 2)) ≡ codes "refused Fewer 2"
unfolding digits
fewer = refl

too_many : tickets_text (Err tickets_refusals.TooMany) ≡ codes "refused TooMany"
too_many = refl

watched : watch_text (Ok 0) ≡ codes "ticket 0"
unfolding digits
watched = refl

no_root : watch_text (Err watches.NoRoot) ≡ codes "refused NoRoot"
no_root = refl

not_yours : watch_text (Err watches.NotYours) ≡ codes "refused NotYours"
not_yours = refl

not_object : watch_text (Err watches.NotObject) ≡ codes "refused NotObject"
not_object = refl

full : watch_text (Err watches.Full) ≡ codes "refused Full"
full = refl

unwatched : unwatch_text true ≡ codes "unwatched yes"
unwatched = refl

not_unwatched : unwatch_text false ≡ codes "unwatched no"
not_unwatched = refl

none_gone : gone_text [] ≡ codes "gone none"
none_gone = refl

two_gone : gone_text (0 ∷ 12 ∷ []) ≡ codes "gone 0 12"
unfolding digits
two_gone = refl
