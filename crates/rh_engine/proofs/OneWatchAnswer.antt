-- The text of an answer to a line of watches tells the answer: it can be read back.
use Rattle.std.specs.Prelude.{◌≡◌, ℕ, Bool, true, false, ◌==◌, if◌then◌else◌, List, [], ◌∷◌, slice_index_or, Result, Ok, Err}
use Rattle.std.specs.List.{flat_map}
use Rattle.std.proofs.Common.{refl, sym, ap, ◌∙◌}
use Rattle.rh_core.specs.declared.errors.WatchError.{WatchError}
use Rattle.rh_core.specs.declared.errors.WatchError.TheVariants as watches
use Rattle.rh_syntax.specs.lemmas.TextNumbers.{EndsNumber, numbers_in, numbers_in-decimal, numbers_in-one}
use Rattle.rh_engine.specs.declared.engine.TicketsRefusal.{TicketsRefusal}
use Rattle.rh_engine.specs.declared.engine.TicketsRefusal.TheVariants as tickets_refusals
use Rattle.rh_engine.specs.WatchAnswers.{tickets_text, watch_text, unwatch_text, next_ticket, gone_text, IsToldTickets, IsToldWatch, IsToldGone}

-- the byte at a position of a text, and a number by its position among several
abbrev byte : List ℕ → ℕ → ℕ
byte text i = slice_index_or text i 0

abbrev number : List ℕ → ℕ → ℕ
number numbers i = slice_index_or numbers i 0

-- tickets

abbrev tickets_told : List ℕ → Result ℕ TicketsRefusal
tickets_told text =
    if byte text 0 == 116 then Ok (number (numbers_in text) 0)
    else if byte text 8 == 84 then Err tickets_refusals.TooMany
    else Err (tickets_refusals.Fewer (number (numbers_in text) 0))

tickets_told-text : (answer : Result ℕ TicketsRefusal) → IsToldTickets answer → tickets_told (tickets_text answer) ≡ answer
tickets_told-text (Ok tickets) told = ap (λ ns. Ok (number ns 0)) (numbers_in-one tickets told)
tickets_told-text (Err tickets_refusals.TooMany) told = refl
tickets_told-text (Err (tickets_refusals.Fewer now)) told = ap (λ ns. Err (tickets_refusals.Fewer (number ns 0))) (numbers_in-one now told)

pub tickets_text-injective : (a b : Result ℕ TicketsRefusal) → IsToldTickets a → IsToldTickets b → tickets_text a ≡ tickets_text b → a ≡ b
tickets_text-injective a b one other same = sym (tickets_told-text a one) ∙ ap tickets_told same ∙ tickets_told-text b other

-- watch

abbrev watch_told : List ℕ → Result ℕ WatchError
watch_told text =
    if byte text 0 == 116 then Ok (number (numbers_in text) 0)
    else if byte text 8 == 70 then Err watches.Full
    else if byte text 10 == 82 then Err watches.NoRoot
    else if byte text 11 == 89 then Err watches.NotYours
    else Err watches.NotObject

watch_told-text : (answer : Result ℕ WatchError) → IsToldWatch answer → watch_told (watch_text answer) ≡ answer
watch_told-text (Ok ticket) told = ap (λ ns. Ok (number ns 0)) (numbers_in-one ticket told)
watch_told-text (Err watches.NoRoot) told = refl
watch_told-text (Err watches.NotYours) told = refl
watch_told-text (Err watches.NotObject) told = refl
watch_told-text (Err watches.Full) told = refl

pub watch_text-injective : (a b : Result ℕ WatchError) → IsToldWatch a → IsToldWatch b → watch_text a ≡ watch_text b → a ≡ b
watch_text-injective a b one other same = sym (watch_told-text a one) ∙ ap watch_told same ∙ watch_told-text b other

-- unwatch

abbrev unwatch_told : List ℕ → Bool
unwatch_told text = byte text 10 == 121

unwatch_told-text : (watched : Bool) → unwatch_told (unwatch_text watched) ≡ watched
unwatch_told-text true = refl
unwatch_told-text false = refl

pub unwatch_text-injective : (a b : Bool) → unwatch_text a ≡ unwatch_text b → a ≡ b
unwatch_text-injective a b same = sym (unwatch_told-text a) ∙ ap unwatch_told same ∙ unwatch_told-text b

-- gone

tickets_end : (tickets : List ℕ) → EndsNumber (flat_map next_ticket tickets)
tickets_end [] = tt
tickets_end (ticket ∷ tickets) = refl

numbers_in-tickets : (tickets : List ℕ) → IsToldGone tickets → numbers_in (flat_map next_ticket tickets) ≡ tickets
numbers_in-tickets [] told = refl
numbers_in-tickets (ticket ∷ tickets) told =
    numbers_in-decimal ticket (flat_map next_ticket tickets) told.0 (tickets_end tickets) ∙ ap (λ ns. ticket ∷ ns) (numbers_in-tickets tickets told.1)

gone_told-text : (tickets : List ℕ) → IsToldGone tickets → numbers_in (gone_text tickets) ≡ tickets
gone_told-text [] told = refl
gone_told-text (ticket ∷ tickets) told = numbers_in-tickets (ticket ∷ tickets) told

pub gone_text-injective : (a b : List ℕ) → IsToldGone a → IsToldGone b → gone_text a ≡ gone_text b → a ≡ b
gone_text-injective a b one other same = sym (gone_told-text a one) ∙ ap numbers_in same ∙ gone_told-text b other
