-- The text of an answer to a line of a cycle tells the answer: it can be read back.
use Rattle.std.specs.Prelude.{◌≡◌, ℕ, ◌==◌, if◌then◌else◌, List, [], ◌∷◌, slice_index_or, Result, Ok, Err, codes}
use Rattle.std.proofs.Common.{refl, sym, ap, ◌∙◌}
use Rattle.rh_core.specs.declared.outcomes.Flipped.{Flipped}
use Rattle.rh_core.specs.declared.outcomes.Given.{Given}
use Rattle.rh_core.specs.declared.outcomes.Shaded.{Shaded}
use Rattle.rh_core.specs.declared.outcomes.Shaded.TheVariants as shades
use Rattle.rh_core.specs.declared.errors.BeginError.{BeginError}
use Rattle.rh_core.specs.declared.errors.BeginError.TheVariants as begins
use Rattle.rh_core.specs.declared.errors.DealError.TheVariants as deals
use Rattle.rh_core.specs.declared.errors.FlipError.{FlipError}
use Rattle.rh_core.specs.declared.errors.FlipError.TheVariants as flips
use Rattle.rh_core.specs.declared.errors.GiveError.{GiveError}
use Rattle.rh_core.specs.declared.errors.GiveError.TheVariants as gives
use Rattle.rh_core.specs.declared.errors.IdleError.{IdleError}
use Rattle.rh_core.specs.declared.errors.IdleError.TheVariants as idles
use Rattle.rh_core.specs.declared.errors.NoCycle.{NoCycle}
use Rattle.rh_core.specs.declared.errors.RecallError.{RecallError}
use Rattle.rh_core.specs.declared.errors.RecallError.TheVariants as recalls
use Rattle.rh_core.specs.declared.errors.ShadeError.{ShadeError}
use Rattle.rh_core.specs.declared.errors.ShadeError.TheVariants as shade_errors
use Rattle.rh_syntax.specs.lemmas.TextNumbers.{numbers_in, numbers_in-one, numbers_in-two, numbers_in-two_then}
use Rattle.rh_engine.specs.declared.engine.TrayDeal.{TrayDeal}
use Rattle.rh_engine.specs.declared.engine.DealRefusal.{DealRefusal}
use Rattle.rh_engine.specs.declared.engine.DealRefusal.TheVariants as deal_refusals
use Rattle.rh_engine.specs.declared.engine.GiveRefusal.{GiveRefusal}
use Rattle.rh_engine.specs.declared.engine.GiveRefusal.TheVariants as give_refusals
use Rattle.rh_engine.specs.declared.engine.ResizeRefusal.{ResizeRefusal}
use Rattle.rh_engine.specs.declared.engine.ResizeRefusal.TheVariants as resize_refusals
use Rattle.rh_engine.specs.declared.trays.JoinRefusal.{JoinRefusal}
use Rattle.rh_engine.specs.declared.trays.JoinRefusal.TheVariants as join_refusals
use Rattle.rh_engine.specs.CycleAnswers.{two_numbers, begin_text, shade_text, deal_text, give_error_text, given_text, give_text, join_text, flip_text, recall_text, abandon_text, idle_text, resize_text}
use Rattle.rh_engine.specs.ToldAnswers.{IsToldBegin, IsToldShade, IsToldDeal, IsToldGiveError, IsToldGiven, IsToldGive, IsToldJoin, IsToldFlip, IsToldRecall, IsToldAbandon, IsToldIdle, IsToldResize}

-- the byte at a position of a text, and a number by its position among several
abbrev byte : List ℕ → ℕ → ℕ
byte text i = slice_index_or text i 0

abbrev number : List ℕ → ℕ → ℕ
number numbers i = slice_index_or numbers i 0

-- begin

abbrev begin_told : List ℕ → Result ℕ BeginError
begin_told text =
    if byte text 0 == 99 then Ok (number (numbers_in text) 0)
    else if byte text 8 == 67 then Err begins.CycleOn
    else Err begins.EpochsSpent

begin_told-text : (answer : Result ℕ BeginError) → IsToldBegin answer → begin_told (begin_text answer) ≡ answer
begin_told-text (Ok epoch) told = ap (λ ns. Ok (number ns 0)) (numbers_in-one epoch told)
begin_told-text (Err begins.CycleOn) told = refl
begin_told-text (Err begins.EpochsSpent) told = refl

pub begin_text-injective : (a b : Result ℕ BeginError) → IsToldBegin a → IsToldBegin b → begin_text a ≡ begin_text b → a ≡ b
begin_text-injective a b one other same = sym (begin_told-text a one) ∙ ap begin_told same ∙ begin_told-text b other

-- shade

abbrev shade_told : List ℕ → Result Shaded ShadeError
shade_told text =
    if byte text 0 == 112 then Ok shades.Placed
    else if byte text 0 == 97 then Ok shades.Already
    else if byte text 0 == 110 then Ok shades.NoReference
    else if byte text 10 == 67 then Err shade_errors.NoCycle
    else if byte text 10 == 82 then Err shade_errors.NoRoot
    else Err (shade_errors.CreditShort (number (numbers_in text) 0) (number (numbers_in text) 1))

shade_told-text : (answer : Result Shaded ShadeError) → IsToldShade answer → shade_told (shade_text answer) ≡ answer
shade_told-text (Ok shades.Placed) told = refl
shade_told-text (Ok shades.Already) told = refl
shade_told-text (Ok shades.NoReference) told = refl
shade_told-text (Err shade_errors.NoCycle) told = refl
shade_told-text (Err shade_errors.NoRoot) told = refl
shade_told-text (Err (shade_errors.CreditShort need free)) told =
    ap (λ ns. Err (shade_errors.CreditShort (number ns 0) (number ns 1))) (numbers_in-two need free (codes " free ") told.0 told.1 (λ y. refl) refl)

pub shade_text-injective : (a b : Result Shaded ShadeError) → IsToldShade a → IsToldShade b → shade_text a ≡ shade_text b → a ≡ b
shade_text-injective a b one other same = sym (shade_told-text a one) ∙ ap shade_told same ∙ shade_told-text b other

-- deal

abbrev deal_numbered : List ℕ → TrayDeal
deal_numbered ns = record { items = number ns 0; passed = number ns 1 }

abbrev deal_told : List ℕ → Result TrayDeal DealRefusal
deal_told text =
    if byte text 0 == 100 then Ok (deal_numbered (numbers_in text))
    else if byte text 8 == 84 then Err deal_refusals.TooManyTrays
    else if byte text 8 == 79 then Err deal_refusals.OtherEpoch
    else if byte text 10 == 67 then Err (deal_refusals.Heap deals.NoCycle)
    else if byte text 10 == 116 then Err (deal_refusals.Heap deals.NothingToDeal)
    else Err (deal_refusals.Heap (deals.CreditShort (number (numbers_in text) 0) (number (numbers_in text) 1)))

deal_told-text : (answer : Result TrayDeal DealRefusal) → IsToldDeal answer → deal_told (deal_text answer) ≡ answer
deal_told-text (Ok done) told = ap (λ ns. Ok (deal_numbered ns)) (numbers_in-two done.items done.passed (codes " passed ") told.0 told.1 (λ y. refl) refl)
deal_told-text (Err deal_refusals.TooManyTrays) told = refl
deal_told-text (Err deal_refusals.OtherEpoch) told = refl
deal_told-text (Err (deal_refusals.Heap deals.NoCycle)) told = refl
deal_told-text (Err (deal_refusals.Heap deals.NothingToDeal)) told = refl
deal_told-text (Err (deal_refusals.Heap (deals.CreditShort need free))) told =
    ap (λ ns. Err (deal_refusals.Heap (deals.CreditShort (number ns 0) (number ns 1)))) (numbers_in-two need free (codes " free ") told.0 told.1 (λ y. refl) refl)

pub deal_text-injective : (a b : Result TrayDeal DealRefusal) → IsToldDeal a → IsToldDeal b → deal_text a ≡ deal_text b → a ≡ b
deal_text-injective a b one other same = sym (deal_told-text a one) ∙ ap deal_told same ∙ deal_told-text b other

-- give

abbrev given_numbered : List ℕ → Given
given_numbered ns = record { joined = number ns 0; repeated = number ns 1; stale = number ns 2; placed = number ns 3 }

-- why the heap didn't take a replica in, by two letters of the refusal's name and its numbers
abbrev give_error_numbered : ℕ → ℕ → ℕ → List ℕ → GiveRefusal
give_error_numbered first second third ns =
    if first == 78 then (if third == 84 then give_refusals.NoTray else give_refusals.Heap gives.NoCycle)
    else if first == 84 then give_refusals.Heap gives.TooMany
    else if first == 67 then give_refusals.Heap (gives.CreditShort (number ns 0) (number ns 1))
    else if first == 83
    then (if third == 97 then give_refusals.Heap (gives.StaleEpoch (number ns 0) (number ns 1)) else give_refusals.Heap (gives.Stranger (number ns 0) (number ns 1)))
    else if second == 114 then give_refusals.Heap (gives.FromFuture (number ns 0) (number ns 1))
    else give_refusals.Heap (gives.Forged (number ns 0) (number ns 1))

abbrev give_told : List ℕ → Result Given GiveRefusal
give_told text =
    if byte text 0 == 103 then Ok (given_numbered (numbers_in text))
    else Err (give_error_numbered (byte text 8) (byte text 9) (byte text 10) (numbers_in text))

numbers_in-given : (g : Given) → IsToldGiven g → numbers_in (given_text g) ≡ g.joined ∷ g.repeated ∷ g.stale ∷ g.placed ∷ []
numbers_in-given g told =
    numbers_in-two_then g.joined g.repeated (codes " repeated ") told.0 told.1 (λ y. refl) (two_numbers (codes " stale ") g.stale (codes " placed ") g.placed) refl refl
    ∙ ap (λ ns. g.joined ∷ g.repeated ∷ ns) (numbers_in-two g.stale g.placed (codes " placed ") told.2 told.3 (λ y. refl) refl)

give_error_told-text : (why : GiveError) → IsToldGiveError why → give_told (give_error_text why) ≡ Err (give_refusals.Heap why)
give_error_told-text gives.NoCycle told = refl
give_error_told-text (gives.StaleEpoch is was) told =
    ap (λ ns. Err (give_refusals.Heap (gives.StaleEpoch (number ns 0) (number ns 1)))) (numbers_in-two is was (codes " was ") told.0 told.1 (λ y. refl) refl)
give_error_told-text gives.TooMany told = refl
give_error_told-text (gives.CreditShort need free) told =
    ap (λ ns. Err (give_refusals.Heap (gives.CreditShort (number ns 0) (number ns 1)))) (numbers_in-two need free (codes " free ") told.0 told.1 (λ y. refl) refl)
give_error_told-text (gives.Stranger a f) told =
    ap (λ ns. Err (give_refusals.Heap (gives.Stranger (number ns 0) (number ns 1)))) (numbers_in-two a f (codes " field ") told.0 told.1 (λ y. refl) refl)
give_error_told-text (gives.FromFuture a f) told =
    ap (λ ns. Err (give_refusals.Heap (gives.FromFuture (number ns 0) (number ns 1)))) (numbers_in-two a f (codes " field ") told.0 told.1 (λ y. refl) refl)
give_error_told-text (gives.Forged a f) told =
    ap (λ ns. Err (give_refusals.Heap (gives.Forged (number ns 0) (number ns 1)))) (numbers_in-two a f (codes " field ") told.0 told.1 (λ y. refl) refl)

give_told-text : (answer : Result Given GiveRefusal) → IsToldGive answer → give_told (give_text answer) ≡ answer
give_told-text (Ok given) told = ap (λ ns. Ok (given_numbered ns)) (numbers_in-given given told)
give_told-text (Err give_refusals.NoTray) told = refl
give_told-text (Err (give_refusals.Heap why)) told = give_error_told-text why told

pub give_text-injective : (a b : Result Given GiveRefusal) → IsToldGive a → IsToldGive b → give_text a ≡ give_text b → a ≡ b
give_text-injective a b one other same = sym (give_told-text a one) ∙ ap give_told same ∙ give_told-text b other

-- join

abbrev join_told : List ℕ → Result ℕ JoinRefusal
join_told text =
    if byte text 0 == 106 then Ok (number (numbers_in text) 0)
    else if byte text 8 == 78 then Err join_refusals.NoTray
    else Err join_refusals.TooManyTrays

join_told-text : (answer : Result ℕ JoinRefusal) → IsToldJoin answer → join_told (join_text answer) ≡ answer
join_told-text (Ok entries) told = ap (λ ns. Ok (number ns 0)) (numbers_in-one entries told)
join_told-text (Err join_refusals.NoTray) told = refl
join_told-text (Err join_refusals.TooManyTrays) told = refl

pub join_text-injective : (a b : Result ℕ JoinRefusal) → IsToldJoin a → IsToldJoin b → join_text a ≡ join_text b → a ≡ b
join_text-injective a b one other same = sym (join_told-text a one) ∙ ap join_told same ∙ join_told-text b other

-- flip

abbrev flip_numbered : List ℕ → Flipped
flip_numbered ns = record { roots = number ns 0; live_words = number ns 1 }

abbrev flip_told : List ℕ → Result Flipped FlipError
flip_told text =
    if byte text 0 == 102 then Ok (flip_numbered (numbers_in text))
    else if byte text 8 == 78 then Err flips.NoCycle
    else if byte text 8 == 82 then Err (flips.RootUnplaced (record { owner = number (numbers_in text) 0; slot = number (numbers_in text) 1 }))
    else if byte text 8 == 77 then Err (flips.Missing (number (numbers_in text) 0))
    else Err flips.EpochsSpent

flip_told-text : (answer : Result Flipped FlipError) → IsToldFlip answer → flip_told (flip_text answer) ≡ answer
flip_told-text (Ok f) told = ap (λ ns. Ok (flip_numbered ns)) (numbers_in-two f.roots f.live_words (codes " live ") told.0 told.1 (λ y. refl) refl)
flip_told-text (Err flips.NoCycle) told = refl
flip_told-text (Err (flips.RootUnplaced root)) told =
    ap (λ ns. Err (flips.RootUnplaced (record { owner = number ns 0; slot = number ns 1 }))) (numbers_in-two root.owner root.slot (46 ∷ []) told.0 told.1 (λ y. refl) refl)
flip_told-text (Err (flips.Missing count)) told = ap (λ ns. Err (flips.Missing (number ns 0))) (numbers_in-one count told)
flip_told-text (Err flips.EpochsSpent) told = refl

pub flip_text-injective : (a b : Result Flipped FlipError) → IsToldFlip a → IsToldFlip b → flip_text a ≡ flip_text b → a ≡ b
flip_text-injective a b one other same = sym (flip_told-text a one) ∙ ap flip_told same ∙ flip_told-text b other

-- recall

abbrev recall_told : List ℕ → Result ℕ RecallError
recall_told text =
    if byte text 0 == 99 then Ok (number (numbers_in text) 0)
    else if byte text 8 == 78 then Err recalls.NoCycle
    else Err recalls.EpochsSpent

recall_told-text : (answer : Result ℕ RecallError) → IsToldRecall answer → recall_told (recall_text answer) ≡ answer
recall_told-text (Ok epoch) told = ap (λ ns. Ok (number ns 0)) (numbers_in-one epoch told)
recall_told-text (Err recalls.NoCycle) told = refl
recall_told-text (Err recalls.EpochsSpent) told = refl

pub recall_text-injective : (a b : Result ℕ RecallError) → IsToldRecall a → IsToldRecall b → recall_text a ≡ recall_text b → a ≡ b
recall_text-injective a b one other same = sym (recall_told-text a one) ∙ ap recall_told same ∙ recall_told-text b other

-- abandon

abbrev abandon_told : List ℕ → Result ℕ NoCycle
abandon_told text =
    if byte text 0 == 97 then Ok (number (numbers_in text) 0) else Err (record {})

abandon_told-text : (answer : Result ℕ NoCycle) → IsToldAbandon answer → abandon_told (abandon_text answer) ≡ answer
abandon_told-text (Ok placed) told = ap (λ ns. Ok (number ns 0)) (numbers_in-one placed told)
abandon_told-text (Err why) told = refl

pub abandon_text-injective : (a b : Result ℕ NoCycle) → IsToldAbandon a → IsToldAbandon b → abandon_text a ≡ abandon_text b → a ≡ b
abandon_text-injective a b one other same = sym (abandon_told-text a one) ∙ ap abandon_told same ∙ abandon_told-text b other

-- idle

abbrev idle_told : List ℕ → Result ℕ IdleError
idle_told text =
    if byte text 0 == 105 then Ok (number (numbers_in text) 0)
    else if byte text 8 == 78 then Err idles.NoCycle
    else Err idles.IdleSpent

idle_told-text : (answer : Result ℕ IdleError) → IsToldIdle answer → idle_told (idle_text answer) ≡ answer
idle_told-text (Ok words) told = ap (λ ns. Ok (number ns 0)) (numbers_in-one words told)
idle_told-text (Err idles.NoCycle) told = refl
idle_told-text (Err idles.IdleSpent) told = refl

pub idle_text-injective : (a b : Result ℕ IdleError) → IsToldIdle a → IsToldIdle b → idle_text a ≡ idle_text b → a ≡ b
idle_text-injective a b one other same = sym (idle_told-text a one) ∙ ap idle_told same ∙ idle_told-text b other

-- resize

abbrev resize_told : List ℕ → Result ℕ ResizeRefusal
resize_told text =
    if byte text 0 == 119 then Ok (number (numbers_in text) 0)
    else if byte text 8 == 66 then Err resize_refusals.BadSpace
    else Err (resize_refusals.Used (number (numbers_in text) 0))

resize_told-text : (answer : Result ℕ ResizeRefusal) → IsToldResize answer → resize_told (resize_text answer) ≡ answer
resize_told-text (Ok words) told = ap (λ ns. Ok (number ns 0)) (numbers_in-one words told)
resize_told-text (Err resize_refusals.BadSpace) told = refl
resize_told-text (Err (resize_refusals.Used used)) told = ap (λ ns. Err (resize_refusals.Used (number ns 0))) (numbers_in-one used told)

pub resize_text-injective : (a b : Result ℕ ResizeRefusal) → IsToldResize a → IsToldResize b → resize_text a ≡ resize_text b → a ≡ b
resize_text-injective a b one other same = sym (resize_told-text a one) ∙ ap resize_told same ∙ resize_told-text b other
