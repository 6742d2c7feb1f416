-- The raw lines of a text make the text, and are cut at its line ends alone.
use Rattle.std.proofs.Common.{◌≡◌, ℕ, zero, suc, ◌+◌, ◌<◌, Bool, true, false, cond, eqb, List, [], ◌∷◌, ◌++◌, length, Some, refl, sym, ap, ◌∙◌, inl, inr, arith}
use Rattle.std.specs.Prelude.{◌⊎◌, All, Contains, slice_get, slice_index_or}
use Rattle.std.specs.List.{flat_map}
use Rattle.std.proofs.lemmas.Bool.{eqb-true, eq-eqb, false≢true, true≢false}
use Rattle.std.proofs.lemmas.List.Elements.{All-nil, All-cons, All-head, All-tail, All-contains}
use Rattle.std.proofs.lemmas.Option.{same_Some}
use Rattle.rh_text.specs.RawLine.{RawLine, lines_of, onto_line, raw_text}

ended_onto : (ended : Bool) (b : ℕ) (bytes rest : List ℕ) → cond ended ((b ∷ bytes) ++ 10 ∷ []) (b ∷ bytes) ++ rest ≡ b ∷ (cond ended (bytes ++ 10 ∷ []) bytes ++ rest)
ended_onto true b bytes rest = refl
ended_onto false b bytes rest = refl

onto_line_text : (b : ℕ) (lines : List RawLine) → flat_map raw_text (onto_line b lines) ≡ b ∷ flat_map raw_text lines
onto_line_text b [] = refl
onto_line_text b (line ∷ lines) = ended_onto line.ended b line.bytes (flat_map raw_text lines)

lines_text_step : (b : ℕ) (bs : List ℕ) (ends : Bool) → eqb b 10 ≡ ends → flat_map raw_text (lines_of bs) ≡ bs → flat_map raw_text (cond ends (record { bytes = []; ended = true } ∷ lines_of bs) (onto_line b (lines_of bs))) ≡ b ∷ bs
lines_text_step b bs true is h = ap (λ (t : List ℕ). 10 ∷ t) h ∙ ap (λ (c : ℕ). c ∷ bs) (sym (eqb-true b 10 is))
lines_text_step b bs false is h = onto_line_text b (lines_of bs) ∙ ap (λ (t : List ℕ). b ∷ t) h

-- the raw lines of a text make the text
pub lines_text : (bs : List ℕ) → flat_map raw_text (lines_of bs) ≡ bs
lines_text [] = refl
lines_text (b ∷ bs) = lines_text_step b bs (eqb b 10) refl (lines_text bs)

-- a raw line that has no line end among its bytes, and has a byte where it isn't ended
record IsWhole (l : RawLine) : Type 0 where
  pub within : ¬ Contains l.bytes 10
  pub filled : l.ended ≡ false → 0 < length l.bytes

at_index : (c b : ℕ) (bytes : List ℕ) (k : ℕ) → k < length (b ∷ bytes) → slice_index_or (b ∷ bytes) k c ≡ c → (b ≡ c) ⊎ Contains bytes c
at_index c b bytes zero within is = inl is
at_index c b bytes (suc k) within is = inr (k, omega (arith, within), is)

pub first_or_later : (c b : ℕ) (bytes : List ℕ) → Contains (b ∷ bytes) c → (b ≡ c) ⊎ Contains bytes c
first_or_later c b bytes there = at_index c b bytes there.0 there.1 there.2

pub none_within : (c : ℕ) → ¬ Contains {X = ℕ} [] c
none_within c there = absurd (omega (arith, there.1))

pub within_onto : (c b : ℕ) (bytes : List ℕ) → eqb b c ≡ false → ¬ Contains bytes c → ¬ Contains (b ∷ bytes) c
within_onto c b bytes other none there = elim (first_or_later c b bytes there) [
  | inl same ↦ absurd (false≢true (sym other ∙ eq-eqb b c same))
  | inr later ↦ none later
]

whole_onto : (b : ℕ) (lines : List RawLine) → eqb b 10 ≡ false → All IsWhole lines → All IsWhole (onto_line b lines)
whole_onto b [] other h = All-cons IsWhole (record { bytes = b ∷ []; ended = false }) [] (record { within = within_onto 10 b [] other (none_within 10); filled = λ cut. omega arith }) (All-nil IsWhole)
whole_onto b (l ∷ ls) other h = All-cons IsWhole (record { bytes = b ∷ l.bytes; ended = l.ended }) ls (record { within = within_onto 10 b l.bytes other (All-head IsWhole l ls h).within; filled = λ cut. omega arith }) (All-tail IsWhole l ls h)

lines_whole_step : (b : ℕ) (lines : List RawLine) (ends : Bool) → eqb b 10 ≡ ends → All IsWhole lines → All IsWhole (cond ends (record { bytes = []; ended = true } ∷ lines) (onto_line b lines))
lines_whole_step b lines true is h = All-cons IsWhole (record { bytes = []; ended = true }) lines (record { within = none_within 10; filled = λ cut. absurd (true≢false cut) }) h
lines_whole_step b lines false is h = whole_onto b lines is h

lines_whole : (bs : List ℕ) → All IsWhole (lines_of bs)
lines_whole [] = All-nil IsWhole
lines_whole (b ∷ bs) = lines_whole_step b (lines_of bs) (eqb b 10) refl (lines_whole bs)

-- no raw line has a line end among its bytes
pub lines_within : (bs : List ℕ) (l : RawLine) → Contains (lines_of bs) l → ¬ Contains l.bytes 10
lines_within bs l there = (All-contains IsWhole (lines_of bs) l (lines_whole bs) there).within

-- a raw line that isn't ended has a byte
pub lines_filled : (bs : List ℕ) (l : RawLine) → Contains (lines_of bs) l → l.ended ≡ false → 0 < length l.bytes
lines_filled bs l there = (All-contains IsWhole (lines_of bs) l (lines_whole bs) there).filled

-- all lines but the last are ended
abbrev EndedBefore : List RawLine → Type 0
EndedBefore lines = (i : ℕ) (l : RawLine) → slice_get lines i ≡ Some l → i + 1 < length lines → l.ended ≡ true

ended_onto_line : (b : ℕ) (lines : List RawLine) → EndedBefore lines → EndedBefore (onto_line b lines)
ended_onto_line b [] h i l here before = absurd (omega (arith, before))
ended_onto_line b (m ∷ ls) h zero l here before = sym (ap (λ (r : RawLine). r.ended) (same_Some (record { bytes = b ∷ m.bytes; ended = m.ended }) l here)) ∙ h zero m refl before
ended_onto_line b (m ∷ ls) h (suc i) l here before = h (suc i) l here before

ended_first : (lines : List RawLine) → EndedBefore lines → EndedBefore (record { bytes = []; ended = true } ∷ lines)
ended_first lines h zero l here before = sym (ap (λ (r : RawLine). r.ended) (same_Some (record { bytes = []; ended = true }) l here))
ended_first lines h (suc i) l here before = h i l here (omega (arith, before))

lines_ended_step : (b : ℕ) (lines : List RawLine) (ends : Bool) → EndedBefore lines → EndedBefore (cond ends (record { bytes = []; ended = true } ∷ lines) (onto_line b lines))
lines_ended_step b lines true h = ended_first lines h
lines_ended_step b lines false h = ended_onto_line b lines h

-- all raw lines of a text but the last are ended
pub lines_ended : (bs : List ℕ) (i : ℕ) (l : RawLine) → slice_get (lines_of bs) i ≡ Some l → i + 1 < length (lines_of bs) → l.ended ≡ true
lines_ended [] i l here before = absurd (omega (arith, before))
lines_ended (b ∷ bs) i l here before = lines_ended_step b (lines_of bs) (eqb b 10) (lines_ended bs) i l here before
