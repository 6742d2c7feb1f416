-- A text that passes the limit has the first fault of each longer text.
use Rattle.std.proofs.Common.{◌≡◌, ℕ, zero, suc, ◌+◌, ◌<◌, ◌≤◌, Bool, true, false, cond, eqb, ltb, not, List, [], ◌∷◌, ◌++◌, length, Option, Some, None, Result, Ok, Err, refl, sym, ap, ◌∙◌, arith}
use Rattle.std.specs.Option.{option_map}
use Rattle.std.proofs.lemmas.Bool.{ltb-false, lt-ltb}
use Rattle.std.proofs.lemmas.List.{append-nil, length-append}
use Rattle.rh_text.specs.Parts.{cut_at}
use Rattle.rh_text.specs.RawLine.{RawLine, lines_of, raw_text}
use Rattle.rh_text.specs.Steps.{◌>>=◌, with_fault}
use Rattle.rh_text.specs.lemmas.Cuts.{after_prefix, cut_means, lines_of-cut, lines_from as lines_by}
use Rattle.rh_dump.specs.texts.Line.{DumpLine, due_after}
use Rattle.rh_dump.specs.texts.Reading.{line_due, line_or_kind, fault_at, lines_from, graph_of, graph_within}
use Rattle.rh_dump.specs.declared.reading.due.Due.{Due}
use Rattle.rh_dump.specs.declared.reading.due.Due.TheVariants as dues
use Rattle.rh_dump.specs.declared.reading.fault.DumpKind.{DumpKind}
use Rattle.rh_dump.specs.declared.reading.fault.DumpKind.TheVariants.{Long, End}
use Rattle.rh_dump.specs.declared.reading.fault.DumpFault.{DumpFault}

-- ---- the first line of a longer text

abbrev with_more : List ℕ → Option (List ℕ × List ℕ) → Option (List ℕ × List ℕ)
with_more more cut = option_map (λ x. (x.0, x.1 ++ more)) cut

abbrev onto_cut : ℕ → Option (List ℕ × List ℕ) → Option (List ℕ × List ℕ)
onto_cut b cut = option_map (λ x. (b ∷ x.0, x.1)) cut

more_step : (b : ℕ) (bs more l r : List ℕ) (here : Bool) (cut longer : Option (List ℕ × List ℕ)) → ((l r : List ℕ) → cut ≡ Some (l, r) → longer ≡ Some (l, r ++ more))
    → cond here (Some ([], bs)) (onto_cut b cut) ≡ Some (l, r) → cond here (Some ([], bs ++ more)) (onto_cut b longer) ≡ Some (l, r ++ more)
more_step b bs more l r true cut longer h e = ap (with_more more) e
more_step b bs more l r false None longer h e = absurd cc
more_step b bs more l r false (Some x) longer h e = ap (onto_cut b) (h x.0 x.1 refl) ∙ ap (with_more more) e

-- a line that is ended is the same in a longer text
cut_in_longer : (bs more l r : List ℕ) → cut_at 10 bs ≡ Some (l, r) → cut_at 10 (bs ++ more) ≡ Some (l, r ++ more)
cut_in_longer [] more l r e = absurd cc
cut_in_longer (b ∷ bs) more l r e = more_step b bs more l r (eqb b 10) (cut_at 10 bs) (cut_at 10 (bs ++ more)) (cut_in_longer bs more) e

none_step : (b : ℕ) (bs more : List ℕ) (here : Bool) (cut longer : Option (List ℕ × List ℕ)) → (cut ≡ None → longer ≡ after_prefix bs (cut_at 10 more))
    → cond here (Some ([], bs)) (onto_cut b cut) ≡ None → cond here (Some ([], bs ++ more)) (onto_cut b longer) ≡ onto_cut b (after_prefix bs (cut_at 10 more))
none_step b bs more true cut longer h e = absurd cc
none_step b bs more false None longer h e = ap (onto_cut b) (h refl)
none_step b bs more false (Some x) longer h e = absurd cc

onto_after : (b : ℕ) (bs : List ℕ) (cut : Option (List ℕ × List ℕ)) → onto_cut b (after_prefix bs cut) ≡ after_prefix (b ∷ bs) cut
onto_after b bs None = refl
onto_after b bs (Some x) = refl

after_none : (cut : Option (List ℕ × List ℕ)) → cut ≡ after_prefix [] cut
after_none None = refl
after_none (Some x) = refl

-- a line that isn't ended goes on in a longer text
cut_goes_on : (bs more : List ℕ) → cut_at 10 bs ≡ None → cut_at 10 (bs ++ more) ≡ after_prefix bs (cut_at 10 more)
cut_goes_on [] more e = after_none (cut_at 10 more)
cut_goes_on (b ∷ bs) more e = none_step b bs more (eqb b 10) (cut_at 10 bs) (cut_at 10 (bs ++ more)) (cut_goes_on bs more) e ∙ onto_after b bs (cut_at 10 more)

-- ---- a line that passes the limit

long_by : (t : Bool) (rest : Result DumpLine DumpKind) (number : ℕ) (f : DumpLine → Result (List DumpLine) DumpFault) → t ≡ true → (with_fault (fault_at number) (cond t (Err Long) rest) >>= f) ≡ Err (fault_at number Long)
long_by true rest number f is = refl
long_by false rest number f is = absurd cc

long_line : (limit number size : ℕ) (due : Due) (raw : RawLine) (raws : List RawLine) → limit < size + length (raw_text raw) → lines_from limit due number size (raw ∷ raws) ≡ Err (fault_at number Long)
unfolding lines_from line_or_kind
long_line limit number size due raw raws h =
    long_by (ltb limit (size + length (raw_text raw))) (cond (not raw.ended) (Err End) (line_due due raw.bytes)) number (λ line. lines_from limit (due_after due line) (number + 1) (size + length (raw_text raw)) raws >>= λ lines. Ok (line ∷ lines)) (lt-ltb limit (size + length (raw_text raw)) h)

last_long : (limit number size : ℕ) (due : Due) (text more : List ℕ) (cut : Option (List ℕ × List ℕ)) → limit < size + length text → lines_from limit due number size (lines_by (after_prefix text cut) (text ++ more)) ≡ Err (fault_at number Long)
last_long limit number size due text more None h = long_line limit number size due (record { bytes = text ++ more; ended = false }) [] (omega (arith, h, length-append text more))
last_long limit number size due text more (Some x) h =
    long_line limit number size due (record { bytes = text ++ x.0; ended = true }) (lines_of x.1) (omega (arith, h, length-append (text ++ x.0) (10 ∷ []), length-append text x.0))

-- ---- lines one after the other

within_by : (t : Bool) (rest : Result DumpLine DumpKind) (line : DumpLine) → cond t (Err Long) rest ≡ Ok line → t ≡ false
within_by true rest line e = absurd cc
within_by false rest line e = refl

line_within : (limit size : ℕ) (due : Due) (raw : RawLine) (line : DumpLine) → line_or_kind limit due size raw ≡ Ok line → size + length (raw_text raw) ≤ limit
unfolding line_or_kind
line_within limit size due raw line e =
    ltb-false limit (size + length (raw_text raw)) (within_by (ltb limit (size + length (raw_text raw))) (cond (not raw.ended) (Err End) (line_due due raw.bytes)) line e)

same_after : (number : ℕ) (read : Result DumpLine DumpKind) (f g : DumpLine → Result (List DumpLine) DumpFault) → ((line : DumpLine) → read ≡ Ok line → f line ≡ g line) → (with_fault (fault_at number) read >>= f) ≡ (with_fault (fault_at number) read >>= g)
same_after number (Ok line) f g h = h line refl
same_after number (Err kind) f g h = refl

abbrev onto : DumpLine → Result (List DumpLine) DumpFault → Result (List DumpLine) DumpFault
onto line read = read >>= λ lines. Ok (line ∷ lines)

abbrev Same : ℕ → List ℕ → List ℕ → Type 0
Same limit text longer = (due : Due) (number size : ℕ) → size ≤ limit → limit < size + length text → lines_from limit due number size (lines_of longer) ≡ lines_from limit due number size (lines_of text)

same_line : (limit : ℕ) (l r more : List ℕ) → Same limit r (r ++ more) → (due : Due) (number size : ℕ) → size ≤ limit → limit < size + (length l + suc (length r))
    → lines_from limit due number size (record { bytes = l; ended = true } ∷ lines_of (r ++ more)) ≡ lines_from limit due number size (record { bytes = l; ended = true } ∷ lines_of r)
unfolding lines_from
same_line limit l r more others due number size few past =
    let raw : RawLine = record { bytes = l; ended = true } in
    let end = size + length (raw_text raw) in
    same_after number (line_or_kind limit due size raw)
    (λ line. onto line (lines_from limit (due_after due line) (number + 1) end (lines_of (r ++ more))))
    (λ line. onto line (lines_from limit (due_after due line) (number + 1) end (lines_of r)))
    (λ line e. ap (onto line) (others (due_after due line) (number + 1) end (line_within limit size due raw line e) (omega (arith, past, length-append l (10 ∷ [])))))

by_cut : (limit : ℕ) (b : ℕ) (bs more : List ℕ) (cut : Option (List ℕ × List ℕ)) → cut_at 10 (b ∷ bs) ≡ cut → ((l r : List ℕ) → cut_at 10 (b ∷ bs) ≡ Some (l, r) → Same limit r (r ++ more)) → Same limit (b ∷ bs) (b ∷ (bs ++ more))
by_cut limit b bs more None is others = λ due number size few past.
    let text = b ∷ bs in
    let short : lines_of text ≡ lines_by (after_prefix text None) (text ++ []) = lines_of-cut b bs ∙ ap (λ c. lines_by c text) is ∙ ap (λ (t : List ℕ). lines_by None t) (sym (append-nil text)) in
    let long : lines_of (text ++ more) ≡ lines_by (after_prefix text (cut_at 10 more)) (text ++ more) = lines_of-cut b (bs ++ more) ∙ ap (λ c. lines_by c (text ++ more)) (cut_goes_on text more is) in
    ap (lines_from limit due number size) long ∙ last_long limit number size due text more (cut_at 10 more) past
    ∙ sym (ap (lines_from limit due number size) short ∙ last_long limit number size due text [] None past)
by_cut limit b bs more (Some (l, r)) is others = λ due number size few past.
    let text = b ∷ bs in
    let short : lines_of text ≡ record { bytes = l; ended = true } ∷ lines_of r = lines_of-cut b bs ∙ ap (λ c. lines_by c text) is in
    let long : lines_of (text ++ more) ≡ record { bytes = l; ended = true } ∷ lines_of (r ++ more) = lines_of-cut b (bs ++ more) ∙ ap (λ c. lines_by c (text ++ more)) (cut_in_longer text more l r is) in
    let count : length text ≡ length l + suc (length r) = ap length (cut_means 10 text l r is) ∙ length-append l (10 ∷ r) in
    ap (lines_from limit due number size) long ∙ same_line limit l r more (others l r is) due number size few (omega (arith, past, count))
    ∙ sym (ap (lines_from limit due number size) short)

same_within : (limit n : ℕ) (text more : List ℕ) → length text ≤ n → Same limit text (text ++ more)
same_within limit n [] more few = λ due number size small past. absurd (omega (arith, small, past))
same_within limit zero (b ∷ bs) more few = absurd (omega (arith, few))
same_within limit (suc n) (b ∷ bs) more few =
    by_cut limit b bs more (cut_at 10 (b ∷ bs)) refl (λ l r is. same_within limit n r more (omega (arith, few, ap length (cut_means 10 (b ∷ bs) l r is), length-append l (10 ∷ r))))

pub graph_within-longer : (limit : ℕ) (text more : List ℕ) → limit < length text → graph_within limit (text ++ more) ≡ graph_within limit text
unfolding graph_within
graph_within-longer limit text more past =
    ap (λ (ls : Result (List DumpLine) DumpFault). ls >>= λ lines. Ok (graph_of lines)) (same_within limit (length text) text more (omega arith) dues.Header 1 0 (omega arith) (omega (arith, past)))
