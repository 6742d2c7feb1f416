-- Lines played one after the other, and what a listener makes of the first of them.
use Rattle.std.proofs.Common.{◌≡◌, ℕ, ◌+◌, ◌<◌, zero, suc, Bool, false, cond, List, [], ◌∷◌, ◌++◌, length, get_or, take, Option, None, Some, Result, Ok, Err, refl, sym, ap, subst, ◌∙◌, ◌⊎◌, inl, inr, append_assoc, arith}
use Rattle.std.specs.Prelude.{OnErr, OnOk, count_by}
use Rattle.std.specs.List.{AllByRecursion}
use Rattle.std.specs.Io.KnownBytes.{Appends, Keeps}
use Rattle.std.proofs.lemmas.List.{append-nil, length-take, map-append, take_more}
use Rattle.rh_text.specs.Output.{AppendsLess, AppendsPrefix}
use Rattle.rh_text.specs.lemmas.Appends.{Appends-at, Appends-less, Appends-then}
use Rattle.rh_syntax.specs.declared.request.Request.{Request}
use Rattle.rh_trace.specs.declared.stop.Stop.{Stop}
use Rattle.rh_trace.specs.declared.stop.Stop.TheVariants as stops
use Rattle.rh_trace.specs.declared.summary.Summary.{Summary}
use Rattle.rh_trace.specs.Answers.{Answered, is_answer, is_refused, is_flip, flip_of, words_of, root_words_of}
use Rattle.rh_trace.specs.Events.{is_command}
use Rattle.rh_trace.specs.Run.{summary_of, summary_with}
use Rattle.rh_trace.specs.Lines.{HasOther, IsCutIn, IsPlayed, IsStopped, LinesEnd, Runs, Seen, Shows, answers_in, kept_by, left_by, seen_of, shown, summary_in}
use Rattle.rh_trace.proofs.CountsByHead.{count_by-head}

-- ---- counts

count_by-last : (test : Answered → Bool) (xs : List Answered) (x : Answered) → count_by test xs + cond (test x) 1 0 ≡ count_by test (xs ++ x ∷ [])
count_by-last test [] x = omega (arith, count_by-head test x [])
count_by-last test (y ∷ ys) x = omega (arith, count_by-head test y ys, count_by-head test y (ys ++ x ∷ []), count_by-last test ys x)

root_words_of-last : (xs : List Answered) (x : Answered) → root_words_of xs + words_of (flip_of x) ≡ root_words_of (xs ++ x ∷ [])
root_words_of-last [] x = omega arith
root_words_of-last (y ∷ ys) x = omega (arith, root_words_of-last ys x)

sums : (a b c d e f g h : ℕ) → a ≡ e → b ≡ f → c ≡ g → d ≡ h → ◌≡◌ {A = Summary} (record { commands = a; refused = b; flips = c; root_words = d }) (record { commands = e; refused = f; flips = g; root_words = h })
sums a b c d e f g h p q r s = cc

-- one answer more is counted
summary_of-last : (xs : List Answered) (x : Answered) → summary_with (summary_of xs) x ≡ summary_of (xs ++ x ∷ [])
summary_of-last xs x =
    let all = xs ++ x ∷ [] in
    sums (count_by is_answer xs + cond (is_answer x) 1 0) (count_by is_refused xs + cond (is_refused x) 1 0) (count_by is_flip xs + cond (is_flip x) 1 0) (root_words_of xs + words_of (flip_of x))
    (count_by is_answer all) (count_by is_refused all) (count_by is_flip all) (root_words_of all)
    (count_by-last is_answer xs x) (count_by-last is_refused xs x) (count_by-last is_flip xs x) (root_words_of-last xs x)

-- ---- texts

-- the whole text is a prefix of it
pub whole_prefix : (a b : Option (List ℕ)) (text : List ℕ) → Appends a b text → AppendsPrefix a b text
whole_prefix a b text whole = (text, [], sym (append-nil text), whole)

-- a text was written, and then a prefix of another
pub prefix_after : (a b c : Option (List ℕ)) (text next : List ℕ) → Appends a b text → AppendsPrefix b c next → AppendsPrefix a c (text ++ next)
prefix_after a b c text next whole cut = (text ++ cut.0, cut.1, ap (λ (t : List ℕ). text ++ t) cut.2 ∙ sym (append_assoc text cut.0 cut.1), Appends-then a b c text cut.0 whole cut.3)

-- a prefix of a text is one of each text that it comes first of
pub prefix_more : (a b : Option (List ℕ)) (text rest : List ℕ) → AppendsPrefix a b text → AppendsPrefix a b (text ++ rest)
prefix_more a b text rest cut = (cut.0, cut.1 ++ rest, ap (λ (t : List ℕ). t ++ rest) cut.2 ∙ append_assoc cut.0 cut.1 rest, cut.3)

pub prefix_at : (a b : Option (List ℕ)) (x y : List ℕ) → x ≡ y → AppendsPrefix a b x → AppendsPrefix a b y
prefix_at a b x y is = subst (AppendsPrefix a b) is

-- what was sent of a text was shown of it
pub sent_shows : {X E : Type 0} (r : Result X E) (a b : Option (List ℕ)) (text : List ℕ) → OnOk r (Appends a b text) → OnErr r (AppendsLess a b text) → Shows text r a b
sent_shows (Ok x) a b text whole less = whole
sent_shows (Err e) a b text whole less = (less.0, less.1, less.2, less.4)

-- what was kept was written before
pub Appends-keeps : (a b c : Option (List ℕ)) (text : List ℕ) → Appends a b text → Keeps b c → Appends a c text
Appends-keeps None b c text written kept = tt
Appends-keeps (Some xs) None c text written kept = absurd written
Appends-keeps (Some xs) (Some ys) None text written kept = absurd kept
Appends-keeps (Some xs) (Some ys) (Some zs) text written kept = kept ∙ written

-- ---- lines

answers_in-last : {S : Type 0} (seen : List (Seen S)) (one : Seen S) → answers_in (seen ++ one ∷ []) ≡ answers_in seen ++ one.answered ∷ []
answers_in-last {S} seen one = map-append (λ (s : Seen S). s.answered) seen (one ∷ [])

left_by-last : {S : Type 0} (s : S) (seen : List (Seen S)) (one : Seen S) → left_by s (seen ++ one ∷ []) ≡ one.after
left_by-last s [] one = refl
left_by-last s (first ∷ seen) one = left_by-last first.after seen one

kept_by-last : {L E : Type 0} (next : L → E → L) (l : L) (seen : List E) (one : E) → kept_by next l (seen ++ one ∷ []) ≡ next (kept_by next l seen) one
kept_by-last next l [] one = refl
kept_by-last next l (first ∷ seen) one = kept_by-last next (next l first) seen one

shown-last : {L E W : Type 0} (next : L → E → L) (show : L → E → W → List ℕ) (l : L) (seen : List E) (one : E) (w : W) → shown next show l (seen ++ one ∷ []) w ≡ shown next show l seen w ++ show (kept_by next l seen) one w
shown-last next show l [] one w = append-nil (show l one w)
shown-last next show l (first ∷ seen) one w =
    ap (λ (t : List ℕ). show l first w ++ t) (shown-last next show (next l first) seen one w)
    ∙ sym (append_assoc (show l first w) (shown next show (next l first) seen w) (show (kept_by next (next l first) seen) one w))

Runs-last : {S : Type 0} (Steps : S → Request → S → Answered → Type 0) (line : ℕ) (s : S) (requests : List Request) (seen : List (Seen S)) (request : Request) (one : Seen S) → Runs Steps line s requests seen → one.line ≡ line + length requests → one.request ≡ request → Steps (left_by s seen) request one.after one.answered
    → Runs Steps line s (requests ++ request ∷ []) (seen ++ one ∷ [])
Runs-last Steps line s [] [] request one runs at is step = (omega (arith, at), is, step, tt)
Runs-last Steps line s [] (first ∷ seen) request one runs at is step = absurd runs
Runs-last Steps line s (r ∷ requests) [] request one runs at is step = absurd runs
Runs-last Steps line s (r ∷ requests) (first ∷ seen) request one runs at is step =
    (runs.0, runs.1, runs.2, Runs-last Steps (line + 1) first.after requests seen request one runs.3 (omega (arith, at)) is step)

-- a request that is no command is among them
pub HasOther-at : (requests : List Request) (i : ℕ) (request d : Request) → i < length requests → request ≡ get_or requests i d → is_command request ≡ false → HasOther requests
HasOther-at [] i request d lt is other = absurd (omega (arith, lt))
HasOther-at (r ∷ requests) zero request d lt is other = inl (ap is_command (sym is) ∙ other)
HasOther-at (r ∷ requests) (suc i) request d lt is other = inr (HasOther-at requests i request d (omega (arith, lt)) is other)

-- and so there is one, where memory was refused at that
pub refused_at : (X : Type 0) (requests : List Request) (i : ℕ) (request d : Request) → i < length requests → request ≡ get_or requests i d → X ⊎ (is_command request ≡ false) → X ⊎ HasOther requests
refused_at X requests i request d lt is (inl needs) = inl needs
refused_at X requests i request d lt is (inr other) = inr (HasOther-at requests i request d lt is other)

-- what holds of all holds of one
pub all-at : (P : Request → Type 0) (requests : List Request) (i : ℕ) (request d : Request) → i < length requests → request ≡ get_or requests i d → AllByRecursion P requests → P request
all-at P [] i request d lt is all = absurd (omega (arith, lt))
all-at P (r ∷ requests) zero request d lt is all = subst P (sym is) all.0
all-at P (r ∷ requests) (suc i) request d lt is all = all-at P requests i request d (omega (arith, lt)) is all.1

module _ {S L W : Type 0} (Steps : S → Request → S → Answered → Type 0) (next : L → Seen S → L) (show : L → Seen S → W → List ℕ) where
  -- a line that was played, and of which not all was written
  pub stopped_line : {X : Type 0} (r : Result X Stop) (line : ℕ) (s : S) (request : Request) (t : S) (l : L) (answered : Answered) (old new : W → Option (List ℕ)) → Steps s request t answered → ((w : W) → Shows (show l (seen_of line request answered t) w) r (old w) (new w)) → OnErr r (IsStopped Steps next show line s request t l old new)
  stopped_line (Ok x) line s request t l answered old new step texts = tt
  stopped_line (Err stop) line s request t l answered old new step texts = inr (answered, step, texts)

module _ {S L W : Type 0} (Steps : S → Request → S → Answered → Type 0) (total : S → Summary → Summary) (next : L → Seen S → L) (show : L → Seen S → W → List ℕ) (closing : L → Summary → W → List ℕ) (lead : W) (opening : W → List ℕ) where
  -- Some requests were played from this state, and the listener, which kept this before them, wrote of them.
  pub record Played (from : S) (begun : L) (old : W → Option (List ℕ)) (done : List Request) (now : S) (kept : L) (counted : Summary) (new : W → Option (List ℕ)) : Type 0 where
    pub seen : List (Seen S)
    pub runs : Runs Steps 2 from done seen
    pub left : now ≡ left_by from seen
    pub keeps : kept ≡ kept_by next begun seen
    pub counts : counted ≡ summary_of (answers_in seen)
    pub text : (w : W) → Appends (old w) (new w) (opening w ++ shown next show begun seen w)

  pub Played-first : (from : S) (begun kept : L) (old new : W → Option (List ℕ)) → kept ≡ begun → ((w : W) → Appends (old w) (new w) (opening w)) → Played from begun old [] from kept (record { commands = 0; refused = 0; flips = 0; root_words = 0 }) new
  Played-first from begun kept old new is opened = record {
    seen = [];
    runs = tt;
    left = refl;
    keeps = is;
    counts = refl;
    text = λ w. Appends-at (old w) (new w) (opening w) (opening w ++ []) (sym (append-nil (opening w))) (opened w);
  }

  -- it was stopped before the first line
  pub Played-none : (from : S) (begun : L) (old new : W → Option (List ℕ)) (all : List Request) → ((w : W) → AppendsPrefix (old w) (new w) (opening w)) → IsCutIn next show opening Steps begun from all old new
  Played-none from begun old new all cut = (0, [], tt, λ w. prefix_more (old w) (new w) (opening w) [] (cut w))

  module _ (from : S) (begun : L) (old : W → Option (List ℕ)) (now t : S) (kept after : L) (counted more : Summary) (mid new : W → Option (List ℕ)) (all : List Request) (i line : ℕ) (request : Request)
      (lt : i < length all) (at : line ≡ i + 2) (is : request ≡ get_or all i request) (played : Played from begun old (take i all) now kept counted mid) where
    here : take (i + 1) all ≡ take i all ++ request ∷ []
    here = take_more all i request lt ∙ ap (λ (r : Request). take i all ++ r ∷ []) (sym is)

    runs_more : (answered : Answered) → Steps now request t answered → Runs Steps 2 from (take (i + 1) all) (played.seen ++ seen_of line request answered t ∷ [])
    runs_more answered step =
        let one : Seen S = seen_of line request answered t in
        let number : line ≡ 2 + length (take i all) = omega (arith, at, lt, length-take i all) in
        subst (λ (rs : List Request). Runs Steps 2 from rs (played.seen ++ one ∷ [])) (sym here)
        (Runs-last Steps 2 from (take i all) played.seen request one played.runs number refl (subst (λ (s : S). Steps s request t answered) played.left step))

    text_more : (one : Seen S) (w : W) → (opening w ++ shown next show begun played.seen w) ++ show kept one w ≡ opening w ++ shown next show begun (played.seen ++ one ∷ []) w
    text_more one w =
        append_assoc (opening w) (shown next show begun played.seen w) (show kept one w)
        ∙ ap (λ (t : List ℕ). opening w ++ t) (ap (λ (l : L). shown next show begun played.seen w ++ show l one w) played.keeps ∙ sym (shown-last next show begun played.seen one w))

    pub Played-next : IsPlayed Steps next show line now request t counted more kept after mid new → Played from begun old (take (i + 1) all) t after more new
    Played-next step =
        let answered = step.0 in
        let one : Seen S = seen_of line request answered t in
        record {
          seen = played.seen ++ one ∷ [];
          runs = runs_more answered step.1;
          left = sym (left_by-last from played.seen one);
          keeps = step.3 ∙ ap (λ (l : L). next l one) played.keeps ∙ sym (kept_by-last next begun played.seen one);
          counts = step.2 ∙ ap (λ (s : Summary). summary_with s answered) played.counts ∙ summary_of-last (answers_in played.seen) answered ∙ ap summary_of (sym (answers_in-last played.seen one));
          text = λ w. Appends-at (old w) (new w) ((opening w ++ shown next show begun played.seen w) ++ show kept one w) (opening w ++ shown next show begun (played.seen ++ one ∷ []) w) (text_more one w)
              (Appends-then (old w) (mid w) (new w) (opening w ++ shown next show begun played.seen w) (show kept one w) (played.text w) (step.4 w));
        }

    pub Played-cut : IsStopped Steps next show line now request t kept mid new → IsCutIn next show opening Steps begun from all old new
    Played-cut (inl keeps) = (i, played.seen, played.runs, λ w. whole_prefix (old w) (new w) (opening w ++ shown next show begun played.seen w) (Appends-keeps (old w) (mid w) (new w) (opening w ++ shown next show begun played.seen w) (played.text w) (keeps w)))
    Played-cut (inr step) =
        let one : Seen S = seen_of line request step.0 t in (
          i + 1,
          played.seen ++ one ∷ [],
          runs_more step.0 step.1,
          λ w. prefix_at (old w) (new w) ((opening w ++ shown next show begun played.seen w) ++ show kept one w) (opening w ++ shown next show begun (played.seen ++ one ∷ []) w) (text_more one w)
              (prefix_after (old w) (mid w) (new w) (opening w ++ shown next show begun played.seen w) (show kept one w) (played.text w) (step.2 w)),
        )

  -- how lines end that were stopped
  pub stopped_in : (X : Type 0) (begun : L) (from : S) (all : List Request) (stop : Stop) (old new : W → Option (List ℕ)) → (stop ≡ stops.OutOfMemory → X ⊎ HasOther all) → IsCutIn next show opening Steps begun from all old new → LinesEnd Steps total next show closing lead opening X begun from all (Err stop) old new
  stopped_in X begun from all stops.Write old new memory cut = inl cut
  stopped_in X begun from all stops.OutOfMemory old new memory cut = (memory refl, cut)

  module _ (from : S) (begun : L) (old : W → Option (List ℕ)) (now : S) (kept : L) (counted summary : Summary) (mid new : W → Option (List ℕ)) (all : List Request)
      (played : Played from begun old all now kept counted mid) (sum : summary ≡ total now counted) where
    -- what they add up to
    adds_up : summary ≡ summary_in total from played.seen
    adds_up = sum ∙ ap (λ (s : S). total s counted) played.left ∙ ap (total (left_by from played.seen)) played.counts

    -- all was written
    pub ended : (X : Type 0) → ((w : W) → Appends (mid w) (new w) (closing kept summary w)) → LinesEnd Steps total next show closing lead opening X begun from all (Ok summary) old new
    ended X closed = (
      played.seen,
      played.runs,
      adds_up,
      λ w. Appends-then (old w) (mid w) (new w) (opening w ++ shown next show begun played.seen w) (closing (kept_by next begun played.seen) summary w) (played.text w)
          (subst (λ (l : L). Appends (mid w) (new w) (closing l summary w)) played.keeps (closed w)),
    )

    -- not all of the end was
    pub ended_early : (X : Type 0) → ((w : W) → AppendsPrefix (mid w) (new w) (closing kept summary w)) → ((closing kept summary lead ≡ []) ⊎ AppendsLess (mid lead) (new lead) (closing kept summary lead)) → LinesEnd Steps total next show closing lead opening X begun from all (Err stops.Write) old new
    ended_early X cut less =
        let due = summary_in total from played.seen in
        let closes = λ (w : W). ap (λ (l : L). closing l summary w) played.keeps ∙ ap (λ (s : Summary). closing (kept_by next begun played.seen) s w) adds_up in
        let text = λ (w : W). opening w ++ shown next show begun played.seen w in
        let end = λ (w : W). closing (kept_by next begun played.seen) due w in
        inr (
          played.seen,
          played.runs,
          (
            λ w. prefix_after (old w) (mid w) (new w) (text w) (end w) (played.text w) (prefix_at (mid w) (new w) (closing kept summary w) (end w) (closes w) (cut w)),
            elim less as (λ _. (end lead ≡ []) ⊎ AppendsLess (old lead) (new lead) (text lead ++ end lead)) [
              | inl none ↦ inl (sym (closes lead) ∙ none)
              | inr short ↦ inr (Appends-less (old lead) (mid lead) (new lead) (text lead) (end lead) (played.text lead) (subst (AppendsLess (mid lead) (new lead)) (closes lead) short))
            ],
          ),
        )
