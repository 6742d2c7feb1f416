-- Links that are made one after the other, and looked up by number.
use Rattle.std.proofs.Common.{◌≡◌, ℕ, suc, ◌+◌, List, [], ◌∷◌, ◌++◌, Some, length, refl, sym, ap, subst, ◌∙◌, arith, add-zero}
use Rattle.std.specs.Prelude.{map, slice_get}
use Rattle.std.specs.List.{AllByRecursion}
use Rattle.rh_replicator.specs.Link.{LinkState, RingState}
use Rattle.rh_replicator.specs.Ends.{EndsState, IsNewLink}
use Rattle.rh_collector.specs.Settling.{ends_pair, pair_of, pairs_of, IsNewHere}
use Rattle.rh_shared.specs.Start.{AreNewLinks, IsFresh}

-- One link more, of the next number.
pub AreNewLinks-more : {A : Type 0} (first : ℕ) (links : List (LinkState A)) (ends : List (EndsState A)) (link : LinkState A) (more : EndsState A)
    → AreNewLinks first (map (λ l. l.ring) links) ends → IsNewLink (first + length links) link.ring more
    → AreNewLinks first (map (λ l. l.ring) (links ++ link ∷ [])) (ends ++ more ∷ [])
AreNewLinks-more first [] [] link more were new = (subst (λ n. IsNewLink n link.ring more) (add-zero first) new, tt)
AreNewLinks-more first [] (e ∷ ends) link more were new = absurd were
AreNewLinks-more first (l ∷ links) [] link more were new = absurd were
AreNewLinks-more first (l ∷ links) (e ∷ ends) link more were new =
    let next : first + length (l ∷ links) ≡ first + 1 + length links = omega arith in
    (were.0, AreNewLinks-more (first + 1) links ends link more were.1 (subst (λ n. IsNewLink n link.ring more) next new))

length-more : {X : Type 0} (xs : List X) (x : X) → length (xs ++ x ∷ []) ≡ length xs + 1
length-more [] x = refl
length-more (y ∷ xs) x = let rest = length-more xs x in omega (arith, rest)

-- The same, of links and ends that are lists before and after.
pub new_links-more : {A : Type 0} (n : ℕ) (links after : List (LinkState A)) (ends more : List (EndsState A)) (link : LinkState A) (e : EndsState A)
    → length links ≡ n → AreNewLinks 0 (map (λ l. l.ring) links) ends → IsNewLink n link.ring e
    → after ≡ links ++ link ∷ [] → more ≡ ends ++ e ∷ []
    → (length after ≡ n + 1) × AreNewLinks 0 (map (λ l. l.ring) after) more
new_links-more {A} n links after ends more link e count were new pushed pushed_too =
    let number : n ≡ 0 + length links = omega (arith, count) in
    let all = AreNewLinks-more 0 links ends link e were (subst (λ m. IsNewLink m link.ring e) number new) in
    let one : AreNewLinks 0 (map (λ l. l.ring) after) (ends ++ e ∷ []) = subst (λ (ls : List (LinkState A)). AreNewLinks 0 (map (λ l. l.ring) ls) (ends ++ e ∷ [])) (sym pushed) all in
    (ap length pushed ∙ (length-more links link ∙ ap (λ m. m + 1) count), subst (λ (es : List (EndsState A)). AreNewLinks 0 (map (λ l. l.ring) after) es) (sym pushed_too) one)

-- The ends of new links are of the pairs of their number.

pair_after : {A : Type 0} (before rings : List (RingState A)) (ring : RingState A) → slice_get (pairs_of (before ++ ring ∷ rings)) (length before) ≡ Some (pair_of ring)
pair_after [] rings ring = refl
pair_after (r ∷ before) rings ring = pair_after before rings ring

append-one : {X : Type 0} (xs ys : List X) (x : X) → xs ++ x ∷ [] ++ ys ≡ xs ++ (x ∷ ys)
append-one [] ys x = refl
append-one (y ∷ xs) ys x = ap (λ zs. y ∷ zs) (append-one xs ys x)

new-from : {A : Type 0} (first : ℕ) (before rings : List (RingState A)) (ends : List (EndsState A)) → length before ≡ first → AreNewLinks first rings ends
    → AllByRecursion (IsNewHere (before ++ rings)) ends
new-from first before [] [] count links = tt
new-from first before [] (e ∷ ends) count links = absurd links
new-from first before (ring ∷ rings) [] count links = absurd links
new-from {A} first before (ring ∷ rings) (e ∷ ends) count links =
    let new = links.0 in
    let pair : ends_pair e ≡ pair_of ring =
    ap (λ ring_name. record { pieces_ring = ring_name; replicas_ring = e.replicas_ring }) new.pieces_ring ∙ ap (λ ring_name. record { pieces_ring = ring.pieces_ring; replicas_ring = ring_name }) new.replicas_ring in
    let at : slice_get (pairs_of (before ++ ring ∷ rings)) e.replicator ≡ Some (ends_pair e) =
    ap (λ n. slice_get (pairs_of (before ++ ring ∷ rings)) n) (new.number ∙ sym count) ∙ (pair_after before rings ring ∙ ap (λ p. Some p) (sym pair)) in
    let next : length (before ++ ring ∷ []) ≡ first + 1 = length-more before ring ∙ ap (λ n. n + 1) count in
    let rest = new-from (first + 1) (before ++ ring ∷ []) rings ends next links.1 in
    (record { here = at; taken = new.taken; handed = new.handed }, subst (λ (rs : List (RingState A)). AllByRecursion (IsNewHere rs) ends) (append-one before rings ring) rest)

pub AreNewLinks-here : {A : Type 0} (rings : List (RingState A)) (ends : List (EndsState A)) → AreNewLinks 0 rings ends → AllByRecursion (IsNewHere rings) ends
AreNewLinks-here rings ends links = new-from 0 [] rings ends refl links

-- nothing went through the ends of new links yet
pub AreNewLinks-fresh : {A : Type 0} (number : ℕ) (rings : List (RingState A)) (ends : List (EndsState A)) → AreNewLinks number rings ends → AllByRecursion IsFresh ends
AreNewLinks-fresh number [] [] links = tt
AreNewLinks-fresh number [] (e ∷ ends) links = absurd links
AreNewLinks-fresh number (ring ∷ rings) [] links = absurd links
AreNewLinks-fresh number (ring ∷ rings) (e ∷ ends) links =
    (record { taken = links.0.taken; handed = links.0.handed }, AreNewLinks-fresh (number + 1) rings ends links.1)

pub count-rings : {A : Type 0} (links : List (LinkState A)) (n : ℕ) → length links ≡ n → length (map (λ l. l.ring) links) ≡ n
count-rings [] n count = count
count-rings (l ∷ links) n count = ap suc (count-rings links (length links) refl) ∙ count
