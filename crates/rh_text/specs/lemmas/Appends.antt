-- What several calls appended to a writer, one after the other.
use Rattle.std.proofs.Common.{◌≡◌, ℕ, ◌+◌, ◌<◌, List, [], ◌∷◌, ◌++◌, length, get_or, take, drop, Option, Some, None, refl, sym, ap, subst, ◌∙◌, append_assoc, arith}
use Rattle.std.specs.List.{flat_map}
use Rattle.std.proofs.lemmas.List.Concat.{flat_map-append}
use Rattle.std.specs.Io.KnownBytes.{Appends, Keeps}
use Rattle.std.proofs.lemmas.List.{append-nil, length-append, take-append-drop, flat_map_more, take_more, drop_more}
use Rattle.rh_text.specs.Output.{AppendsLess}

pub Appends-then : (a b c : Option (List ℕ)) (x y : List ℕ) → Appends a b x → Appends b c y → Appends a c (x ++ y)
Appends-then None b c x y p q = tt
Appends-then (Some xs) None c x y p q = absurd p
Appends-then (Some xs) (Some ys) None x y p q = absurd q
Appends-then (Some xs) (Some ys) (Some zs) x y p q = q ∙ ap (λ (t : List ℕ). t ++ y) p ∙ append_assoc xs x y

pub Appends-none : (a : Option (List ℕ)) → Appends a a []
Appends-none None = tt
Appends-none (Some xs) = sym (append-nil xs)

pub Appends-at : (a b : Option (List ℕ)) (x y : List ℕ) → x ≡ y → Appends a b x → Appends a b y
Appends-at None b x y e p = tt
Appends-at (Some xs) None x y e p = absurd p
Appends-at (Some xs) (Some ys) x y e p = p ∙ ap (λ (t : List ℕ). xs ++ t) e

-- a prefix was appended, and this rest is left
pub record Sent (old now : Option (List ℕ)) (text rest : List ℕ) : Type 0 where
  pub prefix : List ℕ
  pub whole : text ≡ prefix ++ rest
  pub appended : Appends old now prefix

pub Sent-more : (old now new : Option (List ℕ)) (text rest : List ℕ) (n : ℕ) → Sent old now text rest → Appends now new (take n rest) → Sent old new text (drop n rest)
Sent-more old now new text rest n sent more = record {
  prefix = sent.prefix ++ take n rest;
  whole = sent.whole ∙ ap (λ (t : List ℕ). sent.prefix ++ t) (sym (take-append-drop n rest)) ∙ sym (append_assoc sent.prefix (take n rest) (drop n rest));
  appended = Appends-then old now new sent.prefix (take n rest) sent.appended more;
}

-- a text before, and then all or less of another
pub Appends-less : (a b c : Option (List ℕ)) (x y : List ℕ) → Appends a b x → AppendsLess b c y → AppendsLess a c (x ++ y)
Appends-less a b c x y p q = (x ++ q.0, q.1, ap (λ (t : List ℕ). x ++ t) q.2 ∙ sym (append_assoc x q.0 q.1), q.3, Appends-then a b c x q.0 p q.4)

pub less-more : (a b : Option (List ℕ)) (x y : List ℕ) → AppendsLess a b x → AppendsLess a b (x ++ y)
less-more a b x y p = (p.0, p.1 ++ y, ap (λ (t : List ℕ). t ++ y) p.2 ∙ append_assoc p.0 p.1 y, omega (arith, p.3, length-append p.1 y), p.4)

-- one text of several was sent, the first, or one after some that were sent
pub less_of_prefix : (a b : Option (List ℕ)) (sent before rest : List ℕ) → sent ≡ before → AppendsLess a b sent → AppendsLess a b (before ++ rest)
less_of_prefix a b sent before rest e p = less-more a b before rest (subst (AppendsLess a b) e p)

module _ {X : Type 0} (f : X → List ℕ) (a b c : Option (List ℕ)) (before sent : List ℕ) (xs : List X) (i : ℕ) (d : X) (lt : i < length xs) (is : sent ≡ f (get_or xs i d)) (so_far : Appends a b (before ++ flat_map f (take i xs))) where
  pub sent_next : Appends b c sent → Appends a c (before ++ flat_map f (take (i + 1) xs))
  sent_next more =
      let x = get_or xs i d in
      let text : (before ++ flat_map f (take i xs)) ++ sent ≡ before ++ flat_map f (take (i + 1) xs) =
      ap (λ (t : List ℕ). (before ++ flat_map f (take i xs)) ++ t) is ∙ flat_map_more f before (take i xs) x ∙ ap (λ (ys : List X). before ++ flat_map f ys) (sym (take_more xs i d lt)) in
      Appends-at a c ((before ++ flat_map f (take i xs)) ++ sent) (before ++ flat_map f (take (i + 1) xs)) text (Appends-then a b c (before ++ flat_map f (take i xs)) sent so_far more)

  pub sent_less_of_next : AppendsLess b c sent → AppendsLess a c (before ++ flat_map f xs)
  sent_less_of_next more =
      let x = get_or xs i d in
      let rest = flat_map f (drop (i + 1) xs) in
      let parts : xs ≡ take i xs ++ x ∷ drop (i + 1) xs = sym (take-append-drop i xs) ∙ ap (λ (ys : List X). take i xs ++ ys) (drop_more xs i d lt) in
      let joined : flat_map f xs ≡ flat_map f (take i xs) ++ (f x ++ rest) = ap (flat_map f) parts ∙ flat_map-append f (take i xs) (x ∷ drop (i + 1) xs) in
      let text : before ++ flat_map f xs ≡ (before ++ flat_map f (take i xs)) ++ (sent ++ rest) =
      ap (λ (t : List ℕ). before ++ t) joined ∙ sym (append_assoc before (flat_map f (take i xs)) (f x ++ rest)) ∙ ap (λ (t : List ℕ). (before ++ flat_map f (take i xs)) ++ (t ++ rest)) (sym is) in
      subst (AppendsLess a c) (sym text) (Appends-less a b c (before ++ flat_map f (take i xs)) (sent ++ rest) so_far (less-more b c sent rest more))

pub Keeps-same : (a : Option (List ℕ)) → Keeps a a
Keeps-same None = tt
Keeps-same (Some xs) = refl
