-- What several calls wrote, one after the other, or some of it.
use Rattle.std.proofs.Common.{ℕ, List, [], ◌++◌, Option, Some, None, Result, Ok, Err, refl, sym, ap, ◌∙◌, append_assoc}
use Rattle.std.specs.Io.KnownBytes.{Appends, Keeps}
use Rattle.std.proofs.lemmas.List.{append-nil}
use Rattle.rh_text.specs.Output.{AppendsPrefix, AppendsLess}
use Rattle.rh_text.specs.lemmas.Appends.{Appends-then, Appends-none}
use Rattle.rh_shell.specs.Session.{WritesSome}

pub prefix_of_less : (a b : Option (List ℕ)) (x : List ℕ) → AppendsLess a b x → AppendsPrefix a b x
prefix_of_less a b x q = (q.0, q.1, q.2, q.4)

pub prefix_of_none : (a : Option (List ℕ)) (x : List ℕ) → AppendsPrefix a a x
prefix_of_none a x = ([], x, refl, Appends-none a)

pub prefix_of_all : (a b : Option (List ℕ)) (x : List ℕ) → Appends a b x → AppendsPrefix a b x
prefix_of_all a b x p = (x, [], sym (append-nil x), p)

pub prefix_more : (a b : Option (List ℕ)) (x y : List ℕ) → AppendsPrefix a b x → AppendsPrefix a b (x ++ y)
prefix_more a b x y q = (q.0, q.1 ++ y, ap (λ (t : List ℕ). t ++ y) q.2 ∙ append_assoc q.0 q.1 y, q.3)

pub prefix_after : (a b c : Option (List ℕ)) (x y : List ℕ) → Appends a b x → AppendsPrefix b c y → AppendsPrefix a c (x ++ y)
prefix_after a b c x y p q = (x ++ q.0, q.1, ap (λ (t : List ℕ). x ++ t) q.2 ∙ sym (append_assoc x q.0 q.1), Appends-then a b c x q.0 p q.3)

pub Appends-keeps : (a b c : Option (List ℕ)) (x : List ℕ) → Appends a b x → Keeps b c → Appends a c x
Appends-keeps None b c x p q = tt
Appends-keeps (Some xs) None c x p q = absurd p
Appends-keeps (Some xs) (Some ys) None x p q = absurd q
Appends-keeps (Some xs) (Some ys) (Some zs) x p q = q ∙ p

pub some_then : {X E : Type 0} (r : Result X E) (a b c : Option (List ℕ)) (x y : List ℕ) → Appends a b x → WritesSome y r b c → WritesSome (x ++ y) r a c
some_then (Ok z) a b c x y p q = Appends-then a b c x y p q
some_then (Err e) a b c x y p q = prefix_after a b c x y p q

-- a text that was written, and stays
pub shown_kept : {X E : Type 0} (r : Result X E) (a b c : Option (List ℕ)) (x : List ℕ) → Appends a b x → Keeps b c → WritesSome x r a c
shown_kept (Ok z) a b c x p q = Appends-keeps a b c x p q
shown_kept (Err e) a b c x p q = prefix_of_all a c x (Appends-keeps a b c x p q)
