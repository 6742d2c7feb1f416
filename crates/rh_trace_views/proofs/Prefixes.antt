-- Prefixes of what is told of lines.
use Rattle.std.proofs.Common.{◌≡◌, ℕ, ◌<◌, List, [], ◌∷◌, ◌++◌, length, Option, Some, None, refl, sym, ap, ◌∙◌, append_assoc, arith}
use Rattle.std.specs.Io.KnownBytes.{Appends, Keeps}
use Rattle.std.proofs.lemmas.List.{append-nil, length-append}
use Rattle.rh_text.specs.Output.{AppendsLess, AppendsPrefix}
use Rattle.rh_trace.specs.declared.summary.Summary.{Summary}
use Rattle.rh_choices.specs.declared.telling.Telling.{Telling}
use Rattle.rh_choices.specs.declared.telling.Telling.TheVariants as tellings
use Rattle.rh_trace_views.specs.Views.{total_text}

-- a prefix of no text is none
nothing_of : (a b : Option (List ℕ)) (prefix rest : List ℕ) → [] ≡ prefix ++ rest → Appends a b prefix → Keeps a b
nothing_of None b prefix rest is sent = tt
nothing_of (Some old) None prefix rest is sent = absurd sent
nothing_of (Some old) (Some new) [] rest is sent = sent ∙ append-nil old
nothing_of (Some old) (Some new) (x ∷ prefix) rest is sent = absurd cc

pub keeps_of : (a b : Option (List ℕ)) (text : List ℕ) → text ≡ [] → AppendsPrefix a b text → Keeps a b
keeps_of a b text none cut = nothing_of a b cut.0 cut.1 (sym none ∙ cut.2) cut.3

-- what is kept grows by a prefix of any text
kept_appends : (a b : Option (List ℕ)) → Keeps a b → Appends a b []
kept_appends None b kept = tt
kept_appends (Some old) None kept = absurd kept
kept_appends (Some old) (Some new) kept = kept ∙ sym (append-nil old)

pub kept_prefix : (a b : Option (List ℕ)) (text : List ℕ) → Keeps a b → AppendsPrefix a b text
kept_prefix a b text kept = ([], text, refl, kept_appends a b kept)

-- the text at the end has a byte
pub total_filled : (telling : Telling) (summary : Summary) → 0 < length (total_text telling summary)
total_filled tellings.Answers summary = omega arith
total_filled tellings.Echo summary = omega arith
total_filled tellings.Json summary = omega arith

-- so where it wasn't written, not all was
pub less_than_all : (telling : Telling) (summary : Summary) (text : List ℕ) (a b : Option (List ℕ)) → AppendsPrefix a b text → AppendsLess a b (text ++ total_text telling summary)
less_than_all telling summary text a b cut =
    let end = total_text telling summary in
    (cut.0, cut.1 ++ end, ap (λ (t : List ℕ). t ++ end) cut.2 ∙ append_assoc cut.0 cut.1 end, omega (arith, length-append cut.1 end, total_filled telling summary), cut.3)
