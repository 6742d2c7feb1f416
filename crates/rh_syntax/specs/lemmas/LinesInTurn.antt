-- Reading lines one after the other, as a loop does.
use Rattle.std.proofs.Common.{◌≡◌, ℕ, ◌+◌, ◌≤◌, Bool, true, false, cond, ltb, ◌||◌, not, List, [], ◌∷◌, ◌++◌, length, Result, Ok, Err, refl, sym, ap, ◌∙◌, append_assoc}
use Rattle.std.proofs.lemmas.List.{append-nil}
use Rattle.std.proofs.lemmas.Bool.{ltb-false, or_parts}
use Rattle.rh_syntax.specs.declared.fault.Kind.{Kind}
use Rattle.rh_syntax.specs.declared.fault.Kind.TheVariants.{Long, Cut, Form}
use Rattle.rh_syntax.specs.declared.fault.TraceFault.{TraceFault}
use Rattle.rh_syntax.specs.declared.request.Request.{Request}
use Rattle.rh_text.specs.RawLine.{RawLine, lines_of}
use Rattle.rh_text.specs.Parts.{is_formed, parts_of}
use Rattle.rh_text.specs.Steps.{◌>>=◌, with_fault}
use Rattle.rh_syntax.specs.Reading.{fault_at, checked_parts, request_of_parts, request_or_kind, request_or_fault, requests_from}

-- what was read before, and what is still read
abbrev pub after_prefix : List Request → Result (List Request) TraceFault → Result (List Request) TraceFault
after_prefix prefix read = read >>= λ requests. Ok (prefix ++ requests)

regroup : (prefix : List Request) (request : Request) (read : Result (List Request) TraceFault) → after_prefix prefix (read >>= λ requests. Ok (request ∷ requests)) ≡ after_prefix (prefix ++ request ∷ []) read
regroup prefix request (Ok requests) = ap (λ (ls : List Request). Ok ls) (sym (append_assoc prefix (request ∷ []) requests))
regroup prefix request (Err fault) = refl

pub goes_on : (prefix : List Request) (number : ℕ) (rest after : List ℕ) (raw : RawLine) (request : Request) (total : Result (List Request) TraceFault)
    → lines_of rest ≡ raw ∷ lines_of after → Ok request ≡ request_or_fault number raw → after_prefix prefix (requests_from number (lines_of rest)) ≡ total
    → after_prefix (prefix ++ request ∷ []) (requests_from (number + 1) (lines_of after)) ≡ total
unfolding requests_from
goes_on prefix number rest after raw request total is read so_far =
    let one : requests_from number (lines_of rest) ≡ (requests_from (number + 1) (lines_of after) >>= λ requests. Ok (request ∷ requests)) = ap (requests_from number) is ∙ ap (λ (r : Result Request TraceFault). r >>= λ first. requests_from (number + 1) (lines_of after) >>= λ others. Ok (first ∷ others)) (sym read) in
    sym (regroup prefix request (requests_from (number + 1) (lines_of after))) ∙ ap (after_prefix prefix) (sym one) ∙ so_far

pub stops : (prefix : List Request) (number : ℕ) (rest after : List ℕ) (raw : RawLine) (fault : TraceFault) (total : Result (List Request) TraceFault)
    → lines_of rest ≡ raw ∷ lines_of after → Err fault ≡ request_or_fault number raw → after_prefix prefix (requests_from number (lines_of rest)) ≡ total → total ≡ Err fault
unfolding requests_from
stops prefix number rest after raw fault total is read so_far =
    let one : requests_from number (lines_of rest) ≡ Err fault = ap (requests_from number) is ∙ ap (λ (r : Result Request TraceFault). r >>= λ first. requests_from (number + 1) (lines_of after) >>= λ others. Ok (first ∷ others)) (sym read) in
    sym so_far ∙ ap (after_prefix prefix) one

pub is_done : (prefix : List Request) (number : ℕ) (rest : List ℕ) (total : Result (List Request) TraceFault) → rest ≡ [] → after_prefix prefix (requests_from number (lines_of rest)) ≡ total → total ≡ Ok prefix
unfolding requests_from
is_done prefix number rest total nothing so_far =
    let one : requests_from number (lines_of rest) ≡ Ok [] = ap (λ (r : List ℕ). requests_from number (lines_of r)) nothing in
    sym so_far ∙ ap (after_prefix prefix) one ∙ ap (λ (ls : List Request). Ok ls) (append-nil prefix)

-- a line that is read is within the limits
within : (long : Bool) (r : Result (List (List ℕ)) Kind) (f : List (List ℕ) → Result Request Kind) (number : ℕ) (request : Request) → Ok request ≡ with_fault (fault_at number) (cond long (Err Long) r >>= f) → long ≡ false
within true r f number request e = absurd cc
within false r f number request e = refl

pub number_within : (number : ℕ) (raw : RawLine) (request : Request) → Ok request ≡ request_or_fault number raw → number ≤ 1048576
unfolding request_or_kind checked_parts
number_within number raw request e =
    let long = ltb 1048576 number || ltb 256 (length raw.bytes) in
    let r : Result (List (List ℕ)) Kind = cond (not raw.ended) (Err Cut) (cond (not (is_formed raw.bytes)) (Err Form) (Ok (parts_of raw.bytes))) in
    ltb-false 1048576 number (or_parts (ltb 1048576 number) (ltb 256 (length raw.bytes)) (within long r request_of_parts number request e)).0
