-- Commands that are done one after the other, up to the first that is refused.
use Rattle.std.proofs.Common.{◌≡◌, ℕ, suc, ◌+◌, ◌-◌, ◌<◌, ◌≤◌, get_or, List, [], ◌∷◌, ◌++◌, length, drop, Option, Some, None, Result, Ok, Err, refl, sym, ap, ◌∙◌, append_assoc, append-nil, arith}
use Rattle.std.specs.Prelude.{slice_set}
use Rattle.std.proofs.lemmas.List.{drop_more}
use Rattle.rh_layout.specs.declared.command.Command.{Command}
use Rattle.rh_layout.specs.declared.command.Command.TheVariants.{Load}
use Rattle.rh_layout.specs.declared.command.Reply.{Reply}
use Rattle.rh_layout.specs.declared.command.RootId.{RootId}
use Rattle.rh_layout.specs.declared.refusal.Refusal.{Refusal}
use Rattle.rh_pace.specs.Paced.{PacedState, paced_step}
use Rattle.rheap_c.specs.declared.value.RheapValue.{RheapValue}
use Rattle.rheap_c.specs.RootRows.{DoneUntil, IsRowEnd, after_replies, done_until, last_value, path_loads, until_answered, values_over}
use Rattle.rheap_c.specs.Rows.{row_status}
use Rattle.rheap_c.specs.Told.{value_of_reply}

-- an end with other replies
abbrev with_replies : DoneUntil → List Reply → DoneUntil
with_replies end told = record end { replies = told }

after_replies-append : (told more : List Reply) (end : DoneUntil)
    → after_replies (told ++ more) end ≡ after_replies told (after_replies more end)
after_replies-append told more end = ap (with_replies end) (append_assoc told more end.replies)

-- what such commands came to
abbrev pub ended : PacedState → List Reply → Option Refusal → DoneUntil
ended s told why = record { state = s; replies = told; refusal = why }

pub IsRowEnd-of : (end : DoneUntil) (s : PacedState) (told : List Reply) (why : Option Refusal)
    (count status : ℕ) → ended s told why ≡ end → length told ≡ count → status ≡ row_status why
    → IsRowEnd end s count status
IsRowEnd-of end s told why count status is many rank = record {
  left = ap (λ (d : DoneUntil). d.state) is;
  done = sym many ∙ ap (λ (d : DoneUntil). length d.replies) is;
  told = rank ∙ ap (λ (d : DoneUntil). row_status d.refusal) is;
}

-- the replies that it tells
pub replies-of : (end : DoneUntil) (s : PacedState) (told : List Reply) (why : Option Refusal)
    → ended s told why ≡ end → told ≡ end.replies
replies-of end s told why is = ap (λ (d : DoneUntil). d.replies) is

module _ (step : PacedState → ℕ → Command → PacedState × Result Reply Refusal)
    (told : List Reply) (s new : PacedState) (end : DoneUntil) where
  -- a command was done, and those behind it are left
  pub next-done : (owner : ℕ) (command : Command) (rest : List (ℕ × Command)) (reply : Reply)
      (answer : Result Reply Refusal) → answer ≡ Ok reply
      → new ≡ (step s owner command).0 → answer ≡ (step s owner command).1
      → after_replies told (done_until step s ((owner, command) ∷ rest)) ≡ end
      → after_replies (told ++ reply ∷ []) (done_until step new rest) ≡ end
  next-done owner command rest reply answer ok state answered so_far =
      ap (λ (t : PacedState). after_replies (told ++ reply ∷ []) (done_until step t rest)) state
      ∙ after_replies-append told (reply ∷ []) (done_until step (step s owner command).0 rest)
      ∙ ap (λ (a : Result Reply Refusal). after_replies told (until_answered a (step s owner command).0 (done_until step (step s owner command).0 rest))) (sym ok ∙ answered)
      ∙ so_far

  -- a command was refused
  pub then-refused : (owner : ℕ) (command : Command) (rest : List (ℕ × Command)) (why : Refusal)
      (answer : Result Reply Refusal) → answer ≡ Err why
      → new ≡ (step s owner command).0 → answer ≡ (step s owner command).1
      → after_replies told (done_until step s ((owner, command) ∷ rest)) ≡ end
      → ended new told (Some why) ≡ end
  then-refused owner command rest why answer refused state answered so_far =
      ap (λ (t : PacedState). ended t told (Some why)) state
      ∙ ap (λ (l : List Reply). ended (step s owner command).0 l (Some why)) (sym (append-nil told))
      ∙ ap (λ (a : Result Reply Refusal). after_replies told (until_answered a (step s owner command).0 (done_until step (step s owner command).0 rest))) (sym refused ∙ answered)
      ∙ so_far

-- of a row of so many commands the first is next
pub row-left : (step : PacedState → ℕ → Command → PacedState × Result Reply Refusal)
    (told : List Reply) (s : PacedState) (end : DoneUntil) (row : ℕ → List (ℕ × Command)) (n i : ℕ)
    → i < n → after_replies told (done_until step s (row (n - i))) ≡ end
    → after_replies told (done_until step s (row (suc (n - (i + 1))))) ≡ end
row-left step told s end row n i within so_far =
    let one : suc (n - (i + 1)) ≡ n - i = omega (arith, within) in
    ap (λ (k : ℕ). after_replies told (done_until step s (row k))) one ∙ so_far

-- all of it is left at first, and none at last
pub row-first : (step : PacedState → ℕ → Command → PacedState × Result Reply Refusal)
    (s : PacedState) (row : ℕ → List (ℕ × Command)) (n : ℕ)
    → after_replies [] (done_until step s (row (n - 0))) ≡ done_until step s (row n)
row-first step s row n =
    let none : n - 0 ≡ n = omega arith in
    ap (λ (k : ℕ). after_replies [] (done_until step s (row k))) none

pub row-last : (step : PacedState → ℕ → Command → PacedState × Result Reply Refusal)
    (told : List Reply) (s : PacedState) (end : DoneUntil) (row : ℕ → List (ℕ × Command)) (n i : ℕ)
    → n ≤ i → after_replies told (done_until step s (row (n - i))) ≡ end
    → after_replies told (done_until step s (row 0)) ≡ end
row-last step told s end row n i past so_far =
    let none : 0 ≡ n - i = omega (arith, past) in
    ap (λ (k : ℕ). after_replies told (done_until step s (row k))) none ∙ so_far

-- of a path the field at this place is next
pub path-left : (told : List Reply) (s : PacedState) (end : DoneUntil) (owner : ℕ) (dst src : RootId)
    (fields : List ℕ) (i d : ℕ) → i < length fields
    → after_replies told (done_until paced_step s (path_loads owner dst src (drop i fields))) ≡ end
    → after_replies told (done_until paced_step s
    ((owner, Load dst src (get_or fields i d)) ∷ path_loads owner dst dst (drop (i + 1) fields))) ≡ end
path-left told s end owner dst src fields i d within so_far =
    ap (λ (l : List ℕ). after_replies told (done_until paced_step s (path_loads owner dst src l)))
    (sym (drop_more fields i d within)) ∙ so_far

-- none is left
pub all-done : (step : PacedState → ℕ → Command → PacedState × Result Reply Refusal)
    (told : List Reply) (s : PacedState) (end : DoneUntil)
    → after_replies told (done_until step s []) ≡ end → ended s told None ≡ end
all-done step told s end so_far =
    ap (λ (l : List Reply). ended s l None) (sym (append-nil told)) ∙ so_far

-- the value of one more reply is written behind those before it
pub values_over-next : (told : List Reply) (before : List RheapValue) (reply : Reply)
    → length told < length before
    → slice_set (values_over told before) (length told) (value_of_reply reply)
    ≡ values_over (told ++ reply ∷ []) before
values_over-next told [] reply within = absurd (omega (arith, within))
values_over-next [] (v ∷ before) reply within = refl
values_over-next (r ∷ told) (v ∷ before) reply within =
    ap (λ (l : List RheapValue). value_of_reply r ∷ l)
    (values_over-next told before reply (omega (arith, within)))

-- the value of the last reply is that of one more
pub last_value-next : (told : List Reply) (reply : Reply)
    → last_value (told ++ reply ∷ []) ≡ value_of_reply reply
last_value-next [] reply = refl
last_value-next (r ∷ []) reply = refl
last_value-next (r ∷ q ∷ told) reply = last_value-next (q ∷ told) reply
