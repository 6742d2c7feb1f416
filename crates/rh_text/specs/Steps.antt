-- Reading from left to right, with the first fault that is met.
use Rattle.std.specs.Prelude.{◌≡◌, Option, Some, None, Result, Ok, Err}

-- a step that goes on where the one before gave something
infixl 10 ◌>>=◌
abbrev pub ◌>>=◌ : {A B E : Type 0} → Result A E → (A → Result B E) → Result B E
(Ok x) >>= f = f x
(Err e) >>= f = Err e

-- what was looked for, or else this kind of fault
abbrev pub or_fault : {A K : Type 0} → Option A → K → Result A K
or_fault (Some x) kind = Ok x
or_fault None kind = Err kind

-- a result whose fault is made of the kind that was found
abbrev pub with_fault : {A K F : Type 0} → (K → F) → Result A K → Result A F
with_fault fault (Ok x) = Ok x
with_fault fault (Err kind) = Err (fault kind)

-- what a function returned, seen by view, is what reading gives
abbrev pub Shows : {X Y E : Type 0} → (X → Y) → Result X E → Result Y E → Type 0
Shows view (Ok x) read = read ≡ Ok (view x)
Shows view (Err e) read = read ≡ Err e
