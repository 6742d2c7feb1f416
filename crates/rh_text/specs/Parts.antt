-- A line is cut into parts: what stands between its spaces.
use Rattle.std.specs.Prelude.{ℕ, ◌≤◌, ◌≢◌, Bool, true, false, List, [], ◌∷◌, ◌++◌, Option, Some, None, nat_le, ◌==◌, ◌&&◌, not, if◌then◌else◌}
use Rattle.std.specs.Option.{option_map}
use Rattle.std.specs.List.{slice_split, join_with_byte, list_all, list_any, AllByRecursion}
use Rattle.std.specs.Borrow.{Bor}

-- the parts of a line
abbrev pub parts_of : List ℕ → List (List ℕ)
parts_of line = slice_split (λ b. b == 32) line

-- the parts with one space between each two, and a line end
abbrev pub spell_parts : List (List ℕ) → List ℕ
spell_parts parts = join_with_byte 32 parts ++ 10 ∷ []

-- a byte from 32 to 126
abbrev pub is_printable : ℕ → Bool
is_printable b = nat_le 32 b && nat_le b 126

-- a part that has a byte
abbrev pub is_filled : List ℕ → Bool
is_filled [] = false
is_filled (b ∷ bs) = true

-- all bytes are printable, and no part is empty
unfoldable pub is_formed : List ℕ → Bool
is_formed line = list_all is_printable line && list_all is_filled (parts_of line)

-- a byte that a line may have
abbrev pub IsPrintable : ℕ → Type 0
IsPrintable b = (32 ≤ b) × (b ≤ 126)

-- a line of printable bytes, none of whose parts is empty
abbrev pub IsFormedLine : List ℕ → Type 0
IsFormedLine line =
    AllByRecursion IsPrintable line × AllByRecursion (λ part. part ≢ []) (parts_of line)

-- the byte may come next in a line: it is printable, and no space where the part so far is empty
abbrev pub may_follow : ℕ → Bool → Bool
may_follow byte part_empty = is_printable byte && not (byte == 32 && part_empty)

-- what stands before the first byte c, and what stands after it
abbrev pub cut_at : ℕ → List ℕ → Option (List ℕ × List ℕ)
cut_at c [] = None
cut_at c (b ∷ bs) =
    if b == c then Some ([], bs) else option_map (λ cut. (b ∷ cut.0, cut.1)) (cut_at c bs)

-- the part has a dot
abbrev pub has_dot : List ℕ → Bool
has_dot part = list_any (λ b. b == 46) part

-- the part begins with a digit
abbrev pub begins_with_digit : List ℕ → Bool
begins_with_digit [] = false
begins_with_digit (b ∷ bs) = nat_le 48 b && nat_le b 57

-- the parts that are left of a line: none, or those of some bytes
abbrev pub parts_left : Option (Bor (List ℕ)) → List (List ℕ)
parts_left None = []
parts_left (Some rest) = parts_of rest.now

-- the first part, and the others
abbrev pub first_and_rest : List (List ℕ) → Option (List ℕ × List (List ℕ))
first_and_rest [] = None
first_and_rest (part ∷ parts) = Some (part, parts)

-- a step that goes on where the one before gave something
infixl 10 ◌>>=◌
abbrev pub ◌>>=◌ : {A B : Type 0} → Option A → (A → Option B) → Option B
(Some x) >>= f = f x
None >>= f = None

-- the first three parts, and the others
abbrev pub first_three : List (List ℕ)
    → Option (List ℕ × List ℕ × List ℕ × List (List ℕ))
first_three parts = do
  a ← first_and_rest parts
  b ← first_and_rest a.1
  c ← first_and_rest b.1
  Some (a.0, b.0, c.0, c.1)

-- no part is left
abbrev pub end_of : List (List ℕ) → Option (Unit {0})
end_of [] = Some tt
end_of (part ∷ parts) = None

-- just one part
unfoldable pub one_part : List (List ℕ) → Option (List ℕ)
one_part parts = do
  a ← first_and_rest parts
  end ← end_of a.1
  Some a.0

-- just two parts
unfoldable pub two_parts : List (List ℕ) → Option (List ℕ × List ℕ)
two_parts parts = do
  a ← first_and_rest parts
  b ← first_and_rest a.1
  end ← end_of b.1
  Some (a.0, b.0)

-- just three parts
unfoldable pub three_parts : List (List ℕ) → Option (List ℕ × List ℕ × List ℕ)
three_parts parts = do
  a ← first_and_rest parts
  b ← first_and_rest a.1
  c ← first_and_rest b.1
  end ← end_of c.1
  Some (a.0, b.0, c.0)

-- just six parts
unfoldable pub six_parts : List (List ℕ)
    → Option (List ℕ × List ℕ × List ℕ × List ℕ × List ℕ × List ℕ)
six_parts parts = do
  a ← first_and_rest parts
  b ← first_and_rest a.1
  c ← first_and_rest b.1
  d ← first_and_rest c.1
  e ← first_and_rest d.1
  f ← first_and_rest e.1
  end ← end_of f.1
  Some (a.0, b.0, c.0, d.0, e.0, f.0)
