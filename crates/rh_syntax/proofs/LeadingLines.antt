-- A text that begins with a command line as it is spelled: its first raw line is read as that command.
use Rattle.std.proofs.Common.{◌≡◌, ℕ, ◌≤◌, List, ◌∷◌, ◌++◌, Ok, sym, ap, ◌∙◌}
use Rattle.std.specs.List.{join_with_byte}
use Rattle.rh_layout.specs.declared.command.Command.{Command}
use Rattle.rh_text.specs.Parts.{spell_parts}
use Rattle.rh_text.specs.RawLine.{RawLine, lines_of}
use Rattle.rh_text.specs.lemmas.Joins.{ended_line}
use Rattle.rh_syntax.specs.declared.request.Request.{Request}
use Rattle.rh_syntax.specs.declared.request.Request.TheVariants as requests
use Rattle.rh_syntax.specs.Spelling.{spell_command, CommandFits}
use Rattle.rh_syntax.specs.Reading.{request_or_fault}
use Rattle.rh_syntax.specs.lemmas.SpelledIsRead.{command-read, request_of_parts-owned, request_or_fault-join, lines_of-parts}

-- the first raw line of a text, which is read as this request, and what stands after it
pub record ReadsFirst (number : ℕ) (text : List ℕ) (request : Request) (rest : List ℕ) : Type 0 where
  pub raw : RawLine
  pub first : lines_of text ≡ raw ∷ lines_of rest
  pub read : Ok request ≡ request_or_fault number raw

pub command_leads : (number owner : ℕ) (command : Command) (text rest : List ℕ) → number ≤ 1048576 → CommandFits owner command → text ≡ spell_command owner command ++ rest → ReadsFirst number text (requests.Command owner command) rest
command_leads number owner command text rest small fits is =
    let a = command-read owner command fits in
    let spelled : spell_command owner command ++ rest ≡ spell_parts (a.first ∷ a.others) ++ rest = ap (λ (ps : List (List ℕ)). spell_parts ps ++ rest) a.spelled in
    record {
      raw = ended_line (join_with_byte 32 (a.first ∷ a.others));
      first = ap lines_of (is ∙ spelled) ∙ lines_of-parts a.first a.others rest a.are;
      read = sym (request_or_fault-join number (requests.Command owner command) a.first a.others small a.are (request_of_parts-owned a.first a.others owner command a.read));
    }
