-- The texts of events, which each begin after the one before.
use Rattle.std.specs.Prelude.{ℕ, ◌-◌, Bool, true, false, List, ◌++◌, codes, decimal}

-- What the events of a cycle tell: its number, whether it was abandoned, the lines or calls at which it
-- began and ended, its words, objects and units, and the entries of its log.
pub record Told : Type 0 where
  pub number : ℕ
  pub abandoned : Bool
  pub began : ℕ
  pub ended : ℕ
  pub used : ℕ
  pub live : ℕ
  pub freed : ℕ
  pub objects : ℕ
  pub granted : ℕ
  pub idle : ℕ
  pub spent : ℕ
  pub logged : ℕ

-- what comes before all other events, and what ends them
abbrev pub opening_text : List ℕ
opening_text =
    codes "[\n{\"name\":\"process_name\",\"ph\":\"M\",\"pid\":1,\"args\":{\"name\":\"rheap\"}}"

abbrev pub closing_text : List ℕ
closing_text = codes "\n]\n"

-- a cycle's slice, with when it began and how long it took
abbrev pub slice_text : Told → ℕ → ℕ → List ℕ
slice_text t begins lasts =
    codes ",\n{\"name\":\"cycle " ++ (decimal t.number
    ++ (codes "\",\"ph\":\"X\",\"pid\":1,\"tid\":1,\"ts\":" ++ (decimal begins
    ++ (codes ",\"dur\":" ++ decimal lasts))))

-- how it ended
abbrev pub outcome_text : Bool → List ℕ
outcome_text true = codes ",\"args\":{\"end\":\"abandoned\""
outcome_text false = codes ",\"args\":{\"end\":\"flipped\""

-- and where it began and ended
abbrev pub end_text : Told → List ℕ
end_text t =
    outcome_text t.abandoned ++ (codes ",\"began\":" ++ (decimal t.began
    ++ (codes ",\"ended\":" ++ decimal t.ended)))

-- the objects that were placed, and the words that were freed
abbrev pub kept_text : Told → List ℕ
kept_text t =
    codes ",\"objects\":" ++ (decimal t.objects
    ++ (codes ",\"freed\":" ++ (decimal t.freed ++ codes "}}")))

-- a counter of used words, at a time
abbrev pub used_text : ℕ → ℕ → List ℕ
used_text at words =
    codes ",\n{\"name\":\"used words\",\"ph\":\"C\",\"pid\":1,\"ts\":" ++ (decimal at
    ++ (codes ",\"args\":{\"words\":" ++ (decimal words ++ codes "}}")))

-- the counter of what the log of a cycle has
abbrev pub logged_text : Told → ℕ → List ℕ
logged_text t at =
    codes ",\n{\"name\":\"log\",\"ph\":\"C\",\"pid\":1,\"ts\":" ++ (decimal at
    ++ (codes ",\"args\":{\"stores\":" ++ (decimal t.logged ++ codes "}}")))

-- and those of units
abbrev pub units_text : Told → ℕ → List ℕ
units_text t at =
    codes ",\n{\"name\":\"units\",\"ph\":\"C\",\"pid\":1,\"ts\":" ++ (decimal at
    ++ (codes ",\"args\":{\"granted\":" ++ (decimal t.granted
    ++ (codes ",\"idle\":" ++ (decimal t.idle
    ++ (codes ",\"spent\":" ++ (decimal t.spent ++ codes "}}")))))))

-- The events of a cycle that began and ended at these times: its slice, the used words at both, its
-- log, and its units.
abbrev pub cycle_events : Told → ℕ → ℕ → List ℕ
cycle_events t begins ends =
    slice_text t begins (ends - begins) ++ (end_text t ++ (kept_text t
    ++ (used_text begins t.used ++ (used_text ends t.live
    ++ (logged_text t ends ++ units_text t ends)))))
