-- What a telling puts for each line of a run.
use Rattle.std.specs.Prelude.{ℕ, ◌+◌, ◌-◌, Bool, true, false, List, [], ◌∷◌, ◌++◌, length, take, drop, codes, decimal}
use Rattle.std.specs.List.{flat_map}
use Rattle.rh_text.specs.RawLine.{lines_of}
use Rattle.rh_core.specs.declared.stat.Stat.{Stat}
use Rattle.rh_engine.specs.Trays.{Tray, Trays}
use Rattle.rh_trace_views.specs.Lines.{request_text}
use Rattle.rh_syntax.specs.declared.request.Request.{Request}
use Rattle.rh_syntax.specs.declared.request.Request.TheVariants as requests
use Rattle.rh_trace.specs.declared.summary.Summary.{Summary}
use Rattle.rh_trace.specs.Answers as answers
use Rattle.rh_trace.specs.Answers.{Answered, answered_text, total_line}
use Rattle.rh_trace_views.specs.declared.sort.Sort.{Sort}
use Rattle.rh_trace_views.specs.declared.sort.Sort.TheVariants as sorts
use Rattle.rh_choices.specs.declared.telling.Telling.{Telling}
use Rattle.rh_choices.specs.declared.telling.Telling.TheVariants as tellings

-- a line that was run: its number in the trace, what it asks, and what it was answered
pub record Viewed : Type 0 where
  pub line : ℕ
  pub request : Request
  pub answered : Answered

-- requests and their answers, each with the number of its line, from this number on
abbrev pub numbered : ℕ → List Request → List Answered → List Viewed
numbered line [] answered = []
numbered line (request ∷ requests) [] = []
numbered line (request ∷ requests) (answered ∷ answers) =
    record { line = line; request = request; answered = answered }
    ∷ numbered (line + 1) requests answers

-- Echo.

-- of which sort the answer to a request is
abbrev pub sort_of : Request → Sort
sort_of requests.Trays = sorts.Trays
sort_of requests.Stat = sorts.Stat
sort_of requests.Dump = sorts.Dump
sort_of other = sorts.Line

-- a listing begins on a line of its own
abbrev pub listing_start : Sort → List ℕ
listing_start sorts.Line = []
listing_start sorts.Trays = 10 ∷ []
listing_start sorts.Stat = []
listing_start sorts.Dump = 10 ∷ []

-- LINE and the line's text, with a tab after each, and a line end before the lines of a listing
abbrev pub echo_start : ℕ → Request → List ℕ
echo_start line request =
    decimal line ++ 9 ∷ (request_text request ++ 9 ∷ listing_start (sort_of request))

-- Json.

-- whether a cycle is on
abbrev pub json_cycle : Bool → List ℕ
json_cycle true = codes ",\"cycle\":true"
json_cycle false = codes ",\"cycle\":false"

-- the members of a heap's numbers
abbrev pub json_space : Stat → List ℕ
json_space s =
    codes "\"used\":" ++ (decimal s.used ++ (codes ",\"free\":" ++ (decimal s.free
    ++ json_cycle s.cycle)))

abbrev pub json_log : Stat → List ℕ
json_log s =
    codes ",\"epoch\":" ++ (decimal s.epoch ++ (codes ",\"number\":" ++ (decimal s.number
    ++ (codes ",\"log\":" ++ decimal s.log))))

abbrev pub json_work : Stat → List ℕ
json_work s =
    codes ",\"granted\":" ++ (decimal s.granted ++ (codes ",\"spent\":" ++ (decimal s.spent
    ++ (codes ",\"placed\":" ++ (decimal s.placed ++ (codes ",\"missing\":"
    ++ (decimal s.missing ++ (codes ",\"idle\":" ++ decimal s.idle))))))))

abbrev pub json_stat : Stat → List ℕ
json_stat s = json_space s ++ (json_log s ++ json_work s)

-- a comma, and the object of a tray
abbrev pub json_tray : List ℕ → Tray → List ℕ
json_tray name t =
    codes ",{\"name\":\"" ++ (name ++ (codes "\",\"epoch\":" ++ (decimal t.epoch
    ++ (codes ",\"entries\":" ++ (decimal (length t.entries) ++ codes "}")))))

-- the objects of trays, with a comma between
abbrev pub json_trays : Trays → List ℕ
json_trays listed = drop 1 (flat_map (λ t. json_tray t.0 t.1) listed)

-- what is told of an answer: the members of numbers or the objects of trays where this is asked
-- for, and else its text
abbrev pub told_text : Bool → Answered → List ℕ
told_text true (answers.Numbers stat) = json_stat stat
told_text true (answers.Listing listed) = json_trays listed
told_text structured answered = answered_text answered

-- a text without its last byte, as a line without its end
abbrev pub unended : List ℕ → List ℕ
unended text = take (length text - 1) text

-- {"line":LINE,"text":"TEXT","
abbrev pub json_start : ℕ → Request → List ℕ
json_start line request =
    codes "{\"line\":" ++ (decimal line ++ (codes ",\"text\":\"" ++ (request_text request
    ++ codes "\",\"")))

-- the object of a line of a dump
abbrev pub json_dump_line : ℕ → List ℕ → List ℕ
json_dump_line line bytes =
    codes "{\"line\":" ++ (decimal line ++ (codes ",\"dump\":\"" ++ (bytes ++ codes "\"}\n")))

-- those of its lines, in order
abbrev pub json_dump_lines : ℕ → List ℕ → List ℕ
json_dump_lines line dump = flat_map (λ raw. json_dump_line line raw.bytes) (lines_of dump)

-- the object of a line, or of each line of a dump, of which this is told
abbrev pub json_sorted : Sort → ℕ → Request → List ℕ → List ℕ
json_sorted sorts.Line line request told =
    json_start line request ++ (codes "answer\":\"" ++ (unended told ++ codes "\"}\n"))
json_sorted sorts.Trays line request told =
    json_start line request ++ (codes "trays\":[" ++ (told ++ codes "]}\n"))
json_sorted sorts.Stat line request told =
    json_start line request ++ (codes "stat\":{" ++ (told ++ codes "}}\n"))
json_sorted sorts.Dump line request told = json_dump_lines line told

abbrev pub json_told : ℕ → Request → List ℕ → List ℕ
json_told line request told = json_sorted (sort_of request) line request told

-- the object of what a run adds up to
abbrev pub json_total : Summary → List ℕ
json_total s =
    codes "{\"total\":{\"commands\":" ++ (decimal s.commands ++ (codes ",\"refused\":"
    ++ (decimal s.refused ++ (codes ",\"flips\":" ++ (decimal s.flips ++ (codes ",\"rootwords\":"
    ++ (decimal s.root_words ++ codes "}}\n")))))))

-- Each telling.

-- whether it tells the numbers of a heap and its trays by their members
abbrev pub is_structured : Telling → Bool
is_structured tellings.Answers = false
is_structured tellings.Echo = false
is_structured tellings.Json = true

-- what it puts for a line of which this is told
abbrev pub view_of : Telling → ℕ → Request → List ℕ → List ℕ
view_of tellings.Answers line request told = told
view_of tellings.Echo line request told = echo_start line request ++ told
view_of tellings.Json line request told = json_told line request told

-- what it puts for a line that was run
abbrev pub view_text : Telling → Viewed → List ℕ
view_text telling v =
    view_of telling v.line v.request (told_text (is_structured telling) v.answered)

-- for lines in order
abbrev pub views_text : Telling → List Viewed → List ℕ
views_text telling lines = flat_map (view_text telling) lines

-- and at the end
abbrev pub total_text : Telling → Summary → List ℕ
total_text tellings.Answers summary = total_line summary
total_text tellings.Echo summary = total_line summary
total_text tellings.Json summary = json_total summary
