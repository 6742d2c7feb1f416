-- The line of a cycle is read as its numbers, and its events are those of the cycle.
use Rattle.std.proofs.Common.{◌≡◌, ℕ, ◌+◌, ◌<◌, ◌^◌, Bool, true, false, List, [], ◌∷◌, ◌++◌, length, get_or, set, Option, Some, None, refl, ap, ◌∙◌, append-nil, arith}
use Rattle.std.specs.Prelude.{All, decimal}
use Rattle.std.specs.List.{flat_map}
use Rattle.std.proofs.lemmas.List.Elements.{All-head, All-tail}
use Rattle.rh_cycles.specs.declared.cycle.Cycle.{Cycle}
use Rattle.rh_cycles.specs.declared.cycle.CycleEnd.{CycleEnd}
use Rattle.rh_cycles.specs.declared.cycle.CycleEnd.TheVariants.{Flipped, Abandoned}
use Rattle.rh_cycles.specs.declared.cycle.EntryCounts.{EntryCounts}
use Rattle.rh_cycles.specs.Line.{column, cycle_line, cycles_header, end_text, ends_text, entries_text, unknown, words_text, work_text}
use Rattle.rh_cycle_events.specs.declared.heard.Heard.{Heard}
use Rattle.rh_cycle_events.specs.Cycles.{AreWordsIfKnown, IsOfWords, events_of_cycles, told_of, was_abandoned}
use Rattle.rh_cycle_events.specs.Events.{events_in, events_of, freed_after, heard_after, line_events, line_heard, nothing_heard, told_by}
use Rattle.rh_cycle_events.specs.Line.{no_line}
use Rattle.rh_cycle_events.specs.Texts.{opening_text}
use Rattle.rh_cycle_events.proofs.PartsHeard.{Comes, Reads, column-read, decimal-read, events-append, hearing, reads-then, row, tab-read}

-- 19 numbers, by column
abbrev numbers_of : ℕ → ℕ → ℕ → ℕ → ℕ → ℕ → ℕ → ℕ → ℕ → ℕ → ℕ → ℕ → ℕ → ℕ → ℕ → ℕ → ℕ → ℕ → List ℕ
numbers_of a c d e f g h i j k l m n o p q r s = a ∷ 0 ∷ c ∷ d ∷ e ∷ f ∷ g ∷ h ∷ i ∷ j ∷ k ∷ l ∷ m ∷ n ∷ o ∷ p ∷ q ∷ r ∷ s ∷ []

-- the next column, and what comes after it
module _ (numbers : List ℕ) (before : ℕ) (abandoned : Bool) (n : ℕ) (fits : n < 2 ^ 64) (within : before + 1 < 19) (long : length numbers ≡ 19) (none : get_or numbers (before + 1) 0 ≡ 0)
    (ys : List ℕ) (after : Bool → ℕ → Heard) (text : Bool → ℕ → List ℕ) where
  column-then : Comes (row (set numbers (before + 1) n) (before + 1) abandoned) ys after text → Comes (row numbers before abandoned) (column n ++ ys) after text
  column-then further =
      reads-then (row numbers before abandoned) (row (set numbers (before + 1) n) (before + 1) abandoned) (column n) ys after text (column-read n fits numbers before abandoned within long none) further

-- how a cycle ended
end-read : (e : CycleEnd) (a : ℕ) → Reads (row (numbers_of a 0 0 0 0 0 0 0 0 0 0 0 0 0 0 0 0 0) 1 false) (row (numbers_of a 0 0 0 0 0 0 0 0 0 0 0 0 0 0 0 0 0) 1 (was_abandoned e)) (end_text e)
end-read Flipped a = λ begun freed. (refl, refl)
end-read Abandoned a = λ begun freed. (refl, refl)

module _ (c : Cycle) (w : IsOfWords c) where
  abbrev ends : Bool
  ends = was_abandoned c.end

  abbrev after_ends : List ℕ
  after_ends = numbers_of c.number c.epoch c.began c.ended 0 0 0 0 0 0 0 0 0 0 0 0 0 0

  abbrev after_words : List ℕ
  after_words = numbers_of c.number c.epoch c.began c.ended c.used c.live c.freed c.objects 0 0 0 0 0 0 0 0 0 0

  abbrev after_work : List ℕ
  after_work = numbers_of c.number c.epoch c.began c.ended c.used c.live c.freed c.objects c.granted c.idle c.spent c.most c.logged 0 0 0 0 0

  -- which it is, and when
  ends-read : Reads no_line (row after_ends 4 ends) (ends_text c)
  ends-read =
      reads-then no_line (row (numbers_of c.number 0 0 0 0 0 0 0 0 0 0 0 0 0 0 0 0 0) 0 false) (decimal c.number) (9 ∷ end_text c.end ++ (column c.epoch ++ (column c.began ++ column c.ended)))
      (λ begun freed. hearing begun freed (row after_ends 4 ends)) (λ begun freed. [])
      (decimal-read c.number w.number (numbers_of 0 0 0 0 0 0 0 0 0 0 0 0 0 0 0 0 0 0) 0 false (omega arith) refl refl)
      (reads-then (row (numbers_of c.number 0 0 0 0 0 0 0 0 0 0 0 0 0 0 0 0 0) 0 false) (row (numbers_of c.number 0 0 0 0 0 0 0 0 0 0 0 0 0 0 0 0 0) 1 false) (9 ∷ []) (end_text c.end ++ (column c.epoch ++ (column c.began ++ column c.ended)))
      (λ begun freed. hearing begun freed (row after_ends 4 ends)) (λ begun freed. [])
      (tab-read (numbers_of c.number 0 0 0 0 0 0 0 0 0 0 0 0 0 0 0 0 0) 0 false (omega arith))
      (reads-then (row (numbers_of c.number 0 0 0 0 0 0 0 0 0 0 0 0 0 0 0 0 0) 1 false) (row (numbers_of c.number 0 0 0 0 0 0 0 0 0 0 0 0 0 0 0 0 0) 1 ends) (end_text c.end) (column c.epoch ++ (column c.began ++ column c.ended))
      (λ begun freed. hearing begun freed (row after_ends 4 ends)) (λ begun freed. [])
      (end-read c.end c.number)
      (column-then (numbers_of c.number 0 0 0 0 0 0 0 0 0 0 0 0 0 0 0 0 0) 1 ends c.epoch w.epoch (omega arith) refl refl (column c.began ++ column c.ended) (λ begun freed. hearing begun freed (row after_ends 4 ends)) (λ begun freed. [])
      (column-then (numbers_of c.number c.epoch 0 0 0 0 0 0 0 0 0 0 0 0 0 0 0 0) 2 ends c.began w.began (omega arith) refl refl (column c.ended) (λ begun freed. hearing begun freed (row after_ends 4 ends)) (λ begun freed. [])
      (column-read c.ended w.ended (numbers_of c.number c.epoch c.began 0 0 0 0 0 0 0 0 0 0 0 0 0 0 0) 3 ends (omega arith) refl refl)))))

  -- words and objects
  words-read : Reads (row after_ends 4 ends) (row after_words 8 ends) (words_text c)
  words-read =
      column-then after_ends 4 ends c.used w.used (omega arith) refl refl (column c.live ++ (column c.freed ++ column c.objects)) (λ begun freed. hearing begun freed (row after_words 8 ends)) (λ begun freed. [])
      (column-then (numbers_of c.number c.epoch c.began c.ended c.used 0 0 0 0 0 0 0 0 0 0 0 0 0) 5 ends c.live w.live (omega arith) refl refl (column c.freed ++ column c.objects) (λ begun freed. hearing begun freed (row after_words 8 ends)) (λ begun freed. [])
      (column-then (numbers_of c.number c.epoch c.began c.ended c.used c.live 0 0 0 0 0 0 0 0 0 0 0 0) 6 ends c.freed w.freed (omega arith) refl refl (column c.objects) (λ begun freed. hearing begun freed (row after_words 8 ends)) (λ begun freed. [])
      (column-read c.objects w.objects (numbers_of c.number c.epoch c.began c.ended c.used c.live c.freed 0 0 0 0 0 0 0 0 0 0 0) 7 ends (omega arith) refl refl)))

  -- units, and what was logged
  work-read : Reads (row after_words 8 ends) (row after_work 13 ends) (work_text c)
  work-read =
      column-then after_words 8 ends c.granted w.granted (omega arith) refl refl (column c.idle ++ (column c.spent ++ (column c.most ++ column c.logged))) (λ begun freed. hearing begun freed (row after_work 13 ends)) (λ begun freed. [])
      (column-then (numbers_of c.number c.epoch c.began c.ended c.used c.live c.freed c.objects c.granted 0 0 0 0 0 0 0 0 0) 9 ends c.idle w.idle (omega arith) refl refl (column c.spent ++ (column c.most ++ column c.logged)) (λ begun freed. hearing begun freed (row after_work 13 ends)) (λ begun freed. [])
      (column-then (numbers_of c.number c.epoch c.began c.ended c.used c.live c.freed c.objects c.granted c.idle 0 0 0 0 0 0 0 0) 10 ends c.spent w.spent (omega arith) refl refl (column c.most ++ column c.logged) (λ begun freed. hearing begun freed (row after_work 13 ends)) (λ begun freed. [])
      (column-then (numbers_of c.number c.epoch c.began c.ended c.used c.live c.freed c.objects c.granted c.idle c.spent 0 0 0 0 0 0 0) 11 ends c.most w.most (omega arith) refl refl (column c.logged) (λ begun freed. hearing begun freed (row after_work 13 ends)) (λ begun freed. [])
      (column-read c.logged w.logged (numbers_of c.number c.epoch c.began c.ended c.used c.live c.freed c.objects c.granted c.idle c.spent c.most 0 0 0 0 0 0) 12 ends (omega arith) refl refl))))

  -- entries, of which events tell nothing
  abbrev entered : ℕ → ℕ → ℕ → ℕ → List ℕ
  entered p q r s = numbers_of c.number c.epoch c.began c.ended c.used c.live c.freed c.objects c.granted c.idle c.spent c.most c.logged p q r s 0

  abbrev after_entries : Option EntryCounts → List ℕ
  after_entries None = entered 0 0 0 0
  after_entries (Some e) = entered e.joined e.repeated e.stale e.passed

  unknown-read : (at : ℕ) → at + 1 < 19 → Reads (row after_work at ends) (row after_work (at + 1) ends) unknown
  unknown-read at within =
      reads-then (row after_work at ends) (row after_work (at + 1) ends) (9 ∷ []) (45 ∷ []) (λ begun freed. hearing begun freed (row after_work (at + 1) ends)) (λ begun freed. [])
      (tab-read after_work at ends (omega (arith, within))) (λ begun freed. (refl, refl))

  entries-read : (o : Option EntryCounts) → AreWordsIfKnown o → Reads (row after_work 13 ends) (row (after_entries o) 17 ends) (entries_text o)
  entries-read None known =
      reads-then (row after_work 13 ends) (row after_work 14 ends) unknown (unknown ++ (unknown ++ unknown)) (λ begun freed. hearing begun freed (row after_work 17 ends)) (λ begun freed. [])
      (unknown-read 13 (omega arith))
      (reads-then (row after_work 14 ends) (row after_work 15 ends) unknown (unknown ++ unknown) (λ begun freed. hearing begun freed (row after_work 17 ends)) (λ begun freed. [])
      (unknown-read 14 (omega arith))
      (reads-then (row after_work 15 ends) (row after_work 16 ends) unknown unknown (λ begun freed. hearing begun freed (row after_work 17 ends)) (λ begun freed. [])
      (unknown-read 15 (omega arith)) (unknown-read 16 (omega arith))))
  entries-read (Some e) known =
      column-then after_work 13 ends e.joined known.joined (omega arith) refl refl (column e.repeated ++ (column e.stale ++ column e.passed)) (λ begun freed. hearing begun freed (row (after_entries (Some e)) 17 ends)) (λ begun freed. [])
      (column-then (entered e.joined 0 0 0) 14 ends e.repeated known.repeated (omega arith) refl refl (column e.stale ++ column e.passed) (λ begun freed. hearing begun freed (row (after_entries (Some e)) 17 ends)) (λ begun freed. [])
      (column-then (entered e.joined e.repeated 0 0) 15 ends e.stale known.stale (omega arith) refl refl (column e.passed) (λ begun freed. hearing begun freed (row (after_entries (Some e)) 17 ends)) (λ begun freed. [])
      (column-read e.passed known.passed (entered e.joined e.repeated e.stale 0) 16 ends (omega arith) refl refl)))

  -- The line comes to the events of its cycle, once the names of the columns came.
  finish : (o : Option EntryCounts) → Comes (row (after_entries o) 17 ends) (column c.words ++ 10 ∷ []) (λ begun freed. line_heard (hearing begun freed (row (set (after_entries o) 18 c.words) 18 ends)))
      (λ begun freed. line_events (hearing begun freed (row (set (after_entries o) 18 c.words) 18 ends)))
  finish None =
      column-then (after_entries None) 17 ends c.words w.words (omega arith) refl refl (10 ∷ []) (λ begun freed. line_heard (hearing begun freed (row (set (after_entries None) 18 c.words) 18 ends)))
      (λ begun freed. line_events (hearing begun freed (row (set (after_entries None) 18 c.words) 18 ends)))
      (λ begun freed. (refl, append-nil (line_events (hearing begun freed (row (set (after_entries None) 18 c.words) 18 ends)))))
  finish (Some e) =
      column-then (after_entries (Some e)) 17 ends c.words w.words (omega arith) refl refl (10 ∷ []) (λ begun freed. line_heard (hearing begun freed (row (set (after_entries (Some e)) 18 c.words) 18 ends)))
      (λ begun freed. line_events (hearing begun freed (row (set (after_entries (Some e)) 18 c.words) 18 ends)))
      (λ begun freed. (refl, append-nil (line_events (hearing begun freed (row (set (after_entries (Some e)) 18 c.words) 18 ends)))))

  told-same : (o : Option EntryCounts) → told_by (row (set (after_entries o) 18 c.words) 18 ends) ≡ told_of c
  told-same None = refl
  told-same (Some e) = refl

  line-comes : Comes no_line (cycle_line c) (λ begun freed. line_heard (hearing begun freed (row (set (after_entries c.entries) 18 c.words) 18 ends)))
      (λ begun freed. line_events (hearing begun freed (row (set (after_entries c.entries) 18 c.words) 18 ends)))
  line-comes =
      let heard : Bool → ℕ → Heard = λ begun freed. line_heard (hearing begun freed (row (set (after_entries c.entries) 18 c.words) 18 ends)) in
      let text : Bool → ℕ → List ℕ = λ begun freed. line_events (hearing begun freed (row (set (after_entries c.entries) 18 c.words) 18 ends)) in
      reads-then no_line (row after_ends 4 ends) (ends_text c) (words_text c ++ (work_text c ++ (entries_text c.entries ++ (column c.words ++ 10 ∷ [])))) heard text ends-read
      (reads-then (row after_ends 4 ends) (row after_words 8 ends) (words_text c) (work_text c ++ (entries_text c.entries ++ (column c.words ++ 10 ∷ []))) heard text words-read
      (reads-then (row after_words 8 ends) (row after_work 13 ends) (work_text c) (entries_text c.entries ++ (column c.words ++ 10 ∷ [])) heard text work-read
      (reads-then (row after_work 13 ends) (row (after_entries c.entries) 17 ends) (entries_text c.entries) (column c.words ++ 10 ∷ []) heard text (entries-read c.entries w.entries) (finish c.entries))))

  pub line-heard : (freed : ℕ) → heard_after (hearing true freed no_line) (cycle_line c) ≡ hearing true (freed_after freed (told_of c)) no_line
  line-heard freed = (line-comes true freed).0 ∙ ap (λ t. hearing true (freed_after freed t) no_line) (told-same c.entries)

  pub line-events : (freed : ℕ) → events_in (hearing true freed no_line) (cycle_line c) ≡ events_of freed (told_of c)
  line-events freed = (line-comes true freed).1 ∙ ap (λ t. events_of freed t) (told-same c.entries)

-- Lines of cycles.
lines-events : (cycles : List Cycle) → All IsOfWords cycles → (freed : ℕ) → events_in (hearing true freed no_line) (flat_map cycle_line cycles) ≡ events_of_cycles freed cycles
lines-events [] all freed = refl
lines-events (c ∷ cycles) all freed =
    let w = All-head IsOfWords c cycles all in
    events-append (hearing true freed no_line) (cycle_line c) (flat_map cycle_line cycles)
    ∙ ap (λ (e : List ℕ). e ++ events_in (heard_after (hearing true freed no_line) (cycle_line c)) (flat_map cycle_line cycles)) (line-events c w freed)
    ∙ ap (λ (h : Heard). events_of freed (told_of c) ++ events_in h (flat_map cycle_line cycles)) (line-heard c w freed)
    ∙ ap (λ (e : List ℕ). events_of freed (told_of c) ++ e) (lines-events cycles (All-tail IsOfWords c cycles all) (freed_after freed (told_of c)))

-- Below the names of their columns.
header-heard : heard_after nothing_heard cycles_header ≡ hearing true 0 no_line
header-heard = refl

header-events : events_in nothing_heard cycles_header ≡ opening_text
header-events = refl

pub cycles-events : (cycles : List Cycle) → All IsOfWords cycles → events_in nothing_heard (cycles_header ++ flat_map cycle_line cycles) ≡ opening_text ++ events_of_cycles 0 cycles
cycles-events cycles all =
    events-append nothing_heard cycles_header (flat_map cycle_line cycles)
    ∙ ap (λ (e : List ℕ). e ++ events_in (heard_after nothing_heard cycles_header) (flat_map cycle_line cycles)) header-events
    ∙ ap (λ (h : Heard). opening_text ++ events_in h (flat_map cycle_line cycles)) header-heard
    ∙ ap (λ (e : List ℕ). opening_text ++ e) (lines-events cycles all 0)
