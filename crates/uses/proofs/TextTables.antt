-- Texts by place: what they and the files keep where a text is put, where one is freed, and where the
-- files alone change.
use Rattle.std.proofs.Common.{◌≡◌, ◌≢◌, ℕ, zero, suc, ◌+◌, ◌<◌, ◌≤◌, ◌⊎◌, inl, inr, if◌then◌else◌, List, [], ◌∷◌, length, get_or, map, set, replicate, Option, Some, None, Result, Ok, Err, refl, sym, ap, subst, ◌∙◌, arith, length-set, get_or-set_same, get_or-set_other}
use Rattle.std.specs.Prelude.{IfSome, OnErr, is_some, option_map, string_bytes}
use Rattle.std.specs.declared.string.String.{String}
use Rattle.std.proofs.lemmas.Bool.{cases_eq, cases_lt, eq-eqb, ne_eqb}
use Rattle.std.proofs.lemmas.List.{get_or_past, length-map, length-replicate, map-set}
use Rattle.std.proofs.lemmas.List.Sums.{sum_by-cons}
use Rattle.rh_layout.specs.declared.command.RootId.{RootId}
use Rattle.rh_watches.specs.declared.watch.Watch.TheVariants.{Gone}
use Rattle.uses.specs.Files.{FilesState, IsClosed, IsOpened, IsSwept, file_at, files_open, is_file, once, ticket_of, tickets_of, times_open}
use Rattle.uses.specs.Texts.{AreTexts, IsFreed, IsPut, TextsState, text_at, texts_state}
use Rattle.uses.proofs.FileTables.{IsSweeping, file-within, filled-most as open-most, one_if, times-left}
use Rattle.uses.proofs.FileSteps.{sweeping-closes, swept}

-- 1 where there is a text
abbrev pub filled : Option (List ℕ) → ℕ
filled o = if is_some o then 1 else 0

filled-most : (o : Option (List ℕ)) → filled o ≤ 1
filled-most None = omega arith
filled-most (Some text) = omega arith

once-same : (n : ℕ) → once n n ≡ 1
once-same n = ap (λ b. one_if b) (eq-eqb n n refl)

once-other : (n m : ℕ) → n ≢ m → once n m ≡ 0
once-other n m other = ap (λ b. one_if b) (ne_eqb m n (λ same. other (sym same)))

-- Which tickets have a place.

times-one : (place i : ℕ) (table : List (Option ℕ)) → file_at table i ≡ Some place → times_open place table ≡ 1 + times_open place (set table i None)
times-one place i table some = omega (arith, times-left place i place table (file-within table i place some) some, once-same place)

pub same-ticket : (place i j : ℕ) (table : List (Option ℕ)) → times_open place table ≤ 1 → file_at table i ≡ Some place → file_at table j ≡ Some place → i ≡ j
same-ticket place i j table few at_i at_j = elim (cases_eq j i) [
  | inl same ↦ sym same
  | inr other ↦
      let one = times-one place i table at_i in
      let two = times-one place j (set table i None) (get_or-set_other table i j None None other ∙ at_j) in
      absurd (omega (arith, few, one, two))
]

pub has-ticket : (place : ℕ) (table : List (Option ℕ)) → 0 < times_open place table → (i : ℕ) × (file_at table i ≡ Some place)
has-ticket place [] some = absurd (omega (arith, some))
has-ticket place (None ∷ table) some =
    let rest = has-ticket place table (omega (arith, some, sum_by-cons (λ o. one_if (is_file place o)) None table)) in
    (suc rest.0, rest.1)
has-ticket place (Some n ∷ table) some = elim (cases_eq n place) [
  | inl same ↦ (0, ap Some same)
  | inr other ↦
      let none : one_if (is_file place (Some n)) ≡ 0 = ap (λ b. one_if b) (ne_eqb n place other) in
      let rest = has-ticket place table (omega (arith, some, sum_by-cons (λ o. one_if (is_file place o)) (Some n) table, none)) in
      (suc rest.0, rest.1)
]

-- A new table of texts.

none-at : (Z : Type 0) → (n i : ℕ) → get_or (map (option_map string_bytes) (replicate {A = Option (String Z)} n None)) i None ≡ None
none-at Z zero i = get_or_past [] i None (omega arith)
none-at Z (suc n) zero = refl
none-at Z (suc n) (suc i) = none-at Z n i

pub text_at-new : {Z : Type 0} → (files : FilesState) (n : ℕ) (texts : List (Option (String Z))) → texts ≡ replicate n None → (i : ℕ) → text_at (texts_state files texts) i ≡ None
text_at-new {Z} files n texts is i = ap (λ (l : List (Option (String Z))). text_at (texts_state files l) i) is ∙ none-at Z n i

pub length-new : {Z : Type 0} → (files : FilesState) (n : ℕ) (texts : List (Option (String Z))) → texts ≡ replicate n None → length (texts_state files texts).texts ≡ n
length-new files n texts is = length-map texts (option_map string_bytes) ∙ ap length is ∙ length-replicate n None

pub AreTexts-new : {Z : Type 0} → (files : FilesState) (n : ℕ) (texts : List (Option (String Z))) → texts ≡ replicate n None → length files.table ≡ n
    → ((file : ℕ) → times_open file files.table ≡ 0) → AreTexts (texts_state files texts)
AreTexts-new files n texts is room none = record {
  places = length-new files n texts is ∙ sym room;
  times = λ i. none i ∙ sym (ap filled (text_at-new files n texts is i));
}

-- A place gets another text, or none.
AreTexts-set : (s : TextsState) (files : FilesState) (place : ℕ) (o : Option (List ℕ)) → AreTexts s → place < length s.texts → length files.table ≡ length s.files.table
    → times_open place files.table ≡ filled o → ((n : ℕ) → n ≢ place → times_open n files.table ≡ times_open n s.files.table)
    → AreTexts (record { files = files; texts = set s.texts place o })
AreTexts-set s files place o are here room at others = record {
  places = length-set s.texts place o ∙ are.places ∙ sym room;
  times = λ n. elim (cases_eq n place) [
    | inl same ↦
        let text : get_or (set s.texts place o) n None ≡ o = ap (λ k. get_or (set s.texts place o) k None) same ∙ get_or-set_same s.texts place o None here in
        ap (λ k. times_open k files.table) same ∙ at ∙ sym (ap filled text)
    | inr other ↦ others n other ∙ are.times n ∙ sym (ap filled (get_or-set_other s.texts place n o None other))
  ];
}

-- Files are another state of the same table: texts stay as they are.
pub AreTexts-kept : {Z : Type 0} → (files new : FilesState) (texts : List (Option (String Z))) → new.table ≡ files.table → AreTexts (texts_state files texts) → AreTexts (texts_state new texts)
AreTexts-kept files new texts same are = record {
  places = are.places ∙ sym (ap length same);
  times = λ place. ap (λ table. times_open place table) same ∙ are.times place;
}

-- a refused call changes nothing
pub refused-same : {X E Z : Type 0} → (files new : FilesState) (texts : List (Option (String Z))) (r : Result X E) → OnErr r (new ≡ files) → OnErr r (texts_state new texts ≡ texts_state files texts)
refused-same files new texts (Ok x) same = tt
refused-same files new texts (Err why) same = ap (λ (s : FilesState). texts_state s texts) same

-- files are as few as places
pub files-few : (s : TextsState) → AreTexts s → files_open s.files.table ≤ length s.texts
files-few s are = omega (arith, are.places, open-most s.files.table)

-- the same of the texts themselves
set-texts : {Z : Type 0} → (files : FilesState) (texts : List (Option (String Z))) (place : ℕ) (o : Option (String Z)) (b : Option (List ℕ)) → option_map string_bytes o ≡ b
    → (texts_state files (set texts place o)).texts ≡ set (map (option_map string_bytes) texts) place b
set-texts files texts place o b is = map-set (option_map string_bytes) texts place o ∙ ap (λ x. set (map (option_map string_bytes) texts) place x) is

-- A text is put.
module _ {Z : Type 0} (old new : FilesState) (texts : List (Option (String Z))) (root : RootId) (ticket place : ℕ) (kept : String Z) (text : List ℕ)
    (are : AreTexts (texts_state old texts)) (here : place < length (texts_state old texts).texts) (free : text_at (texts_state old texts) place ≡ None)
    (opened : IsOpened old new root ticket place) (times : (n : ℕ) → times_open n new.table ≡ once n place + times_open n old.table)
    (is : string_bytes kept ≡ text) where
  put_texts : (texts_state new (set texts place (Some kept))).texts ≡ set (map (option_map string_bytes) texts) place (Some text)
  put_texts = set-texts new texts place (Some kept) (Some text) (ap Some is)

  pub put-kept : AreTexts (texts_state new (set texts place (Some kept)))
  put-kept =
      let empty : filled (text_at (texts_state old texts) place) ≡ 0 = ap filled free in
      subst (λ l. AreTexts (record { files = new; texts = l })) (sym put_texts)
      (AreTexts-set (texts_state old texts) new place (Some text) are here (ap length opened.table ∙ length-set old.table ticket (Some place))
      (omega (arith, times place, once-same place, are.times place, empty)) (λ n other. omega (arith, times n, once-other n place other)))

  pub put-is : IsPut (texts_state old texts) (texts_state new (set texts place (Some kept))) root place text
  put-is = record { free = free; texts = put_texts; opened = (ticket, opened) }

-- A text is freed.
module _ (s : TextsState) (ticket place : ℕ) (are : AreTexts s) (had : file_at s.files.table ticket ≡ Some place) where
  full : filled (text_at s place) ≡ 1
  full = omega (arith, times-one place ticket s.files.table had, are.times place, filled-most (text_at s place))

  pub place-within : place < length s.texts
  place-within = elim (cases_lt place (length s.texts)) [
    | inl below ↦ below
    | inr past ↦
        let none : filled (text_at s place) ≡ 0 = ap filled (get_or_past s.texts place None past) in
        absurd (omega (arith, full, none))
  ]

module _ {Z : Type 0} (old new : FilesState) (texts : List (Option (String Z))) (are : AreTexts (texts_state old texts)) where
  pub freed-within : (o : Option ℕ) (place : ℕ) → o ≡ Some place → IfSome o (λ file. (ticket : ℕ) × IsClosed old new ticket file) → place < length texts
  freed-within None place is closed = cc
  freed-within (Some file) place is closed =
      let same : file ≡ place = cc in
      let within = place-within (texts_state old texts) closed.0 file are closed.1.had in
      omega (arith, within, length-map texts (option_map string_bytes), same)

  freed_kept : (ticket place : ℕ) → IsClosed old new ticket place → ((n : ℕ) → times_open n old.table ≡ once n place + times_open n new.table) → AreTexts (texts_state new (set texts place None))
  freed_kept ticket place closed times =
      subst (λ l. AreTexts (record { files = new; texts = l })) (sym (set-texts new texts place None None refl))
      (AreTexts-set (texts_state old texts) new place None are (place-within (texts_state old texts) ticket place are closed.had)
      (ap length closed.table ∙ length-set old.table ticket None)
      (omega (arith, times place, once-same place, are.times place, full (texts_state old texts) ticket place are closed.had))
      (λ n other. omega (arith, times n, once-other n place other)))

  pub freed-kept : (o : Option ℕ) (place : ℕ) → o ≡ Some place → IfSome o (λ file. (ticket : ℕ) × IsClosed old new ticket file)
      → IfSome o (λ file. (n : ℕ) → times_open n old.table ≡ once n file + times_open n new.table) → AreTexts (texts_state new (set texts place None))
  freed-kept None place is closed times = cc
  freed-kept (Some file) place is closed times =
      let same : file ≡ place = cc in
      subst (λ k. AreTexts (texts_state new (set texts k None))) same (freed_kept closed.0 file closed.1 times)

pub freed-texts : {Z : Type 0} → (files : FilesState) (texts : List (Option (String Z))) (place : ℕ) → (texts_state files (set texts place None)).texts ≡ set (map (option_map string_bytes) texts) place None
freed-texts files texts place = set-texts files texts place None None refl

-- Texts are freed one after the other: each is as it was, or there no more.
abbrev pub IsFreeing : TextsState → TextsState → Type 0
IsFreeing old now =
    IsSweeping (tickets_of old.files) (tickets_of now.files) old.files.table now.files.table
    × ((place : ℕ) → (text_at now place ≡ text_at old place) ⊎ (text_at now place ≡ None))

-- one more is freed
pub freeing-next : (old now next : TextsState) (r : Option ℕ) (place : ℕ) → r ≡ Some place → IfSome r (λ file. (ticket : ℕ) × IsClosed now.files next.files ticket file)
    → IfSome r (λ file. next.texts ≡ set now.texts file None) → AreTexts now → IsFreeing old now
    → IsFreeing old next × (files_open now.files.table ≡ 1 + files_open next.files.table)
freeing-next old now next None place is closed texts are freeing = cc
freeing-next old now next (Some file) place is closed texts are freeing =
    let more = sweeping-closes old.files now.files next.files (Some file) file refl closed freeing.0 in
    let here = place-within now closed.0 file are closed.1.had in (
      (
        more.0,
        λ n. elim (cases_eq n file) [
          | inl same ↦ inr (ap (λ l. get_or l n None) texts ∙ ap (λ k. get_or (set now.texts file None) k None) same ∙ get_or-set_same now.texts file None None here)
          | inr other ↦
              let stays : text_at next n ≡ text_at now n = ap (λ l. get_or l n None) texts ∙ get_or-set_other now.texts file n None None other in
              elim (freeing.1 n) [
                | inl is ↦ inl (stays ∙ is)
                | inr gone ↦ inr (stays ∙ gone)
              ]
        ],
      ),
      more.1,
    )

-- all are freed
module _ (old now : TextsState) (were : AreTexts old) (are : AreTexts now) (freeing : IsFreeing old now) (none : (n : ℕ) → ticket_of now.files n ≢ Gone) where
  sweeps : IsSwept old.files now.files
  sweeps = swept old.files now.files now.files freeing.0 refl none

  few : (place : ℕ) → times_open place old.files.table ≤ 1
  few place = omega (arith, were.times place, filled-most (text_at old place))

  none_some : (file place : ℕ) → None ≡ Some place → ⊥
  none_some file place is = cc

  gone_text : (ticket place : ℕ) → file_at old.files.table ticket ≡ Some place → ticket_of old.files ticket ≡ Gone → (o : Option (List ℕ)) → o ≡ text_at now place → o ≡ None
  gone_text ticket place had gone None is = refl
  gone_text ticket place had gone (Some text) is =
      let one : times_open place now.files.table ≡ 1 = are.times place ∙ sym (ap filled is) in
      let has = has-ticket place now.files.table (omega (arith, one)) in
      elim (freeing.0 has.0) [
        | inl stays ↦
            let same = same-ticket place has.0 ticket old.files.table (few place) (sym stays.1 ∙ has.1) had in
            let still : file_at now.files.table ticket ≡ Some place = ap (λ k. file_at now.files.table k) (sym same) ∙ has.1 in
            absurd (none_some ticket place (sym (sweeps.closed ticket gone).1 ∙ still))
        | inr closed ↦ absurd (none_some ticket place (sym closed.2 ∙ has.1))
      ]

  kept_text : (ticket place : ℕ) → file_at old.files.table ticket ≡ Some place → ticket_of old.files ticket ≢ Gone → text_at now place ≡ text_at old place
  kept_text ticket place had on = elim (freeing.1 place) [
    | inl stays ↦ stays
    | inr gone ↦
        let empty : filled (text_at now place) ≡ 0 = ap filled gone in
        let still : file_at now.files.table ticket ≡ Some place = (sweeps.kept ticket on).1 ∙ had in
        absurd (omega (arith, empty, full now ticket place are still))
  ]

  pub freed-all : (new : TextsState) → new ≡ now → IsFreed old new
  freed-all new same = subst (λ (s : TextsState). IsFreed old s) (sym same) (record {
    swept = sweeps;
    freed = λ ticket place had gone. gone_text ticket place had gone (text_at now place) refl;
    kept = kept_text;
  })
