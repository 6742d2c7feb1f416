-- What a heap makes of its tickets where one comes to watch, where one is told, and where a command or
-- a collection is done.
use Rattle.std.proofs.Common.{◌≡◌, ◌≢◌, ◌↔◌, Bool, true, false, ℕ, zero, suc, ◌+◌, ◌<◌, inl, inr, if◌then◌else◌, List, [], ◌∷◌, length, get_or, set, replicate, get_or-set_same, get_or-set_other, Option, Some, None, Result, Ok, Err, refl, sym, ap, subst, ◌∙◌, arith}
use Rattle.std.specs.Prelude.{◌&&◌, nat_lt, slice_get, is_ok, IfSome, IfNone, IsOk, OnErr}
use Rattle.std.proofs.lemmas.Bool.{cases_lt}
use Rattle.std.proofs.lemmas.List.{get_or_past}
use Rattle.std.proofs.lemmas.Option.{get_or_from_slice_get, none-some, same_Some, slice_get_within}
use Rattle.rh_layout.specs.declared.value.Value.{Value}
use Rattle.rh_layout.specs.declared.value.Value.TheVariants.{Nil, Int, Ref}
use Rattle.rh_layout.specs.declared.command.Command.{Command}
use Rattle.rh_layout.specs.declared.command.Reply.{Reply}
use Rattle.rh_layout.specs.declared.command.RootId.{RootId}
use Rattle.rh_layout.specs.declared.refusal.Refusal.{Refusal}
use Rattle.rh_layout.specs.Root.{has_root, may_use}
use Rattle.rh_watches.specs.declared.watch.Watch.TheVariants.{Free, On, Gone}
use Rattle.rh_watches.specs.Watches.{WatchTable, least_free, ticket_at, told_first, with_room, with_told, with_watch}
use Rattle.rh_model.specs.Graph.{root_value}
use Rattle.rh_model.specs.Reach.{Reached}
use Rattle.rh_mutator.specs.Mutator.{graph_of}
use Rattle.rh_core.specs.declared.errors.WatchError.{WatchError}
use Rattle.rh_core.specs.declared.errors.WatchError.TheVariants as watch_errors
use Rattle.rh_core.specs.declared.outcomes.Flipped.{Flipped}
use Rattle.rh_core.specs.Commands.{heap_step}
use Rattle.rh_core.specs.Heap.{HeapState, IsWellFormed}
use Rattle.rh_pace.specs.declared.errors.EpochsSpent.{EpochsSpent}
use Rattle.rh_core.specs.Watching.{next_gone_step, watch_at, watch_by, watch_step, watchable, watched_address, with_watch_room, with_watches}
use Rattle.rh_pace.specs.Collecting.{collect_step}
use Rattle.rh_pace.specs.Paced.{PacedState}
use Rattle.rh_growing.specs.Calls.{IsGrowingCall}
use Rattle.rh_growing.specs.Growing.{GrowingState, growing_collect, growing_heap, growing_step}
use Rattle.rh_growing.specs.declared.growth.Growth.{Growth}
use Rattle.rh_growing.specs.Watching.{with_heap}
use Rattle.rh_growing.proofs.Insists.{collect-none}
use Rattle.uses.specs.Files.{AreFiles, FilesState, IsClosed, IsOpened, IsSwept, TicketsFollow, file_at, files_open, files_state, ticket_of, tickets_of, once, times_open}
use Rattle.uses.proofs.FileTables.{AreFiles-new, AreFiles-set, IsSweeping, IsSweeping-next, file-read, file-within, filled-left, free-gone, sweeping-closed, sweeping-kept, times-joined, times-left}

-- what an owner watches is what the root holds
held : (b1 b2 b3 : Bool) (v : Value) (a : ℕ)
    → (if b1 && b2 then (if b3 then watched_address v else Err watch_errors.NotYours) else Err watch_errors.NoRoot) ≡ Ok a
    → (if b2 then v else Nil) ≡ Ref a
held true true true (Ref n) a is = cc
held true true true Nil a is = cc
held true true true (Int n) a is = cc
held true true false v a is = cc
held true false b3 v a is = cc
held false b2 b3 v a is = cc

pub watchable-held : (h : HeapState) (owner : ℕ) (root : RootId) (a : ℕ) → watchable h owner root ≡ Ok a → root_value (graph_of h.mutators) root ≡ Ref a
watchable-held h owner root a is = held (nat_lt owner h.mutators.roots.owners) (has_root h.mutators.roots.owners h.mutators.roots.slots root) (may_use owner root) _ a is

-- What a watch comes to, where it is given a ticket.
pub record IsWatched (h : HeapState) (owner : ℕ) (root : RootId) (ticket : ℕ) : Type 0 where
  pub address : ℕ
  pub holds : root_value (graph_of h.mutators) root ≡ Ref address
  pub least : least_free h.watches.tickets ≡ Some ticket
  pub is : (watch_step h owner root).0 ≡ with_watches h (with_watch h.watches ticket address)

given_ticket : (h : HeapState) (a : ℕ) (o : Option ℕ) (ticket : ℕ) → (watch_by h a o).1 ≡ Ok ticket → (o ≡ Some ticket) × ((watch_by h a o).0 ≡ with_watches h (with_watch h.watches ticket a))
given_ticket h a (Some n) ticket is = let same : n ≡ ticket = cc in (ap Some same, ap (λ k. with_watches h (with_watch h.watches k a)) same)
given_ticket h a None ticket is = cc

given_watch : (h : HeapState) (r : Result ℕ WatchError) (ticket : ℕ) → (watch_at h r).1 ≡ Ok ticket → (a : ℕ) × (r ≡ Ok a) × (least_free h.watches.tickets ≡ Some ticket) × ((watch_at h r).0 ≡ with_watches h (with_watch h.watches ticket a))
given_watch h (Ok a) ticket is = let by = given_ticket h a (least_free h.watches.tickets) ticket is in (a, refl, by.0, by.1)
given_watch h (Err why) ticket is = cc

pub watch_step-given : (h : HeapState) (owner : ℕ) (root : RootId) (ticket : ℕ) → (watch_step h owner root).1 ≡ Ok ticket → IsWatched h owner root ticket
unfolding watch_step
watch_step-given h owner root ticket is =
    let by = given_watch h (watchable h owner root) ticket is in
    record { address = by.0; holds = watchable-held h owner root by.0 by.1; least = by.2; is = by.3 }

refused_ticket : (h : HeapState) (a : ℕ) (o : Option ℕ) (why : WatchError) → (watch_by h a o).1 ≡ Err why → (watch_by h a o).0 ≡ h
refused_ticket h a (Some n) why is = cc
refused_ticket h a None why is = refl

refused_watch : (h : HeapState) (r : Result ℕ WatchError) (why : WatchError) → (watch_at h r).1 ≡ Err why → (watch_at h r).0 ≡ h
refused_watch h (Ok a) why is = refused_ticket h a (least_free h.watches.tickets) why is
refused_watch h (Err other) why is = refl

pub watch_step-unchanged : (h : HeapState) (owner : ℕ) (root : RootId) (why : WatchError) → (watch_step h owner root).1 ≡ Err why → (watch_step h owner root).0 ≡ h
unfolding watch_step
watch_step-unchanged h owner root why is = refused_watch h (watchable h owner root) why is

-- What becomes of the table where a ticket comes to watch.
module _ (h : HeapState) (owner : ℕ) (root : RootId) (ticket : ℕ) (is : (watch_step h owner root).1 ≡ Ok ticket)
    (least : (i : ℕ) → (least_free h.watches.tickets ≡ Some i) → slice_get h.watches.tickets i ≡ Some Free) where
  pub given : IsWatched h owner root ticket
  given = watch_step-given h owner root ticket is

  abbrev pub after : WatchTable
  after = (watch_step h owner root).0.watches

  pub watched-within : ticket < length h.watches.tickets
  watched-within = slice_get_within h.watches.tickets ticket Free (least ticket given.least)

  pub watched-free : ticket_at h.watches ticket ≡ Free
  watched-free = get_or_from_slice_get h.watches.tickets ticket Free Free (least ticket given.least)

  pub watched-tickets : after.tickets ≡ set h.watches.tickets ticket (On given.address)
  watched-tickets = ap (λ (k : HeapState). k.watches.tickets) given.is

  pub watched-on : (a : ℕ) × (root_value (graph_of h.mutators) root ≡ Ref a) × (ticket_at after ticket ≡ On a)
  watched-on = (given.address, given.holds, ap (λ l. get_or l ticket Free) watched-tickets ∙ get_or-set_same h.watches.tickets ticket (On given.address) Free watched-within)

  pub watched-others : (n : ℕ) → n ≢ ticket → ticket_at after n ≡ ticket_at h.watches n
  watched-others n other = ap (λ l. get_or l n Free) watched-tickets ∙ get_or-set_other h.watches.tickets ticket n (On given.address) Free other

  pub watched-files : (table : List (Option ℕ)) (file : ℕ) → AreFiles h.watches table → AreFiles after (set table ticket (Some file))
  watched-files table file files =
      AreFiles-set h.watches after table ticket (On given.address) (Some file) files watched-within watched-tickets
      (λ (same : Some file ≡ None). cc, λ (same : On given.address ≡ Free). cc)

-- And where one is told.
told-tickets : (t : WatchTable) (ticket : ℕ) → slice_get t.gone 0 ≡ Some ticket → (with_told t).tickets ≡ set t.tickets ticket Free
told-tickets t ticket is = by t.gone is
  where
    by : (gone : List ℕ) → slice_get gone 0 ≡ Some ticket → (told_first t.tickets gone).tickets ≡ set t.tickets ticket Free
    by [] none = cc
    by (n ∷ rest) some = ap (λ k. set t.tickets k Free) (same_Some n ticket some)

pub told-within : (t : WatchTable) (ticket : ℕ) → ticket_at t ticket ≡ Gone → ticket < length t.tickets
told-within t ticket gone = elim (cases_lt ticket (length t.tickets)) [
  | inl below ↦ below
  | inr past ↦ absurd (free-gone (sym (get_or_past t.tickets ticket Free past) ∙ gone))
]

pub told-files : (t : WatchTable) (table : List (Option ℕ)) (ticket : ℕ) → AreFiles t table → slice_get t.gone 0 ≡ Some ticket → ticket_at t ticket ≡ Gone
    → AreFiles (with_told t) (set table ticket None)
told-files t table ticket files is gone =
    AreFiles-set t (with_told t) table ticket Free None files (told-within t ticket gone) (told-tickets t ticket is) (λ _. refl, λ _. refl)

-- a ticket whose object is gone has a file
pub gone-file : (t : WatchTable) (table : List (Option ℕ)) (ticket : ℕ) → AreFiles t table → ticket_at t ticket ≡ Gone → file_at table ticket ≢ None
gone-file t table ticket files gone none = free-gone (sym ((files.free ticket).0 none) ∙ gone)

-- Files.

pub on_err : {X E : Type 0} {P : Type 0} → (r : Result X E) → P → OnErr r P
on_err (Ok x) p = tt
on_err (Err e) p = p

pub if_none : {X : Type 0} {P : Type 0} → (o : Option X) → P → IfNone o P
if_none None p = p
if_none (Some x) p = tt

-- a refused watch changes nothing
pub watch-refused : (s new : GrowingState) (owner : ℕ) (root : RootId) (why : WatchError) → new ≡ with_heap s (watch_step s.paced.heap owner root).0 → Err why ≡ (watch_step s.paced.heap owner root).1 → new ≡ s
watch-refused s new owner root why state answer = state ∙ ap (λ (h : HeapState). with_heap s h) (watch_step-unchanged s.paced.heap owner root why (sym answer))

-- one that isn't refused opens a file
module _ (s new : GrowingState) (table : List (Option ℕ)) (owner : ℕ) (root : RootId) (ticket file : ℕ) (files : AreFiles s.paced.heap.watches table)
    (state : new ≡ with_heap s (watch_step s.paced.heap owner root).0) (answer : Ok ticket ≡ (watch_step s.paced.heap owner root).1)
    (least : (i : ℕ) → (least_free s.paced.heap.watches.tickets ≡ Some i) → slice_get s.paced.heap.watches.tickets i ≡ Some Free) where
  tickets_new : new.paced.heap.watches ≡ (watch_step s.paced.heap owner root).0.watches
  tickets_new = ap (λ (k : GrowingState). k.paced.heap.watches) state

  pub added-within : ticket < length table
  added-within = omega (arith, watched-within s.paced.heap owner root ticket (sym answer) least, files.places)

  pub added-files : AreFiles new.paced.heap.watches (set table ticket (Some file))
  added-files = subst (λ (t : WatchTable). AreFiles t (set table ticket (Some file))) (sym tickets_new) (watched-files s.paced.heap owner root ticket (sym answer) least table file files)

  pub added-opened : IsOpened (files_state s table) (files_state new (set table ticket (Some file))) root ticket file
  added-opened =
      let on = watched-on s.paced.heap owner root ticket (sym answer) least in
      record {
        free = watched-free s.paced.heap owner root ticket (sym answer) least;
        watches = (on.0, on.1, ap (λ (t : WatchTable). ticket_at t ticket) tickets_new ∙ on.2);
        table = refl;
        others = λ n other. ap (λ (t : WatchTable). ticket_at t n) tickets_new ∙ watched-others s.paced.heap owner root ticket (sym answer) least n other;
      }

  pub added-times : (n : ℕ) → times_open n (set table ticket (Some file)) ≡ once n file + times_open n table
  added-times n = times-joined n ticket file table added-within ((files.free ticket).1 (watched-free s.paced.heap owner root ticket (sym answer) least))

-- What is told.

next_gone-watches : (h : HeapState) → (next_gone_step h).0 ≡ with_watches h (with_told h.watches)
unfolding next_gone_step
next_gone-watches h = refl

next_gone-first : (h : HeapState) → (next_gone_step h).1 ≡ slice_get h.watches.gone 0
unfolding next_gone_step
next_gone-first h = refl

first_none : (gone : List ℕ) → slice_get gone 0 ≡ None → (k i : ℕ) → slice_get gone k ≡ Some i → ⊥
first_none [] none zero i some = cc
first_none [] none (suc k) i some = cc
first_none (n ∷ rest) none k i some = cc

module _ (s new : GrowingState) (state : new ≡ with_heap s (next_gone_step s.paced.heap).0) where
  -- where none is told nothing changes, and none is gone
  pub untold-same : None ≡ (next_gone_step s.paced.heap).1 → (slice_get s.paced.heap.watches.gone 0 ≡ None → with_told s.paced.heap.watches ≡ s.paced.heap.watches) → new ≡ s
  untold-same answer none =
      state ∙ ap (λ (h : HeapState). with_heap s h) (next_gone-watches s.paced.heap)
      ∙ ap (λ (t : WatchTable). with_heap s (with_watches s.paced.heap t)) (none (sym (answer ∙ next_gone-first s.paced.heap)))

  pub untold-none : None ≡ (next_gone_step s.paced.heap).1
      → ((i : ℕ) → (ticket_at s.paced.heap.watches i ≡ Gone) ↔ ((k : ℕ) × (slice_get s.paced.heap.watches.gone k ≡ Some i)))
      → (i : ℕ) → ticket_at s.paced.heap.watches i ≢ Gone
  untold-none answer to_tell i gone =
      let at = (to_tell i).0 gone in
      first_none s.paced.heap.watches.gone (sym (answer ∙ next_gone-first s.paced.heap)) at.0 i at.1

  module _ (table : List (Option ℕ)) (ticket : ℕ) (files : AreFiles s.paced.heap.watches table) (answer : Some ticket ≡ (next_gone_step s.paced.heap).1)
      (told : slice_get s.paced.heap.watches.gone 0 ≡ Some ticket → (ticket_at s.paced.heap.watches ticket ≡ Gone) × (ticket_at (with_told s.paced.heap.watches) ticket ≡ Free))
      (others : (n : ℕ) → slice_get s.paced.heap.watches.gone 0 ≡ Some ticket → n ≢ ticket → ticket_at (with_told s.paced.heap.watches) n ≡ ticket_at s.paced.heap.watches n) where
    first : slice_get s.paced.heap.watches.gone 0 ≡ Some ticket
    first = sym (answer ∙ next_gone-first s.paced.heap)

    tickets_told : new.paced.heap.watches ≡ with_told s.paced.heap.watches
    tickets_told = ap (λ (k : GrowingState). k.paced.heap.watches) state ∙ ap (λ (h : HeapState). h.watches) (next_gone-watches s.paced.heap)

    pub closed-within : ticket < length table
    closed-within = omega (arith, told-within s.paced.heap.watches ticket (told first).0, files.places)

    pub closed-files : AreFiles new.paced.heap.watches (set table ticket None)
    closed-files = subst (λ (t : WatchTable). AreFiles t (set table ticket None)) (sym tickets_told) (told-files s.paced.heap.watches table ticket files first (told first).0)

    closed_is : (file : ℕ) → file_at table ticket ≡ Some file → IsClosed (files_state s table) (files_state new (set table ticket None)) ticket file
    closed_is file some = record {
      gone = (told first).0;
      had = some;
      free = ap (λ (t : WatchTable). ticket_at t ticket) tickets_told ∙ (told first).1;
      table = refl;
      others = λ n other. ap (λ (t : WatchTable). ticket_at t n) tickets_told ∙ others n first other;
    }

    pub closed-is : (o : Option ℕ) → o ≡ get_or table ticket o → IfSome o (λ file. (n : ℕ) × IsClosed (files_state s table) (files_state new (set table ticket None)) n file)
    closed-is None is = tt
    closed-is (Some file) is = (ticket, closed_is file (sym (file-read table ticket (Some file) closed-within is)))

    pub closed-times : (o : Option ℕ) → o ≡ get_or table ticket o → IfSome o (λ file. (n : ℕ) → times_open n table ≡ once n file + times_open n (set table ticket None))
    closed-times None is = tt
    closed-times (Some file) is = λ n. times-left n ticket file table closed-within (sym (file-read table ticket (Some file) closed-within is))

    -- it has a file
    pub closed-some : (P : Type 0) (o : Option ℕ) → o ≡ get_or table ticket o → IfNone o P
    closed-some P None is = absurd (gone-file s.paced.heap.watches table ticket files (told first).0 (sym (file-read table ticket None closed-within is)))
    closed-some P (Some file) is = tt

-- one more is closed by a sweep
pub sweeping-closes : (old now next : FilesState) (r : Option ℕ) (file : ℕ) → r ≡ Some file → IfSome r (λ f. (n : ℕ) × IsClosed now next n f)
    → IsSweeping (tickets_of old) (tickets_of now) old.table now.table
    → IsSweeping (tickets_of old) (tickets_of next) old.table next.table × (files_open now.table ≡ 1 + files_open next.table)
sweeping-closes old now next (Some f) file is closed sweeping =
    let ticket = closed.0 in
    let one = closed.1 in
    let within = file-within now.table ticket f one.had in
    let table : set now.table ticket None ≡ next.table = sym one.table in (
      subst (λ files. IsSweeping (tickets_of old) (tickets_of next) old.table files) table
          (IsSweeping-next (tickets_of old) (tickets_of now) (tickets_of next) old.table now.table ticket sweeping within one.gone one.free one.others),
      filled-left ticket f now.table within one.had ∙ ap (λ files. 1 + files_open files) table,
    )
sweeping-closes old now next None file is closed sweeping = absurd (none-some file is)

-- a sweep ends
pub swept : (old now new : FilesState) → IsSweeping (tickets_of old) (tickets_of now) old.table now.table → new ≡ now → ((n : ℕ) → ticket_of now n ≢ Gone) → IsSwept old new
swept old now new sweeping same none =
    subst (λ (k : FilesState). IsSwept old k) (sym same) (record {
      closed = sweeping-closed (tickets_of old) (tickets_of now) old.table now.table sweeping none;
      kept = sweeping-kept (tickets_of old) (tickets_of now) old.table now.table sweeping;
    })

-- a new table of files, for a new heap with room for tickets
pub made-files : (g : Growth) (s new : GrowingState) (tickets : ℕ) (table : List (Option ℕ)) → s ≡ growing_heap g → new ≡ with_heap s (with_watch_room s.paced.heap tickets) → table ≡ replicate tickets None
    → AreFiles new.paced.heap.watches table
made-files g s new tickets table is room none =
    AreFiles-new tickets new.paced.heap.watches table
    (ap (λ (k : GrowingState). k.paced.heap.watches) room ∙ ap (λ (k : GrowingState). with_room tickets k.paced.heap.watches) is) none

-- a refused collection changes nothing
pub collect-refused : (s new : GrowingState) (table : List (Option ℕ)) (r : Result Flipped EpochsSpent) → (given : Bool) × (new ≡ (growing_collect given 0 s).0) → r ≡ (collect_step s.paced).1
    → OnErr r (files_state new table ≡ files_state s table)
collect-refused s new table (Ok flipped) state is = tt
collect-refused s new table (Err why) state is =
    let same : new ≡ s = state.1 ∙ collect-none state.0 0 s (sym (ap is_ok is)) in
    ap (λ (k : GrowingState). files_state k table) same

-- a refused command changes nothing
pub refused-same : {X E : Type 0} → (s new : GrowingState) (table : List (Option ℕ)) (r : Result X E) → OnErr r (new ≡ s) → OnErr r (files_state new table ≡ files_state s table)
refused-same s new table (Ok x) same = tt
refused-same s new table (Err why) same = ap (λ (k : GrowingState). files_state k table) same

-- The heap that a growing heap lends is well formed, so its own is.
pub lent-well : (s : GrowingState) (p : PacedState) (h : HeapState) → p ≡ s.paced → h ≡ p.heap → IsWellFormed h → IsWellFormed s.paced.heap
lent-well s p h paced heap well = subst (λ (k : HeapState). IsWellFormed k) (heap ∙ ap (λ (q : PacedState). q.heap) paced) well

-- Tickets follow what is reached once a command is done, and as a collection begins.
pub command-follows : (s new : GrowingState) (owner : ℕ) (command : Command) (told : Result Reply Refusal)
    → ((given : Bool) → TicketsFollow (graph_of (heap_step s.paced.heap owner command).0.mutators) s.paced.heap.watches (growing_step given s owner command).0.paced.heap.watches)
    → (given : Bool) × IsGrowingCall given s new owner command told
    → TicketsFollow (graph_of (heap_step s.paced.heap owner command).0.mutators) s.paced.heap.watches new.paced.heap.watches
command-follows s new owner command told follow call =
    subst (λ (k : GrowingState). TicketsFollow (graph_of (heap_step s.paced.heap owner command).0.mutators) s.paced.heap.watches k.paced.heap.watches) (sym call.1.state) (follow call.0)

module _ (s new : GrowingState) (r : Result Flipped EpochsSpent) (state : (given : Bool) × (new ≡ (growing_collect given 0 s).0)) (answer : r ≡ (collect_step s.paced).1) where
  pub collect-follows : ((given : Bool) (need : ℕ) → TicketsFollow (graph_of s.paced.heap.mutators) s.paced.heap.watches (growing_collect given need s).0.paced.heap.watches)
      → TicketsFollow (graph_of s.paced.heap.mutators) s.paced.heap.watches new.paced.heap.watches
  collect-follows follow = subst (λ (k : GrowingState). TicketsFollow (graph_of s.paced.heap.mutators) s.paced.heap.watches k.paced.heap.watches) (sym state.1) (follow state.0 0)

  -- where no cycle was on it tells each ticket whose object isn't reached
  pub collect-told : (IsOk (collect_step s.paced).1 → (given : Bool) (need ticket a : ℕ) → ticket_at s.paced.heap.watches ticket ≡ On a
      → (ticket_at (growing_collect given need s).0.paced.heap.watches ticket ≡ Gone) ↔ ¬ Reached (graph_of s.paced.heap.mutators) a)
      → IsOk r → (ticket a : ℕ) → ticket_at s.paced.heap.watches ticket ≡ On a
      → (ticket_at new.paced.heap.watches ticket ≡ Gone) ↔ ¬ Reached (graph_of s.paced.heap.mutators) a
  collect-told gone ok ticket a on =
      subst (λ (k : GrowingState). (ticket_at k.paced.heap.watches ticket ≡ Gone) ↔ ¬ Reached (graph_of s.paced.heap.mutators) a) (sym state.1)
      (gone (subst (λ (o : Result Flipped EpochsSpent). IsOk o) answer ok) state.0 0 ticket a on)
