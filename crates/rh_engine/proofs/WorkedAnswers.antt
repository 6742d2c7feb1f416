-- The definitions at work: the texts of the answers to the lines of a cycle.
use Rattle.std.proofs.Common.{◌≡◌, [], ◌∷◌, Ok, Err, refl}
use Rattle.std.specs.Prelude.{◌++◌, true, false, codes}
use Rattle.std.specs.Fmt.{digits}
use Rattle.rh_layout.specs.declared.value.Value.TheVariants.{Nil}
use Rattle.rh_core.specs.declared.outcomes.Shaded.TheVariants as shades
use Rattle.rh_core.specs.declared.errors.BeginError.TheVariants as begins
use Rattle.rh_core.specs.declared.errors.DealError.TheVariants as deals
use Rattle.rh_core.specs.declared.errors.FlipError.TheVariants as flips
use Rattle.rh_core.specs.declared.errors.GiveError.TheVariants as gives
use Rattle.rh_core.specs.declared.errors.IdleError.TheVariants as idles
use Rattle.rh_core.specs.declared.errors.RecallError.TheVariants as recalls
use Rattle.rh_core.specs.declared.errors.ShadeError.TheVariants as shade_errors
use Rattle.rh_core.specs.declared.stat.Stat.{Stat}
use Rattle.rh_engine.specs.declared.engine.DealRefusal.TheVariants as deal_refusals
use Rattle.rh_engine.specs.declared.engine.GiveRefusal.TheVariants as give_refusals
use Rattle.rh_engine.specs.declared.engine.ResizeRefusal.TheVariants as resize_refusals
use Rattle.rh_engine.specs.declared.trays.JoinRefusal.TheVariants as join_refusals
use Rattle.rh_engine.specs.Trays.{Tray}
use Rattle.rh_engine.specs.CycleAnswers.{begin_text, shade_text, deal_text, give_text, join_text, flip_text, recall_text, abandon_text, idle_text, resize_text, tray_text, stat_text}

begun : begin_text (Ok 12) ≡ codes "cycle 12"
unfolding digits
begun = refl

begun_twice : begin_text (Err begins.CycleOn) ≡ codes "refused CycleOn"
begun_twice = refl

no_epoch_to_begin : begin_text (Err begins.EpochsSpent) ≡ codes "refused EpochsSpent"
no_epoch_to_begin = refl

placed : shade_text (Ok shades.Placed) ≡ codes "placed"
placed = refl

already : shade_text (Ok shades.Already) ≡ codes "already"
already = refl

no_reference : shade_text (Ok shades.NoReference) ≡ codes "no reference"
no_reference = refl

no_cycle_to_shade : shade_text (Err shade_errors.NoCycle) ≡ codes "refused NoCycle"
no_cycle_to_shade = refl

no_root : shade_text (Err shade_errors.NoRoot) ≡ codes "refused NoRoot"
no_root = refl

short_shade :
    shade_text (Err (shade_errors.CreditShort 6 5)) ≡ codes "refused CreditShort need 6 free 5"
unfolding digits
short_shade = refl

dealt : deal_text (Ok (record { items = 3; passed = 2 })) ≡ codes "dealt 3 passed 2"
unfolding digits
dealt = refl

too_many_to_deal : deal_text (Err deal_refusals.TooManyTrays) ≡ codes "refused TooManyTrays"
too_many_to_deal = refl

other_epoch : deal_text (Err deal_refusals.OtherEpoch) ≡ codes "refused OtherEpoch"
other_epoch = refl

no_cycle_to_deal : deal_text (Err (deal_refusals.Heap deals.NoCycle)) ≡ codes "refused NoCycle"
no_cycle_to_deal = refl

nothing_to_deal :
    deal_text (Err (deal_refusals.Heap deals.NothingToDeal)) ≡ codes "refused NothingToDeal"
nothing_to_deal = refl

short_deal :
    deal_text (Err (deal_refusals.Heap (deals.CreditShort 6 5)))
    ≡ codes "refused CreditShort need 6 free 5"
unfolding digits
short_deal = refl

given :
    give_text (Ok (record { joined = 3; repeated = 0; stale = 0; placed = 0 }))
    ≡ codes "given joined 3 repeated 0 stale 0 placed 0"
unfolding digits
given = refl

given_each :
    give_text (Ok (record { joined = 1; repeated = 2; stale = 3; placed = 4 }))
    ≡ codes "given joined 1 repeated 2 stale 3 placed 4"
unfolding digits
given_each = refl

no_tray_to_give : give_text (Err give_refusals.NoTray) ≡ codes "refused NoTray"
no_tray_to_give = refl

no_cycle_to_give : give_text (Err (give_refusals.Heap gives.NoCycle)) ≡ codes "refused NoCycle"
no_cycle_to_give = refl

stale_epoch :
    give_text (Err (give_refusals.Heap (gives.StaleEpoch 2 1)))
    ≡ codes "refused StaleEpoch is 2 was 1"
unfolding digits
stale_epoch = refl

too_many_to_give : give_text (Err (give_refusals.Heap gives.TooMany)) ≡ codes "refused TooMany"
too_many_to_give = refl

short_give :
    give_text (Err (give_refusals.Heap (gives.CreditShort 6 5)))
    ≡ codes "refused CreditShort need 6 free 5"
unfolding digits
short_give = refl

stranger :
    give_text (Err (give_refusals.Heap (gives.Stranger 1 0)))
    ≡ codes "refused Stranger object 1 field 0"
unfolding digits
stranger = refl

from_future :
    give_text (Err (give_refusals.Heap (gives.FromFuture 1 0)))
    ≡ codes "refused FromFuture object 1 field 0"
unfolding digits
from_future = refl

forged :
    give_text (Err (give_refusals.Heap (gives.Forged 1 0)))
    ≡ codes "refused Forged object 1 field 0"
unfolding digits
forged = refl

joined : join_text (Ok 2) ≡ codes "joined 2"
unfolding digits
joined = refl

no_tray_to_join : join_text (Err join_refusals.NoTray) ≡ codes "refused NoTray"
no_tray_to_join = refl

too_many_to_join : join_text (Err join_refusals.TooManyTrays) ≡ codes "refused TooManyTrays"
too_many_to_join = refl

flipped : flip_text (Ok (record { roots = 2; live_words = 7 })) ≡ codes "flipped roots 2 live 7"
unfolding digits
flipped = refl

no_cycle_to_flip : flip_text (Err flips.NoCycle) ≡ codes "refused NoCycle"
no_cycle_to_flip = refl

root_unplaced :
    flip_text (Err (flips.RootUnplaced (record { owner = 1; slot = 0 })))
    ≡ codes "refused RootUnplaced 1.0"
unfolding digits
root_unplaced = refl

missing : flip_text (Err (flips.Missing 12)) ≡ codes "refused Missing 12"
unfolding digits
missing = refl

no_epoch_to_flip : flip_text (Err flips.EpochsSpent) ≡ codes "refused EpochsSpent"
no_epoch_to_flip = refl

recalled : recall_text (Ok 2) ≡ codes "cycle 2"
unfolding digits
recalled = refl

no_cycle_to_recall : recall_text (Err recalls.NoCycle) ≡ codes "refused NoCycle"
no_cycle_to_recall = refl

no_epoch_to_recall : recall_text (Err recalls.EpochsSpent) ≡ codes "refused EpochsSpent"
no_epoch_to_recall = refl

abandoned : abandon_text (Ok 2) ≡ codes "abandoned 2"
unfolding digits
abandoned = refl

no_cycle_to_abandon : abandon_text (Err (record {})) ≡ codes "refused NoCycle"
no_cycle_to_abandon = refl

idle : idle_text (Ok 14) ≡ codes "idle 14"
unfolding digits
idle = refl

no_cycle_to_idle : idle_text (Err idles.NoCycle) ≡ codes "refused NoCycle"
no_cycle_to_idle = refl

idle_spent : idle_text (Err idles.IdleSpent) ≡ codes "refused IdleSpent"
idle_spent = refl

resized : resize_text (Ok 17) ≡ codes "words 17"
unfolding digits
resized = refl

too_many_words : resize_text (Err resize_refusals.BadSpace) ≡ codes "refused BadSpace"
too_many_words = refl

words_used : resize_text (Err (resize_refusals.Used 15)) ≡ codes "refused Used 15"
unfolding digits
words_used = refl

-- a tray of the second epoch, with one entry
one_entry : Tray
one_entry =
    record { epoch = 2; entries = record { object = 0; field = 0; number = 0; value = Nil } ∷ [] }

listed : tray_text (codes "a") one_entry ≡ codes "tray a epoch 2 entries 1"
unfolding digits one_entry
listed = refl

-- what a heap tells after a flip
after_flip : Stat
after_flip =
    record {
      used = 7;
      free = 9;
      cycle = false;
      epoch = 2;
      number = 1;
      log = 0;
      granted = 24;
      idle = 0;
      spent = 15;
      placed = 0;
      missing = 0;
      flips = 1;
      root_words = 2;
    }

stat_off :
    stat_text after_flip
    ≡ codes "stat used 7 free 9 cycle off epoch 2 number 1 log 0"
    ++ codes " granted 24 spent 15 placed 0 missing 0 idle 0"
unfolding digits after_flip
stat_off = refl

-- what a heap tells in a cycle
in_cycle : Stat
in_cycle = record after_flip { cycle = true; log = 3; placed = 4; missing = 5; idle = 6 }

stat_on :
    stat_text in_cycle
    ≡ codes "stat used 7 free 9 cycle on epoch 2 number 1 log 3"
    ++ codes " granted 24 spent 15 placed 4 missing 5 idle 6"
unfolding digits after_flip in_cycle
stat_on = refl
