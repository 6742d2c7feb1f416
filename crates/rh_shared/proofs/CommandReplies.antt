-- What a reply that comes after a legal history says of its command.
use Rattle.std.proofs.Common.{◌≡◌, ℕ, Bool, true, Option, Some, None, Ok, Err, subst}
use Rattle.std.specs.Prelude.{IsOk}
use Rattle.rh_layout.specs.Refusal.{is_limit}
use Rattle.rh_layout.specs.Refusing.{unless}
use Rattle.rh_layout.specs.declared.command.Command.{Command}
use Rattle.rh_layout.specs.declared.command.Command.TheVariants.{Alloc, Raw, Store, Same, Drop}
use Rattle.rh_layout.specs.declared.command.Operand.{Operand}
use Rattle.rh_layout.specs.declared.command.Reply.{Reply}
use Rattle.rh_layout.specs.declared.command.Reply.TheVariants as replies
use Rattle.rh_layout.specs.declared.command.RootId.{RootId}
use Rattle.rh_layout.specs.declared.refusal.Refusal.{Refusal}
use Rattle.rh_model.specs.Graph.{refusal_of, reply_to, root_value, same_value}
use Rattle.rh_model.specs.Plain.{PlainHeap, graph_of, step}
use Rattle.rh_replay.specs.Legal.{replay}
use Rattle.rh_shared.specs.declared.kept.CallError.TheVariants as call_errors
use Rattle.rh_shared.specs.Answers.{ComesAfterHistory, RefusesAfter}

unless-reply : (why : Option Refusal) (p q : PlainHeap) (told reply : Reply) → (unless why p (q, Ok told)).1 ≡ Ok reply → reply ≡ told
unless-reply None p q told reply is = cc
unless-reply (Some refusal) p q told reply is = absurd cc

step-reply : (p : PlainHeap) (owner : ℕ) (command : Command) (reply : Reply) → (step p owner command).1 ≡ Ok reply → reply ≡ reply_to (graph_of p) command
unfolding step
step-reply p owner command reply is = unless-reply (refusal_of (graph_of p) owner command) p _ (reply_to (graph_of p) command) reply is

reply-after : (owner : ℕ) (command : Command) (reply : Reply) → (comes : ComesAfterHistory owner command (Ok reply)) → reply ≡ reply_to (graph_of (replay comes.history)) command
reply-after owner command reply comes = step-reply (replay comes.history) owner command reply comes.answers

pub made-reply : (owner fields : ℕ) (dst : RootId) (reply : Reply) → ComesAfterHistory owner (Alloc dst fields) (Ok reply) → reply ≡ replies.Object fields
unfolding reply_to
made-reply owner fields dst reply comes = reply-after owner (Alloc dst fields) reply comes

pub raw-reply : (owner fields : ℕ) (dst : RootId) (reply : Reply) → ComesAfterHistory owner (Raw dst fields) (Ok reply) → reply ≡ replies.Raw fields
unfolding reply_to
raw-reply owner fields dst reply comes = reply-after owner (Raw dst fields) reply comes

pub stored-reply : (owner field : ℕ) (obj : RootId) (operand : Operand) (reply : Reply) → ComesAfterHistory owner (Store obj field operand) (Ok reply) → reply ≡ replies.Done
unfolding reply_to
stored-reply owner field obj operand reply comes = reply-after owner (Store obj field operand) reply comes

pub dropped-reply : (owner : ℕ) (root : RootId) (reply : Reply) → ComesAfterHistory owner (Drop root) (Ok reply) → reply ≡ replies.Done
unfolding reply_to
dropped-reply owner root reply comes = reply-after owner (Drop root) reply comes

pub compared-reply : (owner : ℕ) (a b : RootId) (reply : Reply) → ComesAfterHistory owner (Same a b) (Ok reply) → (equal : Bool) × (reply ≡ replies.Same equal)
unfolding reply_to
compared-reply owner a b reply comes =
    let g = graph_of (replay comes.history) in
    (same_value (root_value g a) (root_value g b), reply-after owner (Same a b) reply comes)

pub limited-accepted : (owner : ℕ) (command : Command) (limit : Refusal) → is_limit limit ≡ true → (comes : ComesAfterHistory owner command (Err (call_errors.Heap limit)))
    → IsOk (step (replay comes.history) owner command).1
limited-accepted owner command limit is comes =
    let refuses : RefusesAfter true comes.history comes.heap owner command limit = subst (λ (b : Bool). RefusesAfter b comes.history comes.heap owner command limit) is comes.answers in
    refuses.0
