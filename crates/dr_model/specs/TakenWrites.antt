-- Which steps may take a write away from a volume's lists, and that no other does.
use Rattle.std.specs.Prelude.{◌≡◌, ◌⊎◌, ℕ, Bool, true, false, ◌&&◌, ◌||◌, not, List, [], ◌∷◌, ◌++◌, Option, Some, None, Result, Ok, nat_eq}
use Rattle.std.specs.List.{find, list_any}
use Rattle.dr_ids.specs.declared.names.Member.{Member}
use Rattle.dr_model.specs.declared.event.Event.{Event}
use Rattle.dr_model.specs.declared.step.Step.{Step}
use Rattle.dr_model.specs.declared.step.Step.TheVariants.{Volume, Write, Apply, Drain, Copy, Exchange, Deliver, Run, Recover, MakeFlash, RemoveFlash, ResyncFlash, ReverseFlash, RevertFlash}
use Rattle.dr_model.specs.Groups.{In}
use Rattle.dr_model.specs.HeldWrites.{WasReplaced}
use Rattle.dr_model.specs.Histories.{lists}
use Rattle.dr_model.specs.Messages.{Message, message_in}
use Rattle.dr_model.specs.Control.{Control, Pending, World, is_volume}
use Rattle.dr_model.specs.Sessions.{session_in, members_in}
use Rattle.dr_model.specs.Pairs.{is_primary_of, is_cascaded, goes_over, collides}
use Rattle.dr_model.specs.Moves.{is_write}
use Rattle.dr_model.specs.Entries.{fields_at, is_at}
use Rattle.dr_model.specs.RecoveryPlans.{revertible_target}
use Rattle.dr_model.specs.Runs.{Task, after_task, run}

-- v is the secondary that the secondary of primary a names, which is cascaded
abbrev pub is_third : Control → ℕ → ℕ → Bool
is_third k a v = let u : ℕ = (fields_at k a).primary_partner in is_cascaded (fields_at k u) && is_primary_of v (fields_at k u)

-- v is the secondary that primary a names, and a host write on track t of a goes there too: that of a Metro Mirror pair, or one that
-- collides with what a still has to send. Or v is the third site's, and the write collides with what the second one still has to send.
abbrev pub sends_write : Control → ℕ → ℕ → ℕ → Bool
sends_write k a t v =
    (is_primary_of v (fields_at k a) && (goes_over (fields_at k a) t || collides (fields_at k a) t))
    || (is_third k a v && (goes_over (fields_at k a) t && collides (fields_at k (fields_at k a).primary_partner) t))

-- and so of a pending write
abbrev pub sends_pending : Control → Option Pending → ℕ → Bool
sends_pending k None v = false
sends_pending k (Some p) v = sends_write k p.volume p.track v

-- v is the target of one of a session's members
abbrev pub is_target_in : Control → ℕ → ℕ → Bool
is_target_in k s v = list_any (λ (m : Member). nat_eq m.c.0 v) (members_in (session_in k.sessions s))

-- or of that of a message, if it is in flight
abbrev pub is_target_for : Control → Option Message → ℕ → Bool
is_target_for k None v = false
is_target_for k (Some m) v = is_target_in k m.session v

-- a drain of primary a goes to v: v is the secondary that a names, or the third site's of that one
abbrev pub drains_to : Control → ℕ → ℕ → Bool
drains_to k a v = is_primary_of v (fields_at k a) || is_third k a v

-- so does a drain of the primary of a session's member
abbrev pub is_copy_in : Control → ℕ → ℕ → Bool
is_copy_in k s v = list_any (λ (m : Member). drains_to k m.a.0 v) (members_in (session_in k.sessions s))

-- v is restored: its target t gives tracks back to it, or is t itself, which gives up what it held
abbrev pub is_restored : Control → ℕ → ℕ → Bool
is_restored k t v = (fields_at k t).reversing && (nat_eq (fields_at k t).source v || nat_eq t v)

-- The step may take a write away from v: it defines v, which it wasn't before; it makes, ends, renews or turns v as a FlashCopy target; it
-- copies on a restore, onto v or from it; it sends or mirrors to v as the secondary that a primary names, or as that of a cascaded one; or it carries
-- out orders, groups, a recovery or a revert over a session of which v is a member's target, and groups also where a drain of a member's primary goes
-- to v. No other step does.
abbrev pub takes_from : Control → Result Step ℕ → ℕ → Bool
takes_from k (Ok (Volume x server tracks)) v = nat_eq x v && not (is_volume k v)
takes_from k (Ok (MakeFlash devs s t nocopy persistent recorded inhibited freeze sequence)) v = nat_eq t v
takes_from k (Ok (RemoveFlash devs s t sequence)) v = nat_eq t v
takes_from k (Ok (ResyncFlash devs s t nocopy persistent recorded inhibited sequence)) v = nat_eq t v
takes_from k (Ok (ReverseFlash devs s t tgtpprc sequence)) v = nat_eq t v
takes_from k (Ok (Copy t most)) v = is_restored k t v
takes_from k (Ok (Write a t offset len bytes)) v = sends_write k a t v
takes_from k (Ok (Apply n)) v = sends_pending k (find (is_write n) k.pending) v
takes_from k (Ok (Drain a most)) v = drains_to k a v
takes_from k (Ok (Exchange s name reply)) v = is_target_in k s v
takes_from k (Ok (Deliver n)) v = is_target_for k (message_in k.flight n) v
takes_from k (Ok (Run s n)) v = is_target_in k s v || is_copy_in k s v
takes_from k (Ok (Recover s)) v = is_target_in k s v
takes_from k (Ok (RevertFlash devs source sequence)) v = is_at (revertible_target k source) v
takes_from k asked v = false

-- A step of a run took write u away from track t of volume v: after the write was acknowledged the track was given another list, within
-- these events, with which the run's journal begins; and this was told by the step, which may take from v.
pub record WasTaken (tasks : List Task) (events : List Event) (u v t : ℕ) : Type 0 where
  pub replaced : WasReplaced events u v t
  pub before : List Task
  pub step : Task
  pub behind : List Task
  pub is : tasks ≡ before ++ step ∷ behind
  pub since : List Event
  pub begun : replaced.before ≡ (run before).events ++ since
  pub later : List Event
  pub ended : (run (before ++ step ∷ [])).events ≡ replaced.before ++ replaced.event ∷ later
  pub takes : takes_from (run before).control step.asked v ≡ true

-- a step keeps each write that a list of a volume has, or may take it away
abbrev pub StepKeeps : World → Task → Type 0
StepKeeps w t = (v q u : ℕ) → In u (lists w.events v q) → In u (lists (after_task w t).events v q) ⊎ (takes_from w.control t.asked v ≡ true)

-- and so do the steps of a run, each in the world before it
abbrev pub KeepsWrites : List Task → Type 0
KeepsWrites tasks = (before behind : List Task) (t : Task) → tasks ≡ before ++ t ∷ behind → StepKeeps (run before) t
