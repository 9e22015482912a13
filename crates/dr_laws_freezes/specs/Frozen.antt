-- After a freeze no host write lands on a frozen primary, until a step lets it go.
use Rattle.std.specs.Prelude.{◌≡◌, ℕ, Bool, true, false, ◌&&◌, List, [], ◌∷◌, ◌++◌, Result, Ok, nat_eq}
use Rattle.dr_model.specs.declared.event.Event.TheVariants.{Ack}
use Rattle.dr_model.specs.declared.said.Addition.{Addition}
use Rattle.dr_model.specs.declared.said.Said.TheVariants.{Done}
use Rattle.dr_model.specs.declared.step.Devs.{Devs}
use Rattle.dr_model.specs.declared.step.Step.{Step}
use Rattle.dr_model.specs.declared.step.Step.TheVariants.{Freeze, Unfreeze, ResumePair, RemovePair, Failback, Expire}
use Rattle.dr_model.specs.Histories.{histories}
use Rattle.dr_model.specs.Control.{Control, Pending, World, is_volume}
use Rattle.dr_model.specs.Groups.{In}
use Rattle.dr_model.specs.Entries.{fields_at, is_at, subsystem}
use Rattle.dr_model.specs.PlanParts.{server_named, name_bytes}
use Rattle.dr_model.specs.WriteEntries.{partner_of, is_between}
use Rattle.dr_model.specs.Runs.{Task, after_task, after_tasks, run}
use Rattle.dr_laws_sound.specs.Acknowledged.{said_in}

-- The step may let host writes land on a frozen primary v again: it thaws the pairs between two logical subsystems of which that of v is one,
-- makes the pair of v go on, or ends it, or makes v the secondary of its partner, or ends the holds of the server of v. No other step does, nor a stop of the server and its start.
abbrev pub lets_go : Control → Result Step ℕ → ℕ → Bool
lets_go k (Ok (Unfreeze devs l m)) v = nat_eq (subsystem v) l && nat_eq (subsystem (partner_of k v)) m
lets_go k (Ok (ResumePair devs a b kind)) v = nat_eq a v
lets_go k (Ok (RemovePair devs a b source_only)) v = nat_eq a v
lets_go k (Ok (Failback devs x y kind)) v = nat_eq y v
lets_go k (Ok (Expire name)) v = is_at (server_named k (name_bytes name)) (k.volume v).server
lets_go k asked v = false

-- none of these steps, each in the world before it, lets v go
unfoldable pub NoneLetsGo : World → List Task → ℕ → Type 0
NoneLetsGo w [] v = Unit {0}
NoneLetsGo w (t ∷ ts) v = (lets_go w.control t.asked v ≡ false) × NoneLetsGo (after_task w t) ts v

-- From one moment to a later one no host write landed on v, which is long busy: each write on v that is acknowledged at the later one was so
-- before, and none has landed in a stop and waits for the start of its server.
pub record NoneLanded (first last : World) (v : ℕ) : Type 0 where
  pub busy : (fields_at last.control v).long_busy ≡ true
  pub acknowledged : (n : ℕ) → In (Ack n) last.events → ((histories last.events).write n).volume ≡ v → In (Ack n) first.events
  pub waits : (p : Pending) → In p last.control.pending → p.volume ≡ v → p.landed ≡ false

-- A freeze of a run that isn't refused: on no primary between its two logical subsystems does a write land over the steps behind it, as long
-- as none of them lets the primary go.
abbrev pub FreezesHold : List Task → Type 0
FreezesHold tasks =
    (before later behind : List Task) (t : Task) (devs : Devs) (l m v : ℕ) (said : Addition)
    → tasks ≡ before ++ (t ∷ later ++ behind) → t.asked ≡ Ok (Freeze devs l m) → said_in (run before) t ≡ Done said
    → is_volume (run before).control v ≡ true → is_between (run before).control l m v ≡ true
    → let frozen : World = after_task (run before) t in
    NoneLetsGo frozen later v → NoneLanded frozen (after_tasks frozen later) v
