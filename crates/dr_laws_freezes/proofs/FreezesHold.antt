-- A freeze that isn't refused leaves its primaries long busy, and no write lands on one until it is let go.
use Rattle.std.proofs.Common.{ℕ, ◌≡◌, ◌<◌, ◌+◌, ◌⊎◌, inl, inr, refl, ap, sym, ◌∙◌, subst, arith, Bool, true, false, cond, ◌&&◌, ◌||◌, nat_eq, nat_lt, List, [], ◌∷◌, Option, Some, None, Ok}
use Rattle.std.specs.List.{list_any}
use Rattle.std.proofs.lemmas.Bool.{and_parts, eq-eqb}
use Rattle.std.proofs.lemmas.Bool.Decides.{nat_tests, eqb_tells}
use Rattle.std.proofs.Math.Bool.{or-true}
use Rattle.dr_ids.specs.declared.refusal.Refusal.{Refusal}
use Rattle.dr_ids.specs.declared.refusal.Refusal.TheVariants.{JournalFull}
use Rattle.dr_model.specs.declared.event.Event.{Event}
use Rattle.dr_model.specs.declared.event.Event.TheVariants.{Ack}
use Rattle.dr_model.specs.declared.said.Addition.{Addition}
use Rattle.dr_model.specs.declared.said.Said.TheVariants.{Done}
use Rattle.dr_model.specs.declared.step.Devs.{Devs}
use Rattle.dr_model.specs.declared.step.Step.TheVariants.{Freeze}
use Rattle.dr_model.specs.Layout.{is_part}
use Rattle.dr_model.specs.Control.{Control, Fuse, Pending, Volume, World, is_volume}
use Rattle.dr_model.specs.Groups.{In}
use Rattle.dr_model.specs.Moves.{Suspend, moved}
use Rattle.dr_model.specs.Carry.{Make, Pass, Do, Outcome, act, carry, continue, go}
use Rattle.dr_model.specs.Entries.{fields_at, is_running, subsystem}
use Rattle.dr_model.specs.WriteEntries.{is_between, freeze_entries}
use Rattle.dr_model.specs.Histories.{histories}
use Rattle.dr_model.specs.Laws.{AllPending, Waits, Sound}
use Rattle.dr_model.specs.Plans.{Plan, plan_of, freeze_refusal, freeze_done, refuses, unless, on_owner, owner_of, has_room}
use Rattle.dr_model.specs.Runs.{Task, begun, finish, carried_out, answered, after_plan, after_task, after_tasks, run, stop_place}
use Rattle.dr_facts.proofs.Lists.{any-some}
use Rattle.dr_facts.proofs.Tables.{IsOrNot, at_cases, at_part}
use Rattle.dr_logic.proofs.Truth.{false_true}
use Rattle.dr_laws_closed.proofs.Pendings.{each-on}
use Rattle.dr_laws_sound.specs.Acknowledged.{said_in}
use Rattle.dr_laws_sound.proofs.Awaits.{none-refused}
use Rattle.dr_laws_sound.proofs.Turns.{next_of, carried_in, done, act-cases}
use Rattle.dr_laws_sound.proofs.AcknowledgingSteps.{if-plan, unless-plan, owner-plan}
use Rattle.dr_laws_freezes.specs.Windows.{is_ack}
use Rattle.dr_laws_freezes.specs.Frozen.{NoneLetsGo, FreezesHold}
use Rattle.dr_laws_freezes.proofs.WindowActs.{Between}
use Rattle.dr_laws_freezes.proofs.Betweens.{between-task, between-run}
use Rattle.dr_laws_freezes.proofs.LongBusy.{Frozen}
use Rattle.dr_laws_freezes.proofs.LongBusySteps.{none, task-kept}
use Rattle.dr_laws_sound.proofs.Steps.{sound-task}

module _ (l m v : ℕ) where
  -- v is one of the primaries that are frozen
  record Stands (k : Control) : Type 0 where
    there : is_volume k v ≡ true
    between : is_between k l m v ≡ true

  -- and it is long busy
  record Held (k : Control) : Type 0 where
    stands : Stands k
    busy : (fields_at k v).long_busy ≡ true

  -- a primary is frozen
  module _ (w : World) (x : ℕ) (f : Option Fuse) where
    abbrev u : World
    u = done w (Suspend x true) f

    abbrev row : Volume
    row = moved (w.control.volume x) (next_of w (Suspend x true)) (carried_in w (Suspend x true))

    still : Stands w.control → Stands u.control
    still s = record {
      there = s.there;
      between = at_part (λ (y : Volume). nat_eq (subsystem v) l && (w.control.on y.server && (is_part y.fields.primary && nat_eq (subsystem y.fields.primary_partner) m))) w.control.volume x row refl v ∙ s.between;
    }

    busy-then : ((fields_at w.control v).long_busy ≡ true) ⊎ (v ≡ x) → (fields_at u.control v).long_busy ≡ true
    busy-then = at_cases (λ j (y : Volume). ((fields_at w.control j).long_busy ≡ true) ⊎ (j ≡ x) → y.fields.long_busy ≡ true) w.control.volume x row (λ h. or-true (fields_at w.control x).long_busy)
        (λ j ne h. elim h [
          | inl busy ↦ busy
          | inr is ↦ absurd (ne is)
        ]) v

  -- v is to come, or was frozen
  abbrev Due : List ℕ → Control → Type 0
  Due xs k = (list_any (nat_eq v) xs ≡ true) ⊎ ((fields_at k v).long_busy ≡ true)

  freezes : (xs : List ℕ) (w u : World) → Stands w.control → Due xs w.control → carry w (freeze_entries xs l m) ≡ (u, None) → Held u.control
  unfolding carry act
  freezes [] w u s (inl none) leads = absurd cc
  freezes [] w u s (inr busy) leads = subst (λ (o : Outcome). Held o.0.control) leads (record { stands = record { there = s.there; between = s.between }; busy = busy })
  freezes (x ∷ xs) w u s due leads = by (is_between w.control l m x) refl leads (λ w s due leads. freezes xs w u s due leads)
    where
      Goes : Type 0
      Goes = (w : World) → Stands w.control → Due xs w.control → carry w (freeze_entries xs l m) ≡ (u, None) → Held u.control

      first : ((nat_eq v x || list_any (nat_eq v) xs) ≡ true) ⊎ ((fields_at w.control v).long_busy ≡ true) → IsOrNot v x → Due xs w.control ⊎ (v ≡ x)
      first (inl any) (inl same) = inr same.1
      first (inl any) (inr other) = inl (inl (sym (ap (λ c. c || list_any (nat_eq v) xs) other.0) ∙ any))
      first (inr busy) is = inl (inr busy)

      done-due : (f : Option Fuse) → Due xs w.control ⊎ (v ≡ x) → Due xs (done w (Suspend x true) f).control
      done-due f (inl (inl any)) = inl any
      done-due f (inl (inr busy)) = inr (busy-then w x f (inl busy))
      done-due f (inr same) = inr (busy-then w x f (inr same))

      passed : is_between w.control l m x ≡ false → Due xs w.control ⊎ (v ≡ x) → Due xs w.control
      passed not-so (inl due) = due
      passed not-so (inr same) = false_true not-so (subst (λ j. is_between w.control l m j ≡ true) same s.between)

      by : (c : Bool) → is_between w.control l m x ≡ c → go w (cond c (Do (Make (Suspend x true))) Pass) (λ u. carry u (freeze_entries xs l m)) ≡ (u, None) → Goes → Held u.control
      by true is leads goes =
          act-cases w (Make (Suspend x true)) (λ t. continue t.0 t.1 (λ u. carry u (freeze_entries xs l m)) ≡ (u, None) → Held u.control)
          (λ d off h. false_true off (and_parts (is_running x w.control) _ (and_parts (nat_eq (subsystem x) l) _ is).1).0)
          (λ f h. goes (done w (Suspend x true) f) (still w x f s) (done-due f (first due (eqb_tells v x))) h)
          (λ f h. none-refused _ u _ h) (λ d f h. none-refused _ u _ h) leads
      by false is leads goes = goes w s (passed is (first due (eqb_tells v x))) leads

  -- the step, where it isn't refused
  module _ (w : World) (s : Stands w.control) where
    abbrev P : Plan → Type 0
    P p = (x : Addition) → answered p (carried_out w p).0.control (carried_out w p).1 ≡ Done x → Held (carried_out w p).0.control

    refused : (r : Refusal) → P (refuses r)
    refused r x h = absurd (by (carried_out w (refuses r)).0.control (carried_out w (refuses r)).1 h)
      where
        by : (k : Control) (o : Option Refusal) → answered (refuses r) k o ≡ Done x → ⊥
        by k None h = cc
        by k (Some q) h = cc

    freeze-held : P (freeze_done w.control l m)
    freeze-held x h = by (carry (begun w p) p.entries) refl h
      where
        p : Plan
        p = freeze_done w.control l m

        by : (o : Outcome) → carry (begun w p) p.entries ≡ o → answered p (finish p (stop_place w p) o.0 o.1).control o.1 ≡ Done x → Held (finish p (stop_place w p) o.0 o.1).control
        by (u, None) leads h = freezes w.control.volumes (begun w p) u (record { there = s.there; between = s.between }) (inl s.there) leads
        by (u, Some r) leads h = absurd cc

    task-held : (line : ℕ) (devs : Devs) → let t : Task = record { line = line; asked = Ok (Freeze devs l m); listed = [] } in (x : Addition) → said_in w t ≡ Done x → Held (after_task w t).control
    unfolding after_plan
    task-held line devs x h = let y = planned x h in record { stands = record { there = y.stands.there; between = y.stands.between }; busy = y.busy }
      where
        planned : P (cond (has_room w.events) (plan_of w.control w.events line (Freeze devs l m)) (refuses JournalFull))
        planned =
            if-plan P refused (has_room w.events) (plan_of w.control w.events line (Freeze devs l m)) (refuses JournalFull)
            (owner-plan P refused (owner_of w.control l) (λ x. on_owner (owner_of w.control m) (λ y. unless (freeze_refusal w.control devs l m x y) (freeze_done w.control l m)))
            (λ x. owner-plan P refused (owner_of w.control m) (λ y. unless (freeze_refusal w.control devs l m x y) (freeze_done w.control l m))
            (λ y. unless-plan P refused (freeze_refusal w.control devs l m x y) (freeze_done w.control l m) freeze-held)))
            (refused JournalFull)

pending-in : (P : Pending → Type 0) (ps : List Pending) → AllPending P ps → (p : Pending) → In p ps → P p
pending-in P [] all p none = absurd none
pending-in P (q ∷ qs) all p (inl is) = subst P (sym is) all.0
pending-in P (q ∷ qs) all p (inr there) = pending-in P qs all.1 p there

-- where v is frozen, what lasts begins
begins : (u : World) (l m v : ℕ) → Between u → Held l m v u.control → Frozen v (fields_at u.control v).primary_partner (u.control.volume v).server none u.events u
begins u l m v k held = record {
  rooted = record { there = held.stands.there; busy = record { primary = primary; busy = held.busy; partner = refl }; server = refl };
  silent = record {
    waits = each-on (λ p a on. by p a on p.landed refl) u.control.pending k.sound.queue.each;
    issued = each-on (λ p a. (a.number, a.volume)) u.control.pending k.sound.queue.each;
    old = λ n here. issued-is n here (nat_lt u.control.issued n) refl;
    acked = λ n here on. here;
    elsewhere = λ n h. absurd h;
  };
}
  where
    primary : is_part (fields_at u.control v).primary ≡ true
    primary = (and_parts (is_part (fields_at u.control v).primary) _ (and_parts (is_running v u.control) _ (and_parts (nat_eq (subsystem v) l) _ held.stands.between).1).1).0

    runs : is_running v u.control ≡ true
    runs = (and_parts (is_running v u.control) _ (and_parts (nat_eq (subsystem v) l) _ held.stands.between).1).0

    by : (p : Pending) → Waits None u.control (histories u.events).write p → p.volume ≡ v → (b : Bool) → p.landed ≡ b → p.landed ≡ false
    by p a on false is = is
    by p a on true is = false_true (a.calm is refl) (subst (λ j. is_running j u.control ≡ true) (sym on) runs)

    issued-is : (n : ℕ) → In (Ack n) u.events → (b : Bool) → nat_lt u.control.issued n ≡ b → n < u.control.issued + 1
    issued-is n here true is = false_true (k.in_sync.fresh.later n (let h = is in grind (arith, nat_tests, h))) (any-some (is_ack n) u.events (Ack n) here (eq-eqb n n refl))
    issued-is n here false is = let h = is in grind (arith, nat_tests, h)

-- and it lasts
module _ (v b s : ℕ) (base : List Event) where
  lasts : (ts : List Task) (w : World) → NoneLetsGo w ts v → Sound w → Frozen v b s none base w → Frozen v b s none base (after_tasks w ts)
  unfolding after_tasks NoneLetsGo
  lasts [] w stay sound k = k
  lasts (t ∷ ts) w stay sound k = lasts ts (after_task w t) stay.1 (sound-task w t sound) (task-kept v b s base w t stay.0 (sound, k))

pub freezes-hold : (tasks : List Task) → FreezesHold tasks
freezes-hold tasks before later behind t devs l m v said is asked says there between stay =
    let w : World = run before in
    let u : World = after_task w t in
    let same : t ≡ record { line = t.line; asked = Ok (Freeze devs l m); listed = t.listed } = λ i. record t { asked = asked i } in
    let now : Between u = between-task w t (between-run before) in
    let held : Held l m v u.control = subst (λ t. said_in w t ≡ Done said → Held l m v (after_task w t).control) (sym same) (task-held l m v w (record { there = there; between = between }) t.line devs said) says in
    let k = lasts v (fields_at u.control v).primary_partner (u.control.volume v).server u.events later u stay now.sound (begins u l m v now held) in
    record { busy = k.rooted.busy.busy; acknowledged = k.silent.acked; waits = λ p here. pending-in _ _ k.silent.waits p here }
