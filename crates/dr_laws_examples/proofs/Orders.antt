-- The example of old orders, carried out.
use Rattle.std.proofs.Common.{◌≡◌, ◌<◌, inl, refl, ap, sym, ◌∙◌, subst, arith, true, cond, List, [], ◌∷◌, ◌++◌, drop}
use Rattle.dr_logic.specs.Bytes.{zeros}
use Rattle.dr_ids.specs.declared.refusal.Refusal.TheVariants.{OldMessage, JournalFull}
use Rattle.dr_model.specs.declared.said.Addition.TheVariants.{Posted}
use Rattle.dr_model.specs.declared.said.Said.TheVariants.{Done, Refused}
use Rattle.dr_model.specs.Contents.{image, laid, image_at}
use Rattle.dr_model.specs.Decisions.{decided, decision}
use Rattle.dr_model.specs.Histories.{histories}
use Rattle.dr_model.specs.Control.{World}
use Rattle.dr_model.specs.Sessions.{changed}
use Rattle.dr_model.specs.Phases.{servers_where}
use Rattle.dr_model.specs.Groups.{In}
use Rattle.dr_model.specs.MessagePlans.{deliver_plan}
use Rattle.dr_model.specs.Entries.{fields_at}
use Rattle.dr_model.specs.Carry.{act, carry, redo, turn, update_keeping, stopped_at}
use Rattle.dr_model.specs.Layout.{Fields}
use Rattle.dr_model.specs.PlanParts.{refuses}
use Rattle.dr_model.specs.Plans.{has_room}
use Rattle.dr_model.specs.Carried.{masters_lost}
use Rattle.dr_model.specs.Views.{view}
use Rattle.dr_laws_sound.proofs.Agree.{view-image}
use Rattle.dr_laws_sound.proofs.Steps.{sound-run}
use Rattle.dr_laws_sound.proofs.Journal.{run-more}
use Rattle.dr_model.specs.Runs.{Task, after_plan, after_task, after_tasks, run}
use Rattle.dr_laws_sound.specs.Acknowledged.{said_in}
use Rattle.dr_laws_orders.specs.OldOrders.{IsFromBefore, StaysRefused}
use Rattle.dr_laws_orders.specs.OlderNumbers.{IsOlder, LeavesVolumes}
use Rattle.dr_laws_orders.specs.SettledLosses.{IsSettled, StaysSettled, IsFencedOff}
use Rattle.dr_laws_orders.proofs.SettledLosses.{settled-run}
use Rattle.dr_model.specs.Forming.{phase_in}
use Rattle.dr_ids.specs.declared.refusal.PhaseName.TheVariants.{Lost}
use Rattle.dr_laws_orders.proofs.StaysOld.{before-run}
use Rattle.dr_laws_orders.proofs.Older.{leaves-run}
use Rattle.dr_laws_examples.specs.Orders.{loses, settles, reverts, asks, old_orders, arrives, the_member, settled_session, next_session, hold_order, revert_order}

-- ---- the master has settled what was left open

pub session : In settled_session (run settles).control.sessions
unfolding decided decision zeros after_tasks after_plan carry act redo turn update_keeping stopped_at image histories changed servers_where
session = inl refl

pub before : IsFromBefore (run settles).control settled_session hold_order
unfolding decided decision zeros after_tasks after_plan carry act redo turn update_keeping stopped_at image histories changed servers_where
before = record { order = record { here = inl refl; session = refl; starts = 0; asks = refl }; number = refl; earlier = omega arith; member = the_member; here = inl refl; to = refl }

pub stays : StaysRefused (run settles) 1
stays = before-run settles settled_session hold_order session tt before

pub refused : said_in (run settles) (arrives 1) ≡ Refused (OldMessage 1)
unfolding decided decision zeros after_tasks after_plan carry act redo turn update_keeping stopped_at image histories changed servers_where
refused = refl

-- ---- the next attempt has begun

pub still : said_in (run old_orders) (arrives 1) ≡ Refused (OldMessage 1)
unfolding decided decision zeros after_tasks after_plan carry act redo turn update_keeping stopped_at image histories changed servers_where
still = refl

pub done : said_in (run old_orders) (arrives 2) ≡ Done (Posted 3)
unfolding decided decision zeros after_tasks after_plan carry act redo turn update_keeping stopped_at image histories changed servers_where
done = refl

-- ---- an order of an older attempt

pub older : IsOlder (run old_orders).control 2 revert_order
unfolding decided decision zeros after_tasks after_plan carry act redo turn update_keeping stopped_at image histories changed servers_where
older = record { order = record { there = refl; starts = 0; asks = refl }; session = next_session; found = refl; number = omega arith }

pub records : (fields_at (run old_orders).control 4096).recording ≡ true
unfolding decided decision zeros after_tasks after_plan carry act redo turn update_keeping stopped_at image histories changed servers_where
records = refl

pub leaves : LeavesVolumes 1 (run old_orders) (deliver_plan (run old_orders).control 2)
leaves = leaves-run old_orders 2 revert_order older

-- ---- the step that delivers it

room-is : has_room (run old_orders).events ≡ true
unfolding decided decision zeros after_tasks after_plan carry act redo turn update_keeping stopped_at image histories changed servers_where
room-is = refl

delivers : (w : World) → has_room w.events ≡ true → after_task w (arrives 2) ≡ masters_lost w (after_plan w 1 (deliver_plan w.control 2))
delivers w room = ap (λ c. masters_lost w (after_plan w 1 (cond c (deliver_plan w.control 2) (refuses JournalFull)))) room

pub records_on : (fields_at (run (old_orders ++ arrives 2 ∷ [])).control 4096).recording ≡ true
records_on =
    ap (λ (w : World). (fields_at w.control 4096).recording) (run-more old_orders (arrives 2) ∙ delivers (run old_orders) room-is)
    ∙ (ap (λ (f : Fields). f.recording) (leaves.after 1 4096).says
    ∙ records)

-- ---- what 1000 shows

image-is : image_at (run old_orders).events 4096 0 ≡ laid 0 (97 ∷ []) zeros
unfolding decided decision laid zeros after_tasks after_plan carry act redo turn update_keeping stopped_at image histories changed servers_where
image-is = refl

stands : ((run old_orders).control.on ((run old_orders).control.volume 4096).server ≡ true) × (((run old_orders).control.volume 4096).tracks ≡ 1)
unfolding decided decision zeros after_tasks after_plan carry act redo turn update_keeping stopped_at image histories changed servers_where
stands = (refl, refl)

shows : view (fields_at (run old_orders).control) (run old_orders).contents 4096 0 ≡ laid 0 (97 ∷ []) zeros
shows = view-image (run old_orders) (sound-run old_orders) 4096 0 (subst (λ n. 0 < n) (sym stands.1) (omega arith)) stands.0 ∙ image-is

pub shows_on : view (fields_at (run (old_orders ++ arrives 2 ∷ [])).control) (run (old_orders ++ arrives 2 ∷ [])).contents 4096 0 ≡ laid 0 (97 ∷ []) zeros
shows_on =
    ap (λ (w : World). view (fields_at w.control) w.contents 4096 0) (run-more old_orders (arrives 2) ∙ delivers (run old_orders) room-is)
    ∙ ((leaves.after 1 4096).shows 0
    ∙ shows)

-- ---- the loss that is settled

pub lost : phase_in (run loses).control 1 ≡ Lost
unfolding decided decision zeros after_tasks after_plan carry act redo turn update_keeping stopped_at image histories changed servers_where
lost = refl

-- what holds of none of some steps, of the first, of the first two, and so on
abbrev Fronts : (List Task → Type 0) → List Task → Type 0
Fronts P [] = P []
Fronts P (t ∷ ts) = P [] × Fronts (λ us. P (t ∷ us)) ts

-- the first of some steps
abbrev first_or : Task → List Task → Task
first_or t [] = t
first_or t (u ∷ us) = u

each-front : (P : List Task → Type 0) (ts : List Task) → Fronts P ts → (first rest : List Task) → ts ≡ first ++ rest → P first
each-front P [] fronts [] rest e = fronts
each-front P [] fronts (u ∷ first) rest e = absurd cc
each-front P (t ∷ ts) fronts [] rest e = fronts.0
each-front P (t ∷ ts) fronts (u ∷ first) rest e = subst (λ t. P (t ∷ first)) (ap (first_or t) e) (each-front (λ us. P (t ∷ us)) ts fronts.1 first rest (ap (drop 1) e))

pub stays_settled : StaysSettled (after_task (run loses) asks) reverts 1
unfolding decided decision zeros after_tasks after_plan carry act redo turn update_keeping stopped_at image histories changed servers_where
stays_settled = each-front (λ ts. IsSettled (phase_in (after_tasks (after_task (run loses) asks) ts).control 1)) reverts
    (record { kept = λ e. cc; busy = λ e. cc }, (record { kept = λ e. cc; busy = λ e. cc }, record { kept = λ e. cc; busy = λ e. cc }))

pub fenced_off : IsFencedOff (after_tasks (after_task (run loses) asks) reverts).control 1
fenced_off = settled-run (loses ++ asks ∷ reverts) loses reverts [] asks 1 refl lost stays_settled

pub epochs : ((run loses).control.flight.epoch 1 ≡ 2) × ((run loses).control.flight.fence 1 0 ≡ 0)
unfolding decided decision zeros after_tasks after_plan carry act redo turn update_keeping stopped_at image histories changed servers_where
epochs = (refl, refl)

pub fence : (after_tasks (after_task (run loses) asks) reverts).control.flight.fence 1 0 ≡ 2
unfolding decided decision zeros after_tasks after_plan carry act redo turn update_keeping stopped_at image histories changed servers_where
fence = refl
