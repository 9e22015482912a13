-- An abort of an attempt that can be ended: the session can still be ended, and its orders are counted.
use Rattle.std.proofs.Common.{ℕ, ◌≡◌, refl, ap, sym, ◌∙◌, subst, Bool, true, cond, ◌||◌, ◌==◌, List, length, Some, None, Ok, option_map}
use Rattle.std.proofs.lemmas.Option.{same_Some}
use Rattle.dr_ids.specs.declared.refusal.PhaseName.{PhaseName}
use Rattle.dr_ids.specs.declared.refusal.PhaseName.TheVariants as phase
use Rattle.dr_ids.specs.declared.refusal.Refusal.TheVariants.{JournalFull}
use Rattle.dr_model.specs.declared.said.Addition.TheVariants.{InPhase}
use Rattle.dr_model.specs.declared.said.Said.TheVariants.{Done, Refused}
use Rattle.dr_model.specs.declared.step.Step.TheVariants.{Abort}
use Rattle.dr_model.specs.Refusals.{server_off}
use Rattle.dr_model.specs.Phases as phases
use Rattle.dr_model.specs.Phases.{Master, is_among, aborted_phase}
use Rattle.dr_model.specs.Control.{Control, World}
use Rattle.dr_model.specs.Sessions.{Session, Mirror, session_in, with_master}
use Rattle.dr_model.specs.SessionPlans.{aborting}
use Rattle.dr_model.specs.PairEntries.{link_down}
use Rattle.dr_model.specs.Plans.{has_room}
use Rattle.dr_model.specs.Runs.{Task, after_task, run}
use Rattle.dr_laws_sound.specs.Acknowledged.{said_in}
use Rattle.dr_laws_progress.specs.Aborts.{abort_by_phase, abort_by_master, abort_by_session}
use Rattle.dr_laws_progress.specs.Exchanges.{SamePlaces}
use Rattle.dr_laws_progress.specs.ToIdle.{asks_secondaries, CanEnd, orders_in, orders_left, GivesUp, AbortsLeadOn}
use Rattle.dr_laws_progress.proofs.Aborts.{answers, given, control-is}
use Rattle.dr_laws_progress.proofs.Endings.{send-same}
use Rattle.dr_laws_progress.proofs.OrdersLeft.{is-among, count-all}

-- a phase that is aborted asks what the one does in which it is given up
asks-before : (q p : PhaseName) → aborted_phase q ≡ Some p → asks_secondaries p ≡ true → asks_secondaries q ≡ true
asks-before phase.Coordinating p is asks = ap asks_secondaries (same_Some _ _ is) ∙ asks
asks-before phase.Releasing p is asks = ap asks_secondaries (same_Some _ _ is) ∙ asks
asks-before phase.Draining p is asks = ap asks_secondaries (same_Some _ _ is) ∙ asks
asks-before phase.Flashing p is asks = refl
asks-before phase.Committing p is asks = refl
asks-before q p is asks = absurd cc

module _ (w : World) (t : Task) (s : ℕ) (asked : t.asked ≡ Ok (Abort s)) (room : has_room w.events ≡ true) (c : CanEnd w.control s) (p : PhaseName) (is : aborted_phase c.mirror.master.phase ≡ Some p) where
  abbrev k : Control
  k = w.control

  abbrev x : Session
  x = c.session

  abbrev r : Mirror
  r = c.mirror

  says : said_in w t ≡ Done (InPhase p r.master.number)
  says =
      answers w t s asked
      ∙ (ap (λ b. cond b (abort_by_session k (session_in k.sessions s)) (Refused JournalFull)) room
      ∙ (ap (abort_by_session k) c.found
      ∙ (ap (abort_by_master k) c.has_master
      ∙ (ap (abort_by_phase k r) is
      ∙ ap (λ b. cond b (Done (InPhase p r.master.number)) (Refused (server_off r.server))) c.master_on))))

  control : (after_task w t).control ≡ aborting s (Some r) k
  control = control-is w t s asked r p room is c.master_on x c.found c.has_master

  places : SamePlaces k (after_task w t).control
  places = subst (SamePlaces k) (sym control) (record { names = refl; on = refl; link = refl; paths = refl; homes = λ v. refl; secondaries = λ a v. refl; seen = λ v. refl })

  abbrev new : Master
  new = phases.aborted r.master

  new-is : new ≡ phases.enters p r.master
  new-is = ap (λ o. phases.enters_some o r.master) is

  abbrev ends : CanEnd (after_task w t).control s
  ends = record {
    session = with_master phases.aborted x;
    found = ap (λ (j : Control). session_in j.sessions s) control ∙ given w t s asked x c.found (Some r);
    mirror = record r { master = new };
    has_master = ap (option_map (λ (z : Mirror). record z { master = phases.aborted z.master })) c.has_master;
    master_on = ap (λ (on : ℕ → Bool). on r.server) places.on ∙ c.master_on;
    servers = λ m here. (ap (λ (on : ℕ → Bool). on m.server.0) places.on ∙ (c.servers m here).0, ap (λ (link : ℕ → ℕ → Bool). cond (r.server == m.server.0 || link r.server m.server.0) None (Some (link_down r.server m.server.0))) places.link ∙ (c.servers m here).1);
    secondaries = λ asks m here. send-same k (after_task w t).control places m.a.0 m.b.0 ∙ c.secondaries (asks-before r.master.phase p is (ap (λ (z : Master). asks_secondaries z.phase) (sym new-is) ∙ asks)) m here;
  }

  -- each server is owed the order of the phase, if one is
  counted : (p : PhaseName) → orders_left (phases.enters p r.master) ≡ orders_in p (length r.master.servers) (length r.master.servers)
  counted phase.Idle = refl
  counted p = ap (λ n. orders_in p n (length r.master.servers)) (count-all (λ k. is_among k r.master.servers) r.master.servers (λ k h. is-among k r.master.servers h))

  gives-up : GivesUp w t s c p
  gives-up = record { says = says; ends = ends; phase = ap (λ (z : Master). z.phase) new-is; left = ap orders_left new-is ∙ counted p }

pub aborts-lead-on : (tasks : List Task) → AbortsLeadOn tasks
aborts-lead-on tasks t s p asked room c is = gives-up (run tasks) t s asked room c p is
