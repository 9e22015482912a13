-- What a line that recovers a session, or that commits or reverts by hand, comes to.
use Rattle.std.proofs.Common.{ℕ, ◌≡◌, Bool, List, refl, sym, ◌∙◌, ap, Option, Some, None}
use Rattle.std.specs.Prelude.{is_some, if◌then◌else◌}
use Rattle.std.specs.Option.{option_or}
use Rattle.dr_ids.specs.declared.names.Member.{Member}
use Rattle.dr_ids.specs.declared.refusal.Decision.{Decision}
use Rattle.dr_ids.specs.declared.refusal.Refusal.{Refusal}
use Rattle.dr_ids.specs.declared.refusal.Kind.TheVariants.{Volume as OfVolume, Session as OfSession}
use Rattle.dr_plant.specs.State.{PlantState}
use Rattle.dr_config.specs.Table.{ConfigTable, entry_of}
use Rattle.dr_config.specs.declared.entries.VolumeEntry.{VolumeEntry}
use Rattle.dr_model.specs.declared.event.Event.{Event}
use Rattle.dr_model.specs.declared.said.Said.{Said}
use Rattle.dr_model.specs.declared.said.Said.TheVariants.{Refused}
use Rattle.dr_model.specs.declared.step.Name.{Name}
use Rattle.dr_model.specs.Control.{Control, World}
use Rattle.dr_model.specs.PlanParts.{Plan, refuses, unless, on_session}
use Rattle.dr_model.specs.RecoveryPlans.{secondary_refusal, decided_in, recover_done, recover_plan, revertible_target, member_of_target, settle_refusal, settle_member, settle_target, settle_plan}
use Rattle.dr_model.specs.Entries.{fields_at}
use Rattle.dr_model.specs.Refusals.{unknown}
use Rattle.dr_model.specs.Runs.{after_plan, said}
use Rattle.dr_model.specs.SessionPlans.{name_refusal, off_refusal}
use Rattle.dr_model.specs.Sessions.{Session, session_in, members_in}
use Rattle.dr_model.proofs.CarryLemmas.{plan-refuses}
use Rattle.dr_moves.specs.Here.{armed_in, IsAtRest}
use Rattle.dr_volume.specs.View.{volume_seen}
use Rattle.dr_gmirror.specs.Exchange.{PlanEnds}
use Rattle.dr_recover.specs.Outcomes.{recover_behind}
use Rattle.dr_steps.specs.Here.{here, IsReady}
use Rattle.dr_steps.specs.declared.tables.Tables.{Tables}
use Rattle.dr_steps.proofs.CarriesLemmas.{carries-plan}
use Rattle.dr_steps.proofs.ExchangeLemmas.{IsPlain, plan-exact, plain-unless, told-by}
use Rattle.dr_steps.proofs.LandLemmas.{ready-after}
use Rattle.dr_steps.proofs.LocatedLemmas.{is_volume-here, seen-entry}
use Rattle.dr_steps.proofs.StepLemmas.{plan-unless}

-- what is ready stays so over a plan that tells nothing as it begins, and lets nothing follow a stop
pub plain-ready : (s u : PlantState) (t : ConfigTable) (h : Tables) (ev mid : List Event) (p : Plan) (a : Said) → IsPlain p → PlanEnds (armed_in s) (here s t h ev) p (here u t h mid) a
    → IsAtRest u t → ((q : ℕ) → s.read_fuse q ≡ None → u.read_fuse q ≡ None) → IsReady s t h ev → IsReady u t h mid
plain-ready s u t h ev mid p a plain ends rest unarmed ready =
    ready-after t s u h mid ready.reads rest unarmed (told-by s h ready.reads (here s t h ev) (here u t h mid) p a plain ends ready.told)

pub plain-recovery : (k : Control) (n : ℕ) (ms : List Member) → IsPlain (recover_behind k n ms)
plain-recovery k n ms = plain-unless (secondary_refusal ms k) (recover_done n (decided_in n k) ms) (refl, refl)

pub plain-settled : (k : Control) (lets : Decision → Bool) (b : ℕ) (o : Option ℕ) → IsPlain (settle_target k lets b o)
plain-settled k lets b None = (refl, refl)
plain-settled k lets b (Some t) = by (member_of_target k t)
  where
    by : (o : Option Member) → IsPlain (settle_member k lets b (fields_at k t).session o)
    by None = (refl, refl)
    by (Some m) = plain-unless (settle_refusal lets (decided_in (fields_at k t).session k) (members_in (session_in k.sessions (fields_at k t).session)) k) _ (refl, refl)

module _ (s : PlantState) (t : ConfigTable) (h : Tables) (ev : List Event) (line : ℕ) where
  abbrev w : World
  w = here s t h ev

  abbrev k : Control
  k = w.control

  -- ---- a recovery

  module _ (n : ℕ) where
    abbrev plan_for : Session → Plan
    plan_for x = recover_behind k n x.members

    pub recover-nowhere : session_in h.sessions.sessions n ≡ None → after_plan w line (recover_plan k n) ≡ said w line (Refused (unknown OfSession))
    recover-nowhere none = ap (λ o. after_plan w line (on_session o plan_for)) none ∙ plan-refuses w line (unknown OfSession)

    pub recover-goes : (x : Session) → session_in h.sessions.sessions n ≡ Some x → (u : PlantState) (mid : List Event) (a : Said) → IsReady s t h ev
        → PlanEnds (armed_in s) w (recover_behind k n (members_in (session_in h.sessions.sessions n))) (here u t h mid) a → after_plan w line (recover_plan k n) ≡ said (here u t h mid) line a
    recover-goes x there u mid a ready ends =
        ap (λ o. after_plan w line (on_session o plan_for)) there
        ∙ ap (λ o. after_plan w line (recover_behind k n (members_in o))) (sym there)
        ∙ carries-plan w (recover_behind k n (members_in (session_in h.sessions.sessions n))) (here u t h mid) a (plan-exact s ready.reads w (here u t h mid) (recover_behind k n (members_in (session_in h.sessions.sessions n))) a ends) line

  -- ---- a commit or a revert by hand

  module _ (dev : Option Name) (lets : Decision → Bool) (b : ℕ) where
    abbrev plan : Plan
    plan = settle_target k lets b (revertible_target k b)

    abbrev behind_of : ℕ → Plan
    behind_of server = unless (option_or (name_refusal k dev server) (off_refusal k server)) plan

    pub settle-nowhere : entry_of t b ≡ None → after_plan w line (settle_plan k dev lets b) ≡ said w line (Refused (unknown OfVolume))
    settle-nowhere none =
        ap (λ c. after_plan w line (if c then behind_of (volume_seen s t b).server else refuses (unknown OfVolume))) (is_volume-here s t h ev b ∙ ap is_some none)
        ∙ plan-refuses w line (unknown OfVolume)

    module _ (e : VolumeEntry) (server : ℕ) (found : entry_of t b ≡ Some e) (on : e.server ≡ server) where
      there : after_plan w line (settle_plan k dev lets b) ≡ after_plan w line (behind_of server)
      there =
          ap (λ c. after_plan w line (if c then behind_of (volume_seen s t b).server else refuses (unknown OfVolume))) (is_volume-here s t h ev b ∙ ap is_some found)
          ∙ ap (λ q. after_plan w line (behind_of q)) ((seen-entry s t b e found).0 ∙ on)

      pub settle-foreign : (why : Refusal) → Some why ≡ name_refusal k dev server → after_plan w line (settle_plan k dev lets b) ≡ said w line (Refused why)
      settle-foreign why is = there ∙ plan-unless w line plan (option_or (name_refusal k dev server) (off_refusal k server)) why (ap (λ o. option_or o (off_refusal k server)) (sym is))

      pub settle-off : (why : Refusal) → None ≡ name_refusal k dev server → Some why ≡ off_refusal k server → after_plan w line (settle_plan k dev lets b) ≡ said w line (Refused why)
      settle-off why named is = there ∙ plan-unless w line plan (option_or (name_refusal k dev server) (off_refusal k server)) why (λ i. option_or (sym named i) (sym is i))

      pub settle-goes : None ≡ name_refusal k dev server → None ≡ off_refusal k server → (u : PlantState) (mid : List Event) (a : Said) → IsReady s t h ev
          → PlanEnds (armed_in s) w (settle_target k lets b (revertible_target k b)) (here u t h mid) a → after_plan w line (settle_plan k dev lets b) ≡ said (here u t h mid) line a
      settle-goes named running u mid a ready ends =
          there ∙ (λ i. after_plan w line (unless (option_or (sym named i) (sym running i)) plan))
          ∙ carries-plan w plan (here u t h mid) a (plan-exact s ready.reads w (here u t h mid) plan a ends) line
