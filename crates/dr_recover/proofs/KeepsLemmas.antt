-- What a recovery makes of each session stays, however its call ends; and where it ends well, it is done.
use Rattle.std.proofs.Common.{ℕ, ◌≡◌, Bool, ap, sym, ◌∙◌, subst, List, Some, None}
use Rattle.dr_ids.specs.declared.names.Member.{Member}
use Rattle.dr_model.specs.declared.said.Said.{Said}
use Rattle.dr_model.specs.Control.{World}
use Rattle.dr_model.specs.Carry.{Outcome, carry}
use Rattle.dr_model.specs.Carried.{begun}
use Rattle.dr_model.specs.PlanParts.{Plan, on_session, unless}
use Rattle.dr_model.specs.ReadStops.{Ends}
use Rattle.dr_model.specs.RecoveryPlans.{secondary_refusal, decided_in, group_of, recover_entries, recover_done, recover_plan}
use Rattle.dr_model.specs.Sessions.{Session, session_in, members_in}
use Rattle.dr_model.specs.Laws.{Sound, sizes}
use Rattle.dr_laws_recovery.specs.Recovered.{SameRecovery, HasRecovered, recovered_in}
use Rattle.dr_laws_sound.proofs.ReadStops.{ends-well}
use Rattle.dr_laws_recovery.proofs.Recovers.{decided-is, recover-stays}
use Rattle.dr_laws_recovery.proofs.RecoversEnd.{group-ended, has-ended}
use Rattle.dr_gmirror.specs.Exchange.{PlanEnds}
use Rattle.dr_gmirror.proofs.ExchangeLemmas.{silent-ends}
use Rattle.dr_recover.specs.declared.recovery.Recovered.{Recovered}
use Rattle.dr_recover.specs.Outcomes.{recover_behind, RecoversAlike, IsRecovered}

module _ (armed : ℕ → Bool) (w u : World) (s : ℕ) (x : Session) (found : session_in w.control.sessions s ≡ Some x) (sound : Sound w) where
  abbrev ms : List Member
  ms = members_in (session_in w.control.sessions s)

  members : ms ≡ x.members
  members = ap members_in found

  plan-is : recover_plan w.control s ≡ recover_behind w.control s ms
  plan-is =
      ap (λ o. on_session o (λ x. unless (secondary_refusal x.members w.control) (recover_done s (decided_in s w.control) x.members))) found
      ∙ ap (recover_behind w.control s) (sym members)

  pub alike-by : (a : Said) → PlanEnds armed w (recover_behind w.control s ms) u a → RecoversAlike w u
  alike-by a ends z =
      let e : PlanEnds armed w (recover_plan w.control s) u a = subst (λ p. PlanEnds armed w p u a) (sym plan-is) ends in
      subst (λ v. SameRecovery (sizes w.control) (recovered_in w z) (recovered_in v z)) (sym e.world) (recover-stays w sound z s _ armed e.middle e.refusal e.ends)

  module _ (running : secondary_refusal ms w.control ≡ None) (ends : Ends armed u None w (recover_entries s (decided_in s w.control) ms)) where
    all_on : secondary_refusal x.members w.control ≡ None
    all_on = ap (λ ms. secondary_refusal ms w.control) (sym members) ∙ running

    abbrev p : Plan
    p = recover_plan w.control s

    carried : carry (begun w p) p.entries ≡ (u, None)
    carried = subst (λ (q : Plan). carry (begun w q) q.entries ≡ (u, None)) (sym (plan-is ∙ ap (λ o. unless o (recover_done s (decided_in s w.control) ms)) running))
        (ends-well armed u _ (recover_entries s (decided_in s w.control) ms) (silent-ends armed u w None (recover_entries s (decided_in s w.control) ms) ends))

    well : (carry (begun w p) p.entries).1 ≡ None
    well = ap (λ (o : Outcome). o.1) carried

    pub is-recovered : (y : Recovered) → y.group ≡ group_of (decided_in s u.control) → y.decision ≡ decided_in s w.control → IsRecovered w u s y
    is-recovered y group decision = record {
      done = subst (λ (o : Outcome). HasRecovered w o.0 s) carried (has-ended w sound s x found all_on well);
      group = group ∙ subst (λ (o : Outcome). group_of (decided_in s o.0.control) ≡ (recovered_in w s).group) carried (group-ended w sound s x found all_on well);
      decision = decision ∙ decided-is w sound s s x found;
    }
