-- What a plan leaves that is refused, but by the stop of a server: the world as it was, for the plans of most steps. Those of host writes,
-- drains, exchanges and recoveries stand in `RefusedSteps.antt`.
use Rattle.std.proofs.Common.{ℕ, ◌≡◌, refl, ap, sym, ◌∙◌, Bool, true, false, [], ◌++◌, Option, Some, None, Result, Ok}
use Rattle.dr_model.specs.Plans.{start_plan, landed_on, says_acked}
use Rattle.dr_model.specs.Sessions.{session_in}
use Rattle.std.proofs.lemmas.List.{append-nil}
use Rattle.dr_ids.specs.declared.refusal.Refusal.{Refusal}
use Rattle.dr_model.specs.declared.said.Said.{Said}
use Rattle.dr_model.specs.Control.{Control, World}
use Rattle.dr_model.specs.Sessions.{Session, Mirror}
use Rattle.dr_model.specs.Carry.{Outcome, carry}
use Rattle.dr_model.specs.PlanParts.{Plan, only_says}
use Rattle.dr_model.specs.SessionPlans.{mirror_phase, session_phase}
use Rattle.dr_model.specs.Carried.{begun, finish, carried_out, answered, stop_place}
use Rattle.dr_model.specs.Forming.{refusal_said, part_refusal}
use Rattle.dr_model.proofs.CarryLemmas.{carry-none}
use Rattle.dr_laws_sound.specs.Stops.{refused_stop}
use Rattle.dr_laws_sound.proofs.ChecksFirst.{never, any_act, carry-untouched, never-leads, follow-stays}
use Rattle.dr_laws_sound.proofs.Cases.{Case, Says, DefinesServer, DefinesVolume, SetsLink, Issues, Writes, Applies, Lists, Shows, Stops, Arms, Starts, MakesPath, RemovesPath, Drains, MakesSession, RemovesSession, MakesMirror, PausesMirror, RemovesMirror, Aborts, Loses, Sends, TakesReply, Exchanges, Delivers, Recovers}
use Rattle.dr_laws_sound.proofs.Does.{Acts, Late, refuses_late}
use Rattle.dr_laws_sound.proofs.DoesPlans.{Entered, case-does}
use Rattle.dr_facts.proofs.Reasons.{NoStop}
use Rattle.dr_facts.proofs.Entries.{any_world}
use Rattle.dr_facts.proofs.SharedEntries.{start-fine}
use Rattle.dr_logic.proofs.Truth.{false_true}
use Rattle.dr_model.specs.declared.step.Step.{Step}
use Rattle.dr_model.specs.declared.step.Step.TheVariants.{Recover}

-- a plan is refused with r, which is no stop
pub record Refuses (w : World) (p : Plan) (r : Refusal) : Type 0 where
  pub says : part_refusal w p ≡ Some r
  pub other : refused_stop (Some r) ≡ None

-- what a plan answers where its entries end well is no refusal
abbrev pub Accepts : Plan → Type 0
Accepts p = (k : Control) → refusal_said (p.says k) ≡ None

-- then its entries led to the world that it leaves, and to that refusal
pub entries-refuse : (w : World) (p : Plan) (r : Refusal) → Accepts p → Refuses w p r → carry (begun w p) p.entries ≡ ((carried_out w p).0, Some r)
entries-refuse w p r accepts refused = by (carry (begun w p) p.entries) refused.says
  where
    by : (o : Outcome) → refusal_said (answered p (finish p (stop_place w p) o.0 o.1).control o.1) ≡ Some r → ◌≡◌ {A = Outcome} o (finish p (stop_place w p) o.0 o.1, Some r)
    by (u, None) e = let none : None ≡ Some r = sym (accepts (p.last u.control)) ∙ e in absurd cc
    by (u, Some q) e =
        let is : q ≡ r = cc in
        λ i. (sym (follow-stays u q (p.follows (stop_place w p)) (ap (λ r. refused_stop (Some r)) is ∙ refused.other)) i, Some (is i))

-- a plan that is refused so leaves the world
abbrev pub LeavesWorld : World → Plan → Type 0
LeavesWorld w p = (r : Refusal) → Refuses w p r → (carried_out w p).0 ≡ w

pub same-begun : (w : World) → record w { events = w.events ++ [] } ≡ w
same-begun w = λ i. record w { events = append-nil w.events i }

-- one that only answers
pub leaves_world-says : (w : World) (a : Said) → LeavesWorld w (only_says a)
leaves_world-says w a r refused = ap (λ (o : Outcome). finish (only_says a) (stop_place w (only_says a)) o.0 o.1) (carry-none (begun w (only_says a))) ∙ same-begun w

-- one without entries is never refused
pub never-refused : (w : World) (p : Plan) → Accepts p → p.entries ≡ [] → LeavesWorld w p
never-refused w p accepts none r refused =
    let ends : carry (begun w p) p.entries ≡ (begun w p, None) = ap (carry (begun w p)) none ∙ carry-none (begun w p) in
    let no : None ≡ Some r = ap (λ (o : Outcome). o.1) (sym ends ∙ entries-refuse w p r accepts refused) in
    absurd cc

pub phase-accepts : (o : Option Session) → refusal_said (session_phase o) ≡ None
phase-accepts None = refl
phase-accepts (Some x) = by x.mirror
  where
    by : (o : Option Mirror) → refusal_said (mirror_phase o) ≡ None
    by None = refl
    by (Some r) = refl

acked-accepts : (o : Option ℕ) → refusal_said (says_acked o) ≡ None
acked-accepts None = refl
acked-accepts (Some n) = refl

-- steps that leave more where they are refused
abbrev pub leaves_more : Result Step ℕ → Bool
leaves_more (Ok (Recover s)) = true
leaves_more asked = refuses_late asked

module _ (w : World) (asked : Result Step ℕ) (less : refuses_late asked ≡ false) where
  -- the checks of a plan come first, and it begins with no change
  by-checks : (p : Plan) → Accepts p → begun w p ≡ w → Entered w asked p → LeavesWorld w p
  by-checks p accepts begins d r refused =
      let leads = entries-refuse w p r accepts refused in
      sym (ap (λ (o : Outcome). o.0) leads)
      ∙ carry-untouched (Acts w.control asked) NoStop (Late asked) (λ r why. false_true less why.late) (begun w p) p.entries d.entries r (ap (λ (o : Outcome). o.1) leads) refused.other
      ∙ begins

pub case-leaves_world : (w : World) (line : ℕ) (asked : Result Step ℕ) (p : Plan) → Case w.control w.events line asked p → leaves_more asked ≡ false → LeavesWorld w p
case-leaves_world w line _ _ (Says a waits why) less = leaves_world-says w a
case-leaves_world w line _ _ (DefinesServer name free) less = never-refused w _ (λ k. refl) refl
case-leaves_world w line _ _ (DefinesVolume v s tracks here free) less = never-refused w _ (λ k. refl) refl
case-leaves_world w line _ _ (SetsLink a b up) less = never-refused w _ (λ k. refl) refl
case-leaves_world w line _ _ (Issues v t offset len bytes free) less = never-refused w _ (λ k. refl) refl
case-leaves_world w line _ _ (Writes v t offset len bytes free) less = absurd cc
case-leaves_world w line _ _ (Applies n p found) less = absurd cc
case-leaves_world w line _ _ (Lists told ls few) less = never-refused w _ (λ k. refl) refl
case-leaves_world w line _ _ (Shows v t there) less = never-refused w _ (λ k. refl) refl
case-leaves_world w line _ _ (Stops s on) less = never-refused w _ (λ k. refl) refl
case-leaves_world w line _ _ (Arms writes torn s) less = never-refused w _ (λ k. refl) refl
case-leaves_world w line _ _ (Starts s off) less = λ r refused. never-leads _ _ _ r (start-fine any_world any_act never s w.control.volumes (λ v u any. tt) (λ v u any. tt) (λ n u any is. tt))
    (entries-refuse w (start_plan w.control s) r (λ j. acked-accepts (landed_on w.control s)) refused) refused.other
case-leaves_world w line _ _ (MakesPath src tgt group) less = never-refused w _ (λ k. refl) refl
case-leaves_world w line _ _ (RemovesPath src tgt) less = never-refused w _ (λ k. refl) refl
case-leaves_world w line _ _ (Drains a most) less = absurd cc
case-leaves_world w line _ _ (MakesSession l s free) less = never-refused w _ (λ k. refl) refl
case-leaves_world w line _ _ (RemovesSession l s x found free) less = never-refused w _ (λ k. refl) refl
case-leaves_world w line _ _ (MakesMirror owner s x found free l owned) less = never-refused w _ (λ k. refl) refl
case-leaves_world w line _ _ (PausesMirror s on) less = never-refused w _ (λ k. refl) refl
case-leaves_world w line _ _ (RemovesMirror s x found free) less = never-refused w _ (λ k. refl) refl
case-leaves_world w line _ _ (Aborts s x found free) less = never-refused w _ (λ k. phase-accepts (session_in k.sessions s)) refl
case-leaves_world w line _ _ (Loses n) less = never-refused w _ (λ k. refl) refl
case-leaves_world w line _ _ (Sends s server x r o posts) less = never-refused w _ (λ k. refl) refl
case-leaves_world w line _ _ (TakesReply n m reply x r returns) less = absurd cc
case-leaves_world w line _ _ (Exchanges s server reply x r o allowed) less = absurd cc
case-leaves_world w line _ _ (Delivers n m starts x r reaches) less = absurd cc
case-leaves_world w line _ _ (Recovers s x found on) less = absurd cc
case-leaves_world w line asked p c less = by-checks w asked (by asked less) p (λ k. refl) (same-begun w) (case-does w line asked p c)
  where
    by : (asked : Result Step ℕ) → leaves_more asked ≡ false → refuses_late asked ≡ false
    by (Ok (Recover s)) less = refl
    by asked less = less
