-- No step says that it isn't built: no plan's answer does, none of its entries, and none that ends a line of groups.
use Rattle.std.proofs.Common.{ℕ, ◌≡◌, refl, ◌+◌, Bool, true, false, cond, List, Option, Some, None, Result}
use Rattle.dr_ids.specs.declared.refusal.Decision.{Decision}
use Rattle.dr_model.specs.declared.event.Event.{Event}
use Rattle.dr_model.specs.declared.said.Said.TheVariants.{Done, Held}
use Rattle.dr_model.specs.declared.said.Addition.TheVariants.{Wrote}
use Rattle.dr_model.specs.declared.step.Step.{Step}
use Rattle.dr_model.specs.Control.{Control}
use Rattle.dr_model.specs.Runs.{own_course}
use Rattle.dr_model.specs.Sessions.{Session, Mirror, session_in}
use Rattle.dr_model.specs.SessionPlans.{session_phase, mirror_phase}
use Rattle.dr_model.specs.RecoveryPlans.{decided_in, group_of, says_group}
use Rattle.dr_model.specs.WriteEntries.{says_written, waits}
use Rattle.dr_model.specs.Plans.{Plan, says_acked, landed_on}
use Rattle.dr_laws_sound.proofs.Cases.{says_no_stop, Case, Says, Writes, Applies, Starts, Aborts, TakesReply, Exchanges, Recovers}

-- so answers a plan, but for its entries
abbrev pub Answers : Plan → Type 0
Answers p = (k : Control) → says_no_stop (p.says k) ≡ true

-- ---- what is said as plans end

pub phase-says : (o : Option Session) → says_no_stop (session_phase o) ≡ true
phase-says None = refl
phase-says (Some x) = by x.mirror
  where
    by : (m : Option Mirror) → says_no_stop (mirror_phase m) ≡ true
    by None = refl
    by (Some r) = refl

group-says : (d : Decision) (o : Option ℕ) → says_no_stop (says_group d o) ≡ true
group-says d None = refl
group-says d (Some n) = refl

written-says : (k : Control) (n v t : ℕ) → says_no_stop (says_written k n v t) ≡ true
written-says k n v t = by (waits k v t)
  where
    by : (b : Bool) → says_no_stop (cond b (Held n) (Done (Wrote n))) ≡ true
    by true = refl
    by false = refl

acked-says : (o : Option ℕ) → says_no_stop (says_acked o) ≡ true
acked-says None = refl
acked-says (Some w) = refl

-- ---- every plan of the step table

pub case-answers : (k : Control) (events : List Event) (line : ℕ) (asked : Result Step ℕ) (p : Plan) → Case k events line asked p → own_course asked ≡ None → Answers p
case-answers k events line _ _ (Says a waits why) one = λ j. why one
case-answers k events line _ _ (Writes v t offset len bytes free) one = λ j. written-says k (k.issued + 1) v t
case-answers k events line _ _ (Applies n p found) one = λ j. written-says k p.w p.volume p.track
case-answers k events line _ _ (Starts s off) one = λ j. acked-says (landed_on k s)
case-answers k events line _ _ (Aborts s x found free) one = λ j. phase-says (session_in j.sessions s)
case-answers k events line _ _ (TakesReply n m reply x r returns) one = λ j. phase-says (session_in j.sessions m.session)
case-answers k events line _ _ (Exchanges s server reply x r o allowed) one = λ j. phase-says (session_in j.sessions s)
case-answers k events line _ _ (Recovers s x found on) one = λ j. group-says (decided_in s k) (group_of (decided_in s j))
case-answers k events line _ _ c one = λ j. refl
