-- A volume that takes a track back doesn't record, is no secondary, and is the source of no revertible target.
use Rattle.std.proofs.Common.{ℕ, ◌≡◌, ◌⊎◌, inl, inr, subst, Bool, List, [], ◌∷◌, Option, Some, None}
use Rattle.dr_ids.specs.declared.refusal.Refusal.{Refusal}
use Rattle.dr_model.specs.Refusals.{stopped}
use Rattle.dr_model.specs.Histories.{histories}
use Rattle.dr_model.specs.Control.{World}
use Rattle.dr_model.specs.Moves.{Move, Restore}
use Rattle.dr_model.specs.Carry.{Entry, Outcome}
use Rattle.dr_model.specs.Groups.{In}
use Rattle.dr_model.specs.Forming.{Part}
use Rattle.dr_model.specs.Runs.{Task, plans_of, begun, run}
use Rattle.dr_model.specs.Table.{table}
use Rattle.dr_model.specs.Laws.{SoundRows, Sound}
use Rattle.dr_model.specs.Allowed.{Allowed}
use Rattle.dr_laws_sound.specs.Calm.{Carries, MayEnd, ComesTo, EndsEach, Makes, Itself, Follows, IsAtRest, RestoresCalmly, CalmRestores}
use Rattle.dr_laws_sound.proofs.KeepsSound.{Along, StepHolds, MayDo, keeps-sound, sound-gone}
use Rattle.dr_laws_sound.proofs.Parts.{each-plan}
use Rattle.dr_laws_sound.proofs.Steps.{ending-holds, sound-part, sound-run}
use Rattle.dr_laws_sound.proofs.ReadStops.{ends-well}
use Rattle.dr_laws_sound.proofs.Riders.{none-comes, rides-comes, rides-gone}
use Rattle.dr_laws_sound.proofs.Places.{are-lone, LoneAt, lone-rides}
use Rattle.dr_laws_sound.proofs.Along as along

-- where a restore is allowed, its volume is at rest
at-rest : (w : World) (s t v : ℕ) → SoundRows (table w) → Allowed (histories w.events).write (table w) (Restore s t v) → IsAtRest w.control s
at-rest w s t v rows a = record { idle = a.idle; no_secondary = rows.parts.free v s a.related a.reversing; settled = a.kept.settled }

-- where no server goes off by itself before a move, its entries come to it as they are carried out
comes-carried : (armed : ℕ → Bool) (w v : World) (ds : List Entry) (m : Move) → ComesTo (MayEnd armed) w ds v m → ComesTo Carries w ds v m
comes-carried armed w v ds m at = record { before = at.before; entry = at.entry; rest = at.rest; placed = at.placed; leads = ends-well armed v w at.before at.leads; decides = at.decides }

module _ (w : World) (task : Task) (sound : Sound w) (x : Part) (there : In x (plans_of w task)) where
  lone : LoneAt w
  lone = are-lone w.control sound.groups

  holds : StepHolds x.world x.plan
  holds = let b = each-plan Sound sound-part w task sound x there in ending-holds x.world b.0 task.line x.plan b.1

  itself : (u : World) (s t v : ℕ) → ComesTo Carries (begun x.world x.plan) x.plan.entries u (Restore s t v) → IsAtRest u.control s
  itself u s t v at = let here = rides-comes LoneAt lone-rides w task x sound lone there u (Restore s t v) at in at-rest u s t v here.rows here.allowed

  -- what follows a stop, however its entries end
  module _ (EndsIn : World → List Entry → World → Option Refusal → Type 0) (ended : (w : World) (d : Entry) (u : World) (r : Option Refusal) → Sound w → Along w (d ∷ []) → EndsIn w (d ∷ []) u r → Sound u) where
    follows : (stop u : World) (q s t v : ℕ) → Sound stop ⊎ ((q : ℕ) → x.plan.follows q ≡ []) → ComesTo (EndsEach EndsIn) stop (x.plan.follows q) u (Restore s t v) → IsAtRest u.control s
    follows stop u q s t v (inl sound) at =
        let here = along.each-comes_to Sound MayDo EndsIn ended (x.plan.follows q) (holds.follows q) stop u (Restore s t v) sound at in
        at-rest u s t v here.0.rows here.1.allowed
    follows stop u q s t v (inr none) at = absurd (none-comes (EndsEach EndsIn) stop u (Restore s t v) (subst (λ ds. ComesTo (EndsEach EndsIn) stop ds u (Restore s t v)) (none q) at))

  stops : (stop : World) (r : Refusal) → Carries (begun x.world x.plan) x.plan.entries stop (Some r) → Sound stop
  stops stop r ends =
      subst (λ (o : Outcome). along.EndedBy holds.inner Sound holds.ends holds.may o.0 o.1) ends
      (along.along holds.inner Sound holds.ends holds.may holds.keeps (begun x.world x.plan) x.plan.entries holds.begins holds.entries)

  calm : (u : World) (s t v : ℕ) → Makes Carries x u (Restore s t v) → IsAtRest u.control s
  calm u s t v (Itself at) = itself u s t v at
  calm u s t v (Follows stop q n ends at) = follows Carries (along.carried-ends Sound MayDo keeps-sound) stop u n s t v (inl (stops stop (stopped q) ends)) at

  reads-calm : (armed : ℕ → Bool) (u : World) (s t v : ℕ) → Makes (MayEnd armed) x u (Restore s t v) → IsAtRest u.control s
  reads-calm armed u s t v (Itself at) = itself u s t v (comes-carried armed _ u x.plan.entries (Restore s t v) at)
  reads-calm armed u s t v (Follows stop q n ends at) =
      follows (MayEnd armed) (λ v d u r s a e. along.ends-weaker Sound Sound Sound Sound MayDo (λ v s. s) (λ v s. s) (λ v s. s) keeps-sound armed (λ v q s on is. sound-gone None v q s) u r v (d ∷ []) s a e)
      stop u n s t v (rides-gone LoneAt lone-rides w task x sound lone there armed stop (stopped q) ends) at

pub calm-run : (tasks : List Task) → CalmRestores tasks
calm-run tasks before rest task is x u s t v there makes = calm (run before) task (sound-run before) x there u s t v makes

-- and where reads fail
pub calm-reads : (armed : ℕ → Bool) (w : World) (task : Task) → Sound w → RestoresCalmly (MayEnd armed) w task
calm-reads armed w task sound x u s t v there makes = reads-calm w task sound x there armed u s t v makes
