-- What a step tells before it does anything issues no write, unless it is a host write.
use Rattle.std.proofs.Common.{ℕ, ◌≡◌, refl, Bool, true, false, List, [], ◌∷◌, Result, Ok}
use Rattle.dr_model.specs.declared.event.Event.{Event}
use Rattle.dr_model.specs.declared.event.Event.TheVariants.{PairLine, FlashLine, SessionLine, MirrorLine, ImageStart, ImageVolume, ImageBlock, ImageEnd}
use Rattle.dr_model.specs.declared.step.Step.{Step}
use Rattle.dr_model.specs.Control.{Control}
use Rattle.dr_model.specs.MessagePlans.{told_begun}
use Rattle.dr_model.specs.PlanParts.{Plan}
use Rattle.dr_model.specs.Plans.{plan_of}
use Rattle.dr_model.specs.SessionPlans.{is_idle}
use Rattle.dr_laws_sound.proofs.Listed.{IsLine, all-lines}
use Rattle.dr_laws_sound.proofs.Cases.{Case, Issues, Writes, Lists, Sends, of-case}
use Rattle.dr_laws_losses.proofs.Alike.{NoIssue}
use Rattle.dr_laws_losses.specs.Pairs.{issues, asks_write}

pub line-none : (e : Event) (es : List Event) → IsLine e → NoIssue es → NoIssue (e ∷ es)
line-none (PairLine line v u state kind k) es l none = none
line-none (FlashLine line s t sequence previous state flags own) es l none = none
line-none (SessionLine line s a b c state) es l none = none
line-none (MirrorLine line s server phase n paused) es l none = none
line-none ImageStart es l none = none
line-none (ImageVolume v server tracks) es l none = none
line-none (ImageBlock v index bytes) es l none = none
line-none ImageEnd es l none = none
line-none e es l none = absurd l

pub begun-none : (b : Bool) (s n : ℕ) → NoIssue (told_begun b s n)
begun-none true s n = refl
begun-none false s n = refl

pub case-none : (k : Control) (events : List Event) (line : ℕ) (asked : Result Step ℕ) (p : Plan) → Case k events line asked p → asks_write asked ≡ false → NoIssue p.told
case-none k events line _ _ (Issues v t offset len bytes free) none = absurd cc
case-none k events line _ _ (Writes v t offset len bytes free) none = absurd cc
case-none k events line _ _ (Lists told ls few) none = all-lines NoIssue refl line-none told ls
case-none k events line _ _ (Sends s server x r o posts) none = begun-none (is_idle r.master.phase) s o.number
case-none k events line _ _ c none = refl

pub told-none : (k : Control) (line : ℕ) (step : Step) → issues step ≡ false → NoIssue (plan_of k [] line step).told
told-none k line step none = case-none k [] line (Ok step) (plan_of k [] line step) (of-case k [] line step) none
