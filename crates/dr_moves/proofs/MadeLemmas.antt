-- Whether a stopped update counts as done, by the slots before it and behind.
use Rattle.std.proofs.Common.{ℕ, ◌≡◌, refl, ap, ◌∙◌, sym, Bool, true, false, not}
use mathlib.Core.Bool.{beq}
use Rattle.dr_model.specs.Layout.{Fields}
use Rattle.dr_model.specs.Control.{Volume, World}
use Rattle.dr_model.specs.Moves.{Carried, moved}
use Rattle.dr_model.specs.Carry.{Ended, update}
use Rattle.dr_volume.specs.Update.{EndsAs}
use Rattle.dr_logic.proofs.Tables.{at_same}
use Rattle.dr_model.proofs.CarryLemmas.{update-cases}

-- two slots differ
abbrev pub differ : Bool → Bool → Bool
differ true b = not b
differ false b = b

pub differ_not : (b : Bool) → differ (not b) b ≡ true
differ_not true = refl
differ_not false = refl

pub differ_same : (b : Bool) → differ b b ≡ false
differ_same true = refl
differ_same false = refl

pub not_beq : (a b : Bool) → not (beq a b) ≡ differ a b
not_beq true true = refl
not_beq true false = refl
not_beq false true = refl
not_beq false false = refl

-- where an update is stopped, it counts as done exactly where the slot changed
pub done-by_slot : (w : World) (v : ℕ) (f : Fields) (c : Carried) → (update w v f c).stopped ≡ true → (update w v f c).done ≡ differ ((update w v f c).world.control.volume v).slot (w.control.volume v).slot
done-by_slot w v f c =
    let old = (w.control.volume v).slot in
    update-cases true w v f c (λ (e : Ended). e.stopped ≡ true → e.done ≡ differ (e.world.control.volume v).slot old)
    (λ down h. sym (differ_same old))
    (λ on n h. cc)
    (λ on armed h. sym (ap (λ (x : Volume). differ x.slot old) (at_same w.control.volume v (moved (w.control.volume v) f c)) ∙ differ_not old))
    (λ on armed h. sym (differ_same old))

-- as the program looks at the slots before and after
pub done-by : (w u : World) (v : ℕ) (f : Fields) (c : Carried) (before after : Bool) → EndsAs u true (update w v f c) → before ≡ (w.control.volume v).slot → after ≡ (u.control.volume v).slot → (update w v f c).done ≡ not (beq after before)
done-by w u v f c before after ends was is =
    done-by_slot w v f c (sym ends.stopped)
    ∙ ap (λ (x : World). differ (x.control.volume v).slot (w.control.volume v).slot) (sym ends.world)
    ∙ (λ i. differ (sym is i) (sym was i))
    ∙ sym (not_beq after before)
