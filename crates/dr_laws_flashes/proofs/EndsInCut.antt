-- Where a sound flash window ends with the run, the devices show the cuts.
use Rattle.std.proofs.Common.{ℕ, ◌≡◌, ◌<◌, ap, sym, ◌∙◌, subst, true, List, [], ◌∷◌, ◌++◌}
use Rattle.std.proofs.lemmas.List.{append-nil}
use Rattle.dr_model.specs.Layout.{Blocks}
use Rattle.dr_model.specs.Control.{World, is_volume}
use Rattle.dr_model.specs.Fits.{on_device}
use Rattle.dr_model.specs.Runs.{Task, run}
use Rattle.dr_laws_sound.proofs.Agree.{view-same}
use Rattle.dr_laws_freezes.specs.Moments.{moments}
use Rattle.dr_laws_freezes.specs.Windows.{last_of}
use Rattle.dr_laws_freezes.proofs.EndsInCut.{last-moment}
use Rattle.dr_laws_flashes.specs.Windows.{EndsInFlashCut}
use Rattle.dr_laws_flashes.proofs.Windows.{one-cut}

-- each volume has its tracks on its device
abbrev OnDevices : (ℕ → Blocks) → World → Type 0
OnDevices device w = (v t : ℕ) → is_volume w.control v ≡ true → t < (w.control.volume v).tracks → on_device w.control device v t ≡ w.contents v t

pub ends-in-flash-cut : (tasks : List Task) (device : ℕ → Blocks)
    → ((v t : ℕ) → is_volume (run tasks).control v ≡ true → t < ((run tasks).control.volume v).tracks → on_device (run tasks).control device v t ≡ (run tasks).contents v t)
    → EndsInFlashCut tasks device
ends-in-flash-cut tasks device on set before later first is window =
    let last : World = last_of first later in
    let all : moments tasks ≡ before ++ (first ∷ later ++ []) = is ∙ ap (λ us. before ++ (first ∷ us)) (sym (append-nil later)) in
    let on_last : OnDevices device last = subst (OnDevices device) (sym (last-moment tasks before later first is)) on in
    one-cut tasks set before later [] first all window (on_device last.control device) (λ t q there rows lt. view-same last rows (on_device last.control device) on_last t q there lt)
