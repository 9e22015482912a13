-- Where a sound window ends with the run, the devices contain the cut.
use Rattle.std.proofs.Common.{ℕ, ◌≡◌, ◌<◌, refl, ap, sym, ◌∙◌, subst, true, List, [], ◌∷◌, ◌++◌, append_assoc, None}
use Rattle.std.proofs.lemmas.List.{append-nil}
use Rattle.dr_model.specs.Layout.{Blocks}
use Rattle.dr_model.specs.Control.{World, nothing, is_volume}
use Rattle.dr_model.specs.WriteEntries.{partner_of}
use Rattle.dr_model.specs.Fits.{on_device}
use Rattle.dr_model.specs.Runs.{Task, course, after_task, after_tasks, run}
use Rattle.dr_laws_freezes.specs.Moments.{part_moments, parts_moments, moments_from, moments}
use Rattle.dr_laws_freezes.specs.Windows.{last_of, FreezeCut, EndsInCut}
use Rattle.dr_laws_freezes.proofs.Windows.{Ends, window-ends}
use Rattle.dr_laws_freezes.proofs.WindowSteps.{chain-of}

-- the last of the moments is the run's world
pub last-behind : (before : List World) (w first : World) (later : List World) → last_of w (before ++ (first ∷ later)) ≡ last_of first later
last-behind [] w first later = refl
last-behind (b ∷ bs) w first later = last-behind bs b first later

last-step : (us : List World) (w v : World) (more : List World) → last_of w ((us ++ v ∷ []) ++ more) ≡ last_of v more
last-step [] w v more = refl
last-step (u ∷ us) w v more = last-step us u v more

last-from : (tasks : List Task) (w : World) → last_of w (moments_from w tasks) ≡ after_tasks w tasks
unfolding moments_from after_tasks
last-from [] w = refl
last-from (t ∷ ts) w =
    let before : List World = parts_moments (course w t).before in
    let last : List World = part_moments (course w t).last in
    let u : World = after_task w t in
    ap (λ us. last_of w (us ++ moments_from u ts)) (sym (append_assoc before last (u ∷ []))) ∙ last-step (before ++ last) w u (moments_from u ts) ∙ last-from ts u

pub last-moment : (tasks : List Task) (before later : List World) (first : World) → moments tasks ≡ before ++ (first ∷ later) → last_of first later ≡ run tasks
last-moment tasks before later first is = sym (last-behind before nothing first later) ∙ ap (last_of nothing) (sym is) ∙ last-from tasks nothing

-- and it stands behind the others
pub record IsBehind (us : List World) (last : World) : Type 0 where
  pub before : List World
  pub is : us ≡ before ++ (last ∷ [])

last-is : (w : World) (us : List World) → IsBehind (w ∷ us) (last_of w us)
last-is w [] = record { before = []; is = refl }
last-is w (u ∷ us) = let rest = last-is u us in record { before = w ∷ rest.before; is = ap (λ us. w ∷ us) rest.is }

pub run-behind : (tasks : List Task) → IsBehind (moments tasks) (run tasks)
run-behind tasks = subst (IsBehind (moments tasks)) (last-moment tasks [] (moments_from nothing tasks) nothing refl) (last-is nothing (moments_from nothing tasks))

-- each volume of a run has its tracks on its device
abbrev pub OnDevices : (ℕ → Blocks) → World → Type 0
OnDevices device w = (v t : ℕ) → is_volume w.control v ≡ true → t < (w.control.volume v).tracks → on_device w.control device v t ≡ w.contents v t

pub ends-in-cut : (tasks : List Task) (device : ℕ → Blocks) → FreezeCut tasks
    → ((v t : ℕ) → is_volume (run tasks).control v ≡ true → t < ((run tasks).control.volume v).tracks → on_device (run tasks).control device v t ≡ (run tasks).contents v t)
    → EndsInCut tasks device
ends-in-cut tasks device cut on set before later first is sound v t in_set lt =
    let q : ℕ = partner_of first.control v in
    let last : World = last_of first later in
    let all : moments tasks ≡ before ++ (first ∷ later ++ []) = is ∙ ap (λ us. before ++ (first ∷ us)) (sym (append-nil later)) in
    let end : Ends v q None first last = window-ends tasks None (chain-of tasks) set before later [] first all sound v in_set in
    let fits = end.rows.parts.secondary v q end.stay.to in
    let on_last : OnDevices device last = subst (OnDevices device) (sym (last-moment tasks before later first is)) on in
    let held = cut set before later [] first all sound v t in_set lt in
    (on_last q t fits.defined (subst (λ n. t < n) (sym end.size ∙ fits.same_tracks) lt) ∙ held.0, held.1)
