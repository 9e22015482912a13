-- The plans of a freeze, a thaw and an expiry are allowed along, and of the end of flash holds.
use Rattle.std.proofs.Common.{ℕ, ◌≡◌, refl, ap, ◌∙◌, Bool, true, false, cond, ◌&&◌, nat_eq, List, [], ◌∷◌, ◌++◌, map}
use Rattle.std.proofs.lemmas.Bool.{and_parts, eqb-true}
use Rattle.dr_model.specs.Layout.{is_part}
use Rattle.dr_model.specs.Pairs.{held}
use Rattle.dr_model.specs.Control.{World, is_volume}
use Rattle.dr_model.specs.Moves.{Suspend, Thaw, Lift, FlashFree}
use Rattle.dr_model.specs.Carry.{Make, EndFreeze, EndThaw, Pass, Do}
use Rattle.dr_model.specs.Entries.{fields_at, is_running, subsystem}
use Rattle.dr_model.specs.WriteEntries.{is_between, freeze_on, end_freeze, thaw_on, end_thaw, belongs, lift_on, flash_free_on, is_held_in}
use Rattle.dr_model.specs.Plans.{freeze_done, unfreeze_done, expire_plan, release_done}
use Rattle.dr_model.specs.Laws.{Sound}
use Rattle.dr_model.specs.Allowed.{Runs}
use Rattle.dr_laws_sound.proofs.RowsAfter.{idle}
use Rattle.dr_laws_sound.proofs.KeepsSound.{Along, Then, StepHolds, over, decides}
use Rattle.dr_laws_sound.proofs.FitsFlash.{as_begun, sound-begun, holds-entries}

-- between two logical subsystems
module _ (l m : ℕ) where
  -- a primary between them is one, and its server runs
  pub between : (w : World) (v : ℕ) → is_between w.control l m v ≡ true → Runs w v × (is_part (fields_at w.control v).primary ≡ true)
  between w v is =
      let both = and_parts (is_running v w.control) _ (and_parts (nat_eq (subsystem v) l) _ is).1 in
      (both.0, (and_parts (is_part (fields_at w.control v).primary) _ both.1).0)

  -- each is suspended, and long busy
  freezes-by : (w : World) (v : ℕ) (more : World → Type 0) → Sound w → ((k : World) → Sound k → more k) → (b : Bool) → is_between w.control l m v ≡ b → Then w (cond b (Do (Make (Suspend v true))) Pass) more
  freezes-by w v more s go false is = go w s
  freezes-by w v more s go true is = let primary = between w v is in (record { runs = primary.0; allowed = primary.1; fits = tt; group = tt; ready = idle w v s.queue primary.0 }, λ f y. go _ y)

  pub freezes : (vs : List ℕ) (w : World) → Sound w → Along w (map (freeze_on l m) vs ++ end_freeze l m ∷ [])
  freezes [] w s = decides w (end_freeze l m) [] (Do (EndFreeze l m)) refl (tt, λ f y. over _ y)
  freezes (v ∷ vs) w s = decides w (freeze_on l m v) _ _ refl (freezes-by w v _ s (λ k y. freezes vs k y) _ refl)

  -- or is long busy no more
  thaws-by : (w : World) (v : ℕ) (more : World → Type 0) → Sound w → ((k : World) → Sound k → more k) → (b : Bool) → (is_between w.control l m v && (fields_at w.control v).long_busy) ≡ b → Then w (cond b (Do (Make (Thaw v))) Pass) more
  thaws-by w v more s go false is = go w s
  thaws-by w v more s go true is =
      let primary = between w v (and_parts (is_between w.control l m v) _ is).0 in (record { runs = primary.0; allowed = tt; fits = tt; group = tt; ready = idle w v s.queue primary.0 }, λ f y. go _ y)

  pub thaws : (vs : List ℕ) (w : World) → Sound w → Along w (map (thaw_on l m) vs ++ end_thaw l m ∷ [])
  thaws [] w s = decides w (end_thaw l m) [] (Do (EndThaw l m)) refl (tt, λ f y. over _ y)
  thaws (v ∷ vs) w s = decides w (thaw_on l m v) _ _ refl (thaws-by w v _ s (λ k y. thaws vs k y) _ refl)

  pub holds-freeze : (w : World) → Sound w → StepHolds w (freeze_done w.control l m)
  holds-freeze w s = holds-entries w _ _ s (freezes w.control.volumes (as_begun w) (sound-begun w s))

  pub holds-thaw : (w : World) → Sound w → StepHolds w (unfreeze_done w.control l m)
  holds-thaw w s = holds-entries w _ _ s (thaws w.control.volumes (as_begun w) (sound-begun w s))

-- the volumes of a logical subsystem lose their flash holds
module _ (l : ℕ) where
  releases-by : (w : World) (v : ℕ) (more : World → Type 0) → Sound w → ((k : World) → Sound k → more k) → (b : Bool) → is_held_in w.control l v ≡ b → Then w (cond b (Do (Make (FlashFree v))) Pass) more
  releases-by w v more s go false is = go w s
  releases-by w v more s go true is =
      let runs : Runs w v = (and_parts (is_running v w.control) _ (and_parts (nat_eq (subsystem v) l) _ is).1).0 in (record { runs = runs; allowed = tt; fits = tt; group = tt; ready = idle w v s.queue runs }, λ f y. go _ y)

  pub releases : (vs : List ℕ) (w : World) → Sound w → Along w (map (flash_free_on l) vs)
  releases [] w s = over w s
  releases (v ∷ vs) w s = decides w (flash_free_on l v) _ _ refl (releases-by w v _ s (λ k y. releases vs k y) _ refl)

  pub holds-release : (w : World) → Sound w → StepHolds w (release_done w.control l)
  holds-release w s = holds-entries w _ _ s (releases w.control.volumes (as_begun w) (sound-begun w s))

-- no write on a volume of server x waits any more
module _ (x : ℕ) where
  lifts-by : (w : World) (v : ℕ) (more : World → Type 0) → Sound w → w.control.on x ≡ true → ((k : World) → Sound k → k.control.on x ≡ true → more k)
      → (b : Bool) → (belongs w.control x v && held (fields_at w.control v)) ≡ b → Then w (cond b (Do (Make (Lift v))) Pass) more
  lifts-by w v more s on go false is = go w s on
  lifts-by w v more s on go true is =
      let own : (w.control.volume v).server ≡ x = eqb-true (w.control.volume v).server x (and_parts (is_volume w.control v) _ (and_parts (belongs w.control x v) _ is).0).1 in
      let runs : Runs w v = ap w.control.on own ∙ on in (record { runs = runs; allowed = tt; fits = tt; group = tt; ready = idle w v s.queue runs }, λ f y. go _ y on)

  pub lifts : (vs : List ℕ) (w : World) → Sound w → w.control.on x ≡ true → Along w (map (lift_on x) vs)
  lifts [] w s on = over w s
  lifts (v ∷ vs) w s on = decides w (lift_on x v) _ _ refl (lifts-by w v _ s on (λ k y on. lifts vs k y on) _ refl)

  pub holds-expire : (w : World) → Sound w → w.control.on x ≡ true → StepHolds w (expire_plan w.control x)
  holds-expire w s on = holds-entries w _ _ s (lifts w.control.volumes (as_begun w) (sound-begun w s) on)
