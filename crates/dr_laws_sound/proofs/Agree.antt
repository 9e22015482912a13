-- A sound world agrees with a plant whose tracks contain what the world says, and what it shows is what is due.
use Rattle.std.proofs.Common.{ℕ, ◌≡◌, ◌<◌, ◌∙◌, refl, sym, subst, ap, Bool, true, false, cond, not, ◌&&◌, List, ◌++◌, Option, Some, ◌⊎◌, inl, inr}
use Rattle.std.proofs.lemmas.List.{append-nil}
use Rattle.std.specs.FinSet.{contains}
use Rattle.dr_model.specs.Histories.{histories}
use Rattle.dr_model.specs.Contents.{image, image_at}
use Rattle.dr_model.specs.Layout.{Blocks, Fields}
use Rattle.dr_model.specs.Control.{World, Fuse, is_volume}
use Rattle.dr_model.specs.Views.{view}
use Rattle.dr_model.specs.Table.{table, due}
use Rattle.dr_model.specs.Laws.{Sound, SoundRows, PairLaw, Partnered, its_primary, its_secondary}
use Rattle.dr_model.specs.Allowed.{Runs}
use Rattle.dr_model.specs.Fits.{Fits, SaysVolume, device_of, on_device, on_devices}
use Rattle.dr_laws_sound.proofs.Views.{shown-due}
use Rattle.dr_laws_sound.proofs.RowsAfter.{idle, calm}
use Rattle.dr_logic.proofs.Choices.{choose_some}

-- what a track of a sound world shows is what is due
pub view-due : (w : World) → Sound w → (v t : ℕ) → t < (w.control.volume v).tracks → view (λ u. (w.control.volume u).fields) w.contents v t ≡ due w v t
view-due w s v t lt = shown-due (table w) s.rows.images v t lt

-- on a running server nothing waits: a track shows the image of the journal's host writes
pub view-image : (w : World) → Sound w → (v t : ℕ) → t < (w.control.volume v).tracks → Runs w v → view (λ u. (w.control.volume u).fields) w.contents v t ≡ image_at w.events v t
view-image w s v t lt on =
    view-due w s v t lt
    ∙ ap (λ ws. image (histories w.events).write ((histories w.events).now v t ++ ws)) (calm w v (idle w v s.queue on) t)
    ∙ ap (image (histories w.events).write) (append-nil ((histories w.events).now v t))

-- a volume that is no target shows what it contains
pub contents-image : (w : World) → Sound w → (v t : ℕ) → t < (w.control.volume v).tracks → Runs w v → (w.control.volume v).fields.related ≡ false → w.contents v t ≡ image_at w.events v t
contents-image w s v t lt on plain =
    sym (ap (λ b. cond (b && not (contains (w.control.volume v).fields.own t)) (w.contents (w.control.volume v).fields.source t) (w.contents v t)) plain) ∙ view-image w s v t lt on

-- what is read is the same where the tracks that are read are
pub view-same : (w : World) (rows : SoundRows (table w)) (contents : ℕ → ℕ → List ℕ)
    → ((v t : ℕ) → is_volume w.control v ≡ true → t < (w.control.volume v).tracks → contents v t ≡ w.contents v t)
    → (v t : ℕ) → is_volume w.control v ≡ true → t < (w.control.volume v).tracks → view (λ u. (w.control.volume u).fields) contents v t ≡ view (λ u. (w.control.volume u).fields) w.contents v t
view-same w rows contents same v t there lt = by f.related refl
  where
    f : Fields
    f = (w.control.volume v).fields

    from_source : f.related ≡ true → contents f.source t ≡ w.contents f.source t
    from_source is =
        let flash = rows.structure.flash v f.source (choose_some _ _ is) in
        same f.source t flash.defined (subst (λ n. t < n) flash.same_tracks lt)

    by : (r : Bool) → f.related ≡ r → cond (f.related && not (contains f.own t)) (contents f.source t) (contents v t) ≡ cond (f.related && not (contains f.own t)) (w.contents f.source t) (w.contents v t)
    by true is = (λ i. cond (f.related && not (contains f.own t)) (from_source is i) (same v t there lt i))
    by false is =
        ap (λ b. cond (b && not (contains f.own t)) (contents f.source t) (contents v t)) is ∙ same v t there lt
        ∙ sym (ap (λ b. cond (b && not (contains f.own t)) (w.contents f.source t) (w.contents v t)) is)

-- the pair law holds of what the devices contain
pairs-on : (w : World) (s : Sound w) (device : ℕ → Blocks)
    → ((v t : ℕ) → is_volume w.control v ≡ true → t < (w.control.volume v).tracks → on_device w.control device v t ≡ w.contents v t)
    → PairLaw (on_devices w device)
pairs-on w s device tracks v u to both t lt clear clear' =
    let own = partnered both in
    let other = s.rows.parts.secondary v u to in
    tracks v t own.defined lt
    ∙ s.rows.pairs v u to both t lt clear clear'
    ∙ sym (tracks u t other.defined (subst (λ n. t < n) other.same_tracks lt))
  where
    partnered : (its_primary (table w u) ≡ Some v) ⊎ (its_secondary (table w u) ≡ Some v) → Partnered u (table w u) v (table w v)
    partnered (inl is) = s.rows.parts.primary u v is
    partnered (inr is) = s.rows.parts.secondary u v is

pub fits-sound : (w : World) (on : ℕ → Bool) (fuse : ℕ → Option Fuse) (device : ℕ → Blocks) → Sound w
    → ((s : ℕ) → s < 8 → on s ≡ w.control.on s)
    → ((s : ℕ) → s < 8 → fuse s ≡ w.control.fuse s)
    → ((v : ℕ) → is_volume w.control v ≡ true → SaysVolume (device (device_of w.control v)) (w.control.volume v))
    → ((v t : ℕ) → is_volume w.control v ≡ true → t < (w.control.volume v).tracks → on_device w.control device v t ≡ w.contents v t)
    → Fits w on fuse device
fits-sound w on fuse device s servers fuses volumes tracks = record {
  servers = servers;
  fuses = fuses;
  volumes = volumes;
  tracks = λ v t there inside. view-same w s.rows (on_device w.control device) tracks v t there inside ∙ view-due w s v t inside;
  pairs = pairs-on w s device tracks;
}
