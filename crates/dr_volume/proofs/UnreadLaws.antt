-- What is left where a volume's device could not be read.
use Rattle.std.proofs.Common.{ℕ, ◌≡◌, ◌≤◌, ◌<◌, true, false, [], refl, sym, ◌∙◌, ap, subst, Option, None, Some, arith}
use Rattle.std.specs.Prelude.{is_some}
use Rattle.dr_plant.specs.State.{PlantState, after_read, can_read, passes_read}
use Rattle.dr_config.specs.Table.{ConfigTable, StandsFor, place_of}
use Rattle.dr_config.specs.declared.entries.VolumeEntry.{VolumeEntry}
use Rattle.dr_model.specs.Control.{Volume}
use Rattle.dr_model.specs.ReadStops.{shut}
use Rattle.dr_volume.specs.View.{Rest, world, volume_seen, device_of}
use Rattle.dr_volume.specs.Update.{IsAsBefore}
use Rattle.dr_volume.proofs.VolumeLaws.{placed, volume-placed, device-placed}
use Rattle.dr_volume.proofs.RanLaws.{ran, ran-stands, read-stops}
use Rattle.dr_volume.proofs.SeenLaws.{Lies, others-stay}
use Rattle.dr_volume.proofs.UpdateLaws.{idle, burnt-world, server-seen}
use Rattle.dr_volume.proofs.RedoLaws.{same-all}
use Rattle.dr_logic.proofs.Truth.{and-second-false}

pub record Unread (c : ConfigTable) (s t : PlantState) (v : ℕ) : Type 0 where
  pub shuts : (r : Rest) → world t c r ≡ shut (world s c r) (volume_seen s c v).server
  pub same : (u : ℕ) → IsAsBefore s t c u
  pub stands : StandsFor c t
  pub unarmed : (q : ℕ) → s.read_fuse q ≡ None → t.read_fuse q ≡ None
  pub low : (volume_seen s c v).server < 8
  pub armed : s.on (volume_seen s c v).server ≡ true → is_some (s.read_fuse (volume_seen s c v).server) ≡ true

-- a fuse that lets no read pass is armed
pub armed-of : (f : Option ℕ) → passes_read f ≡ false → is_some f ≡ true
armed-of None h = absurd (cc)
armed-of (Some n) h = refl

-- where a volume lies
pub lies-at : (c : ConfigTable) (s : PlantState) (v : ℕ) → is_some (place_of c v) ≡ true → (volume_seen s c v).tracks ≤ 256 → StandsFor c s → (e : VolumeEntry) × Lies c s v (device_of c v) e
lies-at c s v defined few stands =
    let at = placed c v defined in
    let place : place_of c v ≡ Some (device_of c v) = at.2 ∙ ap (λ d. Some d) (sym (device-placed c v at.0 at.2)) in
    let device = stands.device at.0 at.1 at.3 in
    let d = sym (device-placed c v at.0 at.2) in
    let owner : s.owner at.0 ≡ at.1.server = device.0 in
    let low : at.1.server < 8 = device.2 in
    let tracks = ap (λ (w : Volume). w.tracks) (volume-placed s c v at.0 at.1 at.2 at.3) in
    (at.1, subst (λ x. Lies c s v x at.1) d (record { place = at.2; entry = at.3; owner = owner; low = omega arith; few = subst (λ n. n ≤ 256) tracks few }))

pub unread : (c : ConfigTable) (s t : PlantState) (v : ℕ) → is_some (place_of c v) ≡ true → (volume_seen s c v).tracks ≤ 256 → StandsFor c s → can_read s (device_of c v) ≡ false → t ≡ after_read s (device_of c v) → Unread c s t v
unread c s t v defined few stands stuck is =
    let d = device_of c v in
    let x = lies-at c s v defined few stands in
    let r = ran s t d [] true (read-stops s d [] stuck ∙ (λ i. (sym is i, true))) in
    let others = others-stay c s t v d x.0 x.1 r.apart in
    let server = server-seen c s v d x.0 x.1 in
    record {
      shuts = λ rest. ap (λ u. world u c rest) is ∙ burnt-world c s v d x.0 rest x.1 (subst (λ u. (q : ℕ) → (q ≡ v → ⊥) → IsAsBefore s u c q) is others) stuck ∙ ap (λ o. shut (world s c rest) o) (sym server);
      same = same-all c s t v (subst (λ u. IsAsBefore s u c v) (sym is) (idle c s v d x.0 x.1)) others;
      stands = ran-stands c s t d true r stands;
      unarmed = r.unarmed;
      low = subst (λ o. o < 8) (sym server) x.1.low;
      armed = λ up. subst (λ o. s.on o ≡ true → is_some (s.read_fuse o) ≡ true) (sym server) (λ on. armed-of (s.read_fuse (s.owner d)) (and-second-false (s.on (s.owner d)) _ stuck on)) up;
    }

-- a volume's server is one of the plant's
pub lies-low : (c : ConfigTable) (s : PlantState) (v : ℕ) → is_some (place_of c v) ≡ true → (volume_seen s c v).tracks ≤ 256 → StandsFor c s → (volume_seen s c v).server < 8
lies-low c s v defined few stands =
    let x = lies-at c s v defined few stands in
    subst (λ o. o < 8) (sym (server-seen c s v (device_of c v) x.0 x.1)) x.1.low
