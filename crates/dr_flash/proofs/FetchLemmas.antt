-- A source is read where its target can be, and what the background copy comes to.
use Rattle.std.proofs.Common.{ℕ, List, ◌≡◌, true, false, ◌&&◌, sym, ◌∙◌, ap, Option, None}
use Rattle.std.specs.Prelude.{is_some, if◌then◌else◌}
use Rattle.dr_plant.specs.State.{PlantState, can_read, passes_read}
use Rattle.dr_config.specs.Table.{ConfigTable, StandsFor, place_of}
use Rattle.dr_model.specs.declared.event.Event.{Event}
use Rattle.dr_model.specs.Control.{World, Volume}
use Rattle.dr_model.specs.Moves.{Fetch}
use Rattle.dr_model.specs.Carry.{now}
use Rattle.dr_model.specs.Layout.{Fields}
use Rattle.dr_model.specs.Entries.{fetch_next, lowest_missing, on_found}
use Rattle.dr_model.specs.Relations.{lowest, rest}
use Rattle.dr_volume.specs.View.{Rest, volume_seen, device_of}
use Rattle.dr_volume.proofs.VolumeLaws.{placed, volume-placed, device-placed}
use Rattle.dr_moves.specs.Fit.{SourceFits}
use Rattle.dr_moves.specs.Here.{world_seen}

-- a volume's device is its server's
pub owned : (s : PlantState) (t : ConfigTable) (v : ℕ) → StandsFor t s → is_some (place_of t v) ≡ true → s.owner (device_of t v) ≡ (volume_seen s t v).server
owned s t v stands defined =
    let x = placed t v defined in
    ap s.owner (device-placed t v x.0 x.2) ∙ (stands.device x.0 x.1 x.3).0 ∙ sym (ap (λ (w : Volume). w.server) (volume-placed s t v x.0 x.1 x.2 x.3))

pub can-alike : (s : PlantState) (t : ConfigTable) (v u : ℕ) → StandsFor t s → is_some (place_of t v) ≡ true → SourceFits (is_some (place_of t u)) (volume_seen s t v) (volume_seen s t u) → can_read s (device_of t u) ≡ can_read s (device_of t v)
can-alike s t v u stands defined fits =
    ap (λ o. s.on o && passes_read (s.read_fuse o)) (owned s t u stands fits.defined ∙ sym fits.same_server ∙ sym (owned s t v stands defined))

-- the lowest track that a target of n tracks with these fields doesn't hold; none where it is no target
abbrev pub missing_in : ℕ → Fields → Option ℕ
missing_in n f = if f.related then lowest n (rest n f.own) else None

pub missing-none : (n : ℕ) (f : Fields) → f.related ≡ false → None ≡ missing_in n f
missing-none n f single = ap (λ b. if b then lowest n (rest n f.own) else None) (sym single)

pub missing-of : (n : ℕ) (f : Fields) (o : Option ℕ) → f.related ≡ true → o ≡ lowest n (rest n f.own) → o ≡ missing_in n f
missing-of n f o related found = found ∙ ap (λ b. if b then lowest n (rest n f.own) else None) (sym related)

-- what is fetched next is that track
module _ (s : PlantState) (t : ConfigTable) (r : Rest) (events : List Event) (v n : ℕ) (f : Fields) (shows : f ≡ (volume_seen s t v).fields) (sized : (volume_seen s t v).tracks ≡ n) (o : Option ℕ) (found : o ≡ missing_in n f) where
  abbrev w : World
  w = world_seen s t r events

  pub missing-is : lowest_missing v w.control ≡ o
  missing-is = (λ i. missing_in (sized i) (sym shows i)) ∙ sym found

  pub fetch-is : fetch_next v w.control ≡ on_found o (λ k. now (Fetch v k)) w.control
  fetch-is = ap (λ x. on_found x (λ k. now (Fetch v k)) w.control) missing-is
