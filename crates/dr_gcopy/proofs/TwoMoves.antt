-- A volume stays on its server, which is on as before.
use Rattle.std.proofs.Common.{ℕ, ◌≡◌, true, sym, ◌∙◌}
use Rattle.std.specs.Prelude.{is_some}
use Rattle.dr_plant.specs.State.{PlantState}
use Rattle.dr_config.specs.Table.{ConfigTable, place_of}
use Rattle.dr_volume.specs.View.{volume_seen}
use Rattle.dr_moves.proofs.PlaceLaws.{entry-found}

-- a volume stays on its server
pub server-stays : (s u : PlantState) (t : ConfigTable) (v : ℕ) → is_some (place_of t v) ≡ true → (volume_seen u t v).server ≡ (volume_seen s t v).server
server-stays s u t v defined = let x = entry-found t v defined in x.2 u ∙ sym (x.2 s)

pub still-running : (s u : PlantState) (t : ConfigTable) (v : ℕ) → is_some (place_of t v) ≡ true → u.on ≡ s.on → s.on (volume_seen s t v).server ≡ true → u.on (volume_seen u t v).server ≡ true
still-running s u t v defined on running = (λ i. on i (server-stays s u t v defined i)) ∙ running
