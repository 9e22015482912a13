use Rattle.std.proofs.Common.{ℕ, ◌≡◌, ◌∙◌, Option, None, Some, refl}
use Rattle.std.specs.Prelude.{option_map}
use Rattle.dr_config.specs.declared.entries.VolumeEntry.{VolumeEntry}
use Rattle.dr_moves.proofs.PlaceLaws.{entry-found, looked-up, found-is}
use Rattle.dr_moves.proofs.place.tracks_of.Goals as goal

same : (o : Option ℕ) → option_map (λ (n : ℕ). n) o ≡ o
same None = refl
same (Some n) = refl

pub unwrap-requires : goal.unwrap-requires
unwrap-requires c = looked-up c.args.config.now c.args.v.0 (λ (n : ℕ). n) (λ (e : VolumeEntry). e.tracks) c.tracks_of.result c.requires.defined (same c.tracks_of.result ∙ c.tracks_of.ensures.value)

pub returns-clause-seen : goal.returns-clause-seen
returns-clause-seen c s =
    let t = c.args.config.now in
    (entry-found t c.args.v.0 c.requires.defined).3 s
    ∙ found-is t c.args.v.0 (λ (n : ℕ). n) (λ (e : VolumeEntry). e.tracks) c.tracks_of.result c.unwrap.result c.requires.defined (same c.tracks_of.result ∙ c.tracks_of.ensures.value) c.unwrap.ensures
