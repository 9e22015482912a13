-- What a host write on a Metro Mirror primary with a cascaded secondary comes to behind its checks, by the tests on both.
use Rattle.std.proofs.Common.{ℕ, ◌≡◌, Bool, true, false, not, ◌&&◌, ◌||◌, List, [], ◌∷◌, refl, ◌∙◌, ap}
use Rattle.std.specs.Prelude.{if◌then◌else◌}
use Rattle.std.specs.FinSet.{contains}
use Rattle.dr_model.specs.Carry.{Stretch}
use Rattle.dr_model.specs.Control.{Control}
use Rattle.dr_model.specs.Entries.{fields_at, land_alone}
use Rattle.dr_model.specs.Layout.{Fields}
use Rattle.dr_model.specs.Pairs.{held, goes_over, collides, is_cascaded, is_kind, is_metro}
use Rattle.dr_model.specs.declared.state.Part.{Part}
use Rattle.dr_model.specs.declared.state.Part.TheVariants.{Absent, Metro, Global}
use Rattle.dr_model.specs.WriteEntries.{partner_of, is_parted, is_grouped, land_parted, land_mirrored, land_fed, land_collided, waits, part_after}
use Rattle.dr_metro.specs.Syncing.{sent_stretches, fed_stretches, placed_stretches}

module _ (k : Control) (n v t : ℕ) where
  abbrev f : Fields
  f = fields_at k v

  abbrev u : ℕ
  u = partner_of k v

  abbrev is_coordinated : Bool
  is_coordinated = (fields_at k u).coordination

  -- the stretches, by whether it is held, goes over, can't be sent over, the secondary is cascaded and coordinated, and the track collides
  abbrev by : Bool → Bool → Bool → Bool → Bool → Bool → List Stretch
  by waits goes parted cascaded coordinated meets =
      if waits then record { entries = []; follows = part_after v } ∷ []
      else if goes && (not parted && (cascaded && not (cascaded && coordinated))) then fed_stretches k.volumes n v t u (partner_of k u)
      else if not goes && meets then sent_stretches k.volumes n v t u
      else record {
        entries =
            if waits then []
            else if goes then (if parted then land_parted k n v t else if cascaded && coordinated then [] else if cascaded then land_fed k.volumes n v t u (partner_of k u) else land_mirrored k.volumes n v t u)
            else if meets then land_collided k n v t
            else land_alone k.volumes n v t;
        follows = part_after v;
      } ∷ []

  pub held-placed : held f ≡ true → placed_stretches k n v t ≡ record { entries = []; follows = part_after v } ∷ []
  held-placed is = λ i. by (is i) (goes_over f t) (is_parted k v) (is_cascaded (fields_at k u)) is_coordinated (collides f t)

  pub alone-placed : held f ≡ false → goes_over f t ≡ false → collides f t ≡ false → placed_stretches k n v t ≡ record { entries = land_alone k.volumes n v t; follows = part_after v } ∷ []
  alone-placed free stays apart = λ i. by (free i) (stays i) (is_parted k v) (is_cascaded (fields_at k u)) is_coordinated (apart i)

  pub parted-placed : held f ≡ false → goes_over f t ≡ true → is_parted k v ≡ true → placed_stretches k n v t ≡ record { entries = land_parted k n v t; follows = part_after v } ∷ []
  parted-placed free goes parted = λ i. by (free i) (goes i) (parted i) (is_cascaded (fields_at k u)) is_coordinated (collides f t)

  pub kept-placed : held f ≡ false → goes_over f t ≡ true → is_parted k v ≡ false → is_cascaded (fields_at k u) ≡ true → is_coordinated ≡ true → placed_stretches k n v t ≡ record { entries = []; follows = part_after v } ∷ []
  kept-placed free goes reached cascaded is = λ i. by (free i) (goes i) (reached i) (cascaded i) (is i) (collides f t)

  pub fed-placed : held f ≡ false → goes_over f t ≡ true → is_parted k v ≡ false → is_cascaded (fields_at k u) ≡ true → is_coordinated ≡ false → placed_stretches k n v t ≡ fed_stretches k.volumes n v t u (partner_of k u)
  fed-placed free goes reached cascaded is = λ i. by (free i) (goes i) (reached i) (cascaded i) (is i) (collides f t)

  -- and whether it waits
  abbrev waits_so : Bool → Bool → Bool → Bool → Bool → Bool
  waits_so is_held goes parted cascaded coordinated = is_held || (goes && (if parted then is_grouped k v u else cascaded && coordinated))

  pub held-waits : held f ≡ true → waits k v t ≡ true
  held-waits is = λ i. waits_so (is i) (goes_over f t) (is_parted k v) (is_cascaded (fields_at k u)) is_coordinated

  pub alone-waits : held f ≡ false → goes_over f t ≡ false → waits k v t ≡ false
  alone-waits free stays = λ i. waits_so (free i) (stays i) (is_parted k v) (is_cascaded (fields_at k u)) is_coordinated

  pub parted-waits : held f ≡ false → goes_over f t ≡ true → is_parted k v ≡ true → waits k v t ≡ is_grouped k v u
  parted-waits free goes parted = λ i. waits_so (free i) (goes i) (parted i) (is_cascaded (fields_at k u)) is_coordinated

  pub kept-waits : held f ≡ false → goes_over f t ≡ true → is_parted k v ≡ false → is_cascaded (fields_at k u) ≡ true → is_coordinated ≡ true → waits k v t ≡ true
  kept-waits free goes reached cascaded is = λ i. waits_so (free i) (goes i) (reached i) (cascaded i) (is i)

  pub fed-waits : held f ≡ false → goes_over f t ≡ true → is_parted k v ≡ false → is_coordinated ≡ false → is_cascaded (fields_at k u) ≡ true → waits k v t ≡ false
  fed-waits free goes reached is cascaded = λ i. waits_so (free i) (goes i) (reached i) (cascaded i) (is i)

-- on a Metro Mirror primary no track collides
pub metro-apart : (g : Fields) (t : ℕ) → is_metro g.primary ≡ true → collides g t ≡ false
metro-apart g t metro = ap (λ b. b && (g.recording && contains g.out_of_sync t)) (by g.primary metro)
  where
    by : (p : Part) → is_metro p ≡ true → is_kind Global p ≡ false
    by Metro h = refl
    by Absent h = absurd cc
    by Global h = absurd cc
