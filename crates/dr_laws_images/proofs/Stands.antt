-- An image stands for the devices of which it is, and for the world whose volumes it lists.
use Rattle.std.proofs.Common.{ℕ, ◌≡◌, ◌<◌, ◌+◌, inl, inr, refl, ap, sym, ◌∙◌, subst, Bool, true, false, cond, nat_eq, List, [], ◌∷◌, map, Option, Some, None, not, ◌||◌, ◌&&◌}
use Rattle.std.specs.Prelude.{All}
use Rattle.std.specs.List.{find, list_any}
use Rattle.std.proofs.lemmas.Bool.{and_parts, eqb-true, eq-eqb}
use Rattle.dr_model.specs.Layout.{Blocks, Fields, fields}
use Rattle.dr_model.specs.Control.{Control, World, is_volume}
use Rattle.dr_model.specs.Entries.{fields_at}
use Rattle.dr_model.specs.Groups.{In}
use Rattle.dr_model.specs.Laws.{Sound}
use Rattle.dr_model.specs.Fits.{device_of, on_device}
use Rattle.dr_model.specs.PlantImage.{Volume, device_blocks, is_source_of, has_source}
use Rattle.dr_model.specs.Listed.{ListsAll, listing, listing_of}
use Rattle.dr_model.specs.Offline.{volume_in, record_of, track_of, size_of, volumes_in, records_in, contents_in}
use Rattle.dr_facts.proofs.Lists.{Image, any-some, some-any, is-met, found, not-found, from-map, to-map}
use Rattle.dr_logic.proofs.Truth.{false_true}
use Rattle.dr_ids.specs.Sizes.{blocks_of}
use Rattle.dr_laws_images.specs.GivesBack.{GivesBack, IsWhole}
use Rattle.dr_laws_images.proofs.Blocks.{kept-reads, fields-same, track-same}
use Rattle.dr_laws_images.proofs.Proper.{of-all, is-listed, its-record}
use Rattle.dr_laws_images.proofs.RecoveredOf.{HasSource, Gives, reverts-related, gives-back}

-- the volume of a number in an image
record Found (vs : List Volume) (v : ℕ) : Type 0 where
  volume : Volume
  found : volume_in vs v ≡ Some volume
  here : In volume vs
  number : volume.volume ≡ v

is-found : (vs : List Volume) (v : ℕ) → In v (volumes_in vs) → Found vs v
is-found vs v h = by (volume_in vs v) refl
  where
    is : Volume → Bool
    is w = nat_eq w.volume v

    by : (o : Option Volume) → volume_in vs v ≡ o → Found vs v
    by (Some x) e = let f = found is vs x e in record { volume = x; found = e; here = f.0; number = eqb-true x.volume v f.1 }
    by None e = let at : Image (λ (w : Volume). w.volume) vs v = from-map (λ w. w.volume) vs v h in
        false_true (not-found is vs at.from e at.here) (eq-eqb at.from.volume v (sym at.is))

-- ---- the world whose volumes are listed

module _ (w : World) (sound : Sound w) (vs : List Volume) (all : ListsAll w vs) where
  abbrev k : Control
  k = w.control

  its-volume : (v : ℕ) → In v k.volumes → Found vs v
  its-volume v h = is-found vs v (subst (In v) (sym all.volumes) h)

  is-in : (v : ℕ) → is_volume k v ≡ true → In v k.volumes
  is-in v defined = is-met v k.volumes defined

  lists-size : (v : ℕ) → In v k.volumes → size_of (volume_in vs v) ≡ (k.volume v).tracks
  lists-size v h = let f = its-volume v h in ap size_of f.found ∙ ((is-listed w sound vs all f.volume f.here).tracks ∙ ap (λ u. (k.volume u).tracks) f.number)

  lists-record : (v : ℕ) → In v k.volumes → records_in vs v ≡ fields_at k v
  lists-record v h = let f = its-volume v h in ap record_of f.found ∙ (its-record w sound vs all f.volume f.here ∙ ap (fields_at k) f.number)

  lists-track : (v t : ℕ) → In v k.volumes → t < (k.volume v).tracks → contents_in vs v t ≡ w.contents v t
  lists-track v t h lt =
      let f = its-volume v h in
      let listed = is-listed w sound vs all f.volume f.here in
      ap (λ o. track_of o t) f.found ∙ (listed.holds t (subst (λ n. t < n) (sym (listed.tracks ∙ ap (λ u. (k.volume u).tracks) f.number)) lt) ∙ ap (λ u. w.contents u t) f.number)

  world-source : (v : ℕ) → (fields_at k v).related ≡ true → HasSource k (fields_at k) v
  world-source v related =
      let flash = sound.rows.structure.flash v (fields_at k v).source (ap (λ b. cond b (Some (fields_at k v).source) None) related) in
      record { there = is-in (fields_at k v).source flash.defined; size = sym flash.same_tracks }

  related-of : (v : ℕ) → In v k.volumes → (fields_at k v).revertible ≡ true → (fields_at k v).related ≡ true
  related-of v h = let f = its-volume v h in
      subst (λ (r : Fields). r.revertible ≡ true → r.related ≡ true) (its-record w sound vs all f.volume f.here ∙ ap (fields_at k) f.number) (reverts-related f.volume.tracks (device_blocks f.volume))

  gives-world : Gives k (fields_at k) w.contents vs
  gives-world = record { volumes = all.volumes; sizes = lists-size; records = lists-record; tracks = lists-track; sources = λ v h. world-source v; reverts = related-of }

  pub world-back : (s : ℕ) → GivesBack k (fields_at k) w.contents vs s
  world-back = gives-back k (fields_at k) w.contents vs gives-world

  -- ---- the devices of a plant that fits

  module _ (device : ℕ → Blocks) (says : (v : ℕ) → is_volume k v ≡ true → fields (k.volume v).tracks (device (device_of k v)) ≡ fields_at k v)
      (holds : (v t : ℕ) → is_volume k v ≡ true → t < (k.volume v).tracks → on_device k device v t ≡ w.contents v t) where
    abbrev on : ℕ → Fields
    on v = fields (k.volume v).tracks (device (device_of k v))

    is-defined : (v : ℕ) → In v k.volumes → is_volume k v ≡ true
    is-defined v h = any-some (nat_eq v) k.volumes v h (eq-eqb v v refl)

    on-source : (v : ℕ) → In v k.volumes → (on v).related ≡ true → HasSource k on v
    on-source v h related =
        let same : fields_at k v ≡ on v = sym (says v (is-defined v h)) in
        let from = world-source v (ap (λ (r : Fields). r.related) same ∙ related) in
        let source : (fields_at k v).source ≡ (on v).source = ap (λ (r : Fields). r.source) same in
        record { there = subst (λ u. In u k.volumes) source from.there; size = subst (λ u. (k.volume u).tracks ≡ (k.volume v).tracks) source from.size }

    gives-devices : Gives k on (on_device k device) vs
    gives-devices = record {
      volumes = all.volumes;
      sizes = lists-size;
      records = λ v h. lists-record v h ∙ sym (says v (is-defined v h));
      tracks = λ v t h lt. lists-track v t h lt ∙ sym (holds v t (is-defined v h) lt);
      sources = on-source;
      reverts = λ v h. reverts-related (k.volume v).tracks (device (device_of k v));
    }

    pub devices-back : (s : ℕ) → GivesBack k on (on_device k device) vs s
    devices-back = gives-back k on (on_device k device) vs gives-devices

-- ---- devices as they are listed

-- the source of a volume in an image
record Sourced (vs : List Volume) (x : Volume) : Type 0 where
  volume : Volume
  here : In volume vs
  number : volume.volume ≡ (fields x.tracks (device_blocks x)).source
  size : volume.tracks ≡ x.tracks

some-source : (vs : List Volume) (x : Volume) → (fields x.tracks (device_blocks x)).related ≡ true → has_source vs x ≡ true → Sourced vs x
unfolding has_source
some-source vs x related h = by (some-any (is_source_of x f.source) vs (ap (λ b. not b || list_any (is_source_of x f.source) vs) (sym related) ∙ h))
  where
    f : Fields
    f = fields x.tracks (device_blocks x)

    by : (u : Volume) × (In u vs × (is_source_of x f.source u ≡ true)) → Sourced vs x
    by (u, (there, passes)) =
        let a = and_parts (nat_eq u.volume f.source) (not (nat_eq u.volume x.volume) && (nat_eq u.server x.server && nat_eq u.tracks x.tracks)) passes in
        let b = and_parts (not (nat_eq u.volume x.volume)) (nat_eq u.server x.server && nat_eq u.tracks x.tracks) a.1 in
        record { volume = u; here = there; number = eqb-true u.volume f.source a.0; size = eqb-true u.tracks x.tracks (and_parts (nat_eq u.server x.server) (nat_eq u.tracks x.tracks) b.1).1 }

module _ (k : Control) (device : ℕ → Blocks) (whole : IsWhole k device) (sources : All (λ v. has_source (listing k device) v ≡ true) (listing k device)) where
  abbrev vs : List Volume
  vs = listing k device

  numbers-of : (xs : List ℕ) → map (λ (v : Volume). v.volume) (map (listing_of k device) xs) ≡ xs
  numbers-of [] = refl
  numbers-of (x ∷ xs) = ap (λ ys. x ∷ ys) (numbers-of xs)

  listed-volume : (xs : List ℕ) (v : ℕ) → In v xs → find (λ (u : Volume). nat_eq u.volume v) (map (listing_of k device) xs) ≡ Some (listing_of k device v)
  listed-volume [] v h = absurd h
  listed-volume (x ∷ xs) v h = by (nat_eq x v) refl h (listed-volume xs v)
    where
      by : (b : Bool) → nat_eq x v ≡ b → In v (x ∷ xs) → (In v xs → find (λ (u : Volume). nat_eq u.volume v) (map (listing_of k device) xs) ≡ Some (listing_of k device v))
          → cond (nat_eq x v) (Some (listing_of k device x)) (find (λ (u : Volume). nat_eq u.volume v) (map (listing_of k device) xs)) ≡ Some (listing_of k device v)
      by true e h rest = ap (λ b. cond b (Some (listing_of k device x)) (find (λ (u : Volume). nat_eq u.volume v) (map (listing_of k device) xs))) e ∙ ap (λ u. Some (listing_of k device u)) (eqb-true x v e)
      by false e (inl is) rest = false_true e (eq-eqb x v (sym is))
      by false e (inr more) rest = ap (λ b. cond b (Some (listing_of k device x)) (find (λ (u : Volume). nat_eq u.volume v) (map (listing_of k device) xs))) e ∙ rest more

  its-listing : (v : ℕ) → In v k.volumes → volume_in vs v ≡ Some (listing_of k device v)
  its-listing = listed-volume k.volumes

  -- its blocks are the first ones of the device
  same-blocks : (v : ℕ) → In v k.volumes → (j : ℕ) → j < blocks_of (k.volume v).tracks → device_blocks (listing_of k device v) j ≡ device (device_of k v) j
  same-blocks v h = kept-reads (blocks_of (k.volume v).tracks) (device (device_of k v)) (λ j lt. whole v j h lt)

  abbrev here : ℕ → Fields
  here v = fields (k.volume v).tracks (device (device_of k v))

  same-record : (v : ℕ) → In v k.volumes → records_in vs v ≡ here v
  same-record v h = ap record_of (its-listing v h) ∙ fields-same (k.volume v).tracks (device_blocks (listing_of k device v)) (device (device_of k v)) (same-blocks v h)

  same-track : (v t : ℕ) → In v k.volumes → t < (k.volume v).tracks → contents_in vs v t ≡ on_device k device v t
  same-track v t h lt = ap (λ o. track_of o t) (its-listing v h) ∙ track-same (k.volume v).tracks (device_blocks (listing_of k device v)) (device (device_of k v)) (same-blocks v h) t lt

  has-source : (v : ℕ) → In v k.volumes → (here v).related ≡ true → HasSource k here v
  has-source v h related =
      let x : Volume = listing_of k device v in
      let said : fields x.tracks (device_blocks x) ≡ here v = fields-same (k.volume v).tracks (device_blocks x) (device (device_of k v)) (same-blocks v h) in
      let named : (fields x.tracks (device_blocks x)).source ≡ (here v).source = ap (λ (r : Fields). r.source) said in
      let from = some-source vs x (ap (λ (r : Fields). r.related) said ∙ related) (of-all (λ u. has_source vs u ≡ true) vs x sources (to-map (listing_of k device) k.volumes v h)) in
      let of = from-map (listing_of k device) k.volumes from.volume from.here in
      let number : of.from ≡ (here v).source = ap (λ (u : Volume). u.volume) (sym of.is) ∙ (from.number ∙ named) in
      record {
        there = subst (λ u. In u k.volumes) number of.here;
        size = ap (λ u. (k.volume u).tracks) (sym number) ∙ (ap (λ (u : Volume). u.tracks) (sym of.is) ∙ from.size);
      }

  gives-listing : Gives k here (on_device k device) vs
  gives-listing = record {
    volumes = numbers-of k.volumes;
    sizes = λ v h. ap size_of (its-listing v h);
    records = same-record;
    tracks = same-track;
    sources = has-source;
    reverts = λ v h. reverts-related (k.volume v).tracks (device (device_of k v));
  }

  pub listing-back : (s : ℕ) → GivesBack k here (on_device k device) vs s
  listing-back = gives-back k here (on_device k device) vs gives-listing
