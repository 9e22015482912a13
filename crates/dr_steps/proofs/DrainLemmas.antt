-- A drain as a step: what it is refused for, what it tells at most, and what follows where a server stops in it.
use Rattle.std.proofs.Common.{ℕ, ◌≡◌, ◌≢◌, ◌≤◌, ◌+◌, List, [], ◌∷◌, ◌++◌, length, take, refl, sym, ◌∙◌, ap, subst, arith, Bool, true, false, ◌&&◌, inl, inr, Option, Some, None}
use Rattle.std.specs.Prelude.{is_some, if◌then◌else◌}
use Rattle.std.proofs.lemmas.List.{append-nil}
use Rattle.dr_ids.specs.declared.refusal.Refusal.{Refusal}
use Rattle.dr_ids.specs.declared.refusal.Refusal.TheVariants.{Stopped}
use Rattle.dr_ids.specs.declared.refusal.Kind.TheVariants.{Volume as OfVolume}
use Rattle.dr_plant.specs.State.{PlantState}
use Rattle.dr_config.specs.Table.{ConfigTable, place_of, entry_of}
use Rattle.dr_config.specs.declared.entries.VolumeEntry.{VolumeEntry}
use Rattle.dr_steps.specs.declared.tables.Tables.{Tables}
use Rattle.dr_model.specs.declared.event.Event.{Event}
use Rattle.dr_model.specs.declared.said.Said.TheVariants.{Done, Refused}
use Rattle.dr_model.specs.declared.said.Addition.TheVariants.{Counted}
use Rattle.dr_model.specs.Layout.{Fields, is_part}
use Rattle.dr_model.specs.Relations.{in_order}
use Rattle.dr_model.specs.Pairs.{is_pending, is_cascaded}
use Rattle.dr_model.specs.Control.{World}
use Rattle.dr_model.specs.Carry.{Entry, Stretch, carry, carry_each, check, follow, follows_at, entries_in, stopped_at}
use Rattle.dr_model.specs.Entries.{is_running, pair_state}
use Rattle.dr_model.specs.Laws.{Sound}
use Rattle.dr_model.specs.PairEntries.{sends, feeds, drain_stretches, tracks_to_send, suspend_after, is_copying}
use Rattle.dr_model.specs.Plans.{Plan, is_defined, drain_plan}
use Rattle.dr_model.specs.Refusals.{unknown, server_off}
use Rattle.dr_laws_sound.proofs.Costs.{Costs, carry-adds}
use Rattle.dr_laws_sound.proofs.PairCosts.{drains-costs, sent-few}
use Rattle.dr_volume.specs.declared.head.Head.{Head}
use Rattle.dr_volume.specs.Head.{head_of}
use Rattle.dr_volume.specs.View.{Rest, volume_seen, ids_of, ReadsPass}
use Rattle.dr_moves.specs.Checks.{Checked}
use Rattle.dr_moves.specs.Here.{world_seen, armed_in, IsAtRest}
use Rattle.dr_moves.specs.Turns.{Leads}
use Rattle.dr_moves.proofs.EntryLemmas.{refuses}
use Rattle.dr_facts.proofs.Ends.{ends-passed, ends-none}
use Rattle.dr_moves.proofs.StretchLemmas.{Carried, in-none, in-some}
use Rattle.dr_moves.specs.Followed.{EndsFollowed, EndsIn}
use Rattle.dr_cascade.specs.Feeding.{LeadsIn}
use Rattle.dr_gcopy.specs.Sending.{MayPair}
use Rattle.dr_steps.specs.Here.{here, IsTold, Carries}
use Rattle.dr_steps.specs.Waiting.{PartnersFit}
use Rattle.dr_steps.proofs.CarriesLemmas.{carries}
use Rattle.dr_steps.proofs.LandLemmas.{exact, told-through}
use Rattle.dr_steps.proofs.LocatedLemmas.{is_volume-here}
use Rattle.dr_steps.proofs.RelationLemmas.{placed-here}

-- a primary in Copy Pending, by its fields
abbrev pub copying_by : Fields → Bool
copying_by f = is_part f.primary && is_pending f.primary_state

-- entries with what follows a stop in them are one stretch
pub one-stretch : (armed : ℕ → Bool) (w : World) (es fs : List Entry) (u : World) (r : Option Refusal) → EndsFollowed armed w es fs u r → EndsIn armed w (record { entries = es; follows = fs } ∷ []) u r
one-stretch armed w es fs u None x = inl (record { middle = x.middle; ends = x.ends; later = (x.followed, refl) })
one-stretch armed w es fs u (Some r) x = inr (record { why = r; middle = x.middle; ends = x.ends; followed = x.followed; refusal = refl })

-- the partner of a primary, by the heads of both: whether it is cascaded
pub is-cascaded : (s : PlantState) (c : ConfigTable) (a : ℕ) (b : Bool) (head other : Head) → head ≡ head_of (volume_seen s c a).fields → other ≡ head_of (volume_seen s c head.primary_partner.0).fields → (is_part other.primary && is_part other.secondary) ≡ b
    → is_cascaded (volume_seen s c (volume_seen s c a).fields.primary_partner).fields ≡ b
is-cascaded s c a b head other own its is =
    ap (λ (x : Head). is_cascaded (volume_seen s c x.primary_partner.0).fields) (sym own) ∙ ap (λ (x : Head). is_part x.primary && is_part x.secondary) (sym its) ∙ is

-- a primary and its partner
pub may-pair : (s : PlantState) (c : ConfigTable) → PartnersFit s c → (v : ℕ) → is_part (volume_seen s c v).fields.primary ≡ true → MayPair s c v (volume_seen s c v).fields.primary_partner
may-pair s c fits v part = record { to = fits.defined v part; two_servers = fits.apart v part; size = fits.same_tracks v part }

module _ (s : PlantState) (c : ConfigTable) (h : Tables) (ev : List Event) (a : ℕ) (pass : ReadsPass s) where
  abbrev pub before : World
  before = here s c h ev

  abbrev pub own : Fields
  own = (volume_seen s c a).fields

  abbrev pub to : ℕ
  to = own.primary_partner

  -- the partner is a volume of the plant, on another server and as large
  pub partner : Sound before → is_part own.primary ≡ true → (is_some (place_of c to) ≡ true) × ((volume_seen s c to).tracks ≡ (volume_seen s c a).tracks) × ((volume_seen s c a).server ≢ (volume_seen s c to).server)
  partner sound is =
      let fits = sound.rows.parts.secondary a to (ap (λ b. if b then Some to else None) is) in
      (placed-here s c h ev to fits.defined, sym fits.same_tracks, fits.apart)

  abbrev by_secondary : World → List ℕ → Bool → List Stretch
  by_secondary w ts cascaded =
      if cascaded then feeds w.control.volumes a to (volume_seen s c to).fields.primary_partner ts
      else record { entries = sends w.control.volumes a to ts; follows = suspend_after a } ∷ []

  -- as many tracks as were sent tell at most this, whatever the rest of the world is
  tell : Sound before → IsAtRest s c → (k : ℕ) (r : Rest) (u : World)
      → carry (world_seen s c r ev) (entries_in (drain_stretches (world_seen s c r ev).control a (take k (in_order (volume_seen s c a).tracks own.out_of_sync)))) ≡ (u, None) → length u.events ≤ length ev + 7168 + 1
  tell sound rest k r u is =
      let w : World = world_seen s c r ev in
      let n : ℕ = (volume_seen s c a).tracks in
      let ts : List ℕ = take k (in_order n own.out_of_sync) in
      let few : length ts ≤ n = sent-few (Some k) n own.out_of_sync in
      let small : n ≤ 256 = rest.sizes a in
      let costs : Costs 7168 w (entries_in (drain_stretches w.control a ts)) = drains-costs w.control a ts 7168 (omega (arith, few, small)) w sound.targets.few in
      subst (λ (o : World × Option Refusal). length o.0.events ≤ length ev + 7168 + 1) is (carry-adds 7168 w (entries_in (drain_stretches w.control a ts)) costs)

  -- sent to a secondary that isn't cascaded
  pub sends-tell : is_cascaded (volume_seen s c to).fields ≡ false → Sound before → IsAtRest s c → (k : ℕ) (r : Rest) (u : World) → Leads (world_seen s c r ev) (sends (ids_of c.volumes) a to (take k (in_order (volume_seen s c a).tracks own.out_of_sync))) u → length u.events ≤ length ev + 7168 + 1
  sends-tell alone sound rest k r u leads =
      let w : World = world_seen s c r ev in
      let ts : List ℕ = take k (in_order (volume_seen s c a).tracks own.out_of_sync) in
      let es : List Entry = sends (ids_of c.volumes) a to ts in
      tell sound rest k r u (ap (λ x. carry w (entries_in (by_secondary w ts x))) alone
      ∙ ap (carry w) (sym (append-nil es))
      ∙ exact s u None w (es ++ []) pass (leads (armed_in s) u None [] (ends-none (armed_in s) u None u (record { world = refl; refusal = refl }))))

  -- and to one that is
  pub feeds-tell : is_cascaded (volume_seen s c to).fields ≡ true → Sound before → IsAtRest s c → (k : ℕ) (r : Rest) (u : World) → LeadsIn (world_seen s c r ev) (feeds (ids_of c.volumes) a to (volume_seen s c to).fields.primary_partner (take k (in_order (volume_seen s c a).tracks own.out_of_sync))) u → length u.events ≤ length ev + 7168 + 1
  feeds-tell cascaded sound rest k r u leads =
      let w : World = world_seen s c r ev in
      let ts : List ℕ = take k (in_order (volume_seen s c a).tracks own.out_of_sync) in
      let ss : List Stretch = feeds (ids_of c.volumes) a to (volume_seen s c to).fields.primary_partner ts in
      tell sound rest k r u (ap (λ x. carry w (entries_in (by_secondary w ts x))) cascaded
      ∙ in-none (armed_in s) (λ u r w ds. exact s u r w ds pass) w ss u
      (subst (λ (xs : List Stretch). EndsIn (armed_in s) w xs u None) (append-nil ss) (leads (armed_in s) u None [] (refl, refl))))

  module _ (most : Option ℕ) where
    abbrev pub plan : Plan
    plan = drain_plan before.control a most

    abbrev pub sent : List ℕ
    sent = tracks_to_send most (volume_seen s c a).tracks own.out_of_sync

    abbrev pub sending : List Stretch
    sending = drain_stretches before.control a sent

    abbrev checks : List Entry
    checks =
        check (is_defined a) (unknown OfVolume)
        ∷ check (is_running a) (server_off (before.control.volume a).server)
        ∷ check (is_copying a) (pair_state before.control a) ∷ []

    abbrev asking : Stretch
    asking = record { entries = checks; follows = suspend_after a }

    abbrev stretches : List Stretch
    stretches = asking ∷ sending

    abbrev all : List Entry
    all = checks ++ entries_in sending

    first-in : (s : Stretch) (ss : List Stretch) → entries_in (s ∷ ss) ≡ s.entries ++ entries_in ss
    first-in s [] = sym (append-nil s.entries)
    first-in s (t ∷ ts) = refl

    begins : carry (record before { events = ev ++ [] }) all ≡ carry before all
    begins = ap (λ es. carry (record before { events = es }) all) (append-nil ev)

    refused-so : (why : Refusal) → Checked before checks (Some why) → carry before all ≡ (before, Some why)
    refused-so why checked = exact s before (Some why) before all pass (checked (armed_in s) (entries_in sending))

    -- a check that fails ends it, where it is no stop
    fails-so : (why : Refusal) → Checked before checks (Some why) → ((ds : List Entry) → follow before why ds ≡ before) → Carries before plan before (Refused why)
    fails-so why checked calm = carries before plan (before, Some why) before (Refused why) (begins ∙ refused-so why checked) (calm _) refl

    calm-as : (why other : Refusal) → why ≡ other → ((ds : List Entry) → follow before other ds ≡ before) → (ds : List Entry) → follow before why ds ≡ before
    calm-as why other is calm ds = ap (λ x. follow before x ds) is ∙ calm ds

    pub drain-nowhere : (why : Refusal) → entry_of c a ≡ None → why ≡ unknown OfVolume → Carries before plan before (Refused why)
    drain-nowhere why none is =
        fails-so why (λ armed ds. refuses armed before (is_defined a) (unknown OfVolume) (Some why) _ (is_volume-here s c h ev a ∙ ap is_some none) (ap (λ x. Some x) is)) (calm-as why (unknown OfVolume) is (λ ds. refl))

    module _ (e : VolumeEntry) (found : entry_of c a ≡ Some e) where
      there : is_defined a before.control ≡ true
      there = is_volume-here s c h ev a ∙ ap is_some found

      pub drain-off : (why : Refusal) → is_running a before.control ≡ false → why ≡ server_off (before.control.volume a).server → Carries before plan before (Refused why)
      drain-off why off is =
          fails-so why (λ armed ds. ends-passed armed before (Some why) before (is_defined a) (unknown OfVolume) _ there
          (refuses armed before (is_running a) (server_off (before.control.volume a).server) (Some why) _ off (ap (λ x. Some x) is)))
          (calm-as why (server_off (before.control.volume a).server) is (λ ds. refl))

      module _ (on : is_running a before.control ≡ true) where
        pub drain-unfit : (why : Refusal) → is_copying a before.control ≡ false → why ≡ pair_state before.control a → Carries before plan before (Refused why)
        drain-unfit why never is =
            fails-so why (λ armed ds. ends-passed armed before (Some why) before (is_defined a) (unknown OfVolume) _ there
            (ends-passed armed before (Some why) before (is_running a) (server_off (before.control.volume a).server) _ on
            (refuses armed before (is_copying a) (pair_state before.control a) (Some why) _ never (ap (λ x. Some x) is))))
            (calm-as why (pair_state before.control a) is (λ ds. refl))

        module _ (may : is_copying a before.control ≡ true) where
          checked : Checked before checks None
          checked armed u r ds ends =
              ends-passed armed u r before (is_defined a) (unknown OfVolume) _ there
              (ends-passed armed u r before (is_running a) (server_off (before.control.volume a).server) _ on
              (ends-passed armed u r before (is_copying a) (pair_state before.control a) _ may ends))

          whole : (u : World) (r : Option Refusal) → EndsIn (armed_in s) before sending u r → EndsIn (armed_in s) before stretches u r
          whole u r ends = inl (record { middle = before; ends = checked (armed_in s) before None [] (ends-none (armed_in s) before None before (record { world = refl; refusal = refl })); later = ends })

          -- all were sent
          pub drain-done : (u : World) → EndsIn (armed_in s) before sending u None → Carries before plan u (Done (Counted (length sent)))
          drain-done u ended =
              carries before plan (u, None) u (Done (Counted (length sent)))
              (begins ∙ ap (carry before) (sym (first-in asking sending)) ∙ in-none (armed_in s) (λ u r w ds. exact s u r w ds pass) before stretches u (whole u None ended)) refl refl

          -- or one failed
          pub drain-failed : (u : World) (r : Refusal) → EndsIn (armed_in s) before sending u (Some r) → Carries before plan u (Refused r)
          drain-failed u r ended =
              let x : Carried before stretches u r = in-some (armed_in s) (λ u r w ds. exact s u r w ds pass) before stretches u r (whole u (Some r) ended) in
              carries before plan (x.middle, Some r) u (Refused r) (begins ∙ ap (carry before) (sym (first-in asking sending)) ∙ x.carried)
              (ap (λ n. follow x.middle r (follows_at stretches n)) ((λ i. stopped_at (record before { events = append-nil ev i }) all) ∙ ap (stopped_at before) (sym (first-in asking sending))) ∙ x.followed) refl

    -- the host's writes are those that were told
    pub drain-told : (u : World) (r : Option Refusal) → EndsIn (armed_in s) before sending u r → IsTold h ev → IsTold h u.events
    drain-told u None ended told = told-through h before u (entries_in sending) None (in-none (armed_in s) (λ u r w ds. exact s u r w ds pass) before sending u ended) told
    drain-told u (Some r) ended told =
        let x : Carried before sending u r = in-some (armed_in s) (λ u r w ds. exact s u r w ds pass) before sending u r ended in
        subst (λ (w : World). IsTold h w.events) x.followed (told-followed x.middle r _ (told-through h before x.middle (entries_in sending) (Some r) x.carried told))
      where
        told-each : (es : List Entry) (w : World) → IsTold h w.events → IsTold h (carry_each w es).events
        told-each [] w told = told
        told-each (d ∷ ds) w told = told-each ds (carry w (d ∷ [])).0 (told-through h w (carry w (d ∷ [])).0 (d ∷ []) (carry w (d ∷ [])).1 refl told)

        told-followed : (v : World) (r : Refusal) (es : List Entry) → IsTold h v.events → IsTold h (follow v r es).events
        told-followed v (Stopped server) es told = told-each es v told
        told-followed v _ es told = told
