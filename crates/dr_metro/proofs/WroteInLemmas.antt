-- A host write in stretches, with what follows where a server stopped in them.
use Rattle.std.proofs.Common.{ℕ, ◌≡◌, ◌≤◌, ◌+◌, ◌⊎◌, inl, inr, Bool, true, false, not, ◌&&◌, refl, sym, List, [], ◌∷◌, ◌++◌, length, arith, subst, ◌∙◌, Option, Some, None}
use Rattle.std.specs.Prelude.{if◌then◌else◌, is_some, Result, Ok, Err, OnOk, OnErr}
use Rattle.dr_logic.specs.Counts.{Counted}
use Rattle.dr_ids.specs.declared.refusal.Refusal.{Refusal}
use Rattle.dr_plant.specs.State.{PlantState}
use Rattle.dr_config.specs.Table.{ConfigTable, StandsFor, place_of}
use Rattle.dr_host.specs.Writes.{Writes}
use Rattle.dr_model.specs.declared.event.Event.{Event}
use Rattle.dr_model.specs.Log.{Log}
use Rattle.dr_model.specs.Carry.{Entry, Stretch, now}
use Rattle.dr_model.specs.Control.{Control, World}
use Rattle.dr_model.specs.Entries.{fields_at, land_alone, is_running, write_checks}
use Rattle.dr_model.specs.PairEntries.{suspend_after, suspend_running, send_first}
use Rattle.dr_model.specs.Moves.{Unsync}
use Rattle.dr_model.specs.Pairs.{held, goes_over, collides}
use Rattle.dr_model.specs.ReadStops.{Ends}
use Rattle.dr_model.specs.WriteEntries.{partner_of, is_fed, mirror_and_land, land_over, land_collided, part_running, part_after, write_stretches}
use Rattle.dr_volume.specs.View.{Rest}
use Rattle.dr_moves.specs.Checks.{is_stop}
use Rattle.dr_moves.specs.Followed.{Follows, EndsIn, KeptBehind}
use Rattle.dr_moves.specs.Here.{world_seen, armed_in, refusal_of}
use Rattle.dr_moves.specs.Made.{IsAt}
use Rattle.dr_moves.proofs.FollowLemmas.{follows-wider, calm-follows}
use Rattle.dr_moves.proofs.KeptLemmas.{wider-armed}
use Rattle.dr_facts.proofs.Ends.{ends-wider, ends-none}
use Rattle.dr_flash.specs.HostWrites.{write_refusal}
use Rattle.dr_gcopy.specs.Both.{IsOn}
use Rattle.dr_gcopy.specs.Ran.{Ran}
use Rattle.dr_gcopy.proofs.ReachLemmas.{running-is}
use Rattle.dr_host.specs.Here.{here, rest_of}
use Rattle.dr_metro.specs.Here.{IsTold}
use Rattle.dr_metro.specs.Syncing.{sent_stretches, fed_stretches, placed_stretches}
use Rattle.dr_metro.specs.Writing.{Wrote, WroteIn}
use Rattle.dr_metro.proofs.SyncLemmas.{told-followed, write-passes}
use Rattle.dr_metro.proofs.ToldLemmas.{no_rest}
use Rattle.dr_metro.proofs.WroteLemmas.{ran-ends, ran-told}

-- more servers may be armed
pub in-wider : (armed more : ℕ → Bool) → ((q : ℕ) → armed q ≡ true → more q ≡ true) → (w : World) (ss : List Stretch) (u : World) (r : Option Refusal) → EndsIn armed w ss u r → EndsIn more w ss u r
in-wider armed more wider w [] u r e = e
in-wider armed more wider w (s ∷ ss) u r (inl on) = inl (record { middle = on.middle; ends = ends-wider armed more wider on.middle None w s.entries on.ends; later = in-wider armed more wider on.middle ss u r on.later })
in-wider armed more wider w (s ∷ ss) u r (inr here) = inr (record {
  why = here.why;
  middle = here.middle;
  ends = ends-wider armed more wider here.middle (Some here.why) w s.entries here.ends;
  followed = follows-wider armed more wider here.middle (Some here.why) s.follows u here.followed;
  refusal = here.refusal;
})

-- what follows a call that came from m to u, and tells so many events at most
pub record Behind (m u : PlantState) (c : ConfigTable) (mid new : Log) (es : List Entry) (r : Option Refusal) (most : ℕ) : Type 0 where
  pub follows : (rest : Rest) → Follows (armed_in m) (world_seen m c rest mid.events) r es (world_seen u c rest new.events)
  pub at : IsAt u c
  pub unarmed : (q : ℕ) → m.read_fuse q ≡ None → u.read_fuse q ≡ None
  pub faults : (f : ℕ) → Counted (is_stop r) f m.faults → Counted (is_stop r) f u.faults
  pub room : mid.spare ≤ new.spare + most
  pub spare : length new.events + new.spare ≡ length mid.events + mid.spare

pub behind-kept : (m u : PlantState) (c : ConfigTable) (mid new : Log) (es : List Entry) (e : Refusal) (most : ℕ)
    → ((rest : Rest) → Follows (armed_in m) (world_seen m c rest mid.events) (Some e) es (world_seen u c rest new.events)) → KeptBehind m u c mid new most (is_stop (Some e)) → Behind m u c mid new es (Some e) most
behind-kept m u c mid new es e most follows kept = record { follows = follows; at = kept.at; unarmed = kept.unarmed; faults = kept.faults; room = kept.room; spare = kept.spare }

module _ (s m u : PlantState) (c : ConfigTable) (h : Writes) (old mid new : Log) where
  -- a part of a host write is one stretch
  module _ (g : Writes) (es : Control → List Entry) (fs : List Entry) (n : ℕ) where
    ends-in : {T : Type 0} (res : Result T Refusal) → Wrote s m c h g old mid es n res → Behind m u c mid new fs (refusal_of res) 3 → (r : Rest)
        → EndsIn (armed_in s) (here s c r h old.events) (record { entries = es (here s c r h old.events).control; follows = fs } ∷ []) (here u c r g new.events) (refusal_of res)
    ends-in (Ok x) w b r = inl (record { middle = here m c r g mid.events; ends = w.carried r; later = (b.follows (rest_of r g mid.events), refl) })
    ends-in (Err e) w b r = inr (record {
      why = e;
      middle = here m c r g mid.events;
      ends = w.carried r;
      followed = follows-wider (armed_in m) (armed_in s) (wider-armed s m w.unarmed) (here m c r g mid.events) (Some e) fs (here u c r g new.events) (b.follows (rest_of r g mid.events));
      refusal = refl;
    })

    pub wrote-in : {T : Type 0} (res : Result T Refusal) → Wrote s m c h g old mid es n res → Behind m u c mid new fs (refusal_of res) 3 → WroteIn s u c h g old new (λ k. record { entries = es k; follows = fs } ∷ []) (n + 3) res
    wrote-in {T = T} res w b = record {
      carried = ends-in res w b;
      at = b.at;
      told = told-followed (armed_in m) g (here m c no_rest g mid.events) (here u c no_rest g new.events) (refusal_of res) fs (b.follows (rest_of no_rest g mid.events)) w.told;
      unarmed = λ q none. b.unarmed q (w.unarmed q none);
      faults = b.faults s.faults w.faults;
      issued = w.issued;
      room = let a = w.room in let x = b.room in omega (arith, a, x);
      spare = b.spare ∙ w.spare;
    }

  -- entries that led on are the first stretch, or they end all
  module _ (es : List Entry) (P : ℕ → Type 0) (most least : ℕ) (fs : List Entry) (ss : List Stretch) where
    pub in-then : (g : Writes) (more n : ℕ) {T : Type 0} (res : Result T Refusal) → least + more ≤ n → Ran s m c old mid es P most least (Ok tt) → WroteIn m u c h g mid new (λ k. ss) more res
        → WroteIn s u c h g old new (λ k. record { entries = es; follows = fs } ∷ ss) n res
    in-then g more n {T = T} res large first second = record {
      carried = λ r. inl (record {
        middle = here m c r h mid.events;
        ends = ran-ends s m c h old mid es P most least (Ok tt) first r;
        later = in-wider (armed_in m) (armed_in s) (wider-armed s m first.stays.unarmed) (here m c r h mid.events) ss (here u c r g new.events) (refusal_of res) (second.carried r);
      });
      at = second.at;
      told = second.told;
      unarmed = λ q none. second.unarmed q (first.stays.unarmed q none);
      faults = subst (λ k. Counted (is_stop (refusal_of res)) k u.faults) first.stays.faults second.faults;
      issued = second.issued;
      room = let a = first.stays.left in let b = second.room in omega (arith, a, b, large);
      spare = second.spare ∙ first.stays.spare;
    }

    pub in-failed : (more n : ℕ) {T : Type 0} (e : Refusal) → most + more ≤ n → IsTold h old.events → Ran s m c old mid es P most least (Err e) → Behind m u c mid new fs (Some e) more
        → WroteIn s u c h h old new (λ k. record { entries = es; follows = fs } ∷ ss) n {T = T} (Err e)
    in-failed more n {T = T} e large told ran b = record {
      carried = λ r. inr (record {
        why = e;
        middle = here m c r h mid.events;
        ends = ran-ends s m c h old mid es P most least (Err e) ran r;
        followed = follows-wider (armed_in m) (armed_in s) (wider-armed s m ran.stays.unarmed) (here m c r h mid.events) (Some e) fs (here u c r h new.events) (b.follows (rest_of r h mid.events));
        refusal = refl;
      });
      at = b.at;
      told = told-followed (armed_in m) h (here m c no_rest h mid.events) (here u c no_rest h new.events) (Some e) fs (b.follows (rest_of no_rest h mid.events)) (ran-told s m c h old mid es P most least (Err e) ran told);
      unarmed = λ q none. b.unarmed q (ran.stays.unarmed q none);
      faults = b.faults s.faults ran.stays.faults;
      issued = refl;
      room = let a = ran.stays.room in let x = b.room in omega (arith, a, x, large);
      spare = b.spare ∙ ran.stays.spare;
    }

-- the same of other stretches that these come to, in more room
pub in-as : (s u : PlantState) (c : ConfigTable) (h g : Writes) (old new : Log) (ss ts : Control → List Stretch) (n k : ℕ) {T : Type 0} (res out : Result T Refusal) → n ≤ k → ((r : Rest) → ss (here s c r h old.events).control ≡ ts (here s c r h old.events).control)
    → out ≡ res → WroteIn s u c h g old new ss n res → WroteIn s u c h g old new ts k out
in-as s u c h g old new ss ts n k {T = T} res out large same is w = subst (λ (x : Result T Refusal). WroteIn s u c h g old new ts k x) (sym is) (record {
  carried = λ r. subst (λ xs. EndsIn (armed_in s) (here s c r h old.events) xs (here u c r g new.events) (refusal_of res)) (same r) (w.carried r);
  at = w.at;
  told = w.told;
  unarmed = w.unarmed;
  faults = w.faults;
  issued = w.issued;
  room = let a = w.room in omega (arith, a, large);
  spare = w.spare;
})

-- no entries
pub in-nothing : (s : PlantState) (c : ConfigTable) (h : Writes) (old : Log) (ss : Control → List Stretch) (fs : List Entry) (n : ℕ) {T : Type 0} (x : T) → ((r : Rest) → ss (here s c r h old.events).control ≡ record { entries = []; follows = fs } ∷ [])
    → IsAt s c → IsTold h old.events → WroteIn s s c h h old old ss n (Ok x)
in-nothing s c h old ss fs n x none at told = record {
  carried = λ r. subst (λ xs. EndsIn (armed_in s) (here s c r h old.events) xs (here s c r h old.events) None) (sym (none r))
      (inl (record { middle = here s c r h old.events; ends = ends-none (armed_in s) (here s c r h old.events) None (here s c r h old.events) (record { world = refl; refusal = refl }); later = (refl, refl) }));
  at = at;
  told = told;
  unarmed = λ q none. none;
  faults = refl;
  issued = refl;
  room = omega arith;
  spare = refl;
}

module _ (armed : ℕ → Bool) (w : World) (n v t : ℕ) where
  abbrev k : Control
  k = w.control

  abbrev u : ℕ
  u = partner_of k v

  -- what it comes to at last, by whether it waits, goes over and collides
  abbrev lands : Bool → Bool → Bool → List Entry
  lands waits goes meets = if waits then [] else if goes then land_over k n v t else if meets then land_collided k n v t else land_alone k.volumes n v t

  -- what is left of it once its track was sent, or the primary's was put out of sync
  abbrev last : List Stretch
  last = record { entries = land_alone k.volumes n v t; follows = part_after v } ∷ []

  abbrev feeds : List Stretch
  feeds =
      record { entries = send_first k.volumes u (partner_of k u) t; follows = suspend_running u ∷ part_running v ∷ [] }
      ∷ record { entries = mirror_and_land k.volumes n v t u; follows = part_after v } ∷ []

  -- the stretches of a write, by whether it waits, goes to a cascaded secondary, goes over and collides
  abbrev split : Bool → Bool → Bool → Bool → List Stretch
  split waits fed goes meets =
      if waits then record { entries = write_checks k n v ++ lands waits goes meets; follows = part_after v } ∷ []
      else if fed then record { entries = write_checks k n v ++ now (Unsync v t) ∷ []; follows = part_after v } ∷ feeds
      else if not goes && meets then record { entries = write_checks k n v ++ send_first k.volumes v u t; follows = suspend_after v } ∷ last
      else record { entries = write_checks k n v ++ lands waits goes meets; follows = part_after v } ∷ []

  -- the same behind its checks
  abbrev placed : Bool → Bool → Bool → Bool → List Stretch
  placed waits fed goes meets =
      if waits then record { entries = []; follows = part_after v } ∷ []
      else if fed then fed_stretches k.volumes n v t u (partner_of k u)
      else if not goes && meets then sent_stretches k.volumes n v t u
      else record { entries = lands waits goes meets; follows = part_after v } ∷ []

  -- a check fails
  pub checks-end : (x : World) (r : Refusal) → is_stop (Some r) ≡ false → ((es : List Entry) → Ends armed x (Some r) w (write_checks k n v ++ es)) → EndsIn armed w (write_stretches k n v t) x (Some r)
  checks-end x r calm ends = by (held (fields_at k v)) (is_fed k v t) (goes_over (fields_at k v) t) (collides (fields_at k v) t)
    where
      first : (es fs : List Entry) (ss : List Stretch) → EndsIn armed w (record { entries = write_checks k n v ++ es; follows = fs } ∷ ss) x (Some r)
      first es fs ss = inr (record { why = r; middle = x; ends = ends es; followed = calm-follows armed x (Some r) fs calm; refusal = refl })

      by : (waits fed goes meets : Bool) → EndsIn armed w (split waits fed goes meets) x (Some r)
      by true fed goes meets = first [] (part_after v) []
      by false true goes meets = first (now (Unsync v t) ∷ []) (part_after v) feeds
      by false false true meets = first (land_over k n v t) (part_after v) []
      by false false false true = first (send_first k.volumes v u t) (suspend_after v) last
      by false false false false = first (land_alone k.volumes n v t) (part_after v) []

  -- they pass, and the rest ends so
  pub checks-pass : (x : World) (r : Option Refusal) → is_running v k ≡ true → write_refusal k v ≡ None → EndsIn armed w (placed_stretches k n v t) x r → EndsIn armed w (write_stretches k n v t) x r
  checks-pass x r on free ends = by (held (fields_at k v)) (is_fed k v t) (goes_over (fields_at k v) t) (collides (fields_at k v) t) ends
    where
      first : (es fs : List Entry) (ss : List Stretch) → EndsIn armed w (record { entries = es; follows = fs } ∷ ss) x r → EndsIn armed w (record { entries = write_checks k n v ++ es; follows = fs } ∷ ss) x r
      first es fs ss (inl led) = inl (record { middle = led.middle; ends = write-passes armed w n v led.middle None es on free led.ends; later = led.later })
      first es fs ss (inr here) = inr (record { why = here.why; middle = here.middle; ends = write-passes armed w n v here.middle (Some here.why) es on free here.ends; followed = here.followed; refusal = here.refusal })

      by : (waits fed goes meets : Bool) → EndsIn armed w (placed waits fed goes meets) x r → EndsIn armed w (split waits fed goes meets) x r
      by true fed goes meets = first [] (part_after v) []
      by false true goes meets = first (now (Unsync v t) ∷ []) (part_after v) feeds
      by false false true meets = first (land_over k n v t) (part_after v) []
      by false false false true = first (send_first k.volumes v u t) (suspend_after v) last
      by false false false false = first (land_alone k.volumes n v t) (part_after v) []

-- the same of a write with what stays
module _ (s m : PlantState) (c : ConfigTable) (h g : Writes) (old new : Log) (n v t most : ℕ) where
  pub checks-failed : {T : Type 0} (e : Refusal) → is_stop (Some e) ≡ false → ((r : Rest) (events : List Event) (es : List Entry) → Ends (armed_in s) (here s c r g events) (Some e) (here s c r h events) (write_checks (here s c r h events).control n v ++ es))
      → IsAt s c → IsTold g old.events → g.issued ≡ h.issued → WroteIn s s c h g old old (λ k. write_stretches k n v t) most {T = T} (Err e)
  checks-failed {T = T} e calm ends at told issued = record {
    carried = λ r. checks-end (armed_in s) (here s c r h old.events) n v t (here s c r g old.events) e calm (λ es. ends r old.events es);
    at = at;
    told = told;
    unarmed = λ q none. none;
    faults = subst (λ b. Counted b s.faults s.faults) (sym calm) refl;
    issued = issued;
    room = omega arith;
    spare = refl;
  }

  pub checks-passed : {T : Type 0} (res : Result T Refusal) → StandsFor c s → is_some (place_of c v) ≡ true → IsOn s c v → ((r : Rest) (events : List Event) → write_refusal (world_seen s c r events).control v ≡ None) → WroteIn s m c h g old new (λ k. placed_stretches k n v t) most res → WroteIn s m c h g old new (λ k. write_stretches k n v t) most res
  checks-passed {T = T} res stands defined on free w = record {
    carried = λ r. checks-pass (armed_in s) (here s c r h old.events) n v t (here m c r g new.events) (refusal_of res) (running-is s c v stands defined ∙ on) (free (rest_of r h old.events) old.events) (w.carried r);
    at = w.at;
    told = w.told;
    unarmed = w.unarmed;
    faults = w.faults;
    issued = w.issued;
    room = w.room;
    spare = w.spare;
  }
