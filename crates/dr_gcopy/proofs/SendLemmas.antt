-- Entries of a send, one behind the other.
use Rattle.std.proofs.Common.{ℕ, ◌≡◌, ◌≢◌, ◌<◌, Bool, true, false, not, ◌&&◌, cond, nat_eq, inl, inr, refl, ap, ◌∙◌, List, sym, Option, None, Some, slice_get}
use Rattle.std.specs.Prelude.{is_some, if◌then◌else◌}
use Rattle.std.specs.Option.{option_or}
use Rattle.std.proofs.lemmas.Bool.Decides.{eqb_tells}
use Rattle.std.proofs.lemmas.Bool.{and_right}
use Rattle.dr_ids.specs.declared.refusal.Refusal.{Refusal}
use Rattle.dr_plant.specs.State.{PlantState}
use Rattle.dr_config.specs.Table.{ConfigTable, place_of}
use Rattle.dr_config.specs.declared.entries.VolumeEntry.{VolumeEntry}
use Rattle.dr_model.specs.Control.{Control, World, Volume}
use Rattle.dr_ids.specs.Paths.{Path, path_in}
use Rattle.dr_ids.specs.declared.refusal.Refusal.TheVariants.{PairState}
use Rattle.dr_ids.specs.declared.refusal.Kind.TheVariants.{Path as OfPath}
use Rattle.dr_model.specs.Refusals.{server_off, unknown}
use Rattle.dr_model.specs.Carry.{Pass, Do, Make, check, now}
use Rattle.dr_model.specs.Layout.{is_part}
use Rattle.dr_model.specs.Moves.{Suspend}
use Rattle.dr_model.specs.Pairs.{is_secondary_of, secondary_seen}
use Rattle.dr_model.specs.Entries.{copies_from, fields_at, is_running, subsystem}
use Rattle.dr_model.specs.PairEntries.{end_if, refuse_if, link_down, has_path, are_linked, reach_refusal, send_refusal, suspend_where, suspend_running}
use Rattle.dr_volume.specs.View.{volume_seen, volume_at, volume_on, on_seen}
use Rattle.dr_moves.specs.Fit.{RelationsFit}
use Rattle.dr_moves.specs.Turns.{Advances, Halts}
use Rattle.dr_facts.proofs.Ends.{ends-skips, ends-refused, ends-alike}
use Rattle.dr_volume.proofs.WorldLaws.{on-seen}

-- where there is no refusal, the plan goes on; where there is one, it ends
pub refuse-passes : (w : World) (why : Control → Option Refusal) → why w.control ≡ None → Advances w (refuse_if why) w
refuse-passes w why none armed u r ds more = ends-skips armed u r w (refuse_if why) ds (ap end_if none) more

pub refuse-ends : (armed : ℕ → Bool) (w : World) (why : Control → Option Refusal) (r : Refusal) → why w.control ≡ Some r → Halts armed w (refuse_if why) w (Some r)
refuse-ends armed w why r is ds = ends-alike armed w (Some r) w (refuse_if why) (check (λ k. false) r) ds (ap end_if is) (ends-refused armed w (Some r) w (λ k. false) r ds refl refl refl)

-- a volume on another server is no target
pub other-server : (s : PlantState) (t : ConfigTable) (a b : ℕ) → RelationsFit s t → (volume_seen s t a).server ≢ (volume_seen s t b).server → copies_from b (volume_seen s t a).fields ≡ false
other-server s t a b fit apart =
    let f = (volume_seen s t a).fields in
    elim f.related as (λ x. f.related ≡ x → (x && nat_eq f.source b) ≡ false) [
      | false ↦ λ is. refl
      | true ↦ λ is. elim (eqb_tells f.source b) as (λ _. nat_eq f.source b ≡ false) [
        | inl p ↦ absurd (apart ((fit.source a is).same_server ∙ ap (λ z. (volume_seen s t z).server) p.1))
        | inr p ↦ p.0
      ]
    ] refl

-- a volume stays on its server, and has as many tracks as ever
pub same-server : (s u : PlantState) (c : ConfigTable) (v : ℕ) → (volume_seen s c v).server ≡ (volume_seen u c v).server
same-server s u c v = at (place_of c v)
  where
    on : (d : ℕ) (o : Option VolumeEntry) → (volume_on (s.block d) o).server ≡ (volume_on (u.block d) o).server
    on d None = refl
    on d (Some e) = refl

    at : (o : Option ℕ) → (volume_at s c o).server ≡ (volume_at u c o).server
    at None = refl
    at (Some d) = on d (slice_get c.volumes d)

pub same-tracks : (s u : PlantState) (c : ConfigTable) (v : ℕ) → (volume_seen s c v).tracks ≡ (volume_seen u c v).tracks
same-tracks s u c v = at (place_of c v)
  where
    on : (d : ℕ) (o : Option VolumeEntry) → (volume_on (s.block d) o).tracks ≡ (volume_on (u.block d) o).tracks
    on d None = refl
    on d (Some e) = refl

    at : (o : Option ℕ) → (volume_at s c o).tracks ≡ (volume_at u c o).tracks
    at None = refl
    at (Some d) = on d (slice_get c.volumes d)

-- a choice, where the test is known
pub pick-true : {T : Type 0} (b : Bool) (x y : T) → b ≡ true → x ≡ (if b then x else y)
pick-true true x y h = refl
pick-true false x y h = absurd cc

pub pick-false : {T : Type 0} (b : Bool) (x y : T) → b ≡ false → y ≡ (if b then x else y)
pick-false false x y h = refl
pick-false true x y h = absurd cc

-- what follows a stop, by what is known of the primary
pub follows-absent : (a : ℕ) (k : Control) → is_part (fields_at k a).primary ≡ false → suspend_running a k ≡ Pass
follows-absent a k absent = ap (λ b. cond (b && is_running a k) (Do (Make (Suspend a false))) Pass) absent

pub follows-off : (a : ℕ) (k : Control) → is_running a k ≡ false → suspend_running a k ≡ Pass
follows-off a k off = ap (λ b. cond b (Do (Make (Suspend a false))) Pass) (and_right (is_part (fields_at k a).primary) (is_running a k) off)

pub follows-on : (a : ℕ) (k : Control) → is_part (fields_at k a).primary ≡ true → is_running a k ≡ true → suspend_running a k ≡ now (Suspend a false) k
follows-on a k part on = λ i. cond (part i && on i) (Do (Make (Suspend a false))) Pass

-- a primary that can't send is suspended first
pub suspends : (w : World) (why : Control → Option Refusal) (a : ℕ) (r : Refusal) → why w.control ≡ Some r → suspend_where why a w.control ≡ now (Suspend a false) w.control
suspends w why a r is = ap (λ o. cond (is_some o) (Do (Make (Suspend a false))) Pass) is

pub suspends-none : (w : World) (why : Control → Option Refusal) (a : ℕ) → why w.control ≡ None → suspend_where why a w.control ≡ Pass
suspends-none w why a is = ap (λ o. cond (is_some o) (Do (Make (Suspend a false))) Pass) is

-- what says whether a can send to b, part by part
abbrev refusal_by : ℕ → ℕ → List Path → (ℕ → Bool) → (ℕ → ℕ → Bool) → ℕ → Volume → Option Refusal
refusal_by a b paths on link from to = option_or
    (if not (is_some (path_in paths (subsystem a) (subsystem b))) then Some (unknown OfPath)
    else if not (on to.server) then Some (server_off to.server)
    else if not (link from to.server) then Some (link_down from to.server)
    else None)
    (if is_secondary_of a to.fields then None else Some (PairState (record { 0 = b }) (secondary_seen to.fields)))

pub same-refusal : (a b : ℕ) (k l : Control) → l.paths ≡ k.paths → l.on ≡ k.on → l.link ≡ k.link → (l.volume a).server ≡ (k.volume a).server → l.volume b ≡ k.volume b → send_refusal a b l ≡ send_refusal a b k
same-refusal a b k l paths on link from to = λ i. refusal_by a b (paths i) (on i) (link i) (from i) (to i)

-- where b can be reached, its server is on
pub reached-on : (a b : ℕ) (k : Control) → reach_refusal a b k ≡ None → is_running b k ≡ true
reached-on a b k none = by (has_path a b k) (is_running b k) (are_linked a b k) (unknown OfPath) (server_off (k.volume b).server) (link_down (k.volume a).server (k.volume b).server) none
  where
    by : (path on up : Bool) (x y z : Refusal) → (if not path then Some x else if not on then Some y else if not up then Some z else None) ≡ None → on ≡ true
    by true true up x y z h = refl
    by true false up x y z h = absurd cc
    by false on up x y z h = absurd cc

pub on-of-seen : (s : PlantState) (server : ℕ) → server < 8 → on_seen s server ≡ true → s.on server ≡ true
on-of-seen s server low h = sym (on-seen s server low) ∙ h
