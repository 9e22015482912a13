-- What a target does before a track of its source changes.
use Rattle.std.proofs.Common.{ℕ, ◌≡◌, true, false, not, ◌&&◌, cond, List, [], ◌∷◌, ◌++◌, map, arith, refl, sym, ◌∙◌, ap, Some}
use Rattle.std.specs.Prelude.{Result, Ok, Err, OnOk, if◌then◌else◌}
use Rattle.std.specs.FinSet.{contains}
use Rattle.std.proofs.lemmas.Bool.{and_parts}
use Rattle.std.proofs.lemmas.Bool.Decides.{Decides-eqb}
use Rattle.dr_ids.specs.declared.refusal.Refusal.{Refusal}
use Rattle.dr_plant.specs.State.{PlantState}
use Rattle.dr_config.specs.Table.{ConfigTable}
use Rattle.dr_model.specs.declared.event.Event.{Event}
use Rattle.dr_model.specs.Control.{World}
use Rattle.dr_model.specs.Layout.{Fields}
use Rattle.dr_model.specs.Log.{Log}
use Rattle.dr_model.specs.Moves.{Move, Keep, Note}
use Rattle.dr_model.specs.Carry.{Make, Do, Pass, now}
use Rattle.dr_model.specs.Entries.{keep_on, keep_if, copies_from}
use Rattle.dr_model.specs.Refusals.{stopped}
use Rattle.dr_volume.specs.View.{Rest, volume_seen}
use Rattle.dr_moves.specs.Fit.{RelationsFit}
use Rattle.dr_moves.specs.Here.{world_seen, armed_in}
use Rattle.dr_moves.specs.Made.{IsAt}
use Rattle.dr_moves.specs.Turns.{Leads}
use Rattle.dr_moves.proofs.EntryLemmas.{skips, alike-advances, alike-halts}
use Rattle.dr_moves.proofs.ReadLemmas.{before-same}
use Rattle.dr_flash.specs.Keeping.{Unseen, KeptOn}
use Rattle.dr_flash.specs.Standing.{HasNoTarget}
use Rattle.dr_flash.specs.Views.{kept_for, HoldsTrack, KeepsTrack}
use Rattle.dr_flash.proofs.ShowLemmas.{show-same}

-- a volume that is a target of v, and isn't restored onto it
pub kept-parts : (v : ℕ) (f : Fields) → kept_for v f ≡ true → (f.related ≡ true) × (f.source ≡ v)
kept-parts v f kept = let both = and_parts f.related _ ((and_parts _ (not f.reversing) kept).0) in (both.0, (Decides-eqb f.source v).0 both.1)

module _ (s : PlantState) (t : ConfigTable) (r : Rest) (ev : List Event) (v k u : ℕ) where
  abbrev w : World
  w = world_seen s t r ev

  abbrev f : Fields
  f = (volume_seen s t u).fields

  module _ (own : kept_for v f ≡ true) where
    entry-target : keep_on v k u w.control ≡ keep_if f u k
    entry-target = ap (λ b. cond b (keep_if f u k) Pass) own

    pub keeps-new : contains f.own k ≡ false → keep_on v k u w.control ≡ now (Keep u k) w.control
    keeps-new new = entry-target ∙ ap (λ b. cond (not b) (Do (Make (Keep u k))) (cond (f.recorded && not (contains f.source_changes k)) (Do (Make (Note u k))) Pass)) new

    keeps-held : contains f.own k ≡ true → keep_on v k u w.control ≡ (if f.recorded && not (contains f.source_changes k) then Do (Make (Note u k)) else Pass)
    keeps-held held = entry-target ∙ ap (λ b. cond (not b) (Do (Make (Keep u k))) (cond (f.recorded && not (contains f.source_changes k)) (Do (Make (Note u k))) Pass)) held

    pub keeps-noted : contains f.own k ≡ true → (f.recorded && not (contains f.source_changes k)) ≡ true → keep_on v k u w.control ≡ now (Note u k) w.control
    keeps-noted held news = keeps-held held ∙ ap (λ b. cond b (Do (Make (Note u k))) Pass) news

    pub passes-held : contains f.own k ≡ true → (f.recorded && not (contains f.source_changes k)) ≡ false → keep_on v k u w.control ≡ Pass
    passes-held held old = keeps-held held ∙ ap (λ b. cond b (Do (Make (Note u k))) Pass) old

-- a volume that is no target of v, or is restored onto it, keeps nothing for it
pub passes-by : (s : PlantState) (t : ConfigTable) (r : Rest) (ev : List Event) (v k u : ℕ) → (copies_from v (volume_seen s t u).fields && not (volume_seen s t u).fields.reversing) ≡ false → keep_on v k u (world_seen s t r ev).control ≡ Pass
passes-by s t r ev v k u other = ap (λ b. cond b (keep_if (volume_seen s t u).fields u k) Pass) other

-- where v has no target, none of these volumes keeps anything for it
pub passes-all : (s : PlantState) (t : ConfigTable) (r : Rest) (ev : List Event) (v k : ℕ) (us : List ℕ) → HasNoTarget s t v → Leads (world_seen s t r ev) (map (keep_on v k) us) (world_seen s t r ev)
passes-all s t r ev v k [] none armed w r' ds more = more
passes-all s t r ev v k (u ∷ us) none armed w r' ds more =
    skips (world_seen s t r ev) (keep_on v k u) (passes-by s t r ev v k u (ap (λ b. b && not (volume_seen s t u).fields.reversing) (none u))) armed w r' (map (keep_on v k) us ++ ds)
    (passes-all s t r ev v k us none armed w r' ds more)

-- where it comes to nothing, all is as it was
pub kept-nothing : (s : PlantState) (t : ConfigTable) (j : Log) (v k u : ℕ) → IsAt s t → ((r : Rest) → keep_on v k u (world_seen s t r j.events).control ≡ Pass) → KeepsTrack s s t v k u → KeptOn s s t j j v k u (Ok tt)
kept-nothing s t j v k u at passes held = record {
  unseen = record {
    advances = λ r. skips (world_seen s t r j.events) (keep_on v k u) (passes r);
    halts = tt;
    refused = tt;
    kept = record { at = at; aside = λ fit. fit; unarmed = λ q none. none; faults = refl; on = refl; room = omega arith; spare = refl };
    others = λ q ne. before-same t s s refl q;
    show = show-same s s t (before-same t s s refl);
    room_left = omega arith;
  };
  held = held;
  apart = λ q other. before-same t s s refl q;
}

-- where it comes to a move of u, the volumes that aren't such targets of v are as they were
pub kept-by : (s n : PlantState) (t : ConfigTable) (old new : Log) (v k u : ℕ) (m : Move) → RelationsFit s t → kept_for v (volume_seen s t u).fields ≡ true → ((r : Rest) → keep_on v k u (world_seen s t r old.events).control ≡ now m (world_seen s t r old.events).control)
    → (res : Result (Unit {0}) Refusal) → Unseen s n t old new (now m) u (volume_seen s t u).server res → OnOk res (HoldsTrack n t k u) → KeptOn s n t old new v k u res
kept-by s n t old new v k u m fit own comes res unseen held = record {
  unseen = along res unseen;
  held = holds res held;
  apart = λ q other. unseen.others q (λ is. let never : true ≡ false = sym own ∙ ap (λ z. kept_for v (volume_seen s t z).fields) (sym is) ∙ other in cc);
}
  where
    server : (volume_seen s t u).server ≡ (volume_seen s t v).server
    server = let parts = kept-parts v (volume_seen s t u).fields own in (fit.source u parts.0).same_server ∙ ap (λ z. (volume_seen s t z).server) parts.1

    along : (r : Result (Unit {0}) Refusal) → Unseen s n t old new (now m) u (volume_seen s t u).server r → Unseen s n t old new (keep_on v k u) u (volume_seen s t v).server r
    along (Ok x) h = record {
      advances = λ r. alike-advances (world_seen s t r old.events) (world_seen n t r new.events) (keep_on v k u) (now m) (comes r) (h.advances r);
      halts = tt;
      refused = tt;
      kept = h.kept;
      others = h.others;
      show = h.show;
      room_left = h.room_left;
    }
    along (Err e) h = record {
      advances = tt;
      halts = λ r. alike-halts (armed_in s) (world_seen s t r old.events) (world_seen n t r new.events) (Some e) (keep_on v k u) (now m) (comes r) (h.halts r);
      refused = h.refused ∙ ap (λ n. Some (stopped n)) server;
      kept = h.kept;
      others = h.others;
      show = h.show;
      room_left = tt;
    }

    holds : (r : Result (Unit {0}) Refusal) → OnOk r (HoldsTrack n t k u) → OnOk r (KeepsTrack s n t v k u)
    holds (Ok x) h = λ is. h
    holds (Err e) h = tt
