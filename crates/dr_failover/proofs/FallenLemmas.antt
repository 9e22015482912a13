-- A pair that was turned round: what both records say then, and where both contain the same.
use Rattle.std.specs.Prelude.{if◌then◌else◌}
use Rattle.std.proofs.Common.{ℕ, ◌≡◌, ◌<◌, inr, Bool, true, false, ◌&&◌, ◌||◌, cond, List, refl, sym, ◌∙◌, ap, subst, Some, None}
use Rattle.std.specs.FinSet.{contains, union}
use Rattle.std.proofs.lemmas.Bool.{and_parts, or_parts}
use Rattle.std.proofs.lemmas.Bool.Decides.{Decides-eqb}
use Rattle.dr_bits.proofs.Laws.{contains-union_tracks}
use Rattle.dr_plant.specs.State.{PlantState}
use Rattle.dr_config.specs.Table.{ConfigTable}
use Rattle.dr_model.specs.declared.event.Event.{Event}
use Rattle.dr_model.specs.declared.state.Part.{Part}
use Rattle.dr_model.specs.declared.state.PairState.TheVariants.{CopyPending, FullDuplex}
use Rattle.dr_model.specs.Laws.{Sound, unsent}
use Rattle.dr_model.specs.Layout.{Fields, is_part}
use Rattle.dr_model.specs.Pairs.{is_primary_of, is_kind, is_metro, is_engaged, is_full_duplex, yielded}
use Rattle.dr_model.specs.Relations.{is_bare}
use Rattle.dr_model.specs.Table.{table}
use Rattle.dr_volume.specs.View.{Rest, volume_seen, track_seen}
use Rattle.dr_moves.specs.Here.{world_seen}
use Rattle.dr_facts.proofs.Sets.{not_in_union}
use Rattle.dr_failover.specs.Outcomes.{unsent_seen, fallen_seen, Turned, IsTurned}
use Rattle.dr_failover.proofs.TurnedLemmas.{leads-partner}

is-duplex : (b : Bool) → is_full_duplex (if b then FullDuplex else CopyPending) ≡ b
is-duplex true = refl
is-duplex false = refl

pub is-turned : (s u : PlantState) (t : ConfigTable) (x y : ℕ) (kind : Part) → (is_primary_of y (volume_seen s t x).fields && is_kind kind (volume_seen s t x).fields.primary) ≡ true → Turned s u t x y
    → IsTurned x y kind (volume_seen u t x).fields (volume_seen u t y).fields
is-turned s u t x y kind leads turned =
    let old = leads-partner y kind (volume_seen s t x).fields leads in
    let f = fallen_seen s t x y in
    let both : IsTurned x y kind f (yielded x f.primary f.primary_state (volume_seen s t y).fields) = record {
      leads = old.2;
      partner = old.1;
      recording = refl;
      held = refl;
      follows = old.2;
      primary = refl;
      free = refl;
      seal = refl;
      duplex = is-duplex (is_metro f.primary && is_bare f.out_of_sync) ∙ ap (λ k. is_metro k && is_bare f.out_of_sync) old.2;
      alike = refl;
    } in
    subst (λ (g : Fields). IsTurned x y kind (volume_seen u t x).fields g) (sym turned.second)
    (subst (λ (f : Fields). IsTurned x y kind f (yielded x f.primary f.primary_state (volume_seen s t y).fields)) (sym turned.first) both)

-- a primary that neither records nor is held has nothing beside what is out of sync
void-none : (f : Fields) (k : ℕ) → (f.recording ≡ false → contains f.change_recording k ≡ false) → contains (cond (is_engaged f) (union f.out_of_sync f.change_recording) f.out_of_sync) k ≡ false → (contains f.out_of_sync k || contains f.change_recording k) ≡ false
void-none f k clean none = by (is_engaged f) refl none
  where
    both : (contains f.out_of_sync k ≡ false) × (contains f.change_recording k ≡ false) → (contains f.out_of_sync k || contains f.change_recording k) ≡ false
    both e = λ i. e.0 i || e.1 i

    by : (b : Bool) → is_engaged f ≡ b → contains (cond b (union f.out_of_sync f.change_recording) f.out_of_sync) k ≡ false → (contains f.out_of_sync k || contains f.change_recording k) ≡ false
    by true is none = both (not_in_union f.out_of_sync f.change_recording k none)
    by false is none = both (none, clean (or_parts f.recording f.coordination is).0)

-- outside what is out of sync then both contained the same
pub alike-outside : (s u : PlantState) (t : ConfigTable) (r : Rest) (events : List Event) (x y : ℕ) → Sound (world_seen s t r events) → is_part (volume_seen s t x).fields.primary ≡ true → (volume_seen s t x).fields.primary_partner ≡ y → is_primary_of x (volume_seen s t y).fields ≡ true → Turned s u t x y
    → (k : ℕ) → k < (volume_seen s t x).tracks → contains (volume_seen u t x).fields.out_of_sync k ≡ false → track_seen s t x k ≡ track_seen s t y k
alike-outside s u t r events x y sound part partner led turned k low none =
    let w = world_seen s t r events in
    let f = (volume_seen s t x).fields in
    let g = (volume_seen s t y).fields in
    let left = not_in_union (cond (is_engaged f) (union f.out_of_sync f.change_recording) f.out_of_sync) (unsent_seen s t y) k (ap (λ (h : Fields). contains h.out_of_sync k) (sym turned.first) ∙ none) in
    let ours : unsent (table w x) k ≡ false = void-none f k (λ still. (sound.rows.recorders x).none still k) left.0 in
    let theirs : unsent (table w y) k ≡ false = sym (contains-union_tracks g.out_of_sync g.change_recording k) ∙ left.1 in
    let back = and_parts (is_part g.primary) _ led in
    sound.rows.pairs x y (λ i. if part i then Some (partner i) else None) (inr (λ i. if back.0 i then Some ((Decides-eqb g.primary_partner x).0 back.1 i) else None)) k low ours (λ is. theirs)
