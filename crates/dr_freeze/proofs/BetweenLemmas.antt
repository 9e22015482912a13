-- The primaries between two logical subsystems: what the machine's test of them is, and that a freeze or a thaw of one leaves
-- them what they are.
use Rattle.std.proofs.Common.{ℕ, ◌≡◌, ◌<◌, inl, inr, Bool, true, false, true≢false, ◌&&◌, ◌||◌, List, refl, sym, ◌∙◌, ap, subst, Some, None, nat_eq}
use Rattle.std.specs.Prelude.{if◌then◌else◌, unwrap_or}
use Rattle.std.proofs.lemmas.Bool.{cases_eq, and_parts}
use Rattle.std.proofs.lemmas.Bool.Decides.{Decides-eqb}
use Rattle.dr_plant.specs.State.{PlantState}
use Rattle.dr_config.specs.Table.{ConfigTable, place_of, lss_owner, lss_of, IsSoundConfig}
use Rattle.dr_config.proofs.Lookups.{entry-at-place}
use Rattle.dr_model.specs.declared.event.Event.{Event}
use Rattle.dr_model.specs.Layout.{Fields, is_part}
use Rattle.dr_model.specs.Control.{Volume, World}
use Rattle.dr_model.specs.Entries.{subsystem}
use Rattle.dr_model.specs.Moves.{Suspend, Thaw}
use Rattle.dr_model.specs.Pairs.{suspended}
use Rattle.dr_model.specs.Carry.{Pass, Do, Make}
use Rattle.dr_model.specs.WriteEntries.{is_between, freeze_on, thaw_on}
use Rattle.dr_volume.specs.View.{Rest, volume_seen, volume_at}
use Rattle.dr_volume.specs.Update.{IsMoved, OthersStay}
use Rattle.dr_volume.proofs.VolumeLaws.{volume-placed}
use Rattle.dr_moves.specs.Here.{world_seen}
use Rattle.dr_freeze.specs.Between.{pairs_with, between, StillBetween}
use Rattle.dr_freeze.specs.Changes.{IsFrozen}
use Rattle.dr_freeze.specs.Checks.{owner_in}
use Rattle.dr_volume.proofs.WorldLaws.{on-seen}

-- the server of one runs, and it is a primary
pub running-between : (s : PlantState) (t : ConfigTable) (l m v : ℕ) → between s t l m v ≡ true → s.on (volume_seen s t v).server ≡ true
running-between s t l m v is = (and_parts _ _ ((and_parts _ _ is).1)).0

pub primary-between : (s : PlantState) (t : ConfigTable) (l m v : ℕ) → between s t l m v ≡ true → is_part (volume_seen s t v).fields.primary ≡ true
primary-between s t l m v is = (and_parts _ _ ((and_parts _ _ ((and_parts _ _ is).1)).1)).0

-- for the machine
module _ (s : PlantState) (t : ConfigTable) (r : Rest) (events : List Event) (l m v : ℕ) (low : (volume_seen s t v).server < 8) where
  abbrev w : World
  w = world_seen s t r events

  between-seen : is_between w.control l m v ≡ between s t l m v
  between-seen = λ i. nat_eq (subsystem v) l && (on-seen s (volume_seen s t v).server low i && (is_part (volume_seen s t v).fields.primary && nat_eq (subsystem (volume_seen s t v).fields.primary_partner) m))

  pub freeze-by : (b : Bool) → between s t l m v ≡ b → freeze_on l m v w.control ≡ (if b then Do (Make (Suspend v true)) else Pass)
  freeze-by b is = ap (λ b. if b then Do (Make (Suspend v true)) else Pass) (between-seen ∙ is)

  pub thaw-by : (a b : Bool) → between s t l m v ≡ a → (volume_seen s t v).fields.long_busy ≡ b → thaw_on l m v w.control ≡ (if a && b then Do (Make (Thaw v)) else Pass)
  thaw-by a b is busy = λ i. if (between-seen ∙ is) i && busy i then Do (Make (Thaw v)) else Pass

-- a volume moved, and keeps its part and its partner
module _ (s u : PlantState) (t : ConfigTable) (l m v : ℕ) where
  abbrev by : (ℕ → Bool) → ℕ → Volume → Bool
  by on q x = nat_eq (subsystem q) l && (on x.server && (is_part x.fields.primary && nat_eq (subsystem x.fields.primary_partner) m))

  pub still-moved : (f : Fields) → u.on ≡ s.on → f.primary ≡ (volume_seen s t v).fields.primary → f.primary_partner ≡ (volume_seen s t v).fields.primary_partner → IsMoved s u t v f None → OthersStay s u t v → StillBetween s u t l m
  still-moved f on part partner is others q = elim (cases_eq q v) as (λ _. between u t l m q ≡ between s t l m q) [
    | inr ne ↦ λ i. by (on i) q ((others q ne).volume i)
    | inl e ↦ subst (λ z. between u t l m z ≡ between s t l m z) (sym e)
        ((λ i. by (on i) v (is.volume i)) ∙ (λ i. nat_eq (subsystem v) l && (s.on (volume_seen s t v).server && (is_part (part i) && nat_eq (subsystem (partner i)) m))))
  ]

-- what a suspension leaves
pub frozen-fields : (f g : Fields) → g ≡ suspended true f → IsFrozen g
frozen-fields f g is = record { suspended = ap (λ (x : Fields). x.primary_state) is; busy = ap (λ (x : Fields). x.long_busy) is ∙ or-yes f.long_busy }
  where
    or-yes : (b : Bool) → (b || true) ≡ true
    or-yes true = refl
    or-yes false = refl

pub still-same : (s u : PlantState) (t : ConfigTable) (l m : ℕ) → u ≡ s → StillBetween s u t l m
still-same s u t l m same v = ap (λ x. between x t l m v) same

-- the server of a volume in l is that of l
pub server-owned : (s : PlantState) (t : ConfigTable) (l v d : ℕ) → IsSoundConfig t → place_of t v ≡ Some d → nat_eq (subsystem v) l ≡ true → (volume_seen s t v).server ≡ owner_in t l
server-owned s t l v d sound at in_l =
    let e = entry-at-place t v d at in
    let own : lss_owner t (lss_of e.0.id) ≡ Some e.0.server = (sound.volume d e.0 e.1).lss in
    ap (λ (x : Volume). x.server) (volume-placed s t v d e.0 at e.1)
    ∙ ap (λ o. unwrap_or o 0) (sym own ∙ ap (λ z. lss_owner t (lss_of z)) e.3 ∙ ap (lss_owner t) ((Decides-eqb (subsystem v) l).0 in_l))

all-three : (a b p : Bool) → (a && p) ≡ true → b ≡ true → (a && (b && p)) ≡ true
all-three true true p h on = h
all-three true false p h on = absurd cc
all-three false b p h on = absurd cc

-- so where that is on, the server of each primary in l runs
pub all-between : (s : PlantState) (t : ConfigTable) (l m : ℕ) → IsSoundConfig t → s.on (owner_in t l) ≡ true → (v : ℕ) → pairs_with l m v (volume_seen s t v).fields ≡ true → between s t l m v ≡ true
all-between s t l m sound on v is = elim (place_of t v) as (λ o. place_of t v ≡ o → between s t l m v ≡ true) [
  | None ↦ λ none. let e : false ≡ true = sym (ap (λ o. is_part (volume_at s t o).fields.primary) none) ∙ part in absurd (true≢false (sym e))
  | Some d ↦ λ at. all-three in_l (s.on (volume_seen s t v).server) paired is (ap s.on (server-owned s t l v d sound at ((and_parts in_l paired is).0)) ∙ on)
] refl
  where
    in_l : Bool
    in_l = nat_eq (subsystem v) l

    paired : Bool
    paired = is_part (volume_seen s t v).fields.primary && nat_eq (subsystem (volume_seen s t v).fields.primary_partner) m

    part : is_part (volume_seen s t v).fields.primary ≡ true
    part = (and_parts (is_part (volume_seen s t v).fields.primary) (nat_eq (subsystem (volume_seen s t v).fields.primary_partner) m) ((and_parts in_l paired is).1)).0
