-- How the machine's world follows the state of a plant.
use Rattle.std.proofs.Common.{ℕ, ◌≡◌, ◌≢◌, ◌<◌, Bool, true, false, not, refl, sym, ◌∙◌, ap, nat_eq, nat_lt, inl, inr, Option, None, Some, ◌||◌, cond, ◌==◌, List, [], ◌∷◌}
use Rattle.std.specs.Prelude.{if◌then◌else◌, is_some}
use Rattle.std.proofs.lemmas.Bool.{cases_eq}
use Rattle.std.proofs.lemmas.Bool.Decides.{Decides-eqb}
use Rattle.std.specs.List.{find, list_any}
use Rattle.dr_logic.specs.Tables.{at}
use Rattle.dr_bits.specs.Membership.{lt_true}
use Rattle.dr_plant.specs.State.{PlantState}
use Rattle.dr_plant.specs.declared.plant.WriteFuse.{WriteFuse}
use Rattle.dr_plant.specs.Writes.{write_fuse_after}
use Rattle.dr_config.specs.Table.{ConfigTable}
use Rattle.dr_model.specs.Control.{World}
use Rattle.dr_model.specs.Layout as layout
use Rattle.dr_model.specs.Moves.{Carried, moved_keeping, tracks_after, saved_after, updated_keeping}
use Rattle.dr_model.specs.Carry as machine
use Rattle.dr_model.specs.Carry.{Ended, ended}
use Rattle.dr_volume.specs.View.{Rest, world, on_seen, fuses_seen, fuse_seen, volume_seen, track_seen, saved_seen, ids_of}
use Rattle.dr_volume.specs.Update.{IsAsBefore, IsMovedKeeping, OthersStay}
use Rattle.dr_config.specs.declared.entries.VolumeEntry.{VolumeEntry}
use Rattle.dr_config.proofs.KeyLaws.{eqb-turned}
use Rattle.dr_logic.proofs.Tables.{at_same, at_other}

-- a table that differs from another at k alone
pub table_at : {X : Type 0} (f g : ℕ → X) (k : ℕ) (x : X) → g k ≡ x → ((q : ℕ) → q ≢ k → g q ≡ f q) → g ≡ at f k x
table_at f g k x here there i q =
    (elim (cases_eq q k) as (λ w. g q ≡ at f k x q) [
      | inl e ↦ ap g e ∙ here ∙ sym (ap (at f k x) e ∙ at_same f k x)
      | inr ne ↦ there q ne ∙ sym (at_other f k x q ne)
    ]) i

pub table_same : {X : Type 0} (f g : ℕ → X) (k : ℕ) → g k ≡ f k → ((q : ℕ) → q ≢ k → g q ≡ f q) → g ≡ f
table_same f g k here there i q = (elim (cases_eq q k) as (λ w. g q ≡ f q) [ inl e ↦ ap g e ∙ here ∙ sym (ap f e) | inr ne ↦ there q ne ]) i

-- what is seen of the eight servers, where one of them changed
guarded_test : {X Y : Type 0} (h : Y → X) (x y : Y) (none : X) (below here : Bool) → (here ≡ true → below ≡ true) → (if below then h (if here then y else x) else none) ≡ (if here then h y else if below then h x else none)
guarded_test h x y none true true low = refl
guarded_test h x y none true false low = refl
guarded_test h x y none false true low = let e : false ≡ true = low refl in absurd (cc)
guarded_test h x y none false false low = refl

guarded : {X Y : Type 0} (h : Y → X) (f g : ℕ → Y) (o : ℕ) (y : Y) (none : X) → o < 8 → g ≡ at f o y → (q : ℕ) → (if nat_lt q 8 then h (g q) else none) ≡ at (λ q. if nat_lt q 8 then h (f q) else none) o (h y) q
guarded {X} {Y} h f g o y none low e q =
    ap (λ (k : ℕ → Y). if nat_lt q 8 then h (k q) else none) e
    ∙ guarded_test h (f q) y none (nat_lt q 8) (nat_eq q o) (λ here. ap (λ n. nat_lt n 8) ((Decides-eqb q o).0 here) ∙ lt_true o 8 low)

pub on-at : (s t : PlantState) (o : ℕ) (on : Bool) → o < 8 → t.on ≡ at s.on o on → on_seen t ≡ at (on_seen s) o on
on-at s t o on low e i q = guarded (λ (b : Bool). b) s.on t.on o on true low e q i

on-same : (s t : PlantState) → t.on ≡ s.on → on_seen t ≡ on_seen s
on-same s t e i q = if nat_lt q 8 then e i q else true

pub fuses-at : (s t : PlantState) (o : ℕ) (g : Option WriteFuse) → o < 8 → t.write_fuse ≡ at s.write_fuse o g → fuses_seen t ≡ at (fuses_seen s) o (fuse_seen g)
fuses-at s t o g low e i q = guarded fuse_seen s.write_fuse t.write_fuse o g None low e q i

pub fuses-same : (s t : PlantState) → t.write_fuse ≡ s.write_fuse → fuses_seen t ≡ fuses_seen s
fuses-same s t e i q = if nat_lt q 8 then fuse_seen (e i q) else None

-- the fuse and the state of a server below 8
pub fuse-seen : (s : PlantState) (o : ℕ) → o < 8 → fuses_seen s o ≡ fuse_seen (s.write_fuse o)
fuse-seen s o low = ap (λ b. if b then fuse_seen (s.write_fuse o) else None) (lt_true o 8 low)

pub on-seen : (s : PlantState) (o : ℕ) → o < 8 → on_seen s o ≡ s.on o
on-seen s o low = ap (λ b. if b then s.on o else true) (lt_true o 8 low)

lower-seen : (n : ℕ) (g : Option WriteFuse) → fuse_seen (write_fuse_after n g) ≡ machine.lower n (fuse_seen g)
lower-seen n None = refl
lower-seen n (Some f) = refl

-- the world of s with the volumes and the tracks of t
abbrev pub shown : PlantState → PlantState → ConfigTable → Rest → World
shown s t c r = record (world s c r) {
  control = record (world s c r).control { volume = volume_seen t c };
  contents = track_seen t c;
  saved = saved_seen t c;
}

pub world-still : (s t : PlantState) (c : ConfigTable) (r : Rest) → t.on ≡ s.on → t.write_fuse ≡ s.write_fuse → world t c r ≡ shown s t c r
world-still s t c r on fuse i = record (shown s t c r) {
  control = record (shown s t c r).control { on = on-same s t on i; fuse = fuses-same s t fuse i };
}

pub world-spent : (s t : PlantState) (c : ConfigTable) (r : Rest) (o n : ℕ) → o < 8 → t.on ≡ s.on → t.write_fuse ≡ at s.write_fuse o (write_fuse_after n (s.write_fuse o)) → world t c r ≡ machine.spent (shown s t c r) o n
world-spent s t c r o n low on fuse =
    let lower = lower-seen n (s.write_fuse o) ∙ ap (machine.lower n) (sym (fuse-seen s o low)) in
    let fuses = fuses-at s t o _ low fuse ∙ ap (at (fuses_seen s) o) lower in
    λ i. record (shown s t c r) { control = record (shown s t c r).control { on = on-same s t on i; fuse = fuses i } }

pub world-off : (s t : PlantState) (c : ConfigTable) (r : Rest) (o : ℕ) (g : WriteFuse) → o < 8 → t.on ≡ at s.on o false → t.write_fuse ≡ at s.write_fuse o (Some (record g { after = 0 })) → s.write_fuse o ≡ Some g → world t c r ≡ machine.off (shown s t c r) o
world-off s t c r o g low on fuse armed =
    let burnt : fuse_seen (Some (record g { after = 0 })) ≡ machine.burnt (fuses_seen s o) = sym (ap (λ f. machine.burnt f) (fuse-seen s o low ∙ ap fuse_seen armed)) in
    let fuses = fuses-at s t o _ low fuse ∙ ap (at (fuses_seen s) o) burnt in
    λ i. record (shown s t c r) { control = record (shown s t c r).control { on = on-at s t o false low on i; fuse = fuses i } }

-- where the volumes and the tracks are as before, and where one volume moved
pub shown-before : (s t : PlantState) (c : ConfigTable) (r : Rest) (v : ℕ) → IsAsBefore s t c v → OthersStay s t c v → shown s t c r ≡ world s c r
shown-before s t c r v here there =
    let volumes = table_same (volume_seen s c) (volume_seen t c) v here.volume (λ q ne. (there q ne).volume) in
    let tracks = table_same (track_seen s c) (track_seen t c) v here.tracks (λ q ne. (there q ne).tracks) in
    let saved = table_same (saved_seen s c) (saved_seen t c) v here.saved (λ q ne. (there q ne).saved) in
    λ i. record (world s c r) { control = record (world s c r).control { volume = volumes i }; contents = tracks i; saved = saved i }

pub shown-moved : (s t : PlantState) (c : ConfigTable) (r : Rest) (v : ℕ) (keeps : Bool) (f : layout.Fields) (m : Carried) → IsMovedKeeping keeps s t c v f m → OthersStay s t c v → shown s t c r ≡ updated_keeping keeps (world s c r) v f m
shown-moved s t c r v keeps f m here there =
    let volumes = table_at (volume_seen s c) (volume_seen t c) v (moved_keeping keeps (volume_seen s c v) f m) here.volume (λ q ne. (there q ne).volume) in
    let tracks = table_at (track_seen s c) (track_seen t c) v (tracks_after f m (track_seen s c v)) here.tracks (λ q ne. (there q ne).tracks) in
    let saved = table_at (saved_seen s c) (saved_seen t c) v (saved_after (volume_seen s c v).fields.entries f.entries (track_seen s c v) (saved_seen s c v)) here.saved (λ q ne. (there q ne).saved) in
    λ i. record (world s c r) { control = record (world s c r).control { volume = volumes i }; contents = tracks i; saved = saved i }

-- The machine's update, by whether the server is on, whether the writes pass, and whether a stopped move counts.
module _ (keeps : Bool) (w : World) (v : ℕ) (f : layout.Fields) (m : Carried) where
  abbrev n : ℕ
  n = machine.writes (w.control.volume v) f m

  abbrev new : World
  new = updated_keeping keeps w v f m

  abbrev by : ℕ → Bool → Bool → Bool → Ended
  by o on pass counts =
      if not on then ended w true false
      else if pass then ended (machine.spent new o n) false true
      else if counts then ended (machine.off new o) true true
      else ended (machine.off w o) true false

  abbrev counts : ℕ → Bool
  counts o = machine.counts_by (machine.gate_at (w.control.volume v) f m) (w.control.fuse o) (not (w.control.volume v).slot)

  update-by : (o : ℕ) → (w.control.volume v).server ≡ o → machine.update_keeping keeps w v f m ≡ by o (w.control.on o) (machine.pass (w.control.fuse o) n) (counts o)
  unfolding machine.update_keeping
  update-by o is i = by (is i) (w.control.on (is i)) (machine.pass (w.control.fuse (is i)) n) (counts (is i))

  pub update-off : (o : ℕ) → (w.control.volume v).server ≡ o → w.control.on o ≡ false → machine.update_keeping keeps w v f m ≡ ended w true false
  update-off o is off = update-by o is ∙ ap (λ on. by o on (machine.pass (w.control.fuse o) n) (counts o)) off

  pub update-passed : (o : ℕ) → (w.control.volume v).server ≡ o → w.control.on o ≡ true → machine.pass (w.control.fuse o) n ≡ true → machine.update_keeping keeps w v f m ≡ ended (machine.spent new o n) false true
  update-passed o is on pass = update-by o is ∙ (λ i. by o (on i) (pass i) (counts o))

  pub update-cut_short : (o : ℕ) (done : Bool) → (w.control.volume v).server ≡ o → w.control.on o ≡ true → machine.pass (w.control.fuse o) n ≡ false → counts o ≡ done → machine.update_keeping keeps w v f m ≡ (if done then ended (machine.off new o) true true else ended (machine.off w o) true false)
  update-cut_short o done is on pass counted = update-by o is ∙ (λ i. by o (on i) (pass i) (counted i))

pub any_id : (es : List VolumeEntry) (v : ℕ) → list_any (nat_eq v) (ids_of es) ≡ is_some (find (λ (e : VolumeEntry). e.id == v) es)
any_id [] v = refl
any_id (e ∷ es) v =
    ap (λ b. b || list_any (nat_eq v) (ids_of es)) (eqb-turned v e.id)
    ∙ elim (nat_eq e.id v) as (λ b. (b || list_any (nat_eq v) (ids_of es)) ≡ is_some (cond b (Some e) (find (λ (e : VolumeEntry). e.id == v) es))) [ true ↦ refl | false ↦ any_id es v ]
