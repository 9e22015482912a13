-- Through a drain that isn't refused a pair that was turned stays in place, and with its last track a Metro Mirror pair is Full Duplex.
use Rattle.std.proofs.Common.{ℕ, ◌≡◌, ◌≢◌, refl, ap, sym, ◌∙◌, subst, Bool, true, false, cond, List, [], ◌∷◌, Option, None}
use Rattle.std.proofs.lemmas.Bool.{and_from}
use Rattle.std.specs.FinSet.{remove}
use Rattle.dr_model.specs.declared.state.Part.{Part}
use Rattle.dr_model.specs.declared.state.PairState.{PairState}
use Rattle.dr_model.specs.declared.state.PairState.TheVariants.{FullDuplex}
use Rattle.dr_model.specs.Layout.{Fields, no_fields}
use Rattle.dr_model.specs.Relations.{is_bare}
use Rattle.dr_model.specs.Pairs.{is_primary_of, is_secondary_of, is_kind, is_metro, is_last, received, struck}
use Rattle.dr_model.specs.Control.{Fuse, Volume, World}
use Rattle.dr_model.specs.Moves.{Move, Keep, Note, Store, Strike}
use Rattle.dr_model.specs.Carry.{Act, Make, carry}
use Rattle.dr_model.specs.Entries.{fields_at, copy_first}
use Rattle.dr_model.specs.PairEntries.{reach_refusal, flashed_refusal, store_on, strike_on, send_entries, sends}
use Rattle.dr_model.specs.Allowed.{Runs}
use Rattle.dr_facts.proofs.Refusals.{none-both}
use Rattle.dr_laws_sound.proofs.Turns.{done, after_act}
use Rattle.dr_laws_sound.proofs.FitsPairs.{reached, row, runs-done, part-same}
use Rattle.dr_laws_sound.proofs.Turned.{passed-refuse, move-led, nothing-left}
use Rattle.dr_facts.proofs.Entries.{any_world, any_reason}
use Rattle.dr_facts.proofs.SharedEntries.{copies-fine}
use Rattle.dr_laws_recovery.proofs.Emptied.{can-send}
use Rattle.dr_laws_recovery.proofs.Went.{carry-keeps, Split, carry-split}
use Rattle.dr_logic.proofs.Tables.{at_same, at_other}

-- what a record says of pairs
abbrev pair_part : Fields → Fields
pair_part f = record no_fields {
  primary = f.primary;
  primary_state = f.primary_state;
  primary_partner = f.primary_partner;
  recording = f.recording;
  out_of_sync = f.out_of_sync;
  secondary = f.secondary;
  secondary_state = f.secondary_state;
  secondary_partner = f.secondary_partner;
}

-- the acts that keep the tracks of targets
abbrev Keeps : Move → Type 0
Keeps (Keep v t) = Unit {0}
Keeps (Note v t) = Unit {0}
Keeps m = ⊥

abbrev Ok : World → Act → Type 0
Ok w (Make m) = Keeps m
Ok w a = ⊥

module _ (x y : ℕ) (kind : Part) where
  -- A primary x of y, of that kind, which doesn't record, and its secondary. Where a Metro Mirror pair has nothing out of sync, it is Full
  -- Duplex.
  pub record Faces (f g : Fields) : Type 0 where
    pub leads : is_primary_of y f ≡ true
    pub of_kind : is_kind kind f.primary ≡ true
    pub idle : f.recording ≡ false
    pub follows : is_secondary_of x g ≡ true
    pub duplex : is_metro f.primary ≡ true → is_bare f.out_of_sync ≡ true → f.primary_state ≡ FullDuplex
    pub duplex_too : is_metro f.primary ≡ true → is_bare f.out_of_sync ≡ true → g.secondary_state ≡ FullDuplex

  -- other parts of the records don't count
  faces-same : (f g h i : Fields) → pair_part h ≡ pair_part f → pair_part i ≡ pair_part g → Faces f g → Faces h i
  faces-same f g h i p q old =
      let metro_was : is_metro h.primary ≡ true → is_metro f.primary ≡ true = λ is. sym (ap (λ (e : Fields). is_metro e.primary) p) ∙ is in
      let bare_was : is_bare h.out_of_sync ≡ true → is_bare f.out_of_sync ≡ true = λ is. sym (ap (λ (e : Fields). is_bare e.out_of_sync) p) ∙ is in
      record {
        leads = ap (is_primary_of y) p ∙ old.leads;
        of_kind = ap (λ (e : Fields). is_kind kind e.primary) p ∙ old.of_kind;
        idle = ap (λ (e : Fields). e.recording) p ∙ old.idle;
        follows = ap (is_secondary_of x) q ∙ old.follows;
        duplex = λ metro bare. ap (λ (e : Fields). e.primary_state) p ∙ old.duplex (metro_was metro) (bare_was bare);
        duplex_too = λ metro bare. ap (λ (e : Fields). e.secondary_state) q ∙ old.duplex_too (metro_was metro) (bare_was bare);
      }

  -- the secondary has stored a track, and the primary strikes it off
  pub chosen-duplex : (b : Bool) (s : PairState) → b ≡ true → cond b FullDuplex s ≡ FullDuplex
  chosen-duplex true s is = refl
  chosen-duplex false s is = absurd cc

  faces-stored : (f g : Fields) (last : Bool) (t : ℕ) → Faces f g → Faces f (received last g t)
  faces-stored f g last t old = record {
    leads = old.leads;
    of_kind = old.of_kind;
    idle = old.idle;
    follows = old.follows;
    duplex = old.duplex;
    duplex_too = λ metro bare. by last (old.duplex_too metro bare);
  }
    where
      by : (b : Bool) → g.secondary_state ≡ FullDuplex → cond b FullDuplex g.secondary_state ≡ FullDuplex
      by true is = refl
      by false is = is

  faces-struck : (f g : Fields) (t : ℕ) → (is_last f t ≡ true → g.secondary_state ≡ FullDuplex) → Faces f g → Faces (struck (is_last f t) f t) g
  faces-struck f g t stored old = record {
    leads = old.leads;
    of_kind = old.of_kind;
    idle = old.idle;
    follows = old.follows;
    duplex = λ metro bare. chosen-duplex (is_last f t) f.primary_state (and_from (is_metro f.primary) (is_bare (remove f.out_of_sync t)) metro bare);
    duplex_too = λ metro bare. stored (and_from (is_metro f.primary) (is_bare (remove f.out_of_sync t)) metro bare);
  }

  -- ---- along the sends

  module _ (ne : x ≢ y) where
    -- the primary's server is on, and the two face each other; so is the other one's
    pub record Sending (w : World) : Type 0 where
      pub runs : Runs w x
      pub faces : Faces (fields_at w.control x) (fields_at w.control y)

    record Reaching (w : World) : Type 0 where
      sending : Sending w
      other : Runs w y

    kept-part : (w : World) (m : Move) (f : Option Fuse) → Keeps m → (v : ℕ) → pair_part (fields_at (done w m f).control v) ≡ pair_part (fields_at w.control v)
    kept-part w (Keep u t) f is v = part-same w (Keep u t) f pair_part refl v
    kept-part w (Note u t) f is v = part-same w (Note u t) f pair_part refl v
    kept-part w m f is v = absurd is

    reaching-act : (w : World) (a : Act) (f : Option Fuse) → Ok w a → Reaching w → Reaching (after_act w a f)
    reaching-act w (Make m) f is old = record {
      sending = record {
        runs = runs-done w m f x old.sending.runs;
        faces = faces-same (fields_at w.control x) (fields_at w.control y) _ _ (kept-part w m f is x) (kept-part w m f is y) old.sending.faces;
      };
      other = runs-done w m f y old.other;
    }
    reaching-act w a f is old = absurd is

    -- one track is stored and struck off
    stored-struck : (t : ℕ) (w v : World) → carry w (store_on x y t ∷ strike_on x t ∷ []) ≡ (v, None) → Reaching w → Sending v
    stored-struck t w v leads old =
        let f : Fields = fields_at w.control x in
        let m : Move = Store y t x (is_last f t) in
        let one = move-led w v (store_on x y t) m (strike_on x t ∷ []) refl old.other leads in
        let u : World = done w m one.fuse in
        let x_same : fields_at u.control x ≡ f = ap (λ (v : Volume). v.fields) (at_other w.control.volume y (row w m one.fuse) x ne) in
        let y_now : fields_at u.control y ≡ received (is_last f t) (fields_at w.control y) t = ap (λ (v : Volume). v.fields) (at_same w.control.volume y (row w m one.fuse)) in
        let on : Runs u x = runs-done w m one.fuse x old.sending.runs in
        let n : Move = Strike x t (is_last (fields_at u.control x) t) in
        let two = move-led u v (strike_on x t) n [] refl on one.leads in
        let faces : Faces (fields_at u.control x) (fields_at u.control y) =
        subst (λ h. Faces h (fields_at u.control y)) (sym x_same) (subst (Faces f) (sym y_now) (faces-stored f (fields_at w.control y) (is_last f t) t old.sending.faces)) in
        let stored : is_last (fields_at u.control x) t ≡ true → (fields_at u.control y).secondary_state ≡ FullDuplex =
        λ last. ap (λ (h : Fields). h.secondary_state) y_now ∙ chosen-duplex (is_last f t) (fields_at w.control y).secondary_state (sym (ap (λ h. is_last h t) x_same) ∙ last) in
        let end : World = done u n two.fuse in
        let x_now : fields_at end.control x ≡ struck (is_last (fields_at u.control x) t) (fields_at u.control x) t = ap (λ (v : Volume). v.fields) (at_same u.control.volume x (row u n two.fuse)) in
        let y_same : fields_at end.control y ≡ fields_at u.control y = ap (λ (v : Volume). v.fields) (at_other u.control.volume x (row u n two.fuse) y (λ e. ne (sym e))) in
        subst Sending (nothing-left end v two.leads) (record {
          runs = runs-done u n two.fuse x on;
          faces = subst (λ h. Faces h (fields_at end.control y)) (sym x_now) (subst (Faces (struck (is_last (fields_at u.control x) t) (fields_at u.control x) t)) (sym y_same) (faces-struck (fields_at u.control x) (fields_at u.control y) t stored faces));
        })

    pub sends-face : (volumes : List ℕ) (ts : List ℕ) (w v : World) → carry w (sends volumes x y ts) ≡ (v, None) → Sending w → Sending v
    sends-face volumes [] w v leads old = subst Sending (nothing-left w v leads) old
    sends-face volumes (t ∷ ts) w v leads old =
        let one : Split w v (send_entries volumes x y t) (sends volumes x y ts) = carry-split w v (send_entries volumes x y t) (sends volumes x y ts) leads in
        let can = can-send x y w one.middle _ old.runs one.first in
        let free = (passed-refuse w one.middle (flashed_refusal y) _ can.leads).1 in
        let two : Split w one.middle (copy_first volumes y t) (store_on x y t ∷ strike_on x t ∷ []) = carry-split w one.middle (copy_first volumes y t) (store_on x y t ∷ strike_on x t ∷ []) free in
        let other : Runs w y = reached w x y (none-both (reach_refusal x y w.control) _ can.free).0 in
        let kept = carry-keeps Ok Reaching reaching-act w two.middle (copy_first volumes y t) (copies-fine any_world Ok any_reason (λ u t w any. tt) (λ u t w any. tt) volumes y t) two.first (record { sending = old; other = other }) in
        sends-face volumes ts one.middle v one.rest (stored-struck t two.middle one.middle two.rest kept)
