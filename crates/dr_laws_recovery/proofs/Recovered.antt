-- However far a recovery came, another one makes the same of the session.
use Rattle.std.proofs.Common.{ℕ, ◌≡◌, ◌≢◌, ◌<◌, ◌⊎◌, inl, inr, refl, ap, sym, ◌∙◌, subst, Bool, true, false, cond, ◌&&◌, ◌||◌, nat_eq, List, rules}
use Rattle.std.proofs.lemmas.Bool.{and_parts}
use Rattle.std.proofs.lemmas.Bool.Decides.{eqb_tells}
use Rattle.dr_model.specs.Histories.{Write}
use Rattle.dr_model.specs.Layout.{Fields}
use Rattle.dr_model.specs.SessionEntries.{counts_in}
use Rattle.dr_model.specs.Relations.{committed, reverted}
use Rattle.dr_model.specs.Moves.{Move, Commit, Revert, target, next_fields}
use Rattle.dr_model.specs.Table.{Row, Table}
use Rattle.dr_model.specs.Rows.{after, next_row, next_due, volumes_of}
use Rattle.dr_model.specs.Laws.{SoundRows, fields, shown}
use Rattle.dr_model.specs.Allowed.{Allowed}
use Rattle.dr_laws_recovery.specs.BothViews.{IsRevertible, set_aside, Settles}
use Rattle.dr_model.specs.Recovery.{goes_back, remains_in, number_after, image_after}
use Rattle.dr_laws_sound.proofs.Views.{shown-due, own-shows, others-stay}
use Rattle.dr_laws_recovery.proofs.BothViews.{both-stay, commit-shows, revert-shows}
use Rattle.dr_logic.proofs.Truth.{false_true}
use Rattle.dr_logic.proofs.Tables.{at_same, at_other}

-- the volume that a move settles is the one whose record it updates
settles-target : (v : ℕ) (m : Move) → Settles v m → v ≡ target m
settles-target v (Commit u a s n) h = h
settles-target v (Revert u a s n) h = h
settles-target v m h = absurd h

-- ---- records of targets

remains-committed : (s n : ℕ) (f : Fields) → f.revertible ≡ true → remains_in s false (committed n f) ≡ remains_in s false f
remains-committed s n f h = grind rules

remains-reverted : (s n : ℕ) (f : Fields) → f.revertible ≡ true → remains_in s true (reverted n f) ≡ remains_in s true f
remains-reverted s n f h = by f.member
  where
    by : (b : Bool) → ((nat_eq (cond b f.session 0) s && (b || false)) && true) ≡ ((nat_eq f.session s && (b || f.revertible)) && cond f.revertible b true)
    by true = grind rules
    by false = grind rules

number-reverted : (n : ℕ) (f : Fields) → f.revertible ≡ true → number_after true (reverted n f) ≡ number_after true f
number-reverted n f h = sym (ap (λ b. cond b f.previous_sequence f.sequence) h)

module _ (s : ℕ) (back : Bool) where
  abbrev pub left : Table → ℕ → ℕ → List ℕ
  left T v t = image_after back (fields T) (λ u. (T u).bytes) v t

  -- the same of a volume by two records
  pub record AlikeAt (T S : Table) (v : ℕ) (f : Fields) (tracks : ℕ) : Type 0 where
    pub tracks_same : tracks ≡ (T v).volume.tracks
    pub remains : remains_in s back f ≡ remains_in s back (fields T v)
    pub number : remains_in s back (fields T v) ≡ true → number_after back f ≡ number_after back (fields T v)
    pub image : (t : ℕ) → remains_in s back (fields T v) ≡ true → t < (T v).volume.tracks → left S v t ≡ left T v t

  abbrev pub Alike : Table → Table → Type 0
  Alike T S = (v : ℕ) → AlikeAt T S v (fields S v) (S v).volume.tracks

  pub alike-refl : (T : Table) → Alike T T
  alike-refl T v = record { tracks_same = refl; remains = refl; number = λ h. refl; image = λ t h lt. refl }

  pub alike-then : (T S R : Table) → Alike T S → Alike S R → Alike T R
  alike-then T S R a b v = record {
    tracks_same = (b v).tracks_same ∙ (a v).tracks_same;
    remains = (b v).remains ∙ (a v).remains;
    number = λ h. (b v).number ((a v).remains ∙ h) ∙ (a v).number h;
    image = λ t h lt. (b v).image t ((a v).remains ∙ h) (subst (λ n. t < n) (sym (a v).tracks_same) lt) ∙ (a v).image t h lt;
  }

  -- ---- moves

  module _ (write : ℕ → Write) (T : Table) (rows : SoundRows T) (related : (v : ℕ) → (fields T v).revertible ≡ true → IsRevertible T v) where
    module _ (m : Move) (a : Allowed write T m) where
      abbrev S : Table
      S = after write T m

      abbrev v : ℕ
      v = target m

      -- what goes back, and isn't settled here, would show what it would have; what stays does
      stays : (u : ℕ) → (goes_back back (fields S u) ≡ goes_back back (fields T u)) → (Settles u m → ⊥) → (t : ℕ) → t < (T u).volume.tracks → shown S u t ≡ shown T u t → left S u t ≡ left T u t
      stays u same none t lt shows = ap (λ b. cond b (set_aside S u t) (shown S u t)) same ∙ by (goes_back back (fields T u)) refl
        where
          by : (b : Bool) → goes_back back (fields T u) ≡ b → cond b (set_aside S u t) (shown S u t) ≡ cond b (set_aside T u t) (shown T u t)
          by true is = (both-stay write T rows m a u (related u (and_parts back (fields T u).revertible is).1) none t lt).1
          by false is = shows

      other : (u : ℕ) → u ≢ v → AlikeAt T S u (fields S u) (S u).volume.tracks
      other u ne =
          let row : S u ≡ T u = at_other T v (next_row write m T) u ne in
          record {
            tracks_same = ap (λ (r : Row). r.volume.tracks) row;
            remains = ap (λ (r : Row). remains_in s back r.volume.fields) row;
            number = λ h. ap (λ (r : Row). number_after back r.volume.fields) row;
            image = λ t h lt. stays u (ap (λ (r : Row). goes_back back r.volume.fields) row) (λ h. ne (settles-target u m h)) t lt (others-stay write T rows m a u t ne lt);
          }

      -- so the volume of the move alone matters
      alike-by : remains_in s back (next_fields m (volumes_of T)) ≡ remains_in s back (fields T v)
          → (remains_in s back (fields T v) ≡ true → number_after back (next_fields m (volumes_of T)) ≡ number_after back (fields T v))
          → ((t : ℕ) → remains_in s back (fields T v) ≡ true → t < (T v).volume.tracks → left S v t ≡ left T v t) → Alike T S
      alike-by remains number image = λ u. by u (eqb_tells u v)
        where
          row : S v ≡ next_row write m T
          row = at_same T v (next_row write m T)

          own : AlikeAt T S v (fields S v) (S v).volume.tracks
          own = record {
            tracks_same = ap (λ (r : Row). r.volume.tracks) row;
            remains = ap (λ (r : Row). remains_in s back r.volume.fields) row ∙ remains;
            number = λ h. ap (λ (r : Row). number_after back r.volume.fields) row ∙ number h;
            image = image;
          }

          by : (u : ℕ) → ((nat_eq u v ≡ true) × (u ≡ v)) ⊎ ((nat_eq u v ≡ false) × (u ≢ v)) → AlikeAt T S u (fields S u) (S u).volume.tracks
          by u (inl is) = subst (λ u. AlikeAt T S u (fields S u) (S u).volume.tracks) (sym is.1) own
          by u (inr not) = other u not.1

    -- a move that settles nothing, and leaves what is read of its volume
    pub alike-still : (m : Move) → Allowed write T m → remains_in s back (next_fields m (volumes_of T)) ≡ remains_in s back (fields T (target m)) → number_after back (next_fields m (volumes_of T)) ≡ number_after back (fields T (target m))
        → goes_back back (next_fields m (volumes_of T)) ≡ goes_back back (fields T (target m)) → (Settles (target m) m → ⊥) → ((t : ℕ) → next_due write m T t ≡ (T (target m)).due t) → Alike T (after write T m)
    alike-still m a remains number goes none due =
        alike-by m a remains (λ h. number)
        (λ t h lt. stays m a (target m) (ap (λ (r : Row). goes_back back r.volume.fields) (at_same T (target m) (next_row write m T)) ∙ goes) none t lt (own-shows write T rows m a t lt ∙ (due t ∙ sym (shown-due T rows.images (target m) t lt))))

    -- a move of a volume that doesn't count, before it or after
    pub alike-away : (m : Move) → Allowed write T m → counts_in s (fields T (target m)) ≡ false → counts_in s (next_fields m (volumes_of T)) ≡ false → Alike T (after write T m)
    alike-away m a before then_not =
        let f : Fields = fields T (target m) in
        let g : Fields = next_fields m (volumes_of T) in
        let gone : remains_in s back f ≡ false = ap (λ b. b && cond (goes_back back f) f.member true) before in
        alike-by m a (ap (λ b. b && cond (goes_back back g) g.member true) then_not ∙ sym gone) (λ h. false_true gone h) (λ t h lt. false_true gone h)

    pub alike-committed : (c p i n : ℕ) → Allowed write T (Commit c p i n) → back ≡ false → Alike T (after write T (Commit c p i n))
    alike-committed c p i n a e =
        let m : Move = Commit c p i n in
        alike-by m a
        (subst (λ b. remains_in s b (committed n (fields T c)) ≡ remains_in s b (fields T c)) (sym e) (remains-committed s n (fields T c) a.revertible))
        (λ h. subst (λ b. number_after b (committed n (fields T c)) ≡ number_after b (fields T c)) (sym e) refl)
        (λ t h lt. subst (λ b. image_after b (fields (after write T m)) (λ u. (after write T m u).bytes) c t ≡ image_after b (fields T) (λ u. (T u).bytes) c t) (sym e) (commit-shows write T rows c t lt p i n a))

    pub alike-reverted : (c p i n : ℕ) → Allowed write T (Revert c p i n) → back ≡ true → Alike T (after write T (Revert c p i n))
    alike-reverted c p i n a e =
        let m : Move = Revert c p i n in
        alike-by m a
        (subst (λ b. remains_in s b (reverted n (fields T c)) ≡ remains_in s b (fields T c)) (sym e) (remains-reverted s n (fields T c) a.revertible))
        (λ h. subst (λ b. number_after b (reverted n (fields T c)) ≡ number_after b (fields T c)) (sym e) (number-reverted n (fields T c) a.revertible))
        (λ t h lt. subst (λ b. image_after b (fields (after write T m)) (λ u. (after write T m u).bytes) c t ≡ image_after b (fields T) (λ u. (T u).bytes) c t) (sym e)
        (ap (λ (r : Row). cond r.volume.fields.revertible (set_aside (after write T m) c t) (shown (after write T m) c t)) (at_same T c (next_row write m T))
        ∙ (revert-shows write T rows c t lt p i n a
        ∙ sym (ap (λ r. cond r (set_aside T c t) (shown T c t)) a.revertible))))
