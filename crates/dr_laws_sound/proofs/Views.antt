-- What a volume shows is what is due, so a move changes what no other volume shows.
use Rattle.std.proofs.Common.{ℕ, ◌≡◌, ◌≢◌, ◌<◌, refl, ap, sym, ◌∙◌, subst, Bool, true, false, cond, not, ◌&&◌}
use Rattle.std.specs.FinSet.{contains}
use Rattle.dr_model.specs.Histories.{Write}
use Rattle.dr_model.specs.Moves.{Move, Keep, Note, Fetch, target}
use Rattle.dr_model.specs.Table.{Row, Table}
use Rattle.dr_model.specs.Rows.{after, next_row, next_due}
use Rattle.dr_model.specs.Laws.{SoundRows, Images, fields, shown}
use Rattle.dr_model.specs.Allowed.{Allowed}
use Rattle.dr_laws_sound.proofs.KeepsImages.{view-by}
use Rattle.dr_laws_sound.proofs.KeepsSound.{rows-after}
use Rattle.dr_logic.proofs.Choices.{choose_some, choose_none}
use Rattle.dr_logic.proofs.Tables.{at_same, at_other}

due-by : (T : Table) → Images T → (v q : ℕ) → q < (T v).volume.tracks → (r : Bool) → (fields T v).related ≡ r → shown T v q ≡ (T v).due q
due-by T images v q lt true is = view-by (fields T v).related (contains (fields T v).own q) _ _ is ∙ images.seen v (fields T v).source (choose_some _ _ is) q lt
due-by T images v q lt false is = ap (λ b. cond (b && not (contains (fields T v).own q)) ((T (fields T v).source).bytes q) ((T v).bytes q)) is ∙ images.plain v (choose_none _ _ is) q lt

pub shown-due : (T : Table) → Images T → (v q : ℕ) → q < (T v).volume.tracks → shown T v q ≡ (T v).due q
shown-due T images v q lt = due-by T images v q lt _ refl

module _ (write : ℕ → Write) (T : Table) (rows : SoundRows T) (m : Move) (a : Allowed write T m) where
  -- each volume shows what the table after the move says
  pub shows-after : (v q : ℕ) → (r : Row) → after write T m v ≡ r → q < r.volume.tracks → shown (after write T m) v q ≡ r.due q
  shows-after v q r is lt =
      shown-due (after write T m) (rows-after write T m rows a).images v q (subst (λ (r : Row). q < r.volume.tracks) (sym is) lt)
      ∙ ap (λ (r : Row). r.due q) is

  pub others-stay : (v q : ℕ) → v ≢ target m → q < (T v).volume.tracks → shown (after write T m) v q ≡ shown T v q
  others-stay v q ne lt = shows-after v q (T v) (at_other T (target m) (next_row write m T) v ne) lt ∙ sym (shown-due T rows.images v q lt)

  -- and its own volume what the move makes due
  pub own-shows : (q : ℕ) → q < (T (target m)).volume.tracks → shown (after write T m) (target m) q ≡ next_due write m T q
  own-shows q lt = shows-after (target m) q (next_row write m T) (at_same T (target m) (next_row write m T)) lt

-- a target that takes a track of its source, or notes a change there, shows what it showed
module _ (write : ℕ → Write) (T : Table) (rows : SoundRows T) where
  own-stays : (m : Move) → Allowed write T m → ((q : ℕ) → next_due write m T q ≡ (T (target m)).due q) → (q : ℕ) → q < (T (target m)).volume.tracks → shown (after write T m) (target m) q ≡ shown T (target m) q
  own-stays m a same q lt = own-shows write T rows m a q lt ∙ same q ∙ sym (shown-due T rows.images (target m) q lt)

  pub keep-shows : (v t q : ℕ) → Allowed write T (Keep v t) → q < (T v).volume.tracks → shown (after write T (Keep v t)) v q ≡ shown T v q
  keep-shows v t q a lt = own-stays (Keep v t) a (λ q. refl) q lt

  pub note-shows : (v t q : ℕ) → Allowed write T (Note v t) → q < (T v).volume.tracks → shown (after write T (Note v t)) v q ≡ shown T v q
  note-shows v t q a lt = own-stays (Note v t) a (λ q. refl) q lt

  pub fetch-shows : (v t q : ℕ) → Allowed write T (Fetch v t) → q < (T v).volume.tracks → shown (after write T (Fetch v t)) v q ≡ shown T v q
  fetch-shows v t q a lt = own-stays (Fetch v t) a (λ q. refl) q lt
