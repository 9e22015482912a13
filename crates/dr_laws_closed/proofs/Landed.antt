-- A write that landed in a stop isn't one of a volume that is held, wherever a move that may come ends.
use Rattle.std.proofs.Common.{ℕ, ◌≡◌, ◌⊎◌, inl, inr, refl, sym, Bool, true, false, cond, List, [], ◌∷◌, filter, subst}
use Rattle.std.proofs.lemmas.Bool.{cases_Bool}
use Rattle.dr_logic.specs.Tables.{at}
use Rattle.dr_model.specs.Layout.{Fields}
use Rattle.dr_model.specs.Histories.{histories}
use Rattle.dr_model.specs.Control.{Pending, World}
use Rattle.dr_model.specs.Moves.{Move, Land, Overwrite, LandBoth, is_write, is_other, marked, settled, settled_in_stop}
use Rattle.dr_model.specs.Entries.{fields_at}
use Rattle.dr_model.specs.Table.{table}
use Rattle.dr_model.specs.Laws.{SoundRows, AllPending}
use Rattle.dr_model.specs.Allowed.{Coming, Allowed, Ready}
use Rattle.dr_facts.proofs.Tables.{at_cases}
use Rattle.dr_laws_closed.specs.Closing.{AllFields, LandedFree}
use Rattle.dr_laws_closed.proofs.Pendings.{each-on, both-on, all-filter}
use Rattle.dr_laws_closed.proofs.Lists.{target-free}
use Rattle.dr_logic.proofs.Truth.{false_true}

free-marked : (f : AllFields) (n : ℕ) (ps : List Pending) → LandedFree f ps → AllPending (λ p. (f p.volume).coordination ≡ false) (filter (is_write n) ps) → LandedFree f (marked n ps)
free-marked f n [] free coming = tt
free-marked f n (p ∷ ps) free coming = by (free-marked f n ps free.1) (is_write n p) coming
  where
    by : (AllPending (λ p. (f p.volume).coordination ≡ false) (filter (is_write n) ps) → LandedFree f (marked n ps)) → (b : Bool) → AllPending (λ p. (f p.volume).coordination ≡ false) (cond b (p ∷ filter (is_write n) ps) (filter (is_write n) ps))
        → LandedFree f (cond b (record p { landed = true }) p ∷ marked n ps)
    by more true c = ((λ l. c.0), more c.1)
    by more false c = (free.0, more c)

still-free : {b d : Bool} → (d ≡ true → b ≡ true) → b ≡ false → d ≡ false
still-free {b} {d} was off = by (cases_Bool d)
  where
    by : (d ≡ true) ⊎ (d ≡ false) → d ≡ false
    by (inl h) = false_true off (was h)
    by (inr h) = h

-- other fields of one volume, which isn't held but where it was
pub free-goes : (f : AllFields) (v : ℕ) (g : Fields) (ps : List Pending) → (g.coordination ≡ true → (f v).coordination ≡ true) → LandedFree f ps → LandedFree (at f v g) ps
free-goes f v g ps was free = each-on (λ p old l. at_cases (λ u (y : Fields). (f u).coordination ≡ false → y.coordination ≡ false) f v g (λ off. still-free was off) (λ u ne off. off) p.volume (old l)) ps free

-- a volume that is held from then on, on whose server no write has landed
pub free-held : (f : AllFields) (v : ℕ) (g : Fields) (server : ℕ → ℕ) (ps : List Pending) → AllPending (λ p. p.landed ≡ true → server p.volume ≡ server v → ⊥) ps → LandedFree f ps → LandedFree (at f v g) ps
free-held f v g server ps idle free =
    both-on (λ p none old l. at_cases (λ u (y : Fields). (server u ≡ server v → ⊥) → (f u).coordination ≡ false → y.coordination ≡ false) f v g (λ none off. absurd (none refl)) (λ u ne none off. off) p.volume (none l) (old l)) ps idle free

module _ (w : World) (free : LandedFree (fields_at w.control) w.control.pending) where
  pub settled-free : (m : Move) → LandedFree (fields_at w.control) (settled m w.control.pending)
  settled-free (Land n v t) = all-filter _ (is_other n) w.control.pending free
  settled-free (Overwrite n v t) = all-filter _ (is_other n) w.control.pending free
  settled-free (LandBoth n v t) = all-filter _ (is_other n) w.control.pending free
  settled-free m = free

  marks : (n v t : ℕ) → (fields_at w.control v).coordination ≡ false → AllPending (Coming v t) (filter (is_write n) w.control.pending) → LandedFree (fields_at w.control) (marked n w.control.pending)
  marks n v t off coming = free-marked (fields_at w.control) n w.control.pending free (each-on (λ p c. subst (λ j. (fields_at w.control j).coordination ≡ false) (sym c.volume) off) _ coming)

  pub stopped-free : SoundRows (table w) → (m : Move) → Allowed (histories w.events).write (table w) m → Ready w m → LandedFree (fields_at w.control) (settled_in_stop m w.control.pending)
  stopped-free rows (Land n v t) a ready = marks n v t a.receives.free ready.coming
  stopped-free rows (Overwrite n v t) a ready = marks n v t (target-free (table w) rows v a.from a.related) ready.coming
  stopped-free rows (LandBoth n v t) a ready = marks n v t a.land.receives.free ready.coming
  stopped-free rows m a ready = free
