-- A move that may come leaves what a volume holds that records and is held by coordination.
use Rattle.std.proofs.Common.{ℕ, ◌≡◌, ◌⊎◌, inl, inr, ◌∙◌, true, false, Some, subst}
use Rattle.std.proofs.lemmas.Bool.{cases_Bool}
use Rattle.dr_model.specs.Histories.{histories}
use Rattle.dr_model.specs.Control.{World}
use Rattle.dr_model.specs.Moves.{Move, Land, Overwrite, Relate, Withdraw, Resync, Reverse, Restore, Release, Store, Mirror, LandBoth, Flash, Revert}
use Rattle.dr_model.specs.Table.{Table, table}
use Rattle.dr_model.specs.Laws.{SoundRows, source, fields}
use Rattle.dr_model.specs.Allowed.{Allowed, Ready}
use Rattle.dr_laws_cuts.proofs.Still.{first, target-still}
use Rattle.dr_laws_closed.specs.Next.{Untouched}
use Rattle.dr_logic.proofs.Truth.{false_true}

module _ (T : Table) (rows : SoundRows T) where
  -- a target isn't held
  pub target-free : (v u : ℕ) → source (T v) ≡ Some u → (fields T v).coordination ≡ false
  target-free v u is = by (cases_Bool (fields T v).coordination)
    where
      by : ((fields T v).coordination ≡ true) ⊎ ((fields T v).coordination ≡ false) → (fields T v).coordination ≡ false
      by (inl h) = target-still T rows v u is ((rows.recorders v).holds h)
      by (inr h) = h

pub untouched : (w : World) → SoundRows (table w) → (m : Move) → Allowed (histories w.events).write (table w) m → Ready w m → (v : ℕ) → (fields (table w) v).recording ≡ true → (fields (table w) v).coordination ≡ true → Untouched (histories w.events).write m v
untouched w rows (Land n x t) a ready v rec held = λ e. false_true a.receives.free (subst (λ j. (fields (table w) j).coordination ≡ true) (e ∙ ready.volume) held)
untouched w rows (LandBoth n x t) a ready v rec held = λ e. false_true a.land.receives.free (subst (λ j. (fields (table w) j).coordination ≡ true) (e ∙ ready.volume) held)
untouched w rows (Overwrite n x t) a ready v rec held = λ e. target-still (table w) rows x a.from a.related (subst (λ j. (fields (table w) j).recording ≡ true) (e ∙ ready.volume) rec)
untouched w rows (Relate x s choices) a ready v rec held = λ e. false_true a.no_primary (first (table w) rows x (subst (λ j. (fields (table w) j).recording ≡ true) e rec))
untouched w rows (Withdraw x) a ready v rec held = λ e. target-still (table w) rows x a.from a.related (subst (λ j. (fields (table w) j).recording ≡ true) e rec)
untouched w rows (Resync x sequence) a ready v rec held = λ e. target-still (table w) rows x a.from a.related (subst (λ j. (fields (table w) j).recording ≡ true) e rec)
untouched w rows (Reverse x left) a ready v rec held = λ e. target-still (table w) rows x a.resync.from a.resync.related (subst (λ j. (fields (table w) j).recording ≡ true) e rec)
untouched w rows (Restore x t u) a ready v rec held = λ e. false_true a.idle (subst (λ j. (fields (table w) j).recording ≡ true) e rec)
untouched w rows (Release x t) a ready v rec held = λ e. target-still (table w) rows x a.from a.related (subst (λ j. (fields (table w) j).recording ≡ true) e rec)
untouched w rows (Store x t u last) a ready v rec held = λ e. false_true a.receives.free (subst (λ j. (fields (table w) j).coordination ≡ true) e held)
untouched w rows (Mirror x t u n) a ready v rec held = λ e. false_true a.receives.free (subst (λ j. (fields (table w) j).coordination ≡ true) e held)
untouched w rows (Flash x u p s n) a ready v rec held = λ e. target-still (table w) rows x a.resync.from a.resync.related (subst (λ j. (fields (table w) j).recording ≡ true) e rec)
untouched w rows (Revert x p s n) a ready v rec held = λ e. target-still (table w) rows x a.from a.related (subst (λ j. (fields (table w) j).recording ≡ true) e rec)
untouched w rows m a ready v rec held = tt
