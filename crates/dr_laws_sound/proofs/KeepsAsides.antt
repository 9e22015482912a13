-- Each kind of move keeps what a revertible target would show if it went back.
use Rattle.std.proofs.Common.{ℕ, ◌≡◌, Bool, true, not, ◌&&◌, Some}
use Rattle.std.specs.FinSet.{insert}
use Rattle.dr_logic.specs.Tables.{at}
use Rattle.dr_model.specs.Histories.{Write}
use Rattle.dr_model.specs.Relations.{is_bare, turned, given_up, is_whole}
use Rattle.dr_model.specs.Moves.{Move, Land, Overwrite, Keep, Note, Relate, Withdraw, Fetch, Resync, Reverse, Restore, Release, Store, Mirror, LandBoth, Flash, Commit, Revert, target}
use Rattle.dr_model.specs.Table.{Row, Table}
use Rattle.dr_model.specs.Rows.{after}
use Rattle.dr_model.specs.Laws.{Structure, Parts, Images, Asides, ShowsAside, source, fields}
use Rattle.dr_model.specs.Allowed.{Allowed}
use Rattle.dr_facts.proofs.Tables.{linked-at}
use Rattle.dr_laws_sound.proofs.KeepsStructure.{no_loop, no_targets, revertible-not, ended-loop}
use Rattle.dr_laws_sound.proofs.KeepsParts.{unrelated}
use Rattle.dr_facts.proofs.Sets.{not_turned}
use Rattle.dr_logic.proofs.Choices.{chosen}
use Rattle.dr_logic.proofs.Truth.{false_true}
use Rattle.dr_logic.proofs.Options.{none_some}

module _ (write : ℕ → Write) (T : Table) (structure : Structure T) (parts : Parts T) (images : Images T) (old : Asides T) where
  -- what a changed row owes
  changed : (x : ℕ) (y : Row) → ((u : ℕ) → source y ≡ Some u → ShowsAside x y u (T u)) → (source y ≡ Some x → ⊥) → ((v : ℕ) → source (T v) ≡ Some x → ShowsAside v (T v) x y) → Asides (at T x y)
  changed x y from loop onto = linked-at T x y source ShowsAside (λ u ne. from u) (λ h. absurd (loop h)) (λ v ne. onto v) old

  pub kept-asides : (m : Move) → Allowed write T m → Asides (after write T m)
  kept-asides (Land w v t) a = changed v _ (λ u h. none_some a.plain h) (λ h. none_some a.plain h) (λ u h e. false_true (a.receives.kept.settled u h) e)
  kept-asides (Restore v t u) a = let none = (structure.flash u v a.related).plain in changed v _ (λ u h. none_some none h) (λ h. none_some none h) (λ u h e. false_true (a.kept.settled u h) e)
  kept-asides (Overwrite w v t) a = let e : Bool = is_whole (T v).volume.tracks (insert (fields T v).own t) && not (fields T v).persistent in
      changed v _ (λ u h r. not_turned e (fields T v).revertible a.settled r) (ended-loop write T structure v e) (λ u. no_targets write T structure v a.from u a.related)
  kept-asides (Keep v t) a = let e : Bool = is_whole (T v).volume.tracks (insert (fields T v).own t) && not (fields T v).persistent in
      changed v _ (λ u h r. not_turned e (fields T v).revertible a.settled r) (ended-loop write T structure v e) (λ u. no_targets write T structure v a.from u a.related)
  kept-asides (Fetch v t) a = let e : Bool = is_whole (T v).volume.tracks (insert (fields T v).own t) && not (fields T v).persistent in
      changed v _ (λ u h r. not_turned e (fields T v).revertible a.settled r) (ended-loop write T structure v e) (λ u. no_targets write T structure v a.from u a.related)
  kept-asides (Note v t) a = changed v _ (λ u h r. false_true a.settled r) (no_loop write T structure v) (λ u. no_targets write T structure v a.from u a.related)
  kept-asides (Relate v s c) a = changed v _ (λ u h r. absurd cc) (λ h. a.apart (chosen true s v h).1) (λ u h. absurd (a.no_source u h))
  kept-asides (Withdraw v) a = changed v _ (λ u h. absurd cc) (λ h. cc) (λ u. no_targets write T structure v a.from u a.related)
  kept-asides (Resync v sequence) a = changed v _ (λ u h r. false_true a.settled r) (no_loop write T structure v) (λ u. no_targets write T structure v a.from u a.related)
  kept-asides (Reverse v left) b = let a = b.resync in let e : Bool = is_bare (turned (fields T v)).own in
      changed v _ (λ u h r. not_turned e (fields T v).revertible a.settled r) (ended-loop write T structure v e) (λ u. no_targets write T structure v a.from u a.related)
  kept-asides (Release v t) a = let e : Bool = is_bare (given_up (fields T v) t).own in
      changed v _ (λ u h r. not_turned e (fields T v).revertible (revertible-not (fields T v).revertible (λ i. (structure.reverts v i).forward) a.reversing) r) (ended-loop write T structure v e) (λ u. no_targets write T structure v a.from u a.related)
  kept-asides (Store v t u last) a = let none = unrelated T parts v a.takes in changed v _ (λ u h. none_some none h) (λ h. none_some none h) (λ u h e. false_true (a.receives.kept.settled u h) e)
  kept-asides (Mirror v t u w) a = let none = unrelated T parts v a.takes in changed v _ (λ u h. none_some none h) (λ h. none_some none h) (λ u h e. false_true (a.receives.kept.settled u h) e)
  kept-asides (LandBoth w v t) a = let m = a.land in changed v _ (λ u h. none_some m.plain h) (λ h. none_some m.plain h) (λ u h e. false_true (m.receives.kept.settled u h) e)
  kept-asides (Flash v u a s n) b = changed v _ (λ x h r q lt. images.seen v x h q lt) (no_loop write T structure v) (λ x. no_targets write T structure v b.resync.from x b.resync.related)
  kept-asides (Commit v a s n) b = changed v _ (λ u h r. absurd cc) (no_loop write T structure v) (λ u. no_targets write T structure v b.from u b.related)
  kept-asides (Revert v a s n) b = changed v _ (λ u h r. absurd cc) (no_loop write T structure v) (λ u. no_targets write T structure v b.from u b.related)
  kept-asides m a = let v : ℕ = target m in changed v _ (old v) (no_loop write T structure v) (λ u. old u v)
