-- Each kind of move keeps what is recorded: what a target holds unchanged equals its source's.
use Rattle.std.proofs.Common.{ℕ, ◌≡◌, refl, ap, sym, ◌∙◌, Bool, true, false, cond, not, ◌&&◌, List, Some, None}
use Rattle.std.specs.FinSet.{contains, insert, empty}
use Rattle.dr_logic.specs.Tables.{at}
use Rattle.dr_model.specs.Layout.{Tracks, Fields}
use Rattle.dr_model.specs.Histories.{Write}
use Rattle.dr_model.specs.Relations.{is_bare, turned, given_up, is_whole}
use Rattle.dr_model.specs.Moves.{Move, Land, Overwrite, Keep, Note, Relate, Withdraw, Fetch, Resync, Reverse, Restore, Release, Store, Mirror, LandBoth, Flash, Commit, Revert, target}
use Rattle.dr_model.specs.Table.{Row, Table}
use Rattle.dr_model.specs.Rows.{after}
use Rattle.dr_model.specs.Laws.{Structure, Parts, Recorded, HoldsOld, source, fields}
use Rattle.dr_model.specs.Allowed.{Allowed, Kept}
use Rattle.dr_facts.proofs.Tables.{at_cases, linked-at}
use Rattle.dr_laws_sound.proofs.KeepsStructure.{no_loop, no_targets, ended-loop}
use Rattle.dr_laws_sound.proofs.KeepsParts.{unrelated}
use Rattle.dr_facts.proofs.Sets.{insert_other, not_in_empty, not_in_more}
use Rattle.dr_logic.proofs.Choices.{chosen}
use Rattle.dr_logic.proofs.Sets.{in_insert}
use Rattle.dr_facts.proofs.Tracks.{from_difference}
use Rattle.dr_logic.proofs.Truth.{false_true}
use Rattle.dr_logic.proofs.Options.{none_some}

module _ (write : ℕ → Write) (T : Table) (structure : Structure T) (parts : Parts T) (old : Recorded T) where
  -- what a changed row owes
  changed : (x : ℕ) (y : Row) → ((u : ℕ) → source y ≡ Some u → HoldsOld x y u (T u)) → (source y ≡ Some x → ⊥) → ((v : ℕ) → source (T v) ≡ Some x → HoldsOld v (T v) x y) → Recorded (at T x y)
  changed x y from loop onto = linked-at T x y source HoldsOld (λ u ne. from u) (λ h. absurd (loop h)) (λ v ne. onto v) old

  -- a track is stored at v, whose targets noted it
  onto-stored : (v t : ℕ) (b : List ℕ) → Kept T v t → (u : ℕ) → source (T u) ≡ Some v → (fields T u).recorded ≡ true → (fields T u).reversing ≡ false
      → (q : ℕ) → contains (fields T u).own q ≡ true → contains (fields T u).source_changes q ≡ false → contains (fields T u).target_changes q ≡ false → (T u).bytes q ≡ at (T v).bytes t b q
  onto-stored v t b all u h rec rev =
      at_cases (λ q c. contains (fields T u).own q ≡ true → contains (fields T u).source_changes q ≡ false → contains (fields T u).target_changes q ≡ false → (T u).bytes q ≡ c) (T v).bytes t b
      (λ o n z. absurd (false_true n (all.noted u h rec rev))) (λ q ne o n z. old u v h rec rev q o n z)

  -- a target takes a track, its source's or with a write
  module _ (v t : ℕ) (changes rewrites : Tracks) (b : List ℕ) (u : ℕ) (h : source (T v) ≡ Some u) (rec : (fields T v).recorded ≡ true) (rev : (fields T v).reversing ≡ false)
      (were : (q : ℕ) → contains changes q ≡ false → contains (fields T v).source_changes q ≡ false)
      (wrote : (q : ℕ) → contains rewrites q ≡ false → contains (fields T v).target_changes q ≡ false)
      (same : contains rewrites t ≡ false → b ≡ (T u).bytes t) where
    taken-here : (q : ℕ) → contains (insert (fields T v).own t) q ≡ true → contains changes q ≡ false → contains rewrites q ≡ false → at (T v).bytes t b q ≡ (T u).bytes q
    taken-here = at_cases (λ q c. contains (insert (fields T v).own t) q ≡ true → contains changes q ≡ false → contains rewrites q ≡ false → c ≡ (T u).bytes q) (T v).bytes t b
        (λ o n z. same z)
        (λ q ne o n z. old v u h rec rev q (sym (insert_other (fields T v).own t q ne) ∙ o) (were q n) (wrote q z))

  taken : (v t : ℕ) (changes rewrites : Tracks) (b : List ℕ)
      → ((q : ℕ) → contains changes q ≡ false → contains (fields T v).source_changes q ≡ false)
      → ((q : ℕ) → contains rewrites q ≡ false → contains (fields T v).target_changes q ≡ false)
      → ((u : ℕ) → source (T v) ≡ Some u → (fields T v).recorded ≡ true → contains rewrites t ≡ false → b ≡ (T u).bytes t)
      → (e : Bool) (u : ℕ) → cond (cond e false (fields T v).related) (Some (cond e 0 (fields T v).source)) None ≡ Some u → cond e false (fields T v).recorded ≡ true → cond e false (fields T v).reversing ≡ false
      → (q : ℕ) → contains (cond e empty (insert (fields T v).own t)) q ≡ true → contains (cond e empty changes) q ≡ false → contains (cond e empty rewrites) q ≡ false → at (T v).bytes t b q ≡ (T u).bytes q
  taken v t changes rewrites b were wrote same true u h = absurd cc
  taken v t changes rewrites b were wrote same false u h = λ rec rev. taken-here v t changes rewrites b u h rec rev were wrote (same u h rec)

  from-source : (v t : ℕ) (rewrites : Tracks) (u : ℕ) → source (T v) ≡ Some u → (fields T v).recorded ≡ true → contains rewrites t ≡ false → (T (fields T v).source).bytes t ≡ (T u).bytes t
  from-source v t rewrites u h rec n = ap (λ j. (T j).bytes t) (chosen (fields T v).related (fields T v).source u h).1

  -- a recorded target notes what is written on it
  written : {P : Type 0} (r : Bool) (s : Tracks) (t : ℕ) → r ≡ true → contains (cond r (insert s t) s) t ≡ false → P
  written true s t rec n = absurd (false_true n (in_insert s t))
  written false s t rec n = absurd cc

  -- while it is restored, or where it has ended, nothing is claimed
  reversed : {P : Type 0} (e related r : Bool) (o u : ℕ) → r ≡ true → cond (cond e false related) (Some (cond e 0 o)) None ≡ Some u → cond e false r ≡ false → P
  reversed true related r o u is h rev = absurd cc
  reversed false related r o u is h rev = false_true rev is

  pub kept-recorded : (m : Move) → Allowed write T m → Recorded (after write T m)
  kept-recorded (Land w v t) a = changed v _ (λ u h. none_some a.plain h) (λ h. none_some a.plain h) (λ u h. onto-stored v t _ a.receives.kept u h)
  kept-recorded (Restore v t u) a = let none = (structure.flash u v a.related).plain in changed v _ (λ u h. none_some none h) (λ h. none_some none h) (λ u h. onto-stored v t _ a.kept u h)
  kept-recorded (Overwrite w v t) a = let e : Bool = is_whole (T v).volume.tracks (insert (fields T v).own t) && not (fields T v).persistent in
      changed v _ (λ u. taken v t _ _ _ (λ q h. h) (λ q h. not_in_more (fields T v).recorded _ t q h) (λ u h rec n. written (fields T v).recorded _ t rec n) e u) (ended-loop write T structure v e) (λ u. no_targets write T structure v a.from u a.related)
  kept-recorded (Keep v t) a = let e : Bool = is_whole (T v).volume.tracks (insert (fields T v).own t) && not (fields T v).persistent in
      changed v _ (λ u. taken v t _ _ _ (λ q h. not_in_more (fields T v).recorded _ t q h) (λ q h. h) (from-source v t _) e u) (ended-loop write T structure v e) (λ u. no_targets write T structure v a.from u a.related)
  kept-recorded (Fetch v t) a = let e : Bool = is_whole (T v).volume.tracks (insert (fields T v).own t) && not (fields T v).persistent in
      changed v _ (λ u. taken v t _ _ _ (λ q h. h) (λ q h. h) (from-source v t _) e u) (ended-loop write T structure v e) (λ u. no_targets write T structure v a.from u a.related)
  kept-recorded (Note v t) a = changed v _ (λ u h rec rev q o n z. old v u h rec rev q o (not_in_more (fields T v).recorded _ t q n) z) (no_loop write T structure v) (λ u. old u v)
  kept-recorded (Relate v s c) a = changed v _ (λ u h rec rev q o. absurd (not_in_empty q o)) (λ h. a.apart (chosen true s v h).1) (λ u h. absurd (a.no_source u h))
  kept-recorded (Withdraw v) a = changed v _ (λ u h. absurd cc) (λ h. cc) (λ u. no_targets write T structure v a.from u a.related)
  kept-recorded (Resync v sequence) a = changed v _ (λ u h rec rev q o n z. let both = from_difference _ _ q o in let first = from_difference _ _ q both.0 in old v u h rec rev q first.0 first.1 both.1) (no_loop write T structure v) (λ u. no_targets write T structure v a.from u a.related)
  kept-recorded (Reverse v left) a = let f : Fields = fields T v in let e : Bool = is_bare (turned f).own in
      changed v _ (λ u h rec rev. reversed e f.related true f.source u refl h rev) (ended-loop write T structure v e) (λ u. no_targets write T structure v a.resync.from u a.resync.related)
  kept-recorded (Release v t) a = let f : Fields = fields T v in let e : Bool = is_bare (given_up f t).own in
      changed v _ (λ u h rec rev. reversed e f.related f.reversing f.source u a.reversing h rev) (ended-loop write T structure v e) (λ u. no_targets write T structure v a.from u a.related)
  kept-recorded (Store v t u last) a = let none = unrelated T parts v a.takes in changed v _ (λ u h. none_some none h) (λ h. none_some none h) (λ u h. onto-stored v t _ a.receives.kept u h)
  kept-recorded (Mirror v t u w) a = let none = unrelated T parts v a.takes in changed v _ (λ u h. none_some none h) (λ h. none_some none h) (λ u h. onto-stored v t _ a.receives.kept u h)
  kept-recorded (LandBoth w v t) a = let m = a.land in changed v _ (λ u h. none_some m.plain h) (λ h. none_some m.plain h) (λ u h. onto-stored v t _ m.receives.kept u h)
  kept-recorded (Flash v u a s n) b = changed v _ (λ x h rec rev q o n z. let both = from_difference _ _ q o in old v x h rec rev q (from_difference _ _ q both.0).0 n z) (no_loop write T structure v) (λ x. old x v)
  kept-recorded (Commit v a s n) b = changed v _ (λ u h rec rev q o n z. let r = (structure.reverts v b.revertible).unchanged q o in old v u h rec rev q o r.0 r.1) (no_loop write T structure v) (λ u. old u v)
  kept-recorded (Revert v a s n) b = changed v _ (λ u h rec rev q o n z. old v u h rec rev q ((structure.reverts v b.revertible).kept q o n z) n z) (no_loop write T structure v) (λ u. old u v)
  kept-recorded m a = let v : ℕ = target m in changed v _ (old v) (no_loop write T structure v) (λ u. old u v)
