-- Each kind of move keeps that a primary that records was cut for its attempt, and that what it still has to send is as at that cut.
use Rattle.std.proofs.Common.{ℕ, ◌≡◌, ◌≢◌, ◌<◌, ◌≤◌, max, refl, ap, sym, ◌∙◌, arith, true, false, List, Option, Some, None, subst}
use Rattle.std.specs.Prelude.{is_some}
use Rattle.std.specs.FinSet.{contains, insert, union}
use Rattle.dr_logic.specs.Tables.{at, at2}
use Rattle.dr_model.specs.Layout.{Tracks, is_part}
use Rattle.dr_model.specs.Histories.{Lists, Write}
use Rattle.dr_model.specs.Contents.{image}
use Rattle.dr_model.specs.Moves.{Move, Land, Overwrite, Relate, Withdraw, Resync, Reverse, Restore, Release, Flash, Revert, Store, Strike, Suspend, MakePrimary, DropPrimary, TakeOver, FallBack, Yield, Unsync, Mirror, LandBoth, Lift, Restart, Hold, Finish, RaiseAttempt, target}
use Rattle.dr_model.specs.Table.{Row, Table}
use Rattle.dr_model.specs.Rows.{after, next_row}
use Rattle.dr_model.specs.Laws.{Each, SoundRows, fields}
use Rattle.dr_model.specs.Allowed.{Allowed, MayHold}
use Rattle.dr_model.specs.Cuts.{Cuts, CutsFit, RowCuts, UnsentAsAtCut, IsCalm, next_cuts, at_cut}
use Rattle.dr_facts.proofs.Tables.{at_cases, each-but, at2_cases, at2_other}
use Rattle.dr_laws_cuts.proofs.Sets.{none_by}
use Rattle.dr_laws_cuts.proofs.Still.{first, target-still, metro-still}
use Rattle.dr_model.proofs.LawfulLemmas.{removed}
use Rattle.dr_facts.proofs.Tracks.{landed_out, lifted_out}
use Rattle.dr_logic.proofs.Truth.{false_true}
use Rattle.dr_logic.proofs.Tables.{at2_same}

below-max : (k a n : ℕ) → k ≤ a → k ≤ max a n
below-max k a n low = grind (arith)

-- entries of the tables that a hold of v leaves as they are
module _ (c : Cuts) (now : Lists) (v s n : ℕ) where
  pub by-other : (k u : ℕ) → u ≢ v → at2 c.by n v (Some s) k u ≡ c.by k u
  by-other k u ne = at2_other c.by n v (Some s) k u (λ e f. ne f)

  pub held-other : (write : ℕ → Write) (k u t : ℕ) → u ≢ v → image write (at2 c.held n v (now v) k u t) ≡ image write (c.held k u t)
  held-other write k u t ne = ap (λ f. image write (f t)) (at2_other c.held n v (now v) k u (λ e f. ne f))

  pub held-here : (write : ℕ → Write) (t : ℕ) → image write (at2 c.held n v (now v) n v t) ≡ image write (now v t)
  held-here write t = ap (λ f. image write (f t)) (at2_same c.held n v (now v))

module _ (write : ℕ → Write) (T : Table) (rows : SoundRows T) (c : Cuts) (now : Lists) where
  abbrev row : Move → Row
  row m = next_row write m T

  module _ (old : Each (RowCuts c) T) where
    -- a hold makes the first entry of its number
    pub fresh : (v n : ℕ) → MayHold T v n → c.by n v ≡ None
    fresh v n a = none_by _ (λ h. let low = (old v).low n h in let newer = a.newer in absurd (omega arith))

    stands : (m : Move) → RowCuts c (target m) (row m) → Each (RowCuts c) (after write T m)
    stands m here = each-but T (target m) (row m) (RowCuts c) here (λ u ne. old u)

    -- it doesn't record from then on
    silent : (v : ℕ) → CutsFit (λ n. c.by n v) false (fields T v).attempt
    silent v = let o = old v in record { recorder = λ h. absurd cc; positive = o.positive; low = o.low }

    held-then : (v s n : ℕ) → MayHold T v n → CutsFit (λ k. at2 c.by n v (Some s) k v) true n
    held-then v s n a = let newer = a.newer in record {
      recorder = λ h. ap is_some (at2_same c.by n v (Some s));
      positive = λ k. at2_cases (λ k x y. is_some y ≡ true → 0 < k) c.by n v (Some s) (λ h. omega arith) (λ k x ne h. (old x).positive k h) k v;
      low = λ k h. at2_cases (λ k x y. x ≡ v → is_some y ≡ true → k ≤ n) c.by n v (Some s) (λ e h. omega arith)
          (λ k x ne e h. let low : k ≤ (fields T v).attempt = subst (λ j. k ≤ (fields T j).attempt) e ((old x).low k h) in omega arith) k v refl h;
    }

    pub kept-cut : (m : Move) → Allowed write T m → Each (RowCuts (next_cuts now m c)) (after write T m)
    kept-cut (Hold v s n one) a = each-but T v (row (Hold v s n one)) (RowCuts (next_cuts now (Hold v s n one) c)) (held-then v s n a)
        (λ u ne. subst (λ (by : ℕ → Option ℕ). CutsFit by (fields T u).recording (fields T u).attempt) (sym (λ i k. by-other c now v s n k u ne i)) (old u))
    kept-cut (Suspend v busy) a = stands (Suspend v busy) (silent v)
    kept-cut (MakePrimary v u kind state full) a = stands (MakePrimary v u kind state full) (silent v)
    kept-cut (DropPrimary v) a = stands (DropPrimary v) (silent v)
    kept-cut (TakeOver v) a = stands (TakeOver v) (silent v)
    kept-cut (FallBack v more state) a = stands (FallBack v more state) (silent v)
    kept-cut (Yield v u kind state) a = stands (Yield v u kind state) (silent v)
    kept-cut (Restart v) a = stands (Restart v) (silent v)
    kept-cut (Lift v) a = let o = old v in let f = fields T v in
        stands (Lift v) (record { recorder = λ h. o.recorder (lifted_out f.coordination f.recording f.out_of_sync f.out_of_sync h).0; positive = o.positive; low = o.low })
    kept-cut (Finish v n) a = let o = old v in
        stands (Finish v n) (record { recorder = λ h. absurd cc; positive = o.positive; low = λ k h. below-max k (fields T v).attempt n (o.low k h) })
    kept-cut (RaiseAttempt v n) a = let o = old v in let higher = a.higher in
        stands (RaiseAttempt v n) (record { recorder = λ h. false_true a.idle h; positive = o.positive; low = λ k h. let low = o.low k h in omega arith })
    kept-cut m a = stands m (old (target m))

  module _ (old : Each (UnsentAsAtCut write c) T) where
    unsent : (m : Move) → UnsentAsAtCut write c (target m) (row m) → Each (UnsentAsAtCut write c) (after write T m)
    unsent m here = each-but T (target m) (row m) (UnsentAsAtCut write c) here (λ u ne. old u)

    -- a write lands on a track that isn't out of sync
    landed-there : (v t : ℕ) (b : List ℕ) (s : Tracks) → (fields T v).recording ≡ true → s ≡ (fields T v).out_of_sync → contains (fields T v).out_of_sync t ≡ false → (q : ℕ) → q < (T v).volume.tracks → contains s q ≡ true
        → at (T v).due t b q ≡ at_cut write c (fields T v).attempt v q
    landed-there v t b s rec same out =
        at_cases (λ q d. q < (T v).volume.tracks → contains s q ≡ true → d ≡ at_cut write c (fields T v).attempt v q) (T v).due t b
        (λ low i. false_true out (ap (λ x. contains x t) (sym same) ∙ i))
        (λ q ne low i. old v rec q low (ap (λ x. contains x q) (sym same) ∙ i))

    pub kept-unsent : (m : Move) → Allowed write T m → IsCalm write now T m → Each (UnsentAsAtCut write (next_cuts now m c)) (after write T m)
    kept-unsent (Hold v s n one) a calm = each-but T v (row (Hold v s n one)) (UnsentAsAtCut write (next_cuts now (Hold v s n one) c))
        (λ rec t lt i. calm t lt ∙ sym (held-here c now v s n write t))
        (λ u ne rec t lt i. old u rec t lt i ∙ sym (held-other c now v s n write (fields T u).attempt u t ne))
    kept-unsent (Land w v t) a calm = let f = fields T v in
        unsent (Land w v t) (λ rec. landed-there v t _ _ rec (landed_out (is_part f.primary) f.recording (insert f.out_of_sync t) f.out_of_sync rec) (a.receives.sent rec))
    kept-unsent (Overwrite w v t) a calm = unsent (Overwrite w v t) (λ rec. target-still T rows v a.from a.related rec)
    kept-unsent (Relate v s choices) a calm = unsent (Relate v s choices) (λ rec. false_true a.no_primary (first T rows v rec))
    kept-unsent (Withdraw v) a calm = unsent (Withdraw v) (λ rec. target-still T rows v a.from a.related rec)
    kept-unsent (Resync v sequence) a calm = unsent (Resync v sequence) (λ rec. target-still T rows v a.from a.related rec)
    kept-unsent (Reverse v left) a calm = unsent (Reverse v left) (λ rec. target-still T rows v a.resync.from a.resync.related rec)
    kept-unsent (Release v t) a calm = unsent (Release v t) (λ rec. target-still T rows v a.from a.related rec)
    kept-unsent (Restore v t u) a calm = unsent (Restore v t u) (λ rec. false_true a.idle rec)
    kept-unsent (Store v t u last) a calm = let f = fields T v in unsent (Store v t u last) (λ rec. landed-there v t _ _ rec (landed_out (is_part f.primary) f.recording (insert f.out_of_sync t) f.out_of_sync rec) (a.receives.sent rec))
    kept-unsent (Mirror v t u w) a calm = let f = fields T v in unsent (Mirror v t u w) (λ rec. landed-there v t _ _ rec (landed_out (is_part f.primary) f.recording (insert f.out_of_sync t) f.out_of_sync rec) (a.receives.sent rec))
    kept-unsent (Flash v u p s n) a calm = unsent (Flash v u p s n) (λ rec. target-still T rows v a.resync.from a.resync.related rec)
    kept-unsent (Revert v p s n) a calm = unsent (Revert v p s n) (λ rec. target-still T rows v a.from a.related rec)
    kept-unsent (Strike v t last) a calm = unsent (Strike v t last) (λ rec q lt i. old v rec q lt (removed _ t q i))
    kept-unsent (Suspend v busy) a calm = unsent (Suspend v busy) (λ rec. absurd cc)
    kept-unsent (MakePrimary v u kind state full) a calm = unsent (MakePrimary v u kind state full) (λ rec. absurd cc)
    kept-unsent (DropPrimary v) a calm = unsent (DropPrimary v) (λ rec. absurd cc)
    kept-unsent (TakeOver v) a calm = unsent (TakeOver v) (λ rec. absurd cc)
    kept-unsent (FallBack v more state) a calm = unsent (FallBack v more state) (λ rec. absurd cc)
    kept-unsent (Yield v u kind state) a calm = unsent (Yield v u kind state) (λ rec. absurd cc)
    kept-unsent (Restart v) a calm = unsent (Restart v) (λ rec. absurd cc)
    kept-unsent (Finish v n) a calm = unsent (Finish v n) (λ rec. absurd cc)
    kept-unsent (Lift v) a calm = let f = fields T v in
        unsent (Lift v) (λ rec q lt i. let was = lifted_out f.coordination f.recording (union f.out_of_sync f.change_recording) f.out_of_sync rec in old v was.0 q lt (ap (λ x. contains x q) (sym was.1) ∙ i))
    kept-unsent (Unsync v t) a calm = unsent (Unsync v t) (λ rec. metro-still T rows v a.metro rec)
    kept-unsent (LandBoth w v t) a calm = unsent (LandBoth w v t) (λ rec. metro-still T rows v a.metro rec)
    kept-unsent (RaiseAttempt v n) a calm = unsent (RaiseAttempt v n) (λ rec. false_true a.idle rec)
    kept-unsent m a calm = unsent m (old (target m))
