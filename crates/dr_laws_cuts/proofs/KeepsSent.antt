-- Each kind of move keeps that what a primary that records has sent its secondary is as at the cut, and that a sealed secondary
-- holds the cut.
use Rattle.std.proofs.Common.{ℕ, ◌≡◌, ◌<◌, inl, inr, refl, ap, sym, ◌∙◌, Bool, true, false, List, Some, None, subst}
use Rattle.std.proofs.lemmas.Bool.Decides.{eqb_tells}
use Rattle.std.specs.Prelude.{is_some}
use Rattle.std.specs.FinSet.{contains, insert, union}
use Rattle.std.proofs.lemmas.Bool.{or_from}
use Rattle.dr_logic.specs.Tables.{at}
use Rattle.dr_model.specs.Layout.{is_part}
use Rattle.dr_model.specs.Histories.{Lists, Write}
use Rattle.dr_model.specs.Contents.{image}
use Rattle.dr_model.specs.Pairs.{is_kind}
use Rattle.dr_model.specs.declared.state.Part.TheVariants.{Global}
use Rattle.dr_model.specs.Moves.{Move, Land, Overwrite, Relate, Withdraw, Resync, Reverse, Restore, Release, Flash, Revert, Store, Strike, Suspend, MakeSecondary, MakePrimary, DropPrimary, DropSecondary, TakeOver, LeavePrimary, FallBack, Yield, Unsync, Mirror, LandBoth, Lift, Restart, Hold, Seal, Finish, RaiseAttempt, target}
use Rattle.dr_model.specs.Table.{Row, Table}
use Rattle.dr_model.specs.Rows.{after, next_row}
use Rattle.dr_model.specs.Laws.{Linked, SoundRows, its_primary, its_secondary, fields}
use Rattle.dr_model.specs.Allowed.{Allowed}
use Rattle.dr_model.specs.Cuts.{Cuts, CutLaws, SentAsAtCut, SealedAsAtCut, HoldsCut, IsCalm, next_cuts, at_cut}
use Rattle.dr_facts.proofs.Tables.{at_cases, linked-but, at2_other}
use Rattle.dr_laws_cuts.proofs.Still.{metro-still, target-second, due-equal, no-first-then, no-second-then, recorded}
use Rattle.dr_laws_cuts.proofs.KeepsCut.{held-other, held-here, fresh}
use Rattle.dr_logic.proofs.Choices.{chosen}
use Rattle.dr_facts.proofs.Tracks.{not_after, landed_out, lifted_out}
use Rattle.dr_logic.proofs.Truth.{false_true}
use Rattle.dr_facts.proofs.Parts.{global_metro, two-partners}

module _ (write : ℕ → Write) (T : Table) (rows : SoundRows T) (c : Cuts) (now : Lists) (old : CutLaws write c T) where
  abbrev row : Move → Row
  row m = next_row write m T

  -- what a changed row owes as a primary, and as a secondary
  sent : (m : Move) → Allowed write T m → ((u : ℕ) → its_secondary (row m) ≡ Some u → SentAsAtCut write c (target m) (row m) u (T u)) → ((u : ℕ) → its_secondary (T u) ≡ Some (target m) → SentAsAtCut write c u (T u) (target m) (row m))
      → Linked its_secondary (SentAsAtCut write c) (after write T m)
  sent m a from onto = linked-but T (target m) (row m) its_secondary (SentAsAtCut write c) (λ u ne. from u) (no-second-then T rows write m a) (λ u ne. onto u) (λ u ne x out. old.sent u x)

  -- a secondary stores a track that its primary had out of sync
  stored-there : (v t u : ℕ) (b : List ℕ) → its_primary (T v) ≡ Some u → contains (fields T u).out_of_sync t ≡ true → (x : ℕ) → its_secondary (T x) ≡ Some v → (fields T x).recording ≡ true → its_primary (T v) ≡ Some x
      → (q : ℕ) → q < (T x).volume.tracks → contains (fields T x).out_of_sync q ≡ false → at (T v).due t b q ≡ at_cut write c (fields T x).attempt x q
  stored-there v t u b takes out x h rec k =
      let same : u ≡ x = sym (chosen _ _ u takes).1 ∙ (chosen _ _ x k).1 in
      at_cases (λ q d. q < (T x).volume.tracks → contains (fields T x).out_of_sync q ≡ false → d ≡ at_cut write c (fields T x).attempt x q) (T v).due t b
      (λ lt i. false_true i (subst (λ j. contains (fields T j).out_of_sync t ≡ true) same out))
      (λ q ne lt i. old.sent x v h rec k q lt i)

  -- a track that is struck off is as at the cut on both sides
  struck-by : (v u t : ℕ) (b : Bool) → contains (fields T v).out_of_sync t ≡ b → its_secondary (T v) ≡ Some u → (fields T v).recording ≡ true → its_primary (T u) ≡ Some v → t < (T v).volume.tracks → (T u).due t ≡ (T v).due t
      → (T u).due t ≡ at_cut write c (fields T v).attempt v t
  struck-by v u t true is h rec k lt same = same ∙ old.unsent v rec t lt is
  struck-by v u t false is h rec k lt same = old.sent v u h rec k t lt is

  struck-there : (v t to : ℕ) → its_secondary (T v) ≡ Some to → (T to).bytes t ≡ (T v).bytes t → (u : ℕ) → its_secondary (T v) ≡ Some u → (fields T v).recording ≡ true → its_primary (T u) ≡ Some v → t < (T v).volume.tracks
      → (T u).due t ≡ at_cut write c (fields T v).attempt v t
  struck-there v t to sends equal u h rec k lt =
      let same : to ≡ u = sym (chosen _ _ to sends).1 ∙ (chosen _ _ u h).1 in
      struck-by v u t _ refl h rec k lt (due-equal T rows v u t h k lt (subst (λ j. (T j).bytes t ≡ (T v).bytes t) same equal))

  was-equal : (v u t : ℕ) → (fields T v).recording ≡ false → its_secondary (T v) ≡ Some u → its_primary (T u) ≡ Some v → t < (T v).volume.tracks → contains (fields T v).out_of_sync t ≡ false → (T u).due t ≡ (T v).due t
  was-equal v u t idle h k lt i = due-equal T rows v u t h k lt
      (sym (rows.pairs v u h (inl k) t lt (or_from _ _ i ((rows.recorders v).none idle t)) (two-partners (T u) v (rows.parts.fit u) k)))

  pub kept-sent : (m : Move) → Allowed write T m → IsCalm write now T m → Linked its_secondary (SentAsAtCut write (next_cuts now m c)) (after write T m)
  kept-sent (Hold v s n one) a calm = linked-but T v (row (Hold v s n one)) its_secondary (SentAsAtCut write (next_cuts now (Hold v s n one) c))
      (λ u ne h rec k t lt i. was-equal v u t a.idle h k lt i ∙ calm t lt ∙ sym (held-here c now v s n write t))
      (no-second-then T rows write (Hold v s n one) a)
      (λ u ne h rec k t lt i. old.sent u v h rec k t lt i ∙ sym (held-other c now v s n write (fields T u).attempt u t ne))
      (λ u ne x out h rec k t lt i. old.sent u x h rec k t lt i ∙ sym (held-other c now v s n write (fields T u).attempt u t ne))
  kept-sent (Land w v t) a calm = let f = fields T v in sent (Land w v t) a
      (λ u h rec k q lt i. old.sent v u h rec k q lt (ap (λ x. contains x q) (sym (landed_out (is_part f.primary) f.recording (insert f.out_of_sync t) f.out_of_sync rec)) ∙ i))
      (λ u h rec k. false_true a.first (chosen _ _ u k).0)
  kept-sent (Overwrite w v t) a calm = sent (Overwrite w v t) a (old.sent v) (λ u h rec k. target-second T rows v a.from u a.related k)
  kept-sent (Relate v s choices) a calm = sent (Relate v s choices) a (old.sent v) (λ u h rec k. false_true a.no_secondary (chosen _ _ u k).0)
  kept-sent (Withdraw v) a calm = sent (Withdraw v) a (old.sent v) (λ u h rec k. target-second T rows v a.from u a.related k)
  kept-sent (Resync v sequence) a calm = sent (Resync v sequence) a (old.sent v) (λ u h rec k. target-second T rows v a.from u a.related k)
  kept-sent (Reverse v left) a calm = sent (Reverse v left) a (old.sent v) (λ u h rec k. target-second T rows v a.resync.from u a.resync.related k)
  kept-sent (Release v t) a calm = sent (Release v t) a (old.sent v) (λ u h rec k. target-second T rows v a.from u a.related k)
  kept-sent (Flash v u p s n) a calm = sent (Flash v u p s n) a (old.sent v) (λ u h rec k. target-second T rows v a.resync.from u a.resync.related k)
  kept-sent (Revert v p s n) a calm = sent (Revert v p s n) a (old.sent v) (λ u h rec k. target-second T rows v a.from u a.related k)
  kept-sent (Restore v t u) a calm = sent (Restore v t u) a (λ x h rec. false_true a.idle rec) (λ x h rec k. false_true (rows.parts.free u v a.related a.reversing) (chosen _ _ x k).0)
  kept-sent (Store v t u last) a calm = let f = fields T v in sent (Store v t u last) a (λ x h rec k q lt i. old.sent v x h rec k q lt (ap (λ x. contains x q) (sym (landed_out (is_part f.primary) f.recording (insert f.out_of_sync t) f.out_of_sync rec)) ∙ i)) (λ x h rec k. stored-there v t u _ a.takes a.out x h rec k)
  kept-sent (Mirror v t u w) a calm = let f = fields T v in sent (Mirror v t u w) a (λ x h rec k q lt i. old.sent v x h rec k q lt (ap (λ x. contains x q) (sym (landed_out (is_part f.primary) f.recording (insert f.out_of_sync t) f.out_of_sync rec)) ∙ i)) (λ x h rec k. stored-there v t u _ a.takes a.out x h rec k)
  kept-sent (Strike v t last) a calm = sent (Strike v t last) a
      (λ u h rec k q lt i. elim (eqb_tells q t) [
        | inl is ↦ subst (λ j. (T u).due j ≡ at_cut write c (fields T v).attempt v j) (sym is.1) (struck-there v t a.to a.sends a.equal u h rec k (subst (λ j. j < (T v).volume.tracks) is.1 lt))
        | inr not ↦ old.sent v u h rec k q lt (not_after _ t q not.1 i)
      ])
      (λ u. old.sent u v)
  kept-sent (Suspend v busy) a calm = sent (Suspend v busy) a (λ u h rec. absurd cc) (λ u. old.sent u v)
  kept-sent (MakeSecondary v u kind state) a calm = sent (MakeSecondary v u kind state) a (old.sent v)
      (λ x h rec k. false_true (subst (λ j. is_part (fields T j).primary ≡ false) (chosen (is_part kind) u x k).1 a.from_first) (chosen _ _ v h).0)
  kept-sent (MakePrimary v u kind state full) a calm = sent (MakePrimary v u kind state full) a (λ x h rec. absurd cc) (λ x. old.sent x v)
  kept-sent (DropPrimary v) a calm = sent (DropPrimary v) a (λ u h. absurd cc) (λ u. old.sent u v)
  kept-sent (DropSecondary v) a calm = sent (DropSecondary v) a (old.sent v) (λ u h rec k. absurd cc)
  kept-sent (LeavePrimary v) a calm = sent (LeavePrimary v) a (old.sent v) (λ u h rec k. absurd cc)
  kept-sent (TakeOver v) a calm = sent (TakeOver v) a (λ u h rec. absurd cc) (λ u h rec k. absurd cc)
  kept-sent (FallBack v more state) a calm = sent (FallBack v more state) a (λ u h rec. absurd cc) (λ u. old.sent u v)
  kept-sent (Yield v u kind state) a calm = sent (Yield v u kind state) a (λ x h rec. absurd cc)
      (λ x h rec k. false_true (subst (λ j. (fields T j).recording ≡ false) (chosen (is_part kind) u x k).1 a.idle) rec)
  kept-sent (Restart v) a calm = sent (Restart v) a (λ u h rec. absurd cc) (λ u. old.sent u v)
  kept-sent (Finish v n) a calm = sent (Finish v n) a (λ u h rec. absurd cc) (λ u. old.sent u v)
  kept-sent (Lift v) a calm = let f = fields T v in sent (Lift v) a
      (λ u h rec k q lt i. let was = lifted_out f.coordination f.recording (union f.out_of_sync f.change_recording) f.out_of_sync rec in old.sent v u h was.0 k q lt (ap (λ x. contains x q) (sym was.1) ∙ i))
      (λ u. old.sent u v)
  kept-sent (Unsync v t) a calm = sent (Unsync v t) a (λ u h rec. metro-still T rows v a.metro rec) (λ u. old.sent u v)
  kept-sent (LandBoth w v t) a calm = sent (LandBoth w v t) a (λ u h rec. metro-still T rows v a.metro rec) (λ u h rec k. false_true a.land.first (chosen _ _ u k).0)
  kept-sent (RaiseAttempt v n) a calm = sent (RaiseAttempt v n) a (λ u h rec. false_true a.idle rec) (λ u. old.sent u v)
  kept-sent m a calm = sent m a (old.sent (target m)) (λ u. old.sent u (target m))

  sealed : (m : Move) → Allowed write T m → ((u : ℕ) → its_primary (row m) ≡ Some u → SealedAsAtCut write c (target m) (row m) u (T u)) → Linked its_primary (SealedAsAtCut write c) (after write T m)
  sealed m a from = linked-but T (target m) (row m) its_primary (SealedAsAtCut write c) (λ u ne. from u) (no-first-then T rows write m a) (λ u ne. old.sealed u (target m)) (λ u ne x out. old.sealed u x)

  -- an entry that a seal cites isn't the one that a hold makes
  under-hold : (v s n : ℕ) → c.by n v ≡ None → (r : Row) (x u : ℕ) → HoldsCut write c x r u → HoldsCut write (next_cuts now (Hold v s n true) c) x r u
  under-hold v s n none r x u o =
      let apart : (r.volume.fields.seal ≡ n → u ≡ v → ⊥) = λ e f. false_true (ap is_some none) (subst (λ j. is_some (c.by j v) ≡ true) e (subst (λ j. is_some (c.by r.volume.fields.seal j) ≡ true) f o.cut)) in
      record {
        cut = ap is_some (at2_other c.by n v (Some s) r.volume.fields.seal u apart) ∙ o.cut;
        tracks = λ t lt. o.tracks t lt ∙ sym (ap (λ f. image write (f t)) (at2_other c.held n v (now v) r.volume.fields.seal u apart));
      }

  -- a secondary is sealed with what its primary has sent it
  sealed-now : (v u n : ℕ) (r : Row) → its_secondary (T u) ≡ Some v → its_primary (T v) ≡ Some u → (fields T u).recording ≡ true → (fields T u).attempt ≡ n → ((t : ℕ) → contains (fields T u).out_of_sync t ≡ false)
      → (x : ℕ) → its_primary (T v) ≡ Some x → (is_some (c.by n x) ≡ true) × ((t : ℕ) → t < (T v).volume.tracks → (T v).due t ≡ at_cut write c n x t)
  sealed-now v u n r sends takes rec number drained x k =
      let same : u ≡ x = sym (chosen _ _ u takes).1 ∙ (chosen _ _ x k).1 in
      subst (λ j. (is_some (c.by n j) ≡ true) × ((t : ℕ) → t < (T v).volume.tracks → (T v).due t ≡ at_cut write c n j t)) same (
        subst (λ j. is_some (c.by j u) ≡ true) number ((old.cut u).recorder rec),
        λ t lt. old.sent u v sends rec takes t (subst (λ j. t < j) (sym (rows.parts.secondary u v sends).same_tracks) lt) (drained t) ∙ ap (λ j. at_cut write c j u t) number,
      )

  pub kept-sealed : (m : Move) → Allowed write T m → Linked its_primary (SealedAsAtCut write (next_cuts now m c)) (after write T m)
  kept-sealed (Hold v s n one) a = let none = fresh write T rows c now old.cut v n a in
      linked-but T v (row (Hold v s n one)) its_primary (SealedAsAtCut write (next_cuts now (Hold v s n one) c))
      (λ u ne h nz. let o = under-hold v s n none (T v) v u (old.sealed v u h nz) in record { cut = o.cut; tracks = o.tracks })
      (no-first-then T rows write (Hold v s n one) a)
      (λ u ne h nz. under-hold v s n none (T u) u v (old.sealed u v h nz))
      (λ u ne x out h nz. under-hold v s n none (T u) u x (old.sealed u x h nz))
  kept-sealed (Seal v u s n) a = sealed (Seal v u s n) a (λ x h nz.
      let rec = recorded n (fields T u).attempt (fields T u).recording a.records in
      let both = sealed-now v u n (row (Seal v u s n)) a.sends a.takes rec.0 rec.1 a.drained x h in
      record { cut = both.0; tracks = both.1 })
  kept-sealed (Land w v t) a = sealed (Land w v t) a (λ u h nz. false_true a.first (chosen _ _ u h).0)
  kept-sealed (Overwrite w v t) a = sealed (Overwrite w v t) a (λ u h nz. target-second T rows v a.from u a.related h)
  kept-sealed (Relate v s choices) a = sealed (Relate v s choices) a (λ u h nz. false_true a.no_secondary (chosen _ _ u h).0)
  kept-sealed (Withdraw v) a = sealed (Withdraw v) a (λ u h nz. target-second T rows v a.from u a.related h)
  kept-sealed (Resync v sequence) a = sealed (Resync v sequence) a (λ u h nz. target-second T rows v a.from u a.related h)
  kept-sealed (Reverse v left) a = sealed (Reverse v left) a (λ u h nz. target-second T rows v a.resync.from u a.resync.related h)
  kept-sealed (Release v t) a = sealed (Release v t) a (λ u h nz. target-second T rows v a.from u a.related h)
  kept-sealed (Flash v u p s n) a = sealed (Flash v u p s n) a (λ u h nz. target-second T rows v a.resync.from u a.resync.related h)
  kept-sealed (Revert v p s n) a = sealed (Revert v p s n) a (λ u h nz. target-second T rows v a.from u a.related h)
  kept-sealed (Restore v t u) a = sealed (Restore v t u) a (λ x h nz. false_true (rows.parts.free u v a.related a.reversing) (chosen _ _ x h).0)
  kept-sealed (Store v t u last) a = sealed (Store v t u last) a (λ x h nz. absurd (nz refl))
  kept-sealed (Mirror v t u w) a = sealed (Mirror v t u w) a (λ x h nz. global_metro _ (ap (λ k. is_kind Global k) (sym (rows.seals.kinds v u a.takes a.sends)) ∙ rows.seals.global v nz) a.metro)
  kept-sealed (MakeSecondary v u kind state) a = sealed (MakeSecondary v u kind state) a (λ x h nz. absurd (nz refl))
  kept-sealed (DropSecondary v) a = sealed (DropSecondary v) a (λ x h. absurd cc)
  kept-sealed (LeavePrimary v) a = sealed (LeavePrimary v) a (λ x h. absurd cc)
  kept-sealed (TakeOver v) a = sealed (TakeOver v) a (λ x h. absurd cc)
  kept-sealed (Yield v u kind state) a = sealed (Yield v u kind state) a (λ x h nz. absurd (nz refl))
  kept-sealed (LandBoth w v t) a = sealed (LandBoth w v t) a (λ u h nz. false_true a.land.first (chosen _ _ u h).0)
  kept-sealed m a = sealed m a (λ u h nz. let o = old.sealed (target m) u h nz in record { cut = o.cut; tracks = o.tracks })
