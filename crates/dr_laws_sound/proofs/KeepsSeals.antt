-- Each kind of move keeps what pairs, seals and flashed targets say together.
use Rattle.std.proofs.Common.{ℕ, ◌≡◌, arith, refl, ap, sym, ◌∙◌, subst, Bool, true, false, not, ◌&&◌, Some}
use Rattle.std.specs.FinSet.{contains, insert, union}
use Rattle.dr_model.specs.Layout.{is_part}
use Rattle.dr_model.specs.Histories.{Write}
use Rattle.dr_model.specs.Pairs.{is_kind, is_metro}
use Rattle.dr_model.specs.Relations.{is_bare, is_whole, turned, given_up}
use Rattle.dr_model.specs.declared.state.Part.TheVariants.{Global}
use Rattle.dr_model.specs.Moves.{Move, Land, Overwrite, Keep, Relate, Withdraw, Fetch, Reverse, Restore, Release, Store, Strike, Suspend, MakeSecondary, MakePrimary, DropPrimary, DropSecondary, TakeOver, LeavePrimary, FallBack, Yield, Unsync, LandBoth, Lift, Restart, Hold, Seal, Finish, RaiseAttempt, Flash, Commit, Revert, target, Mirror}
use Rattle.dr_model.specs.Table.{Row, Table}
use Rattle.dr_model.specs.Rows.{after, next_row}
use Rattle.dr_model.specs.Laws.{Each, Linked, Structure, Parts, RowParts, Recorders, Seals, OneKind, SealedGlobal, AllSent, NoMetro, NoneRestored, NothingLeft, source, its_primary, its_secondary, fields}
use Rattle.dr_model.specs.Allowed.{Allowed}
use Rattle.dr_facts.proofs.Tables.{at_cases, each-at, linked-at}
use Rattle.dr_laws_sound.proofs.KeepsStructure.{no_loop, no_targets, revertible-not, ended-loop}
use Rattle.dr_laws_sound.proofs.KeepsParts.{kept-parts, no_partner, part-shape}
use Rattle.dr_facts.proofs.Sets.{still_related, not_turned}
use Rattle.dr_model.proofs.LawfulLemmas.{removed}
use Rattle.dr_logic.proofs.Choices.{chosen}
use Rattle.dr_logic.proofs.Truth.{contrary, false_true}
use Rattle.dr_facts.proofs.Tracks.{landed_out, lifted_out}
use Rattle.dr_facts.proofs.Parts.{global-part, no-metro, global_metro}
use Rattle.dr_laws_cuts.proofs.Still.{recorded}
use Rattle.dr_logic.proofs.Tables.{at_same}

-- ---- parts

module _ (write : ℕ → Write) (T : Table) (structure : Structure T) (parts : Parts T) (recorders : Recorders T) (old : Seals T) where
  abbrev row : Move → Row
  row m = next_row write m T

  -- no volume is its own partner after a move, either
  no-first-then : {P : Type 0} (m : Move) → Allowed write T m → its_primary (row m) ≡ Some (target m) → P
  no-first-then m a h = no_partner T parts (target m) ((part-shape T parts write structure m a).first (target m) h)

  no-second-then : {P : Type 0} (m : Move) → Allowed write T m → its_secondary (row m) ≡ Some (target m) → P
  no-second-then m a h = no_partner T parts (target m) ((part-shape T parts write structure m a).second (target m) h)

  first : (v : ℕ) → (fields T v).recording ≡ true → is_part (fields T v).primary ≡ true
  first v rec = global-part _ ((recorders v).global rec)

  metro-still : {P : Type 0} (v : ℕ) → is_metro (fields T v).primary ≡ true → (fields T v).recording ≡ true → P
  metro-still v is rec = global_metro _ ((recorders v).global rec) is

  -- ---- pairs are of one kind

  kinds : (m : Move) → Allowed write T m → ((u : ℕ) → its_primary (row m) ≡ Some u → OneKind (target m) (row m) u (T u)) → ((u : ℕ) → its_primary (T u) ≡ Some (target m) → OneKind u (T u) (target m) (row m)) → Linked its_primary OneKind (after write T m)
  kinds m a from onto = linked-at T (target m) (row m) its_primary OneKind (λ u ne. from u) (no-first-then m a) (λ u ne. onto u) old.kinds

  kept-kinds : (m : Move) → Allowed write T m → Linked its_primary OneKind (after write T m)
  kept-kinds (MakeSecondary v u kind state) a = kinds (MakeSecondary v u kind state) a
      (λ x h k. false_true (subst (λ j. is_part (fields T j).primary ≡ false) (chosen (is_part kind) u x h).1 a.from_first) (chosen _ _ v k).0)
      (λ x h k. false_true a.first (chosen _ _ x k).0)
  kept-kinds (MakePrimary v u kind state full) a = kinds (MakePrimary v u kind state full) a
      (old.kinds v)
      (λ x h k. subst (λ j. (fields T j).secondary ≡ kind) (chosen (is_part kind) u x k).1 a.alike)
  kept-kinds (DropPrimary v) a = kinds (DropPrimary v) a (old.kinds v) (λ x h k. absurd cc)
  kept-kinds (DropSecondary v) a = kinds (DropSecondary v) a (λ x h. absurd cc) (λ x. old.kinds x v)
  kept-kinds (LeavePrimary v) a = kinds (LeavePrimary v) a (λ x h. absurd cc) (λ x. old.kinds x v)
  kept-kinds (TakeOver v) a = kinds (TakeOver v) a (λ x h. absurd cc) (λ x h k. absurd (parts.one_way v x k h))
  kept-kinds (Yield v u kind state) a = kinds (Yield v u kind state) a
      (λ x h k. subst (λ j. kind ≡ (fields T j).primary) (chosen (is_part kind) u x h).1 (sym a.alike)) (λ x h k. absurd cc)
  kept-kinds m a = kinds m a (old.kinds (target m)) (λ x. old.kinds x (target m))

  -- ---- only a secondary of Global Copy is sealed

  sealed : (m : Move) → SealedGlobal (row m) → Each (λ v r. SealedGlobal r) (after write T m)
  sealed m here = each-at T (target m) (row m) (λ v r. SealedGlobal r) here old.global

  kept-global : (m : Move) → Allowed write T m → Each (λ v r. SealedGlobal r) (after write T m)
  kept-global (Seal v u s n) a = sealed (Seal v u s n) (λ nz.
      let rec = (recorded n (fields T u).attempt (fields T u).recording a.records).0 in
      ap (is_kind Global) (old.kinds v u a.takes a.sends) ∙ (recorders u).global rec)
  kept-global (MakeSecondary v u kind state) a = sealed (MakeSecondary v u kind state) (λ nz. absurd (nz refl))
  kept-global (Store v t u last) a = sealed (Store v t u last) (λ nz. absurd (nz refl))
  kept-global (DropSecondary v) a = sealed (DropSecondary v) (λ nz. absurd (nz refl))
  kept-global (LeavePrimary v) a = sealed (LeavePrimary v) (λ nz. absurd (nz refl))
  kept-global (TakeOver v) a = sealed (TakeOver v) (λ nz. absurd (nz refl))
  kept-global (Yield v u kind state) a = sealed (Yield v u kind state) (λ nz. absurd (nz refl))
  kept-global m a = sealed m (old.global (target m))

  -- ---- where its secondary is sealed, a primary that records has nothing left to send

  sent : (m : Move) → Allowed write T m → ((u : ℕ) → its_secondary (row m) ≡ Some u → AllSent (target m) (row m) u (T u)) → ((u : ℕ) → its_secondary (T u) ≡ Some (target m) → AllSent u (T u) (target m) (row m)) → Linked its_secondary AllSent (after write T m)
  sent m a from onto = linked-at T (target m) (row m) its_secondary AllSent (λ u ne. from u) (no-second-then m a) (λ u ne. onto u) old.sent

  kept-sent : (m : Move) → Allowed write T m → Linked its_secondary AllSent (after write T m)
  kept-sent (Land w v t) a = let f = fields T v in sent (Land w v t) a
      (λ u h k rec nz is q. ap (λ s. contains s q) (landed_out (is_part f.primary) f.recording (insert f.out_of_sync t) f.out_of_sync rec) ∙ old.sent v u h k rec nz is q) (λ u. old.sent u v)
  kept-sent (Restore v t u) a = sent (Restore v t u) a (λ x h k rec. false_true a.idle rec) (λ x. old.sent x v)
  kept-sent (Store v t u last) a = let f = fields T v in sent (Store v t u last) a (λ x h k rec nz is q. ap (λ s. contains s q) (landed_out (is_part f.primary) f.recording (insert f.out_of_sync t) f.out_of_sync rec) ∙ old.sent v x h k rec nz is q) (λ x h k rec nz. absurd (nz refl))
  kept-sent (Mirror v t u w) a = let f = fields T v in sent (Mirror v t u w) a (λ x h k rec nz is q. ap (λ s. contains s q) (landed_out (is_part f.primary) f.recording (insert f.out_of_sync t) f.out_of_sync rec) ∙ old.sent v x h k rec nz is q) (λ x. old.sent x v)
  kept-sent (Strike v t last) a = sent (Strike v t last) a (λ u h k rec nz is q. contrary _ _ (removed (fields T v).out_of_sync t q) (old.sent v u h k rec nz is q)) (λ u. old.sent u v)
  kept-sent (Suspend v busy) a = sent (Suspend v busy) a (λ u h k rec. absurd cc) (λ u. old.sent u v)
  kept-sent (MakeSecondary v u kind state) a = sent (MakeSecondary v u kind state) a (old.sent v) (λ x h k rec nz. absurd (nz refl))
  kept-sent (MakePrimary v u kind state full) a = sent (MakePrimary v u kind state full) a (λ x h k rec. absurd cc) (λ x. old.sent x v)
  kept-sent (DropPrimary v) a = sent (DropPrimary v) a (λ u h. absurd cc) (λ u. old.sent u v)
  kept-sent (DropSecondary v) a = sent (DropSecondary v) a (old.sent v) (λ u h k. absurd cc)
  kept-sent (LeavePrimary v) a = sent (LeavePrimary v) a (old.sent v) (λ u h k. absurd cc)
  kept-sent (TakeOver v) a = sent (TakeOver v) a (λ u h k rec. absurd cc) (λ u h k. absurd cc)
  kept-sent (FallBack v more state) a = sent (FallBack v more state) a (λ u h k rec. absurd cc) (λ u. old.sent u v)
  kept-sent (Yield v u kind state) a = sent (Yield v u kind state) a (λ x h. absurd cc) (λ x h k rec nz. absurd (nz refl))
  kept-sent (Unsync v t) a = sent (Unsync v t) a (λ u h k rec. metro-still v a.metro rec) (λ u. old.sent u v)
  kept-sent (LandBoth w v t) a = sent (LandBoth w v t) a (λ u h k rec. metro-still v a.metro rec) (λ u. old.sent u v)
  kept-sent (Lift v) a = let f = fields T v in sent (Lift v) a
      (λ u h k rec nz is q. let was = lifted_out f.coordination f.recording (union f.out_of_sync f.change_recording) f.out_of_sync rec in ap (λ s. contains s q) was.1 ∙ old.sent v u h k was.0 nz is q) (λ u. old.sent u v)
  kept-sent (Restart v) a = sent (Restart v) a (λ u h k rec. absurd cc) (λ u. old.sent u v)
  kept-sent (Hold v s n one) a = sent (Hold v s n one) a (λ u h k rec nz is. absurd (a.unsealed u h k is)) (λ u. old.sent u v)
  kept-sent (Seal v u s n) a = sent (Seal v u s n) a (old.sent v)
      (λ x h k rec nz is q. subst (λ j. contains (fields T j).out_of_sync q ≡ false) (sym (chosen _ _ u a.takes).1 ∙ (chosen _ _ x k).1) (a.drained q))
  kept-sent (Finish v n) a = sent (Finish v n) a (λ u h k rec. absurd cc) (λ u. old.sent u v)
  kept-sent (RaiseAttempt v n) a = sent (RaiseAttempt v n) a (λ u h k rec. false_true a.idle rec) (λ u. old.sent u v)
  kept-sent m a = sent m a (old.sent (target m)) (λ u. old.sent u (target m))

  -- ---- the source of a revertible target

  ends-whole : (v t : ℕ) → Bool
  ends-whole v t = is_whole (T v).volume.tracks (insert (fields T v).own t) && not (fields T v).persistent

  metro : (m : Move) → ((u : ℕ) → source (row m) ≡ Some u → NoMetro (target m) (row m) u (T u)) → (source (row m) ≡ Some (target m) → ⊥) → ((u : ℕ) → source (T u) ≡ Some (target m) → NoMetro u (T u) (target m) (row m)) → Linked source NoMetro (after write T m)
  metro m from loop onto = linked-at T (target m) (row m) source NoMetro (λ u ne. from u) (λ h. absurd (loop h)) (λ u ne. onto u) old.no_metro

  kept-metro : (m : Move) → Allowed write T m → Linked source NoMetro (after write T m)
  kept-metro (Overwrite w v t) a = metro (Overwrite w v t) (λ u h r. not_turned (is_whole (T v).volume.tracks (insert (fields T v).own t) && not (fields T v).persistent) (fields T v).revertible a.settled r) (ended-loop write T structure v _) (λ u. no_targets write T structure v a.from u a.related)
  kept-metro (Keep v t) a = metro (Keep v t) (λ u h r. not_turned (is_whole (T v).volume.tracks (insert (fields T v).own t) && not (fields T v).persistent) (fields T v).revertible a.settled r) (ended-loop write T structure v _) (λ u. no_targets write T structure v a.from u a.related)
  kept-metro (Fetch v t) a = metro (Fetch v t) (λ u h r. not_turned (is_whole (T v).volume.tracks (insert (fields T v).own t) && not (fields T v).persistent) (fields T v).revertible a.settled r) (ended-loop write T structure v _) (λ u. no_targets write T structure v a.from u a.related)
  kept-metro (Relate v s c) a = metro (Relate v s c) (λ u h r. absurd cc) (λ h. a.apart (chosen true s v h).1) (λ u h. absurd (a.no_source u h))
  kept-metro (Withdraw v) a = metro (Withdraw v) (λ u h. absurd cc) (λ h. cc) (λ u. no_targets write T structure v a.from u a.related)
  kept-metro (Reverse v left) b = let a = b.resync in metro (Reverse v left) (λ u h r. not_turned (is_bare (turned (fields T v)).own) (fields T v).revertible a.settled r) (ended-loop write T structure v _) (λ u. no_targets write T structure v a.from u a.related)
  kept-metro (Release v t) a = metro (Release v t) (λ u h r. not_turned (is_bare (given_up (fields T v) t).own) (fields T v).revertible (revertible-not (fields T v).revertible (λ i. (structure.reverts v i).forward) a.reversing) r) (ended-loop write T structure v _) (λ u. no_targets write T structure v a.from u a.related)
  kept-metro (MakeSecondary v u kind state) a = metro (MakeSecondary v u kind state) (λ x. old.no_metro v x) (no_loop write T structure v) (λ x h r. false_true (a.settled x h) r)
  kept-metro (DropSecondary v) a = metro (DropSecondary v) (λ x. old.no_metro v x) (no_loop write T structure v) (λ x h r. refl)
  kept-metro (LeavePrimary v) a = metro (LeavePrimary v) (λ x. old.no_metro v x) (no_loop write T structure v) (λ x h r. refl)
  kept-metro (TakeOver v) a = metro (TakeOver v) (λ x. old.no_metro v x) (no_loop write T structure v) (λ x h r. refl)
  kept-metro (Yield v u kind state) a = metro (Yield v u kind state) (λ x. old.no_metro v x) (no_loop write T structure v) (λ x h r. false_true (a.settled x h) r)
  kept-metro (Flash v u p s n) b = metro (Flash v u p s n)
      (λ x h r. subst (λ j. is_metro (fields T j).secondary ≡ false) (sym b.from ∙ sym (chosen (fields T v).related (fields T v).source b.resync.from b.resync.related).1 ∙ (chosen (fields T v).related (fields T v).source x h).1)
      (no-metro (fields T u).secondary (old.global u (λ e. let newer = b.newer in let is = b.sealed in absurd (omega (arith, e))))))
      (no_loop write T structure v) (λ x. no_targets write T structure v b.resync.from x b.resync.related)
  kept-metro (Commit v p s n) b = metro (Commit v p s n) (λ u h r. absurd cc) (no_loop write T structure v) (λ u. no_targets write T structure v b.from u b.related)
  kept-metro (Revert v p s n) b = metro (Revert v p s n) (λ u h r. absurd cc) (no_loop write T structure v) (λ u. no_targets write T structure v b.from u b.related)
  kept-metro m a = metro m (old.no_metro (target m)) (no_loop write T structure (target m)) (λ u. old.no_metro u (target m))

  -- ---- no target is restored onto it

  restored-at : (m : Move) → ((v b : ℕ) → source (row m) ≡ Some v → source (T b) ≡ Some v → (row m).volume.fields.reversing ≡ true → (fields T b).revertible ≡ true → ⊥)
      → ((v a : ℕ) → source (T a) ≡ Some v → source (row m) ≡ Some v → (fields T a).reversing ≡ true → (row m).volume.fields.revertible ≡ true → ⊥)
      → ((row m).volume.fields.reversing ≡ true → (row m).volume.fields.revertible ≡ true → ⊥) → NoneRestored (after write T m)
  restored-at m here there both v a b =
      at_cases (λ a r. source r ≡ Some v → source (after write T m b) ≡ Some v → r.volume.fields.reversing ≡ true → (fields (after write T m) b).revertible ≡ true → ⊥) T (target m) (row m)
      (λ h. at_cases (λ b r. source r ≡ Some v → (row m).volume.fields.reversing ≡ true → r.volume.fields.revertible ≡ true → ⊥) T (target m) (row m) (λ k p q. both p q) (λ b ne k p q. here v b h k p q) b)
      (λ a ne h. at_cases (λ b r. source r ≡ Some v → (fields T a).reversing ≡ true → r.volume.fields.revertible ≡ true → ⊥) T (target m) (row m) (λ k p q. there v a h k p q) (λ b ne k p q. old.restored v a b h k p q) b)
      a

  reversed-not : (v : ℕ) → (fields T v).reversing ≡ true → (fields T v).revertible ≡ true → ⊥
  reversed-not v p q = false_true ((structure.reverts v q).forward) p

  kept-restored : (m : Move) → Allowed write T m → NoneRestored (after write T m)
  kept-restored (Overwrite w v t) a = restored-at (Overwrite w v t) (λ s b h k p. not_turned (is_whole (T v).volume.tracks (insert (fields T v).own t) && not (fields T v).persistent) (fields T v).reversing a.forward p)
      (λ s b h k p q. not_turned (is_whole (T v).volume.tracks (insert (fields T v).own t) && not (fields T v).persistent) (fields T v).revertible a.settled q) (λ p q. not_turned (is_whole (T v).volume.tracks (insert (fields T v).own t) && not (fields T v).persistent) (fields T v).reversing a.forward p)
  kept-restored (Keep v t) a = restored-at (Keep v t) (λ s b h k p. not_turned (is_whole (T v).volume.tracks (insert (fields T v).own t) && not (fields T v).persistent) (fields T v).reversing a.forward p)
      (λ s b h k p q. not_turned (is_whole (T v).volume.tracks (insert (fields T v).own t) && not (fields T v).persistent) (fields T v).revertible a.settled q) (λ p q. not_turned (is_whole (T v).volume.tracks (insert (fields T v).own t) && not (fields T v).persistent) (fields T v).reversing a.forward p)
  kept-restored (Fetch v t) a = restored-at (Fetch v t) (λ s b h k p. not_turned (is_whole (T v).volume.tracks (insert (fields T v).own t) && not (fields T v).persistent) (fields T v).reversing a.forward p)
      (λ s b h k p q. not_turned (is_whole (T v).volume.tracks (insert (fields T v).own t) && not (fields T v).persistent) (fields T v).revertible a.settled q) (λ p q. not_turned (is_whole (T v).volume.tracks (insert (fields T v).own t) && not (fields T v).persistent) (fields T v).reversing a.forward p)
  kept-restored (Relate v s c) a = restored-at (Relate v s c) (λ x b h k p. absurd cc) (λ x b h k p q. absurd cc) (λ p q. absurd cc)
  kept-restored (Withdraw v) a = restored-at (Withdraw v) (λ x b h k p. absurd cc) (λ x b h k p q. absurd cc) (λ p q. absurd cc)
  kept-restored (Reverse v left) b = let a = b.resync in let e : Bool = is_bare (turned (fields T v)).own in restored-at (Reverse v left)
      (λ s x h k p q. b.settled x (k ∙ ap (λ j. Some j) (sym (chosen (fields T v).related (fields T v).source s (still_related e (fields T v).related (fields T v).source s h)).1 ∙ (chosen (fields T v).related (fields T v).source a.from a.related).1)) q)
      (λ s x h k p q. not_turned e (fields T v).revertible a.settled q) (λ p q. not_turned e (fields T v).revertible a.settled q)
  kept-restored (Release v t) a = let e : Bool = is_bare (given_up (fields T v) t).own in let none = revertible-not (fields T v).revertible (λ i. (structure.reverts v i).forward) a.reversing in restored-at (Release v t)
      (λ s b h k p q. old.restored s v b (still_related e (fields T v).related (fields T v).source s h) k a.reversing q)
      (λ s b h k p q. not_turned e (fields T v).revertible none q) (λ p q. not_turned e (fields T v).revertible none q)
  kept-restored (Flash v u p s n) b = restored-at (Flash v u p s n) (λ x y h k r. false_true b.resync.forward r)
      (λ x y h k r q. false_true (parts.free y u (h ∙ ap (λ j. Some j) (sym (chosen (fields T v).related (fields T v).source x k).1 ∙ (chosen (fields T v).related (fields T v).source b.resync.from b.resync.related).1 ∙ b.from)) r) (chosen _ _ p b.takes).0)
      (λ r q. false_true b.resync.forward r)
  kept-restored (Commit v p s n) b = restored-at (Commit v p s n) (λ x y h k r. old.restored x v y h k r) (λ x y h k r q. absurd cc) (λ r q. absurd cc)
  kept-restored (Revert v p s n) b = restored-at (Revert v p s n) (λ x y h k r. old.restored x v y h k r) (λ x y h k r q. absurd cc) (λ r q. absurd cc)
  kept-restored m a = restored-at m (λ x y h k r. old.restored x (target m) y h k r) (λ x y h k r. old.restored x y (target m) h k r) (reversed-not (target m))

  -- ---- a primary that records has nothing left to send to it

  module _ (m : Move) (a : Allowed write T m) where
    -- the row that the move leaves is no target with a part in a pair
    left-parts : (is_part (row m).volume.fields.primary ≡ true → (row m).volume.fields.related ≡ true → ⊥) × (is_part (row m).volume.fields.secondary ≡ true → (row m).volume.fields.related ≡ true → ⊥)
    left-parts =
        let one : RowParts (row m) = subst (λ (r : Row). RowParts r) (at_same T (target m) (row m)) ((kept-parts T parts write structure m a).fit (target m)) in
        ((λ p r. false_true (one.no_primary r) p), (λ p r. false_true (one.no_secondary r) p))

    flashed-at : ((u x : ℕ) → its_secondary (row m) ≡ Some u → its_primary (T u) ≡ Some (target m) → source (T x) ≡ Some u → (row m).volume.fields.recording ≡ true → (fields T x).revertible ≡ true → (t : ℕ) → contains (row m).volume.fields.out_of_sync t ≡ false)
        → ((v x : ℕ) → its_secondary (T v) ≡ Some (target m) → its_primary (row m) ≡ Some v → source (T x) ≡ Some (target m) → (fields T v).recording ≡ true → (fields T x).revertible ≡ true → (t : ℕ) → contains (fields T v).out_of_sync t ≡ false)
        → ((v u : ℕ) → its_secondary (T v) ≡ Some u → its_primary (T u) ≡ Some v → source (row m) ≡ Some u → (fields T v).recording ≡ true → (row m).volume.fields.revertible ≡ true → (t : ℕ) → contains (fields T v).out_of_sync t ≡ false)
        → (source (row m) ≡ Some (target m) → ⊥) → NothingLeft (after write T m)
    flashed-at one two three loop v u x =
        at_cases (λ v r. its_secondary r ≡ Some u → its_primary (after write T m u) ≡ Some v → source (after write T m x) ≡ Some u → r.volume.fields.recording ≡ true → (fields (after write T m) x).revertible ≡ true → (t : ℕ) → contains r.volume.fields.out_of_sync t ≡ false) T (target m) (row m)
        (at_cases (λ u r. its_secondary (row m) ≡ Some u → its_primary r ≡ Some (target m) → source (after write T m x) ≡ Some u → (row m).volume.fields.recording ≡ true → (fields (after write T m) x).revertible ≡ true → (t : ℕ) → contains (row m).volume.fields.out_of_sync t ≡ false) T (target m) (row m)
        (λ h. no-second-then m a h)
        (λ u ne h p. at_cases (λ x r. source r ≡ Some u → (row m).volume.fields.recording ≡ true → r.volume.fields.revertible ≡ true → (t : ℕ) → contains (row m).volume.fields.out_of_sync t ≡ false) T (target m) (row m)
        (λ s. absurd (left-parts.0 (chosen _ _ u h).0 (chosen _ _ u s).0))
        (λ x ne s. one u x h p s) x) u)
        (λ v ne. at_cases (λ u r. its_secondary (T v) ≡ Some u → its_primary r ≡ Some v → source (after write T m x) ≡ Some u → (fields T v).recording ≡ true → (fields (after write T m) x).revertible ≡ true → (t : ℕ) → contains (fields T v).out_of_sync t ≡ false) T (target m) (row m)
        (λ h p. at_cases (λ x r. source r ≡ Some (target m) → (fields T v).recording ≡ true → r.volume.fields.revertible ≡ true → (t : ℕ) → contains (fields T v).out_of_sync t ≡ false) T (target m) (row m)
        (λ s. absurd (loop s))
        (λ x ne s. two v x h p s) x)
        (λ u ne h p. at_cases (λ x r. source r ≡ Some u → (fields T v).recording ≡ true → r.volume.fields.revertible ≡ true → (t : ℕ) → contains (fields T v).out_of_sync t ≡ false) T (target m) (row m)
        (λ s. three v u h p s)
        (λ x ne s. old.flashed v u x h p s) x) u)
        v

  -- what a move of the primary leaves, where the others stay; of a target that isn't revertible then; and of any other volume
  sends-flashed : (m : Move) (a : Allowed write T m) → ((u x : ℕ) → its_secondary (row m) ≡ Some u → its_primary (T u) ≡ Some (target m) → source (T x) ≡ Some u → (row m).volume.fields.recording ≡ true → (fields T x).revertible ≡ true → (t : ℕ) → contains (row m).volume.fields.out_of_sync t ≡ false)
      → its_primary (row m) ≡ its_primary (T (target m)) → source (row m) ≡ source (T (target m)) → (row m).volume.fields.revertible ≡ (fields T (target m)).revertible → NothingLeft (after write T m)
  sends-flashed m a one takes from rev = flashed-at m a one
      (λ v x h p s. old.flashed v (target m) x h (sym takes ∙ p) s) (λ v u h p s rec r. old.flashed v u (target m) h p (sym from ∙ s) rec (sym rev ∙ r)) (λ s. no_loop write T structure (target m) (sym from ∙ s))

  target-flashed : (m : Move) (a : Allowed write T m) → (from : ℕ) → source (T (target m)) ≡ Some from → its_secondary (row m) ≡ its_secondary (T (target m)) → its_primary (row m) ≡ its_primary (T (target m)) → (row m).volume.fields.recording ≡ (fields T (target m)).recording → (row m).volume.fields.out_of_sync ≡ (fields T (target m)).out_of_sync
      → (source (row m) ≡ Some (target m) → ⊥)
      → ((v u : ℕ) → its_secondary (T v) ≡ Some u → its_primary (T u) ≡ Some v → source (row m) ≡ Some u → (fields T v).recording ≡ true → (row m).volume.fields.revertible ≡ true → (t : ℕ) → contains (fields T v).out_of_sync t ≡ false) → NothingLeft (after write T m)
  target-flashed m a from related sends takes rec out loop three = flashed-at m a
      (λ u x h p s r e t. ap (λ q. contains q t) out ∙ old.flashed (target m) u x (sym sends ∙ h) p s (sym rec ∙ r) e t) (λ v x h p s. no_targets write T structure (target m) from x related s) three loop

  kept-flashed : (m : Move) → Allowed write T m → NothingLeft (after write T m)
  kept-flashed (Land w v t) a = let f = fields T v in sends-flashed (Land w v t) a
      (λ u x h p s rec e q. ap (λ s. contains s q) (landed_out (is_part f.primary) f.recording (insert f.out_of_sync t) f.out_of_sync rec) ∙ old.flashed v u x h p s rec e q) refl refl refl
  kept-flashed (Mirror v t u w) a = let f = fields T v in sends-flashed (Mirror v t u w) a
      (λ y x h p s rec e q. ap (λ s. contains s q) (landed_out (is_part f.primary) f.recording (insert f.out_of_sync t) f.out_of_sync rec) ∙ old.flashed v y x h p s rec e q) refl refl refl
  kept-flashed (Store v t u last) a = let f = fields T v in sends-flashed (Store v t u last) a
      (λ y x h p s rec e q. ap (λ s. contains s q) (landed_out (is_part f.primary) f.recording (insert f.out_of_sync t) f.out_of_sync rec) ∙ old.flashed v y x h p s rec e q) refl refl refl
  kept-flashed (Overwrite w v t) a = target-flashed (Overwrite w v t) a a.from a.related refl refl refl refl (ended-loop write T structure v _) (λ x u h p s r e. not_turned (is_whole (T v).volume.tracks (insert (fields T v).own t) && not (fields T v).persistent) (fields T v).revertible a.settled e)
  kept-flashed (Keep v t) a = target-flashed (Keep v t) a a.from a.related refl refl refl refl (ended-loop write T structure v _) (λ x u h p s r e. not_turned (is_whole (T v).volume.tracks (insert (fields T v).own t) && not (fields T v).persistent) (fields T v).revertible a.settled e)
  kept-flashed (Fetch v t) a = target-flashed (Fetch v t) a a.from a.related refl refl refl refl (ended-loop write T structure v _) (λ x u h p s r e. not_turned (is_whole (T v).volume.tracks (insert (fields T v).own t) && not (fields T v).persistent) (fields T v).revertible a.settled e)
  kept-flashed (Relate v s c) a = flashed-at (Relate v s c) a (λ u x. old.flashed v u x) (λ x y h p k. absurd (a.no_source y k)) (λ x u h p k r e. absurd cc) (λ h. a.apart (chosen true s v h).1)
  kept-flashed (Withdraw v) a = target-flashed (Withdraw v) a a.from a.related refl refl refl refl (λ h. cc) (λ x u h p s r e. absurd cc)
  kept-flashed (Reverse v left) b = let a = b.resync in target-flashed (Reverse v left) b a.from a.related refl refl refl refl (ended-loop write T structure v _) (λ x u h p s r e. not_turned (is_bare (turned (fields T v)).own) (fields T v).revertible a.settled e)
  kept-flashed (Release v t) a = target-flashed (Release v t) a a.from a.related refl refl refl refl (ended-loop write T structure v _)
      (λ x u h p s r e. not_turned (is_bare (given_up (fields T v) t).own) (fields T v).revertible (revertible-not (fields T v).revertible (λ i. (structure.reverts v i).forward) a.reversing) e)
  kept-flashed (Restore v t u) a = sends-flashed (Restore v t u) a (λ x y h p s rec. false_true a.idle rec) refl refl refl
  kept-flashed (Strike v t last) a = sends-flashed (Strike v t last) a (λ u x h p s rec e q. contrary _ _ (removed (fields T v).out_of_sync t q) (old.flashed v u x h p s rec e q)) refl refl refl
  kept-flashed (Suspend v busy) a = sends-flashed (Suspend v busy) a (λ u x h p s rec. absurd cc) refl refl refl
  kept-flashed (MakeSecondary v u kind state) a = flashed-at (MakeSecondary v u kind state) a (λ x y. old.flashed v x y) (λ x y h p s r e. false_true (a.settled y s) e) (λ x y h p s r e. old.flashed x y v h p s r e) (no_loop write T structure v)
  kept-flashed (MakePrimary v u kind state full) a = flashed-at (MakePrimary v u kind state full) a (λ x y h p s rec. absurd cc) (λ x y h p s. old.flashed x v y h p s) (λ x y h p s. old.flashed x y v h p s) (no_loop write T structure v)
  kept-flashed (DropPrimary v) a = flashed-at (DropPrimary v) a (λ u x h. absurd cc) (λ x y h p s. old.flashed x v y h p s) (λ x y h p s. old.flashed x y v h p s) (no_loop write T structure v)
  kept-flashed (DropSecondary v) a = flashed-at (DropSecondary v) a (λ u x. old.flashed v u x) (λ x y h p. absurd cc) (λ x y h p s. old.flashed x y v h p s) (no_loop write T structure v)
  kept-flashed (LeavePrimary v) a = flashed-at (LeavePrimary v) a (λ u x. old.flashed v u x) (λ x y h p. absurd cc) (λ x y h p s. old.flashed x y v h p s) (no_loop write T structure v)
  kept-flashed (TakeOver v) a = flashed-at (TakeOver v) a (λ u x h p s rec. absurd cc) (λ x y h p. absurd cc) (λ x y h p s. old.flashed x y v h p s) (no_loop write T structure v)
  kept-flashed (FallBack v more state) a = sends-flashed (FallBack v more state) a (λ u x h p s rec. absurd cc) refl refl refl
  kept-flashed (Yield v u kind state) a = flashed-at (Yield v u kind state) a (λ x y h. absurd cc) (λ x y h p s r e. false_true (a.settled y s) e) (λ x y h p s r e. old.flashed x y v h p s r e) (no_loop write T structure v)
  kept-flashed (Unsync v t) a = sends-flashed (Unsync v t) a (λ u x h p s rec. metro-still v a.metro rec) refl refl refl
  kept-flashed (LandBoth w v t) a = sends-flashed (LandBoth w v t) a (λ u x h p s rec. metro-still v a.metro rec) refl refl refl
  kept-flashed (Lift v) a = let f = fields T v in sends-flashed (Lift v) a
      (λ u x h p s rec e q. let was = lifted_out f.coordination f.recording (union f.out_of_sync f.change_recording) f.out_of_sync rec in ap (λ s. contains s q) was.1 ∙ old.flashed v u x h p s was.0 e q) refl refl refl
  kept-flashed (Restart v) a = sends-flashed (Restart v) a (λ u x h p s rec. absurd cc) refl refl refl
  kept-flashed (Hold v s n one) a = sends-flashed (Hold v s n one) a (λ u x h p k rec e. false_true (a.unflashed u x h p k) e) refl refl refl
  kept-flashed (Finish v n) a = sends-flashed (Finish v n) a (λ u x h p s rec. absurd cc) refl refl refl
  kept-flashed (Flash v u p s n) b = target-flashed (Flash v u p s n) b b.resync.from b.resync.related refl refl refl refl (no_loop write T structure v) (λ x y h k from rec e q.
      let source_is : y ≡ u = sym (chosen (fields T v).related (fields T v).source y from).1 ∙ (chosen (fields T v).related (fields T v).source b.resync.from b.resync.related).1 ∙ b.from in
      let takes : p ≡ x = sym (chosen _ _ p b.takes).1 ∙ (chosen _ _ x (ap (λ j. its_primary (T j)) (sym source_is) ∙ k)).1 in
      let number : (fields T x).attempt ≡ n = subst (λ j. (fields T j).recording ≡ true → (fields T j).attempt ≡ n) takes b.last rec in
      old.sent x y h k rec (λ e. let newer = b.newer in let is = ap (λ j. (fields T j).seal) source_is ∙ b.sealed in absurd (omega (arith, e))) (ap (λ j. (fields T j).seal) source_is ∙ b.sealed ∙ sym number) q)
  kept-flashed (Commit v p s n) b = target-flashed (Commit v p s n) b b.from b.related refl refl refl refl (no_loop write T structure v) (λ x u h k q r e. absurd cc)
  kept-flashed (Revert v p s n) b = target-flashed (Revert v p s n) b b.from b.related refl refl refl refl (no_loop write T structure v) (λ x u h k q r e. absurd cc)
  kept-flashed m a = flashed-at m a (λ u x. old.flashed (target m) u x) (λ v x. old.flashed v (target m) x) (λ v u. old.flashed v u (target m)) (no_loop write T structure (target m))

  pub kept-seals : (m : Move) → Allowed write T m → Seals (after write T m)
  kept-seals m a = record { kinds = kept-kinds m a; global = kept-global m a; sent = kept-sent m a; no_metro = kept-metro m a; restored = kept-restored m a; flashed = kept-flashed m a }
