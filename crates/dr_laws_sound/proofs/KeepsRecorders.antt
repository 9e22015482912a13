-- Each kind of move keeps what a primary that records is, and no relationship is revertible.
use Rattle.std.proofs.Common.{ℕ, ◌≡◌, refl, Bool, true, false, cond, not, ◌&&◌, ◌||◌}
use Rattle.std.proofs.lemmas.Bool.{or_parts}
use Rattle.std.specs.FinSet.{contains, insert, empty}
use Rattle.dr_model.specs.declared.state.Part.{Part}
use Rattle.dr_model.specs.declared.state.Part.TheVariants.{Absent, Metro, Global}
use Rattle.dr_model.specs.declared.state.PairState.{PairState}
use Rattle.dr_model.specs.declared.state.PairState.TheVariants.{CopyPending, FullDuplex, Suspended}
use Rattle.dr_model.specs.Layout.{Tracks, Fields, is_part}
use Rattle.dr_model.specs.Histories.{Write}
use Rattle.dr_model.specs.Pairs.{is_metro, is_kind, is_pending, is_suspended, is_quiet, is_engaged}
use Rattle.dr_model.specs.Moves.{Move, Land, Strike, Suspend, MakePrimary, DropPrimary, Resume, TakeOver, FallBack, Yield, Lift, Restart, Hold, Free, Finish, target, Store, Mirror}
use Rattle.dr_model.specs.Table.{Row, Table}
use Rattle.dr_model.specs.Rows.{after, next_row}
use Rattle.dr_model.specs.Laws.{Records, RowRecords, Recorders, fields}
use Rattle.dr_model.specs.Allowed.{Allowed}
use Rattle.dr_facts.proofs.Tables.{each-at}
use Rattle.dr_facts.proofs.Tracks.{empty_has}

-- a part is of one kind, and a pair in one state
pub not-metro : (part : Part) → is_kind Global part ≡ true → is_metro part ≡ true → ⊥
not-metro Absent g m = absurd cc
not-metro Metro g m = absurd cc
not-metro Global g m = absurd cc

not-suspended : (state : PairState) → is_pending state ≡ true → is_suspended state ≡ true → ⊥
not-suspended CopyPending p s = absurd cc
not-suspended FullDuplex p s = absurd cc
not-suspended Suspended p s = absurd cc

-- one that takes tracks back doesn't record
quiet-by : (part : Part) (state : PairState) → is_kind Global part ≡ true → is_pending state ≡ true → (not (is_part part) || is_suspended state) ≡ true → ⊥
quiet-by Absent state g p q = absurd cc
quiet-by Metro state g p q = absurd cc
quiet-by Global state g p q = not-suspended state p q

pub quiet-idle : (r : Row) → RowRecords r → is_quiet r.volume.fields ≡ true → r.volume.fields.recording ≡ false
quiet-idle r o quiet = by r.volume.fields.recording refl
  where
    by : (b : Bool) → r.volume.fields.recording ≡ b → b ≡ false
    by true is = absurd (quiet-by r.volume.fields.primary r.volume.fields.primary_state (o.global is) (o.pending is) quiet)
    by false is = refl

-- nor does one of Metro Mirror
pub metro-idle : (r : Row) → RowRecords r → is_metro r.volume.fields.primary ≡ true → r.volume.fields.recording ≡ false
metro-idle r o metro = by r.volume.fields.recording refl
  where
    by : (b : Bool) → r.volume.fields.recording ≡ b → b ≡ false
    by true is = absurd (not-metro r.volume.fields.primary (o.global is) metro)
    by false is = refl

struck-pending : (last : Bool) (state : PairState) → (last ≡ true → ⊥) → is_pending state ≡ true → is_pending (cond last FullDuplex state) ≡ true
struck-pending true state never is = absurd (never refl)
struck-pending false state never is = is

-- nothing has changed after a void
none-left : (e : Bool) (changed : Tracks) → (e ≡ false → (t : ℕ) → contains changed t ≡ false) → (t : ℕ) → contains (cond e empty changed) t ≡ false
none-left true changed none t = empty_has t
none-left false changed none t = none refl t

pub none-written : (part records : Bool) (changed : Tracks) (t : ℕ) → records ≡ false → ((q : ℕ) → contains changed q ≡ false) → (q : ℕ) → contains (cond (part && records) (insert changed t) changed) q ≡ false
none-written true true changed t is none q = absurd cc
none-written true false changed t is none q = none q
none-written false records changed t is none q = none q

module _ (T : Table) (old : Recorders T) where
  -- what changed where none records any more
  idle : (v : ℕ) (kind : Part) (state : PairState) (changed : Tracks) → ((t : ℕ) → contains changed t ≡ false) → Records kind state false false changed
  idle v kind state changed none = record { holds = λ h. absurd cc; global = λ h. absurd cc; pending = λ h. absurd cc; none = λ h. none }

  void-none : (v : ℕ) → is_engaged (fields T v) ≡ false → (t : ℕ) → contains (fields T v).change_recording t ≡ false
  void-none v not = (old v).none (or_parts (fields T v).recording (fields T v).coordination not).0

  voids : (v : ℕ) (kind : Part) (state : PairState) → Records kind state false false (cond (is_engaged (fields T v)) empty (fields T v).change_recording)
  voids v kind state = idle v kind state _ (none-left (is_engaged (fields T v)) (fields T v).change_recording (void-none v))

  lifts : (kind : Part) (state : PairState) (held records : Bool) (changed : Tracks) → Records kind state held records changed → Records kind state false (cond held false records) (cond held empty changed)
  lifts kind state true records changed r = record { holds = λ h. absurd cc; global = λ h. absurd cc; pending = λ h. absurd cc; none = λ h t. empty_has t }
  lifts kind state false records changed r = record { holds = λ h. absurd cc; global = r.global; pending = r.pending; none = r.none }

  module _ (write : ℕ → Write) where
    changed : (m : Move) → RowRecords (next_row write m T) → Recorders (after write T m)
    changed m here = each-at T (target m) (next_row write m T) (λ v r. RowRecords r) here old

    pub kept-recorders : (m : Move) → Allowed write T m → Recorders (after write T m)
    kept-recorders (Land w v t) a = let f : Fields = fields T v in let o = old v in
        changed (Land w v t) (record { holds = o.holds; global = o.global; pending = o.pending; none = λ h. none-written (is_part f.primary) f.recording f.change_recording t h (o.none h) })
    kept-recorders (Store v t u last) a = let f : Fields = fields T v in let o = old v in
        changed (Store v t u last) (record { holds = o.holds; global = o.global; pending = o.pending; none = λ h. none-written (is_part f.primary) f.recording f.change_recording t h (o.none h) })
    kept-recorders (Mirror v t u w) a = let f : Fields = fields T v in let o = old v in
        changed (Mirror v t u w) (record { holds = o.holds; global = o.global; pending = o.pending; none = λ h. none-written (is_part f.primary) f.recording f.change_recording t h (o.none h) })
    kept-recorders (Strike v t last) a = let f : Fields = fields T v in let o = old v in
        changed (Strike v t last) (record {
          holds = o.holds;
          global = o.global;
          pending = λ h. struck-pending last f.primary_state (λ is. not-metro f.primary (o.global h) (a.metro is)) (o.pending h);
          none = o.none;
        })
    kept-recorders (Resume v state) a = let f : Fields = fields T v in let o = old v in
        changed (Resume v state) (record { holds = o.holds; global = o.global; pending = λ h. absurd (not-suspended f.primary_state (o.pending h) a.waits); none = o.none })
    kept-recorders (Suspend v busy) a = changed (Suspend v busy) (voids v _ _)
    kept-recorders (Restart v) a = changed (Restart v) (voids v _ _)
    kept-recorders (Finish v n) a = changed (Finish v n) (voids v _ _)
    kept-recorders (MakePrimary v u kind state full) a = changed (MakePrimary v u kind state full) (idle v _ _ empty empty_has)
    kept-recorders (DropPrimary v) a = changed (DropPrimary v) (idle v _ _ empty empty_has)
    kept-recorders (TakeOver v) a = changed (TakeOver v) (idle v _ _ empty empty_has)
    kept-recorders (FallBack v more state) a = changed (FallBack v more state) (voids v _ _)
    kept-recorders (Yield v u kind state) a = changed (Yield v u kind state) (idle v _ _ empty empty_has)
    kept-recorders (Lift v) a = let f : Fields = fields T v in changed (Lift v) (lifts f.primary f.primary_state f.coordination f.recording f.change_recording (old v))
    kept-recorders (Hold v s n first) a = changed (Hold v s n first) (record { holds = λ h. refl; global = λ h. a.global; pending = λ h. a.pending; none = λ h. absurd cc })
    kept-recorders (Free v) a = let o = old v in changed (Free v) (record { holds = λ h. absurd cc; global = o.global; pending = o.pending; none = o.none })
    kept-recorders m a = let o = old (target m) in changed m (record { holds = o.holds; global = o.global; pending = o.pending; none = o.none })
