-- At each moment of a run at most one track of a Full Duplex primary is out of sync. There its secondary contains what the primary does, or
-- has stored a pending write more.
use Rattle.std.proofs.Common.{ℕ, ◌≡◌, ◌≢◌, ◌<◌, ◌+◌, ◌⊎◌, inl, inr, refl, ap, sym, ◌∙◌, subst, Bool, true, false, cond, not, ◌&&◌, ◌||◌, nat_eq, List, [], ◌∷◌, ◌++◌, filter, Option, Some, None}
use Rattle.std.proofs.lemmas.List.{append-nil}
use Rattle.std.proofs.lemmas.Option.{same_Some}
use Rattle.std.proofs.lemmas.Bool.{and_parts, and_from, or_left, ne_eqb, eq-eqb, eqb-true, false_from_ne_true}
use Rattle.std.proofs.lemmas.Bool.Decides.{eqb_tells}
use Rattle.std.specs.List.{list_any}
use Rattle.std.specs.FinSet.{contains, remove, union}
use Rattle.dr_model.specs.declared.event.Event.{Event}
use Rattle.dr_model.specs.declared.event.Event.TheVariants.{Ack, Stopped}
use Rattle.dr_model.specs.declared.state.PairState.TheVariants.{CopyPending}
use Rattle.dr_model.specs.Histories.{Write, histories}
use Rattle.dr_model.specs.Contents.{image, laid, with_write}
use Rattle.dr_model.specs.Layout.{Fields, is_part}
use Rattle.dr_model.specs.Control.{Pending, Volume, Fuse, World, is_volume, nothing}
use Rattle.dr_model.specs.Groups.{In}
use Rattle.dr_model.specs.Pairs.{secondary_of, primary_of, is_metro, is_full_duplex, is_torn, is_engaged, with_more}
use Rattle.dr_model.specs.Moves.{Move, Land, Overwrite, Keep, Withdraw, Fetch, Reverse, Restore, Release, Store, Strike, Suspend, MakeSecondary, MakePrimary, DropPrimary, DropSecondary, Resume, TakeOver, FallBack, Yield, Unsync, Mirror, LandBoth, Lift, Restart, Hold, Finish, target, told, told_in_stop, landed, is_write, is_other, marked, settled, settled_in_stop, keeps_staged, tracks_after, moved_keeping, LeavePrimary}
use Rattle.dr_model.specs.Carry.{acknowledged}
use Rattle.dr_model.specs.Sessions.{Session}
use Rattle.dr_model.specs.Entries.{fields_at}
use Rattle.dr_model.specs.Table.{Table, table, waiting}
use Rattle.dr_model.specs.Rows.{next_bytes}
use Rattle.dr_model.specs.Laws.{SoundRows, source, servers, Lone, AllPending}
use Rattle.dr_model.specs.Allowed.{Allowed, Coming, Ready}
use Rattle.dr_model.specs.Runs.{Task, run}
use Rattle.dr_model.proofs.Images.{image-push}
use Rattle.dr_model.proofs.LawfulLemmas.{removed}
use Rattle.dr_facts.proofs.Issued.{told-writes, with-told}
use Rattle.dr_facts.proofs.Lists.{to-filter}
use Rattle.dr_facts.proofs.Parts.{metro-part, global_metro, metro-second, two-partners}
use Rattle.dr_facts.proofs.Sets.{insert_other, not_removed}
use Rattle.dr_facts.proofs.Tracks.{bare-has, not_removed_from}
use Rattle.dr_laws_closed.proofs.Pendings.{each-on}
use Rattle.dr_laws_sound.proofs.Due.{waiting-settled, waiting-marked_else, none_landed}
use Rattle.dr_laws_sound.proofs.FitsPairs.{its-second, its-first}
use Rattle.dr_laws_sound.proofs.KeepsParts.{unrelated, unrelated_primary}
use Rattle.dr_laws_sound.proofs.KeepsRecorders.{metro-idle}
use Rattle.dr_laws_sound.proofs.RowsAfter.{calm, calm-each, changed, bytes-after}
use Rattle.dr_laws_sound.proofs.Turns.{next_of, carried_in, done, done_in_stop}
use Rattle.dr_laws_sound.proofs.Unissued.{stopped-writes}
use Rattle.dr_laws_freezes.specs.Moments.{moments_from}
use Rattle.dr_laws_freezes.specs.Windows.{is_ack}
use Rattle.dr_laws_freezes.specs.Secondaries.{IsInFlight, more_on, LacksNone, SecondariesLackNone, NoneIsLacking}
use Rattle.dr_laws_freezes.proofs.WindowMoves.{MayCome, WindowMay, OnlyOut}
use Rattle.dr_laws_freezes.proofs.InSync.{is_synced, Clean, Goes, LeavesOneOut, first-duplex, next-duplex}
use Rattle.dr_laws_freezes.proofs.KeepsStep.{Step, Does, Stops, Acks, Others, Passes, Acknowledges, Unchanged, others}
use Rattle.dr_laws_freezes.proofs.Windows.{Good, Chain, Last, Then}
use Rattle.dr_laws_freezes.proofs.Chains.{all-in}
use Rattle.dr_laws_freezes.proofs.WindowSteps.{chain-of}
use Rattle.dr_laws_freezes.proofs.EndsInCut.{run-behind}
use Rattle.dr_logic.proofs.Choices.{chosen, choose_some}
use Rattle.dr_logic.proofs.Options.{none_some}
use Rattle.dr_logic.proofs.Tables.{at_same, at_other}
use Rattle.dr_logic.proofs.Truth.{false_true}

module _ (w : World) (v : ℕ) where
  -- q has stored a write on track t of v that is pending and hasn't landed, and none has landed on v and waits
  pub record Ahead (q t : ℕ) : Type 0 where
    pub p : Pending
    pub here : In p w.control.pending
    pub coming : Coming v t p
    pub number : p.w < w.control.issued + 1
    pub on : ((histories w.events).write p.w).volume ≡ v
    pub calm : (j : ℕ) → waiting w.control.pending v j ≡ []
    pub bytes : w.contents q t ≡ with_write (histories w.events).write (w.contents v t) p.w

  -- or contains what v does
  abbrev pub Tells : ℕ → ℕ → Type 0
  Tells q t = (w.contents q t ≡ w.contents v t) ⊎ Ahead q t

  -- no track of v is out of sync but t, and where that one is, each secondary of v is so
  pub record OneOut : Type 0 where
    pub t : ℕ
    pub only : OnlyOut w v t
    pub holds : contains (fields_at w.control v).out_of_sync t ≡ true → (q : ℕ) → secondary_of (fields_at w.control v) ≡ Some q → primary_of (fields_at w.control q) ≡ Some v → Tells q t

  clean-most : ((t : ℕ) → contains (fields_at w.control v).out_of_sync t ≡ false) → OneOut
  clean-most none = record { t = 0; only = λ x ne. none x; holds = λ out q to back. false_true (none 0) out }

abbrev pub EachOneOut : World → Type 0
EachOneOut w = (v : ℕ) → is_synced (fields_at w.control v) ≡ true → OneOut w v

-- both stay as they are, and so does the pending write
tells-stays : (w u : World) (v q t : ℕ) → u.contents v t ≡ w.contents v t → u.contents q t ≡ w.contents q t → ((n : ℕ) → n < w.control.issued + 1 → (histories u.events).write n ≡ (histories w.events).write n) → ((n : ℕ) → n < w.control.issued + 1 → n < u.control.issued + 1)
    → ((p : Pending) → In p w.control.pending → p.volume ≡ v → In p u.control.pending) → ((j : ℕ) → waiting u.control.pending v j ≡ waiting w.control.pending v j) → Tells w v q t → Tells u v q t
tells-stays w u v q t first second writes issued pends waits (inl same) = inl (second ∙ same ∙ sym first)
tells-stays w u v q t first second writes issued pends waits (inr a) =
    let is : (histories u.events).write a.p.w ≡ (histories w.events).write a.p.w = writes a.p.w a.number in
    inr (record {
      p = a.p;
      here = pends a.p a.here a.coming.volume;
      coming = a.coming;
      number = issued a.p.w a.number;
      on = ap (λ (x : Write). x.volume) is ∙ a.on;
      calm = λ j. waits j ∙ a.calm j;
      bytes = second ∙ a.bytes ∙ sym (λ i. laid (is i).offset (is i).bytes (first i));
    })

-- the partner of a primary that is synced
its-partner : (f : Fields) → is_synced f ≡ true → secondary_of f ≡ Some f.primary_partner
its-partner f h = choose_some (is_part f.primary) f.primary_partner (metro-part f.primary (and_parts (is_metro f.primary) _ h).0)

-- ---- moves

-- kinds of moves by which a host write lands
abbrev Lands : Move → Type 0
Lands (Land n v t) = Unit {0}
Lands (Overwrite n v t) = Unit {0}
Lands (LandBoth n v t) = Unit {0}
Lands m = ⊥

module _ (w : World) (rows : SoundRows (table w)) (each : EachOneOut w) where
  abbrev write : ℕ → Write
  write = (histories w.events).write

  abbrev T : Table
  T = table w

  abbrev of : ℕ → Fields
  of = fields_at w.control

  -- a Full Duplex primary is no target and no secondary, and neither records nor is held by coordination
  no-target : {P : Type 0} (x s : ℕ) → is_synced (of x) ≡ true → source (T x) ≡ Some s → P
  no-target x s synced h = none_some (unrelated_primary T rows.parts x (its-partner (of x) synced)) h

  no-second : {P : Type 0} (x u : ℕ) → is_synced (of x) ≡ true → primary_of (of x) ≡ Some u → P
  no-second x u synced h = false_true (metro-second (T x) (rows.parts.fit x) (and_parts (is_metro (of x).primary) _ synced).0) (chosen _ _ u h).0

  idle : (x : ℕ) → is_metro (of x).primary ≡ true → (of x).recording ≡ false
  idle x metro = metro-idle (T x) (rows.recorders x) metro

  free : (x : ℕ) → is_metro (of x).primary ≡ true → (of x).coordination ≡ false
  free x metro = false_from_ne_true (of x).coordination (λ h. false_true (idle x metro) ((rows.recorders x).holds h))

  -- a secondary contains what its primary does where that is in sync
  pub alike : (v q t : ℕ) → is_synced (of v) ≡ true → secondary_of (of v) ≡ Some q → primary_of (of q) ≡ Some v → t < (w.control.volume v).tracks → contains (of v).out_of_sync t ≡ false → w.contents v t ≡ w.contents q t
  alike v q t synced to back lt out =
      rows.pairs v q to (inl back) t lt
      (λ i. out i || (rows.recorders v).none (idle v (and_parts (is_metro (of v).primary) _ synced).0) t i)
      (two-partners (T q) v (rows.parts.fit q) back)

  -- what a move makes of its volume, where that is a secondary of v with track t out of sync: it stays, or it gets that track of v, or a
  -- pending write more
  record Was (m : Move) (v t : ℕ) : Type 0 where
    back : primary_of (of (target m)) ≡ Some v
    bytes : next_bytes write m T t ≡ w.contents (target m) t

  record Stores (m : Move) (v t : ℕ) : Type 0 where
    n : ℕ
    goes : Goes w n v t
    number : n < w.control.issued + 1
    on : (write n).volume ≡ v
    calm : (j : ℕ) → waiting w.control.pending v j ≡ []
    bytes : next_bytes write m T t ≡ with_write write (w.contents v t) n
    lands : Lands m → ⊥

  abbrev Second : Move → ℕ → ℕ → Type 0
  Second m v t = Was m v t ⊎ ((next_bytes write m T t ≡ w.contents v t) ⊎ Stores m v t)

  second : (m : Move) (v t : ℕ) → Allowed write T m → Ready w m → LeavesOneOut w m → is_synced (of v) ≡ true → OnlyOut w v t → contains (of v).out_of_sync t ≡ true → primary_of (next_of w m) ≡ Some v → Second m v t
  second (Store x j u last) v t a ready may synced only out back = elim (eqb_tells t j) [
    | inl is ↦ inr (inl (ap (λ k. next_bytes write (Store x j u last) T k) is.1 ∙ at_same (w.contents x) j (w.contents u j) ∙ (λ i. w.contents (same_Some u v (sym a.takes ∙ back) i) (sym is.1 i))))
    | inr ne ↦ inl (record { back = back; bytes = at_other (w.contents x) j (w.contents u j) t ne.1 })
  ]
  second (Mirror x j u n) v t a ready may synced only out back =
      let from : u ≡ v = same_Some u v (sym a.takes ∙ back) in
      let same : j ≡ t = elim (eqb_tells j t) [
        | inl is ↦ is.1
        | inr ne ↦ false_true (only j ne.1) (ap (λ x. contains (of x).out_of_sync j) (sym from) ∙ a.out)
      ] in
      inr (inr (record {
        n = n;
        goes = subst (λ v. Goes w n v t) from (subst (Goes w n u) same may);
        number = ready.number;
        on = ready.volume ∙ from;
        calm = λ k. ap (λ v. waiting w.control.pending v k) (sym from) ∙ calm w u ready.from_idle k;
        bytes = ap (λ k. next_bytes write (Mirror x j u n) T k) (sym same) ∙ at_same (w.contents x) j (with_write write (w.contents u j) n) ∙ (λ i. with_write write (w.contents (from i) (same i)) n);
        lands = λ h. h;
      }))
  second (MakeSecondary x u kind state) v t a ready may synced only out back =
      false_true (ap (λ j. is_part (of j).primary) (sym (chosen _ _ v back).1) ∙ a.from_first) (metro-part (of v).primary (and_parts (is_metro (of v).primary) _ synced).0)
  second (Yield x u kind state) v t a ready may synced only out back = false_true (subst (λ j. Clean (of j)) (chosen _ _ v back).1 may synced t) out
  second (Land n x j) v t a ready may synced only out back = false_true a.first (chosen _ _ v back).0
  second (LandBoth n x j) v t a ready may synced only out back = false_true a.land.first (chosen _ _ v back).0
  second (Overwrite n x j) v t a ready may synced only out back = none_some (unrelated T rows.parts x back) a.related
  second (Keep x j) v t a ready may synced only out back = none_some (unrelated T rows.parts x back) a.related
  second (Withdraw x) v t a ready may synced only out back = none_some (unrelated T rows.parts x back) a.related
  second (Fetch x j) v t a ready may synced only out back = none_some (unrelated T rows.parts x back) a.related
  second (Reverse x left) v t a ready may synced only out back = none_some (unrelated T rows.parts x back) a.resync.related
  second (Release x j) v t a ready may synced only out back = none_some (unrelated T rows.parts x back) a.related
  second (Restore x j u) v t a ready may synced only out back = false_true (rows.parts.free u x a.related a.reversing) (chosen _ _ v back).0
  second (DropSecondary x) v t a ready may synced only out back = none_some refl back
  second (LeavePrimary x) v t a ready may synced only out back = none_some refl back
  second (TakeOver x) v t a ready may synced only out back = none_some refl back
  second m v t a ready may synced only out back = inl (record { back = back; bytes = refl })

  -- What a move makes of its volume, where that is a Full Duplex primary then: nothing is out of sync; or it was one, and no more is out of
  -- sync; or a track gets out of sync where none was.
  record Kept (m : Move) : Type 0 where
    synced : is_synced (of (target m)) ≡ true
    out : (t : ℕ) → contains (next_of w m).out_of_sync t ≡ true → contains (of (target m)).out_of_sync t ≡ true
    to : (q : ℕ) → secondary_of (next_of w m) ≡ Some q → secondary_of (of (target m)) ≡ Some q
    bytes : (t : ℕ) → next_bytes write m T t ≡ w.contents (target m) t
    lands : Lands m → ⊥

  record Opens (m : Move) : Type 0 where
    t : ℕ
    low : t < (w.control.volume (target m)).tracks
    synced : is_synced (of (target m)) ≡ true
    clean : contains (of (target m)).out_of_sync t ≡ false
    only : (x : ℕ) → x ≢ t → contains (next_of w m).out_of_sync x ≡ false
    to : (q : ℕ) → secondary_of (next_of w m) ≡ Some q → secondary_of (of (target m)) ≡ Some q
    bytes : next_bytes write m T t ≡ w.contents (target m) t

  abbrev First : Move → Type 0
  First m = ((t : ℕ) → contains (next_of w m).out_of_sync t ≡ false) ⊎ (Kept m ⊎ Opens m)

  abbrev Out : Option ℕ → Type 0
  Out tag = (n : ℕ) → tag ≡ Some n → contains (of (write n).volume).out_of_sync (write n).track ≡ true

  first : (tag : Option ℕ) (m : Move) → Out tag → Allowed write T m → Ready w m → WindowMay tag w m → LeavesOneOut w m → is_synced (next_of w m) ≡ true → First m
  first tag (Land n x j) goes a ready fair may synced =
      let both = and_parts (is_metro (of x).primary) (is_full_duplex (of x).primary_state) synced in
      false_true fair (and_from _ _ both.0 (or_left _ _ both.1))
  first tag (Overwrite n x j) goes a ready fair may synced = no-target x a.from synced a.related
  first tag (Keep x j) goes a ready fair may synced = no-target x a.from synced a.related
  first tag (Withdraw x) goes a ready fair may synced = no-target x a.from synced a.related
  first tag (Fetch x j) goes a ready fair may synced = no-target x a.from synced a.related
  first tag (Reverse x left) goes a ready fair may synced = no-target x a.resync.from synced a.resync.related
  first tag (Release x j) goes a ready fair may synced = no-target x a.from synced a.related
  first tag (Restore x j u) goes a ready fair may synced = false_true may synced
  first tag (Store x j u last) goes a ready fair may synced = no-second x u synced a.takes
  first tag (Mirror x j u n) goes a ready fair may synced = no-second x u synced a.takes
  first tag (Strike x j true) goes a ready fair may synced = inl (λ t. bare-has (remove (of x).out_of_sync j) t (and_parts (is_metro (of x).primary) _ (sym may)).1)
  first tag (Strike x j false) goes a ready fair may synced = inr (inl (record { synced = synced; out = λ t h. removed (of x).out_of_sync j t h; to = λ q h. h; bytes = λ t. refl; lands = λ h. h }))
  first tag (Suspend x busy) goes a ready fair may synced = let no : false ≡ true = (and_parts (is_metro (of x).primary) false synced).1 in absurd cc
  first tag (MakePrimary x b kind state full) goes a ready fair may synced = inl (λ t. first-duplex kind full (w.control.volume x).tracks t (ap is_full_duplex (sym may) ∙ (and_parts (is_metro kind) (is_full_duplex state) synced).1))
  first tag (DropPrimary x) goes a ready fair may synced = absurd cc
  first tag (Yield x b kind state) goes a ready fair may synced = absurd cc
  first tag (TakeOver x) goes a ready fair may synced = let no : false ≡ true = (and_parts (is_metro (of x).secondary) false synced).1 in absurd cc
  first tag (Resume x state) goes a ready fair may synced = inl (λ t. bare-has (of x).out_of_sync t (next-duplex (of x) (ap is_full_duplex (sym may) ∙ (and_parts (is_metro (of x).primary) (is_full_duplex state) synced).1)))
  first tag (FallBack x more state) goes a ready fair may synced =
      let g : Fields = with_more more (of x) in
      inl (λ t. bare-has g.out_of_sync t (next-duplex g (ap is_full_duplex (sym may) ∙ (and_parts (is_metro (of x).primary) (is_full_duplex state) synced).1)))
  first tag (Unsync x j) goes a ready fair may synced = inr (inr (record {
    t = j;
    low = a.low;
    synced = synced;
    clean = may synced j;
    only = λ t ne. insert_other (of x).out_of_sync j t ne ∙ may synced t;
    to = λ q h. h;
    bytes = refl;
  }))
  first tag (LandBoth n x j) goes a ready fair may synced =
      let one : OneOut w x = each x synced in
      let out : contains (of x).out_of_sync j ≡ true = (λ i. contains (of (sym ready.volume i)).out_of_sync (sym ready.track i)) ∙ goes n fair.0 in
      let same : j ≡ one.t = elim (eqb_tells j one.t) [
        | inl is ↦ is.1
        | inr ne ↦ false_true (one.only j ne.1) out
      ] in
      inl (λ t. elim (eqb_tells t j) [
        | inl is ↦ ap (contains (remove (of x).out_of_sync j)) is.1 ∙ not_removed (of x).out_of_sync j
        | inr ne ↦ not_removed_from (of x).out_of_sync j t (one.only t (λ e. ne.1 (e ∙ sym same)))
      ])
  first tag (Lift x) goes a ready fair may synced =
      let f : Fields = of x in
      let held : f.coordination ≡ false = free x (and_parts (is_metro f.primary) _ synced).0 in
      inr (inl (record { synced = synced; out = λ t h. sym (ap (λ b. contains (cond b (union f.out_of_sync f.change_recording) f.out_of_sync) t) held) ∙ h; to = λ q h. h; bytes = λ t. refl; lands = λ h. h }))
  first tag (Restart x) goes a ready fair may synced =
      let f : Fields = of x in
      let both = and_parts (is_metro f.primary) (is_full_duplex (cond (is_torn f) CopyPending f.primary_state)) synced in
      let still : is_engaged f ≡ false = (λ i. idle x both.0 i || free x both.0 i) in
      inr (inl (record { synced = and_from _ _ both.0 (by f (is_torn f) both.1); out = λ t h. sym (ap (λ b. contains (cond b (union f.out_of_sync f.change_recording) f.out_of_sync) t) still) ∙ h; to = λ q h. h; bytes = λ t. refl; lands = λ h. h }))
    where
      by : (f : Fields) (b : Bool) → is_full_duplex (cond b CopyPending f.primary_state) ≡ true → is_full_duplex f.primary_state ≡ true
      by f true h = absurd cc
      by f false h = h
  first tag (Finish x n) goes a ready fair may synced =
      let f : Fields = of x in
      let metro = (and_parts (is_metro f.primary) _ synced).0 in
      let still : is_engaged f ≡ false = (λ i. idle x metro i || free x metro i) in
      inr (inl (record { synced = synced; out = λ t h. sym (ap (λ b. contains (cond b (union f.out_of_sync f.change_recording) f.out_of_sync) t) still) ∙ h; to = λ q h. h; bytes = λ t. refl; lands = λ h. h }))
  first tag (Hold x s n one) goes a ready fair may synced = global_metro (of x).primary a.global (and_parts (is_metro (of x).primary) _ synced).0
  first tag m goes a ready fair may synced = inr (inl (record { synced = synced; out = λ t h. h; to = λ q h. h; bytes = λ t. refl; lands = λ h. h }))

  -- the world after a move
  module _ (tag : Option ℕ) (m : Move) (goes : Out tag) (may : MayCome w m) (fair : WindowMay tag w m) (asks : LeavesOneOut w m) (on : ℕ → Bool) (fuse : ℕ → Option Fuse) (ps : List Pending) (es : List Event) (same : (histories (w.events ++ es)).write ≡ write)
      (pends : (p : Pending) → In p w.control.pending → (Lands m → p.volume ≢ target m) → In p ps) (waits : (v j : ℕ) → (Lands m → v ≢ target m) → waiting ps v j ≡ waiting w.control.pending v j) where
    abbrev W : World
    W = changed w m on fuse ps (w.events ++ es)

    abbrev x : ℕ
    x = target m

    abbrev row : Volume
    row = moved_keeping (keeps_staged m) (w.control.volume x) (next_of w m) (carried_in w m)

    abbrev bytes : ℕ → List ℕ
    bytes = tracks_after (next_of w m) (carried_in w m) (w.contents x)

    row-else : (v : ℕ) → v ≢ x → W.control.volume v ≡ w.control.volume v
    row-else v ne = at_other w.control.volume x row v ne

    bytes-else : (v t : ℕ) → v ≢ x → W.contents v t ≡ w.contents v t
    bytes-else v t ne = ap (λ (c : ℕ → List ℕ). c t) (at_other w.contents x bytes v ne)

    row-here : W.control.volume x ≡ row
    row-here = at_same w.control.volume x row

    bytes-here : (t : ℕ) → W.contents x t ≡ next_bytes write m T t
    bytes-here t = ap (λ (c : ℕ → List ℕ). c t) (at_same w.contents x bytes) ∙ bytes-after w rows.images.blank m t

    stays : (v q t : ℕ) → (Lands m → v ≢ x) → W.contents v t ≡ w.contents v t → W.contents q t ≡ w.contents q t → Tells w v q t → Tells W v q t
    stays v q t else first second = tells-stays w W v q t first second (λ n lt. ap (λ (g : ℕ → Write). g n) same) (λ n lt. lt) (λ p here is. pends p here (λ l e. else l (sym is ∙ e))) (λ j. waits v j else)

    -- its secondary is the volume of the move
    second-tells : (v t : ℕ) → v ≢ x → Second m v t → (primary_of (of x) ≡ Some v → Tells w v x t) → Tells W v x t
    second-tells v t ne (inl was) before = stays v x t (λ l. ne) (bytes-else v t ne) (bytes-here t ∙ was.bytes) (before was.back)
    second-tells v t ne (inr (inl gets)) before = inl (bytes-here t ∙ gets ∙ sym (bytes-else v t ne))
    second-tells v t ne (inr (inr s)) before =
        let goes : Goes w s.n v t = s.goes in
        inr (record {
          p = goes.p;
          here = pends goes.p goes.here (λ l. absurd (s.lands l));
          coming = goes.coming;
          number = subst (λ n. n < w.control.issued + 1) (sym goes.number) s.number;
          on = ap (λ (g : ℕ → Write). (g goes.p.w).volume) same ∙ ap (λ n. (write n).volume) goes.number ∙ s.on;
          calm = λ j. waits v j (λ l. ne) ∙ s.calm j;
          bytes = bytes-here t ∙ s.bytes ∙ sym (λ i. with_write (same i) (bytes-else v t ne i) (goes.number i));
        })

    -- the primary isn't
    else-most : (v : ℕ) → v ≢ x → is_synced (fields_at W.control v) ≡ true → OneOut W v
    else-most v ne synced =
        let is : W.control.volume v ≡ w.control.volume v = row-else v ne in
        let was : is_synced (of v) ≡ true = ap (λ (y : Volume). is_synced y.fields) (sym is) ∙ synced in
        let one : OneOut w v = each v was in
        record {
          t = one.t;
          only = λ j e. ap (λ (y : Volume). contains y.fields.out_of_sync j) is ∙ one.only j e;
          holds = λ out q to back.
              let out_w : contains (of v).out_of_sync one.t ≡ true = ap (λ (y : Volume). contains y.fields.out_of_sync one.t) (sym is) ∙ out in
              let to_w : secondary_of (of v) ≡ Some q = ap (λ (y : Volume). secondary_of y.fields) (sym is) ∙ to in
              elim (eqb_tells q x) [
                | inl same_q ↦
                    subst (λ q. Tells W v q one.t) (sym same_q.1) (second-tells v one.t ne
                    (second m v one.t may.allowed may.ready asks was one.only out_w (ap (λ (y : Volume). primary_of y.fields) (sym row-here) ∙ ap (λ j. primary_of (fields_at W.control j)) (sym same_q.1) ∙ back))
                    (λ back_w. one.holds out_w x (to_w ∙ ap (λ j. Some j) same_q.1) back_w))
                | inr not_q ↦ stays v q one.t (λ l. ne) (bytes-else v one.t ne) (bytes-else q one.t not_q.1) (one.holds out_w q to_w (ap (λ (y : Volume). primary_of y.fields) (sym (row-else q not_q.1)) ∙ back))
              ];
        }

    -- the primary is the volume of the move
    other : (q : ℕ) → secondary_of (of x) ≡ Some q → q ≢ x
    other q to e = (rows.parts.secondary x q to).apart (ap (servers w.control) (sym e))

    here-most : First m → OneOut W x
    here-most (inl none) = clean-most W x (λ t. ap (λ (y : Volume). contains y.fields.out_of_sync t) row-here ∙ none t)
    here-most (inr (inl k)) =
        let one : OneOut w x = each x k.synced in
        record {
          t = one.t;
          only = λ j ne. ap (λ (y : Volume). contains y.fields.out_of_sync j) row-here ∙ false_from_ne_true _ (λ h. false_true (one.only j ne) (k.out j h));
          holds = λ out q to back.
              let out_w : contains (of x).out_of_sync one.t ≡ true = k.out one.t (ap (λ (y : Volume). contains y.fields.out_of_sync one.t) (sym row-here) ∙ out) in
              let to_w : secondary_of (of x) ≡ Some q = k.to q (ap (λ (y : Volume). secondary_of y.fields) (sym row-here) ∙ to) in
              let ne : q ≢ x = other q to_w in
              stays x q one.t (λ l. absurd (k.lands l)) (bytes-here one.t ∙ k.bytes one.t) (bytes-else q one.t ne) (one.holds out_w q to_w (ap (λ (y : Volume). primary_of y.fields) (sym (row-else q ne)) ∙ back));
        }
    here-most (inr (inr o)) = record {
      t = o.t;
      only = λ j ne. ap (λ (y : Volume). contains y.fields.out_of_sync j) row-here ∙ o.only j ne;
      holds = λ out q to back.
          let to_w : secondary_of (of x) ≡ Some q = o.to q (ap (λ (y : Volume). secondary_of y.fields) (sym row-here) ∙ to) in
          let ne : q ≢ x = other q to_w in
          let back_w : primary_of (of q) ≡ Some x = ap (λ (y : Volume). primary_of y.fields) (sym (row-else q ne)) ∙ back in
          inl (bytes-else q o.t ne ∙ sym (alike x q o.t o.synced to_w back_w o.low o.clean) ∙ sym (bytes-here o.t ∙ o.bytes));
    }

    pub one-moved : EachOneOut W
    one-moved v synced = elim (eqb_tells v x) [
      | inl is ↦
          let here : is_synced (next_of w m) ≡ true = ap (λ (y : Volume). is_synced y.fields) (sym row-here) ∙ ap (λ j. is_synced (fields_at W.control j)) (sym is.1) ∙ synced in
          subst (OneOut W) (sym is.1) (here-most (first tag m goes may.allowed may.ready fair asks here))
      | inr ne ↦ else-most v ne.1 synced
    ]

  -- a landed write is acknowledged
  module _ (n : ℕ) (a : Acknowledges w n) where
    abbrev after : World
    after = acknowledged w n

    acked-tells : (v q t : ℕ) → Tells w v q t → Tells after v q t
    acked-tells v q t (inl same) = inl same
    acked-tells v q t (inr x) =
        let ne : v ≢ a.volume = λ e. let no : [] ≡ n ∷ [] = sym (x.calm a.track) ∙ ap (λ j. waiting w.control.pending j a.track) e ∙ a.here in absurd cc in
        let apart : x.p.w ≢ n = λ e. ne (sym x.on ∙ ap (λ k. (write k).volume) e ∙ a.on_volume) in
        let told : (histories after.events).write ≡ write = with-told w (Ack n ∷ []) refl in
        inr (record {
          p = x.p;
          here = to-filter (is_other n) w.control.pending x.p x.here (ap not (ne_eqb x.p.w n apart));
          coming = x.coming;
          number = x.number;
          on = ap (λ (g : ℕ → Write). (g x.p.w).volume) told ∙ x.on;
          calm = λ j. a.else v j (inl ne) ∙ x.calm j;
          bytes = x.bytes ∙ sym (λ i. with_write (told i) (w.contents v t) x.p.w);
        })

    one-acked : EachOneOut after
    one-acked v synced = let one : OneOut w v = each v synced in record { t = one.t; only = one.only; holds = λ out q to back. acked-tells v q one.t (one.holds out q to back) }

  -- no volume changes
  one-passed : (u : World) (es : List Event) → Unchanged w u es → EachOneOut u
  one-passed u es x v synced =
      let is : u.control.volume v ≡ w.control.volume v = x.synced v synced in
      let was : is_synced (of v) ≡ true = ap (λ (y : Volume). is_synced y.fields) (sym is) ∙ synced in
      let one : OneOut w v = each v was in
      record {
        t = one.t;
        only = λ j ne. ap (λ (y : Volume). contains y.fields.out_of_sync j) is ∙ one.only j ne;
        holds = λ out q to back.
            let out_w : contains (of v).out_of_sync one.t ≡ true = ap (λ (y : Volume). contains y.fields.out_of_sync one.t) (sym is) ∙ out in
            let to_w : secondary_of (of v) ≡ Some q = ap (λ (y : Volume). secondary_of y.fields) (sym is) ∙ to in
            let there_q : is_volume w.control q ≡ true = (rows.parts.secondary v q to_w).defined in
            let back_w : primary_of (of q) ≡ Some v = ap (λ (y : Volume). primary_of y.fields) (sym (x.volume q there_q)) ∙ back in
            let there_v : is_volume w.control v ≡ true = (rows.parts.primary q v back_w).defined in
            tells-stays w u v q one.t (x.contents v there_v one.t) (x.contents q there_q one.t) x.writes x.issued
            (λ p here on. x.pends p here (λ clean. false_true (subst (λ j. Clean (of j)) on clean was one.t) out_w)) (x.waits v) (one.holds out_w q to_w back_w);
      }

-- what a move leaves of the pending writes
other-write : (w : World) (n v t : ℕ) (p : Pending) → AllPending (Coming v t) (filter (is_write n) w.control.pending) → In p w.control.pending → p.volume ≢ v → p.w ≢ n
other-write w n v t p coming here ne e = ne (all-in (Coming v t) p (filter (is_write n) w.control.pending) (to-filter (is_write n) w.control.pending p here (eq-eqb p.w n e)) coming).volume

stays-settled : (w : World) (m : Move) → MayCome w m → (p : Pending) → In p w.control.pending → (Lands m → p.volume ≢ target m) → In p (settled m w.control.pending)
stays-settled w (Land n v t) may p here else = to-filter (is_other n) w.control.pending p here (ap not (ne_eqb p.w n (other-write w n v t p may.ready.coming here (else tt))))
stays-settled w (Overwrite n v t) may p here else = to-filter (is_other n) w.control.pending p here (ap not (ne_eqb p.w n (other-write w n v t p may.ready.coming here (else tt))))
stays-settled w (LandBoth n v t) may p here else = to-filter (is_other n) w.control.pending p here (ap not (ne_eqb p.w n (other-write w n v t p may.ready.coming here (else tt))))
stays-settled w m may p here else = here

in-marked : (n : ℕ) (p : Pending) (ps : List Pending) → p.w ≢ n → In p ps → In p (marked n ps)
in-marked n p [] ne h = absurd h
in-marked n p (x ∷ xs) ne (inl is) = inl (is ∙ sym (ap (λ b. cond b (record x { landed = true }) x) (ap (is_write n) (sym is) ∙ ne_eqb p.w n ne)))
in-marked n p (x ∷ xs) ne (inr more) = inr (in-marked n p xs ne more)

stays-marked : (w : World) (m : Move) → MayCome w m → (p : Pending) → In p w.control.pending → (Lands m → p.volume ≢ target m) → In p (settled_in_stop m w.control.pending)
stays-marked w (Land n v t) may p here else = in-marked n p w.control.pending (other-write w n v t p may.ready.coming here (else tt)) here
stays-marked w (Overwrite n v t) may p here else = in-marked n p w.control.pending (other-write w n v t p may.ready.coming here (else tt)) here
stays-marked w (LandBoth n v t) may p here else = in-marked n p w.control.pending (other-write w n v t p may.ready.coming here (else tt)) here
stays-marked w m may p here else = here

waits-settled : (w : World) (m : Move) → MayCome w m → (v j : ℕ) → (Lands m → v ≢ target m) → waiting (settled m w.control.pending) v j ≡ waiting w.control.pending v j
waits-settled w (Land n x y) may v j else = waiting-settled n v j w.control.pending (none_landed x y _ may.ready.coming)
waits-settled w (Overwrite n x y) may v j else = waiting-settled n v j w.control.pending (none_landed x y _ may.ready.coming)
waits-settled w (LandBoth n x y) may v j else = waiting-settled n v j w.control.pending (none_landed x y _ may.ready.coming)
waits-settled w m may v j else = refl

waits-marked : (w : World) (m : Move) → MayCome w m → (v j : ℕ) → (Lands m → v ≢ target m) → waiting (settled_in_stop m w.control.pending) v j ≡ waiting w.control.pending v j
waits-marked w (Land n x y) may v j else = waiting-marked_else n x y v j w.control.pending (inl (else tt)) may.ready.coming
waits-marked w (Overwrite n x y) may v j else = waiting-marked_else n x y v j w.control.pending (inl (else tt)) may.ready.coming
waits-marked w (LandBoth n x y) may v j else = waiting-marked_else n x y v j w.control.pending (inl (else tt)) may.ready.coming
waits-marked w m may v j else = refl

-- ---- along a run

one-others : (u : World) (ss : List Session) → EachOneOut u → EachOneOut (others u ss)
one-others u ss each v synced =
    let one : OneOut u v = each v synced in
    record { t = one.t; only = one.only; holds = λ out q to back. tells-stays u (others u ss) v q one.t refl refl (λ n lt. refl) (λ n lt. lt) (λ p here on. here) (λ j. refl) (one.holds out q to back) }

one-step : (tag : Option ℕ) (w : World) (next : Option ℕ) (u : World) → Good tag w → Step tag w next u → EachOneOut w → EachOneOut u
one-step tag w _ _ g (Does m f may fair asks) each =
    let u : Volume = w.control.volume (target m) in
    one-moved w g.rows each tag m g.out may fair asks (done w m f).control.on (done w m f).control.fuse (settled m w.control.pending) (told m u) (with-told w (told m u) (told-writes (histories w.events) m u)) (stays-settled w m may) (waits-settled w m may)
one-step tag w _ _ g (Stops m f may fair asks) each =
    let u : Volume = w.control.volume (target m) in
    one-moved w g.rows each tag m g.out may fair asks (done_in_stop w m f).control.on (done_in_stop w m f).control.fuse (settled_in_stop m w.control.pending) (told_in_stop m u ++ Stopped u.server (landed m) ∷ []) (stopped-writes w m) (stays-marked w m may) (waits-marked w m may)
one-step tag w _ _ g (Acks n a) each = one-acked w g.rows each n a
one-step tag w _ _ g (Others next u ss step) each = one-others u ss (one-step tag w next u g step each)
one-step tag w _ _ g (Passes next u es x less) each = one-passed w g.rows each u es x

record At (w : World) : Type 0 where
  each : EachOneOut w
  tag : Option ℕ
  good : Good tag w

one-at : (before : List World) (tag : Option ℕ) (w : World) (us : List World) (first : World) (rest : List World) → Chain tag w us → EachOneOut w → w ∷ us ≡ before ++ first ∷ rest → At first
one-at [] _ _ _ first rest (Last tag w g) each e = let here : w ≡ first = cc in subst At here (record { each = each; tag = tag; good = g })
one-at [] _ _ _ first rest (Then tag next w u us g s c) each e = let here : w ≡ first = cc in subst At here (record { each = each; tag = tag; good = g })
one-at (b ∷ []) _ _ _ first rest (Last tag w g) each e = absurd cc
one-at (b ∷ c ∷ bs) _ _ _ first rest (Last tag w g) each e = absurd cc
one-at (b ∷ bs) _ _ _ first rest (Then tag next w u us g s c) each e = let there : u ∷ us ≡ bs ++ first ∷ rest = cc in one-at bs next u us first rest c (one-step tag w next u g s each) there

-- ---- what the secondary contains then

-- the one write that has landed on v and waits, if one has
record Waiting (ps : List Pending) (v : ℕ) : Type 0 where
  more : Option Pending
  here : (p : Pending) → more ≡ Some p → In p ps × (p.volume ≡ v)
  waits : (t : ℕ) → waiting ps v t ≡ more_on more t

unless-both : (a b c : Bool) → (a && b) ≡ false → (a && (b && c)) ≡ false
unless-both true true c h = absurd cc
unless-both true false c h = refl
unless-both false b c h = refl

one-waits : (server : ℕ → ℕ) (v : ℕ) (ps : List Pending) → Lone server ps → Waiting ps v
one-waits server v [] lone = record { more = None; here = λ p is. absurd cc; waits = λ t. refl }
one-waits server v (p ∷ ps) lone = by (p.landed && nat_eq p.volume v) refl (one-waits server v ps lone.1)
  where
    by : (b : Bool) → (p.landed && nat_eq p.volume v) ≡ b → Waiting ps v → Waiting (p ∷ ps) v
    by true is rest =
        let both = and_parts p.landed (nat_eq p.volume v) is in
        let on : p.volume ≡ v = eqb-true p.volume v both.1 in
        record {
          more = Some p;
          here = λ q e. let same : p ≡ q = same_Some p q e in (inl (sym same), ap (λ (x : Pending). x.volume) (sym same) ∙ on);
          waits = λ t. (λ i. cond (both.0 i && (both.1 i && nat_eq p.track t)) (p.w ∷ waiting ps v t) (waiting ps v t))
              ∙ (let none : waiting ps v t ≡ [] = calm-each server v t ps (each-on (λ q apart landed same. apart both.0 landed (ap server on ∙ sym same)) ps lone.0) in λ i. cond (nat_eq p.track t) (p.w ∷ none i) (none i));
        }
    by false is rest = record {
      more = rest.more;
      here = λ q e. let h = rest.here q e in (inr h.0, h.1);
      waits = λ t. ap (λ b. cond b (p.w ∷ waiting ps v t) (waiting ps v t)) (unless-both p.landed (nat_eq p.volume v) (nat_eq p.track t) is) ∙ rest.waits t;
    }

module _ (tag : Option ℕ) (w : World) (g : Good tag w) (each : EachOneOut w) (v q : ℕ) (synced : is_synced (fields_at w.control v) ≡ true) (to : secondary_of (fields_at w.control v) ≡ Some q) (back : primary_of (fields_at w.control q) ≡ Some v) where
  abbrev ps : List Pending
  ps = w.control.pending

  abbrev holds : ℕ → List ℕ
  holds t = (histories w.events).now v t

  abbrev image_of : List ℕ → List ℕ
  image_of = image (histories w.events).write

  plain : (t : ℕ) → t < (w.control.volume v).tracks → w.contents v t ≡ image_of (holds t ++ waiting ps v t)
  plain t lt = g.rows.images.plain v (unrelated_primary (table w) g.rows.parts v to) t lt

  same-size : (w.control.volume v).tracks ≡ (w.control.volume q).tracks
  same-size = (g.rows.parts.secondary v q to).same_tracks

  flies : (p : Pending) → In p ps → p.volume ≡ v → IsInFlight w v p
  flies p here on = record { pending = here; volume = on; unacked = all-in (λ p. list_any (is_ack p.w) w.events ≡ false) p ps here g.fresh.unacked }

  -- both contain the same
  even : ((t : ℕ) → t < (w.control.volume v).tracks → w.contents q t ≡ w.contents v t) → LacksNone w w.contents v q
  even same =
      let one : Waiting ps v = one-waits (servers w.control) v ps g.lone in
      record {
        more = one.more;
        in_flight = λ p is. let h = one.here p is in flies p h.0 h.1;
        size = same-size;
        tracks = λ t lt. same t lt ∙ plain t lt ∙ ap (λ ws. image_of (holds t ++ ws)) (one.waits t);
      }

  equal : (t : ℕ) → t < (w.control.volume v).tracks → contains (fields_at w.control v).out_of_sync t ≡ false → w.contents q t ≡ w.contents v t
  equal t lt out = sym (alike w g.rows each v q t synced to back lt out)

  -- the secondary is ahead
  ahead : (one : OneOut w v) → Ahead w v q one.t → LacksNone w w.contents v q
  ahead one x = record {
    more = Some x.p;
    in_flight = λ p is. subst (IsInFlight w v) (same_Some x.p p is) (flies x.p x.here x.coming.volume);
    size = same-size;
    tracks = λ t lt. elim (eqb_tells x.p.track t) [
      | inl is ↦
          let here : one.t ≡ t = sym x.coming.track ∙ is.1 in
          let bytes : w.contents q t ≡ with_write (histories w.events).write (w.contents v t) x.p.w = subst (λ t. w.contents q t ≡ with_write (histories w.events).write (w.contents v t) x.p.w) here x.bytes in
          bytes ∙ ap (λ b. with_write (histories w.events).write b x.p.w) (calm-image t lt) ∙ sym (image-push (histories w.events).write (holds t) x.p.w) ∙ sym (ap (λ b. image_of (holds t ++ cond b (x.p.w ∷ []) [])) is.0)
      | inr ne ↦
          equal t lt (one.only t (λ e. ne.1 (x.coming.track ∙ sym e))) ∙ calm-image t lt ∙ ap image_of (sym (append-nil (holds t))) ∙ sym (ap (λ b. image_of (holds t ++ cond b (x.p.w ∷ []) [])) ne.0)
    ];
  }
    where
      calm-image : (t : ℕ) → t < (w.control.volume v).tracks → w.contents v t ≡ image_of (holds t)
      calm-image t lt = plain t lt ∙ ap (λ ws. image_of (holds t ++ ws)) (x.calm t) ∙ ap image_of (append-nil (holds t))

  lacks-by : (one : OneOut w v) (b : Bool) → contains (fields_at w.control v).out_of_sync one.t ≡ b → LacksNone w w.contents v q
  lacks-by one false is = even (λ t lt. equal t lt (elim (eqb_tells t one.t) [
    | inl here ↦ ap (contains (fields_at w.control v).out_of_sync) here.1 ∙ is
    | inr ne ↦ one.only t ne.1
  ]))
  lacks-by one true is = by (one.holds is q to back)
    where
      by : Tells w v q one.t → LacksNone w w.contents v q
      by (inr x) = ahead one x
      by (inl same) = even (λ t lt. elim (eqb_tells t one.t) [
        | inl here ↦ subst (λ t. w.contents q t ≡ w.contents v t) (sym here.1) same
        | inr ne ↦ equal t lt (one.only t ne.1)
      ])

  lacks-none : LacksNone w w.contents v q
  lacks-none = let one : OneOut w v = each v synced in lacks-by one (contains (fields_at w.control v).out_of_sync one.t) refl

pub lacking-at : (tag : Option ℕ) (w : World) → Good tag w → EachOneOut w → SecondariesLackNone w (fields_at w.control) w.contents
lacking-at tag w g each v q there too leads metro duplex follows =
    lacks-none tag w g each v q (and_from (is_metro (fields_at w.control v).primary) _ metro duplex) (its-second q (fields_at w.control v) leads) (its-first v (fields_at w.control q) follows)

pub lacking-run : (tasks : List Task) → NoneIsLacking tasks
lacking-run tasks before later w is =
    let at : At w = one-at before None nothing (moments_from nothing tasks) w later (chain-of tasks) (λ v synced. absurd cc) is in
    lacking-at at.tag w at.good at.each

-- so it is as a run ends
pub lacking-end : (tasks : List Task) → SecondariesLackNone (run tasks) (fields_at (run tasks).control) (run tasks).contents
lacking-end tasks = let end = run-behind tasks in lacking-run tasks end.before [] (run tasks) end.is
