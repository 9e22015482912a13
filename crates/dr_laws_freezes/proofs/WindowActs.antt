-- Acts that do what windows ask, and keep what holds of pairs, and entries that come to them.
use Rattle.std.proofs.Common.{ℕ, ◌≡◌, refl, sym, subst, Bool, true, false, cond, List, [], ◌∷◌, filter, Option, Some, None, ◌++◌}
use Rattle.dr_ids.specs.declared.refusal.Refusal.{Refusal}
use Rattle.dr_model.specs.declared.event.Event.TheVariants.{Frozen, Thawed, Recovered}
use Rattle.dr_model.specs.Control.{Control, Fuse, World}
use Rattle.dr_model.specs.Moves.{Move, Hold, Unsync, Mirror, Yield, target, is_write, is_other}
use Rattle.dr_model.specs.Carry.{Act, Make, OpenAttempt, attempt_begun, Redo, Acknowledge, Drop, EndFreeze, EndThaw, EndRecovery, dropped, frozen, thawed, recovered, Next, Pass, Do, End, Entry, check}
use Rattle.dr_model.specs.Entries.{fields_at}
use Rattle.dr_model.specs.Laws.{Sound, AllPending, SoundRows}
use Rattle.dr_model.specs.Table.{table}
use Rattle.dr_laws_closed.proofs.Pendings.{all-filter}
use Rattle.dr_laws_sound.proofs.Turns.{done, done_in_stop, opened_in_stop, server_of, after_act, server_at, fused}
use Rattle.dr_laws_sound.proofs.Along as along
use Rattle.dr_laws_sound.proofs.KeepsSound.{MayDo, Along, Then, comes, keeps-sound}
use Rattle.dr_model.specs.Allowed.{May}
use Rattle.dr_model.specs.PairEntries.{end_if, refuse_if}
use Rattle.dr_facts.proofs.Entries.{any_reason, AllFine, FineFrom, FromThen, from-all, FineThen}
use Rattle.dr_laws_freezes.proofs.WindowMoves.{WindowMay, tag_after, come, come-open}
use Rattle.dr_laws_freezes.proofs.InSync.{Gentle, Clean, LeavesOneOut, FullDuplexInSync, in_sync-done, in_sync-stop, in_sync-not, in_sync-same, fresh-told}
use Rattle.dr_laws_freezes.proofs.Chains.{WindowMayDo, act_tag, CountsFin, window_next, WindowAlong, window-entry, window-nil, good-none}
use Rattle.std.proofs.lemmas.List.{append-nil}

-- a sound world between steps
pub record Between (w : World) : Type 0 where
  pub sound : Sound w
  pub in_sync : FullDuplexInSync w

-- an act that comes where no write goes on, and keeps what holds of pairs
abbrev pub KeepsPairs : World → Act → Type 0
KeepsPairs w (Make m) = WindowMay None w m × Gentle (fields_at w.control (target m)) m × (tag_after m None ≡ None)
KeepsPairs w (Acknowledge n) = ⊥
KeepsPairs w (Drop n) = AllPending (λ p. Clean (fields_at w.control p.volume)) (filter (is_write n) w.control.pending)
KeepsPairs w a = Unit {0}

module _ (w : World) (rows : SoundRows (table w)) (in_sync : FullDuplexInSync w) where
  act-in_sync : (a : Act) (f : Option Fuse) → MayDo w a → KeepsPairs w a → FullDuplexInSync (after_act w a f)
  act-in_sync (Make m) f may keeps = in_sync-done w rows m f (come w m may) keeps.1 in_sync
  act-in_sync (OpenAttempt v s n) f may keeps =
      let m : Move = Hold v s n true in
      let y : FullDuplexInSync (done w m f) = in_sync-done w rows m f (come-open w v s n may) tt in_sync in
      in_sync-same (done w m f) (attempt_begun (done w m f) s) refl refl (λ j h. h) (record { unacked = y.fresh.unacked; later = y.fresh.later }) y
  act-in_sync (Redo v) f may keeps = in_sync-same w (fused w (server_at w v) f) refl refl (λ j h. h) (record { unacked = in_sync.fresh.unacked; later = in_sync.fresh.later }) in_sync
  act-in_sync (Acknowledge n) f may keeps = absurd keeps
  act-in_sync (Drop n) f may keeps =
      in_sync-same w (dropped w n) refl refl (λ j h. h) (fresh-told w (dropped w n) [] (sym (append-nil w.events)) refl (all-filter _ (is_other n) w.control.pending in_sync.fresh.unacked) (λ n. refl) in_sync.fresh) in_sync
  act-in_sync (EndFreeze l m) f may keeps = in_sync-same w (frozen w l m) refl refl (λ j h. h) (fresh-told w (frozen w l m) (Frozen l m ∷ []) refl refl in_sync.fresh.unacked (λ n. refl) in_sync.fresh) in_sync
  act-in_sync (EndThaw l m) f may keeps = in_sync-same w (thawed w l m) refl refl (λ j h. h) (fresh-told w (thawed w l m) (Thawed l m ∷ []) refl refl in_sync.fresh.unacked (λ n. refl) in_sync.fresh) in_sync
  act-in_sync (EndRecovery s n) f may keeps = in_sync-same w (recovered w s n) refl refl (λ j h. h) (fresh-told w (recovered w s n) (Recovered s n ∷ []) refl refl in_sync.fresh.unacked (λ n. refl) in_sync.fresh) in_sync

leaves-one : (w : World) → Between w → (m : Move) → May w m → KeepsPairs w (Make m) → LeavesOneOut w m
leaves-one w k (Unsync v t) may keeps = absurd keeps.1
leaves-one w k (Mirror v t u n) may keeps = let no : Some n ≡ None = keeps.2 in absurd cc
leaves-one w k (Yield v u kind state) may keeps = k.in_sync.clean u (k.sound.rows.parts.secondary v u may.allowed.sends).defined keeps.0
leaves-one w k m may keeps = keeps.1

act-may : (w : World) → Between w → (a : Act) → MayDo w a → KeepsPairs w a → WindowMayDo None w a
act-may w k (Make m) may keeps = (may, keeps.0, leaves-one w k m may keeps)
act-may w k (Acknowledge n) may keeps = absurd keeps
act-may w k (Drop n) may keeps = (may, keeps)
act-may w k a may keeps = may

act-none : (w : World) (a : Act) → KeepsPairs w a → act_tag a None ≡ None
act-none w (Make m) keeps = keeps.2
act-none w (Acknowledge n) keeps = absurd keeps
act-none w a keeps = refl

module _ (Fin : Option ℕ → World → Option Refusal → Type 0) (fin : (w : World) (r : Refusal) → Between w → Fin None w (Some r)) where
  counts-fin : (w : World) (a : Act) → Between w → MayDo w a → KeepsPairs w a → CountsFin Fin w a
  counts-fin w (Make m) k may keeps = λ f. fin (done_in_stop w m f) _ (record { sound = keeps-sound.counts w m f k.sound may; in_sync = in_sync-stop w k.sound.rows m f (come w m may) keeps.1 k.in_sync })
  counts-fin w (OpenAttempt v s n) k may keeps = λ f.
      let m : Move = Hold v s n true in
      let y : FullDuplexInSync (done_in_stop w m f) = in_sync-stop w k.sound.rows m f (come-open w v s n may) tt k.in_sync in
      fin (opened_in_stop w v s n f) _ (record {
        sound = keeps-sound.opens w v s n f k.sound may;
        in_sync = in_sync-same (done_in_stop w m f) (opened_in_stop w v s n f) refl refl (λ j h. h) (record { unacked = y.fresh.unacked; later = y.fresh.later }) y;
      })
  counts-fin w a k may keeps = tt

  pub window-act : (w : World) (a : Act) (then : Option ℕ → World → Type 0) → Between w → MayDo w a → KeepsPairs w a → ((f : Option Fuse) → Between (after_act w a f) → then None (after_act w a f)) → window_next Fin None w (Do a) then
  window-act w a then k may keeps on = (
    act-may w k a may keeps,
    λ f. subst (λ tag. then tag (after_act w a f)) (sym (act-none w a keeps)) (on f (record { sound = keeps-sound.does w a f k.sound may; in_sync = act-in_sync w k.sound.rows k.in_sync a f may keeps })),
    (counts-fin w a k may keeps, λ d f. fin _ _ (record { sound = keeps-sound.fails w a f d k.sound may; in_sync = in_sync-not w (server_of w a) f k.in_sync })),
  )

  -- entries that come to such acts, where J is known: where they end well, more may be known
  module _ (K J E : World → Type 0) (Ok : World → Act → Type 0) (First Why : Refusal → Type 0) (reasons : (r : Refusal) → Why r → First r) (known : (w : World) → J w → K w) (keeps : (w : World) (a : Act) → Ok w a → J w → KeepsPairs w a) (on : (w : World) (a : Act) (f : Option Fuse) → Ok w a → J w → J (after_act w a f))
      (ends : (w : World) → Between w → E w → Fin None w None) where
    abbrev Comes : World → List Entry → Type 0
    Comes = FineFrom K Ok First Why

    abbrev Runs : World → List Entry → Type 0
    Runs = along.Along Sound Sound E MayDo

    window-decides : (w : World) (x : Next) (ds : List Entry) → ((v : World) → Between v → J v → Comes v ds → Runs v ds → WindowAlong Fin None v ds) → Between w → J w → FromThen K Ok First Why w x (Comes w ds) (AllFine K Ok Why ds) → Then w x (λ v. Runs v ds)
        → window_next Fin None w x (λ tag v. WindowAlong Fin tag v ds)
    window-decides w Pass ds rest k j fine a = rest w k j fine a
    window-decides w (End r) ds rest k j fine a = fin w r k
    window-decides w (Do x) ds rest k j fine a =
        window-act w x (λ tag v. WindowAlong Fin tag v ds) k a.0 (keeps w x fine.0 j)
        (λ f b. let i : J (after_act w x f) = on w x f fine.0 j in rest (after_act w x f) b i (from-all K Ok First Why reasons (after_act w x f) (known (after_act w x f) i) ds fine.1) (a.1 f b.sound))

    pub window-entries : (ds : List Entry) (w : World) → Between w → J w → Comes w ds → Runs w ds → WindowAlong Fin None w ds
    unfolding FineFrom
    window-entries [] w k j fine a = window-nil Fin None w (good-none w k.sound.rows k.in_sync.fresh k.sound.queue.lone) (ends w k (along.along-ends Sound Sound E MayDo w a))
    window-entries (d ∷ ds) w k j fine a =
        window-entry Fin None w d ds (d w.control) refl (good-none w k.sound.rows k.in_sync.fresh k.sound.queue.lone) (window-decides w (d w.control) ds (window-entries ds) k j fine (along.along-comes Sound Sound E MayDo w d ds (d w.control) refl a))

-- such an act that leaves what is known
abbrev pub Leaves : (World → Type 0) → World → Act → Type 0
Leaves J w a = KeepsPairs w a × ((f : Option Fuse) → J (after_act w a f))

module _ (Fin : Option ℕ → World → Option Refusal → Type 0) (fin : (w : World) (r : Option Refusal) → Between w → Fin None w r) where
  pub window-leaves : (J : World → Type 0) (ds : List Entry) (w : World) → Between w → J w → FineFrom J (Leaves J) any_reason any_reason w ds → Along w ds → WindowAlong Fin None w ds
  window-leaves J = window-entries Fin (λ w r. fin w (Some r)) J J Sound (Leaves J) any_reason any_reason (λ r why. why) (λ w j. j) (λ w a ok j. ok.0) (λ w a f ok j. ok.1 f) (λ w b sound. fin w None b)

  -- ---- entry by entry

  pub window-move : (w : World) → Between w → (d : Entry) (m : Move) (ds : List Entry) → d w.control ≡ Do (Make m) → May w m → WindowMay None w m → Gentle (fields_at w.control (target m)) m → tag_after m None ≡ None
      → ((f : Option Fuse) → Between (done w m f) → WindowAlong Fin None (done w m f) ds) → WindowAlong Fin None w (d ∷ ds)
  window-move w k d m ds is may fair gentle none go = window-entry Fin None w d ds (Do (Make m)) is (good-none w k.sound.rows k.in_sync.fresh k.sound.queue.lone) (window-act Fin (λ w r. fin w (Some r)) w (Make m) (λ tag v. WindowAlong Fin tag v ds) k may (fair, gentle, none) go)

  -- what passed a check
  pub window-check : (w : World) → Between w → (ok : Control → Bool) (r : Refusal) (ds : List Entry) → Along w (check ok r ∷ ds) → (ok w.control ≡ true → Along w ds → WindowAlong Fin None w ds) → WindowAlong Fin None w (check ok r ∷ ds)
  window-check w k ok r ds a go = window-entry Fin None w (check ok r) ds (cond (ok w.control) Pass (End r)) refl (good-none w k.sound.rows k.in_sync.fresh k.sound.queue.lone) (by (ok w.control) refl (comes w (check ok r) ds (cond (ok w.control) Pass (End r)) refl a))
    where
      by : (b : Bool) → ok w.control ≡ b → Then w (cond b Pass (End r)) (λ v. Along v ds) → window_next Fin None w (cond b Pass (End r)) (λ tag v. WindowAlong Fin tag v ds)
      by true is a = go is a
      by false is a = fin w (Some r) k

  pub window-refuse : (w : World) → Between w → (why : Control → Option Refusal) (ds : List Entry) → Along w (refuse_if why ∷ ds) → (why w.control ≡ None → Along w ds → WindowAlong Fin None w ds) → WindowAlong Fin None w (refuse_if why ∷ ds)
  window-refuse w k why ds a go = window-entry Fin None w (refuse_if why) ds (end_if (why w.control)) refl (good-none w k.sound.rows k.in_sync.fresh k.sound.queue.lone) (by (why w.control) refl (comes w (refuse_if why) ds (end_if (why w.control)) refl a))
    where
      by : (o : Option Refusal) → why w.control ≡ o → Then w (end_if o) (λ v. Along v ds) → window_next Fin None w (end_if o) (λ tag v. WindowAlong Fin tag v ds)
      by None is a = go is a
      by (Some r) is a = fin w (Some r) k

  -- such acts, and then what comes behind them
  module _ (J : World → Type 0) (more : List Entry) (go : (w : World) → Between w → J w → Along w more → WindowAlong Fin None w more) where
    first-decides : (w : World) (x : Next) (ds : List Entry) → ((v : World) → Between v → J v → AllFine J (Leaves J) any_reason ds → Along v (ds ++ more) → WindowAlong Fin None v (ds ++ more)) → Between w → J w → FineThen J (Leaves J) any_reason w x (AllFine J (Leaves J) any_reason ds)
        → Then w x (λ v. Along v (ds ++ more)) → window_next Fin None w x (λ tag v. WindowAlong Fin tag v (ds ++ more))
    first-decides w Pass ds rest k j fine a = rest w k j fine a
    first-decides w (End r) ds rest k j fine a = fin w (Some r) k
    first-decides w (Do x) ds rest k j fine a =
        window-act Fin (λ w r. fin w (Some r)) w x (λ tag v. WindowAlong Fin tag v (ds ++ more)) k a.0 fine.0.0 (λ f b. rest (after_act w x f) b (fine.0.1 f) fine.1 (a.1 f b.sound))

    pub window-first : (ds : List Entry) (w : World) → Between w → J w → AllFine J (Leaves J) any_reason ds → Along w (ds ++ more) → WindowAlong Fin None w (ds ++ more)
    unfolding AllFine
    window-first [] w k j fine a = go w k j a
    window-first (d ∷ ds) w k j fine a =
        window-entry Fin None w d (ds ++ more) (d w.control) refl (good-none w k.sound.rows k.in_sync.fresh k.sound.queue.lone) (first-decides w (d w.control) ds (window-first ds) k j (fine w j) (comes w d (ds ++ more) (d w.control) refl a))
