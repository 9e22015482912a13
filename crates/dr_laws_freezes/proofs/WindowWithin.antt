-- Within a host write one track of its volume may be out of sync; where a server stops then, that volume's server is off, or it is suspended.
use Rattle.std.proofs.Common.{ℕ, ◌≡◌, inl, inr, refl, ap, sym, ◌∙◌, subst, Bool, true, false, cond, not, ◌&&◌, List, [], ◌∷◌, ◌++◌, map, filter, Option, Some, None}
use Rattle.std.proofs.lemmas.Bool.{and_parts, and_from}
use Rattle.std.proofs.lemmas.Bool.Decides.{eqb_tells}
use Rattle.std.specs.FinSet.{contains}
use Rattle.std.proofs.Math.Bool.{and-false}
use Rattle.dr_ids.specs.declared.refusal.Refusal.{Refusal}
use Rattle.dr_model.specs.declared.event.Event.{Event}
use Rattle.dr_model.specs.declared.event.Event.TheVariants.{Stopped}
use Rattle.dr_model.specs.Layout.{Fields, is_part}
use Rattle.dr_model.specs.Pairs.{is_metro}
use Rattle.dr_model.specs.Control.{Control, Fuse, Pending, Volume, World, is_volume}
use Rattle.dr_model.specs.Moves.{Move, Keep, Note, Suspend, target, is_write, settled, settled_in_stop, keeps_staged, moved_keeping}
use Rattle.dr_model.specs.Carry.{Make, Drop, Next, Pass, Do, Entry, check}
use Rattle.dr_model.specs.Entries.{fields_at, is_running, keep_on, copies_from, drop_unless, check_or_drop}
use Rattle.dr_model.specs.WriteEntries.{partner_of, is_grouped, part_running, part_after}
use Rattle.dr_model.specs.Laws.{Sound, AllPending}
use Rattle.dr_model.specs.Allowed.{May, Runs}
use Rattle.dr_facts.proofs.Tables.{IsOrNot, at_cases, at_part}
use Rattle.dr_laws_sound.proofs.Turns.{next_of, carried_in, done, done_in_stop, not_done, server_at, after_act}
use Rattle.dr_laws_sound.proofs.RowsAfter.{changed}
use Rattle.dr_laws_sound.proofs.KeepsSound.{Along, Then, comes, keeps-sound}
use Rattle.dr_laws_sound.proofs.FitsPairs.{row}
use Rattle.dr_model.specs.PairEntries.{suspend_running, suspend_after}
use Rattle.dr_laws_sound.proofs.FitsDrain.{suspends-after}
use Rattle.dr_laws_sound.proofs.FitsWrites.{parts-after}
use Rattle.dr_laws_freezes.proofs.WindowMoves.{WindowMay, tag_after, come}
use Rattle.dr_laws_freezes.proofs.InSync.{is_synced, LeavesOneOut, Unheld, unheld, Clean, Free, Fresh, FullDuplexInSync, free-left, fresh-done, fresh-stop, fresh-told}
use Rattle.dr_laws_freezes.proofs.Windows.{Good}
use Rattle.dr_laws_freezes.proofs.Chains.{WindowAlong, window_next, window-entry, window-nil, StopFin, good-none, WindowEach}
use Rattle.dr_laws_freezes.proofs.WindowActs.{Between, window-act, window-check}
use Rattle.dr_laws_freezes.proofs.WindowPlans.{good-between, answers-between, FollowHolds}
use Rattle.dr_facts.proofs.Parts.{metro-part}
use Rattle.dr_logic.proofs.Truth.{false_true}
use Rattle.dr_logic.proofs.Tables.{at_same, off_later}

module _ (v t : ℕ) where
  -- any track but t of v
  abbrev pub Else : ℕ → ℕ → Type 0
  Else x q = x ≡ v → q ≡ t → ⊥

  abbrev pub CleanBut : ℕ → Fields → Type 0
  CleanBut x f = is_synced f ≡ true → (q : ℕ) → Else x q → contains f.out_of_sync q ≡ false

  pub record FullDuplexInSyncBut (w : World) : Type 0 where
    pub clean : (x : ℕ) → is_volume w.control x ≡ true → Runs w x → CleanBut x (fields_at w.control x)
    pub free : (x : ℕ) → Free (fields_at w.control x)
    pub fresh : Fresh w

  pub record Within (w : World) : Type 0 where
    pub sound : Sound w
    pub in_sync : FullDuplexInSyncBut w

  pub in_sync-but : (w : World) → FullDuplexInSync w → FullDuplexInSyncBut w
  in_sync-but w y = record { clean = λ x there runs h q other. y.clean x there runs h q; free = y.free; fresh = y.fresh }

  pub within-between : (w : World) → Between w → Within w
  within-between w k = record { sound = k.sound; in_sync = in_sync-but w k.in_sync }

  -- where v is clean again
  pub heal : (w : World) → Within w → (Runs w v → Clean (fields_at w.control v)) → Between w
  heal w k here = record {
    sound = k.sound;
    in_sync = record { clean = λ x. by x (eqb_tells x v); free = k.in_sync.free; fresh = k.in_sync.fresh };
  }
    where
      by : (x : ℕ) → IsOrNot x v → is_volume w.control x ≡ true → Runs w x → Clean (fields_at w.control x)
      by x (inl is) there runs = subst (λ j. Clean (fields_at w.control j)) (sym is.1) (here (subst (Runs w) is.1 runs))
      by x (inr ne) there runs = λ h q. k.in_sync.clean x there runs h q (λ e. absurd (ne.1 e))

  -- what a move makes of its volume is so
  abbrev pub Here : World → Move → Type 0
  Here w m = is_volume w.control (target m) ≡ true → Runs w (target m) → CleanBut (target m) (next_of w m)

  module _ (w : World) (m : Move) (here : Here w m) (none : Unheld (fields_at w.control (target m)) m) (in_sync : FullDuplexInSyncBut w) (on : ℕ → Bool) (fuse : ℕ → Option Fuse) (ps : List Pending) (es : List Event) (less : (j : ℕ) → on j ≡ true → w.control.on j ≡ true) where
    abbrev W : World
    W = changed w m on fuse ps es

    abbrev x : ℕ
    x = target m

    abbrev new : Volume
    new = moved_keeping (keeps_staged m) (w.control.volume x) (next_of w m) (carried_in w m)

    but-changed : Fresh W → FullDuplexInSyncBut W
    but-changed fresh = record {
      clean = λ j there runs. at_cases (λ j (y : Volume). is_volume w.control j ≡ true → Runs w j → CleanBut j y.fields) w.control.volume x new here (λ j ne. in_sync.clean j) j there
          (sym (ap w.control.on (at_part (λ (y : Volume). y.server) w.control.volume x new refl j)) ∙ less _ runs);
      free = λ j. at_cases (λ j (y : Volume). Free y.fields) w.control.volume x new (free-left m (w.control.volume x) none (in_sync.free x)) (λ j ne. in_sync.free j) j;
      fresh = fresh;
    }

  -- however the move ends
  module _ (w : World) (m : Move) (f : Option Fuse) (k : Within w) (may : May w m) where
    pub within-done : Here w m → Within (done w m f)
    within-done here = record {
      sound = keeps-sound.does w (Make m) f k.sound may;
      in_sync = but-changed w m here (unheld w k.sound.rows m (come w m may)) k.in_sync (done w m f).control.on (done w m f).control.fuse (settled m w.control.pending) (done w m f).events (λ j h. h) (fresh-done w m f (come w m may) k.in_sync.fresh);
    }

    pub within-stop : Here w m → Within (done_in_stop w m f)
    within-stop here = record {
      sound = keeps-sound.counts w m f k.sound may;
      in_sync = but-changed w m here (unheld w k.sound.rows m (come w m may)) k.in_sync (done_in_stop w m f).control.on (done_in_stop w m f).control.fuse (settled_in_stop m w.control.pending) (done_in_stop w m f).events (off_later w.control.on (w.control.volume (target m)).server) (fresh-stop w m f k.in_sync.fresh);
    }

    pub within-not : Within (not_done w (server_at w (target m)) f)
    within-not = let s : ℕ = server_at w (target m) in record {
      sound = keeps-sound.fails w (Make m) f tt k.sound may;
      in_sync = record {
        clean = λ x there runs. k.in_sync.clean x there (off_later w.control.on s _ runs);
        free = k.in_sync.free;
        fresh = fresh-told w (not_done w s f) (Stopped s 0 ∷ []) refl refl k.in_sync.fresh.unacked (λ n. refl) k.in_sync.fresh;
      };
    }

  -- where a server stopped, v is suspended, or its server is off
  module _ (w : World) (k : Within w) (busy : Bool) where
    abbrev End : Option ℕ → World → Option Refusal → Type 0
    End tag u r = WindowEach Between good-between answers-between tag u []

    over : (u : World) → Between u → WindowEach Between good-between answers-between None u []
    over u b = (good-between u b, b)

    abbrev m : Move
    m = Suspend v busy

    abbrev what : Next
    what = cond (is_part (fields_at w.control v).primary && is_running v w.control) (Do (Make m)) Pass

    here : Here w m
    here there runs h q other = let no : false ≡ true = (and_parts (is_metro (fields_at w.control v).primary) false h).1 in absurd cc

    off : (f : Option Fuse) → is_synced (fields_at (done w m f).control v) ≡ false
    off f = ap (λ (y : Volume). is_synced y.fields) (at_same w.control.volume v (row w m f)) ∙ and-false (is_metro (fields_at w.control v).primary)

    parts-by : (c : Bool) → (is_part (fields_at w.control v).primary && is_running v w.control) ≡ c → Then w (cond c (Do (Make m)) Pass) (λ u. Along u []) → window_next End None w (cond c (Do (Make m)) Pass) (λ tag u. WindowAlong End tag u [])
    parts-by true is a = (
      (a.0, tt, tt),
      λ f. let b : Between (done w m f) = heal (done w m f) (within-done w m f k a.0 here) (λ runs h. false_true (off f) h) in window-nil End None (done w m f) (good-between (done w m f) b) (over (done w m f) b),
      (
        λ f. over (done_in_stop w m f) (heal (done_in_stop w m f) (within-stop w m f k a.0 here) (λ runs h. false_true (off f) h)),
        λ d f. over (not_done w (server_at w v) f) (heal (not_done w (server_at w v) f) (within-not w m f k a.0) (λ runs h. false_true (at_same w.control.on (server_at w v) false) runs)),
      ),
    )
    parts-by false is a = window-nil End None w (good-none w k.sound.rows k.in_sync.fresh k.sound.queue.lone)
        (over w (heal w k (λ runs h. false_true is (and_from _ _ (metro-part (fields_at w.control v).primary (and_parts (is_metro (fields_at w.control v).primary) _ h).0) runs))))

    window-suspend : (d : Entry) → d w.control ≡ what → Along w (d ∷ []) → WindowAlong End None w (d ∷ [])
    window-suspend d is al = window-entry End None w d [] what is (good-none w k.sound.rows k.in_sync.fresh k.sound.queue.lone) (parts-by _ refl (comes w d [] what is al))

  pub window-part : (w : World) → Within w → FollowHolds w (part_after v)
  window-part w k = window-suspend w k (is_grouped w.control v (partner_of w.control v)) (part_running v) refl (parts-after v w k.sound)

  pub window-after : (w : World) → Within w → FollowHolds w (suspend_after v)
  window-after w k = window-suspend w k false (suspend_running v) refl (suspends-after v w k.sound)

  -- a move within the write
  pub window-within : (Fin : Option ℕ → World → Option Refusal → Type 0) → ((u : World) (s : ℕ) → Within u → StopFin Fin u s u) → (tag : Option ℕ) (w : World) → Within w → (d : Entry) (m : Move) (ds : List Entry) → d w.control ≡ Do (Make m) → Good tag w
      → May w m → WindowMay tag w m → LeavesOneOut w m → Here w m → ((f : Option Fuse) → Within (done w m f) → WindowAlong Fin (tag_after m tag) (done w m f) ds) → WindowAlong Fin tag w (d ∷ ds)
  window-within Fin stops tag w k d m ds is good may fair asks here go = window-entry Fin tag w d ds (Do (Make m)) is good (
    (may, fair, asks),
    λ f. go f (within-done w m f k may here),
    (
      λ f. stops (done_in_stop w m f) _ (within-stop w m f k may here),
      λ d f. stops (not_done w (server_at w (target m)) f) _ (within-not w m f k may),
    ),
  )

-- where a server stopped in what a cascaded secondary u sends on, u is suspended, and then v
module _ (v t u : ℕ) where
  abbrev ThenPart : Option ℕ → World → Option Refusal → Type 0
  ThenPart tag w r = WindowEach Between good-between answers-between tag w (part_after v)

  then-part : (w : World) → Within v t w → ThenPart None w None
  then-part w k = window-part v t w k

  pub window-both : (w : World) → Within v t w → FollowHolds w (suspend_running u ∷ part_running v ∷ [])
  window-both w k = by (is_part (fields_at w.control u).primary && is_running u w.control) refl (suspends-after u w k.sound)
    where
      good : Good None w
      good = good-none w k.sound.rows k.in_sync.fresh k.sound.queue.lone

      m : Move
      m = Suspend u false

      here : Here v t w m
      here there runs h q other = let no : false ≡ true = (and_parts (is_metro (fields_at w.control u).primary) false h).1 in absurd cc

      by : (c : Bool) → suspend_running u w.control ≡ cond c (Do (Make m)) Pass → Along w (suspend_after u) → WindowAlong ThenPart None w (suspend_running u ∷ [])
      by true is al = window-within v t ThenPart (λ x s k. then-part x k) None w k (suspend_running u) m [] is good (comes w (suspend_running u) [] (Do (Make m)) is al).0 tt tt here
          (λ f z. window-nil ThenPart None (done w m f) (good-none (done w m f) z.sound.rows z.in_sync.fresh z.sound.queue.lone) (then-part (done w m f) z))
      by false is al = window-entry ThenPart None w (suspend_running u) [] Pass is good (window-nil ThenPart None w good (then-part w k))

-- moves of targets that keep a track
abbrev pub Keeps : Move → Type 0
Keeps (Keep u t) = Unit {0}
Keeps (Note u t) = Unit {0}
Keeps m = ⊥

-- copy first, where K lasts over them
module _ (Fin : Option ℕ → World → Option Refusal → Type 0) (tag : Option ℕ) (K : World → Type 0) (sound : (w : World) → K w → Sound w) (good : (w : World) → K w → Good tag w)
    (move : (w : World) → K w → (d : Entry) (m : Move) (ds : List Entry) → Keeps m → d w.control ≡ Do (Make m) → May w m → ((f : Option Fuse) → K (done w m f) → WindowAlong Fin tag (done w m f) ds) → WindowAlong Fin tag w (d ∷ ds)) (b t : ℕ) where
  pub window-copies : (xs : List ℕ) (es : List Entry) (w : World) → K w → Along w (map (keep_on b t) xs ++ es) → ((u : World) → K u → Along u es → WindowAlong Fin tag u es) → WindowAlong Fin tag w (map (keep_on b t) xs ++ es)
  window-copies [] es w k al on = on w k al
  window-copies (u ∷ us) es w k al on =
      by (copies_from b (fields_at w.control u) && not (fields_at w.control u).reversing) (not (contains (fields_at w.control u).own t)) ((fields_at w.control u).recorded && not (contains (fields_at w.control u).source_changes t)) refl (λ v k al. window-copies us es v k al on)
    where
      ds : List Entry
      ds = map (keep_on b t) us ++ es

      by : (p c r : Bool) → keep_on b t u w.control ≡ cond p (cond c (Do (Make (Keep u t))) (cond r (Do (Make (Note u t))) Pass)) Pass → ((v : World) → K v → Along v ds → WindowAlong Fin tag v ds) → WindowAlong Fin tag w (keep_on b t u ∷ ds)
      by true true r is rest =
          let one = comes w (keep_on b t u) ds (Do (Make (Keep u t))) is al in
          move w k (keep_on b t u) (Keep u t) ds tt is one.0 (λ f y. rest (done w (Keep u t) f) y (one.1 f (sound (done w (Keep u t) f) y)))
      by true false true is rest =
          let one = comes w (keep_on b t u) ds (Do (Make (Note u t))) is al in
          move w k (keep_on b t u) (Note u t) ds tt is one.0 (λ f y. rest (done w (Note u t) f) y (one.1 f (sound (done w (Note u t) f) y)))
      by true false false is rest = window-entry Fin tag w (keep_on b t u) ds Pass is (good w k) (rest w k (comes w (keep_on b t u) ds Pass is al))
      by false c r is rest = window-entry Fin tag w (keep_on b t u) ds Pass is (good w k) (rest w k (comes w (keep_on b t u) ds Pass is al))

-- a check that drops the write where it doesn't pass: then the plan ends
pub window-dropped : (Fin : Option ℕ → World → Option Refusal → Type 0) → ((w : World) (r : Option Refusal) → Between w → Fin None w r) → (w : World) → Between w → (n : ℕ) (ok : Control → Bool) (r : Refusal) (ds : List Entry)
    → ((ps : List Pending) → ok (record w.control { pending = ps }) ≡ ok w.control) → AllPending (λ p. Clean (fields_at w.control p.volume)) (filter (is_write n) w.control.pending) → Along w (check_or_drop n ok r ++ ds) → (ok w.control ≡ true → Along w ds → WindowAlong Fin None w ds) → WindowAlong Fin None w (check_or_drop n ok r ++ ds)
window-dropped Fin fin w k n ok r ds same clean al go =
    window-entry Fin None w (drop_unless n ok) more (cond (ok w.control) Pass (Do (Drop n))) refl (good-none w k.sound.rows k.in_sync.fresh k.sound.queue.lone) (by (ok w.control) refl (comes w (drop_unless n ok) more (cond (ok w.control) Pass (Do (Drop n))) refl al))
  where
    more : List Entry
    more = check ok r ∷ ds

    by : (b : Bool) → ok w.control ≡ b → Then w (cond b Pass (Do (Drop n))) (λ v. Along v more) → window_next Fin None w (cond b Pass (Do (Drop n))) (λ tag v. WindowAlong Fin tag v more)
    by true is a = window-check Fin fin w k ok r ds a go
    by false is a =
        window-act Fin (λ w r. fin w (Some r)) w (Drop n) (λ tag v. WindowAlong Fin tag v more) k a.0 clean (λ f b. window-check Fin fin (after_act w (Drop n) f) b ok r ds (a.1 f b.sound) (λ passed al. false_true (same _ ∙ is) passed))
