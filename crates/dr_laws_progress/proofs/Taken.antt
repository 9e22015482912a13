-- At the end of a recovery the secondaries of all members are taken over, and their servers are on.
use Rattle.std.proofs.Common.{ℕ, ◌≡◌, inl, inr, refl, ap, ◌∙◌, Bool, true, false, cond, List, [], ◌∷◌, ◌++◌, map, Option, None}
use Rattle.dr_ids.specs.declared.names.Member.{Member}
use Rattle.dr_ids.specs.declared.refusal.Decision.{Decision}
use Rattle.dr_model.specs.Layout.{is_part}
use Rattle.dr_model.specs.Control.{Fuse, Volume, World}
use Rattle.dr_model.specs.Moves.{Move, TakeOver, Commit, Revert, target, keeps_staged, moved_keeping}
use Rattle.dr_model.specs.Carry.{Act, Make, EndRecovery, act, Turn, Next, Pass, Do, End, Entry, Outcome, carry, continue, go}
use Rattle.dr_model.specs.Entries.{fields_at}
use Rattle.dr_model.specs.RecoveryPlans.{take_over_on, settle_on, end_recovery, recover_entries}
use Rattle.dr_model.specs.Groups.{In}
use Rattle.dr_facts.proofs.Entries.{any_world, AllFine, FineThen, fine-append, fine-each, fine-one}
use Rattle.dr_facts.proofs.SharedEntries.{settle-fine}
use Rattle.dr_facts.proofs.Tables.{at_part, at_cases}
use Rattle.dr_logic.proofs.Tables.{at_same}
use Rattle.dr_logic.proofs.Truth.{false_true}
use Rattle.dr_laws_sound.proofs.Turns.{server_at, next_of, carried_in, done, turn-armed}
use Rattle.dr_laws_sound.proofs.FitsFlash.{as_begun}
use Rattle.dr_laws_recovery.proofs.Keeping.{LeftBut, left-passes, none-left}

module _ (w : World) (ms : List Member) (on : (m : Member) → In m ms → w.control.on (server_at w m.b.0) ≡ true) where
  -- volumes stay on their servers, and servers stay on
  record Stays (u : World) : Type 0 where
    servers : (v : ℕ) → server_at u v ≡ server_at w v
    is_on : (q : ℕ) → u.control.on q ≡ w.control.on q

  -- a member's secondary is taken over
  abbrev IsTaken : World → Member → Type 0
  IsTaken u m = is_part (fields_at u.control m.b.0).secondary ≡ false

  -- those of all members are
  record AllTaken (u : World) : Type 0 where
    stays : Stays u
    taken : (m : Member) → In m ms → IsTaken u m

  -- if it ends well, they are at its end
  abbrev Ends : Outcome → Type 0
  Ends o = o.1 ≡ None → AllTaken o.0

  stays-done : (u : World) (m : Move) (f : Option Fuse) → Stays u → Stays (done u m f)
  stays-done u m f s = record {
    servers = λ v. at_part (λ (y : Volume). y.server) u.control.volume (target m) (moved_keeping (keeps_staged m) (u.control.volume (target m)) (next_of u m) (carried_in u m)) refl v ∙ s.servers v;
    is_on = s.is_on;
  }

  -- a move that leaves the secondary part, or ends it
  still : (u : World) (m : Move) (f : Option Fuse) → (is_part (fields_at u.control (target m)).secondary ≡ false → is_part (next_of u m).secondary ≡ false) → (q : Member) → IsTaken u q → IsTaken (done u m f) q
  still u m f is q =
      at_cases (λ b (y : Volume). is_part (fields_at u.control b).secondary ≡ false → is_part y.fields.secondary ≡ false) u.control.volume (target m) (moved_keeping (keeps_staged m) (u.control.volume (target m)) (next_of u m) (carried_in u m))
      is (λ b ne h. h) q.b.0

  -- ---- one move

  move-ends : (u : World) (m : Move) (rest : World → Outcome) → (u.control.on (server_at u (target m)) ≡ false → Ends (rest u)) → ((f : Option Fuse) → Ends (rest (done u m f))) → let t : Turn = act u (Make m) in Ends (continue t.0 t.1 rest)
  unfolding act
  move-ends u m rest down more = turn-armed u m (λ t. Ends (continue t.0 t.1 rest)) down (λ f e. more f) (λ armed f none. absurd cc) (λ armed f none. absurd cc)

  -- ---- targets are settled

  abbrev Fit : Act → Type 0
  Fit (Make (Commit c a s n)) = Unit {0}
  Fit (Make (Revert c a s n)) = Unit {0}
  Fit (EndRecovery s n) = Unit {0}
  Fit a = ⊥

  settled : (u : World) (m : Move) (f : Option Fuse) → (is_part (fields_at u.control (target m)).secondary ≡ false → is_part (next_of u m).secondary ≡ false) → AllTaken u → AllTaken (done u m f)
  settled u m f is all = record { stays = stays-done u m f all.stays; taken = λ q here. still u m f is q (all.taken q here) }

  act-ends : (u : World) (a : Act) (rest : World → Outcome) → Fit a → AllTaken u → ((v : World) → AllTaken v → Ends (rest v)) → let t : Turn = act u a in Ends (continue t.0 t.1 rest)
  unfolding act
  act-ends u (Make (Commit c a s n)) rest fit all more = move-ends u (Commit c a s n) rest (λ down. more u all) (λ f. more _ (settled u (Commit c a s n) f (λ h. h) all))
  act-ends u (Make (Revert c a s n)) rest fit all more = move-ends u (Revert c a s n) rest (λ down. more u all) (λ f. more _ (settled u (Revert c a s n) f (λ h. h) all))
  act-ends u (EndRecovery s n) rest fit all more = more _ (record { stays = record { servers = all.stays.servers; is_on = all.stays.is_on }; taken = all.taken })
  act-ends u a rest fit all more = absurd fit

  abbrev All : List Entry → Type 0
  All = AllFine any_world (λ u. Fit) (λ r. ⊥)

  next-ends : (u : World) (n : Next) (rest : World → Outcome) (more : Type 0) → AllTaken u → FineThen any_world (λ u. Fit) (λ r. ⊥) u n more → (more → (v : World) → AllTaken v → Ends (rest v)) → Ends (go u n rest)
  next-ends u Pass rest more all fit on = on fit u all
  next-ends u (End r) rest more all fit on = absurd fit
  next-ends u (Do a) rest more all fit on = act-ends u a rest fit.0 all (on fit.1)

  all-end : (u : World) (ds : List Entry) → AllTaken u → All ds → Ends (carry u ds)
  unfolding carry AllFine
  all-end u [] all fit = λ none. all
  all-end u (d ∷ ds) all fit = next-ends u (d u.control) (λ v. carry v ds) (All ds) all (fit u tt) (λ rest v all. all-end v ds all rest)

  settling : (s : ℕ) (d : Decision) → All (map (settle_on s d) ms ++ end_recovery s ∷ [])
  settling s d =
      fine-append any_world (λ u. Fit) (λ r. ⊥) (map (settle_on s d) ms) _
      (fine-each any_world (λ u. Fit) (λ r. ⊥) (settle_on s d) ms (λ m here. settle-fine any_world (λ u. Fit) (λ r. ⊥) s d m (λ no n u any. tt) (λ yes n u any. tt)))
      (fine-one any_world (λ u. Fit) (λ r. ⊥) (end_recovery s) (λ u any. tt))

  -- ---- secondaries are taken over

  abbrev Left : World → List Member → Type 0
  Left u = LeftBut ms (IsTaken u)

  taking : (rest : List Member) (es : List Entry) → ((m : Member) → In m rest → In m ms) → ((u : World) → AllTaken u → Ends (carry u es)) → (u : World) → Stays u → Left u rest → Ends (carry u (map take_over_on rest ++ es))
  unfolding carry
  taking [] es here end u s left = end u (record { stays = s; taken = none-left ms (IsTaken u) left })
  taking (m ∷ rest) es here end u s left = by (λ v stays left. taking rest es (λ q h. here q (inr h)) end v stays left) (is_part (fields_at u.control m.b.0).secondary) refl
    where
      runs : u.control.on (server_at u m.b.0) ≡ true
      runs = s.is_on (server_at u m.b.0) ∙ (ap w.control.on (s.servers m.b.0) ∙ on m (here m (inl refl)))

      taken : ((v : World) → Stays v → Left v rest → Ends (carry v (map take_over_on rest ++ es))) → (f : Option Fuse) → Ends (carry (done u (TakeOver m.b.0) f) (map take_over_on rest ++ es))
      taken further f = further (done u (TakeOver m.b.0) f) (stays-done u (TakeOver m.b.0) f s)
          (left-passes ms (IsTaken u) (IsTaken (done u (TakeOver m.b.0) f)) m rest left (still u (TakeOver m.b.0) f (λ e. refl))
          (ap (λ (y : Volume). is_part y.fields.secondary) (at_same u.control.volume m.b.0 (moved_keeping (keeps_staged (TakeOver m.b.0)) (u.control.volume m.b.0) (next_of u (TakeOver m.b.0)) (carried_in u (TakeOver m.b.0))))))

      by : ((v : World) → Stays v → Left v rest → Ends (carry v (map take_over_on rest ++ es))) → (b : Bool) → is_part (fields_at u.control m.b.0).secondary ≡ b → Ends (go u (cond b (Do (Make (TakeOver m.b.0))) Pass) (λ v. carry v (map take_over_on rest ++ es)))
      by further true is = move-ends u (TakeOver m.b.0) (λ v. carry v (map take_over_on rest ++ es)) (λ down. false_true down runs) (taken further)
      by further false is = further u s (left-passes ms (IsTaken u) (IsTaken u) m rest left (λ q h. h) is)

  begins : Stays (as_begun w)
  begins = record { servers = λ v. refl; is_on = λ q. refl }

  -- ---- the whole recovery

  abbrev e : ℕ → Decision → Outcome
  e s d = carry (as_begun w) (recover_entries s d ms)

  ended : (s : ℕ) (d : Decision) → Ends (e s d)
  ended s d = taking ms (map (settle_on s d) ms ++ end_recovery s ∷ []) (λ m h. h) (λ u all. all-end u (map (settle_on s d) ms ++ end_recovery s ∷ []) all (settling s d)) (as_begun w) begins (λ q h. inl h)

  pub ends-taken : (s : ℕ) (d : Decision) → (carry (as_begun w) (recover_entries s d ms)).1 ≡ None → (m : Member) → In m ms → is_part (fields_at (carry (as_begun w) (recover_entries s d ms)).0.control m.b.0).secondary ≡ false
  ends-taken s d none = (ended s d none).taken

  pub ends-running : (s : ℕ) (d : Decision) → (carry (as_begun w) (recover_entries s d ms)).1 ≡ None → (m : Member) → In m ms → let u : World = (carry (as_begun w) (recover_entries s d ms)).0 in u.control.on (server_at u m.b.0) ≡ true
  ends-running s d none m here = let k : Stays (e s d).0 = (ended s d none).stays in k.is_on _ ∙ (ap w.control.on (k.servers m.b.0) ∙ on m here)
