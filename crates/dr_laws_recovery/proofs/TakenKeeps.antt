-- While the secondaries of all of a session's members are taken over, no exchange changes what a recovery makes of the session.
use Rattle.std.proofs.Common.{ℕ, ◌≡◌, ◌≢◌, refl, ap, sym, ◌∙◌, subst, Bool, true, false, ◌&&◌, ◌||◌, nat_eq, List, [], ◌++◌, Option, Some, None}
use Rattle.std.proofs.lemmas.Bool.{and_parts, or_right, ne_eqb, false_from_ne_true}
use Rattle.dr_ids.specs.declared.names.Member.{Member}
use Rattle.dr_model.specs.declared.step.Name.{Name}
use Rattle.dr_model.specs.declared.event.Event.{Event}
use Rattle.dr_model.specs.Histories.{histories}
use Rattle.dr_model.specs.Layout.{Fields}
use Rattle.dr_model.specs.Decisions.{Shown}
use Rattle.dr_model.specs.Control.{Fuse, Volume, World}
use Rattle.dr_model.specs.Relations.{flashed, committed, reverted}
use Rattle.dr_model.specs.Pairs.{is_secondary_of}
use Rattle.dr_model.specs.Moves.{Move, Hold, Free, Seal, Finish, RaiseFloor, Flash, Commit, Revert, target, keeps_staged, moved_keeping}
use Rattle.dr_model.specs.Carry.{Act, Make, OpenAttempt}
use Rattle.dr_model.specs.Entries.{fields_at}
use Rattle.dr_model.specs.PairEntries.{send_refusal}
use Rattle.dr_model.specs.SessionEntries.{counts_in, shown_of}
use Rattle.dr_model.specs.Messages.{Flight}
use Rattle.dr_model.specs.MessagePlans.{deliver_plan}
use Rattle.dr_model.specs.SessionPlans.{exchange_plan}
use Rattle.dr_model.specs.RecoveryPlans.{lets_revert}
use Rattle.dr_model.specs.PlanParts.{Plan}
use Rattle.dr_model.specs.Sessions.{Session, session_in}
use Rattle.dr_model.specs.Groups.{In}
use Rattle.dr_model.specs.Attempts.{MemberOf}
use Rattle.dr_model.specs.Table.{table, due}
use Rattle.dr_model.specs.Rows.{after, next_due}
use Rattle.dr_model.specs.Laws.{Sound, sizes}
use Rattle.dr_model.specs.Allowed.{Allowed, May, MayOpen}
use Rattle.dr_laws_sessions.specs.Frames.{Moves}
use Rattle.dr_laws_sessions.proofs.Changes.{session-found, same-session}
use Rattle.dr_laws_attempts.proofs.Orders.{sends-to}
use Rattle.dr_laws_recovery.specs.BothViews.{Settles}
use Rattle.dr_model.specs.Recovery.{decided_over, remains_in, number_after}
use Rattle.dr_laws_recovery.specs.Recovered.{recovered_in, SameRecovery, KeepsRecovery}
use Rattle.dr_laws_recovery.specs.TakenOver.{AreTaken}
use Rattle.dr_laws_sound.proofs.Turns.{next_of, carried_in, done, done_in_stop, opened_in_stop, after_act}
use Rattle.dr_laws_sound.proofs.RowsAfter.{table-done, table-stop}
use Rattle.dr_laws_sound.proofs.Rides.{Rides}
use Rattle.dr_laws_recovery.proofs.Recovered.{Alike, alike-refl, alike-then, alike-still, alike-away}
use Rattle.dr_laws_recovery.proofs.RecoverySame.{recovery-same, is-revertible, elsewhere, left-away, decided-still, decided-away}
use Rattle.dr_laws_recovery.proofs.Keeping.{MayFit, goes-moment, goes-ends, goes-after}
use Rattle.dr_laws_recovery.proofs.Exchanges.{FitsMember, Exchanging, keeping, goes-exchange, goes-deliver}
use Rattle.dr_facts.proofs.Tables.{at_part}
use Rattle.dr_logic.proofs.Truth.{false_true}

module _ (w : World) (x : Session) where
  abbrev n : ℕ
  n = x.number

  -- whether a recovery is to revert
  abbrev back : Bool
  back = lets_revert (decided_over (fields_at w.control) w.control.volumes n)

  -- Volumes are as they were, records are alike and what is decided is the same; and no member's secondary is its primary's.
  record Stays (u : World) : Type 0 where
    volumes : u.control.volumes ≡ w.control.volumes
    alike : Alike n back (table w) (table u)
    decided : decided_over (fields_at u.control) u.control.volumes n ≡ decided_over (fields_at w.control) w.control.volumes n
    apart : AreTaken u x

  -- so a recovery makes the same
  abbrev Same : World → Type 0
  Same u = SameRecovery (sizes w.control) (recovered_in w n) (recovered_in u n)

  stays-same : (u : World) → Stays u → Same u
  stays-same u k = recovery-same n (lets_revert (decided_over (fields_at u.control) u.control.volumes n)) back w u k.volumes (λ v h c r. ap lets_revert k.decided) k.alike

  -- whatever the journal is told, and servers are on
  stays-told : (u : World) (on : ℕ → Bool) (fuse : ℕ → Option Fuse) (events : List Event) → Stays u → Stays (record u { control = record u.control { on = on; fuse = fuse }; events = events })
  stays-told u on fuse events k = record {
    volumes = k.volumes;
    alike = λ v. let a = k.alike v in record { tracks_same = a.tracks_same; remains = a.remains; number = a.number; image = a.image };
    decided = k.decided;
    apart = k.apart;
  }

  -- and whatever sessions and messages there are
  stays-retabled : (u : World) (ss : List Session) (f : Flight) → Stays u → Stays (record u { control = record u.control { sessions = ss; flight = f } })
  stays-retabled u ss f k = record {
    volumes = k.volumes;
    alike = λ v. let a = k.alike v in record { tracks_same = a.tracks_same; remains = a.remains; number = a.number; image = a.image };
    decided = k.decided;
    apart = k.apart;
  }

  -- what is flashed, committed or reverted is no target of this session
  abbrev FitMove : Move → Type 0
  FitMove (Hold v s k first) = Unit {0}
  FitMove (Free v) = Unit {0}
  FitMove (Seal v u s k) = Unit {0}
  FitMove (Finish v k) = Unit {0}
  FitMove (RaiseFloor v k) = Unit {0}
  FitMove (Flash v u a s k) = s ≢ n
  FitMove (Commit v a s k) = s ≢ n
  FitMove (Revert v a s k) = s ≢ n
  FitMove m = ⊥

  abbrev Fit : Act → Type 0
  Fit (Make m) = FitMove m
  Fit (OpenAttempt v s k) = Unit {0}
  Fit a = ⊥

  -- ---- one move

  module _ (u j : World) (sound : Sound u) (k : Stays u) (m : Move) (rows : table j ≡ after (histories u.events).write (table u) m) (moves : Moves u.control j.control (target m) (next_of u m) (carried_in u m))
      (allowed : Allowed (histories u.events).write (table u) m) (parts : (p : ℕ) → is_secondary_of p (next_of u m) ≡ is_secondary_of p (fields_at u.control (target m))) where
    stays-by : Alike n back (table u) (after (histories u.events).write (table u) m) → decided_over (fields_at j.control) j.control.volumes n ≡ decided_over (fields_at u.control) u.control.volumes n → Stays j
    stays-by alike decided = record {
      volumes = moves.volumes ∙ k.volumes;
      alike = alike-then n back (table w) (table u) (table j) k.alike (subst (Alike n back (table u)) (sym rows) alike);
      decided = decided ∙ k.decided;
      apart = λ q here. ap (λ (f : ℕ → Volume). is_secondary_of q.a.0 (f q.b.0).fields) moves.volume
          ∙ (at_part (λ (y : Volume). is_secondary_of q.a.0 y.fields) u.control.volume (target m) (moved_keeping moves.keeps (u.control.volume (target m)) (next_of u m) (carried_in u m)) (parts q.a.0) q.b.0 ∙ k.apart q here);
    }

    -- one that leaves what is read of its volume
    stays-still : counts_in n (next_of u m) ≡ counts_in n (fields_at u.control (target m)) → shown_of (next_of u m) ≡ shown_of (fields_at u.control (target m))
        → remains_in n back (next_of u m) ≡ remains_in n back (fields_at u.control (target m)) → number_after back (next_of u m) ≡ number_after back (fields_at u.control (target m))
        → (Settles (target m) m → ⊥) → ((t : ℕ) → next_due (histories u.events).write m (table u) t ≡ due u (target m) t) → Stays j
    stays-still counted shows remains number none dues = stays-by
        (alike-still n back (histories u.events).write (table u) sound.rows (is-revertible u sound.attempts) m allowed remains number (ap (λ (r : Shown). back && r.revertible) shows) none dues)
        (decided-still n u j m moves counted shows)

    -- one of a volume that doesn't count in the session, before it or after
    stays-away : counts_in n (fields_at u.control (target m)) ≡ false → counts_in n (next_of u m) ≡ false → Stays j
    stays-away before then_not = stays-by
        (alike-away n back (histories u.events).write (table u) sound.rows (is-revertible u sound.attempts) m allowed before then_not)
        (decided-away n u j m moves before then_not)

  -- a target of another session's member counts there, or nowhere
  module _ (u : World) (sound : Sound u) (c a i : ℕ) (place : MemberOf u.control i a) (is : place.member.c.0 ≡ c) (other : i ≢ n) where
    abbrev f : Fields
    f = fields_at u.control c

    counts-there : (f.member || f.revertible) ≡ true → nat_eq f.session n ≡ false
    counts-there counted = elsewhere u sound n c i place.member place.session place.listed place.number place.here is counted other

    uncounted : counts_in n f ≡ false
    uncounted = false_from_ne_true _ (λ e. let both = and_parts (nat_eq f.session n) (f.member || f.revertible) e in false_true (counts-there both.1) both.0)

    after-flash : (q : ℕ) → counts_in n (flashed i q f) ≡ false
    after-flash q = ap (λ b. b && (f.member || true)) (ne_eqb i n other)

    after-commit : f.revertible ≡ true → (q : ℕ) → counts_in n (committed q f) ≡ false
    after-commit h q = ap (λ b. b && true) (counts-there (or_right f.member f.revertible h))

    after-revert : f.revertible ≡ true → (q : ℕ) → counts_in n (reverted q f) ≡ false
    after-revert h q = left-away n f.member f.session (counts-there (or_right f.member f.revertible h))

  stays-moved : (u j : World) → Sound u → Stays u → (m : Move) → May u m → FitMove m → table j ≡ after (histories u.events).write (table u) m → Moves u.control j.control (target m) (next_of u m) (carried_in u m) → Stays j
  stays-moved u j sound k (Hold v s i first) may fit rows moves = stays-still u j sound k (Hold v s i first) rows moves may.allowed (λ p. refl) refl refl refl refl (λ h. h) (λ t. refl)
  stays-moved u j sound k (Free v) may fit rows moves = stays-still u j sound k (Free v) rows moves may.allowed (λ p. refl) refl refl refl refl (λ h. h) (λ t. refl)
  stays-moved u j sound k (Seal v p s i) may fit rows moves = stays-still u j sound k (Seal v p s i) rows moves may.allowed (λ p. refl) refl refl refl refl (λ h. h) (λ t. refl)
  stays-moved u j sound k (Finish v i) may fit rows moves = stays-still u j sound k (Finish v i) rows moves may.allowed (λ p. refl) refl refl refl refl (λ h. h) (λ t. refl)
  stays-moved u j sound k (RaiseFloor v i) may fit rows moves = stays-still u j sound k (RaiseFloor v i) rows moves may.allowed (λ p. refl) refl refl refl refl (λ h. h) (λ t. refl)
  stays-moved u j sound k (Flash c b a i q) may other rows moves =
      let g = may.group in
      stays-away u j sound k (Flash c b a i q) rows moves may.allowed (λ p. refl) (uncounted u sound c a i g.place g.target other) (after-flash u sound c a i g.place g.target other q)
  stays-moved u j sound k (Commit c a i q) may other rows moves =
      let g = may.group in
      stays-away u j sound k (Commit c a i q) rows moves may.allowed (λ p. refl) (uncounted u sound c a i g.place g.target other) (after-commit u sound c a i g.place g.target other g.revertible q)
  stays-moved u j sound k (Revert c a i q) may other rows moves =
      let g = may.group in
      stays-away u j sound k (Revert c a i q) rows moves may.allowed (λ p. refl) (uncounted u sound c a i g.place g.target other) (after-revert u sound c a i g.place g.target other g.revertible q)
  stays-moved u j sound k m may fit rows moves = absurd fit

  -- ---- the acts

  opened : (u j : World) → Sound u → Stays u → (v s i : ℕ) → MayOpen u v s i → table j ≡ after (histories u.events).write (table u) (Hold v s i true) → Moves u.control j.control v (next_of u (Hold v s i true)) None → Stays j
  opened u j sound k v s i may rows moves = stays-still u j sound k (Hold v s i true) rows moves may.allowed (λ p. refl) refl refl refl refl (λ h. h) (λ t. refl)

  acts : Rides Sound Stays (MayFit (λ u. Fit))
  acts = record { does = does; counts = counts; opens = opens; fails = λ u a f d j k may. stays-told u _ _ _ k }
    where
      does : (u : World) (a : Act) (f : Option Fuse) → Sound u → Stays u → MayFit (λ u. Fit) u a → Stays (after_act u a f)
      does u (Make m) f j k may = stays-moved u (done u m f) j k m may.0 may.1 (table-done u j.rows.structure m f j.rows.images.blank may.0.allowed may.0.ready) (record { volumes = refl; keeps = keeps_staged m; volume = refl })
      does u (OpenAttempt v s i) f j k may =
          opened u (after_act u (OpenAttempt v s i) f) j k v s i may.0 (table-done u j.rows.structure (Hold v s i true) f j.rows.images.blank may.0.allowed may.0.ready) (record { volumes = refl; keeps = true; volume = refl })
      does u a f j k may = absurd may.1

      counts : (u : World) (m : Move) (f : Option Fuse) → Sound u → Stays u → MayFit (λ u. Fit) u (Make m) → Stays (done_in_stop u m f)
      counts u m f j k may = stays-moved u (done_in_stop u m f) j k m may.0 may.1 (table-stop u j.rows.structure m f j.rows.images.blank may.0.allowed may.0.ready) (record { volumes = refl; keeps = keeps_staged m; volume = refl })

      opens : (u : World) (v s i : ℕ) (f : Option Fuse) → Sound u → Stays u → MayFit (λ u. Fit) u (OpenAttempt v s i) → Stays (opened_in_stop u v s i f)
      opens u v s i f j k may =
          opened u (opened_in_stop u v s i f) j k v s i may.0 (table-stop u j.rows.structure (Hold v s i true) f j.rows.images.blank may.0.allowed may.0.ready) (record { volumes = refl; keeps = true; volume = refl })

module _ (w : World) (sound : Sound w) (x : Session) (listed : In x w.control.sessions) (taken : AreTaken w x) where
  -- where a member's primary can send, it is none of this session
  sends-other : (s : ℕ) (y : Session) → session_in w.control.sessions s ≡ Some y → (q : Member) → In q y.members → (u : World) → Stays w x u → send_refusal q.a.0 q.b.0 u.control ≡ None → s ≢ x.number
  sends-other s y found q here u k sends e =
      let there = session-found w.control.sessions s y found in
      let is : y ≡ x = same-session w.control.sessions y x sound.groups.once there.0 listed (there.1 ∙ e) in
      false_true (k.apart q (subst (λ (y : Session). In q y.members) is here)) (sends-to q.a.0 q.b.0 u.control sends)

  fits-member : (s : ℕ) (y : Session) → session_in w.control.sessions s ≡ Some y → (q : Member) → In q y.members → FitsMember (Stays w x) (Fit w x) s q
  fits-member s y found q here = record {
    opens = λ i. tt;
    holds = λ i. tt;
    frees = tt;
    seals = λ i. tt;
    finishes = λ i. tt;
    flashes = λ u k sends i. sends-other s y found q here u k sends;
    commits = λ u k sends i. sends-other s y found q here u k sends;
    reverts = λ u k sends i. sends-other s y found q here u k sends;
    raises = λ u k sends i. tt;
  }

  abbrev law : Exchanging w (Same w x)
  law = record {
    law = Stays w x;
    fit = Fit w x;
    acts = acts w x;
    begins = stays-told w x w w.control.on w.control.fuse (w.events ++ []) (record { volumes = refl; alike = alike-refl x.number (back w x) (table w); decided = refl; apart = taken });
    members = fits-member;
    gives = stays-same w x;
    told = λ v on es h. h;
    regroups = λ v ss f h. h;
    retabled = stays-retabled w x;
  }

  pub exchange-keeps : (s : ℕ) (name : Name) (reply : Bool) → KeepsRecovery w (exchange_plan w.control s name reply) x.number
  exchange-keeps s name reply =
      let p : Plan = exchange_plan w.control s name reply in
      let goes = goes-exchange w sound (Same w x) law s name reply in
      record {
        moments = goes-moment w (Same w x) (keeping w sound (Same w x) law) p goes;
        reads = goes-ends w (Same w x) (keeping w sound (Same w x) law) p goes;
        after = goes-after w (Same w x) (keeping w sound (Same w x) law) p goes;
      }

  pub delivery-keeps : (n : ℕ) → KeepsRecovery w (deliver_plan w.control n) x.number
  delivery-keeps n =
      let p : Plan = deliver_plan w.control n in
      let goes = goes-deliver w sound (Same w x) law n in
      record {
        moments = goes-moment w (Same w x) (keeping w sound (Same w x) law) p goes;
        reads = goes-ends w (Same w x) (keeping w sound (Same w x) law) p goes;
        after = goes-after w (Same w x) (keeping w sound (Same w x) law) p goes;
      }
