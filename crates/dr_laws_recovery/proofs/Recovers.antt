-- Along a recovery, wherever a server stops in it, and where reads fail: another one makes the same of the session.
use Rattle.std.proofs.Common.{ℕ, ◌≡◌, inl, inr, refl, ap, sym, ◌∙◌, subst, Bool, true, false, cond, ◌||◌, List, [], ◌∷◌, ◌++◌, Option, Some, None}
use Rattle.std.specs.Prelude.{◌&&◌, ◌==◌}
use Rattle.std.proofs.lemmas.Bool.{or_right}
use Rattle.std.proofs.lemmas.Bool.Decides.{eqb_tells}
use Rattle.dr_ids.specs.declared.names.Member.{Member}
use Rattle.dr_ids.specs.declared.refusal.Refusal.{Refusal}
use Rattle.dr_ids.specs.declared.refusal.Decision.{Decision}
use Rattle.dr_ids.specs.declared.refusal.Kind.TheVariants.{Session as OfSession, Volume as OfVolume}
use Rattle.dr_model.specs.Refusals.{unknown}
use Rattle.dr_model.specs.declared.event.Event.{Event}
use Rattle.dr_model.specs.Histories.{histories}
use Rattle.dr_model.specs.Layout.{Fields}
use Rattle.dr_model.specs.Decisions.{Shown, decision}
use Rattle.dr_model.specs.Messages.{Flight}
use Rattle.dr_model.specs.Control.{Fuse, Pending, Volume, World}
use Rattle.dr_model.specs.Relations.{committed, reverted}
use Rattle.dr_model.specs.Pairs.{taken_over}
use Rattle.dr_model.specs.Moves.{Move, TakeOver, FallBack, Yield, Commit, Revert, target, keeps_staged, moved_keeping, LeavePrimary}
use Rattle.dr_model.specs.Carry.{Act, Make, EndRecovery}
use Rattle.dr_model.specs.ReadStops.{Ends}
use Rattle.dr_model.specs.Entries.{fields_at, relation_state}
use Rattle.dr_model.specs.SessionEntries.{counts_in, shown_of, shown_by_members}
use Rattle.dr_model.specs.RecoveryPlans.{lets_revert, decided_in, secondary_refusal, settle_on, recover_entries, recover_done, recover_plan, untaken_refusal, forbidden_unless, settle_refusal, settle_member, settle_target, settle_plan, member_of_target, revertible_target}
use Rattle.dr_model.specs.declared.said.Said.TheVariants as Said
use Rattle.dr_model.specs.declared.said.Addition.TheVariants.{Alone}
use Rattle.dr_model.specs.declared.step.Name.{Name}
use Rattle.dr_model.specs.SessionPlans.{name_refusal, off_refusal}
use Rattle.std.specs.List.{find}
use Rattle.std.specs.Option.{option_or}
use Rattle.dr_model.specs.PlanParts.{Plan, refuses, unless, on_session, entries_plan, is_defined}
use Rattle.dr_model.specs.Carried.{begun, finish}
use Rattle.dr_model.specs.Sessions.{Session, session_in, members_in}
use Rattle.dr_model.specs.Groups.{In}
use Rattle.dr_model.specs.Attempts.{seen_in, NoneCommitted, Attempts}
use Rattle.dr_model.specs.Table.{table, due}
use Rattle.dr_model.specs.Rows.{after, next_due}
use Rattle.dr_model.specs.Laws.{SoundRows, Sound, sizes}
use Rattle.dr_model.specs.Allowed.{Allowed, May}
use Rattle.dr_laws_sessions.specs.Frames.{Moves}
use Rattle.dr_facts.proofs.Lists.{found as found-one}
use Rattle.dr_laws_sessions.proofs.Changes.{session-found}
use Rattle.dr_laws_recovery.specs.BothViews.{Settles}
use Rattle.dr_model.specs.Recovery.{decided_over, remains_in, number_after}
use Rattle.dr_laws_recovery.specs.Recovered.{recovered_in, SameRecovery, KeepsRecovery}
use Rattle.dr_facts.proofs.Tables.{at_cases}
use Rattle.dr_laws_sound.proofs.Turns.{next_of, carried_in, done, done_in_stop, after_act}
use Rattle.dr_laws_sound.proofs.RowsAfter.{table-done, table-stop}
use Rattle.dr_laws_sound.proofs.KeepsSound.{sound-done, sound-stop}
use Rattle.dr_laws_sound.proofs.FitsFlash.{as_begun, sound-begun}
use Rattle.dr_laws_sound.proofs.FitsRecovery.{along-recover, along-settle}
use Rattle.dr_laws_sound.proofs.Rides.{Rides, Both}
use Rattle.dr_laws_recovery.proofs.Keeping.{MayFit, keeps-fit, fit-along, Keeping, Goes, refused-goes, goes-unless, goes-moment, goes-ends, goes-after, finish-goes}
use Rattle.dr_facts.proofs.SharedEntries.{settle-fine, recover-fine}
use Rattle.dr_facts.proofs.Entries.{any_reason, AllFine, fine-one}
use Rattle.dr_laws_recovery.proofs.Recovered.{Alike, alike-refl, alike-then, alike-still, alike-away, alike-committed, alike-reverted}
use Rattle.dr_laws_recovery.proofs.DecidedOver.{members-decide, some-commits, none-reverts, commit-some, revert-none}
use Rattle.dr_laws_recovery.proofs.RecoverySame.{recovery-same, is-revertible, elsewhere, left-away, part-stays, decided-still, others-count, decided-away}
use Rattle.dr_laws_sound.proofs.Along as along
use Rattle.dr_facts.proofs.Refusals.{none-both}

module _ (w : World) (s : ℕ) where
  abbrev pub reverts : World → Bool
  reverts u = lets_revert (decided_over (fields_at u.control) u.control.volumes s)

  -- Sessions and volumes are as they were, but for what a recovery does, which makes none revertible. Where there is one left to commit
  -- or revert, what is decided lets the same be done.
  pub record Keeps (u : World) : Type 0 where
    pub volumes : u.control.volumes ≡ w.control.volumes
    pub sessions : u.control.sessions ≡ w.control.sessions
    pub plain : (v : ℕ) → (fields_at w.control v).revertible ≡ false → (fields_at u.control v).revertible ≡ false
    pub alike : Alike s (reverts w) (table w) (table u)
    pub decides : (v : ℕ) → In v u.control.volumes → counts_in s (fields_at u.control v) ≡ true → (fields_at u.control v).revertible ≡ true → reverts u ≡ reverts w

  pub keeps-begin : Keeps w
  keeps-begin = record { volumes = refl; sessions = refl; plain = λ v h. h; alike = alike-refl s (reverts w) (table w); decides = λ v h c r. refl }

  -- so a recovery makes the same
  pub keeps-recovery : (u : World) → Keeps u → SameRecovery (sizes w.control) (recovered_in w s) (recovered_in u s)
  keeps-recovery u k = recovery-same s (reverts u) (reverts w) w u k.volumes k.decides k.alike

  -- whatever servers are on, writes wait, messages are in flight and the journal is told
  pub keeps-told : (u : World) (on : ℕ → Bool) (fuse : ℕ → Option Fuse) (pending : List Pending) (flight : Flight) (events : List Event) → Keeps u → Keeps (record u { control = record u.control { on = on; fuse = fuse; pending = pending; flight = flight }; events = events })
  keeps-told u on fuse pending flight events k = record {
    volumes = k.volumes;
    sessions = k.sessions;
    plain = k.plain;
    alike = λ v. let a = k.alike v in record { tracks_same = a.tracks_same; remains = a.remains; number = a.number; image = a.image };
    decides = k.decides;
  }

  -- acts of a recovery, which does what was decided where it is one of the session, and of a failover and a failback
  abbrev pub Fit : Act → Type 0
  Fit (Make (TakeOver b)) = Unit {0}
  Fit (Make (LeavePrimary b)) = Unit {0}
  Fit (Make (FallBack v more state)) = Unit {0}
  Fit (Make (Yield v u kind state)) = Unit {0}
  Fit (Make (Commit c a i n)) = i ≡ s → reverts w ≡ false
  Fit (Make (Revert c a i n)) = i ≡ s → reverts w ≡ true
  Fit (EndRecovery i n) = Unit {0}
  Fit a = ⊥

  abbrev pub MayRecover : World → Act → Type 0
  MayRecover = MayFit (λ u. Fit)

  -- ---- one move

  module _ (u j : World) (sessions : j.control.sessions ≡ u.control.sessions) (k : Keeps u) (m : Move) (rows : table j ≡ after (histories u.events).write (table u) m) (moves : Moves u.control j.control (target m) (next_of u m) (carried_in u m)) where
    volumes : j.control.volumes ≡ w.control.volumes
    volumes = moves.volumes ∙ k.volumes

    plain : ((fields_at w.control (target m)).revertible ≡ false → (next_of u m).revertible ≡ false) → (v : ℕ) → (fields_at w.control v).revertible ≡ false → (fields_at j.control v).revertible ≡ false
    plain here v = subst (λ (x : ℕ → Volume). (fields_at w.control v).revertible ≡ false → (x v).fields.revertible ≡ false) (sym moves.volume)
        (at_cases (λ v (y : Volume). (fields_at w.control v).revertible ≡ false → y.fields.revertible ≡ false) u.control.volume (target m) (moved_keeping moves.keeps (u.control.volume (target m)) (next_of u m) (carried_in u m)) here (λ q ne. k.plain q) v)

    alike : Alike s (reverts w) (table u) (after (histories u.events).write (table u) m) → Alike s (reverts w) (table w) (table j)
    alike a = alike-then s (reverts w) (table w) (table u) (table j) k.alike (subst (Alike s (reverts w) (table u)) (sym rows) a)

    -- a move that leaves what is read of its volume
    pub keeps-still : SoundRows (table u) → Attempts u.control → Allowed (histories u.events).write (table u) m → counts_in s (next_of u m) ≡ counts_in s (fields_at u.control (target m)) → shown_of (next_of u m) ≡ shown_of (fields_at u.control (target m))
        → remains_in s (reverts w) (next_of u m) ≡ remains_in s (reverts w) (fields_at u.control (target m)) → number_after (reverts w) (next_of u m) ≡ number_after (reverts w) (fields_at u.control (target m))
        → (Settles (target m) m → ⊥) → ((t : ℕ) → next_due (histories u.events).write m (table u) t ≡ due u (target m) t) → Keeps j
    keeps-still sound law allowed counted shows remains number none dues = record {
      volumes = volumes;
      sessions = sessions ∙ k.sessions;
      plain = plain (λ h. flag ∙ k.plain (target m) h);
      alike = alike (alike-still s (reverts w) (histories u.events).write (table u) sound (is-revertible u law) m allowed remains number (ap (λ b. reverts w && b) flag) none dues);
      decides = λ v h c r. ap lets_revert (decided-still s u j m moves counted shows)
          ∙ k.decides v (subst (In v) moves.volumes h) (sym (part-stays s u j m moves (counts_in s) counted v) ∙ c) (sym (part-stays s u j m moves (λ (f : Fields). f.revertible) flag v) ∙ r);
    }
      where
        flag : (next_of u m).revertible ≡ (fields_at u.control (target m)).revertible
        flag = ap (λ (r : Shown). r.revertible) shows

    -- a move of a volume that doesn't count in the session, before it or after
    keeps-away : SoundRows (table u) → Attempts u.control → Allowed (histories u.events).write (table u) m → counts_in s (fields_at u.control (target m)) ≡ false → counts_in s (next_of u m) ≡ false → (next_of u m).revertible ≡ false → Keeps j
    keeps-away sound law allowed before then_not flag = record {
      volumes = volumes;
      sessions = sessions ∙ k.sessions;
      plain = plain (λ h. flag);
      alike = alike (alike-away s (reverts w) (histories u.events).write (table u) sound (is-revertible u law) m allowed before then_not);
      decides = λ v h c r. ap lets_revert (decided-away s u j m moves before then_not)
          ∙ k.decides v (subst (In v) moves.volumes h) (sym (counted v) ∙ c) (sym (ap (λ (f : Fields). f.revertible) (others-count s u j m moves before v (sym (counted v) ∙ c))) ∙ r);
    }
      where
        counted : (v : ℕ) → counts_in s (fields_at j.control v) ≡ counts_in s (fields_at u.control v)
        counted = part-stays s u j m moves (counts_in s) (then_not ∙ sym before)

  module _ (u j : World) (sound : Sound u) (after_sound : Sound j) (sessions : j.control.sessions ≡ u.control.sessions) (k : Keeps u) where
    keeps-taken : (b : ℕ) → May u (TakeOver b) → table j ≡ after (histories u.events).write (table u) (TakeOver b) → Moves u.control j.control b (taken_over (fields_at u.control b)) None → Keeps j
    keeps-taken b may rows moves = keeps-still u j sessions k (TakeOver b) rows moves sound.rows sound.attempts may.allowed refl refl refl refl (λ n. n) (λ t. refl)

    keeps-committed : (c a i n : ℕ) → May u (Commit c a i n) → (i ≡ s) × (reverts w ≡ false) → table j ≡ after (histories u.events).write (table u) (Commit c a i n) → Moves u.control j.control c (committed n (fields_at u.control c)) None → Keeps j
    keeps-committed c a i n may fit rows moves =
        let p = may.group.place in
        let q : Member = p.member in
        let x : Session = p.session in
        let is : q.c.0 ≡ c = may.group.target in
        let own : Moves u.control j.control q.c.0 (committed n (fields_at u.control q.c.0)) None = subst (λ c. Moves u.control j.control c (committed n (fields_at u.control c)) None) (sym is) moves in
        record {
          volumes = volumes u j sessions k (Commit c a i n) rows moves;
          sessions = sessions ∙ k.sessions;
          plain = plain u j sessions k (Commit c a i n) rows moves (λ h. refl);
          alike = alike u j sessions k (Commit c a i n) rows moves (alike-committed s (reverts w) (histories u.events).write (table u) sound.rows (is-revertible u sound.attempts) c a i n may.allowed fit.1);
          decides = λ v h counted r.
              some-commits j.control after_sound.groups after_sound.attempts s x (subst (In x) (sym sessions) p.listed) (p.number ∙ fit.0) v h counted r
              (commit-some u.control j.control None x q n sound.groups sound.attempts p.listed p.here (ap (λ c. (fields_at u.control c).revertible) is ∙ may.group.revertible) own)
              ∙ sym fit.1;
        }

    keeps-reverted : (c a i n : ℕ) → May u (Revert c a i n) → (i ≡ s) × (reverts w ≡ true) → table j ≡ after (histories u.events).write (table u) (Revert c a i n) → Moves u.control j.control c (reverted n (fields_at u.control c)) None → Keeps j
    keeps-reverted c a i n may fit rows moves =
        let p = may.group.place in
        let q : Member = p.member in
        let x : Session = p.session in
        let is : q.c.0 ≡ c = may.group.target in
        let own : Moves u.control j.control q.c.0 (reverted n (fields_at u.control q.c.0)) None = subst (λ c. Moves u.control j.control c (reverted n (fields_at u.control c)) None) (sym is) moves in
        record {
          volumes = volumes u j sessions k (Revert c a i n) rows moves;
          sessions = sessions ∙ k.sessions;
          plain = plain u j sessions k (Revert c a i n) rows moves (λ h. refl);
          alike = alike u j sessions k (Revert c a i n) rows moves (alike-reverted s (reverts w) (histories u.events).write (table u) sound.rows (is-revertible u sound.attempts) c a i n may.allowed fit.1);
          decides = λ v h counted r.
              none-reverts j.control after_sound.groups after_sound.attempts s x (subst (In x) (sym sessions) p.listed) (p.number ∙ fit.0) v h counted r
              (revert-none u.control j.control None x q n sound.groups sound.attempts p.listed p.here (ap (λ c. (fields_at u.control c).revertible) is ∙ may.group.revertible) own
              (subst (λ n. NoneCommitted n (seen_in u.control x)) may.group.last may.group.none))
              ∙ sym fit.1;
        }

    keeps-moved : (m : Move) → May u m → Fit (Make m) → table j ≡ after (histories u.events).write (table u) m → Moves u.control j.control (target m) (next_of u m) (carried_in u m) → Keeps j
    keeps-moved (TakeOver b) may fit rows moves = keeps-taken b may rows moves
    keeps-moved (LeavePrimary b) may fit rows moves = keeps-still u j sessions k (LeavePrimary b) rows moves sound.rows sound.attempts may.allowed refl refl refl refl (λ n. n) (λ t. refl)
    keeps-moved (FallBack v more state) may fit rows moves = keeps-still u j sessions k (FallBack v more state) rows moves sound.rows sound.attempts may.allowed refl refl refl refl (λ n. n) (λ t. refl)
    keeps-moved (Yield v p kind state) may fit rows moves = keeps-still u j sessions k (Yield v p kind state) rows moves sound.rows sound.attempts may.allowed refl refl refl refl (λ n. n) (λ t. refl)
    keeps-moved (Commit c a i n) may fit rows moves = elim (eqb_tells i s) [
      | inl is ↦ keeps-committed c a i n may (is.1, fit is.1) rows moves
      | inr not ↦ let p = may.group.place in
          let none = elsewhere u sound s c i p.member p.session p.listed p.number p.here may.group.target (or_right (fields_at u.control c).member _ may.group.revertible) not.1 in
          keeps-away u j sessions k (Commit c a i n) rows moves sound.rows sound.attempts may.allowed (ap (λ b. b && ((fields_at u.control c).member || (fields_at u.control c).revertible)) none) (ap (λ b. b && true) none) refl
    ]
    keeps-moved (Revert c a i n) may fit rows moves = elim (eqb_tells i s) [
      | inl is ↦ keeps-reverted c a i n may (is.1, fit is.1) rows moves
      | inr not ↦ let p = may.group.place in
          let none = elsewhere u sound s c i p.member p.session p.listed p.number p.here may.group.target (or_right (fields_at u.control c).member _ may.group.revertible) not.1 in
          keeps-away u j sessions k (Revert c a i n) rows moves sound.rows sound.attempts may.allowed (ap (λ b. b && ((fields_at u.control c).member || (fields_at u.control c).revertible)) none) (left-away s (fields_at u.control c).member (fields_at u.control c).session none) refl
    ]
    keeps-moved m may fit rows moves = absurd fit

  -- ---- the acts

  acts : Rides Sound Keeps MayRecover
  acts = record { does = does; counts = counts; opens = λ u v i n f j k may. absurd may.1; fails = λ u a f d j k may. keeps-told u _ _ _ _ _ k }
    where
      does : (u : World) (a : Act) (f : Option Fuse) → Sound u → Keeps u → MayRecover u a → Keeps (after_act u a f)
      does u (Make m) f j k may = keeps-moved u (done u m f) j (sound-done None u m f j may.0) refl k m may.0 may.1 (table-done u j.rows.structure m f j.rows.images.blank may.0.allowed may.0.ready) (record { volumes = refl; keeps = keeps_staged m; volume = refl })
      does u (EndRecovery i n) f j k may = keeps-told u _ _ _ _ _ k
      does u a f j k may = absurd may.1

      counts : (u : World) (m : Move) (f : Option Fuse) → Sound u → Keeps u → MayRecover u (Make m) → Keeps (done_in_stop u m f)
      counts u m f j k may = keeps-moved u (done_in_stop u m f) j (sound-stop None u m f j may.0) refl k m may.0 may.1 (table-stop u j.rows.structure m f j.rows.images.blank may.0.allowed may.0.ready) (record { volumes = refl; keeps = keeps_staged m; volume = refl })

  -- ---- the entries

  -- what is decided lets commits or reverts fit
  abbrev Decides : ℕ → Decision → Type 0
  Decides r d = r ≡ s → lets_revert d ≡ reverts w

  recover-fits : (r : ℕ) (d : Decision) → Decides r d → (ms : List Member) → AllFine Keeps (λ u. Fit) any_reason (recover_entries r d ms)
  recover-fits r d is ms = recover-fine Keeps (λ u. Fit) any_reason r d ms (λ m here u k part. tt) (λ m here no n u k e. sym (is e) ∙ no) (λ m here yes n u k e. sym (is e) ∙ yes) (λ n u k. tt)

  settle-fits : (r : ℕ) (d : Decision) → Decides r d → (m : Member) → AllFine Keeps (λ u. Fit) any_reason (settle_on r d m ∷ [])
  settle-fits r d is m = fine-one Keeps (λ u. Fit) any_reason (settle_on r d m) (settle-fine Keeps (λ u. Fit) any_reason r d m (λ no n u k e. sym (is e) ∙ no) (λ yes n u k e. sym (is e) ∙ yes))

-- ---- a recovery

module _ (w : World) (sound : Sound w) (s : ℕ) where
  abbrev pub Inner : World → Type 0
  Inner = Both Sound (Keeps w s)

  pub each-act : along.Keeps Inner Inner (MayRecover w s)
  each-act = keeps-fit (Keeps w s) (λ u. Fit w s) (acts w s)

  pub begins : Inner (as_begun w)
  begins = (sound-begun w sound, keeps-told w s w w.control.on w.control.fuse w.control.pending w.control.flight (w.events ++ []) (keeps-begin w s))

  -- wherever a plan comes to, another recovery makes the same, where its entries do what was decided
  abbrev pub Same : World → Type 0
  Same u = SameRecovery (sizes w.control) (recovered_in w s) (recovered_in u s)

  abbrev keeping : Keeping w Same
  keeping = record { law = Inner; may = MayRecover w s; keeps = each-act; gives = λ u j. keeps-recovery w s u j.1; told = λ v on es h. h; begins = begins }

  abbrev pub GoesOn : Plan → Type 0
  GoesOn = Goes w Same keeping

  pub decided-is : (r : ℕ) (x : Session) → session_in w.control.sessions r ≡ Some x → decided_in r w.control ≡ decided_over (fields_at w.control) w.control.volumes r
  decided-is r x found =
      let there = session-found w.control.sessions r x found in
      ap (λ o. decision (shown_by_members r (members_in o) w.control)) found ∙ members-decide w.control sound.groups sound.attempts r x there.0 there.1

  as-decided : (r : ℕ) (x : Session) → session_in w.control.sessions r ≡ Some x → r ≡ s → lets_revert (decided_in r w.control) ≡ reverts w s w
  as-decided r x found is = ap lets_revert (decided-is r x found ∙ ap (decided_over (fields_at w.control) w.control.volumes) is)

  -- ---- a recovery of a session, this or another

  module _ (r : ℕ) where
    abbrev told : Decision
    told = decided_in r w.control

    pub done-goes : (x : Session) → session_in w.control.sessions r ≡ Some x → secondary_refusal x.members w.control ≡ None → GoesOn (recover_done r told x.members)
    done-goes x found running = record {
      begins = keeping.begins;
      entries = fit-along (Keeps w s) (λ u. Fit w s) any_reason Sound (λ v h. h) (recover_entries r told x.members) (recover-fits w s r told (as-decided r x found) x.members) (as_begun w) begins.1 (along-recover w sound r x found running);
      last = λ v h. h;
      follows = λ q. refl;
    }

    goes-session : (o : Option Session) → session_in w.control.sessions r ≡ o → GoesOn (on_session o (λ x. unless (secondary_refusal x.members w.control) (recover_done r told x.members)))
    goes-session None found = refused-goes w Same keeping (unknown OfSession)
    goes-session (Some x) found = goes-unless w Same keeping (secondary_refusal x.members w.control) (recover_done r told x.members) (done-goes x found)

    goes-recover : GoesOn (recover_plan w.control r)
    goes-recover = goes-session (session_in w.control.sessions r) refl

    -- ---- one target by hand

    abbrev hand : Member → Plan
    hand m = entries_plan (settle_on r told m ∷ []) (Said.Done Alone)

    hand-goes : (x : Session) → session_in w.control.sessions r ≡ Some x → secondary_refusal x.members w.control ≡ None → untaken_refusal x.members w.control ≡ None → (m : Member) → In m x.members → GoesOn (hand m)
    hand-goes x found running free m here = record {
      begins = keeping.begins;
      entries = fit-along (Keeps w s) (λ u. Fit w s) any_reason Sound (λ v h. h) (settle_on r told m ∷ []) (settle-fits w s r told (as-decided r x found) m) (as_begun w) begins.1 (along-settle w sound r x found running free m here);
      last = λ v h. h;
      follows = λ q. refl;
    }

    hand-in : (lets : Decision → Bool) (m : Member) (o : Option Session) → session_in w.control.sessions r ≡ o → In m (members_in o) → settle_refusal lets told (members_in o) w.control ≡ None → GoesOn (hand m)
    hand-in lets m None found here free = absurd here
    hand-in lets m (Some x) found here free =
        let rest = none-both (secondary_refusal x.members w.control) _ free in
        hand-goes x found rest.0 (none-both (untaken_refusal x.members w.control) (forbidden_unless (lets told) told) rest.1).0 m here

    hand-member : (lets : Decision → Bool) (b t : ℕ) (o : Option Member) → find (λ m. m.c.0 == t) (members_in (session_in w.control.sessions r)) ≡ o → GoesOn (settle_member w.control lets b r o)
    hand-member lets b t None is = refused-goes w Same keeping (relation_state w.control b)
    hand-member lets b t (Some m) is =
        goes-unless w Same keeping (settle_refusal lets told (members_in (session_in w.control.sessions r)) w.control) (hand m)
        (λ free. hand-in lets m (session_in w.control.sessions r) refl (found-one (λ m. m.c.0 == t) (members_in (session_in w.control.sessions r)) m is).0 free)

  hand-target : (lets : Decision → Bool) (b : ℕ) (o : Option ℕ) → GoesOn (settle_target w.control lets b o)
  hand-target lets b None = refused-goes w Same keeping (relation_state w.control b)
  hand-target lets b (Some t) = hand-member (fields_at w.control t).session lets b t (member_of_target w.control t) refl

  goes-volume : (b : Bool) (p : Plan) → GoesOn p → GoesOn (cond b p (refuses (unknown OfVolume)))
  goes-volume true p go = go
  goes-volume false p go = refused-goes w Same keeping (unknown OfVolume)

  goes-hand : (dev : Option Name) (lets : Decision → Bool) (b : ℕ) → GoesOn (settle_plan w.control dev lets b)
  goes-hand dev lets b =
      goes-volume (is_defined b w.control) _ (goes-unless w Same keeping (option_or (name_refusal w.control dev (w.control.volume b).server) (off_refusal w.control (w.control.volume b).server)) _
      (λ free. hand-target lets b (revertible_target w.control b)))

  -- ---- wherever such plans come to

  pub plan-keeps : (p : Plan) → GoesOn p → KeepsRecovery w p s
  plan-keeps p goes = record { moments = goes-moment w Same keeping p goes; reads = goes-ends w Same keeping p goes; after = goes-after w Same keeping p goes }

  pub recover-keeps : (r : ℕ) → KeepsRecovery w (recover_plan w.control r) s
  recover-keeps r = plan-keeps (recover_plan w.control r) (goes-recover r)

  -- where it ended, with what follows, where servers may go off by themselves
  pub recover-stays : (r n : ℕ) (armed : ℕ → Bool) (u : World) (o : Option Refusal) → Ends armed u o (begun w (recover_plan w.control r)) (recover_plan w.control r).entries → Same (finish (recover_plan w.control r) n u o)
  recover-stays r n armed u o e = let p : Plan = recover_plan w.control r in finish-goes w Same keeping p (goes-recover r) n u o (goes-ends w Same keeping p (goes-recover r) armed u o e)

  pub hand-keeps : (dev : Option Name) (lets : Decision → Bool) (b : ℕ) → KeepsRecovery w (settle_plan w.control dev lets b) s
  hand-keeps dev lets b = plan-keeps (settle_plan w.control dev lets b) (goes-hand dev lets b)
