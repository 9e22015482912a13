-- Each kind of move keeps the laws of attempts.
use Rattle.std.proofs.Common.{ℕ, ◌≡◌, ◌≤◌, ◌<◌, ◌⊎◌, inl, inr, refl, ap, sym, ◌∙◌, max, Bool, true, false, cond, not, ◌&&◌, ◌||◌, nat_eq, arith, List, subst, Option, Some, None}
use Rattle.std.proofs.Math.Path.{fun_ext}
use Rattle.std.proofs.lemmas.Bool.{and_parts, eqb-true, not-true, or_parts, or_from}
use Rattle.std.proofs.Math.Bool.{or-true}
use Rattle.dr_logic.specs.Tables.{at}
use Rattle.dr_ids.specs.declared.names.Member.{Member}
use Rattle.dr_model.specs.Layout.{Fields, is_part}
use Rattle.dr_model.specs.Control.{Control, Volume}
use Rattle.dr_model.specs.Views.{source_of}
use Rattle.dr_model.specs.Relations.{is_whole, is_bare, parted_if, turned, given_up, fetched, noted, rewritten}
use Rattle.dr_model.specs.Pairs.{primary_of, is_secondary_of}
use Rattle.dr_model.specs.Phases as phases
use Rattle.dr_model.specs.Moves.{Move, Overwrite, Keep, Relate, Withdraw, Fetch, Resync, Reverse, Release, Store, Suspend, MakeSecondary, MakePrimary, DropPrimary, Yield, DropSecondary, TakeOver, LeavePrimary, FallBack, Lift, Restart, Hold, Free, Seal, Finish, RaiseAttempt, RaiseFloor, Leave, Flash, Commit, Revert, Carried, moved_keeping, target, next_fields}
use Rattle.dr_model.specs.Entries.{fields_at, is_at, copies_from}
use Rattle.dr_model.specs.SessionEntries.{may_flash}
use Rattle.dr_model.specs.Sessions.{Session}
use Rattle.dr_model.specs.Groups.{In, IsAt, Groups, IsMember, Due}
use Rattle.dr_model.specs.Attempts.{Role, Roles, role_of, roles, seen_of, seen, all_seen, counts, All, NoneRevertible, NoneCommitted, SomeCommitted, AllHeld, phase_of, owed_of, reports_of, IsTarget, AttemptsIn, Attempts, Persists, DoesNotCount, MayGo, MayFree, MayFollow, MemberOf, IsSilent, SealsMember, FlashesMember, CommitsMember, RevertsMember, InAttempt}
use Rattle.dr_model.specs.Flights.{Flights}
use Rattle.dr_laws_sessions.specs.Frames.{Moves}
use Rattle.dr_facts.proofs.Lists.{to-map}
use Rattle.dr_laws_sessions.proofs.Changes.{same-session}
use Rattle.dr_laws_attempts.proofs.Facts.{bool_cases, stood}
use Rattle.dr_laws_attempts.proofs.Turns.{Kind, Raise, Go, IsAsked, Ordered, TakesBack, MayTurn, MayTry, MaySeal, MayPair}
use Rattle.dr_laws_attempts.proofs.Turns as turn
use Rattle.dr_laws_attempts.proofs.Dues.{due-asked, hold-comes, seal-comes, flash-comes, commit-comes, revert-comes, release-held, flash-held, commit-flashed}
use Rattle.dr_laws_attempts.proofs.Places.{Stays, Steps, steps-keep, TurnsTo, as_part, tries, pairs, parts, targets}
use Rattle.dr_facts.proofs.Tables.{at_id}
use Rattle.dr_facts.proofs.Relations.{copies-from}
use Rattle.dr_logic.proofs.Truth.{false_true}

-- ---- what the control state says of attempts after a move

pub at_map : {X Y : Type 0} (g : X → Y) (f : ℕ → X) (k : ℕ) (x : X) (q : ℕ) → g (at f k x q) ≡ at (λ q. g (f q)) k (g x) q
at_map g f k x q = by (nat_eq q k)
  where
    by : (b : Bool) → g (cond b x (f q)) ≡ cond b (g x) (g (f q))
    by true = refl
    by false = refl

pub roles-moved : (k j : Control) (v : ℕ) (f : Fields) (c : Carried) → Moves k j v f c → roles j ≡ at (roles k) v (role_of f)
roles-moved k j v f c moves = fun_ext (λ u. ap (λ (w : ℕ → Volume). role_of (w u).fields) moves.volume ∙ at_map (λ (y : Volume). role_of y.fields) k.volume v (moved_keeping moves.keeps (k.volume v) f c) u)

pub attempts-moved : (k j : Control) (v : ℕ) (f : Fields) (c : Carried) → j.sessions ≡ k.sessions → Moves k j v f c → AttemptsIn k.sessions (at (roles k) v (role_of f)) → Attempts j
attempts-moved k j v f c same moves law = subst (λ T. AttemptsIn j.sessions T) (sym (roles-moved k j v f c moves)) (subst (λ ss. AttemptsIn ss (at (roles k) v (role_of f))) (sym same) law)

pub or-first : (a : Bool) → (a || false) ≡ true → a ≡ true
or-first true h = refl
or-first false h = absurd cc

-- whose secondary a volume is, as a test and as its record says
pub is-secondary : (a : ℕ) (f : Fields) → is_secondary_of a f ≡ is_at (primary_of f) a
is-secondary a f = by (is_part f.secondary)
  where
    by : (b : Bool) → (b && nat_eq f.secondary_partner a) ≡ is_at (cond b (Some f.secondary_partner) None) a
    by true = refl
    by false = refl

-- whose secondary a volume is that has a part of some kind
pub secondary-is : (b : Bool) (u a : ℕ) → is_at (cond b (Some u) None) a ≡ true → u ≡ a
secondary-is true u a h = eqb-true u a h
secondary-is false u a h = absurd cc

pub record Flashable (b : ℕ) (f : Fields) : Type 0 where
  pub source : source_of f ≡ Some b
  pub records : f.recorded ≡ true
  pub inhibits : f.inhibited ≡ true
  pub forward : f.reversing ≡ false
  pub plain : f.revertible ≡ false

pub flashable : (b : ℕ) (f : Fields) → may_flash b f ≡ true → Flashable b f
flashable b f h =
    let p = and_parts (copies_from b f) (f.recorded && (f.inhibited && (not f.reversing && not f.revertible))) h in
    let q = and_parts f.recorded (f.inhibited && (not f.reversing && not f.revertible)) p.1 in
    let r = and_parts f.inhibited (not f.reversing && not f.revertible) q.1 in
    let t = and_parts (not f.reversing) (not f.revertible) r.1 in
    record { source = copies-from b f p.0; records = q.0; inhibits = r.0; forward = not-true f.reversing t.0; plain = not-true f.revertible t.1 }

-- what is no target, or is reversing, doesn't count
module _ (k : Control) (law : Attempts k) where
  pub uncounted-by : (v : ℕ) → (IsTarget k.sessions v (roles k v).session (roles k v).source (roles k v).recorded (roles k v).inhibited (roles k v).reversing → ⊥) → ((roles k v).member || (roles k v).revertible) ≡ false
  uncounted-by v never = by (bool_cases ((roles k v).member || (roles k v).revertible))
    where
      by : (((roles k v).member || (roles k v).revertible) ≡ true) ⊎ (((roles k v).member || (roles k v).revertible) ≡ false) → ((roles k v).member || (roles k v).revertible) ≡ false
      by (inl h) = absurd (never ((law.volumes v).counted h))
      by (inr h) = h

  pub reversing-uncounted : (v : ℕ) → (fields_at k v).reversing ≡ true → DoesNotCount (fields_at k v)
  reversing-uncounted v h = uncounted-by v (λ t. false_true t.forward h)

  pub unrelated-uncounted : (v : ℕ) → (fields_at k v).related ≡ false → DoesNotCount (fields_at k v)
  unrelated-uncounted v h = uncounted-by v (λ t. let e = sym (ap (λ b. cond b (Some (fields_at k v).source) None) h) ∙ t.source in absurd cc)

module _ (k : Control) (groups : Groups k) (law : Attempts k) where
  abbrev ss : List Session
  ss = k.sessions

  abbrev T : Roles
  T = roles k

  abbrev After : ℕ → Role → Type 0
  After v y = Steps k.flight ss T (at T v y)

  same : (v : ℕ) → After v (T v)
  same v = subst (λ S. Steps k.flight ss T S) (sym (fun_ext (λ u. at_id T v u))) (record { turns = λ z i. Stays refl; claims = law.volumes })

  -- what is so of a member at a place is so of each member at that place
  pub at-place : (P : Session → Member → Type 0) (v : ℕ) (x : Session) (q : Member) → In x ss → In q x.members → IsAt v q → P x q → (z : Session) (m : Member) → In z ss → In m z.members → IsAt v m → P z m
  at-place P v x q j there at_q here z m i is at_m =
      let one = groups.lone.one v x z q m j i there is at_q at_m in
      subst (λ m. P z m) one.1 (subst (λ z. P z q) (same-session ss x z groups.once j i one.0) here)

  own-seen : (z : Session) (m : Member) → In z ss → In m z.members → In (seen T m) (all_seen T z.members)
  own-seen z m i here = to-map (seen T) z.members m here

  attempt-low : (z : Session) (m : Member) → In z ss → In m z.members → (T m.a.0).attempt ≤ z.last
  attempt-low z m i here = ((law.sessions z i).numbers.each (seen T m) (own-seen z m i here)).attempt

  tried : (v q : ℕ) (records held : Bool) → ((z : Session) (m : Member) → In z ss → In m z.members → m.a.0 ≡ v → MayTry k.flight z.number (phase_of z.mirror) z.last (all_seen T z.members) (seen T m) q records held)
      → After v (record (T v) { attempt = q; recording = records; held = held })
  tried v q records held may = tries k.flight ss groups.lone T law v q records held may

  -- a primary that doesn't record from then on
  ending : (v q : ℕ) → (T v).attempt ≤ q → ((z : Session) (m : Member) → In z ss → In m z.members → m.a.0 ≡ v → q ≤ z.last) → (z : Session) (m : Member) → In z ss → In m z.members → m.a.0 ≡ v → MayTry k.flight z.number (phase_of z.mirror) z.last (all_seen T z.members) (seen T m) q false false
  ending v q up low z m i here e = record { up = subst (λ u. (T u).attempt ≤ q) (sym e) up; low = low z m i here e; begun = λ r. absurd cc; free = λ r h. absurd cc }

  ending-now : (v : ℕ) → (z : Session) (m : Member) → In z ss → In m z.members → m.a.0 ≡ v → MayTry k.flight z.number (phase_of z.mirror) z.last (all_seen T z.members) (seen T m) (T v).attempt false false
  ending-now v = ending v (T v).attempt (omega arith) (λ z m i here e. subst (λ u. (T u).attempt ≤ z.last) e (attempt-low z m i here))

  silenced : (v : ℕ) → After v (record (T v) { recording = false; held = false })
  silenced v = tried v (T v).attempt false false (ending-now v)

  -- one whose holds have ended
  lifted : (v : ℕ) → After v (record (T v) { recording = cond (T v).held false (T v).recording; held = false })
  lifted v = tried v (T v).attempt (cond (T v).held false (T v).recording) false (λ z m i here e. record {
    up = subst (λ u. (T u).attempt ≤ (T v).attempt) (sym e) (omega arith);
    low = subst (λ u. (T u).attempt ≤ z.last) e (attempt-low z m i here);
    begun = λ r. inl (ap (λ u. (T u).recording) e ∙ (stood (T v).held (T v).recording r).1);
    free = λ r h. let s = stood (T v).held (T v).recording r in inl (ap (λ u. (T u).recording) e ∙ s.1, ap (λ u. (T u).held) e ∙ s.0);
  })

  -- one that is let go, where all were held
  freed-by : Flights k → (v : ℕ) → MayFree k v → After v (record (T v) { held = false })
  freed-by flights v a = tried v (T v).attempt (T v).recording false (λ z m i here e. record {
    up = subst (λ u. (T u).attempt ≤ (T v).attempt) (sym e) (omega arith);
    low = subst (λ u. (T u).attempt ≤ z.last) e (attempt-low z m i here);
    begun = λ r. inl (ap (λ u. (T u).recording) e ∙ r);
    free = λ r h. inr (at-place (λ z m. AllHeld z.last (all_seen T z.members)) v a.place.session a.place.member a.place.listed a.place.here (inl (sym a.place.is))
        (release-held k a.place.session (law.sessions a.place.session a.place.listed) (flights.each a.place.session a.place.listed) a.place.member a.place.here a.due) z m i here (inl (sym e)));
  })

  paired : (v : ℕ) (primary : Option ℕ) (q : ℕ) → ((z : Session) (m : Member) → In z ss → In m z.members → m.b.0 ≡ v → MayPair (phase_of z.mirror) z.last (seen T m) (is_at primary m.a.0) q) → After v (record (T v) { primary = primary; seal = q })
  paired v primary q may = pairs k.flight ss groups.lone T law v primary q may

  -- a secondary without a seal, which is whose it was
  resealed : (v q : ℕ) → ((z : Session) (m : Member) → In z ss → In m z.members → m.b.0 ≡ v → (q ≡ 0) ⊎ ((q ≡ z.last) × MaySeal (phase_of z.mirror) z.last (seen T m))) → After v (record (T v) { seal = q })
  resealed v q sealed = paired v (T v).primary q (λ z m i here e. record { sealed = sealed z m i here e; free = λ h. inl (ap (λ u. is_at (T u).primary m.a.0) e ∙ h) })

  -- one that is nobody's any more
  freed : (v : ℕ) → After v (record (T v) { primary = None; seal = 0 })
  freed v = paired v None 0 (λ z m i here e. record { sealed = inl refl; free = λ h. absurd cc })

  -- and one that is a primary then
  taken : (v : ℕ) → After v (record (T v) { recording = false; held = false; primary = None; seal = 0 })
  taken v = parts k.flight ss groups.lone T law v (T v).attempt false false None 0 (ending-now v) (λ z m i here e. record { sealed = inl refl; free = λ h. absurd cc })

  -- a secondary is made of a primary that doesn't record, where no target of it is revertible
  follows : (v u : ℕ) (b : Bool) → MayFollow k v × IsSilent k u → (z : Session) (m : Member) → In z ss → In m z.members → m.b.0 ≡ v → MayPair (phase_of z.mirror) z.last (seen T m) (is_at (cond b (Some u) None) m.a.0) 0
  follows v u b a z m i here e = record { sealed = inl refl; free = λ h. inr (a.0 z m i here e, ap (λ u. (T u).recording) (sym (secondary-is b u m.a.0 h)) ∙ a.1) }

  -- ---- targets

  -- a target that doesn't count from then on
  gone : (v : ℕ) (y : Role) → as_part y ≡ as_part (T v) → y.floor ≡ (T v).floor → y.member ≡ false → y.revertible ≡ false → y.session ≡ 0 → y.previous ≡ 0
      → ((z : Session) (m : Member) → In z ss → In m z.members → m.c.0 ≡ v → (counts (seen T m) ≡ false) ⊎ NoneRevertible (all_seen T z.members)) → After v y
  gone v y own floor member revertible session previous may = targets k.flight ss groups.lone T law v y own (λ z m i here e. record {
    kind = Go y.sequence y.previous;
    may = may z m i here e;
    is = λ i. record (seen T m) { sequence = y.sequence; previous = y.previous; revertible = revertible i; member = member i; floor = (floor ∙ ap (λ u. (T u).floor) (sym e)) i };
  }) (record { counted = λ h. false_true (or_from y.member y.revertible member revertible) h; uncounted = λ h. session; previous = λ h. previous })

  -- one that didn't count
  gone-uncounted : (v : ℕ) (y : Role) → ((T v).member || (T v).revertible) ≡ false → as_part y ≡ as_part (T v) → y.floor ≡ (T v).floor → y.member ≡ false → y.revertible ≡ false → y.session ≡ 0 → y.previous ≡ 0 → After v y
  gone-uncounted v y none own floor member revertible session previous = gone v y own floor member revertible session previous (λ z m i here e. inl (ap (λ u. (T u).member || (T u).revertible) e ∙ none))

  going : (v : ℕ) → MayGo k v → (z : Session) (m : Member) → In z ss → In m z.members → m.c.0 ≡ v → (counts (seen T m) ≡ false) ⊎ NoneRevertible (all_seen T z.members)
  going v a z m i here e = by (bool_cases (T v).member)
    where
      by : ((T v).member ≡ true) ⊎ ((T v).member ≡ false) → (counts (seen T m) ≡ false) ⊎ NoneRevertible (all_seen T z.members)
      by (inl h) = inr (a.settled h z m i here e)
      by (inr h) = inl (ap (λ u. (T u).member || (T u).revertible) e ∙ or_from (T v).member (T v).revertible h a.plain)

  -- a relationship that may end, and whose target then didn't count
  closed-or : (v : ℕ) (f : Fields) (b : Bool) → role_of f ≡ T v → (b ≡ true → DoesNotCount (fields_at k v)) → After v (role_of (parted_if b f))
  closed-or v f false is none = subst (After v) (sym is) (same v)
  closed-or v f true is none = gone-uncounted v (role_of (parted_if true f)) (none refl) (ap as_part is) (ap (λ r. r.floor) is) refl refl refl refl

  unpersistent : (v : ℕ) → Persists (fields_at k v) → (fields_at k v).persistent ≡ false → DoesNotCount (fields_at k v)
  unpersistent v keeps h = uncounted-by k law v (λ t. false_true h (keeps t.records))

  closed : (v : ℕ) (f : Fields) (whole : Bool) → role_of f ≡ T v → Persists (fields_at k v) → After v (role_of (parted_if (whole && not (fields_at k v).persistent) f))
  closed v f whole is keeps = closed-or v f (whole && not (fields_at k v).persistent) is (λ e. unpersistent v keeps (not-true (fields_at k v).persistent (and_parts whole (not (fields_at k v).persistent) e).1))

  -- a target that is to be restored onto its source, and may be at once
  reversed : (v : ℕ) → MayGo k v → (b : Bool) → After v (role_of (parted_if b (turned (fields_at k v))))
  reversed v a true = gone v (role_of (parted_if true (turned (fields_at k v)))) refl refl refl refl refl refl (going v a)
  reversed v a false = gone v (role_of (turned (fields_at k v))) refl refl refl a.plain refl ((law.volumes v).previous a.plain) (going v a)

  left : (v : ℕ) → MayGo k v → After v (record (T v) { member = false; session = 0 })
  left v a = gone v (record (T v) { member = false; session = 0 }) refl refl refl a.plain refl ((law.volumes v).previous a.plain) (going v a)

  resynced : (v q : ℕ) → DoesNotCount (fields_at k v) → After v (record (T v) { sequence = q })
  resynced v q none =
      let p = or_parts (T v).member (T v).revertible none in
      gone-uncounted v (record (T v) { sequence = q }) none refl refl p.0 p.1 ((law.volumes v).uncounted none) ((law.volumes v).previous p.1)

  raised : (v q : ℕ) → InAttempt k (RaiseFloor v q) → After v (record (T v) { floor = q })
  raised v q a = targets k.flight ss groups.lone T law v (record (T v) { floor = q }) refl (λ z m i here e. let r = a z m i here e in record {
    kind = Raise q;
    may = record { under = λ h. r.under (sym (ap (λ u. (T u).revertible) e) ∙ h); higher = subst (λ x. x ≤ q) (ap (λ u. (T u).floor) (sym e)) r.higher; low = r.low };
    is = ap (λ u. seen_of m.server.0 m.a.0 (T m.a.0) (T m.b.0) (record (T u) { floor = q })) (sym e);
  }) (record { counted = (law.volumes v).counted; uncounted = (law.volumes v).uncounted; previous = (law.volumes v).previous })

  -- ---- sealed, flashed, committed, reverted

  -- a member's secondary that is its primary's
  still-its : {s a : ℕ} (place : MemberOf k s a) → place.member.a.0 ≡ a → is_secondary_of a (fields_at k place.member.b.0) ≡ true → (seen T place.member).paired ≡ true
  still-its {s} {a} place is to = ap (λ a. is_at (T place.member.b.0).primary a) is ∙ (sym (is-secondary a (fields_at k place.member.b.0)) ∙ to)

  -- an order of the last number is due
  at-last : (x : Session) (server : ℕ) (work : phases.Work) (n : ℕ) → n ≡ x.last → Due k.flight x server work n → Due k.flight x server work x.last
  at-last x server work n last due = subst (λ n. Due k.flight x server work n) last due

  seals : Flights k → (v u s n : ℕ) → SealsMember k v u s n → After v (record (T v) { seal = n })
  seals flights v u s n a = resealed v n (λ z m i here e. at-place (λ z m. (n ≡ 0) ⊎ ((n ≡ z.last) × MaySeal (phase_of z.mirror) z.last (seen T m))) v a.place.session a.place.member a.place.listed a.place.here (inr (inl (sym a.secondary)))
      (inr (a.last, record { comes = seal-comes k a.place.session (law.sessions a.place.session a.place.listed) (flights.each a.place.session a.place.listed) a.place.member a.place.here (at-last a.place.session a.place.member.server.0 phases.Seal n a.last a.due); records = ap (λ u. (T u).recording) a.place.is ∙ rec.0; held = subst (λ u. a.place.session.last ≤ (T u).attempt) (sym a.place.is) (let is : (T u).attempt ≡ n = eqb-true (T u).attempt n rec.1 in let last : n ≡ a.place.session.last = a.last in omega arith) }))
      z m i here (inr (inl (sym e))))
    where
      rec : ((T u).recording ≡ true) × (nat_eq (T u).attempt n ≡ true)
      rec = and_parts (T u).recording (nat_eq (T u).attempt n) a.records

  abbrev flashed_role : ℕ → ℕ → Role → Role
  flashed_role s n r = record r { sequence = n; previous = r.sequence; revertible = true; session = s }

  abbrev To : Role → ℕ → Session → Member → Type 0
  To y v z m = m.c.0 ≡ v → TurnsTo k.flight ss groups.lone T law z m y

  flashes : Flights k → (v u a s n : ℕ) → FlashesMember k v u a s n → After v (flashed_role s n (T v))
  flashes flights v u a s n p =
      let f = flashable u (fields_at k v) p.free in
      targets k.flight ss groups.lone T law v (flashed_role s n (T v)) refl
      (λ z m i here e. at-place (To (flashed_role s n (T v)) v) v p.place.session p.place.member p.place.listed p.place.here (inr (inr (sym p.target))) (λ e. record {
        kind = turn.Flash;
        may = record {
          asked = due-asked k.flight p.place.session p.place.member.server.0 phases.Flash p.place.session.last due;
          comes = flash-comes k p.place.session (law.sessions p.place.session p.place.listed) (flights.each p.place.session p.place.listed) p.place.member p.place.here due (low e);
          held = flash-held k p.place.session (law.sessions p.place.session p.place.listed) (flights.each p.place.session p.place.listed) p.place.member p.place.here due;
          paired = ap (λ b. is_at (T b).primary p.place.member.a.0) p.secondary ∙ (ap (λ a. is_at (T u).primary a) p.place.is ∙ (sym (is-secondary a (fields_at k u)) ∙ p.paired));
          sealed = ap (λ b. (T b).seal) p.secondary ∙ (p.sealed ∙ p.last);
          plain = ap (λ c. (T c).revertible) e ∙ f.plain;
          low = low e;
        };
        is = ap (λ c. seen_of p.place.member.server.0 p.place.member.a.0 (T p.place.member.a.0) (T p.place.member.b.0) (flashed_role s n (T c))) (sym e) ∙ ap (λ q. record (seen T p.place.member) { previous = (seen T p.place.member).sequence; sequence = q; revertible = true }) p.last;
      }) z m i here (inr (inr (sym e))) e)
      (record {
        counted = λ h. record { session = p.place.session; listed = p.place.listed; number = p.place.number; member = p.place.member; here = p.place.here; is = p.target; source = f.source ∙ ap Some (sym p.secondary); records = f.records; inhibits = f.inhibits; forward = f.forward };
        uncounted = λ h. false_true h (or-true (T v).member);
        previous = λ h. absurd cc;
      })
    where
      due : Due k.flight p.place.session p.place.member.server.0 phases.Flash p.place.session.last
      due = at-last p.place.session p.place.member.server.0 phases.Flash n p.last p.due

      low : p.place.member.c.0 ≡ v → (T p.place.member.c.0).floor < p.place.session.last
      low e = subst (λ c. (T c).floor < p.place.session.last) (sym e) (subst (λ n. (T v).floor < n) p.last p.low)

  abbrev committed_role : ℕ → Role → Role
  committed_role n r = record r { previous = 0; revertible = false; member = true; floor = n }

  commits : Flights k → (v a s n : ℕ) → CommitsMember k v a s n → After v (committed_role n (T v))
  commits flights v a s n p =
      targets k.flight ss groups.lone T law v (committed_role n (T v)) refl
      (λ z m i here e. at-place (To (committed_role n (T v)) v) v p.place.session p.place.member p.place.listed p.place.here (inr (inr (sym p.target))) (λ e. record {
        kind = turn.Commit;
        may = record {
          revertible = ap (λ c. (T c).revertible) e ∙ p.revertible;
          all = λ u h c. p.all u h c ∙ p.last;
          way = by p.way;
        };
        is = ap (λ c. seen_of p.place.member.server.0 p.place.member.a.0 (T p.place.member.a.0) (T p.place.member.b.0) (committed_role n (T c))) (sym e) ∙ ap (λ q. record (seen T p.place.member) { previous = 0; revertible = false; member = true; floor = q }) p.last;
      }) z m i here (inr (inr (sym e))) e)
      (record { counted = λ h. (law.volumes v).counted (ap (λ b. (T v).member || b) p.revertible ∙ or-true (T v).member); uncounted = λ h. absurd cc; previous = λ h. refl })
    where
      x : Session
      x = p.place.session

      by : (Due k.flight x p.place.member.server.0 phases.Commit n × (is_secondary_of a (fields_at k p.place.member.b.0) ≡ true)) ⊎ SomeCommitted n (all_seen T x.members)
          → Ordered k.flight x.number (phase_of x.mirror) x.last (owed_of x.mirror) (reports_of x.mirror) (all_seen T x.members) (seen T p.place.member) ⊎ SomeCommitted x.last (all_seen T x.members)
      by (inl h) = let due = at-last x p.place.member.server.0 phases.Commit n p.last h.0 in inl (record {
        asked = due-asked k.flight x p.place.member.server.0 phases.Commit x.last due;
        comes = commit-comes k x (law.sessions x p.place.listed) (flights.each x p.place.listed) p.place.member p.place.here due (ap (λ c. (T c).revertible) p.target ∙ p.revertible) (still-its p.place p.place.is h.1);
        paired = still-its p.place p.place.is h.1;
        flashed = (commit-flashed k x (law.sessions x p.place.listed) (flights.each x p.place.listed) p.place.member p.place.here due).0;
      })
      by (inr had) = inr (subst (λ q. SomeCommitted q (all_seen T x.members)) p.last had)

  abbrev reverted_role : ℕ → Role → Role
  reverted_role n r = record r { sequence = r.previous; previous = 0; revertible = false; session = cond r.member r.session 0; floor = max r.floor n }

  reverts : Flights k → (v a s n : ℕ) → RevertsMember k v a s n → After v (reverted_role n (T v))
  reverts flights v a s n p =
      targets k.flight ss groups.lone T law v (reverted_role n (T v)) refl
      (λ z m i here e. at-place (To (reverted_role n (T v)) v) v p.place.session p.place.member p.place.listed p.place.here (inr (inr (sym p.target))) (λ e. record {
        kind = turn.Revert;
        may = record {
          revertible = ap (λ c. (T c).revertible) e ∙ p.revertible;
          none = subst (λ q. NoneCommitted q (all_seen T p.place.session.members)) p.last p.none;
          way = by p.way;
        };
        is = ap (λ c. seen_of p.place.member.server.0 p.place.member.a.0 (T p.place.member.a.0) (T p.place.member.b.0) (reverted_role n (T c))) (sym e) ∙ ap (λ q. record (seen T p.place.member) { sequence = (seen T p.place.member).previous; previous = 0; revertible = false; floor = max (seen T p.place.member).floor q }) p.last;
      }) z m i here (inr (inr (sym e))) e)
      (record { counted = λ h. still (T v).member refl h; uncounted = λ h. over (T v).member h; previous = λ h. refl })
    where
      x : Session
      x = p.place.session

      by : (Due k.flight x p.place.member.server.0 phases.Revert n × (is_secondary_of a (fields_at k p.place.member.b.0) ≡ true)) ⊎ All (λ u. u.paired ≡ false) (all_seen T x.members)
          → TakesBack k.flight x.number (phase_of x.mirror) x.last (seen T p.place.member) ⊎ All (λ u. u.paired ≡ false) (all_seen T x.members)
      by (inl h) = let due = at-last x p.place.member.server.0 phases.Revert n p.last h.0 in inl (record {
        asked = due-asked k.flight x p.place.member.server.0 phases.Revert x.last due;
        comes = revert-comes k x (law.sessions x p.place.listed) (flights.each x p.place.listed) p.place.member p.place.here due;
        paired = still-its p.place p.place.is h.1;
      })
      by (inr all) = inr all

      still : (b : Bool) → (T v).member ≡ b → (b || false) ≡ true → IsTarget ss v (cond b (T v).session 0) (T v).source (T v).recorded (T v).inhibited (T v).reversing
      still true e h = (law.volumes v).counted (ap (λ b. b || (T v).revertible) e)
      still false e h = absurd cc

      over : (b : Bool) → (b || false) ≡ false → cond b (T v).session 0 ≡ 0
      over true h = absurd cc
      over false h = refl

  -- ---- all kinds

  pub keeps : Flights k → (m : Move) → InAttempt k m → After (target m) (role_of (next_fields m k.volume))
  keeps flights (Overwrite w v t) a = closed v (rewritten (fetched (fields_at k v) t) t) (is_whole (k.volume v).tracks (fetched (fields_at k v) t).own) refl a.0
  keeps flights (Keep v t) a = closed v (noted (fetched (fields_at k v) t) t) (is_whole (k.volume v).tracks (fetched (fields_at k v) t).own) refl a
  keeps flights (Fetch v t) a = closed v (fetched (fields_at k v) t) (is_whole (k.volume v).tracks (fetched (fields_at k v) t).own) refl a
  keeps flights (Relate v s choices) a = gone-uncounted v (role_of (next_fields (Relate v s choices) k.volume)) a refl refl refl refl refl refl
  keeps flights (Withdraw v) a = gone-uncounted v (role_of (next_fields (Withdraw v) k.volume)) a refl refl refl refl refl refl
  keeps flights (Resync v sequence) a = resynced v (role_of (next_fields (Resync v sequence) k.volume)).sequence a
  keeps flights (Reverse v left) a = reversed v a.0 (is_bare (turned (fields_at k v)).own)
  keeps flights (Release v t) a = closed-or v (given_up (fields_at k v) t) (is_bare (given_up (fields_at k v) t).own) refl (λ e. reversing-uncounted k law v a)
  keeps flights (Store v t u last) a = resealed v 0 (λ z m i here e. inl refl)
  keeps flights (Suspend v busy) a = silenced v
  keeps flights (MakeSecondary v u kind state) a = paired v (primary_of (next_fields (MakeSecondary v u kind state) k.volume)) 0 (follows v u (is_part kind) a)
  keeps flights (MakePrimary v u kind state full) a = silenced v
  keeps flights (DropPrimary v) a = silenced v
  keeps flights (FallBack v more state) a = silenced v
  keeps flights (Yield v u kind state) a = parts k.flight ss groups.lone T law v (T v).attempt false false (primary_of (next_fields (Yield v u kind state) k.volume)) 0 (ending-now v) (follows v u (is_part kind) a)
  keeps flights (Lift v) a = lifted v
  keeps flights (Restart v) a = silenced v
  keeps flights (DropSecondary v) a = freed v
  keeps flights (TakeOver v) a = taken v
  keeps flights (LeavePrimary v) a = freed v
  keeps flights (Hold v s n first) a = let p : IsMember k v s = a.0.place in
      tried v n true true (λ z m i here e. at-place (λ z m. m.a.0 ≡ v → MayTry k.flight z.number (phase_of z.mirror) z.last (all_seen T z.members) (seen T m) n true true) v p.session p.member p.listed p.here (inl (sym p.is))
      (λ e. record {
        up = subst (λ u. (T u).attempt ≤ n) (sym e) (let low : (T v).attempt < n = a.1.0 in omega arith);
        low = let is : n ≡ p.session.last = a.0.last in omega arith;
        begun = λ r. inr (subst (λ u. (T u).attempt < p.session.last) (sym e) (let low : (T v).attempt < n = a.1.0 in let is : n ≡ p.session.last = a.0.last in omega arith), hold-comes k.flight p.session p.member.server.0 (at-last p.session p.member.server.0 phases.Hold n a.0.last a.0.due));
        free = λ r h. absurd cc;
      }) z m i here (inl (sym e)) e)
  keeps flights (Free v) a = freed-by flights v a
  keeps flights (Seal v u s n) a = seals flights v u s n a
  keeps flights (Finish v n) a = tried v (max (T v).attempt n) false false (ending v (max (T v).attempt n) (omega arith) (λ z m i here e.
      let low : n ≤ z.last = a z m i here e in
      let own : (T v).attempt ≤ z.last = subst (λ u. (T u).attempt ≤ z.last) e (attempt-low z m i here) in
      omega arith))
  keeps flights (RaiseAttempt v n) a = tried v n (T v).recording (T v).held (λ z m i here e. let r = a z m i here e in record {
    up = subst (λ u. (T u).attempt ≤ n) (sym e) r.higher;
    low = r.low;
    begun = λ h. inl (ap (λ u. (T u).recording) e ∙ h);
    free = λ h f. inl (ap (λ u. (T u).recording) e ∙ h, ap (λ u. (T u).held) e ∙ f);
  })
  keeps flights (RaiseFloor v n) a = raised v n a
  keeps flights (Leave v u s) a = left v a.0
  keeps flights (Flash v u a s n) p = flashes flights v u a s n p
  keeps flights (Commit v a s n) p = commits flights v a s n p
  keeps flights (Revert v a s n) p = reverts flights v a s n p
  keeps flights m a = same (target m)

pub attempts-move : (k j : Control) (m : Move) (c : Carried) → j.sessions ≡ k.sessions → Moves k j (target m) (next_fields m k.volume) c → InAttempt k m → Groups k → Attempts k → Flights k → Attempts j
attempts-move k j m c still moves a groups law flights = attempts-moved k j (target m) (next_fields m k.volume) c still moves (steps-keep k.flight k.sessions (roles k) (at (roles k) (target m) (role_of (next_fields m k.volume))) law (keeps k groups law flights m a))
