-- The laws of attempts stay where a session's last number is raised, and where it has a member more or less.
use Rattle.std.proofs.Common.{ℕ, ◌≡◌, ◌≢◌, ◌≤◌, ◌⊎◌, inl, inr, refl, ap, sym, ◌∙◌, subst, max, true, false, not, ◌||◌, arith, List, [], ◌∷◌, ◌++◌, filter, None, Some, ◌==◌}
use Rattle.std.specs.List.{find}
use Rattle.std.proofs.lemmas.Bool.{cases_Bool, ne_eqb}
use Rattle.dr_ids.specs.declared.names.Member.{Member}
use Rattle.dr_model.specs.Phases as phases
use Rattle.dr_model.specs.Control.{Control}
use Rattle.dr_model.specs.Entries.{fields_at}
use Rattle.dr_model.specs.Sessions.{Session, session_in, has_subsystem, subsystem_of, has_place_of, raised, with_member, without_member, changed, busy}
use Rattle.dr_model.specs.Groups.{In, Groups}
use Rattle.dr_model.specs.Attempts.{Roles, roles, Seen, seen, all_seen, All, counts, NoneRevertible, Attempts, AttemptsIn}
use Rattle.dr_laws_sessions.specs.Frames.{Quiet, NoPlace}
use Rattle.dr_facts.proofs.Lists.{in-first, in-joined, from-filter, to-filter, from-map, to-map, Image}
use Rattle.dr_laws_sessions.proofs.Changes.{session-found, changed-found}
use Rattle.dr_laws_sessions.proofs.Sound.{quiet-of, quiet-mirror}
use Rattle.dr_laws_sessions.proofs.Silent.{stranger-silent}
use Rattle.dr_laws_sessions.proofs.Members.{no-place, no-place-changed, groups-raised, quiet-members}
use Rattle.dr_laws_attempts.proofs.Facts.{all_by, uncounted-plain}
use Rattle.dr_laws_attempts.proofs.Stages.{raised-numbers, raised-follows, Comes, more-numbers, more-follows, fewer-numbers, fewer-follows}
use Rattle.dr_laws_attempts.proofs.Tables.{quiet-unflashed, quiet-unrecorded, quiet-attempt, with-one}
use Rattle.dr_logic.proofs.Truth.{false_true}

pub quiet-raised : (n : ℕ) (x : Session) → Quiet x → Quiet (raised n x)
quiet-raised n x quiet = quiet-mirror (λ r. record r { master = phases.raised r.master n }) x (raised n x) refl (λ r. refl) quiet

module _ (k : Control) (groups : Groups k) (law : Attempts k) (s : ℕ) (x : Session) (found : session_in k.sessions s ≡ Some x) (quiet : Quiet x) where
  abbrev T : Roles
  T = roles k

  there : In x k.sessions × (x.number ≡ s)
  there = session-found k.sessions s x found

  plain : NoneRevertible (all_seen T x.members)
  plain = quiet-unflashed T x quiet (law.sessions x there.0)

  silent : All (λ (u : Seen). u.recording ≡ false) (all_seen T x.members)
  silent = quiet-unrecorded k groups law x there.0 quiet

  pub with-raised : (n : ℕ) → AttemptsIn (changed s (raised n) k.sessions) T
  with-raised n = with-one k groups law s (raised n) x found (λ x. refl) (record {
    attempt = quiet-attempt T (raised n x) (quiet-raised n x quiet) (raised-numbers x.last (all_seen T x.members) (law.sessions x there.0).numbers plain silent (max x.last n) (omega arith))
        (raised-follows x.last (all_seen T x.members) (law.sessions x there.0).numbers plain silent (law.sessions x there.0).follows (max x.last n) (omega arith)) plain;
    keeps = λ m here c. here;
    inside = λ m here. law.inside x m there.0 here;
  })

  -- ---- a member more

  module _ (m : Member) (none : NoPlace k.sessions m) (lies : has_subsystem (subsystem_of m.a.0) x ≡ true) (attempt : (fields_at k m.a.0).attempt ≤ x.last) (seal : (fields_at k m.b.0).seal ≤ x.last) (floor : (fields_at k m.c.0).floor ≤ x.last)
      (held : x.last ≤ (fields_at k m.a.0).attempt) (past : x.last ≤ (fields_at k m.c.0).floor) where
    -- its target has no place, so it doesn't count
    new-plain : counts (seen T m) ≡ false
    new-plain = by (cases_Bool (counts (seen T m)))
      where
        by : (counts (seen T m) ≡ true) ⊎ (counts (seen T m) ≡ false) → counts (seen T m) ≡ false
        by (inl c) = let t = (law.volumes m.c.0).counted c in absurd (none m.c.0 t.session t.member t.listed t.here (inr (inr refl)) (inr (inr (sym t.is))))
        by (inr e) = e

    comes : Comes x.last (seen T m)
    comes = record { plain = new-plain; silent = stranger-silent k m.a.0 groups (λ z q i here e. none m.a.0 z q i here (inl refl) (inl (sym e))); held = held; past = past; attempt = attempt; seal = seal; floor = floor }

    back : (u : Seen) → In u (all_seen T (x.members ++ m ∷ [])) → (u ≡ seen T m) ⊎ In u (all_seen T x.members)
    back u h = let o = from-map (seen T) (x.members ++ m ∷ []) u h in by o (in-joined x.members (m ∷ []) o.from o.here)
      where
        by : (o : Image (seen T) (x.members ++ m ∷ []) u) → In o.from x.members ⊎ In o.from (m ∷ []) → (u ≡ seen T m) ⊎ In u (all_seen T x.members)
        by o (inl here) = inr (subst (λ u. In u (all_seen T x.members)) (sym o.is) (to-map (seen T) x.members o.from here))
        by o (inr (inl is)) = inl (o.is ∙ ap (seen T) is)
        by o (inr (inr never)) = absurd never

    onto : (u : Seen) → In u (all_seen T x.members) → In u (all_seen T (x.members ++ m ∷ []))
    onto u h = let o = from-map (seen T) x.members u h in subst (λ u. In u (all_seen T (x.members ++ m ∷ []))) (sym o.is) (to-map (seen T) (x.members ++ m ∷ []) o.from (in-first x.members (m ∷ []) o.from o.here))

    pub with-more : AttemptsIn (changed s (with_member m) k.sessions) T
    with-more = with-one k groups law s (with_member m) x found (λ x. refl) (record {
      attempt = quiet-attempt T (with_member m x) (quiet-members (x.members ++ m ∷ []) x quiet)
          (more-numbers x.last (all_seen T x.members) (law.sessions x there.0).numbers (all_seen T (x.members ++ m ∷ [])) (seen T m) back onto comes)
          (more-follows x.last (all_seen T x.members) (law.sessions x there.0).numbers (all_seen T (x.members ++ m ∷ [])) (seen T m) back comes (law.sessions x there.0).follows)
          (λ u h. all_by (λ u. u.revertible ≡ false) (all_seen T x.members) (seen T m) u (back u h) (uncounted-plain (seen T m) new-plain) plain);
      keeps = λ q here c. in-first x.members (m ∷ []) q here;
      inside = λ q here. by q (in-joined x.members (m ∷ []) q here);
    })
      where
        by : (q : Member) → In q x.members ⊎ In q (m ∷ []) → has_subsystem (subsystem_of q.a.0) x ≡ true
        by q (inl here) = law.inside x q there.0 here
        by q (inr (inl is)) = ap (λ (q : Member). has_subsystem (subsystem_of q.a.0) x) is ∙ lies
        by q (inr (inr never)) = absurd never

  -- ---- a member less

  module _ (a : ℕ) (gone : (m : Member) → In m x.members → m.a.0 ≡ a → (fields_at k m.c.0).member ≡ false) where
    abbrev rest : List Member
    rest = filter (λ (m : Member). not (m.a.0 == a)) x.members

    stays : (m : Member) → In m x.members → counts (seen T m) ≡ true → In m rest
    stays m here c = to-filter (λ (m : Member). not (m.a.0 == a)) x.members m here (ap not (ne_eqb m.a.0 a other))
      where
        other : m.a.0 ≢ a
        other e = false_true ((λ i. gone m here e i || (fields_at k m.c.0).revertible) ∙ plain (seen T m) (to-map (seen T) x.members m here)) c

    pub with-less : AttemptsIn (changed s (without_member a) k.sessions) T
    with-less = with-one k groups law s (without_member a) x found (λ x. refl) (record {
      attempt = quiet-attempt T (without_member a x) (quiet-members rest x quiet)
          (fewer-numbers x.last (all_seen T x.members) (law.sessions x there.0).numbers (all_seen T rest) sub (λ u h c.
          let o = from-map (seen T) x.members u h in
          subst (λ u. In u (all_seen T rest)) (sym o.is) (to-map (seen T) rest o.from (stays o.from o.here (ap counts (sym o.is) ∙ c)))))
          (fewer-follows x.last (all_seen T x.members) (law.sessions x there.0).numbers (all_seen T rest) sub (law.sessions x there.0).follows)
          (λ u h. plain u (sub u h));
      keeps = stays;
      inside = λ q here. law.inside x q there.0 (from-filter (λ (m : Member). not (m.a.0 == a)) x.members q here).0;
    })
      where
        sub : (u : Seen) → In u (all_seen T rest) → In u (all_seen T x.members)
        sub u h = let o = from-map (seen T) rest u h in
            subst (λ u. In u (all_seen T x.members)) (sym o.is) (to-map (seen T) x.members o.from (from-filter (λ (m : Member). not (m.a.0 == a)) x.members o.from o.here).0)

-- what isn't below a number and another one isn't below them again
pub raised-low : (n q k : ℕ) → max n q ≤ k → max n (max n q) ≤ k
raised-low n q k low = omega arith

-- ---- as the laws name them

pub attempts-raised : (k : Control) (s n : ℕ) (x : Session) → Groups k → Attempts k → session_in k.sessions s ≡ Some x → busy x.mirror ≡ None → Attempts (record k { sessions = changed s (raised n) k.sessions })
attempts-raised k s n x groups law found idle = with-raised k groups law s x found (quiet-of x idle) n

-- first the last number is raised, and then there is a member more, of which all that isn't its seal has come to that number, and nothing
-- past it
pub attempts-added : (k : Control) (s n : ℕ) (x : Session) (m : Member) → Groups k → Attempts k → session_in k.sessions s ≡ Some x → busy x.mirror ≡ None → find (has_place_of m) k.sessions ≡ None → has_subsystem (subsystem_of m.a.0) x ≡ true
    → (fields_at k m.a.0).attempt ≤ n → (fields_at k m.b.0).seal ≤ n → (fields_at k m.c.0).floor ≤ n → max x.last n ≤ (fields_at k m.a.0).attempt → max x.last n ≤ (fields_at k m.c.0).floor → Attempts (record k { sessions = changed s (with_member m) (changed s (raised n) k.sessions) })
attempts-added k s n x m groups law found idle none lies attempt seal floor held past =
    let ss : List Session = changed s (raised n) k.sessions in
    with-more (record k { sessions = ss }) (groups-raised k s n x groups found idle) (attempts-raised k s n x groups law found idle) s (raised n x) (changed-found s (raised n) k.sessions x (λ x. refl) found) (quiet-raised n x (quiet-of x idle)) m
    (no-place-changed s (raised n) k.sessions m (λ x. refl) groups.once (no-place k.sessions m none)) lies (omega arith) (omega arith) (omega arith) held past

pub attempts-removed : (k : Control) (s a : ℕ) (x : Session) → Groups k → Attempts k → session_in k.sessions s ≡ Some x → busy x.mirror ≡ None → ((m : Member) → In m x.members → m.a.0 ≡ a → (fields_at k m.c.0).member ≡ false)
    → Attempts (record k { sessions = changed s (without_member a) k.sessions })
attempts-removed k s a x groups law found idle gone = with-less k groups law s x found (quiet-of x idle) a gone
