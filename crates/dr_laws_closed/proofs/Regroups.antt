-- How each line on sessions, each reply and each stop of a master's server change the table of sessions.
use Rattle.std.proofs.Common.{ℕ, ◌≡◌, ◌≢◌, ◌⊎◌, inl, inr, refl, ap, sym, ◌∙◌, Bool, true, false, cond, not, ◌&&◌, List, [], ◌∷◌, ◌++◌, Option, Some, None, option_map, subst, ◌==◌, filter}
use Rattle.std.specs.List.{find}
use Rattle.dr_ids.specs.declared.names.Member.{Member}
use Rattle.dr_ids.specs.declared.refusal.PhaseName.{PhaseName}
use Rattle.dr_ids.specs.declared.refusal.PhaseName.TheVariants as phase
use Rattle.dr_ids.specs.declared.refusal.Decision.{Decision}
use Rattle.dr_ids.specs.declared.refusal.Decision.TheVariants.{CommitRest}
use Rattle.dr_model.specs.Decisions.{decision}
use Rattle.dr_model.specs.Tables.{Once}
use Rattle.dr_model.specs.Phases as phases
use Rattle.dr_model.specs.Sessions.{Session, Mirror, session_in, has_place_of, is_only, with_mirror, with_master, mirrored_by, unmirrored, paused, mirror_lost_since, lost_since, joined_by, left_by, new_session, changed, without_session, joins, joined, leaves, left, raised, with_member, without_member, mirror_with, servers_of}
use Rattle.dr_model.specs.Groups.{In}
use Rattle.dr_model.specs.Attempts.{phase_of}
use Rattle.dr_laws_sessions.specs.Frames.{Became, Quiet}
use Rattle.dr_facts.proofs.Lists.{in-joined, from-filter, from-map}
use Rattle.dr_laws_sessions.proofs.Changes.{numbers, session-found, same-session, changed-in, changed-once, without-in}
use Rattle.dr_laws_sessions.proofs.Members.{no-place, quiet-members}
use Rattle.dr_laws_attempts.proofs.Tables.{quiet-phase}
use Rattle.dr_laws_attempts.proofs.Members.{quiet-raised}
use Rattle.dr_laws_closed.specs.Regroups.{Eases, WasIn, Stays, Rests, AllStay, Regroups}

-- ---- phases

eases-same : (p : PhaseName) → Eases p p
eases-same p = record { coordinating = λ e. e; early = λ e. e }

eases-next : (p : PhaseName) → Eases p (phases.next_phase p)
eases-next phase.Coordinating = record { coordinating = λ e. refl; early = λ e. tt }
eases-next phase.Releasing = record { coordinating = λ e. absurd cc; early = λ e. tt }
eases-next phase.Draining = record { coordinating = λ e. absurd cc; early = λ e. tt }
eases-next phase.Flashing = record { coordinating = λ e. absurd cc; early = λ e. tt }
eases-next phase.Committing = record { coordinating = λ e. absurd cc; early = λ e. absurd e }
eases-next phase.Reverting = record { coordinating = λ e. absurd cc; early = λ e. absurd e }
eases-next phase.Finishing = record { coordinating = λ e. absurd cc; early = λ e. absurd e }
eases-next p = eases-same p

eases-aborted : (p : PhaseName) (m : phases.Master) → m.phase ≡ p → Eases p (phases.enters_some (phases.aborted_phase p) m).phase
eases-aborted phase.Coordinating m is = record { coordinating = λ e. refl; early = λ e. absurd e }
eases-aborted phase.Releasing m is = record { coordinating = λ e. absurd cc; early = λ e. absurd e }
eases-aborted phase.Draining m is = record { coordinating = λ e. absurd cc; early = λ e. absurd e }
eases-aborted phase.Flashing m is = record { coordinating = λ e. absurd cc; early = λ e. absurd e }
eases-aborted phase.Committing m is = record { coordinating = λ e. absurd cc; early = λ e. absurd e }
eases-aborted p m is = subst (Eases p) (sym is) (eases-same p)

eases-lost : (p : PhaseName) (servers : List ℕ) → Eases p (phases.phase_lost servers)
eases-lost p [] = record { coordinating = λ e. absurd cc; early = λ e. absurd e }
eases-lost p (s ∷ servers) = record { coordinating = λ e. absurd cc; early = λ e. absurd e }

eases-settled : (p : PhaseName) (d : Decision) → Eases p (phases.phase_by d)
eases-settled p (CommitRest n) = record { coordinating = λ e. absurd cc; early = λ e. absurd e }
eases-settled p d = record { coordinating = λ e. absurd cc; early = λ e. absurd e }

eases-left : (m : phases.Master) (rest : List ℕ) → Eases m.phase (phases.left_with m rest).phase
eases-left m [] = eases-next m.phase
eases-left m (s ∷ rest) = eases-same m.phase

eases-where : (m : phases.Master) (rest : List ℕ) → Eases m.phase (phases.settled_where rest m).phase
eases-where m [] = eases-settled m.phase (decision m.reports)
eases-where m (s ∷ rest) = eases-same m.phase

eases-taken : (m : phases.Master) (server : ℕ) (r : phases.Reply) → Eases m.phase (phases.taken m server r).phase
eases-taken m server phases.Done = eases-left m (phases.without server m.owed)
eases-taken m server phases.NotYet = eases-same m.phase
eases-taken m server (phases.Reported xs) = eases-where (phases.replied m server (phases.Reported xs)) (phases.without server m.owed)

eases-mirror : (g : Mirror → Mirror) → ((r : Mirror) → Eases r.master.phase (g r).master.phase) → (o : Option Mirror) → Eases (phase_of o) (phase_of (option_map g o))
eases-mirror g to None = eases-same phase.Idle
eases-mirror g to (Some r) = to r

eases-idle : (p : PhaseName) → Eases p phase.Idle
eases-idle p = record { coordinating = λ e. absurd cc; early = λ e. absurd e }

-- ---- the table

pub stays-same : (ss : List Session) → AllStay ss ss
stays-same ss x m i here = record { was = record { session = x; listed = i; here = here }; number = refl; last = refl; phase = eases-same (phase_of x.mirror) }

-- where all members stay
pub regroups-stay : (ss us : List Session) → AllStay ss us → Regroups ss us
regroups-stay ss us stays y m i here = inl (stays y m i here)

pub regroups-same : (ss : List Session) → Regroups ss ss
regroups-same ss = regroups-stay ss ss (stays-same ss)

module _ (ss : List Session) (once : Once (numbers ss)) where
  -- one session changes
  stays-samee : (s : ℕ) (f : Session → Session) → ((x : Session) (m : Member) → In x ss → x.number ≡ s → In m (f x).members → Stays ss (f x) m) → AllStay ss (changed s f ss)
  stays-samee s f to y m i here = by (changed-in s f ss y once i)
    where
      by : (In y ss × (y.number ≢ s)) ⊎ Became s f ss y → Stays ss y m
      by (inl o) = stays-same ss y m o.0 here
      by (inr b) = subst (λ z. Stays ss z m) (sym b.is) (to b.from m b.listed b.number (subst (λ (z : Session). In m z.members) b.is here))

  -- its phase goes on, and it keeps its number, its attempt and its members
  eased : (s : ℕ) (f : Session → Session) → ((x : Session) → (f x).number ≡ x.number) → ((x : Session) → (f x).last ≡ x.last) → ((x : Session) (m : Member) → In m (f x).members → In m x.members) → ((x : Session) → Eases (phase_of x.mirror) (phase_of (f x).mirror)) → AllStay ss (changed s f ss)
  eased s f number last members phase = stays-samee s f (λ x m i e here. record { was = record { session = x; listed = i; here = members x m here }; number = number x; last = last x; phase = phase x })

  mirrors : (s : ℕ) (g : Mirror → Mirror) → ((r : Mirror) → Eases r.master.phase (g r).master.phase) → AllStay ss (changed s (with_mirror g) ss)
  mirrors s g to = eased s (with_mirror g) (λ x. refl) (λ x. refl) (λ x m here. here) (λ x. eases-mirror g to x.mirror)

  pub stays-paused : (s : ℕ) (on : Bool) → AllStay ss (changed s (paused on) ss)
  stays-paused s on = mirrors s (λ r. record r { paused = on }) (λ r. eases-same r.master.phase)

  pub stays-aborted : (s : ℕ) → AllStay ss (changed s (with_master phases.aborted) ss)
  stays-aborted s = mirrors s (λ r. record r { master = phases.aborted r.master }) (λ r. eases-aborted r.master.phase r.master refl)

  pub stays-taken : (s server : ℕ) (reply : phases.Reply) → AllStay ss (changed s (with_master (λ m. phases.taken m server reply)) ss)
  stays-taken s server reply = mirrors s (λ r. record r { master = phases.taken r.master server reply }) (λ r. eases-taken r.master server reply)

  pub stays-mirrored : (s server : ℕ) → AllStay ss (changed s (mirrored_by server) ss)
  stays-mirrored s server = eased s (mirrored_by server) (λ x. refl) (λ x. refl) (λ x m here. here) (λ x. eases-idle (phase_of x.mirror))

  pub stays-unmirrored : (s : ℕ) → AllStay ss (changed s unmirrored ss)
  stays-unmirrored s = eased s unmirrored (λ x. refl) (λ x. refl) (λ x m here. here) (λ x. eases-idle (phase_of x.mirror))

  -- a logical subsystem more, or less
  pub stays-joined : (s l : ℕ) → AllStay ss (joined s l ss)
  stays-joined s l = by (session_in ss s)
    where
      new : (y : Session) (m : Member) → In y ss ⊎ In y (new_session s l ∷ []) → In m y.members → Stays ss y m
      new y m (inl i) here = stays-same ss y m i here
      new y m (inr (inl is)) here = absurd (subst (λ (z : Session). In m z.members) is here)
      new y m (inr (inr never)) here = absurd never

      by : (o : Option Session) → AllStay ss (joins o s l ss)
      by None y m i here = new y m (in-joined ss (new_session s l ∷ []) y i) here
      by (Some x) y m i here = eased s (joined_by l) (λ x. refl) (λ x. refl) (λ x m here. here) (λ x. eases-same (phase_of x.mirror)) y m i here

  pub stays-left : (s l : ℕ) → AllStay ss (left s l ss)
  stays-left s l = by (session_in ss s)
    where
      which : (b : Bool) → AllStay ss (cond b (without_session s ss) (changed s (left_by l) ss))
      which true y m i here = stays-same ss y m (without-in s ss y i) here
      which false y m i here = eased s (left_by l) (λ x. refl) (λ x. refl) (λ x m here. here) (λ x. eases-same (phase_of x.mirror)) y m i here

      by : (o : Option Session) → AllStay ss (leaves o s l ss)
      by None = stays-same ss
      by (Some x) = which (is_only l x)

  -- a member less
  pub stays-removed : (s a : ℕ) → AllStay ss (changed s (without_member a) ss)
  stays-removed s a = eased s (without_member a) (λ x. refl) (λ x. refl) (λ x m here. (from-filter (λ (m : Member). not (m.a.0 == a)) x.members m here).0)
      (λ x. eases-mirror (mirror_with (servers_of (filter (λ (m : Member). not (m.a.0 == a)) x.members))) (λ r. eases-same r.master.phase) x.mirror)

  -- a member more, in a session without an attempt, whose last number is raised before
  pub regroups-added : (s n : ℕ) (x : Session) (m : Member) → session_in ss s ≡ Some x → Quiet x → find (has_place_of m) ss ≡ None → Regroups ss (changed s (with_member m) (changed s (raised n) ss))
  regroups-added s n x m found quiet none y q i here = by (changed-in s (with_member m) (changed s (raised n) ss) y (changed-once s (raised n) ss (λ x. refl) once) i)
    where
      there : In x ss × (x.number ≡ s)
      there = session-found ss s x found

      idle : phase_of (with_member m (raised n x)).mirror ≡ phase.Idle
      idle = quiet-phase (with_member m (raised n x)) (quiet-members (x.members ++ m ∷ []) (raised n x) (quiet-raised n x quiet))

      target : In q x.members ⊎ In q (m ∷ []) → WasIn ss q ⊎ ((z : Session) (p : Member) → In z ss → In p z.members → p.c.0 ≡ q.c.0 → ⊥)
      target (inl old) = inl (record { session = x; listed = there.0; here = old })
      target (inr (inl is)) = inr (λ z p j at_p e. no-place ss m none p.c.0 z p j at_p (inr (inr (e ∙ ap (λ (r : Member). r.c.0) is))) (inr (inr refl)))
      target (inr (inr never)) = absurd never

      grown : (z : Session) → z ≡ x → y ≡ with_member m (raised n z) → Rests ss y q
      grown z is e = let here-is : y ≡ with_member m (raised n x) = e ∙ ap (λ z. with_member m (raised n z)) is in record {
        idle = ap (λ (z : Session). phase_of z.mirror) here-is ∙ idle;
        target = target (in-joined x.members (m ∷ []) q (subst (λ (z : Session). In q z.members) here-is here));
      }

      inner : (z : Session) → z.number ≡ s → y ≡ with_member m z → (In z ss × (z.number ≢ s)) ⊎ Became s (raised n) ss z → Stays ss y q ⊎ Rests ss y q
      inner z e is (inl o) = absurd (o.1 e)
      inner z e is (inr b) = inr (grown b.from (same-session ss b.from x once b.listed there.0 (b.number ∙ sym there.1)) (is ∙ ap (with_member m) b.is))

      outer : (In y ss × (y.number ≢ s)) ⊎ Became s (raised n) ss y → (y.number ≢ s) → Stays ss y q ⊎ Rests ss y q
      outer (inl o) ne = inl (stays-same ss y q o.0 here)
      outer (inr b) ne = absurd (ne (ap (λ (z : Session). z.number) b.is ∙ b.number))

      by : (In y (changed s (raised n) ss) × (y.number ≢ s)) ⊎ Became s (with_member m) (changed s (raised n) ss) y → Stays ss y q ⊎ Rests ss y q
      by (inl o) = outer (changed-in s (raised n) ss y once o.0) o.1
      by (inr b) = inner b.from b.number b.is (changed-in s (raised n) ss b.from once b.listed)

-- masters are lost
pub stays-lost : (ss : List Session) (before now : ℕ → Bool) → AllStay ss (lost_since before now ss)
stays-lost ss before now y m i here =
    let o = from-map (with_mirror (mirror_lost_since before now)) ss y i in
    subst (λ z. Stays ss z m) (sym o.is) (record {
      was = record { session = o.from; listed = o.here; here = subst (λ (z : Session). In m z.members) o.is here };
      number = refl;
      last = refl;
      phase = eases-mirror (mirror_lost_since before now) (λ r. lost-by r (before r.server && not (now r.server))) o.from.mirror;
    })
  where
    lost-by : (r : Mirror) (b : Bool) → Eases r.master.phase (cond b (record r { master = phases.lost r.master }) r).master.phase
    lost-by r true = eases-lost r.master.phase r.master.servers
    lost-by r false = eases-same r.master.phase
