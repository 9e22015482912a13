-- What commits does so where all were flashed.
use Rattle.std.proofs.Common.{ℕ, ◌≡◌, ◌⊎◌, inl, inr, ap, sym, ◌∙◌, subst, true, List, Some}
use Rattle.dr_ids.specs.declared.refusal.PhaseName.TheVariants as phase
use Rattle.dr_model.specs.Phases as phases
use Rattle.dr_model.specs.Sessions.{Session, Mirror}
use Rattle.dr_model.specs.Control.{World}
use Rattle.dr_model.specs.Moves.{Commit}
use Rattle.dr_model.specs.Entries.{fields_at}
use Rattle.dr_model.specs.Pairs.{is_secondary_of}
use Rattle.dr_model.specs.SessionPlans.{order_of}
use Rattle.dr_model.specs.Groups.{In, Due}
use Rattle.dr_model.specs.Attempts.{Seen, Any, SomeCommitted, roles, seen, seen_in, phase_of, CommitsMember}
use Rattle.dr_model.specs.Runs.{Task, run}
use Rattle.dr_model.specs.Laws.{Sound}
use Rattle.dr_facts.proofs.Lists.{to-map}
use Rattle.dr_laws_attempts.proofs.Dues.{owed-works}
use Rattle.dr_laws_sound.proofs.FitsExchanges.{WorkPhase, IsLast, works}
use Rattle.dr_laws_sound.proofs.Parts.{each-plan}
use Rattle.dr_laws_sound.proofs.Steps.{sound-part, sound-run}
use Rattle.dr_laws_sound.proofs.Riders.{rides-begins, rides-makes}
use Rattle.dr_laws_commits.specs.Flashed.{AllFlashedIn}
use Rattle.dr_laws_commits.specs.Commits.{AsksForFlashed, SessionFlashed, CommitsAreOfFlashed}
use Rattle.dr_laws_commits.proofs.WereFlashed.{WereFlashed, AllWereFlashed}
use Rattle.dr_laws_commits.proofs.Turns.{commit-phase}
use Rattle.dr_laws_commits.proofs.Sends.{plan-sends}
use Rattle.dr_laws_commits.proofs.Along.{were_flashed-ride, were_flashed-run}

-- ---- what masters ask

-- an order to commit is one of a master that commits, for the last number
commit-asks : (r : Mirror) (server : ℕ) (o : phases.Order) → order_of r server ≡ Some o → o.work ≡ phases.Commit → (r.master.phase ≡ phase.Committing) × (o.number ≡ r.master.number)
commit-asks r server o is work =
    subst (λ (work : phases.Work). WorkPhase work r.master.phase × IsLast work o.number r.master.number) work (works r.master.phase (phases.is_among server r.master.owed) r.master.number o is)

module _ (w : World) (s : Sound w) (k : AllWereFlashed w) where
  ordered : (x : Session) (r : Mirror) (server : ℕ) (o : phases.Order) → In x w.control.sessions → x.mirror ≡ Some r → order_of r server ≡ Some o → o.work ≡ phases.Commit → (o.number ≡ x.last) × AllFlashedIn w.events x o.number
  ordered x r server o i has is work =
      let c = commit-asks r server o is work in
      let last : o.number ≡ x.last = c.1 ∙ (s.groups.each x i).sound.number r has in
      (last, subst (AllFlashedIn w.events x) (sym last) ((k x i).commits (ap phase_of has ∙ c.0)))

  asks : AsksForFlashed w
  asks = record {
    committing = λ x i e. (k x i).commits e;
    ordered = ordered;
    sent = plan-sends w ordered;
    flown = λ x m i order any. (k x i).settles (inl any) (inr (inr (record { one = m; here = order.order.here; is = order })));
  }

-- ---- a target is committed

module _ (w : World) (k : AllWereFlashed w) (c a s n : ℕ) (may : CommitsMember w.control c a s n) where
  abbrev x : Session
  x = may.place.session

  were_flashed : WereFlashed w.control.flight (fields_at w.control) w.events x
  were_flashed = k x may.place.listed

  -- it could go back
  opened : Any (λ (v : Seen). v.revertible ≡ true) (seen_in w.control x)
  opened = record { one = seen (roles w.control) may.place.member; here = to-map (seen (roles w.control)) x.members may.place.member may.place.here; is = subst (λ u. (fields_at w.control u).revertible ≡ true) (sym may.target) may.revertible }

  by-order : Due w.control.flight x may.place.member.server.0 phases.Commit x.last → AllFlashedIn w.events x x.last
  by-order (inl owes) = were_flashed.commits (commit-phase (phase_of x.mirror) (owed-works x may.place.member.server.0 phases.Commit x.last owes))
  by-order (inr coming) = were_flashed.settles (inl opened) (inr (inr (record { one = coming.message; here = coming.order.order.here; is = coming.order })))

  all-flashed : AllFlashedIn w.events x x.last
  all-flashed = by may.way
    where
      by : (Due w.control.flight x may.place.member.server.0 phases.Commit n × (is_secondary_of a (fields_at w.control may.place.member.b.0) ≡ true)) ⊎ SomeCommitted n (seen_in w.control x) → AllFlashedIn w.events x x.last
      by (inl due) = by-order (subst (Due w.control.flight x may.place.member.server.0 phases.Commit) may.last due.0)
      by (inr had) = were_flashed.settles (inl opened) (inl (subst (λ j. SomeCommitted j (seen_in w.control x)) may.last had))

  session-flashed : SessionFlashed w s n
  session-flashed = record { one = x; here = may.place.listed; is = (may.place.number, (sym may.last, subst (AllFlashedIn w.events x) (sym may.last) all-flashed)) }

-- ---- every run

pub commits-run : (tasks : List Task) → CommitsAreOfFlashed tasks
commits-run tasks =
    let w : World = run tasks in
    let s : Sound w = sound-run tasks in
    let k : AllWereFlashed w = were_flashed-run tasks in
    record {
      ends = asks w s k;
      plans = λ t p there. asks p.world (each-plan Sound sound-part w t s p there).0 (rides-begins AllWereFlashed were_flashed-ride w t p s k there);
      moves = λ t p v c a z n there makes. let here = rides-makes AllWereFlashed were_flashed-ride w t p s k there v (Commit c a z n) makes in session-flashed v here.law c a z n here.group;
    }
