-- The lost writes are known: what the primaries held as the recovery began, without what is in the cuts of its group.
use Rattle.std.proofs.Common.{ℕ, ◌≡◌, ◌<◌, ◌≤◌, ◌+◌, inl, inr, refl, ap, sym, ◌∙◌, subst, arith, append_assoc, Bool, true, false, cond, ◌&&◌, nat_eq, List, [], ◌∷◌, ◌++◌, Option, Some, None, Result, Ok}
use Rattle.std.specs.List.{list_any}
use Rattle.std.proofs.lemmas.Bool.{and_parts, eqb-true}
use Rattle.std.proofs.lemmas.List.{append-nil}
use Rattle.std.proofs.lemmas.List.Sums.{fold-append}
use Rattle.dr_ids.specs.declared.names.Member.{Member}
use Rattle.dr_ids.specs.Sizes.{most_tracks}
use Rattle.dr_model.specs.declared.event.Event.{Event}
use Rattle.dr_model.specs.declared.said.Addition.TheVariants.{InGroup as AnsweredGroup}
use Rattle.dr_model.specs.declared.said.Said.TheVariants.{Done}
use Rattle.dr_model.specs.declared.step.Step.{Step}
use Rattle.dr_model.specs.declared.step.Step.TheVariants.{Recover}
use Rattle.dr_model.specs.Histories.{histories, lists}
use Rattle.dr_model.specs.Control.{Control, Pending, World, nothing}
use Rattle.dr_model.specs.Entries.{fields_at}
use Rattle.dr_model.specs.Sessions.{Session, session_in, members_in}
use Rattle.dr_model.specs.SessionEntries.{counts_in}
use Rattle.dr_model.specs.Groups.{In, MemberStands}
use Rattle.dr_model.specs.Table.{waiting}
use Rattle.dr_model.specs.Laws.{Sound, AllPending, Below, Waits}
use Rattle.dr_model.specs.Cuts.{CutAt, cuts}
use Rattle.dr_model.specs.ClosedCuts.{InGroup}
use Rattle.dr_model.specs.Runs.{Task, after_task, after_tasks, run}
use Rattle.dr_facts.proofs.Lists.{from-map, to-map, is-met}
use Rattle.dr_laws_sessions.proofs.Changes.{session-found}
use Rattle.dr_laws_cuts.specs.Once.{LastCutAt}
use Rattle.dr_laws_cuts.proofs.Places.{cut-found, cut-once}
use Rattle.dr_laws_closed.specs.Moments.{standing}
use Rattle.dr_laws_targets.specs.Counted.{CountsAsTarget}
use Rattle.dr_laws_targets.proofs.Places.{in-group}
use Rattle.dr_laws_sound.specs.Acknowledged.{said_in}
use Rattle.dr_laws_sound.proofs.Journal.{run-more}
use Rattle.dr_laws_sound.proofs.Limits.{within-run}
use Rattle.dr_laws_sound.proofs.Steps.{sound-run}
use Rattle.dr_laws_recovery.proofs.KeepsWrites.{told-task}
use Rattle.dr_laws_recovery.proofs.CountedAlong.{Counts, counts-run}
use Rattle.dr_laws_recovery.proofs.ClosesAlong.{closed-run}
use Rattle.dr_lost.specs.declared.lost.Pair.{Pair}
use Rattle.dr_lost.specs.Lost.{IsLost}
use Rattle.dr_lost.proofs.SetLemmas.{met-is}
use Rattle.dr_laws_losses.specs.Losses.{members_of, target_pair, recovered_world, RecoversAt, IsUncut}
use Rattle.dr_laws_losses.proofs.Alike.{issues_it}
use Rattle.dr_laws_losses.proofs.Told.{told-none}
use Rattle.dr_laws_losses.proofs.Targets.{AlikeRun, run-alike, holds-as-cut}
use Rattle.dr_laws_losses.proofs.Ends.{HasEnded, recover-ended}
use Rattle.dr_laws_losses.proofs.Tidy.{issued-more, tidy-run}
use Rattle.dr_laws_losses.proofs.Numbers.{held-positive}

-- ---- lists

-- what one list has, another one has that answers alike
same-in : (n : ℕ) (xs ys : List ℕ) → list_any (nat_eq n) xs ≡ list_any (nat_eq n) ys → In n xs → In n ys
same-in n xs ys same h = is-met n ys (sym same ∙ met-is n xs h)

pub below-in : (k n : ℕ) (ws : List ℕ) → Below k ws → In n ws → n < k
below-in k n [] b h = absurd h
below-in k n (w ∷ ws) b (inl is) = subst (λ n. n < k) (sym is) b.0
below-in k n (w ∷ ws) b (inr later) = below-in k n ws b.1 later

-- no landed write waits for a volume whose server is on
none-waits : (v t : ℕ) (ps : List Pending) → AllPending (λ p. p.landed ≡ true → p.volume ≡ v → ⊥) ps → waiting ps v t ≡ []
none-waits v t [] all = refl
none-waits v t (p ∷ ps) all = by p.landed (nat_eq p.volume v) refl refl ∙ none-waits v t ps all.1
  where
    by : (a b : Bool) → p.landed ≡ a → nat_eq p.volume v ≡ b → cond (a && (b && nat_eq p.track t)) (p.w ∷ waiting ps v t) (waiting ps v t) ≡ waiting ps v t
    by true true landed here = absurd (all.0 landed (eqb-true p.volume v here))
    by true false landed here = refl
    by false b landed here = refl

-- ---- journals grow

pub record Longer (es fs : List Event) : Type 0 where
  pub more : List Event
  pub is : fs ≡ es ++ more

tasks-longer : (tasks : List Task) (w : World) → Longer w.events (after_tasks w tasks).events
unfolding after_tasks
tasks-longer [] w = record { more = []; is = sym (append-nil w.events) }
tasks-longer (t ∷ tasks) w =
    let one = told-task w t in
    let rest : Longer (after_task w t).events (after_tasks (after_task w t) tasks).events = tasks-longer tasks (after_task w t) in
    record { more = one.more ++ rest.more; is = rest.is ∙ ap (λ es. es ++ rest.more) one.is ∙ append_assoc w.events one.more rest.more }

pub first-then : (w : World) (t : Task) (ts : List Task) → after_tasks w (t ∷ ts) ≡ after_tasks (after_task w t) ts
unfolding after_tasks
first-then w t ts = refl

pub tasks-joined : (xs ys : List Task) → run (xs ++ ys) ≡ after_tasks (run xs) ys
unfolding after_tasks
tasks-joined xs ys = fold-append after_task nothing xs ys

pub run-longer : (xs ys : List Task) → Longer (run xs).events (run (xs ++ ys)).events
run-longer xs ys = subst (λ (w : World). Longer (run xs).events w.events) (sym (tasks-joined xs ys)) (tasks-longer ys (run xs))

-- ---- the recovery

module _ (before first : List Task) (t : Task) (rest : List Task) (s n : ℕ) (ms : List Member) (pairs : List Pair) (r : RecoversAt before first t rest s n ms pairs) where
  abbrev tasks : List Task
  tasks = before ++ first ++ t ∷ []

  abbrev u : World
  u = recovered_world before first t

  abbrev k : Control
  k = u.control

  abbrev begun : World
  begun = run before

  abbrev end : World
  end = run (before ++ first ++ t ∷ rest)

  sound : Sound u
  sound = sound-run tasks

  counts : Counts u
  counts = counts-run tasks

  ended : HasEnded u s n
  ended = subst (λ w. HasEnded w s n) (sym (run-more (before ++ first) t)) (by t.asked r.asked r.answered)
    where
      by : (asked : Result Step ℕ) → asked ≡ Ok (Recover s) → said_in (run (before ++ first)) (record { line = t.line; asked = asked; listed = t.listed }) ≡ Done (AnsweredGroup n r.decision)
          → HasEnded (after_task (run (before ++ first)) (record { line = t.line; asked = asked; listed = t.listed })) s n
      by asked is = subst (λ asked. said_in (run (before ++ first)) (record { line = t.line; asked = asked; listed = t.listed }) ≡ Done (AnsweredGroup n r.decision)
          → HasEnded (after_task (run (before ++ first)) (record { line = t.line; asked = asked; listed = t.listed })) s n) (sym is) (recover-ended (run (before ++ first)) (sound-run (before ++ first)) s n r.decision t.line t.listed)

  -- ---- a member

  -- its session
  record IsIn (m : Member) : Type 0 where
    session : Session
    listed : In session k.sessions
    number : session.number ≡ s
    here : In m session.members

  is-in : (m : Member) → In m (members_of u s) → IsIn m
  is-in m here = by (session_in k.sessions s) refl here
    where
      by : (o : Option Session) → session_in k.sessions s ≡ o → In m (members_in o) → IsIn m
      by None none here = absurd here
      by (Some x) found here = let there = session-found k.sessions s x found in record { session = x; listed = there.0; number = there.1; here = here }

  module _ (m : Member) (of : In m ms) where
    i : IsIn m
    i = is-in m (r.members m of)

    stands : MemberStands k m
    stands = (sound.groups.each i.session i.listed).stands m i.here

    counted : counts_in s (fields_at k m.c.0) ≡ true
    counted = r.counted m of

    as_target : CountsAsTarget (fields_at k m.c.0)
    as_target = (and_parts _ _ counted).1

    there : In m.c.0 k.volumes
    there = is-met m.c.0 k.volumes stands.c

    sequence : (fields_at k m.c.0).sequence ≡ n
    sequence = ended.number m.c.0 there counted

    -- it stands in the group, and was cut
    stood : standing u.events s n m.a.0 ≡ true
    stood = subst (λ s. standing u.events s n m.a.0 ≡ true) i.number (subst (λ n. standing u.events i.session.number n m.a.0 ≡ true) sequence (counts.1.stands i.session m i.listed i.here as_target))

    pub in-its-group : InGroup u.events s n m.a.0
    in-its-group = in-group s n m.a.0 u.events stood

    pub its-cut : CutAt u.events s n m.a.0
    its-cut = (closed-run tasks s n).cut m.a.0 in-its-group

    cut-held : (c : CutAt u.events s n m.a.0) (q : ℕ) → (cuts u.events).held n m.a.0 q ≡ lists c.before m.a.0 q
    cut-held c q =
        let place : LastCutAt u.events s n m.a.0 = cut-found n m.a.0 u.events s (counts.0.1.whole s n m.a.0 stood).by in
        place.held q ∙ ap (λ es. lists es m.a.0 q) (sym (cut-once u.events counts.0.0.once n m.a.0 s s place.place c))

    -- nothing waits for it
    waits-none : (q : ℕ) → waiting k.pending m.c.0 q ≡ []
    waits-none q = none-waits m.c.0 q k.pending (each k.pending sound.queue.each)
      where
        one : (p : Pending) → Waits None k (histories u.events).write p → p.landed ≡ true → p.volume ≡ m.c.0 → ⊥
        one p waits landed is = absurd (let off : k.on (k.volume p.volume).server ≡ false = waits.calm landed refl in
            let e : true ≡ false = sym (ended.on m.c.0 there counted) ∙ (sym (ap (λ v. k.on (k.volume v).server) is) ∙ off) in cc)

        each : (ps : List Pending) → AllPending (Waits None k (histories u.events).write) ps → AllPending (λ p. p.landed ≡ true → p.volume ≡ m.c.0 → ⊥) ps
        each [] all = tt
        each (p ∷ ps) all = (one p all.0, each ps all.1)

    -- the tracks of its volumes are as many
    size : (k.volume m.c.0).tracks ≡ (k.volume m.a.0).tracks
    size = stands.target_tracks ∙ stands.tracks

    module _ (w : ℕ) (issued : list_any (issues_it w) u.events ≡ true) where
      as-cut : (q : ℕ) → q < (k.volume m.c.0).tracks → list_any (nat_eq w) (lists u.events m.c.0 q) ≡ list_any (nat_eq w) ((cuts u.events).held n m.a.0 q)
      as-cut q low =
          let a : AlikeRun w told-none nothing nothing tasks = run-alike w told-none tasks r.alike in
          ap (list_any (nat_eq w)) (sym (append-nil (lists u.events m.c.0 q)) ∙ ap (λ ws. lists u.events m.c.0 q ++ ws) (sym (waits-none q)))
          ∙ (holds-as-cut w u (run a.others) a.alike (counts-run a.others).1 issued i.session m i.listed i.here as_target q low
          ∙ ap (λ n. list_any (nat_eq w) ((cuts u.events).held n m.a.0 q)) sequence)

      -- what the target holds is in the cut, and what is in the cut the target holds
      pub to-cut : (c : CutAt u.events s n m.a.0) (q : ℕ) → In w (lists u.events m.c.0 q) → In w (lists c.before m.a.0 q)
      to-cut c q h = subst (In w) (cut-held c q) (same-in w (lists u.events m.c.0 q) ((cuts u.events).held n m.a.0 q) (as-cut q ((tidy-run tasks).low.0 m.c.0 q w h)) h)

      pub from-cut : (c : CutAt u.events s n m.a.0) (q : ℕ) → In w (lists c.before m.a.0 q) → In w (lists u.events m.c.0 q)
      from-cut c q h =
          let held : In w ((cuts u.events).held n m.a.0 q) = subst (In w) (sym (cut-held c q)) h in
          let low : q < (k.volume m.a.0).tracks = (tidy-run tasks).held n m.a.0 q w held in
          same-in w ((cuts u.events).held n m.a.0 q) (lists u.events m.c.0 q) (sym (as-cut q (subst (λ l. q < l) (sym size) low))) held

  -- ---- what is lost

  pub begun-longer : Longer begun.events u.events
  begun-longer = subst (λ ts. Longer begun.events (run ts).events) (sym (append_assoc before first (t ∷ []))) (run-longer before (first ++ t ∷ []))

  module _ (w : ℕ) where
    -- what was held as the recovery began was told of
    pub told-of : (v q : ℕ) → In w (lists begun.events v q) → list_any (issues_it w) u.events ≡ true
    told-of v q h =
        let l : Longer begun.events u.events = begun-longer in
        let numbered : w < begun.control.issued + 1 = below-in (begun.control.issued + 1) w (lists begun.events v q) ((sound-run before).queue.numbers.now v q) h in
        subst (λ es. list_any (issues_it w) es ≡ true) (sym l.is) (issued-more w begun.events l.more ((tidy-run before).issued w (held-positive before w v q h) numbered))

    pub to-uncut : IsLost most_tracks (lists begun.events) (lists end.events) pairs w → IsUncut ms begun.events u.events s n w
    to-uncut l =
        let o = from-map target_pair ms l.pair ((r.targets l.pair).0 l.among) in
        let m : Member = o.from in
        let c : CutAt u.events s n m.a.0 = its-cut m o.here in
        let held : In w (lists begun.events m.a.0 l.track) = subst (λ (p : Pair). In w (lists begun.events p.second l.track)) o.is l.held in
        record {
          member = m;
          here = o.here;
          track = l.track;
          held = held;
          cut = c;
          without = λ h. l.gone (subst (λ (p : Pair). In w (lists end.events p.first l.track)) (sym o.is) (subst (In w) (sym (r.stays m o.here l.track)) (from-cut m o.here w (told-of m.a.0 l.track held) c l.track h)));
        }

    pub from-uncut : IsUncut ms begun.events u.events s n w → IsLost most_tracks (lists begun.events) (lists end.events) pairs w
    from-uncut c =
        let low : c.track < (begun.control.volume c.member.a.0).tracks = (tidy-run before).low.0 c.member.a.0 c.track w c.held in
        let most : (begun.control.volume c.member.a.0).tracks ≤ most_tracks = (within-run before).tracks c.member.a.0 in
        record {
          pair = target_pair c.member;
          track = c.track;
          among = (r.targets (target_pair c.member)).1 (to-map target_pair ms c.member c.here);
          below = omega arith;
          held = c.held;
          gone = λ h. c.without (to-cut c.member c.here w (told-of c.member.a.0 c.track c.held) c.cut c.track (subst (In w) (r.stays c.member c.here c.track) h));
        }
