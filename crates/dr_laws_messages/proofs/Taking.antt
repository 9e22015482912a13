-- A master takes replies, one after another: who is owed then, and what was reported; and what the messages in flight say stays.
use Rattle.std.proofs.Common.{ℕ, ◌≡◌, ◌≢◌, ◌≤◌, ◌+◌, ◌⊎◌, inl, inr, refl, sym, ◌∙◌, true, false, arith, List, [], ◌∷◌, ◌++◌, length, subst}
use Rattle.std.proofs.lemmas.Bool.{cases_Bool}
use Rattle.std.proofs.lemmas.Bool.Decides.{eqb_tells}
use Rattle.dr_ids.specs.declared.refusal.PhaseName.{PhaseName}
use Rattle.dr_ids.specs.declared.refusal.PhaseName.TheVariants as phase
use Rattle.dr_model.specs.Decisions.{Shown}
use Rattle.dr_model.specs.Phases as phases
use Rattle.dr_model.specs.Messages.{Flight, Message, Replies, Asks, with_message}
use Rattle.dr_model.specs.Groups.{In, IsOrder}
use Rattle.dr_model.specs.Attempts.{Seen, All, Barred, Blocked, is_owed, Answered, IsReported, AgreesOnLast, AgreesOnOther, Known, InPhase}
use Rattle.dr_model.specs.Flights.{IsKnown, IsSentSoFar, IsThreat, IsAwaited, MayTake, owed_after, reports_after, shown_by, shown_in, members_at, FlightFits}
use Rattle.dr_facts.proofs.Tables.{IsOrNot}
use Rattle.dr_facts.proofs.Lists.{in-first, in-second, in-joined}
use Rattle.dr_laws_sessions.proofs.Reports.{out-without}
use Rattle.dr_laws_sessions.proofs.Sound.{among-without}
use Rattle.dr_laws_sessions.proofs.Owed.{among-fewer}
use Rattle.dr_laws_messages.proofs.Eased.{Eases, fits-eased, threat-was}
use Rattle.dr_logic.proofs.Truth.{false_true}

-- ---- who is owed

-- one that isn't owed isn't without another
still-free : (x t : ℕ) (ks : List ℕ) → phases.is_among x ks ≡ false → phases.is_among x (phases.without t ks) ≡ false
still-free x t ks none = by (cases_Bool (phases.is_among x (phases.without t ks)))
  where
    by : (phases.is_among x (phases.without t ks) ≡ true) ⊎ (phases.is_among x (phases.without t ks) ≡ false) → phases.is_among x (phases.without t ks) ≡ false
    by (inl any) = false_true none (among-fewer x t ks any)
    by (inr free) = free

free-after : (x : ℕ) (ms : List Message) (ks : List ℕ) → phases.is_among x ks ≡ false → phases.is_among x (owed_after ms ks) ≡ false
free-after x [] ks none = none
free-after x (m ∷ ms) ks none = free-after x ms (phases.without m.server ks) (still-free x m.server ks none)

among-step : (x t : ℕ) (ks os : List ℕ) → phases.is_among x ks ≡ phases.is_among x os → phases.is_among x (phases.without t ks) ≡ phases.is_among x (phases.without t os)
among-step x t ks os same = by (eqb_tells x t)
  where
    by : IsOrNot x t → phases.is_among x (phases.without t ks) ≡ phases.is_among x (phases.without t os)
    by (inl is) = subst (λ x. phases.is_among x (phases.without t ks) ≡ phases.is_among x (phases.without t os)) (sym is.1) (out-without t ks ∙ sym (out-without t os))
    by (inr other) = among-without x t ks other.1 ∙ (same ∙ sym (among-without x t os other.1))

among-after : (x : ℕ) (ms : List Message) (ks os : List ℕ) → phases.is_among x ks ≡ phases.is_among x os → phases.is_among x (owed_after ms ks) ≡ phases.is_among x (owed_after ms os)
among-after x [] ks os same = same
among-after x (m ∷ ms) ks os same = among-after x ms (phases.without m.server ks) (phases.without m.server os) (among-step x m.server ks os same)

-- it is all one whether a server answers first or last
after-swap : (x t : ℕ) (ms : List Message) (owed : List ℕ) → phases.is_among x (owed_after ms (phases.without t owed)) ≡ phases.is_among x (phases.without t (owed_after ms owed))
after-swap x t ms owed = by (eqb_tells x t)
  where
    by : IsOrNot x t → phases.is_among x (owed_after ms (phases.without t owed)) ≡ phases.is_among x (phases.without t (owed_after ms owed))
    by (inl is) = subst (λ x. phases.is_among x (owed_after ms (phases.without t owed)) ≡ phases.is_among x (phases.without t (owed_after ms owed))) (sym is.1)
        (free-after t ms (phases.without t owed) (out-without t owed) ∙ sym (out-without t (owed_after ms owed)))
    by (inr other) = among-after x ms (phases.without t owed) owed (among-without x t owed other.1) ∙ sym (among-without x t (owed_after ms owed) other.1)

-- ---- what was reported

reports-more : (ms : List Message) (rs : List Shown) (r : Shown) → In r rs → In r (reports_after ms rs)
reports-more [] rs r i = i
reports-more (m ∷ ms) rs r i = reports-more ms (rs ++ shown_in m.body) r (in-first rs (shown_in m.body) r i)

reports-or : (ms : List Message) (rs qs xs : List Shown) → ((r : Shown) → In r rs → In r qs ⊎ In r xs) → (r : Shown) → In r (reports_after ms rs) → In r (reports_after ms qs) ⊎ In r xs
reports-or [] rs qs xs sub r i = sub r i
reports-or (m ∷ ms) rs qs xs sub r i = reports-or ms (rs ++ shown_in m.body) (qs ++ shown_in m.body) xs (λ r i. by r (in-joined rs (shown_in m.body) r i)) r i
  where
    was : (r : Shown) → In r qs ⊎ In r xs → In r (qs ++ shown_in m.body) ⊎ In r xs
    was r (inl old) = inl (in-first qs (shown_in m.body) r old)
    was r (inr new) = inr new

    by : (r : Shown) → In r rs ⊎ In r (shown_in m.body) → In r (qs ++ shown_in m.body) ⊎ In r xs
    by r (inl old) = was r (sub r old)
    by r (inr told) = inl (in-second qs (shown_in m.body) r told)

reports-grow : (ms : List Message) (rs qs : List Shown) → ((r : Shown) → In r rs → In r qs) → (r : Shown) → In r (reports_after ms rs) → In r (reports_after ms qs)
reports-grow [] rs qs sub r i = sub r i
reports-grow (m ∷ ms) rs qs sub r i = reports-grow ms (rs ++ shown_in m.body) (qs ++ shown_in m.body) (λ r i. by r (in-joined rs (shown_in m.body) r i)) r i
  where
    by : (r : Shown) → In r rs ⊎ In r (shown_in m.body) → In r (qs ++ shown_in m.body)
    by r (inl old) = in-first qs (shown_in m.body) r (sub r old)
    by r (inr told) = in-second qs (shown_in m.body) r told

-- so it is with what it reports
told-last : (ms : List Message) (reports xs : List Shown) (r : Shown) → In r (reports_after ms reports ++ xs) → In r (reports_after ms (reports ++ xs))
told-last ms reports xs r i = by (in-joined (reports_after ms reports) xs r i)
  where
    by : In r (reports_after ms reports) ⊎ In r xs → In r (reports_after ms (reports ++ xs))
    by (inl old) = reports-grow ms reports (reports ++ xs) (λ r i. in-first reports xs r i) r old
    by (inr new) = reports-more ms (reports ++ xs) r (in-second reports xs r new)

told-first : (ms : List Message) (reports xs : List Shown) (r : Shown) → In r (reports_after ms (reports ++ xs)) → In r (reports_after ms reports ++ xs)
told-first ms reports xs r i = by (reports-or ms (reports ++ xs) reports xs (λ r i. in-joined reports xs r i) r i)
  where
    by : In r (reports_after ms reports) ⊎ In r xs → In r (reports_after ms reports ++ xs)
    by (inl old) = in-first (reports_after ms reports) xs r old
    by (inr new) = in-second (reports_after ms reports) xs r new

-- ---- a phase looks at who is owed and what was reported, in whatever order

module _ (n : ℕ) (vs : List Seen) (owed ks : List ℕ) (reports rs : List Shown) (same : (x : ℕ) → phases.is_among x ks ≡ phases.is_among x owed) (there : (r : Shown) → In r reports → In r rs) (back : (r : Shown) → In r rs → In r reports) where
  answered-same : (P : Seen → Type 0) → Answered owed P vs → Answered ks P vs
  answered-same P on u h o = on u h (sym (same u.server) ∙ o)

  agrees-same : AgreesOnLast n reports vs ⊎ AgreesOnOther n reports vs → AgreesOnLast n rs vs ⊎ AgreesOnOther n rs vs
  agrees-same (inl l) = inl (record { told = λ k i. l.told k (back _ i); all = l.all; settled = l.settled })
  agrees-same (inr o) = inr (record { shown = o.shown; told = λ k i. o.told k (back _ i) })

  known-same : Known n owed reports vs → Known n ks rs vs
  known-same (inl none) = inl none
  known-same (inr (inl told)) = inr (inl (there _ told))
  known-same (inr (inr w)) = inr (inr (record { one = w.one; here = w.here; is = (w.is.0, same w.one.server ∙ w.is.1) }))

  flashed-same : Barred n vs ⊎ Answered owed (λ v. v.revertible ≡ true) vs → Barred n vs ⊎ Answered ks (λ v. v.revertible ≡ true) vs
  flashed-same (inl bar) = inl bar
  flashed-same (inr on) = inr (answered-same _ on)

  pub phase-same : (p : PhaseName) → InPhase p n owed reports vs → InPhase p n ks rs vs
  phase-same phase.None h = h
  phase-same phase.Idle h = h
  phase-same phase.Coordinating h = record { before = h.before; unsealed = h.unsealed; held = answered-same _ h.held }
  phase-same phase.Releasing h = h
  phase-same phase.Draining h = h
  phase-same phase.Flashing h = record { positive = h.positive; uncommitted = h.uncommitted; held = h.held; done = flashed-same h.done; flashed = answered-same _ h.flashed }
  phase-same phase.Committing h = record { way = h.way; held = h.held; flashed = h.flashed; done = answered-same _ h.done }
  phase-same phase.Reverting h = record { way = h.way; done = answered-same _ h.done }
  phase-same phase.Finishing h = record { unflashed = h.unflashed; done = answered-same _ h.done }
  phase-same phase.Lost h = record { last = λ k i. h.last k (back _ i); agrees = agrees-same h.agrees; known = λ u i c. known-same (h.known u i c); told = λ u i o r. there _ (answered-same _ h.told u i o r); after = λ i. h.after (back _ i) }

-- ---- replies that are awaited

module _ (f : Flight) (s : ℕ) (p : PhaseName) (n : ℕ) where
  -- where more are owed
  pub awaited-more : (ks owed : List ℕ) (m : Message) → ((x : ℕ) → phases.is_among x ks ≡ true → phases.is_among x owed ≡ true) → IsAwaited f s p n ks m → IsAwaited f s p n owed m
  awaited-more ks owed m sub a = record { here = a.here; session = a.session; epoch = a.epoch; works = a.works; number = a.number; due = sub m.server a.due; answers = a.answers }

  fewer-step : (t : ℕ) (ks owed : List ℕ) → ((x : ℕ) → phases.is_among x ks ≡ true → phases.is_among x owed ≡ true) → (x : ℕ) → phases.is_among x (phases.without t ks) ≡ true → phases.is_among x (phases.without t owed) ≡ true
  fewer-step t ks owed sub x h = by (eqb_tells x t)
    where
      by : IsOrNot x t → phases.is_among x (phases.without t owed) ≡ true
      by (inl is) = false_true (out-without t ks) (subst (λ x. phases.is_among x (phases.without t ks) ≡ true) is.1 h)
      by (inr other) = among-without x t owed other.1 ∙ sub x (among-fewer x t ks h)

  take-more : (ms : List Message) (ks owed : List ℕ) → ((x : ℕ) → phases.is_among x ks ≡ true → phases.is_among x owed ≡ true) → MayTake f s p n ks ms → MayTake f s p n owed ms
  take-more [] ks owed sub t = tt
  take-more (m ∷ ms) ks owed sub t = (awaited-more ks owed m sub t.0, take-more ms (phases.without m.server ks) (phases.without m.server owed) (fewer-step m.server ks owed sub) t.1)

-- ---- one of them is taken, or a server answers at once

module _ (f : Flight) (s : ℕ) (p : PhaseName) (n : ℕ) (owed : List ℕ) (reports : List Shown) (vs : List Seen) (fits : FlightFits f s p n owed reports vs) (server : ℕ) (xs : List Shown) where
  -- who has answered has a fence of this epoch
  heard-on : All (λ v. v.server ≡ server → f.epoch s ≤ f.fence s v.server) vs → All (λ v. is_owed owed v ≡ false → f.epoch s ≤ f.fence s v.server) vs → All (λ v. is_owed (phases.without server owed) v ≡ false → f.epoch s ≤ f.fence s v.server) vs
  heard-on risen old u h o = by (eqb_tells u.server server)
    where
      by : IsOrNot u.server server → f.epoch s ≤ f.fence s u.server
      by (inl is) = risen u h is.1
      by (inr other) = old u h (sym (among-without u.server server owed other.1) ∙ o)

  abbrev Others : Type 0
  Others = p ≡ phase.Lost → (k : ℕ) → IsReported k false xs → k ≢ n → (m : Message) → IsThreat f s phases.Commit n vs m → Blocked vs

  others-on : Others → p ≡ phase.Lost → (k : ℕ) → IsReported k false reports ⊎ IsReported k false xs → k ≢ n → (m : Message) → IsThreat f s phases.Commit n vs m → Blocked vs
  others-on new e k (inl old) apart m t = fits.others e k old apart m t
  others-on new e k (inr told) apart m t = new e k told apart m t

  awaited-still : (m : Message) → IsAwaited f s p n (phases.without server owed) m → IsAwaited f s p n owed m
  awaited-still m a = awaited-more f s p n (phases.without server owed) owed m (λ x h. among-fewer x server owed h) a

  -- by what its members' servers have done, or show
  pub fits-without : (p ≡ phase.Lost → All (λ v. v.server ≡ server → f.epoch s ≤ f.fence s v.server) vs) → Others → ((ms : List Message) → MayTake f s p n (phases.without server owed) ms → InPhase p n (owed_after ms (phases.without server owed)) (reports_after ms (reports ++ xs)) vs)
      → FlightFits f s p n (phases.without server owed) (reports ++ xs) vs
  fits-without risen new replies = record {
    known = fits.known;
    so_far = fits.so_far;
    fenced = fits.fenced;
    heard = λ e. heard-on (risen e) (fits.heard e);
    reached = λ e m a. fits.reached e m (awaited-still m a);
    holds = fits.holds;
    after_holds = fits.after_holds;
    flashes = fits.flashes;
    commits = fits.commits;
    commit_way = fits.commit_way;
    revert_way = fits.revert_way;
    one_way = fits.one_way;
    others = λ e k told. others-on new e k (in-joined reports xs _ told);
    others_come = λ e q a. fits.others_come e q (awaited-still q a);
    replies = replies;
    few = λ m a. fits.few m (awaited-still m a);
    finished = λ e m a. fits.finished e m (awaited-still m a);
  }

  -- at once: whatever else is taken, the attempt goes on as its phase says
  pub fits-added : (p ≡ phase.Lost → All (λ v. v.server ≡ server → f.epoch s ≤ f.fence s v.server) vs) → Others → ((ks : List ℕ) (rs : List Shown) → InPhase p n ks rs vs → InPhase p n (phases.without server ks) (rs ++ xs) vs) → FlightFits f s p n (phases.without server owed) (reports ++ xs) vs
  fits-added risen new adds = fits-without risen new (λ ms t. phase-same n vs (phases.without server (owed_after ms owed)) (owed_after ms (phases.without server owed)) (reports_after ms reports ++ xs) (reports_after ms (reports ++ xs))
      (λ x. after-swap x server ms owed) (λ r i. told-last ms reports xs r i) (λ r i. told-first ms reports xs r i) p
      (adds (owed_after ms owed) (reports_after ms reports) (fits.replies ms (take-more f s p n ms (phases.without server owed) owed (λ x h. among-fewer x server owed h) t))))

-- one that was in flight
pub fits-take : (f : Flight) (s : ℕ) (p : PhaseName) (n : ℕ) (owed : List ℕ) (reports : List Shown) (vs : List Seen) (m : Message) → IsAwaited f s p n owed m → FlightFits f s p n owed reports vs → FlightFits f s p n (phases.without m.server owed) (reports ++ shown_in m.body) vs
fits-take f s p n owed reports vs m a fits = fits-without f s p n owed reports vs fits m.server (shown_in m.body)
    (λ e u h is. subst (λ x. f.epoch s ≤ f.fence s x) (sym is) (fits.reached e m a)) (λ e. fits.others_come e m a) (λ ms t. fits.replies (m ∷ ms) (a, t))

-- and any of them
pub fits-takes : (f : Flight) (s : ℕ) (p : PhaseName) (n : ℕ) (owed : List ℕ) (reports : List Shown) (vs : List Seen) (ms : List Message) → MayTake f s p n owed ms → FlightFits f s p n owed reports vs → FlightFits f s p n (owed_after ms owed) (reports_after ms reports) vs
fits-takes f s p n owed reports vs [] t fits = fits
fits-takes f s p n owed reports vs (m ∷ ms) t fits = fits-takes f s p n (phases.without m.server owed) (reports ++ shown_in m.body) vs ms t.1 (fits-take f s p n owed reports vs m t.0 fits)

-- ---- a reply more is in flight

module _ (f : Flight) (s e server : ℕ) (o : phases.Order) (reply : phases.Reply) where
  abbrev g : Flight
  g = with_message s e server o (Replies reply) f

  -- the one that is made
  abbrev pub new : Message
  new = record { number = f.made + 1; session = s; epoch = e; server = server; order = o; body = Replies reply }

  pub reply-or : (m : Message) → In m g.messages → In m f.messages ⊎ (m ≡ new)
  reply-or m h = by (in-joined f.messages (new ∷ []) m h)
    where
      by : In m f.messages ⊎ In m (new ∷ []) → In m f.messages ⊎ (m ≡ new)
      by (inl old) = inl old
      by (inr (inl is)) = inr is
      by (inr (inr never)) = absurd never

  pub reply-eases : (t : ℕ) → Eases f g t
  reply-eases t = record { orders = λ m o. by m o (reply-or m o.here); fence = λ x. omega arith }
    where
      by : (m : Message) → IsOrder g t m → In m f.messages ⊎ (m ≡ new) → IsOrder f t m
      by m o (inl old) = record { here = old; session = o.session; starts = o.starts; asks = o.asks }
      by m o (inr is) = let never : Replies reply ≡ Asks o.starts = sym (λ i. (is i).body) ∙ o.asks in absurd cc

  module _ (p : PhaseName) (n : ℕ) where
    awaited-old : (ks : List ℕ) (m : Message) → In m f.messages → IsAwaited g s p n ks m → IsAwaited f s p n ks m
    awaited-old ks m old a = record { here = old; session = a.session; epoch = a.epoch; works = a.works; number = a.number; due = a.due; answers = a.answers }

    -- where its server isn't owed it isn't taken
    none-new : (ms : List Message) (ks : List ℕ) → phases.is_among server ks ≡ false → MayTake g s p n ks ms → MayTake f s p n ks ms
    none-new [] ks free t = tt
    none-new (m ∷ ms) ks free t = (old (reply-or m t.0.here), none-new ms (phases.without m.server ks) (still-free server m.server ks free) t.1)
      where
        old : In m f.messages ⊎ (m ≡ new) → IsAwaited f s p n ks m
        old (inl here) = awaited-old ks m here t.0
        old (inr is) = false_true free (subst (λ x. phases.is_among x ks ≡ true) (λ i. (is i).server) t.0.due)

    -- replies that are taken are all old, or the new one and old ones
    data Parts (owed : List ℕ) (reports : List Shown) (ms : List Message) : Type 0 where
      AllOld : MayTake f s p n owed ms → Parts owed reports ms
      WithNew : (os : List Message) → MayTake f s p n owed os → IsAwaited g s p n owed new → ((x : ℕ) → phases.is_among x (owed_after ms owed) ≡ phases.is_among x (phases.without server (owed_after os owed)))
          → ((r : Shown) → In r (reports_after os reports ++ shown_by reply) → In r (reports_after ms reports)) → ((r : Shown) → In r (reports_after ms reports) → In r (reports_after os reports ++ shown_by reply)) → Parts owed reports ms

    parts : (ms : List Message) (owed : List ℕ) (reports : List Shown) → MayTake g s p n owed ms → Parts owed reports ms
    parts [] owed reports t = AllOld tt
    parts (m ∷ ms) owed reports t = by (reply-or m t.0.here) (parts ms (phases.without m.server owed) (reports ++ shown_in m.body) t.1)
      where
        more : In m f.messages → Parts (phases.without m.server owed) (reports ++ shown_in m.body) ms → Parts owed reports (m ∷ ms)
        more old (AllOld rest) = AllOld (awaited-old owed m old t.0, rest)
        more old (WithNew os rest a same there back) = WithNew (m ∷ os) (awaited-old owed m old t.0, rest) (awaited-more g s p n (phases.without m.server owed) owed new (λ x h. among-fewer x m.server owed h) a) same there back

        first : (q : Message) → q ≡ new → IsAwaited g s p n owed q → MayTake g s p n (phases.without q.server owed) ms → Parts owed reports (q ∷ ms)
        first q is a rest = subst (λ q. Parts owed reports (q ∷ ms)) (sym is)
            (WithNew ms (take-more f s p n ms (phases.without server owed) owed (λ x h. among-fewer x server owed h) (none-new ms (phases.without server owed) (out-without server owed) (subst (λ q. MayTake g s p n (phases.without q.server owed) ms) is rest)))
            (subst (IsAwaited g s p n owed) is a) (λ x. after-swap x server ms owed) (λ r i. told-last ms reports (shown_by reply) r i) (λ r i. told-first ms reports (shown_by reply) r i))

        by : In m f.messages ⊎ (m ≡ new) → Parts (phases.without m.server owed) (reports ++ shown_in m.body) ms → Parts owed reports (m ∷ ms)
        by (inl old) rest = more old rest
        by (inr is) rest = first m is t.0 t.1

    -- what is asked of the new one
    pub record MayReply (owed : List ℕ) (reports : List Shown) (vs : List Seen) : Type 0 where
      pub known : IsKnown (f.epoch s) n new
      pub so_far : o.number ≡ n → IsSentSoFar p (f.epoch s) new
      pub reached : p ≡ phase.Lost → IsAwaited g s p n owed new → f.epoch s ≤ f.fence s server
      pub others : p ≡ phase.Lost → IsAwaited g s p n owed new → (k : ℕ) → IsReported k false (shown_by reply) → k ≢ n → (m : Message) → IsThreat f s phases.Commit n vs m → Blocked vs
      pub adds : IsAwaited g s p n owed new → (ks : List ℕ) (rs : List Shown) → InPhase p n ks rs vs → InPhase p n (phases.without server ks) (rs ++ shown_by reply) vs
      pub few : IsAwaited g s p n owed new → length (shown_by reply) ≤ members_at server vs
      pub finished : p ≡ phase.Finishing → IsAwaited g s p n owed new → All (λ v. v.server ≡ server → v.recording ≡ false) vs

    module _ (owed : List ℕ) (reports : List Shown) (vs : List Seen) (fits : FlightFits f s p n owed reports vs) (may : MayReply owed reports vs) where
      known-or : (m : Message) → In m f.messages ⊎ (m ≡ new) → m.session ≡ s → IsKnown (f.epoch s) n m
      known-or m (inl old) at = fits.known m old at
      known-or m (inr is) at = subst (IsKnown (f.epoch s) n) (sym is) may.known

      so-far-or : (m : Message) → In m f.messages ⊎ (m ≡ new) → m.session ≡ s → m.order.number ≡ n → IsSentSoFar p (f.epoch s) m
      so-far-or m (inl old) at is = fits.so_far m old at is
      so-far-or m (inr i) at is = subst (IsSentSoFar p (f.epoch s)) (sym i) (may.so_far (sym (λ j. (i j).order.number) ∙ is))

      reached-or : p ≡ phase.Lost → (m : Message) → In m f.messages ⊎ (m ≡ new) → IsAwaited g s p n owed m → f.epoch s ≤ f.fence s m.server
      reached-or e m (inl old) a = fits.reached e m (awaited-old owed m old a)
      reached-or e m (inr is) a = subst (λ (m : Message). f.epoch s ≤ f.fence s m.server) (sym is) (may.reached e (subst (IsAwaited g s p n owed) is a))

      others-or : p ≡ phase.Lost → (q : Message) → In q f.messages ⊎ (q ≡ new) → IsAwaited g s p n owed q → (k : ℕ) → IsReported k false (shown_in q.body) → k ≢ n → (m : Message) → IsThreat f s phases.Commit n vs m → Blocked vs
      others-or e q (inl old) a k told apart m t = fits.others_come e q (awaited-old owed q old a) k told apart m t
      others-or e q (inr is) a k told apart m t = may.others e (subst (IsAwaited g s p n owed) is a) k (subst (λ (q : Message). IsReported k false (shown_in q.body)) is told) apart m t

      few-or : (m : Message) → In m f.messages ⊎ (m ≡ new) → IsAwaited g s p n owed m → length (shown_in m.body) ≤ members_at m.server vs
      few-or m (inl old) a = fits.few m (awaited-old owed m old a)
      few-or m (inr is) a = subst (λ (m : Message). length (shown_in m.body) ≤ members_at m.server vs) (sym is) (may.few (subst (IsAwaited g s p n owed) is a))

      finished-or : p ≡ phase.Finishing → (m : Message) → In m f.messages ⊎ (m ≡ new) → IsAwaited g s p n owed m → All (λ v. v.server ≡ m.server → v.recording ≡ false) vs
      finished-or e m (inl old) a = fits.finished e m (awaited-old owed m old a)
      finished-or e m (inr is) a = subst (λ (m : Message). All (λ v. v.server ≡ m.server → v.recording ≡ false) vs) (sym is) (may.finished e (subst (IsAwaited g s p n owed) is a))

      replies-or : (ms : List Message) → Parts owed reports ms → InPhase p n (owed_after ms owed) (reports_after ms reports) vs
      replies-or ms (AllOld t) = fits.replies ms t
      replies-or ms (WithNew os t a same there back) = phase-same n vs (phases.without server (owed_after os owed)) (owed_after ms owed) (reports_after os reports ++ shown_by reply) (reports_after ms reports) same there back p
          (may.adds a (owed_after os owed) (reports_after os reports) (fits.replies os t))

      pub fits-replied : FlightFits g s p n owed reports vs
      fits-replied = fits-eased f g s (reply-eases s) p n owed reports vs refl fits (record {
        known = λ m i. known-or m (reply-or m i);
        so_far = λ m i. so-far-or m (reply-or m i);
        reached = λ e m a. reached-or e m (reply-or m a.here) a;
        others_come = λ e q a k told apart m t. others-or e q (reply-or q a.here) a k told apart m (threat-was f g s (reply-eases s) phases.Commit n vs m t);
        replies = λ ms t. replies-or ms (parts ms owed reports t);
        few = λ m a. few-or m (reply-or m a.here) a;
        finished = λ e m a. finished-or e m (reply-or m a.here) a;
      })
