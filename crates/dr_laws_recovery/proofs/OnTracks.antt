-- Each write of a list was issued for the track whose list it is, at every place of a run's journal.
use Rattle.std.proofs.Common.{ℕ, ◌≡◌, ◌≢◌, ◌<◌, ◌+◌, ◌⊎◌, inl, inr, refl, ap, sym, ◌∙◌, subst, append_assoc, arith, Bool, true, false, List, [], ◌∷◌, ◌++◌, Option}
use Rattle.std.specs.List.{list_any}
use Rattle.std.proofs.lemmas.List.{append-nil}
use Rattle.std.proofs.lemmas.Bool.{or_parts}
use Rattle.dr_model.specs.declared.event.Event.{Event}
use Rattle.dr_model.specs.declared.event.Event.TheVariants.{Issue, Ack, Mirrored, Stopped, Frozen, Thawed, Recovered, Begin, Cut}
use Rattle.dr_model.specs.Histories.{Write, Histories, joined, after_event, histories}
use Rattle.dr_model.specs.Control.{Fuse, World, nothing}
use Rattle.dr_model.specs.Moves.{Move, Hold, target, told, told_in_stop, landed}
use Rattle.dr_model.specs.Carry.{Act, Make, OpenAttempt, Redo, Acknowledge, Drop, EndFreeze, EndThaw, EndRecovery}
use Rattle.dr_model.specs.Groups.{In}
use Rattle.dr_model.specs.Laws.{Below, Sound}
use Rattle.dr_model.specs.Runs.{Task, run}
use Rattle.dr_model.proofs.Images.{histories-push}
use Rattle.dr_logic.proofs.Tables.{at_other}
use Rattle.dr_facts.proofs.Lists.{in-joined}
use Rattle.dr_facts.proofs.Emits.{Lists, Of, any-lists, by_moves, emitted, stop-onto, all-told}
use Rattle.dr_facts.proofs.Heard.{OfEach, OfJoined, each-event}
use Rattle.dr_laws_sound.proofs.Turns.{after_act, server_at}
use Rattle.dr_laws_sound.proofs.KeepsSound.{MayDo}
use Rattle.dr_laws_sound.proofs.Starts as starts
use Rattle.dr_laws_sound.proofs.Steps as steps
use Rattle.dr_laws_sound.proofs.Rides.{Rides}
use Rattle.dr_laws_sound.proofs.Riders.{Rider, rides-tasks}
use Rattle.dr_laws_cuts.specs.Once.{NoCuts}
use Rattle.dr_laws_recovery.proofs.Stored.{places}

-- ---- one event

-- a list of a track has writes of that track alone
abbrev OfTrack : (ℕ → Write) → ℕ → List ℕ → Type 0
OfTrack write t ws = (u : ℕ) → In u ws → (write u).track ≡ t

-- of the lists of volumes, and of those that are kept aside
abbrev pub OnTracks : Histories → Type 0
OnTracks h = OfEach (OfTrack h.write) h

abbrev pub is_issue : Event → Bool
is_issue (Issue n v t offset len bytes) = true
is_issue e = false

joined-on : (h : Histories) (n : ℕ) → OnTracks h → (u : ℕ) → In u (joined h n) → (h.write u).track ≡ (h.write n).track
joined-on h n old u i = by (in-joined (h.now (h.write n).volume (h.write n).track) (n ∷ []) u i)
  where
    by : In u (h.now (h.write n).volume (h.write n).track) ⊎ In u (n ∷ []) → (h.write u).track ≡ (h.write n).track
    by (inl was) = old.0 (h.write n).volume (h.write n).track u was
    by (inr (inl is)) = ap (λ u. (h.write u).track) is
    by (inr (inr none)) = absurd none

joins-on : (h : Histories) (e : Event) → OnTracks h → OfJoined (OfTrack h.write) h e
joins-on h (Ack n) old = joined-on h n old
joins-on h (Mirrored n x) old = joined-on h n old
joins-on h e old = tt

event-on : (h : Histories) (e : Event) → is_issue e ≡ false → OnTracks h → OnTracks (after_event h e)
event-on h (Issue n v t offset len bytes) new old = absurd cc
event-on h e new old = each-event (OfTrack h.write) (λ t u i. absurd i) h e (joins-on h e old) old

-- ---- after a journal, and wherever it tells that a volume was cut

pub record TrackedAt (events : List Event) : Type 0 where
  pub now : OnTracks (histories events)
  pub cut : (before behind : List Event) (s n v : ℕ) → events ≡ before ++ Cut s n v ∷ behind → OnTracks (histories before)

one-more : (es : List Event) (e : Event) → TrackedAt es → OnTracks (histories (es ++ e ∷ [])) → TrackedAt (es ++ e ∷ [])
one-more es e k new = record {
  now = new;
  cut = λ before behind s n v is. elim (places es (e ∷ []) (Cut s n v) before behind is) [
    | inl a ↦ k.cut before a.behind s n v a.is
    | inr a ↦ subst (λ es. OnTracks (histories es)) (sym (a.whole ∙ ap (λ fs. es ++ fs) (first (Cut s n v) a.front a.behind a.is) ∙ append-nil es)) k.now
  ];
}
  where
    first : (c : Event) (front behind : List Event) → e ∷ [] ≡ front ++ c ∷ behind → front ≡ []
    first c [] behind is = refl
    first c (x ∷ []) behind is = absurd cc
    first c (x ∷ y ∷ front) behind is = absurd cc

more-on : (es more : List Event) → list_any is_issue more ≡ false → TrackedAt es → TrackedAt (es ++ more)
more-on es [] none k = subst TrackedAt (sym (append-nil es)) k
more-on es (e ∷ more) none k =
    let both = or_parts (is_issue e) (list_any is_issue more) none in
    subst TrackedAt (append_assoc es (e ∷ []) more) (more-on (es ++ e ∷ []) more both.1 (one-more es e k (subst OnTracks (sym (histories-push es e)) (event-on (histories es) e both.0 k.now))))

no-cut : {P : Type 0} (front behind : List Event) (s n v : ℕ) → NoCuts (front ++ Cut s n v ∷ behind) → P
no-cut [] behind s n v h = absurd h.0
no-cut (e ∷ front) behind s n v h = no-cut front behind s n v h.1

-- what no list hears of, and which cuts no volume
unheard-on : (es fs more : List Event) → TrackedAt es → fs ≡ es ++ more → NoCuts more → histories fs ≡ histories es → TrackedAt fs
unheard-on es fs more k is quiet same = record {
  now = subst OnTracks (sym same) k.now;
  cut = λ before behind s n v e. elim (places es more (Cut s n v) before behind (sym is ∙ e)) [
    | inl a ↦ k.cut before a.behind s n v a.is
    | inr a ↦ no-cut a.front a.behind s n v (subst NoCuts a.is quiet)
  ];
}

-- ---- it rides along every step

no-issue : (e : Event) → Of by_moves e → is_issue e ≡ false
no-issue (Issue n v t offset len bytes) by = absurd cc
no-issue e by = refl

pub no-issues : Lists (Of by_moves) (λ es. list_any is_issue es ≡ false)
no-issues = any-lists (Of by_moves) is_issue no-issue

abbrev pub Tracked : World → Type 0
Tracked w = TrackedAt w.events

does : (w : World) (a : Act) (f : Option Fuse) → Tracked w → Tracked (after_act w a f)
does w (Make m) f k = more-on w.events (told m (w.control.volume (target m))) (all-told _ no-issues m _) k
does w (OpenAttempt v s n) f k = more-on w.events (told (Hold v s n true) (w.control.volume v)) refl k
does w (Redo v) f k = k
does w (Acknowledge n) f k = more-on w.events (Ack n ∷ []) refl k
does w (Drop n) f k = k
does w (EndFreeze l m) f k = more-on w.events (Frozen l m ∷ []) refl k
does w (EndThaw l m) f k = more-on w.events (Thawed l m ∷ []) refl k
does w (EndRecovery s n) f k = more-on w.events (Recovered s n ∷ []) refl k

stops : (w : World) (m : Move) → Tracked w → TrackedAt (w.events ++ (told_in_stop m (w.control.volume (target m)) ++ Stopped (server_at w (target m)) (landed m) ∷ []))
stops w m k = more-on w.events _ (stop-onto by_moves _ no-issues m (w.control.volume (target m)) (Stopped (server_at w (target m)) (landed m) ∷ []) (emitted m) refl) k

rides : (J : World → Type 0) (May : World → Act → Type 0) → Rides J Tracked May
rides J May = record {
  does = λ w a f j k may. does w a f k;
  counts = λ w m f j k may. stops w m k;
  opens = λ w v s n f j k may. stops w (Hold v s n true) k;
  fails = λ w a f d j k may. more-on w.events _ refl k;
}

-- a write that is issued is in no list yet
below-in : (n : ℕ) (ws : List ℕ) (u : ℕ) → Below n ws → In u ws → u < n
below-in n [] u low i = absurd i
below-in n (w ∷ ws) u low (inl is) = subst (λ x. x < n) (sym is) low.0
below-in n (w ∷ ws) u low (inr more) = below-in n ws u low.1 more

pub tracked-ride : Rider Tracked
tracked-ride = record {
  acts = rides Sound MayDo;
  start_acts = λ s. rides (starts.Inner s) (starts.MayStart s);
  unheard = λ w u more k q none. unheard-on w.events u.events more k q.events q.quiet q.lists;
  issues = λ w s v t offset len bytes defined low k. issues w s v t offset len bytes k;
  regroups = λ w ss f s t turn adds goes k. k;
  opens = λ w i n x r s t found has idle next k. more-on w.events (Begin i n ∷ []) refl k;
  defines = λ w s v server tracks here undefined k. more-on w.events _ refl k;
}
  where
    issues : (w : World) (s : Sound w) (v t offset len : ℕ) (bytes : List ℕ) → Tracked w → TrackedAt (w.events ++ Issue (w.control.issued + 1) v t offset len bytes ∷ [])
    issues w s v t offset len bytes k =
        let n : ℕ = w.control.issued + 1 in
        let h : Histories = histories w.events in
        one-more w.events (Issue n v t offset len bytes) k (subst OnTracks (sym (histories-push w.events (Issue n v t offset len bytes))) (
          λ x q u i. ap (λ (y : Write). y.track) (at_other h.write n _ u (apart u n (below-in n (h.now x q) u (s.queue.numbers.now x q) i))) ∙ k.now.0 x q u i,
          λ x q u i. ap (λ (y : Write). y.track) (at_other h.write n _ u (apart u n (below-in n (h.aside x q) u (s.queue.numbers.aside x q) i))) ∙ k.now.1 x q u i,
        ))
      where
        apart : (u n : ℕ) → u < n → u ≢ n
        apart u n lt e = omega (arith, lt, e)

none-before : (e : Event) (before behind : List Event) → [] ≡ before ++ e ∷ behind → OnTracks (histories before)
none-before e [] behind is = absurd cc
none-before e (y ∷ before) behind is = absurd cc

nothing-tracked : Tracked nothing
unfolding histories
nothing-tracked = record { now = (λ v t u i. absurd i, λ v t u i. absurd i); cut = λ before behind s n v is. none-before (Cut s n v) before behind is }

pub tracked-run : (tasks : List Task) → TrackedAt (run tasks).events
tracked-run tasks = rides-tasks Tracked tracked-ride nothing tasks steps.sound-nothing nothing-tracked
