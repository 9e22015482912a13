-- What the messages in flight say stays where a session's master is appointed, dismissed, paused, lost, gives up or begins an attempt, and
-- takes the reply of a server.
use Rattle.std.proofs.Common.{ℕ, ◌≡◌, ◌≤◌, ◌+◌, ◌⊎◌, inl, inr, refl, ap, sym, ◌∙◌, Bool, true, false, cond, not, ◌&&◌, arith, List, [], ◌∷◌, subst, Option, None, Some, option_map, ◌==◌}
use Rattle.std.proofs.lemmas.Bool.{cases_Bool, and_parts, and_from, eq-eqb, eqb-true}
use Rattle.dr_ids.specs.declared.refusal.PhaseName.{PhaseName}
use Rattle.dr_ids.specs.declared.refusal.PhaseName.TheVariants as phase
use Rattle.dr_model.specs.Decisions.{Shown}
use Rattle.dr_model.specs.Phases as phases
use Rattle.dr_model.specs.Control.{Control}
use Rattle.dr_model.specs.Sessions.{Session, Mirror, session_in, servers_of, changed, begun, with_mirror, with_master, mirrored_by, unmirrored, paused, mirror_lost_since, lost_since, drop_refusal}
use Rattle.dr_model.specs.Messages.{Flight, Message, is_lost, raised, loses, loses_master, loses_in}
use Rattle.dr_model.specs.Messages as messages
use Rattle.dr_model.specs.SessionPlans.{appointed, aborting}
use Rattle.dr_model.specs.Groups.{In, Groups}
use Rattle.dr_model.specs.Attempts.{Roles, roles, Seen, all_seen, InPhase, phase_of, owed_of, reports_of, Attempts}
use Rattle.dr_model.specs.Flights.{FlightFits, FlightIn, Flights}
use Rattle.dr_laws_sessions.specs.Frames.{Quiet}
use Rattle.dr_facts.proofs.Lists.{from-map, to-map, any-some, some-any}
use Rattle.dr_laws_sessions.proofs.Changes.{session-found, same-session}
use Rattle.dr_laws_sessions.proofs.Sound.{quiet-drop, quiet-none}
use Rattle.dr_laws_sessions.proofs.Volumes.{idle-quiet}
use Rattle.dr_laws_attempts.proofs.Stages.{Serves, coordinates}
use Rattle.dr_laws_attempts.proofs.Tables.{serves, master-servers, quiet-phase, quiet-unflashed, quiet-unrecorded}
use Rattle.dr_laws_messages.proofs.Eased.{Eases, fits-fewer}
use Rattle.dr_laws_messages.proofs.Masters.{FlightBy}
use Rattle.dr_laws_messages.proofs.Losses.{fits-raised, fits-lost, fits-aborted}
use Rattle.dr_laws_messages.proofs.Quiet.{rests-of, rests-empty, fits-rests, fits-begun}
use Rattle.dr_laws_messages.proofs.Tables.{Home, home-of, has-home, Aside, aside-same, flights-one, flights-kept, flights-own}
use Rattle.dr_logic.proofs.Tables.{at_same, at_other}
use Rattle.dr_logic.proofs.Truth.{false_true}

-- where a session's mirror changes
pub own-mirror : (f g : Flight) (T : Roles) (x : Session) (h : Mirror → Mirror) → FlightIn f T x → ((r : Mirror) → x.mirror ≡ Some r → FlightBy f x.number x.last (all_seen T x.members) r.master → FlightBy g x.number x.last (all_seen T x.members) (h r).master)
    → (x.mirror ≡ None → FlightFits f x.number phase.Idle x.last [] [] (all_seen T x.members) → FlightFits g x.number phase.Idle x.last [] [] (all_seen T x.members)) → FlightIn g T (with_mirror h x)
own-mirror f g T x h fits some none = by x.mirror refl fits
  where
    by : (o : Option Mirror) → x.mirror ≡ o → FlightFits f x.number (phase_of o) x.last (owed_of o) (reports_of o) (all_seen T x.members) → FlightFits g x.number (phase_of (option_map h o)) x.last (owed_of (option_map h o)) (reports_of (option_map h o)) (all_seen T x.members)
    by None e fits = none e fits
    by (Some r) e fits = some r e fits

pub flight-by : (f : Flight) (T : Roles) (x : Session) (r : Mirror) → x.mirror ≡ Some r → FlightIn f T x → FlightBy f x.number x.last (all_seen T x.members) r.master
flight-by f T x r has fits = subst (λ o. FlightFits f x.number (phase_of o) x.last (owed_of o) (reports_of o) (all_seen T x.members)) has fits

-- ---- an epoch begins

pub aside-raised : (f : Flight) (s : ℕ) → Aside f (raised s f) s
aside-raised f s = record { messages = λ m i ne. i; epoch = λ t ne. at_other f.epoch s (f.epoch s + 1) t ne; fence = λ t x ne. refl }

pub fences-raised : (f : Flight) (s : ℕ) → ((x : ℕ) → f.fence s x ≤ f.epoch s) → (x : ℕ) → (raised s f).fence s x ≤ (raised s f).epoch s
fences-raised f s low x = let was : f.fence s x ≤ f.epoch s = low x in let now : (raised s f).epoch s ≡ f.epoch s + 1 = at_same f.epoch s (f.epoch s + 1) in omega arith

module _ (k : Control) (groups : Groups k) (law : Attempts k) (flights : Flights k) where
  abbrev ss : List Session
  ss = k.sessions

  abbrev T : Roles
  T = roles k

  abbrev f : Flight
  f = k.flight

  served : (x : Session) → In x ss → Serves (servers_of x.members) (all_seen T x.members)
  served x i = serves T k x (groups.each x i)

  servers : (x : Session) (r : Mirror) → In x ss → x.mirror ≡ Some r → r.master.servers ≡ servers_of x.members
  servers x r i has = master-servers k groups law x r i has

  -- ---- an attempt begins

  own-begun : (x : Session) (r : Mirror) → In x ss → x.mirror ≡ Some r → r.master.phase ≡ phase.Idle → FlightIn f T (begun x)
  own-begun x r i has idle =
      subst (λ o. FlightFits f x.number (phase_of (option_map (λ (r : Mirror). record r { master = phases.begun r.master }) o)) (x.last + 1) (owed_of (option_map (λ (r : Mirror). record r { master = phases.begun r.master }) o)) (reports_of (option_map (λ (r : Mirror). record r { master = phases.begun r.master }) o)) (all_seen T x.members)) (sym has)
      (fits-begun f x.number x.last (all_seen T x.members) (rests-of f x.number x.last (all_seen T x.members) (phase_of x.mirror) (owed_of x.mirror) (reports_of x.mirror) (quiet-phase x (idle-quiet x r has idle)) (flights.each x i)) r.master.servers []
      (subst (λ ks. InPhase phase.Coordinating (x.last + 1) ks [] (all_seen T x.members)) (sym (servers x r i has)) (coordinates x.last (all_seen T x.members) (law.sessions x i).numbers (quiet-unflashed T x (idle-quiet x r has idle) (law.sessions x i)) (quiet-unrecorded k groups law x i (idle-quiet x r has idle)) (servers_of x.members) (served x i))))

  pub flights-begun : (s : ℕ) (x : Session) (r : Mirror) → In x ss → x.number ≡ s → x.mirror ≡ Some r → r.master.phase ≡ phase.Idle → Flights (record k { sessions = changed s begun ss })
  flights-begun s x r i number has idle = flights-kept k flights groups.once s begun (λ x. refl) (λ y j e.
      subst (λ z. FlightIn f T (begun z)) (same-session ss x y groups.once i j (number ∙ sym e)) (own-begun x r i has idle))

  -- ---- a master is appointed, dismissed, paused

  own-mirrored : (x : Session) (server : ℕ) → In x ss → x.mirror ≡ None → FlightIn (raised x.number f) T (mirrored_by server x)
  own-mirrored x server i none =
      fits-raised f x.number x.last (all_seen T x.members) phase.Idle phase.Idle [] [] (subst (λ o. FlightFits f x.number (phase_of o) x.last (owed_of o) (reports_of o) (all_seen T x.members)) none (flights.each x i)) [] (λ e. e) (λ e. e) (λ q h. h) (λ q h. h) (λ e. absurd cc) (quiet-unflashed T x (quiet-none x none) (law.sessions x i))

  pub flights-mirrored : (s server : ℕ) (x : Session) → session_in ss s ≡ Some x → x.mirror ≡ None → Flights (appointed s server k)
  flights-mirrored s server x found none = let there = session-found ss s x found in
      flights-one k flights groups.once s (mirrored_by server) (raised s f) x found (λ x. refl) (aside-raised f s) (fences-raised f s (flights.fences s))
      (subst (λ s. FlightIn (raised s f) T (mirrored_by server x)) there.1 (own-mirrored x server there.0 none))

  own-unmirrored : (x : Session) → In x ss → Quiet x → FlightIn f T (unmirrored x)
  own-unmirrored x i quiet = fits-rests f x.number x.last (all_seen T x.members) phase.Idle [] [] refl (quiet-unflashed T x quiet (law.sessions x i))
      (rests-of f x.number x.last (all_seen T x.members) (phase_of x.mirror) (owed_of x.mirror) (reports_of x.mirror) (quiet-phase x quiet) (flights.each x i))

  pub flights-unmirrored : (s : ℕ) (x : Session) → session_in ss s ≡ Some x → drop_refusal x.mirror ≡ None → Flights (record k { sessions = changed s unmirrored ss })
  flights-unmirrored s x found idle = flights-own k flights groups.once s unmirrored x found (λ x. refl) (own-unmirrored x (session-found ss s x found).0 (quiet-drop x idle))

  pub flights-paused : (s : ℕ) (on : Bool) → Flights (record k { sessions = changed s (paused on) ss })
  flights-paused s on = flights-kept k flights groups.once s (paused on) (λ x. refl) (λ x i e. own-mirror f f T x (λ r. record r { paused = on }) (flights.each x i) (λ r has own. own) (λ none own. own))

  -- ---- an attempt is given up

  own-aborted : (x : Session) → In x ss → FlightIn (messages.aborted x.number x.mirror f) T (with_master phases.aborted x)
  own-aborted x i = own-mirror f (messages.aborted x.number x.mirror f) T x (λ r. record r { master = phases.aborted r.master }) (flights.each x i)
      (λ r has own. subst (λ o. FlightBy (messages.aborted x.number o f) x.number x.last (all_seen T x.members) (phases.aborted r.master)) (sym has)
      (fits-aborted f x.number x.last (all_seen T x.members) (law.sessions x i).numbers (law.sessions x i).follows (servers_of x.members) (served x i) r.master (servers x r i has) own))
      (λ none own. subst (λ o. FlightFits (messages.aborted x.number o f) x.number phase.Idle x.last [] [] (all_seen T x.members)) (sym none) own)

  pub aside-aborted : (s : ℕ) (o : Option Mirror) → Aside f (messages.aborted s o f) s
  aside-aborted s None = aside-same f s
  aside-aborted s (Some r) = by (is_lost (phases.aborted_phase r.master.phase))
    where
      by : (b : Bool) → Aside f (cond b (raised s f) f) s
      by true = aside-raised f s
      by false = aside-same f s

  fences-aborted : (s : ℕ) (o : Option Mirror) (x : ℕ) → (messages.aborted s o f).fence s x ≤ (messages.aborted s o f).epoch s
  fences-aborted s None x = flights.fences s x
  fences-aborted s (Some r) x = by (is_lost (phases.aborted_phase r.master.phase))
    where
      by : (b : Bool) → (cond b (raised s f) f).fence s x ≤ (cond b (raised s f) f).epoch s
      by true = fences-raised f s (flights.fences s) x
      by false = flights.fences s x

  pub flights-aborted : (s : ℕ) (x : Session) → session_in ss s ≡ Some x → Flights (aborting s x.mirror k)
  flights-aborted s x found = let there = session-found ss s x found in
      flights-one k flights groups.once s (with_master phases.aborted) (messages.aborted s x.mirror f) x found (λ x. refl) (aside-aborted s x.mirror) (fences-aborted s x.mirror)
      (subst (λ s. FlightIn (messages.aborted s x.mirror f) T (with_master phases.aborted x)) there.1 (own-aborted x there.0))

  -- ---- masters are lost

  module _ (before now : ℕ → Bool) where
    abbrev g : Flight
    g = messages.lost_since before now ss f

    -- a number is that of one session
    pub loses-own : (x : Session) → In x ss → loses_in before now x.number ss ≡ loses_master before now x.mirror
    loses-own x i = by (cases_Bool (loses_master before now x.mirror)) (cases_Bool (loses_in before now x.number ss))
      where
        by : (loses_master before now x.mirror ≡ true) ⊎ (loses_master before now x.mirror ≡ false) → (loses_in before now x.number ss ≡ true) ⊎ (loses_in before now x.number ss ≡ false) → loses_in before now x.number ss ≡ loses_master before now x.mirror
        by (inl own) (inl any) = any ∙ sym own
        by (inr own) (inr any) = any ∙ sym own
        by (inl own) (inr any) = false_true any (any-some (λ y. y.number == x.number && loses_master before now y.mirror) ss x i (and_from (x.number == x.number) (loses_master before now x.mirror) (eq-eqb x.number x.number refl) own))
        by (inr own) (inl any) =
            let w = some-any (λ (y : Session). y.number == x.number && loses_master before now y.mirror) ss any in
            let p = and_parts (w.0.number == x.number) (loses_master before now w.0.mirror) w.1.1 in
            false_true own (ap (λ (z : Session). loses_master before now z.mirror) (same-session ss x w.0 groups.once i w.1.0 (sym (eqb-true w.0.number x.number p.0))) ∙ p.1)

    eases-lost : (s : ℕ) → Eases f g s
    eases-lost s = record { orders = λ m o. record { here = o.here; session = o.session; starts = o.starts; asks = o.asks }; fence = λ x. omega arith }

    eases-from-raised : (s : ℕ) → Eases (raised s f) g s
    eases-from-raised s = record { orders = λ m o. record { here = o.here; session = o.session; starts = o.starts; asks = o.asks }; fence = λ x. omega arith }

    -- a session whose master stays, or that has none
    pub epoch-stays : (s : ℕ) → loses_in before now s ss ≡ false → g.epoch s ≡ f.epoch s
    epoch-stays s e = ap (λ b. cond b (f.epoch s + 1) (f.epoch s)) e

    epoch-begins : (s : ℕ) → loses_in before now s ss ≡ true → g.epoch s ≡ (raised s f).epoch s
    epoch-begins s e = ap (λ b. cond b (f.epoch s + 1) (f.epoch s)) e ∙ sym (at_same f.epoch s (f.epoch s + 1))

    module _ (x : Session) (i : In x ss) where
      abbrev vs : List Seen
      vs = all_seen T x.members

      kept : (p : PhaseName) (owed : List ℕ) (reports : List Shown) → loses_in before now x.number ss ≡ false → FlightFits f x.number p x.last owed reports vs → FlightFits g x.number p x.last owed reports vs
      kept p owed reports e fits = fits-fewer f g x.number (eases-lost x.number) p x.last owed reports vs (epoch-stays x.number e) fits (λ m h at. h)

      -- without members it is Idle
      emptied : (p : PhaseName) (owed : List ℕ) (reports : List Shown) → servers_of x.members ≡ [] → loses_in before now x.number ss ≡ false → FlightFits f x.number p x.last owed reports vs → FlightFits g x.number phase.Idle x.last [] [] vs
      emptied p owed reports none e fits = kept phase.Idle [] [] e (fits-rests f x.number x.last vs phase.Idle [] [] refl (λ u h. absurd (empty u h)) (rests-empty f x.number x.last vs empty fits.known))
        where
          empty : (u : Seen) → In u vs → ⊥
          empty u h = let never : false ≡ true = subst (λ ks. phases.is_among u.server ks ≡ true) none ((served x i).each u h) in absurd cc

      gone : (p : PhaseName) (owed : List ℕ) (reports : List Shown) (ks : List ℕ) → ks ≡ servers_of x.members → loses_in before now x.number ss ≡ is_lost (Some (phases.phase_lost ks)) → FlightFits f x.number p x.last owed reports vs
          → FlightFits g x.number (phases.phase_lost ks) x.last (phases.owed_first (phases.phase_lost ks) ks) [] vs
      gone p owed reports [] is e fits = emptied p owed reports (sym is) e fits
      gone p owed reports (q ∷ ks) is e fits =
          fits-fewer (raised x.number f) g x.number (eases-from-raised x.number) phase.Lost x.last (q ∷ ks) [] vs (epoch-begins x.number e)
          (subst (λ ks. FlightFits (raised x.number f) x.number phase.Lost x.last ks [] vs) (sym is) (fits-lost f x.number x.last vs (law.sessions x i).numbers (law.sessions x i).follows (servers_of x.members) (served x i) p owed reports fits)) (λ m h at. h)

      lost-by : (r : Mirror) → x.mirror ≡ Some r → (a b : Bool) → loses_in before now x.number ss ≡ (a && (b && is_lost (Some (phases.phase_lost r.master.servers)))) → FlightBy f x.number x.last vs r.master
          → FlightBy g x.number x.last vs (cond (a && b) (record r { master = phases.lost r.master }) r).master
      lost-by r has true true e fits = gone r.master.phase r.master.owed r.master.reports r.master.servers (servers x r i has) e fits
      lost-by r has true false e fits = kept r.master.phase r.master.owed r.master.reports e fits
      lost-by r has false b e fits = kept r.master.phase r.master.owed r.master.reports e fits

      own-lost : FlightIn g T (with_mirror (mirror_lost_since before now) x)
      own-lost = own-mirror f g T x (mirror_lost_since before now) (flights.each x i)
          (λ r has. lost-by r has (before r.server) (not (now r.server)) (loses-own x i ∙ ap (loses_master before now) has))
          (λ none. kept phase.Idle [] [] (loses-own x i ∙ ap (loses_master before now) none))

    fences-lost : (s x : ℕ) → g.fence s x ≤ g.epoch s
    fences-lost s x = let was : f.fence s x ≤ f.epoch s = flights.fences s x in by (loses_in before now s ss) was
      where
        by : (b : Bool) → f.fence s x ≤ f.epoch s → f.fence s x ≤ cond b (f.epoch s + 1) (f.epoch s)
        by true was = omega arith
        by false was = was

    home-lost : (s : ℕ) → Home ss s → Home (lost_since before now ss) s
    home-lost s home = record { session = with_mirror (mirror_lost_since before now) home.session; listed = to-map (with_mirror (mirror_lost_since before now)) ss home.session home.listed; number = home.number }

    pub flights-lost : Flights (record k { sessions = lost_since before now ss; flight = messages.lost_since before now ss f })
    flights-lost = record {
      homes = λ m i. has-home (lost_since before now ss) m.session (home-lost m.session (home-of ss m.session (flights.homes m i)));
      fences = fences-lost;
      each = λ y i. let o = from-map (with_mirror (mirror_lost_since before now)) ss y i in subst (FlightIn g T) (sym o.is) (own-lost o.from o.here);
    }
