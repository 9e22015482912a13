-- A lost master that takes a reply stays Lost, or all its servers have reported; and masters that are lost as their servers go off.
use Rattle.std.proofs.Common.{ℕ, ◌≡◌, ◌≢◌, ◌≤◌, ◌+◌, ◌⊎◌, inl, inr, refl, ap, sym, ◌∙◌, subst, arith, Bool, true, false, cond, not, ◌&&◌, ◌==◌, nat_eq, List, [], ◌∷◌, Some, option_map}
use Rattle.std.proofs.Math.Bool.{and_assoc}
use Rattle.std.proofs.lemmas.Bool.{eqb-true}
use Rattle.std.proofs.lemmas.Bool.Decides.{eqb_tells}
use Rattle.std.proofs.lemmas.Option.{same_Some}
use Rattle.dr_logic.proofs.Truth.{false_true}
use Rattle.dr_ids.specs.declared.names.Member.{Member}
use Rattle.dr_model.specs.Decisions.{Shown}
use Rattle.dr_model.specs.Phases as phases
use Rattle.dr_model.specs.Sessions.{Session, Mirror, mirror_lost_since, with_mirror, lost_since}
use Rattle.dr_model.specs.Messages.{Flight, is_lost, loses_in, loses_master}
use Rattle.dr_model.specs.Messages as messages
use Rattle.dr_model.specs.Control.{Control, World}
use Rattle.dr_model.specs.SessionPlans.{is_idle, order_of}
use Rattle.dr_model.specs.Groups.{In}
use Rattle.dr_model.specs.Attempts.{Roles, seen, all_seen}
use Rattle.dr_model.specs.Laws.{Sound}
use Rattle.dr_facts.proofs.Lists.{some-any, to-filter, to-map}
use Rattle.dr_laws_sessions.proofs.Changes.{session-found}
use Rattle.dr_laws_sessions.proofs.Sound.{among-servers}
use Rattle.dr_laws_messages.proofs.Masters.{FlightBy}
use Rattle.dr_laws_messages.proofs.Turns.{loses-own, epoch-stays}
use Rattle.dr_laws_orders.proofs.Heard.{Rises, Reached, HeardBut, IsLost, heard-all, still}

-- if none but one server is left, each that is owed is that one
left-is : (server k : ℕ) (owed : List ℕ) → phases.without server owed ≡ [] → phases.is_among k owed ≡ true → k ≡ server
left-is server k owed none among = by (some-any (λ q. q == k) owed among)
  where
    by : (q : ℕ) × (In q owed × ((q == k) ≡ true)) → k ≡ server
    by (q, (here, is)) = to (eqb_tells q server)
      where
        to : ((nat_eq q server ≡ true) × (q ≡ server)) ⊎ ((nat_eq q server ≡ false) × (q ≢ server)) → k ≡ server
        to (inl e) = sym (eqb-true q k is) ∙ e.1
        to (inr e) = absurd (subst (In q) none (to-filter (λ j. not (j == server)) owed q here (ap not e.0)))

module _ (s : ℕ) (f : Flight) (T : Roles) (x : Session) (r : Mirror) (number : x.number ≡ s) (fits : FlightBy f x.number x.last (all_seen T x.members) r.master) (lost : IsLost r.master.phase) where
  -- who owes no report has reported
  others : (m : Member) → In m x.members → phases.is_among m.server.0 r.master.owed ≡ false → f.epoch s ≤ f.fence s m.server.0
  others m here none = subst (λ i. f.epoch i ≤ f.fence i m.server.0) number (fits.heard lost (seen T m) (to-map (seen T) x.members m here) none)

  module _ (g : Flight) (server : ℕ) (rises : Rises s f g) where
    -- with the last one all have
    all-reached : f.epoch s ≤ g.fence s server → phases.without server r.master.owed ≡ [] → Reached s g x.members
    all-reached own none m here = by (phases.is_among m.server.0 r.master.owed) refl
      where
        by : (b : Bool) → phases.is_among m.server.0 r.master.owed ≡ b → g.epoch s ≤ g.fence s m.server.0
        by false done =
            let was : f.epoch s ≤ f.fence s m.server.0 = others m here done in
            let higher : f.fence s m.server.0 ≤ g.fence s m.server.0 = rises.fences m.server.0 in
            let same : g.epoch s ≡ f.epoch s = rises.epoch in omega arith
        by true owes =
            let same : g.epoch s ≡ f.epoch s = rises.epoch in
            subst (λ k. g.epoch s ≤ g.fence s k) (sym (left-is server m.server.0 r.master.owed none owes)) (omega (arith, own, same))

    -- it takes a reply: a report came after its server's fence had risen
    pub settles : (reply : phases.Reply) → ((xs : List Shown) → reply ≡ phases.Reported xs → f.epoch s ≤ g.fence s server) → IsLost (phases.taken r.master server reply).phase ⊎ Reached s g x.members
    settles (phases.Reported xs) own = by (phases.without server r.master.owed) refl
      where
        by : (left : List ℕ) → phases.without server r.master.owed ≡ left → IsLost (phases.settled_where left (phases.replied r.master server (phases.Reported xs))).phase ⊎ Reached s g x.members
        by [] none = inr (all-reached (own xs refl) none)
        by (a ∷ rest) some = inl lost
    settles phases.Done own = by (phases.without server r.master.owed)
      where
        by : (left : List ℕ) → IsLost (phases.left_with r.master left).phase ⊎ Reached s g x.members
        by [] = inl (ap phases.next_phase lost)
        by (a ∷ rest) = inl lost
    settles phases.NotYet own = inl lost

-- a lost master asks for a report, which has no number
pub asks-report : (r : Mirror) (server : ℕ) (o : phases.Order) → IsLost r.master.phase → order_of r server ≡ Some o → (o.work ≡ phases.Report) × (o.number ≡ 0)
asks-report r server o lost order = by (phases.is_among server r.master.owed)
    (subst (λ p. cond (is_idle p) (Some (record { work = phases.Hold; number = r.master.number + 1 })) (phases.order_if (phases.is_among server r.master.owed) (phases.work_in p) r.master.number) ≡ Some o) lost order)
  where
    by : (b : Bool) → phases.order_if b (Some phases.Report) r.master.number ≡ Some o → (o.work ≡ phases.Report) × (o.number ≡ 0)
    by true is = let e = same_Some _ _ (sym is) in (ap (λ (q : phases.Order). q.work) e, ap (λ (q : phases.Order). q.number) e)
    by false is = absurd cc

-- ---- masters are lost as their servers go off

module _ (s : ℕ) (u : World) (sound : Sound u) (before : ℕ → Bool) where
  abbrev k : Control
  k = u.control

  abbrev g : Flight
  g = messages.lost_since before k.on k.sessions k.flight

  pub heard-lost : HeardBut IsLost s k.flight k.sessions → HeardBut IsLost s g (lost_since before k.on k.sessions)
  heard-lost h = heard-all IsLost s k.flight g k.sessions (with_mirror (mirror_lost_since before k.on)) (λ x. refl) h (record {
    members = refl;
    mirror = mirror_lost_since before k.on h.mirror;
    has_master = ap (option_map (mirror_lost_since before k.on)) h.has_master;
    heard = by (before h.mirror.server && not (k.on h.mirror.server)) refl;
  })
    where
      there : In h.session k.sessions × (h.session.number ≡ s)
      there = session-found k.sessions s h.session h.found

      -- a master without servers has no members
      alone : (servers : List ℕ) → h.mirror.master.servers ≡ servers → IsLost (phases.phase_lost servers) ⊎ Reached s g h.session.members
      alone [] none = inr (λ m here. let fits = sound.groups.each h.session there.0 in
          false_true (ap (phases.is_among m.server.0) (sym (fits.sound.servers h.mirror h.has_master) ∙ none)) (among-servers h.session m fits.sound here))
      alone (a ∷ rest) is = inl refl

      -- as its server goes off it is lost, if it has a server
      loses : Bool
      loses = is_lost (Some (phases.phase_lost h.mirror.master.servers))

      kept : (before h.mirror.server && not (k.on h.mirror.server)) ≡ false → Rises s k.flight g
      kept on = record {
        epoch = epoch-stays k sound.groups sound.attempts sound.flights before k.on s
            (subst (λ i. loses_in before k.on i k.sessions ≡ false) there.1
            (loses-own k sound.groups sound.attempts sound.flights before k.on h.session there.0
            ∙ (ap (loses_master before k.on) h.has_master ∙ (sym (and_assoc (before h.mirror.server) (not (k.on h.mirror.server)) loses) ∙ ap (λ b. b && loses) on))));
        fences = λ server. omega arith;
      }

      by : (b : Bool) → (before h.mirror.server && not (k.on h.mirror.server)) ≡ b → IsLost (cond b (record h.mirror { master = phases.lost h.mirror.master }) h.mirror).master.phase ⊎ Reached s g h.session.members
      by true off = alone h.mirror.master.servers refl
      by false on = still IsLost s k.flight g h.session.members h.mirror (kept on) h.heard
