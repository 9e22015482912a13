-- No exchange and no delivery touches the target of a member whose secondary isn't its primary's.
use Rattle.std.proofs.Common.{ℕ, ◌≡◌, ◌≢◌, inl, inr, refl, ap, sym, ◌∙◌, subst, Bool, true, false, Option, None}
use Rattle.dr_ids.specs.declared.names.Member.{Member}
use Rattle.dr_ids.specs.declared.refusal.Refusal.{Refusal}
use Rattle.dr_model.specs.declared.step.Name.{Name}
use Rattle.dr_model.specs.Control.{Fuse, Volume, World}
use Rattle.dr_model.specs.Sessions.{Session, session_in, mirror_in, members_in}
use Rattle.dr_model.specs.Pairs.{is_secondary_of}
use Rattle.dr_model.specs.Moves.{Move, Hold, target, keeps_staged, moved_keeping}
use Rattle.dr_model.specs.Carry.{Act, Make, OpenAttempt}
use Rattle.dr_model.specs.Entries.{fields_at}
use Rattle.dr_model.specs.PairEntries.{send_refusal}
use Rattle.dr_model.specs.MessagePlans.{deliver_plan}
use Rattle.dr_model.specs.SessionPlans.{exchange_on, asking, exchange_plan}
use Rattle.dr_model.specs.PlanParts.{Plan}
use Rattle.dr_model.specs.Carried.{begun, finish}
use Rattle.dr_model.specs.ReadStops.{Ends}
use Rattle.dr_model.specs.Groups.{In, Lone}
use Rattle.dr_model.specs.Laws.{Sound}
use Rattle.dr_laws_sessions.proofs.Changes.{session-found}
use Rattle.dr_laws_attempts.proofs.Orders.{sends-to}
use Rattle.dr_laws_recovery.specs.TakenOver.{IsLeft, LeavesTarget}
use Rattle.dr_laws_sound.proofs.Turns.{next_of, carried_in, done, after_act}
use Rattle.dr_laws_sound.proofs.Rides.{Rides}
use Rattle.dr_laws_recovery.proofs.Keeping.{MayFit, Goes, finish-goes, goes-moment, goes-ends, goes-after}
use Rattle.dr_laws_recovery.proofs.Exchanges.{FitsMember, Exchanging, keeping, goes-asking, goes-exchange, goes-deliver}
use Rattle.dr_facts.proofs.Tables.{at_part}
use Rattle.dr_logic.proofs.Truth.{false_true}
use Rattle.dr_logic.proofs.Tables.{at_other}

module _ (w : World) (sound : Sound w) (x : Session) (m : Member) (listed : In x w.control.sessions) (here : In m x.members) (apart : is_secondary_of m.a.0 (fields_at w.control m.b.0) ≡ false) where
  -- the target is as it was
  abbrev LeftAt : World → Type 0
  LeftAt u = fields_at u.control m.c.0 ≡ fields_at w.control m.c.0

  -- and the secondary isn't its primary's
  abbrev Holds : World → Type 0
  Holds u = LeftAt u × (is_secondary_of m.a.0 (fields_at u.control m.b.0) ≡ false)

  -- a move of another volume that leaves whose secondary its own is
  abbrev FitMove : Move → Type 0
  FitMove a = (m.c.0 ≢ target a) × ((u : World) → is_secondary_of m.a.0 (next_of u a) ≡ is_secondary_of m.a.0 (fields_at u.control (target a)))

  abbrev Fit : Act → Type 0
  Fit (Make a) = FitMove a
  Fit (OpenAttempt v s n) = m.c.0 ≢ v
  Fit a = ⊥

  stays : (u : World) (a : Move) → Holds u → FitMove a → Holds (done u a None)
  stays u a h fit = (
    ap (λ (y : Volume). y.fields) (at_other u.control.volume (target a) (moved_keeping (keeps_staged a) (u.control.volume (target a)) (next_of u a) (carried_in u a)) m.c.0 fit.0) ∙ h.0,
    at_part (λ (y : Volume). is_secondary_of m.a.0 y.fields) u.control.volume (target a) (moved_keeping (keeps_staged a) (u.control.volume (target a)) (next_of u a) (carried_in u a)) (fit.1 u) m.b.0 ∙ h.1,
  )

  acts : Rides Sound Holds (MayFit (λ u. Fit))
  acts = record { does = does; counts = λ u a f j h may. stays u a h may.1; opens = λ u v s n f j h may. stays u (Hold v s n true) h (may.1, λ u. refl); fails = λ u a f d j h may. h }
    where
      does : (u : World) (a : Act) (f : Option Fuse) → Sound u → Holds u → MayFit (λ u. Fit) u a → Holds (after_act u a f)
      does u (Make a) f j h may = stays u a h may.1
      does u (OpenAttempt v s n) f j h may = stays u (Hold v s n true) h (may.1, λ u. refl)
      does u a f j h may = absurd may.1

  -- ---- the acts of an order, by the place of each volume

  module _ (y : Session) (there : In y w.control.sessions) (q : Member) (has : In q y.members) where
    abbrev lone : Lone w.control.sessions
    lone = sound.groups.lone

    -- the target is no primary and no secondary of a member
    not-a : m.c.0 ≢ q.a.0
    not-a e = let one = lone.one m.c.0 x y m q listed there here has (inr (inr refl)) (inl e) in
        (lone.differ y q there has).a_c (sym e ∙ ap (λ (p : Member). p.c.0) one.1)

    not-b : m.c.0 ≢ q.b.0
    not-b e = let one = lone.one m.c.0 x y m q listed there here has (inr (inr refl)) (inr (inl e)) in
        (lone.differ y q there has).b_c (sym e ∙ ap (λ (p : Member). p.c.0) one.1)

    -- nor is it the target of one whose primary can send
    not-c : (u : World) → Holds u → send_refusal q.a.0 q.b.0 u.control ≡ None → m.c.0 ≢ q.c.0
    not-c u h sends e = let one = lone.one m.c.0 x y m q listed there here has (inr (inr refl)) (inr (inr e)) in
        false_true h.1 (subst (λ (p : Member). is_secondary_of p.a.0 (fields_at u.control p.b.0) ≡ true) (sym one.1) (sends-to q.a.0 q.b.0 u.control sends))

    fits-member : (s : ℕ) → FitsMember Holds Fit s q
    fits-member s = record {
      opens = λ n. not-a;
      holds = λ n. (not-a, λ u. refl);
      frees = (not-a, λ u. refl);
      seals = λ n. (not-b, λ u. refl);
      finishes = λ n. (not-a, λ u. refl);
      flashes = λ u h sends n. (not-c u h sends, λ u. refl);
      commits = λ u h sends n. (not-c u h sends, λ u. refl);
      reverts = λ u h sends n. (not-c u h sends, λ u. refl);
      raises = λ u h sends n. (not-c u h sends, λ u. refl);
    }

  -- ---- the plans

  abbrev law : Exchanging w LeftAt
  law = record {
    law = Holds;
    fit = Fit;
    acts = acts;
    begins = (refl, apart);
    members = λ s y found q has. fits-member y (session-found w.control.sessions s y found).0 q has s;
    gives = λ v h. h.0;
    told = λ v on es h. h;
    regroups = λ v ss f h. h;
    retabled = λ v ss f h. h;
  }

  leaves : (p : Plan) → Goes w LeftAt (keeping w sound LeftAt law) p → LeavesTarget w p m
  leaves p goes = record {
    moments = goes-moment w LeftAt (keeping w sound LeftAt law) p goes;
    reads = goes-ends w LeftAt (keeping w sound LeftAt law) p goes;
    after = goes-after w LeftAt (keeping w sound LeftAt law) p goes;
  }

  pub leaves-exchange : (s : ℕ) (name : Name) (reply : Bool) → LeavesTarget w (exchange_plan w.control s name reply) m
  leaves-exchange s name reply = leaves (exchange_plan w.control s name reply) (goes-exchange w sound LeftAt law s name reply)

  pub leaves-delivery : (n : ℕ) → LeavesTarget w (deliver_plan w.control n) m
  leaves-delivery n = leaves (deliver_plan w.control n) (goes-deliver w sound LeftAt law n)

  pub leaves-turn : (s server : ℕ) → LeavesTarget w (asking w.control s server true) m
  leaves-turn s server = leaves (asking w.control s server true) (goes-asking w sound LeftAt law s server true)

  -- where it ended, with what follows, where servers may go off by themselves
  pub leaves-carried : (s server : ℕ) (reply : Bool) (armed : ℕ → Bool) (u : World) (r : Option Refusal)
      → let p : Plan = exchange_on w.control s (mirror_in (session_in w.control.sessions s)) server reply (members_in (session_in w.control.sessions s)) in
      Ends armed u r (begun w p) p.entries → (n : ℕ) → IsLeft w (finish p n u r) m
  leaves-carried s server reply armed u r e n =
      let p : Plan = asking w.control s server reply in
      let goes = goes-asking w sound LeftAt law s server reply in
      finish-goes w LeftAt (keeping w sound LeftAt law) p goes n u r (goes-ends w LeftAt (keeping w sound LeftAt law) p goes armed u r e)
