-- Acts and plans by the control state alone: in two worlds with one control state, whose journals tell the same but for what host writes lay,
-- they come to such worlds again.
use Rattle.std.proofs.Common.{ℕ, ◌≡◌, ◌+◌, inr, refl, ap, sym, subst, Bool, true, false, cond, not, List, [], ◌∷◌, ◌++◌, Option, Some, None}
use Rattle.dr_logic.specs.Tables.{at}
use Rattle.dr_ids.specs.declared.refusal.Refusal.{Refusal}
use Rattle.dr_ids.specs.declared.refusal.Refusal.TheVariants.{Stopped as StoppedIn}
use Rattle.dr_model.specs.declared.event.Event.{Event}
use Rattle.dr_model.specs.declared.event.Event.TheVariants.{Ack, Stopped, Frozen, Thawed, Recovered}
use Rattle.dr_model.specs.declared.said.Said.{Said}
use Rattle.dr_model.specs.Answers.{answer}
use Rattle.dr_model.specs.Histories.{Write, histories}
use Rattle.dr_model.specs.Layout.{Fields}
use Rattle.dr_model.specs.Control.{Control, Fuse, Volume, World}
use Rattle.dr_model.specs.Moves.{Move, Land, Overwrite, Keep, Fetch, Restore, Store, Mirror, LandBoth, Hold, Carried, settled, settled_in_stop, target, next_fields, carried, told, told_in_stop, landed, keeps_staged, moved_keeping, updated_keeping}
use Rattle.dr_model.specs.Carry.{lower, burnt, Act, Make, OpenAttempt, Redo, Acknowledge, Drop, EndFreeze, EndThaw, EndRecovery, Next, Pass, Do, End, Entry, Turn, Outcome, Ended, ended, gives_way, saves, gate_at, writes, counts_by, pass, equal, spent, off, update_keeping, finished, cut_short, turn, redo, redo_writes, act, attempt_begun, opened_by, continue, go, carry, follow, stopped_turn, stopped_next, stopped_at, carry_each}
use Rattle.dr_model.specs.Sessions.{changed, begun as attempted}
use Rattle.dr_model.specs.PlanParts.{Plan}
use Rattle.dr_model.specs.Carried.{begun, finish, carried_out, said, after_plan, losing, masters_lost, stop_place}
use Rattle.dr_facts.proofs.Emits.{by_moves, emitted, stop-onto, all-told}
use Rattle.dr_laws_recovery.proofs.OnTracks.{no-issues}
use Rattle.dr_laws_losses.proofs.Alike.{NoIssue, AlikeEvents, alike-append, alike-same}

-- ---- what is carried

-- the tracks of two carried ones are one, and so the volume after a move and its device writes
record SameTrack (c d : Carried) : Type 0 where
  moved : (keeps : Bool) (v : Volume) (f : Fields) → moved_keeping keeps v f d ≡ moved_keeping keeps v f c
  gate : (v : Volume) (f : Fields) → gate_at v f d ≡ gate_at v f c

some-same : (t : ℕ) (x y : List ℕ) → SameTrack (Some (t, x)) (Some (t, y))
some-same t x y = record { moved = λ keeps v f. refl; gate = λ v f. ap (λ b. cond b 7 6 + cond (saves v.fields.entries f.entries) 1 0) (by v.staged) }
  where
    by : (o : Option ℕ) → gives_way o (Some (t, y)) ≡ gives_way o (Some (t, x))
    by None = refl
    by (Some s) = refl

none-same : SameTrack None None
none-same = record { moved = λ keeps v f. refl; gate = λ v f. refl }

carried-same : (m : Move) (volume : ℕ → Volume) (x y : ℕ → ℕ → List ℕ) (a b : ℕ → Write) → SameTrack (carried m volume x a) (carried m volume y b)
carried-same (Land n v t) volume x y a b = some-same t _ _
carried-same (Overwrite n v t) volume x y a b = some-same t _ _
carried-same (Keep v t) volume x y a b = some-same t _ _
carried-same (Fetch v t) volume x y a b = some-same t _ _
carried-same (Restore v t from) volume x y a b = some-same t _ _
carried-same (Store v t from last) volume x y a b = some-same t _ _
carried-same (Mirror v t from n) volume x y a b = some-same t _ _
carried-same (LandBoth n v t) volume x y a b = some-same t _ _
carried-same m volume x y a b = none-same

module _ (u : ℕ) where
  -- one control state, and journals that tell the same but for what writes lay
  pub record Alike (w g : World) : Type 0 where
    pub control : g.control ≡ w.control
    pub events : AlikeEvents u w.events g.events

  -- events that issue no write are told in both
  pub told-both : (w g : World) (more : List Event) → AlikeEvents u w.events g.events → NoIssue more → AlikeEvents u (w.events ++ more) (g.events ++ more)
  told-both w g more a none = alike-append u w.events g.events more more a (alike-same u more none)

  -- with the refusal, or the server that stopped
  pub record AlikeTurn (s t : Turn) : Type 0 where
    pub world : Alike s.0 t.0
    pub stop : t.1 ≡ s.1

  -- ---- acts

  module _ (w : World) (contents saved : ℕ → ℕ → List ℕ) (events : List Event) (a : AlikeEvents u w.events events) where
    abbrev k : Control
    k = w.control

    abbrev g : World
    g = record { control = k; contents = contents; saved = saved; events = events }

    same-here : Alike w g
    same-here = record { control = refl; events = a }

    module _ (m : Move) where
      abbrev row : Volume
      row = k.volume (target m)

      abbrev f : Fields
      f = next_fields m k.volume

      abbrev ended_by : World → Carried → Bool → Bool → Bool → Ended
      ended_by x c on passes counts =
          cond (not on) (ended x true false)
          (cond passes (ended (spent (updated_keeping (keeps_staged m) x (target m) f c) row.server (writes row f c)) false true)
          (cond counts (ended (off (updated_keeping (keeps_staged m) x (target m) f c) row.server) true true) (ended (off x row.server) true false)))

      abbrev turned_by : World → Carried → Bool → Bool → Bool → Turn
      turned_by x c on passes counts =
          let e : Ended = ended_by x c on passes counts in
          cond (not on) (x, None) (cond e.stopped (cut_short e.world m row e.done, Some row.server) (finished e.world m row, None))

      by-ends : (c d : Carried) → SameTrack c d → (on passes counts : Bool) → AlikeTurn (turned_by w c on passes counts) (turned_by g d on passes counts)
      by-ends c d same false passes counts = record { world = same-here; stop = refl }
      by-ends c d same true true counts = record {
        world = record {
          control = λ i. record k {
            volume = at k.volume (target m) (same.moved (keeps_staged m) row f i);
            fuse = at k.fuse row.server (lower (same.gate row f i + 1) (k.fuse row.server));
            pending = settled m k.pending;
          };
          events = told-both w g (told m row) a (all-told _ no-issues m row);
        };
        stop = refl;
      }
      by-ends c d same true false true = record {
        world = record {
          control = λ i. record k {
            volume = at k.volume (target m) (same.moved (keeps_staged m) row f i);
            on = at k.on row.server false;
            fuse = at k.fuse row.server (burnt (k.fuse row.server));
            pending = settled_in_stop m k.pending;
          };
          events = told-both w g (told_in_stop m row ++ Stopped row.server (landed m) ∷ []) a (stop-onto by_moves _ no-issues m row (Stopped row.server (landed m) ∷ []) (emitted m) refl);
        };
        stop = refl;
      }
      by-ends c d same true false false = record { world = record { control = refl; events = told-both w g (Stopped row.server 0 ∷ []) a refl }; stop = refl }

      turn-other : AlikeTurn (turn w m) (turn g m)
      unfolding turn update_keeping
      turn-other =
          let c : Carried = carried m k.volume w.contents (histories w.events).write in
          let d : Carried = carried m k.volume contents (histories events).write in
          let same : SameTrack c d = carried-same m k.volume w.contents contents (histories w.events).write (histories events).write in
          let fuse : Option Fuse = k.fuse row.server in
          let passes : pass fuse (writes row f d) ≡ pass fuse (writes row f c) = ap (λ n. pass fuse (n + 1)) (same.gate row f) in
          let counts : counts_by (gate_at row f d) fuse (not row.slot) ≡ counts_by (gate_at row f c) fuse (not row.slot) = ap (λ n. counts_by n fuse (not row.slot)) (same.gate row f) in
          subst (λ b. AlikeTurn (turn w m) (turned_by g d (k.on row.server) b (counts_by (gate_at row f d) fuse (not row.slot)))) (sym passes)
          (subst (λ b. AlikeTurn (turn w m) (turned_by g d (k.on row.server) (pass fuse (writes row f c)) b)) (sym counts)
          (by-ends c d same (k.on row.server) (pass fuse (writes row f c)) (counts_by (gate_at row f c) fuse (not row.slot))))

    -- a hold that begins an attempt
    opened-by : (s : ℕ) (t x : Turn) → AlikeTurn t x → (b : Bool) → AlikeTurn (cond b t.0 (attempt_begun t.0 s), t.1) (cond b x.0 (attempt_begun x.0 s), x.1)
    opened-by s t x same true = same
    opened-by s t x same false = record { world = record { control = ap (λ (k : Control). record k { sessions = changed s attempted k.sessions }) same.world.control; events = same.world.events }; stop = same.stop }

    opened-other : (v s n : ℕ) → AlikeTurn (opened_by w v s (turn w (Hold v s n true))) (opened_by g v s (turn g (Hold v s n true)))
    opened-other v s n =
        let t : Turn = turn w (Hold v s n true) in
        let x : Turn = turn g (Hold v s n true) in
        let same : AlikeTurn t x = turn-other (Hold v s n true) in
        subst (λ (b : Bool). AlikeTurn (opened_by w v s t) (cond b x.0 (attempt_begun x.0 s), x.1)) (sym (ap (λ (j : Control). equal (k.volume v).slot (j.volume v).slot) same.world.control))
        (opened-by s t x same (equal (k.volume v).slot (t.0.control.volume v).slot))

    -- a staged track is written to its place
    abbrev redone_by : World → ℕ → Bool → Bool → Turn
    redone_by x v on passes =
        let s : ℕ = (k.volume v).server in
        let e : Ended = cond (not on) (ended x true false) (cond passes (ended (spent x s (redo_writes (k.volume v).staged)) false true) (ended (off x s) true false)) in
        cond (not on) (x, None) (cond e.stopped (record e.world { events = x.events ++ Stopped s 0 ∷ [] }, Some s) (e.world, None))

    redone-by : (v : ℕ) (on passes : Bool) → AlikeTurn (redone_by w v on passes) (redone_by g v on passes)
    redone-by v false passes = record { world = same-here; stop = refl }
    redone-by v true true = record { world = record { control = refl; events = a }; stop = refl }
    redone-by v true false = record { world = record { control = refl; events = told-both w g (Stopped (k.volume v).server 0 ∷ []) a refl }; stop = refl }

    act-other : (d : Act) → AlikeTurn (act w d) (act g d)
    unfolding act redo
    act-other (Make m) = turn-other m
    act-other (OpenAttempt v s n) = opened-other v s n
    act-other (Redo v) = redone-by v (k.on (k.volume v).server) (pass (k.fuse (k.volume v).server) (redo_writes (k.volume v).staged))
    act-other (Acknowledge n) = record { world = record { control = refl; events = told-both w g (Ack n ∷ []) a refl }; stop = refl }
    act-other (Drop n) = record { world = record { control = refl; events = a }; stop = refl }
    act-other (EndFreeze l m) = record { world = record { control = refl; events = told-both w g (Frozen l m ∷ []) a refl }; stop = refl }
    act-other (EndThaw l m) = record { world = record { control = refl; events = told-both w g (Thawed l m ∷ []) a refl }; stop = refl }
    act-other (EndRecovery s n) = record { world = record { control = refl; events = told-both w g (Recovered s n ∷ []) a refl }; stop = refl }

  -- what holds of worlds with the same control state holds of alike ones
  pub by-control : (P : World → Type 0) (w g : World) → Alike w g → ((contents saved : ℕ → ℕ → List ℕ) (events : List Event) → AlikeEvents u w.events events → P (record { control = w.control; contents = contents; saved = saved; events = events })) → P g
  by-control P w g a each = subst (λ (k : Control). P (record { control = k; contents = g.contents; saved = g.saved; events = g.events })) (sym a.control) (each g.contents g.saved g.events a.events)

  act-alike : (w g : World) → Alike w g → (d : Act) → AlikeTurn (act w d) (act g d)
  act-alike w g a d = by-control (λ g. AlikeTurn (act w d) (act g d)) w g a (λ contents saved events e. act-other w contents saved events e d)

  -- ---- entries

  pub record AlikeOutcome (o p : Outcome) : Type 0 where
    pub world : Alike o.0 p.0
    pub refusal : p.1 ≡ o.1

  continue-alike : (w g : World) (s t : Option ℕ) (next : World → Outcome) → ((w g : World) → Alike w g → AlikeOutcome (next w) (next g)) → Alike w g → t ≡ s → AlikeOutcome (continue w s next) (continue g t next)
  continue-alike w g s t next each a is = subst (λ t. AlikeOutcome (continue w s next) (continue g t next)) (sym is) (by s)
    where
      by : (s : Option ℕ) → AlikeOutcome (continue w s next) (continue g s next)
      by None = each w g a
      by (Some s) = record { world = a; refusal = refl }

  go-alike : (w g : World) (x : Next) (next : World → Outcome) → ((w g : World) → Alike w g → AlikeOutcome (next w) (next g)) → Alike w g → AlikeOutcome (go w x next) (go g x next)
  go-alike w g Pass next each a = each w g a
  go-alike w g (End r) next each a = record { world = a; refusal = refl }
  go-alike w g (Do d) next each a = let t : AlikeTurn (act w d) (act g d) = act-alike w g a d in continue-alike (act w d).0 (act g d).0 (act w d).1 (act g d).1 next each t.world t.stop

  pub carry-alike : (w g : World) (ds : List Entry) → Alike w g → AlikeOutcome (carry w ds) (carry g ds)
  unfolding carry
  carry-alike w g [] a = record { world = a; refusal = refl }
  carry-alike w g (d ∷ ds) a =
      subst (λ x. AlikeOutcome (go w (d w.control) (λ v. carry v ds)) (go g x (λ v. carry v ds))) (sym (ap d a.control))
      (go-alike w g (d w.control) (λ v. carry v ds) (λ v h b. carry-alike v h ds b) a)

  -- both stop after as many entries
  turn-place : (w g : World) (t x : Turn) (later : World → ℕ) → AlikeTurn t x → ((w g : World) → Alike w g → later g ≡ later w) → stopped_turn x later ≡ stopped_turn t later
  turn-place w g (v, s) (h, q) later a each = subst (λ q. stopped_turn (h, q) later ≡ stopped_turn (v, s) later) (sym a.stop) (by s)
    where
      by : (s : Option ℕ) → stopped_turn (h, s) later ≡ stopped_turn (v, s) later
      by None = each v h a.world
      by (Some s) = refl

  next-place : (w g : World) (x : Next) (later : World → ℕ) → Alike w g → ((w g : World) → Alike w g → later g ≡ later w) → stopped_next g x later ≡ stopped_next w x later
  next-place w g Pass later a each = each w g a
  next-place w g (End r) later a each = refl
  next-place w g (Do d) later a each = turn-place w g (act w d) (act g d) later (act-alike w g a d) each

  place-alike : (w g : World) (ds : List Entry) → Alike w g → stopped_at g ds ≡ stopped_at w ds
  unfolding stopped_at
  place-alike w g [] a = refl
  place-alike w g (d ∷ ds) a =
      subst (λ x. stopped_next g x (λ v. stopped_at v ds + 1) ≡ stopped_next w (d w.control) (λ v. stopped_at v ds + 1)) (sym (ap d a.control))
      (next-place w g (d w.control) (λ v. stopped_at v ds + 1) a (λ v h b. ap (λ n. n + 1) (place-alike v h ds b)))

  each-alike : (w g : World) (ds : List Entry) → Alike w g → Alike (carry_each w ds) (carry_each g ds)
  each-alike w g [] a = a
  each-alike w g (d ∷ ds) a = each-alike (carry w (d ∷ [])).0 (carry g (d ∷ [])).0 ds (carry-alike w g (d ∷ []) a).world

  follow-alike : (w g : World) (r : Refusal) (follows : List Entry) → Alike w g → Alike (follow w r follows) (follow g r follows)
  follow-alike w g (StoppedIn s) follows a = each-alike w g follows a
  follow-alike w g r follows a = a

  -- ---- plans

  abbrev pub with_told : Plan → List Event → Plan
  with_told p told = record p { told = told }

  finish-alike : (p : Plan) (told : List Event) (n : ℕ) (w g : World) (r : Option Refusal) → Alike w g → Alike (finish p n w r) (finish (with_told p told) n g r)
  finish-alike p told n w g None a = record { control = ap p.last a.control; events = a.events }
  finish-alike p told n w g (Some r) a = follow-alike w g r (p.follows n) a

  -- the plan of the one world is carried out in the other one too, where it may tell other events as it begins
  pub carried-alike : (p : Plan) (told : List Event) (w g : World) → Alike w g → AlikeEvents u p.told told → AlikeOutcome (carried_out w p) (carried_out g (with_told p told))
  carried-alike p told w g a same =
      let q : Plan = with_told p told in
      let at_begin : Alike (begun w p) (begun g q) = record { control = ap p.first a.control; events = alike-append u w.events g.events p.told told a.events same } in
      let o : AlikeOutcome (carry (begun w p) p.entries) (carry (begun g q) p.entries) = carry-alike (begun w p) (begun g q) p.entries at_begin in
      record {
        world = subst (λ n. Alike (finish p (stop_place w p) (carry (begun w p) p.entries).0 (carry (begun w p) p.entries).1) (finish q n (carry (begun g q) p.entries).0 (carry (begun g q) p.entries).1)) (sym (place-alike (begun w p) (begun g q) p.entries at_begin))
            (subst (λ r. Alike (finish p (stop_place w p) (carry (begun w p) p.entries).0 (carry (begun w p) p.entries).1) (finish q (stop_place w p) (carry (begun g q) p.entries).0 r)) (sym o.refusal)
            (finish-alike p told (stop_place w p) (carry (begun w p) p.entries).0 (carry (begun g q) p.entries).0 (carry (begun w p) p.entries).1 o.world));
        refusal = o.refusal;
      }

  pub said-alike : (w g : World) (line m : ℕ) (s t : Said) → Alike w g → Alike (said w line s) (said g m t)
  said-alike w g line m s t a = record { control = a.control; events = alike-append u w.events g.events (answer line s ∷ []) (answer m t ∷ []) a.events (inr (inr (refl, refl)), tt) }

  pub lost-alike : (w g x y : World) → Alike w g → Alike x y → Alike (masters_lost w x) (masters_lost g y)
  lost-alike w g x y a b = record { control = λ i. losing (a.control i).on (b.control i); events = b.events }

  pub plan-alike : (p : Plan) (told : List Event) (line : ℕ) (w g : World) → Alike w g → AlikeEvents u p.told told → Alike (after_plan w line p) (after_plan g line (with_told p told))
  unfolding after_plan
  plan-alike p told line w g a same = said-alike _ _ line line _ _ (carried-alike p told w g a same).world
