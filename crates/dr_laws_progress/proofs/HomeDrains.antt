-- A drain of the way home: what it keeps, what it answers, and in which way it leaves the pair.
use Rattle.std.specs.Prelude.{is_some}
use Rattle.std.proofs.Common.{ℕ, ◌≡◌, inl, inr, refl, ap, sym, ◌∙◌, subst, Bool, true, false, cond, not, ◌&&◌, List, [], ◌∷◌, Option, None, Some}
use Rattle.std.proofs.lemmas.Bool.{and_parts, not-true, false_from_ne_true, or_left}
use Rattle.dr_model.specs.Layout.{Fields}
use Rattle.dr_model.specs.Relations.{is_whole, closed, parted_if, noted, fetched}
use Rattle.dr_model.specs.Control.{Fuse, Volume, World}
use Rattle.dr_model.specs.Moves.{Move, Keep, Note, Store, Strike, Suspend, target}
use Rattle.dr_model.specs.Carry.{Act, Make, Next, Pass, Do, End, Entry, Outcome, Turn, act, carry, continue, go, entries_in}
use Rattle.dr_model.specs.Entries.{fields_at, is_running}
use Rattle.dr_model.specs.PairEntries.{sends, feeds, suspend_after, is_copying, tracks_to_send, drain_stretches}
use Rattle.dr_model.specs.Pairs.{is_cascaded}
use Rattle.dr_model.specs.Plans.{drain_plan, is_defined}
use Rattle.dr_model.specs.Laws.{Sound}
use Rattle.dr_model.specs.Refusals.{stopped}
use Rattle.dr_model.proofs.CarryLemmas.{act-move}
use Rattle.dr_facts.proofs.Entries.{any_world, any_reason, why-any, AllFine, FineThen, fine-check, carry-kept}
use Rattle.dr_facts.proofs.SharedEntries.{sends-fine, feeds-fine}
use Rattle.dr_facts.proofs.Tables.{at_cases, at_part}
use Rattle.dr_logic.proofs.Truth.{false_true}
use Rattle.dr_laws_sound.proofs.FitsFlash.{as_begun}
use Rattle.dr_laws_sound.proofs.FitsPairs.{row}
use Rattle.dr_laws_sound.proofs.Turns.{server_at, next_of, done, done_in_stop, turn-armed, act-cases}
use Rattle.dr_laws_progress.specs.PairWays.{sides}
use Rattle.dr_laws_progress.proofs.HomeKept.{IsPlain, Kin, Near}
use Rattle.dr_laws_progress.proofs.HomeSteps.{HasFuse, Fused, kin-more, near-none, near-done}

-- ---- acts

-- the acts of a drain
abbrev DrainAct : Act → Type 0
DrainAct (Make (Keep u t)) = Unit {0}
DrainAct (Make (Note u t)) = Unit {0}
DrainAct (Make (Store v t u last)) = Unit {0}
DrainAct (Make (Strike v t last)) = Unit {0}
DrainAct (Make (Suspend v busy)) = Unit {0}
DrainAct a = ⊥

-- a relationship that isn't persistent is plain
pub plain-unless : (w : World) → Sound w → (v : ℕ) → (fields_at w.control v).persistent ≡ false → IsPlain (fields_at w.control v)
plain-unless w s v passing = record {
  no_member = false_from_ne_true _ (λ is. false_true unrecorded ((s.attempts.volumes v).counted (or_left f.member f.revertible is)).records);
  settled = false_from_ne_true _ (λ is. false_true unrecorded (s.rows.structure.reverts v is).records);
  forward = false_from_ne_true _ (λ is. false_true unrecorded ((s.rows.structure.flags v).records is));
}
  where
    f : Fields
    f = fields_at w.control v

    unrecorded : (fields_at w.control v).recorded ≡ false
    unrecorded = false_from_ne_true _ (λ is. false_true passing ((s.rows.structure.flags v).persists is))

-- a target keeps a track; with its last one its relationship may end
kin-kept : (f g : Fields) (n t : ℕ) → (f.persistent ≡ false → IsPlain f) → Kin f g → Kin f (closed n (noted (fetched g t) t))
kin-kept f g n t fits old = by (is_whole n (noted (fetched g t) t).own && not g.persistent) refl
  where
    plain : Kin f g → g.persistent ≡ false → IsPlain f
    plain (inl same) passing = fits (sym (ap (λ (r : Fields). r.persistent) same) ∙ passing)
    plain (inr p) passing = p.0

    by : (b : Bool) → (is_whole n (noted (fetched g t) t).own && not g.persistent) ≡ b → Kin f (parted_if b (noted (fetched g t) t))
    by true is = inr (plain old (not-true g.persistent (and_parts (is_whole n (noted (fetched g t) t).own) _ is).1), record { no_member = refl; settled = refl; forward = refl })
    by false is = kin-more f g (parted_if false (noted (fetched g t) t)) old refl

module _ (w : World) (fits : (v : ℕ) → (fields_at w.control v).persistent ≡ false → IsPlain (fields_at w.control v)) where
  -- what an act of a drain leaves, done or stopped
  pub record Keeps (u : World) : Type 0 where
    pub near : Near w u
    pub pairs : (v : ℕ) → sides (fields_at u.control v) ≡ sides (fields_at w.control v)

  kin-left : (u : World) (m : Move) → DrainAct (Make m) → Near w u → Kin (fields_at w.control (target m)) (next_of u m)
  kin-left u (Keep v t) is near = kin-kept (fields_at w.control v) (fields_at u.control v) (u.control.volume v).tracks t (fits v) (near.kin v)
  kin-left u (Note v t) is near = kin-more _ (fields_at u.control v) _ (near.kin v) refl
  kin-left u (Store v t a last) is near = kin-more _ (fields_at u.control v) _ (near.kin v) refl
  kin-left u (Strike v t last) is near = kin-more _ (fields_at u.control v) _ (near.kin v) refl
  kin-left u (Suspend v busy) is near = kin-more _ (fields_at u.control v) _ (near.kin v) refl
  kin-left u m is near = absurd is

  sides-left : (u : World) (m : Move) → DrainAct (Make m) → sides (next_of u m) ≡ sides (fields_at u.control (target m))
  sides-left u (Keep v t) is = refl
  sides-left u (Note v t) is = refl
  sides-left u (Store v t a last) is = refl
  sides-left u (Strike v t last) is = refl
  sides-left u (Suspend v busy) is = refl
  sides-left u m is = absurd is

  move-keeps : (u : World) (m : Move) → DrainAct (Make m) → Keeps u → (f : Option Fuse) → Keeps (done u m f)
  move-keeps u m is old f = record {
    near = near-done w u m f (kin-left u m is old.near) old.near;
    pairs = λ v. at_part (λ (y : Volume). sides y.fields) u.control.volume (target m) (row u m f) (sides-left u m is) v ∙ old.pairs v;
  }

  stop-keeps : (u : World) (m : Move) → DrainAct (Make m) → Keeps u → (f : Option Fuse) → Keeps (done_in_stop u m f)
  stop-keeps u m is old f = let k = move-keeps u m is old f in let n = k.near in record {
    near = record { server = n.server; link = n.link; paths = n.paths; volumes = n.volumes; sessions = n.sessions; kin = n.kin };
    pairs = k.pairs;
  }

  act-keeps : (u : World) (a : Act) → DrainAct a → Keeps u → Keeps (act u a).0
  act-keeps u (Make m) is old =
      act-cases u (Make m) (λ t. Keeps t.0) (λ writes off. old) (move-keeps u m is old) (stop-keeps u m is old)
      (λ writes f. let n = old.near in record { near = record { server = n.server; link = n.link; paths = n.paths; volumes = n.volumes; sessions = n.sessions; kin = n.kin }; pairs = old.pairs })
  act-keeps u a is old = absurd is

  -- ---- entries

  abbrev Sent : World → Act → Type 0
  Sent u a = DrainAct a

  abbrev All : List Entry → Type 0
  All = AllFine any_world Sent any_reason

  drain-fine : (x : ℕ) (ts : List ℕ) → All (entries_in (drain_stretches w.control x ts))
  drain-fine x ts = by (is_cascaded (fields_at w.control (fields_at w.control x).primary_partner))
    where
      by : (fed : Bool) → All (entries_in (cond fed (feeds w.control.volumes x (fields_at w.control x).primary_partner (fields_at w.control (fields_at w.control x).primary_partner).primary_partner ts) (record { entries = sends w.control.volumes x (fields_at w.control x).primary_partner ts; follows = suspend_after x } ∷ [])))
      by true = feeds-fine any_world Sent any_reason (λ u t v any. tt) (λ u t v any. tt) w.control.volumes x _ _ (λ v any. tt) (λ t l v any. tt) (λ t l v any. tt) (λ v any. tt) (λ t l v any. tt) (λ t l v any. tt) (λ j. why-any _) (λ j. why-any _) (λ j. why-any _) ts
      by false = sends-fine any_world Sent any_reason (λ u t v any. tt) (λ u t v any. tt) w.control.volumes x _ (λ v any. tt) (λ t l v any. tt) (λ t l v any. tt) (λ j. why-any _) (λ j. why-any _) ts

  entries-fine : (x : ℕ) → All (drain_plan w.control x None).entries
  entries-fine x =
      fine-check any_world Sent any_reason (is_defined x) _ _ tt (fine-check any_world Sent any_reason (is_running x) _ _ tt (fine-check any_world Sent any_reason (is_copying x) _ _ tt
      (drain-fine x (tracks_to_send None (w.control.volume x).tracks (fields_at w.control x).out_of_sync))))

  pub drain-keeps : (x : ℕ) (v : World) → carry (as_begun w) (drain_plan w.control x None).entries ≡ (v, None) → Keeps v
  drain-keeps x v leads =
      subst Keeps (ap (λ (o : Outcome). o.0) leads)
      (carry-kept any_world Sent any_reason Keeps (λ u k. tt) act-keeps (drain_plan w.control x None).entries (entries-fine x) (as_begun w) (record { near = near-none w; pairs = λ j. refl }))

  -- a fuse that is armed after such entries was armed before
  fused-next : (u v : World) (m : Move) (rest : World → Outcome) → ((z : World) → rest z ≡ (v, None) → Fused z v) → continue (act u (Make m)).0 (act u (Make m)).1 rest ≡ (v, None) → Fused u v
  fused-next u v m rest more leads =
      turn-armed u m (λ (t : Turn). continue t.0 t.1 rest ≡ (v, None) → Fused u v)
      (λ down h. more u h)
      (λ f armed h q is. at_cases (λ q (o : Option Fuse). is_some o ≡ true → HasFuse u q) u.control.fuse (server_at u (target m)) f (λ is. sym armed ∙ is) (λ q ne is. is) q (more (done u m f) h q is))
      (λ armed f h. let none : Some (stopped (server_at u (target m))) ≡ None = ap (λ (o : Outcome). o.1) h in absurd cc)
      (λ armed f h. let none : Some (stopped (server_at u (target m))) ≡ None = ap (λ (o : Outcome). o.1) h in absurd cc)
      (subst (λ (t : Turn). continue t.0 t.1 rest ≡ (v, None)) (act-move u m) leads)

  fused-carry : (ds : List Entry) → All ds → (u v : World) → carry u ds ≡ (v, None) → Fused u v
  unfolding carry AllFine
  fused-carry [] fine u v leads = λ q is. subst (λ (z : World). HasFuse z q) (sym (ap (λ (o : Outcome). o.0) leads)) is
  fused-carry (d ∷ ds) fine u v leads = by (d u.control) (fine u tt) leads (λ rest z. fused-carry ds rest z v)
    where
      by : (x : Next) → FineThen any_world Sent any_reason u x (All ds) → go u x (λ z. carry z ds) ≡ (v, None) → (All ds → (z : World) → carry z ds ≡ (v, None) → Fused z v) → Fused u v
      by Pass fine h on = on fine u h
      by (End r) fine h on = let none : Some r ≡ None = ap (λ (o : Outcome). o.1) h in absurd cc
      by (Do (Make m)) fine h on = fused-next u v m (λ z. carry z ds) (on fine.1) h
      by (Do a) fine h on = absurd fine.0

  pub drain-fused : (x : ℕ) (v : World) → carry (as_begun w) (drain_plan w.control x None).entries ≡ (v, None) → Fused w v
  drain-fused x v leads = fused-carry (drain_plan w.control x None).entries (entries-fine x) (as_begun w) v leads
