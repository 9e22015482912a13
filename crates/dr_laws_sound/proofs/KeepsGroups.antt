-- Each kind of move keeps what sessions and records say together, whether or not the server stopped in it.
use Rattle.std.proofs.Common.{ℕ, ◌≡◌, ◌≢◌, ◌⊎◌, inl, inr, refl, ap, ◌∙◌, subst, Bool, true, false, cond, List, [], ◌∷◌, ◌++◌, Option}
use Rattle.std.proofs.lemmas.Bool.{false_from_ne_true}
use Rattle.dr_logic.specs.Tables.{at}
use Rattle.dr_ids.specs.declared.names.Member.{Member}
use Rattle.dr_model.specs.Layout.{Fields, is_part}
use Rattle.dr_model.specs.Sessions.{Session, changed, begun, raised, with_member}
use Rattle.dr_model.specs.Histories.{Write}
use Rattle.dr_model.specs.Control.{Control, Fuse, Pending, Volume, World}
use Rattle.dr_model.specs.Moves.{Move, Suspend, MakeSecondary, MakePrimary, DropPrimary, DropSecondary, TakeOver, LeavePrimary, FallBack, Yield, Lift, Restart, Hold, Finish, RaiseAttempt, target, keeps_staged, moved_keeping}
use Rattle.dr_model.specs.Entries.{fields_at}
use Rattle.dr_model.specs.Groups.{In, Groups, SecondariesUncascaded, Housed, OpensAttempt}
use Rattle.dr_model.specs.Table.{table}
use Rattle.dr_model.specs.Allowed.{Allowed}
use Rattle.dr_model.specs.Attempts.{Attempts, InAttempt, SecondaryOfNone}
use Rattle.dr_model.specs.Flights.{Flights}
use Rattle.dr_facts.proofs.Tables.{at_cases, at_part}
use Rattle.dr_laws_sound.proofs.Turns.{next_of, carried_in}
use Rattle.dr_model.specs.Tables.{Once}
use Rattle.dr_facts.proofs.Lists.{in-joined}
use Rattle.dr_laws_closed.specs.Regroups.{AllStay}
use Rattle.dr_laws_sessions.specs.Frames.{Framed, RecordedOr, Became}
use Rattle.dr_laws_sessions.proofs.Changes.{numbers, changed-in, changed-once}
use Rattle.dr_laws_sessions.proofs.Volumes.{groups-same, groups-held, groups-opened}
use Rattle.dr_laws_sessions.proofs.Housed.{housed-stays}
use Rattle.dr_laws_attempts.proofs.Moves.{attempts-move}
use Rattle.dr_laws_attempts.proofs.Tables.{attempts-opened}
use Rattle.dr_laws_messages.proofs.Moves.{flights-move, flights-opened}
use Rattle.dr_logic.proofs.Truth.{false_true}

-- a volume hasn't both parts
abbrev IsUncascaded : Fields → Type 0
IsUncascaded f = is_part f.primary ≡ true → is_part f.secondary ≡ false

-- a volume that becomes a primary is no secondary, or the secondary of no member
abbrev BecomesFree : Control → Move → Type 0
BecomesFree k (MakePrimary v u kind state full) = is_part (fields_at k v).secondary ≡ false
BecomesFree k m = Unit {0}

abbrev pub MakesNoneCascaded : Control → Move → Type 0
MakesNoneCascaded k (MakePrimary v u kind state full) = is_part (fields_at k v).secondary ≡ true → SecondaryOfNone k v
MakesNoneCascaded k m = Unit {0}

pub makes-none : (k : Control) (m : Move) → InAttempt k m → MakesNoneCascaded k m
makes-none k (MakePrimary v u kind state full) g = g
makes-none k m g = tt

second-free : (k : Control) (m : Move) → MakesNoneCascaded k m → (x : Session) (q : Member) → In x k.sessions → In q x.members → q.b.0 ≡ target m → BecomesFree k m
second-free k (MakePrimary v u kind state full) g x q i here is = false_from_ne_true _ (λ two. absurd (g two x q i here is))
second-free k m g x q i here is = tt

-- each member stays
pub secondaries-stay : (k : Control) (ss : List Session) → AllStay k.sessions ss → SecondariesUncascaded k → SecondariesUncascaded (record k { sessions = ss })
secondaries-stay k ss stays old x q i here = let p = (stays x q i here).was in old p.session q p.listed p.here

-- what holds of each member, where one session changes
each-changed : (P : Member → Type 0) (s : ℕ) (f : Session → Session) (ss : List Session) → Once (numbers ss) → ((x : Session) (q : Member) → In x ss → In q x.members → P q) → ((x : Session) (q : Member) → In x ss → In q (f x).members → P q)
    → (x : Session) (q : Member) → In x (changed s f ss) → In q x.members → P q
each-changed P s f ss once old new x q i here = by (changed-in s f ss x once i)
  where
    by : (In x ss × (x.number ≢ s)) ⊎ Became s f ss x → P q
    by (inl o) = old x q o.0 here
    by (inr b) = new b.from q b.listed (subst (λ (y : Session). In q y.members) b.is here)

-- an attempt begins
pub secondaries-begun : (k : Control) (s : ℕ) → Once (numbers k.sessions) → SecondariesUncascaded k → SecondariesUncascaded (record k { sessions = changed s begun k.sessions })
secondaries-begun k s once old = each-changed (λ q. IsUncascaded (fields_at k q.b.0)) s begun k.sessions once old old

-- a session has a member more, whose secondary isn't cascaded
pub secondaries-added : (k : Control) (s n : ℕ) (m : Member) → Groups k → is_part (fields_at k m.b.0).primary ≡ false → SecondariesUncascaded k → SecondariesUncascaded (record k { sessions = changed s (with_member m) (changed s (raised n) k.sessions) })
secondaries-added k s n m groups free old = each-changed (λ q. IsUncascaded (fields_at k q.b.0)) s (with_member m) (changed s (raised n) k.sessions) (changed-once s (raised n) k.sessions (λ x. refl) groups.once) was (λ x q i here. by x q i (in-joined x.members (m ∷ []) q here))
  where
    was : (x : Session) (q : Member) → In x (changed s (raised n) k.sessions) → In q x.members → IsUncascaded (fields_at k q.b.0)
    was = each-changed (λ q. IsUncascaded (fields_at k q.b.0)) s (raised n) k.sessions groups.once old old

    by : (x : Session) (q : Member) → In x (changed s (raised n) k.sessions) → In q x.members ⊎ In q (m ∷ []) → IsUncascaded (fields_at k q.b.0)
    by x q i (inl here) = was x q i here
    by x q i (inr (inl is)) = λ first. false_true (ap (λ (r : Member). is_part (fields_at k r.b.0).primary) is ∙ free) first
    by x q i (inr (inr none)) = absurd none

module _ (w : World) (write : ℕ → Write) (on : ℕ → Bool) (fuse : ℕ → Option Fuse) (ps : List Pending) where
  abbrev next : Move → Volume
  next m = moved_keeping (keeps_staged m) (w.control.volume (target m)) (next_of w m) (carried_in w m)

  -- the control state when the move is done
  abbrev after : Move → Control
  after m = record w.control { volume = at w.control.volume (target m) (next m); on = on; fuse = fuse; pending = ps }

  frame : (m : Move) → Framed w.control (after m)
  frame m = record {
    sessions = refl;
    volumes = refl;
    server = at_part (λ (x : Volume). x.server) w.control.volume (target m) (next m) refl;
    tracks = at_part (λ (x : Volume). x.tracks) w.control.volume (target m) (next m) refl;
  }

  -- a volume that records recorded, for the same attempt and with the same partner
  by : (m : Move) → ((next_of w m).recording ≡ true → ((fields_at w.control (target m)).recording ≡ true) × (((next_of w m).attempt ≡ (fields_at w.control (target m)).attempt) × ((next_of w m).primary_partner ≡ (fields_at w.control (target m)).primary_partner))) → Groups w.control → Groups (after m)
  by m here old = groups-same w.control (after m) (frame m)
      (at_cases (λ u (x : Volume). x.fields.recording ≡ true → ((fields_at w.control u).recording ≡ true) × ((x.fields.attempt ≡ (fields_at w.control u).attempt) × (x.fields.primary_partner ≡ (fields_at w.control u).primary_partner))) w.control.volume (target m) (next m) here (λ q ne h. (h, (refl, refl)))) old

  lifted : (held records : Bool) → cond held false records ≡ true → records ≡ true
  lifted true records h = absurd cc
  lifted false records h = h

  -- or is held for this one
  holds : (v s n : ℕ) (first : Bool) (u : ℕ) → (fields_at (after (Hold v s n first)) u).recording ≡ true → RecordedOr w.control (after (Hold v s n first)) v n u
  holds v s n first =
      at_cases (λ u (x : Volume). x.fields.recording ≡ true → ((u ≡ v) × ((x.fields.attempt ≡ n) × (x.fields.primary_partner ≡ (fields_at w.control u).primary_partner))) ⊎ (((fields_at w.control u).recording ≡ true) × ((x.fields.attempt ≡ (fields_at w.control u).attempt) × (x.fields.primary_partner ≡ (fields_at w.control u).primary_partner)))) w.control.volume v (next (Hold v s n first))
      (λ h. inl (refl, (refl, refl))) (λ q ne h. inr (h, (refl, refl)))

  pub groups-after : (m : Move) → Allowed write (table w) m → InAttempt w.control m → Groups w.control → Groups (after m)
  groups-after (Hold v s n first) a g old = groups-held w.control (after (Hold v s n first)) v s n (frame (Hold v s n first)) (holds v s n first) g.0 old
  groups-after (Suspend v busy) a g old = by (Suspend v busy) (λ h. absurd cc) old
  groups-after (MakePrimary v u kind state full) a g old = by (MakePrimary v u kind state full) (λ h. absurd cc) old
  groups-after (DropPrimary v) a g old = by (DropPrimary v) (λ h. absurd cc) old
  groups-after (TakeOver v) a g old = by (TakeOver v) (λ h. absurd cc) old
  groups-after (FallBack v more state) a g old = by (FallBack v more state) (λ h. absurd cc) old
  groups-after (Yield v u kind state) a g old = by (Yield v u kind state) (λ h. absurd cc) old
  groups-after (Restart v) a g old = by (Restart v) (λ h. absurd cc) old
  groups-after (Finish v n) a g old = by (Finish v n) (λ h. absurd cc) old
  groups-after (Lift v) a g old = by (Lift v) (λ h. (lifted (fields_at w.control v).coordination (fields_at w.control v).recording h, (refl, refl))) old
  groups-after (RaiseAttempt v n) a g old = by (RaiseAttempt v n) (λ h. false_true a.idle h) old
  groups-after m a g old = by m (λ h. (h, (refl, refl))) old

  -- only what makes a primary gives a volume both parts
  stays-uncascaded : (m : Move) → Allowed write (table w) m → BecomesFree w.control m → IsUncascaded (fields_at w.control (target m)) → IsUncascaded (next_of w m)
  stays-uncascaded (MakeSecondary v u kind state) a free old h = false_true a.first h
  stays-uncascaded (MakePrimary v u kind state full) a free old h = free
  stays-uncascaded (DropPrimary v) a free old h = absurd cc
  stays-uncascaded (DropSecondary v) a free old h = refl
  stays-uncascaded (TakeOver v) a free old h = refl
  stays-uncascaded (LeavePrimary v) a free old h = refl
  stays-uncascaded (Yield v u kind state) a free old h = absurd cc
  stays-uncascaded m a free old h = old h

  pub secondaries-after : (m : Move) → Allowed write (table w) m → MakesNoneCascaded w.control m → SecondariesUncascaded w.control → SecondariesUncascaded (after m)
  secondaries-after m a g old = λ x q i here.
      let was : (u : ℕ) → q.b.0 ≡ u → IsUncascaded (fields_at w.control u) = λ u is. subst (λ j. IsUncascaded (fields_at w.control j)) is (old x q i here) in
      at_cases (λ u (y : Volume). q.b.0 ≡ u → IsUncascaded y.fields) w.control.volume (target m) (next m)
      (λ is. stays-uncascaded m a (second-free w.control m g x q i here is) (was (target m) is)) (λ u ne is. was u is) q.b.0 refl

  -- the first hold of an attempt, with which it begins
  pub groups-begun : (v s n : ℕ) → OpensAttempt w.control v s n → Groups w.control → Groups (record (after (Hold v s n true)) { sessions = changed s begun w.control.sessions })
  groups-begun v s n opens old = groups-opened w.control (after (Hold v s n true)) v s n (frame (Hold v s n true)) (holds v s n true) opens old

  pub secondaries-opened : (v s n : ℕ) → Allowed write (table w) (Hold v s n true) → Groups w.control → SecondariesUncascaded w.control → SecondariesUncascaded (record (after (Hold v s n true)) { sessions = changed s begun w.control.sessions })
  secondaries-opened v s n a groups old = secondaries-begun (after (Hold v s n true)) s groups.once (secondaries-after (Hold v s n true) a tt old)

  -- each volume stays on its server
  pub housed-after : (m : Move) → Housed w.control → Housed (after m)
  housed-after m old = housed-stays w.control (after m) refl refl (frame m).server old

  -- and what attempts say of sessions and volumes stays
  pub attempts-after : (m : Move) → InAttempt w.control m → Groups w.control → Attempts w.control → Flights w.control → Attempts (after m)
  attempts-after m g groups old flights = attempts-move w.control (after m) m (carried_in w m) refl (record { volumes = refl; keeps = keeps_staged m; volume = refl }) g groups old flights

  -- and so does what the messages in flight say
  pub flights-after : (m : Move) → InAttempt w.control m → Groups w.control → Attempts w.control → Flights w.control → Flights (after m)
  flights-after m g groups old flights = flights-move w.control (after m) m (carried_in w m) refl refl (record { volumes = refl; keeps = keeps_staged m; volume = refl }) g groups old flights

  pub attempts-begun : (v s n : ℕ) → OpensAttempt w.control v s n → Groups w.control → Attempts w.control → Attempts (record (after (Hold v s n true)) { sessions = changed s begun w.control.sessions })
  attempts-begun v s n opens groups old = attempts-opened w.control (after (Hold v s n true)) v s n (carried_in w (Hold v s n true)) refl (record { volumes = refl; keeps = true; volume = refl }) opens groups old

  pub flights-begun : (v s n : ℕ) → OpensAttempt w.control v s n → Groups w.control → Attempts w.control → Flights w.control → Flights (record (after (Hold v s n true)) { sessions = changed s begun w.control.sessions })
  flights-begun v s n opens groups old flights = flights-opened w.control (after (Hold v s n true)) v s n (carried_in w (Hold v s n true)) refl refl (record { volumes = refl; keeps = true; volume = refl }) opens groups old flights
