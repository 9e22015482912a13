-- The laws of sessions stay where volumes change: before the first step, where a volume is defined, and in a move.
use Rattle.std.proofs.Common.{ℕ, ◌≡◌, ◌≢◌, ◌⊎◌, inl, inr, refl, ap, sym, ◌∙◌, subst, true, false, ◌||◌, ◌+◌, nat_eq, List, [], ◌∷◌, ◌++◌, Some, option_map}
use Rattle.std.specs.List.{list_any}
use Rattle.std.proofs.lemmas.Bool.{cases_Bool}
use Rattle.std.proofs.lemmas.List.Folds.{list_any-append}
use Rattle.std.proofs.lemmas.Option.{same_Some}
use Rattle.dr_logic.specs.Tables.{at}
use Rattle.dr_ids.specs.declared.names.Member.{Member}
use Rattle.dr_ids.specs.declared.refusal.PhaseName.{PhaseName}
use Rattle.dr_ids.specs.declared.refusal.PhaseName.TheVariants as phase
use Rattle.dr_model.specs.Phases as phases
use Rattle.dr_model.specs.Control.{Control, Volume, new_volume, no_control, is_volume}
use Rattle.dr_model.specs.Entries.{fields_at}
use Rattle.dr_model.specs.Sessions.{Session, Mirror, session_in, changed, begun}
use Rattle.dr_model.specs.Groups.{In, Finished, SessionFits, IsRecorder, Groups, IsMember, HoldsMember, OpensAttempt}
use Rattle.dr_laws_sessions.specs.Frames.{Grows, Quieter, Framed, RecordedBefore, RecordedOr, Quiet}
use Rattle.dr_facts.proofs.Tables.{at_cases}
use Rattle.dr_laws_sessions.proofs.Changes.{session-found, same-session, changed-becomes}
use Rattle.dr_laws_sessions.proofs.Frames.{Fit, fit-of, groups-fit, recorder-is, groups-of, stands-grows, master-grows, Turns, turn-quiet}
use Rattle.dr_laws_sessions.proofs.Sound.{mapped, master-turns, master-with, sound-begun, fits-calm}
use Rattle.dr_laws_sessions.proofs.Owed.{owes-enters, owes-mirrors}
use Rattle.dr_laws_sessions.proofs.Tables.{with-table, fit-changed}
use Rattle.dr_logic.proofs.Truth.{false_true}

pub groups-none : Groups no_control
groups-none = record {
  once = tt;
  each = λ x i. absurd i;
  lone = record { differ = λ x m i here. absurd i; one = λ v x y m q i j here there at_m at_q. absurd i };
  recorders = λ v h. absurd cc;
}

-- ---- a new volume

abbrev defined : Control → ℕ → ℕ → ℕ → Control
defined k v server tracks = record k { volumes = k.volumes ++ v ∷ []; volume = at k.volume v (new_volume server tracks) }

still-defined : (k : Control) (v u : ℕ) → is_volume k u ≡ true → list_any (nat_eq u) (k.volumes ++ v ∷ []) ≡ true
still-defined k v u d = list_any-append (nat_eq u) k.volumes (v ∷ []) ∙ ap (λ b. b || (nat_eq u v || false)) d

-- a volume that was there is another one
other-defined : (k : Control) (v u : ℕ) → is_volume k v ≡ false → is_volume k u ≡ true → u ≢ v
other-defined k v u new d e = false_true new (subst (λ w. is_volume k w ≡ true) e d)

pub groups-defined : (k : Control) (v server tracks : ℕ) → is_volume k v ≡ false → Groups k → Groups (record k { volumes = k.volumes ++ v ∷ []; volume = at k.volume v (new_volume server tracks) })
groups-defined k v server tracks new groups = groups-of k (defined k v server tracks) grows quieter (fit-of k groups)
  where
    grows : Grows k (defined k v server tracks)
    grows = record {
      defined = λ u d. still-defined k v u d;
      server = λ u d. at_cases (λ u (y : Volume). u ≢ v → y.server ≡ (k.volume u).server) k.volume v (new_volume server tracks) (λ ne. absurd (ne refl)) (λ u ne h. refl) u (other-defined k v u new d);
      tracks = λ u d. at_cases (λ u (y : Volume). u ≢ v → y.tracks ≡ (k.volume u).tracks) k.volume v (new_volume server tracks) (λ ne. absurd (ne refl)) (λ u ne h. refl) u (other-defined k v u new d);
    }

    quieter : Quieter k (defined k v server tracks)
    quieter = record {
      recorded = λ u h. at_cases (λ u (y : Volume). y.fields.recording ≡ true → (fields_at k u).recording ≡ true) k.volume v (new_volume server tracks) (λ h. absurd cc) (λ u ne h. h) u h;
      attempt = λ u h. at_cases (λ u (y : Volume). y.fields.recording ≡ true → y.fields.attempt ≡ (fields_at k u).attempt) k.volume v (new_volume server tracks) (λ h. absurd cc) (λ u ne h. refl) u h;
      partner = λ u h. at_cases (λ u (y : Volume). y.fields.recording ≡ true → y.fields.primary_partner ≡ (fields_at k u).primary_partner) k.volume v (new_volume server tracks) (λ h. absurd cc) (λ u ne h. refl) u h;
    }

-- ---- nothing more records

pub groups-still : (k j : Control) → j.sessions ≡ k.sessions → Grows k j → Quieter k j → Groups k → Groups j
groups-still k j same grows quieter groups = groups-of k j grows quieter (subst (Fit k) (sym same) (fit-of k groups))

pub grows-framed : (j k : Control) → Framed j k → Grows j k
grows-framed j k frame = record {
  defined = λ u d. subst (λ vs. is_volume (record j { volumes = vs }) u ≡ true) (sym frame.volumes) d;
  server = λ u d. frame.server u;
  tracks = λ u d. frame.tracks u;
}

pub groups-same : (j k : Control) → Framed j k → ((v : ℕ) → (fields_at k v).recording ≡ true → RecordedBefore j k v) → Groups j → Groups k
groups-same j k frame stays old = groups-still j k frame.sessions (grows-framed j k frame) (record { recorded = λ v h. (stays v h).0; attempt = λ v h. (stays v h).1.0; partner = λ v h. (stays v h).1.1 }) old

-- ---- a hold

-- v is the primary of a member of a session whose master isn't Idle, nor Finishing without its server; n is its last number, and the
-- partner is the member's secondary
pub record HoldsIn (ss : List Session) (v n partner : ℕ) : Type 0 where
  pub session : Session
  pub listed : In session ss
  pub mirror : Mirror
  pub has_master : session.mirror ≡ Some mirror
  pub busy : mirror.master.phase ≢ phase.Idle
  pub member : Member
  pub here : In member session.members
  pub unfinished : mirror.master.phase ≡ phase.Finishing → phases.is_among member.server.0 mirror.master.owed ≡ true
  pub is : member.a.0 ≡ v
  pub last : n ≡ session.last
  pub to : partner ≡ member.b.0

still-unfinished : (r q : Mirror) (p m : Member) → r ≡ q → p ≡ m → (r.master.phase ≡ phase.Finishing → phases.is_among p.server.0 r.master.owed ≡ true) → q.master.phase ≡ phase.Finishing → phases.is_among m.server.0 q.master.owed ≡ true
still-unfinished r q p m is also owes ends = sym (λ i. phases.is_among (also i).server.0 (is i).master.owed) ∙ owes (ap (λ (q : Mirror). q.master.phase) is ∙ ends)

module _ (j k : Control) (ss : List Session) (v n : ℕ) (grows : Grows j k) (stays : (u : ℕ) → (fields_at k u).recording ≡ true → RecordedOr j k v n u) (fit : Fit j ss) (hold : HoldsIn ss v n (fields_at j v).primary_partner) where
  -- a member whose server has finished isn't the one that is held
  elsewhere : (y : Session) (r : Mirror) (m : Member) → In y ss → y.mirror ≡ Some r → r.master.phase ≡ phase.Finishing → In m y.members → phases.is_among m.server.0 r.master.owed ≡ false → m.a.0 ≢ v
  elsewhere y r m i has ends here out e =
      let one = fit.lone.one v hold.session y hold.member m hold.listed i hold.here here (inl (sym hold.is)) (inl (sym e)) in
      let is : hold.session ≡ y = same-session ss hold.session y fit.once hold.listed i one.0 in
      false_true out (still-unfinished hold.mirror r hold.member m ((same_Some _ _ (sym hold.has_master ∙ (ap (λ (z : Session). z.mirror) is ∙ has)))) one.1 hold.unfinished ends)

  finished : (y : Session) → In y ss → (r : Mirror) → y.mirror ≡ Some r → r.master.phase ≡ phase.Finishing → (m : Member) → In m y.members → Finished k r m
  finished y i r has ends m here out = by (cases_Bool (fields_at k m.a.0).recording)
    where
      never : RecordedOr j k v n m.a.0 → ⊥
      never (inl itself) = elsewhere y r m i has ends here out itself.0
      never (inr recorded) = false_true ((fit.each y i).finished r has ends m here out) recorded.0

      by : ((fields_at k m.a.0).recording ≡ true) ⊎ ((fields_at k m.a.0).recording ≡ false) → (fields_at k m.a.0).recording ≡ false
      by (inl h) = absurd (never (stays m.a.0 h))
      by (inr h) = h

  recorder : (u : ℕ) → (fields_at k u).recording ≡ true → RecordedOr j k v n u → IsRecorder ss u (fields_at k u).attempt (fields_at k u).primary_partner
  recorder u h (inl itself) = record {
    session = hold.session;
    listed = hold.listed;
    mirror = hold.mirror;
    has_master = hold.has_master;
    busy = hold.busy;
    member = hold.member;
    here = hold.here;
    is = hold.is ∙ sym itself.0;
    last = itself.1.0 ∙ hold.last;
    to = itself.1.1 ∙ (ap (λ u. (fields_at j u).primary_partner) itself.0 ∙ hold.to);
  }
  recorder u h (inr recorded) = recorder-is ss u recorded.1.0 recorded.1.1 (fit.recorders u recorded.0)

  pub fit-holds : Fit k ss
  fit-holds = record {
    once = fit.once;
    each = λ y i. record {
      sound = (fit.each y i).sound;
      once = (fit.each y i).once;
      stands = λ m here. stands-grows j k m grows ((fit.each y i).stands m here);
      runs = λ r has. master-grows j k r grows ((fit.each y i).runs r has);
      finished = finished y i;
      few = (fit.each y i).few;
      owes = (fit.each y i).owes;
    };
    lone = fit.lone;
    recorders = λ u h. recorder u h (stays u h);
  }

pub groups-held : (j k : Control) (v s n : ℕ) → Framed j k → ((u : ℕ) → (fields_at k u).recording ≡ true → RecordedOr j k v n u) → HoldsMember j v s n → Groups j → Groups k
groups-held j k v s n frame stays holds old =
    let p : IsMember j v s = holds.place in
    groups-fit k (subst (Fit k) (sym frame.sessions) (fit-holds j k j.sessions v n (grows-framed j k frame) stays (fit-of j old)
    (record { session = p.session; listed = p.listed; mirror = p.mirror; has_master = p.has_master; busy = holds.busy; unfinished = holds.unfinished; member = p.member; here = p.here; is = p.is; last = holds.last; to = holds.to })))

-- ---- an attempt begins, by its first hold or without one

turn-begun : (k : Control) (x : Session) → Quiet x → SessionFits k x → Turns k x (begun x)
turn-begun k x quiet fits =
    turn-quiet k x (begun x) quiet refl
    (fits-calm k (begun x) (sound-begun x fits.sound) fits.once fits.stands
    (master-turns k (λ r. record r { master = phases.begun r.master }) x.mirror (λ r has. master-with k r (phases.begun r.master) (fits.runs r has) (λ e. absurd cc)))
    (owes-mirrors (λ r. record r { master = phases.begun r.master }) x.mirror (λ r has. owes-enters phase.Coordinating (record r.master { number = r.master.number + 1 })))
    (λ r has. let p = mapped (λ r. record r { master = phases.begun r.master }) x.mirror r has in begins (sym (ap (λ (q : Mirror). q.master.phase) p.is))))
    (λ m here. here)
  where
    begins : {p : PhaseName} → phase.Coordinating ≡ p → (p ≢ phase.Finishing) × (p ≢ phase.Lost)
    begins e = (λ ends. absurd cc, λ lost. absurd cc)

pub idle-quiet : (x : Session) (q : Mirror) → x.mirror ≡ Some q → q.master.phase ≡ phase.Idle → Quiet x
idle-quiet x q has idle r also = ap (λ (z : Mirror). z.master.phase) ((same_Some _ _ (sym also ∙ has))) ∙ idle

fit-begun-in : (k : Control) (s : ℕ) (x : Session) (r : Mirror) → Groups k → In x k.sessions → x.number ≡ s → x.mirror ≡ Some r → r.master.phase ≡ phase.Idle → Fit k (changed s begun k.sessions)
fit-begun-in k s x r groups listed number has idle =
    fit-changed k s begun groups (λ x. refl) (λ y i e.
    subst (λ z. Turns k z (begun z)) (same-session k.sessions x y groups.once listed i (number ∙ sym e))
    (turn-begun k x (idle-quiet x r has idle) (groups.each x listed)))

pub fit-begun : (k : Control) (v s n : ℕ) → OpensAttempt k v s n → Groups k → Fit k (changed s begun k.sessions)
fit-begun k v s n opens groups = let p : IsMember k v s = opens.place in fit-begun-in k s p.session p.mirror groups p.listed p.number p.has_master opens.idle

pub groups-begun : (k : Control) (s : ℕ) (x : Session) (r : Mirror) → Groups k → session_in k.sessions s ≡ Some x → x.mirror ≡ Some r → r.master.phase ≡ phase.Idle → Groups (record k { sessions = changed s begun k.sessions })
groups-begun k s x r groups found has idle = let there = session-found k.sessions s x found in with-table k (changed s begun k.sessions) (fit-begun-in k s x r groups there.0 there.1 has idle)

pub groups-opened : (j k : Control) (v s n : ℕ) → Framed j k → ((u : ℕ) → (fields_at k u).recording ≡ true → RecordedOr j k v n u) → OpensAttempt j v s n → Groups j → Groups (record k { sessions = changed s begun k.sessions })
groups-opened j k v s n frame stays opens old =
    let p : IsMember j v s = opens.place in
    with-table k (changed s begun k.sessions)
    (subst (λ ss. Fit k (changed s begun ss)) (sym frame.sessions) (fit-holds j k (changed s begun j.sessions) v n (grows-framed j k frame) stays (fit-begun j v s n opens old)
    (record {
      session = begun p.session;
      listed = changed-becomes s begun j.sessions p.session old.once p.listed p.number;
      mirror = record p.mirror { master = phases.begun p.mirror.master };
      has_master = ap (option_map (λ (r : Mirror). record r { master = phases.begun r.master })) p.has_master;
      busy = λ e. cc;
      unfinished = λ e. absurd cc;
      member = p.member;
      here = p.here;
      is = p.is;
      last = opens.next;
      to = opens.to;
    })))
