-- Where the laws of sessions stay: over other volumes, and for other sessions.
use Rattle.std.proofs.Common.{ℕ, ◌≡◌, ◌≢◌, ◌⊎◌, inl, inr, refl, sym, ◌∙◌, subst, true, false, List, Some}
use Rattle.std.proofs.lemmas.Bool.{cases_Bool}
use Rattle.dr_ids.specs.declared.names.Member.{Member}
use Rattle.dr_ids.specs.declared.refusal.PhaseName.TheVariants as phase
use Rattle.dr_model.specs.Tables.{Once}
use Rattle.dr_model.specs.Control.{Control}
use Rattle.dr_model.specs.Messages.{Flight}
use Rattle.dr_model.specs.Entries.{fields_at}
use Rattle.dr_model.specs.Sessions.{Session, Mirror}
use Rattle.dr_model.specs.Groups.{In, MemberStands, MasterStands, SessionFits, Lone, IsRecorder, Groups}
use Rattle.dr_laws_sessions.specs.Frames.{Grows, Quieter, Quiet}
use Rattle.dr_laws_sessions.proofs.Changes.{numbers}
use Rattle.dr_logic.proofs.Truth.{false_true}

-- ---- over other volumes

pub stands-grows : (k j : Control) (m : Member) → Grows k j → MemberStands k m → MemberStands j m
stands-grows k j m grows stands = record {
  a = grows.defined m.a.0 stands.a;
  b = grows.defined m.b.0 stands.b;
  c = grows.defined m.c.0 stands.c;
  server = stands.server ∙ sym (grows.server m.a.0 stands.a);
  apart = λ e. stands.apart (sym (grows.server m.b.0 stands.b) ∙ (e ∙ grows.server m.a.0 stands.a));
  target_server = grows.server m.c.0 stands.c ∙ (stands.target_server ∙ sym (grows.server m.b.0 stands.b));
  tracks = grows.tracks m.b.0 stands.b ∙ (stands.tracks ∙ sym (grows.tracks m.a.0 stands.a));
  target_tracks = grows.tracks m.c.0 stands.c ∙ (stands.target_tracks ∙ sym (grows.tracks m.b.0 stands.b));
}

pub master-grows : (k j : Control) (r : Mirror) → Grows k j → MasterStands k r → MasterStands j r
master-grows k j r grows stands = record { volume = stands.volume; defined = grows.defined stands.volume stands.defined; server = grows.server stands.volume stands.defined ∙ stands.server; in_phase = stands.in_phase }

pub silent-quieter : (k j : Control) (v : ℕ) → Quieter k j → (fields_at k v).recording ≡ false → (fields_at j v).recording ≡ false
silent-quieter k j v quieter silent = by (cases_Bool (fields_at j v).recording)
  where
    by : ((fields_at j v).recording ≡ true) ⊎ ((fields_at j v).recording ≡ false) → (fields_at j v).recording ≡ false
    by (inl records) = false_true silent (quieter.recorded v records)
    by (inr e) = e

pub fits-grows : (k j : Control) (x : Session) → Grows k j → Quieter k j → SessionFits k x → SessionFits j x
fits-grows k j x grows quieter fits = record {
  sound = fits.sound;
  once = fits.once;
  stands = λ m here. stands-grows k j m grows (fits.stands m here);
  runs = λ r has. master-grows k j r grows (fits.runs r has);
  finished = λ r has ends m here out. silent-quieter k j m.a.0 quieter (fits.finished r has ends m here out);
  few = fits.few;
  owes = fits.owes;
}

-- the laws of a list of sessions, over the volumes of k
pub record Fit (k : Control) (ss : List Session) : Type 0 where
  pub once : Once (numbers ss)
  pub each : (x : Session) → In x ss → SessionFits k x
  pub lone : Lone ss
  pub recorders : (v : ℕ) → (fields_at k v).recording ≡ true → IsRecorder ss v (fields_at k v).attempt (fields_at k v).primary_partner

pub fit-of : (k : Control) → Groups k → Fit k k.sessions
fit-of k groups = record { once = groups.once; each = groups.each; lone = groups.lone; recorders = groups.recorders }

pub groups-fit : (k : Control) → Fit k k.sessions → Groups k
groups-fit k fit = record { once = fit.once; each = fit.each; lone = fit.lone; recorders = fit.recorders }

-- of the same attempt, with the same partner
pub recorder-is : (ss : List Session) (v : ℕ) {n m u w : ℕ} → n ≡ m → u ≡ w → IsRecorder ss v m w → IsRecorder ss v n u
recorder-is ss v attempt partner r = record { session = r.session; listed = r.listed; mirror = r.mirror; has_master = r.has_master; busy = r.busy; member = r.member; here = r.here; is = r.is; last = attempt ∙ r.last; to = partner ∙ r.to }

pub groups-of : (k j : Control) → Grows k j → Quieter k j → Fit k j.sessions → Groups j
groups-of k j grows quieter fit = record {
  once = fit.once;
  each = λ x listed. fits-grows k j x grows quieter (fit.each x listed);
  lone = fit.lone;
  recorders = λ v h. recorder-is j.sessions v (quieter.attempt v h) (quieter.partner v h) (fit.recorders v (quieter.recorded v h));
}

-- the laws say nothing of messages
pub groups-flight : (k : Control) (f : Flight) → Groups k → Groups (record k { flight = f })
groups-flight k f groups = groups-of k (record k { flight = f }) (record { defined = λ v d. d; server = λ v d. refl; tracks = λ v d. refl }) (record { recorded = λ v h. h; attempt = λ v h. refl; partner = λ v h. refl }) (fit-of k groups)

-- ---- for other sessions

-- what goes on for a member that records
pub record Keeps (y : Session) (m : Member) (n : ℕ) : Type 0 where
  pub mirror : Mirror
  pub has_master : y.mirror ≡ Some mirror
  pub busy : mirror.master.phase ≢ phase.Idle
  pub here : In m y.members
  pub last : n ≡ y.last

-- a session becomes another one, and its laws stay
pub record Turns (k : Control) (x y : Session) : Type 0 where
  pub number : y.number ≡ x.number
  pub fits : SessionFits k y
  pub within : (m : Member) → In m y.members → In m x.members
  pub keeps : (m : Member) (r : Mirror) → In m x.members → x.mirror ≡ Some r → r.master.phase ≢ phase.Idle → (fields_at k m.a.0).recording ≡ true → Keeps y m x.last

pub turn-same : (k : Control) (x : Session) → SessionFits k x → Turns k x x
turn-same k x fits = record {
  number = refl;
  fits = fits;
  within = λ m here. here;
  keeps = λ m r here has busy records. record { mirror = r; has_master = has; busy = busy; here = here; last = refl };
}

-- where it was quiet, nobody in it records
pub turn-quiet : (k : Control) (x y : Session) → Quiet x → y.number ≡ x.number → SessionFits k y → ((m : Member) → In m y.members → In m x.members) → Turns k x y
turn-quiet k x y quiet number fits within = record {
  number = number;
  fits = fits;
  within = within;
  keeps = λ m r here has busy records. absurd (busy (quiet r has));
}

-- a member comes from a session of that number
pub record Origin (ss : List Session) (y : Session) (m : Member) : Type 0 where
  pub from : Session
  pub listed : In from ss
  pub number : y.number ≡ from.number
  pub here : In m from.members

pub lone-origin : (ss qs : List Session) → Lone ss → ((y : Session) (m : Member) → In y qs → In m y.members → Origin ss y m) → Lone qs
lone-origin ss qs lone origin = record {
  differ = λ y m i here. let o = origin y m i here in lone.differ o.from m o.listed o.here;
  one = λ v y z m q i j here there at_m at_q.
      let o = origin y m i here in
      let p = origin z q j there in
      let r = lone.one v o.from p.from m q o.listed p.listed o.here p.here at_m at_q in
      (o.number ∙ (r.0 ∙ sym p.number), r.1);
}

-- a session of the new list comes from one of the old, and one of the old goes on in the new
pub record Stem (k : Control) (ss : List Session) (y : Session) : Type 0 where
  pub from : Session
  pub listed : In from ss
  pub turns : Turns k from y

pub record Goes (k : Control) (qs : List Session) (x : Session) : Type 0 where
  pub to : Session
  pub listed : In to qs
  pub turns : Turns k x to

pub recorder-goes : (k : Control) (qs : List Session) (v n u : ℕ) (x : Session) (m : Member) (r : Mirror) → Goes k qs x → In m x.members → m.a.0 ≡ v → x.mirror ≡ Some r → r.master.phase ≢ phase.Idle → (fields_at k v).recording ≡ true → n ≡ x.last → u ≡ m.b.0 → IsRecorder qs v n u
recorder-goes k qs v n u x m r goes here is has busy records last to =
    let t = goes.turns.keeps m r here has busy (subst (λ u. (fields_at k u).recording ≡ true) (sym is) records) in
    record { session = goes.to; listed = goes.listed; mirror = t.mirror; has_master = t.has_master; busy = t.busy; member = m; here = t.here; is = is; last = last ∙ t.last; to = to }

pub fit-turns : (k : Control) (ss qs : List Session) → Fit k ss → Once (numbers qs) → ((y : Session) → In y qs → Stem k ss y) → ((x : Session) → In x ss → Goes k qs x) → Fit k qs
fit-turns k ss qs fit once stem goes = record {
  once = once;
  each = λ y i. (stem y i).turns.fits;
  lone = lone-origin ss qs fit.lone (λ y m i here. let s = stem y i in record { from = s.from; listed = s.listed; number = s.turns.number; here = s.turns.within m here });
  recorders = λ v h. let r = fit.recorders v h in recorder-goes k qs v (fields_at k v).attempt (fields_at k v).primary_partner r.session r.member r.mirror (goes r.session r.listed) r.here r.is r.has_master r.busy h r.last r.to;
}
