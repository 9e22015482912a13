-- The plans of steps that carry out no host write and start no server acknowledge nothing, and none of them says that a write waits.
use Rattle.std.proofs.Common.{ℕ, ◌≡◌, refl, Bool, true, false, cond, List, Option, Some, None, Result, Ok}
use Rattle.dr_ids.specs.declared.refusal.Refusal.{Refusal}
use Rattle.dr_ids.specs.declared.refusal.Decision.{Decision}
use Rattle.dr_logic.proofs.Truth.{false_true}
use Rattle.dr_ids.specs.declared.refusal.Kind.TheVariants.{Server as OfServer, Volume as OfVolume, Lss as OfLss, Session as OfSession}
use Rattle.dr_model.specs.Refusals.{unknown}
use Rattle.dr_model.specs.declared.event.Event.{Event}
use Rattle.dr_model.specs.declared.said.Addition.TheVariants.{Alone}
use Rattle.dr_model.specs.declared.said.Said.{Said}
use Rattle.dr_model.specs.declared.step.Step.{Step}
use Rattle.dr_model.specs.declared.step.Step.TheVariants.{Start, Write, Apply, Run}
use Rattle.dr_model.specs.Control.{Control, World}
use Rattle.dr_model.specs.Carry.{Act}
use Rattle.dr_model.specs.Carried.{carried_out}
use Rattle.dr_model.specs.Sessions.{Session, Mirror, session_in}
use Rattle.dr_model.specs.SessionPlans.{mirror_phase, session_phase, is_idle, on_volume}
use Rattle.dr_model.specs.RecoveryPlans.{decided_in, says_group, group_of}
use Rattle.dr_model.specs.MessagePlans.{told_begun}
use Rattle.dr_model.specs.Listings.{lists}
use Rattle.dr_model.specs.Plans.{Plan, refuses, unless, on_named, on_owner, on_session, is_defined, only_says}
use Rattle.dr_facts.proofs.Reasons.{NoStop}
use Rattle.dr_facts.proofs.Entries.{any_world, from-none}
pub use Rattle.dr_laws_sound.proofs.Cases.{NotHeld, done-not, refused-not}
use Rattle.dr_laws_sound.proofs.Cases.{Case, Says, DefinesServer, DefinesVolume, Issues, Writes, Applies, Lists, Shows, Stops, Starts, Aborts, Exchanges, Sends, TakesReply, Recovers}
use Rattle.dr_laws_sound.proofs.Does.{Does, Acts, Late, IsWrite, Issued, Found, Lands, Overwrites, Mirrors, LandsBoth, Drops, Acknowledges}
use Rattle.dr_laws_sound.proofs.DoesPlans.{case-does}
use Rattle.dr_laws_sound.proofs.Unacknowledged.{NoAcknowledgement, no_acknowledgement-none, AcknowledgesNothing, NothingAcknowledged, plan-since}
use Rattle.dr_laws_sound.proofs.Listed.{AllLines, Plain, lines-plain}

mirror-not : (m : Option Mirror) → NotHeld (mirror_phase m)
mirror-not None = done-not _
mirror-not (Some r) = done-not _

pub phase-not : (o : Option Session) → NotHeld (session_phase o)
phase-not None = done-not _
phase-not (Some x) = mirror-not x.mirror

group-not : (d : Decision) (o : Option ℕ) → NotHeld (says_group d o)
group-not d None = refused-not _
group-not d (Some n) = done-not _

-- a refusal or a plan, whichever it comes to: for any law of plans that holds of refusals
module _ (P : Plan → Type 0) (refused : (r : Refusal) → P (refuses r)) where
  pub if-plan : (b : Bool) (p q : Plan) → P p → P q → P (cond b p q)
  if-plan true p q a c = a
  if-plan false p q a c = c

  pub unless-plan : (o : Option Refusal) (p : Plan) → P p → P (unless o p)
  unless-plan None p a = a
  unless-plan (Some r) p a = refused r

  pub named-plan : (o : Option ℕ) (p : ℕ → Plan) → ((s : ℕ) → P (p s)) → P (on_named o p)
  named-plan None p each = refused (unknown OfServer)
  named-plan (Some s) p each = each s

  pub owner-plan : (o : Option ℕ) (p : ℕ → Plan) → ((s : ℕ) → P (p s)) → P (on_owner o p)
  owner-plan None p each = refused (unknown OfLss)
  owner-plan (Some s) p each = each s

  pub session-plan : (o : Option Session) (p : Session → Plan) → ((x : Session) → P (p x)) → P (on_session o p)
  session-plan None p each = refused (unknown OfSession)
  session-plan (Some x) p each = each x

  pub volume-plan : (k : Control) (v : ℕ) (p : Plan) → P p → P (on_volume k v p)
  volume-plan k v p a = if-plan (is_defined v k) p (refuses (unknown OfVolume)) a (refused (unknown OfVolume))

-- a write is carried out, or a server starts
abbrev pub acknowledges : Result Step ℕ → Bool
acknowledges (Ok (Write v t offset len bytes)) = true
acknowledges (Ok (Apply n)) = true
acknowledges (Ok (Start name)) = true
acknowledges asked = false

write-acknowledges : (k : Control) (asked : Result Step ℕ) (n v t : ℕ) → IsWrite k asked n v t → acknowledges asked ≡ true
write-acknowledges k _ _ _ _ (Issued v t offset len bytes) = refl
write-acknowledges k _ _ _ _ (Found n p found) = refl

-- what other steps do
does-unacknowledged : (k : Control) (asked : Result Step ℕ) (j : Control) (a : Act) → acknowledges asked ≡ false → Does k asked j a → AcknowledgesNothing false a
does-unacknowledged k asked j _ other (Lands n v t is free) = false_true other (write-acknowledges k asked n v t is)
does-unacknowledged k asked j _ other (Overwrites n v t is free) = false_true other (write-acknowledges k asked n v t is)
does-unacknowledged k asked j _ other (Mirrors n v t is over) = false_true other (write-acknowledges k asked n v t is)
does-unacknowledged k asked j _ other (LandsBoth n v t is free) = false_true other (write-acknowledges k asked n v t is)
does-unacknowledged k asked j _ other (Drops n v t is) = false_true other (write-acknowledges k asked n v t is)
does-unacknowledged k asked j _ other (Acknowledges s n landed) = absurd cc
does-unacknowledged k asked j _ other d = refl

-- what they tell as they begin, and what they say
record BeginsUnacknowledged (p : Plan) : Type 0 where
  told : NoAcknowledgement false p.told
  says : (k : Control) → NotHeld (p.says k)

-- an answer of a step that can't acknowledge anything
pub record PlanAcknowledgesNothing (w : World) (p : Plan) : Type 0 where
  pub since : NothingAcknowledged false w (carried_out w p).0
  pub says : (k : Control) → NotHeld (p.says k)

case-says : (k : Control) (events : List Event) (line : ℕ) (asked : Result Step ℕ) (p : Plan) → Case k events line asked p → acknowledges asked ≡ false → BeginsUnacknowledged p
case-says k events line _ _ (Says a waits why) other = record { told = no_acknowledgement-none false; says = λ j. waits }
case-says k events line _ _ (DefinesServer name free) other = record { told = record { none = refl; plain = refl; uncut = λ h. absurd cc }; says = λ j. done-not _ }
case-says k events line _ _ (DefinesVolume v s tracks here free) other = record { told = record { none = refl; plain = refl; uncut = λ h. absurd cc }; says = λ j. done-not _ }
case-says k events line _ _ (Issues v t offset len bytes free) other = record { told = record { none = refl; plain = refl; uncut = λ h. absurd cc }; says = λ j. done-not _ }
case-says k events line _ _ (Writes v t offset len bytes free) other = absurd cc
case-says k events line _ _ (Applies n p found) other = absurd cc
case-says k events line _ _ (Starts s off) other = absurd cc
case-says k events line _ _ (Lists told ls few) other = let p : Plain told = lines-plain told ls in record { told = record { none = p.none; plain = p.plain; uncut = λ h. absurd cc }; says = λ j. done-not Alone }
case-says k events line _ _ (Shows v t there) other = record { told = record { none = refl; plain = refl; uncut = λ h. absurd cc }; says = λ j. done-not _ }
case-says k events line _ _ (Stops s on) other = record { told = record { none = refl; plain = refl; uncut = λ h. absurd cc }; says = λ j. done-not _ }
case-says k events line _ _ (Aborts s x found free) other = record { told = no_acknowledgement-none false; says = λ j. phase-not (session_in j.sessions s) }
case-says k events line _ _ (Exchanges s server reply x r o allowed) other = record { told = no_acknowledgement-none false; says = λ j. phase-not (session_in j.sessions s) }
case-says k events line _ _ (Sends s server x r o posts) other = record { told = by (is_idle r.master.phase); says = λ j. done-not _ }
  where
    by : (b : Bool) → NoAcknowledgement false (told_begun b s o.number)
    by true = record { none = refl; plain = refl; uncut = λ h. absurd cc }
    by false = no_acknowledgement-none false
case-says k events line _ _ (TakesReply n m reply x r returns) other = record { told = no_acknowledgement-none false; says = λ j. phase-not (session_in j.sessions m.session) }
case-says k events line _ _ (Recovers s x found on) other = record { told = no_acknowledgement-none false; says = λ j. group-not (decided_in s k) (group_of (decided_in s j)) }
case-says k events line _ _ c other = record { told = no_acknowledgement-none false; says = λ j. done-not _ }

pub case-unacknowledged : (w : World) (line : ℕ) (asked : Result Step ℕ) (p : Plan) → Case w.control w.events line asked p → acknowledges asked ≡ false → PlanAcknowledgesNothing w p
case-unacknowledged w line asked p c other =
    let says : BeginsUnacknowledged p = case-says w.control w.events line asked p c other in
    let d = case-does w line asked p c in
    record { since = plan-since false NoStop (Late asked) (Acts w.control asked) (λ u a d. does-unacknowledged w.control asked u.control a other d) w p says.told d.entries d.follows; says = says.says }

-- an answer, and lines of listings and images
pub says-unacknowledged : (w : World) (a : Said) → NotHeld a → PlanAcknowledgesNothing w (only_says a)
says-unacknowledged w a waits = case-unacknowledged w 0 (Ok (Run 0 0)) (only_says a) (Says a waits (λ one. absurd cc)) refl

pub lines-unacknowledged : (w : World) (told : List Event) → AllLines told → PlanAcknowledgesNothing w (lists told)
lines-unacknowledged w told ls =
    let p : Plain told = lines-plain told ls in
    record {
      since = plan-since false NoStop NoStop (λ u a. AcknowledgesNothing false a) (λ u a nothing. nothing) w (lists told) (record { none = p.none; plain = p.plain; uncut = λ h. absurd cc }) (from-none any_world (λ u a. AcknowledgesNothing false a) NoStop NoStop _) (λ s. tt);
      says = λ k. done-not Alone;
    }
