-- What a recovery of a session loses, where the targets of members that count are used.
use Rattle.std.specs.List.{list_any}
use Rattle.std.specs.Prelude.{◌≡◌, ◌↔◌, ℕ, true, false, List, [], ◌∷◌, ◌++◌, map, Ok}
use Rattle.dr_ids.specs.declared.names.Member.{Member}
use Rattle.dr_ids.specs.declared.refusal.Decision.{Decision}
use Rattle.dr_model.specs.declared.event.Event.{Event}
use Rattle.dr_model.specs.declared.event.Event.TheVariants.{Ack}
use Rattle.dr_model.specs.declared.said.Addition.TheVariants.{InGroup as AnsweredGroup}
use Rattle.dr_model.specs.declared.said.Said.TheVariants.{Done}
use Rattle.dr_model.specs.declared.step.Step.TheVariants.{Recover}
use Rattle.dr_model.specs.Control.{World, nothing}
use Rattle.dr_model.specs.Cuts.{CutAt}
use Rattle.dr_model.specs.ClosedCuts.{LastCut}
use Rattle.dr_model.specs.Groups.{In}
use Rattle.dr_model.specs.Histories.{lists}
use Rattle.dr_model.specs.Dependence.{DependsOn}
use Rattle.dr_model.specs.TakenWrites.{takes_from}
use Rattle.dr_model.specs.Runs.{Task, run}
use Rattle.dr_model.specs.SessionEntries.{counts_at}
use Rattle.dr_model.specs.Sessions.{session_in, members_in}
use Rattle.dr_laws_sound.specs.Acknowledged.{said_in}
use Rattle.dr_ids.specs.Sizes.{most_tracks}
use Rattle.dr_lost.specs.declared.lost.Pair.{Pair}
use Rattle.dr_lost.specs.Lost.{IsLost, IsHeld}
use Rattle.dr_laws_losses.specs.Pairs.{PairsHoldSame, asks_write}

-- the members of session s
abbrev pub members_of : World → ℕ → List Member
members_of w s = members_in (session_in w.control.sessions s)

-- the target of a member is used in the place of its primary
abbrev pub target_pair : Member → Pair
target_pair m = record { second = m.a.0; first = m.c.0 }

-- some pairs are the targets of all of some members, each for its member's primary, and no others
abbrev pub AreTargets : List Member → List Pair → Type 0
AreTargets ms pairs = (p : Pair) → In p pairs ↔ In p (map target_pair ms)

-- the world in which the recovery of a session is answered
abbrev pub recovered_world : List Task → List Task → Task → World
recovered_world before first t = run (before ++ first ++ t ∷ [])

-- Of a run, `before` is what comes before its recovery, and that has a recovery of session s, `t`, after its first steps. It was answered with
-- group n. Some members of the session count then, all or a part of them, and the pairs are their targets. What comes after it changes no list
-- of these targets. Each pair that was made without a copy was made of volumes that held the same writes.
pub record RecoversAt (before first : List Task) (t : Task) (rest : List Task) (s n : ℕ) (ms : List Member) (pairs : List Pair) : Type 0 where
  pub asked : t.asked ≡ Ok (Recover s)
  pub decision : Decision
  pub answered : said_in (run (before ++ first)) t ≡ Done (AnsweredGroup n decision)
  pub members : (m : Member) → In m ms → In m (members_of (recovered_world before first t) s)
  pub counted : (m : Member) → In m ms → counts_at s (recovered_world before first t).control m ≡ true
  pub targets : AreTargets ms pairs
  pub stays : (m : Member) → In m ms → (q : ℕ) → lists (run (before ++ first ++ t ∷ rest)).events m.c.0 q ≡ lists (recovered_world before first t).events m.c.0 q
  pub alike : PairsHoldSame nothing (before ++ first ++ t ∷ [])

-- so one of the steps of the recovery is such
pub record RecoversTargets (before recovery : List Task) (s n : ℕ) (ms : List Member) (pairs : List Pair) : Type 0 where
  pub first : List Task
  pub step : Task
  pub rest : List Task
  pub cut : recovery ≡ first ++ step ∷ rest
  pub so : RecoversAt before first step rest s n ms pairs

-- The primary of a member held write w as the recovery began, and the cut that it has for group n hasn't it.
pub record IsUncut (ms : List Member) (begun events : List Event) (s n w : ℕ) : Type 0 where
  pub member : Member
  pub here : In member ms
  pub track : ℕ
  pub held : In w (lists begun member.a.0 track)
  pub cut : CutAt events s n member.a.0
  pub without : In w (lists cut.before member.a.0 track) → ⊥

-- Write w was acknowledged before the last cut of the group, and yet a primary's track that held it as the recovery began didn't hold it there: it
-- was taken away and given back, or it was one of another volume, and came from that.
pub record WasGivenBack (ms : List Member) (begun events : List Event) (s n w : ℕ) : Type 0 where
  pub member : Member
  pub here : In member ms
  pub track : ℕ
  pub held : In w (lists begun member.a.0 track)
  pub last : LastCut events s n
  pub acknowledged : In (Ack w) last.place.before
  pub lacked : In w (lists last.place.before member.a.0 track) → ⊥

-- the volumes that are used after the recovery
abbrev pub firsts : List Pair → List ℕ
firsts pairs = map (λ (p : Pair). p.first) pairs

-- those in whose place they are used
abbrev pub seconds : List Pair → List ℕ
seconds pairs = map (λ (p : Pair). p.second) pairs

-- No step after the first host write may take writes away from a primary of these members: it isn't restored, no copy is taken onto it, and nothing is sent to it.
pub record PrimariesKeep (tasks : List Task) (ms : List Member) : Type 0 where
  pub early : List Task
  pub late : List Task
  pub cut : tasks ≡ early ++ late
  pub unwritten : list_any (λ (t : Task). asks_write t.asked) early ≡ false
  pub keep : (before after : List Task) (t : Task) (m : Member) → late ≡ before ++ t ∷ after → In m ms → takes_from (run (early ++ before)).control t.asked m.a.0 ≡ false

-- What such a recovery loses. The lost writes are exactly those that a primary held as the recovery began and that its cut hasn't. A write that is
-- kept depends on no lost one, but on one that was given back; and on none at all, if primaries keep their writes.
pub record LossIsKnown (before recovery : List Task) (s n : ℕ) (ms : List Member) (pairs : List Pair) (r : RecoversTargets before recovery s n ms pairs) : Type 0 where
  pub lost : (w : ℕ) → IsLost most_tracks (lists (run before).events) (lists (run (before ++ recovery)).events) pairs w
      ↔ IsUncut ms (run before).events (recovered_world before r.first r.step).events s n w
  pub kept : (w u : ℕ) → IsHeld most_tracks (lists (run (before ++ recovery)).events) (firsts pairs) w → IsHeld most_tracks (lists (run before).events) (seconds pairs) w
      → IsLost most_tracks (lists (run before).events) (lists (run (before ++ recovery)).events) pairs u → DependsOn (run (before ++ recovery)).events w u
      → WasGivenBack ms (run before).events (recovered_world before r.first r.step).events s n u
  pub whole : PrimariesKeep (before ++ r.first ++ r.step ∷ []) ms
      → (w u : ℕ) → IsHeld most_tracks (lists (run (before ++ recovery)).events) (firsts pairs) w → IsHeld most_tracks (lists (run before).events) (seconds pairs) w
      → IsLost most_tracks (lists (run before).events) (lists (run (before ++ recovery)).events) pairs u → DependsOn (run (before ++ recovery)).events w u → ⊥
