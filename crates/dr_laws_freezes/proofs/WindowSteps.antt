-- Each step's plan does what freeze windows ask, and so the law of freeze windows holds of every run.
use Rattle.std.proofs.Common.{ℕ, ◌≡◌, refl, Bool, true, false, List, [], None, Result, Ok, Err}
use Rattle.dr_model.specs.declared.step.Step.{Step}
use Rattle.dr_model.specs.declared.step.Step.TheVariants.{Write, Apply, Drain, Start, Copy, MakePair, Failback}
use Rattle.dr_model.specs.Control.{Control, World, nothing}
use Rattle.dr_model.specs.Carry.{Act}
use Rattle.dr_model.specs.Plans.{Plan}
use Rattle.dr_model.specs.Runs.{Task, begun, image_told}
use Rattle.dr_laws_freezes.specs.Moments.{moments_from}
use Rattle.dr_laws_freezes.specs.Windows.{FreezeCut}
use Rattle.dr_facts.proofs.Reasons.{NoStop}
use Rattle.dr_facts.proofs.Tables.{at_cases}
use Rattle.dr_laws_sound.proofs.Cases.{Case, Writes, Applies, Stops, Starts, MakesFlash, RemovesFlash, ResyncsFlash, ReversesFlash, Copies, Destages as DestagesCase, MakesPair, RemovesPair, PausesPair, ResumesPair, FailsOver, FailsBack, Compares, Drains, Expires, Freezes, Unfreezes, AddsMember, RemovesMember, Exchanges, Delivers, Recovers, Settles, Commits, Reverts, Releases}
use Rattle.dr_laws_sound.proofs.Does.{IsWrite, Issued, Found, IsSend, Drained, Collided, Does, Acts, Late, MakesPrimary, Resumes, FallsBack, Yields, GivesBack, Destages, Stores, Strikes, Lands, Unsyncs, Mirrors, LandsBoth, Drops, Redoes, Acknowledges, EndsFreeze, EndsThaw, EndsRecovery, OrdersAttempt, Fed, SendsOn, StrikesOn}
use Rattle.dr_laws_sound.proofs.DoesPlans.{Entered, case-does}
use Rattle.dr_laws_sound.proofs.Steps.{sound-nothing, case-holds, ending-holds}
use Rattle.dr_laws_sound.proofs.FitsMembers.{orders-added, orders-expelled}
use Rattle.dr_laws_sound.proofs.FitsExchanges.{orders-ordered}
use Rattle.dr_laws_sound.proofs.FitsMessages.{orders-delivered}
use Rattle.dr_laws_sound.proofs.FitsRecovery.{along-recover, along-settle}
use Rattle.dr_laws_sound.proofs.FitsSessions.{Orders}
use Rattle.dr_laws_sound.proofs.FitsDestage.{along-destage}
use Rattle.dr_laws_sound.proofs.FitsFlash.{as_begun, sound-begun, along-flash, along-withdraw, along-resync, along-reverse}
use Rattle.dr_laws_sound.proofs.FitsPairs.{along-remove, along-pause, along-resume}
use Rattle.dr_laws_sound.proofs.FitsFailover.{along-failover, along-compare}
use Rattle.dr_laws_sound.proofs.FitsHolds.{freezes, thaws, lifts, releases}
use Rattle.dr_laws_sound.proofs.Listed.{image-lines}
use Rattle.dr_laws_sound.proofs.Parts.{Ending, OnePlan, Imaged}
use Rattle.dr_laws_freezes.proofs.Begun.{lines-beside, leaves}
use Rattle.dr_laws_freezes.proofs.Windows.{Chain, freeze-cut}
use Rattle.dr_laws_freezes.proofs.Chains.{run-chain, retabled-none}
use Rattle.dr_laws_freezes.proofs.WindowActs.{Between, KeepsPairs}
use Rattle.dr_laws_freezes.proofs.WindowBegins.{Begins, beside-begins, case-begins}
use Rattle.dr_laws_freezes.proofs.WindowPlans.{good-between, answers-between, loses-between, PlanHolds, EntriesHold, window-by, window-tables, window-plan, alone, window-each}
use Rattle.dr_laws_freezes.proofs.WindowPairs.{window-pair}
use Rattle.dr_laws_freezes.proofs.WindowCopy.{window-copy}
use Rattle.dr_laws_freezes.proofs.WindowDrain.{window-drain}
use Rattle.dr_laws_freezes.proofs.WindowFailback.{window-failback}
use Rattle.dr_laws_freezes.proofs.WindowStart.{window-start}
use Rattle.dr_laws_freezes.proofs.WindowWrites.{window-writes, window-applies}

-- before the first step
pub between-nothing : Between nothing
between-nothing = record {
  sound = sound-nothing;
  in_sync = record {
    clean = λ v there runs h t. absurd cc;
    free = λ v. record { coordination = λ h. refl; recording = λ h. refl; changes = λ h t. absurd cc };
    fresh = record { unacked = tt; later = λ n lt. refl };
  };
}

-- steps that land a host write, send or restore tracks, or make a primary or a secondary of one, or start one again
abbrev lands_tracks : Result Step ℕ → Bool
lands_tracks (Ok (Write v t offset len bytes)) = true
lands_tracks (Ok (Apply n)) = true
lands_tracks (Ok (Drain a most)) = true
lands_tracks (Ok (Start name)) = true
lands_tracks (Ok (Copy t most)) = true
lands_tracks (Ok (MakePair devs a b n choices)) = true
lands_tracks (Ok (Failback devs x y n)) = true
lands_tracks asked = false

module _ (k : Control) where
  no-write : {asked : Result Step ℕ} → {n v t : ℕ} → IsWrite k asked n v t → lands_tracks asked ≡ false → ⊥
  no-write (Issued v t offset len bytes) none = cc
  no-write (Found n p is) none = cc

  no-send : {asked : Result Step ℕ} → {a b : ℕ} → IsSend k asked a b → lands_tracks asked ≡ false → ⊥
  no-send (Drained a most part) none = cc
  no-send (Collided n v t is met) none = no-write is none
  no-send (Fed a most is) none = cc

  -- the others keep what holds of pairs
  keeps-pairs : {asked : Result Step ℕ} → lands_tracks asked ≡ false → (w : World) (a : Act) → Does k asked w.control a → KeepsPairs w a
  keeps-pairs none w _ (Stores a b is t last) = absurd (no-send is none)
  keeps-pairs none w _ (Strikes a b is t last) = absurd (no-send is none)
  keeps-pairs none w _ (Lands n v t is free) = absurd (no-write is none)
  keeps-pairs none w _ (Unsyncs n v t is over) = absurd (no-write is none)
  keeps-pairs none w _ (SendsOn n v t is fed collides last) = absurd (no-write is none)
  keeps-pairs none w _ (StrikesOn n v t is fed last) = absurd (no-write is none)
  keeps-pairs none w _ (Mirrors n v t is over) = absurd (no-write is none)
  keeps-pairs none w _ (LandsBoth n v t is free) = absurd (no-write is none)
  keeps-pairs none w _ (Drops n v t is) = absurd (no-write is none)
  keeps-pairs none w _ (MakesPrimary a b kind state full cascade free) = absurd cc
  keeps-pairs none w _ (GivesBack q t back) = absurd cc
  keeps-pairs none w _ (Redoes v) = tt
  keeps-pairs none w _ (Acknowledges s n is) = absurd cc
  keeps-pairs none w _ (Resumes a) = (tt, refl, refl)
  keeps-pairs none w _ (FallsBack x y kind leads) = absurd cc
  keeps-pairs none w _ (Yields x y kind state back) = absurd cc
  keeps-pairs none w _ (Destages v) = tt
  keeps-pairs none w _ (EndsFreeze l m) = tt
  keeps-pairs none w _ (EndsThaw l m) = tt
  keeps-pairs none w _ (EndsRecovery s n) = tt
  keeps-pairs none w _ (OrdersAttempt s m is n) = tt
  keeps-pairs none w _ d = (tt, tt, refl)

module _ (w : World) (k : Between w) (line : ℕ) where
  -- no server goes on in such a step
  none-on : (asked : Result Step ℕ) (p : Plan) → Case w.control w.events line asked p → lands_tracks asked ≡ false → (j : ℕ) → (begun w p).control.on j ≡ true → w.control.on j ≡ true
  none-on _ _ (Starts s off) none = absurd cc
  none-on _ _ (Stops s on) none = λ j. at_cases (λ j b. b ≡ true → w.control.on j ≡ true) w.control.on s false (λ h. absurd cc) (λ j ne h. h) j
  none-on _ _ c none = λ j h. h

  window-acts : (asked : Result Step ℕ) (p : Plan) → Case w.control w.events line asked p → lands_tracks asked ≡ false → Orders w p → PlanHolds w p
  window-acts asked p c none orders =
      let does : Entered w asked p = case-does w line asked p c in
      let keeps = λ (v : World) (a : Act) (d : Acts w.control asked v a). keeps-pairs w.control none v a d in
      window-plan w k p (case-begins w k.in_sync line asked p c) (leaves w.control w.events line asked p c) (none-on asked p c none) orders
      (λ s v b. window-each (Acts w.control asked) (Late asked) keeps (p.follows s) (does.follows s) (orders.follows s) v b)
      (Acts w.control asked) NoStop (Late asked) (λ r why. why.why) keeps does.entries

  pub window-case : (asked : Result Step ℕ) (p : Plan) → Case w.control w.events line asked p → PlanHolds w p
  window-case asked p c =
      let begins : Begins w (begun w p) p.told = case-begins w k.in_sync line asked p c in
      let last = leaves w.control w.events line asked p c in
      by asked p c (window-by w k p begins last) (window-acts asked p c) (window-tables w k p begins last (case-holds w k.sound line asked p c))
    where
      by : (asked : Result Step ℕ) (p : Plan) → Case w.control w.events line asked p → (EntriesHold w p → PlanHolds w p) → (lands_tracks asked ≡ false → Orders w p → PlanHolds w p) → (((j : ℕ) → (begun w p).control.on j ≡ true → w.control.on j ≡ true) → p.entries ≡ [] → ((j : Control) → p.last j ≡ j) → PlanHolds w p) → PlanHolds w p
      by _ _ (Writes v t offset len bytes free) made acts tables = made (window-writes w k v t offset len bytes free)
      by _ _ (Applies n p found) made acts tables = made (window-applies w k n p found)
      by _ _ (Starts s off) made acts tables = made (window-start s w k)
      by _ _ (Copies t most) made acts tables = made (window-copy w k t most)
      by _ _ (MakesPair devs a b kind choices part) made acts tables = made (window-pair w k devs a b kind choices part)
      by _ _ (Drains a most) made acts tables = made (window-drain w k a most)
      by _ _ (MakesFlash dev v t freeze choices) made acts tables = acts refl (alone w k.sound _ _ (along-flash w k.sound dev v t freeze choices))
      by _ _ (RemovesFlash dev v t) made acts tables = acts refl (alone w k.sound _ _ (along-withdraw w k.sound dev v t))
      by _ _ (ResyncsFlash dev v t sequence) made acts tables = acts refl (alone w k.sound _ _ (along-resync w k.sound dev v t sequence))
      by _ _ (ReversesFlash dev v t) made acts tables = acts refl (alone w k.sound _ _ (along-reverse w k.sound dev v t))
      by _ _ (DestagesCase v) made acts tables = acts refl (alone w k.sound _ _ (along-destage w k.sound v))
      by _ _ (RemovesPair devs a b source_only) made acts tables = acts refl (alone w k.sound _ _ (along-remove w k.sound devs a b source_only))
      by _ _ (PausesPair devs a b) made acts tables = acts refl (alone w k.sound _ _ (along-pause w k.sound devs a b))
      by _ _ (ResumesPair devs a b kind) made acts tables = acts refl (alone w k.sound _ _ (along-resume w k.sound devs a b kind))
      by _ _ (FailsOver devs b a kind) made acts tables = acts refl (alone w k.sound _ _ (along-failover w k.sound devs b a kind))
      by _ _ (FailsBack devs x y kind) made acts tables = made (window-failback w k devs x y kind)
      by _ _ (Compares contents v u) made acts tables = window-acts (Err 0) _ (Compares contents v u) refl (alone w k.sound _ _ (along-compare w k.sound contents v u))
      by _ _ (Expires x on) made acts tables = acts refl (alone w k.sound _ _ (lifts x w.control.volumes (as_begun w) (sound-begun w k.sound) on.1))
      by _ _ (Freezes l m) made acts tables = acts refl (alone w k.sound _ _ (freezes l m w.control.volumes (as_begun w) (sound-begun w k.sound)))
      by _ _ (Unfreezes l m) made acts tables = acts refl (alone w k.sound _ _ (thaws l m w.control.volumes (as_begun w) (sound-begun w k.sound)))
      by _ _ (Releases l) made acts tables = acts refl (alone w k.sound _ _ (releases l w.control.volumes (as_begun w) (sound-begun w k.sound)))
      by _ _ (AddsMember i a c x joins) made acts tables = acts refl (orders-added w k.sound i a c x joins)
      by _ _ (RemovesMember i a x m found is idle on) made acts tables = acts refl (orders-expelled w k.sound i a x m found is idle on)
      by _ _ (Exchanges i server reply x r o allowed) made acts tables = acts refl (orders-ordered w k.sound i server x r o allowed reply)
      by _ _ (Delivers n m starts x r reaches) made acts tables = acts refl (orders-delivered w k.sound n m starts x r reaches)
      by _ _ (Recovers i x found on) made acts tables = acts refl (alone w k.sound _ _ (along-recover w k.sound i x found on))
      by _ _ (Settles i x m found here on free (Commits devs source sequence lets)) made acts tables = acts refl (alone w k.sound _ _ (along-settle w k.sound i x found on free m here))
      by _ _ (Settles i x m found here on free (Reverts devs source sequence t target own)) made acts tables = acts refl (alone w k.sound _ _ (along-settle w k.sound i x found on free m here))
      by _ _ (Stops s on) made acts tables = tables (λ j. at_cases (λ j b. b ≡ true → w.control.on j ≡ true) w.control.on s false (λ h. absurd cc) (λ j ne h. h) j) refl (λ j. refl)
      by _ _ c made acts tables = tables (λ j h. h) refl (λ j. refl)

  pub window-ending : (p : Plan) → Ending w.control w.events line p → PlanHolds w p
  window-ending _ (OnePlan asked p c) = window-case asked p c
  window-ending _ (Imaged vs) = window-tables w k _ (beside-begins w k.in_sync w.control (image_told vs) (lines-beside w (image_told vs) (image-lines vs))) retabled-none (ending-holds w k.sound line _ (Imaged vs)) (λ j h. h) refl (λ j. refl)

-- the moments of a run
pub chain-of : (tasks : List Task) → Chain None nothing (moments_from nothing tasks)
chain-of tasks = run-chain Between good-between answers-between loses-between (λ w line p case k. window-ending w k line p case) tasks nothing between-nothing

pub cut-run : (tasks : List Task) → FreezeCut tasks
cut-run tasks = freeze-cut tasks None (chain-of tasks)
