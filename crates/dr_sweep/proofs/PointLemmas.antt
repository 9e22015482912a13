-- The calls that run a point's script come to what their callers ask.
use Rattle.std.proofs.Common.{ℕ, ◌≡◌, ◌+◌, ◌⊎◌, inl, inr, true, false, List, [], ◌++◌, length, refl, ap, ◌∙◌, sym, subst, arith, append_assoc, Some}
use Rattle.std.specs.Str.Lines.{lines}
use Rattle.std.proofs.lemmas.Grind.{common_steps}
use Rattle.std.proofs.lemmas.List.{append-nil}
use Rattle.dr_plant.specs.State.{PlantState, IsFresh}
use Rattle.dr_model.specs.declared.step.Name.{Name}
use Rattle.dr_model.specs.Runs.{Task}
use Rattle.dr_plan.specs.Parts.{IsSweep}
use Rattle.dr_plan.specs.Pieces.{Pieces, pieces_of, AreTexts, IsTextOf}
use Rattle.dr_plan.specs.Sweep.{Sweep}
use Rattle.dr_plan.specs.declared.points.Point.{Point}
use Rattle.dr_rows.specs.declared.row.Members.{Members}
use Rattle.dr_rows.specs.declared.row.SessionPhase.{SessionPhase}
use Rattle.dr_sweep.specs.Comes.{RunState, seen, Ran, CarriesOn, Carries, Fails, HaltsBy, Recovers, Approaches, Settles, FailsAfter, PointTold, ComesTo, Stops, FailsAt, first_stop, servers_at}
use Rattle.dr_sweep.specs.Moments.{any_runs, phases_of}
use Rattle.dr_sweep.specs.Reach.{is_own}
use Rattle.dr_sweep.specs.declared.reach.FirstStop.{FirstStop}
use Rattle.dr_sweep.specs.declared.reach.FirstStop.TheVariants.{Own, Other, Nobody}
use Rattle.dr_sweep.specs.declared.fault.PointFault.{PointFault}
use Rattle.dr_sweep.specs.declared.fault.PointFault.TheVariants.{TooLong}
use Rattle.dr_sweep.proofs.RunLemmas.{piece-fails, stops-so, runs-on, comes, halts-longer}

pub own-is : (stop : FirstStop) → is_own stop ≡ true → stop ≡ Own
own-is Own is = refl
own-is Nobody is = absurd cc
own-is (Other other) is = absurd cc

-- ---- stops and recovery

module _ (began : PlantState) (ls stops recovery : List (List ℕ)) (names : List Name) (r2 r3 : RunState) (steps : List Task) (text : List ℕ) (ran : Ran began ls r2 steps) (is : IsTextOf stops text) where
  pub lose-fails : (fault : PointFault) → Fails r2 r3 text fault ⊎ (Carries r2 r3 text × (any_runs (seen r3).control names ≡ true) × (fault ≡ TooLong)) → FailsAfter began ls stops recovery names r3 steps fault
  lose-fails fault (inl f) = inl (halts-longer began (ls ++ stops) recovery (ls ++ stops ++ recovery) r3 fault refl (f began ls stops steps ran is))
  lose-fails fault (inr o) = inr (record { at = r3; third = o.0 began ls stops steps ran is; one = o.1; is = o.2 })

  module _ (goes : Carries r2 r3 text) (r4 : RunState) where
    pub recover-fails : (fault : PointFault) → ((began' : PlantState) (ls' : List (List ℕ)) (steps' : List Task) → Ran began' ls' r3 steps' → HaltsBy began' (ls' ++ recovery) r4 fault) → FailsAfter began ls stops recovery names r4 steps fault
    recover-fails fault f = let c = goes began ls stops steps ran is in inl (f began (ls ++ stops) (steps ++ c.further) c.ran)

    pub settles : (begin : ℕ) (members : List Members) → begin ≡ length r3.events → any_runs (seen r3).control names ≡ false
        → ((began' : PlantState) (ls' : List (List ℕ)) (steps' : List Task) → Ran began' ls' r3 steps' → Recovers began' ls' recovery r3 r4 steps' members) → Settles began ls stops recovery names r4 steps begin members
    settles begin members at off f = let c = goes began ls stops steps ran is in record { at = r3; third = c; off = off; is = at; fourth = f began (ls ++ stops) (steps ++ c.further) c.ran }

-- ---- the lines before

module _ (plan : Sweep) (sweep : IsSweep plan) (point : Point) (p : Pieces) (are : pieces_of plan point ≡ Some p) (began : PlantState) (fresh : IsFresh began) where
  after-front : p.front ++ p.strike ++ p.stops ++ plan.recovery ≡ p.front ++ (p.strike ++ (p.stops ++ plan.recovery))
  after-front = append_assoc (p.front ++ p.strike) p.stops plan.recovery ∙ append_assoc p.front p.strike (p.stops ++ plan.recovery)

  module _ (front strike stops : List ℕ) (texts : AreTexts front strike stops p) where
    module _ (r0 r1 : RunState) (ran : Ran began [] r0 []) where
      pub front-fails : (fault : PointFault) → Fails r0 r1 front fault → FailsAt plan point fault
      front-fails fault f = piece-fails plan sweep point p are began fresh p.front (p.strike ++ (p.stops ++ plan.recovery)) after-front r1 fault (f began [] p.front [] ran texts.front_is)

      module _ (goes : Carries r0 r1 front) (r2 : RunState) where
        first-run : CarriesOn began [] p.front r1 []
        first-run = goes began [] p.front [] ran texts.front_is

        pub strike-fails : (fault : PointFault) → Fails r1 r2 strike fault → FailsAt plan point fault
        strike-fails fault f =
            piece-fails plan sweep point p are began fresh (p.front ++ p.strike) (p.stops ++ plan.recovery) (append_assoc (p.front ++ p.strike) p.stops plan.recovery) r2 fault
            (f began p.front p.strike first-run.further first-run.ran texts.strike_is)

        module _ (goes2 : Carries r1 r2 strike) where
          second-run : CarriesOn began p.front p.strike r2 first-run.further
          second-run = goes2 began p.front p.strike first-run.further first-run.ran texts.strike_is

          pub approaches-so : (stop : FirstStop) (phases : List SessionPhase) → stop ≡ first_stop plan point (length r1.events) r2.events → phases ≡ phases_of (seen r1).control → Approaches plan point p began r2 stop phases
          approaches-so stop phases is phases_are = record { before = r1; first = first-run; second = second-run; stopped = sym is; are = phases_are }

    -- the first stop
    pub stops-there : (r2 : RunState) (stop : FirstStop) (phases : List SessionPhase) → Approaches plan point p began r2 stop phases → Stops plan point stop
    stops-there r2 stop phases s = stops-so plan sweep point p are began fresh s.before r2 s.first s.second (length s.before.events) refl stop s.stopped

    -- the whole
    module _ (r2 r4 : RunState) (stop : FirstStop) (phases : List SessionPhase) (s : Approaches plan point p began r2 stop phases) where
      pub after-ran : Ran began (p.front ++ p.strike) r2 (s.first.further ++ s.second.further)
      after-ran = s.second.ran

      pub settle-fails : (names : List Name) → names ≡ servers_at plan point → (fault : PointFault)
          → FailsAfter began (p.front ++ p.strike) p.stops plan.recovery names r4 (s.first.further ++ s.second.further) fault → FailsAt plan point fault
      settle-fails names named fault (inl h) = piece-fails plan sweep point p are began fresh (p.front ++ p.strike ++ p.stops ++ plan.recovery) [] (sym (append-nil (p.front ++ p.strike ++ p.stops ++ plan.recovery))) r4 fault h
      settle-fails names named fault (inr l) =
          subst (FailsAt plan point) (sym l.is)
          (runs-on plan sweep point p are began fresh s.before r2 s.first s.second (length s.before.events) refl l.at l.third (ap (any_runs (seen l.at).control) (sym named) ∙ l.one))

      line-count : length (lines front) + length (lines strike) + length (lines stops) ≡ length (p.front ++ p.strike ++ p.stops)
      line-count = let a = ap length texts.front_is.1 in let b = ap length texts.strike_is.1 in let c = ap length texts.stops_are.1 in
          let size : length (p.front ++ p.strike ++ p.stops) ≡ length p.front + length p.strike + length p.stops = grind (arith, common_steps) in
          omega (arith, a, b, c, size)

      pub comes-so : (names : List Name) → names ≡ servers_at plan point → (told : PointTold) → Settles began (p.front ++ p.strike) p.stops plan.recovery names r4 (s.first.further ++ s.second.further) told.begin told.members
          → stop ≡ Own → told.events ≡ r4.events → told.before ≡ length (lines front) + length (lines strike) + length (lines stops) → told.phases ≡ phases → ComesTo plan point told
      comes-so names named told done own events before phases_are =
          comes plan sweep point p are began fresh s.before r2 s.first s.second (length s.before.events) refl done.at done.third r4 told done.fourth (s.stopped ∙ own)
          (ap (any_runs (seen done.at).control) (sym named) ∙ done.off) events (before ∙ line-count) done.is (phases_are ∙ s.are)
