-- What a turn of an `@run` leaves to do is less than what there was: a measure of a session's master, with so many attempts left.
use Rattle.std.proofs.Common.{ℕ, suc, ◌≡◌, ◌≢◌, ◌≤◌, ◌<◌, ◌+◌, ◌-◌, ◌*◌, refl, sym, subst, Bool, true, false, cond, not, ◌||◌, nat_eq, arith, List, [], ◌∷◌, ◌++◌, length}
use Rattle.dr_ids.specs.declared.refusal.Decision.{Decision}
use Rattle.dr_ids.specs.declared.refusal.Decision.TheVariants.{CommitRest}
use Rattle.dr_ids.specs.declared.refusal.PhaseName.{PhaseName}
use Rattle.dr_ids.specs.declared.refusal.PhaseName.TheVariants as phase
use Rattle.std.proofs.lemmas.Bool.{and_parts}
use Rattle.dr_model.specs.Decisions.{Shown, decision}
use Rattle.dr_model.specs.Phases as phases
use Rattle.dr_model.specs.Forming.{has_committed, still_left}
use Rattle.dr_laws_sessions.proofs.Owed.{without-few}

-- the turns that the phases of an attempt may take, from one on, where so many servers are owed its order
abbrev pub left_in : PhaseName → ℕ → ℕ
left_in phase.Coordinating owed = 40 + owed
left_in phase.Releasing owed = 32 + owed
left_in phase.Draining owed = 24 + owed
left_in phase.Flashing owed = 16 + owed
left_in phase.Committing owed = 8 + owed
left_in phase.Reverting owed = 8 + owed
left_in phase.Lost owed = 16 + owed
left_in phase.Finishing owed = owed
left_in phase.Idle owed = 0
left_in phase.None owed = 0

-- the attempts behind this one, where it is to count, or all that are left
abbrev pub others : Bool → PhaseName → ℕ → ℕ
others committed phase.Coordinating left = left - 1
others committed phase.Releasing left = left - 1
others committed phase.Draining left = left - 1
others committed phase.Flashing left = left - 1
others committed phase.Committing left = left - 1
others committed phase.Finishing left = cond committed (left - 1) left
others committed p left = left

abbrev pub turns_left : ℕ → Bool → PhaseName → ℕ → ℕ
turns_left left committed p owed = others committed p left * 48 + left_in p owed

-- a phase in which servers do an order that they are owed
abbrev Works : PhaseName → Type 0
Works phase.Idle = ⊥
Works phase.None = ⊥
Works phase.Lost = ⊥
Works p = Unit {0}

-- a turn from one phase to another, in which that many are owed
abbrev Less : ℕ → Bool → PhaseName → ℕ → PhaseName → ℕ → Type 0
Less left committed p owed q then_owed = turns_left (still_left committed q left) (has_committed committed p q) q then_owed < turns_left left committed p owed

-- fewer are owed in the same phase
same-less : (left : ℕ) (c : Bool) (p : PhaseName) (owed fewer : ℕ) → Works p → fewer < owed → Less left c p owed p fewer
same-less left true phase.Finishing owed fewer works less = omega (arith, less)
same-less left c phase.Lost owed fewer works less = absurd works
same-less left c phase.Idle owed fewer works less = absurd works
same-less left c phase.None owed fewer works less = absurd works
same-less left c p owed fewer works less = omega (arith, less)

-- or none, and the next phase begins
next-less : (left : ℕ) (c : Bool) (p : PhaseName) (owed : ℕ) (servers : List ℕ) → Works p → left ≢ 0 → 0 < owed → length servers ≤ 8 → Less left c p owed (phases.next_phase p) (length (phases.owed_first (phases.next_phase p) servers))
next-less left true phase.Finishing owed servers works some more few = omega (arith, more, few)
next-less left c phase.Lost owed servers works some more few = absurd works
next-less left c phase.Idle owed servers works some more few = absurd works
next-less left c phase.None owed servers works some more few = absurd works
next-less left c p owed servers works some more few = omega (arith, more, few)

-- a lost master goes on, or settles what was left open
lost-less : (left : ℕ) (c : Bool) (owed fewer : ℕ) → fewer < owed → Less left c phase.Lost owed phase.Lost fewer
lost-less left true owed fewer less = omega (arith, less)
lost-less left false owed fewer less = omega (arith, less)

settled-less : (left : ℕ) (c : Bool) (owed : ℕ) (d : Decision) (servers : List ℕ) → 0 < owed → length servers ≤ 8 → Less left c phase.Lost owed (phases.phase_by d) (length (phases.owed_first (phases.phase_by d) servers))
settled-less left true owed (CommitRest n) servers more few = omega (arith, more, few)
settled-less left false owed (CommitRest n) servers more few = omega (arith, more, few)
settled-less left true owed d servers more few = omega (arith, more, few)
settled-less left false owed d servers more few = omega (arith, more, few)

-- ---- what a reply leaves

-- a list without one of it is shorter
without-less : (t : ℕ) (ks : List ℕ) → phases.is_among t ks ≡ true → length (phases.without t ks) < length ks
without-less t [] h = absurd cc
without-less t (n ∷ ks) h = by (nat_eq n t) h (without-less t ks) (without-few t ks)
  where
    by : (b : Bool) → (b || phases.is_among t ks) ≡ true → (phases.is_among t ks ≡ true → length (phases.without t ks) < length ks) → length (phases.without t ks) ≤ length ks
        → length (cond (not b) (n ∷ phases.without t ks) (phases.without t ks)) < suc (length ks)
    by true h less few = omega (arith, few)
    by false h less few = let lt = less h in omega (arith, lt)

done-works : (p : PhaseName) → phases.is_reply phases.Done (phases.work_in p) ≡ true → Works p
done-works phase.Idle h = absurd cc
done-works phase.None h = absurd cc
done-works phase.Lost h = absurd cc
done-works p h = tt

pub reported-lost : (p : PhaseName) (xs : List Shown) → phases.is_reply (phases.Reported xs) (phases.work_in p) ≡ true → p ≡ phase.Lost
reported-lost phase.Lost xs h = refl
reported-lost p xs h = absurd cc

-- what a master becomes leaves less to do than it did
abbrev pub Shrinks : ℕ → Bool → phases.Master → phases.Master → Type 0
Shrinks left c m q = Less left c m.phase (length m.owed) q.phase (length q.owed)

module _ (left : ℕ) (c : Bool) (m : phases.Master) (some : left ≢ 0) (few : length m.servers ≤ 8) where
  done-shrinks : Works m.phase → (rest : List ℕ) → length rest < length m.owed → Shrinks left c m (phases.left_with m rest)
  done-shrinks works [] less = next-less left c m.phase (length m.owed) m.servers works some less few
  done-shrinks works (s ∷ rest) less = same-less left c m.phase (length m.owed) (length (s ∷ rest)) works less

  reported-shrinks : m.phase ≡ phase.Lost → (rest : List ℕ) (xs : List Shown) → length rest < length m.owed
      → Shrinks left c m (phases.settled_where rest (record m { owed = rest; reports = m.reports ++ xs }))
  reported-shrinks is [] xs less =
      let d : Decision = decision (m.reports ++ xs) in
      subst (λ p. Less left c p (length m.owed) (phases.phase_by d) (length (phases.owed_first (phases.phase_by d) m.servers))) (sym is) (settled-less left c (length m.owed) d m.servers less few)
  reported-shrinks is (s ∷ rest) xs less = subst (λ p. Less left c p (length m.owed) p (length (s ∷ rest))) (sym is) (lost-less left c (length m.owed) (length (s ∷ rest)) less)

  -- a server's reply to its order, but that its seal has to wait
  pub taken-shrinks : (server : ℕ) (reply : phases.Reply) → phases.awaits m server reply ≡ true → reply ≢ phases.NotYet → Shrinks left c m (phases.taken m server reply)
  taken-shrinks server reply awaits other =
      let both = and_parts (phases.is_among server m.owed) _ awaits in by reply (without-less server m.owed both.0) both.1 other
    where
      by : (reply : phases.Reply) → length (phases.without server m.owed) < length m.owed → phases.is_reply reply (phases.work_in m.phase) ≡ true → reply ≢ phases.NotYet → Shrinks left c m (phases.taken m server reply)
      by phases.Done less is other = done-shrinks (done-works m.phase is) (phases.without server m.owed) less
      by phases.NotYet less is other = absurd (other refl)
      by (phases.Reported xs) less is other = reported-shrinks (reported-lost m.phase xs is) (phases.without server m.owed) xs less

  -- an attempt begins, and a server has held
  pub begins-shrinks : m.phase ≡ phase.Idle → (server : ℕ) (reply : phases.Reply) → Shrinks left c (phases.begun m) (phases.taken (phases.begun m) server reply) → Shrinks left c m (phases.taken (phases.begun m) server reply)
  begins-shrinks idle server reply less =
      let q : phases.Master = phases.taken (phases.begun m) server reply in
      subst (λ p. Less left c p (length m.owed) q.phase (length q.owed)) (sym idle) (omega (arith, less, some, few))

-- the most that there is to do with so many attempts left
pub left-most : (left : ℕ) (c : Bool) (p : PhaseName) (owed : ℕ) → owed ≤ 8 → turns_left left c p owed < (left + 1) * 64
left-most left true phase.Finishing owed few = omega (arith, few)
left-most left false phase.Finishing owed few = omega (arith, few)
left-most left c p owed few = omega (arith, few)
