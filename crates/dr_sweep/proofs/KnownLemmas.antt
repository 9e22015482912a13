-- What is lost is known of the targets of a session that is recovered, as a row says it.
use Rattle.std.proofs.Common.{ℕ, zero, suc, ◌≡◌, true, List, [], ◌∷◌, ◌++◌, take, refl, ap, ◌∙◌, sym, subst, arith, nat_eq, Option, Some, None}
use Rattle.std.proofs.lemmas.Bool.Decides.{nat_tests}
use Rattle.std.specs.Prelude.{◌↔◌, slice_get}
use Rattle.std.proofs.Math.Seq.{take-append_seam}
use Rattle.dr_facts.proofs.Lists.{any-some, from-filter, some-any}
use Rattle.dr_ids.specs.Sizes.{most_tracks}
use Rattle.dr_ids.specs.declared.names.Member.{Member}
use Rattle.dr_laws_losses.specs.Losses.{LossIsKnown, PrimariesKeep, RecoversTargets, firsts, seconds}
use Rattle.dr_laws_losses.proofs.Laws.{loss-is-known}
use Rattle.dr_laws_sound.proofs.Journal.{after_tasks-grows}
use Rattle.dr_lost.specs.declared.broken.Broken.{Broken}
use Rattle.dr_lost.specs.Lost.{IsHeld, IsLost, held_writes}
use Rattle.dr_lost.proofs.SetLemmas.{held-members, lost-members}
use Rattle.dr_model.specs.declared.event.Event.{Event}
use Rattle.dr_model.specs.declared.grammar.Item.{Item}
use Rattle.dr_model.specs.Control.{World, nothing}
use Rattle.dr_model.specs.Dependence.{DependsOn}
use Rattle.dr_model.specs.Histories.{Lists, lists}
use Rattle.dr_model.specs.Runs.{Task, run}
use Rattle.dr_plan.specs.declared.points.Point.{Point}
use Rattle.dr_plan.specs.Sweep.{Sweep, Use as HostUse}
use Rattle.dr_rows.specs.Outcome.{Loss}
use Rattle.dr_sweep.specs.Acks.{among}
use Rattle.dr_sweep.specs.Comes.{ComesTo, PointTold}
use Rattle.dr_sweep.specs.Losses.{AreKnown, AreLosses, IsBroken, IsLoss, SaysKnown, firsts_of, kept_between, lists_at, lost_of, pairs_of, seconds_of}
use Rattle.dr_top.proofs.TaskLemmas.{tasks-then}

-- the loss at a place is that of the use at that place
loss-at : (events : List Event) (begin : ℕ) (uses : List HostUse) (losses : List Loss) → AreLosses events begin uses losses → (i : ℕ) (used : HostUse) (loss : Loss) → slice_get uses i ≡ Some used → slice_get losses i ≡ Some loss → IsLoss events begin used.pairs loss
loss-at events begin [] losses are i used loss at at_loss = let none : None ≡ Some used = at in absurd cc
loss-at events begin (u ∷ uses) losses are zero used loss at at_loss =
    let same : u ≡ used = cc in
    let also : are.0 ≡ loss = (let first : Some are.0 ≡ Some loss = sym (ap (λ (ls : List Loss). slice_get ls 0) are.2) ∙ at_loss in cc) in
    subst (λ (u : HostUse). IsLoss events begin u.pairs loss) same (subst (IsLoss events begin u.pairs) also are.3)
loss-at events begin (u ∷ uses) losses are (suc i) used loss at at_loss =
    loss-at events begin uses are.1 are.4 i used loss at (sym (ap (λ (ls : List Loss). slice_get ls (suc i)) are.2) ∙ at_loss)

-- the volumes of pairs
firsts-are : (pairs : List Item) → firsts (pairs_of pairs) ≡ firsts_of pairs
firsts-are [] = refl
firsts-are (p ∷ pairs) = ap (λ vs. p.first ∷ vs) (firsts-are pairs)

seconds-are : (pairs : List Item) → seconds (pairs_of pairs) ≡ seconds_of pairs
seconds-are [] = refl
seconds-are (p ∷ pairs) = ap (λ vs. p.second ∷ vs) (seconds-are pairs)

-- a write that is kept was held before, and is at the end
kept-held : (before end : Lists) (pairs : List Item) (w : ℕ) → among (kept_between before end pairs) w ≡ true → IsHeld most_tracks end (firsts_of pairs) w × IsHeld most_tracks before (seconds_of pairs) w
kept-held before end pairs w kept =
    let here = some-any (nat_eq w) (kept_between before end pairs) kept in
    let both = from-filter (among (held_writes before (seconds_of pairs))) (held_writes end (firsts_of pairs)) here.0 here.1.0 in
    let same : w ≡ here.0 = (let test = here.1.1 in grind (arith, nat_tests, test)) in (
      (held-members most_tracks end (firsts_of pairs) w (held_writes end (firsts_of pairs)) refl).0 (any-some (nat_eq w) (held_writes end (firsts_of pairs)) here.0 both.0 here.1.1),
      (held-members most_tracks before (seconds_of pairs) w (held_writes before (seconds_of pairs)) refl).0 (ap (among (held_writes before (seconds_of pairs))) same ∙ both.1),
    )

module _ (plan : Sweep) (point : Point) (told : PointTold) (comes : ComesTo plan point told) where
  abbrev before : List Task
  before = comes.front ++ comes.strike ++ comes.stops

  abbrev recovery : List Task
  recovery = comes.recovery

  all_events : told.events ≡ (run (before ++ recovery)).events
  all_events = comes.whole.stands.journal ∙ ap (λ (w : World). w.events) (sym comes.whole.stands.leads) ∙ ap (λ ts. (run ts).events) comes.cut

  first_events : take told.begin told.events ≡ (run before).events
  first_events =
      let grows = after_tasks-grows (run before) recovery in
      ap (λ es. take told.begin es) (all_events ∙ ap (λ (w : World). w.events) (tasks-then nothing before recovery) ∙ grows.1)
      ∙ ap (λ n. take n ((run before).events ++ grows.0)) comes.begin ∙ take-append_seam (run before).events grows.0

  lists_before : lists_at told.begin told.events ≡ lists (run before).events
  lists_before = ap lists first_events

  lists_end : lists told.events ≡ lists (run (before ++ recovery)).events
  lists_end = ap lists all_events

  says-known : (pairs : List Item) (loss : Loss) → IsLoss told.events told.begin pairs loss → (s n : ℕ) (ms : List Member) (r : RecoversTargets before recovery s n ms (pairs_of pairs)) → SaysKnown told.events told.begin before recovery pairs loss s n ms r
  says-known pairs loss is s n ms r = record { law = law; lost = λ w. (λ h. (law.lost w).0 ((lost-in w).0 h), λ h. (lost-in w).1 ((law.lost w).1 h)); whole = whole }
    where
      law : LossIsKnown before recovery s n ms (pairs_of pairs) r
      law = loss-is-known before recovery s n ms (pairs_of pairs) r

      lost-in : (w : ℕ) → (among (lost_of told.begin told.events pairs) w ≡ true) ↔ IsLost most_tracks (lists (run before).events) (lists (run (before ++ recovery)).events) (pairs_of pairs) w
      lost-in w = subst (λ x. (among (lost_of told.begin told.events pairs) w ≡ true) ↔ IsLost most_tracks x (lists (run (before ++ recovery)).events) (pairs_of pairs) w) lists_before
          (subst (λ y. (among (lost_of told.begin told.events pairs) w ≡ true) ↔ IsLost most_tracks (lists_at told.begin told.events) y (pairs_of pairs) w) lists_end
          (lost-members most_tracks (lists_at told.begin told.events) (lists told.events) (pairs_of pairs) w (lost_of told.begin told.events pairs) refl))

      whole : PrimariesKeep (before ++ r.first ++ r.step ∷ []) ms → loss.broken ≡ None
      whole keep = by loss.broken is.broken
        where
          by : (b : Option Broken) → IsBroken told.events (kept_between (lists_at told.begin told.events) (lists told.events) pairs) (lost_of told.begin told.events pairs) b → b ≡ None
          by None none = refl
          by (Some b) broken =
              let held = kept-held (lists_at told.begin told.events) (lists told.events) pairs b.held broken.is_held in
              absurd (law.whole keep b.held b.lost (subst (λ x. IsHeld most_tracks x (firsts (pairs_of pairs)) b.held) lists_end (subst (λ vs. IsHeld most_tracks (lists told.events) vs b.held) (sym (firsts-are pairs)) held.0))
              (subst (λ x. IsHeld most_tracks x (seconds (pairs_of pairs)) b.held) lists_before (subst (λ vs. IsHeld most_tracks (lists_at told.begin told.events) vs b.held) (sym (seconds-are pairs)) held.1))
              ((lost-in b.lost).0 broken.is_lost) (subst (λ es. DependsOn es b.held b.lost) all_events broken.depends))

  -- the losses of all uses
  pub known-so : (uses : List HostUse) (losses : List Loss) → AreLosses told.events told.begin uses losses → AreKnown told.events told.begin before recovery uses losses
  known-so uses losses are i used loss at at_loss s n ms r = says-known used.pairs loss (loss-at told.events told.begin uses losses are i used loss at at_loss) s n ms r
