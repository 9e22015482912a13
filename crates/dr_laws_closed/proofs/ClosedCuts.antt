-- Where each that stands in a group has a cut of one moment, the cuts of the group are closed.
use Rattle.std.proofs.Common.{ℕ, ◌≡◌, ap, sym, ◌∙◌, List}
use Rattle.dr_model.specs.declared.event.Event.{Event}
use Rattle.dr_model.specs.Histories.{lists}
use Rattle.dr_model.specs.Cuts.{CutAt, cuts}
use Rattle.dr_model.specs.ClosedCuts.{InGroup, LastCut, AllBegun, ClosedCuts}
use Rattle.dr_laws_cuts.specs.Once.{CutOnce}
use Rattle.dr_laws_cuts.proofs.Places.{cut-once, cut-found}
use Rattle.dr_laws_closed.specs.Moments.{moments, standing}
use Rattle.dr_laws_closed.specs.Closing.{Whole, StandsWhole}
use Rattle.dr_laws_closed.proofs.Places.{has-last, moment-at, group-stands}

module _ (events : List Event) (begun : AllBegun events) (once : CutOnce events) (whole : StandsWhole (cuts events) (moments events) (standing events)) (s n : ℕ) where
  is-whole : (a : ℕ) → InGroup events s n a → Whole (cuts events) (moments events) s n a
  is-whole a g = whole s n a (group-stands s n a events g)

  moment : (a : ℕ) → InGroup events s n a → (c : CutAt events s n a) (p : LastCut events s n) → (t : ℕ) → lists c.before a t ≡ lists p.place.before a t
  moment a g c p t =
      let w = is-whole a g in
      let f = cut-found n a events s w.by in
      ap (λ es. lists es a t) (cut-once events once n a s s f.place c) ∙ (sym (f.held t) ∙ (w.lists t ∙ moment-at s n events p a t))

  pub closed-cuts : ClosedCuts events s n
  closed-cuts = record {
    cut = λ a g. (cut-found n a events s (is-whole a g).by).place;
    begins = λ a g c. begun s n a c;
    last = λ a g. (has-last s n events a (cut-found n a events s (is-whole a g).by).place).place;
    moment = moment;
  }
