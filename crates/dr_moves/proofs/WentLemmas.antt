-- What stays where what an entry came to was done: servers are on as before, and what is set aside fits.
use Rattle.std.proofs.Common.{◌≡◌, true, inr, ap, subst, sym, None, Some}
use Rattle.dr_plant.specs.State.{PlantState}
use Rattle.dr_config.specs.Table.{ConfigTable}
use Rattle.dr_model.specs.Moves.{Move, Hold, Carried, target, fields_left}
use Rattle.dr_volume.specs.View.{volume_seen, track_seen}
use Rattle.dr_moves.specs.Aside.{AsideFits}
use Rattle.dr_moves.specs.Coming.{Went, WentBy}
use Rattle.dr_moves.specs.Made.{IsAt}
use Rattle.dr_moves.specs.Moves.{move_of}
use Rattle.dr_moves.specs.declared.carrying.Next.{Next}
use Rattle.dr_moves.specs.declared.carrying.Next.TheVariants.{Pass, Do, Bring, Open, Perform, End}
use Rattle.dr_moves.proofs.AsideLemmas.{aside-kept, aside-after}

module _ (s u : PlantState) (c : ConfigTable) where
  pub went-on : (next : Next) → Went s u c next → u.on ≡ s.on
  went-on Pass same = ap (λ (x : PlantState). x.on) same
  went-on (Do m) went = went.on
  went-on (Bring m v t) went = went.on
  went-on (Open v k n) went = went.on
  went-on (Perform a) same = ap (λ (x : PlantState). x.on) same
  went-on (End why) went = absurd went

  by-move : (m : Move) (t : Carried) → IsAt s c → AsideFits s c → WentBy s u c m t → AsideFits u c
  by-move m t at fit went =
      let v = target m in
      let x = volume_seen s c v in
      aside-after s u c v (fields_left m x) t fit (aside-kept m x (at.fit.apart v) (fit.aside v)) (inr went.moved) went.others

  pub went-aside : (next : Next) → IsAt s c → AsideFits s c → Went s u c next → AsideFits u c
  went-aside Pass at fit same = subst (λ x. AsideFits x c) (sym same) fit
  went-aside (Do m) at fit went = by-move (move_of m) None at fit went
  went-aside (Bring m v t) at fit went = by-move (move_of m) (Some (t, track_seen s c v.0 t)) at fit went
  went-aside (Open v k n) at fit went = by-move (Hold v.0 k.0 n true) None at fit went
  went-aside (Perform a) at fit same = subst (λ x. AsideFits x c) (sym same) fit
  went-aside (End why) at fit went = absurd went
