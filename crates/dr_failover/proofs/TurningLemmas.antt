-- The two moves of a failback: what they ask, and what they leave.
use Rattle.std.proofs.Common.{ℕ, ◌≡◌, inr, Bool, true, false, refl, sym, ◌∙◌, ap, subst, None}
use Rattle.dr_plant.specs.State.{PlantState}
use Rattle.dr_config.specs.Table.{ConfigTable}
use Rattle.dr_model.specs.Control.{Volume}
use Rattle.dr_model.specs.Layout.{is_part}
use Rattle.dr_model.specs.Lawful.{Low}
use Rattle.dr_volume.specs.Update.{IsMoved, OthersStay}
use Rattle.dr_volume.specs.View.{volume_seen}
use Rattle.dr_moves.specs.Coming.{MayMake, WentBy, CutBy}
use Rattle.dr_moves.specs.Made.{IsAt}
use Rattle.dr_moves.proofs.KeptLemmas.{before-then}
use Rattle.dr_moves.proofs.PlaceLaws.{seen-lawful}
use Rattle.dr_moves.proofs.TurnMade.{came-either}
use Rattle.dr_gcopy.proofs.TwoMoves.{still-running}
use Rattle.dr_failover.specs.Outcomes.{unsent_seen, fallen_seen, yielded_seen}
use Rattle.dr_failover.specs.Turning.{fall_seen, yield_seen, CanFollow, CanTurn, SecondMade, BothMade}
use Rattle.dr_failover.proofs.TurnedLemmas.{tracks-stay, low-unsent, zeros-after, turned-by}

module _ (s : PlantState) (c : ConfigTable) (x y : ℕ) where
  pub fall-may : IsAt s c → CanTurn s c x y → MayMake s c (fall_seen s c x y) None
  fall-may at can = record {
    may = record {
      defined = can.follows.first;
      running = can.running;
      asks = (can.follows.primary, subst (λ n. Low n (unsent_seen s c y)) can.size (low-unsent (volume_seen s c y).tracks (volume_seen s c y).fields (seen-lawful s c y can.follows.second (at.rest.sizes y) at.rest.stands)));
    };
    calm = refl;
    carries = λ w. refl;
  }

  pub yield-may : CanFollow s c x y → MayMake s c (yield_seen s c x y) None
  yield-may can = record { may = record { defined = can.second; running = can.reached; asks = can.primary }; calm = refl; carries = λ w. refl }

  -- y may follow behind the first
  pub fall-stands : (m : PlantState) → CanTurn s c x y → WentBy s m c (fall_seen s c x y) None → CanFollow m c x y
  fall-stands m can went = record {
    first = can.follows.first;
    second = can.follows.second;
    reached = still-running s m c y can.follows.second went.on can.follows.reached;
    primary = ap (λ (v : Volume). is_part v.fields.primary) went.moved.volume ∙ can.follows.primary;
    apart = can.follows.apart;
  }

  pub fall-goes : (done : Bool) (m u : PlantState) → CanTurn s c x y → WentBy s m c (fall_seen s c x y) None → SecondMade done m u c x y → BothMade done s u c x y
  fall-goes done m u can went more = record {
    turned = λ is. turned-by s m u c x y can.follows.apart went.moved went.others (more.moved is) more.others;
    tracks = λ there q k.
        tracks-stay m u c y (yielded_seen m c y x) refl (zeros-after s m c y (went.others y can.follows.apart) (there y)) more.either more.others q k
        ∙ tracks-stay s m c x (fallen_seen s c x y) refl (there x) (inr went.moved) went.others q k;
    others = λ q na nb. before-then s m u c q (went.others q na) (more.others q nb);
  }

  pub fall-cut : (u : PlantState) (counts : Bool) → CutBy s u c counts (fall_seen s c x y) None → BothMade false s u c x y
  fall-cut u counts cut = record {
    turned = λ never. absurd cc;
    tracks = λ there. tracks-stay s u c x (fallen_seen s c x y) refl (there x) (came-either counts s u c x (fallen_seen s c x y) None cut.came) cut.others;
    others = λ q na nb. cut.others q na;
  }

  pub yield-goes : (done : Bool) (m u : PlantState) → WentBy s m c (yield_seen s c x y) None → u ≡ m → SecondMade done s u c x y
  yield-goes done m u went same = record {
    moved = λ is. subst (λ z. IsMoved s z c y (yielded_seen s c y x) None) (sym same) went.moved;
    either = inr (subst (λ z. IsMoved s z c y (yielded_seen s c y x) None) (sym same) went.moved);
    others = subst (λ z. OthersStay s z c y) (sym same) went.others;
  }

  pub yield-cut : (u : PlantState) (counts : Bool) → CutBy s u c counts (yield_seen s c x y) None → SecondMade false s u c x y
  yield-cut u counts cut = record { moved = λ never. absurd cc; either = came-either counts s u c y (yielded_seen s c y x) None cut.came; others = cut.others }
