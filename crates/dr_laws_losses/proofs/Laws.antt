-- What a recovery loses, said of its steps.
use Rattle.std.proofs.Common.{ℕ, ◌≡◌, ◌↔◌, ap, sym, ◌∙◌, subst, append_assoc, List, [], ◌∷◌, ◌++◌}
use Rattle.dr_ids.specs.declared.names.Member.{Member}
use Rattle.dr_ids.specs.Sizes.{most_tracks}
use Rattle.dr_model.specs.Histories.{lists}
use Rattle.dr_model.specs.Control.{World}
use Rattle.dr_model.specs.Dependence.{DependsOn}
use Rattle.dr_model.specs.Runs.{Task, run}
use Rattle.dr_lost.specs.declared.lost.Pair.{Pair}
use Rattle.dr_lost.specs.Lost.{IsLost, IsHeld}
use Rattle.dr_laws_losses.specs.Losses.{recovered_world, RecoversTargets, IsUncut, WasGivenBack, firsts, seconds, LossIsKnown}
use Rattle.dr_laws_losses.proofs.Known.{to-uncut, from-uncut, begun-longer}
use Rattle.dr_laws_losses.proofs.GivenBack.{none-given}
use Rattle.dr_laws_losses.proofs.Broken.{given-back}

module _ (before recovery : List Task) (s n : ℕ) (ms : List Member) (pairs : List Pair) (r : RecoversTargets before recovery s n ms pairs) where
  abbrev u : World
  u = recovered_world before r.first r.step

  abbrev begun : World
  begun = run before

  end-is : run (before ++ recovery) ≡ run (before ++ r.first ++ r.step ∷ r.rest)
  end-is = ap run (ap (λ ts. before ++ ts) r.cut ∙ sym (append_assoc before r.first (r.step ∷ r.rest)))

  abbrev LosesAt : World → Type 0
  LosesAt end = (w : ℕ) → IsLost most_tracks (lists begun.events) (lists end.events) pairs w ↔ IsUncut ms begun.events u.events s n w

  abbrev KeepsAt : World → Type 0
  KeepsAt end = (w x : ℕ) → IsHeld most_tracks (lists end.events) (firsts pairs) w → IsHeld most_tracks (lists begun.events) (seconds pairs) w
      → IsLost most_tracks (lists begun.events) (lists end.events) pairs x → DependsOn end.events w x → WasGivenBack ms begun.events u.events s n x

  all : KeepsAt (run (before ++ recovery))
  all = subst KeepsAt (sym end-is) (given-back before r.first r.step r.rest s n ms pairs r.so)

  pub loss-is-known : LossIsKnown before recovery s n ms pairs r
  loss-is-known = record {
    lost = subst LosesAt (sym end-is) (λ w. (to-uncut before r.first r.step r.rest s n ms pairs r.so w, from-uncut before r.first r.step r.rest s n ms pairs r.so w));
    kept = all;
    whole = λ keep w x kept was lost d. none-given (before ++ r.first ++ r.step ∷ []) ms begun.events s n x keep (begun-longer before r.first r.step r.rest s n ms pairs r.so) (all w x kept was lost d);
  }
