-- What holds of all of some pending writes.
use Rattle.std.proofs.Common.{Bool, true, false, cond, List, [], ◌∷◌, ◌++◌, filter}
use Rattle.dr_model.specs.Control.{Pending}
use Rattle.dr_model.specs.Laws.{AllPending}

pub each-on : {P Q : Pending → Type 0} → ((p : Pending) → P p → Q p) → (ps : List Pending) → AllPending P ps → AllPending Q ps
each-on to [] a = tt
each-on to (p ∷ ps) a = (to p a.0, each-on to ps a.1)

pub both-on : {P Q R : Pending → Type 0} → ((p : Pending) → P p → Q p → R p) → (ps : List Pending) → AllPending P ps → AllPending Q ps → AllPending R ps
both-on to [] a b = tt
both-on to (p ∷ ps) a b = (to p a.0 b.0, both-on to ps a.1 b.1)

-- one leaves, and one more comes
all-cut : (P : Pending → Type 0) (p : Pending) (b : Bool) (ps : List Pending) → P p → AllPending P ps → AllPending P (cond b (p ∷ ps) ps)
all-cut P p true ps here all = (here, all)
all-cut P p false ps here all = all

pub all-filter : (P : Pending → Type 0) (f : Pending → Bool) (ps : List Pending) → AllPending P ps → AllPending P (filter f ps)
all-filter P f [] all = tt
all-filter P f (p ∷ ps) all = all-cut P p (f p) _ all.0 (all-filter P f ps all.1)

pub all-more : (P : Pending → Type 0) (ps : List Pending) (p : Pending) → AllPending P ps → P p → AllPending P (ps ++ p ∷ [])
all-more P [] p all here = (here, tt)
all-more P (x ∷ xs) p all here = (all.0, all-more P xs p all.1 here)
