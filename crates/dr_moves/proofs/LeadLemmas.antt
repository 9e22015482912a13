use Rattle.std.proofs.Common.{List, ◌++◌, ◌≡◌, sym, subst, ℕ, Bool, true, Option}
use Rattle.std.proofs.lemmas.List.{append_assoc}
use Rattle.dr_model.specs.Control.{World}
use Rattle.dr_model.specs.Carry.{Entry}
use Rattle.dr_model.specs.ReadStops.{Ends}
use Rattle.dr_facts.proofs.Ends.{ends-wider}
use Rattle.dr_moves.specs.Turns.{Leads, Fails}
use Rattle.dr_ids.specs.declared.refusal.Refusal.{Refusal}

pub then-leads : (w v u : World) (es fs : List Entry) → Leads w es v → Leads v fs u → Leads w (es ++ fs) u
then-leads w v u es fs first more armed x r ds e = subst (Ends armed x r w) (sym (append_assoc es fs ds)) (first armed x r (fs ++ ds) (more armed x r ds e))

pub then-fails : (armed : ℕ → Bool) (w v u : World) (r : Option Refusal) (es fs : List Entry) → Leads w es v → Fails armed v fs u r → Fails armed w (es ++ fs) u r
then-fails armed w v u r es fs first fails ds = subst (Ends armed u r w) (sym (append_assoc es fs ds)) (first armed u r (fs ++ ds) (fails ds))

pub fails-first : (armed : ℕ → Bool) (w u : World) (r : Option Refusal) (es fs : List Entry) → Fails armed w es u r → Fails armed w (es ++ fs) u r
fails-first armed w u r es fs fails ds = subst (Ends armed u r w) (sym (append_assoc es fs ds)) (fails (fs ++ ds))

-- more servers may be armed
pub fails-wider : (armed more : ℕ → Bool) → ((q : ℕ) → armed q ≡ true → more q ≡ true) → (w u : World) (r : Option Refusal) (es : List Entry) → Fails armed w es u r → Fails more w es u r
fails-wider armed more wider w u r es fails ds = ends-wider armed more wider u r w (es ++ ds) (fails ds)
