-- What holds of a result, and of a server that goes off.
use Rattle.std.proofs.Common.{ℕ, ◌≡◌, Bool, true, ◌∷◌, ap, Option, Some}
use Rattle.std.specs.Prelude.{Result, Ok, Err, OnOk, OnErr, is_err}
use Rattle.std.specs.Result.{IsErrAnd}
use Rattle.dr_ids.specs.declared.refusal.Refusal.{Refusal}
use Rattle.dr_model.specs.Control.{World}
use Rattle.dr_model.specs.Carry.{Entry}
use Rattle.dr_model.specs.ReadStops.{GoesOff}
use Rattle.dr_moves.specs.Here.{refusal_of}
use Rattle.dr_moves.specs.Turns.{Halts}
use Rattle.dr_facts.proofs.Ends.{ends-off}

-- what holds of a result, along other facts of it
pub ok-along : {T E : Type 0} {P Q : Type 0} (r : Result T E) → OnOk r P → (P → Q) → OnOk r Q
ok-along (Ok x) p f = f p
ok-along (Err e) p f = p

pub err-along : {T E : Type 0} {P Q S : Type 0} (r : Result T E) → OnErr r P → OnErr r Q → (P → Q → S) → OnErr r S
err-along (Ok x) p q f = p
err-along (Err e) p q f = f p q

pub refused-by : {T : Type 0} (r : Result T Refusal) (e : Refusal) → is_err r ≡ true → IsErrAnd r (λ x. x ≡ e) → refusal_of r ≡ Some e
refused-by (Ok a) e failed is = absurd cc
refused-by (Err x) e failed is = ap (λ y. Some y) is

-- a server that goes off before a move ends all
pub halts-gone : (armed : ℕ → Bool) (w u : World) (r : Option Refusal) (d : Entry) → GoesOff armed u r w → Halts armed w d u r
halts-gone armed w u r d off ds = ends-off armed u r w (d ∷ ds) off
