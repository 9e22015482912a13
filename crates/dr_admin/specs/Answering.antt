-- Plans that are carried out and answered, where reads may fail.
use Rattle.std.specs.Prelude.{◌≡◌, ℕ, Bool, [], Option, option_map, Result, Ok, Err}
use Rattle.dr_ids.specs.declared.names.WriteId.{WriteId}
use Rattle.dr_ids.specs.declared.refusal.Refusal.{Refusal}
use Rattle.dr_model.specs.declared.said.Addition.TheVariants.{Alone}
use Rattle.dr_model.specs.declared.said.Said.{Said}
use Rattle.dr_model.specs.declared.said.Said.TheVariants.{Done, Refused}
use Rattle.dr_model.specs.Control.{World}
use Rattle.dr_model.specs.ReadStops.{Ends}
use Rattle.dr_model.specs.Plans.{Plan, says_acked}
use Rattle.dr_model.specs.Runs.{begun, answered}

-- From w on the plan comes to u and is answered so: its entries, carried out where it begins, ended there, well or with a
-- refusal, and behind them it changes no table and nothing follows. Only servers that are armed may go off between two acts.
pub record Comes (armed : ℕ → Bool) (w : World) (p : Plan) (u : World) (a : Said) : Type 0 where
  pub refusal : Option Refusal
  pub carried : Ends armed u refusal (begun w p) p.entries
  pub tables : p.last u.control ≡ u.control
  pub alone : (server : ℕ) → p.follows server ≡ []
  pub answer : answered p u.control refusal ≡ a

-- the number of a write, if there is one
abbrev pub write_number : Option WriteId → Option ℕ
write_number a = option_map (λ (w : WriteId). w.0) a

-- what a start answers by the end of its call
abbrev pub start_answer : Result (Option WriteId) Refusal → Said
start_answer (Ok a) = says_acked (write_number a)
start_answer (Err r) = Refused r

-- what the end of the holds answers
abbrev pub lift_answer : Result (Unit {0}) Refusal → Said
lift_answer (Ok x) = Done Alone
lift_answer (Err r) = Refused r
