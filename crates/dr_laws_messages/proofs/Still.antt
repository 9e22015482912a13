-- What the messages in flight say holds before the first step.
use Rattle.std.proofs.Common.{arith}
use Rattle.dr_model.specs.Control.{no_control}
use Rattle.dr_model.specs.Flights.{Flights}

pub flights-none : Flights no_control
flights-none = record { homes = λ m i. absurd i; fences = λ s x. omega arith; each = λ x i. absurd i }
