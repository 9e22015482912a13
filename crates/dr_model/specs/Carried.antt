-- A plan carried out: the tables as it begins, its entries, and how it ends and is answered.
use Rattle.std.specs.Prelude.{ℕ, Bool, [], ◌∷◌, ◌++◌, Option, Some, None}
use Rattle.dr_ids.specs.declared.refusal.Refusal.{Refusal}
use Rattle.dr_model.specs.Control.{Control, World}
use Rattle.dr_model.specs.Carry.{Outcome, carry, stopped_at, follow}
use Rattle.dr_model.specs.declared.said.Said.{Said}
use Rattle.dr_model.specs.declared.said.Said.TheVariants.{Refused}
use Rattle.dr_model.specs.Sessions.{lost_since}
use Rattle.dr_model.specs.Messages as messages
use Rattle.dr_model.specs.Answers.{answer}
use Rattle.dr_model.specs.PlanParts.{Plan}

-- the world as a step begins
abbrev pub begun : World → Plan → World
begun w p = record w { control = p.first w.control; events = w.events ++ p.told }

-- where the entries ended well, the tables as the step ends; where a server stopped after so many entries, what follows its stop there
abbrev pub finish : Plan → ℕ → World → Option Refusal → World
finish p n w None = record w { control = p.last w.control }
finish p n w (Some r) = follow w r (p.follows n)

-- how many entries of a plan came before the one in which a server stopped
abbrev pub stop_place : World → Plan → ℕ
stop_place w p = stopped_at (begun w p) p.entries

-- a plan is carried out: the world, and the refusal, if one
abbrev pub carried_out : World → Plan → Outcome
carried_out w p = (finish p (stop_place w p) (carry (begun w p) p.entries).0 (carry (begun w p) p.entries).1, (carry (begun w p) p.entries).1)

-- what a step answers
abbrev pub answered : Plan → Control → Option Refusal → Said
answered p k None = p.says k
answered p k (Some r) = Refused r

-- an answer is told to the journal
abbrev pub said : World → ℕ → Said → World
said w line a = record w { events = w.events ++ answer line a ∷ [] }

-- a plan carried out, and answered
unfoldable pub after_plan : World → ℕ → Plan → World
after_plan w line p = said (carried_out w p).0 line (answered p (carried_out w p).0.control (carried_out w p).1)

-- the masters whose servers were on, by the first test, and are off now are lost, and for each of them an epoch begins
abbrev pub losing : (ℕ → Bool) → Control → Control
losing before k = record k { sessions = lost_since before k.on k.sessions; flight = messages.lost_since before k.on k.sessions k.flight }

-- the masters whose servers went off in a step are lost as it ends
abbrev pub masters_lost : World → World → World
masters_lost w u = record u { control = losing w.control.on u.control }
