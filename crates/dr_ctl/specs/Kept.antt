-- What contracts see of the flight, and what they say of it.
use Rattle.std.specs.Prelude.{◌≡◌, ℕ, Bool, true, false, List, [], length, slice_index, slice_index_or, All, Option, Some, None}
use Rattle.dr_ids.specs.declared.refusal.Refusal.{Refusal}
use Rattle.dr_ids.specs.declared.refusal.Refusal.TheVariants.{Unknown}
use Rattle.dr_ids.specs.declared.refusal.Kind.TheVariants as kind
use Rattle.dr_model.specs.Phases.{Reply}
use Rattle.dr_model.specs.Messages.{Body, Asks, Replies, Message, Flight, is_current, answered}

-- The messages, and how many ever were; how often each server was started; the epoch of each number of a session, and for each a row with
-- the fence of each server; and whether one more message takes no memory.
pub record KeptFlight : Type 0 where
  pub messages : List Message
  pub made : ℕ
  pub starts : List ℕ
  pub epochs : List ℕ
  pub fences : List (List ℕ)
  pub room : Bool

-- the count of a server in the row of a session's number, 0 where there is none
abbrev pub in_row : List (List ℕ) → ℕ → ℕ → ℕ
in_row rows s server = slice_index (slice_index_or rows s []) server

-- each row has a count for each of eight servers
abbrev pub AreRows : List (List ℕ) → Type 0
AreRows rows = All (λ row. length row ≡ 8) rows

-- the flight
abbrev pub flight_in : KeptFlight → Flight
flight_in t = record { messages = t.messages; made = t.made; starts = slice_index t.starts; epoch = slice_index t.epochs; fence = in_row t.fences }

-- why a message can't be lost: it isn't in flight
abbrev pub lose_refusal : Option Message → Option Refusal
lose_refusal None = Some (Unknown kind.Message)
lose_refusal (Some m) = None

-- whether a message is an order
abbrev pub is_order : Body → Bool
is_order (Asks starts) = true
is_order (Replies reply) = false

-- whether there is a message, and it is an order
abbrev pub is_order_in : Option Message → Bool
is_order_in None = false
is_order_in (Some m) = is_order m.body

-- whether a message is an order that is still one to carry out
abbrev pub is_current_by : Flight → Message → Body → Bool
is_current_by f m (Asks starts) = is_current f m starts
is_current_by f m (Replies reply) = false

-- whether there is a message, and it is such an order
abbrev pub is_current_in : Flight → Option Message → Bool
is_current_in f None = false
is_current_in f (Some m) = is_current_by f m m.body

-- the reply to the order that is there
abbrev pub answered_in : Option Message → Reply → Flight → Flight
answered_in None reply f = f
answered_in (Some m) reply f = answered m reply f
