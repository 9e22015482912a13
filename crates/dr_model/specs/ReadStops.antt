-- A plan carried out where reads may fail: a server whose read fuse is armed may go off between two acts, before the
-- first or after the last. Where none is armed, it is what `carry` says.
use Rattle.std.specs.Prelude.{◌≡◌, ℕ, ◌⊎◌, Bool, true, false, List, [], ◌∷◌, ◌++◌, Option, Some, None}
use Rattle.dr_logic.specs.Tables.{at}
use Rattle.dr_ids.specs.declared.refusal.Refusal.{Refusal}
use Rattle.dr_model.specs.declared.event.Event.TheVariants.{Stopped}
use Rattle.dr_model.specs.Refusals.{stopped}
use Rattle.dr_model.specs.Control.{World}
use Rattle.dr_model.specs.Carry.{Next, Pass, Do, End, Entry, act}

-- a server that is off, and nothing else changed
abbrev pub shut : World → ℕ → World
shut w s = record w { control = record w.control { on = at w.control.on s false } }

-- a server that goes off by itself: the journal is told
abbrev pub gone_off : World → ℕ → World
gone_off w s = record (shut w s) { events = w.events ++ Stopped s 0 ∷ [] }

module _ (armed : ℕ → Bool) (u : World) (r : Option Refusal) where
  -- a server that is on, and whose read fuse is armed, goes off here
  pub record GoesOff (w : World) : Type 0 where
    pub server : ℕ
    pub on : w.control.on server ≡ true
    pub is_armed : armed server ≡ true
    pub world : u ≡ gone_off w server
    pub refusal : r ≡ Some (stopped server)

  -- it ends here
  pub record IsEnd (w : World) (end : Option Refusal) : Type 0 where
    pub world : u ≡ w
    pub refusal : r ≡ end

  -- behind a move: the plan goes on, or its server has stopped
  abbrev pub EndsTurn : World → Option ℕ → (World → Type 0) → Type 0
  EndsTurn w None more = more w
  EndsTurn w (Some s) more = IsEnd w (Some (stopped s))

  -- behind what an entry came to
  abbrev pub EndsNext : World → Next → (World → Type 0) → Type 0
  EndsNext w Pass more = more w
  EndsNext w (End end) more = IsEnd w (Some end)
  EndsNext w (Do a) more = EndsTurn (act w a).0 (act w a).1 more

  -- the entries, carried out from w on, end in world u with refusal r
  unfoldable pub Ends : World → List Entry → Type 0
  Ends w [] = GoesOff w ⊎ IsEnd w None
  Ends w (d ∷ ds) = GoesOff w ⊎ EndsNext w (d w.control) (λ v. Ends v ds)
