-- Where a step makes a move, and what a volume is where it takes a track back from its target.
use Rattle.std.specs.Prelude.{◌≡◌, ℕ, Bool, false, List, [], ◌∷◌, ◌++◌, Option, Some, None}
use Rattle.dr_ids.specs.declared.refusal.Refusal.{Refusal}
use Rattle.dr_model.specs.Refusals.{stopped}
use Rattle.dr_model.specs.Layout.{is_part}
use Rattle.dr_model.specs.Views.{source_of}
use Rattle.dr_model.specs.Control.{Control, World}
use Rattle.dr_model.specs.Moves.{Move, Restore}
use Rattle.dr_model.specs.Carry.{Make, Do, Entry, carry}
use Rattle.dr_model.specs.ReadStops.{Ends}
use Rattle.dr_model.specs.Entries.{fields_at}
use Rattle.dr_model.specs.Groups.{In}
use Rattle.dr_model.specs.Forming.{Part}
use Rattle.dr_model.specs.Runs.{Task, plans_of, begun, run}

-- How entries end from a world on, in which world and with which refusal: as they are carried out,
abbrev pub Carries : World → List Entry → World → Option Refusal → Type 0
Carries w entries u r = carry w entries ≡ (u, r)

-- or as they may where servers whose read fuses are armed go off by themselves between the acts.
abbrev pub MayEnd : (ℕ → Bool) → World → List Entry → World → Option Refusal → Type 0
MayEnd armed w entries u r = Ends armed u r w entries

-- From world w on, entries come to a move in world v: those before one of them end there, with no refusal, and this one decides on the move.
pub record ComesTo (EndsIn : World → List Entry → World → Option Refusal → Type 0) (w : World) (entries : List Entry) (v : World) (m : Move) : Type 0 where
  pub before : List Entry
  pub entry : Entry
  pub rest : List Entry
  pub placed : entries ≡ before ++ entry ∷ rest
  pub leads : EndsIn w before v None
  pub decides : entry v.control ≡ Do (Make m)

-- The first of entries ends in some way in a world from which the later ones go on.
pub record EndsOne (EndsIn : World → List Entry → World → Option Refusal → Type 0) (w : World) (d : Entry) (later : World → Type 0) : Type 0 where
  pub middle : World
  pub refusal : Option Refusal
  pub first : EndsIn w (d ∷ []) middle refusal
  pub rest : later middle

-- Entries end so one by one, whether a server stopped in the one before or not.
abbrev pub EndsEach : (World → List Entry → World → Option Refusal → Type 0) → World → List Entry → World → Option Refusal → Type 0
EndsEach EndsIn w [] v r = v ≡ w
EndsEach EndsIn w (d ∷ ds) v r = EndsOne EndsIn w d (λ u. EndsEach EndsIn u ds v r)

-- A plan makes a move in world v: its entries come to it there; or server s stops in them, in world u, and those that follow a stop after any n of
-- them, each by itself, come to it.
pub data Makes (EndsIn : World → List Entry → World → Option Refusal → Type 0) (x : Part) (v : World) (m : Move) : Type 0 where
  Itself : ComesTo EndsIn (begun x.world x.plan) x.plan.entries v m → Makes EndsIn x v m
  Follows : (u : World) (s n : ℕ) → EndsIn (begun x.world x.plan) x.plan.entries u (Some (stopped s)) → ComesTo (EndsEach EndsIn) u (x.plan.follows n) v m → Makes EndsIn x v m

-- A volume is at rest: it doesn't record for an attempt, it is no secondary, and it is the source of no revertible target.
pub record IsAtRest (k : Control) (v : ℕ) : Type 0 where
  pub idle : (fields_at k v).recording ≡ false
  pub no_secondary : is_part (fields_at k v).secondary ≡ false
  pub settled : (u : ℕ) → source_of (fields_at k u) ≡ Some v → (fields_at k u).revertible ≡ false

-- Wherever a plan of a step has source v take back track t of its target u, in whatever world, v is at rest there. `Restore` is the one kind
-- of move of which the journal is told Back.
abbrev pub RestoresCalmly : (World → List Entry → World → Option Refusal → Type 0) → World → Task → Type 0
RestoresCalmly EndsIn w task = (x : Part) (here : World) (v t u : ℕ) → In x (plans_of w task) → Makes EndsIn x here (Restore v t u) → IsAtRest here.control v

-- It is so in each step of a run.
abbrev pub CalmRestores : List Task → Type 0
CalmRestores tasks = (before rest : List Task) (task : Task) → tasks ≡ before ++ task ∷ rest → RestoresCalmly Carries (run before) task
