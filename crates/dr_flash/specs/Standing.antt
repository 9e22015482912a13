-- The targets of a volume, and how it is seen.
use Rattle.std.specs.Prelude.{◌≡◌, ℕ, Bool, false, ◌&&◌, ◌||◌, List, filter, Option, Some, None, nat_lt, if◌then◌else◌}
use Rattle.std.specs.List.{list_any}
use Rattle.dr_ids.specs.declared.refusal.RelSeen.{RelSeen}
use Rattle.dr_ids.specs.declared.refusal.RelSeen.TheVariants.{Revertible, Reversing, Target, Source, None as Unrelated}
use Rattle.dr_ids.specs.declared.refusal.Refusal.{Refusal}
use Rattle.dr_ids.specs.declared.refusal.Refusal.TheVariants.{InSession}
use Rattle.dr_plant.specs.State.{PlantState}
use Rattle.dr_config.specs.Table.{ConfigTable}
use Rattle.dr_model.specs.Layout.{Fields}
use Rattle.dr_model.specs.Entries.{copies_from}
use Rattle.dr_volume.specs.declared.head.Head.{Head}
use Rattle.dr_volume.specs.View.{volume_seen, ids_of}
use Rattle.dr_flash.specs.declared.standing.Targets.{Targets}

-- the targets of v, in order of definition
abbrev pub targets_in : PlantState → ConfigTable → ℕ → List ℕ
targets_in s t v = filter (λ u. copies_from v (volume_seen s t u).fields) (ids_of t.volumes)

-- no volume is one
abbrev pub HasNoTarget : PlantState → ConfigTable → ℕ → Type 0
HasNoTarget s t v = (q : ℕ) → copies_from v (volume_seen s t q).fields ≡ false

-- one of them is so
abbrev pub any_of : (Fields → Bool) → PlantState → ConfigTable → ℕ → Bool
any_of so s t v = list_any (λ u. so (volume_seen s t u).fields) (targets_in s t v)

-- how a volume with this head and these targets is seen
abbrev pub relation_of : Head → Targets → RelSeen
relation_of f all =
    if (f.related && f.revertible) || all.revertible then Revertible
    else if (f.related && f.reversing) || all.reversing then Reversing
    else if f.related then Target
    else if nat_lt 0 all.count then Source
    else Unrelated

-- why a target with this head can't be withdrawn or made a copy anew, if it can't: it is a member's
abbrev pub counted_by : Head → Option Refusal
counted_by f = if f.member then Some (InSession (record { 0 = f.session })) else None
