-- What holds of the host's pending writes, and of the devices, before a host write is carried out and behind it.
use Rattle.std.specs.Prelude.{◌≡◌, List}
use Rattle.dr_plant.specs.State.{PlantState}
use Rattle.dr_config.specs.Table.{ConfigTable}
use Rattle.dr_model.specs.declared.event.Event.{Event}
use Rattle.dr_model.specs.Histories.{histories}
use Rattle.dr_volume.specs.View.{ReadsPass}
use Rattle.dr_moves.specs.Here.{IsAtRest}
use Rattle.dr_host.specs.Writes.{Writes, EachPending, bytes_of}
use Rattle.dr_host.specs.declared.pending.Pending.{Pending}

-- each pending write is the one that the journal tells of
abbrev pub IsTold : Writes → List Event → Type 0
IsTold h events =
    EachPending (λ (p : Pending). (histories events).write (p.w.0) ≡ record { volume = p.volume.0; track = p.track; offset = p.offset; bytes = bytes_of p }) h.pending

-- no read fuse is armed, and the host's pending writes are those of the journal
pub record IsReady (s : PlantState) (t : ConfigTable) (h : Writes) (events : List Event) : Type 0 where
  pub rest : IsAtRest s t
  pub reads : ReadsPass s
  pub told : IsTold h events
