-- Examples of steps that are refused: the worlds before them, and the steps.
use Rattle.std.specs.Prelude.{Bool, true, false, [], ◌∷◌, None, Ok}
use Rattle.dr_model.specs.declared.step.Step.TheVariants.{Write, Copy, Recover}
use Rattle.dr_model.specs.Layout.{Fields, no_fields}
use Rattle.dr_model.specs.Control.{World, nothing, no_control, new_volume}
use Rattle.dr_model.specs.Sessions.{new_session}
use Rattle.dr_model.specs.Runs.{Task}

-- volume 5, with these fields, is the only one of server 0, which is on or not; session 1 has no member
abbrev pub one_volume : Bool → Fields → World
one_volume on fields = record nothing {
  control = record no_control {
    servers = (65 ∷ []) ∷ [];
    on = λ s. on;
    volumes = 5 ∷ [];
    volume = λ v. record (new_volume 0 1) { fields = fields };
    sessions = new_session 1 0 ∷ [];
  };
}

-- its server is off
abbrev pub stopped : World
stopped = one_volume false no_fields

-- it is an inhibited target of volume 6
abbrev pub inhibited : World
inhibited = one_volume true (record no_fields { related = true; source = 6; inhibited = true })

-- line 9 writes on it, copies it, or recovers the session
abbrev pub writes : Task
writes = record { line = 9; asked = Ok (Write 5 0 0 1 (7 ∷ [])); listed = [] }

-- of a volume that isn't defined
abbrev pub copies : Task
copies = record { line = 9; asked = Ok (Copy 6 None); listed = [] }

-- over no member
abbrev pub recovers : Task
recovers = record { line = 9; asked = Ok (Recover 1); listed = [] }
