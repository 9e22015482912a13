-- An example: a pair of two sites, of which the second volume has a target of its own.
use Rattle.std.specs.Prelude.{ℕ, Bool, true, [], ◌∷◌, nat_eq, if◌then◌else◌}
use Rattle.std.specs.FinSet.{empty, insert}
use Rattle.dr_model.specs.declared.state.Part.{Part}
use Rattle.dr_model.specs.declared.state.PairState.TheVariants.{CopyPending}
use Rattle.dr_model.specs.Layout.{Fields, Tracks, no_fields}
use Rattle.dr_model.specs.Control.{Control, no_control, new_volume}

-- only this track
abbrev pub only : ℕ → Tracks
only t = insert empty t

-- a primary in Copy Pending of volume 2000, by hexadecimal numbers, of this kind, with these tracks out of sync
abbrev pub leading : Part → Tracks → Fields
leading kind out = record no_fields { primary = kind; primary_state = CopyPending; primary_partner = 8192; out_of_sync = out }

-- the secondary of volume 1000
abbrev pub following : Part → Fields
following kind = record no_fields { secondary = kind; secondary_state = CopyPending; secondary_partner = 4096 }

-- a target of volume 2000, revertible or not
abbrev pub target : Bool → Fields
target revertible = record no_fields { related = true; source = 8192; persistent = true; recorded = true; revertible = revertible }

-- 1000 on server A and 2000 on server B are a pair, and 3000 on B is a target of 2000. Each has two tracks, both servers run, and the path is there.
abbrev pub pair : Part → Tracks → Bool → Control
pair kind out revertible = record no_control {
  servers = (65 ∷ []) ∷ (66 ∷ []) ∷ [];
  paths = record { src = 16; tgt = 32; group = true } ∷ [];
  volumes = 4096 ∷ 8192 ∷ 12288 ∷ [];
  volume = λ v.
      if nat_eq v 4096 then record (new_volume 0 2) { fields = leading kind out }
      else if nat_eq v 8192 then record (new_volume 1 2) { fields = following kind }
      else record (new_volume 1 2) { fields = target revertible };
}
