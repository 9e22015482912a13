-- Examples: steps that let a frozen primary go, and others; and what a secondary may contain where the site of its primary is lost.
use Rattle.std.specs.Prelude.{ℕ, true, false, List, [], ◌∷◌, None, nat_eq, if◌then◌else◌}
use Rattle.dr_model.specs.declared.state.Part.TheVariants.{Metro}
use Rattle.dr_model.specs.declared.state.PairState.TheVariants.{FullDuplex, Suspended}
use Rattle.dr_model.specs.declared.event.Event.TheVariants.{Issue, Ack}
use Rattle.dr_model.specs.declared.step.Devs.{Devs}
use Rattle.dr_model.specs.Layout.{no_fields}
use Rattle.dr_model.specs.Histories.{histories}
use Rattle.dr_model.specs.Contents.{image}
use Rattle.dr_model.specs.Entries.{fields_at}
use Rattle.dr_laws_freezes.specs.Secondaries.{SecondariesLackNone}
use Rattle.dr_model.specs.Control.{Control, Pending, Volume, World, no_control, new_volume, nothing}

-- volume 1000 of server 0 is a frozen primary of volume 2000; both numbers are hexadecimal
abbrev pub frozen_pair : Control
frozen_pair = record no_control {
  servers = (65 ∷ []) ∷ (66 ∷ []) ∷ [];
  volumes = 4096 ∷ 8192 ∷ [];
  volume = λ v. record (new_volume 0 1) { fields = record no_fields { primary = Metro; primary_state = Suspended; primary_partner = 8192; long_busy = true } };
}

-- no server is named
abbrev pub no_names : Devs
no_names = record { dev = None; remotedev = None }

-- Volume 1000 of server 0, which is off, is a Full Duplex primary of volume 2000 of server 1, with two tracks. Writes 1 and 2 are on track 0, write
-- 3 is on track 1, and write 4 on track 0 was refused. Write 1 was acknowledged; writes 2 and 3 are pending.
abbrev pub lost_primary : Volume
lost_primary = record (new_volume 0 2) { fields = record no_fields { primary = Metro; primary_state = FullDuplex; primary_partner = 8192 } }

-- the secondary
abbrev pub left_secondary : Volume
left_secondary = record (new_volume 1 2) { fields = record no_fields { secondary = Metro; secondary_state = FullDuplex; secondary_partner = 4096 } }

-- the pending writes
abbrev pub second_write : Pending
second_write = record { w = 2; volume = 4096; track = 0; landed = false }

abbrev pub third_write : Pending
third_write = record { w = 3; volume = 4096; track = 1; landed = false }

-- the world in which this is so
abbrev pub lost_site : World
lost_site = record nothing {
  control = record no_control {
    servers = (65 ∷ []) ∷ (66 ∷ []) ∷ [];
    on = λ s. nat_eq s 1;
    volumes = 4096 ∷ 8192 ∷ [];
    volume = λ v. if nat_eq v 4096 then lost_primary else left_secondary;
    issued = 4;
    pending = second_write ∷ third_write ∷ [];
  };
  events = Issue 1 4096 0 0 1 (97 ∷ []) ∷ Ack 1 ∷ Issue 2 4096 0 0 1 (98 ∷ []) ∷ Issue 3 4096 1 0 1 (99 ∷ []) ∷ Issue 4 4096 0 0 1 (100 ∷ []) ∷ [];
}

-- what a track contains there by such a list of writes
abbrev pub made_by : List ℕ → List ℕ
made_by ws = image (histories lost_site.events).write ws

-- the secondary lacks no write, where its two tracks contain what these writes make
abbrev pub LacksNoneWith : List ℕ → List ℕ → Type 0
LacksNoneWith first second = SecondariesLackNone lost_site (fields_at lost_site.control) (λ v t. made_by (if nat_eq t 0 then first else second))
