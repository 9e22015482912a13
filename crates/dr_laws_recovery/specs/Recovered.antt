-- What a recovery makes of a session: which volumes remain, the number that they share, and what they show. It is a function of the
-- volumes' records and of what their tracks contain: no host, primary or master stands in it.
use Rattle.std.specs.Prelude.{◌≡◌, ◌<◌, ℕ, Bool, true, false, filter, take, Option, Some}
use Rattle.dr_ids.specs.declared.refusal.Refusal.{Refusal}
use Rattle.dr_model.specs.Layout.{Blocks}
use Rattle.dr_model.specs.Control.{World, is_volume}
use Rattle.dr_model.specs.Entries.{fields_at}
use Rattle.dr_model.specs.SessionEntries.{counts_in}
use Rattle.dr_model.specs.RecoveryPlans.{lets_revert}
use Rattle.dr_model.specs.Groups.{In}
use Rattle.dr_model.specs.PlanParts.{Plan}
use Rattle.dr_model.specs.Carry.{carry}
use Rattle.dr_model.specs.Carried.{begun, after_plan}
use Rattle.dr_model.specs.ReadStops.{Ends}
use Rattle.dr_model.specs.Table.{table}
use Rattle.dr_model.specs.Laws.{sizes, shown}
use Rattle.dr_model.specs.Fits.{on_device}
use Rattle.dr_model.specs.Recovery.{Recovery, decided_over, goes_back, recovered}
use Rattle.dr_laws_recovery.specs.Decided.{record_on}

-- by the records of a world, and by those on devices
abbrev pub recovered_in : World → ℕ → Recovery
recovered_in w s = recovered (fields_at w.control) w.contents w.control.volumes s

-- what the devices of a plant give back of session s: the recovery by the records and tracks on them
abbrev pub recovered_on : World → (ℕ → Blocks) → ℕ → Recovery
recovered_on w device s = recovered (record_on w device) (on_device w.control device) w.control.volumes s

-- two that are one: the same volumes remain, with the same group, and show the same on each of their tracks
pub record SameRecovery (tracks : ℕ → ℕ) (x y : Recovery) : Type 0 where
  pub remaining : y.remaining ≡ x.remaining
  pub group : y.group ≡ x.group
  pub images : (v t : ℕ) → In v x.remaining → t < tracks v → y.image v t ≡ x.image v t

-- Devices tell of it: what is decided, the volumes that remain, and their group; and what those show that don't go back.
pub record TellsRecovery (w : World) (device : ℕ → Blocks) (s : ℕ) : Type 0 where
  pub decides : decided_over (record_on w device) w.control.volumes s ≡ decided_over (fields_at w.control) w.control.volumes s
  pub remaining : (recovered_on w device s).remaining ≡ (recovered_in w s).remaining
  pub group : (recovered_on w device s).group ≡ (recovered_in w s).group
  pub images : (v t : ℕ) → In v (recovered_in w s).remaining → goes_back (lets_revert (decided_over (fields_at w.control) w.control.volumes s)) (fields_at w.control v) ≡ false
      → t < (w.control.volume v).tracks → (recovered_on w device s).image v t ≡ (recovered_in w s).image v t

-- each track of each volume contains on its device what it contains in a world
abbrev pub HoldsTracks : World → (ℕ → Blocks) → Type 0
HoldsTracks w device = (v t : ℕ) → is_volume w.control v ≡ true → t < (w.control.volume v).tracks → on_device w.control device v t ≡ w.contents v t

-- A plan keeps what a recovery makes of session s: after each of its entries, where servers go off by themselves between them, and as its
-- step is answered.
pub record KeepsRecovery (w : World) (p : Plan) (s : ℕ) : Type 0 where
  pub moments : (n : ℕ) → SameRecovery (sizes w.control) (recovered_in w s) (recovered_in (carry (begun w p) (take n p.entries)).0 s)
  pub reads : (armed : ℕ → Bool) (u : World) (r : Option Refusal) → Ends armed u r (begun w p) p.entries → SameRecovery (sizes w.control) (recovered_in w s) (recovered_in u s)
  pub after : (line : ℕ) → SameRecovery (sizes w.control) (recovered_in w s) (recovered_in (after_plan w line p) s)

-- A recovery of session s that began in w has come to its end in u: those that remain are all that count in the session now, none is
-- revertible, each has the group's number, and each shows what it was to show.
pub record HasRecovered (w u : World) (s : ℕ) : Type 0 where
  pub counted : filter (λ v. counts_in s (fields_at u.control v)) u.control.volumes ≡ (recovered_in w s).remaining
  pub settled : (v : ℕ) → In v (recovered_in w s).remaining → (fields_at u.control v).revertible ≡ false
  pub numbered : (v : ℕ) → In v (recovered_in w s).remaining → (recovered_in w s).group ≡ Some (fields_at u.control v).sequence
  pub shows : (v t : ℕ) → In v (recovered_in w s).remaining → t < (w.control.volume v).tracks → shown (table u) v t ≡ (recovered_in w s).image v t
