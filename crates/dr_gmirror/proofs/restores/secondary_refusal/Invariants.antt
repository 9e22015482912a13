use Rattle.std.proofs.Common.{ℕ, ◌<◌, List, ◌≡◌, None, Some, true, not, slice_get, take}
use Rattle.std.specs.List.{find}
use Rattle.dr_ids.specs.declared.names.Member.{Member}
use Rattle.dr_model.specs.declared.event.Event.{Event}
use Rattle.dr_model.specs.Entries.{is_running}
use Rattle.dr_model.specs.Sessions.{session_in, members_in}
use Rattle.dr_volume.specs.View.{Rest, volume_seen}
use Rattle.dr_moves.specs.Here.{world_seen}
use Rattle.dr_gmirror.proofs.restores.secondary_refusal.Given as goal

abbrev pub invariant-loop-at : goal.invariant-loop-at
invariant-loop-at g l = record {
  -- the secondaries so far are on servers that are on
  none : (r : Rest) (events : List Event) → find (λ (m : Member). not (is_running m.b.0 (world_seen (g.P.Plant.state l.plant) l.config r events).control)) (take l.at (members_in (session_in l.ss.sessions l.s.0))) ≡ None;
  running : (i : ℕ) (m : Member) → i < l.at → slice_get (members_in (session_in l.ss.sessions l.s.0)) i ≡ Some m → (g.P.Plant.state l.plant).on (volume_seen (g.P.Plant.state l.plant) l.config m.b.0).server ≡ true;
}
