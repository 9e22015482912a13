use Rattle.std.proofs.Common.{◌≡◌, None, take}
use Rattle.std.specs.List.{find}
use Rattle.dr_ids.specs.declared.names.Member.{Member}
use Rattle.dr_model.specs.Layout.{is_part}
use Rattle.dr_model.specs.Sessions.{session_in, members_in}
use Rattle.dr_volume.specs.View.{volume_seen}
use Rattle.dr_recover.proofs.looks.untaken_refusal.Given as goal

abbrev pub invariant-loop-at : goal.invariant-loop-at
invariant-loop-at g l = record {
  -- the secondaries so far are taken over
  none : find (λ (m : Member). is_part (volume_seen (g.P.Plant.state l.plant) l.config m.b.0).fields.secondary) (take l.at (members_in (session_in l.ss.sessions l.s.0))) ≡ None;
}
