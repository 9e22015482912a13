-- The examples of refused steps, carried out.
use Rattle.std.proofs.Common.{◌≡◌, refl, [], ◌∷◌}
use Rattle.dr_ids.specs.declared.refusal.Decision.TheVariants.{NoMember}
use Rattle.dr_ids.specs.declared.refusal.Kind.TheVariants.{Volume as OfVolume}
use Rattle.dr_ids.specs.declared.refusal.Refusal.TheVariants.{NoGroup, Inhibited}
use Rattle.dr_model.specs.declared.event.Event.TheVariants.{Issue, Recovered}
use Rattle.dr_model.specs.declared.said.Said.TheVariants.{Refused}
use Rattle.dr_model.specs.Refusals.{server_off, unknown}
use Rattle.dr_model.specs.Decisions.{decided, decision}
use Rattle.dr_model.specs.Carry.{act, carry}
use Rattle.dr_model.specs.Runs.{after_plan, after_task, said}
use Rattle.dr_laws_sound.specs.RefusedSteps.{with_issued}
use Rattle.dr_laws_sound.specs.RefusedExamples.{stopped, inhibited, writes, copies, recovers}
use Rattle.dr_laws_sound.proofs.RefusedSteps.{lost-stays}

pub write-waits : after_task stopped writes ≡ said (with_issued stopped 5 0 0 1 (7 ∷ [])) 9 (Refused (server_off 0))
unfolding after_plan carry
write-waits = lost-stays stopped (said (with_issued stopped 5 0 0 1 (7 ∷ [])) 9 (Refused (server_off 0))) refl

pub write-dropped : after_task inhibited writes ≡ said (record inhibited { control = record inhibited.control { issued = 1 }; events = Issue 1 5 0 0 1 (7 ∷ []) ∷ [] }) 9 (Refused (Inhibited (record { 0 = 5 })))
unfolding after_plan carry act
write-dropped = lost-stays inhibited (said (record inhibited { control = record inhibited.control { issued = 1 }; events = Issue 1 5 0 0 1 (7 ∷ []) ∷ [] }) 9 (Refused (Inhibited (record { 0 = 5 })))) refl

pub copy-unknown : after_task inhibited copies ≡ said inhibited 9 (Refused (unknown OfVolume))
unfolding after_plan carry
copy-unknown = lost-stays inhibited (said inhibited 9 (Refused (unknown OfVolume))) refl

pub recovery-none : after_task inhibited recovers ≡ said (record inhibited { events = Recovered 1 0 ∷ [] }) 9 (Refused (NoGroup NoMember))
unfolding after_plan carry act decided decision
recovery-none = lost-stays inhibited (said (record inhibited { events = Recovered 1 0 ∷ [] }) 9 (Refused (NoGroup NoMember))) refl
