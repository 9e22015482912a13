-- What a recovery answers right after another one of its session that came to its end.
use Rattle.std.specs.Prelude.{◌≡◌, ℕ, List, ◌∷◌, ◌++◌, Ok, if◌then◌else◌}
use Rattle.dr_ids.specs.declared.refusal.Decision.{Decision}
use Rattle.dr_ids.specs.declared.refusal.Decision.TheVariants.{NoMember, Nothing}
use Rattle.dr_ids.specs.declared.refusal.Refusal.TheVariants.{NoGroup, JournalFull}
use Rattle.dr_model.specs.declared.said.Addition.TheVariants.{InGroup}
use Rattle.dr_model.specs.declared.said.Said.{Said}
use Rattle.dr_model.specs.declared.said.Said.TheVariants.{Done, Refused}
use Rattle.dr_model.specs.declared.step.Step.TheVariants.{Recover}
use Rattle.dr_model.specs.Control.{World}
use Rattle.dr_model.specs.Plans.{has_room}
use Rattle.dr_model.specs.Runs.{Task, after_task, run}
use Rattle.dr_laws_sound.specs.Acknowledged.{said_in}

-- Step q, which begins in u, answers a if the journal has room for a step, and else E23. It changes nothing but the journal.
pub record AnswersIdly (u : World) (q : Task) (a : Said) : Type 0 where
  pub says : said_in u q ≡ (if has_room u.events then a else Refused JournalFull)
  pub control : (after_task u q).control ≡ u.control
  pub contents : (after_task u q).contents ≡ u.contents

-- Step t, a recovery that begins in w, comes to its end. Then q, which recovers that session again, finds the same group, and that nothing
-- is to be done; or it finds none, and that no volume counts.
pub record FindsTheSame (w : World) (t q : Task) : Type 0 where
  pub group : (n : ℕ) (d : Decision) → said_in w t ≡ Done (InGroup n d) → AnswersIdly (after_task w t) q (Done (InGroup n (Nothing n)))
  pub none : (d : Decision) → said_in w t ≡ Refused (NoGroup d) → AnswersIdly (after_task w t) q (Refused (NoGroup NoMember))

-- any two steps of a run, one right after the other, that recover one session
abbrev pub RecoversTwice : List Task → Type 0
RecoversTwice tasks = (before after : List Task) (t q : Task) (s : ℕ) → tasks ≡ before ++ t ∷ q ∷ after → t.asked ≡ Ok (Recover s) → q.asked ≡ Ok (Recover s) → FindsTheSame (run before) t q
