-- The example of steps that are answered ok, carried out.
use Rattle.std.proofs.Common.{◌≡◌, refl, ap, true, false, [], ◌∷◌, ◌++◌}
use Rattle.dr_logic.specs.Bytes.{zeros}
use Rattle.dr_model.specs.declared.said.Addition.TheVariants.{Alone, Counted}
use Rattle.dr_model.specs.declared.said.Said.TheVariants.{Done}
use Rattle.dr_model.specs.declared.step.Step.TheVariants.{Unfreeze}
use Rattle.dr_model.specs.Carry.{act, carry, turn, update_keeping, stopped_at, redo}
use Rattle.dr_model.specs.Contents.{image}
use Rattle.dr_model.specs.Control.{is_volume}
use Rattle.dr_model.specs.Histories.{histories}
use Rattle.dr_model.specs.Phases.{servers_where}
use Rattle.dr_model.specs.Runs.{after_plan, after_task, after_tasks, run}
use Rattle.dr_model.specs.Sessions.{changed}
use Rattle.dr_laws_sound.specs.Acknowledged.{said_in}
use Rattle.dr_laws_answers.specs.Holds.{Holds, holds, is_primary_between, LetsGo, not_busy}
use Rattle.dr_laws_answers.specs.Example.{paired, frozen_pair, thaws, cuts, arms, destages}
use Rattle.dr_laws_sites.specs.Example.{unnamed}
use Rattle.dr_laws_answers.proofs.Holds.{holds-end}

pub thaws-ok : said_in (run frozen_pair) thaws ≡ Done Alone
unfolding after_tasks after_plan carry act turn update_keeping stopped_at image histories zeros changed servers_where
thaws-ok = refl

pub busy : (holds (run frozen_pair).control 4096).long_busy ≡ true
unfolding after_tasks after_plan carry act turn update_keeping stopped_at image histories zeros changed servers_where
busy = refl

there : is_volume (run frozen_pair).control 4096 ≡ true
unfolding after_tasks after_plan carry act turn update_keeping stopped_at image histories zeros changed servers_where
there = refl

between : is_primary_between (run frozen_pair).control 16 32 4096 ≡ true
unfolding after_tasks after_plan carry act turn update_keeping stopped_at image histories zeros changed servers_where
between = refl

-- by the law
pub thawed : (holds (after_task (run frozen_pair) thaws).control 4096).long_busy ≡ false
thawed =
    let law : LetsGo (run frozen_pair).control (after_task (run frozen_pair) thaws).control (is_primary_between (run frozen_pair).control 16 32) not_busy =
    holds-end (frozen_pair ++ thaws ∷ []) frozen_pair [] thaws (Unfreeze unnamed 16 32) Alone refl refl thaws-ok in
    ap (λ (h : Holds). h.long_busy) (law.named 4096 there between)

pub cuts-ok : said_in (run paired) cuts ≡ Done Alone
unfolding after_tasks after_plan carry act turn update_keeping stopped_at image histories zeros changed servers_where
cuts-ok = refl

pub arms-ok : said_in (run paired) arms ≡ Done Alone
unfolding after_tasks after_plan carry act turn update_keeping stopped_at image histories zeros changed servers_where
arms-ok = refl

pub destages-ok : said_in (run paired) destages ≡ Done (Counted 1)
unfolding after_tasks after_plan carry act turn update_keeping stopped_at image histories zeros changed servers_where redo
destages-ok = refl
