-- What a line that takes flash holds off comes to.
use Rattle.std.proofs.Common.{ℕ, ◌≡◌, ◌<◌, List, ◌++◌, map, refl, sym, ◌∙◌, Bool, true, false, not, Option, Some, None}
use Rattle.std.specs.Prelude.{if◌then◌else◌}
use Rattle.dr_ids.specs.declared.refusal.Refusal.{Refusal}
use Rattle.dr_ids.specs.declared.refusal.Kind.TheVariants.{Server as OfServer}
use Rattle.dr_plant.specs.State.{PlantState}
use Rattle.dr_config.specs.Table.{ConfigTable, lss_owner, IsSoundConfig}
use Rattle.dr_steps.specs.declared.tables.Tables.{Tables}
use Rattle.dr_model.specs.declared.event.Event.{Event}
use Rattle.dr_model.specs.declared.said.Said.TheVariants.{Done, Refused}
use Rattle.dr_model.specs.declared.said.Addition.TheVariants.{Alone}
use Rattle.dr_model.specs.declared.step.Name.{Name}
use Rattle.dr_model.specs.Control.{Control, World}
use Rattle.dr_model.specs.Carry.{Entry, carry}
use Rattle.dr_model.specs.ReadStops.{Ends}
use Rattle.dr_model.specs.WriteEntries.{flash_free_on}
use Rattle.dr_model.specs.Plans.{is_named, unless, release_refusal, release_done, release_plan}
use Rattle.dr_model.specs.Refusals.{unknown, server_off}
use Rattle.dr_model.specs.Runs.{after_plan, said}
use Rattle.dr_model.proofs.CarryLemmas.{carry-passed}
use Rattle.dr_volume.specs.View.{ids_of, ReadsPass}
use Rattle.dr_volume.proofs.WorldLaws.{on-seen}
use Rattle.dr_moves.specs.Here.{armed_in}
use Rattle.dr_freeze.specs.Checks.{owner_in, is_up, thaw_checks}
use Rattle.dr_freeze.proofs.OwnerLemmas.{up-here}
use Rattle.dr_steps.specs.Here.{here, rest_of}
use Rattle.dr_steps.proofs.FlashLemmas.{entries-done, entries-refused}
use Rattle.dr_steps.proofs.LandLemmas.{exact}
use Rattle.dr_steps.proofs.PathLemmas.{owner-there}
use Rattle.dr_steps.proofs.StepLemmas.{plan-unless, plan-free}

-- the subsystem has a server
module _ (s : PlantState) (t : ConfigTable) (h : Tables) (ev : List Event) (line : ℕ) (sound : IsSoundConfig t) (dev : Option Name) (l a : ℕ) (first : lss_owner t l ≡ Some a) (low : a < 8) where
  abbrev w : World
  w = here s t h ev

  abbrev k : Control
  k = w.control

  abbrev freeing : List Entry
  freeing = map (flash_free_on l) (ids_of t.volumes)

  owned : after_plan w line (release_plan k dev l) ≡ after_plan w line (unless (release_refusal k dev a) (release_done k l))
  owned = owner-there s t h ev line sound l a (λ x. unless (release_refusal k dev x) (release_done k l)) first

  -- why it is refused, by the name and by the server
  release-by : (n on : Bool) → is_named dev a k ≡ n → s.on a ≡ on → release_refusal k dev a ≡ (if not n then Some (unknown OfServer) else if not on then Some (server_off a) else None)
  release-by n on names runs = λ i. if not (names i) then Some (unknown OfServer) else if not ((on-seen s a low ∙ runs) i) then Some (server_off a) else None

  refused-by : (r : Refusal) → release_refusal k dev a ≡ Some r → after_plan w line (release_plan k dev l) ≡ said w line (Refused r)
  refused-by r why = owned ∙ plan-unless w line (release_done k l) _ r why

  pub release-foreign : is_named dev a k ≡ false → after_plan w line (release_plan k dev l) ≡ said w line (Refused (unknown OfServer))
  release-foreign names = refused-by (unknown OfServer) (release-by false _ names refl)

  pub release-off : is_named dev a k ≡ true → s.on a ≡ false → after_plan w line (release_plan k dev l) ≡ said w line (Refused (server_off a))
  release-off names runs = refused-by (server_off a) (release-by true false names runs)

  -- the check of the call passes then, and its entries are those of the plan
  module _ (u : PlantState) (mid : List Event) (pass : ReadsPass s) (names : is_named dev a k ≡ true) (on : s.on a ≡ true) where
    abbrev after : World
    after = here u t h mid

    carried : (r : Option Refusal) → Ends (armed_in s) after r w (thaw_checks (owner_in t l) ++ freeing) → carry w freeing ≡ (after, r)
    carried r ends =
        sym (carry-passed w (is_up (owner_in t l)) (server_off (owner_in t l)) freeing (up-here s t (rest_of h ev) ev l a low (sym first) ∙ on))
        ∙ exact s after r w (thaw_checks (owner_in t l) ++ freeing) pass ends

    goes : {x : World} → after_plan w line (release_done k l) ≡ x → after_plan w line (release_plan k dev l) ≡ x
    goes {x} is = owned ∙ plan-free w x line (release_done k l) _ (release-by true true names on) is

    pub release-done : Ends (armed_in s) after None w (thaw_checks (owner_in t l) ++ freeing) → after_plan w line (release_plan k dev l) ≡ said after line (Done Alone)
    release-done ends = goes (entries-done w after line freeing (Done Alone) (carried None ends))

    pub release-failed : (r : Refusal) → Ends (armed_in s) after (Some r) w (thaw_checks (owner_in t l) ++ freeing) → after_plan w line (release_plan k dev l) ≡ said after line (Refused r)
    release-failed r ends = goes (entries-refused w after line freeing (Done Alone) r (carried (Some r) ends))
