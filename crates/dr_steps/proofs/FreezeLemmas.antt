-- What a line that freezes or thaws comes to.
use Rattle.std.proofs.Common.{ℕ, ◌≡◌, ◌<◌, List, ◌++◌, refl, sym, ◌∙◌, Bool, true, false, not, ◌&&◌, Option, Some, None}
use Rattle.std.specs.Prelude.{is_some, if◌then◌else◌}
use Rattle.dr_ids.specs.Paths.{path_in}
use Rattle.dr_ids.specs.declared.refusal.Refusal.{Refusal}
use Rattle.dr_ids.specs.declared.refusal.Kind.TheVariants.{Server as OfServer, Path as OfPath}
use Rattle.dr_plant.specs.State.{PlantState}
use Rattle.dr_config.specs.Table.{ConfigTable, lss_owner, IsSoundConfig}
use Rattle.dr_steps.specs.declared.tables.Tables.{Tables}
use Rattle.dr_model.specs.declared.event.Event.{Event}
use Rattle.dr_model.specs.declared.said.Said.TheVariants.{Done, Refused}
use Rattle.dr_model.specs.declared.said.Addition.TheVariants.{Alone}
use Rattle.dr_model.specs.declared.step.Devs.{Devs}
use Rattle.dr_model.specs.Control.{Control, World}
use Rattle.dr_model.specs.Carry.{Entry, carry}
use Rattle.dr_model.specs.ReadStops.{Ends}
use Rattle.dr_model.specs.WriteEntries.{freeze_entries, thaw_entries}
use Rattle.dr_model.specs.Plans.{Plan, owner_of, on_owner, is_named, unless, freeze_refusal, freeze_done, freeze_plan, thaw_refusal, unfreeze_done, thaw_plan}
use Rattle.dr_model.specs.Refusals.{unknown, server_off}
use Rattle.dr_model.specs.Runs.{after_plan, said}
use Rattle.dr_model.proofs.CarryLemmas.{carry-passed}
use Rattle.dr_volume.specs.View.{ids_of, ReadsPass}
use Rattle.dr_moves.specs.Here.{armed_in, IsAtRest}
use Rattle.dr_freeze.specs.Checks.{owner_in, has_path, is_up, freeze_checks, thaw_checks}
use Rattle.dr_freeze.proofs.OwnerLemmas.{up-here}
use Rattle.dr_steps.specs.Here.{here, rest_of, IsReady}
use Rattle.dr_steps.proofs.FlashLemmas.{entries-done, entries-refused}
use Rattle.dr_steps.proofs.LandLemmas.{exact, told-through, ready-after}
use Rattle.dr_steps.proofs.PathLemmas.{owner-there}
use Rattle.dr_steps.proofs.StepLemmas.{plan-unless, plan-free}
use Rattle.dr_volume.proofs.WorldLaws.{on-seen}

-- both subsystems have a server
module _ (s : PlantState) (t : ConfigTable) (h : Tables) (ev : List Event) (line : ℕ) (sound : IsSoundConfig t) (devs : Devs) (src tgt a b : ℕ) (first : lss_owner t src ≡ Some a) (second : lss_owner t tgt ≡ Some b) (low : a < 8) where
  abbrev w : World
  w = here s t h ev

  abbrev k : Control
  k = w.control

  abbrev named : Bool
  named = is_named devs.dev a k && is_named devs.remotedev b k

  abbrev freezing : List Entry
  freezing = freeze_entries (ids_of t.volumes) src tgt

  abbrev thawing : List Entry
  thawing = thaw_entries (ids_of t.volumes) src tgt

  owned : (plan : ℕ → ℕ → Plan) → after_plan w line (on_owner (owner_of k src) (λ x. on_owner (owner_of k tgt) (plan x))) ≡ after_plan w line (plan a b)
  owned plan = owner-there s t h ev line sound src a (λ x. on_owner (owner_of k tgt) (plan x)) first ∙ owner-there s t h ev line sound tgt b (plan a) second

  up : s.on a ≡ true → is_up (owner_in t src) k ≡ true
  up on = up-here s t (rest_of h ev) ev src a low (sym first) ∙ on

  -- why a thaw is refused, by the names and by the server
  thaw-by : (n on : Bool) → named ≡ n → s.on a ≡ on → thaw_refusal k devs a b ≡ (if not n then Some (unknown OfServer) else if not on then Some (server_off a) else None)
  thaw-by n on names runs = λ i. if not (names i) then Some (unknown OfServer) else if not ((on-seen s a low ∙ runs) i) then Some (server_off a) else None

  thaw-refused-by : (r : Refusal) → thaw_refusal k devs a b ≡ Some r → after_plan w line (thaw_plan k devs src tgt) ≡ said w line (Refused r)
  thaw-refused-by r why = owned (λ x y. unless (thaw_refusal k devs x y) (unfreeze_done k src tgt)) ∙ plan-unless w line (unfreeze_done k src tgt) _ r why

  pub thaw-foreign : named ≡ false → after_plan w line (thaw_plan k devs src tgt) ≡ said w line (Refused (unknown OfServer))
  thaw-foreign names = thaw-refused-by (unknown OfServer) (thaw-by false _ names refl)

  pub thaw-off : named ≡ true → s.on a ≡ false → after_plan w line (thaw_plan k devs src tgt) ≡ said w line (Refused (server_off a))
  thaw-off names runs = thaw-refused-by (server_off a) (thaw-by true false names runs)

  -- and why a freeze is, by the path too
  freeze-by : (there n on : Bool) → is_some (path_in t.paths src tgt) ≡ there → named ≡ n → s.on a ≡ on
      → freeze_refusal k devs src tgt a b ≡ (if not there then Some (unknown OfPath) else if not n then Some (unknown OfServer) else if not on then Some (server_off a) else None)
  freeze-by there n on is names runs = λ i. if not (is i) then Some (unknown OfPath) else thaw-by n on names runs i

  freeze-refused-by : (r : Refusal) → freeze_refusal k devs src tgt a b ≡ Some r → after_plan w line (freeze_plan k devs src tgt) ≡ said w line (Refused r)
  freeze-refused-by r why = owned (λ x y. unless (freeze_refusal k devs src tgt x y) (freeze_done k src tgt)) ∙ plan-unless w line (freeze_done k src tgt) _ r why

  pub freeze-nowhere : is_some (path_in t.paths src tgt) ≡ false → after_plan w line (freeze_plan k devs src tgt) ≡ said w line (Refused (unknown OfPath))
  freeze-nowhere none = freeze-refused-by (unknown OfPath) (freeze-by false named (s.on a) none refl refl)

  pub freeze-foreign : is_some (path_in t.paths src tgt) ≡ true → named ≡ false → after_plan w line (freeze_plan k devs src tgt) ≡ said w line (Refused (unknown OfServer))
  freeze-foreign there names = freeze-refused-by (unknown OfServer) (freeze-by true false (s.on a) there names refl)

  pub freeze-off : is_some (path_in t.paths src tgt) ≡ true → named ≡ true → s.on a ≡ false → after_plan w line (freeze_plan k devs src tgt) ≡ said w line (Refused (server_off a))
  freeze-off there names runs = freeze-refused-by (server_off a) (freeze-by true true false there names runs)

  -- the checks of the call pass then, and its entries are those of the plan
  module _ (u : PlantState) (n : ConfigTable) (mid : List Event) (pass : ReadsPass s) (names : named ≡ true) (on : s.on a ≡ true) where
    abbrev after : World
    after = here u n h mid

    thaw-carried : (r : Option Refusal) → Ends (armed_in s) after r w (thaw_checks (owner_in t src) ++ thawing) → carry w thawing ≡ (after, r)
    thaw-carried r ends = sym (carry-passed w (is_up (owner_in t src)) (server_off (owner_in t src)) thawing (up on)) ∙ exact s after r w (thaw_checks (owner_in t src) ++ thawing) pass ends

    thaw-goes : {x : World} → after_plan w line (unfreeze_done k src tgt) ≡ x → after_plan w line (thaw_plan k devs src tgt) ≡ x
    thaw-goes {x} is = owned (λ x y. unless (thaw_refusal k devs x y) (unfreeze_done k src tgt)) ∙ plan-free w x line (unfreeze_done k src tgt) _ (thaw-by true true names on) is

    pub thaw-done : Ends (armed_in s) after None w (thaw_checks (owner_in t src) ++ thawing) → after_plan w line (thaw_plan k devs src tgt) ≡ said after line (Done Alone)
    thaw-done ends = thaw-goes (entries-done w after line thawing (Done Alone) (thaw-carried None ends))

    pub thaw-failed : (r : Refusal) → Ends (armed_in s) after (Some r) w (thaw_checks (owner_in t src) ++ thawing) → after_plan w line (thaw_plan k devs src tgt) ≡ said after line (Refused r)
    thaw-failed r ends = thaw-goes (entries-refused w after line thawing (Done Alone) r (thaw-carried (Some r) ends))

    module _ (there : is_some (path_in t.paths src tgt) ≡ true) where
      freeze-carried : (r : Option Refusal) → Ends (armed_in s) after r w (freeze_checks (owner_in t src) src tgt ++ freezing) → carry w freezing ≡ (after, r)
      freeze-carried r ends =
          sym (carry-passed w (has_path src tgt) (unknown OfPath) (thaw_checks (owner_in t src) ++ freezing) there ∙ carry-passed w (is_up (owner_in t src)) (server_off (owner_in t src)) freezing (up on))
          ∙ exact s after r w (freeze_checks (owner_in t src) src tgt ++ freezing) pass ends

      freeze-goes : {x : World} → after_plan w line (freeze_done k src tgt) ≡ x → after_plan w line (freeze_plan k devs src tgt) ≡ x
      freeze-goes {x} is = owned (λ x y. unless (freeze_refusal k devs src tgt x y) (freeze_done k src tgt)) ∙ plan-free w x line (freeze_done k src tgt) _ (freeze-by true true true there names on) is

      pub freeze-done : Ends (armed_in s) after None w (freeze_checks (owner_in t src) src tgt ++ freezing) → after_plan w line (freeze_plan k devs src tgt) ≡ said after line (Done Alone)
      freeze-done ends = freeze-goes (entries-done w after line freezing (Done Alone) (freeze-carried None ends))

      pub freeze-failed : (r : Refusal) → Ends (armed_in s) after (Some r) w (freeze_checks (owner_in t src) src tgt ++ freezing) → after_plan w line (freeze_plan k devs src tgt) ≡ said after line (Refused r)
      freeze-failed r ends = freeze-goes (entries-refused w after line freezing (Done Alone) r (freeze-carried (Some r) ends))

-- what is ready stays so, where a call ends as entries do
pub ready-ends : (s u : PlantState) (t n : ConfigTable) (h : Tables) (ev mid : List Event) (r : Option Refusal) (ds : List Entry) → Ends (armed_in s) (here u n h mid) r (here s t h ev) ds → IsAtRest u n → ((q : ℕ) → s.read_fuse q ≡ None → u.read_fuse q ≡ None) → IsReady s t h ev → IsReady u n h mid
ready-ends s u t n h ev mid r ds ends rest unarmed ready =
    ready-after n s u h mid ready.reads rest unarmed (told-through h (here s t h ev) (here u n h mid) ds r (exact s (here u n h mid) r (here s t h ev) ds ready.reads ends) ready.told)
