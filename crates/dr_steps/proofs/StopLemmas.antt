-- What stopping a server and arming its fuse come to, over what plant, configuration, writes and journal
-- show.
use Rattle.std.proofs.Common.{ℕ, ◌≡◌, ◌<◌, List, [], ◌∷◌, ◌++◌, refl, ap, ◌∙◌, sym, subst, true, false, cond, Some, None}
use Rattle.std.proofs.lemmas.List.{append-nil}
use Rattle.dr_plant.specs.State.{PlantState, off}
use Rattle.dr_plant.specs.declared.plant.WriteFuse.{WriteFuse}
use Rattle.dr_plant.specs.declared.plant.Torn.{Torn}
use Rattle.dr_config.specs.Table.{ConfigTable, server_named}
use Rattle.dr_model.specs.declared.event.Event.{Event}
use Rattle.dr_model.specs.declared.event.Event.TheVariants.{Stopped}
use Rattle.dr_ids.specs.declared.refusal.Kind.TheVariants.{Server as OfServer}
use Rattle.dr_model.specs.Refusals.{unknown}
use Rattle.dr_model.specs.declared.said.Said.TheVariants.{Done, Refused}
use Rattle.dr_model.specs.declared.said.Addition.TheVariants.{Alone}
use Rattle.dr_model.specs.declared.step.Name.{Name}
use Rattle.dr_model.specs.declared.step.TornWord.{TornWord}
use Rattle.dr_model.specs.Control.{Fuse, World}
use Rattle.dr_model.specs.Plans.{Plan, only_says, on_server, on_named, name_bytes, stop_done, stop_on, armed, arm_on, torn_bytes}
use Rattle.dr_model.specs.Runs.{after_plan, said}
use Rattle.dr_model.proofs.CarryLemmas.{plan-says, plan-refuses, plan-tables}
use Rattle.dr_volume.specs.View.{torn_seen, ReadsPass}
use Rattle.dr_volume.proofs.WorldLaws.{on-at, on-seen, fuses-at}
use Rattle.dr_logic.specs.Tables.{at}
use Rattle.dr_steps.specs.Here.{here}
use Rattle.dr_moves.specs.Here.{IsAtRest}
use Rattle.dr_steps.specs.declared.tables.Tables.{Tables}

module _ (s : PlantState) (t : ConfigTable) (h : Tables) (ev : List Event) (line : ℕ) where
  abbrev w : World
  w = here s t h ev

  -- a step that names a server, where none has the name, and where one has
  pub unknown-server : (plan : ℕ → Plan) (name : Name) (bytes : List ℕ) → bytes ≡ name_bytes name → server_named t bytes ≡ None
      → after_plan w line (on_server w.control name plan) ≡ said w line (Refused (unknown OfServer))
  unknown-server plan name bytes named none =
      ap (λ x. after_plan w line (on_named (server_named t x) plan)) (sym named)
      ∙ ap (λ o. after_plan w line (on_named o plan)) none ∙ plan-refuses w line (unknown OfServer)

  pub known-server : (plan : ℕ → Plan) (name : Name) (bytes : List ℕ) (server : ℕ) (u : World) → bytes ≡ name_bytes name → server_named t bytes ≡ Some server
      → after_plan w line (plan server) ≡ u → after_plan w line (on_server w.control name plan) ≡ u
  known-server plan name bytes server u named some is =
      ap (λ x. after_plan w line (on_named (server_named t x) plan)) (sym named) ∙ ap (λ o. after_plan w line (on_named o plan)) some ∙ is

  pub stopped-already : (server : ℕ) → server < 8 → s.on server ≡ false → after_plan w line (stop_on w.control server) ≡ said w line (Done Alone)
  stopped-already server low is =
      ap (λ b. after_plan w line (cond b (stop_done server) (only_says (Done Alone)))) (on-seen s server low ∙ is) ∙ plan-says w line (Done Alone)

  pub stopped-now : (server : ℕ) (u : PlantState) (mid : List Event) → server < 8 → s.on server ≡ true → u ≡ off s server
      → mid ≡ ev ++ Stopped server 0 ∷ [] → after_plan w line (stop_on w.control server) ≡ said (here u t h mid) line (Done Alone)
  stopped-now server u mid low is gone told =
      ap (λ b. after_plan w line (cond b (stop_done server) (only_says (Done Alone)))) (on-seen s server low ∙ is)
      ∙ plan-tables w line (λ k. record k { on = at k.on server false }) (Stopped server 0 ∷ []) (Done Alone)
      ∙ (λ i. said (record w { control = record w.control { on = sym (on-at s (off s server) server false low refl) i }; events = sym told i }) line (Done Alone))
      ∙ ap (λ x. said (here x t h mid) line (Done Alone)) (sym gone)

  -- a fuse that is armed
  abbrev fused : WriteFuse → ℕ → PlantState
  fused f server = record s { write_fuse = at s.write_fuse server (Some f) }

  pub armed-now : (server writes : ℕ) (word : TornWord) (torn : Torn) (u : PlantState) → server < 8 → torn_seen torn ≡ torn_bytes word
      → u ≡ fused (record { after = writes; torn = torn }) server → after_plan w line (arm_on writes word server) ≡ said (here u t h ev) line (Done Alone)
  armed-now server writes word torn u low same is =
      let f : WriteFuse = record { after = writes; torn = torn } in
      plan-tables w line (λ k. record k { fuse = at k.fuse server (Some (armed writes word)) }) [] (Done Alone)
      ∙ ap (λ es. said (record w { control = record w.control { fuse = at w.control.fuse server (Some (armed writes word)) }; events = es }) line (Done Alone)) (append-nil ev)
      ∙ ap (λ x. said (record w { control = record w.control { fuse = at w.control.fuse server (Some (let g : Fuse = record { after = writes; torn = x } in g)) } }) line (Done Alone)) (sym same)
      ∙ (λ i. said (record w { control = record w.control { fuse = sym (fuses-at s (fused f server) server (Some f) low refl) i } }) line (Done Alone))
      ∙ ap (λ x. said (here x t h ev) line (Done Alone)) (sym is)

-- what holds between two commands holds where a server is off
pub rest-off : (s u : PlantState) (t : ConfigTable) (server : ℕ) → u ≡ off s server → IsAtRest s t → IsAtRest u t
rest-off s u t server is rest = subst (λ x. IsAtRest x t) (sym is) (record {
  stands = record { count = rest.stands.count; device = rest.stands.device };
  sizes = rest.sizes;
})

pub reads-off : (s u : PlantState) (server : ℕ) → u ≡ off s server → ReadsPass s → ReadsPass u
reads-off s u server is reads = subst ReadsPass (sym is) reads
