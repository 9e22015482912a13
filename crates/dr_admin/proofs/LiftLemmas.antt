-- What the end of the holds of a server's volumes comes to.
use Rattle.std.proofs.Common.{ℕ, ◌≡◌, ◌<◌, ◌≤◌, ◌+◌, ◌-◌, List, [], ◌∷◌, ◌++◌, length, map, slice_get, refl, ap, ◌∙◌, sym, subst, Bool, true, false, ◌&&◌, cond, Option, Some, None, arith}
use Rattle.std.specs.Prelude.{is_some, option_map, Result, Ok, Err, if◌then◌else◌}
use Rattle.std.proofs.Math.ListN.{length-drop, length-map}
use Rattle.std.proofs.lemmas.Bool.{and_parts}
use Rattle.std.proofs.lemmas.List.{append-nil}
use Rattle.dr_ids.specs.declared.names.VolumeId.{VolumeId}
use Rattle.dr_ids.specs.declared.refusal.Refusal.{Refusal}
use Rattle.dr_plant.specs.State.{PlantState}
use Rattle.dr_config.specs.Table.{ConfigTable, place_of}
use Rattle.dr_config.specs.declared.entries.VolumeEntry.{VolumeEntry}
use Rattle.dr_host.specs.Writes.{has_owner}
use Rattle.dr_model.specs.declared.event.Event.{Event}
use Rattle.dr_model.specs.declared.said.Addition.TheVariants.{Alone}
use Rattle.dr_model.specs.declared.said.Said.TheVariants.{Done, Refused}
use Rattle.dr_model.specs.Refusals.{server_off, stopped}
use Rattle.dr_model.specs.Control.{World}
use Rattle.dr_model.specs.Layout.{Fields}
use Rattle.dr_model.specs.Carry.{Do, Pass, Make}
use Rattle.dr_model.specs.Moves.{Lift}
use Rattle.dr_model.specs.Pairs.{held}
use Rattle.dr_model.specs.ReadStops.{Ends}
use Rattle.dr_model.specs.Plans.{Plan, expire_plan, expire_on, refuses}
use Rattle.dr_model.specs.WriteEntries.{lift_on}
use Rattle.dr_volume.specs.View.{Rest, volume_seen}
use Rattle.dr_volume.proofs.WorldLaws.{on-seen}
use Rattle.dr_moves.specs.Coming.{next_of, MayCome, RefusedAs, cost_of}
use Rattle.dr_moves.specs.Here.{world_seen, refusal_of}
use Rattle.dr_moves.specs.declared.carrying.Next.{Next}
use Rattle.dr_moves.specs.declared.carrying.Next.TheVariants as next
use Rattle.dr_moves.specs.declared.moves.Move.TheVariants as move
use Rattle.dr_flash.proofs.CopyLemmas.{ids-next}
use Rattle.dr_facts.proofs.Costs.{freed-few}
use Rattle.dr_facts.proofs.Ends.{ends-none}
use Rattle.dr_admin.specs.Answering.{Comes, lift_answer}
use Rattle.dr_admin.specs.Starting.{lift_from, lifted_by}
use Rattle.dr_admin.proofs.OwnerLemmas.{belongs-seen, own-server}

-- a volume's entry comes first of what is left
pub lift-first : (t : ConfigTable) (v server place : ℕ) → Some v ≡ option_map (λ (x : VolumeEntry). x.id) (slice_get t.volumes place) → lift_from t server place ≡ lift_on server v ∷ lift_from t server (place + 1)
lift-first t v server place at = ap (map (lift_on server)) (ids-next t place v at)

-- so many are left
pub lift-count : (t : ConfigTable) (server place : ℕ) → length (lift_from t server place) ≡ length t.volumes - place
lift-count t server place = simp (length-map, length-drop)

-- what the entry comes to
pub lift-comes : (s : PlantState) (t : ConfigTable) (r : Rest) (ev : List Event) (v : VolumeId) (server : ℕ) → lift_on server v.0 (world_seen s t r ev).control ≡ next_of (lifted_by v (has_owner t v.0 server) (volume_seen s t v.0).fields)
lift-comes s t r ev v server = ap (λ b. if b && held f then Do (Make (Lift v.0)) else Pass) (belongs-seen s t r ev v.0 server) ∙ when (has_owner t v.0 server && held f)
  where
    f : Fields
    f = (volume_seen s t v.0).fields

    when : (b : Bool) → (if b then Do (Make (Lift v.0)) else Pass) ≡ next_of (if b then next.Do (move.Lift v) else next.Pass)
    when true = refl
    when false = refl

-- at most the end of a flash hold is told
pub lift-few : (s : PlantState) (t : ConfigTable) (v : VolumeId) (server : ℕ) (n : Next) → n ≡ lifted_by v (has_owner t v.0 server) (volume_seen s t v.0).fields → cost_of n s t ≤ 1
lift-few s t v server n is = subst (λ n. cost_of n s t ≤ 1) (sym is) (by (has_owner t v.0 server && held (volume_seen s t v.0).fields))
  where
    by : (b : Bool) → cost_of (if b then next.Do (move.Lift v) else next.Pass) s t ≤ 1
    by true = freed-few v.0 (volume_seen s t v.0).fields.flash_hold
    by false = omega arith

-- a move that may come, of a volume of the server
module _ (s : PlantState) (t : ConfigTable) (v : VolumeId) (server : ℕ) (defined : is_some (place_of t v.0) ≡ true) (on : s.on server ≡ true) where
  may-if : (b : Bool) → (b ≡ true → has_owner t v.0 server ≡ true) → MayCome s t (if b then next.Do (move.Lift v) else next.Pass)
  may-if true own = record { may = record { defined = defined; running = ap s.on (own-server s t v.0 server (own refl)) ∙ on; asks = tt }; calm = refl; carries = λ w. refl }
  may-if false own = tt

  refused-if : (b : Bool) → (b ≡ true → has_owner t v.0 server ≡ true) → (q : Option Refusal) → RefusedAs s t (if b then next.Do (move.Lift v) else next.Pass) q → q ≡ Some (stopped server)
  refused-if true own q is = is ∙ ap (λ n. Some (stopped n)) (own-server s t v.0 server (own refl))
  refused-if false own q is = absurd is

  pub lift-may : MayCome s t (lifted_by v (has_owner t v.0 server) (volume_seen s t v.0).fields)
  lift-may = may-if _ (λ is. (and_parts _ _ is).0)

  pub lift-refused : (q : Option Refusal) → RefusedAs s t (lifted_by v (has_owner t v.0 server) (volume_seen s t v.0).fields) q → q ≡ Some (stopped server)
  lift-refused = refused-if _ (λ is. (and_parts _ _ is).0)

-- the plan, where the server is off, and where it is on
module _ (s : PlantState) (t : ConfigTable) (r : Rest) (ev : List Event) (server : ℕ) (low : server < 8) where
  abbrev w : World
  w = world_seen s t r ev

  plan-by : (b : Bool) → s.on server ≡ b → expire_on w.control server ≡ cond b (expire_plan w.control server) (refuses (server_off server))
  plan-by b is = ap (λ b. cond b (expire_plan w.control server) (refuses (server_off server))) (on-seen s server low ∙ is)

  pub comes-off : (armed : ℕ → Bool) → s.on server ≡ false → Comes armed w (expire_on w.control server) w (Refused (server_off server))
  comes-off armed off = subst (λ (p : Plan). Comes armed w p w (Refused (server_off server))) (sym (plan-by false off)) (record {
    refusal = None;
    carried = ends-none armed w None _ (record { world = λ i. record w { events = sym (append-nil ev) i }; refusal = refl });
    tables = refl;
    alone = λ q. refl;
    answer = refl;
  })

  module _ (armed : ℕ → Bool) (u : World) (on : s.on server ≡ true) where
    begins : (q : Option Refusal) → Ends armed u q w (lift_from t server 0) → Ends armed u q (record w { events = ev ++ [] }) (lift_from t server 0)
    begins q ends = subst (λ es. Ends armed u q (record w { events = es }) (lift_from t server 0)) (sym (append-nil ev)) ends

    pub comes-lifted : (res : Result (Unit {0}) Refusal) → Ends armed u (refusal_of res) w (lift_from t server 0) → Comes armed w (expire_on w.control server) u (lift_answer res)
    comes-lifted (Ok x) ends = subst (λ (p : Plan). Comes armed w p u (Done Alone)) (sym (plan-by true on)) (record {
      refusal = None;
      carried = begins None ends;
      tables = refl;
      alone = λ q. refl;
      answer = refl;
    })
    comes-lifted (Err why) ends = subst (λ (p : Plan). Comes armed w p u (Refused why)) (sym (plan-by true on)) (record {
      refusal = Some why;
      carried = begins (Some why) ends;
      tables = refl;
      alone = λ q. refl;
      answer = refl;
    })
