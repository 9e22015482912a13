-- Entries that were carried out where no read fuse is armed, and calls that failed.
use Rattle.std.proofs.Common.{ℕ, ◌≡◌, true, false, ◌&&◌, List, ◌++◌, refl, sym, ◌∙◌, ap, subst, nat_lt, arith, Option, None, Some}
use Rattle.std.specs.Prelude.{is_some, Result, Ok, Err, is_err}
use Rattle.std.specs.Result.{IsErrAnd}
use Rattle.dr_model.specs.declared.said.Addition.{Addition}
use Rattle.dr_model.specs.declared.said.Said.TheVariants.{Refused}
use Rattle.std.proofs.lemmas.Bool.Decides.{nat_tests}
use Rattle.dr_plant.specs.State.{PlantState}
use Rattle.dr_config.specs.Table.{ConfigTable}
use Rattle.dr_model.specs.Control.{World}
use Rattle.dr_ids.specs.declared.refusal.Refusal.{Refusal}
use Rattle.dr_model.specs.Carry.{Entry, Outcome, carry}
use Rattle.dr_model.specs.Histories.{histories}
use Rattle.dr_model.proofs.CarryLemmas.{carry-append, onward}
use Rattle.dr_laws_sound.proofs.Unissued.{unissued}
use Rattle.dr_model.specs.ReadStops.{Ends}
use Rattle.dr_laws_sound.proofs.ReadStops.{ends-exact}
use Rattle.dr_volume.specs.View.{ReadsPass}
use Rattle.dr_host.specs.Writes.{EachPending}
use Rattle.dr_steps.specs.declared.tables.Tables.{Tables}
use Rattle.dr_metro.proofs.ToldLemmas.{IsWrite}
use Rattle.dr_model.specs.declared.event.Event.{Event}
use Rattle.dr_steps.specs.Here.{IsReady, IsTold, said_of}
use Rattle.dr_moves.specs.Here.{IsAtRest, armed_in, refusal_of}

-- no server is armed where reads pass
pub none-armed : (s : PlantState) → ReadsPass s → (q : ℕ) → armed_in s q ≡ true → ⊥
none-armed s pass q h =
    elim (nat_lt q 8) as (λ b. nat_lt q 8 ≡ b → (b && is_some (s.read_fuse q)) ≡ true → ⊥) [
      | true ↦ λ low e. let none : is_some (s.read_fuse q) ≡ false = ap is_some (pass q (grind (arith, nat_tests, low))) in cc
      | false ↦ λ high e. cc
    ] refl h

-- so a plan ends as it is carried out
pub exact : (s : PlantState) (u : World) (r : Option Refusal) (w : World) (ds : List Entry) → ReadsPass s → Ends (armed_in s) u r w ds → carry w ds ≡ (u, r)
exact s u r w ds pass e = ends-exact (armed_in s) (none-armed s pass) u r w ds e

pub ready-after : (c : ConfigTable) (s u : PlantState) (h : Tables) (ev : List Event) → ReadsPass s → IsAtRest u c → ((q : ℕ) → s.read_fuse q ≡ None → u.read_fuse q ≡ None) → IsTold h ev → IsReady u c h ev
ready-after c s u h ev pass rest unarmed told = record { rest = rest; reads = λ q low. unarmed q (pass q low); told = told }

-- a call that failed as the one within it
pub failed-by : (r : Result Addition Refusal) (e : Refusal) → is_err r ≡ true → IsErrAnd r (λ x. x ≡ e) → said_of r ≡ Refused e
failed-by (Ok a) e failed is = absurd (cc)
failed-by (Err x) e failed is = ap (λ y. Refused y) is

pub refused-by : (r : Result (Unit {0}) Refusal) (e : Refusal) → is_err r ≡ true → IsErrAnd r (λ x. x ≡ e) → refusal_of r ≡ Some e
refused-by (Ok a) e failed is = absurd (cc)
refused-by (Err x) e failed is = ap (λ y. Some y) is

-- entries that were carried out issued no write
pub told-through : (h : Tables) (w u : World) (ds : List Entry) (r : Option Refusal) → carry w ds ≡ (u, r) → IsTold h w.events → IsTold h u.events
told-through h w u ds r is told =
    subst (λ write. EachPending (IsWrite write) h.host.pending) (sym (unissued w ds) ∙ ap (λ (o : Outcome). (histories o.0.events).write) is) told

-- what follows entries that a refusal ended, or that passed
pub ends-first : (w u : World) (first more : List Entry) (r : Refusal) → carry w first ≡ (u, Some r) → carry w (first ++ more) ≡ (u, Some r)
ends-first w u first more r is = carry-append w first more ∙ ap (λ (o : Outcome). onward o (λ v. carry v more)) is

pub goes-on : (w u : World) (first more : List Entry) → carry w first ≡ (u, None) → carry w (first ++ more) ≡ carry u more
goes-on w u first more is = carry-append w first more ∙ ap (λ (o : Outcome). onward o (λ v. carry v more)) is
