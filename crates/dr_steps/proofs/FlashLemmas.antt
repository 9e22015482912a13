-- What a step of entries comes to, once its volumes are found.
use Rattle.std.proofs.Common.{ℕ, ◌≡◌, List, ◌++◌, refl, sym, ◌∙◌, ap, subst, true, false, Option, Some, None, Result, Ok, Err}
use Rattle.std.specs.Prelude.{is_some}
use Rattle.std.proofs.lemmas.List.{append-nil}
use Rattle.dr_logic.specs.Counts.{Counted}
use Rattle.dr_ids.specs.declared.refusal.Refusal.{Refusal}
use Rattle.dr_plant.specs.State.{PlantState}
use Rattle.dr_config.specs.Table.{ConfigTable, entry_of, server_named}
use Rattle.dr_config.specs.declared.entries.VolumeEntry.{VolumeEntry}
use Rattle.dr_steps.specs.declared.tables.Tables.{Tables}
use Rattle.dr_model.specs.declared.event.Event.{Event}
use Rattle.dr_model.specs.declared.said.Said.{Said}
use Rattle.dr_model.specs.declared.said.Said.TheVariants.{Refused}
use Rattle.dr_model.specs.declared.said.Addition.{Addition}
use Rattle.dr_model.specs.Control.{World}
use Rattle.dr_model.specs.Carry.{Entry, carry}
use Rattle.dr_model.specs.Entries.{is_at}
use Rattle.dr_model.specs.Plans.{entries_plan, found_pair, is_defined, is_owner, name_bytes}
use Rattle.dr_model.specs.Refusals.{unknown}
use Rattle.dr_ids.specs.declared.refusal.Kind.TheVariants.{Volume as OfVolume, Server as OfServer}
use Rattle.dr_model.specs.declared.step.Name.{Name}
use Rattle.dr_model.specs.Runs.{after_plan, said}
use Rattle.dr_model.specs.ReadStops.{Ends}
use Rattle.dr_model.proofs.CarryLemmas.{plan-ends, plan-fails}
use Rattle.dr_volume.specs.View.{ReadsPass}
use Rattle.dr_moves.proofs.EntryLemmas.{refuses}
use Rattle.dr_facts.proofs.Ends.{ends-passed}
use Rattle.dr_moves.specs.Here.{armed_in, IsAtRest}
use Rattle.dr_moves.specs.Checks.{Checked, is_stop}
use Rattle.dr_steps.specs.Faults.{CountsStop}
use Rattle.dr_steps.specs.Here.{here, IsReady, IsTold}
use Rattle.dr_steps.specs.Located.{defined_checks}
use Rattle.dr_steps.proofs.LandLemmas.{exact, told-through, ready-after}
use Rattle.dr_steps.proofs.LocatedLemmas.{is_volume-here}
use Rattle.dr_steps.proofs.StepLemmas.{is_stopped-alike}

-- a plan of entries, by what they come to
pub entries-done : (w u : World) (line : ℕ) (entries : List Entry) (a : Said) → carry w entries ≡ (u, None) → after_plan w line (entries_plan entries a) ≡ said u line a
entries-done w u line entries a is = plan-ends w line (entries_plan entries a) (u, None) (ap (λ es. carry (record w { events = es }) entries) (append-nil w.events) ∙ is)

pub entries-refused : (w u : World) (line : ℕ) (entries : List Entry) (a : Said) (r : Refusal) → carry w entries ≡ (u, Some r) → after_plan w line (entries_plan entries a) ≡ said u line (Refused r)
entries-refused w u line entries a r is = plan-fails w u line (entries_plan entries a) r (λ s. refl) (ap (λ es. carry (record w { events = es }) entries) (append-nil w.events) ∙ is)

-- a call that adds nothing to its answer
pub adds : Result (Unit {0}) Refusal → Addition → Result Addition Refusal
adds (Ok x) a = Ok a
adds (Err r) a = Err r

-- a step on a relationship: its volumes are found, and then this comes
module _ (c : ConfigTable) (s u : PlantState) (h : Tables) (ev mid : List Event) (found more : List Entry) (a : Said) (pass : ReadsPass s) where
  abbrev pub before : World
  before = here s c h ev

  abbrev pub after : World
  after = here u c h mid

  found-then : (r : Option Refusal) → Checked before found None → Ends (armed_in s) after r before more → carry before (found ++ more) ≡ (after, r)
  found-then r checked ends = exact s after r before (found ++ more) pass (checked (armed_in s) after r more ends)

  -- they aren't found
  pub step-nowhere : (why : Refusal) → Checked before found (Some why) → (line : ℕ) → after_plan before line (entries_plan (found ++ more) a) ≡ said before line (Refused why)
  step-nowhere why checked line = entries-refused before before line (found ++ more) a why (exact s before (Some why) before (found ++ more) pass (checked (armed_in s) more))

  pub step-done : Checked before found None → Ends (armed_in s) after None before more → (line : ℕ) → after_plan before line (entries_plan (found ++ more) a) ≡ said after line a
  step-done checked ends line = entries-done before after line (found ++ more) a (found-then None checked ends)

  pub step-refused : (r : Refusal) → Checked before found None → Ends (armed_in s) after (Some r) before more → (line : ℕ) → after_plan before line (entries_plan (found ++ more) a) ≡ said after line (Refused r)
  step-refused r checked ends line = entries-refused before after line (found ++ more) a r (found-then (Some r) checked ends)

  pub step-ready : (r : Option Refusal) → Checked before found None → Ends (armed_in s) after r before more → IsAtRest u c → ((q : ℕ) → s.read_fuse q ≡ None → u.read_fuse q ≡ None) → IsTold h ev → IsReady u c h mid
  step-ready r checked ends rest unarmed told = ready-after c s u h mid pass rest unarmed (told-through h before after (found ++ more) r (found-then r checked ends) told)

-- the plant's count of faults, by the refusal
pub counted-refusal : (r : Refusal) (s u : PlantState) → Counted (is_stop (Some r)) s.faults u.faults → CountsStop (Refused r) s u
counted-refusal r s u counted = subst (λ b. Counted b s.faults u.faults) (sym (is_stopped-alike r)) counted

-- a name that no server has, and one that a server has
pub owner-none : (c : ConfigTable) (name : Name) (bytes : List ℕ) (v : ℕ) → bytes ≡ name_bytes name → None ≡ server_named c bytes → false ≡ is_at (server_named c (name_bytes name)) v
owner-none c name bytes v named none = ap (λ o. is_at o v) (none ∙ ap (server_named c) named)

pub owner-some : (c : ConfigTable) (name : Name) (bytes : List ℕ) (owner v w : ℕ) → bytes ≡ name_bytes name → Some owner ≡ server_named c bytes → w ≡ v → is_at (Some owner) v ≡ is_at (server_named c (name_bytes name)) w
owner-some c name bytes owner v w named some is = (λ i. is_at ((some ∙ ap (server_named c) named) i) (sym is i))

module _ (x : PlantState) (c : ConfigTable) (h : Tables) (ev : List Event) (dev : Option Name) (s t : ℕ) where
  abbrev pub w : World
  w = here x c h ev

  -- the first volume isn't there, the second isn't, or the first is another server's
  pub found-first : (why : Refusal) → entry_of c s ≡ None → why ≡ unknown OfVolume → Checked w (found_pair dev s t) (Some why)
  found-first why none is armed more =
      refuses armed w (is_defined s) (unknown OfVolume) (Some why) _ (is_volume-here x c h ev s ∙ ap is_some none) (ap Some is)

  there : (v : ℕ) (e : VolumeEntry) → entry_of c v ≡ Some e → is_defined v w.control ≡ true
  there v e some = is_volume-here x c h ev v ∙ ap is_some some

  pub found-second : (why : Refusal) (e : VolumeEntry) → entry_of c s ≡ Some e → entry_of c t ≡ None → why ≡ unknown OfVolume → Checked w (found_pair dev s t) (Some why)
  found-second why e some none is armed more =
      ends-passed armed w (Some why) w (is_defined s) (unknown OfVolume) _ (there s e some)
      (refuses armed w (is_defined t) (unknown OfVolume) (Some why) _ (is_volume-here x c h ev t ∙ ap is_some none) (ap Some is))

  pub found-foreign : (why : Refusal) (e f : VolumeEntry) → entry_of c s ≡ Some e → entry_of c t ≡ Some f → is_owner dev s w.control ≡ false → why ≡ unknown OfServer → Checked w (found_pair dev s t) (Some why)
  found-foreign why e f some more_some foreign is armed more =
      ends-passed armed w (Some why) w (is_defined s) (unknown OfVolume) _ (there s e some)
      (ends-passed armed w (Some why) w (is_defined t) (unknown OfVolume) _ (there t f more_some)
      (refuses armed w (is_owner dev s) (unknown OfServer) (Some why) _ foreign (ap Some is)))

  pub found-both : (e f : VolumeEntry) → entry_of c s ≡ Some e → entry_of c t ≡ Some f → is_owner dev s w.control ≡ true → Checked w (found_pair dev s t) None
  found-both e f some more_some owned armed u r more ends =
      ends-passed armed u r w (is_defined s) (unknown OfVolume) _ (there s e some)
      (ends-passed armed u r w (is_defined t) (unknown OfVolume) _ (there t f more_some)
      (ends-passed armed u r w (is_owner dev s) (unknown OfServer) _ owned ends))

  -- of two volumes the first isn't there, the second isn't, or both are
  pub undefined-first : (why : Refusal) → entry_of c s ≡ None → why ≡ unknown OfVolume → Checked w (defined_checks s t) (Some why)
  undefined-first why none is armed more =
      refuses armed w (is_defined s) (unknown OfVolume) (Some why) _ (is_volume-here x c h ev s ∙ ap is_some none) (ap Some is)

  pub undefined-second : (why : Refusal) (e : VolumeEntry) → entry_of c s ≡ Some e → entry_of c t ≡ None → why ≡ unknown OfVolume → Checked w (defined_checks s t) (Some why)
  undefined-second why e some none is armed more =
      ends-passed armed w (Some why) w (is_defined s) (unknown OfVolume) _ (there s e some)
      (refuses armed w (is_defined t) (unknown OfVolume) (Some why) _ (is_volume-here x c h ev t ∙ ap is_some none) (ap Some is))

  pub both-defined : (e f : VolumeEntry) → entry_of c s ≡ Some e → entry_of c t ≡ Some f → Checked w (defined_checks s t) None
  both-defined e f some more_some armed u r more ends =
      ends-passed armed u r w (is_defined s) (unknown OfVolume) _ (there s e some)
      (ends-passed armed u r w (is_defined t) (unknown OfVolume) _ (there t f more_some) ends)
