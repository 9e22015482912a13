-- Entries that follow checks.
use Rattle.std.proofs.Common.{ℕ, ◌≡◌, Bool, true, ap, ◌∙◌, List, [], ◌∷◌, ◌++◌, sym, subst, Option, None, Some}
use Rattle.std.proofs.lemmas.List.{append_assoc}
use Rattle.dr_ids.specs.declared.refusal.Refusal.{Refusal}
use Rattle.dr_model.specs.Control.{World}
use Rattle.dr_model.specs.Carry.{Entry, Pass, now}
use Rattle.dr_model.specs.ReadStops.{Ends}
use Rattle.std.specs.Prelude.{Result, Ok, Err, OnOk, OnErr}
use Rattle.dr_plant.specs.State.{PlantState}
use Rattle.dr_config.specs.Table.{ConfigTable}
use Rattle.dr_model.specs.declared.event.Event.{Event}
use Rattle.dr_model.specs.Refusals.{stopped}
use Rattle.dr_model.specs.Relations.{lowest}
use Rattle.dr_model.specs.Entries.{for_lowest, on_found, keep_on, give_back}
use Rattle.dr_model.specs.Moves.{Restore, Release}
use Rattle.dr_incr.specs.Steps.{keeps_of}
use Rattle.dr_facts.proofs.Ends.{ends-skips}
use Rattle.dr_volume.specs.View.{Rest, volume_seen}
use Rattle.dr_moves.specs.Checks.{is_stop}
use Rattle.dr_moves.specs.Here.{world_seen, refusal_of}
use Rattle.dr_moves.specs.Turns.{Advances, Halts, Leads, Fails}
use Rattle.dr_moves.proofs.EntryLemmas.{led, failed}
use Rattle.dr_moves.proofs.LeadLemmas.{then-leads}

pub then-advances : (w v : World) (es : List Entry) (d : Entry) → Leads w es w → Advances w d v → Leads w (es ++ d ∷ []) v
then-advances w v es d first goes armed u r ds more = subst (Ends armed u r w) (sym (append_assoc es (d ∷ []) ds)) (first armed u r (d ∷ ds) (goes armed u r ds more))

pub then-halts : (armed : ℕ → Bool) (w u : World) (r : Option Refusal) (es : List Entry) (d : Entry) → Leads w es w → Halts armed w d u r → Fails armed w (es ++ d ∷ []) u r
then-halts armed w u r es d first halts ds = subst (Ends armed u r w) (sym (append_assoc es (d ∷ []) ds)) (first armed u r (d ∷ ds) (halts ds))

-- what comes for the lowest track that v holds
pub lowest-entry : (s : PlantState) (t : ConfigTable) (r : Rest) (ev : List Event) (v k : ℕ) (d : ℕ → Entry) → lowest (volume_seen s t v).tracks (volume_seen s t v).fields.own ≡ Some k → for_lowest v d (world_seen s t r ev).control ≡ d k (world_seen s t r ev).control
lowest-entry s t r ev v k d held = ap (λ o. on_found o d (world_seen s t r ev).control) held

-- a call that ends as its only act
pub stop-refused : (r : Result (Unit {0}) Refusal) (n m : ℕ) → OnErr r (refusal_of r ≡ Some (stopped n)) → n ≡ m → is_stop (refusal_of r) ≡ true → refusal_of r ≡ Some (stopped m)
stop-refused (Ok x) n m refused same stop = absurd cc
stop-refused (Err e) n m refused same stop = refused ∙ ap (λ z. Some (stopped z)) same

-- the entries end as those that led on or failed say, of each rest of which this holds
pub ends-if : {T : Type 0} (res : Result T Refusal) (armed : ℕ → Bool) (A : Rest → Type 0) (w u : Rest → World) (es : Rest → List Entry)
    → OnOk res ((r : Rest) → A r → Leads (w r) (es r) (u r)) → OnErr res ((r : Rest) → A r → Fails armed (w r) (es r) (u r) (refusal_of res)) → (r : Rest) → A r → Ends armed (u r) (refusal_of res) (w r) (es r)
ends-if (Ok x) armed A w u es leads fails r a = led armed (w r) (u r) (es r) (leads r a)
ends-if (Err e) armed A w u es leads fails r a = failed armed (w r) (u r) (Some e) (es r) (fails r a)

-- where v holds no track, nothing comes for one
pub none-entry : (s : PlantState) (t : ConfigTable) (r : Rest) (ev : List Event) (v : ℕ) (d : ℕ → Entry) → lowest (volume_seen s t v).tracks (volume_seen s t v).fields.own ≡ None → for_lowest v d (world_seen s t r ev).control ≡ Pass
none-entry s t r ev v d none = ap (λ o. on_found o d (world_seen s t r ev).control) none

none-keeps : (s : PlantState) (t : ConfigTable) (r : Rest) (ev : List Event) (from v : ℕ) (us : List ℕ) → lowest (volume_seen s t v).tracks (volume_seen s t v).fields.own ≡ None → Leads (world_seen s t r ev) (keeps_of us from v) (world_seen s t r ev)
none-keeps s t r ev from v [] none armed u x ds more = more
none-keeps s t r ev from v (q ∷ us) none armed u x ds more =
    ends-skips armed u x (world_seen s t r ev) (for_lowest v (λ k. keep_on from k q)) (keeps_of us from v ++ ds) (none-entry s t r ev v (λ k. keep_on from k q) none) (none-keeps s t r ev from v us none armed u x ds more)

pub none-back : (s : PlantState) (t : ConfigTable) (r : Rest) (ev : List Event) (from v : ℕ) (us : List ℕ) → lowest (volume_seen s t v).tracks (volume_seen s t v).fields.own ≡ None → Leads (world_seen s t r ev) (give_back us from v) (world_seen s t r ev)
none-back s t r ev from v us none =
    then-leads (world_seen s t r ev) (world_seen s t r ev) (world_seen s t r ev) (keeps_of us from v) (for_lowest v (λ k. now (Restore from k v)) ∷ for_lowest v (λ k. now (Release v k)) ∷ []) (none-keeps s t r ev from v us none)
    (λ armed u x ds more.
    ends-skips armed u x (world_seen s t r ev) (for_lowest v (λ k. now (Restore from k v))) (for_lowest v (λ k. now (Release v k)) ∷ ds) (none-entry s t r ev v (λ k. now (Restore from k v)) none)
    (ends-skips armed u x (world_seen s t r ev) (for_lowest v (λ k. now (Release v k))) ds (none-entry s t r ev v (λ k. now (Release v k)) none) more))
