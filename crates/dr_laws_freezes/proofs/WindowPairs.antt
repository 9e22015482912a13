-- A plan that makes a pair in freeze windows: its primary had no part.
use Rattle.std.proofs.Common.{ℕ, ◌≡◌, ◌≢◌, refl, ap, sym, ◌∙◌, Bool, true, false, List, [], ◌∷◌, Option, None, cond, ◌++◌}
use Rattle.dr_ids.specs.declared.refusal.Refusal.{Refusal}
use Rattle.dr_model.specs.declared.said.Addition.TheVariants.{Alone}
use Rattle.dr_model.specs.declared.said.Said.TheVariants.{Done}
use Rattle.dr_model.specs.declared.state.Part.{Part}
use Rattle.dr_model.specs.declared.state.PairState.{PairState}
use Rattle.dr_model.specs.declared.step.Devs.{Devs}
use Rattle.dr_model.specs.declared.step.PairChoices.{PairChoices}
use Rattle.dr_model.specs.Layout.{is_part}
use Rattle.dr_model.specs.Control.{Control, Volume, World}
use Rattle.dr_model.specs.Pairs.{first_state}
use Rattle.dr_model.specs.Moves.{Move, MakeSecondary, MakePrimary}
use Rattle.dr_model.specs.Carry.{Make, Do, Entry, now, check}
use Rattle.dr_model.specs.PairEntries.{refuse_if, reach_refusal, two_servers, may_follow, differs_at, make_entries, may_lead, first_differing}
use Rattle.dr_model.specs.Entries.{fields_at, is_running, share_size, is_no_target, is_settled}
use Rattle.dr_model.specs.Plans.{make_pair_plan, is_defined, is_owner, cascades, cascade_refusal}
use Rattle.dr_laws_sound.proofs.Turns.{done}
use Rattle.dr_laws_sound.proofs.KeepsSound.{Along, comes}
use Rattle.dr_laws_sound.proofs.FitsFlash.{as_begun}
use Rattle.dr_laws_sound.proofs.FitsPairs.{along-pair, row}
use Rattle.dr_laws_freezes.proofs.Chains.{WindowAlong, window-nil, PlanFin, good-none}
use Rattle.dr_laws_freezes.proofs.WindowActs.{Between, window-move, window-check, window-refuse}
use Rattle.dr_laws_freezes.proofs.WindowPlans.{good-between, answers-between, begun-between, EntriesHold, fin}
use Rattle.dr_logic.proofs.Tables.{at_other}
use Rattle.dr_model.specs.Contents.{image_at}

-- the two moves that make a pair
module _ (Fin : Option ℕ → World → Option Refusal → Type 0) (fin : (w : World) (r : Option Refusal) → Between w → Fin None w r) (a b : ℕ) (kind : Part) (full : Bool) where
  abbrev state : PairState
  state = first_state kind full

  abbrev second : Move
  second = MakeSecondary b a kind state

  abbrev first : Move
  first = MakePrimary a b kind state full

  makes : (w : World) → Between w → Along w (now second ∷ now first ∷ []) → WindowAlong Fin None w (now second ∷ now first ∷ [])
  makes w k along =
      let one = comes w (now second) (now first ∷ []) (Do (Make second)) refl along in
      window-move Fin fin w k (now second) second (now first ∷ []) refl one.0 tt tt refl (λ f k2.
      let w2 : World = done w second f in
      let two = comes w2 (now first) [] (Do (Make first)) refl (one.1 f k2.sound) in
      let ne : a ≢ b = λ e. one.0.allowed.apart (ap (λ j. (w.control.volume j).server) (sym e)) in
      let none : is_part (fields_at w2.control a).primary ≡ false = ap (λ (y : Volume). is_part y.fields.primary) (at_other w.control.volume b (row w second f) a ne) ∙ one.0.allowed.from_first in
      window-move Fin fin w2 k2 (now first) first [] refl two.0 none refl refl (λ g k3. window-nil Fin None (done w2 first g) (good-none (done w2 first g) k3.sound.rows k3.in_sync.fresh k3.sound.queue.lone) (fin (done w2 first g) None k3)))

module _ (w : World) (k : Between w) (devs : Devs) (a b : ℕ) (kind : Part) (choices : PairChoices) where
  abbrev entries : List Entry
  entries = (make_pair_plan w.control w.events devs a b kind choices).entries

  abbrev Fins : Option ℕ → World → Option Refusal → Type 0
  Fins = PlanFin Between good-between answers-between (make_pair_plan w.control w.events devs a b kind choices)

  abbrev start : World
  start = as_begun w

  fins : (u : World) (r : Option Refusal) → Between u → Fins None u r
  fins = fin entries (Done Alone)

  checked : (ok : Control → Bool) (r : Refusal) (ds : List Entry) → (Along start ds → WindowAlong Fins None start ds) → Along start (check ok r ∷ ds) → WindowAlong Fins None start (check ok r ∷ ds)
  checked ok r ds go al = window-check Fins fins start (begun-between w k) ok r ds al (λ h. go)

  refusing : (why : Control → Option Refusal) (ds : List Entry) → (Along start ds → WindowAlong Fins None start ds) → Along start (refuse_if why ∷ ds) → WindowAlong Fins None start (refuse_if why ∷ ds)
  refusing why ds go al = window-refuse Fins fins start (begun-between w k) why ds al (λ h. go)

  abbrev difference : Option ℕ
  difference = cond choices.full None (first_differing (image_at w.events) (w.control.volume a).tracks a b)

  made : (cascade : Bool) → Along start (make_entries w.control a b kind cascade choices.full difference) → WindowAlong Fins None start (make_entries w.control a b kind cascade choices.full difference)
  made cascade =
      checked (is_running a) _ _ (refusing (reach_refusal a b) _
      (checked (two_servers a b) _ _ (checked (share_size a b) _ _ (checked (may_lead cascade a b) _ _ (checked (may_follow a b) _ _ (checked (is_no_target a) _ _ (checked (is_no_target b) _ _ (checked (is_settled b) _ _ (refusing (differs_at difference) _
      (makes Fins fins a b kind choices.full start (begun-between w k)))))))))))

  cascading : (cascade : Bool) → let ds : List Entry = cond cascade (refuse_if (cascade_refusal a) ∷ []) [] ++ make_entries w.control a b kind cascade choices.full difference in Along start ds → WindowAlong Fins None start ds
  cascading true = refusing (cascade_refusal a) _ (made true)
  cascading false = made false

  pub window-pair : is_part kind ≡ true → EntriesHold w (make_pair_plan w.control w.events devs a b kind choices)
  window-pair part =
      checked (is_defined a) _ _ (checked (is_defined b) _ _ (checked (is_owner devs.dev a) _ _ (checked (is_owner devs.remotedev b) _ _ (cascading (cascades kind choices))))) (along-pair w k.sound devs a b kind choices part)
