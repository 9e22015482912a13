-- The moves of a recovery, one by one.
use Rattle.std.proofs.Common.{ℕ, zero, suc, ◌≡◌, ◌≤◌, ◌-◌, List, [], ◌∷◌, ◌++◌, length, map, get_or, slice_get, arith, sym, ◌∙◌, ap, Some}
use Rattle.std.proofs.Math.ListN.{length-map}
use Rattle.std.proofs.Math.Seq.{get_or-append_right}
use Rattle.std.proofs.lemmas.List.{append-nil}
use Rattle.dr_ids.specs.declared.names.Member.{Member}
use Rattle.dr_ids.specs.declared.refusal.Decision.{Decision}
use Rattle.dr_plant.specs.State.{PlantState}
use Rattle.dr_config.specs.Table.{ConfigTable}
use Rattle.dr_model.specs.Carry.{Entry}
use Rattle.dr_model.specs.RecoveryPlans.{take_over_on, settle_on, pass_on}
use Rattle.dr_moves.specs.Coming.{Went}
use Rattle.dr_moves.specs.Made.{IsAt}
use Rattle.dr_moves.specs.declared.carrying.Next.{Next}
use Rattle.dr_moves.proofs.WentLemmas.{went-on, went-aside}
use Rattle.dr_recover.specs.Steps.{moves_of, CanGo}
use Rattle.dr_recover.proofs.EachLemmas.{all-ready, all-running}

-- an entry of each member, at a place of the list
map-at : (f : Member → Entry) (ms : List Member) (rest : List Entry) (i : ℕ) (m : Member) → slice_get ms i ≡ Some m → get_or (map f ms ++ rest) i pass_on ≡ f m
map-at f [] rest i m at = absurd cc
map-at f (x ∷ xs) rest zero m at = let e : x ≡ m = cc in ap f e
map-at f (x ∷ xs) rest (suc i) m at = map-at f xs rest i m at

module _ (s : ℕ) (d : Decision) (ms : List Member) where
  pub move-taken : (i : ℕ) (m : Member) → slice_get ms i ≡ Some m → get_or (moves_of s d ms) i pass_on ≡ take_over_on m
  move-taken i m at = map-at take_over_on ms (map (settle_on s d) ms) i m at

  pub move-settled : (i : ℕ) (m : Member) → length ms ≤ i → slice_get ms (i - length ms) ≡ Some m → get_or (moves_of s d ms) i pass_on ≡ settle_on s d m
  move-settled i m behind at =
      let size : length (map take_over_on ms) ≡ length ms = simp length-map in
      get_or-append_right (map take_over_on ms) (map (settle_on s d) ms) i pass_on (omega (arith, size, behind))
      ∙ ap (λ k. get_or (map (settle_on s d) ms) (i - k) pass_on) size
      ∙ ap (λ es. get_or es (i - length ms) pass_on) (sym (append-nil (map (settle_on s d) ms)))
      ∙ map-at (settle_on s d) ms [] (i - length ms) m at

-- what each asks holds behind another
pub can-still : (s u : PlantState) (c : ConfigTable) (ms : List Member) (next : Next) → IsAt s c → CanGo s c ms → Went s u c next → CanGo u c ms
can-still s u c ms next at can went = record {
  members = all-ready s u c ms can.members;
  running = all-running s u c ms (went-on s u c next went) can.members can.running;
  aside = went-aside s u c next at can.aside went;
}
