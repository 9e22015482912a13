-- Plans carried out where servers may go off by themselves: where no read fuse is armed nothing new comes, and the rows
-- of the volumes are kept in any case.
use Rattle.std.proofs.Common.{ℕ, ◌≡◌, inl, inr, Bool, true, List, [], ◌∷◌, sym, Option, Some, None}
use Rattle.dr_ids.specs.declared.refusal.Refusal.{Refusal}
use Rattle.dr_model.specs.declared.event.Event.TheVariants.{Stopped}
use Rattle.dr_model.specs.Refusals.{stopped}
use Rattle.dr_model.specs.Control.{World}
use Rattle.dr_model.specs.Carry.{act, Turn, Next, Pass, Do, End, Entry, Outcome, carry, continue, go}
use Rattle.dr_model.specs.Plans.{Plan}
use Rattle.dr_model.specs.Groups.{In}
use Rattle.dr_model.specs.Forming.{Part}
use Rattle.dr_model.specs.Runs.{Task, plans_of, begun}
use Rattle.dr_model.specs.ReadStops.{GoesOff, IsEnd, EndsTurn, EndsNext, Ends, gone_off}
use Rattle.dr_model.specs.Table.{table}
use Rattle.dr_model.specs.Laws.{SoundRows, Sound}
use Rattle.dr_model.proofs.Images.{histories-append}
use Rattle.dr_laws_sound.proofs.KeepsSound.{StepHolds, RowsAt, rows-told}
use Rattle.dr_laws_sound.proofs.Parts.{each-plan}
use Rattle.dr_laws_sound.proofs.Steps.{ending-holds, sound-part}
use Rattle.dr_laws_sound.proofs.Along as along

-- where no server went off by itself, a plan ends as it is carried out
module _ (armed : ℕ → Bool) (u : World) (r : Option Refusal) (none : (v : World) → GoesOff armed u r v → ⊥) where
  is-end : (w : World) (end : Option Refusal) → IsEnd armed u r w end → ◌≡◌ {A = Outcome} (w, end) (u, r)
  is-end w end is = λ i. (sym is.world i, sym is.refusal i)

  ends-turn : (t : Turn) (more : World → Type 0) (rest : World → Outcome) → ((v : World) → more v → rest v ≡ (u, r)) → EndsTurn armed u r t.0 t.1 more → continue t.0 t.1 rest ≡ (u, r)
  ends-turn (v, None) more rest on e = on v e
  ends-turn (v, Some s) more rest on e = is-end v _ e

  ends-next : (w : World) (x : Next) (more : World → Type 0) (rest : World → Outcome) → ((v : World) → more v → rest v ≡ (u, r)) → EndsNext armed u r w x more → go w x rest ≡ (u, r)
  ends-next w Pass more rest on e = on w e
  ends-next w (End end) more rest on e = is-end w _ e
  ends-next w (Do a) more rest on e = ends-turn (act w a) more rest on e

  ends-by : (w : World) (ds : List Entry) → Ends armed u r w ds → carry w ds ≡ (u, r)
  unfolding carry Ends
  ends-by w [] (inl off) = absurd (none w off)
  ends-by w [] (inr is) = is-end w None is
  ends-by w (d ∷ ds) (inl off) = absurd (none w off)
  ends-by w (d ∷ ds) (inr e) = ends-next w (d w.control) (λ v. Ends armed u r v ds) (λ v. carry v ds) (λ v. ends-by v ds) e

-- as where no read fuse is armed, and where it ended well
pub ends-exact : (armed : ℕ → Bool) (none : (s : ℕ) → armed s ≡ true → ⊥) (u : World) (r : Option Refusal) (w : World) (ds : List Entry) → Ends armed u r w ds → carry w ds ≡ (u, r)
ends-exact armed none u r = ends-by armed u r (λ v off. none off.server off.is_armed)

pub ends-well : (armed : ℕ → Bool) (u w : World) (ds : List Entry) → Ends armed u None w ds → carry w ds ≡ (u, None)
ends-well armed u = ends-by armed u None (λ v off. let e : None ≡ Some (stopped off.server) = off.refusal in absurd cc)

-- the rows of the volumes don't see whether servers are on
rows-gone : (w : World) (s : ℕ) → SoundRows (table w) → SoundRows (table (gone_off w s))
rows-gone w s r = rows-told w (Stopped s 0 ∷ []) (histories-append w.events (Stopped s 0 ∷ [])) r

pub rows-ends : (armed : ℕ → Bool) (w u : World) (r : Option Refusal) (t : Task) (x : Part) → Sound w → In x (plans_of w t) → Ends armed u r (begun x.world x.plan) x.plan.entries → SoundRows (table u)
rows-ends armed w u r t x s there e =
    let b = each-plan Sound sound-part w t s x there in
    let p : Plan = x.plan in
    let holds : StepHolds x.world p = ending-holds x.world b.0 t.line p b.1 in
    along.ends-weaker holds.inner Sound holds.ends RowsAt holds.may holds.within (λ v x. x.rows) holds.complete holds.keeps armed (λ v x j on is. rows-gone v x (holds.within v j)) u r (begun x.world p) p.entries holds.begins holds.entries e
