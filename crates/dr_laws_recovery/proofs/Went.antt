-- Plans that weren't refused: each of their acts was done, so what each act keeps is kept, and no server went off.
use Rattle.std.proofs.Common.{ℕ, ◌≡◌, refl, ap, sym, ◌∙◌, subst, Bool, true, false, cond, List, [], ◌∷◌, ◌++◌, Option, Some, None}
use Rattle.dr_ids.specs.declared.refusal.Refusal.{Refusal}
use Rattle.dr_ids.specs.declared.refusal.Refusal.TheVariants.{JournalFull}
use Rattle.dr_model.specs.declared.said.Said.{Said}
use Rattle.dr_model.specs.Control.{Control, World, Fuse}
use Rattle.dr_model.specs.Carry.{Act, Make, OpenAttempt, Next, Pass, Do, End, Entry, Outcome, continue, go, carry}
use Rattle.dr_model.specs.PairEntries.{refuse_if}
use Rattle.dr_model.specs.Plans.{Plan, same, has_room}
use Rattle.dr_model.specs.Carried.{finish, carried_out, answered, masters_lost, stop_place}
use Rattle.dr_model.specs.Forming.{Part, Way, ends, goes_on, refusal_said, after_part, part_refusal, part}
use Rattle.dr_model.proofs.CarryLemmas.{onward, carry-append}
use Rattle.dr_facts.proofs.Entries.{any_world, any_reason, why-any, AllFine, FineThen, fine-refuse}
use Rattle.dr_laws_sound.proofs.Awaits.{none-refused}
use Rattle.dr_laws_sound.proofs.FitsFlash.{as_begun}
use Rattle.dr_laws_sound.proofs.ChecksFirst.{on-stays}
use Rattle.dr_laws_sound.proofs.RefusedSteps.{lost-stays}
use Rattle.dr_laws_sound.proofs.Turns.{Counts, after_act, act-cases}
use Rattle.dr_logic.proofs.Options.{none_some}

-- ---- what each act keeps

-- entries that come to such acts alone, wherever they come
module _ (Ok : World → Act → Type 0) where
  abbrev pub Each : List Entry → Type 0
  Each = AllFine any_world Ok any_reason

  pub each-refuse : (why : Control → Option Refusal) (ds : List Entry) → Each ds → Each (refuse_if why ∷ ds)
  each-refuse why ds rest = fine-refuse any_world Ok any_reason why ds (λ k. why-any (why k)) rest

  module _ (K : World → Type 0) (keeps : (w : World) (a : Act) (f : Option Fuse) → Ok w a → K w → K (after_act w a f)) where
    counts-refused : (w v : World) (a : Act) (rest : World → Outcome) → Counts w a (λ t. continue t.0 t.1 rest ≡ (v, None) → K v)
    counts-refused w v (Make m) rest = λ f h. none-refused _ v _ h
    counts-refused w v (OpenAttempt j s n) rest = λ f h. none-refused _ v _ h
    counts-refused w v a rest = tt

    next-keeps : (w v : World) (x : Next) (rest : World → Outcome) (more : Type 0) → FineThen any_world Ok any_reason w x more → (more → (u : World) → rest u ≡ (v, None) → K u → K v) → go w x rest ≡ (v, None) → K w → K v
    next-keeps w v Pass rest more fine on leads k = on fine w leads k
    next-keeps w v (End r) rest more fine on leads k = none-refused w v r leads
    next-keeps w v (Do a) rest more fine on leads k =
        act-cases w a (λ t. continue t.0 t.1 rest ≡ (v, None) → K v) (λ d off h. on fine.1 w h k) (λ f h. on fine.1 (after_act w a f) h (keeps w a f fine.0 k)) (counts-refused w v a rest) (λ d f h. none-refused _ v _ h) leads

    pub carry-keeps : (w v : World) (ds : List Entry) → Each ds → carry w ds ≡ (v, None) → K w → K v
    unfolding carry AllFine
    carry-keeps w v [] fine leads k = subst K (ap (λ (t : Outcome). t.0) leads) k
    carry-keeps w v (d ∷ ds) fine leads k = next-keeps w v (d w.control) (λ u. carry u ds) (Each ds) (fine w tt) (λ rest u h j. carry-keeps u v ds rest h j) leads k

-- entries in two parts
pub record Split (w v : World) (ds es : List Entry) : Type 0 where
  pub middle : World
  pub first : carry w ds ≡ (middle, None)
  pub rest : carry middle es ≡ (v, None)

pub carry-split : (w v : World) (ds es : List Entry) → carry w (ds ++ es) ≡ (v, None) → Split w v ds es
carry-split w v ds es leads = by (carry w ds) refl (sym (carry-append w ds es) ∙ leads)
  where
    by : (o : Outcome) → carry w ds ≡ o → onward o (λ u. carry u es) ≡ (v, None) → Split w v ds es
    by (u, None) is h = record { middle = u; first = is; rest = h }
    by (u, Some r) is h = none_some (ap (λ (t : Outcome). t.1) h) refl

-- ---- a plan that wasn't refused

unrefused : (p : Plan) (k : Control) (o : Option Refusal) → refusal_said (answered p k o) ≡ None → o ≡ None
unrefused p k None h = refl
unrefused p k (Some r) h = absurd cc

module _ (w : World) (ds : List Entry) (follows : ℕ → List Entry) (last : Control → Control) (says : Control → Said) (steady : (k : Control) → (last k).on ≡ k.on) where
  abbrev p : Plan
  p = record { first = same; told = []; entries = ds; follows = follows; last = last; says = says }

  -- its entries led on, to a world in which its tables change at the end
  pub record Went (u : World) : Type 0 where
    pub led : World
    pub leads : carry (as_begun w) ds ≡ (led, None)
    pub is : u ≡ record led { control = last led.control }
    pub after : u ≡ after_part w p
    pub room : has_room w.events ≡ true

  went : (o : Outcome) → carry (as_begun w) ds ≡ o → o.1 ≡ None → has_room w.events ≡ true → Went (masters_lost w (finish p (stop_place w p) o.0 o.1))
  went (v, Some r) leads none room = absurd cc
  went (v, None) leads none room = record {
    led = v;
    leads = leads;
    is =
        let u : World = record v { control = last v.control } in
        lost-stays w u (steady v.control ∙ on-stays (as_begun w) v ds leads);
    after = ap (λ (o : Outcome). masters_lost w (finish p (stop_place w p) o.0 o.1)) (sym leads);
    room = room;
  }

  pub part-went : (part w p).refusal ≡ None → Went (part w p).world
  part-went h = by (has_room w.events) refl h
    where
      by : (b : Bool) → has_room w.events ≡ b → (cond b (record { parts = record { world = w; plan = p } ∷ []; world = after_part w p; refusal = part_refusal w p }) (ends w JournalFull)).refusal ≡ None
          → Went (cond b (record { parts = record { world = w; plan = p } ∷ []; world = after_part w p; refusal = part_refusal w p }) (ends w JournalFull)).world
      by true room none = went (carry (as_begun w) ds) refl (unrefused p (carried_out w p).0.control (carried_out w p).1 none) room
      by false full none = absurd cc

-- ---- a way that goes on

pub record Onward (u : World) (r : Option Refusal) (xs : List Part) (more : World → Way) : Type 0 where
  pub first : r ≡ None
  pub rest : (more u).refusal ≡ None
  pub world : (goes_on xs u r more).world ≡ (more u).world

pub goes-onward : (xs : List Part) (u : World) (r : Option Refusal) (more : World → Way) → (goes_on xs u r more).refusal ≡ None → Onward u r xs more
goes-onward xs u None more h = record { first = refl; rest = h; world = refl }
goes-onward xs u (Some r) more h = absurd cc
