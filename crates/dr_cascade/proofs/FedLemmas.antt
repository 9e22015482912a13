-- Stretches one after another, and those of tracks that are sent to a cascaded secondary.
use Rattle.std.proofs.Common.{ℕ, ◌≡◌, ◌≤◌, ◌+◌, Bool, true, inl, inr, List, [], ◌∷◌, ◌++◌, refl, sym, ap, subst, ◌∙◌, arith, Option, None, Some}
use Rattle.std.specs.Prelude.{Result, Ok, Err, OnOk, OnErr}
use Rattle.std.proofs.lemmas.List.{append-nil}
use Rattle.dr_logic.specs.Counts.{Counted}
use Rattle.dr_ids.specs.declared.refusal.Refusal.{Refusal}
use Rattle.dr_plant.specs.State.{PlantState}
use Rattle.dr_config.specs.Table.{ConfigTable}
use Rattle.dr_model.specs.Control.{World}
use Rattle.dr_model.specs.Carry.{Entry, Stretch}
use Rattle.dr_model.specs.Layout.{Fields}
use Rattle.dr_model.specs.Log.{Log}
use Rattle.dr_model.specs.PairEntries.{send_refusal, suspend_where, refuse_if, flashed_refusal, held_refusal, feed_stretches, feeds}
use Rattle.dr_volume.specs.View.{Rest}
use Rattle.dr_moves.specs.Checks.{is_stop}
use Rattle.dr_moves.specs.Followed.{EndsIn}
use Rattle.dr_moves.specs.Here.{world_seen, refusal_of, armed_in}
use Rattle.dr_moves.specs.Made.{IsAt}
use Rattle.dr_facts.proofs.Ends.{ends-skips}
use Rattle.dr_moves.specs.Turns.{Leads}
use Rattle.dr_moves.proofs.EntryLemmas.{led, failed, ends-clear}
use Rattle.dr_moves.proofs.FollowLemmas.{follows-wider}
use Rattle.dr_moves.proofs.KeptLemmas.{wider-armed}
use Rattle.dr_moves.proofs.TurnLemmas.{ok-along, err-along}
use Rattle.dr_gcopy.specs.Ran.{Ran}
use Rattle.dr_gcopy.specs.Sending.{SameParts}
use Rattle.dr_gcopy.proofs.SendLemmas.{suspends-none}
use Rattle.dr_metro.proofs.WroteInLemmas.{Behind, in-wider}
use Rattle.dr_cascade.specs.Feeding.{LeadsIn, FailsIn, RanIn, asked_entries}

-- no stretches
pub ran-in-none : (s : PlantState) (c : ConfigTable) (old : Log) {T : Type 0} (x : T) → IsAt s c → RanIn s s c old old [] 0 0 (Ok x)
ran-in-none s c old x at = record { leads = λ r armed u q ts ends. ends; fails = tt; at = at; unarmed = λ q none. none; faults = refl; on = refl; room = omega arith; left = omega arith; spare = refl }

module _ (s m u : PlantState) (c : ConfigTable) (old mid new : Log) (es : List Entry) (P : ℕ → Type 0) (most least : ℕ) (fs : List Entry) (ss : List Stretch) where
  abbrev first : Stretch
  first = record { entries = es; follows = fs }

  -- entries that led on, before the stretches that are left
  pub ran-in-then : (more less n k : ℕ) {T : Type 0} (res : Result T Refusal) → least + more ≤ n → least + less ≤ k → Ran s m c old mid es P most least (Ok tt) → RanIn m u c mid new ss more less res → RanIn s u c old new (first ∷ ss) n k res
  ran-in-then more less n k {T = T} res large larger ran later = record {
    leads = ok-along res later.leads (λ leads r armed v q ts ends. inl (record {
      middle = world_seen m c r mid.events;
      ends = led armed (world_seen s c r old.events) (world_seen m c r mid.events) es (ran.leads r);
      later = leads r armed v q ts ends;
    }));
    fails = err-along res later.fails later.fails (λ fails same r ts. inl (record {
      middle = world_seen m c r mid.events;
      ends = led (armed_in s) (world_seen s c r old.events) (world_seen m c r mid.events) es (ran.leads r);
      later = in-wider (armed_in m) (armed_in s) (wider-armed s m ran.stays.unarmed) (world_seen m c r mid.events) (ss ++ ts) (world_seen u c r new.events) (refusal_of res) (fails r ts);
    }));
    at = later.at;
    unarmed = λ q none. later.unarmed q (ran.stays.unarmed q none);
    faults = subst (λ z. Counted (is_stop (refusal_of res)) z u.faults) ran.stays.faults later.faults;
    on = ok-along res later.on (λ on. on ∙ ran.stays.on);
    room = let a = ran.stays.left in let b = later.room in omega (arith, a, b, large);
    left = ok-along res later.left (λ b. let a = ran.stays.left in omega (arith, a, b, larger));
    spare = later.spare ∙ ran.stays.spare;
  }

  -- entries that ended all, with what follows
  pub ran-in-failed : (more n k : ℕ) {T : Type 0} (e : Refusal) → most + more ≤ n → Ran s m c old mid es P most least (Err e) → Behind m u c mid new fs (Some e) more → RanIn s u c old new (first ∷ ss) n k {T = T} (Err e)
  ran-in-failed more n k {T = T} e large ran b = record {
    leads = tt;
    fails = λ r ts. inr (record {
      why = e;
      middle = world_seen m c r mid.events;
      ends = failed (armed_in s) (world_seen s c r old.events) (world_seen m c r mid.events) (Some e) es (ran.fails r);
      followed = follows-wider (armed_in m) (armed_in s) (wider-armed s m ran.stays.unarmed) (world_seen m c r mid.events) (Some e) fs (world_seen u c r new.events) (b.follows r);
      refusal = refl;
    });
    at = b.at;
    unarmed = λ q none. b.unarmed q (ran.stays.unarmed q none);
    faults = b.faults s.faults ran.stays.faults;
    on = tt;
    room = let a = ran.stays.room in let x = b.room in omega (arith, a, x, large);
    left = tt;
    spare = b.spare ∙ ran.stays.spare;
  }

-- stretches that led on or failed, with none behind them
pub ran-ends-in : {T : Type 0} (res : Result T Refusal) (armed : ℕ → Bool) (w u : Rest → World) (ss : List Stretch) → OnOk res ((r : Rest) → LeadsIn (w r) ss (u r)) → OnErr res ((r : Rest) → FailsIn armed (w r) ss (u r) (refusal_of res)) → (r : Rest) → EndsIn armed (w r) ss (u r) (refusal_of res)
ran-ends-in (Ok x) armed w u ss leads fails r = subst (λ xs. EndsIn armed (w r) xs (u r) None) (append-nil ss) (leads r armed (u r) None [] (refl, refl))
ran-ends-in (Err e) armed w u ss leads fails r = subst (λ xs. EndsIn armed (w r) xs (u r) (Some e)) (append-nil ss) (fails r [])

module _ (ids : List ℕ) (a b c t : ℕ) where
  -- the stretches of one track among those of others
  feeds-split : (xs more : List ℕ) (ts : List Stretch) → feeds ids a b c (xs ++ t ∷ more) ++ ts ≡ feeds ids a b c xs ++ (feed_stretches ids a b c t ++ (feeds ids a b c more ++ ts))
  feeds-split [] more ts = refl
  feeds-split (x ∷ xs) more ts = ap (λ l. feed_stretches ids a b c x ++ l) (feeds-split xs more ts)

  pub feeds-next : (xs : List ℕ) (w v u : World) → LeadsIn w (feeds ids a b c xs) v → LeadsIn v (feed_stretches ids a b c t) u → LeadsIn w (feeds ids a b c (xs ++ t ∷ [])) u
  feeds-next xs w v u first later armed x r ts ends =
      subst (λ l. EndsIn armed w l x r) (sym (feeds-split xs [] ts)) (first armed x r (feed_stretches ids a b c t ++ ts) (later armed x r ts ends))

  pub feeds-failed : (armed : ℕ → Bool) (xs more : List ℕ) (w v u : World) (r : Option Refusal) → LeadsIn w (feeds ids a b c xs) v → FailsIn armed v (feed_stretches ids a b c t) u r → FailsIn armed w (feeds ids a b c (xs ++ t ∷ more)) u r
  feeds-failed armed xs more w v u r first fails ts =
      subst (λ l. EndsIn armed w l u r) (sym (feeds-split xs more ts)) (first armed u r (feed_stretches ids a b c t ++ (feeds ids a b c more ++ ts)) (fails (feeds ids a b c more ++ ts)))

-- more servers may be armed
pub fails-in-wider : (armed more : ℕ → Bool) → ((q : ℕ) → armed q ≡ true → more q ≡ true) → (w u : World) (ss : List Stretch) (r : Option Refusal) → FailsIn armed w ss u r → FailsIn more w ss u r
fails-in-wider armed more wider w u ss r fails ts = in-wider armed more wider w (ss ++ ts) u r (fails ts)

-- a can send to b, and b isn't held back
pub asked-passes : (a b : ℕ) (w : World) → send_refusal a b w.control ≡ None → Leads w (refuse_if (flashed_refusal b) ∷ refuse_if (held_refusal b) ∷ []) w → Leads w (asked_entries a b) w
asked-passes a b w none leads armed u r ds ends =
    ends-skips armed u r w (suspend_where (send_refusal a b) a) (refuse_if (send_refusal a b) ∷ refuse_if (flashed_refusal b) ∷ refuse_if (held_refusal b) ∷ ds) (suspends-none w (send_refusal a b) a none)
    (ends-clear armed u r w (send_refusal a b) (refuse_if (flashed_refusal b) ∷ refuse_if (held_refusal b) ∷ ds) none (leads armed u r ds ends))

-- parts that stay, and stay
pub parts-then : (f g h : Fields) → SameParts f g → SameParts g h → SameParts f h
parts-then f g h first later = record {
  primary = later.primary ∙ first.primary;
  primary_partner = later.primary_partner ∙ first.primary_partner;
  secondary = later.secondary ∙ first.secondary;
  secondary_partner = later.secondary_partner ∙ first.secondary_partner;
}
