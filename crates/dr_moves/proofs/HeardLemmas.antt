-- What lies beside shows, behind news; acts and moves that it hears of are the machine's.
use Rattle.std.proofs.Common.{ℕ, ◌≡◌, ◌⊎◌, inl, inr, Bool, true, false, not, List, ◌++◌, cond, refl, sym, ◌∙◌, ap, subst, Option, Some, None}
use Rattle.std.specs.Prelude.{Result, Ok, Err, OnOk, OnErr}
use Rattle.std.proofs.lemmas.List.{append-nil}
use Rattle.dr_ids.specs.declared.names.SessionId.{SessionId}
use Rattle.dr_plant.specs.State.{PlantState}
use Rattle.dr_config.specs.Table.{ConfigTable}
use Rattle.dr_model.specs.declared.event.Event.{Event}
use Rattle.dr_model.specs.Control.{Volume, World}
use Rattle.dr_model.specs.Carry.{Make, OpenAttempt, act, attempt_begun, equal, opened_by, turn, Do, Entry}
use Rattle.dr_model.specs.Layout.{Fields}
use Rattle.dr_model.specs.Moves.{Hold, Carried}
use Rattle.dr_model.specs.ReadStops.{GoesOff}
use Rattle.dr_model.specs.Refusals.{stopped}
use Rattle.dr_facts.proofs.Turns.{equal-same, equal-not}
use Rattle.dr_volume.specs.View.{Rest, volume_seen}
use Rattle.dr_moves.specs.Acts.{act_of, act_news, act_told}
use Rattle.dr_moves.specs.Beside.{rest_after, table_after, heard, Takes}
use Rattle.dr_moves.specs.Coming.{MayPerform}
use Rattle.dr_moves.specs.Heard.{settled_by, marked_by, if_counts, heard_of, refused_by}
use Rattle.dr_moves.specs.Here.{world_seen, armed_in, refusal_of}
use Rattle.dr_moves.specs.Made.{after_done, after_stop, Came, counts_as, Turned}
use Rattle.dr_moves.specs.Moves.{move_of}
use Rattle.dr_moves.specs.Turns.{Advances, Halts}
use Rattle.dr_moves.specs.declared.acts.Stop.{Stop}
use Rattle.dr_moves.specs.declared.beside.News.{News}
use Rattle.dr_moves.specs.declared.beside.News.TheVariants.{Settled, Begun}
use Rattle.dr_moves.specs.declared.moves.Move.{Move}
use Rattle.dr_moves.specs.declared.moves.Move.TheVariants.{Land, Overwrite, LandBoth}
use Rattle.dr_moves.specs.declared.performing.Act.{Act}
use Rattle.dr_moves.specs.declared.performing.Act.TheVariants.{Acknowledge, Drop, EndFreeze, EndThaw, EndRecovery}
use Rattle.dr_moves.proofs.EntryLemmas.{act-advances, act-halts, move-advances, move-halts}

-- the laws of what lies beside, where there may be no news
pub shown-behind : {B X : Type 0} (takes : B → News → Type 0) (after : News → B → B) (shown : B → X → X) (next : News → X → X) → ((n : News) (x : B) (r : X) → takes x n → shown (after n x) r ≡ next n (shown x r))
    → (o : Option News) (x : B) (r : X) → Takes (takes x) o → shown (heard after o x) r ≡ heard next o (shown x r)
shown-behind takes after shown next law None x r can = refl
shown-behind takes after shown next law (Some n) x r can = law n x r can

pub takes-if : (takes : News → Type 0) (counts : Bool) (o : Option News) → Takes takes o → Takes takes (if_counts counts o)
takes-if takes true o can = can
takes-if takes false o can = tt

-- an act in the machine
act-is : (a : Act) (s : PlantState) (c : ConfigTable) (r : Rest) (events : List Event) → act (world_seen s c r events) (act_of a) ≡ (world_seen s (heard table_after (act_news a) c) (heard rest_after (act_news a) r) (events ++ act_told a), None)
unfolding act
act-is (Acknowledge w) s c r events = refl
act-is (Drop w) s c r events = ap (λ es. (world_seen s c (rest_after (Settled w) r) es, None)) (sym (append-nil events))
act-is (EndFreeze l m) s c r events = refl
act-is (EndThaw l m) s c r events = refl
act-is (EndRecovery k n) s c r events = refl

-- an act that may come in a plan leaves the configuration, and what is heard of it can be heard
pub table-stays : (takes : News → Type 0) (a : Act) (c : ConfigTable) → MayPerform takes a → c ≡ heard table_after (act_news a) c
table-stays takes (EndFreeze l m) c may = absurd may
table-stays takes (Acknowledge w) c may = refl
table-stays takes (Drop w) c may = refl
table-stays takes (EndThaw l m) c may = refl
table-stays takes (EndRecovery k n) c may = refl

pub may-perform : (takes : News → Type 0) (a : Act) → MayPerform takes a → Takes takes (act_news a)
may-perform takes (EndFreeze l m) may = absurd may
may-perform takes (Acknowledge w) may = may
may-perform takes (Drop w) may = may
may-perform takes (EndThaw l m) may = tt
may-perform takes (EndRecovery k n) may = tt

-- what is heard of a move
settled-is : (m : Move) (r : Rest) → heard rest_after (settled_by m) r ≡ after_done (move_of m) r
settled-is (Land w v t) r = refl
settled-is (Overwrite w v t) r = refl
settled-is (LandBoth w v t) r = refl
settled-is m r = refl

marked-is : (m : Move) (counts : Bool) (r : Rest) → heard rest_after (if_counts counts (marked_by m)) r ≡ after_stop (move_of m) counts r
marked-is (Land w v t) true r = refl
marked-is (Overwrite w v t) true r = refl
marked-is (LandBoth w v t) true r = refl
marked-is m true r = refl
marked-is m false r = refl

-- the first hold of an attempt, by the slot that it leaves
open-is : (w u : World) (v k n : ℕ) (o : Option ℕ) (b : Bool) → equal (w.control.volume v).slot (u.control.volume v).slot ≡ b → turn w (Hold v k n true) ≡ (u, o) → act w (OpenAttempt v k n) ≡ (cond b u (attempt_begun u k), o)
unfolding act
open-is w u v k n o b slots is = ap (opened_by w v k) is ∙ ap (λ x. (cond x u (attempt_begun u k), o)) slots

slots-by : (counts : Bool) (s u : PlantState) (c : ConfigTable) (v : ℕ) (f : Fields) (t : Carried) → Came counts s u c v f t → equal (volume_seen s c v).slot (volume_seen u c v).slot ≡ not counts
slots-by true s u c v f t came = ap (λ (x : Volume). equal (volume_seen s c v).slot x.slot) came.volume ∙ equal-not (volume_seen s c v).slot
slots-by false s u c v f t came = ap (λ (x : Volume). equal (volume_seen s c v).slot x.slot) came.volume ∙ equal-same (volume_seen s c v).slot

module _ {B : Type 0} (takes : B → News → Type 0) (after : News → B → B) (rest : B → Rest → Rest) (shows_rest : (n : News) (x : B) (r : Rest) → takes x n → rest (after n x) r ≡ rest_after n (rest x r)) (x y : B) where
  rest-is : (o : Option News) → y ≡ heard after o x → Takes (takes x) o → (r : Rest) → rest y r ≡ heard rest_after o (rest x r)
  rest-is o is can r = ap (λ z. rest z r) is ∙ shown-behind takes after rest rest_after shows_rest o x r can

  -- an act that was performed
  pub performed : (a : Act) (s : PlantState) (c d : ConfigTable) (old new : List Event) → y ≡ heard after (act_news a) x → Takes (takes x) (act_news a) → d ≡ heard table_after (act_news a) c → new ≡ old ++ act_told a
      → (r : Rest) (e : Entry) → e (world_seen s c (rest x r) old).control ≡ Do (act_of a) → Advances (world_seen s c (rest x r) old) e (world_seen s d (rest y r) new)
  performed a s c d old new is can table told r e comes =
      act-advances (world_seen s c (rest x r) old) (world_seen s d (rest y r) new) e (act_of a) comes (act-is a s c (rest x r) old ∙ (λ i. (world_seen s (sym table i) (sym (rest-is (act_news a) is can r) i) (sym told i), None)))

  module _ (s u : PlantState) (c : ConfigTable) (old new : List Event) where
    -- a move that was made
    pub heard-advances : (m : Move) (res : Result (Unit {0}) Stop) → Takes (takes x) (settled_by m) → y ≡ heard after (heard_of (settled_by m) (marked_by m) res) x → Turned s u c old new (move_of m) res
        → OnOk res ((r : Rest) (d : Entry) → d (world_seen s c (rest x r) old).control ≡ Do (Make (move_of m)) → Advances (world_seen s c (rest x r) old) d (world_seen u c (rest y r) new))
    heard-advances m (Ok z) can is turned = λ r d comes.
        move-advances (world_seen s c (rest x r) old) (world_seen u c (rest y r) new) d (move_of m) comes
        (turned (rest x r) ∙ ap (λ (q : Rest). (world_seen u c q new, None)) (sym (rest-is (settled_by m) is can r ∙ settled-is m (rest x r))))
    heard-advances m (Err stop) can is turned = tt

    pub heard-halts : (m : Move) (res : Result (Unit {0}) Stop) → Takes (takes x) (marked_by m) → y ≡ heard after (heard_of (settled_by m) (marked_by m) res) x → Turned s u c old new (move_of m) res
        → OnErr res ((r : Rest) (d : Entry) → d (world_seen s c (rest x r) old).control ≡ Do (Make (move_of m)) → Halts (armed_in s) (world_seen s c (rest x r) old) d (world_seen u c (rest y r) new) (refusal_of (refused_by res)))
    heard-halts m (Ok z) can is turned = tt
    heard-halts m (Err stop) can is turned = λ r d comes.
        let left : rest y r ≡ after_stop (move_of m) stop.counts (rest x r) = rest-is (if_counts stop.counts (marked_by m)) is (takes-if (takes x) stop.counts (marked_by m) can) r ∙ marked-is m stop.counts (rest x r) in
        move-halts (armed_in s) (world_seen s c (rest x r) old) (world_seen u c (rest y r) new) (Some (stopped stop.server.0)) d (move_of m) stop.server.0 comes refl (elim (turned (rest x r)) [
          | inl off ↦ inl (subst (λ (q : Rest). GoesOff (armed_in s) (world_seen u c q new) (Some (stopped stop.server.0)) (world_seen s c (rest x r) old)) (sym (left ∙ ap (λ b. after_stop (move_of m) b (rest x r)) off.0)) off.1)
          | inr turn ↦ inr (turn ∙ ap (λ (q : Rest). (world_seen u c q new, Some stop.server.0)) (sym left))
        ])

    module _ (v : ℕ) (k : SessionId) (n : ℕ) (f : Fields) (can : takes x (Begun k)) where
      -- the first hold of an attempt that was made
      pub open-advances : (res : Result (Unit {0}) Stop) → y ≡ heard after (heard_of (Some (Begun k)) (Some (Begun k)) res) x → Turned s u c old new (Hold v k.0 n true) res → Came (counts_as res) s u c v f None
          → OnOk res ((r : Rest) (d : Entry) → d (world_seen s c (rest x r) old).control ≡ Do (OpenAttempt v k.0 n) → Advances (world_seen s c (rest x r) old) d (world_seen u c (rest y r) new))
      open-advances (Ok z) is turned came = λ r d comes.
          act-advances (world_seen s c (rest x r) old) (world_seen u c (rest y r) new) d (OpenAttempt v k.0 n) comes
          (open-is (world_seen s c (rest x r) old) (world_seen u c (rest x r) new) v k.0 n None false (slots-by true s u c v f None came) (turned (rest x r))
          ∙ ap (λ (q : Rest). (world_seen u c q new, None)) (sym (rest-is (Some (Begun k)) is can r)))
      open-advances (Err stop) is turned came = tt

      pub open-halts : (res : Result (Unit {0}) Stop) → y ≡ heard after (heard_of (Some (Begun k)) (Some (Begun k)) res) x → Turned s u c old new (Hold v k.0 n true) res → Came (counts_as res) s u c v f None
          → OnErr res ((r : Rest) (d : Entry) → d (world_seen s c (rest x r) old).control ≡ Do (OpenAttempt v k.0 n) → Halts (armed_in s) (world_seen s c (rest x r) old) d (world_seen u c (rest y r) new) (refusal_of (refused_by res)))
      open-halts (Ok z) is turned came = tt
      open-halts (Err stop) is turned came = λ r d comes.
          act-halts (armed_in s) (world_seen s c (rest x r) old) (world_seen u c (rest y r) new) (Some (stopped stop.server.0)) d (OpenAttempt v k.0 n) stop.server.0 comes refl (ends r stop.counts is came (turned (rest x r)))
        where
          ends : (r : Rest) (counts : Bool) → y ≡ heard after (if_counts counts (Some (Begun k))) x → Came counts s u c v f None
              → ((counts ≡ false) × GoesOff (armed_in s) (world_seen u c (rest x r) new) (Some (stopped stop.server.0)) (world_seen s c (rest x r) old)) ⊎ (turn (world_seen s c (rest x r) old) (Hold v k.0 n true) ≡ (world_seen u c (after_stop (Hold v k.0 n true) counts (rest x r)) new, Some stop.server.0))
              → GoesOff (armed_in s) (world_seen u c (rest y r) new) (Some (stopped stop.server.0)) (world_seen s c (rest x r) old) ⊎ (act (world_seen s c (rest x r) old) (OpenAttempt v k.0 n) ≡ (world_seen u c (rest y r) new, Some stop.server.0))
          ends r true is came (inl off) = absurd (let never = off.0 in cc)
          ends r true is came (inr turn) =
              inr (open-is (world_seen s c (rest x r) old) (world_seen u c (rest x r) new) v k.0 n (Some stop.server.0) false (slots-by true s u c v f None came) turn
              ∙ ap (λ (q : Rest). (world_seen u c q new, Some stop.server.0)) (sym (rest-is (Some (Begun k)) is can r)))
          ends r false is came (inl off) = inl (subst (λ (q : Rest). GoesOff (armed_in s) (world_seen u c q new) (Some (stopped stop.server.0)) (world_seen s c (rest x r) old)) (sym (rest-is None is tt r)) off.1)
          ends r false is came (inr turn) =
              inr (open-is (world_seen s c (rest x r) old) (world_seen u c (rest x r) new) v k.0 n (Some stop.server.0) true (slots-by false s u c v f None came) turn
              ∙ ap (λ (q : Rest). (world_seen u c q new, Some stop.server.0)) (sym (rest-is None is tt r)))
