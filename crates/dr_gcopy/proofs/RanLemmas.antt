-- Calls in a row that carried out entries, one move as such a call, and a track that can be passed on still.
use Rattle.std.proofs.Common.{ℕ, ◌≡◌, ◌≤◌, ◌<◌, ◌+◌, Bool, true, List, [], ◌∷◌, ◌++◌, length, arith, ap, sym, subst, ◌∙◌, Some, None}
use Rattle.std.specs.Prelude.{Result, Ok, Err, OnOk, OnErr, is_err}
use Rattle.dr_logic.specs.Counts.{Counted}
use Rattle.dr_ids.specs.declared.refusal.Refusal.{Refusal}
use Rattle.dr_plant.specs.State.{PlantState}
use Rattle.dr_config.specs.Table.{ConfigTable}
use Rattle.dr_model.specs.Log.{Log}
use Rattle.dr_model.specs.Carry.{Entry, Do, Make, now}
use Rattle.dr_model.specs.Control.{Volume}
use Rattle.dr_model.specs.Layout.{is_part}
use Rattle.dr_model.specs.Moves.{Move}
use Rattle.dr_model.specs.Refusals.{stopped}
use Rattle.dr_model.specs.Pairs.{is_last}
use Rattle.dr_volume.specs.declared.fields.Fields.{Fields}
use Rattle.dr_volume.specs.Update.{IsAsBefore}
use Rattle.dr_volume.specs.View.{Rest}
use Rattle.dr_volume.proofs.SaysLaws.{says-along}
use Rattle.dr_moves.specs.Fit.{RelationsFit}
use Rattle.dr_moves.specs.Here.{world_seen, armed_in, refusal_of, IsAtRest}
use Rattle.dr_moves.specs.Turns.{Advances, Halts}
use Rattle.dr_moves.specs.Checks.{is_stop}
use Rattle.dr_moves.proofs.EntryLemmas.{alike-advances, alike-halts, counted-stop}
use Rattle.dr_moves.proofs.KeptLemmas.{before-then, wider-armed}
use Rattle.dr_moves.proofs.LeadLemmas.{then-leads, then-fails, fails-first}
use Rattle.dr_moves.proofs.TurnLemmas.{ok-along, err-along}
use Rattle.dr_gcopy.specs.Ran.{Stays, Ran, CanPass}
use Rattle.dr_moves.proofs.LeadLemmas.{fails-wider}

pub ran-then : (s m u : PlantState) (c : ConfigTable) (old mid new : Log) (es fs : List Entry) (P Q R : ℕ → Type 0) (most least more less n k : ℕ) → ((q : ℕ) → R q → P q) → ((q : ℕ) → R q → Q q) → least + more ≤ n → least + less ≤ k
    → Ran s m c old mid es P most least (Ok tt) → (res : Result (Unit {0}) Refusal) → Ran m u c mid new fs Q more less res → Ran s u c old new (es ++ fs) R n k res
ran-then s m u c old mid new es fs P Q R most least more less n k here there large small first (Ok x) second = record {
  leads = λ r. then-leads (world_seen s c r old.events) (world_seen m c r mid.events) (world_seen u c r new.events) es fs (first.leads r) (second.leads r);
  fails = tt;
  stays = record {
    at = second.stays.at;
    unarmed = λ q none. second.stays.unarmed q (first.stays.unarmed q none);
    faults = second.stays.faults ∙ first.stays.faults;
    others = λ q spared. before-then s m u c q (first.stays.others q (here q spared)) (second.stays.others q (there q spared));
    on = second.stays.on ∙ first.stays.on;
    room = let a = first.stays.left in let b = second.stays.room in omega (arith, a, b, large);
    left = let a = first.stays.left in let b = second.stays.left in omega (arith, a, b, small);
    spare = second.stays.spare ∙ first.stays.spare;
  };
}
ran-then s m u c old mid new es fs P Q R most least more less n k here there large small first (Err e) second = record {
  leads = tt;
  fails = λ r. then-fails (armed_in s) (world_seen s c r old.events) (world_seen m c r mid.events) (world_seen u c r new.events) (Some e) es fs (first.leads r)
      (fails-wider (armed_in m) (armed_in s) (wider-armed s m first.stays.unarmed) (world_seen m c r mid.events) (world_seen u c r new.events) (Some e) fs (second.fails r));
  stays = record {
    at = second.stays.at;
    unarmed = λ q none. second.stays.unarmed q (first.stays.unarmed q none);
    faults = let same : m.faults ≡ s.faults = first.stays.faults in subst (λ n. Counted (is_stop (Some e)) n u.faults) same second.stays.faults;
    others = λ q spared. before-then s m u c q (first.stays.others q (here q spared)) (second.stays.others q (there q spared));
    on = tt;
    room = let a = first.stays.left in let b = second.stays.room in omega (arith, a, b, large);
    left = tt;
    spare = second.stays.spare ∙ first.stays.spare;
  };
}

-- the first of them failed
pub ran-failed : (s u : PlantState) (c : ConfigTable) (old new : Log) (es fs : List Entry) (P R : ℕ → Type 0) (most least n k : ℕ) → ((q : ℕ) → R q → P q) → most ≤ n → (e : Refusal)
    → Ran s u c old new es P most least (Err e) → Ran s u c old new (es ++ fs) R n k (Err e)
ran-failed s u c old new es fs P R most least n k here large e ran = record {
  leads = tt;
  fails = λ r. fails-first (armed_in s) (world_seen s c r old.events) (world_seen u c r new.events) (Some e) es fs (ran.fails r);
  stays = record {
    at = ran.stays.at;
    unarmed = ran.stays.unarmed;
    faults = ran.stays.faults;
    others = λ q spared. ran.stays.others q (here q spared);
    on = tt;
    room = let a = ran.stays.room in omega (arith, a, large);
    left = tt;
    spare = ran.stays.spare;
  };
}

-- one move, as an entry that comes to it
pub ran-made : (s u : PlantState) (c : ConfigTable) (old new : Log) (m : Move) (d : Entry) (P : ℕ → Type 0) (most least : ℕ) (res : Result (Unit {0}) Refusal) → ((r : Rest) → d (world_seen s c r old.events).control ≡ Do (Make m))
    → OnOk res ((r : Rest) → Advances (world_seen s c r old.events) (now m) (world_seen u c r new.events)) → OnErr res ((r : Rest) → Halts (armed_in s) (world_seen s c r old.events) (now m) (world_seen u c r new.events) (refusal_of res))
    → Stays s u c old new P most least res → Ran s u c old new (d ∷ []) P most least res
ran-made s u c old new m d P most least res comes advances halts stays = record {
  leads = ok-along res advances (λ goes r. alike-advances (world_seen s c r old.events) (world_seen u c r new.events) d (now m) (comes r) (goes r));
  fails = err-along res halts halts (λ ends _ r. alike-halts (armed_in s) (world_seen s c r old.events) (world_seen u c r new.events) (refusal_of res) d (now m) (comes r) (ends r));
  stays = stays;
}

-- what stays over a call that fails by the stop of one server
pub stays-by : (s u : PlantState) (c : ConfigTable) (old new : Log) (P : ℕ → Type 0) (most least server : ℕ) (res : Result (Unit {0}) Refusal) → OnErr res (refusal_of res ≡ Some (stopped server)) → IsAtRest u c → RelationsFit u c → ((q : ℕ) → s.read_fuse q ≡ None → u.read_fuse q ≡ None)
    → Counted (is_err res) s.faults u.faults → ((q : ℕ) → P q → IsAsBefore s u c q) → OnOk res (u.on ≡ s.on) → old.spare ≤ new.spare + most → OnOk res (old.spare ≤ new.spare + least) → length new.events + new.spare ≡ length old.events + old.spare
    → Stays s u c old new P most least res
stays-by s u c old new P most least server res refused rest fit unarmed faults others on room left spare = record {
  at = record { rest = rest; fit = fit };
  unarmed = unarmed;
  faults = counted-stop res s.faults u.faults server faults refused;
  others = others;
  on = on;
  room = room;
  left = left;
  spare = spare;
}

-- where the two volumes are as they were, a track can still be passed on
pub can-still : (s u : PlantState) (c : ConfigTable) (a b t : ℕ) (f : Fields) (bytes : List ℕ) (last : Bool) → u.on ≡ s.on → IsAsBefore s u c a → IsAsBefore s u c b → CanPass s c a b t f bytes last → CanPass u c a b t f bytes last
can-still s u c a b t f bytes last on from to can = record {
  from = can.from;
  to = can.to;
  running = (λ i. on i (from.volume i).server) ∙ can.running;
  reached = (λ i. on i (to.volume i).server) ∙ can.reached;
  primary = ap (λ (x : Volume). is_part x.fields.primary) from.volume ∙ can.primary;
  secondary = ap (λ (x : Volume). is_part x.fields.secondary) to.volume ∙ can.secondary;
  two_servers = λ e. can.two_servers (sym (ap (λ (x : Volume). x.server) from.volume) ∙ e ∙ ap (λ (x : Volume). x.server) to.volume);
  within = subst (λ (x : Volume). t < x.tracks) (sym from.volume) can.within;
  size = ap (λ (x : Volume). x.tracks) to.volume ∙ can.size ∙ sym (ap (λ (x : Volume). x.tracks) from.volume);
  says = says-along s u c a f from can.says;
  bytes = can.bytes ∙ ap (λ (z : ℕ → List ℕ). z t) (sym from.tracks);
  last = can.last ∙ sym (ap (λ (x : Volume). is_last x.fields t) from.volume);
}

-- a call that fails by stops alone counts a fault where it fails
pub counted-failed : (res : Result (Unit {0}) Refusal) (a b : ℕ) → OnErr res (is_stop (refusal_of res) ≡ true) → Counted (is_stop (refusal_of res)) a b → Counted (is_err res) a b
counted-failed (Ok x) a b stops counted = counted
counted-failed (Err e) a b stops counted = subst (λ z. Counted z a b) stops counted
