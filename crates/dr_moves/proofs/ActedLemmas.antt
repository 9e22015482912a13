-- What an entry came to was done.
use Rattle.std.proofs.Common.{ℕ, ◌≡◌, ◌≢◌, ◌≤◌, ◌+◌, ◌++◌, inl, inr, Bool, true, false, ◌∷◌, length, arith, refl, sym, ◌∙◌, ap, subst, Option, Some, None}
use Rattle.std.specs.Prelude.{option_map, Result, Ok, Err, OnOk, OnErr, is_err}
use Rattle.std.specs.Result.{IsErrAnd}
use Rattle.std.proofs.lemmas.List.{length-append}
use Rattle.dr_ids.specs.declared.refusal.Refusal.{Refusal}
use Rattle.dr_plant.specs.State.{PlantState}
use Rattle.dr_config.specs.Table.{ConfigTable}
use Rattle.dr_model.specs.Log.{Log}
use Rattle.dr_model.specs.Moves as machine
use Rattle.dr_model.specs.Moves.{Carried, target, told}
use Rattle.dr_model.specs.Carry.{Do as DoAct, Entry, check}
use Rattle.dr_model.specs.ReadStops.{GoesOff}
use Rattle.dr_model.specs.Refusals.{stopped}
use Rattle.dr_volume.specs.Update.{IsAsBefore}
use Rattle.dr_volume.specs.View.{Rest, volume_seen}
use Rattle.dr_moves.specs.Acts.{act_of, act_news, act_told}
use Rattle.dr_moves.specs.Beside.{heard}
use Rattle.dr_moves.specs.Checks.{is_stop}
use Rattle.dr_moves.specs.Coming.{next_of, done_news, stop_news, RefusedAs, Went, WentBy, CutBy, CutIn, NotTarget, GoesOn, cost_of, most_of, ActedBeside}
use Rattle.dr_moves.specs.Entered.{is_calm}
use Rattle.dr_moves.specs.Heard.{landed_by, settled_by, marked_by, heard_of, refused_by}
use Rattle.dr_logic.specs.Counts.{Counted}
use Rattle.dr_moves.specs.Here.{world_seen, armed_in, refusal_of, IsAtRest}
use Rattle.dr_moves.specs.Made.{IsAt, Kept, Made, room_for}
use Rattle.dr_moves.specs.Moves.{move_of}
use Rattle.dr_moves.specs.Turns.{Advances, Halts}
use Rattle.dr_moves.specs.declared.acts.Stop.{Stop}
use Rattle.dr_moves.specs.declared.beside.News.{News}
use Rattle.dr_moves.specs.declared.beside.News.TheVariants.{Settled, Landed}
use Rattle.dr_moves.specs.declared.carrying.Next.{Next}
use Rattle.dr_moves.specs.declared.carrying.Next.TheVariants.{Pass, Do, Bring, Open, Perform, End}
use Rattle.dr_moves.specs.declared.moves.Move.{Move}
use Rattle.dr_moves.specs.declared.moves.Move.TheVariants as move
use Rattle.dr_moves.specs.declared.performing.Act.{Act}
use Rattle.dr_facts.proofs.Ends.{ends-alike, ends-off, ends-refused}
use Rattle.dr_moves.proofs.EntryLemmas.{skips}
use Rattle.dr_moves.proofs.FitLemmas.{fit-same}
use Rattle.dr_moves.proofs.ReadLemmas.{before-same}
use Rattle.dr_moves.proofs.KeptLemmas.{aside-same}
use Rattle.dr_moves.proofs.StopRows.{room-few}

pub err-is : {T : Type 0} (r : Result T Refusal) (e : Refusal) → is_err r ≡ true → IsErrAnd r (λ x. x ≡ e) → r ≡ Err e
err-is (Ok a) e failed is = absurd cc
err-is (Err x) e failed is = ap Err is

-- a move whose own volume isn't the one, done or cut short
pub cut-others : (s u : PlantState) (c : ConfigTable) (counts : Bool) (next : Next) → CutIn s u c counts next → (q : ℕ) → NotTarget next q → IsAsBefore s u c q
cut-others s u c counts Pass cut q ne = absurd cut
cut-others s u c counts (Do m) cut q ne = cut.others q ne
cut-others s u c counts (Bring m v t) cut q ne = cut.others q ne
cut-others s u c counts (Open v k n) cut q ne = cut.others q ne
cut-others s u c counts (Perform a) cut q ne = absurd cut
cut-others s u c counts (End r) cut q ne = before-same c s u cut q

pub went-others : (s u : PlantState) (c : ConfigTable) (next : Next) → Went s u c next → (q : ℕ) → NotTarget next q → IsAsBefore s u c q
went-others s u c Pass went q ne = before-same c s u went q
went-others s u c (Do m) went q ne = went.others q ne
went-others s u c (Bring m v t) went q ne = went.others q ne
went-others s u c (Open v k n) went q ne = went.others q ne
went-others s u c (Perform a) went q ne = before-same c s u went q
went-others s u c (End r) went q ne = absurd went

-- nothing more is needed than for what is told, and a stop
pub most-few : (next : Next) (s : PlantState) (c : ConfigTable) (n : ℕ) → cost_of next s c + 1 ≤ n → most_of next s c ≤ n
most-few Pass s c n h = omega arith
most-few (Do m) s c n h = h
most-few (Bring m u t) s c n h = h
most-few (Open v k i) s c n h = omega (arith, h)
most-few (Perform a) s c n h = omega (arith, h)
most-few (End r) s c n h = omega arith

-- nothing is heard of a move that lands no host write
pub calm-lands : (m : Move) → is_calm (move_of m) ≡ true → landed_by m ≡ None
calm-lands (move.Land w v t) calm = absurd (let never = calm in cc)
calm-lands (move.Overwrite w v t) calm = absurd (let never = calm in cc)
calm-lands (move.LandBoth w v t) calm = absurd (let never = calm in cc)
calm-lands m calm = refl

pub calm-heard : {B : Type 0} (after : News → B → B) (x y : B) (m : Move) (res : Result (Unit {0}) Stop) → is_calm (move_of m) ≡ true → y ≡ heard after (heard_of (settled_by m) (marked_by m) res) x → y ≡ heard after (heard_of None None res) x
calm-heard after x y m res calm is = is ∙ ap (λ o. heard after (heard_of (option_map Settled o) (option_map Landed o) res) x) (calm-lands m calm)

-- in less room
pub least : (a m n k : ℕ) → a ≤ m + n → n ≤ k → a ≤ m + k
least a m n k h l = omega (arith, h, l)

module _ {B : Type 0} (after : News → B → B) (rest : B → Rest → Rest) (x y : B) (s u : PlantState) (c : ConfigTable) (old new : Log) (m : machine.Move) (next : Next) (t : Carried) (goes : WentBy s u c m t → Went s u c next) (cuts : (b : Bool) → CutBy s u c b m t → CutIn s u c b next)
    (refuses : (r : Option Refusal) → r ≡ Some (stopped (volume_seen s c (target m)).server) → RefusedAs s c next r) (cost : cost_of next s c ≡ length (told m (volume_seen s c (target m)))) (most : ℕ) (few : most ≡ cost_of next s c + 1) (aims : (q : ℕ) → NotTarget next q → q ≢ target m) where
  room-cost : room_for m (volume_seen s c (target m)) ≤ most
  room-cost = room-few m (volume_seen s c (target m)) most (let e = cost in let f = few in omega (arith, e, f))

  pub acted-made : (res : Result (Unit {0}) Stop)
      → OnOk res ((r : Rest) (d : Entry) → d (world_seen s c (rest x r) old.events).control ≡ next_of next → Advances (world_seen s c (rest x r) old.events) d (world_seen u c (rest y r) new.events))
      → OnErr res ((r : Rest) (d : Entry) → d (world_seen s c (rest x r) old.events).control ≡ next_of next → Halts (armed_in s) (world_seen s c (rest x r) old.events) d (world_seen u c (rest y r) new.events) (refusal_of (refused_by res)))
      → Made s u c old new m (target m) t res → y ≡ heard after (heard_of (done_news next) (stop_news next) res) x → Kept s u c old new (room_for m (volume_seen s c (target m))) (is_err res) res
      → OnOk res (old.spare ≡ new.spare + length (told m (volume_seen s c (target m)))) → ActedBeside after rest x y s u c old new next most (refused_by res)
  acted-made (Ok z) advances halts made is kept left = record {
    advances = advances;
    halts = tt;
    went = goes (record { at = kept.at; on = kept.on; moved = made.came; others = made.others });
    heard = is;
    cut = tt;
    kept = record { at = kept.at; aside = kept.aside; unarmed = kept.unarmed; faults = kept.faults; on = kept.on; room = least old.spare new.spare (room_for m (volume_seen s c (target m))) most kept.room room-cost; spare = kept.spare };
    refused = tt;
    room_left = let e = cost in let h = left in omega (arith, e, h);
    others = λ q ne. made.others q (aims q ne);
  }
  acted-made (Err stop) advances halts made is kept left = record {
    advances = tt;
    halts = halts;
    went = tt;
    heard = tt;
    cut = record { counts = stop.counts; cut = cuts stop.counts (record { came = made.came; others = made.others }); heard = is };
    kept = record { at = kept.at; aside = kept.aside; unarmed = kept.unarmed; faults = kept.faults; on = tt; room = least old.spare new.spare (room_for m (volume_seen s c (target m))) most kept.room room-cost; spare = kept.spare };
    refused = refuses (Some (stopped stop.server.0)) (ap (λ n. Some (stopped n)) made.server);
    room_left = tt;
    others = λ q ne. made.others q (aims q ne);
  }

-- what is no refusal fails by a stop alone
pub goes-stops : (s : PlantState) (c : ConfigTable) (next : Next) → GoesOn next → (r : Option Refusal) → RefusedAs s c next r → is_stop r ≡ true
goes-stops s c Pass goes r refused = absurd refused
goes-stops s c (Do m) goes r refused = ap is_stop refused
goes-stops s c (Bring m v t) goes r (inl refused) = ap is_stop refused
goes-stops s c (Bring m v t) goes r (inr refused) = ap is_stop refused
goes-stops s c (Open v k n) goes r refused = ap is_stop refused
goes-stops s c (Perform a) goes r refused = absurd refused
goes-stops s c (End why) goes r refused = absurd goes

pub nothing-kept : (s : PlantState) (c : ConfigTable) (j : Log) (res : Result (Unit {0}) Refusal) → IsAt s c → is_stop (refusal_of res) ≡ false → (n : ℕ) → OnOk res (s.on ≡ s.on) → Kept s s c j j n (is_stop (refusal_of res)) res
nothing-kept s c j res at calm n on = record {
  at = at;
  aside = λ fit. fit;
  unarmed = λ q none. none;
  faults = subst (λ b. Counted b s.faults s.faults) (sym calm) refl;
  on = on;
  room = omega arith;
  spare = refl;
}

-- an entry that passes, one that ends the plan, and one that is an act
module _ {B : Type 0} (after : News → B → B) (rest : B → Rest → Rest) (x : B) (s : PlantState) (c : ConfigTable) (j : Log) (at : IsAt s c) where
  pub acted-pass : ActedBeside after rest x x s s c j j Pass 0 (Ok tt)
  acted-pass = record {
    advances = λ r d comes. skips (world_seen s c (rest x r) j.events) d comes;
    halts = tt;
    went = refl;
    heard = refl;
    cut = tt;
    kept = nothing-kept s c j (Ok tt) at refl 0 refl;
    refused = tt;
    room_left = omega arith;
    others = λ q ne. before-same c s s refl q;
  }

  pub acted-end : (why : Refusal) → is_stop (Some why) ≡ false → ActedBeside after rest x x s s c j j (End why) 0 (Err why)
  acted-end why calm = record {
    advances = tt;
    halts = λ r d comes ds. ends-alike (armed_in s) (world_seen s c (rest x r) j.events) (Some why) (world_seen s c (rest x r) j.events) d (check (λ k. false) why) ds comes
        (ends-refused (armed_in s) (world_seen s c (rest x r) j.events) (Some why) (world_seen s c (rest x r) j.events) (λ k. false) why ds refl refl refl);
    went = tt;
    heard = tt;
    cut = record { counts = false; cut = refl; heard = refl };
    kept = nothing-kept s c j (Err why) at calm 0 tt;
    refused = refl;
    room_left = tt;
    others = λ q ne. before-same c s s refl q;
  }

  pub acted-act : (y : B) (new : Log) (a : Act) → ((r : Rest) (d : Entry) → d (world_seen s c (rest x r) j.events).control ≡ DoAct (act_of a) → Advances (world_seen s c (rest x r) j.events) d (world_seen s c (rest y r) new.events)) → y ≡ heard after (act_news a) x
      → new.events ≡ j.events ++ act_told a → j.spare ≡ new.spare + length (act_told a) → ActedBeside after rest x y s s c j new (Perform a) (length (act_told a)) (Ok tt)
  acted-act y new a advances is told left = record {
    advances = advances;
    halts = tt;
    went = refl;
    heard = is;
    cut = tt;
    kept = record {
      at = at;
      aside = λ fit. fit;
      unarmed = λ q none. none;
      faults = refl;
      on = refl;
      room = let h = left in omega (arith, h);
      spare = let e : length new.events ≡ length j.events + length (act_told a) = ap length told ∙ length-append j.events (act_told a) in let h = left in omega (arith, e, h);
    };
    refused = tt;
    room_left = left;
    others = λ q ne. before-same c s s refl q;
  }

-- where more may be told
pub acted-wider : {B : Type 0} (after : News → B → B) (rest : B → Rest → Rest) (x y : B) (s u : PlantState) (c : ConfigTable) (old new : Log) (next : Next) (most more : ℕ) (res : Result (Unit {0}) Refusal) → most ≤ more → ActedBeside after rest x y s u c old new next most res
    → ActedBeside after rest x y s u c old new next more res
acted-wider after rest x y s u c old new next most more res few acted = record {
  advances = acted.advances;
  halts = acted.halts;
  went = acted.went;
  heard = acted.heard;
  cut = acted.cut;
  refused = acted.refused;
  room_left = acted.room_left;
  others = acted.others;
  kept = record { at = acted.kept.at; aside = acted.kept.aside; unarmed = acted.kept.unarmed; faults = acted.kept.faults; on = acted.kept.on; room = least old.spare new.spare most more acted.kept.room few; spare = acted.kept.spare };
}

-- a server that went off at a read before it
pub acted-gone : {B : Type 0} (after : News → B → B) (rest : B → Rest → Rest) (x : B) (s u : PlantState) (c : ConfigTable) (old new : Log) (next : Next) (why : Refusal) (server : ℕ) → IsAt s c → Some why ≡ Some (stopped server) → RefusedAs s c next (Some why) → (((q : ℕ) → IsAsBefore s u c q) → CutIn s u c false next)
    → ((r : Rest) → GoesOff (armed_in s) (world_seen u c r new.events) (Some why) (world_seen s c r old.events)) → ((q : ℕ) → IsAsBefore s u c q) → IsAtRest u c
    → ((q : ℕ) → s.read_fuse q ≡ None → u.read_fuse q ≡ None) → Counted true s.faults u.faults → old.spare ≤ new.spare + 1 → length new.events + new.spare ≡ length old.events + old.spare
    → ActedBeside after rest x x s u c old new next (cost_of next s c + 1) (Err why)
acted-gone after rest x s u c old new next why server at stops refused cuts gone same calm unarmed faults room spare = record {
  advances = tt;
  halts = λ r d comes ds. ends-off (armed_in s) (world_seen u c (rest x r) new.events) (Some why) (world_seen s c (rest x r) old.events) (d ∷ ds) (gone (rest x r));
  went = tt;
  heard = tt;
  cut = record { counts = false; cut = cuts same; heard = refl };
  kept = record {
    at = record { rest = calm; fit = fit-same s u c same at.fit };
    aside = aside-same s u c same;
    unarmed = unarmed;
    faults = subst (λ b. Counted b s.faults u.faults) (sym (ap is_stop stops)) faults;
    on = tt;
    room = more old.spare new.spare (cost_of next s c) room;
    spare = spare;
  };
  refused = refused;
  room_left = tt;
  others = λ q ne. same q;
}
  where
    more : (a b n : ℕ) → a ≤ b + 1 → a ≤ b + (n + 1)
    more a b n h = omega (arith, h)
