-- A part of a host write behind calls that carried out entries: what is left of it, and of what it needs.
use Rattle.std.proofs.Common.{ℕ, ◌≡◌, ◌≢◌, ◌≤◌, ◌<◌, ◌+◌, inl, inr, Bool, true, false, nat_eq, refl, List, [], ◌++◌, length, arith, ap, sym, subst, ◌∙◌, Some, None}
use Rattle.std.specs.Prelude.{Result, Ok, Err, OnOk, OnErr, is_err}
use Rattle.std.specs.Result.{IsErrAnd, IfOk}
use Rattle.std.proofs.lemmas.Bool.{and_parts}
use Rattle.std.proofs.lemmas.Bool.Decides.{eqb_tells}
use Rattle.dr_logic.specs.Counts.{Counted, Rose}
use Rattle.dr_logic.proofs.Truth.{false_true}
use Rattle.dr_ids.specs.declared.refusal.Refusal.{Refusal}
use Rattle.dr_plant.specs.State.{PlantState}
use Rattle.dr_config.specs.Table.{ConfigTable, StandsFor}
use Rattle.dr_host.specs.Writes.{Writes}
use Rattle.dr_host.specs.declared.pending.Pending.{Pending}
use Rattle.dr_model.specs.declared.event.Event.{Event}
use Rattle.dr_model.specs.Log.{Log}
use Rattle.dr_model.specs.Carry.{Entry}
use Rattle.dr_model.specs.Contents.{with_write}
use Rattle.dr_model.specs.Control.{Control, Volume}
use Rattle.dr_model.specs.Histories.{histories}
use Rattle.dr_model.specs.Entries.{copies_from}
use Rattle.dr_model.specs.Layout.{is_part}
use Rattle.dr_model.specs.ReadStops.{Ends, GoesOff}
use Rattle.dr_model.specs.Refusals.{stopped}
use Rattle.dr_volume.specs.declared.fields.Fields.{Fields}
use Rattle.dr_volume.specs.Update.{IsAsBefore}
use Rattle.dr_volume.specs.View.{Rest, volume_seen, track_seen}
use Rattle.dr_volume.specs.Volume.{Says}
use Rattle.dr_volume.proofs.SaysLaws.{says-along}
use Rattle.dr_moves.specs.Checks.{is_stop}
use Rattle.dr_moves.specs.Fit.{RelationsFit}
use Rattle.dr_moves.specs.Here.{world_seen, armed_in, refusal_of, IsAtRest}
use Rattle.dr_moves.specs.Made.{IsAt, IsPrimary}
use Rattle.dr_moves.proofs.ActedLemmas.{err-is}
use Rattle.dr_moves.proofs.EntryLemmas.{led, failed, counted-stop}
use Rattle.dr_moves.proofs.KeptLemmas.{wider-armed}
use Rattle.dr_moves.proofs.FitLemmas.{fit-same}
use Rattle.dr_moves.proofs.ReadLemmas.{rest-same}
use Rattle.dr_facts.proofs.Ends.{ends-wider, ends-none, ends-off}
use Rattle.dr_facts.proofs.Issued.{unissued}
use Rattle.dr_flash.specs.Standing.{HasNoTarget}
use Rattle.dr_flash.proofs.CopyLemmas.{no-own}
use Rattle.dr_gcopy.specs.Both.{IsOn}
use Rattle.dr_gcopy.specs.Ran.{Ran}
use Rattle.dr_gcopy.proofs.SendLemmas.{other-server, same-server, same-tracks}
use Rattle.dr_host.specs.Here.{here, rest_of}
use Rattle.dr_metro.specs.Here.{IsTold}
use Rattle.dr_gcopy.specs.Sending.{MayPair}
use Rattle.dr_metro.specs.Mirroring.{CanLand}
use Rattle.dr_metro.specs.Syncing.{end_of}
use Rattle.dr_metro.specs.Writing.{IsDue, Wrote, landed_so}
use Rattle.dr_metro.specs.declared.sync.WriteEnd.{WriteEnd}
use Rattle.dr_metro.proofs.ToldLemmas.{no_rest, told-through}

-- entries that led on have issued no write, and so the pending ones are those of the journal still
module _ (s m : PlantState) (c : ConfigTable) (h : Writes) (old mid : Log) (es : List Entry) (P : ℕ → Type 0) (most least : ℕ) where
  pub ran-ends : (res : Result (Unit {0}) Refusal) → Ran s m c old mid es P most least res → (rest : Rest) → Ends (armed_in s) (here m c rest h mid.events) (refusal_of res) (here s c rest h old.events) es
  ran-ends (Ok x) ran rest = led (armed_in s) (here s c rest h old.events) (here m c rest h mid.events) es (ran.leads (rest_of rest h old.events))
  ran-ends (Err e) ran rest = failed (armed_in s) (here s c rest h old.events) (here m c rest h mid.events) (Some e) es (ran.fails (rest_of rest h old.events))

  pub ran-told : (res : Result (Unit {0}) Refusal) → Ran s m c old mid es P most least res → IsTold h old.events → IsTold h mid.events
  ran-told res ran told = told-through (armed_in s) h (here s c no_rest h old.events) (here m c no_rest h mid.events) es (refusal_of res) (ran-ends res ran no_rest) told

  pub ran-writes : Ran s m c old mid es P most least (Ok tt) → (histories mid.events).write ≡ (histories old.events).write
  ran-writes ran = unissued (armed_in s) (here m c no_rest h mid.events) None (here s c no_rest h old.events) es (ran-ends (Ok tt) ran no_rest)

  -- what comes behind them is part of the same
  pub wrote-then : (u : PlantState) (g : Writes) (new : Log) (fs : List Entry) (more n : ℕ) {T : Type 0} (res : Result T Refusal) → least + more ≤ n → Ran s m c old mid es P most least (Ok tt)
      → Wrote m u c h g mid new (λ k. fs) more res → Wrote s u c h g old new (λ k. es ++ fs) n res
  wrote-then u g new fs more n {T = T} res large first second = record {
    carried = λ rest. first.leads (rest_of rest h old.events) (armed_in s) (here u c rest g new.events) (refusal_of res) fs
        (ends-wider (armed_in m) (armed_in s) (wider-armed s m first.stays.unarmed) (here u c rest g new.events) (refusal_of res) (here m c rest h mid.events) fs (second.carried rest));
    at = second.at;
    told = second.told;
    unarmed = λ q none. second.unarmed q (first.stays.unarmed q none);
    faults = subst (λ n. Counted (is_stop (refusal_of res)) n u.faults) first.stays.faults second.faults;
    issued = second.issued;
    room = let a = first.stays.left in let b = second.room in omega (arith, a, b, large);
    spare = second.spare ∙ first.stays.spare;
  }

  -- and where they failed nothing comes behind them
  pub wrote-failed : (fs : List Entry) (n : ℕ) {T : Type 0} (res : Result T Refusal) (e : Refusal) → is_err res ≡ true → IsErrAnd res (λ x. x ≡ e) → most ≤ n → IsTold h old.events
      → Ran s m c old mid es P most least (Err e) → Wrote s m c h h old mid (λ k. es ++ fs) n res
  wrote-failed fs n {T = T} res e failed is large told ran =
      subst (λ (x : Result T Refusal). Wrote s m c h h old mid (λ k. es ++ fs) n x) (sym (err-is res e failed is)) (record {
        carried = λ rest. ran.fails (rest_of rest h old.events) fs;
        at = ran.stays.at;
        told = ran-told (Err e) ran told;
        unarmed = ran.stays.unarmed;
        faults = ran.stays.faults;
        issued = refl;
        room = let a = ran.stays.room in omega (arith, a, large);
        spare = ran.stays.spare;
      })

-- the same of other entries that end so
pub wrote-carried : (s u : PlantState) (c : ConfigTable) (h g : Writes) (old new : Log) (es fs : Control → List Entry) (n : ℕ) {T : Type 0} (res : Result T Refusal) → ((rest : Rest) → Ends (armed_in s) (here u c rest g new.events) (refusal_of res) (here s c rest h old.events) (fs (here s c rest h old.events).control))
    → Wrote s u c h g old new es n res → Wrote s u c h g old new fs n res
wrote-carried s u c h g old new es fs n res carried w = record {
  carried = carried;
  at = w.at;
  told = w.told;
  unarmed = w.unarmed;
  faults = w.faults;
  issued = w.issued;
  room = w.room;
  spare = w.spare;
}

-- or that come to these
pub wrote-alike : (s u : PlantState) (c : ConfigTable) (h g : Writes) (old new : Log) (es fs : Control → List Entry) (n : ℕ) {T : Type 0} (res : Result T Refusal) → ((rest : Rest) → es (here s c rest h old.events).control ≡ fs (here s c rest h old.events).control)
    → Wrote s u c h g old new es n res → Wrote s u c h g old new fs n res
wrote-alike s u c h g old new es fs n res same w =
    wrote-carried s u c h g old new es fs n res (λ rest. subst (Ends (armed_in s) (here u c rest g new.events) (refusal_of res) (here s c rest h old.events)) (same rest) (w.carried rest)) w

-- there are none
pub wrote-nothing : (s : PlantState) (c : ConfigTable) (h : Writes) (old : Log) (es : Control → List Entry) (n : ℕ) {T : Type 0} (x : T) → ((rest : Rest) → es (here s c rest h old.events).control ≡ []) → IsAt s c → IsTold h old.events → Wrote s s c h h old old es n (Ok x)
wrote-nothing s c h old es n x none at told = record {
  carried = λ rest. subst (Ends (armed_in s) (here s c rest h old.events) None (here s c rest h old.events)) (sym (none rest)) (ends-none (armed_in s) (here s c rest h old.events) None (here s c rest h old.events) (record { world = refl; refusal = refl }));
  at = at;
  told = told;
  unarmed = λ q none. none;
  faults = refl;
  issued = refl;
  room = omega arith;
  spare = refl;
}

-- in more room
pub wrote-within : (s u : PlantState) (c : ConfigTable) (h g : Writes) (old new : Log) (es : Control → List Entry) (n k : ℕ) {T : Type 0} (res : Result T Refusal) → n ≤ k → Wrote s u c h g old new es n res → Wrote s u c h g old new es k res
wrote-within s u c h g old new es n k res large w = record {
  carried = w.carried;
  at = w.at;
  told = w.told;
  unarmed = w.unarmed;
  faults = w.faults;
  issued = w.issued;
  room = let a = w.room in omega (arith, a, large);
  spare = w.spare;
}

-- a call that fails by the stop of one server
pub wrote-by : (s u : PlantState) (c : ConfigTable) (h g : Writes) (old new : Log) (es : List Entry) (n server : ℕ) (res : Result (Unit {0}) Refusal) → OnErr res (refusal_of res ≡ Some (stopped server))
    → ((rest : Rest) → Ends (armed_in s) (here u c rest g new.events) (refusal_of res) (here s c rest h old.events) es) → IsAtRest u c → RelationsFit u c → IsTold g new.events → ((q : ℕ) → s.read_fuse q ≡ None → u.read_fuse q ≡ None)
    → Counted (is_err res) s.faults u.faults → g.issued ≡ h.issued → old.spare ≤ new.spare + n → length new.events + new.spare ≡ length old.events + old.spare → Wrote s u c h g old new (λ k. es) n res
wrote-by s u c h g old new es n server res refused carried rest fit told unarmed faults issued room spare = record {
  carried = carried;
  at = record { rest = rest; fit = fit };
  told = told;
  unarmed = unarmed;
  faults = counted-stop res s.faults u.faults server faults refused;
  issued = issued;
  room = room;
  spare = spare;
}

-- a server that went off at a read
pub wrote-gone : (s u : PlantState) (c : ConfigTable) (h : Writes) (old new : Log) (es : List Entry) (server : ℕ) → IsAt s c → IsTold h old.events → ((r : Rest) → GoesOff (armed_in s) (world_seen u c r new.events) (Some (stopped server)) (world_seen s c r old.events))
    → ((q : ℕ) → IsAsBefore s u c q) → StandsFor c u → ((q : ℕ) → s.read_fuse q ≡ None → u.read_fuse q ≡ None) → Rose s.faults u.faults → old.spare ≤ new.spare + 1 → length new.events + new.spare ≡ length old.events + old.spare
    → Wrote s u c h h old new (λ k. es) 1 {T = Unit {0}} (Err (stopped server))
wrote-gone s u c h old new es server at told gone same stands unarmed rose room spare =
    let ends : (rest : Rest) → Ends (armed_in s) (here u c rest h new.events) (Some (stopped server)) (here s c rest h old.events) es = (λ rest. ends-off (armed_in s) (here u c rest h new.events) (Some (stopped server)) (here s c rest h old.events) es (gone (rest_of rest h old.events))) in
    record {
      carried = ends;
      at = record { rest = rest-same c s u at.rest stands same; fit = fit-same s u c same at.fit };
      told = told-through (armed_in s) h (here s c no_rest h old.events) (here u c no_rest h new.events) es (Some (stopped server)) (ends no_rest) told;
      unarmed = unarmed;
      faults = rose;
      issued = refl;
      room = room;
      spare = spare;
    }

-- what was carried out has landed
module _ (res : Result (Unit {0}) Refusal) (r : Result WriteEnd Refusal) (is : r ≡ landed_so res) where
  pub landed-wrote : (s u : PlantState) (c : ConfigTable) (h g : Writes) (old new : Log) (es : Control → List Entry) (n : ℕ) → Wrote s u c h g old new es n res → Wrote s u c h g old new es n r
  landed-wrote s u c h g old new es n w = subst (λ (x : Result WriteEnd Refusal). Wrote s u c h g old new es n x) (sym is) (by res w)
    where
      by : (x : Result (Unit {0}) Refusal) → Wrote s u c h g old new es n x → Wrote s u c h g old new es n (landed_so x)
      by (Ok x) w = record { carried = w.carried; at = w.at; told = w.told; unarmed = w.unarmed; faults = w.faults; issued = w.issued; room = w.room; spare = w.spare }
      by (Err e) w = record { carried = w.carried; at = w.at; told = w.told; unarmed = w.unarmed; faults = w.faults; issued = w.issued; room = w.room; spare = w.spare }

  pub landed-stops : OnErr res (is_stop (refusal_of res) ≡ true) → OnErr r (is_stop (refusal_of r) ≡ true)
  landed-stops stops = subst (λ (x : Result WriteEnd Refusal). OnErr x (is_stop (refusal_of x) ≡ true)) (sym is) (by res stops)
    where
      by : (x : Result (Unit {0}) Refusal) → OnErr x (is_stop (refusal_of x) ≡ true) → OnErr (landed_so x) (is_stop (refusal_of (landed_so x)) ≡ true)
      by (Ok x) stops = tt
      by (Err e) stops = stops

  pub landed-ok : (Q : Type 0) → OnOk res Q → OnOk r Q
  landed-ok Q holds = subst (λ (x : Result WriteEnd Refusal). OnOk x Q) (sym is) (by res holds)
    where
      by : (x : Result (Unit {0}) Refusal) → OnOk x Q → OnOk (landed_so x) Q
      by (Ok x) holds = holds
      by (Err e) holds = tt

  pub landed-end : (waits : Bool) → waits ≡ false → IfOk r (λ e. e ≡ end_of waits)
  landed-end waits none = subst (λ (x : Result WriteEnd Refusal). IfOk x (λ e. e ≡ end_of waits)) (sym is) (subst (λ b. IfOk (landed_so res) (λ e. e ≡ end_of b)) (sym none) (by res))
    where
      by : (x : Result (Unit {0}) Refusal) → IfOk (landed_so x) (λ e. e ≡ end_of false)
      by (Ok x) = refl
      by (Err e) = tt

-- a write that is due stays so, on a volume that has the size that it had
pub due-still : (s m : PlantState) (c : ConfigTable) (h : Writes) (before mid : List Event) (p : Pending) → IsAt m c → IsTold h mid → IsDue s c h before p → IsDue m c h mid p
due-still s m c h before mid p at told due = record {
  at = at;
  told = told;
  defined = due.defined;
  within = subst (λ n. p.track < n) (same-tracks s m c p.volume.0) due.within;
  fits = due.fits;
  found = due.found;
}

pub on-still : (s m : PlantState) (c : ConfigTable) (v : ℕ) → m.on ≡ s.on → IsOn s c v → IsOn m c v
on-still s m c v on running = (λ i. on i (same-server m s c v i)) ∙ running

pub pair-still : (s m : PlantState) (c : ConfigTable) (v u : ℕ) → MayPair s c v u → MayPair m c v u
pair-still s m c v u pair = record {
  to = pair.to;
  two_servers = λ e. pair.two_servers (same-server s m c v ∙ e ∙ same-server m s c u);
  size = same-tracks m s c u ∙ pair.size ∙ same-tracks s m c v;
}

-- one that can land on a primary still can
module _ (s m : PlantState) (c : ConfigTable) (h : Writes) (old mid : Log) (es : List Entry) (P : ℕ → Type 0) (most least n v t : ℕ) (block : List ℕ) (f : Fields) where
  pub land-still : (g : Fields) → Ran s m c old mid es P most least (Ok tt) → track_seen m c v t ≡ track_seen s c v t → IsPrimary m c v → Says m c v g → CanLand s c h old.events n v t block f → CanLand m c h mid.events n v t block g
  land-still g ran same primary says can = record {
    at = ran.stays.at;
    told = ran-told s m c h old mid es P most least (Ok tt) ran can.told;
    waits = can.waits;
    from = can.from;
    running = on-still s m c v ran.stays.on can.running;
    primary = primary;
    within = subst (λ k. t < k) (same-tracks s m c v) can.within;
    bytes = can.bytes ∙ sym (λ i. with_write (ran-writes s m c h old mid es P most least ran i) (same i) n);
    says = says;
  }

  pub land-before : Ran s m c old mid es P most least (Ok tt) → IsAsBefore s m c v → CanLand s c h old.events n v t block f → CanLand m c h mid.events n v t block f
  land-before ran before can =
      land-still f ran (ap (λ (z : ℕ → List ℕ). z t) before.tracks) (ap (λ (x : Volume). is_part x.fields.primary) before.volume ∙ can.primary) (says-along s m c v f before can.says) can

-- a volume without targets has none where those of another volume on another server moved, and that volume itself
pub none-still : (s m : PlantState) (c : ConfigTable) (v u : ℕ) → RelationsFit s c → RelationsFit m c → MayPair s c v u → ((q : ℕ) → q ≢ u → copies_from u (volume_seen s c q).fields ≡ false → IsAsBefore s m c q) → HasNoTarget s c v → HasNoTarget m c v
none-still s m c v u before after pair others none q =
    let f = (volume_seen s c q).fields in
    elim (eqb_tells q u) as (λ _. copies_from v (volume_seen m c q).fields ≡ false) [
      | inl p ↦ away (λ e. pair.two_servers (sym e ∙ ap (λ z. (volume_seen s c z).server) p.1))
      | inr p ↦ elim (copies_from u f) as (λ b. copies_from u f ≡ b → copies_from v (volume_seen m c q).fields ≡ false) [
        | false ↦ λ other. ap (λ (x : Volume). copies_from v x.fields) (others q p.1 other).volume ∙ none q
        | true ↦ λ copies. let both = and_parts f.related (nat_eq f.source u) copies in elim (eqb_tells f.source u) as (λ _. copies_from v (volume_seen m c q).fields ≡ false) [
          | inl r ↦ away (λ e. pair.two_servers (sym e ∙ (before.source q both.0).same_server ∙ ap (λ z. (volume_seen s c z).server) r.1))
          | inr r ↦ false_true r.0 both.1
        ]
      ] refl
    ]
  where
    away : (volume_seen s c q).server ≢ (volume_seen s c v).server → copies_from v (volume_seen m c q).fields ≡ false
    away apart = other-server m c q v after (λ e. apart (same-server s m c q ∙ e ∙ same-server m s c v))

-- and where it moved itself
pub none-moved : (s m : PlantState) (c : ConfigTable) (v : ℕ) → RelationsFit m c → ((q : ℕ) → q ≢ v → IsAsBefore s m c q) → HasNoTarget s c v → HasNoTarget m c v
none-moved s m c v fit others none q =
    elim (eqb_tells q v) as (λ _. copies_from v (volume_seen m c q).fields ≡ false) [
      | inl p ↦ subst (λ z. copies_from v (volume_seen m c z).fields ≡ false) (sym p.1) (no-own m c v fit)
      | inr p ↦ ap (λ (x : Volume). copies_from v x.fields) (others q p.1).volume ∙ none q
    ]
