-- A host write has landed by a move, or its server stopped in it: for the machine, the host and the journal.
use Rattle.std.proofs.Common.{ℕ, ◌≡◌, ◌<◌, inl, inr, Bool, true, false, not, ◌&&◌, List, [], ◌∷◌, filter, map, refl, sym, ◌∙◌, ap, subst, Some, None}
use Rattle.std.specs.Prelude.{Result, Ok, Err, OnOk, OnErr, is_err, is_some, if◌then◌else◌}
use Rattle.std.specs.FinSet.{contains}
use Rattle.dr_logic.specs.Counts.{Counted}
use Rattle.dr_ids.specs.declared.refusal.Refusal.{Refusal}
use Rattle.dr_plant.specs.State.{PlantState}
use Rattle.dr_config.specs.Table.{ConfigTable, place_of}
use Rattle.dr_host.specs.Writes.{Writes, with_marked}
use Rattle.dr_host.specs.Seen.{pending_seen}
use Rattle.dr_host.proofs.Each.{each-without}
use Rattle.dr_host.proofs.Seen.{seen-without, seen-marked}
use Rattle.dr_model.specs.declared.event.Event.{Event}
use Rattle.dr_model.specs.Contents.{laid, with_write}
use Rattle.dr_model.specs.Control as control
use Rattle.dr_model.specs.Control.{Volume, World}
use Rattle.dr_model.specs.Entries.{land_on}
use Rattle.dr_model.specs.Histories.{Write, histories}
use Rattle.dr_model.specs.Layout.{Fields}
use Rattle.dr_model.specs.Log.{Log}
use Rattle.dr_model.specs.Moves.{Move, Carried, target, fields_left, carried, marked, is_other, settled, settled_in_stop}
use Rattle.dr_model.specs.Pairs.{written}
use Rattle.dr_model.specs.Relations.{closed, fetched, rewritten}
use Rattle.dr_model.specs.Carry.{Make, Do, Entry}
use Rattle.dr_model.specs.ReadStops.{Ends, GoesOff}
use Rattle.dr_model.specs.Refusals.{stopped}
use Rattle.dr_model.proofs.CarryLemmas.{act-move}
use Rattle.dr_volume.specs.Update.{IsMoved}
use Rattle.dr_volume.specs.View.{Rest, world, volume_seen, track_seen}
use Rattle.dr_flash.specs.Views.{view_seen}
use Rattle.dr_moves.specs.Checks.{is_stop}
use Rattle.dr_moves.specs.Heard.{refused_by}
use Rattle.dr_moves.specs.Here.{world_seen, armed_in, refusal_of}
use Rattle.dr_moves.specs.Made.{May, room_for, after_done, after_stop, Turned, Came, counts_as, stopped_at, Made, Kept}
use Rattle.dr_moves.specs.declared.acts.Stop.{Stop}
use Rattle.dr_moves.proofs.TurnLemmas.{ok-along}
use Rattle.dr_facts.proofs.Ends.{ends-goes, ends-stops, ends-none, ends-off}
use Rattle.dr_host.specs.Here.{here, rest_of}
use Rattle.dr_metro.specs.Here.{IsTold}
use Rattle.dr_metro.specs.Landing.{landing_move, landed_on, writes_after}
use Rattle.dr_metro.specs.Writing.{Wrote}
use Rattle.dr_metro.proofs.ToldLemmas.{no_rest, IsWrite, told-marked, told-through}

module _ (s u : PlantState) (c : ConfigTable) (h : Writes) (before after : List Event) (n : ℕ) (m : Move) (d : Entry)
    (settles : (ps : List control.Pending) → settled m ps ≡ filter (is_other n) ps) (settles_in_stop : (ps : List control.Pending) → settled_in_stop m ps ≡ marked n ps)
    (comes : (rest : Rest) → d (here s c rest h before).control ≡ Do (Make m)) where
  pub landing-ends : (res : Result (Unit {0}) Stop) → Turned s u c before after m res → (rest : Rest) → Ends (armed_in s) (here u c rest (writes_after h n res) after) (refusal_of (refused_by res)) (here s c rest h before) (d ∷ [])
  landing-ends (Ok x) turned rest =
      let w = here s c rest h before in
      let left = settles (map pending_seen h.pending) ∙ sym (seen-without n h.pending) in
      ends-goes (armed_in s) _ None w (world_seen u c (after_done m (rest_of rest h before)) after) d [] (Make m) (comes rest) (act-move w m ∙ turned (rest_of rest h before))
      (ends-none (armed_in s) _ None _ (record { world = λ i. world u c (record (rest_of rest h after) { pending = sym left i }); refusal = refl }))
  landing-ends (Err stop) turned rest =
      let w = here s c rest h before in
      elim (turned (rest_of rest h before)) as (λ _. Ends (armed_in s) (here u c rest (writes_after h n (Err stop)) after) (Some (stopped stop.server.0)) w (d ∷ [])) [
        | inl off ↦ ends-off (armed_in s) _ (Some (stopped stop.server.0)) w (d ∷ []) (subst (λ b. GoesOff (armed_in s) (here u c rest (if b then with_marked h n else h) after) (Some (stopped stop.server.0)) w) (sym off.0) off.1)
        | inr is ↦ ends-stops (armed_in s) _ (Some (stopped stop.server.0)) w d [] (Make m) stop.server.0 (comes rest)
            (act-move w m ∙ is ∙ ap (λ (z : World). (z, Some stop.server.0)) (left stop.counts)) refl
      ]
    where
      left : (b : Bool) → world_seen u c (after_stop m b (rest_of rest h before)) after ≡ here u c rest (if b then with_marked h n else h) after
      left true = λ i. world u c (record (rest_of rest h after) { pending = (settles_in_stop (map pending_seen h.pending) ∙ sym (seen-marked n h.pending)) i })
      left false = refl

  pub landing-told : (res : Result (Unit {0}) Stop) → Turned s u c before after m res → IsTold h before → IsTold (writes_after h n res) after
  landing-told res turned told = by res (told-through (armed_in s) h (here s c no_rest h before) (here u c no_rest (writes_after h n res) after) (d ∷ []) (refusal_of (refused_by res)) (landing-ends res turned no_rest) told)
    where
      by : (res : Result (Unit {0}) Stop) → IsTold h after → IsTold (writes_after h n res) after
      by (Ok x) told = each-without (IsWrite (histories after).write) n h.pending told
      by (Err stop) told = told-marked h _ after n stop.counts refl told

-- what the host and the call come to
module _ (res : Result (Unit {0}) Stop) (r : Result (Unit {0}) Refusal) (says : r ≡ refused_by res) where
  pub landing-refused : (server : ℕ) → stopped_at server res → OnErr r (refusal_of r ≡ Some (stopped server))
  landing-refused server at = subst (λ (x : Result (Unit {0}) Refusal). OnErr x (refusal_of x ≡ Some (stopped server))) (sym says) (by res at)
    where
      by : (res : Result (Unit {0}) Stop) → stopped_at server res → OnErr (refused_by res) (refusal_of (refused_by res) ≡ Some (stopped server))
      by (Ok x) at = tt
      by (Err stop) at = ap (λ n. Some (stopped n)) at

  pub landing-moved : (s u : PlantState) (c : ConfigTable) (v : ℕ) (f : Fields) (t : Carried) → Came (counts_as res) s u c v f t → OnOk r (IsMoved s u c v f t)
  landing-moved s u c v f t came = subst (λ (x : Result (Unit {0}) Refusal). OnOk x (IsMoved s u c v f t)) (sym says) (by res came)
    where
      by : (res : Result (Unit {0}) Stop) → Came (counts_as res) s u c v f t → OnOk (refused_by res) (IsMoved s u c v f t)
      by (Ok x) came = came
      by (Err stop) came = tt

-- what stays where it was made so
module _ (s u : PlantState) (c : ConfigTable) (h g : Writes) (old new : Log) (n v : ℕ) (m : Move) (d : Entry) (t : Carried)
    (settles : (ps : List control.Pending) → settled m ps ≡ filter (is_other n) ps) (settles_in_stop : (ps : List control.Pending) → settled_in_stop m ps ≡ marked n ps)
    (comes : (rest : Rest) → d (here s c rest h old.events).control ≡ Do (Make m)) (told : IsTold h old.events) (res : Result (Unit {0}) Stop) (writes : g ≡ writes_after h n res) where
  pub landing-wrote : (r : Result (Unit {0}) Refusal) → r ≡ refused_by res → Made s u c old new m v t res → Kept s u c old new 1 (is_err res) res → Wrote s u c h g old new (λ k. d ∷ []) 1 r
  landing-wrote r says made kept =
      subst (λ (z : Writes). Wrote s u c h z old new (λ k. d ∷ []) 1 r) (sym writes) (subst (λ (x : Result (Unit {0}) Refusal). Wrote s u c h (writes_after h n res) old new (λ k. d ∷ []) 1 x) (sym says) (record {
        carried = landing-ends s u c h old.events new.events n m d settles settles_in_stop comes res made.turned;
        at = kept.at;
        told = landing-told s u c h old.events new.events n m d settles settles_in_stop comes res made.turned told;
        unarmed = kept.unarmed;
        faults = counted res kept.faults;
        issued = issued res;
        room = kept.room;
        spare = kept.spare;
      }))
    where
      counted : (res : Result (Unit {0}) Stop) → Counted (is_err res) s.faults u.faults → Counted (is_stop (refusal_of (refused_by res))) s.faults u.faults
      counted (Ok x) is = is
      counted (Err stop) is = is

      one : (b : Bool) → (if b then with_marked h n else h).issued ≡ h.issued
      one true = refl
      one false = refl

      issued : (res : Result (Unit {0}) Stop) → (writes_after h n res).issued ≡ h.issued
      issued (Ok x) = refl
      issued (Err stop) = one stop.counts

-- a write that lands on its volume alone, which is a target or isn't
module _ (s : PlantState) (c : ConfigTable) (n v t : ℕ) where
  abbrev x : Volume
  x = volume_seen s c v

  abbrev m : Move
  m = landing_move x.fields.related n v t

  pub alone-target : (b : Bool) → target (landing_move b n v t) ≡ v
  alone-target true = refl
  alone-target false = refl

  pub alone-may : is_some (place_of c v) ≡ true → s.on x.server ≡ true → t < x.tracks → May s c m
  alone-may defined running within = by x.fields.related refl
    where
      by : (b : Bool) → x.fields.related ≡ b → May s c (landing_move b n v t)
      by true is = record { defined = defined; running = running; asks = (within, is) }
      by false is = record { defined = defined; running = running; asks = within }

  pub alone-carries : (write : ℕ → Write) (o : ℕ) (bytes : List ℕ) → write n ≡ record { volume = v; track = t; offset = o; bytes = bytes } → carried m (volume_seen s c) (track_seen s c) write ≡ Some (t, laid o bytes (view_seen s c v t))
  alone-carries write o bytes issue = by x.fields.related refl ∙ ap (λ (y : Write). Some (t, laid y.offset y.bytes (view_seen s c v t))) issue
    where
      by : (b : Bool) → x.fields.related ≡ b → carried (landing_move b n v t) (volume_seen s c) (track_seen s c) write ≡ Some (t, with_write write (view_seen s c v t) n)
      by true is = refl
      by false is = ap (λ b. Some (t, with_write write (if b && not (contains x.fields.own t) then track_seen s c x.fields.source t else track_seen s c v t) n)) (sym is)

  pub alone-left : fields_left m x ≡ landed_on x t
  alone-left = by x.fields.related refl
    where
      by : (b : Bool) → x.fields.related ≡ b → fields_left (landing_move b n v t) x ≡ landed_on x t
      by true is = ap (λ b. if b then closed x.tracks (rewritten (fetched x.fields t) t) else written x.fields t) (sym is)
      by false is = ap (λ b. if b then closed x.tracks (rewritten (fetched x.fields t) t) else written x.fields t) (sym is)

  pub alone-room : (b : Bool) (y : Volume) → room_for (landing_move b n v t) y ≡ 1
  alone-room true y = refl
  alone-room false y = refl

  settles : (b : Bool) (ps : List control.Pending) → settled (landing_move b n v t) ps ≡ filter (is_other n) ps
  settles true ps = refl
  settles false ps = refl

  settles_in_stop : (b : Bool) (ps : List control.Pending) → settled_in_stop (landing_move b n v t) ps ≡ marked n ps
  settles_in_stop true ps = refl
  settles_in_stop false ps = refl

-- by the move that the call made
module _ (s u : PlantState) (c : ConfigTable) (n v t : ℕ) (old new : Log) (made_by : Move) (is : made_by ≡ landing_move (volume_seen s c v).fields.related n v t) (track : Carried) (res : Result (Unit {0}) Stop)
    (r : Result (Unit {0}) Refusal) (says : r ≡ refused_by res) (given : Made s u c old new made_by (target made_by) track res) where
  abbrev landing : Move
  landing = landing_move (volume_seen s c v).fields.related n v t

  made : Made s u c old new landing v track res
  made = subst (λ q. Made s u c old new landing q track res) (alone-target s c n v t (volume_seen s c v).fields.related) (subst (λ z. Made s u c old new z (target z) track res) is given)

  pub alone-refused : OnErr r (refusal_of r ≡ Some (stopped (volume_seen s c v).server))
  alone-refused = landing-refused res r says (volume_seen s c v).server made.server

  pub alone-landed : OnOk r ((volume_seen u c v).fields ≡ landed_on (volume_seen s c v) t)
  alone-landed = ok-along r (landing-moved res r says s u c v (fields_left landing (volume_seen s c v)) track made.came) (λ moved. ap (λ (y : Volume). y.fields) moved.volume ∙ alone-left s c n v t)

  pub alone-wrote : (h g : Writes) → g ≡ writes_after h n res → IsTold h old.events → Kept s u c old new (room_for made_by (volume_seen s c (target made_by))) (is_err res) res → Wrote s u c h g old new (λ k. land_on n v t ∷ []) 1 r
  alone-wrote h g writes told kept =
      landing-wrote s u c h g old new n v landing (land_on n v t) track (settles s c n v t (volume_seen s c v).fields.related) (settles_in_stop s c n v t (volume_seen s c v).fields.related) (λ rest. refl) told res writes r says made
      (subst (λ k. Kept s u c old new k (is_err res) res) (ap (λ z. room_for z (volume_seen s c (target z))) is ∙ alone-room s c n v t (volume_seen s c v).fields.related (volume_seen s c (target landing))) kept)
