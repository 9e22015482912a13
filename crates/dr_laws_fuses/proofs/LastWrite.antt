-- A server that can write nothing more leaves its volumes as they were.
use Rattle.std.proofs.Common.{ℕ, ◌||◌, ◌+◌, ◌≡◌, ◌≢◌, ◌⊎◌, inl, inr, refl, ap, ◌∙◌, sym, subst, arith, Bool, true, false, cond, not, List, [], ◌∷◌, ◌++◌, Option, Some, None, Result, Ok, Err, nat_eq, nat_le}
use Rattle.std.specs.List.{list_any}
use Rattle.std.proofs.lemmas.List.Folds.{list_any-append}
use Rattle.dr_ids.specs.declared.names.Member.{Member}
use Rattle.dr_model.specs.Phases as phases
use Rattle.dr_model.specs.SessionPlans.{exchanged}
use Rattle.dr_model.specs.SessionEntries.{members_on}
use Rattle.dr_model.proofs.CarryLemmas.{carry-none}
use Rattle.std.proofs.lemmas.Bool.{cases_eq}
use Rattle.std.proofs.lemmas.Bool.Decides.{nat_tests}
use Rattle.dr_ids.specs.declared.refusal.Refusal.{Refusal}
use Rattle.dr_ids.specs.declared.refusal.Refusal.TheVariants.{JournalFull, Stopped as StoppedIn}
use Rattle.dr_logic.specs.Tables.{at}
use Rattle.dr_logic.proofs.Tables.{at_same, at_other}
use Rattle.dr_logic.proofs.Truth.{false_true}
use Rattle.dr_model.specs.declared.event.Event.{Event}
use Rattle.dr_model.specs.declared.event.Event.TheVariants.{Stopped}
use Rattle.dr_model.specs.declared.said.Said.{Said}
use Rattle.dr_model.specs.declared.said.Said.TheVariants.{Done, Refused}
use Rattle.dr_ids.specs.declared.refusal.Kind.TheVariants.{Server as OfServer}
use Rattle.dr_model.specs.Refusals.{unknown}
use Rattle.dr_model.specs.declared.said.Addition.TheVariants.{Alone}
use Rattle.dr_model.specs.declared.step.Name.{Name}
use Rattle.dr_model.specs.declared.step.Step.{Step}
use Rattle.dr_model.specs.declared.step.Step.TheVariants.{Start, StopAfter}
use Rattle.dr_model.specs.declared.step.TornWord.{TornWord}
use Rattle.dr_model.specs.PlantImage.{Volume as Listed}
use Rattle.dr_model.specs.Limits.{image_events}
use Rattle.dr_model.specs.Control.{Control, Fuse, Volume, World, is_volume, new_volume}
use Rattle.dr_model.specs.Moves.{Move, Hold, target}
use Rattle.dr_model.specs.Carry.{Act, Make, OpenAttempt, Redo, Acknowledge, Drop, EndFreeze, EndThaw, EndRecovery, Turn, Next, Pass, Do, End, Entry, Outcome, act, turn, redo, redo_ended, attempt_begun, burnt, lower, pass, counts, counts_by, gate_at, continue, go, carry, follow, opened_by, equal, spent, off, acknowledged, dropped, frozen, thawed, recovered, carry_each}
use Rattle.dr_model.specs.PlanParts.{only_says}
use Rattle.dr_model.specs.Plans.{Plan, plan, refuses, on_named, server_named, name_bytes, has_room, has_room_for, start_on, start_plan, arm_on, fuse_at_start}
use Rattle.dr_model.specs.Carried.{begun, finish, carried_out, after_plan, stop_place}
use Rattle.dr_model.specs.Forming.{Part, Way, after_part, formed, form_said}
use Rattle.dr_model.specs.Runs.{Task, OwnCourse, Groups, Volumes, Devices, own_course, course_of, course, answered_part, after_task, compared, image_plan}
use Rattle.dr_laws_sound.proofs.Turns.{turn-cases, done, done_in_stop, not_done}
use Rattle.dr_laws_sound.proofs.Cases.{Case, DefinesServer, DefinesVolume, Stops, Arms, Starts, Exchanges, plan-case, one-passed}
use Rattle.dr_laws_sound.proofs.Parts.{Comes, course-goes, goes-keep, compared-case}
use Rattle.dr_laws_fuses.specs.Fuses.{fuse_changed}
use Rattle.dr_laws_fuses.specs.Laws.{WritesNothing, LeavesVolumes}
use Rattle.dr_laws_fuses.proofs.Acts.{row, next, track, count, turned_by, turned-by, counted, redos, redone_by, redone-by}
use Rattle.dr_laws_fuses.proofs.Steps.{changes-none}

-- a stop that leaves what stood in the block never counts as done
unturned : (gate n : ℕ) (new : Bool) → counts gate n None new ≡ false
unturned gate n new = by (nat_eq n gate)
  where
    by : (b : Bool) → cond b false false ≡ false
    by true = refl
    by false = refl

-- what a master learns of leaves the volumes, and which servers are on
exchanged-stays : (q server : ℕ) (reply : Bool) (work : phases.Work) (ms : List Member) (j : Control)
    → (let k : Control = exchanged q server reply work ms j in (k.volumes ≡ j.volumes) × ((k.volume ≡ j.volume) × ((k.on ≡ j.on) × (k.fuse ≡ j.fuse))))
exchanged-stays q server true work ms j = (refl, (refl, (refl, refl)))
exchanged-stays q server false work ms j = (refl, (refl, (refl, refl)))

-- a move on a server that writes nothing: nothing is done, or the server stops in it, and it isn't done
pub quiet-turn : (s : ℕ) (w : World) (m : Move) (P : Turn → Type 0) → WritesNothing w s → (w.control.volume (target m)).server ≡ s → P (w, None)
    → ((f : Option Fuse) → P (not_done w (w.control.volume (target m)).server f, Some (w.control.volume (target m)).server)) → P (turn w m)
quiet-turn s w m P quiet e nothing stops = subst P (sym (turned-by w m w.control.fuse)) (by _ _ _ (ends quiet))
  where
    stopped : (on : Bool) → P (turned_by w m w.control.fuse on false false)
    stopped true = stops _
    stopped false = nothing

    by : (on passes counts : Bool) → (on ≡ false) ⊎ (passes ≡ false) × (counts ≡ false) → P (turned_by w m w.control.fuse on passes counts)
    by on passes counts (inl off) = subst (λ b. P (turned_by w m w.control.fuse b passes counts)) (sym off) nothing
    by on passes counts (inr (cut, undone)) = subst (λ b. P (turned_by w m w.control.fuse on b counts)) (sym cut) (subst (λ b. P (turned_by w m w.control.fuse on false b)) (sym undone) (stopped on))

    ends : WritesNothing w s → (w.control.on (w.control.volume (target m)).server ≡ false) ⊎ (pass (w.control.fuse (w.control.volume (target m)).server) (count w m) ≡ false) × (counted w m w.control.fuse ≡ false)
    ends (inl off) = inl (ap w.control.on e ∙ off)
    ends (inr at) =
        let fuse : w.control.fuse (w.control.volume (target m)).server ≡ Some (record { after = 0; torn = None }) = ap w.control.fuse e ∙ at in
        let gate : ℕ = gate_at (row w m) (next w m) (track w m) in
        let none : nat_le (gate + 1) 0 ≡ false = grind (arith, nat_tests) in
        inr (ap (λ f. pass f (count w m)) fuse ∙ none, ap (λ f. counts_by gate f (not (row w m).slot)) fuse ∙ unturned gate 0 (not (row w m).slot))

module _ (s : ℕ) (base : World) where
  -- the volumes of the server are as they were, and it still writes nothing
  pub record Keeps (w : World) : Type 0 where
    pub leaves : LeavesVolumes s base w
    pub volumes : (v : ℕ) → is_volume base.control v ≡ true → is_volume w.control v ≡ true
    pub quiet : WritesNothing w s

  -- one of its volumes
  abbrev Own : ℕ → Type 0
  Own v = (is_volume base.control v ≡ true) × ((base.control.volume v).server ≡ s)

  -- a world with the same volumes and tracks
  pub untouched : (w v : World) → Keeps w → v.control.volumes ≡ w.control.volumes → v.control.volume ≡ w.control.volume → v.contents ≡ w.contents → WritesNothing v s → Keeps v
  untouched w v k defined volumes contents quiet = record {
    volumes = λ x there. ap (list_any (nat_eq x)) defined ∙ k.volumes x there;
    leaves = record { volume = λ x there own. ap (λ f. f x) volumes ∙ k.leaves.volume x there own; contents = λ x t there own. ap (λ f. f x t) contents ∙ k.leaves.contents x t there own };
    quiet = quiet;
  }

  -- one with another volume of another server, and its tracks
  module _ (w : World) (k : Keeps w) (x : ℕ) (far : (w.control.volume x).server ≢ s) where
    other : (v : ℕ) → Own v → v ≢ x
    other v own e = far (ap (λ v. (w.control.volume v).server) (sym e) ∙ ap (λ (y : Volume). y.server) (k.leaves.volume v own.0 own.1) ∙ own.1)

    changed : (v : World) (y : Volume) (z : ℕ → List ℕ) → v.control.volumes ≡ w.control.volumes → v.control.volume ≡ at w.control.volume x y → v.contents ≡ at w.contents x z → WritesNothing v s → Keeps v
    changed v y z defined volumes contents quiet = record {
      volumes = λ u there. ap (list_any (nat_eq u)) defined ∙ k.volumes u there;
      leaves = record {
        volume = λ u there own. ap (λ f. f u) volumes ∙ at_other w.control.volume x y u (other u (there, own)) ∙ k.leaves.volume u there own;
        contents = λ u t there own. ap (λ f. f u t) contents ∙ ap (λ f. f t) (at_other w.contents x z u (other u (there, own))) ∙ k.leaves.contents u t there own;
      };
      quiet = quiet;
    }

  -- whether it writes nothing is a matter of two tables
  pub still : (w v : World) → WritesNothing w s → v.control.on s ≡ w.control.on s → v.control.fuse s ≡ w.control.fuse s → WritesNothing v s
  still w v (inl off) on fuse = inl (on ∙ off)
  still w v (inr at) on fuse = inr (fuse ∙ at)

  -- ---- acts

  turn-keeps : (w : World) (m : Move) → Keeps w → Keeps (turn w m).0
  turn-keeps w m k = elim (cases_eq (w.control.volume (target m)).server s) [
    | inl e ↦ quiet-turn s w m (λ (t : Turn). Keeps t.0) k.quiet e k
        (λ f. untouched w (not_done w (w.control.volume (target m)).server f) k refl refl refl (inl (ap (at w.control.on (w.control.volume (target m)).server false) (sym e) ∙ at_same w.control.on (w.control.volume (target m)).server false)))
    | inr ne ↦ turn-cases w m (λ (t : Turn). Keeps t.0) (λ off. k)
        (λ f. changed w k (target m) ne (done w m f) _ _ refl refl refl (still w (done w m f) k.quiet refl (at_other w.control.fuse _ f s (away ne))))
        (λ f. changed w k (target m) ne (done_in_stop w m f) _ _ refl refl refl (still w (done_in_stop w m f) k.quiet (at_other w.control.on _ false s (away ne)) (at_other w.control.fuse _ f s (away ne))))
        (λ f. untouched w (not_done w _ f) k refl refl refl (still w (not_done w _ f) k.quiet (at_other w.control.on _ false s (away ne)) (at_other w.control.fuse _ f s (away ne))))
  ]
    where
      away : (w.control.volume (target m)).server ≢ s → s ≢ (w.control.volume (target m)).server
      away ne e = ne (sym e)

  module _ (w : World) (v : ℕ) (k : Keeps w) where
    abbrev q : ℕ
    q = (w.control.volume v).server

    -- on another server, and on the server itself, whose fuse stays at 0
    redo-other : (on passes : Bool) → s ≢ q → Keeps (redone_by w v w.control.fuse on passes).0
    redo-other false passes away = k
    redo-other true true away = untouched w (spent w q (redos w v)) k refl refl refl (still w (spent w q (redos w v)) k.quiet refl (at_other w.control.fuse q (lower (redos w v) (w.control.fuse q)) s away))
    redo-other true false away = let u : World = record (off w q) { events = w.events ++ Stopped q 0 ∷ [] } in untouched w u k refl refl refl (still w u k.quiet (at_other w.control.on q false s away) (at_other w.control.fuse q (burnt (w.control.fuse q)) s away))

    redo-own : (on passes : Bool) → q ≡ s → WritesNothing w s → Keeps (redone_by w v w.control.fuse on passes).0
    redo-own false passes e quiet = k
    redo-own true true e (inl down) = untouched w (spent w q (redos w v)) k refl refl refl (inl down)
    redo-own true true e (inr stands) =
        let none : lower (redos w v) (w.control.fuse q) ≡ Some (record { after = 0; torn = None }) = ap (λ p. lower (redos w v) (w.control.fuse p)) e ∙ ap (lower (redos w v)) stands ∙ ap (λ n. Some (record { after = n; torn = None })) (omega arith) in
        untouched w (spent w q (redos w v)) k refl refl refl (inr (ap (at w.control.fuse q (lower (redos w v) (w.control.fuse q))) (sym e) ∙ at_same w.control.fuse q (lower (redos w v) (w.control.fuse q)) ∙ none))
    redo-own true false e quiet = let u : World = record (off w q) { events = w.events ++ Stopped q 0 ∷ [] } in untouched w u k refl refl refl (inl (ap (at w.control.on q false) (sym e) ∙ at_same w.control.on q false))

    redo-keeps : Keeps (redo_ended w v (redo w v)).0
    redo-keeps = subst (λ (t : Turn). Keeps t.0) (sym (redone-by w v w.control.fuse)) (elim (cases_eq q s) [
      | inl e ↦ redo-own (w.control.on q) (pass (w.control.fuse q) (redos w v)) e k.quiet
      | inr ne ↦ redo-other (w.control.on q) (pass (w.control.fuse q) (redos w v)) (λ e. ne (sym e))
    ])

  pub act-keeps : (w : World) (a : Act) → Keeps w → Keeps (act w a).0
  unfolding act
  act-keeps w (Make m) k = turn-keeps w m k
  act-keeps w (OpenAttempt v q n) k = opens (turn w (Hold v q n true)) (turn-keeps w (Hold v q n true) k)
    where
      opens : (t : Turn) → Keeps t.0 → Keeps (opened_by w v q t).0
      opens t k = by (equal (w.control.volume v).slot (t.0.control.volume v).slot)
        where
          by : (b : Bool) → Keeps (cond b t.0 (attempt_begun t.0 q))
          by true = k
          by false = untouched t.0 (attempt_begun t.0 q) k refl refl refl k.quiet
  act-keeps w (Redo v) k = redo-keeps w v k
  act-keeps w (Acknowledge n) k = untouched w (acknowledged w n) k refl refl refl k.quiet
  act-keeps w (Drop n) k = untouched w (dropped w n) k refl refl refl k.quiet
  act-keeps w (EndFreeze l m) k = untouched w (frozen w l m) k refl refl refl k.quiet
  act-keeps w (EndThaw l m) k = untouched w (thawed w l m) k refl refl refl k.quiet
  act-keeps w (EndRecovery q n) k = untouched w (recovered w q n) k refl refl refl k.quiet

  -- ---- entries

  continue-keeps : (t : Turn) (more : World → Outcome) → Keeps t.0 → ((v : World) → Keeps v → Keeps (more v).0) → Keeps (continue t.0 t.1 more).0
  continue-keeps (v, None) more k rest = rest v k
  continue-keeps (v, Some q) more k rest = k

  go-keeps : (w : World) (x : Next) (more : World → Outcome) → Keeps w → ((v : World) → Keeps v → Keeps (more v).0) → Keeps (go w x more).0
  go-keeps w Pass more k rest = rest w k
  go-keeps w (End r) more k rest = k
  go-keeps w (Do a) more k rest = continue-keeps (act w a) more (act-keeps w a k) rest

  carry-keeps : (w : World) (ds : List Entry) → Keeps w → Keeps (carry w ds).0
  unfolding carry
  carry-keeps w [] k = k
  carry-keeps w (d ∷ ds) k = go-keeps w (d w.control) (λ v. carry v ds) k (λ v k. carry-keeps v ds k)

  each-keeps : (w : World) (ds : List Entry) → Keeps w → Keeps (carry_each w ds)
  each-keeps w [] k = k
  each-keeps w (d ∷ ds) k = each-keeps (carry w (d ∷ [])).0 ds (carry-keeps w (d ∷ []) k)

  follow-keeps : (w : World) (r : Refusal) (follows : List Entry) → Keeps w → Keeps (follow w r follows)
  follow-keeps w (StoppedIn q) follows k = each-keeps w follows k
  follow-keeps w r follows k = k

  -- ---- plans

  -- what a plan does to the tables before and after its entries
  record Tables (k : Control) (p : Plan) : Type 0 where
    volumes : (v : ℕ) → is_volume k v ≡ true → is_volume (p.first k) v ≡ true
    volume : (v : ℕ) → is_volume k v ≡ true → (p.first k).volume v ≡ k.volume v
    quiet : (k.on s ≡ false) ⊎ (k.fuse s ≡ Some (record { after = 0; torn = None })) → ((p.first k).on s ≡ false) ⊎ ((p.first k).fuse s ≡ Some (record { after = 0; torn = None }))
    last_volumes : (j : Control) → (p.last j).volumes ≡ j.volumes
    last_volume : (j : Control) → (p.last j).volume ≡ j.volume
    last_on : (j : Control) → (p.last j).on ≡ j.on
    last_fuse : (j : Control) → (p.last j).fuse ≡ j.fuse

  plan-keeps : (w : World) (p : Plan) → Tables w.control p → Keeps w → Keeps (carried_out w p).0
  plan-keeps w p tables k = finished (stop_place w p) (carry (begun w p) p.entries).0 (carry (begun w p) p.entries).1 (carry-keeps (begun w p) p.entries begins)
    where
      begins : Keeps (begun w p)
      begins = record {
        volumes = λ v there. tables.volumes v (k.volumes v there);
        leaves = record { volume = λ v there own. tables.volume v (k.volumes v there) ∙ k.leaves.volume v there own; contents = k.leaves.contents };
        quiet = tables.quiet k.quiet;
      }

      finished : (n : ℕ) (v : World) (r : Option Refusal) → Keeps v → Keeps (finish p n v r)
      finished n v None k = untouched v (record v { control = p.last v.control }) k (tables.last_volumes v.control) (tables.last_volume v.control) refl
          (still v (record v { control = p.last v.control }) k.quiet (ap (λ f. f s) (tables.last_on v.control)) (ap (λ f. f s) (tables.last_fuse v.control)))
      finished n v (Some r) k = follow-keeps v r (p.follows n) k

  plain : (k : Control) (p : Plan) → ((p.first k).volumes ≡ k.volumes) → ((p.first k).volume ≡ k.volume) → ((p.first k).on ≡ k.on) → ((p.first k).fuse ≡ k.fuse) → ((j : Control) → (p.last j).volumes ≡ j.volumes) → ((j : Control) → (p.last j).volume ≡ j.volume) → ((j : Control) → (p.last j).on ≡ j.on) → ((j : Control) → (p.last j).fuse ≡ j.fuse) → Tables k p
  plain k p volumes volume on fuse last_volumes last_volume last_on last_fuse = record {
    volumes = λ v there. ap (list_any (nat_eq v)) volumes ∙ there;
    volume = λ v there. ap (λ f. f v) volume;
    quiet = quiet;
    last_volumes = last_volumes;
    last_volume = last_volume;
    last_on = last_on;
    last_fuse = last_fuse;
  }
    where
      quiet : (k.on s ≡ false) ⊎ (k.fuse s ≡ Some (record { after = 0; torn = None })) → ((p.first k).on s ≡ false) ⊎ ((p.first k).fuse s ≡ Some (record { after = 0; torn = None }))
      quiet (inl off) = inl (ap (λ f. f s) on ∙ off)
      quiet (inr stands) = inr (ap (λ f. f s) fuse ∙ stands)

  case-tables : (k : Control) (events : List Event) (line : ℕ) (asked : Result Step ℕ) (p : Plan) → fuse_changed asked ≡ None → Case k events line asked p → Tables k p
  case-tables k events line _ p other (DefinesServer name free) = plain k p refl refl refl refl (λ j. refl) (λ j. refl) (λ j. refl) (λ j. refl)
  case-tables k events line _ p other (DefinesVolume v q tracks here free) = record {
    volumes = λ u there. list_any-append (nat_eq u) k.volumes (v ∷ []) ∙ ap (λ b. b || (nat_eq u v || false)) there;
    volume = λ u there. at_other k.volume v (new_volume q tracks) u (λ e. false_true (one-passed (is_volume k v) _ _ free).0 (ap (is_volume k) (sym e) ∙ there));
    quiet = λ quiet. quiet;
    last_volumes = λ j. refl;
    last_volume = λ j. refl;
    last_on = λ j. refl;
    last_fuse = λ j. refl;
  }
  case-tables k events line _ p other (Stops q on) = record { volumes = λ v there. there; volume = λ v there. refl; quiet = stopped; last_volumes = λ j. refl; last_volume = λ j. refl; last_on = λ j. refl; last_fuse = λ j. refl }
    where
      stopped : (k.on s ≡ false) ⊎ (k.fuse s ≡ Some (record { after = 0; torn = None })) → (at k.on q false s ≡ false) ⊎ (k.fuse s ≡ Some (record { after = 0; torn = None }))
      stopped (inl off) = inl (elim (cases_eq s q) [
        | inl e ↦ ap (at k.on q false) e ∙ at_same k.on q false
        | inr ne ↦ at_other k.on q false s ne ∙ off
      ])
      stopped (inr stands) = inr stands
  case-tables k events line _ p other (Arms writes torn q) = absurd cc
  case-tables k events line _ p other (Starts q off) = absurd cc
  case-tables k events line _ p other (Exchanges q server reply x r o allowed) =
      let stays = exchanged-stays q server reply o.work (members_on server x.members) in
      plain k p refl refl refl refl (λ j. (stays j).0) (λ j. (stays j).1.0) (λ j. (stays j).1.1.0) (λ j. (stays j).1.1.1)
  case-tables k events line asked p other c = plain k p refl refl refl refl (λ j. refl) (λ j. refl) (λ j. refl) (λ j. refl)

  -- ---- a step

  answered-leaves : (w : World) (p : Plan) (line : ℕ) → LeavesVolumes s base (carried_out w p).0 → LeavesVolumes s base (answered_part line (record { world = w; plan = p }))
  unfolding after_plan
  answered-leaves w p line leaves = record { volume = leaves.volume; contents = leaves.contents }

  part-keeps : (w : World) (p : Plan) → Comes w p → Keeps w → Keeps (after_part w p)
  part-keeps w p c k =
      let u : World = (carried_out w p).0 in
      let ends : Keeps u = plan-keeps w p (case-tables w.control w.events 0 c.asked p (changes-none c.asked c.asks) (c.case 0)) k in
      untouched u (after_part w p) ends refl refl refl ends.quiet

  -- a start of another server, and a line that arms a fuse
  start-tables : (k : Control) (q : ℕ) → s ≢ q → Tables k (start_plan k q)
  start-tables k q away = record { volumes = λ v there. there; volume = λ v there. refl; quiet = starts; last_volumes = λ j. refl; last_volume = λ j. refl; last_on = λ j. refl; last_fuse = λ j. refl }
    where
      starts : (k.on s ≡ false) ⊎ (k.fuse s ≡ Some (record { after = 0; torn = None })) → (at k.on q true s ≡ false) ⊎ (at k.fuse q (fuse_at_start (k.fuse q)) s ≡ Some (record { after = 0; torn = None }))
      starts (inl off) = inl (at_other k.on q true s away ∙ off)
      starts (inr stands) = inr (at_other k.fuse q (fuse_at_start (k.fuse q)) s away ∙ stands)

  module _ (w : World) (k : Keeps w) where
    abbrev Leaves : Plan → Type 0
    Leaves p = LeavesVolumes s base (carried_out w p).0

    by-tables : (p : Plan) → Tables w.control p → Leaves p
    by-tables p tables = (plan-keeps w p tables k).leaves

    says-leaves : (a : Said) → Leaves (only_says a)
    says-leaves a = by-tables (only_says a) (plain w.control (only_says a) refl refl refl refl (λ j. refl) (λ j. refl) (λ j. refl) (λ j. refl))

    arms-leave : (q writes : ℕ) (torn : TornWord) → Leaves (arm_on writes torn q)
    arms-leave q writes torn = subst (λ (o : Outcome). LeavesVolumes s base (finish (arm_on writes torn q) 0 o.0 o.1)) (sym (carry-none (begun w (arm_on writes torn q)))) (record { volume = k.leaves.volume; contents = k.leaves.contents })

    room-leaves : (b : Bool) (p : Plan) → Leaves p → Leaves (cond b p (refuses JournalFull))
    room-leaves true p leaves = leaves
    room-leaves false p leaves = says-leaves (Refused JournalFull)

    asked-leaves : (line : ℕ) (asked : Result Step ℕ) → ((name : Name) → asked ≡ Ok (Start name) → server_named w.control (name_bytes name) ≡ Some s → ⊥) → Leaves (plan w.control w.events line asked)
    asked-leaves line (Ok (Start name)) away = room-leaves (has_room w.events) _ (by (server_named w.control (name_bytes name)) refl)
      where
        on : (q : ℕ) (b : Bool) → s ≢ q → Leaves (cond b (only_says (Done Alone)) (start_plan w.control q))
        on q true away = says-leaves (Done Alone)
        on q false away = by-tables (start_plan w.control q) (start-tables w.control q away)

        by : (o : Option ℕ) → server_named w.control (name_bytes name) ≡ o → Leaves (on_named o (start_on w.control))
        by None named = says-leaves (Refused (unknown OfServer))
        by (Some q) named = on q (w.control.on q) (λ e. away name refl (named ∙ ap Some (sym e)))
    asked-leaves line (Ok (StopAfter name writes torn)) away = room-leaves (has_room w.events) _ (by (server_named w.control (name_bytes name)))
      where
        by : (o : Option ℕ) → Leaves (on_named o (arm_on writes torn))
        by None = says-leaves (Refused (unknown OfServer))
        by (Some q) = arms-leave q writes torn
    asked-leaves line asked away = by-tables _ (case-tables w.control w.events line asked _ refl (plan-case w.control w.events line asked))

    image-leaves : (b : Bool) (vs : List Listed) → Leaves (cond b (image_plan vs) (refuses JournalFull))
    image-leaves true vs = by-tables (image_plan vs) (plain w.control (image_plan vs) refl refl refl refl (λ j. refl) (λ j. refl) (λ j. refl) (λ j. refl))
    image-leaves false vs = says-leaves (Refused JournalFull)

  task-leaves : (w : World) → Keeps w → (t : Task) → ((name : Name) → t.asked ≡ Ok (Start name) → server_named w.control (name_bytes name) ≡ Some s → ⊥) → LeavesVolumes s base (after_task w t)
  task-leaves w k t other = answered-leaves x.world x.plan t.line (by (own_course t.asked) (goes-keep Keeps part-keeps w _ _ (course-goes w t) k))
    where
      x : Part
      x = (course w t).last

      by : (o : Option OwnCourse) → Keeps (course_of w t o).last.world → LeavesVolumes s base (carried_out (course_of w t o).last.world (course_of w t o).last.plan).0
      by None ends = asked-leaves w k t.line t.asked other
      by (Some (Groups q n)) ends = let y : Way = formed w q n in says-leaves y.world ends (form_said q y.world.control y.refusal)
      by (Some (Volumes v u)) ends = by-tables w k (compared w v u) (case-tables w.control w.events t.line (Err 0) _ refl (compared-case w t.line (Err 0) v u))
      by (Some Devices) ends = image-leaves w k (has_room_for image_events w.events) t.listed

-- as a step begins
pub begins-kept : (s : ℕ) (w : World) → WritesNothing w s → Keeps s w w
begins-kept s w quiet = record { leaves = record { volume = λ v there own. refl; contents = λ v t there own. refl }; volumes = λ v there. there; quiet = quiet }

pub leaves-volumes : (s : ℕ) (w : World) (t : Task) → WritesNothing w s → ((name : Name) → t.asked ≡ Ok (Start name) → server_named w.control (name_bytes name) ≡ Some s → ⊥) → LeavesVolumes s w (after_task w t)
leaves-volumes s w t quiet other = task-leaves s w w (begins-kept s w quiet) t other
