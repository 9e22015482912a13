-- The moments of a run come one after the other as they may, where its acts do what windows ask.
use Rattle.std.proofs.Common.{ℕ, ◌≡◌, ◌<◌, ◌+◌, inl, inr, refl, ap, sym, ◌∙◌, subst, true, false, not, nat_eq, List, [], ◌∷◌, ◌++◌, append_assoc, filter, Option, Some, None}
use Rattle.std.proofs.lemmas.List.{append-nil}
use Rattle.dr_ids.specs.declared.refusal.Refusal.{Refusal}
use Rattle.dr_ids.specs.declared.refusal.Refusal.TheVariants.{Stopped as StoppedIn}
use Rattle.dr_model.specs.declared.event.Event.{Event}
use Rattle.dr_model.specs.declared.event.Event.TheVariants.{Stopped, Frozen, Thawed, Recovered}
use Rattle.dr_model.specs.declared.said.Said.{Said}
use Rattle.dr_model.specs.Answers.{answer}
use Rattle.dr_model.specs.Histories.{Histories, histories, lists}
use Rattle.dr_model.specs.Messages.{Flight}
use Rattle.dr_model.specs.Sessions.{Session}
use Rattle.dr_model.specs.Groups.{In}
use Rattle.dr_model.specs.Control.{Control, Pending, Fuse, World, Volume}
use Rattle.dr_model.specs.Moves.{Move, Hold, is_write, is_other}
use Rattle.dr_model.specs.Carry.{Act, Make, OpenAttempt, Redo, Acknowledge, Drop, EndFreeze, EndThaw, EndRecovery, Turn, Next, Pass, Do, End, Entry, Outcome, continue, go, carry, dropped, frozen, thawed, recovered, carry_each}
use Rattle.dr_model.specs.Plans.{Plan, plan, only_says}
use Rattle.dr_model.specs.Forming.{Part, Way, goes_on, after_part, part_refusal, form_said}
use Rattle.dr_model.specs.Runs.{Task, Course, own_course, course_of, course, answered_part, masters_lost, begun, finish, answered, said, after_plan, after_task, OwnCourse, Groups, Volumes, compared, Devices, imaged, stop_place}
use Rattle.dr_model.specs.Table.{table, waiting}
use Rattle.dr_model.specs.Laws.{SoundRows, AllPending, Lone, servers}
use Rattle.dr_model.specs.Allowed.{May, MayOpen, Runs}
use Rattle.dr_model.proofs.Images.{histories-append}
use Rattle.dr_laws_freezes.specs.Moments.{on_from, on_next, worlds, worlds_after, plan_moments, part_moments, parts_moments, task_moments, moments_from, worlds_each}
use Rattle.dr_laws_sound.proofs.Turns.{done, done_in_stop, opened_in_stop, not_done, fused, place, server_of, server_at, after_act, Writes, Counts, act-cases}
use Rattle.dr_laws_sound.proofs.Due.{waiting-settled}
use Rattle.dr_facts.proofs.Lists.{to-filter}
use Rattle.std.proofs.lemmas.Bool.Decides.{eqb_tells}
use Rattle.dr_model.specs.Entries.{fields_at}
use Rattle.dr_laws_freezes.proofs.WindowMoves.{WindowMay, tag_after, come, come-open}
use Rattle.dr_laws_freezes.proofs.KeepsWindow.{TakesNone}
use Rattle.dr_laws_freezes.proofs.InSync.{Fresh, Clean, LeavesOneOut}
use Rattle.dr_laws_freezes.proofs.KeepsStep.{Step, Does, Stops, Acks, Others, Passes, Acknowledges, Unchanged}
use Rattle.dr_laws_freezes.proofs.Windows.{Good, Chain, Last, Then}
use Rattle.dr_laws_sound.proofs.Cases.{Says, plan-case}
use Rattle.dr_laws_sound.proofs.Parts.{Comes, Ways, way-formed, compared-case, formed-not, Ending, OnePlan, imaged-case}
use Rattle.dr_logic.proofs.Options.{none_some}
use Rattle.dr_logic.proofs.Truth.{false_true}
use Rattle.std.specs.List.{list_any}

-- what an act asks where it comes
abbrev pub WindowMayDo : Option ℕ → World → Act → Type 0
WindowMayDo tag w (Make m) = May w m × WindowMay tag w m × LeavesOneOut w m
WindowMayDo tag w (OpenAttempt v s n) = MayOpen w v s n
WindowMayDo tag w (Redo v) = Runs w v
WindowMayDo tag w (Acknowledge n) = Acknowledges w n
WindowMayDo tag w (Drop n) = AllPending (λ p. p.landed ≡ false) (filter (is_write n) w.control.pending) × AllPending (λ p. Clean (fields_at w.control p.volume)) (filter (is_write n) w.control.pending)
WindowMayDo tag w (EndFreeze l m) = Unit {0}
WindowMayDo tag w (EndThaw l m) = Unit {0}
WindowMayDo tag w (EndRecovery s n) = Unit {0}

-- the write that goes on after it
abbrev pub act_tag : Act → Option ℕ → Option ℕ
act_tag (Make m) tag = tag_after m tag
act_tag (OpenAttempt v s n) tag = tag
act_tag a tag = None

-- events that no list hears of
pub told-unchanged : (w u : World) (es : List Event) → u.events ≡ w.events ++ es → TakesNone es → histories (w.events ++ es) ≡ histories w.events → u.control.volume ≡ w.control.volume → u.contents ≡ w.contents → u.control.issued ≡ w.control.issued
    → u.control.volumes ≡ w.control.volumes → ((v t : ℕ) → waiting u.control.pending v t ≡ waiting w.control.pending v t) → ((p : Pending) → In p w.control.pending → (Clean (fields_at w.control p.volume) → ⊥) → In p u.control.pending) → Unchanged w u es
told-unchanged w u es events takes same volume contents issued volumes waits pends = record {
  events = events;
  takes = takes;
  writes = λ n lt. ap (λ es. (histories es).write n) events ∙ ap (λ (h : Histories). h.write n) same;
  issued = λ n lt. subst (λ i. n < i + 1) (sym issued) lt;
  waits = waits;
  there = λ v there. ap (list_any (nat_eq v)) volumes ∙ there;
  volume = λ v there. λ i. volume i v;
  holds = λ v h. ap (λ (g : ℕ → Volume). (g v).fields.flash_hold) (sym volume) ∙ h;
  contents = λ v there t. λ i. contents i v t;
  lists = λ v there t. ap (λ es. lists es v t) events ∙ ap (λ (h : Histories). h.now v t) same;
  synced = λ v h. λ i. volume i v;
  pends = pends;
  acked = λ n h. ap (λ es. (histories es).write n) events ∙ ap (λ (h : Histories). h.write n) same;
}

pub not-unchanged : (w : World) (s : ℕ) (f : Option Fuse) → Unchanged w (not_done w s f) (Stopped s 0 ∷ [])
not-unchanged w s f = told-unchanged w (not_done w s f) (Stopped s 0 ∷ []) refl (refl, tt) (histories-append w.events (Stopped s 0 ∷ [])) refl refl refl refl (λ v t. refl) (λ p here torn. here)

-- what holds of all pending writes holds of each
pub all-in : (P : Pending → Type 0) (p : Pending) (ps : List Pending) → In p ps → AllPending P ps → P p
all-in P p (x ∷ xs) (inl e) all = subst P (sym e) all.0
all-in P p (x ∷ xs) (inr h) all = all-in P p xs h all.1
all-in P p [] h all = absurd h

-- an act that is done
act-step : (tag : Option ℕ) (w : World) (a : Act) (f : Option Fuse) → WindowMayDo tag w a → Step tag w (act_tag a tag) (after_act w a f)
act-step tag w (Make m) f fair = Does m f (come w m fair.0) fair.1 fair.2
act-step tag w (OpenAttempt v s n) f fair = let m : Move = Hold v s n true in Others tag (done w m f) _ (Does m f (come-open w v s n fair) tt tt)
act-step tag w (Redo v) f fair = Passes None (fused w (server_at w v) f) [] (told-unchanged w (fused w (server_at w v) f) [] (sym (append-nil w.events)) tt (ap histories (append-nil w.events)) refl refl refl refl (λ v t. refl) (λ p here torn. here)) (λ n h. absurd cc)
act-step tag w (Acknowledge n) f fair = Acks n fair
act-step tag w (Drop n) f fair =
    Passes None (dropped w n) [] (told-unchanged w (dropped w n) [] (sym (append-nil w.events)) tt (ap histories (append-nil w.events)) refl refl refl refl (λ v t. waiting-settled n v t w.control.pending fair.0)
    (λ p here torn. elim (eqb_tells p.w n) [
      | inl is ↦ absurd (torn (all-in _ p (filter (is_write n) w.control.pending) (to-filter (is_write n) w.control.pending p here is.0) fair.1))
      | inr ne ↦ to-filter (is_other n) w.control.pending p here (ap not ne.0)
    ])) (λ n h. absurd cc)
act-step tag w (EndFreeze l m) f fair = Passes None (frozen w l m) (Frozen l m ∷ []) (told-unchanged w (frozen w l m) (Frozen l m ∷ []) refl (refl, tt) (histories-append w.events (Frozen l m ∷ [])) refl refl refl refl (λ v t. refl) (λ p here torn. here)) (λ n h. absurd cc)
act-step tag w (EndThaw l m) f fair = Passes None (thawed w l m) (Thawed l m ∷ []) (told-unchanged w (thawed w l m) (Thawed l m ∷ []) refl (refl, tt) (histories-append w.events (Thawed l m ∷ [])) refl refl refl refl (λ v t. refl) (λ p here torn. here)) (λ n h. absurd cc)
act-step tag w (EndRecovery s n) f fair = Passes None (recovered w s n) (Recovered s n ∷ []) (told-unchanged w (recovered w s n) (Recovered s n ∷ []) refl (refl, tt) (histories-append w.events (Recovered s n ∷ [])) refl refl refl refl (λ v t. refl) (λ p here torn. here)) (λ n h. absurd cc)

pub act-runs : (tag : Option ℕ) (w : World) (a : Act) → Writes a → WindowMayDo tag w a → Runs w (place a)
act-runs tag w (Make m) d fair = fair.0.runs
act-runs tag w (OpenAttempt v s n) d fair = fair.runs
act-runs tag w (Redo v) d fair = fair
act-runs tag w a d fair = absurd d

-- what is to be shown of entries, where this holds of how they end
module _ (Fin : Option ℕ → World → Option Refusal → Type 0) where
  -- where the server of an act stops in it
  abbrev pub StopFin : World → ℕ → World → Type 0
  StopFin w s u = Fin None u (Some (StoppedIn (record { 0 = s })))

  abbrev pub CountsFin : World → Act → Type 0
  CountsFin w (Make m) = (f : Option Fuse) → StopFin w (server_at w (place (Make m))) (done_in_stop w m f)
  CountsFin w (OpenAttempt v s n) = (f : Option Fuse) → StopFin w (server_at w v) (opened_in_stop w v s n f)
  CountsFin w a = Unit {0}

  abbrev pub window_next : Option ℕ → World → Next → (Option ℕ → World → Type 0) → Type 0
  window_next tag w Pass more = more tag w
  window_next tag w (End r) more = Fin tag w (Some r)
  window_next tag w (Do a) more =
      WindowMayDo tag w a × ((f : Option Fuse) → more (act_tag a tag) (after_act w a f)) × (CountsFin w a × (Writes a → (f : Option Fuse) → StopFin w (server_of w a) (not_done w (server_of w a) f)))

  -- each act does what windows ask where it comes, and each moment is good
  unfoldable pub WindowAlong : Option ℕ → World → List Entry → Type 0
  WindowAlong tag w [] = Good tag w × Fin tag w None
  WindowAlong tag w (d ∷ ds) = Good tag w × window_next tag w (d w.control) (λ tag v. WindowAlong tag v ds)

  pub window-entry : (tag : Option ℕ) (w : World) (d : Entry) (ds : List Entry) (x : Next) → d w.control ≡ x → Good tag w → window_next tag w x (λ tag v. WindowAlong tag v ds) → WindowAlong tag w (d ∷ ds)
  unfolding WindowAlong
  window-entry tag w d ds x is good a = (good, subst (λ x. window_next tag w x (λ tag v. WindowAlong tag v ds)) (sym is) a)

  pub window-nil : (tag : Option ℕ) (w : World) → Good tag w → Fin tag w None → WindowAlong tag w []
  unfolding WindowAlong
  window-nil tag w good fin = (good, fin)

  -- then their moments come one after the other, and those behind them
  module _ (rest : Outcome → List World) (ends : (tag : Option ℕ) (w : World) (r : Option Refusal) → Good tag w → Fin tag w r → Chain tag w (rest (w, r)))
      (good_fin : (w : World) (r : Option Refusal) → Fin None w r → Good None w) where
    abbrev Turned : Option ℕ → World → (World → List World) → (World → Outcome) → Turn → Type 0
    Turned tag w more go t = Chain tag w (on_from t.0 t.1 more ++ rest (continue t.0 t.1 go))

    counts-chain : (tag : Option ℕ) (w : World) (a : Act) (more : World → List World) (go : World → Outcome) → Good tag w → WindowMayDo tag w a → CountsFin w a → Counts w a (Turned tag w more go)
    counts-chain tag w (Make m) more go good fair fin =
        λ f. let c = fin f in Then tag None w (done_in_stop w m f) _ good (Stops m f (come w m fair.0) fair.1 fair.2) (ends None _ _ (good_fin _ _ c) c)
    counts-chain tag w (OpenAttempt v s n) more go good fair fin =
        λ f. let c = fin f in let m : Move = Hold v s n true in Then tag None w (opened_in_stop w v s n f) _ good (Others None (done_in_stop w m f) _ (Stops m f (come-open w v s n fair) tt tt)) (ends None _ _ (good_fin _ _ c) c)
    counts-chain tag w a more go good fair fin = tt

    next-chain : (tag : Option ℕ) (w : World) (x : Next) (more : World → List World) (go_on : World → Outcome) (then : Option ℕ → World → Type 0)
        → ((tag : Option ℕ) (v : World) → then tag v → Chain tag v (more v ++ rest (go_on v))) → Good tag w → window_next tag w x then → Chain tag w (on_next w x more ++ rest (go w x go_on))
    next-chain tag w Pass more go_on then on good a = on tag w a
    next-chain tag w (End r) more go_on then on good a = ends tag w (Some r) good a
    next-chain tag w (Do x) more go_on then on good a =
        act-cases w x (Turned tag w more go_on)
        (λ d off. absurd (false_true off (act-runs tag w x d a.0)))
        (λ f. Then tag (act_tag x tag) w (after_act w x f) _ good (act-step tag w x f a.0) (on (act_tag x tag) (after_act w x f) (a.1 f)))
        (counts-chain tag w x more go_on good a.0 a.2.0)
        (λ d f. let c = a.2.1 d f in Then tag None w (not_done w (server_of w x) f) _ good (Passes None _ _ (not-unchanged w (server_of w x) f) (λ n h. absurd cc)) (ends None _ _ (good_fin _ _ c) c))

    pub entries-chain : (ds : List Entry) (tag : Option ℕ) (w : World) → WindowAlong tag w ds → Chain tag w (worlds w ds ++ rest (carry w ds))
    unfolding WindowAlong worlds carry
    entries-chain [] tag w a = ends tag w None a.0 a.1
    entries-chain (d ∷ ds) tag w a = next-chain tag w (d w.control) (λ v. worlds v ds) (λ v. carry v ds) (λ tag v. WindowAlong tag v ds) (λ tag v b. entries-chain ds tag v b) a.0 a.1

pub good-none : (w : World) → SoundRows (table w) → Fresh w → Lone (servers w.control) w.control.pending → Good None w
good-none w rows fresh lone = record { rows = rows; low = λ n is. absurd cc; out = λ n is. absurd cc; fresh = fresh; lone = lone }

-- a control state that differs in the sessions and messages alone
pub record Retabled (j k : Control) : Type 0 where
  pub sessions : List Session
  pub flight : Flight
  pub is : k ≡ record j { sessions = sessions; flight = flight }

pub retabled-none : (k : Control) → Retabled k k
retabled-none k = record { sessions = k.sessions; flight = k.flight; is = refl }

-- a plan ends: it may have left other sessions and messages, masters whose servers went off are lost, and its step may be answered
abbrev pub Closes : World → (World → Option Refusal → World) → Type 0
Closes first over = (w : World) (k : Control) (r : Option Refusal) → Retabled w.control k → (told : List Event) × Unchanged w (over (record w { control = k }) r) told

close : (w u : World) (k : Control) (told : List Event) → Retabled w.control k → TakesNone told → histories (w.events ++ told) ≡ histories w.events
    → u.events ≡ w.events ++ told → u.control.volume ≡ k.volume → u.contents ≡ w.contents → u.control.issued ≡ k.issued → u.control.volumes ≡ k.volumes → u.control.pending ≡ k.pending → Unchanged w u told
close w u k told other takes lists events volume contents issued volumes pending =
    told-unchanged w u told events takes lists (volume ∙ ap (λ (k : Control). k.volume) other.is) contents (issued ∙ ap (λ (k : Control). k.issued) other.is) (volumes ∙ ap (λ (k : Control). k.volumes) other.is)
    (λ v t. ap (λ ps. waiting ps v t) pending ∙ ap (λ (k : Control). waiting k.pending v t) other.is) (λ p here torn. subst (In p) (sym (pending ∙ ap (λ (k : Control). k.pending) other.is)) here)

abbrev pub ended : World → World → ℕ → Said → World
ended first w line a = masters_lost first (said w line a)

said-closes : (first : World) (line : ℕ) (p : Plan) → Closes first (λ w r. ended first w line (answered p w.control r))
said-closes first line p w k r other =
    let a : Said = answered p k r in
    (answer line a ∷ [], close w (ended first (record w { control = k }) line a) k (answer line a ∷ []) other (refl, tt) (histories-append w.events (answer line a ∷ [])) refl refl refl refl refl refl)

lost-closes : (first : World) → Closes first (λ w r. masters_lost first w)
lost-closes first w k r other = ([], close w (masters_lost first (record w { control = k })) k [] other tt (ap histories (append-nil w.events)) (sym (append-nil w.events)) refl refl refl refl refl)

-- K holds between steps; how what follows a stop ends, and how a plan's entries end
module _ (K : World → Type 0) (is_good : (w : World) → K w → Good None w) (answers : (first w : World) (line : ℕ) (a : Said) → K w → K (ended first w line a)) where
  good-window : (Fin : Option ℕ → World → Option Refusal → Type 0) (tag : Option ℕ) (w : World) (ds : List Entry) → WindowAlong Fin tag w ds → Good tag w
  unfolding WindowAlong
  good-window Fin tag w [] a = a.0
  good-window Fin tag w (d ∷ ds) a = a.0

  -- what follows a stop, each entry whether a server stopped in the one before or not
  abbrev pub WindowEach : Option ℕ → World → List Entry → Type 0
  WindowEach tag w [] = Good tag w × K w
  WindowEach tag w (d ∷ ds) = WindowAlong (λ tag u r. WindowEach tag u ds) tag w (d ∷ [])

  good-each : (tag : Option ℕ) (w : World) (ds : List Entry) → WindowEach tag w ds → Good tag w
  good-each tag w [] a = a.0
  good-each tag w (d ∷ ds) a = good-window (λ tag u r. WindowEach tag u ds) tag w (d ∷ []) a

  each-chain : (rest : World → List World) → ((tag : Option ℕ) (u : World) → Good tag u → K u → Chain tag u (rest u)) → (ds : List Entry) (tag : Option ℕ) (w : World) → WindowEach tag w ds → Chain tag w (worlds_each w ds ++ rest (carry_each w ds))
  unfolding worlds_each
  each-chain rest ends [] tag w a = ends tag w a.0 a.1
  each-chain rest ends (d ∷ ds) tag w a =
      let u : World = (carry w (d ∷ [])).0 in
      subst (Chain tag w) (sym (append_assoc (worlds w (d ∷ [])) (worlds_each u ds) (rest (carry_each u ds))))
      (entries-chain (λ tag u r. WindowEach tag u ds) (λ o. worlds_each o.0 ds ++ rest (carry_each o.0 ds)) (λ tag u r good b. each-chain rest ends ds tag u b) (λ u r b. good-each None u ds b) (d ∷ []) tag w a)

  abbrev pub PlanFin : Plan → Option ℕ → World → Option Refusal → Type 0
  PlanFin p tag w None = K (record w { control = p.last w.control })
  PlanFin p tag w (Some (StoppedIn s)) = (n : ℕ) → WindowEach tag w (p.follows n)
  PlanFin p tag w (Some r) = K w

  -- the tables as a plan ends differ in the sessions and messages alone
  abbrev pub Leaves : Plan → Type 0
  Leaves p = (k : Control) → Retabled k (p.last k)

  -- what is to be shown of a plan
  pub record WindowHolds (w : World) (p : Plan) : Type 0 where
    pub told : List Event
    pub begins : Unchanged w (begun w p) told
    pub entries : WindowAlong (PlanFin p) None (begun w p) p.entries
    pub last : Leaves p

  good-plan : (p : Plan) → Leaves p → (w : World) (r : Option Refusal) → PlanFin p None w r → Good None w
  good-plan p last w None k =
      let g : Good None (record w { control = record w.control { sessions = (last w.control).sessions; flight = (last w.control).flight } }) = subst (λ k. Good None (record w { control = k })) (last w.control).is (is_good (record w { control = p.last w.control }) k) in
      good-none w g.rows (record { unacked = g.fresh.unacked; later = g.fresh.later }) g.lone
  good-plan p last w (Some (StoppedIn s)) a = good-each None w (p.follows 0) (a 0)
  good-plan p last w (Some r) k = is_good w k

  module _ (first : World) (p : Plan) (last : Leaves p) (over : World → Option Refusal → World) (closes : Closes first over) (kept : (w : World) (r : Option Refusal) → K w → K (over w r))
      (more : World → List World) (goes_on : (w : World) → K w → Chain None w (more w)) where
    close-chain : (tag : Option ℕ) (w : World) (k : Control) (r : Option Refusal) → Retabled w.control k → Good tag w → K (record w { control = k }) → let u : World = record w { control = k } in Chain tag w (over u r ∷ more (over u r))
    close-chain tag w k r other good y =
        let u : World = record w { control = k } in
        let c = closes w k r other in
        Then tag None w (over u r) (more (over u r)) good (Passes None (over u r) c.0 c.1 (λ n h. absurd cc)) (goes_on (over u r) (kept u r y))

    abbrev rest : Outcome → List World
    rest o = let n : ℕ = stop_place first p in worlds_after o.0 o.1 (p.follows n) ++ over (finish p n o.0 o.1) o.1 ∷ more (over (finish p n o.0 o.1) o.1)

    ends : (tag : Option ℕ) (w : World) (r : Option Refusal) → Good tag w → PlanFin p tag w r → Chain tag w (rest (w, r))
    ends tag w None good k = close-chain tag w (p.last w.control) None (last w.control) good k
    ends tag w (Some (StoppedIn s)) good a =
        let r : Option Refusal = Some (StoppedIn s) in
        each-chain (λ u. over u r ∷ more (over u r)) (λ tag u good k. close-chain tag u u.control r (retabled-none u.control) good k) (p.follows (stop_place first p)) tag w (a (stop_place first p))
    ends tag w (Some r) good k = close-chain tag w w.control (Some r) (retabled-none w.control) good k

    pub plan-chain : K first → WindowHolds first p → Chain None first (begun first p ∷ (worlds (begun first p) p.entries ++ rest (carry (begun first p) p.entries)))
    plan-chain k fair =
        Then None None first (begun first p) _ (is_good first k) (Passes None (begun first p) fair.told fair.begins (λ n h. absurd cc)) (entries-chain (PlanFin p) rest ends (good-plan p last) p.entries None (begun first p) fair.entries)

    -- the same as its moments are listed
    pub moments-chain : K first → WindowHolds first p → let o : Outcome = carry (begun first p) p.entries in
        Chain None first (plan_moments first p ++ (over (finish p (stop_place first p) o.0 o.1) o.1 ∷ more (over (finish p (stop_place first p) o.0 o.1) o.1)))
    moments-chain k fair =
        let o : Outcome = carry (begun first p) p.entries in
        subst (λ us. Chain None first (begun first p ∷ us)) (sym (append_assoc (worlds (begun first p) p.entries) (worlds_after o.0 o.1 (p.follows (stop_place first p))) _)) (plan-chain k fair)

  -- a run of such plans
  module _ (loses : (first w : World) → K w → K (masters_lost first w)) (each : (w : World) (line : ℕ) (p : Plan) → Ending w.control w.events line p → K w → WindowHolds w p) where
    -- what comes after a way, by the world that it led to and the refusal that ended it
    abbrev After : Type 0
    After = World → Option Refusal → List World

    abbrev Follows : After → Type 0
    Follows more = (v : World) (r : Option Refusal) → K v → Chain None v (more v r)

    abbrev WayChains : World → Way → Type 0
    WayChains w x = (more : After) → Follows more → K w → Chain None w (parts_moments x.parts ++ more x.world x.refusal)

    parts-append : (xs ys : List Part) → parts_moments (xs ++ ys) ≡ parts_moments xs ++ parts_moments ys
    unfolding parts_moments
    parts-append [] ys = refl
    parts-append (x ∷ xs) ys =
        ap (λ us. part_moments x ++ (after_part x.world x.plan ∷ us)) (parts-append xs ys)
        ∙ sym (append_assoc (part_moments x) (after_part x.world x.plan ∷ parts_moments xs) (parts_moments ys))

    stands-chains : (w : World) (r : Option Refusal) → WayChains w (record { parts = []; world = w; refusal = r })
    unfolding parts_moments
    stands-chains w r more follows k = follows w r k

    one-chains : (w : World) (p : Plan) → Comes w p → WayChains w (record { parts = record { world = w; plan = p } ∷ []; world = after_part w p; refusal = part_refusal w p })
    unfolding parts_moments
    one-chains w p comes more follows k =
        let fair : WindowHolds w p = each w 0 p (OnePlan comes.asked p (comes.case 0)) k in
        let r : Option Refusal = part_refusal w p in
        subst (λ us. Chain None w us) (sym (append_assoc (plan_moments w p) (after_part w p ∷ []) (more (after_part w p) r)))
        (moments-chain w p fair.last (λ u r. masters_lost w u) (lost-closes w) (λ u r k. loses w u k) (λ v. more v r) (λ v k. follows v r k) k fair)

    then-chains : (w u : World) (xs : List Part) (r : Option Refusal) (more : World → Way) → WayChains w (record { parts = xs; world = u; refusal = r }) → ((v : World) → WayChains v (more v)) → WayChains w (goes_on xs u r more)
    then-chains w u xs r next first go more follows k = by r (first behind on k)
      where
        behind : After
        behind v None = parts_moments (next v).parts ++ more (next v).world (next v).refusal
        behind v (Some r) = more v (Some r)

        on : Follows behind
        on v None k = go v more follows k
        on v (Some r) k = follows v (Some r) k

        by : (r : Option Refusal) → Chain None w (parts_moments xs ++ behind u r) → let x : Way = goes_on xs u r next in Chain None w (parts_moments x.parts ++ more x.world x.refusal)
        by None c =
            let x : Way = next u in
            subst (λ us. Chain None w us) (sym (append_assoc (parts_moments xs) (parts_moments x.parts) (more x.world x.refusal)) ∙ ap (λ us. us ++ more x.world x.refusal) (sym (parts-append xs x.parts))) c
        by (Some r) c = c

    ways : Ways WayChains
    ways = record { stands = stands-chains; one = one-chains; then = then-chains }

    -- the last plan of a step
    last-chain : (line : ℕ) (x : Part) → Ending x.world.control x.world.events line x.plan → (more : World → List World) → ((v : World) → K v → Chain None v (more v)) → K x.world
        → Chain None x.world (part_moments x ++ (answered_part line x ∷ more (answered_part line x)))
    unfolding after_plan
    last-chain line x case more goes_on k =
        let w : World = x.world in
        let fair : WindowHolds w x.plan = each w line x.plan case k in
        moments-chain w x.plan fair.last (λ u r. ended w u line (answered x.plan u.control r)) (said-closes w line x.plan) (λ u r k. answers w u line _ k) more goes_on k fair

    task-chain : (w : World) (t : Task) → K w → (more : World → List World) → ((v : World) → K v → Chain None v (more v)) → Chain None w (task_moments w t ++ more (after_task w t))
    unfolding parts_moments
    task-chain w t k more goes_on =
        let x : Part = (course w t).last in
        subst (λ us. Chain None w us) (sym (append_assoc (parts_moments (course w t).before) (part_moments x ++ after_task w t ∷ []) (more (after_task w t)) ∙ ap (λ us. parts_moments (course w t).before ++ us) (append_assoc (part_moments x) (after_task w t ∷ []) (more (after_task w t)))))
        (by (own_course t.asked) refl)
      where
        ended_by : Part → List World
        ended_by x = part_moments x ++ (answered_part t.line x ∷ more (answered_part t.line x))

        by : (o : Option OwnCourse) → own_course t.asked ≡ o → let c : Course = course_of w t o in Chain None w (parts_moments c.before ++ ended_by c.last)
        by None is = last-chain t.line (record { world = w; plan = plan w.control w.events t.line t.asked }) (OnePlan t.asked _ (plan-case w.control w.events t.line t.asked)) more goes_on k
        by (Some (Groups s n)) is =
            way-formed WayChains ways w s n (λ v r. ended_by (record { world = v; plan = only_says (form_said s v.control r) }))
            (λ v r k. last-chain t.line (record { world = v; plan = only_says (form_said s v.control r) }) (OnePlan t.asked _ (Says (form_said s v.control r) (formed-not s v.control.sessions r) (λ one. none_some one is))) more goes_on k) k
        by (Some (Volumes v u)) is = last-chain t.line (record { world = w; plan = compared w v u }) (OnePlan t.asked _ (compared-case w t.line t.asked v u)) more goes_on k
        by (Some Devices) is = last-chain t.line (record { world = w; plan = imaged w t.listed }) (imaged-case w t.line t.asked t.listed) more goes_on k

    pub run-chain : (tasks : List Task) (w : World) → K w → Chain None w (moments_from w tasks)
    unfolding moments_from
    run-chain [] w k = Last None w (is_good w k)
    run-chain (t ∷ ts) w k = task-chain w t k (λ v. moments_from v ts) (λ v k. run-chain ts v k)
