-- Steps in two such worlds: for each step in the one there is a step in the other one that leads to such worlds again.
use Rattle.std.proofs.Common.{◌||◌, map, ℕ, zero, suc, ◌≡◌, ◌<◌, ◌+◌, inl, inr, refl, ap, sym, ◌∙◌, subst, arith, Bool, true, false, cond, not, List, [], ◌∷◌, ◌++◌, Option, Some, None, Result, Ok, Err}
use Rattle.std.specs.List.{find, flat_map, list_any, range_with_len}
use Rattle.std.specs.Str.{bytes_eq}
use Rattle.std.proofs.lemmas.List.Folds.{list_any-append}
use Rattle.std.proofs.lemmas.Slice.Eq.{bytes_eq-Decides}
use Rattle.dr_ids.specs.declared.refusal.Refusal.{Refusal}
use Rattle.dr_ids.specs.declared.refusal.Refusal.TheVariants.{JournalFull, Syntax, Stopped as StoppedIn}
use Rattle.dr_model.specs.declared.event.Event.{Event}
use Rattle.dr_model.specs.declared.event.Event.TheVariants.{Issue as IssueTold, ImageStart, ImageBlock, ImageEnd}
use Rattle.dr_model.specs.declared.said.Addition.TheVariants.{Alone}
use Rattle.dr_model.specs.declared.said.Said.{Said}
use Rattle.dr_model.specs.declared.said.Said.TheVariants.{Done, Refused}
use Rattle.dr_model.specs.declared.step.Step.{Step}
use Rattle.dr_model.specs.declared.step.Step.TheVariants.{Issue, Write, Show, MakePair, Run, Compare, Image}
use Rattle.dr_model.specs.declared.state.Part.{Part}
use Rattle.dr_model.specs.declared.step.Devs.{Devs}
use Rattle.dr_model.specs.declared.step.PairChoices.{PairChoices}
use Rattle.dr_model.specs.Layout.{kind_of}
use Rattle.dr_model.specs.Limits.{step_events, image_events}
use Rattle.dr_model.specs.Contents.{image, image_at}
use Rattle.dr_model.specs.Histories.{Histories, histories, lists}
use Rattle.dr_model.specs.Control.{Control, World}
use Rattle.dr_model.specs.PlantImage.{Kept, Volume}
use Rattle.dr_model.specs.Carry.{Next, Pass, Do, End, Entry, carry, go, check, follow}
use Rattle.dr_model.specs.PairEntries.{refuse_if, end_if, first_differing, make_entries}
use Rattle.dr_model.specs.PlanParts.{Plan, unless, refuses, only_says, entries_plan, none_follow}
use Rattle.dr_model.specs.Plans.{plan_of, has_room, has_room_for, issue_refusal, issue_done, write_done, show_refusal, show_done, found_volumes, compare_entries, cascades, cascade_refusal}
use Rattle.dr_model.specs.Carried.{begun, finish, carried_out, answered, after_plan, masters_lost, stop_place}
use Rattle.dr_model.specs.Forming.{Way, formed, form_said}
use Rattle.dr_model.specs.Runs.{Task, compared, image_told, volume_told, blocks_told, image_plan, imaged, after_task}
use Rattle.dr_laws_cuts.proofs.Journal.{past-history}
use Rattle.dr_laws_losses.specs.Pairs.{HoldsSame, issues}
use Rattle.dr_laws_recovery.proofs.OnTracks.{is_issue}
use Rattle.dr_laws_losses.proofs.Alike.{mark, NoIssue, AlikeEvents, alike-same, past-alike}
use Rattle.dr_laws_losses.proofs.Worlds.{Alike, by-control, told-both, said-alike, plan-alike, lost-alike, with_told}
use Rattle.dr_laws_losses.proofs.Forms.{room-same, AlikeWay, formed-alike}

-- ---- plans that come to no act

-- the entry never acts
abbrev NeverActs : Next → Type 0
NeverActs Pass = Unit {0}
NeverActs (End r) = Unit {0}
NeverActs (Do a) = ⊥

-- entries leave each world as it is
abbrev LeaveAll : List Entry → Type 0
LeaveAll ds = (w : World) → (carry w ds).0 ≡ w

leave-none : LeaveAll []
unfolding carry
leave-none w = refl

leave-more : (d : Entry) (ds : List Entry) → ((k : Control) → NeverActs (d k)) → LeaveAll ds → LeaveAll (d ∷ ds)
unfolding carry
leave-more d ds never later w = by (d w.control) (never w.control)
  where
    by : (x : Next) → NeverActs x → (go w x (λ v. carry v ds)).0 ≡ w
    by Pass h = later w
    by (End r) h = refl
    by (Do a) h = absurd h

-- and so do those whose first ends the plan
leave-ended : (d : Entry) (ds : List Entry) (r : Refusal) → ((k : Control) → d k ≡ End r) → LeaveAll (d ∷ ds)
unfolding carry
leave-ended d ds r ends w = ap (λ x. (go w x (λ v. carry v ds)).0) (ends w.control)

check-never : (ok : Control → Bool) (r : Refusal) (k : Control) → NeverActs (check ok r k)
check-never ok r k = by (ok k)
  where
    by : (b : Bool) → NeverActs (cond b Pass (End r))
    by true = tt
    by false = tt

refuse-never : (why : Control → Option Refusal) (k : Control) → NeverActs (refuse_if why k)
refuse-never why k = by (why k)
  where
    by : (o : Option Refusal) → NeverActs (end_if o)
    by None = tt
    by (Some r) = tt

leave-check : (ok : Control → Bool) (r : Refusal) (ds : List Entry) → LeaveAll ds → LeaveAll (check ok r ∷ ds)
leave-check ok r ds later = leave-more (check ok r) ds (check-never ok r) later

leave-refuse : (why : Control → Option Refusal) (ds : List Entry) → LeaveAll ds → LeaveAll (refuse_if why ∷ ds)
leave-refuse why ds later = leave-more (refuse_if why) ds (refuse-never why) later

leave-follow : (w : World) (r : Refusal) → follow w r [] ≡ w
unfolding carry
leave-follow w (StoppedIn s) = refl
leave-follow w r = refl

leave-carried : (w : World) (ds : List Entry) (s : Said) → LeaveAll ds → (carried_out w (entries_plan ds s)).0 ≡ begun w (entries_plan ds s)
leave-carried w ds s leave = by (carry (begun w (entries_plan ds s)) ds).1 ∙ leave (begun w (entries_plan ds s))
  where
    by : (r : Option Refusal) → finish (entries_plan ds s) (stop_place w (entries_plan ds s)) (carry (begun w (entries_plan ds s)) ds).0 r ≡ (carry (begun w (entries_plan ds s)) ds).0
    by None = refl
    by (Some r) = leave-follow (carry (begun w (entries_plan ds s)) ds).0 r

-- ---- what an image tells

pub none-append : (es fs : List Event) → NoIssue es → NoIssue fs → NoIssue (es ++ fs)
none-append es fs first rest = list_any-append is_issue es fs ∙ ap (λ b. b || list_any is_issue fs) first ∙ rest

none-map : {X : Type 0} (f : X → Event) (xs : List X) → ((x : X) → is_issue (f x) ≡ false) → NoIssue (map f xs)
none-map f [] each = refl
none-map f (x ∷ xs) each = ap (λ b. b || list_any is_issue (map f xs)) (each x) ∙ none-map f xs each

none-flat : {X : Type 0} (f : X → List Event) (xs : List X) → ((x : X) → NoIssue (f x)) → NoIssue (flat_map f xs)
none-flat f [] each = refl
none-flat f (x ∷ xs) each = none-append (f x) (flat_map f xs) (each x) (none-flat f xs each)

pub image-none : (vs : List Volume) → NoIssue (image_told vs)
image-none vs =
    none-append (ImageStart ∷ map volume_told vs ++ flat_map blocks_told vs) (ImageEnd ∷ [])
    (none-append (ImageStart ∷ map volume_told vs) (flat_map blocks_told vs) (none-map volume_told vs (λ v. refl)) (none-flat blocks_told vs (λ v. none-map (λ (b : Kept). ImageBlock v.volume b.index b.bytes) v.blocks (λ b. refl)))) refl

-- ---- no track differs where lists are the same

same-bytes : (xs ys : List ℕ) → xs ≡ ys → not (bytes_eq xs ys) ≡ false
same-bytes xs ys is = ap not ((bytes_eq-Decides xs ys).1 is)

none-differs : (p : ℕ → Bool) (n from : ℕ) → ((t : ℕ) → t < from + n → p t ≡ false) → find p (range_with_len from n) ≡ None
none-differs p zero from none = refl
none-differs p (suc n) from none = ap (λ b. cond b (Some from) (find p (range_with_len (from + 1) n))) (none from (omega arith)) ∙ none-differs p n (from + 1) (λ t lt. none t (omega arith))

module _ (u : ℕ) where
  -- what lists say is the same in both
  pub lists-alike : (es fs : List Event) → AlikeEvents u es fs → lists fs ≡ lists es
  lists-alike es fs a = ap (λ (h : Histories). h.now) (sym (past-history fs)) ∙ (past-alike u es fs a).now ∙ ap (λ (h : Histories). h.now) (past-history es)

  -- a step in the other world that leads on from it
  pub record AlikeTask (w g : World) (t : Task) : Type 0 where
    pub other : Task
    pub alike : Alike u (after_task w t) (after_task g other)

  -- a line outside the grammar
  abbrev wrong : ℕ → Task
  wrong line = record { line = line; asked = Err 0; listed = [] }

  module _ (w g : World) (a : Alike u w g) (line : ℕ) where
    -- the plan of a step, answered, and one that may tell other events as it begins
    answered-alike : (p : Plan) (told : List Event) → AlikeEvents u p.told told → Alike u (masters_lost w (after_plan w line p)) (masters_lost g (after_plan g line (with_told u p told)))
    answered-alike p told same = lost-alike u w g _ _ a (plan-alike u p told line w g a same)

    same-answered : (p : Plan) → NoIssue p.told → Alike u (masters_lost w (after_plan w line p)) (masters_lost g (after_plan g line p))
    same-answered p none = answered-alike p p.told (alike-same u p.told none)

    -- one that does nothing but answer, beside a line outside the grammar
    idle-alike : (ds : List Entry) (s : Said) (r : Refusal) → LeaveAll ds → Alike u (masters_lost w (after_plan w line (entries_plan ds s))) (masters_lost g (after_plan g line (refuses r)))
    unfolding after_plan carry
    idle-alike ds s r leave =
        let p : Plan = entries_plan ds s in
        let begins : Alike u (begun w p) (begun g (refuses r)) = record { control = a.control; events = told-both u w g [] a.events refl } in
        lost-alike u w g _ _ a (said-alike u (carried_out w p).0 (carried_out g (refuses r)).0 line line (answered p (carried_out w p).0.control (carried_out w p).1)
        (answered (refuses r) (carried_out g (refuses r)).0.control (carried_out g (refuses r)).1) (subst (λ v. Alike u v (begun g (refuses r))) (sym (leave-carried w ds s leave)) begins))

    -- where there is room in the journal
    in-room : (p q : Plan) → Alike u (masters_lost w (after_plan w line p)) (masters_lost g (after_plan g line q))
        → Alike u (masters_lost w (after_plan w line (cond (has_room w.events) p (refuses JournalFull)))) (masters_lost g (after_plan g line (cond (has_room g.events) q (refuses JournalFull))))
    in-room p q same =
        subst (λ b. Alike u (masters_lost w (after_plan w line (cond (has_room w.events) p (refuses JournalFull)))) (masters_lost g (after_plan g line (cond b q (refuses JournalFull))))) (sym (room-same u step_events w g a))
        (by (has_room w.events))
      where
        by : (b : Bool) → Alike u (masters_lost w (after_plan w line (cond b p (refuses JournalFull)))) (masters_lost g (after_plan g line (cond b q (refuses JournalFull))))
        by true = same
        by false = same-answered (refuses JournalFull) refl

    -- a plan of the control state alone
    by-plan : (p : Control → Plan) → NoIssue (p w.control).told
        → Alike u (masters_lost w (after_plan w line (cond (has_room w.events) (p w.control) (refuses JournalFull)))) (masters_lost g (after_plan g line (cond (has_room g.events) (p g.control) (refuses JournalFull))))
    by-plan p none =
        subst (λ b. Alike u (masters_lost w (after_plan w line (cond (has_room w.events) (p w.control) (refuses JournalFull))))
        (masters_lost g (after_plan g line (cond b (p g.control) (refuses JournalFull))))) (sym (room-same u step_events w g a))
        (subst (λ (k : Control). Alike u (masters_lost w (after_plan w line (cond (has_room w.events) (p w.control) (refuses JournalFull))))
        (masters_lost g (after_plan g line (cond (has_room w.events) (p k) (refuses JournalFull))))) (sym a.control)
        (by (has_room w.events)))
      where
        by : (b : Bool) → Alike u (masters_lost w (after_plan w line (cond b (p w.control) (refuses JournalFull)))) (masters_lost g (after_plan g line (cond b (p w.control) (refuses JournalFull))))
        by true = same-answered (p w.control) none
        by false = same-answered (refuses JournalFull) refl

    -- a step that only answers there, for want of room or by its plan
    idle-or-full : (ds : List Entry) (s : Said) → LeaveAll ds → (room : Bool) → Alike u (masters_lost w (after_plan w line (cond room (entries_plan ds s) (refuses JournalFull)))) (masters_lost g (after_plan g line (refuses (Syntax 0))))
    idle-or-full ds s leave true = idle-alike ds s (Syntax 0) leave
    idle-or-full ds s leave false = idle-alike [] (Refused JournalFull) (Syntax 0) leave-none

  -- ---- the steps that look at what tracks contain

  compare-leaves : (k : Control) (contents : ℕ → ℕ → List ℕ) (v x : ℕ) → LeaveAll (compare_entries k contents v x)
  compare-leaves k contents v x = leave-check _ _ _ (leave-check _ _ _ (leave-check _ _ _ (leave-check _ _ _ (leave-check _ _ _ (leave-refuse _ _ leave-none)))))

  -- those of a pair that is made
  abbrev pair_entries : Control → Devs → ℕ → ℕ → Part → Bool → Bool → Option ℕ → List Entry
  pair_entries k devs x y kind cascade full o = found_volumes devs x y ++ (cond cascade (refuse_if (cascade_refusal x) ∷ []) [] ++ make_entries k x y kind cascade full o)

  pair-leaves : (k : Control) (devs : Devs) (x y : ℕ) (kind : Part) (cascade full : Bool) (t : ℕ) → LeaveAll (pair_entries k devs x y kind cascade full (Some t))
  pair-leaves k devs x y kind cascade full t = leave-check _ _ _ (leave-check _ _ _ (leave-check _ _ _ (leave-check _ _ _ (held-by cascade))))
    where
      made : LeaveAll (make_entries k x y kind cascade full (Some t))
      made =
          leave-check _ _ _ (leave-refuse _ _ (leave-check _ _ _ (leave-check _ _ _ (leave-check _ _ _ (leave-check _ _ _ (leave-check _ _ _ (leave-check _ _ _ (leave-check _ _ _
          (leave-ended _ _ _ (λ k. refl))))))))))

      held-by : (c : Bool) → LeaveAll (cond c (refuse_if (cascade_refusal x) ∷ []) [] ++ make_entries k x y kind cascade full (Some t))
      held-by true = leave-refuse _ _ made
      held-by false = made

  module _ (w : World) (contents saved : ℕ → ℕ → List ℕ) (events : List Event) (e : AlikeEvents u w.events events) (line : ℕ) where
    abbrev k : Control
    k = w.control

    abbrev g : World
    g = record { control = k; contents = contents; saved = saved; events = events }

    a : Alike u w g
    a = record { control = refl; events = e }

    compare-alike : (v x : ℕ) → Alike u (masters_lost w (after_plan w line (compared w v x))) (masters_lost g (after_plan g line (refuses (Syntax 0))))
    compare-alike v x = idle-or-full w g a line (compare_entries k w.contents v x) (Done Alone) (compare-leaves k w.contents v x) (has_room w.events)

    -- a pair that is made: where the volumes differ, the step is refused before it does anything
    module _ (listed : List Volume) (devs : Devs) (x y n : ℕ) (choices : PairChoices) (same : HoldsSame w (Ok (MakePair devs x y n choices))) where
      abbrev plan_by : Option ℕ → Plan
      plan_by o = entries_plan (pair_entries k devs x y (kind_of n) (cascades (kind_of n) choices) choices.full o) (Done Alone)

      abbrev differing : List Event → Bool → Option ℕ
      differing es full = cond full None (first_differing (image_at es) (k.volume x).tracks x y)

      none-there : (full : Bool) → choices.full ≡ full → differing w.events full ≡ None → differing events full ≡ None
      none-there true is none = refl
      none-there false is none = none-differs _ (k.volume x).tracks 0 (λ t lt. same-bytes (image_at events x t) (image_at events y t)
          (ap (image (histories events).write) (ap (λ (l : ℕ → ℕ → List ℕ). l x t) (lists-alike w.events events e)
          ∙ same is none t (let under : t < 0 + (k.volume x).tracks = lt in omega arith) ∙ sym (ap (λ (l : ℕ → ℕ → List ℕ). l y t) (lists-alike w.events events e)))))

      pair-by : (o : Option ℕ) → differing w.events choices.full ≡ o → AlikeTask w g (record { line = line; asked = Ok (MakePair devs x y n choices); listed = listed })
      pair-by None none = record {
        other = record { line = line; asked = Ok (MakePair devs x y n choices); listed = listed };
        alike = subst (λ o. Alike u (masters_lost w (after_plan w line (cond (has_room w.events) (plan_by o) (refuses JournalFull))))
            (masters_lost g (after_plan g line (cond (has_room g.events) (plan_by (differing events choices.full)) (refuses JournalFull))))) (sym none)
            (subst (λ o. Alike u (masters_lost w (after_plan w line (cond (has_room w.events) (plan_by None) (refuses JournalFull))))
            (masters_lost g (after_plan g line (cond (has_room g.events) (plan_by o) (refuses JournalFull))))) (sym (none-there choices.full refl none))
            (by-plan w g a line (λ k. plan_by None) refl));
      }
      pair-by (Some t) some = record {
        other = wrong line;
        alike = subst (λ o. Alike u (masters_lost w (after_plan w line (cond (has_room w.events) (plan_by o) (refuses JournalFull)))) (masters_lost g (after_plan g line (refuses (Syntax 0))))) (sym some)
            (idle-or-full w g a line (pair_entries k devs x y (kind_of n) (cascades (kind_of n) choices) choices.full (Some t)) (Done Alone) (pair-leaves k devs x y (kind_of n) (cascades (kind_of n) choices) choices.full t) (has_room w.events));
      }

    -- a track that is shown, and a write that is issued
    show-alike : (v t : ℕ) → Alike u (masters_lost w (after_plan w line (cond (has_room w.events) (unless (show_refusal k v t) (show_done w.events line v t)) (refuses JournalFull))))
        (masters_lost g (after_plan g line (cond (has_room g.events) (unless (show_refusal k v t) (show_done events line v t)) (refuses JournalFull))))
    show-alike v t = in-room w g a line (unless (show_refusal k v t) (show_done w.events line v t)) (unless (show_refusal k v t) (show_done events line v t)) (by (show_refusal k v t))
      where
        by : (o : Option Refusal) → Alike u (masters_lost w (after_plan w line (unless o (show_done w.events line v t)))) (masters_lost g (after_plan g line (unless o (show_done events line v t))))
        by None = answered-alike w g a line (show_done w.events line v t) (show_done events line v t).told (inr (inr (refl, refl)), tt)
        by (Some r) = same-answered w g a line (refuses r) refl

    issue-alike : (v t offset len : ℕ) (bytes : List ℕ) (make : ℕ → ℕ → List ℕ → Plan)
        → ((offset len : ℕ) (bytes : List ℕ) → (make offset len bytes).told ≡ IssueTold (k.issued + 1) v t offset len bytes ∷ [])
        → make 0 1 (mark u (k.issued + 1)) ≡ with_told u (make offset len bytes) (IssueTold (k.issued + 1) v t 0 1 (mark u (k.issued + 1)) ∷ [])
        → Alike u (masters_lost w (after_plan w line (cond (has_room w.events) (unless (issue_refusal k v t) (make offset len bytes)) (refuses JournalFull))))
        (masters_lost g (after_plan g line (cond (has_room g.events) (unless (issue_refusal k v t) (make 0 1 (mark u (k.issued + 1)))) (refuses JournalFull))))
    issue-alike v t offset len bytes make tells other =
        in-room w g a line (unless (issue_refusal k v t) (make offset len bytes)) (unless (issue_refusal k v t) (make 0 1 (mark u (k.issued + 1)))) (by (issue_refusal k v t))
      where
        told : List Event
        told = IssueTold (k.issued + 1) v t 0 1 (mark u (k.issued + 1)) ∷ []

        remarked : AlikeEvents u (IssueTold (k.issued + 1) v t offset len bytes ∷ []) (IssueTold (k.issued + 1) v t 0 1 (mark u (k.issued + 1)) ∷ [])
        remarked = (inr (inl (record { number = k.issued + 1; volume = v; track = t; offset = offset; len = len; bytes = bytes; is = refl; other = refl })), tt)

        by : (o : Option Refusal) → Alike u (masters_lost w (after_plan w line (unless o (make offset len bytes)))) (masters_lost g (after_plan g line (unless o (make 0 1 (mark u (k.issued + 1))))))
        by None = subst (λ p. Alike u (masters_lost w (after_plan w line (make offset len bytes))) (masters_lost g (after_plan g line p))) (sym other)
            (answered-alike w g a line (make offset len bytes) (IssueTold (k.issued + 1) v t 0 1 (mark u (k.issued + 1)) ∷ [])
            (subst (λ es. AlikeEvents u es (IssueTold (k.issued + 1) v t 0 1 (mark u (k.issued + 1)) ∷ [])) (sym (tells offset len bytes)) remarked))
        by (Some r) = same-answered w g a line (refuses r) refl

    run-alike : (s n : ℕ) → let x : Way = formed w s n in let y : Way = formed g s n in
        Alike u (masters_lost x.world (after_plan x.world line (only_says (form_said s x.world.control x.refusal)))) (masters_lost y.world (after_plan y.world line (only_says (form_said s y.world.control y.refusal))))
    run-alike s n =
        let x : Way = formed w s n in
        let y : Way = formed g s n in
        let same : AlikeWay u x y = formed-alike u s n w g a in
        subst (λ r. Alike u (masters_lost x.world (after_plan x.world line (only_says (form_said s x.world.control x.refusal))))
        (masters_lost y.world (after_plan y.world line (only_says (form_said s y.world.control r))))) (sym same.refusal)
        (subst (λ (j : Control). Alike u (masters_lost x.world (after_plan x.world line (only_says (form_said s x.world.control x.refusal))))
        (masters_lost y.world (after_plan y.world line (only_says (form_said s j x.refusal))))) (sym same.world.control)
        (same-answered x.world y.world same.world line (only_says (form_said s x.world.control x.refusal)) refl))

    image-alike : (vs : List Volume) → Alike u (masters_lost w (after_plan w line (imaged w vs))) (masters_lost g (after_plan g line (imaged g vs)))
    image-alike vs =
        subst (λ b. Alike u (masters_lost w (after_plan w line (imaged w vs))) (masters_lost g (after_plan g line (cond b (image_plan vs) (refuses JournalFull))))) (sym (room-same u image_events w g a))
        (by (has_room_for image_events w.events))
      where
        by : (b : Bool) → Alike u (masters_lost w (after_plan w line (cond b (image_plan vs) (refuses JournalFull)))) (masters_lost g (after_plan g line (cond b (image_plan vs) (refuses JournalFull))))
        by true = same-answered w g a line (image_plan vs) (image-none vs)
        by false = same-answered w g a line (refuses JournalFull) refl

  -- ---- any step

  module _ (told-none : (k : Control) (line : ℕ) (step : Step) → issues step ≡ false → NoIssue (plan_of k [] line step).told) where
    step-alike : (w : World) (contents saved : ℕ → ℕ → List ℕ) (events : List Event) → AlikeEvents u w.events events → (line : ℕ) (asked : Result Step ℕ) (listed : List Volume) → HoldsSame w asked
        → AlikeTask w (record { control = w.control; contents = contents; saved = saved; events = events }) (record { line = line; asked = asked; listed = listed })
    step-alike w contents saved events e line (Err column) listed h = record {
      other = record { line = line; asked = Err column; listed = listed };
      alike = same-answered w (record { control = w.control; contents = contents; saved = saved; events = events }) (record { control = refl; events = e }) line (refuses (Syntax column)) refl;
    }
    step-alike w contents saved events e line (Ok (Run s n)) listed h = record { other = record { line = line; asked = Ok (Run s n); listed = listed }; alike = run-alike w contents saved events e line s n }
    step-alike w contents saved events e line (Ok (Compare v x)) listed h = record { other = wrong line; alike = compare-alike w contents saved events e line v x }
    step-alike w contents saved events e line (Ok Image) listed h = record { other = record { line = line; asked = Ok Image; listed = listed }; alike = image-alike w contents saved events e line listed }
    step-alike w contents saved events e line (Ok (MakePair devs x y n choices)) listed h = pair-by w contents saved events e line listed devs x y n choices h _ refl
    step-alike w contents saved events e line (Ok (Show v t)) listed h = record { other = record { line = line; asked = Ok (Show v t); listed = listed }; alike = show-alike w contents saved events e line v t }
    step-alike w contents saved events e line (Ok (Issue v t offset len bytes)) listed h = record {
      other = record { line = line; asked = Ok (Issue v t 0 1 (mark u (w.control.issued + 1))); listed = listed };
      alike = issue-alike w contents saved events e line v t offset len bytes (issue_done w.control v t) (λ offset len bytes. refl) refl;
    }
    step-alike w contents saved events e line (Ok (Write v t offset len bytes)) listed h = record {
      other = record { line = line; asked = Ok (Write v t 0 1 (mark u (w.control.issued + 1))); listed = listed };
      alike = issue-alike w contents saved events e line v t offset len bytes (write_done w.control v t) (λ offset len bytes. refl) refl;
    }
    step-alike w contents saved events e line (Ok step) listed h = record {
      other = record { line = line; asked = Ok step; listed = listed };
      alike = by-plan w (record { control = w.control; contents = contents; saved = saved; events = events }) (record { control = refl; events = e }) line (λ k. plan_of k [] line step) (told-none w.control line step refl);
    }

    pub task-alike : (w g : World) (t : Task) → Alike u w g → HoldsSame w t.asked → AlikeTask w g t
    task-alike w g t a h = by-control u (λ g. AlikeTask w g t) w g a (λ contents saved events e. step-alike w contents saved events e t.line t.asked t.listed h)
