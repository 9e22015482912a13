-- What a listing comes to, how many members there are, and what an image comes to.
use Rattle.std.proofs.Common.{ℕ, ◌≡◌, ◌≢◌, ◌≤◌, ◌⊎◌, inl, inr, refl, sym, ◌∙◌, ap, subst, true, false, cond, ◌||◌, List, [], ◌∷◌, ◌++◌, length, map, nat_eq, Option, Some, None, Ok}
use Rattle.std.specs.List.{list_any}
use Rattle.std.proofs.lemmas.List.{length-map}
use Rattle.std.proofs.lemmas.List.Folds.{list_any-append}
use Rattle.std.proofs.Math.Bool.{or-false}
use Rattle.std.proofs.lemmas.Bool.{ne_eqb}
use Rattle.dr_ids.specs.declared.names.Member.{Member}
use Rattle.dr_ids.specs.declared.refusal.Refusal.{Refusal}
use Rattle.dr_ids.specs.declared.refusal.Refusal.TheVariants.{JournalFull}
use Rattle.dr_moves.specs.Checks.{OnNone}
use Rattle.dr_host.specs.Writes.{EachPending, bytes_of}
use Rattle.dr_host.specs.declared.pending.Pending.{Pending}
use Rattle.dr_plant.specs.State.{PlantState}
use Rattle.dr_config.specs.Table.{ConfigTable}
use Rattle.dr_logic.specs.Counts.{Counted}
use Rattle.dr_model.specs.declared.event.Event.{Event}
use Rattle.dr_model.specs.declared.said.Addition.TheVariants.{Alone}
use Rattle.dr_model.specs.declared.said.Said.TheVariants.{Done, Refused}
use Rattle.dr_model.specs.declared.step.Step.TheVariants.{Image}
use Rattle.dr_model.specs.Answers.{answer}
use Rattle.dr_model.specs.Control.{Control, World}
use Rattle.dr_model.specs.Groups.{In, Groups}
use Rattle.dr_model.specs.Histories.{Histories, histories}
use Rattle.dr_model.specs.Laws.{Sound}
use Rattle.dr_model.specs.Layout.{Blocks}
use Rattle.dr_model.specs.Limits.{image_events}
use Rattle.dr_model.specs.Listed.{Lists, ListsIf, listing, task_on}
use Rattle.dr_model.specs.Listings.{lists}
use Rattle.dr_model.specs.PlanParts.{unless, refuses, same}
use Rattle.dr_model.specs.Plans.{has_room_for}
use Rattle.dr_model.specs.Runs.{after_plan, after_task, image_told, image_plan, masters_lost, said}
use Rattle.dr_model.specs.Sessions.{Session}
use Rattle.dr_model.specs.Tables.{Once}
use Rattle.dr_model.proofs.CarryLemmas.{plan-tables, plan-refuses}
use Rattle.dr_facts.proofs.Lists.{in-joined, from-map, is-met, once-later, once-few}
use Rattle.dr_laws_sound.proofs.Listed.{AllLines, lines-lists, lines-plain}
use Rattle.dr_listing.specs.Told.{AreSeated, members_of}
use Rattle.dr_steps.specs.Faults.{is_stop, told_stop}
use Rattle.dr_steps.specs.Here.{here, IsTold}
use Rattle.dr_steps.specs.declared.tables.Tables.{Tables}
use Rattle.dr_laws_sound.proofs.RefusedSteps.{lost-stays}
use Rattle.dr_steps.proofs.RelationLemmas.{placed-here}
use Rattle.dr_steps.proofs.StepTaskLemmas.{none-silent}

-- ---- a listing

-- what holds, holds where nothing is refused
pub none-always : {P : Type 0} (o : Option Refusal) → P → OnNone o P
none-always None p = p
none-always (Some why) p = tt

-- lines tell of no write
pub told-lines : (h : Tables) (events now lines : List Event) → now ≡ events ++ lines → AllLines lines → IsTold h events → IsTold h now
told-lines h events now lines told each is =
    subst (λ (x : Histories). EachPending (λ (p : Pending). x.write (p.w.0) ≡ record { volume = p.volume.0; track = p.track; offset = p.offset; bytes = bytes_of p }) h.host.pending)
    (sym (ap histories told ∙ lines-lists events lines each)) is

module _ (s : PlantState) (t : ConfigTable) (h : Tables) (ev : List Event) (line : ℕ) where
  -- it is refused, or its lines come
  pub list-refused : (o : Option Refusal) (told : List Event) (why : Refusal) → Some why ≡ o → after_plan (here s t h ev) line (unless o (lists told)) ≡ said (here s t h ev) line (Refused why)
  list-refused o told why is = ap (λ o. after_plan (here s t h ev) line (unless o (lists told))) (sym is) ∙ plan-refuses (here s t h ev) line why

  pub list-done : (o : Option Refusal) (told now : List Event) → None ≡ o → now ≡ ev ++ told → after_plan (here s t h ev) line (unless o (lists told)) ≡ said (here s t h now) line (Done Alone)
  list-done o told now is events =
      ap (λ o. after_plan (here s t h ev) line (unless o (lists told))) (sym is) ∙ plan-tables (here s t h ev) line same told (Done Alone) ∙ ap (λ es. said (here s t h es) line (Done Alone)) (sym events)

-- ---- members

none-any : {X : Type 0} (f : X → ℕ) (n : ℕ) (xs : List X) → ((x : X) → In x xs → n ≢ f x) → list_any (nat_eq n) (map f xs) ≡ false
none-any f n [] other = refl
none-any f n (x ∷ xs) other = ap (λ b. b || list_any (nat_eq n) (map f xs)) (ne_eqb n (f x) (other x (inl refl))) ∙ none-any f n xs (λ y here. other y (inr here))

once-both : {X : Type 0} (f : X → ℕ) (xs ys : List X) → Once (map f xs) → Once (map f ys) → ((x y : X) → In x xs → In y ys → f x ≢ f y) → Once (map f (xs ++ ys))
once-both f [] ys first second apart = second
once-both f (x ∷ xs) ys first second apart = (
  none-any f (f x) (xs ++ ys) (λ y here same. elim (in-joined xs ys y here) [ inl i ↦ once-later f x xs y first i (sym same) | inr i ↦ apart x y (inl refl) i same ]),
  once-both f xs ys first.1 second (λ y z i j. apart y z (inr i) j),
)

-- a member of some session
record Of (ss : List Session) (m : Member) : Type 0 where
  session : Session
  listed : In session ss
  here : In m session.members

from-members : (ss : List Session) (m : Member) → In m (members_of ss) → Of ss m
from-members [] m here = absurd here
from-members (x ∷ ss) m here = by (in-joined x.members (members_of ss) m here) (from-members ss m)
  where
    by : In m x.members ⊎ In m (members_of ss) → (In m (members_of ss) → Of ss m) → Of (x ∷ ss) m
    by (inl i) more = record { session = x; listed = inl refl; here = i }
    by (inr i) more = let o = more i in record { session = o.session; listed = inr o.listed; here = o.here }

members-once : (k : Control) (ss : List Session) → Groups k → ((x : Session) → In x ss → In x k.sessions) → Once (map (λ (x : Session). x.number) ss) → Once (map (λ (m : Member). m.a.0) (members_of ss))
members-once k [] groups among once = tt
members-once k (x ∷ ss) groups among once =
    once-both (λ (m : Member). m.a.0) x.members (members_of ss) (groups.each x (among x (inl refl))).once (members-once k ss groups (λ y i. among y (inr i)) once.1) (λ m q i j same.
    let o = from-members ss q j in
    once-later (λ (y : Session). y.number) x ss o.session once o.listed (sym (groups.lone.one m.a.0 x o.session m q (among x (inl refl)) (among o.session (inr o.listed)) i o.here (inl refl) (inl same)).0))

-- a volume is the primary of one member at most
pub members-few : (k : Control) → Groups k → length (members_of k.sessions) ≤ length k.volumes
members-few k groups =
    let ms = members_of k.sessions in
    let f : Member → ℕ = (λ m. m.a.0) in
    let few : length (map f ms) ≤ length k.volumes = once-few (map f ms) k.volumes (members-once k k.sessions groups (λ x i. i) groups.once) (λ v i.
    let m = from-map f ms v i in
    let o = from-members k.sessions m.from m.here in
    subst (λ u. In u k.volumes) (sym m.is) (is-met m.from.a.0 k.volumes ((groups.each o.session o.listed).stands m.from o.here).a)) in
    subst (λ n. n ≤ length k.volumes) (length-map ms f) few

pub seated : (s : PlantState) (t : ConfigTable) (h : Tables) (ev : List Event) → Sound (here s t h ev) → AreSeated t h.sessions.sessions
seated s t h ev sound = record {
  once = sound.groups.once;
  stand = λ x listed m here. placed-here s t h ev m.a.0 ((sound.groups.each x listed).stands m here).a;
}

-- ---- an image

module _ (w : World) (device : ℕ → Blocks) (number : ℕ) where
  pub image-done : has_room_for image_events w.events ≡ true → after_task w (task_on w device number (Ok Image)) ≡ said (record w { events = w.events ++ image_told (listing w.control device) }) number (Done Alone)
  image-done room =
      (λ i. masters_lost w (after_plan w number (cond (room i) (image_plan (cond (room i) (listing w.control device) [])) (refuses JournalFull))))
      ∙ ap (masters_lost w) (plan-tables w number same (image_told (listing w.control device)) (Done Alone))
      ∙ lost-stays w (said (record w { events = w.events ++ image_told (listing w.control device) }) number (Done Alone)) refl

  pub image-full : has_room_for image_events w.events ≡ false → after_task w (task_on w device number (Ok Image)) ≡ said w number (Refused JournalFull)
  image-full full =
      (λ i. masters_lost w (after_plan w number (cond (full i) (image_plan (cond (full i) (listing w.control device) [])) (refuses JournalFull))))
      ∙ ap (masters_lost w) (plan-refuses w number JournalFull) ∙ lost-stays w (said w number (Refused JournalFull)) refl

  pub full-lists : has_room_for image_events w.events ≡ false → Lists w (task_on w device number (Ok Image))
  full-lists full = subst (λ b. ListsIf b w (cond b (listing w.control device) [])) (sym full) refl

-- lines tell no stop
pub lines-calm : (events lines : List Event) → AllLines lines → told_stop (events ++ lines) ≡ told_stop events
lines-calm events lines each =
    list_any-append is_stop events lines ∙ ap (λ b. told_stop events || b) (none-silent lines (lines-plain lines each).silent) ∙ or-false (told_stop events)

-- nor does an answer that they came
pub calm-answer : (events mid now lines : List Event) (number f n : ℕ) → mid ≡ events ++ lines → AllLines lines → now ≡ mid ++ answer number (Done Alone) ∷ [] → Counted (told_stop events) f n → Counted (told_stop now) f n
calm-answer events mid now lines number f n told each said counted =
    subst (λ b. Counted b f n)
    (sym (ap told_stop said ∙ list_any-append is_stop mid (answer number (Done Alone) ∷ []) ∙ or-false (told_stop mid) ∙ ap told_stop told ∙ lines-calm events lines each)) counted
