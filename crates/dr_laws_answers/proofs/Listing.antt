-- What a step that lists something tells the journal prints what the records on the devices say.
use Rattle.std.proofs.Common.{ℕ, ◌≡◌, ◌⊎◌, refl, ap, sym, ◌∙◌, subst, inl, inr, Bool, true, false, cond, nat_eq, not, List, [], ◌∷◌, ◌++◌, map, filter, Option, Some, None, Ok}
use Rattle.std.specs.FinSet.{len}
use Rattle.std.specs.Fmt.{decimal}
use Rattle.std.specs.Prelude.{codes}
use Rattle.std.specs.List.{flat_map}
use Rattle.std.proofs.lemmas.Bool.{cases_Bool, eq-eqb}
use Rattle.std.proofs.lemmas.List.{map-append}
use Rattle.std.proofs.lemmas.List.Concat.{flat_map-cons}
use Rattle.std.proofs.lemmas.Option.{same_Some}
use Rattle.dr_ids.specs.Spelling.{hex2, hex4}
use Rattle.dr_ids.specs.declared.names.Member.{Member}
use Rattle.dr_ids.specs.declared.refusal.Kind.TheVariants.{Server as OfServer, Volume as OfVolume}
use Rattle.dr_ids.specs.declared.refusal.PairSeen.TheVariants.{None as NoPair}
use Rattle.dr_ids.specs.declared.refusal.Refusal.{Refusal}
use Rattle.dr_ids.specs.declared.refusal.Refusal.TheVariants.{JournalFull}
use Rattle.dr_model.specs.declared.event.Event.{Event}
use Rattle.dr_model.specs.declared.said.Addition.{Addition}
use Rattle.dr_model.specs.declared.said.Addition.TheVariants.{Alone}
use Rattle.dr_model.specs.declared.said.Said.TheVariants.{Done}
use Rattle.dr_model.specs.declared.state.Part.{Part}
use Rattle.dr_model.specs.declared.state.Part.TheVariants.{Absent, Metro, Global}
use Rattle.dr_model.specs.declared.state.PairState.{PairState}
use Rattle.dr_model.specs.declared.state.PairState.TheVariants.{CopyPending, FullDuplex, Suspended}
use Rattle.dr_model.specs.declared.step.Name.{Name}
use Rattle.dr_model.specs.declared.step.Step.{Step}
use Rattle.dr_model.specs.declared.step.Step.TheVariants.{ListPairs, ListFlashes, ListSession, ShowMirror}
use Rattle.dr_model.specs.Answers.{answer, pair_place}
use Rattle.dr_model.specs.Control.{Control, Fuse, World, Volume as ControlVolume, is_volume}
use Rattle.dr_model.specs.Entries.{fields_at}
use Rattle.dr_model.specs.Fits.{Fits}
use Rattle.dr_model.specs.Groups.{In}
use Rattle.dr_model.specs.Layout.{Blocks, Fields, is_part}
use Rattle.dr_model.specs.Listings as told
use Rattle.dr_model.specs.Pairs.{pair_seen, state_seen, target_seen}
use Rattle.dr_model.specs.PlantImage.{Volume}
use Rattle.dr_model.specs.PlanParts.{Plan, same, refuses, unless, owner_of, on_owner, is_owner}
use Rattle.dr_model.specs.Refusals.{unknown}
use Rattle.dr_model.specs.Plans.{plan_of, step_plan, has_room}
use Rattle.dr_model.specs.Runs.{Task, Course, own_course, course_of, course, alone, carried_out, answered, masters_lost, answered_part, after_task, run}
use Rattle.dr_model.specs.SessionPlans.{name_refusal}
use Rattle.dr_model.specs.Sessions.{Session, Mirror, has_subsystem, subsystem_of}
use Rattle.dr_model.specs.Text.{Heard, line_text, numbered, flash_word, flag_letters, pair_words}
use Rattle.dr_model.proofs.CarryLemmas.{plan-tables}
use Rattle.dr_facts.proofs.Lists.{from-filter, any-some}
use Rattle.dr_facts.proofs.Sessions.{lost-none}
use Rattle.dr_laws_attempts.proofs.Volumes.{no-place}
use Rattle.dr_laws_sound.specs.Acknowledged.{said_in, part_answer}
use Rattle.dr_laws_sound.proofs.AcknowledgingSteps.{if-plan, unless-plan, owner-plan}
use Rattle.dr_laws_sound.proofs.Journal.{run-more}
use Rattle.dr_laws_sound.proofs.Steps.{sound-run}
use Rattle.dr_laws_recovery.specs.Decided.{record_on}
use Rattle.dr_laws_recovery.proofs.RecoverySame.{filter-same}
use Rattle.dr_laws_answers.specs.Listing.{state_words, primary_line, secondary_line, pair_lines, relation_words, letters, relation_line, is_of, shown_words, member_line, master_lines, lines_on, Prints, ListsDevices}

-- ---- what an event prints

module _ (names : Heard) (n : ℕ) where
  -- these events print these lines
  abbrev pub Print : List Event → List (List ℕ) → Type 0
  Print es lines = map (line_text names) es ≡ map (numbered n) lines

  prints-primary : (v : ℕ) (f : Fields) → line_text names (told.primary_line n v f) ≡ numbered n (primary_line v f)
  prints-primary v f = by f.primary f.primary_state
    where
      by : (p : Part) (s : PairState) → line_text names (told.primary_line n v (record f { primary = p; primary_state = s })) ≡ numbered n (primary_line v (record f { primary = p; primary_state = s }))
      by Absent CopyPending = refl
      by Absent FullDuplex = refl
      by Absent Suspended = refl
      by Metro CopyPending = refl
      by Metro FullDuplex = refl
      by Metro Suspended = refl
      by Global CopyPending = refl
      by Global FullDuplex = refl
      by Global Suspended = refl

  prints-secondary : (v : ℕ) (f : Fields) → line_text names (told.secondary_line n v f) ≡ numbered n (secondary_line v f)
  prints-secondary v f = by f.secondary f.secondary_state
    where
      by : (p : Part) (s : PairState) → line_text names (told.secondary_line n v (record f { secondary = p; secondary_state = s })) ≡ numbered n (secondary_line v (record f { secondary = p; secondary_state = s }))
      by Absent CopyPending = refl
      by Absent FullDuplex = refl
      by Absent Suspended = refl
      by Metro CopyPending = refl
      by Metro FullDuplex = refl
      by Metro Suspended = refl
      by Global CopyPending = refl
      by Global FullDuplex = refl
      by Global Suspended = refl

  prints-pairs : (v : ℕ) (f : Fields) → Print (told.pair_lines n v f) (pair_lines v f)
  prints-pairs v f = by (is_part f.primary) (is_part f.secondary)
    where
      by : (a b : Bool) → Print (cond a (told.primary_line n v f ∷ []) [] ++ cond b (told.secondary_line n v f ∷ []) []) (cond a (primary_line v f ∷ []) [] ++ cond b (secondary_line v f ∷ []) [])
      by true true = λ i. prints-primary v f i ∷ prints-secondary v f i ∷ []
      by true false = λ i. prints-primary v f i ∷ []
      by false true = λ i. prints-secondary v f i ∷ []
      by false false = refl

  relation-words : (f : Fields) → flash_word (told.flash_state f) ≡ relation_words f
  relation-words f = by f.revertible f.reversing
    where
      by : (a b : Bool) → flash_word (told.flash_state (record f { revertible = a; reversing = b })) ≡ relation_words (record f { revertible = a; reversing = b })
      by true b = refl
      by false true = refl
      by false false = refl

  its-letters : (f : Fields) → flag_letters (told.flash_flags f) ≡ letters f
  its-letters f = by f.nocopy f.persistent f.recorded f.inhibited
    where
      by : (a b c d : Bool) → flag_letters (told.flash_flags (record f { nocopy = a; persistent = b; recorded = c; inhibited = d })) ≡ letters (record f { nocopy = a; persistent = b; recorded = c; inhibited = d })
      by true true true true = refl
      by true true true false = refl
      by true true false true = refl
      by true true false false = refl
      by true false true true = refl
      by true false true false = refl
      by true false false true = refl
      by true false false false = refl
      by false true true true = refl
      by false true true false = refl
      by false true false true = refl
      by false true false false = refl
      by false false true true = refl
      by false false true false = refl
      by false false false true = refl
      by false false false false = refl

  prints-relation : (t : ℕ) (f : Fields) → line_text names (told.flash_line n t f) ≡ numbered n (relation_line t f)
  prints-relation t f = λ i.
      numbered n
      (hex4 f.source ++ codes ":" ++ hex4 t ++ codes " " ++ decimal f.sequence ++ codes " " ++ decimal f.previous_sequence
      ++ codes " " ++ relation-words f i ++ codes " " ++ its-letters f i ++ codes " " ++ decimal (len f.own))

  pair-words : (f : Fields) → pair_words (pair_place (pair_seen f)) ≡ shown_words f
  pair-words f = by (is_part f.primary) (is_part f.secondary) f.primary_state f.secondary_state
    where
      by : (a b : Bool) (s z : PairState) → pair_words (pair_place (cond a (state_seen s) (cond b (target_seen z) NoPair))) ≡ cond a (state_words s) (cond b (codes "Target " ++ state_words z) (codes "none"))
      by true b CopyPending z = refl
      by true b FullDuplex z = refl
      by true b Suspended z = refl
      by false true s CopyPending = refl
      by false true s FullDuplex = refl
      by false true s Suspended = refl
      by false false s z = refl

  prints-member : (k : Control) (s : ℕ) (m : Member) → line_text names (told.member_line k n s m) ≡ numbered n (member_line s m (fields_at k m.a.0))
  prints-member k s m = λ i.
      numbered n (hex2 s ++ codes " " ++ hex4 m.a.0 ++ codes ":" ++ hex4 m.b.0 ++ codes ":" ++ hex4 m.c.0 ++ codes " " ++ pair-words (fields_at k m.a.0) i)

  prints-master : (s : ℕ) (o : Option Mirror) → Print (told.mirror_lines n s o) (master_lines names s o)
  prints-master s None = refl
  prints-master s (Some r) = refl

  -- one line for each, or several
  prints-each : {X : Type 0} (e : X → Event) (line : X → List ℕ) (xs : List X) → ((x : X) → In x xs → line_text names (e x) ≡ numbered n (line x)) → Print (map e xs) (map line xs)
  prints-each e line [] each = refl
  prints-each e line (x ∷ xs) each = λ i. each x (inl refl) i ∷ prints-each e line xs (λ y h. each y (inr h)) i

  prints-all : {X : Type 0} (es : X → List Event) (lines : X → List (List ℕ)) (xs : List X) → ((x : X) → In x xs → Print (es x) (lines x)) → Print (flat_map es xs) (flat_map lines xs)
  prints-all es lines [] each = refl
  prints-all es lines (x ∷ xs) each =
      ap (map (line_text names)) (flat_map-cons es x xs)
      ∙ (map-append (line_text names) (es x) (flat_map es xs)
      ∙ ((λ i. each x (inl refl) i ++ prints-all es lines xs (λ y h. each y (inr h)) i)
      ∙ (sym (map-append (numbered n) (lines x) (flat_map lines xs))
      ∙ ap (map (numbered n)) (sym (flat_map-cons lines x xs)))))

-- ---- what a listing's plan tells

module _ (w : World) (line : ℕ) where
  -- from w to u these events were told, and nothing else came of it
  pub record WasTold (es : List Event) (u : World) : Type 0 where
    pub events : u.events ≡ (w.events ++ es) ++ answer line (Done Alone) ∷ []
    volume : u.control.volume ≡ w.control.volume
    volumes : u.control.volumes ≡ w.control.volumes
    sessions : u.control.sessions ≡ w.control.sessions

  -- a plan that isn't refused tells them, and then this is so
  abbrev pub Tells : Type 0 → List Event → Plan → Type 0
  Tells P es p = (x : Addition) → answered p (carried_out w p).0.control (carried_out w p).1 ≡ Done x → P × WasTold es (answered_part line (record { world = w; plan = p }))

  refused-tells : (P : Type 0) (es : List Event) (r : Refusal) → Tells P es (refuses r)
  refused-tells P es r x h = absurd (by (carried_out w (refuses r)).0.control (carried_out w (refuses r)).1 h)
    where
      by : (k : Control) (o : Option Refusal) → answered (refuses r) k o ≡ Done x → ⊥
      by k None h = cc
      by k (Some s) h = cc

  lists-tells : (P : Type 0) (es : List Event) → P → Tells P es (told.lists es)
  lists-tells P es so x h =
      let is = plan-tables w line same es (Done Alone) in (
        so,
        record {
          events = ap (λ (u : World). u.events) is;
          volume = ap (λ (u : World). u.control.volume) is;
          volumes = ap (λ (u : World). u.control.volumes) is;
          sessions = ap (λ (u : World). (masters_lost w u).control.sessions) is ∙ lost-none w.control.on w.control.sessions;
        },
      )

  -- a listing of a volume
  pub of-volume : (dev : Option Name) (v : ℕ) (es : List Event) → Tells (is_volume w.control v ≡ true) es (unless (told.listing_refusal w.control dev v) (told.lists es))
  of-volume dev v es = by (cases_Bool (is_volume w.control v))
    where
      P : Type 0
      P = is_volume w.control v ≡ true

      by : (is_volume w.control v ≡ true) ⊎ (is_volume w.control v ≡ false) → Tells P es (unless (told.listing_refusal w.control dev v) (told.lists es))
      by (inl there) = unless-plan (Tells P es) (refused-tells P es) (told.listing_refusal w.control dev v) (told.lists es) (lists-tells P es there)
      by (inr not_there) =
          subst (λ b. Tells P es (unless (cond (not b) (Some (unknown OfVolume)) (cond (is_owner dev v w.control) None (Some (unknown OfServer)))) (told.lists es))) (sym not_there)
          (refused-tells P es (unknown OfVolume))

  -- and one of a logical subsystem
  of-subsystem : (dev : Option Name) (l : ℕ) (es : List Event) → Tells (Unit {0}) es (on_owner (owner_of w.control l) (λ owner. unless (name_refusal w.control dev owner) (told.lists es)))
  of-subsystem dev l es =
      owner-plan (Tells (Unit {0}) es) (refused-tells (Unit {0}) es) (owner_of w.control l) (λ owner. unless (name_refusal w.control dev owner) (told.lists es))
      (λ owner. unless-plan (Tells (Unit {0}) es) (refused-tells (Unit {0}) es) (name_refusal w.control dev owner) (told.lists es) (lists-tells (Unit {0}) es tt))

  -- a step that is such a plan
  step-tells : (P : Type 0) (es : List Event) (s : Step) (listed : List Volume) → own_course (Ok s) ≡ None → Tells P es (plan_of w.control w.events line s)
      → (x : Addition) → said_in w (record { line = line; asked = Ok s; listed = listed }) ≡ Done x → P × WasTold es (after_task w (record { line = line; asked = Ok s; listed = listed }))
  step-tells P es s listed plain tells x says =
      let t : Task = record { line = line; asked = Ok s; listed = listed } in
      let is : course w t ≡ alone w (step_plan w.control w.events line s) = ap (course_of w t) plain in
      subst (λ (c : Course). part_answer c.last ≡ Done x → P × WasTold es (answered_part line c.last)) (sym is)
      (if-plan (Tells P es) (refused-tells P es) (has_room w.events) (plan_of w.control w.events line s) (refuses JournalFull) tells (refused-tells P es JournalFull) x) says

-- ---- by the devices

module _ (tasks before : List Task) (t : Task) (is : tasks ≡ before ++ t ∷ []) (device : ℕ → Blocks) where
  abbrev w : World
  w = run before

  abbrev u : World
  u = run tasks

  abbrev n : ℕ
  n = t.line

  -- what the last step of a run told
  pub last-told : (P : Type 0) (es : List Event) (s : Step) → own_course (Ok s) ≡ None → Tells w n P es (plan_of w.control w.events n s)
      → t.asked ≡ Ok s → (x : Addition) → said_in w t ≡ Done x → P × WasTold w n es u
  last-told P es s plain tells asked x says =
      let same : t ≡ record { line = n; asked = Ok s; listed = t.listed } = λ i. record t { asked = asked i } in
      let leads : after_task w (record { line = n; asked = Ok s; listed = t.listed }) ≡ u = ap (after_task w) (sym same) ∙ sym (ap run is ∙ run-more before t) in
      subst (λ u. P × WasTold w n es u) leads (step-tells w n P es s t.listed plain tells x (subst (λ t. said_in w t ≡ Done x) same says))

  -- a volume's record on its device is the one that the step saw
  module _ (on : ℕ → Bool) (fuse : ℕ → Option Fuse) (fits : Fits u on fuse device) (es : List Event) (so : WasTold w n es u) where
    at : (v : ℕ) → is_volume w.control v ≡ true → record_on u device v ≡ fields_at w.control v
    at v there =
        (fits.volumes v (subst (λ vs. is_volume (record w.control { volumes = vs }) v ≡ true) (sym so.volumes) there)).fields
        ∙ ap (λ (vs : ℕ → ControlVolume). (vs v).fields) so.volume

    at-in : (v : ℕ) → In v w.control.volumes → record_on u device v ≡ fields_at w.control v
    at-in v here = at v (any-some (nat_eq v) w.control.volumes v here (eq-eqb v v refl))

    at-member : (x : Session) (m : Member) → In x w.control.sessions → In m x.members → record_on u device m.a.0 ≡ fields_at w.control m.a.0
    at-member x m here there = by (cases_Bool (is_volume w.control m.a.0))
      where
        by : (is_volume w.control m.a.0 ≡ true) ⊎ (is_volume w.control m.a.0 ≡ false) → record_on u device m.a.0 ≡ fields_at w.control m.a.0
        by (inl is) = at m.a.0 is
        by (inr new) = absurd (no-place w.control m.a.0 new (sound-run before).groups x m here there (inl refl))

    pairs : (v : ℕ) → is_volume w.control v ≡ true → (names : Heard) → Print names n (told.pair_lines n v (fields_at w.control v)) (pair_lines v (record_on u device v))
    pairs v there names = prints-pairs names n v (fields_at w.control v) ∙ ap (λ f. map (numbered n) (pair_lines v f)) (sym (at v there))

    relations : (v : ℕ) (names : Heard)
        → Print names n (told.flash_lines w.control n v) (map (λ q. relation_line q (record_on u device q)) (filter (λ q. is_of v q (record_on u device q)) u.control.volumes))
    relations v names =
        prints-each names n (λ q. told.flash_line n q (fields_at w.control q)) (λ q. relation_line q (record_on u device q)) (filter (λ q. told.is_flash_of v q (fields_at w.control q)) w.control.volumes)
        (λ q h. prints-relation names n q (fields_at w.control q)
        ∙ ap (λ f. numbered n (relation_line q f)) (sym (at-in q (from-filter (λ q. told.is_flash_of v q (fields_at w.control q)) w.control.volumes q h).0)))
        ∙ ap (λ qs. map (numbered n) (map (λ q. relation_line q (record_on u device q)) qs))
        (filter-same (λ q. told.is_flash_of v q (fields_at w.control q)) (λ q. is_of v q (record_on u device q)) w.control.volumes (λ q h. ap (is_of v q) (sym (at-in q h)))
        ∙ ap (filter (λ q. is_of v q (record_on u device q))) (sym so.volumes))

    members : (l : ℕ) (names : Heard)
        → Print names n (flat_map (told.member_lines w.control n l) (told.sessions_of w.control l))
        (flat_map (λ x. map (λ m. member_line x.number m (record_on u device m.a.0)) (filter (λ m. nat_eq (subsystem_of m.a.0) l) x.members)) (filter (has_subsystem l) u.control.sessions))
    members l names =
        let lines : Session → List (List ℕ) = λ x. map (λ m. member_line x.number m (record_on u device m.a.0)) (filter (λ m. nat_eq (subsystem_of m.a.0) l) x.members) in
        prints-all names n (told.member_lines w.control n l) lines (told.sessions_of w.control l)
        (λ x h. prints-each names n (told.member_line w.control n x.number) (λ m. member_line x.number m (record_on u device m.a.0)) (filter (λ m. nat_eq (subsystem_of m.a.0) l) x.members)
        (λ m i. prints-member names n w.control x.number m
        ∙ ap (λ f. numbered n (member_line x.number m f))
        (sym (at-member x m (from-filter (has_subsystem l) w.control.sessions x h).0 (from-filter (λ m. nat_eq (subsystem_of m.a.0) l) x.members m i).0))))
        ∙ ap (λ ss. map (numbered n) (flat_map lines (filter (has_subsystem l) ss))) (sym so.sessions)

    masters : (l : ℕ) (names : Heard)
        → Print names n (flat_map (λ x. told.mirror_lines n x.number x.mirror) (told.sessions_of w.control l)) (flat_map (λ x. master_lines names x.number x.mirror) (filter (has_subsystem l) u.control.sessions))
    masters l names =
        prints-all names n (λ x. told.mirror_lines n x.number x.mirror) (λ x. master_lines names x.number x.mirror) (told.sessions_of w.control l) (λ x h. prints-master names n x.number x.mirror)
        ∙ ap (λ ss. map (numbered n) (flat_map (λ x. master_lines names x.number x.mirror) (filter (has_subsystem l) ss))) (sym so.sessions)

  listed : (on : ℕ → Bool) (fuse : ℕ → Option Fuse) → Fits u on fuse device → (s : Step) → t.asked ≡ Ok s → (x : Addition) → said_in w t ≡ Done x
      → (lines : Heard → List (List ℕ)) → lines_on u device s ≡ Some lines → Prints w u n lines
  listed on fuse fits (ListPairs devs v) asked x says lines given =
      let es : List Event = told.pair_lines n v (fields_at w.control v) in
      let so : (is_volume w.control v ≡ true) × WasTold w n es u = last-told (is_volume w.control v ≡ true) es (ListPairs devs v) refl (of-volume w n devs.dev v es) asked x says in
      subst (Prints w u n) (same_Some _ _ given) (record { told = es; events = so.1.events; prints = pairs on fuse fits es so.1 v so.0 })
  listed on fuse fits (ListFlashes devs v) asked x says lines given =
      let es : List Event = told.flash_lines w.control n v in
      let so : (is_volume w.control v ≡ true) × WasTold w n es u = last-told (is_volume w.control v ≡ true) es (ListFlashes devs v) refl (of-volume w n devs.dev v es) asked x says in
      subst (Prints w u n) (same_Some _ _ given) (record { told = es; events = so.1.events; prints = relations on fuse fits es so.1 v })
  listed on fuse fits (ListSession devs l) asked x says lines given =
      let es : List Event = flat_map (told.member_lines w.control n l) (told.sessions_of w.control l) in
      let so : Unit {0} × WasTold w n es u = last-told (Unit {0}) es (ListSession devs l) refl (of-subsystem w n devs.dev l es) asked x says in
      subst (Prints w u n) (same_Some _ _ given) (record { told = es; events = so.1.events; prints = members on fuse fits es so.1 l })
  listed on fuse fits (ShowMirror devs l) asked x says lines given =
      let es : List Event = flat_map (λ x. told.mirror_lines n x.number x.mirror) (told.sessions_of w.control l) in
      let so : Unit {0} × WasTold w n es u = last-told (Unit {0}) es (ShowMirror devs l) refl (of-subsystem w n devs.dev l es) asked x says in
      subst (Prints w u n) (same_Some _ _ given) (record { told = es; events = so.1.events; prints = masters on fuse fits es so.1 l })
  listed on fuse fits s asked x says lines given = absurd cc

pub listed-run : (tasks : List Task) (on : ℕ → Bool) (fuse : ℕ → Option Fuse) (device : ℕ → Blocks) → Fits (run tasks) on fuse device → ListsDevices tasks device
listed-run tasks on fuse device fits before t s said lines is asked says given = listed tasks before t is device on fuse fits s asked said says lines given
