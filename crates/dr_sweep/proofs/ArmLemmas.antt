-- Fuses that are armed line by line, in two worlds.
use Rattle.std.proofs.Common.{ℕ, suc, ◌≡◌, ◌≤◌, ◌+◌, ◌⊎◌, inl, inr, Bool, true, false, cond, List, [], ◌∷◌, ◌++◌, refl, ap, ◌∙◌, sym, subst, arith, Option, Some, None, Ok}
use Rattle.std.specs.Prelude.{slice_get}
use Rattle.std.proofs.lemmas.Bool.{cases_eq}
use Rattle.dr_ids.specs.declared.refusal.Refusal.{Refusal}
use Rattle.dr_ids.specs.declared.refusal.Refusal.TheVariants.{JournalFull}
use Rattle.dr_ids.specs.declared.refusal.Kind.TheVariants.{Server as OfServer}
use Rattle.dr_logic.specs.Tables.{at}
use Rattle.dr_logic.proofs.Tables.{at_same, at_other}
use Rattle.dr_model.specs.Refusals.{unknown}
use Rattle.dr_model.specs.declared.said.Said.TheVariants.{Done, Refused}
use Rattle.dr_model.specs.declared.said.Addition.TheVariants.{Alone}
use Rattle.dr_model.specs.declared.step.Name.{Name}
use Rattle.dr_model.specs.declared.step.Step.TheVariants.{StopAfter}
use Rattle.dr_model.specs.declared.step.TornWord.{TornWord}
use Rattle.dr_model.specs.Control.{Control, Fuse, World}
use Rattle.dr_model.specs.PlanParts.{Plan, refuses, on_named, server_named, name_bytes}
use Rattle.dr_model.specs.Plans.{has_room, arm_on, armed, fuse_at_start}
use Rattle.dr_model.specs.Carried.{said, masters_lost}
use Rattle.dr_model.specs.Runs.{answered_part, after_task, after_tasks}
use Rattle.dr_model.specs.Lines.{task}
use Rattle.dr_model.proofs.CarryLemmas.{plan-tables, plan-refuses}
use Rattle.dr_plan.specs.declared.points.Torn.{Torn}
use Rattle.dr_plan.specs.declared.points.Torn.TheVariants.{Unchanged}
use Rattle.dr_plan.specs.Points.{count_at, torn_at, torn_word, fuses, steps_from}
use Rattle.dr_laws_fuses.specs.Fuses.{with_fuses}
use Rattle.dr_laws_fuses.specs.Laws.{Outlasts, Lasts}

module _ (place : ℕ → Option ℕ) (own : Option ℕ) where
  -- two fuses are set
  set-lasts : (f g : ℕ → Option Fuse) (q : ℕ) (a b : Fuse) → Lasts place own f g → (place q ≡ None → ⊥) → (place q ≡ own → b ≡ a) → a.after ≤ b.after → Lasts place own (at f q (Some a)) (at g q (Some b))
  set-lasts f g q a b l some equal more = record {
    kept = λ z none. elim (cases_eq z q) [
      | inl e ↦ absurd (some (sym (ap place e) ∙ none))
      | inr ne ↦ at_other g q (Some b) z ne ∙ l.kept z none ∙ sym (at_other f q (Some a) z ne)
    ];
    same = λ z is. elim (cases_eq z q) [
      | inl e ↦ ap (at g q (Some b)) e ∙ at_same g q (Some b) ∙ ap Some (equal (sym (ap place e) ∙ is)) ∙ sym (ap (at f q (Some a)) e ∙ at_same f q (Some a))
      | inr ne ↦ at_other g q (Some b) z ne ∙ l.same z is ∙ sym (at_other f q (Some a) z ne)
    ];
    others = λ z. elim (cases_eq z q) [
      | inl e ↦ subst (λ y. Outlasts (at f q (Some a) y) (at g q (Some b) y)) (sym e) (subst (λ o. Outlasts o (at g q (Some b) q)) (sym (at_same f q (Some a))) (subst (λ o. Outlasts (Some a) o) (sym (at_same g q (Some b))) more))
      | inr ne ↦ subst (λ o. Outlasts o (at g q (Some b) z)) (sym (at_other f q (Some a) z ne)) (subst (λ o. Outlasts (f z) o) (sym (at_other g q (Some b) z ne)) (l.others z))
    ];
  }

-- two fuses are the same, or a start leaves the first
abbrev pub AreLeft : Option Fuse → Option Fuse → Type 0
AreLeft f g = (g ≡ f) ⊎ (fuse_at_start f ≡ f)

-- of some servers, which a step may start
module _ (Started : ℕ → Type 0) where
  set-left : (f g : ℕ → Option Fuse) (q : ℕ) (a b : Fuse) → ((z : ℕ) → Started z → AreLeft (f z) (g z)) → (Started q → AreLeft (Some a) (Some b)) → (z : ℕ) → Started z → AreLeft (at f q (Some a) z) (at g q (Some b) z)
  set-left f g q a b left new z started = elim (cases_eq z q) [
    | inl e ↦ subst (λ x. AreLeft x (at g q (Some b) z)) (sym (ap (at f q (Some a)) e ∙ at_same f q (Some a))) (subst (AreLeft (Some a)) (sym (ap (at g q (Some b)) e ∙ at_same g q (Some b))) (new (subst Started e started)))
    | inr ne ↦ subst (λ x. AreLeft x (at g q (Some b) z)) (sym (at_other f q (Some a) z ne)) (subst (AreLeft (f z)) (sym (at_other g q (Some b) z ne)) (left z started))
  ]

module _ (place : ℕ → Option ℕ) (own : Option ℕ) (Started : ℕ → Type 0) where
  -- the second world is the first with other fuses, that last
  pub record Ends (servers : List (List ℕ)) (u v : World) : Type 0 where
    pub fuse : ℕ → Option Fuse
    pub is : v ≡ with_fuses u fuse
    pub lasts : Lasts place own u.control.fuse fuse
    pub left : (q : ℕ) → Started q → AreLeft (u.control.fuse q) (fuse q)
    pub stay : u.control.servers ≡ servers

  module _ (w : World) (g : ℕ → Option Fuse) (number : ℕ) (name : Name) (n m : ℕ) (torn other : TornWord) where
    abbrev ended : World → Plan → World
    ended u p = answered_part number (record { world = u; plan = p })

    abbrev chosen : Bool → Option ℕ → ℕ → TornWord → Plan
    chosen b o k t = cond b (on_named o (arm_on k t)) (refuses JournalFull)

    abbrev fused : World → ℕ → Fuse → World
    fused u s f = masters_lost u (said (record u { control = record u.control { fuse = at u.control.fuse s (Some f) }; events = u.events ++ [] }) number (Done Alone))

    abbrev refused : World → Refusal → World
    refused u r = masters_lost u (said u number (Refused r))

    ends_armed : (u : World) (s k : ℕ) (t : TornWord) → ended u (arm_on k t s) ≡ fused u s (armed k t)
    ends_armed u s k t = ap (masters_lost u) (plan-tables u number (λ c. record c { fuse = at c.fuse s (Some (armed k t)) }) [] (Done Alone))

    ends_refused : (u : World) (r : Refusal) → ended u (refuses r) ≡ refused u r
    ends_refused u r = ap (masters_lost u) (plan-refuses u number r)

    chooses : (u : World) (k : ℕ) (t : TornWord) (b : Bool) (o : Option ℕ) → has_room u.events ≡ b → server_named u.control (name_bytes name) ≡ o → after_task u (task number (Ok (StopAfter name k t))) ≡ ended u (chosen b o k t)
    chooses u k t b o room named = ap (λ b. ended u (chosen b (server_named u.control (name_bytes name)) k t)) room ∙ ap (λ o. ended u (chosen b o k t)) named

    both_refused : (r : Refusal) → Lasts place own w.control.fuse g → ((q : ℕ) → Started q → AreLeft (w.control.fuse q) (g q)) → after_task w (task number (Ok (StopAfter name n torn))) ≡ refused w r → after_task (with_fuses w g) (task number (Ok (StopAfter name m other))) ≡ refused (with_fuses w g) r
        → Ends w.control.servers (after_task w (task number (Ok (StopAfter name n torn)))) (after_task (with_fuses w g) (task number (Ok (StopAfter name m other))))
    both_refused r l left one two =
        subst (λ u. Ends w.control.servers u (after_task (with_fuses w g) (task number (Ok (StopAfter name m other))))) (sym one)
        (record { fuse = g; is = two; lasts = l; left = left; stay = refl })

    -- a fuse is armed in both, or in none
    pub arm-both : Lasts place own w.control.fuse g → ((q : ℕ) → Started q → AreLeft (w.control.fuse q) (g q)) → n ≤ m
        → ((q : ℕ) → server_named w.control (name_bytes name) ≡ Some q → (place q ≡ None → ⊥) × (place q ≡ own → armed m other ≡ armed n torn) × (Started q → AreLeft (Some (armed n torn)) (Some (armed m other))))
        → Ends w.control.servers (after_task w (task number (Ok (StopAfter name n torn)))) (after_task (with_fuses w g) (task number (Ok (StopAfter name m other))))
    arm-both l left more fine = by (has_room w.events) (server_named w.control (name_bytes name)) refl refl
      where
        by : (b : Bool) (o : Option ℕ) → has_room w.events ≡ b → server_named w.control (name_bytes name) ≡ o
            → Ends w.control.servers (after_task w (task number (Ok (StopAfter name n torn)))) (after_task (with_fuses w g) (task number (Ok (StopAfter name m other))))
        by false o full named = both_refused JournalFull l left (chooses w n torn false o full named ∙ ends_refused w JournalFull) (chooses (with_fuses w g) m other false o full named ∙ ends_refused (with_fuses w g) JournalFull)
        by true None room named = both_refused (unknown OfServer) l left (chooses w n torn true None room named ∙ ends_refused w (unknown OfServer)) (chooses (with_fuses w g) m other true None room named ∙ ends_refused (with_fuses w g) (unknown OfServer))
        by true (Some q) room named =
            let one = chooses w n torn true (Some q) room named ∙ ends_armed w q n torn in
            let two = chooses (with_fuses w g) m other true (Some q) room named ∙ ends_armed (with_fuses w g) q m other in
            let both = fine q named in
            let set = set-lasts place own w.control.fuse g q (armed n torn) (armed m other) l both.0 both.1 more in
            subst (λ u. Ends w.control.servers u (after_task (with_fuses w g) (task number (Ok (StopAfter name m other))))) (sym one)
            (record { fuse = at g q (Some (armed m other)); is = two; lasts = set; left = set-left Started w.control.fuse g q (armed n torn) (armed m other) left both.2; stay = refl })

  -- so are those of all servers of a disaster; the block of the one that is cut short may be left otherwise in the second
  module _ (server : ℕ) (tear : Torn) (earlier later : List ℕ) (servers : List (List ℕ)) (more : (z : ℕ) → count_at earlier z ≤ count_at later z) where
    -- the fuse of the server at a place
    abbrev pub fuse_of : Torn → List ℕ → ℕ → Fuse
    fuse_of torn writes z = armed (count_at writes z) (torn_word (torn_at server torn z))

    -- a server has a place, and at the one place the fuses are the same; one that may be started has the same, or one that its start leaves
    abbrev pub IsFine : ℕ → ℕ → Type 0
    IsFine z q = (place q ≡ None → ⊥) × (place q ≡ own → fuse_of tear later z ≡ fuse_of Unchanged earlier z) × (Started q → AreLeft (Some (fuse_of Unchanged earlier z)) (Some (fuse_of tear later z)))

    -- so is each that has one of some names
    abbrev pub AreFine : ℕ → List Name → Type 0
    AreFine from names = (i : ℕ) (name : Name) → slice_get names i ≡ Some name → (k : Control) → k.servers ≡ servers → (q : ℕ) → server_named k (name_bytes name) ≡ Some q → IsFine (from + i) q

    pub arm-all : (names : List Name) (from number : ℕ) (w : World) (g : ℕ → Option Fuse) → w.control.servers ≡ servers → Lasts place own w.control.fuse g → ((q : ℕ) → Started q → AreLeft (w.control.fuse q) (g q)) → AreFine from names
        → Ends servers (after_tasks w (steps_from number (fuses server Unchanged earlier from names))) (after_tasks (with_fuses w g) (steps_from number (fuses server tear later from names)))
    unfolding after_tasks
    arm-all [] from number w g stays l left fine = record { fuse = g; is = refl; lasts = l; left = left; stay = stays }
    arm-all (name ∷ names) from number w g stays l left fine =
        let torn = torn_word (torn_at server Unchanged from) in
        let other = torn_word (torn_at server tear from) in
        let here : (q : ℕ) → server_named w.control (name_bytes name) ≡ Some q → IsFine from q =
        λ q named. let none : from + 0 ≡ from = omega arith in subst (λ z. IsFine z q) none (fine 0 name refl w.control stays q named) in
        let first = arm-both w g number name (count_at earlier from) (count_at later from) torn other l left (more from) here in
        let u = after_task w (task number (Ok (StopAfter name (count_at earlier from) torn))) in
        let rest : AreFine (from + 1) names = λ i n is k servers_are q named. let next : from + suc i ≡ from + 1 + i = omega arith in subst (λ z. IsFine z q) next (fine (suc i) n is k servers_are q named) in
        subst (λ v. Ends servers (after_tasks u (steps_from (number + 1) (fuses server Unchanged earlier (from + 1) names))) (after_tasks v (steps_from (number + 1) (fuses server tear later (from + 1) names)))) (sym first.is)
        (arm-all names (from + 1) (number + 1) u first.fuse (first.stay ∙ stays) first.lasts first.left rest)
