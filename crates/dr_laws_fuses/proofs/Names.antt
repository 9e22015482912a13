-- The names that a journal gives servers are those of the tables.
use Rattle.std.proofs.Common.{ℕ, ◌⊎◌, inl, inr, zero, suc, ◌≡◌, refl, ap, ◌∙◌, sym, subst, append_assoc, arith, Bool, true, false, cond, List, [], ◌∷◌, ◌++◌, length, get_or, Option, Some, None, Result, Ok, nat_eq}
use Rattle.std.specs.Prelude.{slice_get}
use Rattle.std.specs.List.{fold}
use Rattle.std.specs.Option.{option_or, unwrap_or}
use Rattle.std.specs.Str.{bytes_eq}
use Rattle.std.proofs.lemmas.List.Quantifiers.{position-Some}
use Rattle.std.proofs.lemmas.Option.{slice_get-get_or}
use Rattle.dr_logic.proofs.Lists.{same_bytes}
use Rattle.std.proofs.lemmas.Bool.Decides.{nat_tests}
use Rattle.std.proofs.lemmas.List.{append-nil}
use Rattle.dr_ids.specs.declared.names.Member.{Member}
use Rattle.dr_ids.specs.declared.refusal.Refusal.{Refusal}
use Rattle.dr_ids.specs.declared.refusal.Refusal.TheVariants.{Stopped as StoppedIn, JournalFull}
use Rattle.dr_model.specs.declared.event.Event.{Event}
use Rattle.dr_model.specs.declared.event.Event.TheVariants.{Server, Ack, Stopped, Frozen, Thawed, Recovered}
use Rattle.dr_model.specs.declared.step.Name.{Name}
use Rattle.dr_model.specs.declared.step.Step.{Step}
use Rattle.dr_model.specs.declared.step.Step.TheVariants.{Server as Defines}
use Rattle.dr_model.specs.Plans.{server_done, has_room_for}
use Rattle.dr_model.specs.Limits.{image_events}
use Rattle.dr_model.specs.Answers.{answer}
use Rattle.dr_model.specs.Control.{Control, Fuse, Volume, World, nothing}
use Rattle.dr_model.specs.Moves.{Move, Hold, target, told, told_in_stop, landed}
use Rattle.dr_model.specs.Carry.{Act, Make, OpenAttempt, Redo, Acknowledge, Drop, EndFreeze, EndThaw, EndRecovery, Turn, Next, Pass, Do, End, Entry, Outcome, act, continue, go, carry, follow, carry_each}
use Rattle.dr_model.specs.Phases as phases
use Rattle.dr_model.specs.SessionPlans.{exchanged, is_idle}
use Rattle.dr_model.specs.SessionEntries.{members_on}
use Rattle.dr_model.specs.MessagePlans.{told_begun}
use Rattle.dr_model.specs.PlantImage.{Volume as Image}
use Rattle.dr_model.specs.PlanParts.{Plan, name_bytes, server_named, refuses}
use Rattle.dr_model.proofs.CarryLemmas.{carry-none}
use Rattle.dr_model.specs.Carried.{begun, finish, carried_out, answered, after_plan, stop_place}
use Rattle.dr_model.specs.Forming.{Part, after_part}
use Rattle.dr_model.specs.Runs.{Task, OwnCourse, Groups, Volumes, Devices, own_course, course_of, course, after_task, after_tasks, run, answered_part, image_plan, image_told, imaged}
use Rattle.dr_model.specs.Text.{Heard, heard, untold, name_in, told_name}
use Rattle.dr_facts.proofs.Emits.{Of, Lists, AllOf, of-append, by_moves, all-told, stop-onto, emitted}
use Rattle.dr_laws_sound.proofs.Texts.{heard-append}
use Rattle.dr_laws_sound.proofs.Turns.{act-cases, Counts, after_act, server_of}
use Rattle.dr_laws_sound.proofs.Listed.{AllLines, IsLine, all-lines, image-lines}
use Rattle.dr_laws_sound.proofs.Cases.{Case, DefinesServer, DefinesVolume, Issues, Writes, Lists as ListsOn, Shows, Stops, Starts, Exchanges, Sends, plan-case}
use Rattle.dr_laws_sound.proofs.Parts.{Comes, compared-case, course-goes, goes-keep}

-- none of these events names a server
abbrev Nameless : Event → Type 0
Nameless e = (s : ℕ) → name_in e s ≡ None

abbrev NoNames : List Event → Type 0
NoNames = AllOf Nameless

-- the names stay
names-stay : (told : Heard) (es : List Event) (s : ℕ) → NoNames es → (fold heard told es).names s ≡ told.names s
names-stay told [] s none = refl
names-stay told (e ∷ es) s none = names-stay (heard told e) es s none.1 ∙ ap (option_or (told.names s)) (none.0 s) ∙ stays (told.names s)
  where
    stays : (o : Option (List ℕ)) → option_or o None ≡ o
    stays None = refl
    stays (Some x) = refl

no-name : (e : Event) → Of by_moves e → Nameless e
no-name (Server server len name) by = absurd cc
no-name e by = λ s. refl

no-names : Lists (Of by_moves) NoNames
no-names = record { none = tt; more = λ e es by rest. (no-name e by, rest) }

no-line : (e : Event) → IsLine e → Nameless e
no-line (Server server len name) line = absurd line
no-line e line = λ s. refl

lines-nameless : (es : List Event) → AllLines es → NoNames es
lines-nameless = all-lines NoNames tt (λ e es line rest. (no-line e line, rest))

-- the servers stay, and no event names one
pub record Unnamed (w u : World) : Type 0 where
  pub servers : u.control.servers ≡ w.control.servers
  added : List Event
  told : u.events ≡ w.events ++ added
  nameless : NoNames added

unnamed-same : (w : World) → Unnamed w w
unnamed-same w = record { servers = refl; added = []; told = sym (append-nil w.events); nameless = tt }

unnamed-then : (w u v : World) → Unnamed w u → Unnamed u v → Unnamed w v
unnamed-then w u v p q = record {
  servers = q.servers ∙ p.servers;
  added = p.added ++ q.added;
  told = q.told ∙ ap (λ es. es ++ q.added) p.told ∙ append_assoc w.events p.added q.added;
  nameless = of-append Nameless p.added q.added p.nameless q.nameless;
}

-- ---- acts and entries

done-unnamed : (w : World) (a : Act) (f : Option Fuse) → Unnamed w (after_act w a f)
done-unnamed w (Make m) f = record { servers = refl; added = told m (w.control.volume (target m)); told = refl; nameless = all-told NoNames no-names m (w.control.volume (target m)) }
done-unnamed w (OpenAttempt v s n) f = record { servers = refl; added = told (Hold v s n true) (w.control.volume v); told = refl; nameless = all-told NoNames no-names (Hold v s n true) (w.control.volume v) }
done-unnamed w (Redo v) f = record { servers = refl; added = []; told = sym (append-nil w.events); nameless = tt }
done-unnamed w (Acknowledge n) f = record { servers = refl; added = Ack n ∷ []; told = refl; nameless = ((λ s. refl), tt) }
done-unnamed w (Drop n) f = record { servers = refl; added = []; told = sym (append-nil w.events); nameless = tt }
done-unnamed w (EndFreeze l m) f = record { servers = refl; added = Frozen l m ∷ []; told = refl; nameless = ((λ s. refl), tt) }
done-unnamed w (EndThaw l m) f = record { servers = refl; added = Thawed l m ∷ []; told = refl; nameless = ((λ s. refl), tt) }
done-unnamed w (EndRecovery s n) f = record { servers = refl; added = Recovered s n ∷ []; told = refl; nameless = ((λ s. refl), tt) }

stop-unnamed : (m : Move) (u : Volume) (n : ℕ) → NoNames (told_in_stop m u ++ Stopped u.server n ∷ [])
stop-unnamed m u n = stop-onto by_moves NoNames no-names m u (Stopped u.server n ∷ []) (emitted m) ((λ s. refl), tt)

counts-unnamed : (w : World) (a : Act) → Counts w a (λ t. Unnamed w t.0)
counts-unnamed w (Make m) = λ f. let u : Volume = w.control.volume (target m) in record { servers = refl; added = told_in_stop m u ++ Stopped u.server (landed m) ∷ []; told = refl; nameless = stop-unnamed m u (landed m) }
counts-unnamed w (OpenAttempt v s n) = λ f. let u : Volume = w.control.volume v in record { servers = refl; added = told_in_stop (Hold v s n true) u ++ Stopped u.server 0 ∷ []; told = refl; nameless = stop-unnamed (Hold v s n true) u 0 }
counts-unnamed w a = tt

act-unnamed : (w : World) (a : Act) → Unnamed w (act w a).0
act-unnamed w a = act-cases w a (λ (t : Turn). Unnamed w t.0) (λ d off. unnamed-same w) (done-unnamed w a) (counts-unnamed w a)
    (λ d f. record { servers = refl; added = Stopped (server_of w a) 0 ∷ []; told = refl; nameless = ((λ s. refl), tt) })

continue-unnamed : (w : World) (t : Turn) (next : World → Outcome) → Unnamed w t.0 → ((v : World) → Unnamed v (next v).0) → Unnamed w (continue t.0 t.1 next).0
continue-unnamed w (v, None) next first rest = unnamed-then w v _ first (rest v)
continue-unnamed w (v, Some s) next first rest = first

go-unnamed : (w : World) (x : Next) (next : World → Outcome) → ((v : World) → Unnamed v (next v).0) → Unnamed w (go w x next).0
go-unnamed w Pass next rest = rest w
go-unnamed w (End r) next rest = unnamed-same w
go-unnamed w (Do a) next rest = continue-unnamed w (act w a) next (act-unnamed w a) rest

carry-unnamed : (w : World) (ds : List Entry) → Unnamed w (carry w ds).0
unfolding carry
carry-unnamed w [] = unnamed-same w
carry-unnamed w (d ∷ ds) = go-unnamed w (d w.control) (λ v. carry v ds) (λ v. carry-unnamed v ds)

each-unnamed : (w : World) (ds : List Entry) → Unnamed w (carry_each w ds)
each-unnamed w [] = unnamed-same w
each-unnamed w (d ∷ ds) = unnamed-then w (carry w (d ∷ [])).0 _ (carry-unnamed w (d ∷ [])) (each-unnamed (carry w (d ∷ [])).0 ds)

follow-unnamed : (w : World) (r : Refusal) (follows : List Entry) → Unnamed w (follow w r follows)
follow-unnamed w (StoppedIn s) follows = each-unnamed w follows
follow-unnamed w r follows = unnamed-same w

-- ---- the journal gives each server its name
abbrev pub Named : World → Type 0
Named w = (s : ℕ) → (fold heard untold w.events).names s ≡ slice_get w.control.servers s

named-on : (w u : World) → Unnamed w u → Named w → Named u
named-on w u p named s =
    ap (λ es. (fold heard untold es).names s) p.told ∙ ap (λ (h : Heard). h.names s) (heard-append untold w.events p.added) ∙ names-stay (fold heard untold w.events) p.added s p.nameless
    ∙ named s ∙ ap (λ xs. slice_get xs s) (sym p.servers)

-- one server more
get-more : (xs : List (List ℕ)) (x : List ℕ) (s : ℕ) → slice_get (xs ++ x ∷ []) s ≡ option_or (slice_get xs s) (cond (nat_eq (length xs) s) (Some x) None)
get-more [] x zero = refl
get-more [] x (suc s) = let h : nat_eq 0 (suc s) ≡ false = grind (arith, nat_tests) in ap (λ b. cond b (Some x) None) (sym h)
get-more (y ∷ xs) x zero = refl
get-more (y ∷ xs) x (suc s) = let h : nat_eq (length xs) s ≡ nat_eq (suc (length xs)) (suc s) = grind (arith, nat_tests) in get-more xs x s ∙ ap (λ b. option_or (slice_get xs s) (cond b (Some x) None)) h

-- ---- plans

-- a plan that names no server
pub record PlanUnnamed (k : Control) (p : Plan) : Type 0 where
  told : NoNames p.told
  first : (p.first k).servers ≡ k.servers
  last : (j : Control) → (p.last j).servers ≡ j.servers

finish-unnamed : (p : Plan) (n : ℕ) (w : World) (r : Option Refusal) → ((j : Control) → (p.last j).servers ≡ j.servers) → Unnamed w (finish p n w r)
finish-unnamed p n w None last = record { servers = last w.control; added = []; told = sym (append-nil w.events); nameless = tt }
finish-unnamed p n w (Some r) last = follow-unnamed w r (p.follows n)

pub plan-unnamed : (w : World) (p : Plan) → PlanUnnamed w.control p → Unnamed w (carried_out w p).0
plan-unnamed w p u =
    let b : World = begun w p in
    let o : Outcome = carry b p.entries in
    let begins : Unnamed w b = record { servers = u.first; added = p.told; told = refl; nameless = u.told } in
    unnamed-then w b _ begins (unnamed-then b o.0 _ (carry-unnamed b p.entries) (finish-unnamed p (stop_place w p) o.0 o.1 u.last))

exchanged-servers : (s server : ℕ) (reply : Bool) (work : phases.Work) (ms : List Member) (j : Control) → (exchanged s server reply work ms j).servers ≡ j.servers
exchanged-servers s server true work ms j = refl
exchanged-servers s server false work ms j = refl

begun-nameless : (b : Bool) (s n : ℕ) → NoNames (told_begun b s n)
begun-nameless true s n = ((λ s. refl), tt)
begun-nameless false s n = tt

-- a plan names none, or what was asked for defines a server, and the plan is that step's
abbrev pub NamesBy : Control → Result Step ℕ → Plan → Type 0
NamesBy k asked p = PlanUnnamed k p ⊎ (name : Name) × (asked ≡ Ok (Defines name)) × (p ≡ server_done k name)

-- so does each plan of the step table
pub case-names : (k : Control) (events : List Event) (line : ℕ) (asked : Result Step ℕ) (p : Plan) → Case k events line asked p → NamesBy k asked p
case-names k events line _ _ (DefinesServer name free) = inr (name, refl, refl)
case-names k events line _ _ (DefinesVolume v s tracks here free) = inl (record { told = ((λ s. refl), tt); first = refl; last = λ j. refl })
case-names k events line _ _ (Issues v t offset len bytes free) = inl (record { told = ((λ s. refl), tt); first = refl; last = λ j. refl })
case-names k events line _ _ (Writes v t offset len bytes free) = inl (record { told = ((λ s. refl), tt); first = refl; last = λ j. refl })
case-names k events line _ _ (ListsOn told ls few) = inl (record { told = lines-nameless told ls; first = refl; last = λ j. refl })
case-names k events line _ _ (Shows v t there) = inl (record { told = ((λ s. refl), tt); first = refl; last = λ j. refl })
case-names k events line _ _ (Stops s on) = inl (record { told = ((λ s. refl), tt); first = refl; last = λ j. refl })
case-names k events line _ _ (Starts s off) = inl (record { told = ((λ s. refl), tt); first = refl; last = λ j. refl })
case-names k events line _ _ (Exchanges s server reply x r o allowed) = inl (record { told = tt; first = refl; last = exchanged-servers s server reply o.work (members_on server x.members) })
case-names k events line _ _ (Sends s server x r o posts) = inl (record { told = begun-nameless (is_idle r.master.phase) s o.number; first = refl; last = λ j. refl })
case-names k events line asked p c = inl (record { told = tt; first = refl; last = λ j. refl })

defined-named : (w : World) (name : Name) → Named w → Named (carried_out w (server_done w.control name)).0
defined-named w name named s =
    let p : Plan = server_done w.control name in
    ap (λ (o : Outcome). (fold heard untold (finish p (stop_place w p) o.0 o.1).events).names s) (carry-none (begun w p))
    ∙ ap (λ (h : Heard). h.names s) (heard-append untold w.events p.told)
    ∙ ap (λ o. option_or o (name_in (Server (length w.control.servers) name.len name.bytes) s)) (named s)
    ∙ sym (get-more w.control.servers (name_bytes name) s)
    ∙ sym (ap (λ (o : Outcome). slice_get (finish p (stop_place w p) o.0 o.1).control.servers s) (carry-none (begun w p)))

plan-named : (w : World) (asked : Result Step ℕ) (p : Plan) → NamesBy w.control asked p → Named w → Named (carried_out w p).0
plan-named w asked p (inl u) named = named-on w _ (plan-unnamed w p u) named
plan-named w asked p (inr (name, asks, is)) named = subst (λ p. Named (carried_out w p).0) (sym is) (defined-named w name named)

-- ---- steps

part-named : (w : World) (p : Plan) → Comes w p → Named w → Named (after_part w p)
part-named w p c named = plan-named w c.asked p (case-names w.control w.events 0 c.asked p (c.case 0)) named

answered-named : (w : World) (p : Plan) (line : ℕ) → Named (carried_out w p).0 → Named (answered_part line (record { world = w; plan = p }))
unfolding after_plan
answered-named w p line named =
    let u : World = (carried_out w p).0 in
    named-on u (answered_part line (record { world = w; plan = p })) (record { servers = refl; added = answer line (answered p u.control (carried_out w p).1) ∷ []; told = refl; nameless = ((λ s. refl), tt) }) named

imaged-unnamed : (w : World) (vs : List Image) → PlanUnnamed w.control (imaged w vs)
imaged-unnamed w vs = by (has_room_for image_events w.events)
  where
    by : (room : Bool) → PlanUnnamed w.control (cond room (image_plan vs) (refuses JournalFull))
    by true = record { told = lines-nameless (image_told vs) (image-lines vs); first = refl; last = λ j. refl }
    by false = record { told = tt; first = refl; last = λ j. refl }

-- so does the last plan of each step
pub last-names : (w : World) (t : Task) → let x : Part = (course w t).last in NamesBy x.world.control t.asked x.plan
last-names w t = by (own_course t.asked)
  where
    by : (o : Option OwnCourse) → let x : Part = (course_of w t o).last in NamesBy x.world.control t.asked x.plan
    by None = case-names w.control w.events t.line t.asked _ (plan-case w.control w.events t.line t.asked)
    by (Some (Groups s n)) = inl (record { told = tt; first = refl; last = λ j. refl })
    by (Some (Volumes v u)) = case-names w.control w.events t.line t.asked _ (compared-case w t.line t.asked v u)
    by (Some Devices) = inl (imaged-unnamed w t.listed)

task-named : (w : World) (t : Task) → Named w → Named (after_task w t)
task-named w t named =
    let x : Part = (course w t).last in
    answered-named x.world x.plan t.line (plan-named x.world t.asked x.plan (last-names w t) (goes-keep Named part-named w _ _ (course-goes w t) named))

tasks-named : (w : World) (tasks : List Task) → Named w → Named (after_tasks w tasks)
unfolding after_tasks
tasks-named w [] named = named
tasks-named w (t ∷ tasks) named = tasks-named (after_task w t) tasks (task-named w t named)

-- over each run
pub run-named : (tasks : List Task) → Named (run tasks)
run-named tasks = tasks-named nothing tasks (λ s. refl)

-- a name, once given, stays
given-stays : (told : Heard) (es : List Event) (s : ℕ) (x : List ℕ) → told.names s ≡ Some x → (fold heard told es).names s ≡ Some x
given-stays told [] s x given = given
given-stays told (e ∷ es) s x given = given-stays (heard told e) es s x (ap (λ o. option_or o (name_in e s)) given)

-- a server that goes by a name in a run has it in each longer journal
pub name-told : (tasks : List Task) (es : List Event) (name : List ℕ) (s : ℕ) → server_named (run tasks).control name ≡ Some s → told_name (fold heard untold ((run tasks).events ++ es)) s ≡ name
name-told tasks es name s named =
    let w : World = run tasks in
    let found = position-Some (bytes_eq name) w.control.servers s [] named in
    let there : slice_get w.control.servers s ≡ Some (get_or w.control.servers s []) = slice_get-get_or w.control.servers s [] found.0 in
    ap (λ (h : Heard). told_name h s) (heard-append untold w.events es)
    ∙ ap (λ o. unwrap_or o []) (given-stays (fold heard untold w.events) es s (get_or w.control.servers s []) (run-named tasks s ∙ there))
    ∙ sym (same_bytes name (get_or w.control.servers s []) found.1)
