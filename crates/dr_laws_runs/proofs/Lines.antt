-- The parts of an `@run`, line by line.
use Rattle.std.proofs.Common.{ℕ, ◌≡◌, ◌≤◌, ◌+◌, refl, ap, ◌∙◌, sym, arith, append_assoc, length-append, true, List, [], ◌∷◌, ◌++◌, length, Option, Ok}
use Rattle.std.proofs.lemmas.List.{append-nil}
use Rattle.dr_ids.specs.declared.refusal.Refusal.{Refusal}
use Rattle.dr_model.specs.declared.event.Event.{Event}
use Rattle.dr_model.specs.declared.said.Said.{Said}
use Rattle.dr_model.specs.declared.step.Step.{Step}
use Rattle.dr_model.specs.declared.step.Step.TheVariants.{Run}
use Rattle.dr_model.specs.Answers.{answer}
use Rattle.dr_model.specs.Histories.{histories}
use Rattle.dr_model.specs.Control.{World}
use Rattle.dr_model.specs.PlanParts.{Plan}
use Rattle.dr_model.specs.Carried.{carried_out, answered, after_plan, said, masters_lost}
use Rattle.dr_model.specs.Plans.{plan, has_room}
use Rattle.dr_model.specs.Forming.{Part, Way, after_part, formed}
use Rattle.dr_model.specs.Runs.{Task, own_course, course_of, answered_part, after_task, after_tasks}
use Rattle.dr_model.proofs.Images.{histories-append}
use Rattle.dr_laws_sound.proofs.Parts.{Goes, Nothing, Next, course-goes}
use Rattle.dr_laws_runs.specs.Parts.{AsksFor, AskForAll, HasRoomFor, told_by, said_by, told_in_lines, told_in_run, RunIsItsParts}
use Rattle.dr_laws_runs.specs.Walks.{with_events, TellsMore}
use Rattle.dr_laws_runs.proofs.Told.{GoesOn, Same, told-is, alike-on, plan-same}

-- an answer changes no history
answer-unheard : (es : List Event) (line : ℕ) (a : Said) → histories (es ++ answer line a ∷ []) ≡ histories es
answer-unheard es line a = histories-append es (answer line a ∷ [])

-- one line
module _ (v u : World) (p : Plan) (beside : TellsMore v u) (t : Task) (step : Step) (asked : t.asked ≡ Ok step) (asks : AsksFor step (record { world = v; plan = p })) (room : has_room u.events ≡ true) where
  abbrev x : Part
  x = record { world = v; plan = p }

  abbrev same : Same u.events v (carried_out v p) (carried_out (with_events v u.events) p)
  same = plan-same v u.events p beside.alike

  abbrev more : List Event
  more = same.on.more

  by-plan : after_task u t ≡ answered_part t.line (record { world = u; plan = p })
  by-plan =
      ap (λ o. answered_part t.line (course_of u t o).last) (ap own_course asked ∙ asks.one)
      ∙ ap (λ a. answered_part t.line (record { world = u; plan = plan u.control u.events t.line a })) asked
      ∙ ap (λ q. answered_part t.line (record { world = u; plan = q })) (ap (λ (w : World). plan w.control u.events t.line (Ok step)) beside.is ∙ asks.plan_is u.events t.line room)

  told-more : told_by x ≡ more
  told-more = told-is v (after_part v p) (record { more = more; is = same.on.is })

  leads : after_task u t ≡ with_events (after_part v p) (u.events ++ (told_by x ++ answer t.line (said_by x) ∷ []))
  unfolding after_plan
  leads =
      by-plan ∙ ap (λ w. answered_part t.line (record { world = w; plan = p })) beside.is
      ∙ ap (λ (o : World × Option Refusal). masters_lost (with_events v u.events) (said o.0 t.line (answered p o.0.control o.1))) same.is
      ∙ ap (with_events (after_part v p)) (append_assoc u.events more (answer t.line (said_by x) ∷ []) ∙ ap (λ xs. u.events ++ (xs ++ answer t.line (said_by x) ∷ [])) (sym told-more))

  pub events : (after_task u t).events ≡ u.events ++ (told_by x ++ answer t.line (said_by x) ∷ [])
  events = ap (λ (w : World). w.events) leads

  abbrev goes : GoesOn v (after_part v p)
  goes = record { more = more; is = same.on.is }

  longer-on : length (after_part v p).events ≤ length (after_task u t).events
  longer-on =
      let theirs : length (after_part v p).events ≡ length v.events + length more = ap length same.on.is ∙ length-append v.events more in
      let ours : length (after_task u t).events ≡ length u.events + (length more + 1) =
      ap length events ∙ length-append u.events (told_by x ++ answer t.line (said_by x) ∷ []) ∙ ap (λ n. length u.events + n) (length-append (told_by x) (answer t.line (said_by x) ∷ []) ∙ ap (λ (es : List Event). length es + 1) told-more) in
      let before = beside.longer in omega (arith, theirs, ours, before)

  pub beside-on : TellsMore (after_part v p) (after_task u t)
  beside-on = record {
    is = leads ∙ ap (with_events (after_part v p)) (sym events);
    alike =
        ap histories (events ∙ sym (append_assoc u.events (told_by x) (answer t.line (said_by x) ∷ []))) ∙ answer-unheard (u.events ++ told_by x) t.line (said_by x)
        ∙ ap (λ xs. histories (u.events ++ xs)) told-more ∙ alike-on v (after_part v p) u.events goes beside.alike;
    longer = longer-on;
  }

-- what lines lead to beside what parts lead to
record LedBeside (v v' u u' : World) (parts : List Part) (ts : List Task) : Type 0 where
  beside : TellsMore v' u'
  told : u'.events ≡ u.events ++ told_in_lines ts parts
  run_told : v'.events ≡ v.events ++ told_in_run parts

goes-lines : (v v' : World) (parts : List Part) → Goes v parts v' → (u : World) (ts : List Task) → TellsMore v u → AskForAll ts parts → HasRoomFor u ts → LedBeside v v' u (after_tasks u ts) parts ts
unfolding after_tasks
goes-lines _ _ _ (Nothing w) u [] beside asks room = record { beside = beside; told = sym (append-nil u.events); run_told = sym (append-nil w.events) }
goes-lines _ _ _ (Nothing w) u (t ∷ ts) beside asks room = absurd asks
goes-lines _ _ _ (Next w p xs v' comes rest) u [] beside asks room = absurd asks
goes-lines _ _ _ (Next w p xs v' comes rest) u (t ∷ ts) beside asks room =
    let one = beside-on w u p beside t asks.0.0 asks.0.1 asks.0.2 room.0 in
    let told = events w u p beside t asks.0.0 asks.0.1 asks.0.2 room.0 in
    let on : GoesOn w (after_part w p) = goes w u p beside t asks.0.0 asks.0.1 asks.0.2 room.0 in
    let more : LedBeside (after_part w p) v' (after_task u t) (after_tasks (after_task u t) ts) xs ts = goes-lines (after_part w p) v' xs rest (after_task u t) ts one asks.1 room.1 in
    let x : Part = record { world = w; plan = p } in
    record {
      beside = more.beside;
      told = more.told ∙ ap (λ es. es ++ told_in_lines ts xs) told ∙ append_assoc u.events (told_by x ++ answer t.line (said_by x) ∷ []) (told_in_lines ts xs)
          ∙ ap (λ es. u.events ++ es) (append_assoc (told_by x) (answer t.line (said_by x) ∷ []) (told_in_lines ts xs));
      run_told = more.run_told ∙ ap (λ es. es ++ told_in_run xs) (on.is ∙ ap (λ es. w.events ++ es) (sym (told-is w (after_part w p) on))) ∙ append_assoc w.events (told_by x) (told_in_run xs);
    }

-- ---- the way of an `@run`

pub run-is-its-parts : (w : World) (s n : ℕ) (ts : List Task) → RunIsItsParts w s n ts
run-is-its-parts w s n ts asks room =
    let x : Way = formed w s n in
    let led : LedBeside w x.world w (after_tasks w ts) x.parts ts = goes-lines w x.world x.parts (course-goes w (record { line = 0; asked = Ok (Run s n); listed = [] })) w ts (record { is = refl; alike = refl; longer = omega arith }) asks room in
    record { control = ap (λ (u : World). u.control) led.beside.is; contents = ap (λ (u : World). u.contents) led.beside.is; told = led.told; run_told = led.run_told }
