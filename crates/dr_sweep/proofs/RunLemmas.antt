-- The pieces of a point's script are carried out one after another.
use Rattle.std.proofs.Common.{ℕ, ◌≡◌, ◌<◌, ◌≤◌, ◌+◌, ◌⊎◌, inl, inr, Bool, true, false, ◌||◌, List, [], ◌∷◌, ◌++◌, take, drop, get_or, map, length, refl, ap, ◌∙◌, sym, subst, arith, append_assoc, Option, Some}
use Rattle.std.specs.Prelude.{All}
use Rattle.std.specs.Option.{option_map_or}
use Rattle.std.specs.Str.Lines.{lines}
use Rattle.std.proofs.Math.Seq.{take-append-add}
use Rattle.std.proofs.lemmas.List.{append-nil, map-append, take-append-le, take-append-drop, take_more}
use Rattle.std.proofs.lemmas.List.Elements.{All-nil, All-cons}
use Rattle.std.proofs.lemmas.Grind.{common_steps}
use Rattle.dr_io.specs.Pieces.{IsPast}
use Rattle.dr_plant.specs.State.{PlantState, IsFresh}
use Rattle.dr_model.specs.declared.event.Event.{Event}
use Rattle.dr_model.specs.Control.{Control, World, nothing}
use Rattle.dr_model.specs.Grammar.{line_of}
use Rattle.dr_model.specs.Lines.{tasks, tasks_of, tasks_from}
use Rattle.dr_model.specs.Listed.{as_asked}
use Rattle.dr_model.specs.Runs.{Task, run, after_tasks}
use Rattle.dr_model.specs.declared.step.Name.{Name}
use Rattle.dr_plan.specs.Parts.{IsSweep}
use Rattle.dr_plan.specs.Pieces.{Pieces, pieces_of, lines_in, IsTextOf}
use Rattle.dr_plan.specs.Points.{text_of}
use Rattle.dr_plan.specs.Sweep.{Sweep}
use Rattle.dr_plan.specs.declared.points.Point.{Point}
use Rattle.dr_plan.proofs.PieceLemmas.{text-append, pieces-script, pieces-lines}
use Rattle.dr_rows.specs.declared.row.Members.{Members}
use Rattle.dr_sweep.specs.Comes.{RunState, seen, Ran, CarriesOn, ArePast, Halts, HaltsBy, Recovers, PointTold, ComesTo, Stops, IsTooLong, FailsAt, first_stop, servers_at}
use Rattle.dr_sweep.specs.Moments.{IsOff, runs_so, any_runs, phases_of, recovered_in, members_after, AreMembers}
use Rattle.dr_sweep.specs.declared.reach.FirstStop.{FirstStop}
use Rattle.dr_sweep.specs.declared.reach.FirstStop.TheVariants.{Own}
use Rattle.dr_sweep.specs.declared.fault.PointFault.{PointFault}
use Rattle.dr_sweep.specs.declared.fault.PointFault.TheVariants.{NoMemory, TooLong}
use Rattle.dr_top.specs.Offline.{script_limits}
use Rattle.dr_top.specs.OpenRuns.{RunProgress, HasRun, IsOfRun, FirstOf, BeforeFull, PassesLimits, IsCounted, EndsText, GoesOn, steps_on, shown}
use Rattle.dr_top.specs.Stands.{Stands}
use Rattle.dr_top.specs.Tried.{TriedBy}
use Rattle.dr_top.specs.declared.status.Status.{Status}
use Rattle.dr_top.specs.declared.status.Status.TheVariants.{Done, DoneRefused, TooLong as PastLimit}
use Rattle.dr_sweep.proofs.MemberLemmas.{members-more}
use Rattle.dr_top.proofs.TaskLemmas.{tasks-append, tasks-then}

-- ---- steps of lines

one-more : (n : ℕ) → 1 + n ≡ n + 1
one-more n = omega arith

-- the steps of lines after others
pub steps-append : (ls more : List (List ℕ)) → tasks_from 1 (ls ++ more) ≡ tasks_from 1 ls ++ tasks_from (length ls + 1) more
steps-append ls more = tasks-append 1 ls more ∙ ap (λ n. tasks_from 1 ls ++ tasks_from n more) (one-more (length ls))

-- steps that were carried out, and further ones
pub asked-both : (steps further : List Task) (ls more : List (List ℕ)) → map as_asked steps ≡ tasks_from 1 ls → map as_asked further ≡ tasks_from (length ls + 1) more → map as_asked (steps ++ further) ≡ tasks_from 1 (ls ++ more)
asked-both steps further ls more are are' = map-append as_asked steps further ∙ ap (λ ts. ts ++ map as_asked further) are ∙ ap (λ ts. tasks_from 1 ls ++ ts) are' ∙ sym (steps-append ls more)

-- the first of some steps are the first of more
first-longer : (asked more steps : List Task) → FirstOf asked steps → FirstOf (asked ++ more) steps
first-longer asked more steps first = record {
  done = first.done;
  within = (let size : length (asked ++ more) ≡ length asked + length more = grind (arith, common_steps) in let low = first.within in omega (arith, size, low));
  same = first.same ∙ sym (take-append-le first.done asked more first.within);
}

full-longer : (asked more steps : List Task) (w : World) → BeforeFull asked steps w → BeforeFull (asked ++ more) steps w
unfolding first-longer
full-longer asked more steps w full = record {
  first = first-longer asked more steps full.first;
  full = ((let size : length (asked ++ more) ≡ length asked + length more = grind (arith, common_steps) in let low = full.full.0 in let below : full.first.done < length (asked ++ more) = omega (arith, size, low) in below), full.full.1);
}

-- after steps that were all carried out, the first of others
module _ (asked steps : List Task) (all : map as_asked steps ≡ asked) (more further : List Task) where
  first-after : FirstOf more further → FirstOf (asked ++ more) (steps ++ further)
  first-after first = record {
    done = length asked + first.done;
    within = (let size : length (asked ++ more) ≡ length asked + length more = grind (arith, common_steps) in let low = first.within in omega (arith, size, low));
    same = map-append as_asked steps further ∙ ap (λ ts. ts ++ map as_asked further) all ∙ ap (λ ts. asked ++ ts) first.same ∙ sym (take-append-add asked more first.done);
  }

  full-after : (w : World) → BeforeFull more further w → BeforeFull (asked ++ more) (steps ++ further) w
  unfolding first-after
  full-after w full = record {
    first = first-after full.first;
    full = ((let size : length (asked ++ more) ≡ length asked + length more = grind (arith, common_steps) in let low = full.full.0 in let below : length asked + full.first.done < length (asked ++ more) = omega (arith, size, low) in below), full.full.1);
  }

-- ---- one text more

-- a run that goes on is a run, and its journal only grows
pub goes-stays : (text : List ℕ) (r r' : RunProgress) (s0 s s' : PlantState) (events events' : List Event) (steps : List Task) (status : Status) → GoesOn text r r' s0 s s' events events' steps status → IsOfRun s' r' events'
goes-stays text r r' s0 s s' events events' steps status g = record { began = s0; steps = steps ++ g.more; has = g.goes }

pub goes-longer : (text : List ℕ) (r r' : RunProgress) (s0 s s' : PlantState) (events events' : List Event) (steps : List Task) (status : Status) → GoesOn text r r' s0 s s' events events' steps status → length events ≤ length events'
goes-longer text r r' s0 s s' events events' steps status g = let size : length (events ++ g.told) ≡ length events + length g.told = grind (arith, common_steps) in let is = ap length g.tells in omega (arith, size, is)

module _ (began : PlantState) (ls more : List (List ℕ)) (steps : List Task) (old new : RunState) (ran : Ran began ls old steps) (text : List ℕ) (is : IsTextOf more text) where
  same-steps : steps_on text old.run ≡ tasks_from (length ls + 1) more
  same-steps = ap (λ n. tasks_from (n + 1) (lines text)) ran.lines ∙ ap (tasks_from (length ls + 1)) is.1

  same-bytes : length (text_of (ls ++ more)) ≡ length (text_of ls) + length text
  same-bytes = let both = text-append ls more in let size : length (text_of ls ++ text_of more) ≡ length (text_of ls) + length (text_of more) = grind (arith, common_steps) in
      ap length both ∙ size ∙ ap (λ n. length (text_of ls) + n) (sym (ap length is.0))

  same-lines : length (ls ++ more) ≡ length ls + length (lines text)
  same-lines = let size : length (ls ++ more) ≡ length ls + length more = grind (arith, common_steps) in size ∙ ap (λ (xs : List (List ℕ)). length ls + length xs) (sym is.1)

  -- it was carried out
  carries : (further : List Task) → map as_asked further ≡ steps_on text old.run → IsCounted text old.run new.run → HasRun began new.plant new.run new.events (steps ++ further) → CarriesOn began ls more new steps
  carries further all counted has = record {
    further = further;
    asks = all ∙ same-steps;
    ran = record {
      has = has;
      asks = asked-both steps further ls more ran.asks (all ∙ same-steps);
      lines = counted.more_lines ∙ ap (λ n. n + length (lines text)) ran.lines ∙ sym same-lines;
      bytes = counted.more_bytes ∙ ap (λ n. n + length text) ran.bytes ∙ sym same-bytes;
    };
  }

  by-done : (status : Status) (g : GoesOn text old.run new.run began old.plant new.plant old.events new.events steps status) → status ≡ Done → CarriesOn began ls more new steps
  by-done status g done = let ends = subst (λ (x : Status). EndsText text old.run new.run old.plant new.plant g.more g.told x (shown new.plant new.run new.events)) done g.ends in carries g.more ends.1 ends.0 g.goes

  by-refused : (status : Status) (g : GoesOn text old.run new.run began old.plant new.plant old.events new.events steps status) → status ≡ DoneRefused → CarriesOn began ls more new steps
  by-refused status g done = let ends = subst (λ (x : Status). EndsText text old.run new.run old.plant new.plant g.more g.told x (shown new.plant new.run new.events)) done g.ends in carries g.more ends.1 ends.0 g.goes

  pub carried-on : (status : Status) → GoesOn text old.run new.run began old.plant new.plant old.events new.events steps status → (status ≡ Done) ⊎ (status ≡ DoneRefused) → CarriesOn began ls more new steps
  carried-on status g (inl done) = by-done status g done
  carried-on status g (inr refused) = by-refused status g refused

  past-here : PassesLimits text old.run → ArePast (ls ++ more)
  past-here (inl long) = inl (let size = same-bytes in let is = ran.bytes in omega (arith, size, is, long))
  past-here (inr many) = inr (let size = same-lines in let is = ran.lines in omega (arith, size, is, many))

  -- the next step found the journal full, or the limits are passed
  pub halted : GoesOn text old.run new.run began old.plant new.plant old.events new.events steps PastLimit → Halts began (ls ++ more) new
  halted g = record { steps = steps ++ g.more; stands = g.goes.stands; why = by g.ends }
    where
      asked : List Task
      asked = tasks_from 1 ls ++ tasks_from (length ls + 1) more

      full : BeforeFull (steps_on text old.run) g.more (seen new) → BeforeFull (tasks_from 1 (ls ++ more)) (steps ++ g.more) (seen new)
      full before =
          subst (λ ts. BeforeFull ts (steps ++ g.more) (seen new)) (sym (steps-append ls more))
          (full-after (tasks_from 1 ls) steps ran.asks (tasks_from (length ls + 1) more) g.more (seen new) (subst (λ ts. BeforeFull ts g.more (seen new)) same-steps before))

      none : FirstOf (tasks_from (length ls + 1) more) []
      none = record { done = 0; within = omega arith; same = refl }

      first : g.more ≡ [] → FirstOf (tasks_from 1 (ls ++ more)) (steps ++ g.more)
      first no_step =
          subst (λ ts. FirstOf ts (steps ++ g.more)) (sym (steps-append ls more))
          (subst (λ ms. FirstOf (tasks_from 1 ls ++ tasks_from (length ls + 1) more) (steps ++ ms)) (sym no_step) (first-after (tasks_from 1 ls) steps ran.asks (tasks_from (length ls + 1) more) [] none))

      by : EndsText text old.run new.run old.plant new.plant g.more g.told PastLimit (shown new.plant new.run new.events) → BeforeFull (tasks_from 1 (ls ++ more)) (steps ++ g.more) (seen new) ⊎ (FirstOf (tasks_from 1 (ls ++ more)) (steps ++ g.more) × ArePast (ls ++ more))
      by (inl ends) = inl (full ends.1)
      by (inr ends) = inr (first ends.1.no_step, past-here ends.0)

  halted-by : GoesOn text old.run new.run began old.plant new.plant old.events new.events steps PastLimit → HaltsBy began (ls ++ more) new TooLong
  halted-by g = (ls ++ more, [], sym (append-nil (ls ++ more)), halted g)

  -- the same by the status
  pub halted-so : (status : Status) → GoesOn text old.run new.run began old.plant new.plant old.events new.events steps status → status ≡ PastLimit → HaltsBy began (ls ++ more) new TooLong
  halted-so status g is = halted-by (subst (λ (x : Status). GoesOn text old.run new.run began old.plant new.plant old.events new.events steps x) is g)

-- of more lines so was a front, too
pub halts-longer : (began : PlantState) (ls more all : List (List ℕ)) (r : RunState) (fault : PointFault) → all ≡ ls ++ more → HaltsBy began ls r fault → HaltsBy began all r fault
halts-longer began ls more all r NoMemory cut h = tt
halts-longer began ls more all r TooLong cut h = (h.0, h.1 ++ more, cut ∙ ap (λ xs. xs ++ more) h.2 ∙ append_assoc h.0 h.1 more, h.3)

-- ---- the lines of a recovery

-- none yet
pub recovers-none : (began : PlantState) (ls : List (List ℕ)) (old : RunState) (steps : List Task) → Ran began ls old steps → Recovers began ls [] old old steps []
recovers-none began ls old steps ran = record {
  further = [];
  ran = subst (λ xs. Ran began xs old (steps ++ [])) (sym (append-nil ls)) (subst (Ran began ls old) (sym (append-nil steps)) ran);
  are = (refl, refl);
}

module _ (began : PlantState) (ls ms : List (List ℕ)) (line : List ℕ) (old mid new : RunState) (steps : List Task) (members more : List Members) (ran : Ran began ls old steps) (r : Recovers began ls ms old mid steps members)
    (c : CarriesOn began (ls ++ ms) (line ∷ []) new (steps ++ r.further)) (is : more ≡ members_after (recovered_in (line_of line)) (seen new)) where
  mid-led : after_tasks (seen old) r.further ≡ seen mid
  mid-led = ap (λ w. after_tasks w r.further) (sym ran.has.stands.leads) ∙ sym (tasks-then nothing steps r.further) ∙ r.ran.has.stands.leads

  new-led : after_tasks (after_tasks (seen old) r.further) c.further ≡ seen new
  new-led = ap (λ w. after_tasks w c.further) (mid-led ∙ sym r.ran.has.stands.leads) ∙ sym (tasks-then nothing (steps ++ r.further) c.further) ∙ c.ran.has.stands.leads

  number-on : length (ls ++ ms) + 1 ≡ length ls + 1 + length ms
  number-on = let size : length (ls ++ ms) ≡ length ls + length ms = grind (arith, common_steps) in omega (arith, size)

  line-asked : map as_asked c.further ≡ tasks_of (length ls + 1 + length ms) line
  line-asked = c.asks ∙ append-nil (tasks_of (length (ls ++ ms) + 1) line) ∙ ap (λ n. tasks_of n line) number-on

  -- one line more
  pub recovers-more : Recovers began ls (ms ++ line ∷ []) old new steps (members ++ more)
  recovers-more = record {
    further = r.further ++ c.further;
    ran = subst (λ xs. Ran began xs new (steps ++ (r.further ++ c.further))) (append_assoc ls ms (line ∷ [])) (subst (Ran began (ls ++ ms ++ line ∷ []) new) (append_assoc steps r.further c.further) c.ran);
    are = members-more (seen old) (length ls + 1) ms line r.further c.further members more r.are line-asked (is ∙ ap (members_after (recovered_in (line_of line))) (sym new-led));
  }

-- lines up to one, that one, and those after it
pub cut-at : (ls : List (List ℕ)) (i : ℕ) (d : List ℕ) → i < length ls → ls ≡ take i ls ++ get_or ls i d ∷ [] ++ drop (i + 1) ls
cut-at ls i d low = sym (take-append-drop (i + 1) ls) ∙ ap (λ xs. xs ++ drop (i + 1) ls) (take_more ls i d low)

-- of lines after others
pub halts-within : (began : PlantState) (ls ms : List (List ℕ)) (i : ℕ) (d : List ℕ) → i < length ms → (r : RunState) (fault : PointFault) → HaltsBy began (ls ++ take i ms ++ get_or ms i d ∷ []) r fault → HaltsBy began (ls ++ ms) r fault
halts-within began ls ms i d low r fault h =
    halts-longer began (ls ++ take i ms ++ get_or ms i d ∷ []) (drop (i + 1) ms) (ls ++ ms) r fault
    (ap (λ xs. ls ++ xs) (cut-at ms i d low) ∙ sym (append_assoc ls (take i ms ++ get_or ms i d ∷ []) (drop (i + 1) ms)) ∙ ap (λ xs. xs ++ drop (i + 1) ms) (sym (append_assoc ls (take i ms) (get_or ms i d ∷ [])))) h

-- ---- servers

or-left : (a b : Bool) → (a || b) ≡ false → (a ≡ false) × (b ≡ false)
or-left true b e = absurd cc
or-left false b e = (refl, e)

is-off : (k : Control) (name : Name) → runs_so k name ≡ false → IsOff k name
is-off k name none s at = sym (ap (λ (o : Option ℕ). option_map_or k.on o false) at) ∙ none

-- none of some servers runs
pub all-off : (k : Control) (names : List Name) → any_runs k names ≡ false → All (IsOff k) names
all-off k [] none = All-nil (IsOff k)
all-off k (name ∷ names) none = let both = or-left (runs_so k name) (any_runs k names) none in All-cons (IsOff k) name names (is-off k name both.0) (all-off k names both.1)

-- ---- a point's run

module _ (plan : Sweep) (sweep : IsSweep plan) (point : Point) (p : Pieces) (are : pieces_of plan point ≡ Some p) (began : PlantState) (fresh : IsFresh began) where
  abbrev whole-script : List ℕ
  whole-script = text_of (lines_in plan p)

  its-lines : lines whole-script ≡ lines_in plan p
  its-lines = pieces-lines plan sweep point p are

  its-steps : tasks whole-script ≡ tasks_from 1 (lines_in plan p)
  its-steps = ap (tasks_from 1) its-lines

  -- the lines of the script, grouped as they are carried out
  grouped : lines_in plan p ≡ p.front ++ p.strike ++ p.stops ++ plan.recovery
  grouped = sym (append_assoc (p.front ++ p.strike) p.stops plan.recovery ∙ append_assoc p.front p.strike (p.stops ++ plan.recovery))

  -- a front of its lines halted
  too-long : (front rest : List (List ℕ)) → lines_in plan p ≡ front ++ rest → (r : RunState) → Halts began front r → IsTooLong plan point
  too-long front rest cut r h = record {
    script = whole-script;
    is = pieces-script plan point p are;
    runs = record {
      before = began;
      after = r.plant;
      fresh = fresh;
      events = r.events;
      tried = record { world = seen r; steps = h.steps; by = by h.why; stands = h.stands };
    };
  }
    where
      asked : tasks whole-script ≡ tasks_from 1 front ++ tasks_from (length front + 1) rest
      asked = its-steps ∙ ap (tasks_from 1) cut ∙ steps-append front rest

      first : FirstOf (tasks_from 1 front) h.steps → FirstOf (tasks whole-script) h.steps
      first f = subst (λ ts. FirstOf ts h.steps) (sym asked) (first-longer (tasks_from 1 front) (tasks_from (length front + 1) rest) h.steps f)

      bytes : length whole-script ≡ length (text_of front) + length (text_of rest)
      bytes = ap (λ xs. length (text_of xs)) cut ∙ ap length (text-append front rest) ∙ (let size : length (text_of front ++ text_of rest) ≡ length (text_of front) + length (text_of rest) = grind (arith, common_steps) in size)

      count : length (lines whole-script) ≡ length front + length rest
      count = ap length (its-lines ∙ cut) ∙ (let size : length (front ++ rest) ≡ length front + length rest = grind (arith, common_steps) in size)

      past : ArePast front → IsPast script_limits whole-script
      past (inl long) = inl (let size = bytes in omega (arith, size, long))
      past (inr many) = inr (let size = count in omega (arith, size, many))

      by : BeforeFull (tasks_from 1 front) h.steps (seen r) ⊎ (FirstOf (tasks_from 1 front) h.steps × ArePast front) → TriedBy whole-script PastLimit h.steps (seen r)
      by (inl full) = inl (subst (λ ts. BeforeFull ts h.steps (seen r)) (sym asked) (full-longer (tasks_from 1 front) (tasks_from (length front + 1) rest) h.steps (seen r) full))
      by (inr ends) = inr (record { first = first ends.0; past = past ends.1 })

  -- the same by the fault, of lines with which the script begins
  pub piece-fails : (ls rest : List (List ℕ)) → p.front ++ p.strike ++ p.stops ++ plan.recovery ≡ ls ++ rest → (r : RunState) (fault : PointFault) → HaltsBy began ls r fault → FailsAt plan point fault
  piece-fails ls rest cut r NoMemory h = tt
  piece-fails ls rest cut r TooLong h = inl (too-long h.0 (h.1 ++ rest) (grouped ∙ cut ∙ ap (λ xs. xs ++ rest) h.2 ∙ append_assoc h.0 h.1 rest) r h.3)

  -- the front of the script, and the step in which a server is stopped
  module _ (r1 r2 : RunState) (c1 : CarriesOn began [] p.front r1 []) (c2 : CarriesOn began p.front p.strike r2 c1.further) (from : ℕ) (at : from ≡ length r1.events) where
    asks-front : map as_asked c1.further ≡ tasks_from 1 p.front
    asks-front = c1.asks ∙ (let one : length {A = List ℕ} [] + 1 ≡ 1 = omega arith in ap (λ n. tasks_from n p.front) one)

    led : run c1.further ≡ seen r1
    led = c1.ran.has.stands.leads

    from-there : length (run c1.further).events ≡ from
    from-there = ap (λ (w : World). length w.events) led ∙ sym at

    pub stops-so : (stop : FirstStop) → first_stop plan point from r2.events ≡ stop → Stops plan point stop
    stops-so stop is = record {
      pieces = p;
      are = are;
      front = c1.further;
      strike = c2.further;
      events = r2.events;
      asks_front = asks-front;
      asks_strike = c2.asks;
      runs = record { before = began; after = r2.plant; fresh = fresh; world = seen r2; asks = c2.ran.asks; stands = c2.ran.has.stands };
      is = ap (λ n. first_stop plan point n r2.events) from-there ∙ is;
    }

    -- and the stops of the others
    module _ (r3 : RunState) (c3 : CarriesOn began (p.front ++ p.strike) p.stops r3 (c1.further ++ c2.further)) where
      led3 : run (c1.further ++ c2.further ++ c3.further) ≡ seen r3
      led3 = c3.ran.has.stands.leads

      pub runs-on : any_runs (seen r3).control (servers_at plan point) ≡ true → FailsAt plan point TooLong
      runs-on one = inr (record {
        pieces = p;
        are = are;
        steps = c1.further ++ c2.further ++ c3.further;
        events = r3.events;
        runs = record { before = began; after = r3.plant; fresh = fresh; world = seen r3; asks = c3.ran.asks; stands = c3.ran.has.stands };
        one = ap (λ (w : World). any_runs w.control (servers_at plan point)) led3 ∙ one;
      })

      -- and the recovery
      module _ (r4 : RunState) (told : PointTold) (c4 : Recovers began (p.front ++ p.strike ++ p.stops) plan.recovery r3 r4 (c1.further ++ c2.further ++ c3.further) told.members) where
        pub comes : first_stop plan point from r2.events ≡ Own → any_runs (seen r3).control (servers_at plan point) ≡ false → told.events ≡ r4.events → told.before ≡ length (p.front ++ p.strike ++ p.stops) → told.begin ≡ length r3.events
            → told.phases ≡ phases_of (seen r1).control → ComesTo plan point told
        comes struck off events before begin phases = record {
          script = whole-script;
          is = pieces-script plan point p are;
          whole = record {
            before = began;
            after = r4.plant;
            fresh = fresh;
            steps = c1.further ++ c2.further ++ c3.further ++ c4.further;
            world = seen r4;
            all = c4.ran.asks ∙ ap (tasks_from 1) (sym grouped) ∙ sym its-steps;
            stands = subst (λ es. Stands (c1.further ++ c2.further ++ c3.further ++ c4.further) (seen r4) es began r4.plant) (sym events) c4.ran.has.stands;
          };
          pieces = p;
          are = are;
          front = c1.further;
          strike = c2.further;
          stops = c3.further;
          recovery = c4.further;
          cut = refl;
          asks_front = asks-front;
          asks_strike = c2.asks;
          asks_stops = c3.asks;
          struck = ap (λ n. first_stop plan point n (run (c1.further ++ c2.further)).events) from-there ∙ ap (λ (w : World). first_stop plan point from w.events) c2.ran.has.stands.leads ∙ struck;
          lost = all-off (run (c1.further ++ c2.further ++ c3.further)).control (servers_at plan point) (ap (λ (w : World). any_runs w.control (servers_at plan point)) led3 ∙ off);
          before = before;
          begin = begin ∙ sym (ap (λ (w : World). length w.events) led3);
          phases = phases ∙ sym (ap (λ (w : World). phases_of w.control) led);
          members = subst (λ n. AreMembers (run (c1.further ++ c2.further ++ c3.further)) (n + 1) plan.recovery c4.further told.members) (sym before)
              (subst (λ (w : World). AreMembers w (length (p.front ++ p.strike ++ p.stops) + 1) plan.recovery c4.further told.members) (sym led3) c4.are);
        }
