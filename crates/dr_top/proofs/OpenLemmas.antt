-- A run that goes on, one text after another.
use Rattle.std.proofs.Common.{ℕ, suc, ◌≡◌, ◌≤◌, ◌<◌, ◌+◌, ◌⊎◌, Bool, true, false, ◌||◌, List, [], ◌++◌, take, drop, map, length, nat_lt, Option, refl, ap, ◌∙◌, sym, subst, inl, inr, Some, None, Result, Ok, Err, arith}
use Rattle.std.specs.Prelude.{slice_get, is_some, option_map, IfSome}
use Rattle.std.proofs.lemmas.Bool.Decides.{nat_tests, leb_tells}
use Rattle.std.proofs.lemmas.List.{append-nil}
use Rattle.std.proofs.Math.Seq.{take-length, drop-append_seam}
use Rattle.std.specs.Str.Lines.{lines}
use Rattle.dr_logic.specs.Counts.{Counted}
use Rattle.dr_plant.specs.State.{PlantState, IsFresh}
use Rattle.dr_ids.specs.declared.names.Member.{Member}
use Rattle.dr_ids.specs.declared.names.ServerId.{ServerId}
use Rattle.dr_config.specs.Table.{ConfigTable, IsSoundConfig, place_of}
use Rattle.dr_config.proofs.Sound.{sound-empty}
use Rattle.dr_ctl.specs.Kept.{flight_in}
use Rattle.dr_host.specs.Writes.{Writes}
use Rattle.dr_model.specs.Messages.{no_flight}
use Rattle.dr_model.specs.declared.event.Event.{Event}
use Rattle.dr_model.specs.Control.{World, nothing}
use Rattle.dr_model.specs.Forming.{master_in, next_asked}
use Rattle.dr_model.specs.Limits.{most_events}
use Rattle.dr_model.specs.Lines.{tasks, tasks_from}
use Rattle.dr_model.specs.Listed.{as_asked}
use Rattle.dr_model.specs.Runs.{Task}
use Rattle.dr_model.specs.Sessions.{session_in, members_in}
use Rattle.dr_io.specs.Lines.{most_bytes, most_lines}
use Rattle.dr_io.specs.Pieces.{IsPast}
use Rattle.dr_steps.proofs.ExchangeLemmas.{members-ready}
use Rattle.dr_steps.proofs.FormingLemmas.{asked-known}
use Rattle.dr_steps.specs.Faults.{told_stop}
use Rattle.dr_steps.specs.Here.{IsReady, IsTold}
use Rattle.dr_steps.specs.declared.tables.Tables.{Tables}
use Rattle.dr_top.specs.Carried.{Reached, StepsLead, GoesThrough}
use Rattle.dr_top.specs.Offline.{script_limits}
use Rattle.dr_top.specs.OpenRuns.{RunProgress, shown, HasRun, IsOfRun, FirstOf, BeforeFull, steps_on, PassesLimits, IsCounted, EndsText, GoesOn}
use Rattle.dr_top.specs.Outcome.{has_refusal}
use Rattle.dr_top.specs.Statuses.{whole_status, text_status}
use Rattle.dr_top.specs.Tried.{TriedBy, IsTried}
use Rattle.dr_top.specs.declared.carry.Bar.{Bar}
use Rattle.dr_top.specs.declared.carry.Bar.TheVariants.{Full as BarFull, NoMemory as BarNoMemory}
use Rattle.dr_top.specs.declared.status.Status.{Status}
use Rattle.dr_top.specs.declared.status.Status.TheVariants.{Done, DoneRefused, Usage, ReadFault, WriteFault, NoMemory, TooLong, BadImage, Contradiction, NoMembers}
use Rattle.dr_top.proofs.LeadLemmas.{led-then, none-last}
use Rattle.dr_top.proofs.ReachLemmas.{reached-sound}
use Rattle.dr_top.proofs.RunLemmas.{grown, longer}
use Rattle.dr_top.proofs.TaskLemmas.{tasks-none}
use Rattle.dr_top.proofs.TopLemmas.{stands-here, empty_table, idle, begins, ready-fresh}

-- the world of a run was reached
pub run-reached : (s : PlantState) (r : RunProgress) (events : List Event) → IsOfRun s r events → Reached (shown s r events)
run-reached s r events is = (is.steps, is.has.stands.leads)

-- a run that carried out nothing yet
pub fresh-run : (s : PlantState) (fresh : IsFresh s) (t : ConfigTable) (h : Tables) → t ≡ empty_table s fresh → h.host ≡ (idle s fresh).host → h.sessions ≡ (idle s fresh).sessions → flight_in h.flight ≡ no_flight
    → HasRun s s (record { config = t; tables = h; lines = 0; bytes = 0 }) [] []
fresh-run s fresh t h empty host sessions flight =
    subst (λ (x : ConfigTable). HasRun s s (record { config = x; tables = h; lines = 0; bytes = 0 }) [] []) (sym empty) (record {
      stands = stands-here s s (empty_table s fresh) h [] sound-empty ready (omega arith) refl [] (tasks-none nothing ∙ sym (begins s fresh h host sessions flight)) tt (λ before t is. absurd (none-last before t is));
      ready = ready;
    })
  where
    ready : IsReady s (empty_table s fresh) h []
    ready = record { rest = (ready-fresh s fresh).rest; reads = fresh.no_read_fuse; told = subst (λ (x : Writes). IsTold (record h { host = x }) []) (sym host) tt }

module _ (text : List ℕ) (r r' : RunProgress) (s0 s s' : PlantState) (events events' : List Event) (steps : List Task) (h : HasRun s0 s r events steps) where
  abbrev asked : List Task
  asked = steps_on text r

  -- the text is past the limits
  pub goes-left : PassesLimits text r → GoesOn text r r s0 s s events events steps TooLong
  goes-left past = record {
    more = [];
    told = [];
    tells = sym (append-nil events);
    ends = inr (past, record { no_step = refl; none_told = refl; run_same = refl; plant_same = refl });
    goes = subst (λ xs. HasRun s0 s r events xs) (sym (append-nil steps)) h;
  }

  -- the steps before those of the text
  abbrev so-far : StepsLead nothing (map as_asked steps) (shown s r events) s.block
  so-far = record { steps = steps; same = refl; lists = h.stands.lists; leads = h.stands.leads; images = h.stands.imaged }

  -- steps of the text were carried out
  module _ (result : Result (Unit {0}) Bar) (goes : GoesThrough (shown s r events) s.block (r.lines + 1) (lines text) (shown s' r' events') s'.block result) where
    abbrev more : List Task
    more = goes.led.steps

    abbrev pub first-of : FirstOf asked more
    first-of = record { done = goes.done; within = goes.within; same = goes.led.same }

    pub told-on : (es : List Event) × (events' ≡ events ++ es)
    told-on = grown (shown s r events) (shown s' r' events') more goes.led.leads

    -- what was told, from the end of the journal before on
    pub told-from : drop (length events) events' ≡ told-on.0
    told-from = ap (drop (length events)) told-on.1 ∙ drop-append_seam events told-on.0

    pub told-longer : length events ≤ length events'
    told-longer = longer events events' told-on.0 told-on.1

    module _ (sound : IsSoundConfig r'.config) (ready : IsReady s' r'.config r'.tables events') (room : length events' ≤ most_events)
        (faults : (f : ℕ) → Counted (told_stop events) f s.faults → Counted (told_stop events') f s'.faults) where
      has-on : HasRun s0 s' r' events' (steps ++ more)
      unfolding led-then
      has-on =
          let led = led-then nothing (shown s r events) (shown s' r' events') (map as_asked steps) s.block s'.block (take goes.done asked) so-far goes.led goes.still in
          record {
            stands = stands-here s0 s' r'.config r'.tables events' sound ready room (faults s0.faults h.stands.stops) (steps ++ more) led.leads led.lists led.images;
            ready = ready;
          }

      goes-by : (status : Status) → EndsText text r r' s s' more told-on.0 status (shown s' r' events') → GoesOn text r r' s0 s s' events events' steps status
      goes-by status ends = record { more = more; told = told-on.0; tells = told-on.1; ends = ends; goes = has-on }

  module _ (sound : IsSoundConfig r'.config) (ready : IsReady s' r'.config r'.tables events') (room : length events' ≤ most_events)
      (faults : (f : ℕ) → Counted (told_stop events) f s.faults → Counted (told_stop events') f s'.faults) (counted : IsCounted text r r') where
    all-by : (goes : GoesThrough (shown s r events) s.block (r.lines + 1) (lines text) (shown s' r' events') s'.block (Ok tt)) (refused : Bool) → has_refusal (told-on (Ok tt) goes).0 ≡ refused
        → EndsText text r r' s s' goes.led.steps (told-on (Ok tt) goes).0 (whole_status refused) (shown s' r' events')
    all-by goes true is = (counted, goes.led.same ∙ ap (λ n. take n asked) goes.ends ∙ take-length asked, is)
    all-by goes false is = (counted, goes.led.same ∙ ap (λ n. take n asked) goes.ends ∙ take-length asked, is)

    -- all of them
    goes-all : (goes : GoesThrough (shown s r events) s.block (r.lines + 1) (lines text) (shown s' r' events') s'.block (Ok tt)) (from : ℕ) → from ≡ length events → (status : Status)
        → status ≡ whole_status (has_refusal (drop from events')) → GoesOn text r r' s0 s s' events events' steps status
    goes-all goes from at status is =
        let refused = has_refusal (told-on (Ok tt) goes).0 in
        subst (λ (x : Status). GoesOn text r r' s0 s s' events events' steps x) (sym (is ∙ ap (λ n. whole_status (has_refusal (drop n events'))) at ∙ ap (λ es. whole_status (has_refusal es)) (told-from (Ok tt) goes)))
        (goes-by (Ok tt) goes sound ready room faults (whole_status refused) (all-by goes refused refl))

    -- those before one that found the journal full
    goes-full : GoesThrough (shown s r events) s.block (r.lines + 1) (lines text) (shown s' r' events') s'.block (Err BarFull) → GoesOn text r r' s0 s s' events events' steps TooLong
    goes-full goes = goes-by (Err BarFull) goes sound ready room faults TooLong (inl (counted, record { first = first-of (Err BarFull) goes; full = goes.ends }))

    -- those before the place where memory was wanting
    goes-wanting : GoesThrough (shown s r events) s.block (r.lines + 1) (lines text) (shown s' r' events') s'.block (Err BarNoMemory) → GoesOn text r r' s0 s s' events events' steps NoMemory
    goes-wanting goes = goes-by (Err BarNoMemory) goes sound ready room faults NoMemory (counted, record { first = first-of (Err BarNoMemory) goes; place = goes.ends })

    -- by what the text came to
    pub goes-text : (result : Result (Unit {0}) Bar) → GoesThrough (shown s r events) s.block (r.lines + 1) (lines text) (shown s' r' events') s'.block result → (from : ℕ) → from ≡ length events → (status : Status)
        → status ≡ text_status result (has_refusal (drop from events')) → GoesOn text r r' s0 s s' events events' steps status
    goes-text (Ok x) goes from at status is = goes-all goes from at status is
    goes-text (Err BarFull) goes from at status is = subst (λ (x : Status). GoesOn text r r' s0 s s' events events' steps x) (sym is) (goes-full goes)
    goes-text (Err BarNoMemory) goes from at status is = subst (λ (x : Status). GoesOn text r r' s0 s s' events events' steps x) (sym is) (goes-wanting goes)

-- ---- the limits

either-past : (a b m n : ℕ) → (nat_lt m a || nat_lt n b) ≡ true → (m < a) ⊎ (n < b)
either-past a b m n past = elim (leb_tells (suc m) a) [ inl at ↦ inl at.1 | inr at ↦ inr (let lt : n < b = grind (arith, nat_tests, past, at) in lt) ]

pub is-past : (text : List ℕ) (r : RunProgress) (bytes count : ℕ) → bytes ≡ length text → count ≡ length (lines text) → (nat_lt most_bytes (r.bytes + bytes) || nat_lt most_lines (r.lines + count)) ≡ true → PassesLimits text r
is-past text r bytes count is are past =
    either-past (r.bytes + length text) (r.lines + length (lines text)) most_bytes most_lines (ap (λ n. nat_lt most_bytes (r.bytes + n) || nat_lt most_lines (r.lines + length (lines text))) (sym is) ∙ ap (λ n. nat_lt most_bytes (r.bytes + bytes) || nat_lt most_lines (r.lines + n)) (sym are) ∙ past)

neither-past : (a b m n : ℕ) → (nat_lt m a || nat_lt n b) ≡ false → (a ≤ m) × (b ≤ n)
neither-past a b m n none = (grind (arith, nat_tests, none), grind (arith, nat_tests, none))

pub is-within : (r : RunProgress) (bytes count : ℕ) → (nat_lt most_bytes (r.bytes + bytes) || nat_lt most_lines (r.lines + count)) ≡ false → (r.bytes + bytes ≤ most_bytes) × (r.lines + count ≤ most_lines)
is-within r bytes count none = neither-past (r.bytes + bytes) (r.lines + count) most_bytes most_lines none

-- ---- a run of one text

module _ (text : List ℕ) (r r' : RunProgress) (lines_none : r.lines ≡ 0) (bytes_none : r.bytes ≡ 0) (s s' : PlantState) (events' : List Event) where
  same-steps : steps_on text r ≡ tasks text
  same-steps = ap (λ n. tasks_from (n + 1) (lines text)) lines_none

  past-here : PassesLimits text r → IsPast script_limits text
  past-here (inl long) = inl (let none = bytes_none in omega (arith, none, long))
  past-here (inr many) = inr (let none = lines_none in omega (arith, none, many))

  module _ (more : List Task) (told : List Event) (same : events' ≡ told) where
    first-here : FirstOf (steps_on text r) more → FirstOf (tasks text) more
    first-here first = subst (λ asked. FirstOf asked more) same-steps first

    full-here : (w : World) → BeforeFull (steps_on text r) more w → BeforeFull (tasks text) more w
    full-here w full = subst (λ asked. BeforeFull asked more w) same-steps full

    tried-by : (status : Status) → EndsText text r r' s s' more told status (shown s' r' events') → TriedBy text status more (shown s' r' events')
    tried-by Done ends = (ends.1 ∙ same-steps, ap has_refusal same ∙ ends.2)
    tried-by DoneRefused ends = (ends.1 ∙ same-steps, ap has_refusal same ∙ ends.2)
    tried-by NoMemory ends = first-here ends.1.first
    tried-by TooLong (inl ends) = inl (full-here (shown s' r' events') ends.1)
    tried-by TooLong (inr ends) = inr (record { first = record { done = 0; within = omega arith; same = ap (map as_asked) ends.1.no_step }; past = past-here ends.0 })
    tried-by Usage ends = ends
    tried-by ReadFault ends = ends
    tried-by WriteFault ends = ends
    tried-by BadImage ends = ends
    tried-by Contradiction ends = ends
    tried-by NoMembers ends = ends

  pub one-tried : (status : Status) → GoesOn text r r' s s s' [] events' [] status → IsTried text status events' s s'
  one-tried status g = record { world = shown s' r' events'; steps = g.more; by = tried-by g.more g.told g.tells status g.ends; stands = g.goes.stands }

-- ---- what a reader sees between two texts

-- the target of a member is defined
pub target-placed : (s : PlantState) (r : RunProgress) (events : List Event) → Reached (shown s r events) → (n i : ℕ) (m : Member) → slice_get (members_in (session_in r.tables.sessions.sessions n)) i ≡ Some m → is_some (place_of r.config m.c.0) ≡ true
target-placed s r events reached n i m at = (members-ready s r.config r.tables events (reached-sound (shown s r events) reached) n i m at).target

-- the server that an `@run` asks next is defined
pub asked-placed : (s : PlantState) (r : RunProgress) (events : List Event) → Reached (shown s r events) → (n : ℕ) (o : Option ServerId) → option_map (λ a. a.0) o ≡ next_asked (master_in (shown s r events).control n) → IfSome o (λ a. a.0 < length r.config.names)
asked-placed s r events reached n None is = tt
asked-placed s r events reached n (Some a) is = asked-known s r.config r.tables events n (reached-sound (shown s r events) reached) a.0 (sym is)
