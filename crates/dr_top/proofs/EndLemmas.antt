-- How a run goes on from line to line, and how it ends.
use Rattle.std.proofs.Common.{ℕ, ◌≡◌, ◌≤◌, ◌+◌, List, [], ◌∷◌, ◌++◌, length, take, refl, ap, ◌∙◌, sym, subst, append_assoc, inl, inr, Bool, true, false, Option, Some, Result, Ok, Err}
use Rattle.std.proofs.lemmas.List.{append-nil}
use Rattle.std.proofs.Math.Seq.{take-length}
use Rattle.std.specs.Str.Lines.{lines}
use Rattle.dr_logic.specs.Counts.{Rose, Counted}
use Rattle.dr_io.specs.Given.{Took, Gave}
use Rattle.dr_io.specs.Lines.{Progress, begun, most_bytes, most_lines}
use Rattle.dr_io.specs.declared.streams.Failed.{Failed}
use Rattle.dr_io.specs.declared.line_reader.Taken.{Taken}
use Rattle.dr_io.specs.declared.line_reader.Taken.TheVariants.{End, TooLong as PastLimit}
use Rattle.dr_model.specs.Layout.{Blocks}
use Rattle.dr_model.specs.Control.{World, nothing}
use Rattle.dr_model.specs.Lines.{tasks, tasks_of}
use Rattle.dr_model.specs.Runs.{Task}
use Rattle.dr_model.specs.Text.{text}
use Rattle.dr_top.specs.Carried.{Reached, StepsLead}
use Rattle.dr_top.specs.Reports.{RanBy}
use Rattle.dr_top.specs.Followed.{IsHalted}
use Rattle.dr_top.specs.Outcome.{Ran, Ends, CountsStreams, IsUpTo, has_refusal}
use Rattle.dr_top.specs.Ran.{RanLine, is_on_sink}
use Rattle.dr_top.specs.Statuses.{halt_status, whole_status}
use Rattle.dr_top.specs.declared.run.Halt.{Halt}
use Rattle.dr_top.specs.declared.run.Halt.TheVariants.{WriteFault as OnSink, NoMemory as OnMemory, Full}
use Rattle.dr_top.specs.declared.status.Status.{Status}
use Rattle.dr_top.specs.declared.status.Status.TheVariants.{ReadFault, TooLong}
use Rattle.dr_top.proofs.LeadLemmas.{led-none, led-then}
use Rattle.dr_top.proofs.RunLemmas.{gave-on, prefix-on}
use Rattle.dr_top.proofs.TaskLemmas.{line_tasks, tasks-line}
use Rattle.dr_top.proofs.TakenLemmas.{Stands, TakesLine, TakesAll, TakesPart, stands-first}

module _ {S K : Type 0} (left : S → Option (List ℕ)) (faults : S → ℕ) (written : K → Option (List ℕ)) (write_faults : K → ℕ) (s0 : S) (k0 : K) where
  -- so many lines were carried out, and all that they answer was printed
  pub record Going (s : S) (k : K) (p : Progress) (number : ℕ) (w : World) (d : ℕ → Blocks) : Type 0 where
    pub before : List ℕ
    pub stands : Stands left faults s0 s p before
    pub counts : number ≡ p.given
    pub led : StepsLead nothing (tasks before) w d
    pub gave : Gave written k0 k (text w.events)
    pub writes : write_faults k ≡ write_faults k0

  pub going-first : (w : World) (d : ℕ → Blocks) → w ≡ nothing → Going s0 k0 begun 0 w d
  going-first w d is = record {
    before = [];
    stands = stands-first left faults s0 _ refl;
    counts = refl;
    led = led-none nothing w d is;
    gave = λ out h. h ∙ ap Some (sym (append-nil out) ∙ ap (λ (x : World). out ++ text x.events) (sym is));
    writes = refl;
  }

  module _ (s s' : S) (k k' : K) (p p' : Progress) (number : ℕ) (w u : World) (d e : ℕ → Blocks) (g : Going s k p number w d) (t : TakesLine left faults s0 s' p' g.before) where
    abbrev ts : List Task
    ts = line_tasks g.before t.line

    are : tasks_of (number + 1) p'.line ≡ ts
    are = ap (λ n. tasks_of n p'.line) (ap (λ n. n + 1) (g.counts ∙ g.stands.given)) ∙ t.tasks

    ran-here : (result : Result (Unit {0}) Halt) → RanLine written k k' w d (tasks_of (number + 1) p'.line) u e result → RanLine written k k' w d ts u e result
    ran-here result ran = subst (λ xs. RanLine written k k' w d xs u e result) are ran

    all : (n : ℕ) → n ≡ length ts → take n ts ≡ ts
    all n is = ap (λ n. take n ts) is ∙ take-length ts

    -- a line more was carried out
    next-by : (ran : RanLine written k k' w d ts u e (Ok tt)) → write_faults k' ≡ write_faults k → Going s' k' p' (number + 1) u e
    next-by ran same = record {
      before = g.before ++ t.line;
      stands = t.stands;
      counts = ap (λ n. n + 1) (g.counts ∙ g.stands.given) ∙ sym (t.stands.given ∙ t.more);
      led = subst (λ xs. StepsLead nothing xs u e) (sym (tasks-line g.before t.line t.closed))
          (led-then nothing w u (tasks g.before) d e ts g.led (subst (λ xs. StepsLead w xs u e) (all ran.done ran.ends.0) ran.led) (λ none. ran.still (all ran.done ran.ends.0 ∙ none)));
      gave = gave-on written k0 k k' w.events u.events ran.piece g.gave ran.says ran.ends.1;
      writes = same ∙ g.writes;
    }

    pub going-next : RanLine written k k' w d (tasks_of (number + 1) p'.line) u e (Ok tt) → write_faults k' ≡ write_faults k → Going s' k' p' (number + 1) u e
    going-next ran same = next-by (ran-here (Ok tt) ran) same

    -- the run was halted within the line
    abbrev taken : List ℕ
    taken = g.before ++ (t.line ++ p'.ahead)

    abbrev halted : (result : Result (Unit {0}) Halt) → (ran : RanLine written k k' w d ts u e result) → IsHalted left s0 taken (g.led.steps ++ ran.led.steps) u
    halted result ran = record {
      before = g.before;
      line = t.line;
      ahead = p'.ahead;
      cut = refl;
      closed = t.closed;
      one = t.one;
      near = t.stands.near;
      few = subst (λ n. n ≤ most_lines) t.stands.given t.stands.few;
      bytes = subst (λ n. n ≤ most_bytes) (t.stands.count ∙ ap (λ xs. length xs) (append_assoc g.before t.line p'.ahead)) t.stands.bytes;
      earlier = g.led.steps;
      later = ran.led.steps;
      both = refl;
      asked = g.led.same;
      start = w;
      begins = g.led.leads;
      tasks = ts;
      are = refl;
      done = ran.done;
      within = ran.within;
      carried = ran.led.same;
      leads = ran.led.leads;
    }

    ends-halted : (h : Halt) → (ran : RanLine written k k' w d ts u e (Err h)) → Ends left written s0 s' k0 k' (halt_status h) taken (g.led.steps ++ ran.led.steps) u
    ends-halted OnSink ran = record { halted = halted (Err OnSink) ran; through = ran.ends.0; gave = prefix-on written k0 k k' w u ran.piece g.gave ran.says ran.ends.1 }
    ends-halted OnMemory ran = inl (record { halted = halted (Err OnMemory) ran; place = ran.ends.0; gave = subst (λ x. Gave written k0 x (text w.events)) (sym ran.ends.1) g.gave })
    ends-halted Full ran = inr (inr (record { halted = halted (Err Full) ran; full = ran.ends.0; gave = gave-on written k0 k k' w.events u.events ran.piece g.gave ran.says ran.ends.1 }))

    streams-halted : (h : Halt) → Counted (is_on_sink (Err h)) (write_faults k) (write_faults k') → CountsStreams left written s0 s' k0 k' faults write_faults (halt_status h)
    streams-halted OnSink rose = record { reads = t.stands.kept; writes = subst (λ n. Rose n (write_faults k')) g.writes rose }
    streams-halted OnMemory same = record { reads = t.stands.kept; writes = same ∙ g.writes }
    streams-halted Full same = record { reads = t.stands.kept; writes = same ∙ g.writes }

    ran-halted-here : (h : Halt) → RanLine written k k' w d ts u e (Err h) → Counted (is_on_sink (Err h)) (write_faults k) (write_faults k') → RanBy left written s0 s' k0 k' faults write_faults (halt_status h) u e
    unfolding led-then
    ran-halted-here h ran counted =
        let led = led-then nothing w u (tasks g.before) d e (take ran.done ts) g.led ran.led ran.still in
        record {
          steps = g.led.steps ++ ran.led.steps;
          leads = led.leads;
          ran = record {
            taken = taken;
            took = subst (Took left s0 s') (append_assoc g.before t.line p'.ahead) t.stands.took;
            ends = ends-halted h ran;
            streams = streams-halted h counted;
          };
          lists = led.lists;
          images = led.images;
        }

    pub ran-halted : (h : Halt) → RanLine written k k' w d (tasks_of (number + 1) p'.line) u e (Err h) → Counted (is_on_sink (Err h)) (write_faults k) (write_faults k')
        → RanBy left written s0 s' k0 k' faults write_faults (halt_status h) u e
    ran-halted h ran counted = ran-halted-here h (ran-here (Err h) ran) counted

  -- the run ended between lines
  module _ (s s' : S) (k : K) (p p' : Progress) (number : ℕ) (w : World) (d : ℕ → Blocks) (g : Going s k p number w d) where
    led-to : (status : Status) → Ran left written s0 s' k0 k faults write_faults status g.led.steps w → RanBy left written s0 s' k0 k faults write_faults status w d
    led-to status ran = record { steps = g.led.steps; leads = g.led.leads; ran = ran; lists = g.led.lists; images = g.led.images }

    ends-all : (refused : Bool) → has_refusal w.events ≡ refused → TakesAll left faults s0 s s' p p' g.before g.stands → Ends left written s0 s' k0 k (whole_status refused) g.before g.led.steps w
    ends-all true is t = (record { all = t.all; bytes = t.bytes; lines = t.lines; asked = g.led.same; gave = g.gave }, is)
    ends-all false is t = (record { all = t.all; bytes = t.bytes; lines = t.lines; asked = g.led.same; gave = g.gave }, is)

    streams-all : (refused : Bool) → faults s' ≡ faults s0 → CountsStreams left written s0 s' k0 k faults write_faults (whole_status refused)
    streams-all true kept = record { reads = kept; writes = g.writes }
    streams-all false kept = record { reads = kept; writes = g.writes }

    pub ran-all : (refused : Bool) → has_refusal w.events ≡ refused → TakesAll left faults s0 s s' p p' g.before g.stands → RanBy left written s0 s' k0 k faults write_faults (whole_status refused) w d
    ran-all refused is t = led-to (whole_status refused) (record { taken = g.before; took = t.took; ends = ends-all refused is t; streams = streams-all refused t.kept })

    module _ (result : Result Taken Failed) (t : TakesPart left faults s0 s s' p p' g.before g.stands result) where
      abbrev behind : List ℕ
      behind = p.ahead ++ t.reads.bytes

      abbrev up-to : (ahead : List ℕ) → behind ≡ ahead → IsUpTo left written s0 s' k0 k (g.before ++ behind) g.led.steps w ahead
      up-to ahead is = record { whole = g.before; cut = ap (λ xs. g.before ++ xs) is; closed = t.closed; few = t.few; asked = g.led.same; gave = g.gave }

    pub ran-fault : (f : Failed) → TakesPart left faults s0 s s' p p' g.before g.stands (Err f) → RanBy left written s0 s' k0 k faults write_faults ReadFault w d
    ran-fault f t =
        let gives = t.reads.gives in
        led-to ReadFault (record {
          taken = g.before ++ (p.ahead ++ t.reads.bytes);
          took = t.took;
          ends = record { ahead = p.ahead ++ t.reads.bytes; up_to = up-to (Err f) t (p.ahead ++ t.reads.bytes) refl; unended = gives.unended; bytes = subst (λ n. n ≤ most_bytes) t.count gives.bytes };
          streams = record { reads = subst (λ n. Rose n (faults s')) g.stands.kept gives.rose; writes = g.writes };
        })

    pub ran-long : TakesPart left faults s0 s s' p p' g.before g.stands (Ok PastLimit) → RanBy left written s0 s' k0 k faults write_faults TooLong w d
    ran-long t =
        let gives = t.reads.gives in
        led-to TooLong (record {
          taken = g.before ++ (p.ahead ++ t.reads.bytes);
          took = t.took;
          ends = elim gives.why [
            | inl lines ↦ inr (inl (record {
              ahead = p.ahead ++ t.reads.bytes;
              up_to = up-to (Ok PastLimit) t (p.ahead ++ t.reads.bytes) refl;
              full = sym g.stands.given ∙ sym gives.given ∙ lines.full;
              some = lines.some;
              piece = lines.piece;
              bytes = subst (λ n. n ≤ most_bytes) t.count lines.bytes;
            }))
            | inr bytes ↦ inl (record {
              front = bytes.front;
              byte = bytes.byte;
              up_to = up-to (Ok PastLimit) t (bytes.front ++ bytes.byte ∷ []) bytes.cut;
              unended = bytes.unended;
              bytes = sym t.count ∙ bytes.bytes;
            })
          ];
          streams = record { reads = gives.kept ∙ g.stands.kept; writes = g.writes };
        })

module _ {S K : Type 0} (left : S → Option (List ℕ)) (faults : S → ℕ) (written : K → Option (List ℕ)) (write_faults : K → ℕ) (s0 : S) (k0 : K) where
  pub going-reached : (s : S) (k : K) (p : Progress) (number : ℕ) (w : World) (d : ℕ → Blocks) → Going left faults written write_faults s0 k0 s k p number w d → Reached w
  going-reached s k p number w d g = (g.led.steps, g.led.leads)

pub fault-not : (f : Failed) → ◌≡◌ {A = Result Taken Failed} (Err f) (Ok End) → ⊥
fault-not f e = cc
