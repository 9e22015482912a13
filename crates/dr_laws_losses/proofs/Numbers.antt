-- Host writes are numbered from 1 on, in order: no other number is acknowledged, mirrored or pending, and so no list has one.
use Rattle.std.proofs.Common.{ℕ, ◌≡◌, ◌<◌, ◌+◌, ◌⊎◌, inl, inr, refl, sym, ◌∙◌, subst, arith, Bool, true, false, cond, List, [], ◌∷◌, ◌++◌, Option, Some, None, Result, Ok, Err}
use Rattle.std.specs.Prelude.{option_map}
use Rattle.std.specs.List.{find}
use Rattle.dr_ids.specs.declared.refusal.Refusal.TheVariants.{JournalFull}
use Rattle.dr_model.specs.declared.event.Event.{Event}
use Rattle.dr_model.specs.declared.event.Event.TheVariants.{Ack, Mirrored, Stopped, PairLine, FlashLine, SessionLine, MirrorLine, ImageStart, ImageVolume, ImageBlock, ImageEnd}
use Rattle.dr_model.specs.declared.step.Step.{Step}
use Rattle.dr_model.specs.declared.step.Step.TheVariants.{Write, Apply, Run, Image}
use Rattle.dr_model.specs.Answers.{answer}
use Rattle.dr_model.specs.Groups.{In}
use Rattle.dr_model.specs.HeldWrites.{IsMirrored}
use Rattle.dr_model.specs.Histories.{lists}
use Rattle.dr_model.specs.PlantImage.{Volume as ListedVolume}
use Rattle.dr_model.specs.Listings.{lists as lists_plan}
use Rattle.dr_model.specs.SessionEntries.{members_on}
use Rattle.dr_model.specs.Limits.{image_events}
use Rattle.dr_model.specs.Control.{Control, Fuse, Pending, Volume, World, nothing}
use Rattle.dr_model.specs.Laws.{AllPending}
use Rattle.dr_model.specs.MessagePlans.{told_begun, sending}
use Rattle.dr_model.specs.Moves.{Move, Land, Overwrite, Mirror, LandBoth, Hold, target, told, told_in_stop, landed, settled, settled_in_stop, is_other, is_write, marked}
use Rattle.dr_model.specs.Carry.{Act, Make, OpenAttempt, Redo, Acknowledge, Drop, EndFreeze, EndThaw, EndRecovery, act, carry}
use Rattle.dr_model.specs.PlanParts.{Plan, refuses}
use Rattle.dr_model.specs.Plans.{has_landed, landed_on, has_room_for}
use Rattle.dr_model.specs.SessionPlans.{is_idle, exchanged}
use Rattle.dr_model.specs.Carried.{carried_out, answered, after_plan, masters_lost}
use Rattle.dr_model.specs.Forming.{Part, after_part}
use Rattle.dr_model.specs.Runs.{Task, course, answered_part, image_told, image_plan, imaged, after_task, after_tasks, run}
use Rattle.dr_facts.proofs.Emits.{Tag, Acks, Mirrors, Of, AllOf, of-append, all_tags, emits, each-told}
use Rattle.dr_facts.proofs.Entries.{any_world, plan-from}
use Rattle.dr_facts.proofs.Reasons.{NoStop}
use Rattle.dr_laws_closed.proofs.Pendings.{all-filter, all-more, each-on}
use Rattle.dr_laws_targets.proofs.Held.{held-stored}
use Rattle.dr_laws_sound.proofs.Turns.{after_act, act-cases, Counts, server_of}
use Rattle.dr_laws_sound.proofs.Starts.{find-all}
use Rattle.dr_laws_sound.proofs.Listed.{IsLine, AllLines, all-lines, image-lines}
use Rattle.dr_laws_sound.proofs.Cases.{Case, Says, DefinesServer, DefinesVolume, Issues, Writes, Applies, Lists, Shows, Stops, Starts, Compares, PausesMirror, Sends, Exchanges, Settles, Commits, Reverts, refused-not}
use Rattle.dr_laws_sound.proofs.Does.{IsWrite, Issued, Found, Does, Acts, Late, Lands, Overwrites, LandsBoth, Mirrors as DoesMirror, Acknowledges}
use Rattle.dr_laws_sound.proofs.DoesPlans.{Entered, case-does}
use Rattle.dr_laws_sound.proofs.Parts.{Comes, last-plan, plain-case}

-- a number of one of so many writes
abbrev pub IsNumber : ℕ → ℕ → Type 0
IsNumber i n = (0 < n) × (n < i + 1)

-- the write of which the event speaks is one of them
abbrev pub HeardOf : ℕ → Event → Type 0
HeardOf i (Ack n) = IsNumber i n
HeardOf i (Mirrored n v) = IsNumber i n
HeardOf i e = Unit {0}

abbrev AllHeard : ℕ → List Event → Type 0
AllHeard i es = AllOf (HeardOf i) es

abbrev AllNumbers : ℕ → List Pending → Type 0
AllNumbers i ps = AllPending (λ p. IsNumber i p.w) ps

-- so many writes were issued, and no other number is heard of
record NumbersAt (i : ℕ) (w : World) : Type 0 where
  heard : AllHeard i w.events
  pending : AllNumbers i w.control.pending
  issued : w.control.issued ≡ i

heard-append : (i : ℕ) (es fs : List Event) → AllHeard i es → AllHeard i fs → AllHeard i (es ++ fs)
heard-append i es fs a b = of-append (HeardOf i) es fs a b

-- ---- acts

abbrev NamesNone : ℕ → Act → Type 0
NamesNone i (Make (Land n v t)) = IsNumber i n
NamesNone i (Make (Overwrite n v t)) = IsNumber i n
NamesNone i (Make (LandBoth n v t)) = IsNumber i n
NamesNone i (Make (Mirror v t u n)) = IsNumber i n
NamesNone i (Acknowledge n) = IsNumber i n
NamesNone i a = Unit {0}

abbrev hears_none : Tag → Bool
hears_none Acks = false
hears_none Mirrors = false
hears_none k = true

kind-heard : (i : ℕ) (e : Event) → Of hears_none e → HeardOf i e
kind-heard i (Ack n) h = absurd cc
kind-heard i (Mirrored n v) h = absurd cc
kind-heard i e h = tt

kind-told : (i : ℕ) (m : Move) (u : Volume) → all_tags hears_none (emits m) ≡ true → AllHeard i (told m u)
kind-told i = each-told hears_none (AllHeard i) (record { none = tt; more = λ e es h behind. (kind-heard i e h, behind) })

told-heard : (i : ℕ) (m : Move) (u : Volume) → NamesNone i (Make m) → AllHeard i (told m u)
told-heard i (Land n v t) u lt = (lt, tt)
told-heard i (Overwrite n v t) u lt = (lt, tt)
told-heard i (LandBoth n v t) u lt = (lt, tt)
told-heard i (Mirror v t from n) u lt = (lt, tt)
told-heard i m u lt = kind-told i m u refl

stop-heard : (i : ℕ) (m : Move) (u : Volume) (x n : ℕ) → NamesNone i (Make m) → AllHeard i (told_in_stop m u ++ Stopped x n ∷ [])
stop-heard i (Land n v t) u x k lt = (tt, tt)
stop-heard i (Overwrite n v t) u x k lt = (tt, tt)
stop-heard i (LandBoth n v t) u x k lt = (tt, tt)
stop-heard i m u x k lt = heard-append i (told m u) (Stopped x k ∷ []) (told-heard i m u lt) (tt, tt)

all-marked : (i n : ℕ) (ps : List Pending) → AllNumbers i ps → AllNumbers i (marked n ps)
all-marked i n [] all = tt
all-marked i n (p ∷ ps) all = (by (is_write n p), all-marked i n ps all.1)
  where
    by : (b : Bool) → IsNumber i (cond b (record p { landed = true }) p).w
    by true = all.0
    by false = all.0

all-settled : (i : ℕ) (m : Move) (ps : List Pending) → AllNumbers i ps → AllNumbers i (settled m ps)
all-settled i (Land n v t) ps all = all-filter (λ p. IsNumber i p.w) (is_other n) ps all
all-settled i (Overwrite n v t) ps all = all-filter (λ p. IsNumber i p.w) (is_other n) ps all
all-settled i (LandBoth n v t) ps all = all-filter (λ p. IsNumber i p.w) (is_other n) ps all
all-settled i m ps all = all

all-stopped : (i : ℕ) (m : Move) (ps : List Pending) → AllNumbers i ps → AllNumbers i (settled_in_stop m ps)
all-stopped i (Land n v t) ps all = all-marked i n ps all
all-stopped i (Overwrite n v t) ps all = all-marked i n ps all
all-stopped i (LandBoth n v t) ps all = all-marked i n ps all
all-stopped i m ps all = all

does-numbers : (i : ℕ) (w : World) (a : Act) (f : Option Fuse) → NamesNone i a → NumbersAt i w → NumbersAt i (after_act w a f)
does-numbers i w (Make m) f lt k = record {
  heard = heard-append i w.events (told m (w.control.volume (target m))) k.heard (told-heard i m (w.control.volume (target m)) lt);
  pending = all-settled i m w.control.pending k.pending;
  issued = k.issued;
}
does-numbers i w (OpenAttempt v s n) f lt k = record {
  heard = heard-append i w.events (told (Hold v s n true) (w.control.volume v)) k.heard (kind-told i (Hold v s n true) (w.control.volume v) refl);
  pending = k.pending;
  issued = k.issued;
}
does-numbers i w (Redo v) f lt k = record { heard = k.heard; pending = k.pending; issued = k.issued }
does-numbers i w (Acknowledge n) f lt k = record { heard = heard-append i w.events (Ack n ∷ []) k.heard (lt, tt); pending = all-filter (λ p. IsNumber i p.w) (is_other n) w.control.pending k.pending; issued = k.issued }
does-numbers i w (Drop n) f lt k = record { heard = k.heard; pending = all-filter (λ p. IsNumber i p.w) (is_other n) w.control.pending k.pending; issued = k.issued }
does-numbers i w (EndFreeze l m) f lt k = record { heard = heard-append i w.events _ k.heard (tt, tt); pending = k.pending; issued = k.issued }
does-numbers i w (EndThaw l m) f lt k = record { heard = heard-append i w.events _ k.heard (tt, tt); pending = k.pending; issued = k.issued }
does-numbers i w (EndRecovery s n) f lt k = record { heard = heard-append i w.events _ k.heard (tt, tt); pending = k.pending; issued = k.issued }

counts-numbers : (i : ℕ) (w : World) (a : Act) → NamesNone i a → NumbersAt i w → Counts w a (λ t. NumbersAt i t.0)
counts-numbers i w (Make m) lt k = λ f. record {
  heard = heard-append i w.events _ k.heard (stop-heard i m (w.control.volume (target m)) (w.control.volume (target m)).server (landed m) lt);
  pending = all-stopped i m w.control.pending k.pending;
  issued = k.issued;
}
counts-numbers i w (OpenAttempt v s n) lt k = λ f. record { heard = heard-append i w.events _ k.heard (stop-heard i (Hold v s n true) (w.control.volume v) (w.control.volume v).server 0 tt); pending = k.pending; issued = k.issued }
counts-numbers i w (Redo v) lt k = tt
counts-numbers i w (Acknowledge n) lt k = tt
counts-numbers i w (Drop n) lt k = tt
counts-numbers i w (EndFreeze l m) lt k = tt
counts-numbers i w (EndThaw l m) lt k = tt
counts-numbers i w (EndRecovery s n) lt k = tt

act-numbers : (i : ℕ) (w : World) (a : Act) → NamesNone i a → NumbersAt i w → NumbersAt i (act w a).0
act-numbers i w a lt k = act-cases w a (λ t. NumbersAt i t.0) (λ d off. k) (λ f. does-numbers i w a f lt k) (counts-numbers i w a lt k)
    (λ d f. record { heard = heard-append i w.events (Stopped (server_of w a) 0 ∷ []) k.heard (tt, tt); pending = k.pending; issued = k.issued })

-- ---- more writes

more-numbers : (i j n : ℕ) → i < j + 1 → IsNumber i n → IsNumber j n
more-numbers i j n le is = (is.0, let lt : n < i + 1 = is.1 in omega (arith, lt, le))

heard-more : (i j : ℕ) → i < j + 1 → (es : List Event) → AllHeard i es → AllHeard j es
heard-more i j le [] all = tt
heard-more i j le (e ∷ es) all = (by e all.0, heard-more i j le es all.1)
  where
    by : (e : Event) → HeardOf i e → HeardOf j e
    by (Ack n) is = more-numbers i j n le is
    by (Mirrored n v) is = more-numbers i j n le is
    by e is = tt

pending-more : (i j : ℕ) → i < j + 1 → (ps : List Pending) → AllNumbers i ps → AllNumbers j ps
pending-more i j le ps all = each-on (λ p is. more-numbers i j p.w le is) ps all

-- ---- plans

-- how many writes were issued as a plan begins
begins-issued : (k : Control) (events : List Event) (line : ℕ) (asked : Result Step ℕ) (p : Plan) → Case k events line asked p → k.issued < (p.first k).issued + 1
begins-issued k events line _ _ (Issues v t offset len bytes free) = omega arith
begins-issued k events line _ _ (Writes v t offset len bytes free) = omega arith
begins-issued k events line _ _ (Sends s server x r o posts) = by (is_idle r.master.phase)
  where
    by : (b : Bool) → k.issued < (sending s b server o k).issued + 1
    by true = omega arith
    by false = omega arith
begins-issued k events line _ _ c = omega arith

landed-number : (i : ℕ) (k : Control) (s n : ℕ) → AllNumbers i k.pending → landed_on k s ≡ Some n → IsNumber i n
landed-number i k s n all is = by (find (has_landed k s) k.pending) refl is
  where
    by : (o : Option Pending) → find (has_landed k s) k.pending ≡ o → option_map (λ (p : Pending). p.w) o ≡ Some n → IsNumber i n
    by None none h = absurd cc
    by (Some p) found h = let same : p.w ≡ n = cc in subst (IsNumber i) same (find-all (λ p. IsNumber i p.w) (has_landed k s) p k.pending found all)

-- the writes that a step carries out have such numbers
abbrev Known : ℕ → Control → Result Step ℕ → Type 0
Known i k asked = (n v t : ℕ) → IsWrite k asked n v t → IsNumber i n

does-none : (i : ℕ) (k : Control) (asked : Result Step ℕ) → Known i k asked → (u : World) (a : Act) → NumbersAt i u → Does k asked u.control a → NamesNone i a
does-none i k asked known u _ j (Lands n v t is free) = known n v t is
does-none i k asked known u _ j (Overwrites n v t is free) = known n v t is
does-none i k asked known u _ j (LandsBoth n v t is free) = known n v t is
does-none i k asked known u _ j (DoesMirror n v t is over) = known n v t is
does-none i k _ known u _ j (Acknowledges s n is) = landed-number i u.control s n j.pending is
does-none i k asked known u _ j d = tt

line-heard : (i : ℕ) (e : Event) (es : List Event) → IsLine e → AllHeard i es → AllHeard i (e ∷ es)
line-heard i (PairLine line v u state kind k) es l all = (tt, all)
line-heard i (FlashLine line s t sequence previous state flags own) es l all = (tt, all)
line-heard i (SessionLine line s a b c state) es l all = (tt, all)
line-heard i (MirrorLine line s server phase n paused) es l all = (tt, all)
line-heard i ImageStart es l all = (tt, all)
line-heard i (ImageVolume v server tracks) es l all = (tt, all)
line-heard i (ImageBlock v index bytes) es l all = (tt, all)
line-heard i ImageEnd es l all = (tt, all)
line-heard i e es l all = absurd l

begun-heard : (i : ℕ) (b : Bool) (s n : ℕ) → AllHeard i (told_begun b s n)
begun-heard i true s n = (tt, tt)
begun-heard i false s n = tt

-- a plan, as it begins
begins-told : (i : ℕ) (k : Control) (events : List Event) (line : ℕ) (asked : Result Step ℕ) (p : Plan) → Case k events line asked p → AllHeard i p.told
begins-told i k events line _ _ (Lists told ls few) = all-lines (AllHeard i) tt (line-heard i) told ls
begins-told i k events line _ _ (Sends s server x r o posts) = begun-heard i (is_idle r.master.phase) s o.number
begins-told i k events line _ _ (DefinesServer name free) = (tt, tt)
begins-told i k events line _ _ (DefinesVolume v s tracks here free) = (tt, tt)
begins-told i k events line _ _ (Issues v t offset len bytes free) = (tt, tt)
begins-told i k events line _ _ (Writes v t offset len bytes free) = (tt, tt)
begins-told i k events line _ _ (Shows v t there) = (tt, tt)
begins-told i k events line _ _ (Stops s on) = (tt, tt)
begins-told i k events line _ _ (Starts s off) = (tt, tt)
begins-told i k events line _ _ c = tt

begins-pending : (k : Control) (events : List Event) (line : ℕ) (asked : Result Step ℕ) (p : Plan) → Case k events line asked p → AllNumbers k.issued k.pending → AllNumbers (p.first k).issued (p.first k).pending
begins-pending k events line _ _ (Issues v t offset len bytes free) all =
    all-more (λ p. IsNumber (k.issued + 1) p.w) k.pending (record { w = k.issued + 1; volume = v; track = t; landed = false }) (pending-more k.issued (k.issued + 1) (omega arith) k.pending all) (omega arith, omega arith)
begins-pending k events line _ _ (Writes v t offset len bytes free) all =
    all-more (λ p. IsNumber (k.issued + 1) p.w) k.pending (record { w = k.issued + 1; volume = v; track = t; landed = false }) (pending-more k.issued (k.issued + 1) (omega arith) k.pending all) (omega arith, omega arith)
begins-pending k events line _ _ (Sends s server x r o posts) all = by (is_idle r.master.phase)
  where
    by : (b : Bool) → AllNumbers (sending s b server o k).issued (sending s b server o k).pending
    by true = all
    by false = all
begins-pending k events line _ _ c all = all

-- and as it ends
record KeepsTables (j k : Control) : Type 0 where
  pending : k.pending ≡ j.pending
  issued : k.issued ≡ j.issued

last-tables : (k : Control) (events : List Event) (line : ℕ) (asked : Result Step ℕ) (p : Plan) → Case k events line asked p → (j : Control) → KeepsTables j (p.last j)
last-tables k events line _ _ (Exchanges s server reply x r o ordered) j = by reply
  where
    by : (b : Bool) → KeepsTables j (exchanged s server b o.work (members_on server x.members) j)
    by true = record { pending = refl; issued = refl }
    by false = record { pending = refl; issued = refl }
last-tables k events line _ _ c j = record { pending = refl; issued = refl }

-- in a world so many writes were issued as its control state says
abbrev Numbers : World → Type 0
Numbers w = NumbersAt w.control.issued w

module _ (w : World) (k : Numbers w) where
  abbrev c : Control
  c = w.control

  by-case : (line : ℕ) (asked : Result Step ℕ) (p : Plan) → Case c w.events line asked p → Known (p.first c).issued c asked → Numbers (carried_out w p).0
  by-case line asked p x known =
      let e : Entered w asked p = case-does w line asked p x in
      let i : ℕ = (p.first c).issued in
      let le : c.issued < i + 1 = begins-issued c w.events line asked p x in
      let done : NumbersAt i (carried_out w p).0 =
      plan-from any_world (Acts c asked) NoStop (Late asked) (NumbersAt i) (λ u j. tt) (λ u a d j. act-numbers i u a (does-none i c asked known u a j d) j) w p
      (record { heard = heard-append i w.events p.told (heard-more c.issued i le w.events k.heard) (begins-told i c w.events line asked p x); pending = begins-pending c w.events line asked p x k.pending; issued = refl })
      e.entries e.follows
      (λ v j. let last : KeepsTables v.control (p.last v.control) = last-tables c w.events line asked p x v.control in
      record { heard = j.heard; pending = subst (AllNumbers i) (sym last.pending) j.pending; issued = last.issued ∙ j.issued }) in
      subst (λ n. NumbersAt n (carried_out w p).0) (sym done.issued) done

  -- a step that carries out no write
  abbrev carries : Result Step ℕ → Bool
  carries (Ok (Write v t offset len bytes)) = true
  carries (Ok (Apply n)) = true
  carries asked = false

  unwritten : (i : ℕ) (asked : Result Step ℕ) → carries asked ≡ false → Known i c asked
  unwritten i _ none n v t (Issued _ _ offset len bytes) = absurd cc
  unwritten i _ none n v t (Found m p is) = absurd cc

  none-carried : (line : ℕ) (asked : Result Step ℕ) (p : Plan) → Case c w.events line asked p → carries asked ≡ false → Numbers (carried_out w p).0
  none-carried line asked p x none = by-case line asked p x (unwritten (p.first c).issued asked none)

  case-numbers : (line : ℕ) (asked : Result Step ℕ) (p : Plan) → Case c w.events line asked p → Numbers (carried_out w p).0
  case-numbers line _ _ (Says a waits why) = none-carried line (Ok (Run 0 0)) _ (Says a waits (λ one. absurd cc)) refl
  case-numbers line _ _ (Lists told ls few) = none-carried line (Err 0) _ (Lists told ls few) refl
  case-numbers line _ _ (PausesMirror s on) = none-carried line (Err 0) _ (PausesMirror s on) refl
  case-numbers line _ _ (Compares contents v u) = none-carried line (Err 0) _ (Compares contents v u) refl
  case-numbers line _ _ (Writes v t offset len bytes free) = by-case line _ _ (Writes v t offset len bytes free) (λ n x q is. of n x q is)
    where
      of : (n x q : ℕ) → IsWrite c (Ok (Write v t offset len bytes)) n x q → IsNumber (c.issued + 1) n
      of _ _ _ (Issued _ _ _ _ _) = (omega arith, omega arith)
  case-numbers line _ _ (Applies n p found) = by-case line _ _ (Applies n p found) (λ m x q is. of m x q is)
    where
      of : (m x q : ℕ) → IsWrite c (Ok (Apply n)) m x q → IsNumber c.issued m
      of _ _ _ (Found _ q is) = find-all (λ p. IsNumber c.issued p.w) _ q c.pending is k.pending
  case-numbers line _ _ (Settles s x m found here on free (Commits devs source sequence lets)) = none-carried line _ _ (Settles s x m found here on free (Commits devs source sequence lets)) refl
  case-numbers line _ _ (Settles s x m found here on free (Reverts devs source sequence t target own)) = none-carried line _ _ (Settles s x m found here on free (Reverts devs source sequence t target own)) refl
  case-numbers line asked p x = none-carried line asked p x refl

  lines-numbers : (told : List Event) → AllLines told → Numbers (carried_out w (lists_plan told)).0
  unfolding carry
  lines-numbers told ls = record { heard = heard-append c.issued w.events told k.heard (all-lines (AllHeard c.issued) tt (line-heard c.issued) told ls); pending = k.pending; issued = refl }

lost-numbers : (w u : World) → Numbers u → Numbers (masters_lost w u)
lost-numbers w u k = record { heard = k.heard; pending = k.pending; issued = refl }

part-numbers : (w : World) (p : Plan) → Comes w p → Numbers w → Numbers (after_part w p)
part-numbers w p comes k = lost-numbers w (carried_out w p).0 (case-numbers w k 0 comes.asked p (comes.case 0))

answered-numbers : (line : ℕ) (x : Part) → Numbers (carried_out x.world x.plan).0 → Numbers (answered_part line x)
unfolding after_plan
answered-numbers line x k =
    let u : World = (carried_out x.world x.plan).0 in
    record { heard = heard-append u.control.issued u.events (answer line (answered x.plan u.control (carried_out x.world x.plan).1) ∷ []) k.heard (tt, tt); pending = k.pending; issued = refl }

imaged-numbers : (w : World) (vs : List ListedVolume) → Numbers w → Numbers (carried_out w (imaged w vs)).0
imaged-numbers w vs k = by (has_room_for image_events w.events)
  where
    by : (room : Bool) → Numbers (carried_out w (cond room (image_plan vs) (refuses JournalFull))).0
    by true = lines-numbers w k (image_told vs) (image-lines vs)
    by false = case-numbers w k 0 (Err 0) _ (Says _ (refused-not JournalFull) (λ one. refl))

task-numbers : (w : World) (t : Task) → Numbers w → Numbers (after_task w t)
task-numbers w t k = answered-numbers t.line (course w t).last (by t.asked)
  where
    by : (asked : Result Step ℕ) → let x : Part = (course w (record { line = t.line; asked = asked; listed = t.listed })).last in Numbers (carried_out x.world x.plan).0
    by (Ok (Run i n)) =
        let run : Task = record { line = t.line; asked = Ok (Run i n); listed = t.listed } in
        case-numbers (course w run).last.world (last-plan Numbers part-numbers w run k) t.line run.asked _ (plain-case w run (λ e. cc))
    by (Ok Image) = imaged-numbers w t.listed k
    by (Ok step) = case-numbers w k t.line (Ok step) _ (plain-case w (record { line = t.line; asked = Ok step; listed = t.listed }) (λ e. cc))
    by (Err column) = case-numbers w k t.line (Err column) _ (plain-case w (record { line = t.line; asked = Err column; listed = t.listed }) (λ e. cc))

tasks-numbers : (tasks : List Task) (w : World) → Numbers w → Numbers (after_tasks w tasks)
unfolding after_tasks
tasks-numbers [] w k = k
tasks-numbers (t ∷ tasks) w k = tasks-numbers tasks (after_task w t) (task-numbers w t k)

-- each write that a run's journal speaks of has a number of one that was issued
pub heard-run : (tasks : List Task) → AllOf (HeardOf (run tasks).control.issued) (run tasks).events
heard-run tasks = (tasks-numbers tasks nothing (record { heard = tt; pending = tt; issued = refl })).heard

-- ---- so no list has another one

pub heard-at : (i : ℕ) (es : List Event) → AllOf (HeardOf i) es → (e : Event) → In e es → HeardOf i e
heard-at i [] all e h = absurd h
heard-at i (x ∷ es) all e (inl is) = subst (HeardOf i) (sym is) all.0
heard-at i (x ∷ es) all e (inr later) = heard-at i es all.1 e later

-- each write of a list has a number from 1 on
pub held-positive : (tasks : List Task) (w v q : ℕ) → In w (lists (run tasks).events v q) → 0 < w
held-positive tasks w v q h = by (held-stored (run tasks).events w v q h)
  where
    by : In (Ack w) (run tasks).events ⊎ IsMirrored (run tasks).events w → 0 < w
    by (inl acked) = (heard-at (run tasks).control.issued (run tasks).events (heard-run tasks) (Ack w) acked).0
    by (inr m) = (heard-at (run tasks).control.issued (run tasks).events (heard-run tasks) (Mirrored w m.secondary) m.told).0
