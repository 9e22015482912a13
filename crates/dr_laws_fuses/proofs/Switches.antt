-- Steps that start or stop a server: which of them make device writes.
use Rattle.std.proofs.Common.{ℕ, zero, suc, ◌||◌, ◌&&◌, ◌≡◌, ◌≢◌, ◌⊎◌, inl, inr, refl, ap, ◌∙◌, sym, subst, arith, append_assoc, Bool, true, false, cond, List, [], ◌∷◌, ◌++◌, Option, Some, None, Ok, nat_eq}
use Rattle.std.proofs.Math.Path.{fun_ext}
use Rattle.std.proofs.lemmas.Bool.{and_parts, cases_eq}
use Rattle.std.proofs.lemmas.Bool.Decides.{nat_tests}
use Rattle.std.proofs.lemmas.List.{append-nil}
use Rattle.std.proofs.lemmas.List.Folds.{list_any-append}
use Rattle.dr_ids.specs.declared.refusal.Refusal.TheVariants.{JournalFull}
use Rattle.dr_ids.specs.declared.refusal.Kind.TheVariants.{Server as OfServer}
use Rattle.dr_logic.specs.Tables.{at}
use Rattle.dr_logic.proofs.Tables.{at-itself, at_same, at_other}
use Rattle.dr_logic.proofs.Truth.{false_true}
use Rattle.dr_facts.proofs.Emits.{Of, Lists, by_moves, any-lists, all-told, all-stop}
use Rattle.dr_facts.proofs.Entries.{any_world, any_reason, AllFine, Fine, fine-append, fine-flat, fine-then, fine-one, plan-kept}
use Rattle.dr_model.specs.declared.event.Event.{Event}
use Rattle.dr_model.specs.declared.event.Event.TheVariants.{Ack, Started, Stopped}
use Rattle.dr_model.specs.declared.said.Said.{Said}
use Rattle.dr_model.specs.declared.said.Said.TheVariants.{Done, Refused}
use Rattle.dr_model.specs.declared.said.Addition.TheVariants.{Alone}
use Rattle.dr_model.specs.declared.step.Name.{Name}
use Rattle.dr_model.specs.declared.step.Step.TheVariants.{Start, Stop}
use Rattle.dr_model.specs.PlantImage.{Volume as Listed}
use Rattle.dr_model.specs.Refusals.{unknown}
use Rattle.dr_model.specs.Answers.{answer}
use Rattle.dr_model.specs.Control.{Control, Fuse, Volume, World, is_volume}
use Rattle.dr_model.specs.Moves.{Move, Restart, told, told_in_stop, landed, target}
use Rattle.dr_model.specs.Carry.{Act, Make, Redo, Acknowledge, Pass, Do, Entry, Outcome, act, carry, lower, pass, stopped_at}
use Rattle.dr_model.specs.Carried.{answered, begun, carried_out, finish, masters_lost, said}
use Rattle.dr_model.specs.Entries.{fields_at, is_at}
use Rattle.dr_model.specs.WriteEntries.{belongs, redo_on, restart_on, start_entries, start_on_volume}
use Rattle.dr_model.specs.PlanParts.{Plan, only_says, refuses, on_named, server_named, name_bytes, tables_plan}
use Rattle.dr_model.specs.Plans.{has_room, acknowledge_if, acknowledge_on, landed_on, fuse_at_start, start_on, start_plan, stop_on}
use Rattle.dr_model.specs.Pairs.{must_restart}
use Rattle.dr_model.specs.Runs.{Task, after_plan, after_task, answered_part}
use Rattle.dr_model.proofs.CarryLemmas.{plan-tables, plan-says}
use Rattle.dr_laws_sound.specs.Stops.{stop_in}
use Rattle.dr_laws_sound.proofs.Turns.{act-cases}
use Rattle.dr_laws_fuses.specs.Fuses.{with_fuse, with_fuses, fuse_changed}
use Rattle.dr_laws_fuses.specs.Laws.{told_since, tells_stop, MakesNoWrite, StopMakesNoWrite, StartMakesNoOtherWrite, StopsNothing, StartTakesFuseAway}
use Rattle.dr_laws_fuses.proofs.Acts.{Goes, Passes, Meets}
use Rattle.dr_laws_fuses.proofs.Blind.{fused}
use Rattle.dr_laws_fuses.proofs.Steps.{Alike, task-alike}
use Rattle.dr_laws_fuses.proofs.Later.{same-goes, told-since, tells-first, tells-later}

-- ---- a stop

module _ (w : World) (g : ℕ → Option Fuse) (line : ℕ) where
  abbrev ended : World → Plan → World
  ended u p = answered_part line (record { world = u; plan = p })

  -- a plan of tables alone that leaves fuses, and one of an answer
  tables-same : (first : Control → Control) (told : List Event) (a : Said) → first (fused w.control g) ≡ fused (first w.control) g → ended (with_fuses w g) (tables_plan first told a) ≡ with_fuses (ended w (tables_plan first told a)) g
  tables-same first told a is =
      ap (masters_lost (with_fuses w g)) (plan-tables (with_fuses w g) line first told a)
      ∙ ap (λ (k : Control). masters_lost w (said (record w { control = k; events = w.events ++ told }) line a)) is
      ∙ sym (ap (λ u. with_fuses (masters_lost w u) g) (plan-tables w line first told a))

  says-same : (a : Said) → ended (with_fuses w g) (only_says a) ≡ with_fuses (ended w (only_says a)) g
  says-same a = tables-same _ [] a refl

  stop-same : (b : Bool) (o : Option ℕ) → ended (with_fuses w g) (cond b (on_named o (stop_on w.control)) (refuses JournalFull)) ≡ with_fuses (ended w (cond b (on_named o (stop_on w.control)) (refuses JournalFull))) g
  stop-same false o = says-same (Refused JournalFull)
  stop-same true None = says-same (Refused (unknown OfServer))
  stop-same true (Some q) = by (w.control.on q)
    where
      by : (on : Bool) → ended (with_fuses w g) (cond on (tables_plan (λ (k : Control). record k { on = at k.on q false }) (Stopped q 0 ∷ []) (Done Alone)) (only_says (Done Alone)))
          ≡ with_fuses (ended w (cond on (tables_plan (λ (k : Control). record k { on = at k.on q false }) (Stopped q 0 ∷ []) (Done Alone)) (only_says (Done Alone)))) g
      by true = tables-same _ (Stopped q 0 ∷ []) (Done Alone) refl
      by false = says-same (Done Alone)

-- a step that stops a server leads to the same with any fuses, and leaves them
stop-alike : (w : World) (t : Task) (name : Name) → t.asked ≡ Ok (Stop name) → (g : ℕ → Option Fuse) → after_task (with_fuses w g) t ≡ with_fuses (after_task w t) g
stop-alike w t name is g =
    ap (λ asked. after_task (with_fuses w g) (record t { asked = asked })) is
    ∙ stop-same w g t.line (has_room w.events) (server_named w.control (name_bytes name))
    ∙ sym (ap (λ asked. with_fuses (after_task w (record t { asked = asked })) g) is)

pub stop-writes-nothing : (s : ℕ) (w : World) (t : Task) → StopMakesNoWrite s w t
stop-writes-nothing s w t name is fuse =
    stop-alike w t name is (at w.control.fuse s fuse) ∙ ap (λ h. with_fuses (after_task w t) (at h s fuse)) (sym (ap (λ (u : World). u.control.fuse) (stop-alike w t name is w.control.fuse)))

-- ---- no other server stops in a start

module _ (s : ℕ) where
  -- the journal goes on, and tells no stop of server s
  record Untold (w u : World) : Type 0 where
    told : List Event
    is : u.events ≡ w.events ++ told
    none : tells_stop s told ≡ false

  untold-same : (w : World) → Untold w w
  untold-same w = record { told = []; is = sym (append-nil w.events); none = refl }

  untold-then : (w v u : World) → Untold w v → Untold v u → Untold w u
  untold-then w v u a b = record {
    told = a.told ++ b.told;
    is = b.is ∙ ap (λ es. es ++ b.told) a.is ∙ append_assoc w.events a.told b.told;
    none = none-both a.told b.told a.none b.none;
  }
    where
      none-both : (es fs : List Event) → tells_stop s es ≡ false → tells_stop s fs ≡ false → tells_stop s (es ++ fs) ≡ false
      none-both es fs first second = list_any-append (λ e. is_at (stop_in e) s) es fs ∙ ap (λ b. b || tells_stop s fs) first ∙ second

  -- what a move tells is no stop, and the stop of another server is none of this one
  no-stops : Lists (Of by_moves) (λ es. tells_stop s es ≡ false)
  no-stops = any-lists (Of by_moves) (λ e. is_at (stop_in e) s) by
    where
      by : (e : Event) → Of by_moves e → is_at (stop_in e) s ≡ false
      by (Stopped q n) of = absurd cc
      by e of = refl

  other-stop : (q n : ℕ) → q ≢ s → tells_stop s (Stopped q n ∷ []) ≡ false
  other-stop q n far = let no : nat_eq q s ≡ false = grind (arith, nat_tests) in ap (λ b. b || false) no

  -- one that writes to a device on it, or one that writes to none
  data Quiet (w : World) : Act → Type 0 where
    Elsewhere : (m : Move) → (w.control.volume (target m)).server ≢ s → Quiet w (Make m)
    Replaces : (v : ℕ) → (w.control.volume v).server ≢ s → Quiet w (Redo v)
    Tells : (n : ℕ) → Quiet w (Acknowledge n)

  act-quiet : (w : World) (a : Act) → Quiet w a → Untold w (act w a).0
  act-quiet w _ (Elsewhere m far) =
      let u : Volume = w.control.volume (target m) in
      act-cases w (Make m) (λ t. Untold w t.0) (λ writes off. untold-same w)
      (λ f. record { told = told m u; is = refl; none = all-told _ no-stops m u })
      (λ f. record { told = told_in_stop m u ++ Stopped u.server (landed m) ∷ []; is = refl; none = list_any-append (λ e. is_at (stop_in e) s) (told_in_stop m u) (Stopped u.server (landed m) ∷ []) ∙ ap (λ b. b || tells_stop s (Stopped u.server (landed m) ∷ [])) (all-stop _ no-stops m u) ∙ other-stop u.server (landed m) far })
      (λ writes f. record { told = Stopped u.server 0 ∷ []; is = refl; none = other-stop u.server 0 far })
  act-quiet w _ (Replaces v far) =
      let q : ℕ = (w.control.volume v).server in
      act-cases w (Redo v) (λ t. Untold w t.0) (λ writes off. untold-same w)
      (λ f. record { told = []; is = sym (append-nil w.events); none = refl })
      tt
      (λ writes f. record { told = Stopped q 0 ∷ []; is = refl; none = other-stop q 0 far })
  act-quiet w _ (Tells n) = act-cases w (Acknowledge n) (λ t. Untold w t.0) (λ writes off. absurd writes) (λ f. record { told = Ack n ∷ []; is = refl; none = refl }) tt (λ writes f. absurd writes)

  -- the entries of a start of server q
  module _ (q : ℕ) (away : q ≢ s) where
    abbrev Quiets : List Entry → Type 0
    Quiets ds = AllFine any_world Quiet any_reason ds

    on-own : (w : World) (v : ℕ) → belongs w.control q v ≡ true → (w.control.volume v).server ≢ s
    on-own w v belongs e =
        let same : nat_eq (w.control.volume v).server q ≡ true = (and_parts (is_volume w.control v) (nat_eq (w.control.volume v).server q) belongs).1 in
        let is : (w.control.volume v).server ≡ q = grind (arith, nat_tests) in
        away (sym is ∙ e)

    redoes : (v : ℕ) (w : World) → any_world w → Fine any_world Quiet any_reason w (redo_on q v w.control)
    redoes v w any = by (belongs w.control q v) refl
      where
        by : (b : Bool) → belongs w.control q v ≡ b → Fine any_world Quiet any_reason w (cond b (Do (Redo v)) Pass)
        by true own = Replaces v (on-own w v own)
        by false other = tt

    restarts : (v : ℕ) (w : World) → any_world w → Fine any_world Quiet any_reason w (restart_on q v w.control)
    restarts v w any = by (belongs w.control q v && must_restart (fields_at w.control v)) refl
      where
        by : (b : Bool) → (belongs w.control q v && must_restart (fields_at w.control v)) ≡ b → Fine any_world Quiet any_reason w (cond b (Do (Make (Restart v))) Pass)
        by true must = Elsewhere (Restart v) (on-own w v (and_parts (belongs w.control q v) (must_restart (fields_at w.control v)) must).0)
        by false other = tt

    acknowledges : (w : World) → any_world w → Fine any_world Quiet any_reason w (acknowledge_on q w.control)
    acknowledges w any = by (landed_on w.control q)
      where
        by : (o : Option ℕ) → Fine any_world Quiet any_reason w (acknowledge_if o)
        by None = tt
        by (Some n) = Tells n

    starts : (vs : List ℕ) → Quiets (start_entries q vs ++ acknowledge_on q ∷ [])
    starts vs =
        fine-append any_world Quiet any_reason (start_entries q vs) (acknowledge_on q ∷ [])
        (fine-flat any_world Quiet any_reason (start_on_volume q) vs (λ v here. fine-then any_world Quiet any_reason (redo_on q v) (restart_on q v ∷ []) (redoes v) (fine-one any_world Quiet any_reason (restart_on q v) (restarts v))))
        (fine-one any_world Quiet any_reason (acknowledge_on q) acknowledges)

    start-kept : (w : World) → Untold w (carried_out w (start_plan w.control q)).0
    start-kept w = plan-kept any_world Quiet any_reason (Untold w) (λ v j. tt) (λ v a quiet j. untold-then w v (act v a).0 j (act-quiet v a quiet)) w (start_plan w.control q)
        (record { told = Started q ∷ []; is = refl; none = refl }) (starts w.control.volumes) (λ q. tt) (λ v j. j)

  -- a step that starts another server
  module _ (w : World) (line : ℕ) where
    answered-untold : (p : Plan) → Untold w (carried_out w p).0 → Untold w (answered_part line (record { world = w; plan = p }))
    unfolding after_plan
    answered-untold p u = untold-then w (carried_out w p).0 (answered_part line (record { world = w; plan = p })) u (record { told = answer line (answered p (carried_out w p).0.control (carried_out w p).1) ∷ []; is = refl; none = refl })

    says-untold : (a : Said) → Untold w (answered_part line (record { world = w; plan = only_says a }))
    says-untold a = subst (λ u. Untold w (masters_lost w u)) (sym (plan-says w line a)) (record { told = answer line a ∷ []; is = refl; none = refl })

    start-untold : (b : Bool) (o : Option ℕ) → (o ≡ Some s → ⊥) → Untold w (answered_part line (record { world = w; plan = cond b (on_named o (start_on w.control)) (refuses JournalFull) }))
    start-untold false o other = says-untold (Refused JournalFull)
    start-untold true None other = says-untold (Refused (unknown OfServer))
    start-untold true (Some q) other = by (w.control.on q)
      where
        by : (on : Bool) → Untold w (answered_part line (record { world = w; plan = cond on (only_says (Done Alone)) (start_plan w.control q) }))
        by true = says-untold (Done Alone)
        by false = answered-untold (start_plan w.control q) (start-kept q (λ e. other (ap Some e)) w)

  start-silent : (w : World) (line : ℕ) (name : Name) (listed : List Listed) → (server_named w.control (name_bytes name) ≡ Some s → ⊥)
      → (let t : Task = record { line = line; asked = Ok (Start name); listed = listed } in tells_stop s (told_since w (after_task w t)) ≡ false)
  start-silent w line name listed other =
      let u = start-untold w line (has_room w.events) (server_named w.control (name_bytes name)) other in
      ap (tells_stop s) (told-since w (after_task w (record { line = line; asked = Ok (Start name); listed = listed })) u.told u.is) ∙ u.none

-- ---- nor does it make a device write

-- a server's fuse is the one that it was given last
fuse-twice : (w : World) (s : ℕ) (f g : Option Fuse) → with_fuse (with_fuse w s f) s g ≡ with_fuse w s g
fuse-twice w s f g = ap (with_fuses w) (fun_ext (λ q. elim (cases_eq q s) [
  | inl e ↦ ap (at (at w.control.fuse s f) s g) e ∙ at_same (at w.control.fuse s f) s g ∙ sym (at_same w.control.fuse s g) ∙ ap (at w.control.fuse s g) (sym e)
  | inr ne ↦ at_other (at w.control.fuse s f) s g q ne ∙ at_other w.control.fuse s f q ne ∙ sym (at_other w.control.fuse s g q ne)
]))

-- a fuse at 0, which any device write would reach
abbrev at_0 : Option Fuse
at_0 = Some (record { after = 0; torn = None })

module _ (s : ℕ) (fuse : Option Fuse) where
  -- that fuse, and any other one
  abbrev R : ℕ → Option Fuse → Option Fuse → Type 0
  R q f g = (q ≢ s) × (f ≡ g) ⊎ (q ≡ s) × (f ≡ at_0) × (g ≡ fuse)

  abbrev M : ℕ → Type 0
  M q = q ≡ s

  passes-none : (f : Option Fuse) → pass f 0 ≡ true
  passes-none None = refl
  passes-none (Some f) = grind (arith, nat_tests)

  lowers-none : (f : Option Fuse) → lower 0 f ≡ f
  lowers-none None = refl
  lowers-none (Some f) = ap (λ n. Some (record { after = n; torn = f.torn })) (omega arith)

  goes : (q : ℕ) (f g : Option Fuse) (n : ℕ) → R q f g → Goes R M q f g n
  goes q f g n (inl (far, is)) = same-goes R M q f g n is (λ x y e. inl (far, e))
  goes q f g zero (inr (here, stands, is)) = Passes (passes-none f) (passes-none g) (inr (here, lowers-none f ∙ stands, lowers-none g ∙ is))
  goes q f g (suc n) (inr (here, stands, is)) = Meets (ap (λ x. pass x (suc n)) stands ∙ grind (arith, nat_tests)) here

  module _ (w : World) (line : ℕ) (name : Name) (listed : List Listed) (other : server_named w.control (name_bytes name) ≡ Some s → ⊥) where
    abbrev t : Task
    t = record { line = line; asked = Ok (Start name); listed = listed }

    abbrev w0 : World
    w0 = with_fuse w s at_0

    abbrev u0 : World
    u0 = after_task w0 t

    abbrev g : ℕ → Option Fuse
    g = at w.control.fuse s fuse

    begins : (q : ℕ) → R q (w0.control.fuse q) (g q)
    begins q = elim (cases_eq q s) [
      | inl e ↦ inr (e, ap w0.control.fuse e ∙ at_same w.control.fuse s at_0, ap g e ∙ at_same w.control.fuse s fuse)
      | inr ne ↦ inl (ne, at_other w.control.fuse s at_0 q ne ∙ sym (at_other w.control.fuse s fuse q ne))
    ]

    changes : (start : Name) (q : ℕ) → fuse_changed (Ok (Start name)) ≡ Some start → server_named w0.control (name_bytes start) ≡ Some q → R q (fuse_at_start (w0.control.fuse q)) (fuse_at_start (g q))
    changes start q set named = by (begins q)
      where
        by : R q (w0.control.fuse q) (g q) → R q (fuse_at_start (w0.control.fuse q)) (fuse_at_start (g q))
        by (inl (far, is)) = inl (far, ap fuse_at_start is)
        by (inr (here, stands, is)) = absurd (other (ap (λ n. server_named w.control (name_bytes n)) (let same : name ≡ start = cc in same) ∙ named ∙ ap Some here))

    alone : after_task (with_fuse w s fuse) t ≡ with_fuse u0 s fuse
    alone = by (task-alike R M goes w0 g begins line (Ok (Start name)) listed changes)
      where
        by : Alike R M goes w0 u0 (after_task (with_fuses w0 g) t) → after_task (with_fuses w0 g) t ≡ with_fuse u0 s fuse
        by (inl same) = same.is ∙ ap (with_fuses u0) (fun_ext (λ q. is q (same.fuses q)))
          where
            is : (q : ℕ) → R q (u0.control.fuse q) (same.fuse q) → same.fuse q ≡ at u0.control.fuse s fuse q
            is q (inl (far, equal)) = sym equal ∙ sym (at_other u0.control.fuse s fuse q far)
            is q (inr (here, stands, kept)) = kept ∙ sym (ap (at u0.control.fuse s fuse) here ∙ at_same u0.control.fuse s fuse)
        by (inr parted) =
            let told : told_since w0 u0 ≡ parted.common ++ parted.rest = told-since w0 u0 (parted.common ++ parted.rest) parted.first in
            absurd (false_true (start-silent s w0 line name listed other) (ap (tells_stop s) told ∙ tells-later s parted.common parted.rest (tells-first s parted.rest (parted.tells ∙ ap Some parted.met))))

pub start-writes-alone : (s : ℕ) (w : World) (t : Task) → StartMakesNoOtherWrite s w t
start-writes-alone s w t name is other = (
  λ fuse. ap (λ asked. after_task (with_fuse w s fuse) (record t { asked = asked })) is ∙ by fuse ∙ sym (ap (λ asked. with_fuse (after_task w (record t { asked = asked })) s fuse) is),
  ap (λ asked. tells_stop s (told_since w (after_task w (record t { asked = asked })))) is ∙ start-silent s w t.line name t.listed other,
)
  where
    begun_so : Task
    begun_so = record t { asked = Ok (Start name) }

    by : (fuse : Option Fuse) → after_task (with_fuse w s fuse) begun_so ≡ with_fuse (after_task w begun_so) s fuse
    by fuse =
        let own : Option Fuse = w.control.fuse s in
        let under : World = after_task (with_fuse w s at_0) begun_so in
        let itself : after_task w begun_so ≡ with_fuse under s own = ap (λ h. after_task (with_fuses w h) begun_so) (sym (at-itself w.control.fuse s)) ∙ alone s own w t.line name t.listed other in
        alone s fuse w t.line name t.listed other ∙ sym (fuse-twice under s own fuse) ∙ sym (ap (λ u. with_fuse u s fuse) itself)

-- ---- a fuse at 0 of the server that starts

module _ (s : ℕ) (w : World) (line : ℕ) (torn : Option (List ℕ)) where
  abbrev at_zero : Fuse
  at_zero = record { after = 0; torn = torn }

  abbrev one : World
  one = with_fuse w s (Some at_zero)

  abbrev none : World
  none = with_fuse w s None

  abbrev Taken : Plan → Type 0
  Taken p = (left : Option Fuse) × (answered_part line (record { world = one; plan = p }) ≡ with_fuse (answered_part line (record { world = none; plan = p })) s left)

  says-taken : (a : Said) → Taken (only_says a)
  says-taken a =
      let u : World = answered_part line (record { world = w; plan = only_says a }) in
      (Some at_zero, says-same w (at w.control.fuse s (Some at_zero)) line a ∙ sym (fuse-twice (with_fuses u w.control.fuse) s None (Some at_zero)) ∙ sym (ap (λ v. with_fuse v s (Some at_zero)) (says-same w (at w.control.fuse s None) line a)))

  abbrev started : Option Fuse → World
  started f = begun (with_fuse w s f) (start_plan w.control s)

  started-same : started (Some at_zero) ≡ started None
  started-same = ap (λ h. record (started None) { control = record (started None).control { fuse = h } }) (both (Some at_zero) refl ∙ sym (both None refl))
    where
      both : (f : Option Fuse) → fuse_at_start f ≡ None → at (at w.control.fuse s f) s (fuse_at_start (at w.control.fuse s f s)) ≡ at w.control.fuse s None
      both f gone = ap (λ x. at (at w.control.fuse s f) s (fuse_at_start x)) (at_same w.control.fuse s f) ∙ ap (at (at w.control.fuse s f) s) gone ∙ ap (λ (u : World). u.control.fuse) (fuse-twice w s f None)

  start-taken : Taken (start_plan w.control s)
  unfolding after_plan
  start-taken =
      let p : Plan = start_plan w.control s in
      let same : answered_part line (record { world = one; plan = p }) ≡ answered_part line (record { world = none; plan = p }) =
      ap (λ (b : World). let o : Outcome = carry b p.entries in masters_lost w (said (finish p (stopped_at b p.entries) o.0 o.1) line (answered p (finish p (stopped_at b p.entries) o.0 o.1).control o.1))) started-same in
      let u : World = answered_part line (record { world = none; plan = p }) in
      (u.control.fuse s, same ∙ ap (with_fuses u) (sym (at-itself u.control.fuse s)))

  taken : (b : Bool) (o : Option ℕ) → o ≡ Some s → Taken (cond b (on_named o (start_on w.control)) (refuses JournalFull))
  taken false o named = says-taken (Refused JournalFull)
  taken true None named = says-taken (Refused (unknown OfServer))
  taken true (Some q) named = subst (λ q. Taken (start_on w.control q)) (let is : s ≡ q = cc in is) (by (w.control.on s))
    where
      by : (on : Bool) → Taken (cond on (only_says (Done Alone)) (start_plan w.control s))
      by true = says-taken (Done Alone)
      by false = start-taken

pub start-takes-away : (s : ℕ) (w : World) (t : Task) → StartTakesFuseAway s w t
start-takes-away s w t name torn is named =
    let all = taken s w t.line torn (has_room w.events) (server_named w.control (name_bytes name)) named in
    record {
      left = all.0;
      is = ap (λ asked. after_task (one s w t.line torn) (record t { asked = asked })) is ∙ all.1 ∙ sym (ap (λ asked. with_fuse (after_task (none s w t.line torn) (record t { asked = asked })) s all.0) is);
    }

-- a server that makes no device write isn't stopped by any fuse
pub no-write-stops : (s : ℕ) (w : World) (t : Task) → MakesNoWrite s w t → (fuse : Fuse) → StopsNothing s fuse w t
no-write-stops s w t none fuse =
    let u : World = after_task w t in
    record { left = Some fuse; is = none (Some fuse) ∙ sym (fuse-twice u s None (Some fuse)) ∙ sym (ap (λ v. with_fuse v s (Some fuse)) (none None)) }
