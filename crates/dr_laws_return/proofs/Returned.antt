-- A failback and a drain behind it, both answered ok, leave a pair turned round and equal, whatever came before.
use Rattle.std.proofs.Common.{ℕ, ◌≡◌, ◌≢◌, ◌≤◌, refl, ap, sym, ◌∙◌, subst, append_assoc, arith, Bool, true, false, cond, List, [], ◌∷◌, ◌++◌, Option, Some, None, Ok, ◌&&◌}
use Rattle.std.proofs.lemmas.Bool.{and_parts, and_from, eqb-true, eq-eqb, false_from_ne_true}
use Rattle.std.specs.FinSet.{contains, len}
use Rattle.dr_ids.specs.declared.refusal.Refusal.{Refusal}
use Rattle.dr_ids.specs.declared.refusal.Refusal.TheVariants.{JournalFull}
use Rattle.dr_model.specs.declared.said.Addition.{Addition}
use Rattle.dr_model.specs.declared.said.Said.{Said}
use Rattle.dr_model.specs.declared.said.Said.TheVariants.{Done, Refused}
use Rattle.dr_model.specs.declared.state.Part.{Part}
use Rattle.dr_model.specs.declared.state.Part.TheVariants.{Absent, Metro, Global}
use Rattle.dr_model.specs.declared.state.PairState.TheVariants.{FullDuplex, CopyPending}
use Rattle.dr_model.specs.declared.step.Devs.{Devs}
use Rattle.dr_model.specs.declared.step.Step.TheVariants.{Failback, Drain}
use Rattle.dr_model.specs.Layout.{Blocks, Fields, Tracks, is_part, kind_of}
use Rattle.dr_model.specs.Relations.{is_bare}
use Rattle.dr_model.specs.Pairs.{primary_of, secondary_of, is_primary_of, is_secondary_of, is_kind, is_metro, is_full_duplex, is_cascaded}
use Rattle.dr_model.specs.Control.{Control, Fuse, Volume, World, is_volume}
use Rattle.dr_model.specs.Fits.{Fits}
use Rattle.dr_model.specs.Carry.{Entry, Outcome, carry, entries_in}
use Rattle.dr_model.specs.Entries.{fields_at, is_running}
use Rattle.dr_model.specs.PairEntries.{is_copying, sends, tracks_to_send, feeds, suspend_after}
use Rattle.dr_model.specs.Plans.{Plan, same, refuses, is_defined, has_room, failback_plan, drain_plan}
use Rattle.dr_model.specs.Carried.{finish, carried_out, answered, stop_place}
use Rattle.dr_model.specs.Runs.{Task, answered_part, after_task, run}
use Rattle.dr_model.specs.Laws.{Sound}
use Rattle.dr_model.specs.Allowed.{Runs}
use Rattle.dr_model.proofs.CarryLemmas.{plan-ends}
use Rattle.dr_laws_sound.specs.Acknowledged.{said_in, part_answer}
use Rattle.dr_laws_sound.specs.Turning.{IsTurned}
use Rattle.dr_laws_sound.proofs.Agree.{contents-image}
use Rattle.dr_laws_sound.proofs.FitsFlash.{as_begun}
use Rattle.dr_laws_sound.proofs.FitsPairs.{its-first, its-second}
use Rattle.dr_laws_sound.proofs.AcknowledgingSteps.{if-plan}
use Rattle.dr_laws_sound.proofs.Journal.{run-more}
use Rattle.dr_laws_sound.proofs.Spends.{len-low}
use Rattle.dr_laws_sound.proofs.Steps.{sound-run}
use Rattle.dr_laws_sound.proofs.Turned.{failback-leaves, passed-check}
use Rattle.dr_laws_recovery.specs.Emptied.{IsEmptied}
use Rattle.dr_laws_recovery.specs.Recovered.{HoldsTracks}
use Rattle.dr_laws_recovery.proofs.Emptied.{drain-empties}
use Rattle.dr_laws_recovery.specs.Decided.{record_on}
use Rattle.dr_laws_return.specs.Sites.{AlikeOn}
use Rattle.dr_laws_return.specs.Returned.{IsReturned, Returns, Sends}
use Rattle.dr_laws_return.proofs.Faces.{Faces, chosen-duplex, sends-face}
use Rattle.dr_laws_return.proofs.Sites.{alike-on}
use Rattle.dr_logic.proofs.Truth.{false_true}

-- ---- steps that weren't refused

-- entries led on, and the step left the volumes and servers that they left
pub record Ends (w : World) (ds : List Entry) (u : World) : Type 0 where
  pub led : World
  pub leads : carry (as_begun w) ds ≡ (led, None)
  pub volume : u.control.volume ≡ led.control.volume
  pub on : u.control.on ≡ led.control.on

module _ (w : World) (line : ℕ) (a : Addition) (ds : List Entry) where
  -- where a plan is answered ok, its entries led on
  abbrev Goes : Plan → Type 0
  Goes p = part_answer (record { world = w; plan = p }) ≡ Done a → Ends w ds (answered_part line (record { world = w; plan = p }))

  refused-goes : (r : Refusal) → Goes (refuses r)
  refused-goes r h = absurd (by (carried_out w (refuses r)).0.control (carried_out w (refuses r)).1 h)
    where
      by : (k : Control) (o : Option Refusal) → answered (refuses r) k o ≡ Done a → ⊥
      by k None h = cc
      by k (Some s) h = cc

  plan-goes : (follows : ℕ → List Entry) (says : Control → Said) → Goes (record { first = same; told = []; entries = ds; follows = follows; last = same; says = says })
  plan-goes follows says h = by (carry (as_begun w) ds) refl
    where
      p : Plan
      p = record { first = same; told = []; entries = ds; follows = follows; last = same; says = says }

      by : (o : Outcome) → carry (as_begun w) ds ≡ o → Ends w ds (answered_part line (record { world = w; plan = p }))
      by (u, None) is =
          let after = plan-ends w line p (u, None) is in
          record { led = u; leads = is; volume = ap (λ (x : World). x.control.volume) after; on = ap (λ (x : World). x.control.on) after }
      by (u, Some r) is = let bad : Refused r ≡ Done a = sym (ap (λ (o : Outcome). answered p (finish p (stop_place w p) o.0 o.1).control o.1) is) ∙ h in absurd cc

  step-goes : (p : Plan) → Goes p → Goes (cond (has_room w.events) p (refuses JournalFull))
  step-goes p goes = if-plan Goes refused-goes (has_room w.events) p (refuses JournalFull) goes (refused-goes JournalFull)

-- ---- the pair, step by step

pub bare-none : (s : Tracks) → ((t : ℕ) → contains s t ≡ false) → is_bare s ≡ true
bare-none s none = let few : len s ≤ 0 = len-low 0 s (λ t h. false_true (none t) h) in let e : len s ≡ 0 = omega (arith, few) in eq-eqb (len s) 0 e

metro-of : (k p : Part) → is_kind k p ≡ true → is_metro k ≡ true → is_metro p ≡ true
metro-of Metro Metro is metro = refl
metro-of Metro Global is metro = absurd cc
metro-of Metro Absent is metro = absurd cc
metro-of Global p is metro = absurd cc
metro-of Absent p is metro = absurd cc

module _ (x y : ℕ) (kind : Part) where
  abbrev Facing : World → Type 0
  Facing u = Faces x y kind (fields_at u.control x) (fields_at u.control y)

  -- so a failback leaves it
  turned-faces : (u : World) → IsTurned u x y kind → Facing u
  turned-faces u turned =
      let f : Fields = fields_at u.control x in
      let full : is_metro f.primary ≡ true → is_bare f.out_of_sync ≡ true → f.primary_state ≡ FullDuplex =
      λ metro bare. turned.state ∙ chosen-duplex x y kind _ CopyPending (and_from (is_metro f.primary) (is_bare f.out_of_sync) metro bare) in
      record { leads = turned.leads; of_kind = turned.of_kind; idle = turned.idle; follows = turned.follows; duplex = full; duplex_too = λ metro bare. turned.same_state ∙ full metro bare }

  apart : (u : World) → Sound u → Facing u → x ≢ y
  apart u s faces e =
      (s.rows.parts.secondary x y (its-second y (fields_at u.control x) faces.leads)).apart (ap (λ v. (u.control.volume v).server) e)

  -- and so a drain of all tracks leaves it, with nothing out of sync
  record Home (u : World) : Type 0 where
    faces : Facing u
    sent : IsEmptied u x
    runs : Runs u x

  drained-home : (w u : World) → Sound w → Facing w → is_part (fields_at w.control y).primary ≡ false → Ends w (drain_plan w.control x None).entries u → Home u
  drained-home w u s faces plain ends =
      let first : World = as_begun w in
      let there = passed-check first ends.led (is_defined x) _ _ ends.leads in
      let on = passed-check first ends.led (is_running x) _ _ there.1 in
      let copying = passed-check first ends.led (is_copying x) _ _ on.1 in
      let f : Fields = fields_at w.control x in
      let ts : List ℕ = tracks_to_send None (w.control.volume x).tracks f.out_of_sync in
      let partner : f.primary_partner ≡ y = eqb-true f.primary_partner y (and_parts (is_part f.primary) _ faces.leads).1 in
      let sent : carry first (sends w.control.volumes x y ts) ≡ (ends.led, None) =
      sym (ap (λ c. carry first (entries_in (cond c (feeds w.control.volumes x y (fields_at w.control y).primary_partner ts) (record { entries = sends w.control.volumes x y ts; follows = suspend_after x } ∷ [])))) (ap (λ p. p && is_part (fields_at w.control y).secondary) plain))
      ∙ subst (λ b. carry first (entries_in (cond (is_cascaded (fields_at w.control b)) (feeds w.control.volumes x b (fields_at w.control b).primary_partner ts) (record { entries = sends w.control.volumes x b ts; follows = suspend_after x } ∷ []))) ≡ (ends.led, None)) partner copying.1 in
      let goes = sends-face x y kind (apart w s faces) w.control.volumes ts first ends.led sent (record { runs = on.0; faces = faces }) in
      record {
        faces = subst (λ (vs : ℕ → Volume). Faces x y kind (vs x).fields (vs y).fields) (sym ends.volume) goes.faces;
        sent = λ t. ap (λ (vs : ℕ → Volume). contains (vs x).fields.out_of_sync t) ends.volume ∙ drain-empties w s x ends.led ends.leads t;
        runs = (λ i. ends.on i (ends.volume i x).server) ∙ goes.runs;
      }

  -- ---- what the devices contain then

  module _ (u : World) (s : Sound u) (home : Home u) (on : ℕ → Bool) (fuse : ℕ → Option Fuse) (device : ℕ → Blocks) (fits : Fits u on fuse device) (holds : HoldsTracks u device) where
    abbrev f : Fields
    f = fields_at u.control x

    abbrev g : Fields
    g = fields_at u.control y

    second : secondary_of f ≡ Some y
    second = its-second y f home.faces.leads

    first : primary_of g ≡ Some x
    first = its-first x g home.faces.follows

    there : is_volume u.control x ≡ true
    there = (s.rows.parts.primary y x first).defined

    too : is_volume u.control y ≡ true
    too = (s.rows.parts.secondary x y second).defined

    at_x : record_on u device x ≡ f
    at_x = (fits.volumes x there).fields

    at_y : record_on u device y ≡ g
    at_y = (fits.volumes y too).fields

    plain : f.related ≡ false
    plain = false_from_ne_true f.related (λ h. false_true ((s.rows.parts.fit x).no_primary h) (and_parts (is_part f.primary) _ home.faces.leads).0)

    bare : is_bare f.out_of_sync ≡ true
    bare = bare-none f.out_of_sync home.sent

    metro : is_metro kind ≡ true → is_metro f.primary ≡ true
    metro = metro-of kind f.primary home.faces.of_kind

    leads_on : is_primary_of y (record_on u device x) ≡ true
    leads_on = ap (is_primary_of y) at_x ∙ home.faces.leads

    follows_on : is_secondary_of x (record_on u device y) ≡ true
    follows_on = ap (is_secondary_of x) at_y ∙ home.faces.follows

    sent_on : (t : ℕ) → contains (record_on u device x).out_of_sync t ≡ false
    sent_on t = ap (λ (e : Fields). contains e.out_of_sync t) at_x ∙ home.sent t

    both : AlikeOn u device x y
    both = alike-on u on fuse device s fits x y there too leads_on follows_on

    returned-on : IsReturned u device x y kind
    returned-on = record {
      defined = (there, too);
      leads = leads_on;
      of_kind = ap (λ (e : Fields). is_kind kind e.primary) at_x ∙ home.faces.of_kind;
      follows = follows_on;
      alike = ap (λ (e : Fields). e.secondary) at_y ∙ s.rows.seals.kinds y x first second ∙ sym (ap (λ (e : Fields). e.primary) at_x);
      idle = ap (λ (e : Fields). e.recording) at_x ∙ home.faces.idle;
      sent = sent_on;
      duplex = λ is. ap (λ (e : Fields). is_full_duplex e.primary_state) at_x ∙ ap is_full_duplex (home.faces.duplex (metro is) bare);
      duplex_too = λ is. ap (λ (e : Fields). is_full_duplex e.secondary_state) at_y ∙ ap is_full_duplex (home.faces.duplex_too (metro is) bare);
      size = both.size;
      equal = λ t lt. both.tracks t lt (sent_on t) (ap (λ (e : Fields). contains e.change_recording t) at_x ∙ (s.rows.recorders x).none home.faces.idle t);
      writes = λ t lt. holds x t there lt ∙ contents-image u s x t lt home.runs plain;
    }

-- ---- the two steps

pub drain-goes : (w : World) (t : Task) (x : ℕ) (a : Addition) → t.asked ≡ Ok (Drain x None) → said_in w t ≡ Done a → Ends w (drain_plan w.control x None).entries (after_task w t)
drain-goes w t x a asked says =
    let p : Plan = drain_plan w.control x None in
    let is : t ≡ record { line = t.line; asked = Ok (Drain x None); listed = t.listed } = λ i. record t { asked = asked i } in
    subst (λ (t : Task). said_in w t ≡ Done a → Ends w p.entries (after_task w t)) (sym is) (step-goes w t.line a p.entries p (plan-goes w t.line a p.entries p.follows p.says)) says

home-tasks : (w : World) (t s : Task) (devs : Devs) (x y kind : ℕ) (a b : Addition) → Sound w → Sound (after_task w t) → t.asked ≡ Ok (Failback devs x y kind) → s.asked ≡ Ok (Drain x None)
    → said_in w t ≡ Done a → said_in (after_task w t) s ≡ Done b → Home x y (kind_of kind) (after_task (after_task w t) s)
home-tasks w t s devs x y kind a b sound then asked drains says answers =
    let u : World = after_task w t in
    let p : Plan = failback_plan w.control devs x y (kind_of kind) in
    let t_is : t ≡ record { line = t.line; asked = Ok (Failback devs x y kind); listed = t.listed } = λ i. record t { asked = asked i } in
    let one : Ends w p.entries u =
    subst (λ (t : Task). said_in w t ≡ Done a → Ends w p.entries (after_task w t)) (sym t_is) (step-goes w t.line a p.entries p (plan-goes w t.line a p.entries p.follows p.says)) says in
    let turned : IsTurned one.led x y (kind_of kind) = failback-leaves w sound devs x y (kind_of kind) one.led one.leads in
    let faces : Facing x y (kind_of kind) u = subst (λ (vs : ℕ → Volume). Faces x y (kind_of kind) (vs x).fields (vs y).fields) (sym one.volume) (turned-faces x y (kind_of kind) one.led turned) in
    drained-home x y (kind_of kind) u (after_task u s) then faces (ap (λ (vs : ℕ → Volume). is_part (vs y).fields.primary) one.volume ∙ turned.plain) (drain-goes u s x b drains answers)

pub returned-run : (tasks : List Task) (on : ℕ → Bool) (fuse : ℕ → Option Fuse) (device : ℕ → Blocks) → Fits (run tasks) on fuse device → HoldsTracks (run tasks) device → Returns tasks device
returned-run tasks on fuse device fits holds before t s devs x y kind a b is asked drains says answers =
    let w : World = run before in
    let middle : run (before ++ t ∷ []) ≡ after_task w t = run-more before t in
    let split : tasks ≡ (before ++ t ∷ []) ++ s ∷ [] = is ∙ sym (append_assoc before (t ∷ []) (s ∷ [])) in
    let end : run tasks ≡ after_task (after_task w t) s = ap run split ∙ run-more (before ++ t ∷ []) s ∙ ap (λ v. after_task v s) middle in
    let home : Home x y (kind_of kind) (after_task (after_task w t) s) =
    home-tasks w t s devs x y kind a b (sound-run before) (subst Sound middle (sound-run (before ++ t ∷ []))) asked drains says (sym (ap (λ v. said_in v s) middle) ∙ answers) in
    returned-on x y (kind_of kind) (run tasks) (sound-run tasks) (subst (Home x y (kind_of kind)) (sym end) home) on fuse device fits holds

-- ---- a drain, whatever came before

pub sent-run : (tasks : List Task) (on : ℕ → Bool) (fuse : ℕ → Option Fuse) (device : ℕ → Blocks) → Fits (run tasks) on fuse device → Sends tasks device
sent-run tasks on fuse device fits before t x a is asked says there =
    let w : World = run before in
    let u : World = run tasks in
    let s : Sound u = sound-run tasks in
    let end : u ≡ after_task w t = ap run is ∙ run-more before t in
    let ends : Ends w (drain_plan w.control x None).entries u = subst (Ends w (drain_plan w.control x None).entries) (sym end) (drain-goes w t x a asked says) in
    let at_x : record_on u device x ≡ fields_at u.control x = (fits.volumes x there).fields in
    let sent : IsEmptied u x = λ q. ap (λ (vs : ℕ → Volume). contains (vs x).fields.out_of_sync q) ends.volume ∙ drain-empties w (sound-run before) x ends.led ends.leads q in
    let sent_on : (q : ℕ) → contains (record_on u device x).out_of_sync q ≡ false = λ q. ap (λ (e : Fields). contains e.out_of_sync q) at_x ∙ sent q in
    record {
      sent = sent_on;
      equal = λ y too idle leads follows q lt. (alike-on u on fuse device s fits x y there too leads follows).tracks q lt (sent_on q)
          (ap (λ (e : Fields). contains e.change_recording q) at_x ∙ (s.rows.recorders x).none (sym (ap (λ (e : Fields). e.recording) at_x) ∙ idle) q);
    }
