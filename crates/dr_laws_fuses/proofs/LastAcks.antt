-- A server that can write nothing more has no host write on its volumes acknowledged.
use Rattle.std.proofs.Common.{ℕ, ◌+◌, ◌≡◌, ◌≢◌, ◌⊎◌, inl, inr, refl, ap, ◌∙◌, sym, subst, arith, append_assoc, nat_eq, Bool, true, false, cond, List, [], ◌∷◌, ◌++◌, Option, Some, None, Result, Ok}
use Rattle.std.specs.List.{find}
use Rattle.std.proofs.lemmas.Bool.{and_parts, cases_Bool, cases_eq}
use Rattle.std.proofs.lemmas.Bool.Decides.{nat_tests}
use Rattle.std.specs.Prelude.{option_map}
use Rattle.std.proofs.lemmas.List.{append-nil}
use Rattle.dr_ids.specs.declared.refusal.Refusal.{Refusal}
use Rattle.dr_ids.specs.declared.refusal.Refusal.TheVariants.{JournalFull}
use Rattle.dr_ids.specs.declared.refusal.Kind.TheVariants.{Server as OfServer, Write as OfWrite}
use Rattle.dr_logic.proofs.Truth.{false_true}
use Rattle.dr_facts.proofs.Entries.{any_world, plan-from}
use Rattle.dr_facts.proofs.Lists.{found, in-first, in-joined, in-second}
use Rattle.dr_facts.proofs.Reasons.{NoStop}
use Rattle.dr_model.specs.declared.event.Event.{Event}
use Rattle.dr_model.specs.declared.event.Event.TheVariants.{Ack, Issue, Mirrored, Stopped}
use Rattle.dr_model.specs.declared.said.Said.{Said}
use Rattle.dr_model.specs.declared.said.Said.TheVariants.{Done, Refused}
use Rattle.dr_model.specs.declared.said.Addition.TheVariants.{Alone}
use Rattle.dr_model.specs.PlantImage.{Volume as Listed}
use Rattle.dr_model.specs.declared.step.Name.{Name}
use Rattle.dr_model.specs.declared.step.Step.{Step}
use Rattle.dr_model.specs.declared.step.Step.TheVariants.{Apply, Start, Write}
use Rattle.dr_model.specs.Answers.{answer}
use Rattle.dr_model.specs.Control.{Control, Fuse, Pending, Volume, World, is_volume}
use Rattle.dr_model.specs.Groups.{In}
use Rattle.dr_model.specs.Moves.{Move, Land, LandBoth, Mirror, Overwrite, is_write, landed, target, told, told_in_stop}
use Rattle.dr_model.specs.Carry.{Act, Make, Acknowledge, Drop, Turn, act, turn}
use Rattle.dr_model.specs.Carried.{answered, begun, carried_out, masters_lost}
use Rattle.dr_model.specs.PlanParts.{Plan, on_named, only_says, refuses, server_named, name_bytes, unless}
use Rattle.dr_model.specs.Plans.{plan, apply_done, apply_on, apply_plan, has_landed, has_room, issue_refusal, landed_on, says_acked, start_on, start_plan, write_done, write_plan}
use Rattle.dr_model.specs.Refusals.{unknown}
use Rattle.dr_model.specs.WriteEntries.{belongs, partner_of}
use Rattle.dr_model.specs.Runs.{Task, after_plan, after_task, answered_part}
use Rattle.dr_model.proofs.CarryLemmas.{act-drop, act-move, plan-refuses}
use Rattle.dr_laws_sound.proofs.Cases.{Applies, Writes}
use Rattle.dr_laws_sound.proofs.Does.{Acts, Does, Acknowledges, Drops, Lands, LandsBoth, Mirrors, Overwrites, IsWrite, Found, Issued, Late}
use Rattle.dr_laws_sound.proofs.DoesPlans.{Entered, case-does}
use Rattle.dr_laws_sound.proofs.Turns.{not_done, turn-cases}
use Rattle.dr_laws_sound.proofs.Unacknowledged.{AcknowledgesNothing, act-turned}
use Rattle.dr_laws_sound.specs.Acknowledged.{acked, acknowledged_by, acknowledgement, acknowledgements, said_in}
use Rattle.dr_laws_sound.proofs.Acknowledged.{acked-task}
use Rattle.dr_laws_fuses.specs.Laws.{told_since, AcknowledgesElsewhere, IsWriteOn, LastWriteLeavesNothing, WritesNothing}
use Rattle.dr_laws_fuses.proofs.LastWrite.{Keeps, act-keeps, begins-kept, leaves-volumes, quiet-turn, still, untouched}
use Rattle.dr_laws_fuses.proofs.Later.{told-since}

-- an acknowledgement that is told is among them
acked-in : (es : List Event) (n : ℕ) → In (Ack n) es → In n (acknowledgements es)
acked-in [] n here = absurd here
acked-in (e ∷ es) n (inl is) = in-first (acknowledgement e) (acknowledgements es) n (subst (λ e. In n (acknowledgement e)) is (inl refl))
acked-in (e ∷ es) n (inr later) = in-second (acknowledgement e) (acknowledgements es) n (acked-in es n later)

-- an answer is none
no-answer : (n line : ℕ) (said : Said) → In (Ack n) (answer line said ∷ []) → ⊥
no-answer n line said (inl is) = cc
no-answer n line said (inr never) = never

-- ---- acts

-- a move that tells, done, that write n on volume v is acknowledged, and tells nothing where its server stops in it
record IsLanding (m : Move) (n v : ℕ) : Type 0 where
  at : target m ≡ v
  done : (u : Volume) → told m u ≡ Ack n ∷ []
  stopped : (u : Volume) → told_in_stop m u ≡ []

-- what an act of a step acknowledges: nothing, the host write of the step, or in a start
data ActCase (k : Control) (asked : Result Step ℕ) : Act → Type 0 where
  Silent : (a : Act) → AcknowledgesNothing false a → ActCase k asked a
  Mirroring : (u t v n : ℕ) → ActCase k asked (Make (Mirror u t v n))
  Lets : (n : ℕ) → ActCase k asked (Drop n)
  Landing : (m : Move) → (n v t : ℕ) → IsLanding m n v → IsWrite k asked n v t → ActCase k asked (Make m)
  Starting : (name : Name) → (n : ℕ) → asked ≡ Ok (Start name) → ActCase k asked (Acknowledge n)

does-case : (k : Control) (asked : Result Step ℕ) (j : Control) (a : Act) → Does k asked j a → ActCase k asked a
does-case k asked j _ (Lands n v t write free) = Landing (Land n v t) n v t (record { at = refl; done = λ u. refl; stopped = λ u. refl }) write
does-case k asked j _ (Overwrites n v t write free) = Landing (Overwrite n v t) n v t (record { at = refl; done = λ u. refl; stopped = λ u. refl }) write
does-case k asked j _ (LandsBoth n v t write free) = Landing (LandBoth n v t) n v t (record { at = refl; done = λ u. refl; stopped = λ u. refl }) write
does-case k asked j _ (Mirrors n v t write over) = Mirroring (partner_of k v) t v n
does-case k asked j _ (Drops n v t write) = Lets n
does-case k _ j _ (Acknowledges {name = name} q n lands) = Starting name n refl
does-case k asked j a d = Silent a refl

-- the host write that a step carries out is one of its own, or pending
is-write-on : (k : Control) (asked : Result Step ℕ) (n v t : ℕ) → IsWrite k asked n v t → IsWriteOn k asked n v
is-write-on k _ _ _ _ (Issued v t offset len bytes) = inr (refl, refl)
is-write-on k _ _ _ _ (Found i p h) = inl (p, (found (is_write i) k.pending p h).0, refl, refl)

module _ (s : ℕ) (base : World) (asked : Result Step ℕ) where
  -- a host write of the step, on a volume that isn't one of the server's
  abbrev Elsewhere : ℕ → Type 0
  Elsewhere n = (v : ℕ) × IsWriteOn base.control asked n v × (is_volume base.control v ≡ true → (base.control.volume v).server ≡ s → ⊥)

  -- the journal goes on, and each write that is acknowledged is such
  record Acks (w u : World) : Type 0 where
    told : List Event
    is : u.events ≡ w.events ++ told
    acks : (n : ℕ) → In (Ack n) told → Elsewhere n

  acks-same : (w : World) → Acks w w
  acks-same w = record { told = []; is = sym (append-nil w.events); acks = λ n here. absurd here }

  acks-then : (w v u : World) → Acks w v → Acks v u → Acks w u
  acks-then w v u a b = record {
    told = a.told ++ b.told;
    is = b.is ∙ ap (λ es. es ++ b.told) a.is ∙ append_assoc w.events a.told b.told;
    acks = λ n here. elim (in-joined a.told b.told (Ack n) here) [ inl first ↦ a.acks n first | inr later ↦ b.acks n later ];
  }

  -- a host write lands on volume v, or doesn't
  land-acks : (w : World) (m : Move) (n v t : ℕ) → IsLanding m n v → Keeps s base w → IsWrite base.control asked n v t → Acks w (turn w m).0
  land-acks w m n v t lands k write = by (cases_Bool (is_volume base.control v)) (cases_eq (base.control.volume v).server s)
    where
      stop : (server kept : ℕ) → (n : ℕ) → In (Ack n) (Stopped server kept ∷ []) → ⊥
      stop server kept n (inl is) = absurd cc
      stop server kept n (inr none) = absurd none

      stopped : (f : Option Fuse) → Acks w (not_done w (w.control.volume (target m)).server f)
      stopped f = record { told = Stopped (w.control.volume (target m)).server 0 ∷ []; is = refl; acks = λ i here. absurd (stop _ 0 i here) }

      one : Elsewhere n → (i : ℕ) → In (Ack i) (Ack n ∷ []) → Elsewhere i
      one there i (inl is) = let same : n ≡ i = cc in subst Elsewhere same there
      one there i (inr none) = absurd none

      other : Elsewhere n → Acks w (turn w m).0
      other there = turn-cases w m (λ (t : Turn). Acks w t.0) (λ off. acks-same w)
          (λ f. record { told = Ack n ∷ []; is = ap (λ es. w.events ++ es) (lands.done (w.control.volume (target m))); acks = one there })
          (λ f. record { told = Stopped (w.control.volume (target m)).server (landed m) ∷ []; is = ap (λ es. w.events ++ (es ++ Stopped (w.control.volume (target m)).server (landed m) ∷ [])) (lands.stopped (w.control.volume (target m))); acks = λ i here. absurd (stop _ (landed m) i here) })
          stopped

      by : (is_volume base.control v ≡ true) ⊎ (is_volume base.control v ≡ false) → ((base.control.volume v).server ≡ s) ⊎ ((base.control.volume v).server ≢ s) → Acks w (turn w m).0
      by (inr none) h = other (v, is-write-on base.control asked n v t write, λ there. absurd (false_true none there))
      by (inl there) (inr far) = other (v, is-write-on base.control asked n v t write, λ there e. far e)
      by (inl there) (inl own) =
          let here : (w.control.volume (target m)).server ≡ s = ap (λ v. (w.control.volume v).server) lands.at ∙ ap (λ (y : Volume). y.server) (k.leaves.volume v there own) ∙ own in
          quiet-turn s w m (λ (t : Turn). Acks w t.0) k.quiet here (acks-same w) stopped

  -- of a step that starts no server
  module _ (not_start : (name : Name) → asked ≡ Ok (Start name) → ⊥) where
    act-acks : (w : World) (a : Act) → Keeps s base w → ActCase base.control asked a → Acks w (act w a).0
    act-acks w a k (Silent _ nothing) =
        let since = (act-turned false w a nothing).unacknowledged.since in
        record { told = since.added; is = since.events; acks = λ n here. absurd (subst (In n) since.silent.none (acked-in since.added n here)) }
    act-acks w _ k (Mirroring u t v n) = subst (λ (x : Turn). Acks w x.0) (sym (act-move w m)) (turn-cases w m (λ (x : Turn). Acks w x.0) (λ off. acks-same w)
        (λ f. record { told = Mirrored n u ∷ []; is = refl; acks = λ i here. absurd (mirrored i here) })
        (λ f. record { told = Mirrored n u ∷ Stopped (w.control.volume u).server 0 ∷ []; is = refl; acks = λ i here. elim here [ inl e ↦ absurd (mirrored i (inl e)) | inr later ↦ absurd (stopped i later) ] })
        (λ f. record { told = Stopped (w.control.volume u).server 0 ∷ []; is = refl; acks = λ i here. absurd (stopped i here) }))
      where
        m : Move
        m = Mirror u t v n

        mirrored : (i : ℕ) → In (Ack i) (Mirrored n u ∷ []) → ⊥
        mirrored i (inl is) = cc
        mirrored i (inr never) = never

        stopped : (i : ℕ) → In (Ack i) (Stopped (w.control.volume u).server 0 ∷ []) → ⊥
        stopped i (inl is) = cc
        stopped i (inr never) = never
    act-acks w _ k (Lets n) = subst (λ (t : Turn). Acks w t.0) (sym (act-drop w n)) (record { told = []; is = sym (append-nil w.events); acks = λ n here. absurd here })
    act-acks w _ k (Landing m n v t lands write) = subst (λ (t : Turn). Acks w t.0) (sym (act-move w m)) (land-acks w m n v t lands k write)
    act-acks w _ k (Starting name n is) = absurd (not_start name is)

    -- since the step began
    record Since (u : World) : Type 0 where
      keeps : Keeps s base u
      acks : Acks base u

    does-acks : (u : World) (a : Act) → Acts base.control asked u a → Since u → Since (act u a).0
    does-acks u a does j = record { keeps = act-keeps s base u a j.keeps; acks = acks-then base u (act u a).0 j.acks (act-acks u a j.keeps (does-case base.control asked u.control a does)) }

    -- a plan whose acts are those of the step
    plan-acks : (p : Plan) → Entered base asked p → Since (begun base p) → ((v : World) → Since v → Since (record v { control = p.last v.control })) → Acks base (carried_out base p).0
    plan-acks p entered begins last = (plan-from any_world (Acts base.control asked) NoStop (Late asked) Since (λ u j. tt) does-acks base p begins entered.entries entered.follows last).acks

    answered-acks : (line : ℕ) (p : Plan) → Acks base (carried_out base p).0 → Acks base (answered_part line (record { world = base; plan = p }))
    unfolding after_plan
    answered-acks line p acks = acks-then base (carried_out base p).0 (answered_part line (record { world = base; plan = p })) acks
        (record { told = answer line (answered p (carried_out base p).0.control (carried_out base p).1) ∷ []; is = refl; acks = λ n here. absurd (no-answer n line (answered p (carried_out base p).0.control (carried_out base p).1) here) })

    says-acks : (line : ℕ) (r : Refusal) → Acks base (answered_part line (record { world = base; plan = refuses r }))
    says-acks line r = subst (λ u. Acks base (masters_lost base u)) (sym (plan-refuses base line r)) (record { told = answer line (Refused r) ∷ []; is = refl; acks = λ n here. absurd (no-answer n line (Refused r) here) })

    room-acks : (line : ℕ) (b : Bool) (p : Plan) → Acks base (answered_part line (record { world = base; plan = p })) → Acks base (answered_part line (record { world = base; plan = cond b p (refuses JournalFull) }))
    room-acks line true p acks = acks
    room-acks line false p acks = says-acks line JournalFull

    unless-acks : (line : ℕ) (o : Option Refusal) (p : Plan) → (o ≡ None → Acks base (answered_part line (record { world = base; plan = p }))) → Acks base (answered_part line (record { world = base; plan = unless o p }))
    unless-acks line None p acks = acks refl
    unless-acks line (Some r) p acks = says-acks line r

-- ---- steps

module _ (s : ℕ) (w : World) (quiet : WritesNothing w s) (line : ℕ) where
  abbrev Leads : Result Step ℕ → Plan → Type 0
  Leads asked p = Acks s w asked w (answered_part line (record { world = w; plan = p }))

  write-acks : (v t offset len : ℕ) (bytes : List ℕ) → Leads (Ok (Write v t offset len bytes)) (plan w.control w.events line (Ok (Write v t offset len bytes)))
  write-acks v t offset len bytes =
      room-acks s w asked other line (has_room w.events) (write_plan w.control v t offset len bytes) (unless-acks s w asked other line (issue_refusal w.control v t) p (λ free.
      answered-acks s w asked other line p (plan-acks s w asked other p (case-does w line asked p (Writes v t offset len bytes free))
      (record {
        keeps = untouched s w w (begun w p) (begins-kept s w quiet) refl refl refl (still s w w (begun w p) quiet refl refl);
        acks = record { told = Issue (w.control.issued + 1) v t offset len bytes ∷ []; is = refl; acks = λ n here. absurd (no-issue n here) };
      }) (λ u j. j))))
    where
      asked : Result Step ℕ
      asked = Ok (Write v t offset len bytes)

      other : (name : Name) → asked ≡ Ok (Start name) → ⊥
      other name is = cc

      p : Plan
      p = write_done w.control v t offset len bytes

      no-issue : (n : ℕ) → In (Ack n) (Issue (w.control.issued + 1) v t offset len bytes ∷ []) → ⊥
      no-issue n (inl is) = cc
      no-issue n (inr never) = never

  apply-acks : (n : ℕ) → Leads (Ok (Apply n)) (plan w.control w.events line (Ok (Apply n)))
  apply-acks n = room-acks s w asked other line (has_room w.events) (apply_plan w.control n) (by (find (is_write n) w.control.pending) refl)
    where
      asked : Result Step ℕ
      asked = Ok (Apply n)

      other : (name : Name) → asked ≡ Ok (Start name) → ⊥
      other name is = cc

      by : (o : Option Pending) → find (is_write n) w.control.pending ≡ o → Leads asked (apply_on w.control o)
      by None is = says-acks s w asked other line (unknown OfWrite)
      by (Some p) is = answered-acks s w asked other line (apply_done w.control p) (plan-acks s w asked other (apply_done w.control p) (case-does w line asked (apply_done w.control p) (Applies n p is))
          (record { keeps = untouched s w w (begun w (apply_done w.control p)) (begins-kept s w quiet) refl refl refl (still s w w (begun w (apply_done w.control p)) quiet refl refl); acks = record { told = []; is = refl; acks = λ n here. absurd here } }) (λ u j. j))

-- a step that starts another server acknowledges a write on a volume of that one
module _ (s : ℕ) (w : World) (line : ℕ) (name : Name) (other : server_named w.control (name_bytes name) ≡ Some s → ⊥) where
  abbrev Started : ℕ → Type 0
  Started n = (q : ℕ) × (server_named w.control (name_bytes name) ≡ Some q) × (landed_on w.control q ≡ Some n)

  abbrev Says : Plan → Type 0
  Says p = (n : ℕ) → In n (acked (answered p (carried_out w p).0.control (carried_out w p).1)) → Started n

  says-none : (a : Said) → acked a ≡ [] → Says (only_says a)
  says-none a none n here = absurd (by (carried_out w (only_says a)).1 here)
    where
      by : (r : Option Refusal) → In n (acked (answered (only_says a) (carried_out w (only_says a)).0.control r)) → ⊥
      by None here = subst (In n) none here
      by (Some r) here = here

  says-started : (q : ℕ) → server_named w.control (name_bytes name) ≡ Some q → Says (start_plan w.control q)
  says-started q named n here = by (carried_out w (start_plan w.control q)).1 here
    where
      one : (o : Option ℕ) → landed_on w.control q ≡ o → In n (acked (says_acked o)) → Started n
      one None is here = absurd here
      one (Some m) is (inl same) = (q, named, is ∙ ap Some (sym same))
      one (Some m) is (inr never) = absurd never

      by : (r : Option Refusal) → In n (acked (answered (start_plan w.control q) (carried_out w (start_plan w.control q)).0.control r)) → Started n
      by None here = one (landed_on w.control q) refl here
      by (Some r) here = absurd here

  says-start : (b : Bool) (o : Option ℕ) → server_named w.control (name_bytes name) ≡ o → Says (cond b (on_named o (start_on w.control)) (refuses JournalFull))
  says-start false o named = says-none (Refused JournalFull) refl
  says-start true None named = says-none (Refused (unknown OfServer)) refl
  says-start true (Some q) named = by (w.control.on q)
    where
      by : (on : Bool) → Says (cond on (only_says (Done Alone)) (start_plan w.control q))
      by true = says-none (Done Alone) refl
      by false = says-started q named

  started-elsewhere : (n : ℕ) → Started n → Elsewhere s w (Ok (Start name)) n
  started-elsewhere n (q, named, lands) = by (find (has_landed w.control q) w.control.pending) refl
    where
      by : (o : Option Pending) → find (has_landed w.control q) w.control.pending ≡ o → Elsewhere s w (Ok (Start name)) n
      by None is = let no : None ≡ Some n = sym (ap (option_map (λ (p : Pending). p.w)) is) ∙ lands in absurd cc
      by (Some p) is =
          let here = found (has_landed w.control q) w.control.pending p is in
          let same : p.w ≡ n = (let both : Some p.w ≡ Some n = sym (ap (option_map (λ (p : Pending). p.w)) is) ∙ lands in cc) in
          let owns : belongs w.control q p.volume ≡ true = (and_parts p.landed (belongs w.control q p.volume) here.1).1 in
          let on : nat_eq (w.control.volume p.volume).server q ≡ true = (and_parts (is_volume w.control p.volume) (nat_eq (w.control.volume p.volume).server q) owns).1 in
          let server : (w.control.volume p.volume).server ≡ q = grind (arith, nat_tests) in
          (p.volume, inl (p, here.0, same, refl), λ there own. other (named ∙ ap Some (sym server ∙ own)))

-- any step
module _ (s : ℕ) (w : World) (quiet : WritesNothing w s) (line : ℕ) (listed : List Listed) where
  abbrev step : Result Step ℕ → Task
  step asked = record { line = line; asked = asked; listed = listed }

  by-acks : (asked : Result Step ℕ) → Acks s w asked w (after_task w (step asked)) → AcknowledgesElsewhere s w (step asked)
  by-acks asked a n here = a.acks n (subst (In (Ack n)) (told-since w (after_task w (step asked)) a.told a.is) here)

  -- what the answer says is acknowledged
  by-answer : (asked : Result Step ℕ) → ((n : ℕ) → In n (acknowledged_by asked (said_in w (step asked))) → Elsewhere s w asked n) → AcknowledgesElsewhere s w (step asked)
  by-answer asked all n here =
      let a = acked-task w (step asked) in
      let u : World = after_task w (step asked) in
      let told : told_since w u ≡ a.told ++ answer line (said_in w (step asked)) ∷ [] = told-since w u _ (a.events ∙ append_assoc w.events a.told (answer line (said_in w (step asked)) ∷ [])) in
      elim (in-joined a.told (answer line (said_in w (step asked)) ∷ []) (Ack n) (subst (In (Ack n)) told here)) [
        | inl first ↦ all n (subst (In n) a.acknowledged (acked-in a.told n first))
        | inr last ↦ absurd (no-answer n line (said_in w (step asked)) last)
      ]

  elsewhere : (asked : Result Step ℕ) → ((name : Name) → asked ≡ Ok (Start name) → server_named w.control (name_bytes name) ≡ Some s → ⊥) → AcknowledgesElsewhere s w (step asked)
  elsewhere (Ok (Write v t offset len bytes)) other = by-acks _ (write-acks s w quiet line v t offset len bytes)
  elsewhere (Ok (Apply n)) other = by-acks _ (apply-acks s w quiet line n)
  elsewhere (Ok (Start name)) other =
      by-answer (Ok (Start name)) (λ n here. started-elsewhere s w line name (other name refl) n (says-start s w line name (other name refl) (has_room w.events) (server_named w.control (name_bytes name)) refl n here))
  elsewhere asked other = by-answer asked (λ n here. absurd here)

pub last-write : (s : ℕ) (w : World) (t : Task) → LastWriteLeavesNothing s w t
last-write s w t quiet other = (leaves-volumes s w t quiet other, elsewhere s w quiet t.line t.listed t.asked other)
