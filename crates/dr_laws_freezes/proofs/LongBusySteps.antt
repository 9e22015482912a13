-- Each step keeps a primary long busy that no step lets go, and no write lands on it.
use Rattle.std.proofs.Common.{ℕ, ◌≡◌, ◌≢◌, ◌<◌, ◌+◌, inl, inr, refl, ap, sym, ◌∙◌, subst, arith, Bool, true, false, cond, not, ◌&&◌, ◌||◌, nat_eq, List, [], ◌∷◌, ◌++◌, Option, Some, None, Result, Ok, Err, ◌==◌}
use Rattle.std.specs.Prelude.{option_map}
use Rattle.std.specs.List.{find, list_any}
use Rattle.std.proofs.lemmas.Bool.{and_parts, and_from, eq-eqb, eqb-true}
use Rattle.std.proofs.Math.Bool.{or-true}
use Rattle.std.proofs.lemmas.List.Folds.{list_any-append}
use Rattle.dr_model.specs.declared.event.Event.{Event}
use Rattle.dr_model.specs.declared.event.Event.TheVariants.{Ack, Issue as IssueTold, Volume as VolumeDefined}
use Rattle.dr_model.specs.declared.said.Said.{Said}
use Rattle.dr_model.specs.declared.step.Step.{Step}
use Rattle.dr_ids.specs.declared.refusal.Refusal.TheVariants.{JournalFull}
use Rattle.dr_model.specs.declared.step.Step.TheVariants.{Write, Apply, Image, Drain, Exchange, Run}
use Rattle.dr_model.specs.Limits.{image_events}
use Rattle.dr_model.specs.PlantImage.{Volume as ListedVolume}
use Rattle.dr_model.specs.Answers.{answer}
use Rattle.dr_model.specs.Control.{Control, Pending, Volume as VolumeOf, World, new_volume, is_volume}
use Rattle.dr_model.specs.Layout.{is_part}
use Rattle.dr_model.specs.Histories.{Write as HostWrite, Histories, after_event, histories}
use Rattle.dr_model.specs.Groups.{In, SecondariesUncascaded}
use Rattle.dr_model.specs.Pairs.{held}
use Rattle.dr_model.specs.Carry.{Act}
use Rattle.dr_model.specs.Entries.{fields_at, is_at, subsystem, is_running}
use Rattle.dr_model.specs.PairEntries.{belongs_to, may_lead}
use Rattle.dr_model.specs.WriteEntries.{partner_of, is_between, belongs}
use Rattle.dr_model.specs.Plans.{Plan, has_landed, has_room_for, refuses, volume_done, volume_refusal, with_pending, same}
use Rattle.dr_model.specs.Forming.{Part, after_part}
use Rattle.dr_model.specs.Runs.{Task, course, begun, carried_out, answered, answered_part, after_plan, after_task, masters_lost, said, image_told, image_plan, imaged}
use Rattle.dr_model.specs.Listings.{lists}
use Rattle.dr_model.proofs.Images.{histories-push}
use Rattle.dr_facts.proofs.Entries.{any_world, from-none, plan-from}
use Rattle.dr_facts.proofs.Issued.{with-told}
use Rattle.dr_facts.proofs.Lists.{found, in-joined}
use Rattle.dr_facts.proofs.Reasons.{NoStop}
use Rattle.dr_logic.specs.Tables.{at}
use Rattle.dr_logic.proofs.Tables.{at_same, at_other}
use Rattle.dr_logic.proofs.Truth.{false_true}
use Rattle.dr_laws_closed.proofs.Pendings.{each-on, all-more}
use Rattle.dr_laws_sound.proofs.Cases.{Case, Says, Writes, Applies, Lists, PausesMirror, Compares, Settles, Commits, Reverts, is-new, refused-not}
use Rattle.dr_laws_sound.proofs.Does.{IsWrite, Issued, Found, Does, Acts, Late, Lands, Overwrites, LandsBoth, MakesSecondary, MakesPrimary, DropsPrimary, Resumes, TakesOver, RecoversSecondary, Yields, Thaws, Lifts, Acknowledges}
use Rattle.dr_laws_sound.proofs.DoesPlans.{Entered, case-does}
use Rattle.dr_laws_sound.proofs.Listed.{AllLines, image-lines}
use Rattle.dr_laws_sound.proofs.Starts.{find-all}
use Rattle.dr_laws_sound.proofs.Parts.{Comes, asks_turn, last-plan, plain-case}
use Rattle.dr_laws_freezes.specs.Frozen.{lets_go}
use Rattle.dr_laws_freezes.proofs.Begun as before
use Rattle.dr_laws_freezes.proofs.Begun.{Beside, lines-beside, leaves}
use Rattle.dr_laws_freezes.proofs.Chains.{Retabled, retabled-none}
use Rattle.dr_laws_freezes.proofs.LongBusy.{Busy, Ok as OkAct, Elsewhere, Frozen, frozen-act, frozen-told, second-from}
use Rattle.dr_model.specs.Laws.{Sound}
use Rattle.dr_laws_sound.proofs.Steps.{sound-part}
use Rattle.dr_laws_sound.proofs.FitsCollide.{uncascaded-second}
use Rattle.dr_model.specs.Sessions.{Session, session_in, members_in}
use Rattle.dr_ids.specs.declared.names.Member.{Member}

-- no write
abbrev pub none : ℕ → Type 0
none n = ⊥

not-same : (a b : ℕ) → nat_eq a b ≡ false → a ≢ b
not-same a b differ equal = false_true differ (eq-eqb a b equal)

-- what is known of a volume that is long busy goes on, with writes of other numbers
module _ (v b s : ℕ) (base : List Event) where
  with-writes : (N O : ℕ → Type 0) (w : World) → ((n : ℕ) → O n → Elsewhere v b s O w n) → Frozen v b s N base w → Frozen v b s O base w
  with-writes N O w elsewhere k = record {
    rooted = record { there = k.rooted.there; busy = k.rooted.busy; server = k.rooted.server };
    silent = record { waits = k.silent.waits; issued = k.silent.issued; old = k.silent.old; acked = k.silent.acked; elsewhere = elsewhere };
  }

  -- a write is issued
  module _ (w : World) (x t offset len : ℕ) (bytes : List ℕ) where
    abbrev n : ℕ
    n = w.control.issued + 1

    abbrev issued : World
    issued = record w { control = with_pending x t w.control; events = w.events ++ IssueTold n x t offset len bytes ∷ [] }

    issued-is : (histories issued.events).write n ≡ (after_event (histories w.events) (IssueTold n x t offset len bytes)).write n
    issued-is = ap (λ (h : Histories). h.write n) (histories-push w.events (IssueTold n x t offset len bytes))

    issued-new : ((histories issued.events).write n).volume ≡ x
    issued-new = ap (λ (y : HostWrite). y.volume) (issued-is ∙ at_same (histories w.events).write n _)

    issued-old : (j : ℕ) → j < n → (histories issued.events).write j ≡ (histories w.events).write j
    issued-old j lt = ap (λ (h : Histories). h.write j) (histories-push w.events (IssueTold n x t offset len bytes)) ∙ at_other (histories w.events).write n _ j (λ same. below j n lt same)
      where
        below : (j n : ℕ) → j < n → j ≡ n → ⊥
        below j n lt same = let e : j ≡ n = same in omega (arith, lt, e)

    up : (j : ℕ) → j < n → j < n + 1
    up j lt = omega (arith, lt)

    pub issue-frozen : (N O : ℕ → Type 0) → ((j : ℕ) → O j → Elsewhere v b s O issued j) → Frozen v b s N base w → Frozen v b s O base issued
    issue-frozen N O elsewhere k = record {
      rooted = record { there = k.rooted.there; busy = k.rooted.busy; server = k.rooted.server };
      silent = record {
        waits = all-more _ w.control.pending _ k.silent.waits (λ on. refl);
        issued = all-more _ w.control.pending _ (each-on (λ p a. (up p.w a.0, ap (λ (y : HostWrite). y.volume) (issued-old p.w a.0) ∙ a.1)) w.control.pending k.silent.issued) (omega arith, issued-new);
        old = λ j here. up j (k.silent.old j (was j here));
        acked = λ j here on. let h = was j here in k.silent.acked j h (ap (λ (y : HostWrite). y.volume) (sym (issued-old j (k.silent.old j h))) ∙ on);
        elsewhere = elsewhere;
      };
    }
      where
        was : (j : ℕ) → In (Ack j) issued.events → In (Ack j) w.events
        was j here = elim (in-joined w.events (IssueTold n x t offset len bytes ∷ []) (Ack j) here) [
          | inl h ↦ h
          | inr h ↦ absurd (other h)
        ]
          where
            other : In (Ack j) (IssueTold n x t offset len bytes ∷ []) → ⊥
            other (inl is) = cc
            other (inr none) = absurd none

-- a step that doesn't let it go
module _ (v b s : ℕ) (base : List Event) (w : World) (k : Frozen v b s none base w) (alone : SecondariesUncascaded w.control) where
  abbrev c : Control
  c = w.control

  -- the writes that were issued for other volumes, as its entries begin
  abbrev Others : World → ℕ → Type 0
  Others u n = Elsewhere v b s none u n

  -- v is a secondary only if it was as the step began
  abbrev Lasts : (ℕ → Type 0) → World → Type 0
  Lasts N u = Frozen v b s N base u × (is_part (fields_at u.control v).secondary ≡ true → is_part (fields_at c v).secondary ≡ true)

  abbrev Begun : World → Type 0
  Begun u = Lasts (Others u) u

  is-held : held (fields_at c v) ≡ true
  is-held = ap (λ y. ((fields_at c v).coordination || y) || (fields_at c v).flash_hold) k.rooted.busy.busy ∙ ap (λ y. y || (fields_at c v).flash_hold) (or-true (fields_at c v).coordination)

  no-primary : (x : ℕ) → not (is_part (fields_at c x).primary) ≡ true → x ≢ v
  no-primary x free same = false_true (ap not k.rooted.busy.primary) (subst (λ x. not (is_part (fields_at c x).primary) ≡ true) same free)

  no-lead : (x y : ℕ) (cascade : Bool) → may_lead cascade x y c ≡ true → x ≢ v
  no-lead x y true leads = no-primary x (and_parts (not (is_part (fields_at c x).primary)) _ leads).0
  no-lead x y false leads = no-primary x (and_parts (not (is_part (fields_at c x).primary)) _ leads).0

  -- ---- the acts that come in it

  -- the writes that it carries out were issued
  abbrev Known : Result Step ℕ → World → Type 0
  Known asked first = (n x t : ℕ) → IsWrite c asked n x t → (n < first.control.issued + 1) × (((histories first.events).write n).volume ≡ x)

  elsewhere : (asked : Result Step ℕ) (first : World) → Known asked first → (n x t : ℕ) → IsWrite c asked n x t → held (fields_at c x) ≡ false → Others first n
  elsewhere asked first known n x t is free = let i = known n x t is in (i.0, λ on. false_true free (subst (λ j. held (fields_at c j) ≡ true) (sym on ∙ i.1) is-held))

  -- thaws, and holds that end, are of others
  not-thawed : (u : World) → Busy b (fields_at u.control v) → (l m x : ℕ) → (nat_eq (subsystem v) l && nat_eq (subsystem (partner_of c v)) m) ≡ false → is_between u.control l m x ≡ true → x ≢ v
  not-thawed u busy l m x other is same =
      let first = and_parts (nat_eq (subsystem v) l) _ (subst (λ x. is_between u.control l m x ≡ true) same is) in
      let third = and_parts (is_part (fields_at u.control v).primary) _ (and_parts (is_running v u.control) _ first.1).1 in
      let partner : partner_of u.control v ≡ partner_of c v = busy.partner ∙ sym k.rooted.busy.partner in
      false_true other (and_from (nat_eq (subsystem v) l) _ first.0 (ap (λ y. nat_eq (subsystem y) m) (sym partner) ∙ third.1))

  not-lifted : (u : World) → (u.control.volume v).server ≡ s → (q x : ℕ) (o : Option ℕ) → o ≡ Some q → is_at o (c.volume v).server ≡ false → belongs u.control q x ≡ true → x ≢ v
  not-lifted u server q x o named other is same =
      let its : (u.control.volume v).server ≡ q = eqb-true _ _ (and_parts (is_volume u.control v) _ (subst (λ x. belongs u.control q x ≡ true) same is)).1 in
      not-same q (c.volume v).server (ap (λ o. is_at o (c.volume v).server) (sym named) ∙ other) (sym its ∙ server ∙ sym k.rooted.server)

  acknowledged : (first u : World) → Frozen v b s (Others first) base u → (q n : ℕ) (o : Option Pending) → find (has_landed u.control q) u.control.pending ≡ o → option_map (λ (p : Pending). p.w) o ≡ Some n → Others u n
  acknowledged first u j q n None is none = absurd cc
  acknowledged first u j q n (Some p) is number =
      let same : p.w ≡ n = cc in
      let known = find-all (λ p. (p.w < u.control.issued + 1) × (((histories u.events).write p.w).volume ≡ p.volume)) (has_landed u.control q) p u.control.pending is j.silent.issued in
      let waits = find-all (λ p. p.volume ≡ v → p.landed ≡ false) (has_landed u.control q) p u.control.pending is j.silent.waits in
      let landed : p.landed ≡ true = (and_parts p.landed _ (found (has_landed u.control q) u.control.pending p is).1).0 in
      subst (Others u) same (known.0, λ on. false_true (waits (sym known.1 ∙ on)) landed)

  -- as a primary v is the secondary of no member that is one
  member-alone : (i : ℕ) (m : Member) → In m (members_in (session_in c.sessions i)) → is_part (fields_at c m.b.0).primary ≡ true → is_part (fields_at c m.b.0).secondary ≡ false
  member-alone i m here = by (session_in c.sessions i) refl here
    where
      by : (o : Option Session) → session_in c.sessions i ≡ o → In m (members_in o) → is_part (fields_at c m.b.0).primary ≡ true → is_part (fields_at c m.b.0).secondary ≡ false
      by None is here = absurd here
      by (Some x) is here = alone x m (found (λ (y : Session). y.number == i) c.sessions x is).0 here

  does-frozen : (asked : Result Step ℕ) (first : World) → lets_go c asked v ≡ false → Known asked first → (u : World) (a : Act) → Does c asked u.control a → Lasts (Others first) u → OkAct v b s (Others first) u a
  does-frozen asked first stay known u _ (Lands n x t is free) j = elsewhere asked first known n x t is free
  does-frozen asked first stay known u _ (Overwrites n x t is free) j = elsewhere asked first known n x t is free
  does-frozen asked first stay known u _ (LandsBoth n x t is free) j = elsewhere asked first known n x t is free
  does-frozen _ first stay known u _ (MakesSecondary a x kind state follows) j = no-primary x (and_parts (not (is_part (fields_at c x).primary)) _ follows).0
  does-frozen _ first stay known u _ (MakesPrimary a x kind state full cascade leads) j = no-lead a x cascade leads
  does-frozen _ first stay known u _ (DropsPrimary a) j = not-same a v stay
  does-frozen _ first stay known u _ (Resumes a) j = not-same a v stay
  does-frozen _ first stay known u _ (Yields x y kind state leads) j = not-same y v stay
  does-frozen _ first stay known u _ (TakesOver x a kind may unfed) j = λ same.
      let its : (is_part (fields_at c x).secondary && nat_eq (fields_at c x).secondary_partner a) ≡ true = (and_parts (belongs_to a x c) _ may).0 in
      false_true (uncascaded-second (fields_at c x) unfed (and_parts (is_part (fields_at c x).secondary) _ its).0) (subst (λ y. is_part (fields_at c y).primary ≡ true) (sym same) k.rooted.busy.primary)
  does-frozen _ first stay known u _ (RecoversSecondary i m here is) j = λ same.
      let was : is_part (fields_at c v).secondary ≡ true = j.1 (subst (λ x. is_part (fields_at u.control x).secondary ≡ true) same is) in
      false_true (member-alone i m here (subst (λ x. is_part (fields_at c x).primary ≡ true) (sym same) k.rooted.busy.primary)) (subst (λ x. is_part (fields_at c x).secondary ≡ true) (sym same) was)
  does-frozen _ first stay known u _ (Thaws l m x is) j = not-thawed u j.0.rooted.busy l m x stay (and_parts (is_between u.control l m x) _ is).0
  does-frozen _ first stay known u _ (Lifts q x is) j = not-lifted u j.0.rooted.server q x _ is.0 stay (and_parts (belongs u.control q x) _ is.1).0
  does-frozen _ first stay known u _ (Acknowledges q n is) j = acknowledged first u j.0 q n _ refl is
  does-frozen asked first stay known u _ d j = tt

  -- ---- its plan

  retabled : (N : ℕ → Type 0) (u : World) (k : Control) → Retabled u.control k → Frozen v b s N base u → Frozen v b s N base (record u { control = k })
  retabled N u k other j = subst (λ k. Frozen v b s N base (record u { control = k })) (sym other.is) (record {
    rooted = record { there = j.rooted.there; busy = j.rooted.busy; server = j.rooted.server };
    silent = record { waits = j.silent.waits; issued = j.silent.issued; old = j.silent.old; acked = j.silent.acked; elsewhere = j.silent.elsewhere };
  })

  kept : (asked : Result Step ℕ) (p : Plan) → Entered w asked p → Begun (begun w p) → ((j : Control) → Retabled j (p.last j)) → lets_go c asked v ≡ false → Known asked (begun w p) → Frozen v b s none base (carried_out w p).0
  kept asked p does begins last stay known =
      let N : (ℕ → Type 0) = Others (begun w p) in
      with-writes v b s base N none (carried_out w p).0 (λ n h. absurd h)
      (plan-from any_world (Acts c asked) NoStop (Late asked) (Lasts N) (λ u j. tt)
      (λ u a d j. let ok = does-frozen asked (begun w p) stay known u a d j in (frozen-act v b s N base u a ok j.0, λ h. j.1 (second-from v b s N base u a ok j.0 h))) w p begins does.entries does.follows
      (λ u j. (retabled N u _ (last u.control) j.0, λ h. j.1 (subst (λ k. is_part (fields_at k v).secondary ≡ true) (last u.control).is h)))).0

  -- as it begins
  beside : (j : Control) (told : List Event) → Beside w j told → Begun (record w { control = j; events = w.events ++ told })
  beside j told x =
      let u : World = record w { control = j; events = w.events ++ told } in (
        with-writes v b s base none (Others u) u (λ n is. is) (frozen-told v b s none base w u told refl (ap (λ (h : Histories). h.write) x.lists) x.issued x.unacked x.pending (record {
          there = ap (λ vs. list_any (nat_eq v) vs) x.volumes ∙ k.rooted.there;
          busy = subst (λ (f : ℕ → VolumeOf). Busy b (f v).fields) (sym x.volume) k.rooted.busy;
          server = ap (λ (f : ℕ → VolumeOf). (f v).server) x.volume ∙ k.rooted.server;
        }) k),
        λ h. subst (λ (f : ℕ → VolumeOf). is_part (f v).fields.secondary ≡ true) x.volume h,
      )

  -- a volume that is defined is another one
  defines : (x q tracks : ℕ) → volume_refusal c x q tracks ≡ None → Begun (begun w (volume_done x q tracks))
  defines x q tracks free =
      let u : World = begun w (volume_done x q tracks) in
      let other : v ≢ x = λ same. false_true (is-new c x q tracks free).undefined (subst (λ j. is_volume c j ≡ true) same k.rooted.there) in
      let old : at c.volume x (new_volume q tracks) v ≡ c.volume v = at_other c.volume x (new_volume q tracks) v other in (
        with-writes v b s base none (Others u) u (λ n is. is) (frozen-told v b s none base w u (VolumeDefined x q tracks ∷ []) refl (with-told w (VolumeDefined x q tracks ∷ []) refl) refl refl refl (record {
          there = list_any-append (nat_eq v) c.volumes (x ∷ []) ∙ ap (λ y. y || list_any (nat_eq v) (x ∷ [])) k.rooted.there;
          busy = subst (λ (y : VolumeOf). Busy b y.fields) (sym old) k.rooted.busy;
          server = ap (λ (y : VolumeOf). y.server) old ∙ k.rooted.server;
        }) k),
        λ h. subst (λ (y : VolumeOf). is_part y.fields.secondary ≡ true) old h,
      )

  case-begins : (line : ℕ) (asked : Result Step ℕ) (p : Plan) → Case c w.events line asked p → Begun (begun w p)
  case-begins = before.begins w (λ j told. Begun (record w { control = j; events = w.events ++ told })) beside defines
      (λ x t offset len bytes. (issue-frozen v b s base w x t offset len bytes none (Others (issued v b s base w x t offset len bytes)) (λ n is. is) k, λ h. h))

  by-case : (line : ℕ) (asked : Result Step ℕ) (p : Plan) → Case c w.events line asked p → lets_go c asked v ≡ false → Known asked (begun w p) → Frozen v b s none base (carried_out w p).0
  by-case line asked p x = kept asked p (case-does w line asked p x) (case-begins line asked p x) (leaves c w.events line asked p x)

  -- a step that carries out no write
  abbrev writes : Result Step ℕ → Bool
  writes (Ok (Write x t offset len bytes)) = true
  writes (Ok (Apply n)) = true
  writes asked = false

  unwritten : (asked : Result Step ℕ) (first : World) → writes asked ≡ false → Known asked first
  unwritten _ first none_so n x t (Issued _ _ offset len bytes) = absurd cc
  unwritten _ first none_so n x t (Found m p is) = absurd cc

  unwritten-kept : (line : ℕ) (asked : Result Step ℕ) (p : Plan) → Case c w.events line asked p → lets_go c asked v ≡ false → writes asked ≡ false → Frozen v b s none base (carried_out w p).0
  unwritten-kept line asked p x stay none_so = by-case line asked p x stay (unwritten asked (begun w p) none_so)

  pub case-kept : (line : ℕ) (asked : Result Step ℕ) (p : Plan) → Case c w.events line asked p → lets_go c asked v ≡ false → Frozen v b s none base (carried_out w p).0
  case-kept line _ _ (Says a waits why) stay = unwritten-kept line (Ok (Run 0 0)) _ (Says a waits (λ one. absurd cc)) refl refl
  case-kept line _ _ (Lists told ls few) stay = unwritten-kept line (Err 0) _ (Lists told ls few) refl refl
  case-kept line _ _ (PausesMirror i on) stay = unwritten-kept line (Err 0) _ (PausesMirror i on) refl refl
  case-kept line _ _ (Compares contents x y) stay = unwritten-kept line (Err 0) _ (Compares contents x y) refl refl
  case-kept line _ _ (Writes x t offset len bytes free) stay = by-case line _ _ (Writes x t offset len bytes free) refl (λ n y q is. of n y q is)
    where
      of : (n y q : ℕ) → IsWrite c (Ok (Write x t offset len bytes)) n y q → (n < c.issued + 1 + 1) × (((histories (w.events ++ IssueTold (c.issued + 1) x t offset len bytes ∷ [])).write n).volume ≡ y)
      of _ _ _ (Issued _ _ _ _ _) = (omega arith, issued-new v b s base w x t offset len bytes)
  case-kept line _ _ (Applies n p found) stay = by-case line _ _ (Applies n p found) refl (λ m y q is. of m y q is)
    where
      of : (m y q : ℕ) → IsWrite c (Ok (Apply n)) m y q → (m < c.issued + 1) × (((histories (w.events ++ [])).write m).volume ≡ y)
      of _ _ _ (Found _ p is) =
          let known = find-all (λ p. (p.w < c.issued + 1) × (((histories w.events).write p.w).volume ≡ p.volume)) _ p c.pending is k.silent.issued in
          (known.0, ap (λ (f : ℕ → HostWrite). (f p.w).volume) (with-told w [] refl) ∙ known.1)
  case-kept line _ _ (Settles i x m here inside on free (Commits devs source sequence lets)) stay = unwritten-kept line _ _ (Settles i x m here inside on free (Commits devs source sequence lets)) refl refl
  case-kept line _ _ (Settles i x m here inside on free (Reverts devs source sequence t target own)) stay = unwritten-kept line _ _ (Settles i x m here inside on free (Reverts devs source sequence t target own)) refl refl
  case-kept line asked p x stay = unwritten-kept line asked p x stay refl

  -- an image
  pub lines-kept : (told : List Event) → AllLines told → Frozen v b s none base (carried_out w (lists told)).0
  lines-kept told ls =
      let u : World = begun w (lists told) in
      kept (Err 0) (lists told) (record { entries = from-none any_world (Acts c (Err 0)) NoStop (Late (Err 0)) u; follows = λ q. tt }) (beside c told (lines-beside w told ls)) retabled-none refl (unwritten (Err 0) u refl)

-- ---- every step

module _ (v b s : ℕ) (base : List Event) where
  abbrev Long : World → Type 0
  Long w = Frozen v b s none base w

  -- beside soundness
  abbrev Both : World → Type 0
  Both w = Sound w × Long w

  turn-stays : (k : Control) (asked : Result Step ℕ) → asks_turn asked ≡ true → lets_go k asked v ≡ false
  turn-stays k (Ok (Drain a most)) asks = refl
  turn-stays k (Ok (Exchange i name reply)) asks = refl
  turn-stays k (Ok step) asks = absurd cc
  turn-stays k (Err column) asks = absurd cc

  lost-kept : (w u : World) → Long u → Long (masters_lost w u)
  lost-kept w u j = record { rooted = record { there = j.rooted.there; busy = j.rooted.busy; server = j.rooted.server }; silent = record { waits = j.silent.waits; issued = j.silent.issued; old = j.silent.old; acked = j.silent.acked; elsewhere = j.silent.elsewhere } }

  part-kept : (w : World) (p : Plan) → Comes w p → Both w → Both (after_part w p)
  part-kept w p comes k = (sound-part w p comes k.0, lost-kept w (carried_out w p).0 (case-kept v b s base w k.1 k.0.secondaries 0 comes.asked p (comes.case 0) (turn-stays w.control comes.asked comes.asks)))

  answered-kept : (line : ℕ) (x : Part) → Long (carried_out x.world x.plan).0 → Long (answered_part line x)
  unfolding after_plan
  answered-kept line x k =
      let u : World = (carried_out x.world x.plan).0 in
      let a : Said = answered x.plan u.control (carried_out x.world x.plan).1 in
      lost-kept x.world (said u line a) (frozen-told v b s none base u (said u line a) (answer line a ∷ []) refl (with-told u (answer line a ∷ []) refl) refl refl refl k.rooted k)

  imaged-kept : (w : World) (vs : List ListedVolume) → Both w → Long (carried_out w (imaged w vs)).0
  imaged-kept w vs k = by (has_room_for image_events w.events)
    where
      by : (room : Bool) → Long (carried_out w (cond room (image_plan vs) (refuses JournalFull))).0
      by true = lines-kept v b s base w k.1 k.0.secondaries (image_told vs) (image-lines vs)
      by false = case-kept v b s base w k.1 k.0.secondaries 0 (Err 0) _ (Says _ (refused-not JournalFull) (λ one. refl)) refl

  pub task-kept : (w : World) (t : Task) → lets_go w.control t.asked v ≡ false → Both w → Long (after_task w t)
  task-kept w t stay k = answered-kept t.line (course w t).last (by t.asked stay)
    where
      task : Result Step ℕ → Task
      task asked = record { line = t.line; asked = asked; listed = t.listed }

      by : (asked : Result Step ℕ) → lets_go w.control asked v ≡ false → let x : Part = (course w (task asked)).last in Long (carried_out x.world x.plan).0
      by (Ok (Run i n)) stay = let run : Task = task (Ok (Run i n)) in let last : Both (course w run).last.world = last-plan Both part-kept w run k in case-kept v b s base (course w run).last.world last.1 last.0.secondaries t.line run.asked _ (plain-case w run (λ e. cc)) refl
      by (Ok Image) stay = imaged-kept w t.listed k
      by (Ok step) stay = case-kept v b s base w k.1 k.0.secondaries t.line (Ok step) _ (plain-case w (task (Ok step)) (λ e. cc)) stay
      by (Err column) stay = case-kept v b s base w k.1 k.0.secondaries t.line (Err column) _ (plain-case w (task (Err column)) (λ e. cc)) stay
