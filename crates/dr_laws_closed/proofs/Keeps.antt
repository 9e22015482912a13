-- Each kind of move but a hold keeps the laws of closed cuts.
use Rattle.std.proofs.Common.{ℕ, ◌≡◌, ◌<◌, ◌≤◌, inl, inr, refl, ap, sym, ◌∙◌, arith, true, cond, nat_eq, List, Option, Some, None, subst}
use Rattle.std.proofs.lemmas.Bool.{and_parts, eqb-true}
use Rattle.dr_logic.specs.Tables.{at}
use Rattle.dr_ids.specs.declared.names.Member.{Member}
use Rattle.dr_model.specs.Layout.{Fields, is_part}
use Rattle.dr_model.specs.Histories.{Lists, histories, lists}
use Rattle.dr_model.specs.Control.{Control, Pending, World}
use Rattle.dr_model.specs.Pairs.{primary_of, is_secondary_of}
use Rattle.dr_model.specs.Moves.{Move, Hold, Seal, RaiseAttempt, RaiseFloor, Flash, Commit, Revert, Leave, Reverse, target, fields_left}
use Rattle.dr_model.specs.Entries.{fields_at}
use Rattle.dr_model.specs.Sessions.{Session}
use Rattle.dr_model.specs.Messages.{Flight}
use Rattle.dr_model.specs.Groups.{In, Due}
use Rattle.dr_model.specs.Phases as phases
use Rattle.dr_model.specs.Attempts.{InAttempt}
use Rattle.dr_model.specs.Laws.{SoundBut}
use Rattle.dr_model.specs.Allowed.{May}
use Rattle.dr_model.specs.Cuts.{Cuts, cuts, next_cuts}
use Rattle.dr_laws_attempts.proofs.Moves.{at-place}
use Rattle.dr_facts.proofs.Tables.{at_cases}
use Rattle.dr_laws_cuts.proofs.Told.{TellsNoCut}
use Rattle.dr_laws_closed.specs.Moments.{Moments, Standing, moments, standing}
use Rattle.dr_laws_closed.specs.Closing.{Whole, AllFields, HeldAsCut, LandedFree, RecordsWhole, AwaitsFlash, SealedWhole, RevertibleWhole, StandsWhole, Members, ClosingIn, Closing}
use Rattle.dr_laws_closed.specs.Next.{next_moments, next_standing, Untouched}
use Rattle.dr_laws_closed.proofs.Told.{ToldOf}
use Rattle.dr_laws_closed.proofs.Fields.{Goes, Idles, goes, was-sealed, was-revertible}
use Rattle.dr_laws_closed.proofs.Lists.{untouched}
use Rattle.dr_laws_closed.proofs.Landed.{free-goes}
use Rattle.dr_laws_closed.proofs.Flown.{awaits-due, closing-flown, eases-same}
use Rattle.dr_laws_closed.proofs.Standings.{added}
use Rattle.dr_laws_attempts.proofs.Facts.{stood}
use Rattle.dr_laws_closed.proofs.Counts.{stands-then}

pub no-other-cut : (now : Lists) (m : Move) (c : Cuts) → TellsNoCut m → next_cuts now m c ≡ c
no-other-cut now (Hold v s n first) c other = absurd cc
no-other-cut now m c other = refl

pub no-other-moment : (now : Lists) (m : Move) (M : Moments) → TellsNoCut m → next_moments now m M ≡ M
no-other-moment now (Hold v s n first) M other = absurd cc
no-other-moment now m M other = refl

its-primary : (f : Fields) (a : ℕ) → is_secondary_of a f ≡ true → primary_of f ≡ Some a
its-primary f a h = let p = and_parts (is_part f.secondary) (nat_eq f.secondary_partner a) h in ap (λ b. cond b (Some f.secondary_partner) None) p.0 ∙ ap Some (eqb-true f.secondary_partner a p.1)

idles : (w : World) (m : Move) → May w m → Idles m (fields_at w.control (target m))
idles w (RaiseAttempt v n) may = may.allowed.idle
idles w m may = tt

module _ (starts : Option ℕ) (w : World) (sound : SoundBut starts w) (old : Closing w) (m : Move) (may : May w m) (other : TellsNoCut m) where
  abbrev k : Control
  k = w.control

  abbrev c : Cuts
  c = cuts w.events

  abbrev M : Moments
  M = moments w.events

  abbrev g : Standing
  g = standing w.events

  abbrev new : Fields
  new = fields_left m (k.volume (target m))

  abbrev then_at : AllFields
  then_at = at (fields_at k) (target m) new

  step : Goes (fields_at k (target m)) new
  step = goes m (k.volume (target m)) other (idles w m may)

  held-then : (now : Lists) → ((v t : ℕ) → Untouched (histories w.events).write m v → now v t ≡ lists w.events v t) → (v : ℕ) → HeldAsCut now c v (then_at v)
  held-then now same = at_cases (λ v y. HeldAsCut now c v y) (fields_at k) (target m) new
      (λ rec held t. let r = step.recorded rec in let h = step.held held in
      same (target m) t (untouched w sound.rows m may.allowed may.ready (target m) r h) ∙ (old.held (target m) r h t ∙ ap (λ n. c.held n (target m) t) (sym (step.attempt rec))))
      (λ v ne rec held t. same v t (untouched w sound.rows m may.allowed may.ready v rec held) ∙ old.held v rec held t)

  records-then : Members k.sessions (RecordsWhole then_at c M)
  records-then x q i here = at_cases (λ v y. q.a.0 ≡ v → y.recording ≡ true → Whole c M x.number x.last q.a.0) (fields_at k) (target m) new
      (λ e rec. old.records x q i here (subst (λ v. (fields_at k v).recording ≡ true) (sym e) (step.recorded rec)))
      (λ v ne e rec. old.records x q i here (subst (λ v. (fields_at k v).recording ≡ true) (sym e) rec))
      q.a.0 refl

  -- floors rise
  floor-by : (m : Move) → InAttempt k m → (x : Session) (q : Member) → In x k.sessions → In q x.members → q.c.0 ≡ target m → (fields_left m (k.volume (target m))).floor < x.last → (fields_at k (target m)).floor < x.last
  floor-by (RaiseFloor v n) a x q i here e low = let up : (fields_at k v).floor ≤ n = (a x q i here e).higher in omega arith
  floor-by (Commit v p s n) a x q i here e low =
      let last : x.last ≡ n = at-place k sound.groups sound.attempts (λ z r. z.last ≡ n) v a.place.session a.place.member a.place.listed a.place.here (inr (inr (sym a.target))) (sym a.last) x q i here (inr (inr (sym e))) in
      absurd (omega arith)
  floor-by (Revert v p s n) a x q i here e low = omega arith
  floor-by m a x q i here e low = low

  floor-before : (x : Session) (q : Member) → In x k.sessions → In q x.members → (then_at q.c.0).floor < x.last → (fields_at k q.c.0).floor < x.last
  floor-before x q i here = at_cases (λ v y. q.c.0 ≡ v → y.floor < x.last → (fields_at k v).floor < x.last) (fields_at k) (target m) new
      (λ e low. floor-by m may.group x q i here e low)
      (λ v ne e low. low)
      q.c.0 refl

  -- a secondary that is sealed is one of a member that records
  sealed-by : (m : Move) → May w m → (x : Session) (q : Member) → In x k.sessions → In q x.members → q.b.0 ≡ target m → AwaitsFlash k.flight x → (fields_at k q.c.0).floor < x.last → primary_of (fields_left m (k.volume (target m))) ≡ Some q.a.0 → (fields_left m (k.volume (target m))).seal ≡ x.last → Whole c M x.number x.last q.a.0
  sealed-by (Seal v u s n) may x q i here e awaited low to is =
      let a = may.group in
      let rec : (fields_at k u).recording ≡ true = (and_parts (fields_at k u).recording (nat_eq (fields_at k u).attempt n) may.allowed.records).0 in
      at-place k sound.groups sound.attempts (λ z p. Whole c M z.number z.last p.a.0) v a.place.session a.place.member a.place.listed a.place.here (inr (inl (sym a.secondary)))
      (old.records a.place.session a.place.member a.place.listed a.place.here (subst (λ j. (fields_at k j).recording ≡ true) (sym a.place.is) rec)) x q i here (inr (inl (sym e)))
  sealed-by m may x q i here e awaited low to is =
      let was = was-sealed m (k.volume (target m)) tt q.a.0 x.last (λ none. let last : x.last ≡ 0 = none in absurd (omega arith)) to is in
      subst (λ v. primary_of (fields_at k v) ≡ Some q.a.0 → (fields_at k v).seal ≡ x.last → Whole c M x.number x.last q.a.0) e (old.sealed x q i here awaited low) was.0 was.1

  sealed-then : Members k.sessions (SealedWhole then_at k.flight c M)
  sealed-then x q i here awaited low = at_cases (λ v y. q.b.0 ≡ v → primary_of y ≡ Some q.a.0 → y.seal ≡ x.last → Whole c M x.number x.last q.a.0) (fields_at k) (target m) new
      (λ e to is. sealed-by m may x q i here e awaited (floor-before x q i here low) to is)
      (λ v ne e to is. subst (λ v. primary_of (fields_at k v) ≡ Some q.a.0 → (fields_at k v).seal ≡ x.last → Whole c M x.number x.last q.a.0) e (old.sealed x q i here awaited (floor-before x q i here low)) to is)
      q.b.0 refl

  -- one that is flashed was sealed
  flashed-whole : (v u p s j : ℕ) (a : InAttempt k (Flash v u p s j)) → Whole c M a.place.session.number a.place.session.last a.place.member.a.0
  flashed-whole v u p s j a = old.sealed a.place.session a.place.member a.place.listed a.place.here
      (awaits-due k.flight a.place.session a.place.member.server.0 (subst (λ j. Due k.flight a.place.session a.place.member.server.0 phases.Flash j) a.last a.due))
      (subst (λ j. (fields_at k a.place.member.c.0).floor < j) a.last (subst (λ u. (fields_at k u).floor < j) (sym a.target) a.low))
      (ap (λ j. primary_of (fields_at k j)) a.secondary ∙ (its-primary (fields_at k u) p a.paired ∙ ap Some (sym a.place.is))) (ap (λ j. (fields_at k j).seal) a.secondary ∙ (a.sealed ∙ a.last))

  revertible-by : (m : Move) → InAttempt k m → (x : Session) (q : Member) → In x k.sessions → In q x.members → q.c.0 ≡ target m → (fields_left m (k.volume (target m))).revertible ≡ true → Whole c M x.number x.last q.a.0
  revertible-by (Flash v u p s j) a x q i here e rev = at-place k sound.groups sound.attempts (λ z p. Whole c M z.number z.last p.a.0) v a.place.session a.place.member a.place.listed a.place.here (inr (inr (sym a.target)))
      (flashed-whole v u p s j a) x q i here (inr (inr (sym e)))
  revertible-by m a x q i here e rev = old.revertible x q i here (subst (λ v. (fields_at k v).revertible ≡ true) (sym e) (was-revertible m (k.volume (target m)) tt rev))

  revertible-then : Members k.sessions (RevertibleWhole then_at c M)
  revertible-then x q i here = at_cases (λ v y. q.c.0 ≡ v → y.revertible ≡ true → Whole c M x.number x.last q.a.0) (fields_at k) (target m) new
      (λ e rev. revertible-by m may.group x q i here e rev)
      (λ v ne e rev. old.revertible x q i here (subst (λ v. (fields_at k v).revertible ≡ true) (sym e) rev))
      q.c.0 refl

  whole-by : (m : Move) → InAttempt k m → StandsWhole c M (next_standing m (k.volume (target m)) g)
  whole-by (Reverse v None) a z n x h = old.whole z n x h
  whole-by (Reverse v (Some p)) a z n x h = old.whole z n x (stood _ _ h).1
  whole-by (Leave v p s) a z n x h = old.whole z n x (stood _ _ h).1
  whole-by (Revert v p s j) a z n x h = old.whole z n x (stood _ _ h).1
  whole-by (Flash v u p s j) a z n x h = elim (added _ _ h) [
    | inl is ↦ let b = and_parts _ _ is in let d = and_parts _ _ b.1 in
        subst (λ j. Whole c M j n x) (a.place.number ∙ sym (eqb-true z s b.0))
        (subst (λ j. Whole c M a.place.session.number j x) (sym a.last ∙ sym (eqb-true n j d.0))
        (subst (λ j. Whole c M a.place.session.number a.place.session.last j) (a.place.is ∙ sym (eqb-true x p d.1)) (flashed-whole v u p s j a)))
    | inr was ↦ old.whole z n x was
  ]
  whole-by m a z n x h = old.whole z n x h

  pub keeps : (x : World) → ToldOf w.events x.events m (k.volume (target m)) → x.control.sessions ≡ k.sessions → x.control.flight.messages ≡ k.flight.messages → fields_at x.control ≡ then_at → LandedFree (fields_at k) x.control.pending → Closing x
  keeps x told sessions messages fields free =
      let C : Cuts = cuts x.events in
      let N : Moments = moments x.events in
      let G : Standing = standing x.events in
      let ps : List Pending = x.control.pending in
      let now : Lists = lists x.events in
      let to : Flight = x.control.flight in
      subst (λ ss. ClosingIn ss to (fields_at x.control) ps now C N G) (sym sessions)
      (subst (λ (f : AllFields). ClosingIn k.sessions to f ps now C N G) (sym fields)
      (subst (λ C. ClosingIn k.sessions to then_at ps now C N G) (sym (told.cut ∙ no-other-cut (lists w.events) m c other))
      (subst (λ N. ClosingIn k.sessions to then_at ps now c N G) (sym (told.moment ∙ no-other-moment (lists w.events) m M other))
      (subst (λ G. ClosingIn k.sessions to then_at ps now c M G) (sym told.stand)
      (closing-flown k.sessions k.flight to then_at ps now c M (next_standing m (k.volume (target m)) g) (eases-same k.sessions k.flight to messages) (record {
        held = held-then now told.list;
        free = free-goes (fields_at k) (target m) new ps step.held free;
        records = records-then;
        sealed = sealed-then;
        revertible = revertible-then;
        whole = whole-by m may.group;
        members = stands-then k sound.groups sound.attempts g old.members m may.group;
      }))))))
