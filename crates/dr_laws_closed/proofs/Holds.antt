-- A hold keeps the laws of closed cuts: the first of an attempt sets its moment, and each later one finds all other members that
-- record held, so that they hold what they held at their cuts.
use Rattle.std.proofs.Common.{ℕ, ◌≡◌, ◌≢◌, ◌<◌, ◌⊎◌, inl, inr, refl, ap, sym, ◌∙◌, true, false, not, List, Some, None, subst}
use Rattle.std.proofs.lemmas.Bool.Decides.{eqb_tells}
use Rattle.dr_logic.specs.Tables.{at, at2}
use Rattle.dr_ids.specs.declared.names.Member.{Member}
use Rattle.dr_model.specs.Layout.{Fields}
use Rattle.dr_model.specs.Histories.{Lists}
use Rattle.dr_model.specs.Control.{Pending}
use Rattle.dr_model.specs.Pairs.{primary_of, held_for}
use Rattle.dr_model.specs.Sessions.{Session}
use Rattle.dr_model.specs.Messages.{Flight}
use Rattle.dr_model.specs.Groups.{In}
use Rattle.dr_model.specs.Cuts.{Cuts, cut_for}
use Rattle.dr_facts.proofs.Tables.{IsOrNot, at_cases, at2_other}
use Rattle.dr_laws_closed.specs.Moments.{Moments, Standing}
use Rattle.dr_laws_closed.specs.Closing.{Whole, AllFields, HeldAsCut, LandedFree, RecordsWhole, AwaitsFlash, SealedWhole, RevertibleWhole, StandsWhole, CountsFor, MemberCounts, StandsAsMember, Members, ClosingIn}
use Rattle.dr_logic.proofs.Truth.{false_true}
use Rattle.dr_logic.proofs.Options.{none_some}
use Rattle.dr_logic.proofs.Tables.{at2_same}

-- another member that records is held for the same attempt, for which its session cut it
pub record Under (f : Fields) (c : Cuts) (s n a : ℕ) : Type 0 where
  pub held : f.coordination ≡ true
  pub attempt : f.attempt ≡ n
  pub cut : c.by n a ≡ Some s

-- The session of the member that is held, before and after. Of the others each stays.
pub record Held (ss us : List Session) (flight : Flight) (f : AllFields) (c : Cuts) (g : Standing) (v s n : ℕ) : Type 0 where
  pub from : Session
  pub listed : In from ss
  pub number : from.number ≡ s
  pub member : Member
  pub here : In member from.members
  pub is : member.a.0 ≡ v
  pub to : Session
  pub to_number : to.number ≡ s
  pub to_last : to.last ≡ n
  pub to_members : to.members ≡ from.members
  pub back : (z : Session) → In z us → (z ≡ to) ⊎ (In z ss × (z.number ≢ s))
  pub there : In to us
  pub on : (z : Session) → In z ss → z.number ≢ s → In z us
  pub same : (z : Session) → In z ss → z.number ≡ s → z ≡ from
  pub place : (z : Session) (q : Member) → In z ss → In q z.members → q.a.0 ≡ v → z.number ≡ s
  pub under : (q : Member) → In q from.members → (f q.a.0).recording ≡ true → Under (f q.a.0) c s n q.a.0
  pub unsealed : AwaitsFlash flight to → (q : Member) → In q from.members → (f q.b.0).seal ≢ n
  pub unflashed : (q : Member) → In q from.members → (f q.c.0).revertible ≡ false
  pub unstood : (a : ℕ) → g s n a ≡ true → ⊥
  pub fresh : c.by n v ≡ None

module _ (ss us : List Session) (flight : Flight) (f : AllFields) (ps qs : List Pending) (now then : Lists) (c : Cuts) (M : Moments) (g : Standing) (v s n : ℕ) (h : Held ss us flight f c g v s n)
    (old : ClosingIn ss flight f ps now c M g) (lists : (u t : ℕ) → then u t ≡ now u t) where
  abbrev C : Cuts
  C = cut_for s n v now c

  abbrev N : Moments
  N = at2 M s n now

  abbrev F : AllFields
  F = at f v (held_for n (f v))

  -- an entry that stood isn't the one that is made
  still : (z k x : ℕ) → (z ≡ s → k ≡ n → ⊥) → Whole c M z k x → Whole C N z k x
  still z k x apart w =
      let another : k ≡ n → x ≡ v → ⊥ = λ e i. none_some h.fresh (sym (ap (λ j. c.by j x) e ∙ ap (c.by n) i) ∙ w.by) in
      record {
        by = at2_other c.by n v (Some s) k x another ∙ w.by;
        lists = λ t. ap (λ l. l t) (at2_other c.held n v (now v) k x another) ∙ (w.lists t ∙ sym (ap (λ (l : Lists). l x t) (at2_other M s n now z k apart)));
      }

  made : Whole C N s n v
  made = record {
    by = at2_same c.by n v (Some s);
    lists = λ t. ap (λ l. l t) (at2_same c.held n v (now v)) ∙ sym (ap (λ (l : Lists). l v t) (at2_same M s n now));
  }

  another : (q : Member) → In q h.from.members → q.a.0 ≢ v → (f q.a.0).recording ≡ true → Whole C N s n q.a.0
  another q here ne rec =
      let u = h.under q here rec in
      record {
        by = at2_other c.by n v (Some s) n q.a.0 (λ e i. ne i) ∙ u.cut;
        lists = λ t. ap (λ l. l t) (at2_other c.held n v (now v) n q.a.0 (λ e i. ne i))
            ∙ (ap (λ j. c.held j q.a.0 t) (sym u.attempt) ∙ (sym (old.held q.a.0 rec u.held t) ∙ sym (ap (λ (l : Lists). l q.a.0 t) (at2_same M s n now))));
      }

  held-then : (u : ℕ) → HeldAsCut then C u (F u)
  held-then = at_cases (λ u y. HeldAsCut then C u y) f v (held_for n (f v))
      (λ rec held t. lists v t ∙ sym (ap (λ l. l t) (at2_same c.held n v (now v))))
      (λ u ne rec held t. lists u t ∙ (old.held u rec held t ∙ sym (ap (λ l. l t) (at2_other c.held n v (now v) (f u).attempt u (λ e i. ne i)))))

  in-from : (z : Session) (q : Member) → z ≡ h.to → In q z.members → In q h.from.members
  in-from z q is here = subst (λ ms. In q ms) (ap (λ (z : Session). z.members) is ∙ h.to_members) here

  records-then : Members us (RecordsWhole F C N)
  records-then z q i here = at_cases (λ u y. q.a.0 ≡ u → y.recording ≡ true → Whole C N z.number z.last q.a.0) f v (held_for n (f v))
      (λ e rec. mine e (h.back z i))
      (λ u ne e rec. other (λ is. ne (sym e ∙ is)) (subst (λ u. (f u).recording ≡ true) (sym e) rec) (h.back z i))
      q.a.0 refl
    where
      at-to : z ≡ h.to → Whole C N s n q.a.0 → Whole C N z.number z.last q.a.0
      at-to is w = subst (λ j. Whole C N j z.last q.a.0) (sym (ap (λ (z : Session). z.number) is ∙ h.to_number)) (subst (λ j. Whole C N s j q.a.0) (sym (ap (λ (z : Session). z.last) is ∙ h.to_last)) w)

      mine : q.a.0 ≡ v → (z ≡ h.to) ⊎ (In z ss × (z.number ≢ s)) → Whole C N z.number z.last q.a.0
      mine e (inl is) = at-to is (subst (λ j. Whole C N s n j) (sym e) made)
      mine e (inr o) = absurd (o.1 (h.place z q o.0 here e))

      other : q.a.0 ≢ v → (f q.a.0).recording ≡ true → (z ≡ h.to) ⊎ (In z ss × (z.number ≢ s)) → Whole C N z.number z.last q.a.0
      other ne rec (inl is) = at-to is (another q (in-from z q is here) ne rec)
      other ne rec (inr o) = still z.number z.last q.a.0 (λ e j. o.1 e) (old.records z q o.0 here rec)

  -- a hold leaves floors
  floor-before : (u j : ℕ) → (F u).floor < j → (f u).floor < j
  floor-before u j = at_cases (λ u (y : Fields). y.floor < j → (f u).floor < j) f v (held_for n (f v)) (λ low. low) (λ u ne low. low) u

  sealed-then : Members us (SealedWhole F flight C N)
  sealed-then z q i here awaited low = at_cases (λ u y. q.b.0 ≡ u → primary_of y ≡ Some q.a.0 → y.seal ≡ z.last → Whole C N z.number z.last q.a.0) f v (held_for n (f v))
      (λ e to is. by (h.back z i) (ap (λ u. primary_of (f u)) e ∙ to) (ap (λ u. (f u).seal) e ∙ is))
      (λ u ne e to is. by (h.back z i) (ap (λ u. primary_of (f u)) e ∙ to) (ap (λ u. (f u).seal) e ∙ is))
      q.b.0 refl
    where
      by : (z ≡ h.to) ⊎ (In z ss × (z.number ≢ s)) → primary_of (f q.b.0) ≡ Some q.a.0 → (f q.b.0).seal ≡ z.last → Whole C N z.number z.last q.a.0
      by (inl same) to is = absurd (h.unsealed (subst (AwaitsFlash flight) same awaited) q (in-from z q same here) (is ∙ (ap (λ (z : Session). z.last) same ∙ h.to_last)))
      by (inr o) to is = still z.number z.last q.a.0 (λ e j. o.1 e) (old.sealed z q o.0 here awaited (floor-before q.c.0 z.last low) to is)

  revertible-then : Members us (RevertibleWhole F C N)
  revertible-then z q i here = at_cases (λ u y. q.c.0 ≡ u → y.revertible ≡ true → Whole C N z.number z.last q.a.0) f v (held_for n (f v))
      (λ e rev. by (h.back z i) (subst (λ u. (f u).revertible ≡ true) (sym e) rev))
      (λ u ne e rev. by (h.back z i) (subst (λ u. (f u).revertible ≡ true) (sym e) rev))
      q.c.0 refl
    where
      by : (z ≡ h.to) ⊎ (In z ss × (z.number ≢ s)) → (f q.c.0).revertible ≡ true → Whole C N z.number z.last q.a.0
      by (inl same) rev = absurd (false_true (h.unflashed q (in-from z q same here)) rev)
      by (inr o) rev = still z.number z.last q.a.0 (λ e j. o.1 e) (old.revertible z q o.0 here rev)

  whole-then : StandsWhole C N g
  whole-then z k x stands = still z k x (λ e j. h.unstood x (ap (λ i. g i n x) (sym e) ∙ (ap (λ i. g z i x) (sym j) ∙ stands))) (old.whole z k x stands)

  members-then : StandsAsMember us F g
  members-then z k x stands = by (old.members z k x stands)
    where
      counts : (c : MemberCounts ss f z k x) → CountsFor k (F c.member.c.0)
      counts c = at_cases (λ u y. CountsFor k (f u) → CountsFor k y) f v (held_for n (f v)) (λ c. c) (λ u ne c. c) c.member.c.0 c.counts

      which : (c : MemberCounts ss f z k x) → IsOrNot c.session.number s → MemberCounts us F z k x
      which c (inl is) =
          let same : c.session ≡ h.from = h.same c.session c.listed is.1 in
          record {
            session = h.to;
            listed = h.there;
            number = h.to_number ∙ (sym is.1 ∙ c.number);
            member = c.member;
            here = subst (λ ms. In c.member ms) (ap (λ (z : Session). z.members) same ∙ sym h.to_members) c.here;
            is = c.is;
            counts = counts c;
          }
      which c (inr not) = record { session = c.session; listed = h.on c.session c.listed not.1; number = c.number; member = c.member; here = c.here; is = c.is; counts = counts c }

      by : MemberCounts ss f z k x → MemberCounts us F z k x
      by c = which c (eqb_tells c.session.number s)

  pub closing-held : LandedFree F qs → ClosingIn us flight F qs then C N g
  closing-held free = record { held = held-then; free = free; records = records-then; sealed = sealed-then; revertible = revertible-then; whole = whole-then; members = members-then }
