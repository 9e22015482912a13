-- Another table of sessions keeps that targets that count show their cuts and stand in their groups: where an attempt begins, and where
-- members stay in their session or their session is Idle.
use Rattle.std.proofs.Common.{ℕ, ◌≡◌, ◌≢◌, ◌⊎◌, inl, inr, refl, ap, sym, ◌∙◌, Bool, ◌||◌, true, List, subst}
use Rattle.std.proofs.lemmas.Bool.Decides.{eqb_tells}
use Rattle.std.proofs.lemmas.Bool.{or_left}
use Rattle.dr_ids.specs.declared.names.Member.{Member}
use Rattle.dr_model.specs.Tables.{Once}
use Rattle.dr_model.specs.Histories.{Write}
use Rattle.dr_model.specs.Control.{Control}
use Rattle.dr_model.specs.Entries.{fields_at}
use Rattle.dr_model.specs.Sessions.{Session, changed, begun}
use Rattle.dr_model.specs.Table.{Table}
use Rattle.dr_model.specs.Messages.{Flight}
use Rattle.dr_model.specs.Groups.{In, Groups}
use Rattle.dr_model.specs.Attempts.{Attempts}
use Rattle.dr_model.specs.Laws.{fields}
use Rattle.dr_model.specs.Cuts.{Cuts}
use Rattle.dr_laws_sessions.specs.Frames.{Became}
use Rattle.dr_laws_sessions.proofs.Changes.{numbers, changed-in, changed-stays, changed-becomes}
use Rattle.dr_facts.proofs.Tables.{IsOrNot}
use Rattle.dr_laws_closed.specs.Moments.{Standing}
use Rattle.dr_laws_closed.specs.Closing.{Members}
use Rattle.dr_laws_closed.specs.Regroups.{WasIn, Stays, Rests, Regroups}
use Rattle.dr_laws_targets.specs.Counted.{CountsAsTarget, CommittedAsMember, CountedIn}
use Rattle.dr_laws_targets.proofs.Holds.{Holds, RowHolds, AllHold, all-hold, counted-of}

-- it is one of a session of that number
pub record IsIn (ss : List Session) (s : ℕ) (m : Member) : Type 0 where
  pub session : Session
  pub listed : In session ss
  pub number : session.number ≡ s
  pub here : In m session.members

-- each member whose target counts is one of a session of the same number
abbrev pub Among : Table → List Session → List Session → Type 0
Among T ss us = Members ss (λ x m. CountsAsTarget (fields T m.c.0) → IsIn us x.number m)

if-counts : (write : ℕ → Write) (c : Cuts) (g l : Standing) (s a tracks : ℕ) (due aside : ℕ → List ℕ) (member revertible : Bool) (sequence previous : ℕ)
    → ((member || revertible) ≡ true → Holds write c g l s a tracks due aside member revertible sequence previous) → Holds write c g l s a tracks due aside member revertible sequence previous
if-counts write c g l s a tracks due aside member revertible sequence previous h = record {
  shows = λ counts. (h counts).shows counts;
  keeps = λ rev mem. (h (or_left member revertible mem)).keeps rev mem;
  stands = λ counts. (h counts).stands counts;
  stood = λ rev mem. (h (or_left member revertible mem)).stood rev mem;
  number = λ mem. (h (or_left member revertible mem)).number mem;
}

module _ (write : ℕ → Write) (ss us : List Session) (T : Table) (c : Cuts) (g l : Standing) (old : CountedIn write ss T c g l) where
  pub counted-among : Among T us ss → Among T ss us → CountedIn write us T c g l
  counted-among back on = counted-of write us T c g l all-then committed-then
    where
      all-then : AllHold write us T c g l
      all-then y m i here = if-counts write c g l y.number m.a.0 _ _ _ _ _ _ _ (λ counts. let o = back y m i here counts in subst (λ s. RowHolds write c g l s m.a.0 (T m.c.0)) o.number (all-hold write ss T c g l old o.session m o.listed o.here))

      committed-then : CommittedAsMember us T l
      committed-then s n a h =
          let o = old.committed s n a h in
          let t = on o.session o.member o.listed o.here (or_left (fields T o.member.c.0).member (fields T o.member.c.0).revertible o.flag) in
          record { session = t.session; listed = t.listed; number = t.number ∙ o.number; member = o.member; here = t.here; is = o.is; flag = o.flag; reached = o.reached }

-- an attempt begins
module _ (ss : List Session) (once : Once (numbers ss)) (T : Table) (s : ℕ) where
  pub begun-back : Among T (changed s begun ss) ss
  begun-back y m i here counts = by (changed-in s begun ss y once i)
    where
      by : (In y ss × (y.number ≢ s)) ⊎ Became s begun ss y → IsIn ss y.number m
      by (inl o) = record { session = y; listed = o.0; number = refl; here = here }
      by (inr b) = record { session = b.from; listed = b.listed; number = sym (ap (λ (z : Session). z.number) b.is); here = subst (λ ms. In m ms) (ap (λ (z : Session). z.members) b.is) here }

  pub begun-on : Among T ss (changed s begun ss)
  begun-on x m i here counts = by (eqb_tells x.number s)
    where
      by : IsOrNot x.number s → IsIn (changed s begun ss) x.number m
      by (inl is) = record { session = begun x; listed = changed-becomes s begun ss x once i is.1; number = refl; here = here }
      by (inr not) = record { session = x; listed = changed-stays s begun ss x i not.1; number = refl; here = here }

pub counted-begun : (write : ℕ → Write) (ss : List Session) (T : Table) (c : Cuts) (g l : Standing) (s : ℕ) → Once (numbers ss) → CountedIn write ss T c g l → CountedIn write (changed s begun ss) T c g l
counted-begun write ss T c g l s once old = counted-among write ss (changed s begun ss) T c g l old (begun-back ss once T s) (begun-on ss once T s)

-- members stay, or their session is Idle
module _ (k : Control) (us : List Session) (later : Flight) (T : Table) (same : (v : ℕ) → fields T v ≡ fields_at k v) (groups : Groups k) (law : Attempts k)
    (then_groups : Groups (record k { sessions = us; flight = later })) (then_law : Attempts (record k { sessions = us; flight = later })) (turn : Regroups k.sessions us) where
  so-counts : (v : ℕ) → CountsAsTarget (fields T v) → CountsAsTarget (fields_at k v)
  so-counts v counts = subst CountsAsTarget (same v) counts

  regrouped-back : Among T us k.sessions
  regrouped-back y m i here counts = by (turn y m i here)
    where
      was : WasIn k.sessions m → IsIn k.sessions y.number m
      was w =
          let b = (law.volumes m.c.0).counted (so-counts m.c.0 counts) in
          let t = (then_law.volumes m.c.0).counted (so-counts m.c.0 counts) in
          let at-old = (groups.lone.one m.c.0 w.session b.session m b.member w.listed b.listed w.here b.here (inr (inr refl)) (inr (inr (sym b.is)))).0 in
          let at-new = (then_groups.lone.one m.c.0 t.session y t.member m t.listed i t.here here (inr (inr (sym t.is))) (inr (inr refl))).0 in
          record { session = w.session; listed = w.listed; number = at-old ∙ (b.number ∙ (sym t.number ∙ at-new)); here = w.here }

      by : Stays k.sessions y m ⊎ Rests k.sessions y m → IsIn k.sessions y.number m
      by (inl s) = record { session = s.was.session; listed = s.was.listed; number = sym s.number; here = s.was.here }
      by (inr r) = elim r.target [
        | inl w ↦ was w
        | inr none ↦ let b = (law.volumes m.c.0).counted (so-counts m.c.0 counts) in absurd (none b.session b.member b.listed b.here b.is)
      ]

  regrouped-on : Among T k.sessions us
  regrouped-on x m i here counts =
      let b = (law.volumes m.c.0).counted (so-counts m.c.0 counts) in
      let t = (then_law.volumes m.c.0).counted (so-counts m.c.0 counts) in
      let at-old = (groups.lone.one m.c.0 b.session x b.member m b.listed i b.here here (inr (inr (sym b.is))) (inr (inr refl))).0 in
      record { session = t.session; listed = t.listed; number = t.number ∙ (sym b.number ∙ at-old); here = subst (λ q. In q t.session.members) (one t.member t.is (turn t.session t.member t.listed t.here)) t.here }
    where
      was-one : (q : Member) → q.c.0 ≡ m.c.0 → WasIn k.sessions q → q ≡ m
      was-one q e w = (groups.lone.one m.c.0 w.session x q m w.listed i w.here here (inr (inr (sym e))) (inr (inr refl))).1

      one : (q : Member) → q.c.0 ≡ m.c.0 → {y : Session} → Stays k.sessions y q ⊎ Rests k.sessions y q → q ≡ m
      one q e (inl s) = was-one q e s.was
      one q e (inr r) = elim r.target [
        | inl w ↦ was-one q e w
        | inr none ↦ absurd (none x m i here (sym e))
      ]

  pub counted-regrouped : (write : ℕ → Write) (c : Cuts) (g l : Standing) → CountedIn write k.sessions T c g l → CountedIn write us T c g l
  counted-regrouped write c g l old = counted-among write k.sessions us T c g l old regrouped-back regrouped-on
