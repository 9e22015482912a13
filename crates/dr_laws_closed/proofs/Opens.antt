-- Where an attempt begins before any member is held, the laws of closed cuts stay: nobody of its session records, and none of its
-- secondaries is sealed for it.
use Rattle.std.proofs.Common.{ℕ, ◌≡◌, ◌≢◌, ◌≤◌, ◌+◌, ◌⊎◌, arith, inl, inr, ap, sym, ◌∙◌, List, Some, subst}
use Rattle.std.proofs.lemmas.Bool.Decides.{eqb_tells}
use Rattle.dr_ids.specs.declared.names.Member.{Member}
use Rattle.dr_ids.specs.declared.refusal.PhaseName.TheVariants as phase
use Rattle.dr_model.specs.Histories.{Lists}
use Rattle.dr_model.specs.Control.{Control, Pending}
use Rattle.dr_model.specs.Entries.{fields_at}
use Rattle.dr_model.specs.Sessions.{Session, Mirror, session_in, changed, begun}
use Rattle.dr_model.specs.Groups.{In, Groups}
use Rattle.dr_model.specs.Attempts.{roles, seen, Attempts}
use Rattle.dr_model.specs.Cuts.{Cuts}
use Rattle.dr_laws_sessions.specs.Frames.{Became, Quiet}
use Rattle.dr_facts.proofs.Lists.{to-map}
use Rattle.dr_facts.proofs.Tables.{IsOrNot}
use Rattle.dr_laws_sessions.proofs.Changes.{session-found, same-session, changed-in, changed-stays, changed-becomes}
use Rattle.dr_laws_sessions.proofs.Silent.{quiet-silent}
use Rattle.dr_laws_sessions.proofs.Volumes.{idle-quiet}
use Rattle.dr_laws_attempts.proofs.Tables.{quiet-unflashed}
use Rattle.dr_laws_closed.specs.Moments.{Moments, Standing}
use Rattle.dr_laws_closed.specs.Closing.{Whole, RecordsWhole, SealedWhole, RevertibleWhole, MemberCounts, StandsAsMember, Members, ClosingIn}
use Rattle.dr_laws_closed.proofs.Counts.{numbered}
use Rattle.dr_logic.proofs.Truth.{false_true}

module _ (k : Control) (s : ℕ) (x : Session) (r : Mirror) (groups : Groups k) (law : Attempts k) (found : session_in k.sessions s ≡ Some x) (has : x.mirror ≡ Some r) (idle : r.master.phase ≡ phase.Idle)
    (ps : List Pending) (now : Lists) (c : Cuts) (M : Moments) (g : Standing) (old : ClosingIn k.sessions k.flight (fields_at k) ps now c M g) where
  there : In x k.sessions × (x.number ≡ s)
  there = session-found k.sessions s x found

  quiet : Quiet x
  quiet = idle-quiet x r has idle

  is-x : (y : Session) → In y k.sessions → y.number ≡ s → x ≡ y
  is-x y i e = same-session k.sessions x y groups.once there.0 i (there.1 ∙ sym e)

  -- each session of the new table was there, or is x
  which : (y : Session) → In y (changed s begun k.sessions) → (In y k.sessions) ⊎ (y ≡ begun x)
  which y i = by (changed-in s begun k.sessions y groups.once i)
    where
      by : (In y k.sessions × (y.number ≢ s)) ⊎ Became s begun k.sessions y → (In y k.sessions) ⊎ (y ≡ begun x)
      by (inl o) = inl o.0
      by (inr b) = inr (b.is ∙ ap begun (sym (is-x b.from b.listed b.number)))

  in-x : (y : Session) (m : Member) → y ≡ begun x → In m y.members → In m x.members
  in-x y m is here = subst (λ (z : Session). In m z.members) is here

  records-then : Members (changed s begun k.sessions) (RecordsWhole (fields_at k) c M)
  records-then y m i here rec = by (which y i)
    where
      by : (In y k.sessions) ⊎ (y ≡ begun x) → Whole c M y.number y.last m.a.0
      by (inl o) = old.records y m o here rec
      by (inr is) = false_true (quiet-silent k x m groups there.0 quiet (in-x y m is here)) rec

  sealed-then : Members (changed s begun k.sessions) (SealedWhole (fields_at k) k.flight c M)
  sealed-then y m i here awaited low to sealed = by (which y i)
    where
      by : (In y k.sessions) ⊎ (y ≡ begun x) → Whole c M y.number y.last m.a.0
      by (inl o) = old.sealed y m o here awaited low to sealed
      by (inr is) =
          let top : (fields_at k m.b.0).seal ≤ x.last = (numbered k groups law x m there.0 (in-x y m is here)).seal in
          let last : (fields_at k m.b.0).seal ≡ x.last + 1 = sealed ∙ ap (λ (z : Session). z.last) is in
          absurd (omega arith)

  revertible-then : Members (changed s begun k.sessions) (RevertibleWhole (fields_at k) c M)
  revertible-then y m i here rev = by (which y i)
    where
      by : (In y k.sessions) ⊎ (y ≡ begun x) → Whole c M y.number y.last m.a.0
      by (inl o) = old.revertible y m o here rev
      by (inr is) = false_true (quiet-unflashed (roles k) x quiet (law.sessions x there.0) (seen (roles k) m) (to-map (seen (roles k)) x.members m (in-x y m is here))) rev

  members-then : StandsAsMember (changed s begun k.sessions) (fields_at k) g
  members-then z n v stands = by (old.members z n v stands)
    where
      at-session : (o : MemberCounts k.sessions (fields_at k) z n v) → IsOrNot o.session.number s → MemberCounts (changed s begun k.sessions) (fields_at k) z n v
      at-session o (inl is) = record {
        session = begun o.session;
        listed = changed-becomes s begun k.sessions o.session groups.once o.listed is.1;
        number = o.number;
        member = o.member;
        here = o.here;
        is = o.is;
        counts = o.counts;
      }
      at-session o (inr other) = record { session = o.session; listed = changed-stays s begun k.sessions o.session o.listed other.1; number = o.number; member = o.member; here = o.here; is = o.is; counts = o.counts }

      by : MemberCounts k.sessions (fields_at k) z n v → MemberCounts (changed s begun k.sessions) (fields_at k) z n v
      by o = at-session o (eqb_tells o.session.number s)

  pub closing-begun : ClosingIn (changed s begun k.sessions) k.flight (fields_at k) ps now c M g
  closing-begun = record { held = old.held; free = old.free; records = records-then; sealed = sealed-then; revertible = revertible-then; whole = old.whole; members = members-then }
