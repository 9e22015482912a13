-- What makes no move keeps the laws of closed cuts: events of which no cut, no group and no held volume hears, and a volume that is
-- defined. They hold before the first step.
use Rattle.std.proofs.Common.{ℕ, ◌≡◌, ◌≢◌, ◌<◌, refl, ap, sym, ◌∙◌, true, false, List, [], ◌∷◌, ◌++◌, Some, subst}
use Rattle.dr_logic.specs.Tables.{at}
use Rattle.dr_model.specs.declared.event.Event.{Event}
use Rattle.dr_model.specs.declared.event.Event.TheVariants.{Ack}
use Rattle.dr_model.specs.Layout.{Fields, no_fields}
use Rattle.dr_model.specs.Histories.{Lists, histories, lists}
use Rattle.dr_model.specs.Control.{Pending, World, is_volume, nothing}
use Rattle.dr_model.specs.Pairs.{primary_of}
use Rattle.dr_model.specs.Entries.{fields_at}
use Rattle.dr_ids.specs.declared.names.Member.{Member}
use Rattle.dr_model.specs.Sessions.{Session}
use Rattle.dr_model.specs.Messages.{Flight}
use Rattle.dr_model.specs.Groups.{In, Groups}
use Rattle.dr_model.specs.Cuts.{Cuts, past, cuts}
use Rattle.dr_laws_cuts.specs.Once.{NoCuts}
use Rattle.dr_facts.proofs.Tables.{at_cases}
use Rattle.dr_laws_cuts.proofs.Journal.{cuts-quiet}
use Rattle.dr_laws_closed.specs.Moments.{memory, moments, standing}
use Rattle.dr_laws_closed.specs.Closing.{Whole, AllFields, HeldAsCut, LandedFree, CountsFor, MemberCounts, ClosingIn, Closing}
use Rattle.dr_laws_closed.specs.Silent.{AllStill}
use Rattle.dr_laws_closed.proofs.Told.{moments-quiet, standing-still, lists-apart}
use Rattle.dr_laws_closed.proofs.Pendings.{each-on}
use Rattle.dr_laws_closed.proofs.Flown.{closing-flown, eases-same}
use Rattle.dr_logic.proofs.Truth.{false_true}

pub closing-nothing : Closing nothing
unfolding past memory standing
closing-nothing = record {
  held = λ v rec. absurd cc;
  free = tt;
  records = λ x m i. absurd i;
  sealed = λ x m i. absurd i;
  revertible = λ x m i. absurd i;
  whole = λ s n a h. absurd cc;
  members = λ s n a h. absurd cc;
}

module _ (w x : World) (old : Closing w) (more : List Event) (cut : NoCuts more) (still : AllStill more) (is : x.events ≡ w.events ++ more) (sessions : x.control.sessions ≡ w.control.sessions) (messages : x.control.flight.messages ≡ w.control.flight.messages) where
  abbrev c : Cuts
  c = cuts w.events

  -- the tables are as they were
  with-tables : (f : AllFields) → fields_at x.control ≡ f → ClosingIn w.control.sessions w.control.flight f x.control.pending (lists x.events) c (moments w.events) (standing w.events) → Closing x
  with-tables f fields new =
      let now : Lists = lists x.events in
      let ps : List Pending = x.control.pending in
      let to : Flight = x.control.flight in
      subst (λ ss. ClosingIn ss to (fields_at x.control) ps now (cuts x.events) (moments x.events) (standing x.events)) (sym sessions)
      (subst (λ (f : AllFields). ClosingIn w.control.sessions to f ps now (cuts x.events) (moments x.events) (standing x.events)) (sym fields)
      (subst (λ C. ClosingIn w.control.sessions to f ps now C (moments x.events) (standing x.events)) (sym (ap cuts is ∙ cuts-quiet w.events more cut))
      (subst (λ N. ClosingIn w.control.sessions to f ps now c N (standing x.events)) (sym (ap moments is ∙ moments-quiet w.events more cut))
      (subst (λ G. ClosingIn w.control.sessions to f ps now c (moments w.events) G) (sym (ap standing is ∙ standing-still w.events more still))
      (closing-flown w.control.sessions w.control.flight to f ps now c (moments w.events) (standing w.events) (eases-same w.control.sessions w.control.flight to messages) new)))))

  pub closing-told : ((v : ℕ) → (fields_at w.control v).recording ≡ true → (fields_at w.control v).coordination ≡ true → (t : ℕ) → lists x.events v t ≡ lists w.events v t) → fields_at x.control ≡ fields_at w.control → LandedFree (fields_at w.control) x.control.pending → Closing x
  closing-told same fields free = with-tables (fields_at w.control) fields (record {
    held = λ v rec held t. same v rec held t ∙ old.held v rec held t;
    free = free;
    records = old.records;
    sealed = old.sealed;
    revertible = old.revertible;
    whole = old.whole;
    members = old.members;
  })

  -- a volume that wasn't there has no place
  pub closing-defined : (v : ℕ) → is_volume w.control v ≡ false → Groups w.control → ((u t : ℕ) → u ≢ v → lists x.events u t ≡ lists w.events u t) → fields_at x.control ≡ at (fields_at w.control) v no_fields → x.control.pending ≡ w.control.pending → Closing x
  closing-defined v undefined groups same fields pending = with-tables (at (fields_at w.control) v no_fields) fields (record {
    held = at_cases (λ u y. HeldAsCut (lists x.events) c u y) (fields_at w.control) v no_fields (λ rec. absurd cc) (λ u ne rec held t. same u t ne ∙ old.held u rec held t);
    free = subst (λ (ps : List Pending). LandedFree (at (fields_at w.control) v no_fields) ps) (sym pending)
        (each-on (λ p free l. at_cases (λ u (y : Fields). (fields_at w.control u).coordination ≡ false → y.coordination ≡ false) (fields_at w.control) v no_fields (λ off. refl) (λ u ne off. off) p.volume (free l)) w.control.pending old.free);
    records = λ z m i here. at_cases (λ u (y : Fields). m.a.0 ≡ u → y.recording ≡ true → Whole c (moments w.events) z.number z.last m.a.0) (fields_at w.control) v no_fields (λ e rec. absurd cc)
        (λ u ne e rec. old.records z m i here (subst (λ u. (fields_at w.control u).recording ≡ true) (sym e) rec)) m.a.0 refl;
    sealed = λ z m i here awaited low. at_cases (λ u (y : Fields). m.b.0 ≡ u → primary_of y ≡ Some m.a.0 → y.seal ≡ z.last → Whole c (moments w.events) z.number z.last m.a.0) (fields_at w.control) v no_fields (λ e to. absurd cc)
        (λ u ne e to is. old.sealed z m i here awaited (floor-before z m i here low) (ap (λ u. primary_of (fields_at w.control u)) e ∙ to) (ap (λ u. (fields_at w.control u).seal) e ∙ is)) m.b.0 refl;
    revertible = λ z m i here. at_cases (λ u (y : Fields). m.c.0 ≡ u → y.revertible ≡ true → Whole c (moments w.events) z.number z.last m.a.0) (fields_at w.control) v no_fields (λ e rev. absurd cc)
        (λ u ne e rev. old.revertible z m i here (subst (λ u. (fields_at w.control u).revertible ≡ true) (sym e) rev)) m.c.0 refl;
    whole = old.whole;
    members = λ s n a h. again s n a (old.members s n a h);
  })
    where
      -- a target of a member is defined, so it is another volume
      floor-before : (z : Session) (m : Member) → In z w.control.sessions → In m z.members → (at (fields_at w.control) v no_fields m.c.0).floor < z.last → (fields_at w.control m.c.0).floor < z.last
      floor-before z m i here = at_cases (λ u (y : Fields). m.c.0 ≡ u → y.floor < z.last → (fields_at w.control u).floor < z.last) (fields_at w.control) v no_fields
          (λ e low. absurd (false_true undefined (subst (λ u. is_volume w.control u ≡ true) e ((groups.each z i).stands m here).c))) (λ u ne e low. low) m.c.0 refl

      again : (s n a : ℕ) → MemberCounts w.control.sessions (fields_at w.control) s n a → MemberCounts w.control.sessions (at (fields_at w.control) v no_fields) s n a
      again s n a o = record {
        session = o.session;
        listed = o.listed;
        number = o.number;
        member = o.member;
        here = o.here;
        is = o.is;
        counts = at_cases (λ u y. o.member.c.0 ≡ u → CountsFor n y) (fields_at w.control) v no_fields
            (λ e. absurd (false_true undefined (subst (λ u. is_volume w.control u ≡ true) e ((groups.each o.session o.listed).stands o.member o.here).c)))
            (λ u ne e. subst (λ u. CountsFor n (fields_at w.control u)) e o.counts) o.member.c.0 refl;
      }

-- a write that landed in a stop is acknowledged: its volume isn't held
pub closing-acknowledged : (w x : World) → Closing w → (n : ℕ) → x.events ≡ w.events ++ Ack n ∷ [] → (fields_at w.control ((histories w.events).write n).volume).coordination ≡ false → x.control.sessions ≡ w.control.sessions → x.control.flight.messages ≡ w.control.flight.messages → fields_at x.control ≡ fields_at w.control
    → LandedFree (fields_at w.control) x.control.pending → Closing x
closing-acknowledged w x old n is off sessions messages fields free = closing-told w x old (Ack n ∷ []) (tt, tt) (tt, tt) is sessions messages
    (λ v rec held t. ap (λ es. lists es v t) is ∙ lists-apart w.events (Ack n ∷ []) v t ((λ e. false_true off (subst (λ u. (fields_at w.control u).coordination ≡ true) e held)), tt))
    fields free
