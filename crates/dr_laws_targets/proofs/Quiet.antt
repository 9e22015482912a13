-- What makes no move keeps that targets that count show their cuts and stand in their groups: events of which no cut and no group hears, a
-- write that is issued, and a volume that is defined. They do so before the first step.
use Rattle.std.proofs.Common.{ℕ, ◌≡◌, ◌≤◌, ◌+◌, refl, ap, sym, ◌∙◌, true, false, ◌||◌, List, [], ◌∷◌, ◌++◌, take, subst}
use Rattle.dr_logic.specs.Tables.{at}
use Rattle.dr_model.specs.declared.event.Event.{Event}
use Rattle.dr_model.specs.declared.event.Event.TheVariants.{Issue}
use Rattle.dr_model.specs.Layout.{Fields, no_fields}
use Rattle.dr_model.specs.Histories.{Histories, Write, histories}
use Rattle.dr_model.specs.Contents.{image}
use Rattle.dr_model.specs.Control.{World, is_volume, nothing}
use Rattle.dr_model.specs.Sessions.{Session}
use Rattle.dr_model.specs.Table.{Row, Table, table}
use Rattle.dr_model.specs.Groups.{Groups}
use Rattle.dr_model.specs.Laws.{fields}
use Rattle.dr_model.specs.Cuts.{Cuts, cuts}
use Rattle.dr_model.proofs.Images.{histories-push, image-issue}
use Rattle.dr_laws_cuts.specs.Once.{NoCuts}
use Rattle.dr_laws_cuts.specs.Sound.{CutsBelow, SoundCuts}
use Rattle.dr_facts.proofs.Tables.{at_cases}
use Rattle.dr_laws_cuts.proofs.Journal.{cuts-quiet}
use Rattle.dr_laws_closed.specs.Moments.{Standing, standing}
use Rattle.dr_laws_closed.specs.Closing.{number_kept}
use Rattle.dr_laws_closed.specs.Silent.{AllStill}
use Rattle.dr_laws_closed.proofs.Told.{standing-still}
use Rattle.dr_laws_targets.specs.Committeds.{committeds}
use Rattle.dr_laws_targets.specs.Counted.{CommittedAsMember, CountedIn, TargetsShowCuts}
use Rattle.dr_laws_targets.proofs.Told.{committeds-still}
use Rattle.dr_laws_targets.proofs.Holds.{RowHolds, AllHold, all-hold, counted-of, row-uncounted}
use Rattle.dr_logic.proofs.Truth.{false_true}

pub counted-nothing : TargetsShowCuts nothing
unfolding committeds
counted-nothing = record {
  shows = λ x m i. absurd i;
  keeps = λ x m i. absurd i;
  stands = λ x m i. absurd i;
  stood = λ x m i. absurd i;
  numbers = λ x m i. absurd i;
  committed = λ s n a h. absurd cc;
}

-- a world in which these are the writes, the sessions, the rows, the cuts and who stands
pub counted-world : (x : World) (write : ℕ → Write) (ss : List Session) (T : Table) (c : Cuts) (g l : Standing)
    → (histories x.events).write ≡ write → x.control.sessions ≡ ss → table x ≡ T → cuts x.events ≡ c → standing x.events ≡ g → committeds x.events ≡ l → CountedIn write ss T c g l → TargetsShowCuts x
counted-world x write ss T c g l writes sessions rows cut stand commit new =
    let C : Cuts = cuts x.events in
    let G : Standing = standing x.events in
    let L : Standing = committeds x.events in
    subst (λ (h : ℕ → Write). CountedIn h x.control.sessions (table x) C G L) (sym writes)
    (subst (λ ss. CountedIn write ss (table x) C G L) (sym sessions)
    (subst (λ (T : Table). CountedIn write ss T C G L) (sym rows)
    (subst (λ c. CountedIn write ss T c G L) (sym cut)
    (subst (λ g. CountedIn write ss T c g L) (sym stand)
    (subst (λ l. CountedIn write ss T c g l) (sym commit) new)))))

-- other writes, of which those of the lists are as they were
pub counted-write : (write more : ℕ → Write) (ss : List Session) (T : Table) (c : Cuts) (g l : Standing) → ((n v t : ℕ) → image more (c.held n v t) ≡ image write (c.held n v t)) → CountedIn write ss T c g l → CountedIn more ss T c g l
counted-write write more ss T c g l same old = record {
  shows = λ x m i here counts t lt. old.shows x m i here counts t lt ∙ sym (same (fields T m.c.0).sequence m.a.0 t);
  keeps = λ x m i here rev mem t lt. old.keeps x m i here rev mem t lt ∙ sym (same (fields T m.c.0).previous_sequence m.a.0 t);
  stands = old.stands;
  stood = old.stood;
  numbers = old.numbers;
  committed = old.committed;
}

module _ (w x : World) (old : TargetsShowCuts w) (more : List Event) (cut : NoCuts more) (still : AllStill more) (is : x.events ≡ w.events ++ more) (sessions : x.control.sessions ≡ w.control.sessions) where
  abbrev write : ℕ → Write
  write = (histories w.events).write

  abbrev T : Table
  T = table w

  abbrev c : Cuts
  c = cuts w.events

  abbrev g : Standing
  g = standing w.events

  abbrev l : Standing
  l = committeds w.events

  with-rows : (h : ℕ → Write) (U : Table) → (histories x.events).write ≡ h → table x ≡ U → CountedIn h w.control.sessions U c g l → TargetsShowCuts x
  with-rows h U writes rows new = counted-world x h w.control.sessions U c g l writes sessions rows
      (ap cuts is ∙ cuts-quiet w.events more cut) (ap standing is ∙ standing-still w.events more still) (ap committeds is ∙ committeds-still w.events more still) new

  pub counted-told : (histories x.events).write ≡ write → table x ≡ T → TargetsShowCuts x
  counted-told writes rows = with-rows write T writes rows old

  pub counted-issue : (n : ℕ) (y : Write) → CutsBelow n c → (histories x.events).write ≡ at write n y → table x ≡ T → TargetsShowCuts x
  counted-issue n y low writes rows = with-rows (at write n y) T writes rows (counted-write write (at write n y) w.control.sessions T c g l (λ k v t. image-issue write n y (c.held k v t) (low k v t)) old)

  -- a volume that wasn't there is no member's target
  pub counted-defined : Groups w.control → (histories x.events).write ≡ write → (v : ℕ) (y : Row) → is_volume w.control v ≡ false → y.volume.fields ≡ no_fields → table x ≡ at T v y → TargetsShowCuts x
  counted-defined groups writes v y undefined bare rows = with-rows write (at T v y) writes rows (counted-of write w.control.sessions (at T v y) c g l all-then again)
    where
      all-then : AllHold write w.control.sessions (at T v y) c g l
      all-then z m i here = at_cases (λ u (r : Row). m.c.0 ≡ u → RowHolds write c g l z.number m.a.0 r) T v y
          (λ e. row-uncounted write c g l z.number m.a.0 y (ap (λ (f : Fields). f.member || f.revertible) bare))
          (λ u ne e. subst (λ u. RowHolds write c g l z.number m.a.0 (T u)) e (all-hold write w.control.sessions T c g l old z m i here)) m.c.0 refl

      again : CommittedAsMember w.control.sessions (at T v y) l
      again s n a h =
          let o = old.committed s n a h in
          let kept : ((fields (at T v y) o.member.c.0).member ≡ true) × (n ≤ number_kept (fields (at T v y) o.member.c.0)) =
          at_cases (λ u (r : Row). o.member.c.0 ≡ u → (r.volume.fields.member ≡ true) × (n ≤ number_kept r.volume.fields)) T v y
          (λ e. absurd (false_true undefined (subst (λ u. is_volume w.control u ≡ true) e ((groups.each o.session o.listed).stands o.member o.here).c)))
          (λ u ne e. subst (λ u. ((fields T u).member ≡ true) × (n ≤ number_kept (fields T u))) e (o.flag, o.reached)) o.member.c.0 refl in
          record { session = o.session; listed = o.listed; number = o.number; member = o.member; here = o.here; is = o.is; flag = kept.0; reached = kept.1 }

-- a write that is issued
pub counted-issued : (w x : World) → SoundCuts w → TargetsShowCuts w → (v t offset len : ℕ) (bytes : List ℕ) → x.events ≡ w.events ++ Issue (w.control.issued + 1) v t offset len bytes ∷ [] → table x ≡ table w → x.control.sessions ≡ w.control.sessions → TargetsShowCuts x
counted-issued w x kept old v t offset len bytes is rows sessions =
    let n : ℕ = w.control.issued + 1 in
    let new : Write = record { volume = v; track = t; offset = offset; bytes = take len bytes } in
    counted-issue w x old (Issue n v t offset len bytes ∷ []) (tt, tt) (tt, tt) is sessions n new kept.numbers
    (ap (λ es. (histories es).write) is ∙ ap (λ (h : Histories). h.write) (histories-push w.events (Issue n v t offset len bytes))) rows
