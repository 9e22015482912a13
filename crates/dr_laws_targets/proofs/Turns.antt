-- What each kind of move makes of the target of a member: of the one that it changes, and of the others.
use Rattle.std.proofs.Common.{ℕ, ◌≡◌, ◌≢◌, ◌<◌, ◌≤◌, inl, inr, refl, ap, sym, ◌∙◌, arith, Bool, true, false, cond, ◌&&◌, nat_eq, Option, Some, None, subst}
use Rattle.std.proofs.lemmas.Bool.{and_parts, eqb-true, or_right, or_left}
use Rattle.dr_ids.specs.declared.names.Member.{Member}
use Rattle.dr_model.specs.Layout.{Fields}
use Rattle.dr_model.specs.Histories.{Write, histories}
use Rattle.dr_model.specs.Control.{Control, World}
use Rattle.dr_model.specs.Relations.{is_bare, parted_if, turned, given_up, fetched, rewritten}
use Rattle.dr_model.specs.Moves.{Move, Land, Overwrite, Keep, Relate, Withdraw, Fetch, Resync, Reverse, Restore, Release, Store, Mirror, LandBoth, Leave, Flash, Commit, Revert, target, fields_left}
use Rattle.dr_model.specs.Entries.{fields_at}
use Rattle.dr_model.specs.Sessions.{Session}
use Rattle.dr_model.specs.Table.{Table, table}
use Rattle.dr_model.specs.Rows.{next_row}
use Rattle.dr_model.specs.Groups.{In, Groups}
use Rattle.dr_model.specs.Attempts.{seen, roles, number_shown, Attempts, DoesNotCount, TargetOf, InAttempt}
use Rattle.dr_model.specs.Laws.{SoundBut, source}
use Rattle.dr_model.specs.Allowed.{Allowed, MayFlash}
use Rattle.dr_model.specs.Cuts.{Cuts, HoldsCut, cuts, at_cut}
use Rattle.dr_laws_attempts.proofs.Moves.{flashable, uncounted-by, reversing-uncounted, or-first}
use Rattle.dr_laws_cuts.specs.Sound.{SoundCuts}
use Rattle.dr_laws_cuts.proofs.Still.{plain-second}
use Rattle.dr_laws_closed.specs.Moments.{Standing, is_one}
use Rattle.dr_laws_closed.specs.Next.{next_standing}
use Rattle.dr_laws_closed.proofs.Standings.{stays-with, stays-without, is-same}
use Rattle.dr_laws_closed.proofs.Counts.{numbered}
use Rattle.dr_laws_targets.specs.Committeds.{next_committed}
use Rattle.dr_laws_targets.proofs.Holds.{RowHolds, row-uncounted, parted}
use Rattle.dr_logic.proofs.Options.{none_some}

parted-uncounted : (b : Bool) (f : Fields) → DoesNotCount f → DoesNotCount (parted_if b f)
parted-uncounted true f none = refl
parted-uncounted false f none = none

reversed-uncounted : (b : Bool) (f : Fields) → f.revertible ≡ false → DoesNotCount (parted_if b (turned f))
reversed-uncounted true f plain = refl
reversed-uncounted false f plain = plain

module _ (k : Control) (groups : Groups k) (law : Attempts k) where
  -- a target that may go back has a greater number than it had before
  pub grown : (x : Session) (m : Member) → In x k.sessions → In m x.members → (fields_at k m.c.0).revertible ≡ true → (fields_at k m.c.0).member ≡ true → (fields_at k m.c.0).previous_sequence < (fields_at k m.c.0).sequence
  grown x m i here rev mem =
      let r = numbered k groups law x m i here in
      let low : number_shown (seen (roles k) m) ≤ (fields_at k m.c.0).floor = r.reached mem in
      let is : number_shown (seen (roles k) m) ≡ (fields_at k m.c.0).previous_sequence = ap (λ b. cond b (fields_at k m.c.0).previous_sequence (fields_at k m.c.0).sequence) rev in
      let above : (fields_at k m.c.0).floor < x.last = r.above rev in
      let last : (fields_at k m.c.0).sequence ≡ x.last = r.last rev in
      omega arith

  -- who goes is the primary of the member whose target v is
  module _ (x : Session) (q : Member) (i : In x k.sessions) (here : In q x.members) (v : ℕ) (ne : q.c.0 ≢ v) where
    apart : (p s : ℕ) → TargetOf k v p s → q.a.0 ≡ p → ⊥
    apart p s t e = ne (ap (λ (m : Member). m.c.0) (groups.lone.one p x t.place.session q t.place.member i t.place.listed here t.place.here (inl (sym e)) (inl (sym t.place.is))).1 ∙ t.target)

    leaves-on : (g : Standing) (p s j : ℕ) → TargetOf k v p s → g x.number j q.a.0 ≡ true → cond (nat_eq x.number s && nat_eq q.a.0 p) false (g x.number j q.a.0) ≡ true
    leaves-on g p s j t h = stays-without (nat_eq x.number s && nat_eq q.a.0 p) (g x.number j q.a.0) (λ e. apart p s t (eqb-true q.a.0 p (and_parts _ _ e).1)) h

  pub other-stands : (g : Standing) (m : Move) → InAttempt k m → (x : Session) (q : Member) → In x k.sessions → In q x.members → q.c.0 ≢ target m → (j : ℕ) → g x.number j q.a.0 ≡ true → next_standing m (k.volume (target m)) g x.number j q.a.0 ≡ true
  other-stands g (Reverse v None) a x q i here ne j h = h
  other-stands g (Reverse v (Some p)) a x q i here ne j h = leaves-on x q i here v ne g p (fields_at k v).session j (a.1.named p refl) h
  other-stands g (Leave v p s) a x q i here ne j h = leaves-on x q i here v ne g p s j (a.1.named p refl) h
  other-stands g (Flash v u p s n) a x q i here ne j h = stays-with (is_one s n p x.number j q.a.0) (g x.number j q.a.0) h
  other-stands g (Revert v p s n) a x q i here ne j h =
      stays-without (is_one s n p x.number j q.a.0) (g x.number j q.a.0) (λ e. apart x q i here v ne p s (record { place = a.place; target = a.target }) (eqb-true q.a.0 p (and_parts _ _ (and_parts _ _ e).1).1)) h
  other-stands g m a x q i here ne j h = h

  pub other-committed : (l : Standing) (m : Move) → InAttempt k m → (x : Session) (q : Member) → In x k.sessions → In q x.members → q.c.0 ≢ target m → (j : ℕ) → l x.number j q.a.0 ≡ true → next_committed m (k.volume (target m)) l x.number j q.a.0 ≡ true
  other-committed l (Reverse v None) a x q i here ne j h = h
  other-committed l (Reverse v (Some p)) a x q i here ne j h = leaves-on x q i here v ne l p (fields_at k v).session j (a.1.named p refl) h
  other-committed l (Leave v p s) a x q i here ne j h = leaves-on x q i here v ne l p s j (a.1.named p refl) h
  other-committed l (Commit v p s n) a x q i here ne j h = stays-with (is_one s n p x.number j q.a.0) (l x.number j q.a.0) h
  other-committed l m a x q i here ne j h = h

-- ---- the target that changes

module _ (starts : Option ℕ) (w : World) (sound : SoundBut starts w) (kept : SoundCuts w) where
  abbrev k : Control
  k = w.control

  abbrev T : Table
  T = table w

  abbrev write : ℕ → Write
  write = (histories w.events).write

  abbrev c : Cuts
  c = cuts w.events

  -- what is no target doesn't count
  plain-uncounted : (v : ℕ) → source (T v) ≡ None → DoesNotCount (fields_at k v)
  plain-uncounted v plain = uncounted-by k sound.attempts v (λ t. none_some plain t.source)

  -- a secondary that is sealed for the attempt holds its cut
  pub flashed-shows : (v u p s n : ℕ) → MayFlash T v u p n → InAttempt k (Flash v u p s n) → (t : ℕ) → t < (T v).volume.tracks → (T u).due t ≡ at_cut write c n p t
  flashed-shows v u p s n a b t lt =
      let x : Session = b.place.session in
      let low : (fields_at k v).floor < n = b.low in
      let last : n ≡ x.last = b.last in
      let some : x.last ≢ 0 = λ e. omega arith in
      let holds : HoldsCut write c u (T u) p = kept.laws.sealed u p a.takes (λ e. some (sym b.last ∙ (sym a.sealed ∙ e))) in
      let same : (T v).volume.tracks ≡ (T u).volume.tracks = (sound.rows.structure.flash v a.resync.from a.resync.related).same_tracks ∙ ap (λ j. (T j).volume.tracks) a.from in
      holds.tracks t (subst (λ j. t < j) same lt) ∙ ap (λ j. at_cut write c j p t) a.sealed

  module _ (g l : Standing) (x : Session) (q : Member) (i : In x k.sessions) (here : In q x.members) where
    abbrev Then : Move → Type 0
    Then m = RowHolds write c (next_standing m (k.volume (target m)) g) (next_committed m (k.volume (target m)) l) x.number q.a.0 (next_row write m T)

    -- the member of which the move says that it is its target
    the-member : (v p s : ℕ) (t : TargetOf k v p s) → q.c.0 ≡ v → (x.number ≡ s) × (q.a.0 ≡ p)
    the-member v p s t e =
        let one = sound.groups.lone.one v x t.place.session q t.place.member i t.place.listed here t.place.here (inr (inr (sym e))) (inr (inr (sym t.target))) in
        (one.0 ∙ t.place.number, ap (λ (m : Member). m.a.0) one.1 ∙ t.place.is)

    flashes : (v u p s n : ℕ) → MayFlash T v u p n → InAttempt k (Flash v u p s n) → q.c.0 ≡ v → RowHolds write c g l x.number q.a.0 (T v) → Then (Flash v u p s n)
    flashes v u p s n a b e o =
        let f : Fields = fields_at k v in
        let one = the-member v p s (record { place = b.place; target = b.target }) e in
        record {
          shows = λ counts t lt. flashed-shows v u p s n a b t lt ∙ ap (λ j. at_cut write c n j t) (sym one.1);
          keeps = λ rev mem. o.shows (or_left f.member f.revertible mem);
          stands = λ counts. ap (λ b. cond b true (g x.number n q.a.0)) (is-same x.number n q.a.0 s n p one.0 refl one.1);
          stood = λ rev mem. stays-with (is_one s n p x.number f.sequence q.a.0) (g x.number f.sequence q.a.0) (o.stands (or_left f.member f.revertible mem));
          number = λ mem. sym (ap (λ b. l x.number (cond b f.previous_sequence f.sequence) q.a.0) (flashable u f b.free).plain) ∙ o.number mem;
        }

    commits : (v p s n : ℕ) → Allowed write T (Commit v p s n) → InAttempt k (Commit v p s n) → q.c.0 ≡ v → RowHolds write c g l x.number q.a.0 (T v) → Then (Commit v p s n)
    commits v p s n a b e o =
        let f : Fields = fields_at k v in
        let one = the-member v p s (record { place = b.place; target = b.target }) e in
        record {
          shows = λ counts. o.shows (or_right f.member f.revertible b.revertible);
          keeps = λ rev. absurd cc;
          stands = λ counts. o.stands (or_right f.member f.revertible b.revertible);
          stood = λ rev. absurd cc;
          number = λ mem. ap (λ b. cond b true (l x.number f.sequence q.a.0)) (is-same x.number f.sequence q.a.0 s n p one.0 a.number one.1);
        }

    reverts : (v p s n : ℕ) → Allowed write T (Revert v p s n) → InAttempt k (Revert v p s n) → q.c.0 ≡ v → RowHolds write c g l x.number q.a.0 (T v) → Then (Revert v p s n)
    reverts v p s n a b e o =
        let f : Fields = fields_at k v in
        record {
          shows = λ counts. o.keeps b.revertible (or-first f.member counts);
          keeps = λ rev. absurd cc;
          stands = λ counts. stays-without (is_one s n p x.number f.previous_sequence q.a.0) (g x.number f.previous_sequence q.a.0)
              (λ is. other (or-first f.member counts) (eqb-true f.previous_sequence n (and_parts _ _ (and_parts _ _ is).1).0)) (o.stood b.revertible (or-first f.member counts));
          stood = λ rev. absurd cc;
          number = λ mem. sym (ap (λ b. l x.number (cond b f.previous_sequence f.sequence) q.a.0) b.revertible) ∙ o.number mem;
        }
      where
        other : (fields_at k v).member ≡ true → (fields_at k v).previous_sequence ≡ n → ⊥
        other mem is =
            let up : (fields_at k v).previous_sequence < (fields_at k v).sequence =
            subst (λ j. (fields_at k j).revertible ≡ true → (fields_at k j).member ≡ true → (fields_at k j).previous_sequence < (fields_at k j).sequence) e (grown k sound.groups sound.attempts x q i here) b.revertible mem in
            let at-n : (fields_at k v).sequence ≡ n = a.number in
            absurd (omega arith)

    -- one that doesn't count then
    gone : (m : Move) → DoesNotCount (fields_left m (k.volume (target m))) → Then m
    gone m none = row-uncounted write c (next_standing m (k.volume (target m)) g) (next_committed m (k.volume (target m)) l) x.number q.a.0 (next_row write m T) none

    pub turns : (m : Move) → Allowed write T m → InAttempt k m → q.c.0 ≡ target m → RowHolds write c g l x.number q.a.0 (T (target m)) → Then m
    turns (Land n v t) a b e o = gone (Land n v t) (plain-uncounted v a.plain)
    turns (LandBoth n v t) a b e o = gone (LandBoth n v t) (plain-uncounted v a.land.plain)
    turns (Restore v t u) a b e o = gone (Restore v t u) (plain-uncounted v (sound.rows.structure.flash u v a.related).plain)
    turns (Store v t u last) a b e o = gone (Store v t u last) (plain-uncounted v (plain-second T sound.rows v u a.takes))
    turns (Mirror v t u n) a b e o = gone (Mirror v t u n) (plain-uncounted v (plain-second T sound.rows v u a.takes))
    turns (Overwrite n v t) a b e o = let f : Fields = fields_at k v in gone (Overwrite n v t) (parted-uncounted _ (rewritten (fetched f t) t) b.1)
    turns (Keep v t) a b e o = parted write c g l x.number q.a.0 (T v).volume.tracks (T v).due (T v).aside _ _ _ _ _ o
    turns (Fetch v t) a b e o = parted write c g l x.number q.a.0 (T v).volume.tracks (T v).due (T v).aside _ _ _ _ _ o
    turns (Relate v s choices) a b e o = gone (Relate v s choices) refl
    turns (Withdraw v) a b e o = gone (Withdraw v) refl
    turns (Resync v sequence) a b e o = gone (Resync v sequence) b
    turns (Reverse v left) a b e o = gone (Reverse v left) (reversed-uncounted (is_bare (turned (fields_at k v)).own) (fields_at k v) b.0.plain)
    turns (Release v t) a b e o = gone (Release v t) (parted-uncounted _ (given_up (fields_at k v) t) (reversing-uncounted k sound.attempts v b))
    turns (Leave v p s) a b e o = gone (Leave v p s) b.0.plain
    turns (Flash v u p s n) a b e o = flashes v u p s n a b e o
    turns (Commit v p s n) a b e o = commits v p s n a b e o
    turns (Revert v p s n) a b e o = reverts v p s n a b e o
    turns m a b e o = o
