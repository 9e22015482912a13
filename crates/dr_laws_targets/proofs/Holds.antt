-- What holds of the target of one member: what it shows, and the groups in which its primary stands.
use Rattle.std.proofs.Common.{ℕ, ◌≡◌, ◌<◌, ◌∙◌, refl, ap, sym, Bool, true, false, cond, ◌||◌, List, None}
use Rattle.std.proofs.lemmas.Bool.{or_left}
use Rattle.dr_model.specs.Histories.{Lists, Write}
use Rattle.dr_model.specs.Contents.{image}
use Rattle.dr_model.specs.Sessions.{Session}
use Rattle.dr_model.specs.Table.{Row, Table}
use Rattle.dr_model.specs.Attempts.{DoesNotCount}
use Rattle.dr_model.specs.Cuts.{Cuts, at_cut, cut_for}
use Rattle.dr_facts.proofs.Tables.{at2_other}
use Rattle.dr_laws_closed.specs.Moments.{Moments, Standing}
use Rattle.dr_laws_closed.specs.Closing.{StandsWhole, Members}
use Rattle.dr_laws_targets.specs.Counted.{CommittedAsMember, CountedIn}
use Rattle.dr_logic.proofs.Truth.{false_true}
use Rattle.dr_logic.proofs.Options.{none_some}

-- The target of a member of session s whose primary is a: what it shows, what it would show if it went back, and the groups and the
-- number with which a stands.
pub record Holds (write : ℕ → Write) (c : Cuts) (g l : Standing) (s a tracks : ℕ) (due aside : ℕ → List ℕ) (member revertible : Bool) (sequence previous : ℕ) : Type 0 where
  pub shows : (member || revertible) ≡ true → (t : ℕ) → t < tracks → due t ≡ at_cut write c sequence a t
  pub keeps : revertible ≡ true → member ≡ true → (t : ℕ) → t < tracks → aside t ≡ at_cut write c previous a t
  pub stands : (member || revertible) ≡ true → g s sequence a ≡ true
  pub stood : revertible ≡ true → member ≡ true → g s previous a ≡ true
  pub number : member ≡ true → l s (cond revertible previous sequence) a ≡ true

abbrev pub RowHolds : (ℕ → Write) → Cuts → Standing → Standing → ℕ → ℕ → Row → Type 0
RowHolds write c g l s a r = Holds write c g l s a r.volume.tracks r.due r.aside r.volume.fields.member r.volume.fields.revertible r.volume.fields.sequence r.volume.fields.previous_sequence

abbrev pub AllHold : (ℕ → Write) → List Session → Table → Cuts → Standing → Standing → Type 0
AllHold write ss T c g l = Members ss (λ x m. RowHolds write c g l x.number m.a.0 (T m.c.0))

pub all-hold : (write : ℕ → Write) (ss : List Session) (T : Table) (c : Cuts) (g l : Standing) → CountedIn write ss T c g l → AllHold write ss T c g l
all-hold write ss T c g l o x m i here = record { shows = o.shows x m i here; keeps = o.keeps x m i here; stands = o.stands x m i here; stood = o.stood x m i here; number = o.numbers x m i here }

pub counted-of : (write : ℕ → Write) (ss : List Session) (T : Table) (c : Cuts) (g l : Standing) → AllHold write ss T c g l → CommittedAsMember ss T l → CountedIn write ss T c g l
counted-of write ss T c g l h committed = record {
  shows = λ x m i here. (h x m i here).shows;
  keeps = λ x m i here. (h x m i here).keeps;
  stands = λ x m i here. (h x m i here).stands;
  stood = λ x m i here. (h x m i here).stood;
  numbers = λ x m i here. (h x m i here).number;
  committed = committed;
}

module _ (write : ℕ → Write) (c : Cuts) (g l : Standing) (s a tracks : ℕ) (due aside : ℕ → List ℕ) where
  -- of one that doesn't count nothing is asked
  uncounted : (member revertible : Bool) (sequence previous : ℕ) → (member || revertible) ≡ false → Holds write c g l s a tracks due aside member revertible sequence previous
  uncounted member revertible sequence previous none = record {
    shows = λ counts. false_true none counts;
    keeps = λ rev mem. false_true none (or_left member revertible mem);
    stands = λ counts. false_true none counts;
    stood = λ rev mem. false_true none (or_left member revertible mem);
    number = λ mem. false_true none (or_left member revertible mem);
  }

  -- nor of one whose relationship ends
  pub parted : (b member revertible : Bool) (sequence previous : ℕ) → Holds write c g l s a tracks due aside member revertible sequence previous
      → Holds write c g l s a tracks due aside (cond b false member) (cond b false revertible) (cond b 0 sequence) (cond b 0 previous)
  parted true member revertible sequence previous o = uncounted false false 0 0 refl
  parted false member revertible sequence previous o = o

  -- it stays where the groups of the primary do
  pub stands-on : (h k : Standing) → ((j : ℕ) → g s j a ≡ true → h s j a ≡ true) → ((j : ℕ) → l s j a ≡ true → k s j a ≡ true) → (member revertible : Bool) (sequence previous : ℕ)
      → Holds write c g l s a tracks due aside member revertible sequence previous → Holds write c h k s a tracks due aside member revertible sequence previous
  stands-on h k to num member revertible sequence previous o = record {
    shows = o.shows;
    keeps = o.keeps;
    stands = λ counts. to sequence (o.stands counts);
    stood = λ rev mem. to previous (o.stood rev mem);
    number = λ mem. num (cond revertible previous sequence) (o.number mem);
  }

pub row-uncounted : (write : ℕ → Write) (c : Cuts) (g l : Standing) (s a : ℕ) (r : Row) → DoesNotCount r.volume.fields → RowHolds write c g l s a r
row-uncounted write c g l s a r none = uncounted write c g l s a r.volume.tracks r.due r.aside r.volume.fields.member r.volume.fields.revertible r.volume.fields.sequence r.volume.fields.previous_sequence none

-- Where cuts are whole it stays in a hold that is the first of its volume for its number.
module _ (write : ℕ → Write) (c : Cuts) (M : Moments) (g l : Standing) (whole : StandsWhole c M g) (v s n : ℕ) (now : Lists) (fresh : c.by n v ≡ None) where
  still-cut : (z j x t : ℕ) → g z j x ≡ true → at_cut write (cut_for s n v now c) j x t ≡ at_cut write c j x t
  still-cut z j x t h = ap (λ f. image write (f t)) (at2_other c.held n v (now v) j x (λ e i. none_some fresh (sym (ap (λ j. c.by j x) e ∙ ap (c.by n) i) ∙ (whole z j x h).by)))

  pub held-on : (z a tracks : ℕ) (due aside : ℕ → List ℕ) (member revertible : Bool) (sequence previous : ℕ)
      → Holds write c g l z a tracks due aside member revertible sequence previous → Holds write (cut_for s n v now c) g l z a tracks due aside member revertible sequence previous
  held-on z a tracks due aside member revertible sequence previous o = record {
    shows = λ counts t lt. o.shows counts t lt ∙ sym (still-cut z sequence a t (o.stands counts));
    keeps = λ rev mem t lt. o.keeps rev mem t lt ∙ sym (still-cut z previous a t (o.stood rev mem));
    stands = o.stands;
    stood = o.stood;
    number = o.number;
  }
