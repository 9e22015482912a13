-- The lists that are held at cuts have only numbers of issued writes: so a write that is issued later changes no law. Nor do the
-- laws depend on what tracks contain.
use Rattle.std.proofs.Common.{ℕ, ◌≡◌, ◌<◌, ◌+◌, sym, ◌∙◌, List, subst}
use Rattle.dr_logic.specs.Tables.{at}
use Rattle.dr_model.specs.Histories.{Lists, Write}
use Rattle.dr_model.specs.Contents.{image}
use Rattle.dr_model.specs.Moves.{Move, Hold}
use Rattle.dr_model.specs.Table.{Table}
use Rattle.dr_model.specs.Laws.{Below}
use Rattle.dr_model.specs.Cuts.{Cuts, CutLaws, no_cuts, next_cuts}
use Rattle.dr_model.proofs.Images.{image-issue, Below-more}
use Rattle.dr_laws_cuts.specs.Sound.{CutsBelow, SameRow}
use Rattle.dr_facts.proofs.Tables.{at2_cases}

pub below-none : (n : ℕ) → CutsBelow n no_cuts
below-none n k v t = tt

pub below-more : (n m : ℕ) (c : Cuts) → n < m + 1 → CutsBelow n c → CutsBelow m c
below-more n m c lt low k v t = Below-more n m (c.held k v t) lt (low k v t)

pub below-next : (n : ℕ) (c : Cuts) (now : Lists) (m : Move) → ((v t : ℕ) → Below n (now v t)) → CutsBelow n c → CutsBelow n (next_cuts now m c)
below-next n c now (Hold v s k first) lists low = λ j x t. at2_cases (λ j x (l : ℕ → List ℕ). Below n (l t)) c.held k v (now v) (lists v t) (λ j x ne. low j x t) j x
below-next n c now m lists low = low

-- other writes, of which those of the lists are as they were
pub laws-write : (write more : ℕ → Write) (c : Cuts) (T : Table) → ((k v t : ℕ) → image more (c.held k v t) ≡ image write (c.held k v t)) → CutLaws write c T → CutLaws more c T
laws-write write more c T same old = record {
  cut = old.cut;
  unsent = λ v rec t lt i. old.unsent v rec t lt i ∙ sym (same _ v t);
  sent = λ v u h rec k t lt i. old.sent v u h rec k t lt i ∙ sym (same _ v t);
  sealed = λ v u h nz. let o = old.sealed v u h nz in record { cut = o.cut; tracks = λ t lt. o.tracks t lt ∙ sym (same _ u t) };
}

pub laws-issue : (write : ℕ → Write) (n : ℕ) (x : Write) (c : Cuts) (T : Table) → CutsBelow n c → CutLaws write c T → CutLaws (at write n x) c T
laws-issue write n x c T low old = laws-write write (at write n x) c T (λ k v t. image-issue write n x (c.held k v t) (low k v t)) old

-- other rows that say the same
pub laws-rows : (write : ℕ → Write) (c : Cuts) (T U : Table) → ((v : ℕ) → SameRow (T v) (U v)) → CutLaws write c T → CutLaws write c U
laws-rows write c T U same old =
    subst (CutLaws write c)
    (λ i v. record {
      defined = (U v).defined;
      volume = record (U v).volume { fields = sym (same v).fields i; tracks = sym (same v).tracks i };
      bytes = (U v).bytes;
      due = λ t. sym ((same v).due t) i;
      aside = (U v).aside;
    })
    (record {
      cut = old.cut;
      unsent = old.unsent;
      sent = old.sent;
      sealed = λ v u h nz. let o = old.sealed v u h nz in record { cut = o.cut; tracks = o.tracks };
    })
