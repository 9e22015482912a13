-- Each kind of move keeps the laws on cuts.
use Rattle.dr_model.specs.Histories.{Lists, Write}
use Rattle.dr_model.specs.Moves.{Move}
use Rattle.dr_model.specs.Table.{Table}
use Rattle.dr_model.specs.Rows.{after}
use Rattle.dr_model.specs.Laws.{SoundRows}
use Rattle.dr_model.specs.Allowed.{Allowed}
use Rattle.dr_model.specs.Cuts.{Cuts, CutLaws, IsCalm, next_cuts}
use Rattle.std.proofs.Common.{ℕ}
use Rattle.dr_laws_cuts.proofs.KeepsCut.{kept-cut, kept-unsent}
use Rattle.dr_laws_cuts.proofs.KeepsSent.{kept-sent, kept-sealed}

pub kept-cuts : (write : ℕ → Write) (T : Table) (c : Cuts) (now : Lists) (m : Move) → CutLaws write c T → SoundRows T → Allowed write T m → IsCalm write now T m → CutLaws write (next_cuts now m c) (after write T m)
kept-cuts write T c now m old rows a calm = record {
  cut = kept-cut write T rows c now old.cut m a;
  unsent = kept-unsent write T rows c now old.unsent m a calm;
  sent = kept-sent write T rows c now old m a calm;
  sealed = kept-sealed write T rows c now old m a;
}
