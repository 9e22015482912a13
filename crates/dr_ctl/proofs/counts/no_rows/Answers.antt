use Rattle.std.proofs.Common.{replicate, length, ◌≡◌, refl}
use Rattle.std.proofs.lemmas.List.Elements.{All-replicate}
use Rattle.dr_ctl.proofs.Rows.{none-counted-in}
use Rattle.dr_ctl.proofs.counts.no_rows.Goals as goal

pub returns-clause-none : goal.returns-clause-none
returns-clause-none c = λ i s x. none-counted-in 256 8 s x i

pub returns-clause-rows : goal.returns-clause-rows
returns-clause-rows c = All-replicate (λ row. length row ≡ 8) 256 (replicate 8 0) refl
