use Rattle.dr_laws_closed.proofs.Quiet.{closing-told, closing-defined, closing-acknowledged}
use Rattle.dr_laws_closed.proofs.what_moves_nothing_keeps_closed_cuts.Goals as goal

pub returns-clause-told : goal.returns-clause-told
returns-clause-told c = λ w x more old cut still is sessions messages same fields free. closing-told w x old more cut still is sessions messages same fields free

pub returns-clause-acknowledged : goal.returns-clause-acknowledged
returns-clause-acknowledged c = λ w x n old is off sessions messages fields free. closing-acknowledged w x old n is off sessions messages fields free

pub returns-clause-defined : goal.returns-clause-defined
returns-clause-defined c = λ w x more v old cut still is sessions messages undefined groups same fields pending. closing-defined w x old more cut still is sessions messages v undefined groups same fields pending
