use Rattle.dr_laws_recovery.proofs.BothViews.{both-stay, flash-shows, commit-shows, revert-shows}
use Rattle.dr_laws_recovery.proofs.a_revertible_target_keeps_both_views.Goals as goal

pub returns-clause-flash : goal.returns-clause-flash
returns-clause-flash c = λ write T v u a s n t rows may lt. flash-shows write T rows v t lt u a s n may

pub returns-clause-stay : goal.returns-clause-stay
returns-clause-stay c = λ write T m v t rows may is other lt. both-stay write T rows m may v is other t lt

pub returns-clause-commit : goal.returns-clause-commit
returns-clause-commit c = λ write T v a s n t rows may lt. commit-shows write T rows v t lt a s n may

pub returns-clause-revert : goal.returns-clause-revert
returns-clause-revert c = λ write T v a s n t rows may lt. revert-shows write T rows v t lt a s n may
