use Rattle.dr_laws_sound.proofs.Views.{others-stay, keep-shows, note-shows, fetch-shows}
use Rattle.dr_laws_sound.proofs.a_move_leaves_the_other_views.Goals as goal

pub returns-clause-others : goal.returns-clause-others
returns-clause-others c = λ write T m v t rows a ne lt. others-stay write T rows m a v t ne lt

pub returns-clause-keep : goal.returns-clause-keep
returns-clause-keep c = λ write T v t q rows a lt. keep-shows write T rows v t q a lt

pub returns-clause-note : goal.returns-clause-note
returns-clause-note c = λ write T v t q rows a lt. note-shows write T rows v t q a lt

pub returns-clause-fetch : goal.returns-clause-fetch
returns-clause-fetch c = λ write T v t q rows a lt. fetch-shows write T rows v t q a lt
