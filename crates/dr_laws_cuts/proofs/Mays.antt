-- What may come in a sound world keeps its cuts sound: a move, and the first hold of an attempt, done or counted as done in a stop.
use Rattle.std.proofs.Common.{ℕ, ◌≡◌, true, List, ◌++◌, Option}
use Rattle.dr_model.specs.declared.event.Event.{Event}
use Rattle.dr_model.specs.Control.{Volume, World}
use Rattle.dr_model.specs.Moves.{Move, Hold, told, told_in_stop}
use Rattle.dr_model.specs.Laws.{SoundBut}
use Rattle.dr_model.specs.Allowed.{May, MayOpen}
use Rattle.dr_laws_cuts.specs.Once.{NoCuts}
use Rattle.dr_laws_cuts.specs.Sound.{SoundCuts, MovedTo}
use Rattle.dr_laws_cuts.proofs.Worlds.{calm-ready, member-defined, held-defined, sound-done, sound-stop}

module _ (starts : Option ℕ) (w : World) (sound : SoundBut starts w) (old : SoundCuts w) (x : World) (u : Volume) where
  pub may-done : (m : Move) → May w m → MovedTo w x m → x.events ≡ w.events ++ told m u → SoundCuts x
  may-done m may to is = sound-done w sound.rows sound.queue.numbers old x m may.allowed (calm-ready w m may.ready) (held-defined w m sound.groups may.group) to u is

  pub may-stop : (m : Move) → May w m → MovedTo w x m → (more : List Event) → NoCuts more → x.events ≡ w.events ++ (told_in_stop m u ++ more) → SoundCuts x
  may-stop m may to more quiet is = sound-stop w sound.rows sound.queue.numbers old x m may.allowed (calm-ready w m may.ready) (held-defined w m sound.groups may.group) to u more quiet is

  pub open-done : (v s n : ℕ) → MayOpen w v s n → MovedTo w x (Hold v s n true) → x.events ≡ w.events ++ told (Hold v s n true) u → SoundCuts x
  open-done v s n may to is = sound-done w sound.rows sound.queue.numbers old x (Hold v s n true) may.allowed (calm-ready w (Hold v s n true) may.ready) (member-defined w v s sound.groups may.opens.place) to u is

  pub open-stop : (v s n : ℕ) → MayOpen w v s n → MovedTo w x (Hold v s n true) → (more : List Event) → NoCuts more → x.events ≡ w.events ++ (told_in_stop (Hold v s n true) u ++ more) → SoundCuts x
  open-stop v s n may to more quiet is = sound-stop w sound.rows sound.queue.numbers old x (Hold v s n true) may.allowed (calm-ready w (Hold v s n true) may.ready) (member-defined w v s sound.groups may.opens.place) to u more quiet is
