-- Which events print a line with its number, and which neither print a line nor tell what lines refer to.
use Rattle.std.specs.Prelude.{Bool, true, false}
use Rattle.dr_model.specs.declared.event.Event.{Event}
use Rattle.dr_model.specs.declared.event.Event.TheVariants.{Server, Shown, PairLine, FlashLine, SessionLine, MirrorLine, ImageStart, ImageVolume, ImageBlock, ImageEnd, Answer}

-- an answer
abbrev pub is_answer : Event → Bool
is_answer (Answer line code a b c) = true
is_answer _ = false

-- an answer, or a line of the listings of volumes: pairs and FlashCopy relationships
abbrev pub is_of_volumes : Event → Bool
is_of_volumes (PairLine line v partner state kind k) = true
is_of_volumes (FlashLine line source target sequence previous state flags own) = true
is_of_volumes (Answer line code a b c) = true
is_of_volumes _ = false

-- an answer, or a line of any listing
abbrev pub is_numbered : Event → Bool
is_numbered (PairLine line v partner state kind k) = true
is_numbered (FlashLine line source target sequence previous state flags own) = true
is_numbered (SessionLine line s a b c state) = true
is_numbered (MirrorLine line s server phase n paused) = true
is_numbered (Answer line code a b c) = true
is_numbered _ = false

-- no line, no server's name and no track that is shown
abbrev pub is_silent : Event → Bool
is_silent (Server server len name) = false
is_silent (Shown line v t bytes) = false
is_silent (PairLine line v partner state kind k) = false
is_silent (FlashLine line source target sequence previous state flags own) = false
is_silent (SessionLine line s a b c state) = false
is_silent (MirrorLine line s server phase n paused) = false
is_silent ImageStart = false
is_silent (ImageVolume v server tracks) = false
is_silent (ImageBlock v index bytes) = false
is_silent ImageEnd = false
is_silent (Answer line code a b c) = false
is_silent _ = true
