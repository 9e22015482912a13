-- An example: of two primaries whose targets were flashed for attempt 1 of session 7, one stands committed, and then its target leaves. And a
-- write that was acknowledged, and replaced by a restore.
use Rattle.std.specs.Prelude.{List, [], ◌∷◌, ◌++◌}
use Rattle.dr_model.specs.declared.event.Event.{Event}
use Rattle.dr_model.specs.declared.event.Event.TheVariants.{Issue, Ack, Back, Flashed, Committed, Left}

-- what the journal tells of both
abbrev pub finished : List Event
finished = Flashed 7 1 1 11 21 ∷ Flashed 7 1 2 12 22 ∷ Committed 7 1 1 21 ∷ []

-- the target of volume 1 leaves the session
abbrev pub parted : List Event
parted = finished ++ Left 7 1 ∷ []

-- write 1 lands on track 0 of volume 1, onto which target 21 gives that track back then
abbrev pub restored : List Event
restored = Issue 1 1 0 0 0 [] ∷ Ack 1 ∷ Back 1 0 21 ∷ []
