-- How a relationship is made, in the machine's words.
use Rattle.dr_model.specs.Relations.{Choices}
use Rattle.dr_moves.specs.declared.options.FlashOptions.{FlashOptions}

-- the machine's choices of an option record
abbrev pub choices : FlashOptions → Choices
choices o = record { nocopy = o.nocopy; persistent = o.persistent; recorded = o.recorded; inhibited = o.inhibited; sequence = o.sequence }
