-- The text of each reason for which a line can't stand in a plan.
use Rattle.std.specs.Prelude.{ℕ, List, [], ◌++◌, codes}
use Rattle.std.specs.Fmt.{decimal}
use Rattle.dr_ids.specs.Spelling.{hex4}
use Rattle.dr_model.specs.LineText.{name_text}
use Rattle.dr_plan.specs.declared.reason.Reason.{Reason}
use Rattle.dr_plan.specs.declared.reason.Reason.TheVariants.{HereMayStand, ServerTwice, ManyDisasters, ManyServers, ManyUses, UnknownServer, UnequalRanges, UnknownVolume, OtherSize, Syntax, NoLineFollows, Missing}
use Rattle.dr_plan.specs.declared.reason.Lack.{Lack}
use Rattle.dr_plan.specs.declared.reason.Lack.TheVariants.{Lose, Use, Here, Then}
use Rattle.dr_plan.specs.declared.stages.Stage.{Stage}
use Rattle.dr_plan.specs.declared.stages.Stage.TheVariants.{Start, Losing, Using, Bounded, Trying, Recovering}

-- the lines of a plan's own that may stand in a stage
abbrev pub may_stand : Stage → List ℕ
may_stand Start = codes "lose NAME .., refused"
may_stand Losing = codes "lose NAME .., use [NAME] RANGE for RANGE, refused"
may_stand Using = codes "use [NAME] RANGE for RANGE, at most NUMBER, here, refused"
may_stand Bounded = codes "here, refused"
may_stand Trying = codes "then, refused"
may_stand Recovering = codes "refused"

-- the word of a line that is missing
abbrev pub lack_word : Lack → List ℕ
lack_word Lose = codes "lose"
lack_word Use = codes "use"
lack_word Here = codes "here"
lack_word Then = codes "then"

-- the words with which the text of a reason begins
abbrev pub reason_words : Reason → List ℕ
reason_words (HereMayStand stage) = codes "here may stand: "
reason_words (ServerTwice name) = codes "server twice: "
reason_words ManyDisasters = codes "more than 8 disasters"
reason_words ManyServers = codes "more than 8 servers"
reason_words ManyUses = codes "more than 8 uses"
reason_words (UnknownServer name) = codes "unknown server "
reason_words UnequalRanges = codes "ranges of unequal length"
reason_words (UnknownVolume volume) = codes "unknown volume "
reason_words (OtherSize first second) = codes "other size: "
reason_words (Syntax column) = codes "syntax "
reason_words NoLineFollows = codes "refused, but no line follows"
reason_words (Missing lack) = codes "missing: "

-- what comes after these words; volumes have four digits
abbrev pub reason_rest : Reason → List ℕ
reason_rest (HereMayStand stage) = may_stand stage
reason_rest (ServerTwice name) = name_text name
reason_rest (UnknownServer name) = name_text name
reason_rest (UnknownVolume volume) = hex4 volume
reason_rest (OtherSize first second) = hex4 first ++ codes " " ++ hex4 second
reason_rest (Syntax column) = decimal column
reason_rest (Missing lack) = lack_word lack
reason_rest _ = []

-- the text of a reason
abbrev pub reason_text : Reason → List ℕ
reason_text reason = reason_words reason ++ reason_rest reason
