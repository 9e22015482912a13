-- What recovery finds in an image.
use Rattle.std.specs.Prelude.{ℕ, List, [], ◌∷◌}
use Rattle.dr_ids.specs.declared.refusal.Decision.{Decision}
use Rattle.dr_ids.specs.declared.refusal.Decision.TheVariants.{Impossible}
use Rattle.dr_model.specs.Offline.{counted_in, decided_of, offline_text}
use Rattle.dr_model.specs.PlantImage.{Volume, ended}
use Rattle.dr_report.specs.declared.found.Found.{Found}
use Rattle.dr_report.specs.declared.found.Found.TheVariants.{Lines, Contradiction, NoMembers}
use Rattle.dr_report.specs.Known.{Known}
use Rattle.dr_report.specs.Report.{counted, decided_over, report_by}

-- where some volumes count: two numbers where the decision is impossible, and else the text
abbrev pub found_by : Decision → List ℕ → Found
found_by (Impossible a b) text = Contradiction a b
found_by d text = Lines text

-- by those that count
abbrev pub found_among : {X : Type 0} → List X → Decision → List ℕ → Found
found_among [] d text = NoMembers
found_among (v ∷ vs) d text = found_by d text

-- what recovery of session s finds in an image: no volume counts, their numbers contradict each other, or the text
abbrev pub found_in : List Volume → ℕ → Found
found_in vs s = found_among (counted_in vs s) (decided_of vs s) (offline_text vs s)

-- the same by what the devices say
abbrev pub found_known : ℕ → List Known → Found
found_known s ks = found_among (counted s ks) (decided_over s ks) (ended (report_by s (decided_over s ks) ks))
