use Rattle.std.proofs.Common.{◌≡◌, drop, map, true, All}
use Rattle.dr_model.specs.LineText.{name_fits}
use Rattle.dr_plan.specs.Marks.{names_said}
use Rattle.dr_plan.proofs.NameLemmas.{after}
use Rattle.dr_plan.proofs.names.read_names.Given as goal

abbrev pub invariant-loop-word : goal.invariant-loop-word
invariant-loop-word l = record { leads : after l.servers.items (map (λ word. word.now) (drop l.word-index l.words)) ≡ names_said (map (λ word. word.now) l.words); fit : All (λ name. name_fits name ≡ true) l.servers.items }
