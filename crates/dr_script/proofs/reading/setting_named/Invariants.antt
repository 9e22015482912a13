use Rattle.std.proofs.Common.{◌≡◌, drop}
use Rattle.dr_model.specs.Grammar.{setting_named}
use Rattle.dr_script.proofs.reading.setting_named.Given as goal

abbrev pub invariant-loop-setting : goal.invariant-loop-setting
invariant-loop-setting l = setting_named (drop l.setting-index l.all) l.word ≡ setting_named l.all l.word
