use Rattle.std.proofs.Common.{◌≡◌, ◌++◌, drop}
use Rattle.dr_model.specs.LineText.{spaced, settings_words}
use Rattle.dr_script.proofs.print.push_settings.Given as goal

abbrev pub invariant-loop-setting : goal.invariant-loop-setting
invariant-loop-setting l = l.text ++ spaced (settings_words (drop l.setting-index l.all) l.said.options l.said.item) ≡ l.fn.text ++ spaced (settings_words l.all l.said.options l.said.item)
