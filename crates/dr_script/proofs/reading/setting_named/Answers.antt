use Rattle.std.proofs.Common.{arith}
use Rattle.dr_script.proofs.ReadLemmas.{setting_found, setting_passed, setting_unknown}
use Rattle.dr_script.proofs.reading.setting_named.Goals as goal

pub returns-then-eq : goal.returns-then-eq
returns-then-eq c =
    setting_found c.settings-all.result.now _ c.args.word.now c.setting_word.result.now c.loop-setting.setting-index c.eq.result c.loop-setting-test.true c.setting_word.ensures c.eq.ensures c.if-eq.true c.loop-setting.invariant c.settings-all.ensures

pub loop-setting-preserved : goal.loop-setting-preserved
loop-setting-preserved c =
    setting_passed c.settings-all.result.now c.args.word.now c.setting_word.result.now c.loop-setting.setting-index c.eq.result c.loop-setting-test.true c.setting_word.ensures c.eq.ensures c.if-eq.false c.loop-setting.invariant

pub returns : goal.returns
returns c = setting_unknown c.settings-all.result.now _ c.args.word.now c.loop-setting.setting-index (omega arith) c.loop-setting.invariant c.settings-all.ensures
