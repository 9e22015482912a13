-- The grammar at a few lines.
use Rattle.std.proofs.Common.{◌≡◌, refl, [], ◌∷◌, true, false, ◌*◌, None, List, ℕ, length}
use Rattle.std.specs.Prelude.{Ok, Err, codes, Result}
use Rattle.dr_ids.specs.Spelling.{all_digits}
use Rattle.dr_model.specs.LineWords.{words_from, words_behind, spelled_bytes, paired, ranges_items}
use Rattle.dr_model.specs.LineTable.{form, command_word, commands, setting_word, settings, needed, operands, may_end_with, own_steps}
use Rattle.dr_model.specs.LineSteps.{has, flagged, valued, setting_items, no_options, no_operands, operand_value, operand_items, step_of}
use Rattle.dr_model.specs.Grammar.{command_named, setting_named, read_on, may_end, steps_of, read_words, line_of}
use Rattle.dr_model.specs.declared.step.Devs.{Devs}
use Rattle.dr_model.specs.declared.step.Step.{Step}
use Rattle.dr_model.specs.declared.step.Step.TheVariants.{MakePath, MakePair, MakeSession, AddMember, RemoveMember}

-- how many steps a line has, or a thousand times the column of its first fault
outcome : Result (List Step) ℕ → ℕ
outcome (Ok steps) = length steps
outcome (Err column) = 1000 * column

no_devs : Devs
no_devs = record { dev = None; remotedev = None }

no_command : outcome (line_of (codes "mkfoo")) ≡ 1000
unfolding outcome line_of words_from words_behind command_named commands command_word read_words read_on setting_named settings setting_word operands needed operand_value operand_items own_steps all_digits no_options no_operands spelled_bytes has flagged valued setting_items may_end may_end_with steps_of step_of paired ranges_items form
no_command = refl

comment : outcome (line_of (codes "#x mkfoo")) ≡ 0
unfolding outcome line_of words_from words_behind command_named commands command_word read_words read_on setting_named settings setting_word operands needed operand_value operand_items own_steps all_digits no_options no_operands spelled_bytes has flagged valued setting_items may_end may_end_with steps_of step_of paired ranges_items form
comment = refl

blank : outcome (line_of (codes "   ")) ≡ 0
unfolding outcome line_of words_from words_behind command_named commands command_word read_words read_on setting_named settings setting_word operands needed operand_value operand_items own_steps all_digits no_options no_operands spelled_bytes has flagged valued setting_items may_end may_end_with steps_of step_of paired ranges_items form
blank = refl

past_track : outcome (line_of (codes "@write 1000 0 63 4142")) ≡ 18000
unfolding outcome line_of words_from words_behind command_named commands command_word read_words read_on setting_named settings setting_word operands needed operand_value operand_items own_steps all_digits no_options no_operands spelled_bytes has flagged valued setting_items may_end may_end_with steps_of step_of paired ranges_items form
past_track = refl

high_offset : outcome (line_of (codes "@write 1000 0 64 41")) ≡ 15000
unfolding outcome line_of words_from words_behind command_named commands command_word read_words read_on setting_named settings setting_word operands needed operand_value operand_items own_steps all_digits no_options no_operands spelled_bytes has flagged valued setting_items may_end may_end_with steps_of step_of paired ranges_items form
high_offset = refl

missing_operand : outcome (line_of (codes "@write 1000 0 63 ")) ≡ 18000
unfolding outcome line_of words_from words_behind command_named commands command_word read_words read_on setting_named settings setting_word operands needed operand_value operand_items own_steps all_digits no_options no_operands spelled_bytes has flagged valued setting_items may_end may_end_with steps_of step_of paired ranges_items form
missing_operand = refl

stop_ends : outcome (line_of (codes "@stop A")) ≡ 1
unfolding outcome line_of words_from words_behind command_named commands command_word read_words read_on setting_named settings setting_word operands needed operand_value operand_items own_steps all_digits no_options no_operands spelled_bytes has flagged valued setting_items may_end may_end_with steps_of step_of paired ranges_items form
stop_ends = refl

stop_torn : outcome (line_of (codes "@stop A after 3 torn none")) ≡ 1
unfolding outcome line_of words_from words_behind command_named commands command_word read_words read_on setting_named settings setting_word operands needed operand_value operand_items own_steps all_digits no_options no_operands spelled_bytes has flagged valued setting_items may_end may_end_with steps_of step_of paired ranges_items form
stop_torn = refl

stop_broken : outcome (line_of (codes "@stop A after 3")) ≡ 16000
unfolding outcome line_of words_from words_behind command_named commands command_word read_words read_on setting_named settings setting_word operands needed operand_value operand_items own_steps all_digits no_options no_operands spelled_bytes has flagged valued setting_items may_end may_end_with steps_of step_of paired ranges_items form
stop_broken = refl

option_twice : outcome (line_of (codes "pausepprc -quiet -quiet 1000:2000")) ≡ 18000
unfolding outcome line_of words_from words_behind command_named commands command_word read_words read_on setting_named settings setting_word operands needed operand_value operand_items own_steps all_digits no_options no_operands spelled_bytes has flagged valued setting_items may_end may_end_with steps_of step_of paired ranges_items form
option_twice = refl

option_late : outcome (line_of (codes "pausepprc 1000:2000 -quiet")) ≡ 21000
unfolding outcome line_of words_from words_behind command_named commands command_word read_words read_on setting_named settings setting_word operands needed operand_value operand_items own_steps all_digits no_options no_operands spelled_bytes has flagged valued setting_items may_end may_end_with steps_of step_of paired ranges_items form
option_late = refl

option_unknown : outcome (line_of (codes "pausepprc -full 1000:2000")) ≡ 11000
unfolding outcome line_of words_from words_behind command_named commands command_word read_words read_on setting_named settings setting_word operands needed operand_value operand_items own_steps all_digits no_options no_operands spelled_bytes has flagged valued setting_items may_end may_end_with steps_of step_of paired ranges_items form
option_unknown = refl

option_needed : outcome (line_of (codes "mkpprcpath -srclss 10 I0010:I0140")) ≡ 23000
unfolding outcome line_of words_from words_behind command_named commands command_word read_words read_on setting_named settings setting_word operands needed operand_value operand_items own_steps all_digits no_options no_operands spelled_bytes has flagged valued setting_items may_end may_end_with steps_of step_of paired ranges_items form
option_needed = refl

option_needed_end : outcome (line_of (codes "mkpprcpath -srclss 10")) ≡ 22000
unfolding outcome line_of words_from words_behind command_named commands command_word read_words read_on setting_named settings setting_word operands needed operand_value operand_items own_steps all_digits no_options no_operands spelled_bytes has flagged valued setting_items may_end may_end_with steps_of step_of paired ranges_items form
option_needed_end = refl

one_of_two : outcome (line_of (codes "rmpprc -at src 1000:2000")) ≡ 16000
unfolding outcome line_of words_from words_behind command_named commands command_word read_words read_on setting_named settings setting_word operands needed operand_value operand_items own_steps all_digits no_options no_operands spelled_bytes has flagged valued setting_items may_end may_end_with steps_of step_of paired ranges_items form
one_of_two = refl

both : outcome (line_of (codes "rmpprc -at src -unconditional 1000:2000-2000")) ≡ 1
unfolding outcome line_of words_from words_behind command_named commands command_word read_words read_on setting_named settings setting_word operands needed operand_value operand_items own_steps all_digits no_options no_operands spelled_bytes has flagged valued setting_items may_end may_end_with steps_of step_of paired ranges_items form
both = refl

unequal : outcome (line_of (codes "mkpprc -type mmir 1000-1001:2000")) ≡ 19000
unfolding outcome line_of words_from words_behind command_named commands command_word read_words read_on setting_named settings setting_word operands needed operand_value operand_items own_steps all_digits no_options no_operands spelled_bytes has flagged valued setting_items may_end may_end_with steps_of step_of paired ranges_items form
unequal = refl

equal : outcome (line_of (codes "mkpprc -type mmir 1000-1003:2000-2003 1005:2005")) ≡ 5
unfolding outcome line_of words_from words_behind command_named commands command_word read_words read_on setting_named settings setting_word operands needed operand_value operand_items own_steps all_digits no_options no_operands spelled_bytes has flagged valued setting_items may_end may_end_with steps_of step_of paired ranges_items form
equal = refl

two_subsystems : outcome (line_of (codes "lspprc 10FF-1100")) ≡ 8000
unfolding outcome line_of words_from words_behind command_named commands command_word read_words read_on setting_named settings setting_word operands needed operand_value operand_items own_steps all_digits no_options no_operands spelled_bytes has flagged valued setting_items may_end may_end_with steps_of step_of paired ranges_items form
two_subsystems = refl

list_ : outcome (line_of (codes "lspprc 1000,1002-1004 1100")) ≡ 5
unfolding outcome line_of words_from words_behind command_named commands command_word read_words read_on setting_named settings setting_word operands needed operand_value operand_items own_steps all_digits no_options no_operands spelled_bytes has flagged valued setting_items may_end may_end_with steps_of step_of paired ranges_items form
list_ = refl

members : outcome (line_of (codes "mksession -lss 10 -volume 1000-1001 01")) ≡ 3
unfolding outcome line_of words_from words_behind command_named commands command_word read_words read_on setting_named settings setting_word operands needed operand_value operand_items own_steps all_digits no_options no_operands spelled_bytes has flagged valued setting_items may_end may_end_with steps_of step_of paired ranges_items form
members = refl

no_session : outcome (line_of (codes "rmsession -lss 10 00")) ≡ 19000
unfolding outcome line_of words_from words_behind command_named commands command_word read_words read_on setting_named settings setting_word operands needed operand_value operand_items own_steps all_digits no_options no_operands spelled_bytes has flagged valued setting_items may_end may_end_with steps_of step_of paired ranges_items form
no_session = refl

paths : outcome (line_of (codes "mkgmir -lss 10 -session 01 A/10:B/20 11:21")) ≡ 1
unfolding outcome line_of words_from words_behind command_named commands command_word read_words read_on setting_named settings setting_word operands needed operand_value operand_items own_steps all_digits no_options no_operands spelled_bytes has flagged valued setting_items may_end may_end_with steps_of step_of paired ranges_items form
paths = refl

interval : outcome (line_of (codes "mkgmir -lss 10 -session 01 -cginterval 65536")) ≡ 40000
unfolding outcome line_of words_from words_behind command_named commands command_word read_words read_on setting_named settings setting_word operands needed operand_value operand_items own_steps all_digits no_options no_operands spelled_bytes has flagged valued setting_items may_end may_end_with steps_of step_of paired ranges_items form
interval = refl

pair_of_subsystems : outcome (line_of (codes "freezepprc 10:20 11:21")) ≡ 2
unfolding outcome line_of words_from words_behind command_named commands command_word read_words read_on setting_named settings setting_word operands needed operand_value operand_items own_steps all_digits no_options no_operands spelled_bytes has flagged valued setting_items may_end may_end_with steps_of step_of paired ranges_items form
pair_of_subsystems = refl

remote_off_flash : outcome (line_of (codes "lsflash -remotedev A 1000")) ≡ 9000
unfolding outcome line_of words_from words_behind command_named commands command_word read_words read_on setting_named settings setting_word operands needed operand_value operand_items own_steps all_digits no_options no_operands spelled_bytes has flagged valued setting_items may_end may_end_with steps_of step_of paired ranges_items form
remote_off_flash = refl

-- options in any order
pair : line_of (codes "mkpprc -mode nocp -type gcp 1000:200a") ≡ Ok (MakePair no_devs 4096 8202 2 (record { full = false; cascade = false }) ∷ [])
unfolding no_devs line_of words_from words_behind command_named commands command_word read_words read_on setting_named settings setting_word operands needed operand_value operand_items own_steps all_digits no_options no_operands spelled_bytes has flagged valued setting_items may_end may_end_with steps_of step_of paired ranges_items form
pair = refl

-- a pair that makes a cascaded volume, of Global Copy alone
cascade : line_of (codes "mkpprc -type gcp -mode nocp -cascade 2000:3000") ≡ Ok (MakePair no_devs 8192 12288 2 (record { full = false; cascade = true }) ∷ [])
unfolding no_devs line_of words_from words_behind command_named commands command_word read_words read_on setting_named settings setting_word operands needed operand_value operand_items own_steps all_digits no_options no_operands spelled_bytes has flagged valued setting_items may_end may_end_with steps_of step_of paired ranges_items form
cascade = refl

cascade_of_metro : outcome (line_of (codes "mkpprc -type mmir -cascade 2000:3000")) ≡ 28000
unfolding outcome line_of words_from words_behind command_named commands command_word read_words read_on setting_named settings setting_word operands needed operand_value operand_items own_steps all_digits no_options no_operands spelled_bytes has flagged valued setting_items may_end may_end_with steps_of step_of paired ranges_items form
cascade_of_metro = refl

session : line_of (codes "mksession -lss 10 -volume 1000 01") ≡ Ok (MakeSession no_devs 16 1 ∷ AddMember no_devs 16 4096 1 ∷ [])
unfolding no_devs line_of words_from words_behind command_named commands command_word read_words read_on setting_named settings setting_word operands needed operand_value operand_items own_steps all_digits no_options no_operands spelled_bytes has flagged valued setting_items may_end may_end_with steps_of step_of paired ranges_items form
session = refl

left_session : line_of (codes "chsession -volume 1000 -action remove -lss 10 01") ≡ Ok (RemoveMember no_devs 16 4096 1 ∷ [])
unfolding no_devs line_of words_from words_behind command_named commands command_word read_words read_on setting_named settings setting_word operands needed operand_value operand_items own_steps all_digits no_options no_operands spelled_bytes has flagged valued setting_items may_end may_end_with steps_of step_of paired ranges_items form
left_session = refl

path : line_of (codes "mkpprcpath -remotewwnn 5005 -srclss 10 -tgtlss 20 I0010:I0140") ≡ Ok (MakePath no_devs 16 32 false ∷ [])
unfolding no_devs line_of words_from words_behind command_named commands command_word read_words read_on setting_named settings setting_word operands needed operand_value operand_items own_steps all_digits no_options no_operands spelled_bytes has flagged valued setting_items may_end may_end_with steps_of step_of paired ranges_items form
path = refl

freeze_set : outcome (line_of (codes "mkflash -nocp -freeze 1000-1003:2000-2003")) ≡ 4
unfolding outcome line_of words_from words_behind command_named commands command_word read_words read_on setting_named settings setting_word operands needed operand_value operand_items own_steps all_digits no_options no_operands spelled_bytes has flagged valued setting_items may_end may_end_with steps_of step_of paired ranges_items form
freeze_set = refl

freeze_twice : outcome (line_of (codes "mkflash -freeze -freeze 1000:2000")) ≡ 17000
unfolding outcome line_of words_from words_behind command_named commands command_word read_words read_on setting_named settings setting_word operands needed operand_value operand_items own_steps all_digits no_options no_operands spelled_bytes has flagged valued setting_items may_end may_end_with steps_of step_of paired ranges_items form
freeze_twice = refl

freeze_renewed : outcome (line_of (codes "resyncflash -freeze 1000:2000")) ≡ 13000
unfolding outcome line_of words_from words_behind command_named commands command_word read_words read_on setting_named settings setting_word operands needed operand_value operand_items own_steps all_digits no_options no_operands spelled_bytes has flagged valued setting_items may_end may_end_with steps_of step_of paired ranges_items form
freeze_renewed = refl

lss_each : outcome (line_of (codes "unfreezeflash -quiet 10 1F")) ≡ 2
unfolding outcome line_of words_from words_behind command_named commands command_word read_words read_on setting_named settings setting_word operands needed operand_value operand_items own_steps all_digits no_options no_operands spelled_bytes has flagged valued setting_items may_end may_end_with steps_of step_of paired ranges_items form
lss_each = refl

lss_missing : outcome (line_of (codes "unfreezeflash")) ≡ 14000
unfolding outcome line_of words_from words_behind command_named commands command_word read_words read_on setting_named settings setting_word operands needed operand_value operand_items own_steps all_digits no_options no_operands spelled_bytes has flagged valued setting_items may_end may_end_with steps_of step_of paired ranges_items form
lss_missing = refl

lss_remote : outcome (line_of (codes "unfreezeflash -remotedev B 10")) ≡ 15000
unfolding outcome line_of words_from words_behind command_named commands command_word read_words read_on setting_named settings setting_word operands needed operand_value operand_items own_steps all_digits no_options no_operands spelled_bytes has flagged valued setting_items may_end may_end_with steps_of step_of paired ranges_items form
lss_remote = refl

lss_wide : outcome (line_of (codes "unfreezeflash 10 1000")) ≡ 18000
unfolding outcome line_of words_from words_behind command_named commands command_word read_words read_on setting_named settings setting_word operands needed operand_value operand_items own_steps all_digits no_options no_operands spelled_bytes has flagged valued setting_items may_end may_end_with steps_of step_of paired ranges_items form
lss_wide = refl

destaged : outcome (line_of (codes "@destage 1000")) ≡ 1
unfolding outcome line_of words_from words_behind command_named commands command_word read_words read_on setting_named settings setting_word operands needed operand_value operand_items own_steps all_digits no_options no_operands spelled_bytes has flagged valued setting_items may_end may_end_with steps_of step_of paired ranges_items form
destaged = refl

destaged_more : outcome (line_of (codes "@destage 1000 2")) ≡ 15000
unfolding outcome line_of words_from words_behind command_named commands command_word read_words read_on setting_named settings setting_word operands needed operand_value operand_items own_steps all_digits no_options no_operands spelled_bytes has flagged valued setting_items may_end may_end_with steps_of step_of paired ranges_items form
destaged_more = refl

destaged_none : outcome (line_of (codes "@destage")) ≡ 9000
unfolding outcome line_of words_from words_behind command_named commands command_word read_words read_on setting_named settings setting_word operands needed operand_value operand_items own_steps all_digits no_options no_operands spelled_bytes has flagged valued setting_items may_end may_end_with steps_of step_of paired ranges_items form
destaged_none = refl

lost : outcome (line_of (codes "@lose 7")) ≡ 1
unfolding outcome line_of words_from words_behind command_named commands command_word read_words read_on setting_named settings setting_word operands needed operand_value operand_items own_steps all_digits no_options no_operands spelled_bytes has flagged valued setting_items may_end may_end_with steps_of step_of paired ranges_items form
lost = refl

lost_none : outcome (line_of (codes "@lose")) ≡ 6000
unfolding outcome line_of words_from words_behind command_named commands command_word read_words read_on setting_named settings setting_word operands needed operand_value operand_items own_steps all_digits no_options no_operands spelled_bytes has flagged valued setting_items may_end may_end_with steps_of step_of paired ranges_items form
lost_none = refl

lost_more : outcome (line_of (codes "@lose 7 8")) ≡ 9000
unfolding outcome line_of words_from words_behind command_named commands command_word read_words read_on setting_named settings setting_word operands needed operand_value operand_items own_steps all_digits no_options no_operands spelled_bytes has flagged valued setting_items may_end may_end_with steps_of step_of paired ranges_items form
lost_more = refl

sent : outcome (line_of (codes "@send 01 A1")) ≡ 1
unfolding outcome line_of words_from words_behind command_named commands command_word read_words read_on setting_named settings setting_word operands needed operand_value operand_items own_steps all_digits no_options no_operands spelled_bytes has flagged valued setting_items may_end may_end_with steps_of step_of paired ranges_items form
sent = refl

sent_nowhere : outcome (line_of (codes "@send 00 A1")) ≡ 7000
unfolding outcome line_of words_from words_behind command_named commands command_word read_words read_on setting_named settings setting_word operands needed operand_value operand_items own_steps all_digits no_options no_operands spelled_bytes has flagged valued setting_items may_end may_end_with steps_of step_of paired ranges_items form
sent_nowhere = refl

sent_to_none : outcome (line_of (codes "@send 01")) ≡ 9000
unfolding outcome line_of words_from words_behind command_named commands command_word read_words read_on setting_named settings setting_word operands needed operand_value operand_items own_steps all_digits no_options no_operands spelled_bytes has flagged valued setting_items may_end may_end_with steps_of step_of paired ranges_items form
sent_to_none = refl

sent_once : outcome (line_of (codes "@send 01 A1 noreply")) ≡ 13000
unfolding outcome line_of words_from words_behind command_named commands command_word read_words read_on setting_named settings setting_word operands needed operand_value operand_items own_steps all_digits no_options no_operands spelled_bytes has flagged valued setting_items may_end may_end_with steps_of step_of paired ranges_items form
sent_once = refl

delivered : outcome (line_of (codes "@deliver 4294967295")) ≡ 1
unfolding outcome line_of words_from words_behind command_named commands command_word read_words read_on setting_named settings setting_word operands needed operand_value operand_items own_steps all_digits no_options no_operands spelled_bytes has flagged valued setting_items may_end may_end_with steps_of step_of paired ranges_items form
delivered = refl

delivered_past : outcome (line_of (codes "@deliver 4294967296")) ≡ 10000
unfolding outcome line_of words_from words_behind command_named commands command_word read_words read_on setting_named settings setting_word operands needed operand_value operand_items own_steps all_digits no_options no_operands spelled_bytes has flagged valued setting_items may_end may_end_with steps_of step_of paired ranges_items form
delivered_past = refl

delivered_message : outcome (line_of (codes "@deliver m1")) ≡ 10000
unfolding outcome line_of words_from words_behind command_named commands command_word read_words read_on setting_named settings setting_word operands needed operand_value operand_items own_steps all_digits no_options no_operands spelled_bytes has flagged valued setting_items may_end may_end_with steps_of step_of paired ranges_items form
delivered_message = refl
