-- What recovery makes of volumes, by what their devices say.
use Rattle.std.specs.Prelude.{ℕ, Bool, List, ◌∷◌, ◌++◌, map, filter, length, Option, codes}
use Rattle.std.specs.Fmt.{decimal}
use Rattle.std.specs.List.{flat_map, range_with_len}
use Rattle.dr_ids.specs.declared.refusal.Decision.{Decision}
use Rattle.dr_model.specs.Decisions.{numbers_in, decision}
use Rattle.dr_model.specs.Offline.{decision_words, group_words, bytes_line}
use Rattle.dr_model.specs.Recovery.{common, remains_in, number_after}
use Rattle.dr_model.specs.RecoveryPlans.{lets_revert}
use Rattle.dr_model.specs.SessionEntries.{counts_in, shown_of}
use Rattle.dr_model.specs.Text.{trimmed}
use Rattle.dr_report.specs.Known.{Known, known_in, shown_track}

-- those that count in session s
abbrev pub counted : ℕ → List Known → List Known
counted s ks = filter (λ k. counts_in s k.fields) ks

-- what is decided over them
abbrev pub decided_over : ℕ → List Known → Decision
decided_over s ks = decision (map (λ k. shown_of k.fields) (counted s ks))

-- those that remain
abbrev pub remaining : ℕ → Bool → List Known → List Known
remaining s reverts ks = filter (λ k. remains_in s reverts k.fields) ks

-- the number that those share
abbrev pub group_left : ℕ → Bool → List Known → Option ℕ
group_left s reverts ks = common (numbers_in (map (λ k. number_after reverts k.fields) (remaining s reverts ks)))

-- the lines of a volume's tracks
abbrev pub known_lines : Bool → Option Known → Known → List (List ℕ)
known_lines reverts source k = flat_map (λ t. bytes_line k.volume t (trimmed (shown_track reverts source k t))) (range_with_len 0 k.tracks)

-- by the volumes among which its source is
abbrev pub lines_among : Bool → List Known → Known → List (List ℕ)
lines_among reverts ks k = known_lines reverts (known_in ks k.fields.source) k

-- the lines of those that remain
abbrev pub lines_left : ℕ → Bool → List Known → List (List ℕ)
lines_left s reverts ks = flat_map (lines_among reverts ks) (remaining s reverts ks)

-- how many volumes count, what is decided, the group, and what those show that remain
abbrev pub report_by : ℕ → Decision → List Known → List (List ℕ)
report_by s d ks =
    (codes "members " ++ decimal (length (counted s ks)))
    ∷ (codes "decision " ++ decision_words d)
    ∷ (codes "group " ++ group_words (group_left s (lets_revert d) ks))
    ∷ lines_left s (lets_revert d) ks
