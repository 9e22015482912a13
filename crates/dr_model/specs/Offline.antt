-- What recovery makes of a plant image, and how that is printed. No run, host or master stands in it.
use Rattle.std.specs.Prelude.{ℕ, List, [], ◌∷◌, ◌++◌, map, filter, length, nat_eq, Option, Some, None, codes}
use Rattle.std.specs.Fmt.{decimal}
use Rattle.std.specs.List.{flat_map, find, range_with_len}
use Rattle.dr_logic.specs.Bytes.{zeros}
use Rattle.dr_ids.specs.Spelling.{hex4}
use Rattle.dr_ids.specs.declared.refusal.Decision.{Decision}
use Rattle.dr_model.specs.Layout.{Fields, no_fields, fields, physical}
use Rattle.dr_model.specs.Answers.{decision_place, decision_first, decision_second}
use Rattle.dr_model.specs.SessionEntries.{counts_in}
use Rattle.dr_model.specs.Text.{decision_text, trimmed}
use Rattle.dr_model.specs.LineText.{bytes_text, spaced}
use Rattle.dr_model.specs.PlantImage.{Volume, device_blocks, ended}
use Rattle.dr_model.specs.Recovery.{Recovery, decided_over, recovered}

-- the volume of that number in an image
abbrev pub volume_in : List Volume → ℕ → Option Volume
volume_in vs v = find (λ w. nat_eq w.volume v) vs

-- the record that its device gives
abbrev pub record_of : Option Volume → Fields
record_of None = no_fields
record_of (Some v) = fields v.tracks (device_blocks v)

-- what a track of it contains
abbrev pub track_of : Option Volume → ℕ → List ℕ
track_of None t = zeros
track_of (Some v) t = physical v.tracks (device_blocks v) t

-- how many tracks it has
abbrev pub size_of : Option Volume → ℕ
size_of None = 0
size_of (Some v) = v.tracks

-- the records of the volumes of an image
abbrev pub records_in : List Volume → ℕ → Fields
records_in vs v = record_of (volume_in vs v)

-- what their tracks contain
abbrev pub contents_in : List Volume → ℕ → ℕ → List ℕ
contents_in vs v t = track_of (volume_in vs v) t

-- the volumes of an image, in order
abbrev pub volumes_in : List Volume → List ℕ
volumes_in vs = map (λ v. v.volume) vs

-- those that count in session s
abbrev pub counted_in : List Volume → ℕ → List ℕ
counted_in vs s = filter (λ v. counts_in s (records_in vs v)) (volumes_in vs)

-- what is decided over them
abbrev pub decided_of : List Volume → ℕ → Decision
decided_of vs s = decided_over (records_in vs) (volumes_in vs) s

-- what recovery makes of session s
abbrev pub recovery_of : List Volume → ℕ → Recovery
recovery_of vs s = recovered (records_in vs) (contents_in vs) (volumes_in vs) s

-- ---- how it is printed

-- a decision, with its numbers
abbrev pub decision_words : Decision → List ℕ
decision_words d = decision_text (decision_place d) (decision_first d) (decision_second d)

-- a group's number, if there is a group
abbrev pub group_words : Option ℕ → List ℕ
group_words None = codes "none"
group_words (Some n) = decimal n

-- a track's line, without the zero bytes at its end; a track of zeros has none
abbrev pub bytes_line : ℕ → ℕ → List ℕ → List (List ℕ)
bytes_line v t [] = []
bytes_line v t (b ∷ bytes) = (codes "track" ++ spaced (hex4 v ∷ decimal t ∷ bytes_text (b ∷ bytes) ∷ [])) ∷ []

-- the lines of a volume's tracks, in order
abbrev pub track_lines : List Volume → Recovery → ℕ → List (List ℕ)
track_lines vs r v = flat_map (λ t. bytes_line v t (trimmed (r.image v t))) (range_with_len 0 (size_of (volume_in vs v)))

-- how many volumes count, what is decided, the group, and what the volumes show that remain
abbrev pub recovery_lines : List Volume → ℕ → Recovery → List (List ℕ)
recovery_lines vs s r =
    (codes "members " ++ decimal (length (counted_in vs s)))
    ∷ (codes "decision " ++ decision_words (decided_of vs s))
    ∷ (codes "group " ++ group_words r.group)
    ∷ flat_map (track_lines vs r) r.remaining

-- what is printed of session s of an image
abbrev pub offline_text : List Volume → ℕ → List ℕ
offline_text vs s = ended (recovery_lines vs s (recovery_of vs s))
