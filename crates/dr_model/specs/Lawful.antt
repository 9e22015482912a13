-- The fields that a volume may have, fact by fact: tracks that it has, in entries each but once, and nothing of what is absent.
use Rattle.std.specs.Prelude.{◌≡◌, ℕ, ◌<◌, true, false, None, Some, length}
use Rattle.std.specs.FinSet.{contains, empty}
use Rattle.dr_model.specs.Layout.{Tracks, Entries, Fields, entry_at, is_part}
use Rattle.dr_model.specs.declared.state.PairState.TheVariants.{CopyPending}

-- each track of a set is below n
abbrev pub Low : ℕ → Tracks → Type 0
Low n s = (t : ℕ) → contains s t ≡ true → t < n

-- the sets of a volume with n tracks
pub record SetsLow (n : ℕ) (out_of_sync change_recording own previous_own source_changes target_changes blank : Tracks) : Type 0 where
  pub out_of_sync_low : Low n out_of_sync
  pub change_recording_low : Low n change_recording
  pub own_low : Low n own
  pub previous_own_low : Low n previous_own
  pub source_changes_low : Low n source_changes
  pub target_changes_low : Low n target_changes
  pub blank_low : Low n blank

-- each set of fields has only tracks below n
abbrev pub HasSets : ℕ → Fields → Type 0
HasSets n f = SetsLow n f.out_of_sync f.change_recording f.own f.previous_own f.source_changes f.target_changes f.blank

-- The entries of a volume with n tracks: eight, and each that is used names another of its tracks.
pub record HasEntries (n : ℕ) (es : Entries) : Type 0 where
  pub eight : length es ≡ 8
  pub low : (k t : ℕ) → entry_at es k ≡ Some t → t < n
  pub apart : (j k t : ℕ) → entry_at es j ≡ Some t → entry_at es k ≡ Some t → j ≡ k

-- The entries of a volume's next fields: one that was used names the same track still, if it is used, and at most one is taken into use.
pub record EntriesFollow (old next : Entries) : Type 0 where
  pub same : (k t u : ℕ) → entry_at old k ≡ Some t → entry_at next k ≡ Some u → u ≡ t
  pub one : (j k t u : ℕ) → entry_at old j ≡ None → entry_at next j ≡ Some t → entry_at old k ≡ None → entry_at next k ≡ Some u → j ≡ k

-- nothing of a primary but the attempt
abbrev pub NoPrimary : Fields → Type 0
NoPrimary f =
    (f.primary_state ≡ CopyPending) × (f.primary_partner ≡ 0) × (f.coordination ≡ false) × (f.long_busy ≡ false)
    × (f.recording ≡ false) × (f.out_of_sync ≡ empty) × (f.change_recording ≡ empty)

-- nothing of a secondary
abbrev pub NoSecondary : Fields → Type 0
NoSecondary f = (f.secondary_state ≡ CopyPending) × (f.secondary_partner ≡ 0) × (f.seal ≡ 0)

-- nothing of a FlashCopy target but the floor
abbrev pub NoRelation : Fields → Type 0
NoRelation f =
    (f.source ≡ 0) × (f.nocopy ≡ false) × (f.persistent ≡ false) × (f.recorded ≡ false) × (f.inhibited ≡ false)
    × (f.own ≡ empty) × (f.previous_own ≡ empty) × (f.source_changes ≡ empty) × (f.target_changes ≡ empty)
    × (f.sequence ≡ 0) × (f.previous_sequence ≡ 0) × (f.revertible ≡ false) × (f.reversing ≡ false) × (f.member ≡ false)
    × (f.session ≡ 0)

-- the fields of a volume with n tracks
pub record IsLawful (n : ℕ) (f : Fields) : Type 0 where
  pub sets : HasSets n f
  pub primary : is_part f.primary ≡ false → NoPrimary f
  pub secondary : is_part f.secondary ≡ false → NoSecondary f
  pub relation : f.related ≡ false → NoRelation f
  pub entries : HasEntries n f.entries
