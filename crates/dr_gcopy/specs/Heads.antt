-- What the head of a volume's record says of its pair.
use Rattle.std.specs.Prelude.{ℕ, Bool, not, ◌&&◌, ◌||◌, nat_eq}
use Rattle.dr_model.specs.declared.state.Part.{Part}
use Rattle.dr_model.specs.Layout.{is_part}
use Rattle.dr_model.specs.Pairs.{is_kind, is_metro, is_suspended}
use Rattle.dr_volume.specs.declared.head.Head.{Head}

-- it is a primary of b
abbrev pub primary_by : ℕ → Head → Bool
primary_by b h = is_part h.primary && nat_eq h.primary_partner.0 b

-- it is the secondary of a
abbrev pub secondary_by : ℕ → Head → Bool
secondary_by a h = is_part h.secondary && nat_eq h.secondary_partner.0 a

-- it has no part in a pair
abbrev pub unpaired_by : Head → Bool
unpaired_by h = not (is_part h.primary) && not (is_part h.secondary)

-- it may be cascaded with secondary b: it is no primary, and the Metro Mirror secondary of another volume
abbrev pub may_cascade_by : ℕ → Head → Bool
may_cascade_by b h = not (is_part h.primary) && (is_metro h.secondary && not (nat_eq h.secondary_partner.0 b))

-- it may become the secondary of a: it is no primary, and the secondary of no other
abbrev pub free_for : ℕ → Head → Bool
free_for a h = not (is_part h.primary) && (not (is_part h.secondary) || nat_eq h.secondary_partner.0 a)

-- it is a primary of b that isn't Suspended
abbrev pub active_by : ℕ → Head → Bool
active_by b h = primary_by b h && not (is_suspended h.primary_state)

-- it is a Suspended primary of b, of that kind
abbrev pub paused_by : ℕ → Part → Head → Bool
paused_by b kind h = primary_by b h && (is_kind kind h.primary && is_suspended h.primary_state)
