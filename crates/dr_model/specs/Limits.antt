-- The limits.
use Rattle.std.specs.Prelude.{ℕ}
pub use Rattle.dr_ids.specs.Sizes.{most_tracks}

-- the most events of a journal
abbrev pub most_events : ℕ
most_events = 1000000

-- the room that a step needs there before it begins
abbrev pub step_events : ℕ
step_events = 8192

-- and that an image needs
abbrev pub image_events : ℕ
image_events = 20000

-- the most servers
abbrev pub most_servers : ℕ
most_servers = 8

-- the most volumes
abbrev pub most_volumes : ℕ
most_volumes = 64

-- the most targets of a FlashCopy source
abbrev pub most_targets : ℕ
most_targets = 12

-- the most writes that are pending at a time
abbrev pub most_pending : ℕ
most_pending = 64

-- the most messages that are in flight at a time
abbrev pub most_messages : ℕ
most_messages = 256

-- the most groups that one `@run` forms
abbrev pub most_groups : ℕ
most_groups = 10000
