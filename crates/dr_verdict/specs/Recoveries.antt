-- What the recoveries of one script may come to.
use Rattle.std.specs.Prelude.{ℕ, List, Bool, true, false, Option, None, Some, ◌==◌, ◌&&◌, if◌then◌else◌}
use Rattle.std.specs.List.{list_all, list_any}
use Rattle.dr_verdict.specs.declared.recoveries.Recovery.{Recovery}
use Rattle.dr_verdict.specs.declared.recoveries.Recovery.TheVariants.{Stopped, Found, Other}

-- a recovery was stopped, or found this group
abbrev pub is_stop_or : ℕ → Recovery → Bool
is_stop_or group Stopped = true
is_stop_or group (Found found) = found == group
is_stop_or group Other = false

-- a recovery found this group
abbrev pub has_found : ℕ → Recovery → Bool
has_found group Stopped = false
has_found group (Found found) = found == group
has_found group Other = false

-- each of the recoveries was stopped or found this group, and one found it
abbrev pub agree_on : List Recovery → ℕ → Bool
agree_on recoveries group = list_all (is_stop_or group) recoveries && list_any (has_found group) recoveries

-- the group of 1 and 2 on which the recoveries of a script agree
abbrev pub agreed_group : List Recovery → Option ℕ
agreed_group recoveries = if agree_on recoveries 1 then Some 1 else if agree_on recoveries 2 then Some 2 else None
