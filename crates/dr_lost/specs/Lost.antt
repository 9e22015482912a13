-- Which writes are lost: second volumes held them when the last server was stopped, and the first volumes don't hold them at the end.
use Rattle.std.specs.Prelude.{ℕ, ◌<◌, not, List, [], filter, nat_eq}
use Rattle.std.specs.List.{flat_map, list_any, range_with_len}
use Rattle.indexmap.specs.IndexSet.{insert_all}
use Rattle.dr_ids.specs.Sizes.{most_tracks}
use Rattle.dr_model.specs.Histories.{Lists}
use Rattle.dr_model.specs.Groups.{In}
use Rattle.dr_lost.specs.declared.lost.Pair.{Pair}

-- the writes of a list that another one lacks, in order
abbrev pub lacking : List ℕ → List ℕ → List ℕ
lacking held left = filter (λ w. not (list_any (nat_eq w) left)) held

-- the numbers of the first n tracks
unfoldable pub tracks_below : ℕ → List ℕ
tracks_below n = range_with_len 0 n

-- the writes of a list, each once, in the order in which they first come
abbrev pub each_once : List ℕ → List ℕ
each_once ws = insert_all nat_eq [] ws

-- what a pair lost at a track, by the lists at the stop and at the end
abbrev pub lost_at : Lists → Lists → Pair → ℕ → List ℕ
lost_at stop end p t = lacking (stop p.second t) (end p.first t)

-- what it lost at the first n tracks
abbrev pub lost_by : ℕ → Lists → Lists → Pair → List ℕ
lost_by n stop end p = flat_map (lost_at stop end p) (tracks_below n)

-- what pairs lost at all tracks that a volume may have, in their order, each write once
abbrev pub lost_writes : Lists → Lists → List Pair → List ℕ
lost_writes stop end pairs = each_once (flat_map (lost_by most_tracks stop end) pairs)

-- what a volume holds at the first n tracks
abbrev pub held_by : ℕ → Lists → ℕ → List ℕ
held_by n lists v = flat_map (lists v) (tracks_below n)

-- what volumes hold at all tracks that a volume may have, in their order, each write once
abbrev pub held_writes : Lists → List ℕ → List ℕ
held_writes lists volumes = each_once (flat_map (held_by most_tracks lists) volumes)

-- A write is lost at one of the first n tracks of one of some pairs: the second volume held it at the stop, and the first one doesn't at the end.
pub record IsLost (n : ℕ) (stop end : Lists) (pairs : List Pair) (w : ℕ) : Type 0 where
  pub pair : Pair
  pub track : ℕ
  pub among : In pair pairs
  pub below : track < n
  pub held : In w (stop pair.second track)
  pub gone : In w (end pair.first track) → ⊥

-- a write is held at one of the first n tracks of one of some volumes
pub record IsHeld (n : ℕ) (lists : Lists) (volumes : List ℕ) (w : ℕ) : Type 0 where
  pub volume : ℕ
  pub track : ℕ
  pub among : In volume volumes
  pub below : track < n
  pub held : In w (lists volume track)
