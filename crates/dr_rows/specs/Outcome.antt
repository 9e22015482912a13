-- What a point of a sweep comes to.
use Rattle.std.specs.Prelude.{ℕ, Bool, ◌||◌, ◌&&◌, ◌%◌, not, List, filter, nat_eq, nat_lt, Option, is_some}
use Rattle.std.specs.List.{list_any, slice_get}
use Rattle.std.specs.Option.{option_map_or}
use Rattle.dr_lost.specs.declared.broken.Broken.{Broken}
use Rattle.dr_model.specs.LineWords.{◌>>=◌}
use Rattle.dr_plan.specs.declared.points.Point.{Point}
use Rattle.dr_rows.specs.declared.row.Answer.{Answer}
use Rattle.dr_rows.specs.declared.row.Members.{Members}
use Rattle.dr_rows.specs.declared.row.SessionPhase.{SessionPhase}

-- What is lost to one use of volumes.
pub record Loss : Type 0 where
  pub count : ℕ  -- how many writes are lost
  pub least : List ℕ  -- the numbers of the least of them, up to 16
  pub age : ℕ  -- from the first acknowledgement of a lost write on, how many were acknowledged on the second volumes
  pub broken : Option Broken  -- a write that is held and depends on a lost one

-- What one point comes to.
pub record Outcome : Type 0 where
  pub point : Point
  pub phases : List SessionPhase  -- of each session, in order of definition, as the disaster came
  pub answers : List Answer  -- of all steps of the recovery, in order
  pub members : List Members  -- after each `@recover` that was answered with a group, in order
  pub newest : Option ℕ  -- the write that was acknowledged last before the recovery
  pub losses : List Loss  -- of each use, in the order of the plan

-- the answer has a group
abbrev pub gives_group : Answer → Bool
gives_group a = nat_eq a.code 0 && nat_eq (a.a % 256) 5

-- the answer is ok or held
abbrev pub is_kept : Answer → Bool
is_kept a = nat_eq a.code 0 || nat_eq a.code 100

-- the answer is a refusal
abbrev pub is_refused : Answer → Bool
is_refused a = not (is_kept a)

-- the answers that have a group
abbrev pub groups_in : Outcome → List Answer
groups_in row = filter gives_group row.answers

-- some answer has a group
abbrev pub has_group : Outcome → Bool
has_group row = list_any gives_group row.answers

-- some answer is a refusal
abbrev pub has_refusal : Outcome → Bool
has_refusal row = list_any is_refused row.answers

-- fewer members count than the session has
abbrev pub is_short : Members → Bool
is_short m = nat_lt m.counted m.all

-- so it is after some `@recover`
abbrev pub lacks_members : Outcome → Bool
lacks_members row = list_any is_short row.members

-- how many writes are lost to the use at a place
abbrev pub lost_count : ℕ → Outcome → ℕ
lost_count which row = option_map_or (λ (l : Loss). l.count) (slice_get row.losses which) 0

-- how many writes were acknowledged on its second volumes, from the first lost one on
abbrev pub lost_age : ℕ → Outcome → ℕ
lost_age which row = option_map_or (λ (l : Loss). l.age) (slice_get row.losses which) 0

-- a write that is held and depends on one that is lost to the use at a place
abbrev pub broken_at : ℕ → Outcome → Option Broken
broken_at which row = slice_get row.losses which >>= λ (l : Loss). l.broken

-- there is such a write
abbrev pub is_broken : ℕ → Outcome → Bool
is_broken which row = is_some (broken_at which row)
