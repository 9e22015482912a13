-- The calm run: the set-up and all tried steps, without a disaster.
use Rattle.std.specs.Prelude.{ℕ, ◌-◌, Bool, ◌&&◌, ◌||◌, not, List, [], ◌∷◌, ◌++◌, length, count_by, find, nat_eq, nat_lt, Option, codes, if◌then◌else◌}
use Rattle.std.specs.Fmt.{decimal}
use Rattle.std.specs.List.{flat_map, list_all, list_any, range_with_len, slice_index_or}
use Rattle.std.specs.Option.{option_map_or}
use Rattle.dr_ids.specs.Spelling.{hex4}
use Rattle.dr_model.specs.declared.grammar.Item.{Item}
use Rattle.dr_model.specs.declared.step.Name.{Name}
use Rattle.dr_model.specs.LineText.{name_text}
use Rattle.dr_plan.specs.Sweep.{Sweep, Tried, Use as HostUse}

-- A step of the calm run that was refused or held.
pub record CalmStep : Type 0 where
  pub line : ℕ  -- the number of its line in the plan
  pub text : List ℕ  -- the line, or of one of several steps the line that it would be by itself
  pub code : ℕ  -- 100 is held, and another number that of a refusal
  pub says : List ℕ  -- the answer, as it is printed

-- What the calm run came to.
pub record Calm : Type 0 where
  pub steps : ℕ  -- how many there are
  pub told : List CalmStep  -- those that were refused or held, in order
  pub written : List ℕ  -- the volumes on which a write was acknowledged

-- a refusal is announced in the line with that number
abbrev pub is_announced : Sweep → ℕ → Bool
is_announced plan number = list_any (λ n. nat_eq n number) plan.announced

-- the step was held
abbrev pub was_held : CalmStep → Bool
was_held s = nat_eq s.code 100

-- the step was refused
abbrev pub was_refused : CalmStep → Bool
was_refused s = not (nat_eq s.code 0 || was_held s)

-- a write was acknowledged on the volume
abbrev pub wrote : Calm → ℕ → Bool
wrote calm volume = list_any (λ v. nat_eq v volume) calm.written

-- ---- what is said of it

-- how many steps there were, and how many were refused and held
unfoldable pub calm_head : Calm → List ℕ
calm_head calm =
    codes "calm run: " ++ decimal calm.steps ++ codes " steps, " ++ decimal (count_by was_refused calm.told) ++ codes " refused, " ++ decimal (count_by was_held calm.told)
    ++ codes " held" ++ 10 ∷ []

-- the end of the line of a step
abbrev pub announced_word : Bool → List ℕ
announced_word announced = if announced then codes " (announced)" else []

-- the refusal of the step was announced
abbrev pub was_announced : Sweep → CalmStep → Bool
was_announced plan s = was_refused s && is_announced plan s.line

-- a line with its number
abbrev pub numbered : ℕ → List ℕ → List ℕ
numbered number line = codes "  " ++ decimal number ++ codes " " ++ line ++ codes ": "

-- the line of a step that was refused or held
abbrev pub step_line : Sweep → CalmStep → List ℕ
step_line plan s = numbered s.line s.text ++ s.says ++ announced_word (was_announced plan s) ++ 10 ∷ []

-- the same if it is of the line with that number
abbrev pub step_said : Sweep → ℕ → CalmStep → List ℕ
step_said plan number s = if nat_eq s.line number then step_line plan s else []

-- a step of the line with that number was refused
abbrev pub is_refusal_at : ℕ → CalmStep → Bool
is_refusal_at number s = nat_eq s.line number && was_refused s

-- the first tried step of the line with that number
abbrev pub tried_text : Sweep → ℕ → List ℕ
tried_text plan number = option_map_or (λ (t : Tried). t.text) (find (λ (t : Tried). nat_eq t.line number) plan.tried) []

-- the line with that number, of the set-up or tried; of several tried steps the first one
abbrev pub line_text : Sweep → ℕ → List ℕ
line_text plan number = if nat_lt (length plan.setup) number then tried_text plan number else slice_index_or plan.setup (number - 1) []

-- the line of an announcement without a refusal
unfoldable pub unrefused_line : Sweep → ℕ → List ℕ
unrefused_line plan number = numbered number (line_text plan number) ++ (codes "not refused (announced)" ++ 10 ∷ [])

-- the line with that number was announced, and none of its steps was refused
abbrev pub is_unrefused : Sweep → Calm → ℕ → Bool
is_unrefused plan calm number = is_announced plan number && not (list_any (is_refusal_at number) calm.told)

-- what is said of it if so
abbrev pub unrefused_said : Sweep → Calm → ℕ → List ℕ
unrefused_said plan calm number = if is_unrefused plan calm number then unrefused_line plan number else []

-- what is said of the line with that number
abbrev pub line_said : Sweep → Calm → ℕ → List ℕ
line_said plan calm number = flat_map (step_said plan number) calm.told ++ unrefused_said plan calm number

-- what is said of all lines before `then`
abbrev pub lines_said : Sweep → Calm → List ℕ
lines_said plan calm = flat_map (line_said plan calm) (range_with_len 1 (plan.then_line - 1))

-- the name of a use, before its pair
abbrev pub use_word : Option Name → List ℕ
use_word name = option_map_or (λ n. name_text n ++ codes " ") name []

-- a volume that was written
unfoldable pub but_on : ℕ → List ℕ
but_on volume = codes ", but on " ++ hex4 volume

-- the first volume, if it was written
abbrev pub first_word : Calm → Item → List ℕ
first_word calm pair = if wrote calm pair.first then but_on pair.first else []

-- the line of a pair without a write on its second volume
abbrev pub pair_line : Calm → Option Name → Item → List ℕ
pair_line calm name pair =
    codes "use " ++ use_word name ++ hex4 pair.first ++ codes " for " ++ hex4 pair.second ++ codes ": no write on " ++ hex4 pair.second ++ first_word calm pair ++ 10 ∷ []

-- what is said of a pair
abbrev pub pair_said : Calm → Option Name → Item → List ℕ
pair_said calm name pair = if wrote calm pair.second then [] else pair_line calm name pair

-- what is said of the pairs of a use
abbrev pub pairs_said : Calm → HostUse → List ℕ
pairs_said calm u = flat_map (pair_said calm u.name) u.pairs

-- what is said of the calm run
unfoldable pub calm_told : Sweep → Calm → List ℕ
calm_told plan calm = calm_head calm ++ lines_said plan calm ++ flat_map (pairs_said calm) plan.uses

-- ---- what of it is a finding

-- the step was refused, and that isn't announced
abbrev pub is_unannounced : Sweep → CalmStep → Bool
is_unannounced plan s = was_refused s && not (is_announced plan s.line)

-- the second volume has no write
abbrev pub is_unwritten : Calm → Item → Bool
is_unwritten calm pair = not (wrote calm pair.second)

-- the first volume has one, and the second none
abbrev pub is_turned : Calm → Item → Bool
is_turned calm pair = is_unwritten calm pair && wrote calm pair.first

-- a pair of the use is turned round, or none of its second volumes has a write
abbrev pub is_mistaken : Calm → HostUse → Bool
is_mistaken calm u = list_any (is_turned calm) u.pairs || list_all (is_unwritten calm) u.pairs

-- a refusal isn't announced, or a use is mistaken
abbrev pub is_calm_finding : Sweep → Calm → Bool
is_calm_finding plan calm = list_any (is_unannounced plan) calm.told || list_any (is_mistaken calm) plan.uses
