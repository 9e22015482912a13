-- Read first: `PlaceLemmas.antt`: what is found and changed at a place of the map is found and changed in the list;
-- `MemberLemmas.antt`; `Loops.antt`: what the loops keep.
-- - **A type of its own for the value** (`Session` in `dr_session`) with a model and an invariant: its methods prove
--   with hardly a file, and the table's methods are `place_of`, then one call at the place.
-- - **A place is a recursion over the entries** (`IsPlace`), and each fact about it is one induction: what is found
--   there (`found-at`), what a write there changes (`changed-at`), what stays (`room-at`, `keyed-at`, `same-at`). Every
--   method's answers are then one line each, the same for all.
-- - `map.get_index_of(&k)` and `&mut map[i]` give plain equations: the map with its value at i set. `set_value_at`
--   computes, so lemmas about it are inductions by `refl` and `ap`.
-- - **`retain` with a closure that captures**: `filter_same _ _ _ (λ x b f' k. search rules) _ _
--   c.retain.ensures.filtered`, in a function of its own.
-- - A loop by index over the map: an invariant that is a record over plain entries (`Loops.antt`).
-- - A call whose condition tests can't show (a reply that is expected, a session that is defined) gets a public test of
--   the condition, and the tests assert it in a small function before the call.
-- - In `(cc)` among arguments the parentheses matter. `xs ++ x` of `i + 1` against `suc i`: prove for `suc i`, then `rw
--   add-one`.
pub mod MemberLemmas
pub mod PlaceLemmas
pub mod Loops
