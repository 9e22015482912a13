-- Fuses that come later: a stop that is the first stays so.
use Rattle.std.proofs.Common.{ℕ, ◌≡◌, ◌≢◌, ◌<◌, ◌≤◌, ◌+◌, ◌-◌, ◌^◌, ◌⊎◌, inl, inr, Bool, true, false, cond, List, [], ◌∷◌, ◌++◌, drop, take, get_or, length, map, refl, ap, ◌∙◌, sym, subst, arith, nat_eq, nat_lt, Option, Some, None, Ok}
use Rattle.std.specs.Prelude.{All, slice_get}
use Rattle.std.specs.List.{filter_map, fold, cons_option, position, position_or_len}
use Rattle.std.specs.Option.{option_and_then, option_map_or, unwrap_or}
use Rattle.std.specs.Str.{bytes_eq}
use Rattle.std.proofs.Math.Seq.{take-append_seam}
use Rattle.std.proofs.lemmas.Bool.{cases_eq, cases_lt}
use Rattle.std.proofs.lemmas.Bool.Decides.{nat_tests}
use Rattle.std.proofs.lemmas.Grind.{common_steps}
use Rattle.std.proofs.lemmas.List.{drop_more, get_or-take, map-append, take-append-drop}
use Rattle.std.proofs.lemmas.List.Quantifiers.{position-Some}
use Rattle.std.proofs.lemmas.List.Sums.{fails_before_first}
use Rattle.std.proofs.lemmas.Option.{same_Some, slice_get_within, get_or_from_slice_get, slice_get-get_or}
use Rattle.std.proofs.lemmas.Slice.Eq.{bytes_eq-Decides}
use Rattle.dr_facts.proofs.Lists.{any-some}
use Rattle.dr_facts.proofs.Options.{bound}
use Rattle.dr_laws_sound.proofs.Journal.{after_task-grows}
use Rattle.dr_listing.proofs.TakenLemmas.{in-at}
use Rattle.dr_logic.proofs.Lists.{same_bytes}
use Rattle.dr_model.specs.declared.event.Event.{Event}
use Rattle.dr_model.specs.declared.event.Event.TheVariants.{Stopped}
use Rattle.dr_model.specs.declared.step.Name.{Name}
use Rattle.dr_model.specs.declared.step.Step.TheVariants.{Start}
use Rattle.dr_model.specs.Control.{Fuse, World, nothing}
use Rattle.dr_model.specs.Groups.{In}
use Rattle.dr_model.specs.LineText.{name_fits, name_text}
use Rattle.dr_model.specs.LineWords.{◌>>=◌}
use Rattle.dr_model.specs.Lines.{tasks_from}
use Rattle.dr_model.specs.Listed.{as_asked, ListsAlong, ListsBy}
use Rattle.dr_model.specs.PlanParts.{name_bytes}
use Rattle.dr_model.specs.Plans.{armed}
use Rattle.dr_model.specs.Runs.{Task, own_course, after_task, after_tasks, run}
use Rattle.dr_model.specs.Text.{Heard, heard, untold, told_name}
use Rattle.dr_plan.proofs.StepLemmas.{fuses-length, fuses-read}
use Rattle.dr_plan.specs.declared.points.Point.TheVariants.{Cut}
use Rattle.dr_plan.specs.declared.points.Torn.{Torn}
use Rattle.dr_plan.specs.declared.points.Torn.TheVariants.{Unchanged}
use Rattle.dr_plan.specs.Above.{is_among}
use Rattle.dr_plan.specs.Parts.{IsSweep, IsOneStep, ComeOnce}
use Rattle.dr_plan.specs.Pieces.{Pieces, cut_pieces, pieces_of}
use Rattle.dr_plan.specs.Points.{count_at, fuses, fuse_lines, lines_before, others, steps_from, stop_line, torn_at, torn_word}
use Rattle.dr_plan.specs.Sweep.{Sweep, Tried}
use Rattle.dr_sweep.specs.Comes.{first_stop, servers_at}
use Rattle.dr_sweep.specs.Counts.{first_by, first_in as first_in_line, first_write}
use Rattle.dr_sweep.specs.Parts.{TellsFirst}
use Rattle.dr_sweep.specs.Reach.{server_of, stop_by, stopped_by, stopped_since, told_before}
use Rattle.dr_sweep.specs.declared.reach.FirstStop.TheVariants.{Other, Nobody}
use Rattle.dr_sweep.proofs.ArmLemmas.{Ends, AreFine, AreLeft, arm-all, fuse_of}
use Rattle.dr_top.proofs.LeadLemmas.{lists-then}
use Rattle.dr_sweep.proofs.AskedLemmas.{TwoParts, in-two, lists-parts, bare-fuses, asked-fuses, lists-fuses, lists-by, one-task}
use Rattle.dr_sweep.proofs.FirstLemmas.{stop-is, stop-same}
use Rattle.dr_laws_fuses.specs.Fuses.{with_fuses}
use Rattle.dr_laws_fuses.specs.Laws.{Outlasts, StartsAlike, stop_at, first_place}
use Rattle.dr_laws_fuses.proofs.Places.{first-place-stays}
use Rattle.dr_laws_fuses.proofs.Names.{run-named}
use Rattle.dr_sweep.proofs.RunLemmas.{steps-append}
use Rattle.dr_top.proofs.TaskLemmas.{tasks-then, tasks-one}

as-long : (f : Option Fuse) → Outlasts f f
as-long None = tt
as-long (Some f) = omega arith

-- ---- places

-- what is told to the names of a disaster
abbrev place_of : Heard → List Name → ℕ → Option ℕ
place_of told names q = server_of names (told_name told q)

same_stops : (told : Heard) (names : List Name) (es : List Event) → filter_map (stopped_by told names) es ≡ filter_map (stop_at (place_of told names)) es
same_stops told names [] = refl
same_stops told names (e ∷ es) = ap (λ o. cons_option o (filter_map (stopped_by told names) es)) (one e) ∙ ap (cons_option (stop_at (place_of told names) e)) (same_stops told names es)
  where
    one : (e : Event) → stopped_by told names e ≡ stop_at (place_of told names) e
    one (Stopped s n) = refl
    one _ = refl

taken : (a b : List Event) → take (length a) (a ++ b) ≡ a
taken a b = take-append_seam a b

-- ---- names that come once

module _ (names : List Name) (once : ComeOnce names) (bytes : List ℕ) where
  abbrev is_it : Name → Bool
  is_it name = bytes_eq (name_text name) bytes

  -- one of the names is it, so there is a place
  found_there : (i : ℕ) (name : Name) → slice_get names i ≡ Some name → is_it name ≡ true → position is_it names ≡ None → ⊥
  found_there i name at is none = by (cases_lt i (position_or_len is_it names))
    where
      lt : i < length names
      lt = slice_get_within names i name at

      by : (i < position_or_len is_it names) ⊎ (position_or_len is_it names ≤ i) → ⊥
      by (inl before) =
          let fails = fails_before_first is_it names i name before in
          let here : get_or names i name ≡ name = get_or_from_slice_get names i name name at in
          let no : true ≡ false = sym is ∙ sym (ap is_it here) ∙ fails in
          cc
      by (inr first) =
          let within : position_or_len is_it names < length names = omega (arith, first, lt) in
          let test : nat_lt (position_or_len is_it names) (length names) ≡ true = grind (arith, nat_tests, within) in
          let no : Some (position_or_len is_it names) ≡ None = sym (ap (λ b. cond b (Some (position_or_len is_it names)) None) test) ∙ none in
          cc

  -- and it is its own
  place_is : (i place : ℕ) (name : Name) → slice_get names i ≡ Some name → is_it name ≡ true → position is_it names ≡ Some place → place ≡ i
  place_is i place name at is first = by (three place i)
    where
      facts : (place < length names) × (is_it (get_or names place name) ≡ true) × ((k : ℕ) → k < place → is_it (get_or names k name) ≡ false)
      facts = position-Some is_it names place name first

      here : get_or names i name ≡ name
      here = get_or_from_slice_get names i name name at

      three : (a b : ℕ) → (a ≡ b) ⊎ ((a < b) ⊎ (b < a))
      three a b = elim (cases_eq a b) [
        | inl e ↦ inl e
        | inr ne ↦ inr (elim (cases_lt a b) [ inl lt ↦ inl lt | inr le ↦ inr (grind (arith, ne, le)) ])
      ]

      by : (place ≡ i) ⊎ ((place < i) ⊎ (i < place)) → place ≡ i
      by (inl same) = same
      by (inr (inr later)) = absurd (let no : true ≡ false = sym is ∙ sym (ap is_it here) ∙ facts.2 i later in cc)
      by (inr (inl earlier)) =
          let lt = slice_get_within names i name at in
          let cut : names ≡ take i names ++ name ∷ drop (i + 1) names = sym (take-append-drop i names) ∙ ap (λ ns. take i names ++ ns) (drop_more names i name lt ∙ ap (λ n. n ∷ drop (i + 1) names) here) in
          let other = get_or names place name in
          let same : name_text other ≡ name_text name = same_bytes (name_text other) bytes facts.1 ∙ sym (same_bytes (name_text name) bytes is) in
          let matches : bytes_eq (name_text other) (name_text name) ≡ true = (bytes_eq-Decides (name_text other) (name_text name)).1 same in
          let early : place < length (take i names) = (let size : length (take i names) ≡ i = grind (arith, common_steps) in omega (arith, size, earlier)) in
          let among : In other (take i names) = in-at (take i names) place other (slice_get-get_or (take i names) place name early ∙ ap Some (get_or-take i names place name earlier)) in
          let twice : is_among name (take i names) ≡ true = any-some (λ (other : Name). bytes_eq (name_text other) (name_text name)) (take i names) other among matches in
          absurd (let no : true ≡ false = sym twice ∙ once (take i names) (drop (i + 1) names) name cut in cc)

  -- it stands at one place
  same_place : (i j : ℕ) (a b : Name) → slice_get names i ≡ Some a → slice_get names j ≡ Some b → is_it a ≡ true → is_it b ≡ true → i ≡ j
  same_place i j a b at_i at_j is_a is_b = by (position is_it names) refl
    where
      by : (o : Option ℕ) → position is_it names ≡ o → i ≡ j
      by None none = absurd (found_there i a at_i is_a none)
      by (Some p) first = sym (place_is i p a at_i is_a first) ∙ place_is j p b at_j is_b first

-- ---- the step

module _ (plan : Sweep) (sweep : IsSweep plan) (disaster place server : ℕ) (found : Option ℕ) (tear : Torn) (earlier later : List ℕ) (same : (k : ℕ) → found ≡ Some k → (k ≢ server) × (count_at earlier k ≡ count_at later k)) (none : (z : ℕ) → count_at earlier z ≤ count_at later z)
    (few : (z : ℕ) → count_at later z < 2 ^ 32) (from : first_write plan disaster place server ≤ count_at earlier server) (short : count_at earlier server < 2 ^ 32 - 1) where
  module _ (names : List Name) (lost : slice_get plan.loses disaster ≡ Some names) (own : Name) (named : slice_get names server ≡ Some own) (tried : Tried) (here : slice_get plan.tried place ≡ Some tried) where
    abbrev before : List (List ℕ)
    before = lines_before plan place

    abbrev number : ℕ
    number = length (lines_before plan place) + 1

    abbrev made : Torn → List ℕ → Pieces
    made torn ws = record { front = lines_before plan place ++ fuse_lines names server torn ws; strike = tried.text ∷ []; stops = map stop_line (others server names) }

    abbrev armed_by : Torn → List ℕ → List Task
    armed_by torn ws = steps_from number (fuses server torn ws 0 names)

    fit : All (λ name. name_fits name ≡ true) names
    fit = subst (λ ns. All (λ name. name_fits name ≡ true) ns) (get_or_from_slice_get plan.loses disaster names names lost) (sweep.fit disaster names (slice_get_within plan.loses disaster names lost))

    once : ComeOnce names
    once = subst ComeOnce (get_or_from_slice_get plan.loses disaster names names lost) (sweep.once disaster names (slice_get_within plan.loses disaster names lost))

    few_earlier : (z : ℕ) → count_at earlier z < 2 ^ 32
    few_earlier z = let le = none z in let lt = few z in omega (arith, le, lt)

    -- the steps of the lines before
    asks_for : (torn : Torn) (ws : List ℕ) → ((z : ℕ) → count_at ws z < 2 ^ 32) → tasks_from 1 (lines_before plan place ++ fuse_lines names server torn ws) ≡ tasks_from 1 (lines_before plan place) ++ armed_by torn ws
    asks_for torn ws low = steps-append (lines_before plan place) (fuse_lines names server torn ws) ∙ ap (λ ts. tasks_from 1 (lines_before plan place) ++ ts) (fuses-read number names server torn ws 0 fit low)

    pieces_are : (torn : Torn) (ws : List ℕ) → pieces_of plan (Cut disaster place server torn ws) ≡ Some (made torn ws)
    unfolding pieces_of
    pieces_are torn ws =
        ap (λ o. o >>= λ ns. cut_pieces plan ns place server torn ws) lost
        ∙ ap (λ o. o >>= λ name. slice_get plan.tried place >>= λ tried. Some (record { front = lines_before plan place ++ fuse_lines names server torn ws; strike = tried.text ∷ []; stops = map stop_line (others server names) })) named
        ∙ ap (λ o. o >>= λ tried. Some (record { front = lines_before plan place ++ fuse_lines names server torn ws; strike = tried.text ∷ []; stops = map stop_line (others server names) })) here

    fronts_alike : length (made Unchanged earlier).front ≡ length (made tear later).front
    fronts_alike =
        let a : length (made Unchanged earlier).front ≡ length (lines_before plan place) + length (fuses server Unchanged earlier 0 names) = grind (arith, common_steps) in
        let b : length (made tear later).front ≡ length (lines_before plan place) + length (fuses server tear later 0 names) = grind (arith, common_steps) in
        let c = fuses-length names server Unchanged earlier 0 in
        let d = fuses-length names server tear later 0 in
        omega (arith, a, b, c, d)

    names_there : (torn : Torn) (ws : List ℕ) → servers_at plan (Cut disaster place server torn ws) ≡ names
    names_there torn ws = ap (λ (o : Option (List Name)). unwrap_or o []) lost

    -- the tried step
    step : IsOneStep tried.text
    step = subst (λ (t : Tried). IsOneStep t.text) (get_or_from_slice_get plan.tried place tried tried here) (sweep.one place tried (slice_get_within plan.tried place tried here))

    first_is : (name : Name) → step.0 ≡ Start name → first_write plan disaster place server ≡ first_by own (Ok (Start name ∷ []))
    first_is name is =
        ap (λ (o : Option Name). option_map_or (λ name. option_map_or (λ (t : Tried). first_in_line name t.text) (slice_get plan.tried place) 0) o 0) (ap (option_and_then (λ (ns : List Name). slice_get ns server)) lost ∙ named)
        ∙ ap (λ (o : Option Tried). option_map_or (λ (t : Tried). first_in_line own t.text) o 0) here
        ∙ ap (first_by own) (step.1 ∙ ap (λ s. Ok (s ∷ [])) is)

    -- ---- the two runs

    module _ (front strike : List Task) (asks_front : map as_asked front ≡ tasks_from 1 (made Unchanged earlier).front) (asks_strike : map as_asked strike ≡ tasks_from (length (made Unchanged earlier).front + 1) (tried.text ∷ [])) (lists : ListsAlong nothing (front ++ strike))
        (is : first_stop plan (Cut disaster place server Unchanged earlier) (length (run front).events) (run (front ++ strike)).events ≡ stop_by server found) where
      parts : TwoParts front (tasks_from 1 (lines_before plan place)) (armed_by Unchanged earlier)
      parts = in-two front (tasks_from 1 (lines_before plan place)) (armed_by Unchanged earlier) (asks_front ∙ asks_for Unchanged earlier few_earlier)

      abbrev start : List Task
      start = parts.before

      abbrev w0 : World
      w0 = run parts.before

      lists_front : ListsAlong nothing start × ListsAlong w0 parts.behind
      lists_front = lists-parts nothing start parts.behind (subst (ListsAlong nothing) parts.cut (lists-parts nothing front strike lists).0)

      arms : parts.behind ≡ armed_by Unchanged earlier
      arms = bare-fuses server Unchanged earlier w0 names 0 number parts.behind parts.second_are lists_front.1

      abbrev w1 : World
      w1 = after_tasks w0 (armed_by Unchanged earlier)

      abbrev v1 : World
      v1 = after_tasks w0 (armed_by tear later)

      runs_front : run front ≡ w1
      runs_front = ap run (parts.cut ∙ ap (λ ts. parts.before ++ ts) arms) ∙ tasks-then nothing parts.before (armed_by Unchanged earlier)

      runs_later : run (parts.before ++ armed_by tear later) ≡ v1
      runs_later = tasks-then nothing parts.before (armed_by tear later)

      the_task : (t : Task) × (strike ≡ t ∷ []) × (t.asked ≡ Ok step.0)
      the_task = one-task (length (made Unchanged earlier).front + 1) tried.text step.0 strike step.1 asks_strike

      abbrev t : Task
      t = the_task.0

      runs_both : run (front ++ strike) ≡ after_task w1 t
      runs_both = ap (λ ts. run (front ++ ts)) the_task.1 ∙ tasks-then nothing front (t ∷ []) ∙ tasks-one (run front) t ∙ ap (λ w. after_task w t) runs_front

      runs_later_both : run ((parts.before ++ armed_by tear later) ++ strike) ≡ after_task v1 t
      runs_later_both = ap (λ ts. run ((parts.before ++ armed_by tear later) ++ ts)) the_task.1 ∙ tasks-then nothing (parts.before ++ armed_by tear later) (t ∷ []) ∙ tasks-one (run (parts.before ++ armed_by tear later)) t ∙ ap (λ w. after_task w t) runs_later

      -- ---- places by names

      abbrev told : Heard
      told = fold heard untold w1.events

      abbrev at_place : ℕ → Option ℕ
      at_place q = server_of names (told_name told q)

      servers_stay : w1.control.servers ≡ w0.control.servers
      servers_stay =
          (arm-all (λ q. Some 0) (Some 1) (λ q. ⊥) server Unchanged earlier earlier w0.control.servers (λ z. omega arith) names 0 number w0 w0.control.fuse refl
          (record { kept = λ q e. refl; same = λ q e. refl; others = λ q. as-long (w0.control.fuse q) }) (λ q never. absurd never)
          (λ i name at k k_is q found. ((λ e. cc), (λ e. cc), λ never. absurd never))).stay

      name_told : (q : ℕ) (bytes : List ℕ) → slice_get w0.control.servers q ≡ Some bytes → told_name told q ≡ bytes
      name_told q bytes at =
          ap (λ o. unwrap_or o []) (subst (λ (w : World). (fold heard untold w.events).names q ≡ slice_get w.control.servers q) runs_front (run-named front q) ∙ ap (λ xs. slice_get xs q) servers_stay ∙ at)

      -- the server that is to be cut short, if its count isn't 0
      abbrev Started : ℕ → Type 0
      Started q = (1 ≤ count_at earlier server) × (position (bytes_eq (name_bytes own)) w0.control.servers ≡ Some q)

      left_then : (i q : ℕ) (name : Name) → slice_get names i ≡ Some name → (bytes : List ℕ) → slice_get w0.control.servers q ≡ Some bytes → name_text name ≡ bytes → Started q
          → AreLeft (Some (fuse_of at_place found Started server tear earlier later w0.control.servers none Unchanged earlier (0 + i))) (Some (fuse_of at_place found Started server tear earlier later w0.control.servers none tear later (0 + i)))
      left_then i q name at bytes there equal started =
          let mine = position-Some (bytes_eq (name_bytes own)) w0.control.servers q [] started.1 in
          let is_own : bytes_eq (name_text own) bytes ≡ true = sym (ap (bytes_eq (name_text own)) (get_or_from_slice_get w0.control.servers q bytes [] there)) ∙ mine.1 in
          let is_it : bytes_eq (name_text name) bytes ≡ true = (bytes_eq-Decides (name_text name) bytes).1 equal in
          let same : i ≡ server = same_place names once bytes i server name own at named is_it is_own in
          let count : count_at earlier (0 + i) ≡ count_at earlier server = ap (count_at earlier) (omega (arith, same)) in
          let some = started.0 in
          let far : nat_eq (count_at earlier (0 + i)) 0 ≡ false = (let more : 1 ≤ count_at earlier (0 + i) = omega (arith, count, some) in grind (arith, nat_tests, more)) in
          inr (ap (λ b. cond b None (Some (fuse_of at_place found Started server tear earlier later w0.control.servers none Unchanged earlier (0 + i)))) far)

      -- the server that stops first has one fuse
      alike : (i : ℕ) (name : Name) → slice_get names i ≡ Some name → (bytes : List ℕ) → bytes_eq (name_text name) bytes ≡ true → (o : Option ℕ) → ((k : ℕ) → o ≡ Some k → (k ≢ server) × (count_at earlier k ≡ count_at later k)) → server_of names bytes ≡ o
          → fuse_of at_place found Started server tear earlier later w0.control.servers none tear later (0 + i) ≡ fuse_of at_place found Started server tear earlier later w0.control.servers none Unchanged earlier (0 + i)
      alike i name at bytes matches None same e = absurd (found_there names once bytes i name at matches e)
      alike i name at bytes matches (Some k) same e =
          let own : k ≡ i = place_is names once bytes i k name at matches e in
          let from_start : 0 + i ≡ k = omega (arith, own) in
          let both = same k refl in
          let kept : nat_eq (0 + i) server ≡ false = (let ne = both.0 in grind (arith, nat_tests, ne, from_start)) in
          ap (λ c. armed c (torn_word (torn_at server tear (0 + i)))) (ap (count_at later) from_start ∙ sym both.1 ∙ sym (ap (count_at earlier) from_start))
          ∙ ap (λ b. armed (count_at earlier (0 + i)) (torn_word (cond b tear Unchanged))) kept ∙ sym (ap (λ b. armed (count_at earlier (0 + i)) (torn_word (cond b Unchanged Unchanged))) kept)

      fine : AreFine at_place found Started server tear earlier later w0.control.servers none 0 names
      fine i name at k k_is q is_named =
          let in_list = position-Some (bytes_eq (name_bytes name)) k.servers q [] is_named in
          let bytes = get_or k.servers q [] in
          let there : slice_get w0.control.servers q ≡ Some bytes = ap (λ xs. slice_get xs q) (sym k_is) ∙ slice_get-get_or k.servers q [] in_list.0 in
          let told_so = name_told q bytes there in
          let equal : name_text name ≡ bytes = same_bytes (name_text name) bytes in_list.1 in
          let matches : bytes_eq (name_text name) (told_name told q) ≡ true = (bytes_eq-Decides (name_text name) (told_name told q)).1 (equal ∙ sym told_so) in (
            λ e. found_there names once (told_name told q) i name at matches e,
            λ e. alike i name at (told_name told q) matches found same e,
            λ started. left_then i q name at bytes there equal started,
          )

      ends : Ends at_place found Started w0.control.servers w1 v1
      ends = arm-all at_place found Started server tear earlier later w0.control.servers none names 0 number w0 w0.control.fuse refl (record { kept = λ q e. refl; same = λ q e. refl; others = λ q. as-long (w0.control.fuse q) }) (λ q started. inl refl) fine

      -- if the step starts a server, it is that one, and its fuse isn't at 0
      starts_alike : StartsAlike w1 ends.fuse t.asked
      starts_alike name q starts is_named = by (bytes_eq (name_text name) (name_text own)) refl
        where
          it : step.0 ≡ Start name
          it = let both : Ok step.0 ≡ Ok (Start name) = sym the_task.2 ∙ starts in cc

          by : (b : Bool) → bytes_eq (name_text name) (name_text own) ≡ b → AreLeft (w1.control.fuse q) (ends.fuse q)
          by true same =
              let equal : name_text name ≡ name_text own = same_bytes (name_text name) (name_text own) same in
              let first : first_write plan disaster place server ≡ 1 = first_is name it ∙ ap (λ b. cond b 1 (2 ^ 32 - 1)) same in
              ends.left q
              (omega (arith, first, from), ap (position (bytes_eq (name_bytes own))) (sym servers_stay) ∙ ap (λ bytes. position (bytes_eq bytes) w1.control.servers) (sym equal) ∙ is_named)
          by false apart = absurd (let first : first_write plan disaster place server ≡ 2 ^ 32 - 1 = first_is name it ∙ ap (λ b. cond b 1 (2 ^ 32 - 1)) apart in omega (arith, first, from, short))

      -- ---- the first stop

      -- in a world whose journal tells these names
      first_in : (w : World) (torn : Torn) (ws : List ℕ) → fold heard untold w.events ≡ told → stopped_since (servers_at plan (Cut disaster place server torn ws)) (length w.events) (after_task w t).events ≡ filter_map (stop_at at_place) (drop (length w.events) (after_task w t).events)
      first_in w torn ws tells =
          let grows = after_task-grows w t in
          let named_before : told_before (length w.events) (after_task w t).events ≡ told = ap (λ es. fold heard untold (take (length w.events) es)) grows.1 ∙ ap (fold heard untold) (taken w.events grows.0) ∙ tells in
          ap (λ ns. filter_map (stopped_by (told_before (length w.events) (after_task w t).events) ns) (drop (length w.events) (after_task w t).events)) (names_there torn ws)
          ∙ ap (λ h. filter_map (stopped_by h names) (drop (length w.events) (after_task w t).events)) named_before
          ∙ same_stops told names (drop (length w.events) (after_task w t).events)

      was_first : first_place at_place w1 t ≡ found
      was_first =
          let at_w1 : first_stop plan (Cut disaster place server Unchanged earlier) (length w1.events) (after_task w1 t).events ≡ stop_by server found =
          sym (λ i. first_stop plan (Cut disaster place server Unchanged earlier) (length (runs_front i).events) (runs_both i).events) ∙ is in
          sym (ap (λ xs. slice_get xs 0) (first_in w1 Unchanged earlier refl)) ∙ stop-same server (slice_get (stopped_since (servers_at plan (Cut disaster place server Unchanged earlier)) (length w1.events) (after_task w1 t).events) 0) found at_w1

      is_first : first_place at_place v1 t ≡ found
      is_first = subst (λ w. first_place at_place w t ≡ found) (sym ends.is) (first-place-stays at_place found w1 ends.fuse t ends.lasts starts_alike was_first)

      tells_later : TellsFirst plan (Cut disaster place server tear later) (stop_by server found)
      tells_later = record {
        pieces = made tear later;
        are = pieces_are tear later;
        front = parts.before ++ armed_by tear later;
        strike = strike;
        asks_front = map-append as_asked parts.before (armed_by tear later) ∙ (λ i. parts.first_are i ++ asked-fuses server tear later names 0 number i) ∙ sym (asks_for tear later few);
        asks_strike = asks_strike ∙ ap (λ n. tasks_from (n + 1) (tried.text ∷ [])) fronts_alike;
        lists = lists-then nothing (parts.before ++ armed_by tear later) strike (lists-then nothing parts.before (armed_by tear later) lists_front.0 (lists-fuses server tear later w0 names 0 number)) lists_strike;
        is = (λ i. first_stop plan (Cut disaster place server tear later) (length (runs_later i).events) (runs_later_both i).events)
            ∙ ap (stop_by server) (ap (λ xs. slice_get xs 0) (first_in v1 tear later told_same) ∙ is_first);
      }
        where
          told_same : fold heard untold v1.events ≡ told
          told_same = ap (λ (w : World). fold heard untold w.events) ends.is

          lists_strike : ListsAlong (after_tasks nothing (parts.before ++ armed_by tear later)) strike
          lists_strike =
              let there : ListsAlong w1 strike = subst (λ w. ListsAlong w strike) runs_front (lists-parts nothing front strike lists).1 in
              let one : ListsBy w1 t.listed (own_course t.asked) = (subst (ListsAlong w1) the_task.1 there).0 in
              subst (λ w. ListsAlong w strike) (sym (runs_later ∙ ends.is)) (subst (ListsAlong (with_fuses w1 ends.fuse)) (sym the_task.1) (lists-by w1 ends.fuse t.listed (own_course t.asked) one, tt))

-- From the first device write of the server on that a fuse can cut short, a stop that is the first of a disaster's stays so if no fuse of it comes earlier,
-- and that server's is the same; and if none of them stops, none does.
later-so : (plan : Sweep) → IsSweep plan → (disaster place server : ℕ) (found : Option ℕ) (tear : Torn) (earlier later : List ℕ) → ((k : ℕ) → found ≡ Some k → (k ≢ server) × (count_at earlier k ≡ count_at later k)) → ((z : ℕ) → count_at earlier z ≤ count_at later z)
    → ((z : ℕ) → count_at later z < 2 ^ 32) → first_write plan disaster place server ≤ count_at earlier server → count_at earlier server < 2 ^ 32 - 1 → TellsFirst plan (Cut disaster place server Unchanged earlier) (stop_by server found) → TellsFirst plan (Cut disaster place server tear later) (stop_by server found)
unfolding pieces_of
later-so plan sweep disaster place server found tear earlier later same none few from short tells =
    let lost = bound (slice_get plan.loses disaster) (λ names. cut_pieces plan names place server Unchanged earlier) tells.pieces tells.are in
    let piece : Tried → Pieces = λ tried. record { front = lines_before plan place ++ fuse_lines lost.0 server Unchanged earlier; strike = tried.text ∷ []; stops = map stop_line (others server lost.0) } in
    let named = bound (slice_get lost.0 server) (λ name. slice_get plan.tried place >>= λ tried. Some (piece tried)) tells.pieces lost.2 in
    let here = bound (slice_get plan.tried place) (λ tried. Some (piece tried)) tells.pieces named.2 in
    let is : piece here.0 ≡ tells.pieces = same_Some (piece here.0) tells.pieces here.2 in
    tells_later plan sweep disaster place server found tear earlier later same none few from short lost.0 lost.1 named.0 named.1 here.0 here.1 tells.front tells.strike
    (tells.asks_front ∙ ap (λ (p : Pieces). tasks_from 1 p.front) (sym is))
    (tells.asks_strike ∙ ap (λ (p : Pieces). tasks_from (length p.front + 1) p.strike) (sym is))
    tells.lists tells.is

pub later-first : (plan : Sweep) → IsSweep plan → (disaster place server other : ℕ) (earlier later : List ℕ) → other ≢ server → count_at earlier other ≡ count_at later other → ((z : ℕ) → count_at earlier z ≤ count_at later z) → ((z : ℕ) → count_at later z < 2 ^ 32)
    → first_write plan disaster place server ≤ count_at earlier server → count_at earlier server < 2 ^ 32 - 1 → TellsFirst plan (Cut disaster place server Unchanged earlier) (Other other) → TellsFirst plan (Cut disaster place server Unchanged later) (Other other)
later-first plan sweep disaster place server other earlier later apart same none few from short tells =
    let is : stop_by server (Some other) ≡ Other other = stop-is server other (Some other) refl apart in
    subst (TellsFirst plan (Cut disaster place server Unchanged later)) is
    (later-so plan sweep disaster place server (Some other) Unchanged earlier later (λ k e. let at : other ≡ k = cc in (λ h. apart (at ∙ h), sym (ap (count_at earlier) at) ∙ same ∙ ap (count_at later) at)) none few from short (subst (TellsFirst plan (Cut disaster place server Unchanged earlier)) (sym is) tells))

pub later-none : (plan : Sweep) → IsSweep plan → (disaster place server : ℕ) (tear : Torn) (earlier later : List ℕ) → ((z : ℕ) → count_at earlier z ≤ count_at later z) → ((z : ℕ) → count_at later z < 2 ^ 32)
    → first_write plan disaster place server ≤ count_at earlier server → count_at earlier server < 2 ^ 32 - 1 → TellsFirst plan (Cut disaster place server Unchanged earlier) Nobody → TellsFirst plan (Cut disaster place server tear later) Nobody
later-none plan sweep disaster place server tear earlier later none few from short tells = later-so plan sweep disaster place server None tear earlier later (λ k e. absurd (let never : None ≡ Some k = e in cc)) none few from short tells
