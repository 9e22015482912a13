-- The device writes of a server in a tried step, one after another: each has its counts, and the counts of the next one are known.
use Rattle.std.proofs.Common.{ℕ, zero, suc, ◌≡◌, ◌≢◌, ◌<◌, ◌≤◌, ◌+◌, ◌-◌, ◌^◌, ◌⊎◌, inl, inr, Bool, true, false, cond, List, [], ◌∷◌, ◌++◌, length, get_or, map, refl, ap, ◌∙◌, sym, subst, arith, nat_eq, ◌&&◌, Some, None}
use Rattle.std.specs.Prelude.{All}
use Rattle.std.specs.List.{range_with_len, sum}
use Rattle.std.proofs.lemmas.Bool.{and_parts, cases_eq, cases_lt}
use Rattle.std.proofs.lemmas.Bool.Decides.{nat_tests}
use Rattle.std.proofs.lemmas.Grind.{common_steps, flat_map-append}
use Rattle.std.proofs.lemmas.List.{append-nil, get_or-map, get_or-set_other, map-append}
use Rattle.std.proofs.lemmas.List.Concat.{flat_map-cons}
use Rattle.std.proofs.lemmas.List.FromFn.{get_or-range_with_len}
use Rattle.std.proofs.lemmas.List.Elements.{All-nil, All-push}
use Rattle.dr_model.specs.Control.{World}
use Rattle.dr_model.specs.Runs.{run}
use Rattle.dr_plan.specs.declared.points.Point.{Point}
use Rattle.dr_plan.specs.declared.points.Point.TheVariants.{Cut}
use Rattle.dr_plan.specs.declared.points.Torn.{Torn}
use Rattle.dr_plan.specs.declared.points.Torn.TheVariants.{Unchanged}
use Rattle.dr_plan.specs.Parts.{IsSweep}
use Rattle.dr_plan.specs.Points.{count_at}
use Rattle.dr_plan.specs.Sweep.{Sweep}
use Rattle.dr_rows.specs.Outcome.{Outcome}
use Rattle.dr_sweep.specs.declared.fault.PointFault.{PointFault}
use Rattle.dr_sweep.specs.declared.fault.PointFault.TheVariants.{NoMemory, TooLong}
use Rattle.dr_sweep.specs.declared.parts.Part.TheVariants.{Within}
use Rattle.dr_sweep.specs.declared.reach.FirstStop.{FirstStop}
use Rattle.dr_sweep.specs.declared.reach.FirstStop.TheVariants.{Own, Other, Nobody}
use Rattle.dr_sweep.specs.Comes.{Stops, first_stop, servers_at, servers_lost}
use Rattle.dr_sweep.specs.Counts.{first_write, with_count, one_more, first_counts, raised}
use Rattle.dr_sweep.specs.Parts.{AreRowsOf, AreWithin, AtOnce, AreLeast, TellsFirst, IsLast, FindsCounts, FailsWrite, FailsIn, Adds, AddsIf, AddsWrite, write_points, points_of}
use Rattle.dr_sweep.specs.Reach.{is_own}
use Rattle.dr_sweep.proofs.CountLemmas.{counted-within, count-within-sum, with-few, with-more, with-most, more-same, more-other, more-length, more-sum, more-back, with-same, raised-later, first-same, first-other, first-sum, first-length}
use Rattle.dr_sweep.proofs.FirstLemmas.{other-apart, other-within}
use Rattle.dr_laws_fuses.proofs.Armed.{any-torn}
use Rattle.dr_sweep.proofs.EarlyLemmas.{early-so}
use Rattle.dr_sweep.proofs.LaterLemmas.{later-first, later-none}
use Rattle.dr_sweep.proofs.PointLemmas.{own-is}
use Rattle.dr_sweep.proofs.RowLemmas.{adds-then, adds-as, adds-none, rows-append, was-missed}

-- what a run tells is so of the steps that it carried out
pub tells-so : (plan : Sweep) (point : Point) (stop : FirstStop) → Stops plan point stop → TellsFirst plan point stop
tells-so plan point stop s = record {
  pieces = s.pieces;
  are = s.are;
  front = s.front;
  strike = s.strike;
  asks_front = s.asks_front;
  asks_strike = s.asks_strike;
  lists = s.runs.stands.lists;
  is = ap (λ (w : World). first_stop plan point (length (run s.front).events) w.events) s.runs.stands.leads ∙ ap (first_stop plan point (length (run s.front).events)) (sym s.runs.stands.journal) ∙ s.is;
}

module _ (plan : Sweep) (disaster place server : ℕ) where
  abbrev first : ℕ
  first = first_write plan disaster place server

  -- these are the counts of the device writes before the one whose counts come next; they are so many in all
  pub record UpTo (counts : List (List ℕ)) (writes : List ℕ) (total : ℕ) : Type 0 where
    pub numbers : map (λ ws. count_at ws server) counts ≡ range_with_len first (length counts)
    pub at_once : All (AtOnce plan disaster place server) counts
    pub next : count_at writes server ≡ first + length counts
    pub least : AreLeast plan disaster place server writes
    pub all : sum writes ≡ total
    pub size : length writes ≡ 8

  -- before the first one
  pub begins-up : (writes : List ℕ) (write total : ℕ) → server < 8 → write ≡ first → writes ≡ first_counts server write → total ≡ write → UpTo [] writes total
  begins-up writes write total low is are same = record {
    numbers = refl;
    at_once = All-nil (AtOnce plan disaster place server);
    next = ap (λ ws. count_at ws server) are ∙ first-same server write low ∙ is ∙ (let none : first ≡ first + 0 = omega arith in none);
    least = λ other n apart some. absurd (let none = ap (λ ws. count_at ws other) are ∙ first-other server write other apart in omega (arith, none, some));
    all = ap sum are ∙ first-sum server write low ∙ sym same;
    size = ap length are ∙ first-length server write;
  }

  -- ---- one raise

  numbers_more : (a n : ℕ) → range_with_len a (n + 1) ≡ range_with_len a n ++ (a + n) ∷ []
  numbers_more a zero = ap (λ k. k ∷ []) (let none : a ≡ a + 0 = omega arith in none)
  numbers_more a (suc n) =
      ap (range_with_len a) (let e : suc n + 1 ≡ suc (n + 1) = omega arith in e)
      ∙ ap (λ ns. a ∷ ns) (numbers_more (a + 1) n ∙ ap (λ k. range_with_len (a + 1) n ++ k ∷ []) (let e : a + 1 + n ≡ a + suc n = omega arith in e))

  module _ (sweep : IsSweep plan) (counts : List (List ℕ)) (writes : List ℕ) (total : ℕ) (up : UpTo counts writes total) (room : total < 2 ^ 32 - 1) where
    summed : (next : ℕ) → next < 8 → sum (one_more next writes) ≡ total + 1
    summed next low = let size = up.size in let all = up.all in let more = more-sum writes next (omega (arith, size, low)) in omega (arith, all, more)

    -- the count of the server can be cut short, and is less than the greatest
    own_low : server < 8 → (first ≤ count_at writes server) × (count_at writes server < 2 ^ 32 - 1)
    own_low low =
        let next = up.next in
        let size = up.size in
        let all = up.all in
        let within = count-within-sum writes server (omega (arith, size, low)) in
        (omega (arith, next), omega (arith, within, all, room))

    -- the others' counts are still the least if one is raised
    still_least : server < 8 → (next : ℕ) → next < 8 → (other n : ℕ) → other ≢ server → other ≢ next → count_at (one_more next writes) other ≡ n + 1 → TellsFirst plan (Cut disaster place server Unchanged (with_count other n (one_more next writes))) (Other other)
    still_least few next low other n apart away some =
        let before : count_at writes other ≡ n + 1 = sym (more-other writes next other away) ∙ some in
        let lt = counted-within writes other n before in
        let size = up.size in
        let within : next < length writes = omega (arith, size, low) in
        let longer = more-length writes next in
        let all = summed next low in
        let own = get_or-set_other writes other server n 0 (λ e. apart (sym e)) in
        let counts = own_low few in
        later-first plan sweep disaster place server other (with_count other n writes) (with_count other n (one_more next writes)) apart
        (with-same writes other n lt ∙ sym (with-same (one_more next writes) other n (omega (arith, longer, lt))))
        (raised-later writes next other n away lt within)
        (λ z. let most = with-few (one_more next writes) other n (2 ^ 32 - 1) (omega (arith, longer, lt)) (omega (arith, some)) (omega (arith, all, room)) z in omega (arith, most))
        (let low = counts.0 in omega (arith, own, low)) (let high = counts.1 in omega (arith, own, high)) (up.least other n apart before)

    own_least : server < 8 → AreLeast plan disaster place server (one_more server writes)
    own_least low other n apart some = still_least low server low other n apart apart some

    other_least : server < 8 → (next : ℕ) → next < 8 → Stops plan (Cut disaster place server Unchanged writes) (Other next) → AreLeast plan disaster place server (one_more next writes)
    other_least few next low stops other n apart some = by (cases_eq other next)
      where
        by : (other ≡ next) ⊎ (other ≢ next) → TellsFirst plan (Cut disaster place server Unchanged (with_count other n (one_more next writes))) (Other other)
        by (inr away) = still_least few next low other n apart away some
        by (inl is) =
            let size = up.size in
            let within : next < length writes = omega (arith, size, low) in
            let back : with_count next n (one_more next writes) ≡ writes = more-back writes next n within (sym (ap (count_at (one_more next writes)) is) ∙ some) in
            subst (λ (o : ℕ). TellsFirst plan (Cut disaster place server Unchanged (with_count o n (one_more next writes))) (Other o)) (sym is)
            (subst (λ (ws : List ℕ). TellsFirst plan (Cut disaster place server Unchanged ws) (Other next)) (sym back) (tells-so plan (Cut disaster place server Unchanged writes) (Other next) stops))

    sized : (next : ℕ) → length (one_more next writes) ≡ 8
    sized next = more-length writes next ∙ up.size

    longer : length (counts ++ writes ∷ []) ≡ length counts + 1
    longer = grind (arith, common_steps)

    -- the device write whose counts these are is the next one
    pub own-up : server < 8 → Stops plan (Cut disaster place server Unchanged writes) Own → UpTo (counts ++ writes ∷ []) (one_more server writes) (total + 1)
    own-up low stops = record {
      numbers =
          map-append (λ ws. count_at ws server) counts (writes ∷ [])
          ∙ ap (λ ns. ns ++ count_at writes server ∷ []) up.numbers
          ∙ ap (λ n. range_with_len first (length counts) ++ n ∷ []) up.next
          ∙ sym (ap (range_with_len first) longer ∙ numbers_more first (length counts));
      at_once = All-push (AtOnce plan disaster place server) counts writes up.at_once (record { first = stops; least = up.least });
      next = (let size = up.size in let within : server < length writes = omega (arith, size, low) in let more = more-same writes server within in let is = up.next in let count = longer in omega (arith, more, is, count));
      least = own_least low;
      all = summed server low;
      size = sized server;
    }

    -- another server's count is one too few
    pub other-up : server < 8 → (next : ℕ) → next < 8 → next ≢ server → Stops plan (Cut disaster place server Unchanged writes) (Other next) → UpTo counts (one_more next writes) (total + 1)
    other-up few next low apart stops = record {
      numbers = up.numbers;
      at_once = up.at_once;
      next = more-other writes next server (λ e. apart (sym e)) ∙ up.next;
      least = other_least few next low stops;
      all = summed next low;
      size = sized next;
    }

  -- ---- what comes of a stop

  module _ (counts : List (List ℕ)) (writes : List ℕ) (total : ℕ) (up : UpTo counts writes total) where
    -- none is too few, and these are those of the last one
    module _ (sweep : IsSweep plan) (low : server < 8) (room : total < 2 ^ 32 - 1) where
      beyond : Stops plan (Cut disaster place server Unchanged writes) Nobody → (later : ℕ) (torn : Torn) → count_at writes server ≤ later → later < 2 ^ 32 → TellsFirst plan (Cut disaster place server torn (with_count server later writes)) Nobody
      beyond stops later torn more few =
          let size = up.size in
          let within : server < length writes = omega (arith, size, low) in
          let all = up.all in
          let counts = own_low sweep counts writes total up room low in
          later-none plan sweep disaster place server torn writes (with_count server later writes) (with-more writes server later within more)
          (λ z. let most = with-most writes server later (2 ^ 32 - 1) within (omega (arith, few)) (omega (arith, all, room)) z in omega (arith, most)) counts.0 counts.1
          (tells-so plan (Cut disaster place server Unchanged writes) Nobody stops)

      pub last-so : (stop : FirstStop) → Stops plan (Cut disaster place server Unchanged writes) stop → raised server stop ≡ None → IsLast plan disaster place server writes
      last-so Own stops none = absurd cc
      last-so (Other other) stops none = absurd cc
      last-so Nobody stops none = record { least = up.least; end = inl (record { here = stops; beyond = beyond stops }) }

    pub last-out : total ≡ 2 ^ 32 - 1 → IsLast plan disaster place server writes
    last-out out = record { least = up.least; end = inr (up.all ∙ out) }

  -- by what is raised, whose stop it is
  pub data Raises (next : ℕ) : FirstStop → Type 0 where
    ByOwn : next ≡ server → Raises next Own
    ByOther : {other : ℕ} → next ≡ other → Raises next (Other other)

  pub raises : (next : ℕ) (stop : FirstStop) → Some next ≡ raised server stop → Raises next stop
  raises next Own is = let same : next ≡ server = cc in ByOwn same
  raises next Nobody is = absurd cc
  raises next (Other other) is = let same : next ≡ other = cc in ByOther same

  module _ (sweep : IsSweep plan) (few : servers_lost plan disaster ≤ 8) (low : server < 8) (lost : (writes : List ℕ) → length (servers_at plan (Cut disaster place server Unchanged writes)) ≡ servers_lost plan disaster) where
    other_low : (writes : List ℕ) (other : ℕ) → Stops plan (Cut disaster place server Unchanged writes) (Other other) → other < 8
    other_low writes other s = let here = other-within plan disaster place server Unchanged writes (length (run s.front).events) s.events other s.is in let count = lost writes in omega (arith, here, count, few)

    -- the server whose count is raised has one
    pub next-low : (writes : List ℕ) (stop : FirstStop) (next : ℕ) → Stops plan (Cut disaster place server Unchanged writes) stop → Some next ≡ raised server stop → next < 8
    next-low writes stop next stops is = by stop stops (raises next stop is)
      where
        by : (stop : FirstStop) → Stops plan (Cut disaster place server Unchanged writes) stop → Raises next stop → next < 8
        by Own s (ByOwn same) = omega (arith, same, low)
        by Nobody s never = elim never [ ]
        by (Other other) s (ByOther same) = let lt = other_low writes other s in omega (arith, same, lt)

    -- one of the counts is raised: there is one device write more, or none
    pub up-more : (counts : List (List ℕ)) (writes : List ℕ) (total : ℕ) (stop : FirstStop) (next : ℕ) → UpTo counts writes total → total < 2 ^ 32 - 1 → Stops plan (Cut disaster place server Unchanged writes) stop → Some next ≡ raised server stop
        → UpTo (counts ++ cond (is_own stop) (writes ∷ []) []) (one_more next writes) (total + 1)
    up-more counts writes total stop next up room stops is = by stop stops (raises next stop is)
      where
        by : (stop : FirstStop) → Stops plan (Cut disaster place server Unchanged writes) stop → Raises next stop → UpTo (counts ++ cond (is_own stop) (writes ∷ []) []) (one_more next writes) (total + 1)
        by Nobody s never = elim never [ ]
        by Own s (ByOwn same) = subst (λ n. UpTo (counts ++ writes ∷ []) (one_more n writes) (total + 1)) (sym same) (own-up sweep counts writes total up room low s)
        by (Other other) s (ByOther same) =
            subst (λ n. UpTo (counts ++ []) (one_more n writes) (total + 1)) (sym same)
            (subst (λ (cs : List (List ℕ)). UpTo cs (one_more other writes) (total + 1)) (sym (append-nil counts))
            (other-up sweep counts writes total up room low other (other_low writes other s) (other-apart plan disaster place server Unchanged writes (length (run s.front).events) s.events other s.is) s))

  -- a count that is raised stays within a fuse's
  pub few-so-far : (counts : List (List ℕ)) (writes : List ℕ) (total next : ℕ) → UpTo counts writes total → next < 8 → total < 2 ^ 32 - 1 → count_at writes next < 2 ^ 32 - 1
  few-so-far counts writes total next up low few = let size = up.size in let all = up.all in let within = count-within-sum writes next (omega (arith, size, low)) in omega (arith, all, within, few)

  -- ---- their rows

  -- the rows of the device writes before
  pub record AreUpTo (writes : List ℕ) (total : ℕ) (rows : List Outcome) : Type 0 where
    pub counts : List (List ℕ)
    pub up : UpTo counts writes total
    pub are : AreRowsOf plan (points_of disaster place server counts) rows

  pub begins-within : (writes : List ℕ) (write total : ℕ) (a b : List Outcome) → server < 8 → write ≡ first → writes ≡ first_counts server write → total ≡ write → b ≡ a → Adds (AreUpTo writes total) a b
  begins-within writes write total a b low is are same none = adds-none (AreUpTo writes total) a b none (record { counts = []; up = begins-up writes write total low is are same; are = refl })

  module _ (sweep : IsSweep plan) (few : servers_lost plan disaster ≤ 8) (low : server < 8) (lost : (writes : List ℕ) → length (servers_at plan (Cut disaster place server Unchanged writes)) ≡ servers_lost plan disaster) where
    rows_more : (writes : List ℕ) (total : ℕ) (stop : FirstStop) (next : ℕ) → total < 2 ^ 32 - 1 → Stops plan (Cut disaster place server Unchanged writes) stop → Some next ≡ raised server stop → (rows more : List Outcome) → AreUpTo writes total rows
        → AreRowsOf plan (points_of disaster place server (cond (is_own stop) (writes ∷ []) [])) more → AreUpTo (one_more next writes) (total + 1) (rows ++ more)
    rows_more writes total stop next room stops is rows more so_far are =
        let new = cond (is_own stop) (writes ∷ []) [] in
        record {
          counts = so_far.counts ++ new;
          up = up-more sweep few low lost so_far.counts writes total stop next so_far.up room stops is;
          are = subst (λ (ps : List Point). AreRowsOf plan ps (rows ++ more)) (sym (flat_map-append (write_points disaster place server) so_far.counts new))
              (rows-append plan (points_of disaster place server so_far.counts) (points_of disaster place server new) rows more so_far.are are);
        }

    -- the rows of a device write, or none, by whether it is reached
    added : (writes : List ℕ) (stop : FirstStop) (b c : List Outcome) → AddsWrite plan disaster place server writes b c stop → Adds (AreRowsOf plan (points_of disaster place server (cond (is_own stop) (writes ∷ []) []))) b c
    added writes stop b c adds = by (is_own stop) adds.1
      where
        one : points_of disaster place server (writes ∷ []) ≡ write_points disaster place server writes
        one = flat_map-cons (write_points disaster place server) writes [] ∙ append-nil (write_points disaster place server writes)

        by : (own : Bool) → AddsIf own (AreRowsOf plan (write_points disaster place server writes)) b c → Adds (AreRowsOf plan (points_of disaster place server (cond own (writes ∷ []) []))) b c
        by true h = subst (λ (ps : List Point). Adds (AreRowsOf plan ps) b c) (sym one) h
        by false h = adds-none (AreRowsOf plan []) b c h refl

    -- one device write more, or one more of another server before it
    pub write-more : (writes : List ℕ) (total : ℕ) (stop : FirstStop) (next : ℕ) (a b c : List Outcome) → total < 2 ^ 32 - 1 → Adds (AreUpTo writes total) a b → AddsWrite plan disaster place server writes b c stop → Some next ≡ raised server stop → Adds (AreUpTo (one_more next writes) (total + 1)) a c
    write-more writes total stop next a b c room so_far adds is =
        adds-then (AreUpTo writes total) (AreRowsOf plan (points_of disaster place server (cond (is_own stop) (writes ∷ []) []))) (AreUpTo (one_more next writes) (total + 1)) a b c (rows_more writes total stop next room adds.0 is) so_far (added writes stop b c adds)

  within_so : IsSweep plan → (writes : List ℕ) (total : ℕ) → ((counts : List (List ℕ)) → UpTo counts writes total → IsLast plan disaster place server writes) → (rows : List Outcome) → AreUpTo writes total rows → AreWithin plan disaster place server rows
  within_so sweep writes total last rows so_far = record {
    counts = so_far.counts;
    numbers = so_far.up.numbers;
    are = so_far.are;
    at_once = so_far.up.at_once;
    further = writes;
    next = so_far.up.next;
    last = last so_far.counts so_far.up;
    early = λ write torn low. early-so plan sweep disaster place server write torn low;
    torn = λ name write bytes named before rest line. any-torn before rest line name write bytes;
  }

  not_own : (stop : FirstStop) → None ≡ raised server stop → is_own stop ≡ false
  not_own Own is = absurd cc
  not_own Nobody is = refl
  not_own (Other other) is = refl

  -- none is too few: they end here
  pub write-ends : IsSweep plan → server < 8 → (writes : List ℕ) (total : ℕ) → total < 2 ^ 32 - 1 → (stop : FirstStop) (a b c : List Outcome) → Adds (AreUpTo writes total) a b → AddsWrite plan disaster place server writes b c stop → None ≡ raised server stop → Adds (AreWithin plan disaster place server) a c
  write-ends sweep low writes total room stop a b c so_far adds is =
      subst (λ (rows : List Outcome). Adds (AreWithin plan disaster place server) a rows) (sym (was-missed plan (Cut disaster place server Unchanged writes) (write_points disaster place server writes) stop b c adds (not_own stop is)))
      (adds-as (AreUpTo writes total) (AreWithin plan disaster place server) a b (within_so sweep writes total (λ counts up. last-so counts writes total up sweep low room stop adds.0 (sym is))) so_far)

  -- no fuse counts more
  pub writes-out : IsSweep plan → (writes : List ℕ) (total : ℕ) (a b : List Outcome) → Adds (AreUpTo writes total) a b → total ≡ 2 ^ 32 - 1 → Adds (AreWithin plan disaster place server) a b
  writes-out sweep writes total a b so_far out = adds-as (AreUpTo writes total) (AreWithin plan disaster place server) a b (within_so sweep writes total (λ counts up. last-out counts writes total up out)) so_far

  -- ---- what fails

  -- the counts of an earlier device write
  earlier_one : (counts : List (List ℕ)) (writes : List ℕ) (total w : ℕ) → UpTo counts writes total → first ≤ w → w < count_at writes server → (before : List ℕ) × (count_at before server ≡ w) × AtOnce plan disaster place server before
  earlier_one counts writes total w up from below =
      let next = up.next in
      let i = w - first in
      let lt : i < length counts = omega (arith, next, from, below) in
      let number : count_at (get_or counts i []) server ≡ w =
      sym (get_or-map (λ ws. count_at ws server) counts i [] 0 lt) ∙ ap (λ ns. get_or ns i 0) up.numbers ∙ get_or-range_with_len first (length counts) i 0 lt ∙ (let e : first + i ≡ w = omega (arith, from) in e) in
      (get_or counts i [], number, up.at_once i [] lt)

  pub within-fails : (counts : List (List ℕ)) (writes : List ℕ) (total : ℕ) (fault : PointFault) → UpTo counts writes total → FailsWrite plan disaster place server writes fault → FailsIn plan (Within disaster place server) fault
  within-fails counts writes total NoMemory up fails = tt
  within-fails counts writes total TooLong up fails = record {
    point = Cut disaster place server fails.torn writes;
    tried = record {
      writes = writes;
      torn = fails.torn;
      is = refl;
      from = (let next = up.next in omega (arith, next));
      earlier = λ w from below. earlier_one counts writes total w up from below;
      least = up.least;
      here = fails.here;
    };
    fails = fails.fails;
  }

  -- ---- the counts of one that is named

  -- the device writes before come to the one of that number at most, if the first one does
  pub record Seeks (write : ℕ) (writes : List ℕ) (total : ℕ) : Type 0 where
    pub counts : List (List ℕ)
    pub up : UpTo counts writes total
    pub short : (count_at writes server ≤ write) ⊎ (write < first)

  pub begins-seeking : (write : ℕ) (writes : List ℕ) (from total : ℕ) → server < 8 → from ≡ first → writes ≡ first_counts server from → total ≡ from → Seeks write writes total
  begins-seeking write writes from total low is are same =
      let up = begins-up writes from total low is are same in
      record { counts = []; up = up; short = by (cases_lt write first) up.next }
    where
      by : (write < first) ⊎ (first ≤ write) → count_at writes server ≡ first + length {A = List ℕ} [] → (count_at writes server ≤ write) ⊎ (write < first)
      by (inr low) next = inl (omega (arith, low, next))
      by (inl lt) next = inr lt

  -- what is sought was found, or not
  pub sought-own : (stop : FirstStop) (count write : ℕ) → (is_own stop && nat_eq count write) ≡ true → stop ≡ Own
  sought-own stop count write is = own-is stop (and_parts (is_own stop) (nat_eq count write) is).0

  pub sought-count : (stop : FirstStop) (count write : ℕ) → (is_own stop && nat_eq count write) ≡ true → count ≡ write
  sought-count stop count write is = let test = (and_parts (is_own stop) (nat_eq count write) is).1 in grind (arith, nat_tests, test)

  pub not-sought : (stop : FirstStop) (count write : ℕ) → (is_own stop && nat_eq count write) ≡ false → (is_own stop ≡ false) ⊎ (count ≢ write)
  not-sought stop count write is = by (is_own stop) is
    where
      by : (own : Bool) → (own && nat_eq count write) ≡ false → (own ≡ false) ⊎ (count ≢ write)
      by false h = inl refl
      by true h = inr (λ e. let test : nat_eq count write ≡ true = grind (arith, nat_tests, e) in let clash : true ≡ false = sym test ∙ h in cc)

  pub found-so : (write : ℕ) (writes : List ℕ) (total : ℕ) → Seeks write writes total → Stops plan (Cut disaster place server Unchanged writes) Own → count_at writes server ≡ write → FindsCounts plan disaster place server write (Some writes)
  found-so write writes total seeks stops is = (is, record { first = stops; least = seeks.up.least })

  pub none-so : IsSweep plan → server < 8 → (write : ℕ) (writes : List ℕ) (total : ℕ) → total < 2 ^ 32 - 1 → (stop : FirstStop) → Seeks write writes total → Stops plan (Cut disaster place server Unchanged writes) stop → None ≡ raised server stop → FindsCounts plan disaster place server write None
  none-so sweep low write writes total room stop seeks stops is = record { further = writes; last = last-so seeks.counts writes total seeks.up sweep low room stop stops (sym is); past = seeks.short }

  pub out-so : (write : ℕ) (writes : List ℕ) (total : ℕ) → Seeks write writes total → total ≡ 2 ^ 32 - 1 → FindsCounts plan disaster place server write None
  out-so write writes total seeks out = record { further = writes; last = last-out seeks.counts writes total seeks.up out; past = seeks.short }

  module _ (sweep : IsSweep plan) (few : servers_lost plan disaster ≤ 8) (low : server < 8) (lost : (writes : List ℕ) → length (servers_at plan (Cut disaster place server Unchanged writes)) ≡ servers_lost plan disaster) where
    -- that one isn't it
    pub seeks-on : (write : ℕ) (writes : List ℕ) (total : ℕ) (stop : FirstStop) (next : ℕ) → total < 2 ^ 32 - 1 → Seeks write writes total → Stops plan (Cut disaster place server Unchanged writes) stop → Some next ≡ raised server stop
        → (is_own stop ≡ false) ⊎ (count_at writes server ≢ write) → Seeks write (one_more next writes) (total + 1)
    seeks-on write writes total stop next room seeks stops is other =
        record { counts = seeks.counts ++ cond (is_own stop) (writes ∷ []) []; up = up-more sweep few low lost seeks.counts writes total stop next seeks.up room stops is; short = by stop (raises next stop is) stops other seeks.short }
      where
        by : (stop : FirstStop) → Raises next stop → Stops plan (Cut disaster place server Unchanged writes) stop → (is_own stop ≡ false) ⊎ (count_at writes server ≢ write) → (count_at writes server ≤ write) ⊎ (write < first) → (count_at (one_more next writes) server ≤ write) ⊎ (write < first)
        by Own (ByOwn same) s o (inr before) = inr before
        by Own (ByOwn same) s (inl other) (inl short) = absurd cc
        by Nobody never s o h = elim never [ ]
        by Own (ByOwn same) s (inr away) (inl short) =
            let size = seeks.up.size in
            let more = ap (λ n. count_at (one_more n writes) server) same ∙ more-same writes server (omega (arith, size, low)) in
            inl (grind (arith, more, away, short))
        by (Other other) (ByOther same) s o (inr before) = inr before
        by (Other other) (ByOther same) s o (inl short) =
            let apart = other-apart plan disaster place server Unchanged writes (length (run s.front).events) s.events other s.is in
            let kept = ap (λ n. count_at (one_more n writes) server) same ∙ more-other writes other server (λ e. apart (sym e)) in
            inl (omega (arith, kept, short))
