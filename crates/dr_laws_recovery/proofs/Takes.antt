-- From which volumes events take writes: those of moves and of acts.
use Rattle.std.proofs.Common.{ℕ, ◌≡◌, refl, ap, sym, ◌∙◌, append_assoc, subst, Bool, true, false, List, [], ◌∷◌, ◌++◌, Option, Some, None}
use Rattle.std.proofs.lemmas.List.{append-nil}
use Rattle.dr_model.specs.declared.event.Event.{Event}
use Rattle.dr_model.specs.declared.event.Event.TheVariants.{Volume as VolumeDefined, Ack, Mirrored, Sent, Flashed, Reverted, Set, Back, Blanked, Begin, Cut, Stopped, Frozen, Thawed, Recovered}
use Rattle.dr_model.specs.Control.{Fuse, Volume, World}
use Rattle.dr_model.specs.Relations.{in_order, rest, turned, given_up}
use Rattle.dr_model.specs.Moves.{Move, Land, Overwrite, LandBoth, Relate, Withdraw, Resync, Reverse, Restore, Release, Store, Mirror, Hold, Flash, Revert, told, told_in_stop, landed, target}
use Rattle.dr_model.specs.Carry.{Act, Make, OpenAttempt, Acknowledge, EndFreeze, EndThaw, EndRecovery, act}
use Rattle.dr_facts.proofs.Emits.{Tag, Defines, Mirrors, Sends, Flashes, Reverts, Sets, Backs, Blanks, Of, Lists, AllOf, of-append, blanked-onto, restored-onto, told-onto}
use Rattle.dr_laws_sound.proofs.Turns.{act-cases, Counts, after_act, server_of}

-- an act that makes such a move, or makes none
abbrev pub OkBy : (Move → Type 0) → World → Act → Type 0
OkBy M w (Make m) = M m
OkBy M w a = Unit {0}

-- kinds of events that take no write
abbrev takes_no_write : Tag → Bool
takes_no_write Defines = false
takes_no_write Mirrors = false
takes_no_write Sends = false
takes_no_write Flashes = false
takes_no_write Reverts = false
takes_no_write Sets = false
takes_no_write Backs = false
takes_no_write Blanks = false
takes_no_write k = true

pub at-place : (P : Event → Type 0) (es : List Event) (e : Event) (fs : List Event) → AllOf P (es ++ e ∷ fs) → P e
at-place P [] e fs all = all.0
at-place P (d ∷ es) e fs all = at-place P es e fs all.1

module _ (Q : ℕ → Type 0) where
  -- an event takes writes from such volumes alone
  abbrev pub TakesFrom : Event → Type 0
  TakesFrom (VolumeDefined x server tracks) = Q x
  TakesFrom (Mirrored n x) = Q x
  TakesFrom (Sent x q to) = Q to
  TakesFrom (Flashed s n a b c) = Q c
  TakesFrom (Reverted s n a c) = Q c
  TakesFrom (Set x from) = Q x
  TakesFrom (Back x q from) = Q x
  TakesFrom (Blanked x q) = Q x
  TakesFrom e = Unit {0}

  abbrev All : List Event → Type 0
  All = AllOf TakesFrom

  lists : Lists TakesFrom All
  lists = record { none = tt; more = λ e es one behind. (one, behind) }

  -- from one journal to a longer one such events were told
  pub record Told (old new : List Event) : Type 0 where
    pub more : List Event
    pub is : new ≡ old ++ more
    pub each : All more

  pub told-none : (es : List Event) → Told es es
  told-none es = record { more = []; is = sym (append-nil es); each = tt }

  pub told-more : (es fs more : List Event) → Told es fs → All more → Told es (fs ++ more)
  told-more es fs more t all = record { more = t.more ++ more; is = ap (λ gs. gs ++ more) t.is ∙ append_assoc es t.more more; each = of-append TakesFrom t.more more t.each all }

  pub told-on : (es fs gs : List Event) → Told es fs → Told fs gs → Told es gs
  told-on es fs gs first rest = subst (Told es) (sym rest.is) (told-more es fs rest.more first rest.each)

  -- ---- moves

  abbrev pub Takes : Move → Type 0
  Takes (Relate v s choices) = Q v
  Takes (Withdraw v) = Q v
  Takes (Resync v sequence) = Q v
  Takes (Reverse v left) = Q v
  Takes (Restore v t u) = Q v
  Takes (Release v t) = Q v
  Takes (Store v t u last) = Q v
  Takes (Mirror v t u w) = Q v
  Takes (Flash v u a s n) = Q v
  Takes (Revert v a s n) = Q v
  Takes m = Unit {0}

  takes-none : (e : Event) → Of takes_no_write e → TakesFrom e
  takes-none (VolumeDefined x server tracks) h = absurd cc
  takes-none (Mirrored n x) h = absurd cc
  takes-none (Sent x q to) h = absurd cc
  takes-none (Flashed s n a b c) h = absurd cc
  takes-none (Reverted s n a c) h = absurd cc
  takes-none (Set x from) h = absurd cc
  takes-none (Back x q from) h = absurd cc
  takes-none (Blanked x q) h = absurd cc
  takes-none e h = tt

  -- what a move tells, and other events behind it
  takes-onto : (m : Move) (u : Volume) (es : List Event) → Takes m → All es → All (told m u ++ es)
  takes-onto (Relate v s choices) u es q behind = (q, behind)
  takes-onto (Withdraw v) u es q behind = blanked-onto TakesFrom All lists v (in_order u.tracks (rest u.tracks u.fields.own)) es (λ t. q) behind
  takes-onto (Resync v sequence) u es q behind = (q, behind)
  takes-onto (Reverse v None) u es q behind = restored-onto TakesFrom All lists v u.fields.source u.tracks (turned u.fields).own es (λ t. q) tt behind
  takes-onto (Reverse v (Some a)) u es q behind = (tt, restored-onto TakesFrom All lists v u.fields.source u.tracks (turned u.fields).own es (λ t. q) tt behind)
  takes-onto (Restore v t from) u es q behind = (q, behind)
  takes-onto (Release v t) u es q behind = restored-onto TakesFrom All lists v u.fields.source u.tracks (given_up u.fields t).own es (λ t. q) tt behind
  takes-onto (Store v t from last) u es q behind = (q, behind)
  takes-onto (Mirror v t from n) u es q behind = (q, behind)
  takes-onto (Flash v from a s n) u es q behind = (q, behind)
  takes-onto (Revert v a s n) u es q behind = (q, behind)
  takes-onto m u es q behind = told-onto takes_no_write All (record { none = tt; more = λ e es none behind. (takes-none e none, behind) }) m u es refl behind

  stop-onto : (m : Move) (u : Volume) (es : List Event) → Takes m → All es → All (told_in_stop m u ++ es)
  stop-onto (Land n v t) u es q behind = behind
  stop-onto (Overwrite n v t) u es q behind = behind
  stop-onto (LandBoth n v t) u es q behind = behind
  stop-onto m u es q behind = takes-onto m u es q behind

  -- ---- acts

  module _ (old : List Event) where
    abbrev T : World → Type 0
    T w = Told old w.events

    done-told : (w : World) (a : Act) (f : Option Fuse) → OkBy Takes w a → T w → T (after_act w a f)
    done-told w (Make m) f ok t = let u : Volume = w.control.volume (target m) in told-more old w.events (told m u) t (subst All (append-nil (told m u)) (takes-onto m u [] ok tt))
    done-told w (OpenAttempt v s n) f ok t = told-more old w.events (Begin s n ∷ Cut s n v ∷ []) t (tt, (tt, tt))
    done-told w (Acknowledge n) f ok t = told-more old w.events (Ack n ∷ []) t (tt, tt)
    done-told w (EndFreeze l m) f ok t = told-more old w.events (Frozen l m ∷ []) t (tt, tt)
    done-told w (EndThaw l m) f ok t = told-more old w.events (Thawed l m ∷ []) t (tt, tt)
    done-told w (EndRecovery s n) f ok t = told-more old w.events (Recovered s n ∷ []) t (tt, tt)
    done-told w a f ok t = t

    stop-told : (w : World) (m : Move) (x n : ℕ) → Takes m → T w → Told old (w.events ++ (told_in_stop m (w.control.volume (target m)) ++ Stopped x n ∷ []))
    stop-told w m x n ok t = let u : Volume = w.control.volume (target m) in told-more old w.events (told_in_stop m u ++ Stopped x n ∷ []) t (stop-onto m u (Stopped x n ∷ []) ok (tt, tt))

    counts-told : (w : World) (a : Act) → OkBy Takes w a → T w → Counts w a (λ t. T t.0)
    counts-told w (Make m) ok t = λ f. stop-told w m (w.control.volume (target m)).server (landed m) ok t
    counts-told w (OpenAttempt v s n) ok t = λ f. stop-told w (Hold v s n true) (w.control.volume v).server 0 tt t
    counts-told w a ok t = tt

    pub act-told : (w : World) (a : Act) → OkBy Takes w a → T w → T (act w a).0
    act-told w a ok t = act-cases w a (λ t. T t.0) (λ d off. t) (λ f. done-told w a f ok t) (counts-told w a ok t) (λ d f. told-more old w.events (Stopped (server_of w a) 0 ∷ []) t (tt, tt))
