-- How an update ends, and how a plan is carried out, entry by entry: for the exact clauses of the functions that carry it out.
use Rattle.std.proofs.Common.{cond, not, ℕ, ◌≡◌, refl, ap, ◌∙◌, sym, subst, Bool, true, false, List, [], ◌∷◌, ◌++◌, Option, Some, None, is_some}
use Rattle.std.proofs.lemmas.List.{append-nil}
use Rattle.dr_ids.specs.declared.refusal.Refusal.{Refusal}
use Rattle.dr_ids.specs.declared.refusal.Refusal.TheVariants.{Stopped}
use Rattle.dr_model.specs.Refusals.{stopped}
use Rattle.dr_model.specs.declared.event.Event.{Event}
use Rattle.dr_model.specs.declared.said.Said.{Said}
use Rattle.dr_model.specs.declared.said.Said.TheVariants.{Refused}
use Rattle.dr_model.specs.Histories.{histories}
use Rattle.dr_model.specs.Layout.{Fields}
use Rattle.dr_model.specs.Control.{Control, Fuse, Volume, World}
use Rattle.dr_model.specs.Moves.{Move, Carried, target, next_fields, carried, keeps_staged, updated_keeping}
use Rattle.dr_model.specs.Carry.{Act, Make, Redo, Acknowledge, Next, Pass, Do, End, Entry, Turn, Outcome, act, turn, redo, redo_ended, acknowledged, carry, go, continue, check, carry_each, follow, Drop, dropped, Ended, ended, lower, pass, writes, gate_at, counts_by, spent, off, update_keeping, finished, cut_short}
use Rattle.dr_model.specs.Plans.{Plan, tables_plan, only_says, refuses, same}
use Rattle.dr_model.specs.Runs.{begun, finish, stop_place, answered, after_plan, said}

-- a fuse is armed after writes as it was before
pub lowered-armed : (n : ℕ) (f : Option Fuse) → is_some (lower n f) ≡ is_some f
lowered-armed n None = refl
lowered-armed n (Some f) = refl

-- where writes don't all pass, one is armed
pub cut-armed : (f : Option Fuse) (n : ℕ) → pass f n ≡ false → is_some f ≡ true
cut-armed None n cut = absurd cc
cut-armed (Some f) n cut = refl

-- How an update ends. Nothing else need be known of how many writes it has.
module _ (keeps : Bool) (w : World) (v : ℕ) (f : Fields) (c : Carried) where
  abbrev u : Volume
  u = w.control.volume v

  abbrev new : World
  new = updated_keeping keeps w v f c

  -- by what decides it
  abbrev ended_by : Bool → Bool → Bool → Ended
  ended_by on passes counts =
      cond (not on) (ended w true false)
      (cond passes (ended (spent new u.server (writes u f c)) false true)
      (cond counts (ended (off new u.server) true true) (ended (off w u.server) true false)))

  ended-by : update_keeping keeps w v f c ≡ ended_by (w.control.on u.server) (pass (w.control.fuse u.server) (writes u f c)) (counts_by (gate_at u f c) (w.control.fuse u.server) (not u.slot))
  unfolding update_keeping
  ended-by = refl

  cases_by : (P : Ended → Type 0) (on passes counts : Bool) → w.control.on u.server ≡ on → (passes ≡ false → is_some (w.control.fuse u.server) ≡ true)
      → (w.control.on u.server ≡ false → P (ended w true false))
      → (w.control.on u.server ≡ true → (n : ℕ) → P (ended (spent new u.server n) false true))
      → (w.control.on u.server ≡ true → is_some (w.control.fuse u.server) ≡ true → P (ended (off new u.server) true true))
      → (w.control.on u.server ≡ true → is_some (w.control.fuse u.server) ≡ true → P (ended (off w u.server) true false))
      → P (ended_by on passes counts)
  cases_by P false passes counts is armed o a b d = o is
  cases_by P true true counts is armed o a b d = a is _
  cases_by P true false true is armed o a b d = b is (armed refl)
  cases_by P true false false is armed o a b d = d is (armed refl)

  -- its server is off; all writes pass; the server, whose fuse was armed, stops, and it is done, or it isn't
  pub update-cases : (P : Ended → Type 0)
      → (w.control.on u.server ≡ false → P (ended w true false))
      → (w.control.on u.server ≡ true → (n : ℕ) → P (ended (spent new u.server n) false true))
      → (w.control.on u.server ≡ true → is_some (w.control.fuse u.server) ≡ true → P (ended (off new u.server) true true))
      → (w.control.on u.server ≡ true → is_some (w.control.fuse u.server) ≡ true → P (ended (off w u.server) true false))
      → P (update_keeping keeps w v f c)
  update-cases P o a b d =
      subst P (sym ended-by) (cases_by P _ _ _ refl (cut-armed (w.control.fuse u.server) (writes u f c)) o a b d)

-- and so a move
module _ (w : World) (m : Move) where
  abbrev row : Volume
  row = w.control.volume (target m)

  abbrev next : Fields
  next = next_fields m w.control.volume

  abbrev track : Carried
  track = carried m w.control.volume w.contents (histories w.events).write

  abbrev made : World
  made = updated_keeping (keeps_staged m) w (target m) next track

  abbrev turned_by : Bool → Ended → Turn
  turned_by on e = cond (not on) (w, None) (cond e.stopped (cut_short e.world m row e.done, Some row.server) (finished e.world m row, None))

  pub turn-ends : (P : Turn → Type 0)
      → (w.control.on row.server ≡ false → P (w, None))
      → (w.control.on row.server ≡ true → (n : ℕ) → P (finished (spent made row.server n) m row, None))
      → (w.control.on row.server ≡ true → is_some (w.control.fuse row.server) ≡ true → P (cut_short (off made row.server) m row true, Some row.server))
      → (w.control.on row.server ≡ true → is_some (w.control.fuse row.server) ≡ true → P (cut_short (off w row.server) m row false, Some row.server))
      → P (turn w m)
  unfolding turn
  turn-ends P o a b d =
      update-cases (keeps_staged m) w (target m) next track (λ e. P (turned_by (w.control.on row.server) e))
      (λ down. subst (λ on. P (turned_by on (ended w true false))) (sym down) (o down))
      (λ on n. subst (λ up. P (turned_by up (ended (spent made row.server n) false true))) (sym on) (a on n))
      (λ on armed. subst (λ up. P (turned_by up (ended (off made row.server) true true))) (sym on) (b on armed))
      (λ on armed. subst (λ up. P (turned_by up (ended (off w row.server) true false))) (sym on) (d on armed))

-- what an act is
pub act-move : (w : World) (m : Move) → act w (Make m) ≡ turn w m
unfolding act
act-move w m = refl

pub act-redo : (w : World) (v : ℕ) → act w (Redo v) ≡ redo_ended w v (redo w v)
unfolding act
act-redo w v = refl

pub act-acknowledge : (w : World) (n : ℕ) → act w (Acknowledge n) ≡ (acknowledged w n, None)
unfolding act
act-acknowledge w n = refl

-- no entry is left
pub carry-none : (w : World) → carry w [] ≡ (w, None)
unfolding carry
carry-none w = refl

-- the first entry, by what it comes to
pub carry-first : (w : World) (d : Entry) (ds : List Entry) (x : Next) → d w.control ≡ x → carry w (d ∷ ds) ≡ go w x (λ v. carry v ds)
unfolding carry
carry-first w d ds x is = ap (λ x. go w x (λ v. carry v ds)) is

pub carry-skips : (w : World) (d : Entry) (ds : List Entry) → d w.control ≡ Pass → carry w (d ∷ ds) ≡ carry w ds
carry-skips w d ds is = carry-first w d ds Pass is

pub carry-passed : (w : World) (ok : Control → Bool) (r : Refusal) (ds : List Entry) → ok w.control ≡ true → carry w (check ok r ∷ ds) ≡ carry w ds
carry-passed w ok r ds h = carry-first w (check ok r) ds Pass (ap (λ b. cond b Pass (End r)) h)

pub carry-refused : (w : World) (ok : Control → Bool) (r : Refusal) (ds : List Entry) → ok w.control ≡ false → carry w (check ok r ∷ ds) ≡ (w, Some r)
carry-refused w ok r ds h = carry-first w (check ok r) ds (End r) (ap (λ b. cond b Pass (End r)) h)

pub carry-goes : (w v : World) (d : Entry) (ds : List Entry) (a : Act) → d w.control ≡ Do a → act w a ≡ (v, None) → carry w (d ∷ ds) ≡ carry v ds
carry-goes w v d ds a is done = carry-first w d ds (Do a) is ∙ ap (λ (t : Turn). continue t.0 t.1 (λ v. carry v ds)) done

pub carry-stops : (w v : World) (d : Entry) (ds : List Entry) (a : Act) (s : ℕ) → d w.control ≡ Do a → act w a ≡ (v, Some s) → carry w (d ∷ ds) ≡ (v, Some (stopped s))
carry-stops w v d ds a s is stops = carry-first w d ds (Do a) is ∙ ap (λ (t : Turn). continue t.0 t.1 (λ v. carry v ds)) stops

-- entries that follow others
abbrev pub onward : Outcome → (World → Outcome) → Outcome
onward (w, None) next = next w
onward (w, Some r) next = (w, Some r)

continue-then : (t : Turn) (first rest : World → Outcome) (both : World → Outcome) → ((v : World) → both v ≡ onward (first v) rest) → continue t.0 t.1 both ≡ onward (continue t.0 t.1 first) rest
continue-then (w, None) first rest both each = each w
continue-then (w, Some s) first rest both each = refl

go-then : (w : World) (x : Next) (first rest both : World → Outcome) → ((v : World) → both v ≡ onward (first v) rest) → go w x both ≡ onward (go w x first) rest
go-then w Pass first rest both each = each w
go-then w (End r) first rest both each = refl
go-then w (Do a) first rest both each = continue-then (act w a) first rest both each

pub carry-append : (w : World) (first rest : List Entry) → carry w (first ++ rest) ≡ onward (carry w first) (λ v. carry v rest)
unfolding carry
carry-append w [] rest = refl
carry-append w (d ∷ first) rest = go-then w (d w.control) (λ v. carry v first) (λ v. carry v rest) (λ v. carry v (first ++ rest)) (λ v. carry-append v first rest)

-- a plan comes to what its entries come to
pub plan-ends : (w : World) (line : ℕ) (p : Plan) (o : Outcome) → carry (begun w p) p.entries ≡ o
    → after_plan w line p ≡ said (finish p (stop_place w p) o.0 o.1) line (answered p (finish p (stop_place w p) o.0 o.1).control o.1)
unfolding after_plan
plan-ends w line p o e = ap (λ (o : Outcome). said (finish p (stop_place w p) o.0 o.1) line (answered p (finish p (stop_place w p) o.0 o.1).control o.1)) e

-- one that changes tables and tells events
pub plan-tables : (w : World) (line : ℕ) (first : Control → Control) (told : List Event) (a : Said)
    → after_plan w line (tables_plan first told a) ≡ said (record w { control = first w.control; events = w.events ++ told }) line a
plan-tables w line first told a = plan-ends w line (tables_plan first told a) _ (carry-none (begun w (tables_plan first told a)))

-- an answer alone
pub plan-says : (w : World) (line : ℕ) (a : Said) → after_plan w line (only_says a) ≡ said w line a
plan-says w line a = plan-tables w line same [] a ∙ ap (λ es. said (record w { events = es }) line a) (append-nil w.events)

pub plan-refuses : (w : World) (line : ℕ) (r : Refusal) → after_plan w line (refuses r) ≡ said w line (Refused r)
plan-refuses w line r = plan-says w line (Refused r)

-- nothing follows a refusal where no entry does
follow-none : (w : World) (r : Refusal) (n : ℕ) (follows : ℕ → List Entry) → ((s : ℕ) → follows s ≡ []) → follow w r (follows n) ≡ w
follow-none w (Stopped s) n follows none = ap (carry_each w) (none n)
follow-none w _ n follows none = refl

-- a plan that a refusal ends
pub plan-fails : (w u : World) (line : ℕ) (p : Plan) (r : Refusal) → ((s : ℕ) → p.follows s ≡ []) → carry (begun w p) p.entries ≡ (u, Some r) → after_plan w line p ≡ said u line (Refused r)
plan-fails w u line p r none e = plan-ends w line p (u, Some r) e ∙ ap (λ v. said v line (Refused r)) (follow-none u r (stop_place w p) p.follows none)

-- a check that drops the write passes, or ends all
pub act-drop : (w : World) (n : ℕ) → act w (Drop n) ≡ (dropped w n, None)
unfolding act
act-drop w n = refl
