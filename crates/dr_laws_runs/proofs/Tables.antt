-- Drains leave the servers, and which sessions are defined.
use Rattle.std.proofs.Common.{ℕ, ◌≡◌, refl, ap, ◌∙◌, Bool, true, false, cond, List, [], ◌∷◌, Option, Some, None, nat_eq}
use Rattle.std.specs.Prelude.{is_some}
use Rattle.dr_ids.specs.declared.names.Member.{Member}
use Rattle.dr_ids.specs.declared.refusal.Refusal.{Refusal}
use Rattle.dr_ids.specs.declared.refusal.Refusal.TheVariants.{Stopped as StoppedIn, JournalFull}
use Rattle.dr_model.specs.Control.{Fuse, World}
use Rattle.dr_model.specs.Carry.{Act, Make, OpenAttempt, Redo, Acknowledge, Drop, EndFreeze, EndThaw, EndRecovery, Turn, Next, Pass, Do, End, Entry, Outcome, act, continue, go, carry, follow, carry_each}
use Rattle.dr_model.specs.Carried.{begun, finish, carried_out, stop_place}
use Rattle.dr_model.specs.PairEntries.{is_copying}
use Rattle.dr_model.specs.PlanParts.{Plan}
use Rattle.dr_model.specs.Plans.{drain_plan, has_room}
use Rattle.dr_model.specs.Sessions.{Session, session_in, changed, lost_since, with_mirror, mirror_lost_since, begun as begun_in}
use Rattle.dr_model.specs.Forming.{Part, Way, ends, goes_on, and_then, after_part, part_refusal, part, drains}
use Rattle.dr_laws_sound.proofs.Turns.{act-cases, Counts, after_act}

-- the servers are the same, and so is which sessions are defined
pub record SameTables (w u : World) : Type 0 where
  pub servers : u.control.servers ≡ w.control.servers
  pub defined : (s : ℕ) → is_some (session_in u.control.sessions s) ≡ is_some (session_in w.control.sessions s)

same-tables : (w : World) → SameTables w w
same-tables w = record { servers = refl; defined = λ s. refl }

then-tables : (w u v : World) → SameTables w u → SameTables u v → SameTables w v
then-tables w u v p q = record { servers = q.servers ∙ p.servers; defined = λ s. q.defined s ∙ p.defined s }

-- a session that is changed is defined as before
changed-defined : (i : ℕ) (f : Session → Session) → ((x : Session) → (f x).number ≡ x.number) → (ss : List Session) (s : ℕ) → is_some (session_in (changed i f ss) s) ≡ is_some (session_in ss s)
unfolding changed
changed-defined i f same [] s = refl
changed-defined i f same (x ∷ xs) s = by (nat_eq x.number i) (rest (nat_eq x.number s) (changed-defined i f same xs s))
  where
    rest : (b : Bool) → is_some (session_in (changed i f xs) s) ≡ is_some (session_in xs s) → is_some (cond b (Some x) (session_in (changed i f xs) s)) ≡ is_some (cond b (Some x) (session_in xs s))
    rest true e = refl
    rest false e = e

    first : (b : Bool) → is_some (cond b (Some (f x)) (session_in xs s)) ≡ is_some (cond b (Some x) (session_in xs s))
    first true = refl
    first false = refl

    by : (b : Bool) → is_some (session_in (x ∷ changed i f xs) s) ≡ is_some (session_in (x ∷ xs) s) → is_some (session_in (cond b (f x ∷ xs) (x ∷ changed i f xs)) s) ≡ is_some (session_in (x ∷ xs) s)
    by true e = ap (λ n. is_some (cond (nat_eq n s) (Some (f x)) (session_in xs s))) (same x) ∙ first (nat_eq x.number s)
    by false e = e

-- and so are all where masters are lost
lost-defined : (before after : ℕ → Bool) (ss : List Session) (s : ℕ) → is_some (session_in (lost_since before after ss) s) ≡ is_some (session_in ss s)
lost-defined before after [] s = refl
lost-defined before after (x ∷ xs) s = by (nat_eq x.number s) (lost-defined before after xs s)
  where
    y : Session
    y = with_mirror (mirror_lost_since before after) x

    by : (b : Bool) → is_some (session_in (lost_since before after xs) s) ≡ is_some (session_in xs s) → is_some (cond b (Some y) (session_in (lost_since before after xs) s)) ≡ is_some (cond b (Some x) (session_in xs s))
    by true rest = refl
    by false rest = rest

opens : (w u : World) (i : ℕ) → SameTables w u → SameTables w (record u { control = record u.control { sessions = changed i begun_in u.control.sessions } })
opens w u i p = record { servers = p.servers; defined = λ s. changed-defined i begun_in (λ x. refl) u.control.sessions s ∙ p.defined s }

-- ---- acts and entries

done-tables : (w : World) (a : Act) (f : Option Fuse) → SameTables w (after_act w a f)
done-tables w (Make m) f = record { servers = refl; defined = λ s. refl }
done-tables w (OpenAttempt v i n) f = record { servers = refl; defined = changed-defined i begun_in (λ x. refl) w.control.sessions }
done-tables w (Redo v) f = record { servers = refl; defined = λ s. refl }
done-tables w (Acknowledge n) f = record { servers = refl; defined = λ s. refl }
done-tables w (Drop n) f = record { servers = refl; defined = λ s. refl }
done-tables w (EndFreeze l m) f = record { servers = refl; defined = λ s. refl }
done-tables w (EndThaw l m) f = record { servers = refl; defined = λ s. refl }
done-tables w (EndRecovery i n) f = record { servers = refl; defined = λ s. refl }

counts-tables : (w : World) (a : Act) → Counts w a (λ t. SameTables w t.0)
counts-tables w (Make m) = λ f. record { servers = refl; defined = λ s. refl }
counts-tables w (OpenAttempt v i n) = λ f. record { servers = refl; defined = changed-defined i begun_in (λ x. refl) w.control.sessions }
counts-tables w a = tt

act-tables : (w : World) (a : Act) → SameTables w (act w a).0
act-tables w a = act-cases w a (λ (t : Turn). SameTables w t.0) (λ d off. same-tables w) (done-tables w a) (counts-tables w a) (λ d f. record { servers = refl; defined = λ s. refl })

continue-tables : (w : World) (t : Turn) (next : World → Outcome) → SameTables w t.0 → ((v : World) → SameTables v (next v).0) → SameTables w (continue t.0 t.1 next).0
continue-tables w (v, None) next first rest = then-tables w v _ first (rest v)
continue-tables w (v, Some s) next first rest = first

go-tables : (w : World) (x : Next) (next : World → Outcome) → ((v : World) → SameTables v (next v).0) → SameTables w (go w x next).0
go-tables w Pass next rest = rest w
go-tables w (End r) next rest = same-tables w
go-tables w (Do a) next rest = continue-tables w (act w a) next (act-tables w a) rest

carry-tables : (w : World) (ds : List Entry) → SameTables w (carry w ds).0
unfolding carry
carry-tables w [] = same-tables w
carry-tables w (d ∷ ds) = go-tables w (d w.control) (λ v. carry v ds) (λ v. carry-tables v ds)

each-tables : (w : World) (ds : List Entry) → SameTables w (carry_each w ds)
each-tables w [] = same-tables w
each-tables w (d ∷ ds) = then-tables w (carry w (d ∷ [])).0 _ (carry-tables w (d ∷ [])) (each-tables (carry w (d ∷ [])).0 ds)

follow-tables : (w : World) (r : Refusal) (follows : List Entry) → SameTables w (follow w r follows)
follow-tables w (StoppedIn s) follows = each-tables w follows
follow-tables w r follows = same-tables w

-- ---- a drain

module _ (w : World) (a : ℕ) where
  abbrev p : Plan
  p = drain_plan w.control a None

  finished : (n : ℕ) (u : World) (r : Option Refusal) → SameTables u (finish p n u r)
  finished n u None = record { servers = refl; defined = λ s. refl }
  finished n u (Some r) = follow-tables u r (p.follows n)

  carried-tables : SameTables w (carried_out w p).0
  carried-tables =
      let b : World = begun w p in
      let o : Outcome = carry b p.entries in
      then-tables w b _ (record { servers = refl; defined = λ s. refl }) (then-tables b o.0 _ (carry-tables b p.entries) (finished (stop_place w p) o.0 o.1))

  drained-tables : SameTables w (after_part w p)
  drained-tables =
      let u : World = (carried_out w p).0 in
      record { servers = carried-tables.servers; defined = λ s. lost-defined w.control.on u.control.on u.control.sessions s ∙ carried-tables.defined s }

  part-tables : SameTables w (part w p).world
  part-tables = by (has_room w.events)
    where
      by : (b : Bool) → SameTables w (cond b (record { parts = record { world = w; plan = p } ∷ []; world = after_part w p; refusal = part_refusal w p }) (ends w JournalFull)).world
      by true = drained-tables
      by false = same-tables w

-- and drains of members
goes-tables : (w u : World) (xs : List Part) (r : Option Refusal) (more : World → Way) → SameTables w u → ((v : World) → SameTables v (more v).world) → SameTables w (goes_on xs u r more).world
goes-tables w u xs None more first rest = then-tables w u _ first (rest u)
goes-tables w u xs (Some r) more first rest = first

pub drains-tables : (w : World) (ms : List Member) → SameTables w (drains w ms).world
unfolding drains
drains-tables w [] = same-tables w
drains-tables w (m ∷ ms) = by (is_copying m.a.0 w.control) (λ v. drains-tables v ms)
  where
    x : Way
    x = part w (drain_plan w.control m.a.0 None)

    by : (b : Bool) → ((v : World) → SameTables v (drains v ms).world) → SameTables w (cond b (and_then x (λ v. drains v ms)) (drains w ms)).world
    by true rest = goes-tables w x.world x.parts x.refusal (λ v. drains v ms) (part-tables w m.a.0) rest
    by false rest = rest w
