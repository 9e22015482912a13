-- Moves carried out on servers that may stop within any device write. No plan says what a stop leaves: this does.
use Rattle.std.specs.Prelude.{ℕ, ◌+◌, ◌-◌, Bool, true, false, not, List, [], ◌∷◌, ◌++◌, filter, length, Option, Some, None, is_some, nat_eq, nat_lt, nat_le, if◌then◌else◌}
use Rattle.dr_logic.specs.Tables.{at}
use Rattle.dr_ids.specs.Paths.{without_path}
use Rattle.dr_ids.specs.declared.refusal.Refusal.{Refusal}
use Rattle.dr_ids.specs.declared.refusal.Refusal.TheVariants.{Stopped as StoppedIn}
use Rattle.dr_model.specs.Refusals.{stopped}
use Rattle.dr_model.specs.Histories.{histories}
use Rattle.dr_model.specs.Layout.{Fields, Entries, entry_taken, byte, bit}
use Rattle.dr_model.specs.Control.{Control, Fuse, Volume, World}
use Rattle.dr_model.specs.Sessions.{changed, begun}
use Rattle.dr_model.specs.Moves.{Move, Hold, Carried, target, next_fields, carried, told, told_in_stop, landed, settled, settled_in_stop, keeps_staged, updated_keeping, is_other}
use Rattle.dr_model.specs.declared.event.Event.TheVariants.{Ack, Stopped, Frozen, Thawed, Recovered}

-- the staged track gives way to another that is carried
abbrev pub gives_way : Option ℕ → Carried → Bool
gives_way (Some t) (Some c) = not (nat_eq t c.0)
gives_way _ _ = false

-- a move saves a track: it takes an entry into use
abbrev pub saves : Entries → Entries → Bool
saves old next = is_some (entry_taken old next)

-- how many blocks a move writes before the gate's, by the volume as it was, its next fields and what is carried: a side block if it
-- saves a track, the staged track's own block if that gives way, then the six of the slot that isn't chosen
abbrev pub gate_at : Volume → Fields → Carried → ℕ
gate_at v f c = (if gives_way v.staged c then 7 else 6) + (if saves v.fields.entries f.entries then 1 else 0)

-- a move writes these blocks, and then the gate
abbrev pub writes : Volume → Fields → Carried → ℕ
writes v f c = gate_at v f c + 1

-- a fuse after n more writes
abbrev pub lowered : ℕ → Fuse → Fuse
lowered n f = record f { after = f.after - n }

-- the fuse of a server after n more of its writes, if one is armed
abbrev pub lower : ℕ → Option Fuse → Option Fuse
lower n None = None
lower n (Some f) = Some (lowered n f)

-- two truth values are the same
abbrev pub equal : Bool → Bool → Bool
equal true b = b
equal false b = not b

-- a gate whose write was cut short chooses the new slot
abbrev pub gate_turned : Option (List ℕ) → Bool → Bool
gate_turned None new = false
gate_turned (Some bytes) new = equal (bit (byte bytes 0) 0) new

-- a move that stops in its write number n, counted from 0, counts as done exactly in the gate's write, where what stands there
-- chooses the new slot
abbrev pub counts : ℕ → ℕ → Option (List ℕ) → Bool → Bool
counts gate n torn new = if nat_eq n gate then gate_turned torn new else false

-- n writes of a server pass
abbrev pub pass : Option Fuse → ℕ → Bool
pass None n = true
pass (Some f) n = nat_le n f.after

-- where not all writes pass: a move with so many before the gate's, of a volume whose new slot is that one, counts as done
abbrev pub counts_by : ℕ → Option Fuse → Bool → Bool
counts_by gate None new = false
counts_by gate (Some f) new = counts gate f.after f.torn new

-- a server that stopped in a write: off, and its fuse at 0
abbrev pub burnt : Option Fuse → Option Fuse
burnt None = None
burnt (Some f) = Some (record f { after = 0 })

-- server s stopped within a write: it is off, and its fuse stands at 0
abbrev pub off : World → ℕ → World
off w s = record w { control = record w.control { on = at w.control.on s false; fuse = at w.control.fuse s (burnt (w.control.fuse s)) } }

-- n writes of server s were done
abbrev pub spent : World → ℕ → ℕ → World
spent w s n = record w { control = record w.control { fuse = at w.control.fuse s (lower n (w.control.fuse s)) } }

-- how an update of a volume ends: the world, whether it was stopped, and whether it counts as done
pub record Ended : Type 0 where
  pub world : World
  pub stopped : Bool
  pub done : Bool

-- how an update ended, by its parts
abbrev pub ended : World → Bool → Bool → Ended
ended w stopped done = record { world = w; stopped = stopped; done = done }

-- A volume is given these fields and this track, and keeps what is staged, or doesn't: nothing is done on a server that is off, all of
-- it where the writes pass; else the server stops, and it is done or not as the write that is cut short says.
unfoldable pub update_keeping : Bool → World → ℕ → Fields → Carried → Ended
update_keeping keeps w v f c =
    let u : Volume = w.control.volume v in
    let fuse : Option Fuse = w.control.fuse u.server in
    if not (w.control.on u.server) then ended w true false
    else if pass fuse (writes u f c) then ended (spent (updated_keeping keeps w v f c) u.server (writes u f c)) false true
    else if counts_by (gate_at u f c) fuse (not u.slot) then ended (off (updated_keeping keeps w v f c) u.server) true true
    else ended (off w u.server) true false

-- by a move of any kind but the one that leaves nothing staged
abbrev pub update : World → ℕ → Fields → Carried → Ended
update = update_keeping true

-- a world in which a move of a volume that was so is done
abbrev pub finished : World → Move → Volume → World
finished w m u = record w { control = record w.control { pending = settled m w.control.pending }; events = w.events ++ told m u }

-- and one in which the server stopped within the move, which counts as done or doesn't
abbrev pub cut_short : World → Move → Volume → Bool → World
cut_short w m u true = record w { control = record w.control { pending = settled_in_stop m w.control.pending }; events = w.events ++ (told_in_stop m u ++ Stopped u.server (landed m) ∷ []) }
cut_short w m u false = record w { events = w.events ++ Stopped u.server 0 ∷ [] }

-- a world, and the server that stopped, if one did
abbrev pub Turn : Type 0
Turn = World × Option ℕ

-- a move by how its update ended: nothing on a server that is off, else cut short or done, with what follows in tables and journal
abbrev pub turn_ended : World → Move → Ended → Turn
turn_ended w m e =
    let u : Volume = w.control.volume (target m) in
    if not (w.control.on u.server) then (w, None)
    else if e.stopped then (cut_short e.world m u e.done, Some u.server)
    else (finished e.world m u, None)

-- One move, until a write is cut short. No plan comes to a move whose server is off: there nothing would be done.
unfoldable pub turn : World → Move → Turn
turn w m =
    turn_ended w m (update_keeping (keeps_staged m) w (target m) (next_fields m w.control.volume) (carried m w.control.volume w.contents (histories w.events).write))

-- a volume's staged track is written to its own place: one write, where a track is staged; nothing that is read changes
abbrev pub redo_writes : Option ℕ → ℕ
redo_writes None = 0
redo_writes (Some t) = 1

-- the staged track of volume v is written to its own place; on a server that is off nothing is done, and nothing that is read
-- changes
unfoldable pub redo : World → ℕ → Ended
redo w v =
    let s : ℕ = (w.control.volume v).server in
    let fuse : Option Fuse = w.control.fuse s in
    let n : ℕ = redo_writes (w.control.volume v).staged in
    if not (w.control.on s) then ended w true false
    else if pass fuse n then ended (spent w s n) false true
    else ended (off w s) true false

-- and where the server stops in it, the journal is told
abbrev pub redo_ended : World → ℕ → Ended → Turn
redo_ended w v e =
    let s : ℕ = (w.control.volume v).server in
    if not (w.control.on s) then (w, None)
    else if e.stopped then (record e.world { events = w.events ++ Stopped s 0 ∷ [] }, Some s)
    else (e.world, None)

-- a write that landed in a stop is acknowledged: it is pending no more, and the journal is told
abbrev pub acknowledged : World → ℕ → World
acknowledged w n = record w {
  control = record w.control { pending = filter (is_other n) w.control.pending };
  events = w.events ++ Ack n ∷ [];
}

-- a pending write that is refused for good is pending no more
abbrev pub dropped : World → ℕ → World
dropped w n = record w { control = record w.control { pending = filter (is_other n) w.control.pending } }

-- a freeze ends: the path from one logical subsystem to another is removed
abbrev pub frozen : World → ℕ → ℕ → World
frozen w l m = record w {
  control = record w.control { paths = without_path w.control.paths l m };
  events = w.events ++ Frozen l m ∷ [];
}

-- a thaw ends
abbrev pub thawed : World → ℕ → ℕ → World
thawed w l m = record w { events = w.events ++ Thawed l m ∷ [] }

-- a recovery of session s ends, with this group; 0 for none
abbrev pub recovered : World → ℕ → ℕ → World
recovered w s n = record w { events = w.events ++ Recovered s n ∷ [] }

-- the first hold of an attempt: where it counts as done, so that the volume's other slot is chosen, the session's next attempt
-- has begun
abbrev pub attempt_begun : World → ℕ → World
attempt_begun w s = record w { control = record w.control { sessions = changed s begun w.control.sessions } }

-- a hold that begins an attempt: it has begun where the volume's slot says that the hold counts as done, also in a stop
abbrev pub opened_by : World → ℕ → ℕ → Turn → Turn
opened_by w v s t = (if equal (w.control.volume v).slot (t.0.control.volume v).slot then t.0 else attempt_begun t.0 s, t.1)

-- What a step does in turn: a move; a move that begins an attempt of a session; a volume's staged track is written to its place;
-- and what takes no device write: a write that landed in a stop is acknowledged, a pending write is dropped, a freeze, a thaw or a
-- recovery ends.
pub data Act : Type 0 where
  Make : Move → Act
  OpenAttempt : (v s n : ℕ) → Act
  Redo : (v : ℕ) → Act
  Acknowledge : (w : ℕ) → Act
  Drop : (w : ℕ) → Act
  EndFreeze : (l m : ℕ) → Act
  EndThaw : (l m : ℕ) → Act
  EndRecovery : (s n : ℕ) → Act

-- one act carried out: the world, and the server that stopped, if one did
unfoldable pub act : World → Act → Turn
act w (Make m) = turn w m
act w (OpenAttempt v s n) = opened_by w v s (turn w (Hold v s n true))
act w (Redo v) = redo_ended w v (redo w v)
act w (Acknowledge n) = (acknowledged w n, None)
act w (Drop n) = (dropped w n, None)
act w (EndFreeze l m) = (frozen w l m, None)
act w (EndThaw l m) = (thawed w l m, None)
act w (EndRecovery s n) = (recovered w s n, None)

-- What an entry of a plan comes to: nothing, an act, or the plan ends with a refusal.
pub data Next : Type 0 where
  Pass : Next
  Do : Act → Next
  End : Refusal → Next

-- it is decided in the state that the entries before it left
abbrev pub Entry : Type 0
Entry = Control → Next

-- how a plan, or a part of it, ends: the world, and the refusal, if one; that a server stopped is a refusal too
abbrev pub Outcome : Type 0
Outcome = World × Option Refusal

-- where no server stopped, what comes next
abbrev pub continue : World → Option ℕ → (World → Outcome) → Outcome
continue w None next = next w
continue w (Some s) next = (w, Some (stopped s))

-- what an entry came to: the next one comes, the plan ends with a refusal, or an act is carried out
abbrev pub go : World → Next → (World → Outcome) → Outcome
go w Pass next = next w
go w (End r) next = (w, Some r)
go w (Do a) next = continue (act w a).0 (act w a).1 next

-- entries in order, until one ends the plan or a server stops
unfoldable pub carry : World → List Entry → Outcome
carry w [] = (w, None)
carry w (d ∷ ds) = go w (d w.control) (λ v. carry v ds)

-- how many entries came before the one in which a server stopped: told where it stopped in none, what entries came to and what is left
abbrev pub stopped_turn : Turn → (World → ℕ) → ℕ
stopped_turn (w, None) later = later w
stopped_turn (w, Some s) later = 0

abbrev pub stopped_next : World → Next → (World → ℕ) → ℕ
stopped_next w Pass later = later w
stopped_next w (End r) later = 0
stopped_next w (Do a) later = stopped_turn (act w a) later

unfoldable pub stopped_at : World → List Entry → ℕ
stopped_at w [] = 0
stopped_at w (d ∷ ds) = stopped_next w (d w.control) (λ v. stopped_at v ds + 1)

-- a move that comes in any case
abbrev pub now : Move → Entry
now m k = Do (Make m)

-- what doesn't pass ends the plan
abbrev pub check : (Control → Bool) → Refusal → Entry
check ok r k = if ok k then Pass else End r

-- entries that come one by one, whether a server stopped in the one before or not
abbrev pub carry_each : World → List Entry → World
carry_each w [] = w
carry_each w (d ∷ ds) = carry_each (carry w (d ∷ [])).0 ds

-- Where a server stopped, what follows its stop is carried out on the others, each entry also where a further server stopped in
-- one before; the server that stopped first is the one that counts.
abbrev pub follow : World → Refusal → List Entry → World
follow w (StoppedIn s) follows = carry_each w follows
follow w _ follows = w

-- A stretch of a plan: entries, and what follows where a server stops in them.
pub record Stretch : Type 0 where
  pub entries : List Entry
  pub follows : List Entry

-- the entries of stretches, one after another
abbrev pub entries_in : List Stretch → List Entry
entries_in [] = []
entries_in (s ∷ []) = s.entries
entries_in (s ∷ ss) = s.entries ++ entries_in ss

-- what follows where a server stopped after that many entries of stretches: that of the stretch in which it did
abbrev pub follows_at : List Stretch → ℕ → List Entry
follows_at [] n = []
follows_at (s ∷ []) n = s.follows
follows_at (s ∷ ss) n = if nat_lt n (length s.entries) then s.follows else follows_at ss (n - length s.entries)
