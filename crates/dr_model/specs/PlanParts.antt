-- What plans of steps are made of: tables, entries and answers; and what needs a server, a logical subsystem or a session that a
-- line names.
use Rattle.std.specs.Prelude.{ℕ, Bool, true, List, [], take, Option, Some, None, option_map}
use Rattle.std.specs.List.{position}
use Rattle.std.specs.Str.{bytes_eq}
use Rattle.dr_ids.specs.declared.refusal.Refusal.{Refusal}
use Rattle.dr_ids.specs.declared.refusal.Kind.TheVariants.{Server as OfServer, Lss as OfLss, Session as OfSession}
use Rattle.dr_model.specs.Refusals.{unknown}
use Rattle.dr_model.specs.Control.{Control, is_volume}
use Rattle.dr_model.specs.Carry.{Entry}
use Rattle.dr_model.specs.Entries.{is_at, first_of}
use Rattle.dr_model.specs.Sessions.{Session}
use Rattle.dr_model.specs.declared.said.Said.{Said}
use Rattle.dr_model.specs.declared.said.Said.TheVariants.{Refused}
use Rattle.dr_model.specs.declared.event.Event.{Event}
use Rattle.dr_model.specs.declared.step.Name.{Name}

-- What a step comes to: the tables as it begins, what the journal is told then, the entries, those that follow where a
-- server stops in them, by how many entries came before, the tables where it ended well, and what it says then, by the last control state.
pub record Plan : Type 0 where
  pub first : Control → Control
  pub told : List Event
  pub entries : List Entry
  pub follows : ℕ → List Entry
  pub last : Control → Control
  pub says : Control → Said

-- the tables stay
abbrev pub same : Control → Control
same k = k

-- a stop ends the step
abbrev pub none_follow : ℕ → List Entry
none_follow n = []

-- an answer that looks at nothing
abbrev pub always : Said → Control → Said
always said k = said

-- a step that changes tables and tells events, and does nothing else
abbrev pub tables_plan : (Control → Control) → List Event → Said → Plan
tables_plan first told said = record { first = first; told = told; entries = []; follows = none_follow; last = same; says = always said }

-- nothing but an answer
abbrev pub only_says : Said → Plan
only_says said = tables_plan same [] said

-- a plan of nothing but a refusal
abbrev pub refuses : Refusal → Plan
refuses r = only_says (Refused r)

-- the bytes of a name
abbrev pub name_bytes : Name → List ℕ
name_bytes n = take n.len n.bytes

-- the number of a server, by its name
abbrev pub server_named : Control → List ℕ → Option ℕ
server_named k name = position (bytes_eq name) k.servers

-- what needs the server that a name gave, if there is one
abbrev pub on_named : Option ℕ → (ℕ → Plan) → Plan
on_named None plan = refuses (unknown OfServer)
on_named (Some s) plan = plan s

-- what needs a server of that name
abbrev pub on_server : Control → Name → (ℕ → Plan) → Plan
on_server k name plan = on_named (server_named k (name_bytes name)) plan

-- a plan that is refused where there is a refusal
abbrev pub unless : Option Refusal → Plan → Plan
unless None p = p
unless (Some r) p = refuses r

-- a plan of entries alone
abbrev pub entries_plan : List Entry → Said → Plan
entries_plan entries said = record { first = same; told = []; entries = entries; follows = none_follow; last = same; says = always said }

-- a name, where one is given, is that of the volume's server
abbrev pub is_owner : Option Name → ℕ → Control → Bool
is_owner None v k = true
is_owner (Some name) v k = is_at (server_named k (name_bytes name)) (k.volume v).server

-- volume v is defined
abbrev pub is_defined : ℕ → Control → Bool
is_defined v k = is_volume k v

-- a name, where one is given, is that of the server
abbrev pub is_named : Option Name → ℕ → Control → Bool
is_named None s k = true
is_named (Some name) s k = is_at (server_named k (name_bytes name)) s

-- the server of the volumes of a logical subsystem
abbrev pub owner_of : Control → ℕ → Option ℕ
owner_of k lss = option_map (λ v. (k.volume v).server) (first_of k lss)

-- what needs the server of a logical subsystem, if it has one
abbrev pub on_owner : Option ℕ → (ℕ → Plan) → Plan
on_owner None plan = refuses (unknown OfLss)
on_owner (Some s) plan = plan s

-- what needs the session that a number gives, if it is defined
abbrev pub on_session : Option Session → (Session → Plan) → Plan
on_session None plan = refuses (unknown OfSession)
on_session (Some x) plan = plan x
