-- A master's orders are owed to servers of its members alone, and in Idle to none.
use Rattle.std.proofs.Common.{ℕ, suc, ◌≡◌, ◌≤◌, inl, refl, ap, sym, ◌∙◌, subst, Bool, true, false, cond, not, nat_eq, arith, List, [], ◌∷◌, length, Option, Some, option_map, slice_get, ◌==◌}
use Rattle.std.specs.List.{list_any, range_with_len}
use Rattle.std.proofs.lemmas.Bool.{eqb-true, eq-eqb}
use Rattle.std.proofs.lemmas.Option.{same_Some}
use Rattle.dr_ids.specs.declared.names.Member.{Member}
use Rattle.dr_ids.specs.declared.refusal.PhaseName.{PhaseName}
use Rattle.dr_ids.specs.declared.refusal.PhaseName.TheVariants as phase
use Rattle.dr_model.specs.Decisions.{Shown}
use Rattle.dr_model.specs.Phases as phases
use Rattle.dr_model.specs.Control.{Control}
use Rattle.dr_model.specs.Sessions.{Session, Mirror, servers_of}
use Rattle.dr_model.specs.Groups.{In, OwesServers, SessionFits}
use Rattle.dr_facts.proofs.Lists.{from-filter, any-some, some-any}
use Rattle.dr_laws_sessions.proofs.Sound.{mapped}
use Rattle.dr_logic.proofs.Truth.{false_true}

-- ---- lists of servers

among-in : (s : ℕ) (ks : List ℕ) → phases.is_among s ks ≡ true → In s ks
among-in s ks h = let r = some-any (λ k. k == s) ks h in subst (λ k. In k ks) (eqb-true r.0 s r.1.1) r.1.0

in-among : (s : ℕ) (ks : List ℕ) → In s ks → phases.is_among s ks ≡ true
in-among s ks here = any-some (λ k. k == s) ks s here (eq-eqb s s refl)

-- a list without a server has no others than it had, and no more
pub among-fewer : (s t : ℕ) (ks : List ℕ) → phases.is_among s (phases.without t ks) ≡ true → phases.is_among s ks ≡ true
among-fewer s t ks h = in-among s ks (from-filter (λ k. not (k == t)) ks s (among-in s (phases.without t ks) h)).0

pub without-few : (t : ℕ) (ks : List ℕ) → length (phases.without t ks) ≤ length ks
without-few t [] = omega arith
without-few t (n ∷ ks) = by (not (nat_eq n t)) (without-few t ks)
  where
    by : (b : Bool) → length (phases.without t ks) ≤ length ks → length (cond b (n ∷ phases.without t ks) (phases.without t ks)) ≤ suc (length ks)
    by true less = omega (arith, less)
    by false less = omega (arith, less)

-- ---- masters

first-few : (p : PhaseName) (servers : List ℕ) → length (phases.owed_first p servers) ≤ length servers
first-few phase.Idle servers = omega arith
first-few p servers = omega arith

first-among : (p : PhaseName) (servers : List ℕ) (s : ℕ) → phases.is_among s (phases.owed_first p servers) ≡ true → phases.is_among s servers ≡ true
first-among phase.Idle servers s h = absurd cc
first-among p servers s h = h

-- a phase begins, whichever
pub owes-enters : (p : PhaseName) (m : phases.Master) → OwesServers (phases.enters p m)
owes-enters p m = record { few = first-few p m.servers; among = first-among p m.servers; idle = λ is. ap (λ p. phases.owed_first p m.servers) is }

-- as a master is appointed
pub owes-idle : (servers : List ℕ) (last : ℕ) → OwesServers (phases.idle servers last)
owes-idle servers last = record { few = omega arith; among = λ s h. absurd cc; idle = λ is. refl }

-- a server has done its order
pub owes-left : (m : phases.Master) (server : ℕ) (rest : List ℕ) → phases.without server m.owed ≡ rest → OwesServers m → OwesServers (record m { owed = rest })
owes-left m server rest is old = record {
  few = let less = subst (λ ks. length ks ≤ length m.owed) is (without-few server m.owed) in let few = old.few in omega (arith, less, few);
  among = λ s h. old.among s (among-fewer s server m.owed (ap (phases.is_among s) is ∙ h));
  idle = λ idle. sym is ∙ ap (phases.without server) (old.idle idle);
}

pub owes-reported : (m : phases.Master) (server : ℕ) (xs : List Shown) → OwesServers m → OwesServers (phases.replied m server (phases.Reported xs))
owes-reported m server xs old = let left = owes-left m server (phases.without server m.owed) refl old in record { few = left.few; among = left.among; idle = left.idle }

-- its last number is another one
pub owes-raised : (m : phases.Master) (n : ℕ) → OwesServers m → OwesServers (phases.raised m n)
owes-raised m n old = record { few = old.few; among = old.among; idle = old.idle }

-- an Idle master has other servers
pub owes-servers : (m : phases.Master) (servers : List ℕ) → m.phase ≡ phase.Idle → OwesServers m → OwesServers (phases.with_servers m servers)
owes-servers m servers idle old = record {
  few = let none = ap (λ (ks : List ℕ). length ks) (old.idle idle) in omega (arith, none);
  among = λ s h. false_true (ap (phases.is_among s) (old.idle idle)) h;
  idle = old.idle;
}

-- what a session's master becomes
pub owes-mirrors : (g : Mirror → Mirror) (o : Option Mirror) → ((r : Mirror) → o ≡ Some r → OwesServers (g r).master) → (r : Mirror) → option_map g o ≡ Some r → OwesServers r.master
owes-mirrors g o each r h = let p = mapped g o r h in subst (λ (q : Mirror). OwesServers q.master) (sym p.is) (each p.from p.was)

-- ---- who is asked

-- the servers of which something is asked are the master's
pub asked-among : (p : PhaseName) (m : phases.Master) (s : ℕ) → OwesServers m → phases.is_among s (phases.asked_in p m) ≡ true → phases.is_among s m.servers ≡ true
asked-among phase.Idle m s owes h = h
asked-among p m s owes h = owes.among s h

first-in : (ks : List ℕ) (s : ℕ) → slice_get ks 0 ≡ Some s → phases.is_among s ks ≡ true
first-in [] s h = absurd cc
first-in (k ∷ ks) s h = in-among s (k ∷ ks) (inl (sym ((same_Some _ _ h))))

-- each of the servers of members is that of one of them
pub server-member : (ms : List Member) (s : ℕ) → phases.is_among s (servers_of ms) ≡ true → (m : Member) × (In m ms × (m.server.0 ≡ s))
unfolding phases.servers_where
server-member ms s h =
    let there = from-filter (λ k. list_any (λ (q : Member). k == q.server.0) ms) (range_with_len 0 8) s (among-in s (servers_of ms) h) in
    let r = some-any (λ (q : Member). s == q.server.0) ms there.1 in
    (r.0, (r.1.0, sym (eqb-true s r.0.server.0 r.1.1)))

-- the first server of which a master asks something is that of a member
pub first-asked : (k : Control) (x : Session) (r : Mirror) (s : ℕ) → SessionFits k x → x.mirror ≡ Some r → phases.first_asked r.master ≡ Some s → (m : Member) × (In m x.members × (m.server.0 ≡ s))
first-asked k x r s fits has first =
    let asked = asked-among r.master.phase r.master s (fits.owes r has) (first-in (phases.asked_in r.master.phase r.master) s first) in
    server-member x.members s (sym (ap (phases.is_among s) (fits.sound.servers r has)) ∙ asked)
