-- What stays true of a session by itself, and of its master.
use Rattle.std.proofs.Common.{ℕ, zero, suc, ◌≡◌, ◌≢◌, ◌<◌, ◌⊎◌, inl, inr, refl, ap, sym, ◌∙◌, subst, max, ◌+◌, Bool, true, cond, not, ◌||◌, nat_eq, nat_lt, List, [], ◌∷◌, ◌++◌, map, Option, None, Some, option_map, arith, ◌==◌}
use Rattle.std.specs.List.{list_any, range_with_len}
use Rattle.std.proofs.lemmas.Bool.{ltb-true, eq-eqb, ne_eqb}
use Rattle.std.proofs.lemmas.Bool.Decides.{eqb_tells}
use Rattle.std.proofs.lemmas.Option.{same_Some}
use Rattle.dr_ids.specs.declared.names.Member.{Member}
use Rattle.dr_ids.specs.declared.refusal.PhaseName.{PhaseName}
use Rattle.dr_ids.specs.declared.refusal.PhaseName.TheVariants as phase
use Rattle.dr_ids.specs.declared.refusal.Refusal.{Refusal}
use Rattle.dr_model.specs.Phases as phases
use Rattle.dr_model.specs.Tables.{Once}
use Rattle.dr_model.specs.Control.{Control}
use Rattle.dr_model.specs.Sessions.{Session, Mirror, IsSoundSession, servers_of, all_low, with_mirror, with_members, raised, begun, mirrored_by, unmirrored, busy, unless_idle, drop_refusal, new_session}
use Rattle.dr_model.specs.Groups.{In, MemberStands, MasterStands, OwesServers, SessionFits}
use Rattle.dr_laws_sessions.specs.Frames.{Quiet}
use Rattle.dr_facts.proofs.Lists.{in-joined, to-filter, any-some, all-each, each-all}
use Rattle.dr_facts.proofs.Tables.{IsOrNot}
use Rattle.dr_logic.proofs.Options.{none_some}

-- ---- servers

among-eight : (s : ℕ) → s < 8 → In s (range_with_len 0 8)
among-eight zero low = inl refl
among-eight (suc zero) low = inr (inl refl)
among-eight (suc (suc zero)) low = inr (inr (inl refl))
among-eight (suc (suc (suc zero))) low = inr (inr (inr (inl refl)))
among-eight (suc (suc (suc (suc zero)))) low = inr (inr (inr (inr (inl refl))))
among-eight (suc (suc (suc (suc (suc zero))))) low = inr (inr (inr (inr (inr (inl refl)))))
among-eight (suc (suc (suc (suc (suc (suc zero)))))) low = inr (inr (inr (inr (inr (inr (inl refl))))))
among-eight (suc (suc (suc (suc (suc (suc (suc zero))))))) low = inr (inr (inr (inr (inr (inr (inr (inl refl)))))))
among-eight (suc (suc (suc (suc (suc (suc (suc (suc s)))))))) low = absurd (omega arith)

in-servers : (p : ℕ → Bool) (s : ℕ) → s < 8 → p s ≡ true → In s (phases.servers_where p)
unfolding phases.servers_where
in-servers p s low passes = to-filter p (range_with_len 0 8) s (among-eight s low) passes

-- the server of a member is one of the session's
pub among-servers : (x : Session) (m : Member) → IsSoundSession x → In m x.members → phases.is_among m.server.0 (servers_of x.members) ≡ true
among-servers x m sound here =
    let low : nat_lt m.server.0 8 ≡ true = all-each (λ (q : Member). nat_lt q.server.0 8) x.members m sound.low here in
    let listed = in-servers (λ k. list_any (λ (q : Member). k == q.server.0) x.members) m.server.0 (ltb-true m.server.0 8 low) (any-some (λ (q : Member). m.server.0 == q.server.0) x.members m here (eq-eqb m.server.0 m.server.0 refl)) in
    any-some (λ k. k == m.server.0) (servers_of x.members) m.server.0 listed (eq-eqb m.server.0 m.server.0 refl)

-- a list without a server has the others
pub among-without : (s t : ℕ) (ks : List ℕ) → s ≢ t → phases.is_among s (phases.without t ks) ≡ phases.is_among s ks
among-without s t [] ne = refl
among-without s t (n ∷ ks) ne = by (eqb_tells n t) (among-without s t ks ne)
  where
    by : IsOrNot n t → phases.is_among s (phases.without t ks) ≡ phases.is_among s ks → phases.is_among s (cond (not (nat_eq n t)) (n ∷ phases.without t ks) (phases.without t ks)) ≡ phases.is_among s (n ∷ ks)
    by (inl is) again =
        ap (λ b. phases.is_among s (cond (not b) (n ∷ phases.without t ks) (phases.without t ks))) is.0
        ∙ (again ∙ sym (ap (λ b. b || phases.is_among s ks) (ne_eqb n s (λ e. ne (sym e ∙ is.1)))))
    by (inr other) again = ap (λ b. phases.is_among s (cond (not b) (n ∷ phases.without t ks) (phases.without t ks))) other.0 ∙ ap (λ b. (n == s) || b) again

-- ---- masters

pub record Mapped (g : Mirror → Mirror) (o : Option Mirror) (r : Mirror) : Type 0 where
  pub from : Mirror
  pub was : o ≡ Some from
  pub is : r ≡ g from

pub mapped : (g : Mirror → Mirror) (o : Option Mirror) (r : Mirror) → option_map g o ≡ Some r → Mapped g o r
mapped g None r h = absurd cc
mapped g (Some q) r h = record { from = q; was = refl; is = sym ((same_Some _ _ h)) }

-- a master that stays on its server, in a phase
pub master-turns : (k : Control) (g : Mirror → Mirror) (o : Option Mirror) → ((r : Mirror) → o ≡ Some r → MasterStands k (g r)) → (r : Mirror) → option_map g o ≡ Some r → MasterStands k r
master-turns k g o each r h = let p = mapped g o r h in subst (MasterStands k) (sym p.is) (each p.from p.was)

pub master-with : (k : Control) (r : Mirror) (m : phases.Master) → MasterStands k r → m.phase ≢ phase.None → MasterStands k (record r { master = m })
master-with k r m stands some = record { volume = stands.volume; defined = stands.defined; server = stands.server; in_phase = some }

-- a master that isn't changed in its servers and its number
pub sound-mirror : (g : Mirror → Mirror) (x : Session) → ((r : Mirror) → ((g r).master.servers ≡ r.master.servers) × ((g r).master.number ≡ r.master.number)) → IsSoundSession x → IsSoundSession (with_mirror g x)
sound-mirror g x same sound = record {
  low = sound.low;
  servers = λ r h. let p = mapped g x.mirror r h in ap (λ (q : Mirror). q.master.servers) p.is ∙ ((same p.from).0 ∙ sound.servers p.from p.was);
  number = λ r h. let p = mapped g x.mirror r h in ap (λ (q : Mirror). q.master.number) p.is ∙ ((same p.from).1 ∙ sound.number p.from p.was);
}

pub sound-raised : (n : ℕ) (x : Session) → IsSoundSession x → IsSoundSession (raised n x)
sound-raised n x sound = record {
  low = sound.low;
  servers = λ r h. let p = mapped (λ r. record r { master = phases.raised r.master n }) x.mirror r h in ap (λ (q : Mirror). q.master.servers) p.is ∙ sound.servers p.from p.was;
  number = λ r h. let p = mapped (λ r. record r { master = phases.raised r.master n }) x.mirror r h in ap (λ (q : Mirror). q.master.number) p.is ∙ ap (λ i. max i n) (sound.number p.from p.was);
}

pub sound-begun : (x : Session) → IsSoundSession x → IsSoundSession (begun x)
sound-begun x sound = record {
  low = sound.low;
  servers = λ r h. let p = mapped (λ r. record r { master = phases.begun r.master }) x.mirror r h in ap (λ (q : Mirror). q.master.servers) p.is ∙ sound.servers p.from p.was;
  number = λ r h. let p = mapped (λ r. record r { master = phases.begun r.master }) x.mirror r h in ap (λ (q : Mirror). q.master.number) p.is ∙ (λ i. sound.number p.from p.was i + 1);
}

pub sound-mirrored : (server : ℕ) (x : Session) → IsSoundSession x → IsSoundSession (mirrored_by server x)
sound-mirrored server x sound = record {
  low = sound.low;
  servers = λ r h. ap (λ (q : Mirror). q.master.servers) (sym ((same_Some _ _ h)));
  number = λ r h. ap (λ (q : Mirror). q.master.number) (sym ((same_Some _ _ h)));
}

pub sound-unmirrored : (x : Session) → IsSoundSession x → IsSoundSession (unmirrored x)
sound-unmirrored x sound = record { low = sound.low; servers = λ r h. absurd cc; number = λ r h. absurd cc }

pub sound-members : (ms : List Member) (x : Session) → all_low ms ≡ true → IsSoundSession x → IsSoundSession (with_members ms x)
sound-members ms x low sound = record {
  low = low;
  servers = λ r h. let p = mapped (λ r. record r { master = phases.with_servers r.master (servers_of ms) }) x.mirror r h in ap (λ (q : Mirror). q.master.servers) p.is;
  number = λ r h. let p = mapped (λ r. record r { master = phases.with_servers r.master (servers_of ms) }) x.mirror r h in ap (λ (q : Mirror). q.master.number) p.is ∙ sound.number p.from p.was;
}

pub sound-new : (s l : ℕ) → IsSoundSession (new_session s l)
sound-new s l = record { low = refl; servers = λ r h. absurd cc; number = λ r h. absurd cc }

-- one low member more, or fewer members
pub low-more : (ms : List Member) (m : Member) → all_low ms ≡ true → nat_lt m.server.0 8 ≡ true → all_low (ms ++ m ∷ []) ≡ true
low-more ms m low one = each-all (λ (q : Member). nat_lt q.server.0 8) (ms ++ m ∷ []) (λ q i. by q (in-joined ms (m ∷ []) q i))
  where
    by : (q : Member) → In q ms ⊎ In q (m ∷ []) → nat_lt q.server.0 8 ≡ true
    by q (inl i) = all-each (λ (q : Member). nat_lt q.server.0 8) ms q low i
    by q (inr (inl is)) = ap (λ (q : Member). nat_lt q.server.0 8) is ∙ one
    by q (inr (inr none)) = absurd none

-- ---- quiet sessions

idle-of : (p : PhaseName) (why : Refusal) → unless_idle p (Some why) ≡ None → p ≡ phase.Idle
idle-of phase.Idle why h = refl
idle-of p why h = absurd cc

quiet-mirrors : (o : Option Mirror) (r : Mirror) → busy o ≡ None → o ≡ Some r → r.master.phase ≡ phase.Idle
quiet-mirrors None r h e = none_some refl e
quiet-mirrors (Some q) r h e = ap (λ (q : Mirror). q.master.phase) (sym ((same_Some _ _ e))) ∙ idle-of q.master.phase _ h

-- no master, or an Idle one
pub quiet-of : (x : Session) → busy x.mirror ≡ None → Quiet x
quiet-of x h r e = quiet-mirrors x.mirror r h e

idle-mirrors : (o : Option Mirror) (r : Mirror) → drop_refusal o ≡ None → o ≡ Some r → r.master.phase ≡ phase.Idle
idle-mirrors None r h e = none_some refl e
idle-mirrors (Some q) r h e = ap (λ (q : Mirror). q.master.phase) (sym ((same_Some _ _ e))) ∙ idle-of q.master.phase _ h

pub quiet-drop : (x : Session) → drop_refusal x.mirror ≡ None → Quiet x
quiet-drop x h r e = idle-mirrors x.mirror r h e

pub quiet-none : (x : Session) → x.mirror ≡ None → Quiet x
quiet-none x h r e = none_some h e

-- a change that leaves the phase
pub quiet-mirror : (g : Mirror → Mirror) (x y : Session) → y.mirror ≡ option_map g x.mirror → ((r : Mirror) → (g r).master.phase ≡ r.master.phase) → Quiet x → Quiet y
quiet-mirror g x y is same quiet r h = let p = mapped g x.mirror r (sym is ∙ h) in ap (λ (q : Mirror). q.master.phase) p.is ∙ (same p.from ∙ quiet p.from p.was)

-- the primaries of members
abbrev pub primaries : List Member → List ℕ
primaries ms = map (λ (m : Member). m.a.0) ms

-- where the master is neither Finishing nor Lost, a session fits by itself and its members
pub fits-calm : (k : Control) (x : Session) → IsSoundSession x → Once (primaries x.members) → ((m : Member) → In m x.members → MemberStands k m) → ((r : Mirror) → x.mirror ≡ Some r → MasterStands k r) → ((r : Mirror) → x.mirror ≡ Some r → OwesServers r.master) → ((r : Mirror) → x.mirror ≡ Some r → (r.master.phase ≢ phase.Finishing) × (r.master.phase ≢ phase.Lost)) → SessionFits k x
fits-calm k x sound once stands runs owes calm = record { sound = sound; once = once; stands = stands; runs = runs; finished = λ r has ends m here out. absurd ((calm r has).0 ends); few = λ r has lost. absurd ((calm r has).1 lost); owes = owes }

idle-calm : (p : PhaseName) → p ≡ phase.Idle → (p ≢ phase.Finishing) × (p ≢ phase.Lost)
idle-calm p idle = (λ ends. absurd cc, λ lost. absurd cc)

pub fits-quiet : (k : Control) (x : Session) → IsSoundSession x → Once (primaries x.members) → ((m : Member) → In m x.members → MemberStands k m) → ((r : Mirror) → x.mirror ≡ Some r → MasterStands k r) → ((r : Mirror) → x.mirror ≡ Some r → OwesServers r.master) → Quiet x → SessionFits k x
fits-quiet k x sound once stands runs owes quiet = fits-calm k x sound once stands runs owes (λ r has. idle-calm r.master.phase (quiet r has))
