use Rattle.std.proofs.Common.{◌≡◌, ap, sym, ◌∙◌, subst, refl, None, Ok, Err}
use Rattle.std.specs.Prelude.{is_some, IsTrue, OnOk, Result, ◌≢◌}
use Rattle.dr_ids.specs.declared.refusal.Fault.{Fault}
use Rattle.dr_ids.specs.declared.refusal.Fault.TheVariants.{NoMemory, Refused}
use Rattle.dr_model.specs.Sessions.{session_in, changed, with_member, add_refusal}
use Rattle.dr_session.specs.Kept.{SessionTable, refusal_of}
use Rattle.dr_admin.proofs.SessionLemmas.{still-defined, still-free}
use Rattle.dr_admin.proofs.members.take_in.Goals as goal

pub add_member-requires-clause-defined : goal.add_member-requires-clause-defined
add_member-requires-clause-defined c =
    ap (λ (t : SessionTable). is_some (session_in t.sessions c.args.s.0)) c.raise_last.ensures ∙ still-defined c.args.s.0 c.args.n c.args.ss.now.sessions c.requires.defined

-- a call that is neither refused nor without memory
went : (P : Type 0) (r : Result (Unit {0}) Fault) → OnOk r P → refusal_of r ≡ None → r ≢ Err NoMemory → P
went P (Ok x) p calm room = p
went P (Err NoMemory) p calm room = absurd (room refl)
went P (Err (Refused why)) p calm room = absurd cc

pub returns-2 : goal.returns-2
returns-2 c =
    went _ c.add_member.result c.add_member.ensures.added
    (c.add_member.ensures.refused ∙ ap (λ (t : SessionTable). add_refusal (session_in t.sessions c.args.s.0) c.args.m t.sessions) c.raise_last.ensures ∙ still-free c.args.s.0 c.args.n c.args.m c.args.ss.now.sessions c.requires.free)
    (c.add_member.ensures.room (subst (λ (t : SessionTable). IsTrue t.room) (sym c.raise_last.ensures) c.requires.room))
    ∙ ap (λ (t : SessionTable). changed c.args.s.0 (with_member c.args.m) t.sessions) c.raise_last.ensures
