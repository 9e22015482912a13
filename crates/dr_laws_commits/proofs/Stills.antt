-- Where a session's members show the same targets, no message comes and no attempt begins, what was flashed has to do with it as before.
use Rattle.std.proofs.Common.{◌≡◌, ◌≤◌, ◌⊎◌, inl, inr, sym, ◌∙◌, subst, Bool, true, not, ◌&&◌, nat_eq, List, ◌++◌}
use Rattle.dr_ids.specs.declared.names.Member.{Member}
use Rattle.dr_ids.specs.declared.refusal.PhaseName.TheVariants as phase
use Rattle.dr_model.specs.declared.event.Event.{Event}
use Rattle.dr_model.specs.Layout.{Fields}
use Rattle.dr_model.specs.Messages.{Flight, Message}
use Rattle.dr_model.specs.Sessions.{Session}
use Rattle.dr_model.specs.Groups.{In}
use Rattle.dr_model.specs.Attempts.{Any, committed, role_of, seen, owed_of, reports_of}
use Rattle.dr_model.specs.Flights.{IsAwaited, shown_in}
use Rattle.dr_facts.proofs.Lists.{from-map, to-map}
use Rattle.dr_laws_commits.proofs.Journal.{NoneOf, stays}
use Rattle.dr_laws_commits.proofs.WereFlashed.{AllFields, ToldOf, IsOpen, CommitFlies, IsSettling, WereFlashed}

-- a target shows the same
pub record SameTarget (f g : Fields) : Type 0 where
  pub revertible : g.revertible ≡ f.revertible
  pub member : g.member ≡ f.member
  pub sequence : g.sequence ≡ f.sequence
  pub floor : g.floor ≡ f.floor

pub same-target : (f : Fields) → SameTarget f f
same-target f = record { revertible = λ i. f.revertible; member = λ i. f.member; sequence = λ i. f.sequence; floor = λ i. f.floor }

module _ (f g : Flight) (F S : AllFields) (events more : List Event) (x : Session) (messages : (m : Message) → In m g.messages → In m f.messages) (epoch : g.epoch x.number ≡ f.epoch x.number)
    (same : (m : Member) → In m x.members → SameTarget (F m.c.0) (S m.c.0)) (none : NoneOf x.number more) (old : WereFlashed f F events x) where
  told-was : (b : Bool) → ToldOf g x b → ToldOf f x b
  told-was b told = (told.0, by told.1)
    where
      by : In (record { sequence = x.last; revertible = b }) (reports_of x.mirror) ⊎ Any (λ (m : Message). IsAwaited g x.number phase.Lost x.last (owed_of x.mirror) m × In (record { sequence = x.last; revertible = b }) (shown_in m.body)) g.messages
          → In (record { sequence = x.last; revertible = b }) (reports_of x.mirror) ⊎ Any (λ (m : Message). IsAwaited f x.number phase.Lost x.last (owed_of x.mirror) m × In (record { sequence = x.last; revertible = b }) (shown_in m.body)) f.messages
      by (inl reported) = inl reported
      by (inr any) = let a = any.is.0 in inr (record {
        one = any.one;
        here = messages any.one any.here;
        is = (record { here = messages any.one a.here; session = a.session; epoch = a.epoch ∙ epoch; works = a.works; number = a.number; due = a.due; answers = a.answers }, any.is.1);
      })

  flies-was : CommitFlies g x → CommitFlies f x
  flies-was any = let o = any.is.order in record {
    one = any.one;
    here = messages any.one any.here;
    is = record { order = record { here = messages any.one o.here; session = o.session; starts = o.starts; asks = o.asks }; works = any.is.works; number = any.is.number };
  }

  open-was : IsOpen g S x → IsOpen f F x
  open-was (inl any) =
      let o = from-map (seen (λ v. role_of (S v))) x.members any.one any.here in
      let rev : (S o.from.c.0).revertible ≡ true = sym (λ i. (o.is i).revertible) ∙ any.is in
      inl (record { one = seen (λ v. role_of (F v)) o.from; here = to-map (seen (λ v. role_of (F v))) x.members o.from o.here; is = sym (same o.from o.here).revertible ∙ rev })
  open-was (inr told) = inr (told-was true told)

  settling-was : IsSettling g S x → IsSettling f F x
  settling-was (inl any) =
      let o = from-map (seen (λ v. role_of (S v))) x.members any.one any.here in
      let s = same o.from o.here in
      let were : committed x.last (seen (λ v. role_of (S v)) o.from) ≡ true = sym (λ i. committed x.last (o.is i)) ∙ any.is in
      inl (record {
        one = seen (λ v. role_of (F v)) o.from;
        here = to-map (seen (λ v. role_of (F v))) x.members o.from o.here;
        is = sym (λ i. s.member i && (nat_eq (s.sequence i) x.last && not (s.revertible i))) ∙ were;
      })
  settling-was (inr (inl told)) = inr (inl (told-was _ told))
  settling-was (inr (inr flies)) = inr (inr (flies-was flies))

  pub were_flashed-still : WereFlashed g S (events ++ more) x
  were_flashed-still = record {
    turned = λ m here rev. stays events more x.number x.last m.a.0 none (old.turned m here (sym (same m here).revertible ∙ rev));
    reached = λ early m here low. stays events more x.number x.last m.a.0 none (old.reached early m here (subst (λ n. x.last ≤ n) (same m here).floor low));
    commits = λ e m here. stays events more x.number x.last m.a.0 none (old.commits e m here);
    settles = λ can settling m here. stays events more x.number x.last m.a.0 none (old.settles (open-was can) (settling-was settling) m here);
  }
