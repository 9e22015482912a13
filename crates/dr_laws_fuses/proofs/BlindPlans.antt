-- What each step comes to looks at no fuse: its entries, what follows a stop, the tables as it ends and its answer. As it begins, only a line that arms a fuse and the start
-- of a server change one.
use Rattle.std.proofs.Common.{ℕ, ◌≡◌, refl, ap, sym, subst, Bool, true, false, List, [], ◌∷◌, map, Option, Some, None, Result, ◌+◌, cond}
use Rattle.dr_ids.specs.declared.names.Member.{Member}
use Rattle.dr_ids.specs.declared.refusal.Decision.{Decision}
use Rattle.dr_ids.specs.declared.refusal.Kind.TheVariants.{Server as OfServer}
use Rattle.dr_model.specs.Refusals.{unknown}
use Rattle.dr_model.specs.declared.event.Event.{Event}
use Rattle.dr_model.specs.declared.said.Said.{Said}
use Rattle.dr_model.specs.declared.step.Name.{Name}
use Rattle.dr_model.specs.declared.step.Step.{Step}
use Rattle.dr_model.specs.Control.{Control, Fuse}
use Rattle.dr_model.specs.Phases as phases
use Rattle.dr_model.specs.Moves.{DropPrimary}
use Rattle.dr_model.specs.Carry.{Entry, now, check}
use Rattle.dr_model.specs.Entries.{fields_at}
use Rattle.dr_model.specs.PairEntries.{refuse_if, end_if, remove_both, tracks_to_send}
use Rattle.dr_model.specs.WriteEntries.{lift_on, freeze_on, thaw_on, flash_free_on}
use Rattle.dr_model.specs.SessionEntries.{members_on, reply_after}
use Rattle.dr_model.specs.SessionPlans.{exchanged}
use Rattle.dr_model.specs.Sessions.{changed, with_master}
use Rattle.dr_model.specs.Messages.{Message, heard, answered}
use Rattle.dr_model.specs.MessagePlans.{replying}
use Rattle.dr_model.specs.RecoveryPlans.{decided_in, says_recovered}
use Rattle.dr_model.specs.Plans.{Plan, same, entries_plan, cascades, cascade_refusal, tables_plan, at_most, left_to_copy, copy_one, is_owner, yield_refusal, member_from, restores_refusal}
use Rattle.dr_laws_sound.proofs.Cases.{Case, Says, DefinesServer, DefinesVolume, SetsLink, Issues, Writes, Applies, Lists, Shows, Stops, Arms, Starts, MakesFlash, RemovesFlash, ResyncsFlash, ReversesFlash, Copies, Destages, MakesPath, RemovesPath, MakesPair, RemovesPair, PausesPair, ResumesPair, FailsOver, FailsBack, Compares, Drains, Expires, Freezes, Unfreezes, Releases, MakesSession, RemovesSession, MakesMirror, PausesMirror, RemovesMirror, Aborts, AddsMember, RemovesMember, Exchanges, Sends, Delivers, TakesReply, Loses, Recovers, Settles}
use Rattle.dr_laws_fuses.specs.Fuses.{fuse_changed}
use Rattle.dr_laws_fuses.proofs.Blind.{fused, Blind, Blinds, blind-append, blind-map, blind-times, blind-if, blind-landing, blind-after, blind-drain, blind-drained, blind-copied, blind-hold, blind-destage, blind-order, blind-settle, blind-recover}

-- tables that differ in fuses alone
pub record TablesAlike (R : ℕ → Option Fuse → Option Fuse → Type 0) (j k : Control) : Type 0 where
  pub fuse : ℕ → Option Fuse
  pub is : k ≡ fused j fuse
  pub fuses : (q : ℕ) → R q (j.fuse q) (fuse q)

-- a plan that looks at no fuse, in tables that differ in fuses alone
pub record PlanBlind (R : ℕ → Option Fuse → Option Fuse → Type 0) (k : Control) (g : ℕ → Option Fuse) (p : Plan) : Type 0 where
  pub first : TablesAlike R (p.first k) (p.first (fused k g))
  pub entries : Blinds p.entries
  pub follows : (s : ℕ) → Blinds (p.follows s)
  pub last : (j : Control) (h : ℕ → Option Fuse) → p.last (fused j h) ≡ fused (p.last j) h
  pub says : Blind p.says

-- what a server replies
reply-blind : (s : ℕ) (work : phases.Work) (ms : List Member) → Blind (reply_after s work ms)
reply-blind s phases.Seal ms k g = refl
reply-blind s phases.Report ms k g = refl
reply-blind s work ms k g = refl

exchanged-blind : (s server : ℕ) (reply : Bool) (work : phases.Work) (ms : List Member) (k : Control) (g : ℕ → Option Fuse) → exchanged s server reply work ms (fused k g) ≡ fused (exchanged s server reply work ms k) g
exchanged-blind s server true work ms k g = ap (λ r. fused (record k { sessions = changed s (with_master (λ m. phases.taken m server r)) k.sessions; flight = heard s server (k.flight.epoch s) work k.flight }) g) (reply-blind s work ms k g)
exchanged-blind s server false work ms k g = refl

replying-blind : (m : Message) (ms : List Member) (k : Control) (g : ℕ → Option Fuse) → replying m ms (fused k g) ≡ fused (replying m ms k) g
replying-blind m ms k g = ap (λ r. fused (record k { flight = answered m r (heard m.session m.server m.epoch m.order.work k.flight) }) g) (reply-blind m.session m.order.work ms k g)

-- the server that a line names for a volume is its own
owner : (dev : Option Name) (v : ℕ) → Blind (check (is_owner dev v) (unknown OfServer))
owner None v k g = refl
owner (Some name) v k g = refl

-- what a secondary-to-be says of a restore onto it
yielding : (y : ℕ) → Blind (refuse_if (yield_refusal y))
yielding y k g = by (member_from y k)
  where
    by : (o : Option ℕ) → end_if (restores_refusal o (fused k g)) ≡ end_if (restores_refusal o k)
    by None = refl
    by (Some t) = refl

-- what is left of a session as a recovery ends
recovered-blind : (s : ℕ) (d : Decision) → Blind (says_recovered s d)
recovered-blind s d k g = refl

module _ (R : ℕ → Option Fuse → Option Fuse → Type 0) (k : Control) (g : ℕ → Option Fuse) (all : (q : ℕ) → R q (k.fuse q) (g q)) where
  abbrev Is : Plan → Type 0
  Is = PlanBlind R k g

  -- its tables change, and no fuse
  stay : (first : Control → Control) → first (fused k g) ≡ fused (first k) g → (first k).fuse ≡ k.fuse → TablesAlike R (first k) (first (fused k g))
  stay first is fuses = record { fuse = g; is = is; fuses = λ q. subst (λ f. R q (f q) (g q)) (sym fuses) (all q) }

  tables : (first : Control → Control) (told : List Event) (a : Said) → first (fused k g) ≡ fused (first k) g → (first k).fuse ≡ k.fuse → Is (tables_plan first told a)
  tables first told a is fuses = record { first = stay first is fuses; entries = tt; follows = λ s. tt; last = λ j h. refl; says = λ j h. refl }

  acts : (ds : List Entry) (a : Said) → Blinds ds → Is (entries_plan ds a)
  acts ds a blind = record { first = record { fuse = g; is = refl; fuses = all }; entries = blind; follows = λ s. tt; last = λ j h. refl; says = λ j h. refl }

  pub case-blind : (events : List Event) (line : ℕ) (asked : Result Step ℕ) (p : Plan) → fuse_changed asked ≡ None → Case k events line asked p → Is p
  case-blind events line _ _ other (Says a waits why) = tables same [] a refl refl
  case-blind events line _ _ other (DefinesServer name free) = tables _ _ _ refl refl
  case-blind events line _ _ other (DefinesVolume v s tracks here free) = tables _ _ _ refl refl
  case-blind events line _ _ other (SetsLink a b up) = tables _ _ _ refl refl
  case-blind events line _ _ other (Issues v t offset len bytes free) = tables _ _ _ refl refl
  case-blind events line _ _ other (Writes v t offset len bytes free) = record { first = record { fuse = g; is = refl; fuses = all }; entries = blind-landing k _ v t; follows = blind-after k (k.issued + 1) v t; last = λ j h. refl; says = λ j h. refl }
  case-blind events line _ _ other (Applies n p found) = record { first = record { fuse = g; is = refl; fuses = all }; entries = blind-landing k p.w p.volume p.track; follows = blind-after k p.w p.volume p.track; last = λ j h. refl; says = λ j h. refl }
  case-blind events line _ _ other (Lists told ls few) = tables same told _ refl refl
  case-blind events line _ _ other (Shows v t there) = tables same _ _ refl refl
  case-blind events line _ _ other (Stops s on) = tables _ _ _ refl refl
  case-blind events line _ _ other (Arms writes torn s) = absurd cc
  case-blind events line _ _ other (Starts s off) = absurd cc
  case-blind events line _ _ other (MakesFlash dev s t freeze choices) = acts _ _ ((λ k g. refl), ((λ k g. refl), (owner dev s, ((λ k g. refl), ((λ k g. refl), ((λ k g. refl), ((λ k g. refl), ((λ k g. refl), ((λ k g. refl), ((λ k g. refl), ((λ k g. refl), ((λ k g. refl), blind-hold freeze s _ ((λ k g. refl), tt)))))))))))))
  case-blind events line _ _ other (RemovesFlash dev s t) = acts _ _ ((λ k g. refl), ((λ k g. refl), (owner dev s, ((λ k g. refl), ((λ k g. refl), ((λ k g. refl), ((λ k g. refl), tt)))))))
  case-blind events line _ _ other (ResyncsFlash dev s t sequence) = acts _ _ ((λ k g. refl), ((λ k g. refl), (owner dev s, ((λ k g. refl), ((λ k g. refl), ((λ k g. refl), ((λ k g. refl), tt)))))))
  case-blind events line _ _ other (ReversesFlash dev s t) = acts _ _ ((λ k g. refl), ((λ k g. refl), (owner dev s, ((λ k g. refl), ((λ k g. refl), ((λ k g. refl), ((λ k g. refl), ((λ k g. refl), ((λ k g. refl), tt)))))))))
  case-blind events line _ _ other (Copies t most) = acts _ _ ((λ k g. refl), ((λ k g. refl), ((λ k g. refl), ((λ k g. refl), blind-times (at_most most (left_to_copy k t)) (copy_one k t) (blind-copied k.volumes (fields_at k t).source t (fields_at k t).reversing)))))
  case-blind events line _ _ other (Destages v) = acts _ _ ((λ k g. refl), ((λ k g. refl), blind-destage (k.volume v).staged v))
  case-blind events line _ _ other (MakesPath src tgt group) = tables _ _ _ refl refl
  case-blind events line _ _ other (RemovesPath src tgt) = tables _ _ _ refl refl
  case-blind events line _ _ other (MakesPair devs a b kind choices part) = acts _ _ (
    (λ k g. refl),
    (
      (λ k g. refl),
      (
        owner devs.dev a,
        (
          owner devs.remotedev b,
          blind-append (cond (cascades kind choices) (refuse_if (cascade_refusal a) ∷ []) []) _ (blind-if (cascades kind choices) _ _ ((λ k g. refl), tt) tt)
              ((λ k g. refl), ((λ k g. refl), ((λ k g. refl), ((λ k g. refl), ((λ k g. refl), ((λ k g. refl), ((λ k g. refl), ((λ k g. refl), ((λ k g. refl), ((λ k g. refl), ((λ k g. refl), ((λ k g. refl), tt)))))))))))),
        ),
      ),
    ),
  )
  case-blind events line _ _ other (RemovesPair devs a b source_only) = acts _ _ ((λ k g. refl), ((λ k g. refl), (owner devs.dev a, (owner devs.remotedev b, ((λ k g. refl), ((λ k g. refl), ((λ k g. refl), blind-if source_only (now (DropPrimary a) ∷ []) (remove_both k a b) ((λ k g. refl), tt) ((λ k g. refl), ((λ k g. refl), ((λ k g. refl), ((λ k g. refl), tt)))))))))))
  case-blind events line _ _ other (PausesPair devs a b) = acts _ _ ((λ k g. refl), ((λ k g. refl), (owner devs.dev a, (owner devs.remotedev b, ((λ k g. refl), ((λ k g. refl), ((λ k g. refl), ((λ k g. refl), tt))))))))
  case-blind events line _ _ other (ResumesPair devs a b kind) = acts _ _ ((λ k g. refl), ((λ k g. refl), (owner devs.dev a, (owner devs.remotedev b, ((λ k g. refl), ((λ k g. refl), ((λ k g. refl), ((λ k g. refl), ((λ k g. refl), ((λ k g. refl), tt))))))))))
  case-blind events line _ _ other (FailsOver devs b a kind) = acts _ _ ((λ k g. refl), ((λ k g. refl), (owner devs.dev b, (owner devs.remotedev a, ((λ k g. refl), ((λ k g. refl), ((λ k g. refl), tt)))))))
  case-blind events line _ _ other (FailsBack devs x y kind) = acts _ _ ((λ k g. refl), ((λ k g. refl), (owner devs.dev x, (owner devs.remotedev y, ((λ k g. refl), ((λ k g. refl), ((λ k g. refl), ((λ k g. refl), ((λ k g. refl), ((λ k g. refl), ((λ k g. refl), ((λ k g. refl), (yielding y, ((λ k g. refl), ((λ k g. refl), tt)))))))))))))))
  case-blind events line _ _ other (Compares contents v u) = acts _ _ ((λ k g. refl), ((λ k g. refl), ((λ k g. refl), ((λ k g. refl), ((λ k g. refl), ((λ k g. refl), tt))))))
  case-blind events line _ _ other (Drains a most) = record { first = record { fuse = g; is = refl; fuses = all }; entries = ((λ k g. refl), ((λ k g. refl), ((λ k g. refl), blind-drain k a (tracks_to_send most (k.volume a).tracks (fields_at k a).out_of_sync)))); follows = blind-drained k a (tracks_to_send most (k.volume a).tracks (fields_at k a).out_of_sync); last = λ j h. refl; says = λ j h. refl }
  case-blind events line _ _ other (Expires s on) = acts _ _ (blind-map (lift_on s) k.volumes (λ v k g. refl))
  case-blind events line _ _ other (Freezes l m) = acts _ _ (blind-append (map (freeze_on l m) k.volumes) _ (blind-map (freeze_on l m) k.volumes (λ v k g. refl)) ((λ k g. refl), tt))
  case-blind events line _ _ other (Unfreezes l m) = acts _ _ (blind-append (map (thaw_on l m) k.volumes) _ (blind-map (thaw_on l m) k.volumes (λ v k g. refl)) ((λ k g. refl), tt))
  case-blind events line _ _ other (Releases l) = acts _ _ (blind-map (flash_free_on l) k.volumes (λ v k g. refl))
  case-blind events line _ _ other (MakesSession l s free) = tables _ _ _ refl refl
  case-blind events line _ _ other (RemovesSession l s x found free) = tables _ _ _ refl refl
  case-blind events line _ _ other (MakesMirror server s x found free l owned) = tables _ _ _ refl refl
  case-blind events line _ _ other (PausesMirror s on) = tables _ _ _ refl refl
  case-blind events line _ _ other (RemovesMirror s x found free) = tables _ _ _ refl refl
  case-blind events line _ _ other (Aborts s x found free) = record { first = record { fuse = g; is = refl; fuses = all }; entries = tt; follows = λ s. tt; last = λ j h. refl; says = λ j h. refl }
  case-blind events line _ _ other (AddsMember s a d x joins) = record { first = record { fuse = g; is = refl; fuses = all }; entries = ((λ k g. refl), ((λ k g. refl), tt)); follows = λ s. tt; last = λ j h. refl; says = λ j h. refl }
  case-blind events line _ _ other (RemovesMember s a x m found is idle on) = record { first = record { fuse = g; is = refl; fuses = all }; entries = ((λ k g. refl), tt); follows = λ s. tt; last = λ j h. refl; says = λ j h. refl }
  case-blind events line _ _ other (Exchanges s server reply x r o allowed) = record { first = record { fuse = g; is = refl; fuses = all }; entries = blind-order o.work s o.number (members_on server x.members); follows = λ s. tt; last = exchanged-blind s server reply o.work (members_on server x.members); says = λ j h. refl }
  case-blind events line _ _ other (Sends s server x r o posts) = record { first = record { fuse = g; is = refl; fuses = all }; entries = tt; follows = λ s. tt; last = λ j h. refl; says = λ j h. refl }
  case-blind events line _ _ other (Delivers n m starts x r reaches) = record { first = record { fuse = g; is = refl; fuses = all }; entries = blind-order m.order.work m.session m.order.number (members_on m.server x.members); follows = λ s. tt; last = replying-blind m (members_on m.server x.members); says = λ j h. refl }
  case-blind events line _ _ other (TakesReply n m reply x r returns) = record { first = record { fuse = g; is = refl; fuses = all }; entries = tt; follows = λ s. tt; last = λ j h. refl; says = λ j h. refl }
  case-blind events line _ _ other (Loses n) = tables _ _ _ refl refl
  case-blind events line _ _ other (Recovers s x found on) = record { first = record { fuse = g; is = refl; fuses = all }; entries = blind-recover s (decided_in s k) x.members; follows = λ s. tt; last = λ j h. refl; says = recovered-blind s (decided_in s k) }
  case-blind events line _ _ other (Settles s x m found here on free hand) = acts _ _ (blind-settle s (decided_in s k) m, tt)
