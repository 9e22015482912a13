-- Which acts the entries of each step come to, and what is known of the state in which the step begins, `k`, or in which the act comes.
use Rattle.std.proofs.Common.{ℕ, ◌≡◌, ◌+◌, ◌&&◌, Bool, true, false, List, Option, Some, Result, Ok}
use Rattle.std.specs.List.{find}
use Rattle.dr_ids.specs.declared.names.Member.{Member}
use Rattle.dr_ids.specs.declared.refusal.Refusal.{Refusal}
use Rattle.dr_model.specs.declared.state.Part.{Part}
use Rattle.dr_model.specs.declared.state.PairState.{PairState}
use Rattle.dr_model.specs.declared.state.PairState.TheVariants.{Suspended as SuspendedState}
use Rattle.dr_model.specs.declared.step.Devs.{Devs}
use Rattle.dr_model.specs.declared.step.Name.{Name}
use Rattle.dr_model.specs.declared.step.PairChoices.{PairChoices}
use Rattle.dr_model.specs.declared.step.Step.{Step}
use Rattle.dr_model.specs.declared.step.Step.TheVariants.{Start, Write, Apply, MakeFlash, RemoveFlash, ResyncFlash, ReverseFlash, Copy, Destage, MakePair, RemovePair, PausePair, ResumePair, Failover, Failback, Drain, Expire, Freeze, Unfreeze, AddMember, RemoveMember, Exchange, Deliver, Recover, RevertFlash, UnfreezeFlash}
use Rattle.dr_model.specs.Layout.{is_part}
use Rattle.dr_model.specs.Control.{Control, Pending, World}
use Rattle.dr_model.specs.Relations.{Choices}
use Rattle.dr_model.specs.Pairs.{held, is_cascaded, goes_over, collides, next_state, state_with}
use Rattle.dr_model.specs.Groups.{In}
use Rattle.dr_model.specs.Messages.{Message, message_in}
use Rattle.dr_model.specs.Sessions.{session_in, members_in}
use Rattle.dr_model.specs.Moves as moves
use Rattle.dr_model.specs.Moves.{is_write}
use Rattle.dr_model.specs.Carry.{Act, Make, OpenAttempt, Redo, Acknowledge, Drop, EndFreeze, EndThaw, EndRecovery}
use Rattle.dr_model.specs.Entries.{fields_at}
use Rattle.dr_model.specs.PairEntries.{may_lead, may_follow, may_take_over, leads_as, leads_to, unsent_by}
use Rattle.dr_model.specs.PlanParts.{server_named, name_bytes}
use Rattle.dr_model.specs.WriteEntries.{partner_of, is_fed, is_between, belongs}
use Rattle.dr_model.specs.Plans.{landed_on}
use Rattle.dr_facts.proofs.Reasons.{NoStop}
use Rattle.dr_laws_sound.proofs.Cases.{ByHand}

-- the step carries out host write n on track t of v
pub data IsWrite (k : Control) : Result Step ℕ → ℕ → ℕ → ℕ → Type 0 where
  Issued : (v t offset len : ℕ) → (bytes : List ℕ) → IsWrite k (Ok (Write v t offset len bytes)) (k.issued + 1) v t
  Found : (n : ℕ) → (p : Pending) → find (is_write n) k.pending ≡ Some p → IsWrite k (Ok (Apply n)) p.w p.volume p.track

-- it sends tracks from a to b
pub data IsSend (k : Control) : Result Step ℕ → ℕ → ℕ → Type 0 where
  Drained : (a : ℕ) → (most : Option ℕ) → is_part (fields_at k a).primary ≡ true → IsSend k (Ok (Drain a most)) a (fields_at k a).primary_partner
  Collided : {asked : Result Step ℕ} → (n v t : ℕ) → IsWrite k asked n v t → collides (fields_at k v) t ≡ true → IsSend k asked v (partner_of k v)
  -- as the cascaded secondary of a primary that sends
  Fed : (a : ℕ) → (most : Option ℕ) → is_cascaded (fields_at k (partner_of k a)) ≡ true → IsSend k (Ok (Drain a most)) (partner_of k a) (partner_of k (partner_of k a))

-- a server carries out an order of session s with member m
pub data IsOrder (k : Control) : Result Step ℕ → ℕ → Member → Type 0 where
  Exchanged : {name : Name} → {reply : Bool} → (s : ℕ) → (m : Member) → In m (members_in (session_in k.sessions s)) → IsOrder k (Ok (Exchange s name reply)) s m
  Delivered : (n : ℕ) → (e : Message) → (m : Member) → message_in k.flight n ≡ Some e → In m (members_in (session_in k.sessions e.session)) → IsOrder k (Ok (Deliver n)) e.session m

-- an act that comes in j, in the step that was asked for
pub data Does (k : Control) : Result Step ℕ → Control → Act → Type 0 where
  -- what targets keep, and a primary that is suspended
  Keeps : {asked : Result Step ℕ} → {j : Control} → (u t : ℕ) → Does k asked j (Make (moves.Keep u t))
  Notes : {asked : Result Step ℕ} → {j : Control} → (u t : ℕ) → Does k asked j (Make (moves.Note u t))
  Suspends : {asked : Result Step ℕ} → {j : Control} → (v : ℕ) → (busy : Bool) → Does k asked j (Make (moves.Suspend v busy))
  -- FlashCopy
  Holds : {devs : Devs} → {nocopy persistent recorded inhibited : Bool} → {sequence : Option ℕ} → {j : Control} → (s t : ℕ) → Does k (Ok (MakeFlash devs s t nocopy persistent recorded inhibited true sequence)) j (Make (moves.FlashHold s))
  Relates : {devs : Devs} → {nocopy persistent recorded inhibited freeze : Bool} → {sequence : Option ℕ} → {j : Control} → (s t : ℕ) → (choices : Choices)
      → Does k (Ok (MakeFlash devs s t nocopy persistent recorded inhibited freeze sequence)) j (Make (moves.Relate t s choices))
  Withdraws : {devs : Devs} → {sequence : Option ℕ} → {j : Control} → (s t : ℕ) → Does k (Ok (RemoveFlash devs s t sequence)) j (Make (moves.Withdraw t))
  Resyncs : {devs : Devs} → {nocopy persistent recorded inhibited : Bool} → {j : Control} → (s t : ℕ) → (sequence : Option ℕ) → Does k (Ok (ResyncFlash devs s t nocopy persistent recorded inhibited sequence)) j (Make (moves.Resync t sequence))
  Reverses : {devs : Devs} → {tgtpprc : Bool} → {sequence : Option ℕ} → {j : Control} → (s t : ℕ) → (left : Option ℕ) → Does k (Ok (ReverseFlash devs s t tgtpprc sequence)) j (Make (moves.Reverse t left))
  GivesBack : {most : Option ℕ} → {j : Control} → (q t : ℕ) → (fields_at k t).reversing ≡ true → Does k (Ok (Copy t most)) j (Make (moves.Restore (fields_at k t).source q t))
  GivesUp : {most : Option ℕ} → {j : Control} → (q t : ℕ) → (fields_at k t).reversing ≡ true → Does k (Ok (Copy t most)) j (Make (moves.Release t q))
  Fetches : {most : Option ℕ} → {j : Control} → (q t : ℕ) → Does k (Ok (Copy t most)) j (Make (moves.Fetch t q))
  Destages : {j : Control} → (v : ℕ) → Does k (Ok (Destage v)) j (Redo v)
  Unstages : {j : Control} → (v : ℕ) → Does k (Ok (Destage v)) j (Make (moves.Unstage v))
  Frees : {devs : Devs} → {l : ℕ} → {j : Control} → (v : ℕ) → Does k (Ok (UnfreezeFlash devs l)) j (Make (moves.FlashFree v))
  -- pairs
  MakesSecondary : {devs : Devs} → {n : ℕ} → {choices : PairChoices} → {j : Control} → (a b : ℕ) → (kind : Part) → (state : PairState) → may_follow a b k ≡ true → Does k (Ok (MakePair devs a b n choices)) j (Make (moves.MakeSecondary b a kind state))
  MakesPrimary : {devs : Devs} → {n : ℕ} → {choices : PairChoices} → {j : Control} → (a b : ℕ) → (kind : Part) → (state : PairState) → (full cascade : Bool) → may_lead cascade a b k ≡ true
      → Does k (Ok (MakePair devs a b n choices)) j (Make (moves.MakePrimary a b kind state full))
  DropsPrimary : {devs : Devs} → {b : ℕ} → {source_only : Bool} → {j : Control} → (a : ℕ) → Does k (Ok (RemovePair devs a b source_only)) j (Make (moves.DropPrimary a))
  DropsSecondary : {devs : Devs} → {a : ℕ} → {source_only : Bool} → {j : Control} → (b : ℕ) → Does k (Ok (RemovePair devs a b source_only)) j (Make (moves.DropSecondary b))
  Pauses : {devs : Devs} → {a : ℕ} → {j : Control} → (b : ℕ) → Does k (Ok (PausePair devs a b)) j (Make (moves.Follow b SuspendedState))
  Follows : {devs : Devs} → {n a : ℕ} → {j : Control} → (b : ℕ) → (state : PairState) → Does k (Ok (ResumePair devs a b n)) j (Make (moves.Follow b state))
  Resumes : {devs : Devs} → {n b : ℕ} → {j : Control} → (a : ℕ) → Does k (Ok (ResumePair devs a b n)) j (Make (moves.Resume a (next_state (fields_at j a))))
  TakesOver : {devs : Devs} → {n : ℕ} → {j : Control} → (b a : ℕ) → (kind : Part) → may_take_over a b kind k ≡ true → is_cascaded (fields_at k b) ≡ false → Does k (Ok (Failover devs b a n)) j (Make (moves.TakeOver b))
  LeavesPrimary : {devs : Devs} → {n : ℕ} → {j : Control} → (b a : ℕ) → (kind : Part) → may_take_over a b kind k ≡ true → is_cascaded (fields_at k b) ≡ true → Does k (Ok (Failover devs b a n)) j (Make (moves.LeavePrimary b))
  FallsBack : {devs : Devs} → {n : ℕ} → {j : Control} → (x y : ℕ) → (kind : Part) → leads_as x y kind k ≡ true → Does k (Ok (Failback devs x y n)) j (Make (moves.FallBack x (unsent_by y j) (state_with (unsent_by y j) (fields_at j x))))
  Yields : {devs : Devs} → {n : ℕ} → {j : Control} → (x y : ℕ) → (kind : Part) → (state : PairState) → leads_to y x k ≡ true → Does k (Ok (Failback devs x y n)) j (Make (moves.Yield y x kind state))
  -- tracks that are sent, and host writes
  Stores : {asked : Result Step ℕ} → {j : Control} → (a b : ℕ) → IsSend k asked a b → (t : ℕ) → (last : Bool) → Does k asked j (Make (moves.Store b t a last))
  Strikes : {asked : Result Step ℕ} → {j : Control} → (a b : ℕ) → IsSend k asked a b → (t : ℕ) → (last : Bool) → Does k asked j (Make (moves.Strike a t last))
  Lands : {asked : Result Step ℕ} → {j : Control} → (n v t : ℕ) → IsWrite k asked n v t → held (fields_at k v) ≡ false → Does k asked j (Make (moves.Land n v t))
  Overwrites : {asked : Result Step ℕ} → {j : Control} → (n v t : ℕ) → IsWrite k asked n v t → held (fields_at k v) ≡ false → Does k asked j (Make (moves.Overwrite n v t))
  Unsyncs : {asked : Result Step ℕ} → {j : Control} → (n v t : ℕ) → IsWrite k asked n v t → goes_over (fields_at k v) t ≡ true → Does k asked j (Make (moves.Unsync v t))
  Mirrors : {asked : Result Step ℕ} → {j : Control} → (n v t : ℕ) → IsWrite k asked n v t → goes_over (fields_at k v) t ≡ true → Does k asked j (Make (moves.Mirror (partner_of k v) t v n))
  -- the cascaded secondary of such a volume sends on what a write collides with there then
  SendsOn : {asked : Result Step ℕ} → {j : Control} → (n v t : ℕ) → IsWrite k asked n v t → is_fed k v t ≡ true → collides (fields_at j (partner_of k v)) t ≡ true → (last : Bool) → Does k asked j (Make (moves.Store (partner_of k (partner_of k v)) t (partner_of k v) last))
  StrikesOn : {asked : Result Step ℕ} → {j : Control} → (n v t : ℕ) → IsWrite k asked n v t → is_fed k v t ≡ true → (last : Bool) → Does k asked j (Make (moves.Strike (partner_of k v) t last))
  LandsBoth : {asked : Result Step ℕ} → {j : Control} → (n v t : ℕ) → IsWrite k asked n v t → held (fields_at k v) ≡ false → Does k asked j (Make (moves.LandBoth n v t))
  Drops : {asked : Result Step ℕ} → {j : Control} → (n v t : ℕ) → IsWrite k asked n v t → Does k asked j (Drop n)
  -- starts, and holds that end
  Redoes : {name : Name} → {j : Control} → (v : ℕ) → Does k (Ok (Start name)) j (Redo v)
  Restarts : {name : Name} → {j : Control} → (v : ℕ) → Does k (Ok (Start name)) j (Make (moves.Restart v))
  Acknowledges : {name : Name} → {j : Control} → (s n : ℕ) → landed_on j s ≡ Some n → Does k (Ok (Start name)) j (Acknowledge n)
  Lifts : {name : Name} → {j : Control} → (s v : ℕ) → (server_named k (name_bytes name) ≡ Some s) × ((belongs j s v && held (fields_at j v)) ≡ true) → Does k (Ok (Expire name)) j (Make (moves.Lift v))
  EndsFreeze : {devs : Devs} → {j : Control} → (l m : ℕ) → Does k (Ok (Freeze devs l m)) j (EndFreeze l m)
  Thaws : {devs : Devs} → {j : Control} → (l m v : ℕ) → (is_between j l m v && (fields_at j v).long_busy) ≡ true → Does k (Ok (Unfreeze devs l m)) j (Make (moves.Thaw v))
  EndsThaw : {devs : Devs} → {j : Control} → (l m : ℕ) → Does k (Ok (Unfreeze devs l m)) j (EndThaw l m)
  -- orders
  OrdersHold : {asked : Result Step ℕ} → {j : Control} → (s : ℕ) → (m : Member) → IsOrder k asked s m → (n : ℕ) → Does k asked j (Make (moves.Hold m.a.0 s n false))
  OrdersAttempt : {asked : Result Step ℕ} → {j : Control} → (s : ℕ) → (m : Member) → IsOrder k asked s m → (n : ℕ) → Does k asked j (OpenAttempt m.a.0 s n)
  OrdersFree : {asked : Result Step ℕ} → {j : Control} → (s : ℕ) → (m : Member) → IsOrder k asked s m → Does k asked j (Make (moves.Free m.a.0))
  OrdersSeal : {asked : Result Step ℕ} → {j : Control} → (s : ℕ) → (m : Member) → IsOrder k asked s m → (n : ℕ) → Does k asked j (Make (moves.Seal m.b.0 m.a.0 s n))
  OrdersFinish : {asked : Result Step ℕ} → {j : Control} → (s : ℕ) → (m : Member) → IsOrder k asked s m → (n : ℕ) → Does k asked j (Make (moves.Finish m.a.0 n))
  OrdersFlash : {asked : Result Step ℕ} → {j : Control} → (s : ℕ) → (m : Member) → IsOrder k asked s m → (n : ℕ) → Does k asked j (Make (moves.Flash m.c.0 m.b.0 m.a.0 s n))
  OrdersCommit : {asked : Result Step ℕ} → {j : Control} → (s : ℕ) → (m : Member) → IsOrder k asked s m → (n : ℕ) → Does k asked j (Make (moves.Commit m.c.0 m.a.0 s n))
  OrdersRevert : {asked : Result Step ℕ} → {j : Control} → (s : ℕ) → (m : Member) → IsOrder k asked s m → (n : ℕ) → Does k asked j (Make (moves.Revert m.c.0 m.a.0 s n))
  OrdersFloor : {asked : Result Step ℕ} → {j : Control} → (s : ℕ) → (m : Member) → IsOrder k asked s m → (n : ℕ) → Does k asked j (Make (moves.RaiseFloor m.c.0 n))
  -- members, and recoveries
  RaisesAttempt : {devs : Devs} → {l s : ℕ} → {j : Control} → (a n : ℕ) → Does k (Ok (AddMember devs l a s)) j (Make (moves.RaiseAttempt a n))
  RaisesFloor : {devs : Devs} → {l a s : ℕ} → {j : Control} → (c n : ℕ) → Does k (Ok (AddMember devs l a s)) j (Make (moves.RaiseFloor c n))
  Leaves : {devs : Devs} → {l a : ℕ} → {j : Control} → (c p s : ℕ) → Does k (Ok (RemoveMember devs l a s)) j (Make (moves.Leave c p s))
  RecoversSecondary : {j : Control} → (s : ℕ) → (m : Member) → In m (members_in (session_in k.sessions s)) → is_part (fields_at j m.b.0).secondary ≡ true → Does k (Ok (Recover s)) j (Make (moves.TakeOver m.b.0))
  RecoversCommit : {j : Control} → (s : ℕ) → (m : Member) → In m (members_in (session_in k.sessions s)) → (n : ℕ) → Does k (Ok (Recover s)) j (Make (moves.Commit m.c.0 m.a.0 s n))
  RecoversRevert : {j : Control} → (s : ℕ) → (m : Member) → In m (members_in (session_in k.sessions s)) → (n : ℕ) → Does k (Ok (Recover s)) j (Make (moves.Revert m.c.0 m.a.0 s n))
  EndsRecovery : {j : Control} → (s n : ℕ) → Does k (Ok (Recover s)) j (EndRecovery s n)
  SettlesCommit : {step : Step} → {j : Control} → (s : ℕ) → (m : Member) → ByHand k s m step → (n : ℕ) → Does k (Ok step) j (Make (moves.Commit m.c.0 m.a.0 s n))
  SettlesRevert : {devs : Devs} → {source : ℕ} → {sequence : Option ℕ} → {j : Control} → (s : ℕ) → (m : Member) → ByHand k s m (RevertFlash devs source sequence) → (n : ℕ) → Does k (Ok (RevertFlash devs source sequence)) j (Make (moves.Revert m.c.0 m.a.0 s n))

-- the acts of a step that begins in k
abbrev pub Acts : Control → Result Step ℕ → World → Act → Type 0
Acts k asked w a = Does k asked w.control a

-- only these refuse something after an act that was done
abbrev pub refuses_late : Result Step ℕ → Bool
refuses_late (Ok (Write v t offset len bytes)) = true
refuses_late (Ok (Apply n)) = true
refuses_late (Ok (Drain a most)) = true
refuses_late (Ok (Exchange s name reply)) = true
refuses_late (Ok (Deliver n)) = true
refuses_late asked = false

pub record Late (asked : Result Step ℕ) (r : Refusal) : Type 0 where
  pub late : refuses_late asked ≡ true
  pub why : NoStop r
