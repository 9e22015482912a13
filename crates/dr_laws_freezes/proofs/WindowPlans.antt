-- What is to be shown of a plan for freeze windows, and that it holds where its acts keep what holds of pairs.
use Rattle.std.proofs.Common.{ℕ, ◌≡◌, ◌<◌, refl, ap, sym, ◌∙◌, subst, true, List, [], ◌∷◌, Option, Some, None}
use Rattle.std.proofs.lemmas.List.{append-nil}
use Rattle.dr_ids.specs.declared.refusal.Refusal.{Refusal}
use Rattle.dr_ids.specs.declared.refusal.Refusal.TheVariants.{Stopped as StoppedIn}
use Rattle.dr_model.specs.declared.said.Said.{Said}
use Rattle.dr_model.specs.Answers.{answer}
use Rattle.dr_model.specs.Control.{Control, World}
use Rattle.dr_model.specs.Carry.{Act, Entry, carry, stopped_at}
use Rattle.dr_model.specs.Plans.{Plan, same, none_follow, entries_plan}
use Rattle.dr_model.specs.Runs.{begun, finish, masters_lost, said}
use Rattle.dr_model.specs.Laws.{Sound, AllPending}
use Rattle.dr_facts.proofs.Entries.{any_world, FineFrom, EachFine, from-all}
use Rattle.dr_laws_closed.proofs.Regroups.{regroups-same}
use Rattle.dr_laws_sound.proofs.Along as along
use Rattle.dr_laws_sound.proofs.KeepsSound.{Along, StepHolds, RowsAt, MayDo, keeps-sound, EachAlong}
use Rattle.dr_laws_sound.proofs.FitsFlash.{as_begun, sound-begun}
use Rattle.dr_laws_sound.proofs.FitsSessions.{Orders, sound-lost}
use Rattle.dr_laws_sound.proofs.NewMessages.{adds-same}
use Rattle.dr_laws_sound.proofs.GoesOn.{goes-same}
use Rattle.dr_laws_sound.proofs.Steps.{sound-said}
use Rattle.dr_laws_freezes.proofs.WindowMoves.{Unacked}
use Rattle.dr_laws_freezes.proofs.InSync.{in_sync-same, fresh-told}
use Rattle.dr_laws_freezes.proofs.Windows.{Good}
use Rattle.dr_laws_freezes.proofs.Chains.{ended, WindowAlong, window-nil, PlanFin, WindowHolds, Leaves, good-none, WindowEach}
use Rattle.dr_laws_freezes.proofs.WindowActs.{Between, KeepsPairs, window-entries}
use Rattle.dr_laws_freezes.proofs.WindowBegins.{Begins}

pub good-between : (w : World) → Between w → Good None w
good-between w k = good-none w k.sound.rows k.in_sync.fresh k.sound.queue.lone

pub answers-between : (first w : World) (line : ℕ) (a : Said) → Between w → Between (ended first w line a)
answers-between first w line a k = record {
  sound = sound-lost first (said w line a) (sound-said w line a k.sound);
  in_sync = in_sync-same w (ended first w line a) refl refl (λ j h. h) (fresh-told w (ended first w line a) (answer line a ∷ []) refl refl k.in_sync.fresh.unacked (λ n. refl) k.in_sync.fresh) k.in_sync;
}

pub loses-between : (first w : World) → Between w → Between (masters_lost first w)
loses-between first w k = record {
  sound = sound-lost first w k.sound;
  in_sync =
      let u : World = masters_lost first w in
      in_sync-same w u refl refl (λ j h. h) (fresh-told w u [] (sym (append-nil w.events)) refl k.in_sync.fresh.unacked (λ n. refl) k.in_sync.fresh) k.in_sync;
}

abbrev pub PlanHolds : World → Plan → Type 0
PlanHolds = WindowHolds Between good-between answers-between

pub begun-between : (w : World) → Between w → Between (as_begun w)
begun-between w k = record {
  sound = sound-begun w k.sound;
  in_sync = in_sync-same w (as_begun w) refl refl (λ j h. h) (fresh-told w (as_begun w) [] refl refl k.in_sync.fresh.unacked (λ n. refl) k.in_sync.fresh) k.in_sync;
}

-- what is to be shown of a plan's entries
abbrev pub EntriesHold : World → Plan → Type 0
EntriesHold w p = WindowAlong (PlanFin Between good-between answers-between p) None (begun w p) p.entries

-- and of what follows a stop
abbrev pub FollowHolds : World → List Entry → Type 0
FollowHolds = WindowEach Between good-between answers-between None

-- it is so where its acts keep what holds of pairs, and may come
pub window-each : (Ok : World → Act → Type 0) (Why : Refusal → Type 0) → ((v : World) (a : Act) → Ok v a → KeepsPairs v a) → (ds : List Entry) → EachFine any_world Ok Why ds → EachAlong ds → (w : World) → Between w → FollowHolds w ds
window-each Ok Why keeps [] fine al w b = (good-between w b, b)
window-each Ok Why keeps (d ∷ ds) fine al w b =
    window-entries (λ tag u r. WindowEach Between good-between answers-between tag u ds) (λ u r b. window-each Ok Why keeps ds fine.1 al.1 u b) any_world any_world Sound Ok Why Why (λ r why. why) (λ v any. tt) (λ v a ok any. keeps v a ok) (λ v a f ok any. tt)
    (λ u b sound. window-each Ok Why keeps ds fine.1 al.1 u b) (d ∷ []) w b tt (from-all any_world Ok Why Why (λ r why. why) w tt (d ∷ []) fine.0) (al.0 w b.sound)

-- how the entries of a plan end that is nothing but them
pub fin : (entries : List Entry) (a : Said) (u : World) (r : Option Refusal) → Between u → PlanFin Between good-between answers-between (entries_plan entries a) None u r
fin entries a u None b = b
fin entries a u (Some (StoppedIn s)) b = λ n. (good-between u b, b)
fin entries a u (Some r) b = b

-- ---- plans

module _ (w : World) (k : Between w) (p : Plan) (begins : Begins w (begun w p) p.told) (leaves : Leaves Between good-between answers-between p) where
  abbrev u : World
  u = begun w p

  abbrev NoneOn : Type 0
  NoneOn = (j : ℕ) → u.control.on j ≡ true → w.control.on j ≡ true

  abbrev Fins : Option ℕ → World → Option Refusal → Type 0
  Fins = PlanFin Between good-between answers-between p

  -- without entries
  sound-tables : StepHolds w p → p.entries ≡ [] → ((j : Control) → p.last j ≡ j) → Sound u
  unfolding carry
  sound-tables holds none last =
      subst (λ j. Sound (record u { control = j })) (last u.control)
      (subst (λ ds. Sound (finish p (stopped_at u ds) (carry u ds).0 (carry u ds).1)) none (along.plan-keeps Sound RowsAt MayDo keeps-sound (λ v s. s.rows) w p holds))

  pub window-by : EntriesHold w p → PlanHolds w p
  window-by fairly = record { told = p.told; begins = begins.unchanged; entries = fairly; last = leaves }

  pub window-tables : StepHolds w p → NoneOn → p.entries ≡ [] → ((j : Control) → p.last j ≡ j) → PlanHolds w p
  window-tables holds on none last =
      let b : Between u = record { sound = sound-tables holds none last; in_sync = begins.in_sync on } in
      window-by (subst (WindowAlong Fins None u) (sym none) (window-nil Fins None u (good-none u b.sound.rows b.in_sync.fresh b.sound.queue.lone) (subst (λ j. Between (record u { control = j })) (sym (last u.control)) b)))

  -- of entries that come where they may
  module _ (on : NoneOn) (orders : Orders w p) (follow : (s : ℕ) (v : World) → Between v → FollowHolds v (p.follows s)) where
    first-between : Between u
    first-between = record { sound = orders.begins; in_sync = begins.in_sync on }

    refused : (v : World) (r : Refusal) → Between v → Fins None v (Some r)
    refused v (StoppedIn s) b = λ n. follow n v b
    refused v r b = b

    ended_well : (v : World) → Between v → orders.ends v → Fins None v None
    ended_well v b e =
        let x : World = record v { control = p.last v.control } in
        let same_control : (p.last v.control ≡ record v.control { sessions = (leaves v.control).sessions; flight = (leaves v.control).flight }) = (leaves v.control).is in
        record {
          sound = orders.last v e;
          in_sync = in_sync-same v x (ap (λ (k : Control). k.volume) same_control) (ap (λ (k : Control). k.volumes) same_control) (λ j h. sym (ap (λ (k : Control). k.on j) same_control) ∙ h)
              (record {
                unacked = subst (λ (k : Control). AllPending (λ p. Unacked v p.w) k.pending) (sym same_control) b.in_sync.fresh.unacked;
                later = λ n lt. b.in_sync.fresh.later n (subst (λ (k : Control). k.issued < n) same_control lt);
              }) b.in_sync;
        }

    pub window-plan : (Ok : World → Act → Type 0) (First Why : Refusal → Type 0) → ((r : Refusal) → Why r → First r) → ((v : World) (a : Act) → Ok v a → KeepsPairs v a) → FineFrom any_world Ok First Why u p.entries → PlanHolds w p
    window-plan Ok First Why reasons keeps fine =
        window-by (window-entries Fins refused any_world any_world orders.ends Ok First Why reasons (λ v any. tt) (λ v a ok any. keeps v a ok) (λ v a f ok any. tt) ended_well p.entries u first-between tt fine orders.entries)

-- a plan of entries that are allowed along
pub alone : (w : World) → Sound w → (entries : List Entry) (says : Control → Said) → Along (as_begun w) entries → Orders w (record { first = same; told = []; entries = entries; follows = none_follow; last = same; says = says })
alone w s entries says a = record { ends = Sound; complete = λ v y. y; begins = sound-begun w s; entries = a; follows = λ q. tt; last = λ v y. y; turns = λ v y. regroups-same v.control.sessions; adds = λ v y. adds-same v.control.sessions v.control.flight v.control.flight refl; goes = λ v y. goes-same v.control }
