-- What a step changes as its entries begin: other tables than those of volumes and pending writes, but where a volume is defined or a write
-- is issued. And as it ends it leaves other sessions and messages alone.
use Rattle.std.proofs.Common.{ℕ, ◌≡◌, ◌+◌, ◌∙◌, refl, ap, Bool, true, false, List, [], ◌∷◌, ◌++◌, length, None, Result}
use Rattle.std.proofs.lemmas.List.{append-nil}
use Rattle.dr_model.specs.declared.event.Event.{Event}
use Rattle.dr_model.specs.declared.event.Event.TheVariants.{Server as ServerDefined, Volume as VolumeDefined, Issue, Begin, Shown, Started, Stopped}
use Rattle.dr_model.specs.declared.step.Step.{Step}
use Rattle.dr_model.specs.Contents.{image_at}
use Rattle.dr_model.specs.Histories.{histories, after_event}
use Rattle.dr_model.specs.Control.{Control, World}
use Rattle.dr_model.specs.MessagePlans.{sending, told_begun}
use Rattle.dr_model.specs.SessionEntries.{members_on}
use Rattle.dr_model.specs.SessionPlans.{exchanged, is_idle}
use Rattle.dr_model.specs.Plans.{Plan, volume_done, volume_refusal, with_pending}
use Rattle.dr_model.proofs.Images.{histories-append}
use Rattle.dr_laws_sound.specs.Acknowledged.{acknowledgements}
use Rattle.dr_laws_sound.proofs.Cases.{Case, DefinesServer, DefinesVolume, Issues, Writes, Lists, Shows, Stops, Starts, AddsMember, RemovesMember, Exchanges, Sends, Delivers}
use Rattle.dr_laws_sound.proofs.Listed.{AllLines, each-line, all-lines, lines-lists, lines-plain}
use Rattle.dr_laws_freezes.proofs.KeepsWindow.{takes_none, TakesNone}
use Rattle.dr_facts.proofs.Emits.{Of}
use Rattle.dr_laws_freezes.proofs.Chains.{Retabled, retabled-none}

-- volumes and pending writes are as they were, and no list hears of what is told
pub record Beside (w : World) (k : Control) (told : List Event) : Type 0 where
  pub volume : k.volume ≡ w.control.volume
  pub volumes : k.volumes ≡ w.control.volumes
  pub issued : k.issued ≡ w.control.issued
  pub pending : k.pending ≡ w.control.pending
  pub lists : histories (w.events ++ told) ≡ histories w.events
  pub takes : TakesNone told
  pub unacked : acknowledgements told ≡ []

lines-take : (told : List Event) → AllLines told → TakesNone told
lines-take = all-lines TakesNone tt (λ e es l rest. (each-line (Of takes_none) (λ line v u state kind k. refl) (λ line s t sequence previous state flags own. refl) (λ line s a b c state. refl) (λ line s server phase n paused. refl) refl (λ v server tracks. refl) (λ v index bytes. refl) refl e l, rest))

pub lines-beside : (w : World) (told : List Event) → AllLines told → Beside w w.control told
lines-beside w told ls = record { volume = refl; volumes = refl; issued = refl; pending = refl; lists = lines-lists w.events told ls; takes = lines-take told ls; unacked = (lines-plain told ls).none }

module _ (w : World) (P : Control → List Event → Type 0) (beside : (k : Control) (told : List Event) → Beside w k told → P k told)
    (defines : (v s tracks : ℕ) → volume_refusal w.control v s tracks ≡ None → P ((volume_done v s tracks).first w.control) (VolumeDefined v s tracks ∷ []))
    (issues : (v t offset len : ℕ) (bytes : List ℕ) → P (with_pending v t w.control) (Issue (w.control.issued + 1) v t offset len bytes ∷ [])) where
  told-none : (k : Control) → k.volume ≡ w.control.volume → k.volumes ≡ w.control.volumes → k.issued ≡ w.control.issued → k.pending ≡ w.control.pending → P k []
  told-none k volume volumes issued pending = beside k [] (record { volume = volume; volumes = volumes; issued = issued; pending = pending; lists = ap histories (append-nil w.events); takes = tt; unacked = refl })

  told-one : (e : Event) (k : Control) → k.volume ≡ w.control.volume → k.volumes ≡ w.control.volumes → k.issued ≡ w.control.issued → k.pending ≡ w.control.pending → after_event (histories w.events) e ≡ histories w.events → Of takes_none e
      → acknowledgements (e ∷ []) ≡ [] → P k (e ∷ [])
  told-one e k volume volumes issued pending lists takes unacked =
      beside k (e ∷ []) (record { volume = volume; volumes = volumes; issued = issued; pending = pending; lists = histories-append w.events (e ∷ []) ∙ lists; takes = (takes, tt); unacked = unacked })

  pub begins : (line : ℕ) (asked : Result Step ℕ) (p : Plan) → Case w.control w.events line asked p → P (p.first w.control) p.told
  begins line _ _ (DefinesVolume v s tracks here free) = defines v s tracks free
  begins line _ _ (Issues v t offset len bytes free) = issues v t offset len bytes
  begins line _ _ (Writes v t offset len bytes free) = issues v t offset len bytes
  begins line _ _ (Lists told ls few) = beside _ told (lines-beside w told ls)
  begins line _ _ (DefinesServer name free) = told-one (ServerDefined (length w.control.servers) name.len name.bytes) _ refl refl refl refl refl refl refl
  begins line _ _ (Shows v t there) = told-one (Shown line v t (image_at w.events v t)) _ refl refl refl refl refl refl refl
  begins line _ _ (Stops s on) = told-one (Stopped s 0) _ refl refl refl refl refl refl refl
  begins line _ _ (Starts s off) = told-one (Started s) _ refl refl refl refl refl refl refl
  begins line _ _ (Sends s server x r o posts) = by (is_idle r.master.phase)
    where
      by : (b : Bool) → P (sending s b server o w.control) (told_begun b s o.number)
      by true = told-one (Begin s o.number) _ refl refl refl refl refl refl refl
      by false = told-none _ refl refl refl refl
  begins line _ _ c = told-none _ refl refl refl refl

-- as it ends
pub leaves : (k : Control) (events : List Event) (line : ℕ) (asked : Result Step ℕ) (p : Plan) → Case k events line asked p → (j : Control) → Retabled j (p.last j)
leaves k events line _ _ (AddsMember s a c x joins) j = record { sessions = _; flight = j.flight; is = refl }
leaves k events line _ _ (RemovesMember s a x m found is idle on) j = record { sessions = _; flight = j.flight; is = refl }
leaves k events line _ _ (Exchanges s server reply x r o allowed) j = by reply
  where
    by : (b : Bool) → Retabled j (exchanged s server b o.work (members_on server x.members) j)
    by true = record { sessions = _; flight = _; is = refl }
    by false = record { sessions = _; flight = _; is = refl }
leaves k events line _ _ (Delivers n m starts x r reaches) j = record { sessions = _; flight = _; is = refl }
leaves k events line _ _ c j = retabled-none j
