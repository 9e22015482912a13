-- Recovery's targets show what the first site's volumes held as the members' primaries were cut.
use Rattle.std.proofs.Common.{ℕ, ◌≡◌, ◌<◌, ◌+◌, inl, inr, refl, ap, sym, ◌∙◌, subst, Bool, List, [], ◌∷◌, ◌++◌, Option}
use Rattle.std.specs.List.{fold}
use Rattle.dr_logic.specs.Bytes.{zeros}
use Rattle.dr_ids.specs.declared.names.Member.{Member}
use Rattle.dr_model.specs.declared.event.Event.{Event}
use Rattle.dr_model.specs.declared.event.Event.TheVariants.{Ack, Mirrored, Cut, Stopped}
use Rattle.dr_model.specs.Layout.{Blocks}
use Rattle.dr_model.specs.Histories.{Write, Histories, histories, lists}
use Rattle.dr_model.specs.Contents.{image, laid, with_write}
use Rattle.dr_model.specs.Control.{Fuse, World}
use Rattle.dr_model.specs.Fits.{Fits}
use Rattle.dr_model.specs.Groups.{In, MemberStands}
use Rattle.dr_model.specs.Laws.{Sound}
use Rattle.dr_model.specs.Recovery.{Recovery}
use Rattle.dr_model.specs.Runs.{Task, run}
use Rattle.dr_model.proofs.Images.{histories-append}
use Rattle.dr_facts.proofs.Emits.{AllOf}
use Rattle.dr_laws_targets.proofs.Held.{held-stored}
use Rattle.dr_laws_sound.proofs.Steps.{sound-run}
use Rattle.dr_laws_freezes.proofs.EndsInCut.{last-moment}
use Rattle.dr_laws_recovery.specs.Recovered.{recovered_on, HoldsTracks}
use Rattle.dr_laws_recovery.specs.Headline.{GivesCut}
use Rattle.dr_laws_recovery.proofs.HeadlineAlong.{headline-run}
use Rattle.dr_laws_recovery.proofs.TakenAt.{kept-or-taken}
use Rattle.dr_laws_sites.specs.FirstSite.{ShowsFirst}
use Rattle.dr_laws_sites.specs.CutMoments.{AtMostStop}
use Rattle.dr_laws_sites.specs.BothLost.{ShowsFirstWhere, BothSitesLost}
use Rattle.dr_laws_sites.proofs.Along.{IsLow, AllLow, Lasts, At, run-moment}
use Rattle.dr_laws_sites.proofs.FirstSite.{to, shows-first}

-- where two journals agree on each write of a list, its image is the same
fold-agrees : (f g : ℕ → Write) (bytes : List ℕ) (ws : List ℕ) → ((k : ℕ) → In k ws → f k ≡ g k) → fold (with_write f) bytes ws ≡ fold (with_write g) bytes ws
fold-agrees f g bytes [] agree = refl
fold-agrees f g bytes (w ∷ ws) agree =
    ap (λ (x : Write). fold (with_write f) (laid x.offset x.bytes bytes) ws) (agree w (inl refl))
    ∙ fold-agrees f g (with_write g bytes w) ws (λ k here. agree k (inr here))

image-agrees : (f g : ℕ → Write) (ws : List ℕ) → ((k : ℕ) → In k ws → f k ≡ g k) → image f ws ≡ image g ws
unfolding image
image-agrees f g ws agree = fold-agrees f g zeros ws agree

-- each event of a list is such
one-of : (P : Event → Type 0) (e : Event) (es : List Event) → AllOf P es → In e es → P e
one-of P e [] all here = absurd here
one-of P e (x ∷ xs) all (inl is) = subst P (sym is) all.0
one-of P e (x ∷ xs) all (inr here) = one-of P e xs all.1 here

-- so each write that a list has was issued
list-low : (n : ℕ) (events : List Event) → AllLow n events → (v t k : ℕ) → In k (lists events v t) → k < n
list-low n events low v t k here = elim (held-stored events k v t here) [
  | inl acked ↦ one-of (IsLow n) (Ack k) events low acked
  | inr m ↦ one-of (IsLow n) (Mirrored k m.secondary) events low m.told
]

-- a cut leaves the lists, and so does a stop after it
cut-lists : (front : List Event) (s n a : ℕ) (after : List Event) → AtMostStop after → histories (front ++ Cut s n a ∷ after) ≡ histories front
cut-lists front s n a [] stop = histories-append front (Cut s n a ∷ [])
cut-lists front s n a (Stopped server landed ∷ []) stop = histories-append front (Cut s n a ∷ Stopped server landed ∷ [])
cut-lists front s n a after stop = absurd stop

module _ (tasks : List Task) (x_number n : ℕ) (m : Member) (stands : MemberStands (run tasks).control m) (r : Recovery) (front : List Event) (cut : ℕ)
    (shows : (t : ℕ) → t < ((run tasks).control.volume m.c.0).tracks → r.image m.c.0 t ≡ image (histories (run tasks).events).write (lists front m.a.0 t)) where
  shows-where : ShowsFirstWhere tasks (run tasks) r x_number n m front cut
  shows-where before later u is just v first =
      let at : At u later = run-moment tasks before later u is in
      let lasts : Lasts u (run tasks) = subst (Lasts u) (last-moment tasks before later u is) at.lasts in
      let a : ℕ = m.a.0 in
      let here : ShowsFirst u v a = shows-first u at.good.rows at.holds v a first in
      let there = (at.good.rows.parts.secondary v a (to u at.good.rows at.holds v a first)).defined in
      let size : ((run tasks).control.volume m.c.0).tracks ≡ (u.control.volume v).tracks = stands.target_tracks ∙ stands.tracks ∙ lasts.tracks a there ∙ here.size in
      let same : lists u.events a ≡ lists front a = ap (λ (h : Histories). h.now a) (ap histories just.is ∙ cut-lists front x_number n cut just.after just.last) in
      record {
        shows = λ t lt out.
            shows t lt ∙ ap (λ (l : ℕ → List ℕ). image (histories (run tasks).events).write (l t)) (sym same)
            ∙ image-agrees (histories (run tasks).events).write (histories u.events).write (lists u.events a t) (λ k held. lasts.writes k (list-low (u.control.issued + 1) u.events at.holds.low a t k held))
            ∙ here.tracks t (subst (λ n. t < n) size lt) out;
        kept = λ k t acked. kept-or-taken tasks u.events lasts.told lasts.events k v t acked;
      }

lost-here : (tasks : List Task) (on : ℕ → Bool) (fuse : ℕ → Option Fuse) (device : ℕ → Blocks) → Fits (run tasks) on fuse device → HoldsTracks (run tasks) device → BothSitesLost tasks device
lost-here tasks on fuse device fits holds x listed n newest =
    let w : World = run tasks in
    let r : Recovery = recovered_on w device x.number in
    let sound : Sound w = sound-run tasks in
    let gives : GivesCut tasks w r x n = (headline-run tasks w on fuse device refl fits holds x listed).newest n newest in
    let stands = (sound.groups.each x listed).stands in
    record {
      cut = λ m here group c. shows-where tasks x.number n m (stands m here) r c.before m.a.0 (gives.shows m here group c);
      last = λ m here group p.
          let c = gives.closed.cut m.a.0 group in
          shows-where tasks x.number n m (stands m here) r p.place.before p.volume
          (λ t lt. gives.shows m here group c t lt ∙ ap (image (histories w.events).write) (gives.closed.moment m.a.0 group c p t));
    }

-- where the steps lead to a world, by the devices of a plant that fits it
pub lost-run : (tasks : List Task) (w : World) (on : ℕ → Bool) (fuse : ℕ → Option Fuse) (device : ℕ → Blocks) → run tasks ≡ w → Fits w on fuse device → HoldsTracks w device → BothSitesLost tasks device
lost-run tasks w on fuse device leads fits holds = lost-here tasks on fuse device (subst (λ v. Fits v on fuse device) (sym leads) fits) (subst (λ v. HoldsTracks v device) (sym leads) holds)
