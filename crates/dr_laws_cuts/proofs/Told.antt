-- What each kind of move tells the journal makes of the cuts: a hold alone cuts.
use Rattle.std.proofs.Common.{ℕ, ◌≡◌, refl, ap, sym, ◌∙◌, subst, Bool, true, false, List, [], ◌∷◌, ◌++◌}
use Rattle.std.proofs.lemmas.List.{append_assoc}
use Rattle.dr_model.specs.declared.event.Event.{Event}
use Rattle.dr_model.specs.declared.event.Event.TheVariants.{Begin, Cut}
use Rattle.dr_model.specs.Histories.{Histories, Write, lists}
use Rattle.dr_model.specs.Control.{Volume}
use Rattle.dr_model.specs.Moves.{Move, Hold, told, told_in_stop}
use Rattle.dr_model.specs.Table.{Table}
use Rattle.dr_model.specs.Laws.{Each, SoundRows}
use Rattle.dr_model.specs.Allowed.{Allowed}
use Rattle.dr_model.specs.Cuts.{Cuts, RowCuts, cuts, cut_for, next_cuts}
use Rattle.dr_laws_cuts.specs.Once.{AllNew, CutOnce, NoCut, NoCuts, HoldsNew}
use Rattle.dr_facts.proofs.Emits.{Tag, Cuts as CutsTag, Of, Lists, all_tags, emits, each-told, each-stop}
use Rattle.dr_laws_cuts.proofs.Journal.{past-history, cuts-append, cut-pushed, cuts-quiet, once-append, once-quiet}
use Rattle.dr_laws_cuts.proofs.KeepsCut.{fresh}

-- a move that tells no cut
abbrev no_cut : Tag → Bool
no_cut CutsTag = false
no_cut k = true

abbrev pub TellsNoCut : Move → Type 0
TellsNoCut m = all_tags no_cut (emits m) ≡ true

cuts-none : (e : Event) → Of no_cut e → NoCut e
cuts-none (Cut s n a) h = absurd cc
cuts-none e h = tt

no-cuts : Lists (Of no_cut) NoCuts
no-cuts = record { none = tt; more = λ e es h behind. (cuts-none e h, behind) }

pub told-quiet : (m : Move) (u : Volume) → TellsNoCut m → NoCuts (told m u)
told-quiet = each-told no_cut NoCuts no-cuts

pub stop-quiet : (m : Move) (u : Volume) → TellsNoCut m → NoCuts (told_in_stop m u)
stop-quiet = each-stop no_cut NoCuts no-cuts

module _ (events : List Event) where
  begun-cut : (s n a : ℕ) → cuts (events ++ Begin s n ∷ Cut s n a ∷ []) ≡ cut_for s n a (lists events) (cuts events)
  begun-cut s n a = cuts-append events (Begin s n ∷ Cut s n a ∷ []) ∙ ap (λ (h : Histories). cut_for s n a h.now (cuts events)) (past-history events)

  -- the cuts after what is told
  pub cuts-told : (m : Move) (u : Volume) → cuts (events ++ told m u) ≡ next_cuts (lists events) m (cuts events)
  cuts-told (Hold v s n true) u = begun-cut s n v
  cuts-told (Hold v s n false) u = cut-pushed events s n v
  cuts-told m u = cuts-quiet events _ (told-quiet m u refl)

  -- and where the server stopped in it
  cuts-told-in-stop : (m : Move) (u : Volume) → cuts (events ++ told_in_stop m u) ≡ next_cuts (lists events) m (cuts events)
  cuts-told-in-stop (Hold v s n first) u = cuts-told (Hold v s n first) u
  cuts-told-in-stop m u = cuts-quiet events _ (stop-quiet m u refl)

  pub cuts-stopped : (more : List Event) (m : Move) (u : Volume) → NoCuts more → cuts (events ++ (told_in_stop m u ++ more)) ≡ next_cuts (lists events) m (cuts events)
  cuts-stopped more m u quiet = ap cuts (sym (append_assoc events (told_in_stop m u) more)) ∙ (cuts-quiet (events ++ told_in_stop m u) more quiet ∙ cuts-told-in-stop m u)

  -- no volume is cut twice by it
  pub once-told : (m : Move) (u : Volume) → CutOnce events → HoldsNew (cuts events) m → CutOnce (events ++ told m u)
  unfolding AllNew
  once-told (Hold v s n true) u once new = once-append events (Begin s n ∷ Cut s n v ∷ []) once (tt, (new, tt))
  once-told (Hold v s n false) u once new = once-append events (Cut s n v ∷ []) once (new, tt)
  once-told m u once new = once-quiet events (told m u) (told-quiet m u refl) once

  once-told-in-stop : (m : Move) (u : Volume) → CutOnce events → HoldsNew (cuts events) m → CutOnce (events ++ told_in_stop m u)
  once-told-in-stop (Hold v s n first) u once new = once-told (Hold v s n first) u once new
  once-told-in-stop m u once new = once-quiet events (told_in_stop m u) (stop-quiet m u refl) once

  pub once-stopped : (more : List Event) (m : Move) (u : Volume) → NoCuts more → CutOnce events → HoldsNew (cuts events) m → CutOnce (events ++ (told_in_stop m u ++ more))
  once-stopped more m u quiet once new = subst CutOnce (append_assoc events (told_in_stop m u) more) (once-quiet (events ++ told_in_stop m u) more quiet (once-told-in-stop m u once new))

-- a hold that is allowed is the first of its number
pub holds-new : (write : ℕ → Write) (T : Table) (rows : SoundRows T) (c : Cuts) → Each (RowCuts c) T → (m : Move) → Allowed write T m → HoldsNew c m
holds-new write T rows c cut (Hold v s n first) a = fresh write T rows c (λ x t. []) cut v n a
holds-new write T rows c cut m a = tt
