-- The cuts of a journal, one event further and several.
use Rattle.std.proofs.Common.{ℕ, ◌≡◌, refl, ap, ◌∙◌, List, [], ◌∷◌, ◌++◌}
use Rattle.std.proofs.lemmas.List.Sums.{fold-append}
use Rattle.std.specs.List.{fold}
use Rattle.dr_model.specs.declared.event.Event.{Event}
use Rattle.dr_model.specs.declared.event.Event.TheVariants.{Cut}
use Rattle.dr_model.specs.Histories.{Histories, histories, after_event, lists}
use Rattle.dr_model.specs.Cuts.{Past, past, cuts, past_event, cuts_after, cut_for}
use Rattle.dr_laws_cuts.specs.Once.{no_past, IsNew, AllNew, CutOnce, NoCut, NoCuts}

-- the histories are those of the journal
history-fold : (p : Past) (es : List Event) → (fold past_event p es).history ≡ fold after_event p.history es
history-fold p [] = refl
history-fold p (e ∷ es) = history-fold (past_event p e) es

pub past-history : (events : List Event) → (past events).history ≡ histories events
unfolding past histories
past-history events = history-fold no_past events

pub past-append : (events more : List Event) → past (events ++ more) ≡ fold past_event (past events) more
unfolding past
past-append events more = fold-append past_event no_past events more

pub past-push : (events : List Event) (e : Event) → past (events ++ e ∷ []) ≡ past_event (past events) e
past-push events e = past-append events (e ∷ [])

pub cuts-append : (events more : List Event) → cuts (events ++ more) ≡ (fold past_event (past events) more).cuts
cuts-append events more = ap (λ (p : Past). p.cuts) (past-append events more)

pub cuts-push : (events : List Event) (e : Event) → cuts (events ++ e ∷ []) ≡ cuts_after (past events) e
cuts-push events e = cuts-append events (e ∷ [])

-- events that cut no volume leave the cuts
no-cut : (p : Past) (e : Event) → NoCut e → cuts_after p e ≡ p.cuts
no-cut p (Cut s n a) quiet = absurd quiet
no-cut p e quiet = refl

quiet-fold : (p : Past) (es : List Event) → NoCuts es → (fold past_event p es).cuts ≡ p.cuts
quiet-fold p [] quiet = refl
quiet-fold p (e ∷ es) quiet = quiet-fold (past_event p e) es quiet.1 ∙ no-cut p e quiet.0

pub cuts-quiet : (events more : List Event) → NoCuts more → cuts (events ++ more) ≡ cuts events
cuts-quiet events more quiet = cuts-append events more ∙ quiet-fold (past events) more quiet

-- nor is a volume cut twice by it
is-new : (p : Past) (e : Event) → NoCut e → IsNew p e
is-new p (Cut s n a) quiet = absurd quiet
is-new p e quiet = tt

quiet-new : (p : Past) (es : List Event) → NoCuts es → AllNew p es
unfolding AllNew
quiet-new p [] quiet = tt
quiet-new p (e ∷ es) quiet = (is-new p e quiet.0, quiet-new (past_event p e) es quiet.1)

new-more : (p : Past) (es more : List Event) → AllNew p es → AllNew (fold past_event p es) more → AllNew p (es ++ more)
unfolding AllNew
new-more p [] more here then-new = then-new
new-more p (e ∷ es) more here then-new = (here.0, new-more (past_event p e) es more here.1 then-new)

pub once-append : (events more : List Event) → CutOnce events → AllNew (past events) more → CutOnce (events ++ more)
unfolding past
once-append events more here later = new-more no_past events more here later

pub once-none : CutOnce []
unfolding AllNew
once-none = tt

pub once-quiet : (events more : List Event) → NoCuts more → CutOnce events → CutOnce (events ++ more)
once-quiet events more quiet here = once-append events more here (quiet-new (past events) more quiet)

-- a cut takes the lists of the journal
pub cut-pushed : (events : List Event) (s n a : ℕ) → cuts (events ++ Cut s n a ∷ []) ≡ cut_for s n a (lists events) (cuts events)
cut-pushed events s n a = cuts-push events (Cut s n a) ∙ ap (λ (h : Histories). cut_for s n a h.now (cuts events)) (past-history events)
