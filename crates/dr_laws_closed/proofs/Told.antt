-- What a move tells makes of moments, of who stands in groups, and of lists.
use Rattle.std.proofs.Common.{ℕ, ◌≡◌, ◌≢◌, refl, ap, sym, ◌∙◌, Bool, true, false, List, [], ◌∷◌, ◌++◌, Some, None, subst}
use Rattle.std.specs.List.{fold}
use Rattle.std.proofs.lemmas.List.{append_assoc}
use Rattle.dr_model.specs.declared.event.Event.{Event}
use Rattle.dr_model.specs.declared.event.Event.TheVariants.{Begin, Cut, Flashed, Reverted, Left}
use Rattle.dr_model.specs.Histories.{Histories, Write, histories, after_event, lists}
use Rattle.dr_model.specs.Control.{Volume}
use Rattle.dr_model.specs.Moves.{Move, Land, Overwrite, Withdraw, Reverse, Release, LandBoth, Hold, Leave, Flash, Revert, Commit, told, told_in_stop}
use Rattle.dr_model.proofs.Images.{histories-append}
use Rattle.dr_facts.proofs.Heard.{elsewhere, unheard-event, unheard-write, unheard-blanked, unheard-restored, unheard-told}
use Rattle.dr_facts.proofs.Emits.{Lists as ByEvents, Tag, Flashes, Commits, Reverts, Leaves, Of, all_tags, emits, each-told, each-ended}
use Rattle.dr_laws_cuts.specs.Once.{NoCut, NoCuts}
use Rattle.dr_model.specs.Cuts.{cuts, next_cuts}
use Rattle.dr_laws_cuts.proofs.Journal.{cuts-quiet}
use Rattle.dr_laws_cuts.proofs.Told.{told-quiet, cuts-told}
use Rattle.dr_laws_closed.specs.Moments.{Memory, Standing, memory, memory_event, moments_after, moments, standing, standing_event}
use Rattle.dr_laws_closed.specs.Silent.{Still, AllStill, HearsNothing, AllApart, Silent}
use Rattle.dr_laws_closed.specs.Next.{next_moments, next_standing, Untouched}
use Rattle.dr_laws_closed.proofs.Places.{memory-history, moments-append, standing-append}

-- ---- moments

no-moment : (p : Memory) (e : Event) → NoCut e → moments_after p e ≡ p.moments
no-moment p (Cut s n a) quiet = absurd quiet
no-moment p e quiet = refl

quiet-moments : (p : Memory) (es : List Event) → NoCuts es → (fold memory_event p es).moments ≡ p.moments
quiet-moments p [] quiet = refl
quiet-moments p (e ∷ es) quiet = quiet-moments (memory_event p e) es quiet.1 ∙ no-moment p e quiet.0

pub moments-quiet : (events more : List Event) → NoCuts more → moments (events ++ more) ≡ moments events
moments-quiet events more quiet = moments-append events more ∙ quiet-moments (memory events) more quiet

module _ (events : List Event) where
  pub moments-told : (m : Move) (u : Volume) → moments (events ++ told m u) ≡ next_moments (lists events) m (moments events)
  moments-told (Hold v s n true) u = moments-append events (Begin s n ∷ Cut s n v ∷ []) ∙ ap (λ (h : Histories). next_moments h.now (Hold v s n true) (moments events)) (memory-history events)
  moments-told (Hold v s n false) u = moments-append events (Cut s n v ∷ []) ∙ ap (λ (h : Histories). next_moments h.now (Hold v s n false) (moments events)) (memory-history events)
  moments-told m u = moments-quiet events (told m u) (told-quiet m u refl)

-- ---- who stands in groups

abbrev no_group : Tag → Bool
no_group Flashes = false
no_group Commits = false
no_group Reverts = false
no_group Leaves = false
no_group k = true

still-kind : (e : Event) → Of no_group e → Still e
still-kind (Left s a) h = absurd cc
still-kind e h = first_of (assumption, cc)

still : ByEvents (Of no_group) AllStill
still = record { none = tt; more = λ e es h behind. (still-kind e h, behind) }

pub still-told : (m : Move) (u : Volume) → all_tags no_group (emits m) ≡ true → AllStill (told m u)
still-told = each-told no_group AllStill still

pub still-ended : (v : ℕ) (u : Volume) → AllStill (told (Reverse v None) u)
still-ended v u = each-ended no_group AllStill still v u refl

no-change : (g : Standing) (e : Event) → Still e → standing_event g e ≡ g
no-change g (Flashed s n a b c) quiet = absurd quiet
no-change g (Reverted s n a c) quiet = absurd quiet
no-change g (Left s a) quiet = absurd quiet
no-change g e quiet = refl

-- a fold that passes over them
pub fold-still : (f : Standing → Event → Standing) → ((g : Standing) (e : Event) → Still e → f g e ≡ g) → (g : Standing) (es : List Event) → AllStill es → fold f g es ≡ g
fold-still f same g [] quiet = refl
fold-still f same g (e ∷ es) quiet = fold-still f same (f g e) es quiet.1 ∙ same g e quiet.0

pub standing-still : (events more : List Event) → AllStill more → standing (events ++ more) ≡ standing events
standing-still events more quiet = standing-append events more ∙ fold-still standing_event no-change (standing events) more quiet

module _ (events : List Event) where
  pub standing-told : (m : Move) (u : Volume) → standing (events ++ told m u) ≡ next_standing m u (standing events)
  standing-told (Reverse v None) u = standing-still events _ (still-ended v u)
  standing-told (Reverse v (Some a)) u = standing-append events (told (Reverse v (Some a)) u) ∙ fold-still standing_event no-change _ _ (still-ended v u)
  standing-told (Leave v a s) u = standing-append events _
  standing-told (Flash v from a s n) u = standing-append events _
  standing-told (Commit v a s n) u = standing-append events _
  standing-told (Revert v a s n) u = standing-append events _
  standing-told m u = standing-still events _ (still-told m u refl)

-- ---- lists

-- nothing is asked of an acknowledgement but that its write is of another volume
abbrev OfOther : (ℕ → Write) → ℕ → ℕ → Type 0
OfOther write v n = v ≢ (write n).volume

apart-event : (h : Histories) (e : Event) (v t : ℕ) → HearsNothing h.write v e → (after_event h e).now v t ≡ h.now v t
apart-event h e v t a = unheard-event (OfOther h.write v) h e v t a (λ n is ne. ap (λ e. (after_event h e).now v t) is ∙ elsewhere v (h.write n).volume _ (h.now v t) ne)

apart-fold : (h : Histories) (es : List Event) (v t : ℕ) → AllApart h.write v es → (fold after_event h es).now v t ≡ h.now v t
apart-fold h [] v t a = refl
apart-fold h (e ∷ es) v t a =
    apart-fold (after_event h e) es v t (subst (λ (f : ℕ → Write). AllApart f v es) (sym (unheard-write (OfOther h.write v) h e v a.0)) a.1) ∙ apart-event h e v t a.0

told-apart : (write : ℕ → Write) (m : Move) (u : Volume) (v : ℕ) → Untouched write m v → AllApart write v (told m u)
told-apart write (Withdraw x) u v ne = unheard-blanked (OfOther write v) v x _ ne
told-apart write (Reverse x None) u v ne = unheard-restored (OfOther write v) v x _ _ _ ne
told-apart write (Reverse x (Some p)) u v ne = (tt, unheard-restored (OfOther write v) v x _ _ _ ne)
told-apart write (Release x t) u v ne = unheard-restored (OfOther write v) v x _ _ _ ne
told-apart write m u v ne = first_of (assumption, search (unheard-told (OfOther write v) v m u))

pub lists-apart : (events more : List Event) (v t : ℕ) → AllApart (histories events).write v more → lists (events ++ more) v t ≡ lists events v t
lists-apart events more v t a = ap (λ (h : Histories). h.now v t) (histories-append events more) ∙ apart-fold (histories events) more v t a

-- ---- a move that is done, and one that counts as done in a stop

-- what was told of a move
pub record ToldOf (before after : List Event) (m : Move) (u : Volume) : Type 0 where
  pub cut : cuts after ≡ next_cuts (lists before) m (cuts before)
  pub moment : moments after ≡ next_moments (lists before) m (moments before)
  pub stand : standing after ≡ next_standing m u (standing before)
  pub list : (v t : ℕ) → Untouched (histories before).write m v → lists after v t ≡ lists before v t

pub told-of : (before after : List Event) (m : Move) (u : Volume) → after ≡ before ++ told m u → ToldOf before after m u
told-of before after m u is = record {
  cut = ap cuts is ∙ cuts-told before m u;
  moment = ap moments is ∙ moments-told before m u;
  stand = ap standing is ∙ standing-told before m u;
  list = λ v t ne. ap (λ es. lists es v t) is ∙ lists-apart before (told m u) v t (told-apart (histories before).write m u v ne);
}

quiet-of : (before more : List Event) (m : Move) (u : Volume) → next_cuts (lists before) m (cuts before) ≡ cuts before → next_moments (lists before) m (moments before) ≡ moments before → next_standing m u (standing before) ≡ standing before → Silent more → ToldOf before (before ++ more) m u
quiet-of before more m u cut moment stand s = record {
  cut = cuts-quiet before more s.cut ∙ sym cut;
  moment = moments-quiet before more s.cut ∙ sym moment;
  stand = standing-still before more s.stand ∙ sym stand;
  list = λ v t ne. lists-apart before more v t (s.list (histories before).write v);
}

followed : (before middle more : List Event) (m : Move) (u : Volume) → Silent more → ToldOf before middle m u → ToldOf before (middle ++ more) m u
followed before middle more m u s t = record {
  cut = cuts-quiet middle more s.cut ∙ t.cut;
  moment = moments-quiet middle more s.cut ∙ t.moment;
  stand = standing-still middle more s.stand ∙ t.stand;
  list = λ v q ne. lists-apart middle more v q (s.list (histories middle).write v) ∙ t.list v q ne;
}

stopped-by : (before more : List Event) (m : Move) (u : Volume) → Silent more → ToldOf before (before ++ (told_in_stop m u ++ more)) m u
stopped-by before more (Land n v t) u s = quiet-of before more (Land n v t) u refl refl refl s
stopped-by before more (Overwrite n v t) u s = quiet-of before more (Overwrite n v t) u refl refl refl s
stopped-by before more (LandBoth n v t) u s = quiet-of before more (LandBoth n v t) u refl refl refl s
stopped-by before more m u s = subst (λ es. ToldOf before es m u) (append_assoc before (told m u) more) (followed before (before ++ told m u) more m u s (told-of before (before ++ told m u) m u refl))

pub stopped-of : (before after more : List Event) (m : Move) (u : Volume) → Silent more → after ≡ before ++ (told_in_stop m u ++ more) → ToldOf before after m u
stopped-of before after more m u s is = subst (λ es. ToldOf before es m u) (sym is) (stopped-by before more m u s)
