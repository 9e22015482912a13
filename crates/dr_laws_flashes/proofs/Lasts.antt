-- Along a stretch of moments: what a source with a flash hold holds stays, and so does each track of a target that no host write reaches.
use Rattle.std.proofs.Common.{ℕ, ◌≡◌, ◌≢◌, ◌<◌, ◌+◌, inl, inr, refl, ap, sym, ◌∙◌, subst, Bool, true, false, List, [], ◌∷◌, ◌++◌, Option}
use Rattle.std.proofs.Math.Bool.{or-false}
use Rattle.std.specs.Prelude.{All}
use Rattle.std.specs.List.{list_any}
use Rattle.std.proofs.lemmas.Bool.{or_parts}
use Rattle.std.proofs.lemmas.List.Elements.{All-head, All-tail}
use Rattle.std.proofs.lemmas.List.Folds.{list_any-append}
use Rattle.dr_model.specs.declared.event.Event.{Event}
use Rattle.dr_model.specs.declared.event.Event.TheVariants.{Ack, Stopped}
use Rattle.dr_model.specs.Histories.{Write, histories, lists}
use Rattle.dr_model.specs.Control.{Volume, World, is_volume}
use Rattle.dr_model.specs.Moves.{Move, Land, Overwrite, LandBoth, target, told, told_in_stop, landed}
use Rattle.dr_model.specs.Carry.{Make, acknowledged}
use Rattle.dr_model.specs.Table.{table, waiting}
use Rattle.dr_model.specs.Laws.{SoundRows}
use Rattle.dr_facts.proofs.Issued.{with-told}
use Rattle.dr_laws_sound.proofs.Unissued.{done-writes, stopped-writes}
use Rattle.dr_laws_freezes.specs.Windows.{last_of}
use Rattle.dr_laws_freezes.proofs.WindowMoves.{MayCome}
use Rattle.dr_laws_freezes.proofs.KeepsStep.{Step, Does, Stops, Acks, Others, Passes, Acknowledges}
use Rattle.dr_laws_freezes.proofs.Windows.{Chain, Last, Then, good, Grows, step-grows, chain-grows, told-on}
use Rattle.dr_laws_flashes.specs.Windows.{changes, reaches}
use Rattle.dr_laws_flashes.proofs.Waits.{Holds, Still, LandsElse, lands-else, step-still}
use Rattle.dr_laws_flashes.proofs.Stays.{Off, LandsOff, told-stays, stop-stays, ack-stays, passing-stays, lists-after, settled-stays, stopped-stays, on-off, stop-off}
use Rattle.dr_laws_sound.proofs.Turns.{done, done_in_stop}

-- no event since w is such
abbrev pub NoneSince : (Event → Bool) → World → World → Type 0
NoneSince test w x = (es : List Event) → x.events ≡ w.events ++ es → list_any test es ≡ false

-- ---- a source with a flash hold

else-off : (v q : ℕ) (m : Move) → LandsElse v m → LandsOff v q m
else-off v q (Land n x t) ne = inl ne
else-off v q (Overwrite n x t) ne = inl ne
else-off v q (LandBoth n x t) ne = inl ne
else-off v q m ne = tt

-- an acknowledgement is of no volume that waits for nothing
pub acks-else : (w : World) (v n : ℕ) → Still w → Holds v w → (a : Acknowledges w n) → v ≢ a.volume
acks-else w v n still h a e =
    let none : waiting w.control.pending a.volume a.track ≡ [] = ap (λ j. waiting w.control.pending j a.track) (sym e) ∙ still v a.track h in
    let no : n ∷ [] ≡ [] = sym a.here ∙ none in absurd cc

source-step : (v q : ℕ) (tag : Option ℕ) (w : World) (next : Option ℕ) (u : World) → (s : Step tag w next u) → Still w → Holds v w → NoneSince (changes v) w u → lists u.events v q ≡ lists w.events v q
source-step v q tag w _ _ (Does m f may fair asks) still h none =
    let u : Volume = w.control.volume (target m) in
    lists-after w (done w m f) (told m u) v q refl (told-stays w m u v q may (else-off v q m (lands-else w v m may h)) (none _ refl))
source-step v q tag w _ _ (Stops m f may fair asks) still h none =
    let u : Volume = w.control.volume (target m) in
    lists-after w (done_in_stop w m f) (told_in_stop m u ++ Stopped u.server (landed m) ∷ []) v q refl (stop-stays w m u u.server (landed m) v q (none _ refl))
source-step v q tag w _ _ (Acks n a) still h none = lists-after w (acknowledged w n) (Ack n ∷ []) v q refl (ack-stays w n v q (inl (λ e. acks-else w v n still h a (e ∙ a.on_volume))))
source-step v q tag w _ _ (Others next u ss step) still h none = source-step v q tag w next u step still h none
source-step v q tag w _ _ (Passes next u es x less) still h none = lists-after w u es v q x.events (passing-stays w es v q x.takes (none es x.events))

-- ---- a track that no write reaches

-- the numbers that were issued keep their writes
abbrev pub Alike : (ℕ → Write) → World → Type 0
Alike write w = (n : ℕ) → n < w.control.issued + 1 → write n ≡ (histories w.events).write n

pub record Same (v q : ℕ) (w u : World) : Type 0 where
  pub lists : lists u.events v q ≡ lists w.events v q
  pub waits : waiting u.control.pending v q ≡ waiting w.control.pending v q

as-known : (w : World) (write : ℕ → Write) (n v q : ℕ) → Alike write w → n < w.control.issued + 1 → Off v q (write n).volume (write n).track → Off v q ((histories w.events).write n).volume ((histories w.events).write n).track
as-known w write n v q same lt off = subst (λ (x : Write). Off v q x.volume x.track) (same n lt) off

move-off : (w : World) (write : ℕ → Write) (n x t v q : ℕ) → Alike write w → n < w.control.issued + 1 → ((histories w.events).write n).volume ≡ x → ((histories w.events).write n).track ≡ t → Off v q (write n).volume (write n).track → Off v q x t
move-off w write n x t v q same lt volume track off = by (as-known w write n v q same lt off)
  where
    by : Off v q ((histories w.events).write n).volume ((histories w.events).write n).track → Off v q x t
    by (inl ne) = inl (λ e. ne (e ∙ sym volume))
    by (inr ne) = inr (λ e. ne (e ∙ sym track))

done-off : (w : World) (write : ℕ → Write) (v q : ℕ) (m : Move) (u : Volume) → MayCome w m → Alike write w → list_any (reaches write v q) (told m u) ≡ false → LandsOff v q m
done-off w write v q (Land n x t) u may same none = move-off w write n x t v q same may.ready.number may.ready.volume may.ready.track (on-off write v q n (sym (or-false _) ∙ none))
done-off w write v q (Overwrite n x t) u may same none = move-off w write n x t v q same may.ready.number may.ready.volume may.ready.track (on-off write v q n (sym (or-false _) ∙ none))
done-off w write v q (LandBoth n x t) u may same none = move-off w write n x t v q same may.ready.number may.ready.volume may.ready.track (on-off write v q n (sym (or-false _) ∙ none))
done-off w write v q m u may same none = tt

stopped-off : (w : World) (write : ℕ → Write) (v q : ℕ) (m : Move) (u : Volume) (s : ℕ) → MayCome w m → Alike write w → list_any (reaches write v q) (told_in_stop m u ++ Stopped s (landed m) ∷ []) ≡ false → LandsOff v q m
stopped-off w write v q (Land n x t) u s may same none = move-off w write n x t v q same may.ready.number may.ready.volume may.ready.track (stop-off write v q s n may.ready.positive (sym (or-false _) ∙ none))
stopped-off w write v q (Overwrite n x t) u s may same none = move-off w write n x t v q same may.ready.number may.ready.volume may.ready.track (stop-off write v q s n may.ready.positive (sym (or-false _) ∙ none))
stopped-off w write v q (LandBoth n x t) u s may same none = move-off w write n x t v q same may.ready.number may.ready.volume may.ready.track (stop-off write v q s n may.ready.positive (sym (or-false _) ∙ none))
stopped-off w write v q m u s may same none = tt

target-step : (v q : ℕ) (write : ℕ → Write) (tag : Option ℕ) (w : World) (next : Option ℕ) (u : World) → (s : Step tag w next u) → Alike write w
    → NoneSince (changes v) w u → NoneSince (reaches write v q) w u → Same v q w u
target-step v q write tag w _ _ (Does m f may fair asks) same none untouched =
    let u : Volume = w.control.volume (target m) in
    record {
      lists = lists-after w (done w m f) (told m u) v q refl (told-stays w m u v q may (done-off w write v q m u may same (untouched _ refl)) (none _ refl));
      waits = settled-stays w m v q may;
    }
target-step v q write tag w _ _ (Stops m f may fair asks) same none untouched =
    let u : Volume = w.control.volume (target m) in
    record {
      lists = lists-after w (done_in_stop w m f) (told_in_stop m u ++ Stopped u.server (landed m) ∷ []) v q refl (stop-stays w m u u.server (landed m) v q (none _ refl));
      waits = stopped-stays w m v q may (stopped-off w write v q m u u.server may same (untouched _ refl));
    }
target-step v q write tag w _ _ (Acks n a) same none untouched =
    let off : Off v q ((histories w.events).write n).volume ((histories w.events).write n).track = as-known w write n v q same a.number (on-off write v q n (sym (or-false _) ∙ untouched (Ack n ∷ []) refl)) in
    record { lists = lists-after w (acknowledged w n) (Ack n ∷ []) v q refl (ack-stays w n v q off); waits = a.else v q (by off) }
  where
    by : Off v q ((histories w.events).write n).volume ((histories w.events).write n).track → Off v q a.volume a.track
    by (inl ne) = inl (λ e. ne (e ∙ sym a.on_volume))
    by (inr ne) = inr (λ e. ne (e ∙ sym a.on_track))
target-step v q write tag w _ _ (Others next u ss step) same none untouched = let s = target-step v q write tag w next u step same none untouched in record { lists = s.lists; waits = s.waits }
target-step v q write tag w _ _ (Passes next u es x less) same none untouched =
    record { lists = lists-after w u es v q x.events (passing-stays w es v q x.takes (none es x.events)); waits = x.waits v q }

-- ---- the writes of a journal, from each moment to the last

step-alike : (tag : Option ℕ) (w : World) (next : Option ℕ) (u : World) → Step tag w next u → (n : ℕ) → n < w.control.issued + 1 → ((histories u.events).write n ≡ (histories w.events).write n) × (n < u.control.issued + 1)
step-alike tag w _ _ (Does m f may fair asks) n lt = (ap (λ (g : ℕ → Write). g n) (done-writes w (Make m) f), lt)
step-alike tag w _ _ (Stops m f may fair asks) n lt = (ap (λ (g : ℕ → Write). g n) (stopped-writes w m), lt)
step-alike tag w _ _ (Acks k a) n lt = (ap (λ (g : ℕ → Write). g n) (with-told w (Ack k ∷ []) refl), lt)
step-alike tag w _ _ (Others next u ss step) n lt = step-alike tag w next u step n lt
step-alike tag w _ _ (Passes next u es x less) n lt = (x.writes n lt, x.issued n lt)

-- a volume that is defined stays so
step-there : (tag : Option ℕ) (w : World) (next : Option ℕ) (u : World) → Step tag w next u → (v : ℕ) → is_volume w.control v ≡ true → is_volume u.control v ≡ true
step-there tag w _ _ (Does m f may fair asks) v there = there
step-there tag w _ _ (Stops m f may fair asks) v there = there
step-there tag w _ _ (Acks k a) v there = there
step-there tag w _ _ (Others next u ss step) v there = step-there tag w next u step v there
step-there tag w _ _ (Passes next u es x less) v there = x.there v there

-- a chain from a moment on, of which a stretch is looked at
module _ (after : List World) where
  pub chain-alike : (later : List World) (tag : Option ℕ) (w : World) (us : List World) → us ≡ later ++ after → Chain tag w us → Alike (histories (last_of w later).events).write w
  chain-alike [] tag w us e c n lt = refl
  chain-alike (y ∷ ys) _ _ _ e (Last tag w g) n lt = absurd cc
  chain-alike (y ∷ ys) _ _ _ e (Then tag next w u us g s c) n lt =
      let here : u ≡ y = cc in let there : us ≡ ys ++ after = cc in
      let one = step-alike tag w next u s n lt in
      ap (λ y. (histories (last_of y ys).events).write n) (sym here) ∙ chain-alike ys next u us there c n one.1 ∙ one.0

  pub chain-there : (later : List World) (tag : Option ℕ) (w : World) (us : List World) → us ≡ later ++ after → Chain tag w us → (v : ℕ) → is_volume w.control v ≡ true → is_volume (last_of w later).control v ≡ true
  chain-there [] tag w us e c v there = there
  chain-there (y ∷ ys) _ _ _ e (Last tag w g) v there = absurd cc
  chain-there (y ∷ ys) _ _ _ e (Then tag next w u us g s c) v there =
      let here : u ≡ y = cc in let behind : us ≡ ys ++ after = cc in ap (λ y. is_volume (last_of y ys).control v) (sym here) ∙ chain-there ys next u us behind c v (step-there tag w next u s v there)

  pub chain-rows : (later : List World) (tag : Option ℕ) (w : World) (us : List World) → us ≡ later ++ after → Chain tag w us → SoundRows (table (last_of w later))
  chain-rows [] tag w us e c = (good tag w us c).rows
  chain-rows (y ∷ ys) _ _ _ e (Last tag w g) = absurd cc
  chain-rows (y ∷ ys) _ _ _ e (Then tag next w u us g s c) =
      let here : u ≡ y = cc in let there : us ≡ ys ++ after = cc in subst (λ y. SoundRows (table (last_of y ys))) here (chain-rows ys next u us there c)

none-first : (test : Event → Bool) (w u x : World) (es : List Event) → u.events ≡ w.events ++ es → Grows u x → NoneSince test w x → list_any test es ≡ false
none-first test w u x es is rest none = (or_parts (list_any test es) (list_any test rest.told) (sym (list_any-append test es rest.told) ∙ none (es ++ rest.told) (told-on w u x es rest.told is rest.events))).0

none-rest : (test : Event → Bool) (w u x : World) (es : List Event) → u.events ≡ w.events ++ es → NoneSince test w x → NoneSince test u x
none-rest test w u x es is none fs rest = (or_parts (list_any test es) (list_any test fs) (sym (list_any-append test es fs) ∙ none (es ++ fs) (told-on w u x es fs is rest))).1

-- what a source with a flash hold holds lasts
module _ (after : List World) (v : ℕ) where
  pub source-lasts : (later : List World) (tag : Option ℕ) (w : World) (us : List World) → us ≡ later ++ after → Chain tag w us → Still w → All (Holds v) (w ∷ later) → NoneSince (changes v) w (last_of w later) → (q : ℕ) → lists (last_of w later).events v q ≡ lists w.events v q
  source-lasts [] tag w us e c still all none q = refl
  source-lasts (y ∷ ys) _ _ _ e (Last tag w g) still all none q = absurd cc
  source-lasts (y ∷ ys) _ _ _ e (Then tag next w u us g s c) still all none q =
      let here : u ≡ y = cc in let there : us ≡ ys ++ after = cc in
      let all2 : All (Holds v) (u ∷ ys) = subst (λ y. All (Holds v) (y ∷ ys)) (sym here) (All-tail (Holds v) w (y ∷ ys) all) in
      let none2 : NoneSince (changes v) w (last_of u ys) = subst (λ y. NoneSince (changes v) w (last_of y ys)) (sym here) none in
      let grown = step-grows tag w next u s in
      let rest = chain-grows ys after next u us there c in
      ap (λ y. lists (last_of y ys).events v q) (sym here)
      ∙ source-lasts ys next u us there c (step-still tag w next u s still) all2 (none-rest (changes v) w u (last_of u ys) grown.told grown.events none2) q
      ∙ source-step v q tag w next u s still (All-head (Holds v) w (y ∷ ys) all) (λ es is. none-first (changes v) w u (last_of u ys) es is rest none2)

  -- and so does a track that no write reaches
  module _ (q : ℕ) where
    pub target-lasts : (later : List World) (tag : Option ℕ) (w : World) (us : List World) → us ≡ later ++ after → Chain tag w us
        → NoneSince (changes v) w (last_of w later) → NoneSince (reaches (histories (last_of w later).events).write v q) w (last_of w later) → Same v q w (last_of w later)
    target-lasts [] tag w us e c none untouched = record { lists = refl; waits = refl }
    target-lasts (y ∷ ys) _ _ _ e (Last tag w g) none untouched = absurd cc
    target-lasts (y ∷ ys) _ _ _ e (Then tag next w u us g s c) none untouched =
        let here : u ≡ y = cc in let there : us ≡ ys ++ after = cc in
        let alike = chain-alike after (y ∷ ys) tag w (u ∷ us) e (Then tag next w u us g s c) in
        let x : World = last_of u ys in
        let alike2 : Alike (histories x.events).write w = subst (λ y. Alike (histories (last_of y ys).events).write w) (sym here) alike in
        let none2 : NoneSince (changes v) w x = subst (λ y. NoneSince (changes v) w (last_of y ys)) (sym here) none in
        let untouched2 : NoneSince (reaches (histories x.events).write v q) w x = subst (λ y. NoneSince (reaches (histories (last_of y ys).events).write v q) w (last_of y ys)) (sym here) untouched in
        let grown = step-grows tag w next u s in
        let rest = chain-grows ys after next u us there c in
        let one = target-step v q (histories x.events).write tag w next u s alike2 (λ es is. none-first (changes v) w u x es is rest none2) (λ es is. none-first (reaches (histories x.events).write v q) w u x es is rest untouched2) in
        let more = target-lasts ys next u us there c (none-rest (changes v) w u x grown.told grown.events none2) (none-rest (reaches (histories x.events).write v q) w u x grown.told grown.events untouched2) in
        subst (λ y. Same v q w (last_of y ys)) here (record { lists = more.lists ∙ one.lists; waits = more.waits ∙ one.waits })
