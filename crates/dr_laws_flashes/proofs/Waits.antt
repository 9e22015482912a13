-- A volume with a flash hold waits for nothing, from each moment of a run to the next.
use Rattle.std.proofs.Common.{ℕ, ◌≡◌, ◌≢◌, ◌⊎◌, inl, inr, refl, ap, sym, ◌∙◌, subst, Bool, true, false, cond, ◌&&◌, nat_eq, List, [], ◌∷◌, ◌++◌, filter, Option, None}
use Rattle.dr_model.specs.Control.{Pending, Volume, World, nothing}
use Rattle.dr_model.specs.Groups.{In}
use Rattle.dr_model.specs.Moves.{Move, Land, Overwrite, LandBoth, FlashHold, FlashFree, Lift, fields_left, target, settled, settled_in_stop, is_other}
use Rattle.dr_model.specs.Entries.{fields_at}
use Rattle.dr_model.specs.Table.{waiting}
use Rattle.dr_model.specs.Allowed.{Idle, Ready}
use Rattle.dr_facts.proofs.Tables.{at_cases}
use Rattle.dr_laws_sound.proofs.RowsAfter.{calm}
use Rattle.dr_laws_sound.proofs.Due.{waiting-marked_else}
use Rattle.dr_laws_sound.proofs.FitsFlash.{row}
use Rattle.dr_laws_freezes.proofs.WindowMoves.{MayCome}
use Rattle.dr_laws_freezes.proofs.KeepsStep.{Step, Does, Stops, Acks, Others, Passes}
use Rattle.dr_laws_freezes.proofs.Windows.{Chain, Last, Then}
use Rattle.dr_logic.proofs.Truth.{false_true}
use Rattle.dr_logic.specs.Tables.{at}
use Rattle.std.proofs.lemmas.Bool.{eq-eqb}

-- volume v has a flash hold
abbrev pub Holds : ℕ → World → Type 0
Holds v w = (fields_at w.control v).flash_hold ≡ true

-- and such a one waits for nothing
abbrev pub Still : World → Type 0
Still w = (v q : ℕ) → Holds v w → waiting w.control.pending v q ≡ []

-- pending write p has landed on track q of volume v
abbrev lands_on : Pending → ℕ → ℕ → Bool
lands_on p v q = p.landed && (nat_eq p.volume v && nat_eq p.track q)

-- none of two
both-none : (b : Bool) (x : ℕ) (xs : List ℕ) → cond b (x ∷ xs) xs ≡ [] → (b ≡ false) × (xs ≡ [])
both-none true x xs h = absurd cc
both-none false x xs h = (refl, h)

-- fewer pending writes wait no more
pub waiting-filter : (f : Pending → Bool) (ps : List Pending) (v q : ℕ) → waiting ps v q ≡ [] → waiting (filter f ps) v q ≡ []
waiting-filter f [] v q h = refl
waiting-filter f (p ∷ ps) v q h =
    let none = both-none (lands_on p v q) p.w (waiting ps v q) h in
    by (f p) none.0 (waiting-filter f ps v q none.1)
  where
    by : (c : Bool) → lands_on p v q ≡ false → waiting (filter f ps) v q ≡ [] → waiting (cond c (p ∷ filter f ps) (filter f ps)) v q ≡ []
    by true is rest = ap (λ b. cond b (p.w ∷ waiting (filter f ps) v q) (waiting (filter f ps) v q)) is ∙ rest
    by false is rest = rest

not-landed : (p : Pending) → lands_on p p.volume p.track ≡ false → p.landed ≡ false
not-landed p h = by p.landed h
  where
    by : (b : Bool) → (b && (nat_eq p.volume p.volume && nat_eq p.track p.track)) ≡ false → b ≡ false
    by false h = refl
    by true h = false_true h (λ i. eq-eqb p.volume p.volume refl i && eq-eqb p.track p.track refl i)

-- where none waits on a volume, none of its pending writes has landed
pub none-landed : (ps : List Pending) (p : Pending) → waiting ps p.volume p.track ≡ [] → In p ps → p.landed ≡ false
none-landed [] p none here = absurd here
none-landed (x ∷ xs) p none here = let parts = both-none (lands_on x p.volume p.track) x.w (waiting xs p.volume p.track) none in by parts.0 (none-landed xs p parts.1) here
  where
    by : lands_on x p.volume p.track ≡ false → (In p xs → p.landed ≡ false) → In p (x ∷ xs) → p.landed ≡ false
    by is rest (inl same) = not-landed p (ap (λ (y : Pending). lands_on y p.volume p.track) same ∙ is)
    by is rest (inr there) = rest there

-- ---- who has a hold after a move

-- the move sets a flash hold
abbrev Sets : Move → Type 0
Sets (FlashHold v) = Unit {0}
Sets m = ⊥

hold-left : (m : Move) (u : Volume) → (fields_left m u).flash_hold ≡ true → Sets m ⊎ (u.fields.flash_hold ≡ true)
hold-left (FlashHold v) u h = inl tt
hold-left (FlashFree v) u h = absurd cc
hold-left (Lift v) u h = absurd cc
hold-left m u h = inr h

-- it lands no write on v
abbrev pub LandsElse : ℕ → Move → Type 0
LandsElse v (Land n x t) = v ≢ x
LandsElse v (Overwrite n x t) = v ≢ x
LandsElse v (LandBoth n x t) = v ≢ x
LandsElse v m = Unit {0}

-- as no move does where v has a flash hold
pub lands-else : (w : World) (v : ℕ) (m : Move) → MayCome w m → Holds v w → LandsElse v m
lands-else w v (Land n x t) may h = λ e. false_true may.allowed.let_go (ap (λ j. (fields_at w.control j).flash_hold) (sym e) ∙ h)
lands-else w v (Overwrite n x t) may h = λ e. false_true may.allowed.let_go (ap (λ j. (fields_at w.control j).flash_hold) (sym e) ∙ h)
lands-else w v (LandBoth n x t) may h = λ e. false_true may.allowed.land.let_go (ap (λ j. (fields_at w.control j).flash_hold) (sym e) ∙ h)
lands-else w v m may h = tt

sets-else : (v : ℕ) (m : Move) → Sets m → LandsElse v m
sets-else v (FlashHold x) is = tt
sets-else v m is = absurd is

sets-idle : (w : World) (m : Move) → Sets m → Ready w m → Idle w (target m)
sets-idle w (FlashHold x) is ready = ready
sets-idle w m is ready = absurd is

-- ---- from each moment to the next

settled-none : (m : Move) (ps : List Pending) (v q : ℕ) → waiting ps v q ≡ [] → waiting (settled m ps) v q ≡ []
settled-none (Land n x t) ps v q none = waiting-filter (is_other n) ps v q none
settled-none (Overwrite n x t) ps v q none = waiting-filter (is_other n) ps v q none
settled-none (LandBoth n x t) ps v q none = waiting-filter (is_other n) ps v q none
settled-none m ps v q none = none

stopped-none : (w : World) (m : Move) (v q : ℕ) → MayCome w m → LandsElse v m → waiting w.control.pending v q ≡ [] → waiting (settled_in_stop m w.control.pending) v q ≡ []
stopped-none w (Land n x t) v q may ne none = waiting-marked_else n x t v q w.control.pending (inl ne) may.ready.coming ∙ none
stopped-none w (Overwrite n x t) v q may ne none = waiting-marked_else n x t v q w.control.pending (inl ne) may.ready.coming ∙ none
stopped-none w (LandBoth n x t) v q may ne none = waiting-marked_else n x t v q w.control.pending (inl ne) may.ready.coming ∙ none
stopped-none w m v q may ne none = none

-- who has a hold after a move had it, or got it while nothing waited
had-none : (w : World) (m : Move) → MayCome w m → Still w → (v q : ℕ) → (fields_at (record w.control { volume = at w.control.volume (target m) (row w m None) }) v).flash_hold ≡ true
    → (waiting w.control.pending v q ≡ []) × LandsElse v m
had-none w m may still v q h =
    at_cases (λ j (y : Volume). y.fields.flash_hold ≡ true → (waiting w.control.pending j q ≡ []) × LandsElse j m) w.control.volume (target m) (row w m None)
    (λ h. elim (hold-left m (w.control.volume (target m)) h) [
      | inl sets ↦ (calm w (target m) (sets-idle w m sets may.ready) q, sets-else (target m) m sets)
      | inr had ↦ (still (target m) q had, lands-else w (target m) m may had)
    ])
    (λ j ne had. (still j q had, lands-else w j m may had)) v h

pub step-still : (tag : Option ℕ) (w : World) (next : Option ℕ) (u : World) → Step tag w next u → Still w → Still u
step-still tag w _ _ (Does m f may fair asks) still v q h = settled-none m w.control.pending v q (had-none w m may still v q h).0
step-still tag w _ _ (Stops m f may fair asks) still v q h = let had = had-none w m may still v q h in stopped-none w m v q may had.1 had.0
step-still tag w _ _ (Acks n a) still v q h = waiting-filter (is_other n) w.control.pending v q (still v q h)
step-still tag w _ _ (Others next u ss step) still v q h = step-still tag w next u step still v q h
step-still tag w _ _ (Passes next u es x less) still v q h = x.waits v q ∙ still v q (x.holds v h)

-- and so from the first to any
pub still-from : (before : List World) (tag : Option ℕ) (w : World) (us : List World) (first : World) (rest : List World) → Chain tag w us → w ∷ us ≡ before ++ first ∷ rest → Still w → Still first
still-from [] tag w us first rest c e still = let here : w ≡ first = cc in subst Still here still
still-from (b ∷ []) _ _ _ first rest (Last tag w g) e still = absurd cc
still-from (b ∷ c ∷ bs) _ _ _ first rest (Last tag w g) e still = absurd cc
still-from (b ∷ bs) _ _ _ first rest (Then tag next w u us g s c) e still = let there : u ∷ us ≡ bs ++ first ∷ rest = cc in still-from bs next u us first rest c there (step-still tag w next u s still)

pub still-nothing : Still nothing
still-nothing v q h = refl
