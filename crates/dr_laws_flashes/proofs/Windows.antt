-- The laws on flash holds and on flash windows, of every run.
use Rattle.std.proofs.Common.{ℕ, ◌≡◌, ◌<◌, refl, ap, sym, ◌∙◌, subst, Bool, true, false, List, [], ◌∷◌, ◌++◌, append_assoc, drop, length, Option, None}
use Rattle.std.specs.List.{list_any}
use Rattle.std.proofs.Math.Seq.{drop-append_seam}
use Rattle.std.proofs.lemmas.List.{append-nil}
use Rattle.dr_model.specs.declared.event.Event.{Event}
use Rattle.dr_model.specs.Histories.{Write, histories, lists}
use Rattle.dr_model.specs.Contents.{image}
use Rattle.dr_model.specs.Control.{World, nothing, is_volume}
use Rattle.dr_model.specs.Groups.{In}
use Rattle.dr_model.specs.Entries.{fields_at}
use Rattle.dr_model.specs.Views.{view}
use Rattle.dr_model.specs.Table.{table, waiting}
use Rattle.dr_model.specs.Laws.{SoundRows}
use Rattle.dr_model.specs.Runs.{Task}
use Rattle.dr_laws_sound.proofs.Views.{shown-due}
use Rattle.dr_laws_freezes.specs.Moments.{moments_from, moments}
use Rattle.dr_laws_freezes.specs.Windows.{last_of, told_since}
use Rattle.dr_laws_freezes.proofs.KeepsStep.{Step}
use Rattle.dr_laws_freezes.proofs.Windows.{Chain, Last, Then, From, chain-from}
use Rattle.dr_laws_freezes.proofs.WindowSteps.{chain-of}
use Rattle.dr_laws_freezes.proofs.EndsInCut.{last-behind}
use Rattle.dr_laws_flashes.specs.Windows.{FlashPairs, changes, reaches, Taken, IsHeldPair, IsSoundWindow, LeavesOneCut, FlashCut}
use Rattle.dr_laws_flashes.specs.Held.{NoneWaitsHeld, NoneLandsHeld}
use Rattle.dr_laws_flashes.proofs.Waits.{Still, none-landed, step-still, still-from, still-nothing}
use Rattle.dr_laws_flashes.proofs.Lasts.{NoneSince, Same, chain-rows, chain-there, source-lasts, target-lasts}
use Rattle.dr_laws_flashes.proofs.Acked.{acked-lasts}
use Rattle.dr_laws_flashes.proofs.Takes.{Takes, step-takes}

pub none-waits : (tasks : List Task) → NoneWaitsHeld tasks
none-waits tasks before after w is p here h =
    none-landed w.control.pending p (still-from before None nothing (moments_from nothing tasks) w after (chain-of tasks) is still-nothing p.volume p.track h) here

pub none-lands : (tasks : List Task) → NoneLandsHeld tasks
none-lands tasks before later after first v is all n told on =
    let from : From first (later ++ after) = chain-from before None nothing (moments_from nothing tasks) first (later ++ after) (chain-of tasks) is in
    let still : Still first = still-from before None nothing (moments_from nothing tasks) first (later ++ after) (chain-of tasks) is still-nothing in
    acked-lasts after v n later from.tag first (later ++ after) refl from.chain still all told on

-- ---- the step to a moment, and the moments behind it

record Into (w u : World) (more : List World) : Type 0 where
  tag : Option ℕ
  next : Option ℕ
  rows : SoundRows (table w)
  step : Step tag w next u
  chain : Chain next u more
  still : Still w

step-into : (until : List World) (tag : Option ℕ) (w : World) (us : List World) (u : World) (more : List World) → Chain tag w us → us ≡ until ++ (u ∷ more) → Still w → Into (last_of w until) u more
step-into [] _ _ _ u more (Last tag w g) e still = absurd cc
step-into (x ∷ xs) _ _ _ u more (Last tag w g) e still = absurd cc
step-into [] _ _ _ u more (Then tag next w y ys g s c) e still =
    let here : y ≡ u = cc in let there : ys ≡ more = cc in
    record { tag = tag; next = next; rows = g.rows; step = subst (Step tag w next) here s; chain = subst (Chain next u) there (subst (λ y. Chain next y ys) here c); still = still }
step-into (x ∷ xs) _ _ _ u more (Then tag next w y ys g s c) e still =
    let here : y ≡ x = cc in let there : ys ≡ xs ++ (u ∷ more) = cc in
    subst (λ x. Into (last_of x xs) u more) here (step-into xs next y ys u more c there (step-still tag w next y s still))

-- what was told since a moment
since-none : (test : Event → Bool) (w x : World) → list_any test (told_since w x) ≡ false → NoneSince test w x
since-none test w x none es is = ap (list_any test) (sym (ap (drop (length w.events)) is ∙ drop-append_seam w.events es)) ∙ none

-- ---- one pair of a window, seen from the moment at which its target takes the tracks of its source

-- what is left at the last moment
record Leaves (w u x : World) (s t : ℕ) : Type 0 where
  rows : SoundRows (table x)
  defined : is_volume x.control t ≡ true
  held : (q : ℕ) → lists x.events s q ≡ lists w.events s q
  target : (q : ℕ) → list_any (reaches (histories x.events).write t q) (told_since u x) ≡ false → (lists x.events t q ≡ lists w.events s q) × (waiting x.control.pending t q ≡ [])

-- so a track that no write reaches is the image of the cut
leaves-shown : (w u x : World) (s t : ℕ) → Leaves w u x s t → (q : ℕ) → q < (x.control.volume t).tracks → list_any (reaches (histories x.events).write t q) (told_since u x) ≡ false
    → view (fields_at x.control) x.contents t q ≡ image (histories x.events).write (lists w.events s q)
leaves-shown w u x s t left q lt none =
    let known = left.target q none in
    let write : (ℕ → Write) = (histories x.events).write in
    shown-due (table x) left.rows.images t q lt
    ∙ (λ i. image write (known.0 i ++ known.1 i))
    ∙ ap (image write) (append-nil (lists w.events s q))

module _ (tasks : List Task) (before later after : List World) (first : World) (is : moments tasks ≡ before ++ (first ∷ later ++ after)) (s t : ℕ) (p : Taken first later s t) (sound : IsHeldPair first later s t p) where
  abbrev at : World
  at = last_of first p.until

  abbrev end : World
  end = last_of p.taken p.rest

  -- the last moment of the stretch
  ends : last_of first later ≡ end
  ends = ap (last_of first) p.is ∙ last-behind p.until first p.taken p.rest

  into : Into at p.taken (p.rest ++ after)
  into =
      let from : From first (later ++ after) = chain-from before None nothing (moments_from nothing tasks) first (later ++ after) (chain-of tasks) is in
      let still : Still first = still-from before None nothing (moments_from nothing tasks) first (later ++ after) (chain-of tasks) is still-nothing in
      step-into p.until from.tag first (later ++ after) p.taken (p.rest ++ after) from.chain (ap (λ us. us ++ after) p.is ∙ append_assoc p.until (p.taken ∷ p.rest) after) still

  none-of : (test : Event → Bool) → list_any test (told_since p.taken (last_of first later)) ≡ false → NoneSince test p.taken end
  none-of test none = since-none test p.taken end (subst (λ x. list_any test (told_since p.taken x) ≡ false) ends none)

  leaves-end : Leaves at p.taken end s t
  leaves-end =
      let come : Into at p.taken (p.rest ++ after) = into in
      let takes : Takes at p.taken s t = step-takes come.tag at come.rows come.next p.taken come.step s t p.behind p.told in
      let still : Still p.taken = step-still come.tag at come.next p.taken come.step come.still in
      record {
        rows = chain-rows after p.rest come.next p.taken (p.rest ++ after) refl come.chain;
        defined = chain-there after p.rest come.next p.taken (p.rest ++ after) refl come.chain t takes.defined;
        held = λ q. source-lasts after s p.rest come.next p.taken (p.rest ++ after) refl come.chain still sound.held (none-of (changes s) sound.source) q ∙ takes.source q;
        target = λ q none.
            let same : Same t q p.taken end = target-lasts after t q p.rest come.next p.taken (p.rest ++ after) refl come.chain (none-of (changes t) sound.target) (since-none (reaches (histories end.events).write t q) p.taken end none) in
            (same.lists ∙ takes.target q, same.waits ∙ takes.waits q);
      }

  leaves : Leaves at p.taken (last_of first later) s t
  leaves = subst (λ x. Leaves at p.taken x s t) (sym ends) leaves-end

-- the whole window, where tracks contain what the world says, or show the same
pub one-cut : (tasks : List Task) (set : FlashPairs) (before later after : List World) (first : World) → moments tasks ≡ before ++ (first ∷ later ++ after) → (window : IsSoundWindow set first later)
    → (contents : ℕ → ℕ → List ℕ)
    → ((t q : ℕ) → is_volume (last_of first later).control t ≡ true → SoundRows (table (last_of first later)) → q < ((last_of first later).control.volume t).tracks → view (fields_at (last_of first later).control) contents t q ≡ view (fields_at (last_of first later).control) (last_of first later).contents t q)
    → LeavesOneCut set first later window contents
one-cut tasks set before later after first is window contents same =
    let left : ((s t : ℕ) → (here : In (s, t) set) → Leaves (last_of first (window.taken s t here).until) (window.taken s t here).taken (last_of first later) s t) =
    λ s t here. leaves tasks before later after first is s t (window.taken s t here) (window.sound s t here) in
    record {
      held = λ s t here q. (left s t here).held q;
      closed = λ s t here q w in_cut x y there r u holds depends. subst (In u) ((left x y there).held r) holds;
      acknowledged = λ s t here q u holds told. subst (In u) ((left s t here).held q) holds;
      shown = λ s t here q lt none.
          let one = left s t here in
          same t q one.defined one.rows lt ∙ leaves-shown (last_of first (window.taken s t here).until) (window.taken s t here).taken (last_of first later) s t one q lt none;
    }

pub flash-cut : (tasks : List Task) → FlashCut tasks
flash-cut tasks set before later after first is window = one-cut tasks set before later after first is window (last_of first later).contents (λ t q there rows lt. refl)
