-- Where pairs that are made without a copy are made before the first host write, their volumes hold the same writes: none.
use Rattle.std.proofs.Common.{ℕ, ◌≡◌, ◌<◌, ◌+◌, inl, inr, refl, ap, sym, ◌∙◌, subst, append_assoc, true, false, not, List, [], ◌∷◌, ◌++◌, Result, Ok}
use Rattle.std.specs.List.{list_any}
use Rattle.std.proofs.lemmas.Bool.{or_parts}
use Rattle.std.proofs.lemmas.List.{append-nil}
use Rattle.dr_model.specs.declared.event.Event.{Event}
use Rattle.dr_model.specs.declared.event.Event.TheVariants.{Issue}
use Rattle.dr_model.specs.declared.step.Step.{Step}
use Rattle.dr_model.specs.declared.step.Step.TheVariants.{MakePair}
use Rattle.dr_model.specs.Control.{World, nothing}
use Rattle.dr_model.specs.Groups.{In}
use Rattle.dr_model.specs.Histories.{lists}
use Rattle.dr_model.specs.Runs.{Task, after_task, after_tasks, run}
use Rattle.dr_laws_sound.proofs.Journal.{run-more}
use Rattle.dr_laws_sound.proofs.Steps.{sound-run}
use Rattle.dr_laws_losses.specs.Pairs.{HoldsSame, PairsHoldSame, PairsComeFirst, asks_write, copies_none}
use Rattle.dr_laws_recovery.proofs.OnTracks.{is_issue}
use Rattle.dr_laws_losses.proofs.Alike.{NoIssue, issues_it}
use Rattle.dr_laws_losses.proofs.Steps.{none-append}
use Rattle.dr_laws_losses.proofs.Issued.{TellsFirst, tells-first}
use Rattle.dr_laws_losses.proofs.Tidy.{tidy-run}
use Rattle.dr_laws_losses.proofs.Numbers.{held-positive}
use Rattle.dr_laws_losses.proofs.Known.{below-in}

-- a journal that issues no write issues not that one
pub none-it : (n : ℕ) (es : List Event) → NoIssue es → list_any (issues_it n) es ≡ false
none-it n [] none = refl
none-it n (Issue k v t offset len bytes ∷ es) none = absurd cc
none-it n (e ∷ es) none = none-it n es (or_parts (is_issue e) (list_any is_issue es) none).1

-- so no list has one
none-held : (tasks : List Task) → NoIssue (run tasks).events → (v q : ℕ) → lists (run tasks).events v q ≡ []
none-held tasks none v q = by (lists (run tasks).events v q) refl
  where
    by : (ws : List ℕ) → lists (run tasks).events v q ≡ ws → ws ≡ []
    by [] is = refl
    by (w ∷ ws) is =
        let here : In w (lists (run tasks).events v q) = subst (In w) (sym is) (inl refl) in
        let low : w < (run tasks).control.issued + 1 = below-in ((run tasks).control.issued + 1) w (lists (run tasks).events v q) ((sound-run tasks).queue.numbers.now v q) here in
        absurd (let told : true ≡ false = sym ((tidy-run tasks).issued w (held-positive tasks w v q here) low) ∙ none-it w (run tasks).events none in cc)

-- a step that is no host write issues none
pub step-none : (w : World) (t : Task) → NoIssue w.events → asks_write t.asked ≡ false → NoIssue (after_task w t).events
step-none w t none other =
    let told : TellsFirst w t = tells-first w t in
    subst NoIssue (sym told.is) (none-append w.events (told.first ++ told.more) none (none-append told.first told.more (elim told.way [
      | inl quiet ↦ quiet
      | inr one ↦ absurd (let e : true ≡ false = sym one.0 ∙ other in cc)
    ]) told.none))

same-none : (tasks : List Task) → NoIssue (run tasks).events → (asked : Result Step ℕ) → HoldsSame (run tasks) asked
same-none tasks none (Ok (MakePair devs a b kind choices)) = λ full alike t low. none-held tasks none a t ∙ sym (none-held tasks none b t)
same-none tasks none asked = tt

copied-same : (w : World) (asked : Result Step ℕ) → copies_none asked ≡ false → HoldsSame w asked
copied-same w (Ok (MakePair devs a b kind choices)) copies = λ full alike t low. absurd (let e : not choices.full ≡ true = ap not full in let no : true ≡ false = sym e ∙ copies in cc)
copied-same w asked copies = tt

late-same : (tasks : List Task) (w : World) → list_any (λ (t : Task). copies_none t.asked) tasks ≡ false → PairsHoldSame w tasks
late-same [] w copies = tt
late-same (t ∷ tasks) w copies = let both = or_parts (copies_none t.asked) _ copies in (copied-same w t.asked both.0, late-same tasks (after_task w t) both.1)

early-same : (todo done rest : List Task) → NoIssue (run done).events → list_any (λ (t : Task). asks_write t.asked) todo ≡ false → PairsHoldSame (run (done ++ todo)) rest → PairsHoldSame (run done) (todo ++ rest)
early-same [] done rest none other later = subst (λ ts. PairsHoldSame (run ts) rest) (append-nil done) later
early-same (t ∷ todo) done rest none other later =
    let both = or_parts (asks_write t.asked) _ other in
    let is : run (done ++ t ∷ []) ≡ after_task (run done) t = run-more done t in (
      same-none done none t.asked,
      subst (λ w. PairsHoldSame w (todo ++ rest)) is
          (early-same todo (done ++ t ∷ []) rest (subst (λ (w : World). NoIssue w.events) (sym is) (step-none (run done) t none both.0)) both.1
          (subst (λ ts. PairsHoldSame (run ts) rest) (sym (append_assoc done (t ∷ []) todo)) later)),
    )

pub nothing-told : NoIssue (run []).events
unfolding after_tasks
nothing-told = refl

nothing-run : run [] ≡ nothing
unfolding after_tasks
nothing-run = refl

pub hold-same : (tasks : List Task) → PairsComeFirst tasks → PairsHoldSame nothing tasks
hold-same tasks p =
    subst (λ w. PairsHoldSame w tasks) nothing-run
    (subst (PairsHoldSame (run [])) (sym p.cut) (early-same p.early [] p.late nothing-told p.unwritten (late-same p.late (run p.early) p.copied)))
