-- A target that counts holds the writes that the cut of its number has, and no others.
use Rattle.std.proofs.Common.{ℕ, ◌≡◌, ◌<◌, refl, ap, sym, subst, ◌∙◌, true, false, nat_eq, List, [], ◌∷◌, ◌++◌}
use Rattle.std.specs.List.{list_any}
use Rattle.dr_ids.specs.declared.names.Member.{Member}
use Rattle.dr_model.specs.declared.step.Step.{Step}
use Rattle.dr_model.specs.Histories.{Lists, Histories, Write, histories, lists}
use Rattle.dr_model.specs.Control.{Control, World, nothing}
use Rattle.dr_model.specs.Plans.{plan_of}
use Rattle.dr_model.specs.Entries.{fields_at}
use Rattle.dr_model.specs.Sessions.{Session}
use Rattle.dr_model.specs.Groups.{In}
use Rattle.dr_model.specs.Table.{waiting}
use Rattle.dr_model.specs.Cuts.{Cuts, past, cuts}
use Rattle.dr_model.specs.Runs.{Task, after_task, after_tasks}
use Rattle.dr_laws_cuts.proofs.Journal.{past-history}
use Rattle.dr_laws_targets.specs.Counted.{CountsAsTarget, TargetsShowCuts}
use Rattle.dr_laws_losses.specs.Pairs.{PairsHoldSame, issues}
use Rattle.dr_laws_losses.proofs.Alike.{NoIssue, AlikeEvents, SamePast, past-alike, past-laid, issues_it}
use Rattle.dr_laws_losses.proofs.Worlds.{Alike}
use Rattle.dr_laws_losses.proofs.Steps.{AlikeTask, task-alike, lists-alike}
use Rattle.dr_laws_losses.proofs.Marks.{image-tells}

module _ (u : ℕ) where
  -- ---- whole runs

  module _ (told-none : (k : Control) (line : ℕ) (step : Step) → issues step ≡ false → NoIssue (plan_of k [] line step).told) where
    pub record AlikeRun (w g : World) (tasks : List Task) : Type 0 where
      pub others : List Task
      pub alike : Alike u (after_tasks w tasks) (after_tasks g others)

    pub tasks-alike : (tasks : List Task) (w g : World) → Alike u w g → PairsHoldSame w tasks → AlikeRun w g tasks
    unfolding after_tasks
    tasks-alike [] w g a h = record { others = []; alike = a }
    tasks-alike (t ∷ tasks) w g a h =
        let one : AlikeTask u w g t = task-alike u told-none w g t a h.0 in
        let rest : AlikeRun (after_task w t) (after_task g one.other) tasks = tasks-alike tasks (after_task w t) (after_task g one.other) one.alike h.1 in
        record { others = one.other ∷ rest.others; alike = rest.alike }

    pub run-alike : (tasks : List Task) → PairsHoldSame nothing tasks → AlikeRun nothing nothing tasks
    run-alike tasks h = tasks-alike tasks nothing nothing (record { control = refl; events = tt }) h

  -- ---- what counts

  -- a target that counts holds write u exactly where the cut of its number does
  abbrev HoldsAsCut : World → World → Type 0
  HoldsAsCut w g = (x : Session) (m : Member) → In x g.control.sessions → In m x.members → CountsAsTarget (fields_at g.control m.c.0) → (t : ℕ) → t < (g.control.volume m.c.0).tracks
      → list_any (nat_eq u) (lists w.events m.c.0 t ++ waiting g.control.pending m.c.0 t) ≡ list_any (nat_eq u) ((cuts w.events).held (fields_at g.control m.c.0).sequence m.a.0 t)

  holds-alike : (w g : World) → AlikeEvents u w.events g.events → TargetsShowCuts g → list_any (issues_it u) w.events ≡ true → HoldsAsCut w g
  holds-alike w g a shows issued x m listed here counts t low =
      let p : SamePast u (past w.events) (past g.events) = past-alike u w.events g.events a in
      let write : (ℕ → Write) = (histories g.events).write in
      let is : (past g.events).history ≡ histories g.events = past-history g.events in
      ap (λ (l : Lists). list_any (nat_eq u) (l m.c.0 t ++ waiting g.control.pending m.c.0 t)) (sym (lists-alike u w.events g.events a))
      ∙ image-tells u write
      (λ n. ap (λ (h : Histories). (h.write n).offset) (sym is) ∙ p.offset n)
      (λ n ne. ap (λ (h : Histories). (h.write n).bytes) (sym is) ∙ p.others n ne)
      (ap (λ (h : Histories). (h.write u).bytes) (sym is) ∙ past-laid u w.events g.events a issued)
      (lists g.events m.c.0 t ++ waiting g.control.pending m.c.0 t) ((cuts g.events).held (fields_at g.control m.c.0).sequence m.a.0 t) (shows.shows x m listed here counts t low)
      ∙ ap (λ (c : Cuts). list_any (nat_eq u) (c.held (fields_at g.control m.c.0).sequence m.a.0 t)) p.cuts

  pub holds-as-cut : (w g : World) → Alike u w g → TargetsShowCuts g → list_any (issues_it u) w.events ≡ true → HoldsAsCut w w
  holds-as-cut w g a shows issued = subst (λ (k : Control). HoldsAsCut w (record g { control = k })) a.control (holds-alike w g a.events shows issued)
