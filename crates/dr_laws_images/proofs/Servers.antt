-- In every run the volumes of a logical subsystem are on one server: only where a volume is defined does another one come, and this asks for it.
use Rattle.std.proofs.Common.{ℕ, ◌≡◌, ◌⊎◌, inl, inr, refl, ap, sym, ◌∙◌, List, [], ◌∷◌, ◌++◌, Bool, true, false, ◌||◌, nat_eq, Option, Some, None, Result}
use Rattle.dr_model.specs.declared.step.Step.{Step}
use Rattle.std.specs.List.{list_any}
use Rattle.std.proofs.lemmas.Bool.{eqb-true, eq-eqb, not-false}
use Rattle.std.proofs.lemmas.List.Folds.{list_any-append}
use Rattle.dr_logic.specs.Tables.{at}
use Rattle.dr_logic.proofs.Tables.{at_same, at_other}
use Rattle.dr_logic.proofs.Truth.{false_true, either-of}
use Rattle.dr_ids.specs.declared.refusal.Refusal.{Refusal}
use Rattle.dr_ids.specs.declared.refusal.Refusal.TheVariants.{Stopped as StoppedIn}
use Rattle.dr_ids.specs.declared.refusal.Kind.TheVariants.{Volume as OfVolume, Lss as OfLss}
use Rattle.dr_model.specs.declared.event.Event.{Event}
use Rattle.dr_model.specs.Refusals.{duplicate}
use Rattle.dr_model.specs.Control.{Control, Fuse, Volume, World, new_volume, is_volume, nothing}
use Rattle.dr_model.specs.Entries.{subsystem, first_of}
use Rattle.dr_model.specs.Moves.{target}
use Rattle.dr_model.specs.Carry.{Act, Make, OpenAttempt, Redo, Acknowledge, Drop, EndFreeze, EndThaw, EndRecovery, act, Next, Pass, Do, End, Entry, Outcome, carry, continue, go, follow, carry_each}
use Rattle.dr_model.specs.Plans.{Plan, same, volume_refusal, volume_done, is_foreign}
use Rattle.dr_model.specs.Forming.{Part}
use Rattle.dr_model.specs.Runs.{Task, course, begun, finish, carried_out, after_plan, after_task, after_tasks, run, stop_place}
use Rattle.dr_facts.proofs.Lists.{any-some, found, not-found, is-met}
use Rattle.dr_facts.proofs.Tables.{at_part}
use Rattle.dr_laws_sound.proofs.Cases.{Case, Says, DefinesServer, DefinesVolume, SetsLink, Issues, Writes, Applies, Lists, Shows, Stops, Arms, Starts, MakesFlash, RemovesFlash, ResyncsFlash, ReversesFlash, Copies, Destages, MakesPath, RemovesPath, MakesPair, RemovesPair, PausesPair, ResumesPair, FailsOver, FailsBack, Compares, Drains, Expires, Freezes, Unfreezes, MakesSession, RemovesSession, MakesMirror, PausesMirror, RemovesMirror, Aborts, AddsMember, RemovesMember, Exchanges, Sends, Delivers, TakesReply, Loses, Recovers, Settles, one-passed, Releases}
use Rattle.dr_laws_sound.proofs.Parts.{Ending, OnePlan, Imaged, course-case, last-plan}
use Rattle.dr_laws_sound.proofs.Turns.{act-cases, Counts, after_act}
use Rattle.dr_laws_images.specs.OneServer.{OneServer}

-- ---- acts leave the volumes, and each its server

record Houses (j k : Control) : Type 0 where
  volumes : k.volumes ≡ j.volumes
  server : (v : ℕ) → (k.volume v).server ≡ (j.volume v).server

one-stays : (j k : Control) → Houses j k → OneServer j → OneServer k
one-stays j k h one v u is-v is-u same =
    h.server v ∙ (one v u (ap (λ vs. list_any (nat_eq v) vs) (sym h.volumes) ∙ is-v) (ap (λ vs. list_any (nat_eq u) vs) (sym h.volumes) ∙ is-u) same ∙ sym (h.server u))

stays : (k : Control) → Houses k k
stays k = record { volumes = refl; server = λ v. refl }

moved : (k : Control) (v : ℕ) (y : Volume) → y.server ≡ (k.volume v).server → (q : ℕ) → (at k.volume v y q).server ≡ (k.volume q).server
moved k v y e = at_part (λ (x : Volume). x.server) k.volume v y e

done-houses : (w : World) (a : Act) (f : Option Fuse) → Houses w.control (after_act w a f).control
done-houses w (Make m) f = record { volumes = refl; server = moved w.control (target m) _ refl }
done-houses w (OpenAttempt v s n) f = record { volumes = refl; server = moved w.control v _ refl }
done-houses w (Redo v) f = record { volumes = refl; server = λ v. refl }
done-houses w (Acknowledge n) f = record { volumes = refl; server = λ v. refl }
done-houses w (Drop n) f = record { volumes = refl; server = λ v. refl }
done-houses w (EndFreeze l m) f = record { volumes = refl; server = λ v. refl }
done-houses w (EndThaw l m) f = record { volumes = refl; server = λ v. refl }
done-houses w (EndRecovery s n) f = record { volumes = refl; server = λ v. refl }

counts-houses : (w : World) (a : Act) → Counts w a (λ t. Houses w.control t.0.control)
counts-houses w (Make m) = λ f. record { volumes = refl; server = moved w.control (target m) _ refl }
counts-houses w (OpenAttempt v s n) = λ f. record { volumes = refl; server = moved w.control v _ refl }
counts-houses w (Redo v) = tt
counts-houses w (Acknowledge n) = tt
counts-houses w (Drop n) = tt
counts-houses w (EndFreeze l m) = tt
counts-houses w (EndThaw l m) = tt
counts-houses w (EndRecovery s n) = tt

act-houses : (w : World) (a : Act) → Houses w.control (act w a).0.control
act-houses w a = act-cases w a (λ t. Houses w.control t.0.control) (λ d off. stays w.control) (done-houses w a) (counts-houses w a) (λ d f. record { volumes = refl; server = λ v. refl })

-- so do entries
abbrev One : World → Type 0
One w = OneServer w.control

continue-one : (u : World) (server : Option ℕ) (next : World → Outcome) → ((v : World) → One v → One (next v).0) → One u → One (continue u server next).0
continue-one u None next each one = each u one
continue-one u (Some s) next each one = one

go-one : (w : World) (x : Next) (next : World → Outcome) → ((v : World) → One v → One (next v).0) → One w → One (go w x next).0
go-one w Pass next each one = each w one
go-one w (End r) next each one = one
go-one w (Do a) next each one = continue-one (act w a).0 (act w a).1 next each (one-stays w.control (act w a).0.control (act-houses w a) one)

carry-one : (w : World) (ds : List Entry) → One w → One (carry w ds).0
unfolding carry
carry-one w [] one = one
carry-one w (d ∷ ds) one = go-one w (d w.control) (λ v. carry v ds) (λ v. carry-one v ds) one

each-one : (w : World) (ds : List Entry) → One w → One (carry_each w ds)
each-one w [] one = one
each-one w (d ∷ ds) one = each-one (carry w (d ∷ [])).0 ds (carry-one w (d ∷ []) one)

follow-one : (w : World) (r : Refusal) (follows : List Entry) → One w → One (follow w r follows)
follow-one w (StoppedIn s) follows one = each-one w follows one
follow-one w r follows one = one

-- ---- a volume that is defined is on the server of its subsystem

module _ (k : Control) (v s tracks : ℕ) (free : volume_refusal k v s tracks ≡ None) (one : OneServer k) where
  undefined : is_volume k v ≡ false
  undefined = (one-passed (is_volume k v) (duplicate OfVolume) _ free).0

  native : is_foreign k (first_of k (subsystem v)) s ≡ false
  native = (one-passed (is_foreign k (first_of k (subsystem v)) s) (duplicate OfLss) _ (one-passed (is_volume k v) (duplicate OfVolume) _ free).1).0

  abbrev table : ℕ → Volume
  table = at k.volume v (new_volume s tracks)

  own : (a : ℕ) → a ≡ v → (table a).server ≡ s
  own a is = ap (λ u. (table u).server) is ∙ ap (λ (x : Volume). x.server) (at_same k.volume v (new_volume s tracks))

  other : (a : ℕ) → is_volume k a ≡ true → (table a).server ≡ (k.volume a).server
  other a old = ap (λ (x : Volume). x.server) (at_other k.volume v (new_volume s tracks) a (λ is. false_true undefined (ap (is_volume k) (sym is) ∙ old)))

  -- the others of its subsystem are on that server
  housed : (a : ℕ) → is_volume k a ≡ true → subsystem a ≡ subsystem v → (k.volume a).server ≡ s
  housed a old alike = by (first_of k (subsystem v)) refl native
    where
      of : ℕ → Bool
      of u = nat_eq (subsystem u) (subsystem v)

      by : (o : Option ℕ) → first_of k (subsystem v) ≡ o → is_foreign k o s ≡ false → (k.volume a).server ≡ s
      by None none home = false_true (not-found of k.volumes a none (is-met a k.volumes old)) (eq-eqb (subsystem a) (subsystem v) alike)
      by (Some u) is home =
          let first = found of k.volumes u is in
          let here : is_volume k u ≡ true = any-some (nat_eq u) k.volumes u first.0 (eq-eqb u u refl) in
          one a u old here (alike ∙ sym (eqb-true (subsystem u) (subsystem v) first.1)) ∙ eqb-true (k.volume u).server s (not-false _ home)

  was : (a : ℕ) → list_any (nat_eq a) (k.volumes ++ v ∷ []) ≡ true → (is_volume k a ≡ true) ⊎ (a ≡ v)
  was a h = either-of (is_volume k a) (nat_eq a v || false) (sym (list_any-append (nat_eq a) k.volumes (v ∷ [])) ∙ h) (λ old. inl old)
      (λ new. either-of (nat_eq a v) false new (λ e. inr (eqb-true a v e)) (λ none. absurd cc))

  pub one-defined : OneServer ((volume_done v s tracks).first k)
  one-defined a b is-a is-b same = by (was a is-a) (was b is-b)
    where
      by : (is_volume k a ≡ true) ⊎ (a ≡ v) → (is_volume k b ≡ true) ⊎ (b ≡ v) → (table a).server ≡ (table b).server
      by (inl p) (inl q) = other a p ∙ (one a b p q same ∙ sym (other b q))
      by (inl p) (inr q) = other a p ∙ (housed a p (same ∙ ap subsystem q) ∙ sym (own b q))
      by (inr p) (inl q) = own a p ∙ sym (other b q ∙ housed b q (sym same ∙ ap subsystem p))
      by (inr p) (inr q) = own a p ∙ sym (own b q)

-- ---- every plan asks for it

module _ (k : Control) (events : List Event) (line : ℕ) where
  record KeepsOne (p : Plan) : Type 0 where
    first : OneServer k → OneServer (p.first k)
    last : (j : Control) → OneServer j → OneServer (p.last j)

  case-one : (asked : Result Step ℕ) (p : Plan) → Case k events line asked p → KeepsOne p
  case-one _ _ (DefinesVolume v s tracks here free) = record { first = one-defined k v s tracks free; last = λ j one. one }
  case-one _ _ (Says a waits why) = record { first = λ one. one; last = λ j one. one }
  case-one _ _ (DefinesServer name free) = record { first = λ one. one; last = λ j one. one }
  case-one _ _ (SetsLink a b up) = record { first = λ one. one; last = λ j one. one }
  case-one _ _ (Issues v t offset len bytes free) = record { first = λ one. one; last = λ j one. one }
  case-one _ _ (Writes v t offset len bytes free) = record { first = λ one. one; last = λ j one. one }
  case-one _ _ (Applies n p found) = record { first = λ one. one; last = λ j one. one }
  case-one _ _ (Lists told ls few) = record { first = λ one. one; last = λ j one. one }
  case-one _ _ (Shows v t there) = record { first = λ one. one; last = λ j one. one }
  case-one _ _ (Stops s on) = record { first = λ one. one; last = λ j one. one }
  case-one _ _ (Arms writes torn s) = record { first = λ one. one; last = λ j one. one }
  case-one _ _ (Starts s off) = record { first = λ one. one; last = λ j one. one }
  case-one _ _ (MakesFlash dev s t freeze choices) = record { first = λ one. one; last = λ j one. one }
  case-one _ _ (RemovesFlash dev s t) = record { first = λ one. one; last = λ j one. one }
  case-one _ _ (ResyncsFlash dev s t sequence) = record { first = λ one. one; last = λ j one. one }
  case-one _ _ (ReversesFlash dev s t) = record { first = λ one. one; last = λ j one. one }
  case-one _ _ (Copies t most) = record { first = λ one. one; last = λ j one. one }
  case-one _ _ (Destages v) = record { first = λ one. one; last = λ j one. one }
  case-one _ _ (MakesPath src tgt group) = record { first = λ one. one; last = λ j one. one }
  case-one _ _ (RemovesPath src tgt) = record { first = λ one. one; last = λ j one. one }
  case-one _ _ (MakesPair devs a b kind choices part) = record { first = λ one. one; last = λ j one. one }
  case-one _ _ (RemovesPair devs a b source_only) = record { first = λ one. one; last = λ j one. one }
  case-one _ _ (PausesPair devs a b) = record { first = λ one. one; last = λ j one. one }
  case-one _ _ (ResumesPair devs a b kind) = record { first = λ one. one; last = λ j one. one }
  case-one _ _ (FailsOver devs b a kind) = record { first = λ one. one; last = λ j one. one }
  case-one _ _ (FailsBack devs x y kind) = record { first = λ one. one; last = λ j one. one }
  case-one _ _ (Compares contents v u) = record { first = λ one. one; last = λ j one. one }
  case-one _ _ (Drains a most) = record { first = λ one. one; last = λ j one. one }
  case-one _ _ (Expires s on) = record { first = λ one. one; last = λ j one. one }
  case-one _ _ (Freezes l m) = record { first = λ one. one; last = λ j one. one }
  case-one _ _ (Unfreezes l m) = record { first = λ one. one; last = λ j one. one }
  case-one _ _ (Releases l) = record { first = λ one. one; last = λ j one. one }
  case-one _ _ (MakesSession l s free) = record { first = λ one. one; last = λ j one. one }
  case-one _ _ (RemovesSession l s x found free) = record { first = λ one. one; last = λ j one. one }
  case-one _ _ (MakesMirror owner s x found free l owned) = record { first = λ one. one; last = λ j one. one }
  case-one _ _ (PausesMirror s on) = record { first = λ one. one; last = λ j one. one }
  case-one _ _ (RemovesMirror s x found free) = record { first = λ one. one; last = λ j one. one }
  case-one _ _ (Aborts s x found free) = record { first = λ one. one; last = λ j one. one }
  case-one _ _ (Sends s server x r o posts) = record { first = λ one. one; last = λ j one. one }
  case-one _ _ (Delivers n m starts x r reaches) = record { first = λ one. one; last = λ j one. one }
  case-one _ _ (TakesReply n m reply x r returns) = record { first = λ one. one; last = λ j one. one }
  case-one _ _ (Loses n) = record { first = λ one. one; last = λ j one. one }
  case-one _ _ (AddsMember s a c x joins) = record { first = λ one. one; last = λ j one. one }
  case-one _ _ (RemovesMember s a x m found is idle on) = record { first = λ one. one; last = λ j one. one }
  case-one _ _ (Recovers s x found on) = record { first = λ one. one; last = λ j one. one }
  case-one _ _ (Settles s x m found here on free hand) = record { first = λ one. one; last = λ j one. one }
  case-one _ _ (Exchanges s server true x r o allowed) = record { first = λ one. one; last = λ j one. one }
  case-one _ _ (Exchanges s server false x r o allowed) = record { first = λ one. one; last = λ j one. one }

  ending-one : (p : Plan) → Ending k events line p → KeepsOne p
  ending-one _ (OnePlan asked p c) = case-one asked p c
  ending-one _ (Imaged vs) = record { first = λ one. one; last = λ j one. one }

finish-one : (p : Plan) → ((j : Control) → OneServer j → OneServer (p.last j)) → (n : ℕ) (w : World) (r : Option Refusal) → One w → One (finish p n w r)
finish-one p last n w None one = last w.control one
finish-one p last n w (Some r) one = follow-one w r (p.follows n) one

carried-one : (w : World) (p : Plan) → (line : ℕ) → KeepsOne w.control w.events line p → One w → One (carried_out w p).0
carried-one w p line keeps one = finish-one p keeps.last (stop_place w p) (carry (begun w p) p.entries).0 (carry (begun w p) p.entries).1 (carry-one (begun w p) p.entries (keeps.first one))

plan-one : (w : World) (p : Plan) → (line : ℕ) → KeepsOne w.control w.events line p → One w → One (after_plan w line p)
unfolding after_plan
plan-one w p line keeps one = carried-one w p line keeps one

task-one : (w : World) (t : Task) → One w → One (after_task w t)
task-one w t one =
    let x : Part = (course w t).last in
    plan-one x.world x.plan t.line (ending-one x.world.control x.world.events t.line x.plan (course-case w t))
    (last-plan One (λ u p comes one. carried-one u p 0 (case-one u.control u.events 0 comes.asked p (comes.case 0)) one) w t one)

tasks-one : (w : World) (tasks : List Task) → One w → One (after_tasks w tasks)
unfolding after_tasks
tasks-one w [] one = one
tasks-one w (t ∷ tasks) one = tasks-one (after_task w t) tasks (task-one w t one)

pub run-one : (tasks : List Task) → OneServer (run tasks).control
run-one tasks = tasks-one nothing tasks (λ v u is-v is-u same. refl)
