-- Steps that set a link, stop a server or arm its fuse do so, and change no other.
use Rattle.std.proofs.Common.{ℕ, ◌≡◌, refl, ap, ◌∙◌, Bool, true, false, cond, ◌&&◌, nat_eq, List, Some, Ok}
use Rattle.std.proofs.lemmas.Bool.{and_from, or_left, or_right, eq-eqb}
use Rattle.dr_ids.specs.Links.{joins}
use Rattle.dr_ids.specs.declared.refusal.Kind.TheVariants.{Server as OfKind}
use Rattle.dr_model.specs.Refusals.{duplicate}
use Rattle.dr_model.specs.declared.said.Addition.{Addition}
use Rattle.dr_model.specs.declared.said.Addition.TheVariants.{Alone}
use Rattle.dr_model.specs.declared.said.Said.TheVariants.{Done}
use Rattle.dr_model.specs.declared.step.Name.{Name}
use Rattle.dr_model.specs.declared.step.Step.{Step}
use Rattle.dr_model.specs.declared.step.Step.TheVariants.{Link, Stop, StopAfter}
use Rattle.dr_model.specs.declared.step.TornWord.{TornWord}
use Rattle.dr_model.specs.declared.step.TornWord.TheVariants.{Same, Fill, Bytes}
use Rattle.dr_model.specs.Control.{Control, World}
use Rattle.dr_model.specs.PlanParts.{refuses, on_named, name_bytes, server_named, only_says}
use Rattle.dr_model.specs.Plans.{link_between, link_done, stop_on, stop_done, arm_on, armed, torn_bytes}
use Rattle.dr_model.specs.Runs.{Task, after_task, run}
use Rattle.dr_logic.specs.Tables.{at}
use Rattle.dr_logic.proofs.Tables.{at_same, at_other}
use Rattle.dr_facts.proofs.Sets.{if_true, if_false}
use Rattle.dr_laws_sound.specs.Acknowledged.{said_in}
use Rattle.dr_laws_answers.specs.Settings.{bytes_left, SetsLink, SetsOff, SetsFuse, Sets, StepsSet}
use Rattle.dr_laws_answers.proofs.Answered.{Gives, refused-gives, tables-gives, placed-gives, task-gives}

itself : (a : ℕ) → nat_eq a a ≡ true
itself a = eq-eqb a a refl

link-set : (k j : Control) (a b : ℕ) (up : Bool) → ((p q : ℕ) → j.link p q ≡ cond (joins p q a b) up (k.link p q)) → SetsLink k j a b up
link-set k j a b up is = record {
  forth = is a b ∙ if_true up (k.link a b) (or_left (nat_eq a a && nat_eq b b) (nat_eq a b && nat_eq b a) (and_from (nat_eq a a) (nat_eq b b) (itself a) (itself b)));
  back = is b a ∙ if_true up (k.link b a) (or_right (nat_eq b a && nat_eq a b) (nat_eq b b && nat_eq a a) (and_from (nat_eq b b) (nat_eq a a) (itself b) (itself a)));
  others = λ p q other. is p q ∙ if_false up (k.link p q) other;
}

off-set : (k j : Control) (s : ℕ) → ((q : ℕ) → j.on q ≡ at k.on s false q) → ((q : ℕ) → j.fuse q ≡ k.fuse q) → SetsOff k j s
off-set k j s is fuses = record { off = is s ∙ at_same k.on s false; others = λ q ne. is q ∙ at_other k.on s false q ne; fuses = fuses }

-- a server that was off already
off-still : (k j : Control) (s : ℕ) → k.on s ≡ false → ((q : ℕ) → j.on q ≡ k.on q) → ((q : ℕ) → j.fuse q ≡ k.fuse q) → SetsOff k j s
off-still k j s off is fuses = record { off = is s ∙ off; others = λ q ne. is q; fuses = fuses }

torn-left : (torn : TornWord) → torn_bytes torn ≡ bytes_left torn
torn-left Same = refl
torn-left (Fill b) = refl
torn-left (Bytes bytes) = refl

fuse-set : (k j : Control) (s n : ℕ) (torn : TornWord) → ((q : ℕ) → j.fuse q ≡ at k.fuse s (Some (armed n torn)) q) → ((q : ℕ) → j.on q ≡ k.on q) → SetsFuse k j s n torn
fuse-set k j s n torn is on = record {
  armed = is s ∙ at_same k.fuse s (Some (armed n torn)) ∙ ap (λ o. Some (record { after = n; torn = o })) (torn-left torn);
  others = λ q ne. is q ∙ at_other k.fuse s (Some (armed n torn)) q ne;
  on = on;
}

module _ (w : World) (t : Task) where
  abbrev Q : Step → Addition → World → Type 0
  Q s x u = Sets w.control u.control s

  stopping : (name : Name) (s : ℕ) → server_named w.control (name_bytes name) ≡ Some s → (b : Bool) → w.control.on s ≡ b → Gives w t.line (Q (Stop name)) (cond b (stop_done s) (only_says (Done Alone)))
  stopping name s is true on = tables-gives w t.line (Q (Stop name)) (stop_done s) refl (λ x says. record { server = s; named = is; so = off-set w.control _ s (λ q. refl) (λ q. refl) })
  stopping name s is false off = tables-gives w t.line (Q (Stop name)) (only_says (Done Alone)) refl (λ x says. record { server = s; named = is; so = off-still w.control _ s off (λ q. refl) (λ q. refl) })

  linking : (a b : Name) (up : Bool) (x y : ℕ) → server_named w.control (name_bytes a) ≡ Some x → server_named w.control (name_bytes b) ≡ Some y
      → (same : Bool) → Gives w t.line (Q (Link a b up)) (cond same (refuses (duplicate OfKind)) (link_done x y up))
  linking a b up x y is too true = refused-gives w t.line (Q (Link a b up)) (duplicate OfKind)
  linking a b up x y is too false =
      tables-gives w t.line (Q (Link a b up)) (link_done x y up) refl
      (λ z says. record { server = x; named = is; so = record { server = y; named = too; so = link-set w.control _ x y up (λ p q. refl) } })

  step-sets : (s : Step) → t.asked ≡ Ok s → (x : Addition) → said_in w t ≡ Done x → Sets w.control (after_task w t).control s
  step-sets (Link a b up) asked x says =
      task-gives w t (Q (Link a b up)) (Link a b up) refl asked
      (placed-gives w t.line (Q (Link a b up)) (server_named w.control (name_bytes a)) (λ x. on_named (server_named w.control (name_bytes b)) (λ y. link_between x y up))
      (λ p is. placed-gives w t.line (Q (Link a b up)) (server_named w.control (name_bytes b)) (λ y. link_between p y up) (λ q too. linking a b up p q is too (nat_eq p q)))) x says
  step-sets (Stop name) asked x says =
      task-gives w t (Q (Stop name)) (Stop name) refl asked
      (placed-gives w t.line (Q (Stop name)) (server_named w.control (name_bytes name)) (stop_on w.control) (λ s is. stopping name s is (w.control.on s) refl)) x says
  step-sets (StopAfter name n torn) asked x says =
      task-gives w t (Q (StopAfter name n torn)) (StopAfter name n torn) refl asked
      (placed-gives w t.line (Q (StopAfter name n torn)) (server_named w.control (name_bytes name)) (arm_on n torn)
      (λ s is. tables-gives w t.line (Q (StopAfter name n torn)) (arm_on n torn s) refl
      (λ z says. record { server = s; named = is; so = fuse-set w.control _ s n torn (λ q. refl) (λ q. refl) }))) x says
  step-sets s asked x says = tt

pub steps-set : (tasks : List Task) → StepsSet tasks
steps-set tasks before behind t s said is asked says = step-sets (run before) t s asked said says
