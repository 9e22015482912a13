-- Steps that end holds end those that they name, and no other.
use Rattle.std.proofs.Common.{ℕ, ◌≡◌, ◌≢◌, inl, inr, refl, ap, sym, ◌∙◌, subst, Bool, true, false, cond, ◌&&◌, ◌||◌, nat_eq, List, [], ◌∷◌, map, Option, Some, None, Ok}
use Rattle.std.specs.List.{list_any}
use Rattle.std.proofs.lemmas.Bool.{and_parts, or_parts, eqb-true, and_from}
use Rattle.std.proofs.lemmas.Bool.Decides.{eqb_tells}
use Rattle.dr_model.specs.declared.said.Addition.{Addition}
use Rattle.dr_model.specs.declared.said.Said.TheVariants.{Done}
use Rattle.dr_model.specs.declared.step.Step.{Step}
use Rattle.dr_model.specs.declared.step.Step.TheVariants.{Unfreeze, UnfreezeFlash, Expire}
use Rattle.dr_model.specs.Control.{Control, Fuse, Volume, World, is_volume}
use Rattle.dr_model.specs.Layout.{Fields, is_part}
use Rattle.dr_model.specs.Pairs.{held}
use Rattle.dr_model.specs.Moves.{Thaw, FlashFree, Lift}
use Rattle.dr_model.specs.Carry.{Make, EndThaw, Pass, Do, Entry, act, carry, thawed}
use Rattle.dr_model.specs.Entries.{fields_at, subsystem}
use Rattle.dr_model.specs.PlanParts.{Plan, refuses, name_bytes, server_named, owner_of}
use Rattle.dr_model.specs.Refusals.{server_off}
use Rattle.dr_model.specs.Plans.{thaw_refusal, release_refusal, unfreeze_done, release_done, expire_plan, expire_on}
use Rattle.dr_model.specs.WriteEntries.{is_between, thaw_on, end_thaw, thaw_entries, flash_free_on, belongs, lift_on}
use Rattle.dr_model.specs.Runs.{Task, after_task, run}
use Rattle.dr_model.proofs.CarryLemmas.{carry-skips, carry-goes}
use Rattle.dr_facts.proofs.Tables.{IsOrNot, at_part}
use Rattle.dr_logic.proofs.Tables.{at_same, at_other}
use Rattle.dr_laws_sound.specs.Acknowledged.{said_in}
use Rattle.dr_laws_sound.proofs.AcknowledgingSteps.{unless-plan, owner-plan}
use Rattle.dr_laws_sound.proofs.FitsFlash.{as_begun}
use Rattle.dr_laws_sound.proofs.FitsPairs.{row}
use Rattle.dr_laws_sound.proofs.Turned.{move-led, nothing-left}
use Rattle.dr_laws_sound.proofs.Turns.{done}
use Rattle.dr_laws_recovery.proofs.Went.{Split, carry-split}
use Rattle.dr_laws_answers.specs.Holds.{Holds, holds_in, holds, not_busy, not_flashed, no_holds, is_primary_between, is_running_in, is_on, LetsGo, EndsHolds, HoldsEnd}
use Rattle.dr_laws_answers.proofs.Answered.{Gives, refused-gives, ends-gives, placed-gives, task-gives}

-- ---- volume by volume

-- An entry for each volume ends its holds where the volume is named so. What holds of the worlds in which they come is `K`.
module _ (named : Control → ℕ → Bool) (left : Holds → Holds) (again : (h : Holds) → left (left h) ≡ left h) (K : World → Type 0) (each : ℕ → Entry) where
  -- the entry of volume x came, and others behind it led on to u
  record One (w u : World) (x : ℕ) (ds : List Entry) : Type 0 where
    world : World
    kept : K world
    leads : carry world ds ≡ (u, None)
    same : (v : ℕ) → named world.control v ≡ named w.control v
    here : holds world.control x ≡ cond (named w.control x) (left (holds w.control x)) (holds w.control x)
    others : (v : ℕ) → v ≢ x → holds world.control v ≡ holds w.control v

  twice : (a n : Bool) (h : Holds) → cond (a && n) (left (cond n (left h) h)) (cond n (left h) h) ≡ cond n (left h) h
  twice true true h = again h
  twice true false h = refl
  twice false n h = refl

  module _ (one : (w u : World) (x : ℕ) (ds : List Entry) → K w → carry w (each x ∷ ds) ≡ (u, None) → One w u x ds) where
    -- what they leave
    abbrev Ends : World → World → List ℕ → ℕ → Type 0
    Ends w u vs v = holds u.control v ≡ cond (list_any (nat_eq v) vs && named w.control v) (left (holds w.control v)) (holds w.control v)

    all : (vs : List ℕ) (w u : World) → K w → carry w (map each vs) ≡ (u, None) → (v : ℕ) → Ends w u vs v
    all [] w u k leads v = ap (λ (z : World). holds z.control v) (sym (nothing-left w u leads))
    all (x ∷ vs) w u k leads v =
        let o : One w u x (map each vs) = one w u x (map each vs) k leads in
        by o (eqb_tells v x) (all vs o.world u o.kept o.leads v)
      where
        by : (o : One w u x (map each vs)) → IsOrNot v x → Ends o.world u vs v → Ends w u (x ∷ vs) v
        by o (inl is) rest =
            let here : holds o.world.control v ≡ cond (named w.control v) (left (holds w.control v)) (holds w.control v) =
            subst (λ x. holds o.world.control x ≡ cond (named w.control x) (left (holds w.control x)) (holds w.control x)) (sym is.1) o.here in
            rest ∙ (λ i. cond (list_any (nat_eq v) vs && o.same v i) (left (here i)) (here i))
            ∙ twice (list_any (nat_eq v) vs) (named w.control v) (holds w.control v)
            ∙ sym (ap (λ b. cond ((b || list_any (nat_eq v) vs) && named w.control v) (left (holds w.control v)) (holds w.control v)) is.0)
        by o (inr not) rest =
            rest ∙ (λ i. cond (list_any (nat_eq v) vs && o.same v i) (left (o.others v not.1 i)) (o.others v not.1 i))
            ∙ sym (ap (λ b. cond ((b || list_any (nat_eq v) vs) && named w.control v) (left (holds w.control v)) (holds w.control v)) not.0)

-- so these volumes are let go, and no other
gone : (k j : Control) (is_named : ℕ → Bool) (left : Holds → Holds) → ((v : ℕ) → holds j v ≡ cond (is_volume k v && is_named v) (left (holds k v)) (holds k v)) → LetsGo k j is_named left
gone k j is_named left is = record {
  named = λ v there so. is v ∙ ap (λ b. cond b (left (holds k v)) (holds k v)) (and_from (is_volume k v) (is_named v) there so);
  others = λ v other. is v ∙ ap (λ b. cond b (left (holds k v)) (holds k v)) other;
}

-- the answer of the step changes no volume
also : (k j i : Control) (is_named : ℕ → Bool) (left : Holds → Holds) → ((v : ℕ) → holds i v ≡ holds j v) → LetsGo k j is_named left → LetsGo k i is_named left
also k j i is_named left same l = record { named = λ v there so. same v ∙ l.named v there so; others = λ v other. same v ∙ l.others v other }

-- ---- a thaw

-- a hold that isn't there
unbusy : (f : Fields) → f.long_busy ≡ false → holds_in f ≡ not_busy (holds_in f)
unbusy f h = λ i. record (holds_in f) { long_busy = h i }

unflashed : (f : Fields) → f.flash_hold ≡ false → holds_in f ≡ not_flashed (holds_in f)
unflashed f h = λ i. record (holds_in f) { flash_hold = h i }

unheld : (f : Fields) → held f ≡ false → holds_in f ≡ no_holds (holds_in f)
unheld f h =
    let first = or_parts (f.coordination || f.long_busy) f.flash_hold h in
    let second = or_parts f.coordination f.long_busy first.0 in
    λ i. record { long_busy = second.1 i; flash_hold = first.1 i; coordination = second.0 i }

-- a volume that isn't named, and one that is
stays-so : (b : Bool) (h g : Holds) → b ≡ false → h ≡ cond b g h
stays-so b h g other = sym (ap (λ b. cond b g h) other)

ends-so : (b : Bool) (h g q : Holds) → b ≡ true → q ≡ g → q ≡ cond b g h
ends-so b h g q so is = is ∙ sym (ap (λ b. cond b g h) so)

abbrev always : World → Type 0
always w = Unit {0}

module _ (l m : ℕ) where
  abbrev Thaws : World → World → ℕ → List Entry → Type 0
  Thaws = One (λ k. is_between k l m) not_busy (λ h. refl) always (thaw_on l m)

  -- who lies between them stays
  same-between : (w : World) (x : ℕ) (f : Option Fuse) (v : ℕ) → is_between (done w (Thaw x) f).control l m v ≡ is_between w.control l m v
  same-between w x f v =
      at_part (λ (y : Volume). nat_eq (subsystem v) l && (w.control.on y.server && (is_part y.fields.primary && nat_eq (subsystem y.fields.primary_partner) m))) w.control.volume x (row w (Thaw x) f) refl v

  thaws-one : (w u : World) (x : ℕ) (ds : List Entry) → always w → carry w (thaw_on l m x ∷ ds) ≡ (u, None) → Thaws w u x ds
  thaws-one w u x ds k leads = by (is_between w.control l m x) (fields_at w.control x).long_busy refl refl
    where
      idle : thaw_on l m x w.control ≡ Pass → holds w.control x ≡ cond (is_between w.control l m x) (not_busy (holds w.control x)) (holds w.control x) → Thaws w u x ds
      idle none here = record { world = w; kept = tt; leads = sym (carry-skips w (thaw_on l m x) ds none) ∙ leads; same = λ v. refl; here = here; others = λ v ne. refl }

      by : (a b : Bool) → is_between w.control l m x ≡ a → (fields_at w.control x).long_busy ≡ b → Thaws w u x ds
      by false b is busy = idle (λ i. cond (is i && (fields_at w.control x).long_busy) (Do (Make (Thaw x))) Pass) (stays-so _ _ _ is)
      by true false is busy = idle (λ i. cond (is i && busy i) (Do (Make (Thaw x))) Pass) (ends-so _ _ _ _ is (unbusy (fields_at w.control x) busy))
      by true true is busy =
          let on = (and_parts (w.control.on (w.control.volume x).server) _ (and_parts (nat_eq (subsystem x) l) _ is).1).0 in
          let led = move-led w u (thaw_on l m x) (Thaw x) ds (λ i. cond (is i && busy i) (Do (Make (Thaw x))) Pass) on leads in
          record {
            world = done w (Thaw x) led.fuse;
            kept = tt;
            leads = led.leads;
            same = same-between w x led.fuse;
            here = ends-so _ _ _ _ is (ap (λ (y : Volume). holds_in y.fields) (at_same w.control.volume x (row w (Thaw x) led.fuse)));
            others = λ v ne. ap (λ (y : Volume). holds_in y.fields) (at_other w.control.volume x (row w (Thaw x) led.fuse) v ne);
          }

  act-thaw : (w : World) → act w (EndThaw l m) ≡ (thawed w l m, None)
  unfolding act
  act-thaw w = refl

  thaw-leaves : (w u : World) → carry (as_begun w) (thaw_entries w.control.volumes l m) ≡ (u, None) → LetsGo w.control u.control (is_primary_between w.control l m) not_busy
  thaw-leaves w u leads =
      let parts : Split (as_begun w) u (map (thaw_on l m) w.control.volumes) (end_thaw l m ∷ []) = carry-split (as_begun w) u (map (thaw_on l m) w.control.volumes) (end_thaw l m ∷ []) leads in
      let last : thawed parts.middle l m ≡ u = nothing-left (thawed parts.middle l m) u (sym (carry-goes parts.middle (thawed parts.middle l m) (end_thaw l m) [] (EndThaw l m) refl (act-thaw parts.middle)) ∙ parts.rest) in
      gone w.control u.control (is_primary_between w.control l m) not_busy
      (λ v. ap (λ (z : World). holds z.control v) (sym last)
      ∙ all (λ k. is_between k l m) not_busy (λ h. refl) always (thaw_on l m) thaws-one w.control.volumes (as_begun w) parts.middle tt parts.first v)

-- ---- the end of flash holds

module _ (l : ℕ) where
  abbrev Releases : World → World → ℕ → List Entry → Type 0
  Releases = One (λ k. is_running_in k l) not_flashed (λ h. refl) always (flash_free_on l)

  same-in : (w : World) (x : ℕ) (f : Option Fuse) (v : ℕ) → is_running_in (done w (FlashFree x) f).control l v ≡ is_running_in w.control l v
  same-in w x f v = at_part (λ (y : Volume). nat_eq (subsystem v) l && w.control.on y.server) w.control.volume x (row w (FlashFree x) f) refl v

  releases-one : (w u : World) (x : ℕ) (ds : List Entry) → always w → carry w (flash_free_on l x ∷ ds) ≡ (u, None) → Releases w u x ds
  releases-one w u x ds k leads = by (nat_eq (subsystem x) l) (w.control.on (w.control.volume x).server) (fields_at w.control x).flash_hold refl refl refl
    where
      idle : flash_free_on l x w.control ≡ Pass → holds w.control x ≡ cond (is_running_in w.control l x) (not_flashed (holds w.control x)) (holds w.control x) → Releases w u x ds
      idle none here = record { world = w; kept = tt; leads = sym (carry-skips w (flash_free_on l x) ds none) ∙ leads; same = λ v. refl; here = here; others = λ v ne. refl }

      by : (a b c : Bool) → nat_eq (subsystem x) l ≡ a → w.control.on (w.control.volume x).server ≡ b → (fields_at w.control x).flash_hold ≡ c → Releases w u x ds
      by false b c is on has = idle (λ i. cond (is i && (w.control.on (w.control.volume x).server && (fields_at w.control x).flash_hold)) (Do (Make (FlashFree x))) Pass) (stays-so _ _ _ (λ i. is i && w.control.on (w.control.volume x).server))
      by true false c is on has = idle (λ i. cond (is i && (on i && (fields_at w.control x).flash_hold)) (Do (Make (FlashFree x))) Pass) (stays-so _ _ _ (λ i. is i && on i))
      by true true false is on has = idle (λ i. cond (is i && (on i && has i)) (Do (Make (FlashFree x))) Pass) (ends-so _ _ _ _ (λ i. is i && on i) (unflashed (fields_at w.control x) has))
      by true true true is on has =
          let led = move-led w u (flash_free_on l x) (FlashFree x) ds (λ i. cond (is i && (on i && has i)) (Do (Make (FlashFree x))) Pass) on leads in
          record {
            world = done w (FlashFree x) led.fuse;
            kept = tt;
            leads = led.leads;
            same = same-in w x led.fuse;
            here = ends-so _ _ _ _ (λ i. is i && on i) (ap (λ (y : Volume). holds_in y.fields) (at_same w.control.volume x (row w (FlashFree x) led.fuse)));
            others = λ v ne. ap (λ (y : Volume). holds_in y.fields) (at_other w.control.volume x (row w (FlashFree x) led.fuse) v ne);
          }

  release-leaves : (w u : World) → carry (as_begun w) (map (flash_free_on l) w.control.volumes) ≡ (u, None) → LetsGo w.control u.control (is_running_in w.control l) not_flashed
  release-leaves w u leads =
      gone w.control u.control (is_running_in w.control l) not_flashed
      (all (λ k. is_running_in k l) not_flashed (λ h. refl) always (flash_free_on l) releases-one w.control.volumes (as_begun w) u tt leads)

-- ---- all holds on a server

once : (a b : Bool) (g h : Holds) → cond (a && (a && b)) g h ≡ cond (a && b) g h
once true b g h = refl
once false b g h = refl

module _ (s : ℕ) where
  abbrev IsOn : World → Type 0
  IsOn w = w.control.on s ≡ true

  abbrev Lifts : World → World → ℕ → List Entry → Type 0
  Lifts = One (λ k. belongs k s) no_holds (λ h. refl) IsOn (lift_on s)

  same-server : (w : World) (x : ℕ) (f : Option Fuse) (v : ℕ) → belongs (done w (Lift x) f).control s v ≡ belongs w.control s v
  same-server w x f v = at_part (λ (y : Volume). is_volume w.control v && nat_eq y.server s) w.control.volume x (row w (Lift x) f) refl v

  lifts-one : (w u : World) (x : ℕ) (ds : List Entry) → IsOn w → carry w (lift_on s x ∷ ds) ≡ (u, None) → Lifts w u x ds
  lifts-one w u x ds on leads = by (belongs w.control s x) (held (fields_at w.control x)) refl refl
    where
      idle : lift_on s x w.control ≡ Pass → holds w.control x ≡ cond (belongs w.control s x) (no_holds (holds w.control x)) (holds w.control x) → Lifts w u x ds
      idle none here = record { world = w; kept = on; leads = sym (carry-skips w (lift_on s x) ds none) ∙ leads; same = λ v. refl; here = here; others = λ v ne. refl }

      by : (a b : Bool) → belongs w.control s x ≡ a → held (fields_at w.control x) ≡ b → Lifts w u x ds
      by false b is has = idle (λ i. cond (is i && held (fields_at w.control x)) (Do (Make (Lift x))) Pass) (stays-so _ _ _ is)
      by true false is has = idle (λ i. cond (is i && has i) (Do (Make (Lift x))) Pass) (ends-so _ _ _ _ is (unheld (fields_at w.control x) has))
      by true true is has =
          let own : (w.control.volume x).server ≡ s = eqb-true (w.control.volume x).server s (and_parts (is_volume w.control x) _ is).1 in
          let led = move-led w u (lift_on s x) (Lift x) ds (λ i. cond (is i && has i) (Do (Make (Lift x))) Pass) (ap w.control.on own ∙ on) leads in
          record {
            world = done w (Lift x) led.fuse;
            kept = on;
            leads = led.leads;
            same = same-server w x led.fuse;
            here = ends-so _ _ _ _ is (ap (λ (y : Volume). holds_in y.fields) (at_same w.control.volume x (row w (Lift x) led.fuse)));
            others = λ v ne. ap (λ (y : Volume). holds_in y.fields) (at_other w.control.volume x (row w (Lift x) led.fuse) v ne);
          }

  expire-leaves : (w u : World) → IsOn w → carry (as_begun w) (map (lift_on s) w.control.volumes) ≡ (u, None) → LetsGo w.control u.control (is_on w.control s) no_holds
  expire-leaves w u on leads =
      gone w.control u.control (is_on w.control s) no_holds
      (λ v. all (λ k. belongs k s) no_holds (λ h. refl) IsOn (lift_on s) lifts-one w.control.volumes (as_begun w) u on leads v
      ∙ once (is_volume w.control v) (is_on w.control s v) (no_holds (holds w.control v)) (holds w.control v))

-- ---- the steps

module _ (w : World) (t : Task) where
  abbrev Q : Step → Addition → World → Type 0
  Q s x u = EndsHolds w.control u.control s

  step-ends : (s : Step) → t.asked ≡ Ok s → (x : Addition) → said_in w t ≡ Done x → EndsHolds w.control (after_task w t).control s
  step-ends (Unfreeze devs l m) asked x says =
      let P : Addition → World → Type 0 = Q (Unfreeze devs l m) in
      let G : Plan → Type 0 = Gives w t.line P in
      task-gives w t P (Unfreeze devs l m) refl asked
      (owner-plan G (refused-gives w t.line P) (owner_of w.control l) _
      (λ s. owner-plan G (refused-gives w t.line P) (owner_of w.control m) _
      (λ u. unless-plan G (refused-gives w t.line P) (thaw_refusal w.control devs s u) (unfreeze_done w.control l m)
      (ends-gives w t.line P (unfreeze_done w.control l m) (λ u leads x says. also w.control u.control _ _ _ (λ v. refl) (thaw-leaves l m w u leads)))))) x says
  step-ends (UnfreezeFlash devs l) asked x says =
      let P : Addition → World → Type 0 = Q (UnfreezeFlash devs l) in
      let G : Plan → Type 0 = Gives w t.line P in
      task-gives w t P (UnfreezeFlash devs l) refl asked
      (owner-plan G (refused-gives w t.line P) (owner_of w.control l) _
      (λ s. unless-plan G (refused-gives w t.line P) (release_refusal w.control devs.dev s) (release_done w.control l)
      (ends-gives w t.line P (release_done w.control l) (λ u leads x says. also w.control u.control _ _ _ (λ v. refl) (release-leaves l w u leads))))) x says
  step-ends (Expire name) asked x says =
      let P : Addition → World → Type 0 = Q (Expire name) in
      task-gives w t P (Expire name) refl asked
      (placed-gives w t.line P (server_named w.control (name_bytes name)) (expire_on w.control) (λ s is. by s is (w.control.on s) refl)) x says
    where
      by : (s : ℕ) → server_named w.control (name_bytes name) ≡ Some s → (b : Bool) → w.control.on s ≡ b → Gives w t.line (Q (Expire name)) (expire_on w.control s)
      by s is b on =
          subst (λ b. Gives w t.line (Q (Expire name)) (cond b (expire_plan w.control s) (refuses (server_off s)))) (sym on) (choose b on)
        where
          choose : (b : Bool) → w.control.on s ≡ b → Gives w t.line (Q (Expire name)) (cond b (expire_plan w.control s) (refuses (server_off s)))
          choose true on =
              ends-gives w t.line (Q (Expire name)) (expire_plan w.control s)
              (λ u leads x says. record { server = s; named = is; so = also w.control u.control _ _ _ (λ v. refl) (expire-leaves s w u on leads) })
          choose false on = refused-gives w t.line (Q (Expire name)) (server_off s)
  step-ends s asked x says = tt

pub holds-end : (tasks : List Task) → HoldsEnd tasks
holds-end tasks before behind t s said is asked says = step-ends (run before) t s asked said says
