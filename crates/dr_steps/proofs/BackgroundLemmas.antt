-- What is done for several tracks, one after the other.
use Rattle.std.proofs.Common.{ℕ, zero, suc, ◌≡◌, ◌≤◌, ◌<◌, ◌+◌, ◌*◌, ◌-◌, List, [], ◌∷◌, ◌++◌, length, append_assoc, refl, sym, ◌∙◌, ap, subst, arith, true, false, Option, Some, None}
use Rattle.std.specs.Prelude.{is_some, Bool, not, ◌&&◌, ◌||◌, if◌then◌else◌}
use Rattle.std.specs.FinSet.{len}
use Rattle.std.specs.Int.{from_bool}
use Rattle.dr_model.specs.Layout.{Fields}
use Rattle.dr_model.specs.Relations.{rest}
use Rattle.std.proofs.lemmas.List.{append-nil}
use Rattle.dr_ids.specs.Sizes.{most_tracks}
use Rattle.dr_ids.specs.declared.refusal.Refusal.{Refusal}
use Rattle.dr_plant.specs.State.{PlantState}
use Rattle.dr_config.specs.Table.{ConfigTable, entry_of}
use Rattle.dr_config.specs.declared.entries.VolumeEntry.{VolumeEntry}
use Rattle.dr_steps.specs.declared.tables.Tables.{Tables}
use Rattle.dr_model.specs.declared.event.Event.{Event}
use Rattle.dr_model.specs.declared.said.Said.{Said}
use Rattle.dr_model.specs.declared.said.Said.TheVariants.{Done, Refused}
use Rattle.dr_model.specs.declared.said.Addition.TheVariants.{Counted}
use Rattle.dr_model.specs.Runs.{after_plan, said}
use Rattle.dr_model.specs.Refusals.{unknown, server_off}
use Rattle.dr_ids.specs.declared.refusal.Kind.TheVariants.{Volume as OfVolume}
use Rattle.dr_model.specs.Plans.{copy_plan, copy_one, destage_entries, destage_plan, is_defined, may_copy, may_give_back, at_most, left_to_copy}
use Rattle.dr_model.specs.Control.{World}
use Rattle.dr_model.specs.Carry.{Entry, Outcome, carry, check, redo_writes}
use Rattle.dr_model.specs.Entries.{fields_at, times, give_back, is_running, relation_state, pair_state}
use Rattle.dr_model.specs.Laws.{Sound}
use Rattle.dr_volume.specs.View.{volume_seen, ids_of, ReadsPass}
use Rattle.dr_moves.specs.Here.{IsAtRest, armed_in}
use Rattle.dr_laws_sound.proofs.Costs.{Costs, carry-adds}
use Rattle.dr_laws_sound.proofs.CopyCosts.{Live, rounds}
use Rattle.dr_steps.specs.Here.{here, IsReady, IsTold}
use Rattle.dr_steps.proofs.LandLemmas.{ends-first, goes-on, exact}
use Rattle.dr_steps.proofs.LocatedLemmas.{is_volume-here}
use Rattle.dr_steps.proofs.FlashLemmas.{step-nowhere, step-done, step-refused, step-ready, entries-done, entries-refused}
use Rattle.dr_moves.specs.Checks.{Checked}
use Rattle.dr_moves.specs.Turns.{Leads, Fails}
use Rattle.dr_model.specs.ReadStops.{Ends}
use Rattle.dr_moves.proofs.EntryLemmas.{refuses}
use Rattle.dr_facts.proofs.Ends.{ends-passed, ends-none}

times-more : (n m : ℕ) (ds : List Entry) → times (n + suc m) ds ≡ (times n ds ++ ds) ++ times m ds
times-more zero m ds = let e : 0 + suc m ≡ suc m = omega arith in ap (λ k. times k ds) e
times-more (suc n) m ds =
    let e : suc n + suc m ≡ suc (n + suc m) = omega arith in
    ap (λ k. times k ds) e
    ∙ ap (λ es. ds ++ es) (times-more n m ds)
    ∙ sym (append_assoc ds (times n ds ++ ds) (times m ds))
    ∙ ap (λ es. es ++ times m ds) (sym (append_assoc ds (times n ds) ds))

module _ (w v : World) (n : ℕ) (ds : List Entry) (so_far : carry w (times n ds) ≡ (v, None)) where
  -- once more
  pub carried-more : (u : World) (r : Option Refusal) → carry v ds ≡ (u, r) → carry w (times n ds ++ ds) ≡ (u, r)
  carried-more u r is = goes-on w v (times n ds) ds so_far ∙ is

  pub carried-next : (u : World) → carry v ds ≡ (u, None) → carry w (times (n + 1) ds) ≡ (u, None)
  carried-next u is =
      let e : n + 1 ≡ n + suc 0 = omega arith in
      ap (λ k. carry w (times k ds)) e ∙ ap (carry w) (times-more n 0 ds ∙ append-nil (times n ds ++ ds)) ∙ carried-more u None is

  -- one that fails ends all
  pub carried-failed : (count : ℕ) (u : World) (r : Refusal) → n < count → carry v ds ≡ (u, Some r) → carry w (times count ds) ≡ (u, Some r)
  carried-failed count u r lt is =
      let m : ℕ = count - (n + 1) in
      let e : count ≡ n + suc m = omega (arith, lt) in
      ap (λ k. carry w (times k ds)) e
      ∙ ap (carry w) (times-more n m ds)
      ∙ ends-first w u (times n ds ++ ds) (times m ds) r (carried-more u (Some r) is)

-- what so many rounds of a restore tell, at most
pub rounds-tell : (s : PlantState) (c : ConfigTable) (h : Tables) (ev : List Event) (v n : ℕ) (u : World) → Sound (here s c h ev) → IsAtRest s c → (volume_seen s c v).fields.reversing ≡ true
    → carry (here s c h ev) (times n (give_back (ids_of c.volumes) (volume_seen s c v).fields.source v)) ≡ (u, None) → length u.events ≤ length ev + (n * 13 + (most_tracks + 1)) + 1
rounds-tell s c h ev v n u sound rest reversing is =
    let w : World = here s c h ev in
    let from : ℕ = (volume_seen s c v).fields.source in
    let live : Live (ids_of c.volumes) v from w = record { reversing = reversing; small = rest.sizes v; few = sound.targets.few from } in
    let le : n * 13 + (most_tracks + 1) ≤ n * 13 + (most_tracks + 1) = omega arith in
    let costs : Costs (n * 13 + (most_tracks + 1)) w (times n (give_back (ids_of c.volumes) from v)) = rounds (ids_of c.volumes) v from n (n * 13 + (most_tracks + 1)) w le live in
    subst (λ (o : Outcome). length o.0.events ≤ length ev + (n * 13 + (most_tracks + 1)) + 1) is (carry-adds (n * 13 + (most_tracks + 1)) w _ costs)

-- reads pass later where no fuse was armed since
pub pass-later : (s u : PlantState) → ReadsPass s → ((q : ℕ) → s.read_fuse q ≡ None → u.read_fuse q ≡ None) → ReadsPass u
pass-later s u pass unarmed q low = unarmed q (pass q low)

-- whether tracks of a target with these fields may be copied, and how many are left
abbrev pub may_copy_by : Fields → Bool
may_copy_by f = f.related && (not f.revertible && (f.reversing || not f.nocopy))

abbrev pub left_by : Fields → ℕ → ℕ
left_by f n = if f.reversing then len f.own else len (rest n f.own)

-- whether what a restored target gives back may be taken
pub source-free : (b : Bool) (y : Refusal) → b ≡ true → None ≡ (if b then None else Some y)
source-free b y is = sym (ap (λ b. if b then None else Some y) is)

pub source-held : (b : Bool) (x y : Refusal) → b ≡ false → x ≡ y → Some x ≡ (if b then None else Some y)
source-held b x y is same = ap (λ r. Some r) same ∙ sym (ap (λ b. if b then None else Some y) is)

pub gives : (b : Bool) (why : Refusal) (o : Option Refusal) → o ≡ (if b then None else Some why) → o ≡ None → b ≡ true
gives true why o is none = refl
gives false why o is none = absurd (let e : None ≡ Some why = sym none ∙ is in cc)

pub held : (b : Bool) (why x : Refusal) (o : Option Refusal) → o ≡ (if b then None else Some why) → o ≡ Some x → (b ≡ false) × (x ≡ why)
held true why x o is some = absurd (let e : Some x ≡ None = sym some ∙ is in cc)
held false why x o is some = (refl, (let e : Some x ≡ Some why = sym some ∙ is in cc))

-- what comes before tracks are copied
module _ (s : PlantState) (c : ConfigTable) (h : Tables) (ev : List Event) (t : ℕ) (most : Option ℕ) (pass : ReadsPass s) where
  abbrev pub before : World
  before = here s c h ev

  abbrev copied : ℕ
  copied = at_most most (left_to_copy before.control t)

  abbrev checks : List Entry
  checks =
      check (is_defined t) (unknown OfVolume)
      ∷ check (is_running t) (server_off (before.control.volume t).server)
      ∷ check (may_copy t) (relation_state before.control t)
      ∷ check (may_give_back t) (pair_state before.control (fields_at before.control t).source) ∷ []

  refused-so : (why : Refusal) → Checked before checks (Some why) → (line : ℕ) → after_plan before line (copy_plan before.control t most) ≡ said before line (Refused why)
  refused-so why checked line = step-nowhere c s s h ev ev checks (times copied (copy_one before.control t)) (Done (Counted copied)) pass why checked line

  pub copy-nowhere : (why : Refusal) → entry_of c t ≡ None → why ≡ unknown OfVolume → (line : ℕ) → after_plan before line (copy_plan before.control t most) ≡ said before line (Refused why)
  copy-nowhere why none is =
      refused-so why (λ armed ds. refuses armed before (is_defined t) (unknown OfVolume) (Some why) _ (is_volume-here s c h ev t ∙ ap is_some none) (ap Some is))

  module _ (e : VolumeEntry) (found : entry_of c t ≡ Some e) where
    there : is_defined t before.control ≡ true
    there = is_volume-here s c h ev t ∙ ap is_some found

    pub copy-off : (why : Refusal) → is_running t before.control ≡ false → why ≡ server_off (before.control.volume t).server → (line : ℕ) → after_plan before line (copy_plan before.control t most) ≡ said before line (Refused why)
    copy-off why off is =
        refused-so why (λ armed ds. ends-passed armed before (Some why) before (is_defined t) (unknown OfVolume) _ there
        (refuses armed before (is_running t) (server_off (before.control.volume t).server) (Some why) _ off (ap Some is)))

    module _ (on : is_running t before.control ≡ true) where
      pub copy-unfit : (why : Refusal) → may_copy t before.control ≡ false → why ≡ relation_state before.control t → (line : ℕ) → after_plan before line (copy_plan before.control t most) ≡ said before line (Refused why)
      copy-unfit why never is =
          refused-so why (λ armed ds. ends-passed armed before (Some why) before (is_defined t) (unknown OfVolume) _ there
          (ends-passed armed before (Some why) before (is_running t) (server_off (before.control.volume t).server) _ on
          (refuses armed before (may_copy t) (relation_state before.control t) (Some why) _ never (ap Some is))))

      pub copy-held : (why : Refusal) → may_copy t before.control ≡ true → may_give_back t before.control ≡ false → why ≡ pair_state before.control (fields_at before.control t).source
          → (line : ℕ) → after_plan before line (copy_plan before.control t most) ≡ said before line (Refused why)
      copy-held why may held is =
          refused-so why (λ armed ds. ends-passed armed before (Some why) before (is_defined t) (unknown OfVolume) _ there
          (ends-passed armed before (Some why) before (is_running t) (server_off (before.control.volume t).server) _ on
          (ends-passed armed before (Some why) before (may_copy t) (relation_state before.control t) _ may
          (refuses armed before (may_give_back t) (pair_state before.control (fields_at before.control t).source) (Some why) _ held (ap Some is)))))

      -- then the tracks are
      abbrev pub Copies : Type 0
      Copies = (may_copy t before.control ≡ true) × (may_give_back t before.control ≡ true)

      checked : Copies → Checked before checks None
      checked may armed u r ds ends =
          ends-passed armed u r before (is_defined t) (unknown OfVolume) _ there
          (ends-passed armed u r before (is_running t) (server_off (before.control.volume t).server) _ on
          (ends-passed armed u r before (may_copy t) (relation_state before.control t) _ may.0
          (ends-passed armed u r before (may_give_back t) (pair_state before.control (fields_at before.control t).source) _ may.1 ends)))

      all-carried : Copies → (n : ℕ) → n ≡ copied → (u : World) (r : Option Refusal) → carry before (times n (copy_one before.control t)) ≡ (u, r) → carry before (checks ++ times copied (copy_one before.control t)) ≡ (u, r)
      all-carried may n is u r carried =
          goes-on before before checks (times copied (copy_one before.control t))
          (exact s before None before checks pass (checked may (armed_in s) before None [] (ends-none (armed_in s) before None before (record { world = refl; refusal = refl }))))
          ∙ ap (λ k. carry before (times k (copy_one before.control t))) (sym is) ∙ carried

      pub copy-done : Copies → (n : ℕ) → n ≡ copied → (u : World) → carry before (times n (copy_one before.control t)) ≡ (u, None) → (line : ℕ) → after_plan before line (copy_plan before.control t most) ≡ said u line (Done (Counted n))
      copy-done may n is u carried line =
          entries-done before u line (checks ++ times copied (copy_one before.control t)) (Done (Counted copied)) (all-carried may n is u None carried)
          ∙ ap (λ k. said u line (Done (Counted k))) (sym is)

      pub copy-failed : Copies → (n : ℕ) → n ≡ copied → (u : World) (r : Refusal) → carry before (times n (copy_one before.control t)) ≡ (u, Some r) → (line : ℕ) → after_plan before line (copy_plan before.control t most) ≡ said u line (Refused r)
      copy-failed may n is u r carried line =
          entries-refused before u line (checks ++ times copied (copy_one before.control t)) (Done (Counted copied)) r (all-carried may n is u (Some r) carried)

-- how many staged tracks are put in their place
pub staged-count : (o : Option ℕ) (there : Bool) → there ≡ is_some o → from_bool there ≡ redo_writes o
staged-count None there is = ap from_bool is
staged-count (Some t) there is = ap from_bool is

-- a staged track is put in its place
module _ (s : PlantState) (c : ConfigTable) (h : Tables) (ev : List Event) (v : ℕ) (pass : ReadsPass s) where
  abbrev pub at_first : World
  at_first = here s c h ev

  abbrev pub placed : List Entry
  placed = destage_entries (volume_seen s c v).staged v

  abbrev pub guards : List Entry
  guards = check (is_defined v) (unknown OfVolume) ∷ check (is_running v) (server_off (at_first.control.volume v).server) ∷ []

  abbrev answers : Said
  answers = Done (Counted (redo_writes (volume_seen s c v).staged))

  pub destage-nowhere : (why : Refusal) → entry_of c v ≡ None → why ≡ unknown OfVolume → (line : ℕ) → after_plan at_first line (destage_plan at_first.control v) ≡ said at_first line (Refused why)
  destage-nowhere why none is =
      step-nowhere c s s h ev ev guards placed answers pass why
      (λ armed ds. refuses armed at_first (is_defined v) (unknown OfVolume) (Some why) _ (is_volume-here s c h ev v ∙ ap is_some none) (ap Some is))

  module _ (e : VolumeEntry) (found : entry_of c v ≡ Some e) where
    is_there : is_defined v at_first.control ≡ true
    is_there = is_volume-here s c h ev v ∙ ap is_some found

    pub destage-off : (why : Refusal) → is_running v at_first.control ≡ false → why ≡ server_off (at_first.control.volume v).server → (line : ℕ) → after_plan at_first line (destage_plan at_first.control v) ≡ said at_first line (Refused why)
    destage-off why off is =
        step-nowhere c s s h ev ev guards placed answers pass why
        (λ armed ds. ends-passed armed at_first (Some why) at_first (is_defined v) (unknown OfVolume) _ is_there
        (refuses armed at_first (is_running v) (server_off (at_first.control.volume v).server) (Some why) _ off (ap Some is)))

    module _ (on : is_running v at_first.control ≡ true) (u : PlantState) (mid : List Event) where
      abbrev now_there : World
      now_there = here u c h mid

      guarded : Checked at_first guards None
      guarded armed x r ds ends =
          ends-passed armed x r at_first (is_defined v) (unknown OfVolume) _ is_there
          (ends-passed armed x r at_first (is_running v) (server_off (at_first.control.volume v).server) _ on ends)

      led : Leads at_first placed now_there → Ends (armed_in s) now_there None at_first placed
      led leads =
          subst (Ends (armed_in s) now_there None at_first) (append-nil placed)
          (leads (armed_in s) now_there None [] (ends-none (armed_in s) now_there None now_there (record { world = refl; refusal = refl })))

      failed : (r : Option Refusal) → Fails (armed_in s) at_first placed now_there r → Ends (armed_in s) now_there r at_first placed
      failed r fails = subst (Ends (armed_in s) now_there r at_first) (append-nil placed) (fails [])

      pub destage-done : (there : Bool) → there ≡ is_some (volume_seen s c v).staged → Leads at_first placed now_there → (line : ℕ) → after_plan at_first line (destage_plan at_first.control v) ≡ said now_there line (Done (Counted (from_bool there)))
      destage-done there is leads line =
          step-done c s u h ev mid guards placed answers pass guarded (led leads) line
          ∙ ap (λ n. said now_there line (Done (Counted n))) (sym (staged-count (volume_seen s c v).staged there is))

      pub destage-failed : (r : Refusal) → Fails (armed_in s) at_first placed now_there (Some r) → (line : ℕ) → after_plan at_first line (destage_plan at_first.control v) ≡ said now_there line (Refused r)
      destage-failed r fails line = step-refused c s u h ev mid guards placed answers pass r guarded (failed (Some r) fails) line

      -- and what is ready stays so
      pub led-ready : Leads at_first placed now_there → IsAtRest u c → ((q : ℕ) → s.read_fuse q ≡ None → u.read_fuse q ≡ None) → IsTold h ev → IsReady u c h mid
      led-ready leads rest unarmed told = step-ready c s u h ev mid guards placed answers pass None guarded (led leads) rest unarmed told

      pub failed-ready : (r : Refusal) → Fails (armed_in s) at_first placed now_there (Some r) → IsAtRest u c → ((q : ℕ) → s.read_fuse q ≡ None → u.read_fuse q ≡ None) → IsTold h ev → IsReady u c h mid
      failed-ready r fails rest unarmed told = step-ready c s u h ev mid guards placed answers pass (Some r) guarded (failed (Some r) fails) rest unarmed told
