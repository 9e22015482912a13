-- What a comparison answers is what the devices contain.
use Rattle.std.proofs.Common.{ℕ, zero, suc, ◌≡◌, ◌≢◌, inl, inr, ◌<◌, ◌≤◌, ◌+◌, refl, ap, sym, ◌∙◌, subst, Bool, true, false, cond, not, List, [], ◌∷◌, Option, Some, None, Ok, arith}
use Rattle.std.proofs.lemmas.Bool.{not-false, not-true, eqb-true}
use Rattle.std.proofs.lemmas.Bool.Decides.{eqb_tells}
use Rattle.std.proofs.lemmas.Slice.Eq.{bytes_eq-Decides}
use Rattle.std.specs.List.{find, range_with_len}
use Rattle.std.specs.Str.{bytes_eq}
use Rattle.dr_ids.specs.declared.refusal.Refusal.{Refusal}
use Rattle.dr_ids.specs.declared.refusal.Refusal.TheVariants.{NotIdentical, JournalFull}
use Rattle.dr_model.specs.declared.said.Said.{Said}
use Rattle.dr_model.specs.declared.said.Said.TheVariants.{Done, Refused}
use Rattle.dr_model.specs.declared.step.Step.TheVariants.{Compare}
use Rattle.dr_model.specs.Layout.{Blocks}
use Rattle.dr_model.specs.Control.{Control, Volume, World, is_volume}
use Rattle.dr_model.specs.Fits.{on_device}
use Rattle.dr_model.specs.Carry.{Pass, End, Entry, Outcome, go, carry, check}
use Rattle.dr_model.specs.Entries.{is_running, share_size}
use Rattle.dr_model.specs.PairEntries.{refuse_if, first_differing, differs_at}
use Rattle.dr_model.specs.Plans.{Plan, is_defined, compare_plan, refuses, has_room}
use Rattle.dr_model.specs.Carried.{carried_out, answered, after_plan}
use Rattle.dr_model.specs.Runs.{Task, answered_part, after_task, run}
use Rattle.dr_model.proofs.CarryLemmas.{carry-none, plan-ends, plan-fails}
use Rattle.dr_laws_sound.specs.Acknowledged.{said_in, part_answer}
use Rattle.dr_laws_sound.proofs.Compares.{compare-same}
use Rattle.dr_laws_sound.proofs.FitsFlash.{as_begun}
use Rattle.dr_laws_sound.proofs.Journal.{run-more}
use Rattle.dr_laws_recovery.specs.Recovered.{HoldsTracks}
use Rattle.dr_laws_return.specs.Compared.{AreSame, DifferFirst, Tells, ComparesDevices}
use Rattle.dr_logic.proofs.Options.{none_some}
use Rattle.dr_logic.proofs.Truth.{false_true}

-- ---- the first number at which a test holds

abbrev First : (ℕ → Bool) → ℕ → ℕ → Option ℕ → Type 0
First f b n None = (q : ℕ) → b < q + 1 → q < b + n → f q ≡ false
First f b n (Some m) = (m < b + n) × (f m ≡ true) × ((q : ℕ) → b < q + 1 → q < m → f q ≡ false)

first-found : (f : ℕ → Bool) (n b : ℕ) → First f b n (find f (range_with_len b n))
first-found f zero b = λ q above below. absurd (omega (arith, above, below))
first-found f (suc n) b = by (f b) refl (find f (range_with_len (b + 1) n)) (first-found f n (b + 1))
  where
    -- b itself, or one behind it
    from : (q : ℕ) → b < q + 1 → f b ≡ false → (b + 1 < q + 1 → f q ≡ false) → f q ≡ false
    from q above not_b further = elim (eqb_tells q b) [
      | inl is ↦ ap f is.1 ∙ not_b
      | inr other ↦ further (let ne : q ≢ b = other.1 in omega (arith, above, ne))
    ]

    by : (c : Bool) → f b ≡ c → (o : Option ℕ) → First f (b + 1) n o → First f b (suc n) (cond c (Some b) o)
    by true is o rest = (omega arith, is, λ q above below. absurd (omega (arith, above, below)))
    by false is None rest = λ q above below. from q above is (λ h. rest q h (omega (arith, below)))
    by false is (Some m) rest = let low = rest.0 in (omega (arith, low), rest.1, λ q above below. from q above is (λ h. rest.2 q h below))

module _ (w : World) (v u : ℕ) where
  abbrev k : Control
  k = w.control

  -- both volumes are there
  record AreThere : Type 0 where
    first : is_volume k v ≡ true
    second : is_volume k u ≡ true

  -- what a comparison that ended so says of the world that it found
  abbrev Found : Option Refusal → Type 0
  Found None = AreThere × AreSame k w.contents v u (k.volume v).tracks
  Found (Some (NotIdentical n)) = AreThere × DifferFirst k w.contents v u n
  Found (Some _) = Unit {0}

  abbrev p : Plan
  p = compare_plan k w.contents v u

  under : (x : World) (ok : Control → Bool) (r : Refusal) (ds : List Entry) → Found (Some r) → (ok x.control ≡ true → Found (carry x ds).1) → Found (carry x (check ok r ∷ ds)).1
  unfolding carry
  under x ok r ds refused rest = by (ok x.control) refl
    where
      by : (b : Bool) → ok x.control ≡ b → Found (go x (cond b Pass (End r)) (λ y. carry y ds)).1
      by true is = rest is
      by false is = refused

  last-found : (x : World) (d : Option ℕ) → Found (differs_at d x.control) → Found (carry x (refuse_if (differs_at d) ∷ [])).1
  unfolding carry
  last-found x None found = found
  last-found x (Some n) found = found

  abbrev differs : ℕ → Bool
  differs t = not (bytes_eq (w.contents v t) (w.contents u t))

  same-track : (t : ℕ) → differs t ≡ false → w.contents v t ≡ w.contents u t
  same-track t h = (bytes_eq-Decides (w.contents v t) (w.contents u t)).0 (not-false _ h)

  found-first : AreThere → share_size v u k ≡ true → (o : Option ℕ) → First differs 0 (k.volume v).tracks o → Found (differs_at o k)
  found-first there size None none = (there, record { size = eqb-true (k.volume v).tracks (k.volume u).tracks size; tracks = λ t low. same-track t (none t (omega arith) (omega (arith, low))) })
  found-first there size (Some n) one = (
    there,
    record {
      within = let low : n < 0 + (k.volume v).tracks = one.0 in omega (arith, low);
      before = record { size = eqb-true (k.volume v).tracks (k.volume u).tracks size; tracks = λ t low. same-track t (one.2 t (omega arith) low) };
      differs = λ is. false_true (not-true _ one.1) ((bytes_eq-Decides (w.contents v n) (w.contents u n)).1 is);
    },
  )

  found-entries : Found (carry (as_begun w) p.entries).1
  found-entries =
      let first : World = as_begun w in
      let d : Option ℕ = first_differing w.contents (k.volume v).tracks v u in
      under first (is_defined v) _ _ tt (λ there. under first (is_defined u) _ _ tt (λ too. under first (is_running v) _ _ tt (λ on. under first (is_running u) _ _ tt (λ runs. under first (share_size v u) _ _ tt (λ size.
      last-found first d (found-first (record { first = there; second = too }) size d (first-found differs (k.volume v).tracks 0)))))))

  -- ---- the answer, and the world behind it

  -- what an answer says of the world that the step found
  abbrev Answered : Said → Type 0
  Answered (Done addition) = Found None
  Answered (Refused r) = Found (Some r)
  Answered _ = Unit {0}

  answered-found : (c : Control) (o : Option Refusal) → Found o → Answered (answered p c o)
  answered-found c None found = found
  answered-found c (Some r) found = found

  -- nothing of the volumes has changed
  record Stayed (x : World) : Type 0 where
    volume : x.control.volume ≡ k.volume
    volumes : x.control.volumes ≡ k.volumes
    contents : x.contents ≡ w.contents

  stayed : (line : ℕ) → Stayed (after_plan w line p)
  stayed line = by (carry (as_begun w) p.entries).1 (ap (λ (x : World). (x, (carry (as_begun w) p.entries).1)) (compare-same (as_begun w) w.contents v u))
    where
      by : (o : Option Refusal) → carry (as_begun w) p.entries ≡ (as_begun w, o) → Stayed (after_plan w line p)
      by None e = subst Stayed (sym (plan-ends w line p (as_begun w, None) e)) (record { volume = refl; volumes = refl; contents = refl })
      by (Some r) e = subst Stayed (sym (plan-fails w (as_begun w) line p r (λ s. refl) e)) (record { volume = refl; volumes = refl; contents = refl })

  -- devices that hold the tracks of a world in which the volumes are the same
  module _ (x : World) (is : Stayed x) (device : ℕ → Blocks) (holds : HoldsTracks x device) where
    abbrev on : ℕ → ℕ → List ℕ
    on = on_device x.control device

    held : (j t : ℕ) → is_volume k j ≡ true → t < (k.volume j).tracks → on j t ≡ w.contents j t
    held j t there low =
        holds j t (subst (λ vs. is_volume (record k { volumes = vs }) j ≡ true) (sym is.volumes) there) (subst (λ (vs : ℕ → Volume). t < (vs j).tracks) (sym is.volume) low)
        ∙ ap (λ (c : ℕ → ℕ → List ℕ). c j t) is.contents

    size-there : (k.volume v).tracks ≡ (k.volume u).tracks → (x.control.volume v).tracks ≡ (x.control.volume u).tracks
    size-there h = ap (λ (vs : ℕ → Volume). (vs v).tracks) is.volume ∙ h ∙ sym (ap (λ (vs : ℕ → Volume). (vs u).tracks) is.volume)

    same-on : AreThere → (n : ℕ) → n ≤ (k.volume v).tracks → AreSame k w.contents v u n → AreSame x.control on v u n
    same-on there n few same = record {
      size = size-there same.size;
      tracks = λ t low.
          let inside : t < (k.volume v).tracks = omega (arith, low, few) in
          held v t there.first inside ∙ same.tracks t low ∙ sym (held u t there.second (subst (λ m. t < m) same.size inside));
    }

    tells : (a : Said) → Answered a → Tells x.control on v u a
    tells (Done addition) (there, same) =
        subst (AreSame x.control on v u) (sym (ap (λ (vs : ℕ → Volume). (vs v).tracks) is.volume)) (same-on there (k.volume v).tracks (omega arith) same)
    tells (Refused (NotIdentical n)) (there, d) = record {
      within = subst (λ (vs : ℕ → Volume). n < (vs v).tracks) (sym is.volume) d.within;
      before = same-on there n (let low = d.within in omega (arith, low)) d.before;
      differs = λ same. d.differs (sym (held v n there.first d.within) ∙ same ∙ held u n there.second (subst (λ m. n < m) d.before.size d.within));
    }
    tells (Refused _) h = tt
    tells _ h = tt

  -- a plan's answer says what devices contain that hold what is there behind it
  module _ (line : ℕ) (device : ℕ → Blocks) where
    abbrev Says : Plan → Type 0
    Says q = let x : World = answered_part line (record { world = w; plan = q }) in HoldsTracks x device → Tells x.control (on_device x.control device) v u (part_answer (record { world = w; plan = q }))

    full-says : Says (refuses JournalFull)
    full-says holds = by (carried_out w (refuses JournalFull)).0.control (carry (as_begun w) []).1 (ap (λ (o : Outcome). o.1) (carry-none (as_begun w)))
      where
        x : World
        x = answered_part line (record { world = w; plan = refuses JournalFull })

        by : (c : Control) (o : Option Refusal) → o ≡ None → Tells x.control (on_device x.control device) v u (answered (refuses JournalFull) c o)
        by c None h = tt
        by c (Some r) h = none_some h refl

    plan-says : Says p
    plan-says holds =
        let x : World = answered_part line (record { world = w; plan = p }) in
        let after : Stayed (after_plan w line p) = stayed line in
        tells x (record { volume = after.volume; volumes = after.volumes; contents = after.contents }) device holds (part_answer (record { world = w; plan = p }))
        (answered-found (carried_out w p).0.control (carry (as_begun w) p.entries).1 found-entries)

    room-says : (b : Bool) → Says (cond b p (refuses JournalFull))
    room-says true = plan-says
    room-says false = full-says

pub compared-run : (tasks : List Task) (device : ℕ → Blocks) → HoldsTracks (run tasks) device → ComparesDevices tasks device
compared-run tasks device holds before t v u is asked =
    let w : World = run before in
    let same : t ≡ record { line = t.line; asked = Ok (Compare v u); listed = t.listed } = λ i. record t { asked = asked i } in
    let leads : run tasks ≡ after_task w (record { line = t.line; asked = Ok (Compare v u); listed = t.listed }) = ap run is ∙ run-more before t ∙ ap (after_task w) same in
    subst (λ (t : Task). Tells (run tasks).control (on_device (run tasks).control device) v u (said_in w t)) (sym same)
    (subst (λ (x : World). HoldsTracks x device → Tells x.control (on_device x.control device) v u (said_in w (record { line = t.line; asked = Ok (Compare v u); listed = t.listed }))) (sym leads) (room-says w v u t.line device (has_room w.events)) holds)
