-- The steps on pairs: the servers that a line names, and what is compared where a pair is made.
use Rattle.std.proofs.Common.{ℕ, ◌≡◌, ◌<◌, List, [], ◌∷◌, ◌++◌, refl, sym, ◌∙◌, ap, subst, arith, Bool, true, false, not, Option, Some, None}
use Rattle.std.specs.Prelude.{option_map, if◌then◌else◌}
use Rattle.std.specs.Str.{bytes_eq}
use Rattle.std.proofs.lemmas.Bool.{eqb-true, not-true}
use Rattle.std.proofs.lemmas.List.{append-nil}
use Rattle.dr_ids.specs.declared.refusal.Refusal.{Refusal}
use Rattle.dr_ids.specs.declared.refusal.Refusal.TheVariants.{InSession}
use Rattle.dr_ids.specs.declared.refusal.Kind.TheVariants.{Server as OfServer}
use Rattle.dr_plant.specs.State.{PlantState}
use Rattle.dr_config.specs.Table.{ConfigTable}
use Rattle.dr_laws_sound.proofs.Compares.{same-found}
use Rattle.dr_steps.specs.declared.tables.Tables.{Tables}
use Rattle.dr_model.specs.declared.event.Event.{Event}
use Rattle.dr_model.specs.declared.said.Said.TheVariants.{Done, Refused}
use Rattle.dr_model.specs.declared.said.Addition.TheVariants.{Alone}
use Rattle.dr_model.specs.declared.state.Part.{Part}
use Rattle.dr_model.specs.declared.state.Part.TheVariants.{Absent, Metro, Global}
use Rattle.dr_model.specs.declared.step.Name.{Name}
use Rattle.dr_model.specs.declared.step.Devs.{Devs}
use Rattle.dr_model.specs.declared.step.PairChoices.{PairChoices}
use Rattle.dr_model.specs.Contents.{image_at}
use Rattle.dr_model.specs.Control.{Control, World}
use Rattle.dr_model.specs.Pairs.{first_state}
use Rattle.dr_model.specs.Moves.{MakeSecondary, MakePrimary}
use Rattle.dr_model.specs.Carry.{Entry, carry, check, now}
use Rattle.dr_model.specs.Entries.{is_at, is_running, share_size, is_no_target, is_settled}
use Rattle.dr_model.specs.Laws.{Sound}
use Rattle.dr_model.specs.PairEntries.{make_entries, refuse_if, end_if, reach_refusal, first_differing, differs_at, two_servers, may_lead, may_follow, has_path, are_linked}
use Rattle.dr_model.specs.Plans.{found_pair, found_volumes, cascades, cascade_refusal, member_refusal, is_owner, is_named, server_named, name_bytes, make_pair_plan}
use Rattle.dr_model.specs.ReadStops.{Ends}
use Rattle.dr_model.specs.Refusals.{unknown, server_off}
use Rattle.dr_model.specs.Runs.{after_plan, said}
use Rattle.dr_model.specs.Sessions.{Session, in_session}
use Rattle.dr_model.proofs.CarryLemmas.{carry-passed, carry-refused, carry-skips, carry-first}
use Rattle.dr_laws_sound.proofs.Agree.{contents-image}
use Rattle.dr_volume.specs.View.{ReadsPass}
use Rattle.dr_moves.specs.Checks.{Checked}
use Rattle.dr_moves.specs.Here.{armed_in, IsAtRest}
use Rattle.dr_moves.proofs.EntryLemmas.{refuses}
use Rattle.dr_facts.proofs.Ends.{ends-passed, ends-none}
use Rattle.dr_gcopy.proofs.SendLemmas.{refuse-passes, refuse-ends}
use Rattle.dr_steps.specs.Here.{here, IsReady, IsTold}
use Rattle.dr_steps.proofs.FlashLemmas.{entries-done, entries-refused}
use Rattle.dr_steps.proofs.LandLemmas.{exact, goes-on, told-through, ready-after}

-- the server of a volume is the one that is named
pub owner-named : (k : Control) (dev : Option Name) (v n : ℕ) → (k.volume v).server ≡ n → is_owner dev v k ≡ is_named dev n k
owner-named k None v n is = refl
owner-named k (Some name) v n is = ap (λ n. is_at (server_named k (name_bytes name)) n) is

module _ (w : World) (devs : Devs) (a b : ℕ) where
  pub found-then_foreign : (why : Refusal) → Checked w (found_pair devs.dev a b) None → is_owner devs.remotedev b w.control ≡ false → why ≡ unknown OfServer → Checked w (found_volumes devs a b) (Some why)
  found-then_foreign why first foreign is armed ds =
      first armed w (Some why) (check (is_owner devs.remotedev b) (unknown OfServer) ∷ ds) (refuses armed w (is_owner devs.remotedev b) (unknown OfServer) (Some why) ds foreign (ap (λ x. Some x) is))

  pub found-then_named : Checked w (found_pair devs.dev a b) None → is_owner devs.remotedev b w.control ≡ true → Checked w (found_volumes devs a b) None
  found-then_named first owned armed u r ds ends =
      first armed u r (check (is_owner devs.remotedev b) (unknown OfServer) ∷ ds) (ends-passed armed u r w (is_owner devs.remotedev b) (unknown OfServer) ds owned ends)

  -- and neither is the primary of a member, or one is
  abbrev pub found_free : List Entry
  found_free = found_volumes devs a b ++ refuse_if (member_refusal a b) ∷ []

  pub nowhere-free : (why : Refusal) → Checked w (found_volumes devs a b) (Some why) → Checked w found_free (Some why)
  nowhere-free why first armed ds = first armed (refuse_if (member_refusal a b) ∷ ds)

  pub found-then_free : (o : Option Refusal) → o ≡ member_refusal a b w.control → Checked w (found_volumes devs a b) None → Checked w found_free o
  found-then_free None is first = λ armed u r ds ends. first armed u r (refuse_if (member_refusal a b) ∷ ds) (refuse-passes w (member_refusal a b) (sym is) armed u r ds ends)
  found-then_free (Some why) is first = λ armed ds. first armed w (Some why) (refuse_if (member_refusal a b) ∷ ds) (refuse-ends armed w (member_refusal a b) why (sym is) ds)

  -- the volumes are found, and the first isn't the secondary or the target of a member, where that is asked
  pub nowhere-apart : (ask : Bool) (why : Refusal) → Checked w (found_volumes devs a b) (Some why) → Checked w (found_volumes devs a b ++ (if ask then refuse_if (cascade_refusal a) ∷ [] else [])) (Some why)
  nowhere-apart true why first armed ds = first armed (refuse_if (cascade_refusal a) ∷ ds)
  nowhere-apart false why first armed ds = first armed ds

  pub found-then_apart : (o : Option Refusal) → o ≡ cascade_refusal a w.control → Checked w (found_volumes devs a b) None → Checked w (found_volumes devs a b ++ refuse_if (cascade_refusal a) ∷ []) o
  found-then_apart None is first = λ armed u r ds ends. first armed u r (refuse_if (cascade_refusal a) ∷ ds) (refuse-passes w (cascade_refusal a) (sym is) armed u r ds ends)
  found-then_apart (Some why) is first = λ armed ds. first armed w (Some why) (refuse_if (cascade_refusal a) ∷ ds) (refuse-ends armed w (cascade_refusal a) why (sym is) ds)

-- the session that a table has for a member, by its number
pub in-session : (n : ℕ) (o : Option Session) → Some n ≡ option_map (λ (x : Session). x.number) o → Some (InSession (record { 0 = n })) ≡ in_session o
in-session n None is = absurd cc
in-session n (Some x) is = ap in_some is
  where
    in_some : Option ℕ → Option Refusal
    in_some None = None
    in_some (Some m) = Some (InSession (record { 0 = m }))

-- a pair of a cascaded volume is of Global Copy
pub cascades-global : (kind : Part) (choices : PairChoices) → cascades kind choices ≡ true → kind ≡ Global
cascades-global Absent choices is = absurd cc
cascades-global Metro choices is = absurd cc
cascades-global Global choices is = refl

-- where a check passes, what comes behind it decides
module _ (w : World) (ds es : List Entry) where
  pub check-alike : (ok : Control → Bool) (why : Refusal) → (ok w.control ≡ true → carry w ds ≡ carry w es) → carry w (check ok why ∷ ds) ≡ carry w (check ok why ∷ es)
  check-alike ok why more = by (ok w.control) refl
    where
      by : (b : Bool) → ok w.control ≡ b → carry w (check ok why ∷ ds) ≡ carry w (check ok why ∷ es)
      by true is = carry-passed w ok why ds is ∙ more is ∙ sym (carry-passed w ok why es is)
      by false is = carry-refused w ok why ds is ∙ sym (carry-refused w ok why es is)

  pub refuse-alike : (why : Control → Option Refusal) → (why w.control ≡ None → carry w ds ≡ carry w es) → carry w (refuse_if why ∷ ds) ≡ carry w (refuse_if why ∷ es)
  refuse-alike why more = by (why w.control) refl
    where
      by : (o : Option Refusal) → why w.control ≡ o → carry w (refuse_if why ∷ ds) ≡ carry w (refuse_if why ∷ es)
      by None is = carry-skips w (refuse_if why) ds (ap end_if is) ∙ more is ∙ sym (carry-skips w (refuse_if why) es (ap end_if is))
      by (Some r) is = carry-first w (refuse_if why) ds _ (ap end_if is) ∙ sym (carry-first w (refuse_if why) es _ (ap end_if is))

-- a volume that is reached runs
reached-runs : (w : World) (a b : ℕ) → reach_refusal a b w.control ≡ None → is_running b w.control ≡ true
reached-runs w a b none = by (has_path a b w.control) (is_running b w.control) (are_linked a b w.control) _ _ _ none
  where
    by : (p on up : Bool) (x y z : Refusal) → (if not p then Some x else if not on then Some y else if not up then Some z else None) ≡ None → on ≡ true
    by true true up x y z h = refl
    by true false up x y z h = absurd cc
    by false on up x y z h = absurd cc

module _ (w : World) (sound : Sound w) (a b : ℕ) (kind : Part) where
  abbrev n : ℕ
  n = (w.control.volume a).tracks

  -- where neither is a target, what they contain is what the host writes say
  difference-image : is_running a w.control ≡ true → is_running b w.control ≡ true → share_size a b w.control ≡ true → is_no_target a w.control ≡ true → is_no_target b w.control ≡ true
      → first_differing w.contents n a b ≡ first_differing (image_at w.events) n a b
  difference-image on_a on_b size plain_a plain_b = same-found _ _ n 0 (λ t lt.
      let low : t < n = omega (arith, lt) in
      let low_b : t < (w.control.volume b).tracks = subst (λ m. t < m) (eqb-true n (w.control.volume b).tracks size) low in
      let here = contents-image w sound a t low on_a (not-true _ plain_a) in
      let there = contents-image w sound b t low_b on_b (not-true _ plain_b) in
      λ i. not (bytes_eq (here i) (there i)))

  abbrev pub seen-of : Bool → (ℕ → ℕ → List ℕ) → Option ℕ
  seen-of full contents = if full then None else first_differing contents n a b

  -- so making a pair by what devices have is making it by what the journal says
  pub make-alike : (cascade full : Bool) → carry w (make_entries w.control a b kind cascade full (seen-of full w.contents)) ≡ carry w (make_entries w.control a b kind cascade full (seen-of full (image_at w.events)))
  make-alike cascade full =
      check-alike w _ _ (is_running a) (server_off (w.control.volume a).server) (λ on.
      refuse-alike w _ _ (reach_refusal a b) (λ reached.
      check-alike w _ _ (two_servers a b) _ (λ two.
      check-alike w _ _ (share_size a b) _ (λ size.
      check-alike w _ _ (may_lead cascade a b) _ (λ leads.
      check-alike w _ _ (may_follow a b) _ (λ follows.
      check-alike w _ _ (is_no_target a) _ (λ plain_a.
      check-alike w _ _ (is_no_target b) _ (λ plain_b.
      check-alike w _ _ (is_settled b) _ (λ settled.
      ap (λ d. carry w (refuse_if (differs_at d) ∷ now (MakeSecondary b a kind (first_state kind full)) ∷ now (MakePrimary a b kind (first_state kind full) full) ∷ [])) (by full on (reached-runs w a b reached) size plain_a plain_b))))))))))
    where
      by : (full : Bool) → is_running a w.control ≡ true → is_running b w.control ≡ true → share_size a b w.control ≡ true → is_no_target a w.control ≡ true → is_no_target b w.control ≡ true → seen-of full w.contents ≡ seen-of full (image_at w.events)
      by true on_a on_b size plain_a plain_b = refl
      by false on_a on_b size plain_a plain_b = difference-image on_a on_b size plain_a plain_b

-- the step that makes a pair
module _ (c : ConfigTable) (s u : PlantState) (h : Tables) (ev mid : List Event) (devs : Devs) (a b : ℕ) (kind : Part) (choices : PairChoices) (pass : ReadsPass s) (sound : Sound (here s c h ev)) where
  abbrev pub before : World
  before = here s c h ev

  abbrev pub after : World
  after = here u c h mid

  -- the volumes are found, and the first isn't the secondary or the target of a member
  abbrev pub front : Bool → List Entry
  front cascade = found_volumes devs a b ++ (if cascade then refuse_if (cascade_refusal a) ∷ [] else [])

  -- the kind of the pair, and whether its primary is cascaded, are what the call below takes
  abbrev by_devices : Bool → Part → List Entry
  by_devices cascade kind = make_entries before.control a b kind cascade choices.full (seen-of before sound a b kind choices.full before.contents)

  abbrev by_journal : List Entry
  by_journal = make_entries before.control a b kind (cascades kind choices) choices.full (seen-of before sound a b kind choices.full (image_at ev))

  abbrev pub all : List Entry
  all = front (cascades kind choices) ++ by_journal

  module _ (cascade : Bool) (asked : cascade ≡ cascades kind choices) where
    made : (r : Option Refusal) (known : Part) → known ≡ kind → Checked before (front cascade) None → Ends (armed_in s) after r before (by_devices cascade known) → carry before all ≡ (after, r)
    made r known same checked ends =
        ap (λ x. carry before (front x ++ by_journal)) (sym asked)
        ∙ goes-on before before (front cascade) by_journal
        (exact s before None before (front cascade) pass (subst (Ends (armed_in s) before None before) (append-nil (front cascade)) (checked (armed_in s) before None [] (ends-none (armed_in s) before None before (record { world = refl; refusal = refl })))))
        ∙ sym (make-alike before sound a b kind (cascades kind choices) choices.full)
        ∙ (λ i. carry before (by_devices (sym asked i) (sym same i)))
        ∙ exact s after r before (by_devices cascade known) pass ends

    pub make-nowhere : (why : Refusal) → Checked before (front cascade) (Some why) → (line : ℕ) → after_plan before line (make_pair_plan before.control ev devs a b kind choices) ≡ said before line (Refused why)
    make-nowhere why checked line =
        entries-refused before before line all (Done Alone) why (ap (λ x. carry before (front x ++ by_journal)) (sym asked) ∙ exact s before (Some why) before (front cascade ++ by_journal) pass (checked (armed_in s) by_journal))

    pub make-done : (known : Part) → known ≡ kind → Checked before (front cascade) None → Ends (armed_in s) after None before (by_devices cascade known) → (line : ℕ) → after_plan before line (make_pair_plan before.control ev devs a b kind choices) ≡ said after line (Done Alone)
    make-done known same checked ends line = entries-done before after line all (Done Alone) (made None known same checked ends)

    pub make-refused : (r : Refusal) (known : Part) → known ≡ kind → Checked before (front cascade) None → Ends (armed_in s) after (Some r) before (by_devices cascade known) → (line : ℕ) → after_plan before line (make_pair_plan before.control ev devs a b kind choices) ≡ said after line (Refused r)
    make-refused r known same checked ends line = entries-refused before after line all (Done Alone) r (made (Some r) known same checked ends)

    pub make-ready : (r : Option Refusal) (known : Part) → known ≡ kind → Checked before (front cascade) None → Ends (armed_in s) after r before (by_devices cascade known) → IsAtRest u c → ((q : ℕ) → s.read_fuse q ≡ None → u.read_fuse q ≡ None) → IsTold h ev → IsReady u c h mid
    make-ready r known same checked ends rest unarmed told = ready-after c s u h mid pass rest unarmed (told-through h before after all r (made r known same checked ends) told)
