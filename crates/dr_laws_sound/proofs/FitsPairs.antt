-- The plans on pairs are allowed along: a pair is made and removed, paused and resumed.
use Rattle.std.proofs.Common.{ℕ, zero, suc, ◌≡◌, ◌≢◌, ◌<◌, ◌+◌, inl, inr, refl, ap, sym, ◌∙◌, subst, Bool, true, false, cond, not, ◌&&◌, ◌||◌, ◌==◌, nat_eq, List, [], ◌∷◌, ◌++◌, Option, Some, None, arith}
use Rattle.std.specs.Prelude.{is_some}
use Rattle.std.proofs.lemmas.List.{append-nil}
use Rattle.std.proofs.lemmas.Bool.{and_parts, or_parts, eqb-true, eqb-false, eq-eqb, not-true, not-false}
use Rattle.std.proofs.lemmas.Bool.Decides.{eqb_tells}
use Rattle.std.proofs.lemmas.Slice.Eq.{bytes_eq-Decides}
use Rattle.std.specs.List.{find, range_with_len}
use Rattle.std.specs.Str.{bytes_eq}
use Rattle.dr_ids.specs.declared.refusal.Refusal.{Refusal}
use Rattle.dr_model.specs.declared.state.Part.{Part}
use Rattle.dr_model.specs.declared.state.Part.TheVariants.{Global}
use Rattle.dr_model.specs.declared.state.PairState.{PairState}
use Rattle.dr_model.specs.declared.state.PairState.TheVariants.{Suspended}
use Rattle.dr_model.specs.declared.step.Devs.{Devs}
use Rattle.dr_model.specs.declared.step.PairChoices.{PairChoices}
use Rattle.dr_model.specs.Contents.{image_at}
use Rattle.dr_model.specs.Layout.{Fields, is_part}
use Rattle.dr_model.specs.Pairs.{is_kind, is_metro, is_suspended, secondary_of, primary_of, is_primary_of, is_secondary_of, first_state, next_state}
use Rattle.dr_model.specs.Control.{Control, Fuse, Volume, World, is_volume}
use Rattle.dr_model.specs.Moves.{Suspend, MakeSecondary, MakePrimary, DropPrimary, DropSecondary, Follow, Resume}
use Rattle.dr_model.specs.Carry.{Make, Pass, Do, Entry, now}
use Rattle.dr_model.specs.Entries.{fields_at, is_running, share_size, is_no_target, is_settled}
use Rattle.dr_model.specs.PairEntries.{refuse_if, has_path, reach_refusal, first_differing, differs_at, two_servers, may_lead, make_entries, may_follow, leads_to, belongs_to, are_linked, let_go, remove_both, may_pause, tell_paused, may_resume, follow_on, resume_on}
use Rattle.dr_model.specs.Plans.{is_defined, is_owner, found_volumes, cascades, cascade_refusal, make_pair_plan, remove_pair_plan, pause_pair_plan, resume_pair_plan, member_refusal}
use Rattle.dr_model.specs.Laws.{Sound, Cascaded}
use Rattle.dr_model.specs.Attempts.{SecondaryOfNone}
use Rattle.dr_model.specs.Sessions.{is_copy}
use Rattle.dr_ids.specs.declared.names.Member.{Member}
use Rattle.dr_facts.proofs.Lists.{not-found, any-none}
use Rattle.dr_facts.proofs.Sessions.{in-none}
use Rattle.dr_model.specs.Allowed.{Runs}
use Rattle.dr_laws_sound.proofs.Turns.{done}
use Rattle.dr_laws_sound.proofs.RowsAfter.{idle}
use Rattle.dr_laws_sound.proofs.KeepsSound.{Along, Then, StepHolds, over, decides, moves, checked}
use Rattle.dr_laws_sound.proofs.Cases.{one-passed}
pub use Rattle.dr_laws_sound.proofs.FitsFlash.{refused, row, runs-done, part-same, part-done}
use Rattle.dr_laws_sound.proofs.FitsFlash.{as_begun, sound-begun, holds-entries, both-not}
use Rattle.dr_laws_sound.proofs.Lands.{unrestored, unflashed}
use Rattle.dr_laws_sound.proofs.CopyFirst.{unturned}
use Rattle.dr_laws_sound.proofs.Counting.{may-follow}
use Rattle.dr_laws_sound.proofs.Agree.{contents-image}
use Rattle.dr_logic.proofs.Choices.{choose_some}
use Rattle.dr_logic.proofs.Truth.{false_true}
use Rattle.dr_facts.proofs.Parts.{global-part}
use Rattle.dr_logic.proofs.Tables.{at_same, at_other}

-- the volumes that a command names are there
pub found : (w : World) → Sound w → (devs : Devs) (a b : ℕ) (ds : List Entry) → (is_volume w.control a ≡ true → is_volume w.control b ≡ true → Along w ds) → Along w (found_volumes devs a b ++ ds)
found w s devs a b ds go =
    checked w (is_defined a) _ _ s (λ first. checked w (is_defined b) _ _ s (λ second. checked w (is_owner devs.dev a) _ _ s (λ owner. checked w (is_owner devs.remotedev b) _ _ s (λ other. go first second))))

-- b can be reached: its server is on
pub reached : (w : World) (a b : ℕ) → reach_refusal a b w.control ≡ None → Runs w b
reached w a b h = not-false (is_running b w.control) (one-passed (not (is_running b w.control)) _ _ (one-passed (not (has_path a b w.control)) _ _ h).1).0

-- who is the partner
pub its-second : (b : ℕ) (f : Fields) → is_primary_of b f ≡ true → secondary_of f ≡ Some b
its-second b f h = let both = and_parts (is_part f.primary) _ h in choose_some (is_part f.primary) f.primary_partner both.0 ∙ ap (λ j. Some j) (eqb-true f.primary_partner b both.1)

pub its-first : (a : ℕ) (f : Fields) → is_secondary_of a f ≡ true → primary_of f ≡ Some a
its-first a f h = let both = and_parts (is_part f.secondary) _ h in choose_some (is_part f.secondary) f.secondary_partner both.0 ∙ ap (λ j. Some j) (eqb-true f.secondary_partner a both.1)

-- no track differs
none-found : (f : ℕ → Bool) (n b q : ℕ) → find f (range_with_len b n) ≡ None → b < q + 1 → q < b + n → f q ≡ false
none-found f zero b q h lo hi = absurd (omega arith)
none-found f (suc n) b q h lo hi =
    let first = passed (f b) b (find f (range_with_len (b + 1) n)) h in
    elim (eqb_tells q b) [
      | inl is ↦ ap f is.1 ∙ first.0
      | inr not ↦ none-found f n (b + 1) q first.1 (let ne : q ≢ b = not.1 in omega arith) (omega arith)
    ]
  where
    passed : (b : Bool) (x : ℕ) (o : Option ℕ) → cond b (Some x) o ≡ None → (b ≡ false) × (o ≡ None)
    passed true x o h = absurd cc
    passed false x o h = (refl, h)

identical : (contents : ℕ → ℕ → List ℕ) (n a b : ℕ) → first_differing contents n a b ≡ None → (t : ℕ) → t < n → contents a t ≡ contents b t
identical contents n a b h t lt =
    (bytes_eq-Decides (contents a t) (contents b t)).0 (not-false (bytes_eq (contents a t) (contents b t)) (none-found (λ t. not (bytes_eq (contents a t) (contents b t))) n 0 t h (omega arith) (omega arith)))

no-difference : (o : Option ℕ) (k : Control) → differs_at o k ≡ None → o ≡ None
no-difference None k h = refl
no-difference (Some t) k h = absurd cc

not-full : (full : Bool) (o : Option ℕ) → full ≡ false → cond full None o ≡ None → o ≡ None
not-full true o is h = absurd cc
not-full false o is h = h

module _ (w : World) (s : Sound w) where
  abbrev first : World
  first = as_begun w

  abbrev begins : Sound first
  begins = sound-begun w s

  -- a becomes the primary of b: it is no primary, and a secondary only where it is cascaded from then on, and of no member
  record MayLead (a b : ℕ) (kind : Part) : Type 0 where
    lone : is_part (fields_at w.control a).primary ≡ false
    cascaded : is_part (fields_at w.control a).secondary ≡ true → Cascaded kind b (fields_at w.control a).secondary (fields_at w.control a).secondary_partner
    unused : is_part (fields_at w.control a).secondary ≡ true → SecondaryOfNone w.control a

  may-lead : (a b : ℕ) (kind : Part) (c : Bool) → (c ≡ true → is_kind Global kind ≡ true) → (c ≡ true → SecondaryOfNone w.control a) → may_lead c a b w.control ≡ true → MayLead a b kind
  may-lead a b kind true global none leads =
      let both = and_parts (not (is_part (fields_at w.control a).primary)) _ leads in
      let second = and_parts (is_metro (fields_at w.control a).secondary) _ both.1 in
      record {
        lone = not-true (is_part (fields_at w.control a).primary) both.0;
        cascaded = λ h. record { sends = global refl; takes = second.0; apart = λ e. eqb-false _ _ (not-true (nat_eq (fields_at w.control a).secondary_partner b) second.1) (sym e) };
        unused = λ h. none refl;
      }
  may-lead a b kind false global none leads = let both = both-not _ _ leads in record { lone = both.0; cascaded = λ h. false_true both.1 h; unused = λ h. false_true both.1 h }

  -- a volume of which no session names a member's secondary or target
  of-none : (a : ℕ) → cascade_refusal a w.control ≡ None → SecondaryOfNone w.control a
  of-none a none x m i here e =
      let copy : (m.b.0 == a || m.c.0 == a) ≡ false = any-none (λ (q : Member). q.b.0 == a || q.c.0 == a) x.members m (not-found (is_copy a) w.control.sessions x (in-none (find (is_copy a) w.control.sessions) none) i) here in
      eqb-false m.b.0 a (or_parts (m.b.0 == a) _ copy).0 e

  -- what two volumes are of which a pair is made
  record MayPair (a b : ℕ) (kind : Part) (full : Bool) : Type 0 where
    part : is_part kind ≡ true
    apart : (w.control.volume a).server ≡ (w.control.volume b).server → ⊥
    tracks : (w.control.volume a).tracks ≡ (w.control.volume b).tracks
    there_a : is_volume w.control a ≡ true
    there_b : is_volume w.control b ≡ true
    leads : MayLead a b kind
    first_b : is_part (fields_at w.control b).primary ≡ false
    plain_a : (fields_at w.control a).related ≡ false
    plain_b : (fields_at w.control b).related ≡ false
    settled : is_settled b w.control ≡ true
    on_a : Runs first a
    on_b : Runs first b
    equal : full ≡ false → (t : ℕ) → t < (w.control.volume a).tracks → image_at w.events a t ≡ image_at w.events b t

  module _ (a b : ℕ) (kind : Part) (full : Bool) (p : MayPair a b kind full) where
    abbrev state : PairState
    state = first_state kind full

    abbrev half : Option Fuse → World
    half f = done first (MakeSecondary b a kind state) f

    told-nothing : (f : Option Fuse) (v t : ℕ) → image_at (half f).events v t ≡ image_at w.events v t
    told-nothing f v t = ap (λ es. image_at es v t) (append-nil (w.events ++ []) ∙ append-nil w.events)

    -- the secondary is one, and nothing waits: both contain what the journal says
    second-half : (f : Option Fuse) → Sound (half f) → Along (half f) (now (MakePrimary a b kind state full) ∷ [])
    second-half f x =
        let k : World = half f in
        let new : Volume = row first (MakeSecondary b a kind state) f in
        let ne : a ≢ b = λ e. p.apart (ap (λ j. (w.control.volume j).server) e) in
        let same : k.control.volume a ≡ w.control.volume a = at_other w.control.volume b new a ne in
        let here : k.control.volume b ≡ new = at_same w.control.volume b new in
        let on_a : Runs k a = runs-done first (MakeSecondary b a kind state) f a p.on_a in
        let on_b : Runs k b = runs-done first (MakeSecondary b a kind state) f b p.on_b in
        let plain_a : (fields_at k.control a).related ≡ false = ap (λ (x : Volume). x.fields.related) same ∙ p.plain_a in
        let plain_b : (fields_at k.control b).related ≡ false = ap (λ (x : Volume). x.fields.related) here ∙ p.plain_b in
        let second : (is_part (fields_at k.control a).secondary ≡ true → is_part (fields_at w.control a).secondary ≡ true) = λ h. ap (λ (x : Volume). is_part x.fields.secondary) (sym same) ∙ h in
        moves k (MakePrimary a b kind state full) [] (record {
          runs = on_a;
          allowed = record {
            is_kind = p.part;
            plain = plain_a;
            second = λ h. subst (λ (x : Volume). Cascaded kind b x.fields.secondary x.fields.secondary_partner) (sym same) (p.leads.cascaded (second h));
            defined = p.there_b;
            takes = ap (λ (x : Volume). primary_of x.fields) here ∙ choose_some (is_part kind) a p.part;
            alike = ap (λ (x : Volume). x.fields.secondary) here;
            equal = λ no t lt.
                let lt_a : t < (w.control.volume a).tracks = subst (λ (x : Volume). t < x.tracks) same lt in
                let lt_b : t < (k.control.volume b).tracks = subst (λ n. t < n) (p.tracks ∙ sym (ap (λ (x : Volume). x.tracks) here)) lt_a in
                contents-image k x a t lt on_a plain_a ∙ told-nothing f a t ∙ p.equal no t lt_a ∙ sym (told-nothing f b t) ∙ sym (contents-image k x b t lt_b on_b plain_b);
          };
          fits = tt;
          group = λ h. p.leads.unused (second h);
          ready = idle k a x.queue on_a;
        }) (λ g y. over _ y)

    along-made : Along first (now (MakeSecondary b a kind state) ∷ now (MakePrimary a b kind state full) ∷ [])
    along-made = moves first (MakeSecondary b a kind state) _ (record {
      runs = p.on_b;
      allowed = record {
        is_kind = p.part;
        apart = λ e. p.apart (sym e);
        tracks = sym p.tracks;
        from_defined = p.there_a;
        from_first = p.leads.lone;
        from_free = p.leads.cascaded;
        plain = p.plain_b;
        first = p.first_b;
        still = λ x h r. unrestored first begins b p.settled x h r;
        settled = λ x h. unturned (fields_at w.control x).revertible (unflashed first begins b p.settled x h);
      };
      fits = tt;
      group = (may-follow first begins b (unflashed first begins b p.settled), unturned (fields_at w.control a).recording (λ rec. false_true p.leads.lone (global-part (fields_at w.control a).primary ((begins.rows.recorders a).global rec))));
      ready = idle first b begins.queue p.on_b;
    }) second-half

  pub along-pair : (devs : Devs) (a b : ℕ) (kind : Part) (choices : PairChoices) → is_part kind ≡ true → Along first (make_pair_plan w.control w.events devs a b kind choices).entries
  along-pair devs a b kind choices part =
      found first begins devs a b _ (λ there_a there_b. by there_a there_b (cascades kind choices) (λ is. (and_parts (is_kind Global kind) _ is).0))
    where
      difference : Option ℕ
      difference = cond choices.full None (first_differing (image_at w.events) (w.control.volume a).tracks a b)

      makes : is_volume w.control a ≡ true → is_volume w.control b ≡ true → (c : Bool) → (c ≡ true → is_kind Global kind ≡ true) → (c ≡ true → SecondaryOfNone w.control a) → Along first (make_entries w.control a b kind c choices.full difference)
      makes there_a there_b c global unused =
          checked first (is_running a) _ _ begins (λ on_a.
          refused first (reach_refusal a b) _ begins (λ reach.
          checked first (two_servers a b) _ _ begins (λ servers.
          checked first (share_size a b) _ _ begins (λ size.
          checked first (may_lead c a b) _ _ begins (λ leads.
          checked first (may_follow a b) _ _ begins (λ follows.
          checked first (is_no_target a) _ _ begins (λ plain_a.
          checked first (is_no_target b) _ _ begins (λ plain_b.
          checked first (is_settled b) _ _ begins (λ settled.
          refused first (differs_at difference) _ begins (λ none.
          along-made a b kind choices.full (record {
            part = part;
            apart = λ e. false_true (not-true (nat_eq (w.control.volume a).server (w.control.volume b).server) servers) (eq-eqb _ _ e);
            tracks = eqb-true (w.control.volume a).tracks (w.control.volume b).tracks size;
            there_a = there_a;
            there_b = there_b;
            leads = may-lead a b kind c global unused leads;
            first_b = not-true _ (and_parts (not (is_part (fields_at w.control b).primary)) _ follows).0;
            plain_a = not-true (fields_at w.control a).related plain_a;
            plain_b = not-true (fields_at w.control b).related plain_b;
            settled = settled;
            on_a = on_a;
            on_b = reached first a b reach;
            equal = λ no t lt. identical (image_at w.events) (w.control.volume a).tracks a b (not-full choices.full _ no (no-difference difference w.control none)) t lt;
          })))))))))))

      by : is_volume w.control a ≡ true → is_volume w.control b ≡ true → (c : Bool) → (c ≡ true → is_kind Global kind ≡ true) → Along first (cond c (refuse_if (cascade_refusal a) ∷ []) [] ++ make_entries w.control a b kind c choices.full difference)
      by there_a there_b true global = refused first (cascade_refusal a) _ begins (λ none. makes there_a there_b true global (λ is. of-none a none))
      by there_a there_b false global = makes there_a there_b false global (λ is. absurd cc)

  pub holds-pair : (devs : Devs) (a b : ℕ) (kind : Part) (choices : PairChoices) → is_part kind ≡ true → StepHolds w (make_pair_plan w.control w.events devs a b kind choices)
  holds-pair devs a b kind choices part = holds-entries w _ _ s (along-pair devs a b kind choices part)

  -- it is removed
  drops-primary : (a : ℕ) (more : List Entry) → Runs first a → is_part (fields_at w.control a).primary ≡ true → ((f : Option Fuse) → Sound (done first (DropPrimary a) f) → Along (done first (DropPrimary a) f) more) → Along first (now (DropPrimary a) ∷ more)
  drops-primary a more on is go = moves first (DropPrimary a) more (record { runs = on; allowed = is; fits = tt; group = tt; ready = idle first a begins.queue on }) go

  lets-go : (a b : ℕ) (k : World) → Sound k → Runs k b → Along k (let_go a b ∷ [])
  lets-go a b k x on = decides k (let_go a b) [] _ refl (by (belongs_to a b k.control) refl)
    where
      by : (c : Bool) → belongs_to a b k.control ≡ c → Then k (cond c (Do (Make (DropSecondary b))) Pass) (λ v. Along v [])
      by true is = (record { runs = on; allowed = (and_parts (is_part (fields_at k.control b).secondary) _ is).0; fits = tt; group = tt; ready = idle k b x.queue on }, λ f y. over _ y)
      by false is = over k x

  removes-by : (a b : ℕ) (source_only : Bool) → Runs first a → is_part (fields_at w.control a).primary ≡ true → Along first (cond source_only (now (DropPrimary a) ∷ []) (remove_both w.control a b))
  removes-by a b true on is = drops-primary a [] on is (λ f y. over _ y)
  removes-by a b false on is =
      checked first (is_running b) _ _ begins (λ on_b.
      checked first (are_linked a b) _ _ begins (λ linked.
      drops-primary a _ on is (λ f y. lets-go a b (done first (DropPrimary a) f) y (runs-done first (DropPrimary a) f b on_b))))

  pub along-remove : (devs : Devs) (a b : ℕ) (source_only : Bool) → Along first (remove_pair_plan w.control devs a b source_only).entries
  along-remove devs a b source_only =
      found first begins devs a b _ (λ there_a there_b.
      refused first (member_refusal a b) _ begins (λ free.
      checked first (is_running a) _ _ begins (λ on.
      checked first (leads_to a b) _ _ begins (λ leads.
      removes-by a b source_only on (and_parts (is_part (fields_at w.control a).primary) _ leads).0))))

  pub holds-remove : (devs : Devs) (a b : ℕ) (source_only : Bool) → StepHolds w (remove_pair_plan w.control devs a b source_only)
  holds-remove devs a b source_only = holds-entries w _ _ s (along-remove devs a b source_only)

  -- it is paused
  tells-paused : (a b : ℕ) (k : World) → Sound k → Along k (tell_paused a b ∷ [])
  tells-paused a b k x = decides k (tell_paused a b) [] _ refl (by (reach_refusal a b k.control) (belongs_to a b k.control) refl refl)
    where
      by : (o : Option Refusal) (c : Bool) → reach_refusal a b k.control ≡ o → belongs_to a b k.control ≡ c → Then k (cond (not (is_some o) && c) (Do (Make (Follow b Suspended))) Pass) (λ v. Along v [])
      by None true reach is = let on : Runs k b = reached k a b reach in (record { runs = on; allowed = (and_parts (is_part (fields_at k.control b).secondary) _ is).0; fits = tt; group = tt; ready = idle k b x.queue on }, λ f y. over _ y)
      by None false reach is = over k x
      by (Some r) c reach is = over k x

  pub along-pause : (devs : Devs) (a b : ℕ) → Along first (pause_pair_plan w.control devs a b).entries
  along-pause devs a b =
      found first begins devs a b _ (λ there_a there_b.
      checked first (is_running a) _ _ begins (λ on.
      checked first (may_pause a b) _ _ begins (λ may.
      moves first (Suspend a false) _
      (record { runs = on; allowed = (and_parts (is_part (fields_at w.control a).primary) _ (and_parts (leads_to a b w.control) _ may).0).0; fits = tt; group = tt; ready = idle first a begins.queue on })
      (λ f y. tells-paused a b _ y))))

  pub holds-pause : (devs : Devs) (a b : ℕ) → StepHolds w (pause_pair_plan w.control devs a b)
  holds-pause devs a b = holds-entries w _ _ s (along-pause devs a b)

  -- it goes on
  goes-on : (a b : ℕ) → Runs first a → Runs first b → is_part (fields_at w.control a).primary ≡ true → is_suspended (fields_at w.control a).primary_state ≡ true → is_part (fields_at w.control b).secondary ≡ true → Along first (follow_on a b ∷ resume_on a ∷ [])
  goes-on a b on_a on_b leads waits belongs =
      let next : PairState = next_state (fields_at w.control a) in
      decides first (follow_on a b) _ (Do (Make (Follow b next))) refl (
        record { runs = on_b; allowed = belongs; fits = tt; group = tt; ready = idle first b begins.queue on_b },
        λ f y.
            let k : World = done first (Follow b next) f in
            let on : Runs k a = runs-done first (Follow b next) f a on_a in
            decides k (resume_on a) [] (Do (Make (Resume a (next_state (fields_at k.control a))))) refl
            (record { runs = on; allowed = record { first = part-done first (Follow b next) f (λ (g : Fields). is_part g.primary) refl a leads; waits = part-done first (Follow b next) f (λ (g : Fields). is_suspended g.primary_state) refl a waits }; fits = tt; group = tt; ready = idle k a y.queue on }, λ g z. over _ z),
      )

  pub along-resume : (devs : Devs) (a b : ℕ) (kind : Part) → Along first (resume_pair_plan w.control devs a b kind).entries
  along-resume devs a b kind =
      found first begins devs a b _ (λ there_a there_b.
      checked first (is_running a) _ _ begins (λ on.
      checked first (may_resume a b kind) _ _ begins (λ may.
      refused first (reach_refusal a b) _ begins (λ reach.
      checked first (belongs_to a b) _ _ begins (λ belongs.
      goes-on a b on (reached first a b reach) (and_parts (is_part (fields_at w.control a).primary) _ (and_parts (leads_to a b w.control) _ may).0).0
      (and_parts (is_kind kind (fields_at w.control a).primary) _ (and_parts (leads_to a b w.control) _ may).1).1 (and_parts (is_part (fields_at w.control b).secondary) _ belongs).0)))))

  pub holds-resume : (devs : Devs) (a b : ℕ) (kind : Part) → StepHolds w (resume_pair_plan w.control devs a b kind)
  holds-resume devs a b kind = holds-entries w _ _ s (along-resume devs a b kind)
