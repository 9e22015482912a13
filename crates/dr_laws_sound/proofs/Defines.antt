-- A volume is defined: it has tracks of zeros, and nothing changes for the others.
use Rattle.std.proofs.Common.{ℕ, ◌≡◌, ◌≢◌, ◌<◌, ◌+◌, inl, inr, refl, ap, sym, ◌∙◌, subst, Bool, true, false, cond, ◌&&◌, ◌||◌, nat_eq, List, [], ◌∷◌, ◌++◌, length, Some, None}
use Rattle.std.proofs.lemmas.Bool.Decides.{eqb_tells}
use Rattle.std.proofs.lemmas.Bool.{false_from_ne_true, and_parts, eqb-true}
use Rattle.std.specs.List.{list_any}
use Rattle.dr_model.specs.declared.event.Event.TheVariants.{Volume as VolumeDefined}
use Rattle.std.specs.FinSet.{contains}
use Rattle.dr_logic.specs.Bytes.{zeros}
use Rattle.dr_logic.specs.Tables.{at}
use Rattle.dr_model.specs.Layout.{is_part}
use Rattle.dr_model.specs.Contents.{image}
use Rattle.dr_model.specs.Histories.{Write, Histories, histories, after_event}
use Rattle.dr_model.specs.Control.{Pending, Volume, World, is_volume, new_volume}
use Rattle.dr_model.specs.Table.{Row, table, waiting, due_by, aside, aside_by}
use Rattle.dr_model.specs.Laws.{Seals, OneKind, SealedGlobal, AllSent, NoMetro, fields, ShowsAside, SoundRows, HoldsOld, RowParts, RowRecords, Partnered, OneWay, FreeSource, Alike, source, its_primary, its_secondary, Numbered, Waits, AllPending, Lone, Together, servers, sizes, Sound}
use Rattle.dr_model.specs.Groups.{SecondariesUncascaded}
use Rattle.dr_model.specs.Entries.{fields_at}
use Rattle.dr_model.proofs.Images.{histories-append}
use Rattle.dr_laws_attempts.proofs.Volumes.{attempts-defined}
use Rattle.dr_laws_messages.proofs.Moves.{flights-defined}
use Rattle.dr_laws_closed.proofs.Pendings.{each-on}
use Rattle.dr_facts.proofs.Tables.{at_cases, IsOrNot, each-at, linked-at}
use Rattle.dr_facts.proofs.Sets.{if_false, in_none}
use Rattle.dr_laws_sessions.proofs.Volumes.{groups-defined}
use Rattle.dr_laws_sessions.proofs.Housed.{housed-volume}
use Rattle.dr_model.proofs.LawfulLemmas.{lawful-no_fields}
use Rattle.dr_laws_sound.proofs.KeepsQueue.{numbered-after}
use Rattle.dr_laws_sound.proofs.KeepsStructure.{structure-at}
use Rattle.dr_laws_sound.proofs.KeepsImages.{images-at}
use Rattle.dr_laws_sound.proofs.KeepsTargets.{few-defined}
use Rattle.dr_model.proofs.Asking.{image-none}
use Rattle.dr_facts.proofs.Tracks.{empty_has}
use Rattle.dr_logic.proofs.Truth.{false_true}
use Rattle.dr_logic.proofs.Tables.{at_other}

lone-each : (server other : ℕ → ℕ) (ps : List Pending) → AllPending (λ p. other p.volume ≡ server p.volume) ps → Lone server ps → Lone other ps
lone-each server other [] same all = tt
lone-each server other (p ∷ ps) same all = (each ps same.1 all.0, lone-each server other ps same.1 all.1)
  where
    each : (qs : List Pending) → AllPending (λ q. other q.volume ≡ server q.volume) qs → AllPending (Together server p) qs → AllPending (Together other p) qs
    each [] here old = tt
    each (q ∷ qs) here old = ((λ l m e. old.0 l m (sym same.0 ∙ e ∙ here.0)), each qs here.1 old.1)

module _ (w : World) (s : Sound w) (v server tracks : ℕ) (here : server < length w.control.servers) (undefined : is_volume w.control v ≡ false) where
  abbrev h : Histories
  h = histories w.events

  abbrev ps : List Pending
  ps = w.control.pending

  abbrev pub with_volume : World
  with_volume = record w {
    control = record w.control { volumes = w.control.volumes ++ v ∷ []; volume = at w.control.volume v (new_volume server tracks) };
    events = w.events ++ VolumeDefined v server tracks ∷ [];
  }

  lists : histories with_volume.events ≡ after_event h (VolumeDefined v server tracks)
  lists = histories-append w.events (VolumeDefined v server tracks ∷ [])

  -- who is defined now
  any-more : (u : ℕ) (vs : List ℕ) → list_any (nat_eq u) (vs ++ v ∷ []) ≡ (list_any (nat_eq u) vs || nat_eq u v)
  any-more u [] = either (nat_eq u v)
    where
      either : (b : Bool) → (b || false) ≡ b
      either true = refl
      either false = refl
  any-more u (x ∷ xs) = ap (λ b. nat_eq u x || b) (any-more u xs) ∙ grouped (nat_eq u x) (list_any (nat_eq u) xs) (nat_eq u v)
    where
      grouped : (a b c : Bool) → (a || (b || c)) ≡ ((a || b) || c)
      grouped true b c = refl
      grouped false b c = refl

  -- no write waits for it
  elsewhere : (p : Pending) → Waits None w.control h.write p → p.volume ≢ v
  elsewhere p waits e = false_true (ap (is_volume w.control) e ∙ undefined) waits.defined

  none-waiting : (q : ℕ) (ps : List Pending) → AllPending (Waits None w.control h.write) ps → waiting ps v q ≡ []
  none-waiting q [] all = refl
  none-waiting q (p ∷ ps) all =
      let here : Bool = p.landed && (nat_eq p.volume v && nat_eq p.track q) in
      if_false {b = here} (p.w ∷ waiting ps v q) (waiting ps v q) (false_from_ne_true here (λ h. elsewhere p all.0 (eqb-true p.volume v (and_parts _ (nat_eq p.track q) (and_parts _ _ h).1).0)))
      ∙ none-waiting q ps all.1

  abbrev pub row : Row
  row = record { defined = true; volume = new_volume server tracks; bytes = w.contents v; due = λ t. zeros; aside = aside w v }

  row-by : (u : ℕ) → IsOrNot u v → table with_volume u ≡ at (table w) v row u
  row-by u (inl is) =
      (λ i. record {
        defined = any-more u w.control.volumes i;
        volume = cond (is.0 i) (new_volume server tracks) (w.control.volume u);
        bytes = w.contents u;
        due = λ q. (ap (λ (h : Histories). due_by h ps u q) lists) i;
        aside = λ q. (ap (λ (h : Histories). aside_by h u q) lists) i;
      })
      ∙ (λ i. record {
        defined = (ap (λ b. list_any (nat_eq u) w.control.volumes || b) is.0 ∙ always (list_any (nat_eq u) w.control.volumes)) i;
        volume = new_volume server tracks;
        bytes = w.contents (is.1 i);
        due = λ q. (ap (λ b. image h.write ((cond b (λ t. []) (h.now u)) q ++ waiting ps u q)) is.0 ∙ ap (λ x. image h.write (waiting ps x q)) is.1 ∙ ap (image h.write) (none-waiting q ps s.queue.each) ∙ image-none h.write) i;
        aside = aside w (is.1 i);
      })
      ∙ sym (λ i. cond (is.0 i) row (table w u))
    where
      always : (b : Bool) → (b || true) ≡ true
      always true = refl
      always false = refl
  row-by u (inr not) =
      (λ i. record {
        defined = any-more u w.control.volumes i;
        volume = cond (not.0 i) (new_volume server tracks) (w.control.volume u);
        bytes = w.contents u;
        due = λ q. (ap (λ (h : Histories). due_by h ps u q) lists) i;
        aside = λ q. (ap (λ (h : Histories). aside_by h u q) lists) i;
      })
      ∙ (λ i. record {
        defined = (ap (λ b. list_any (nat_eq u) w.control.volumes || b) not.0 ∙ either (list_any (nat_eq u) w.control.volumes)) i;
        volume = w.control.volume u;
        bytes = w.contents u;
        due = λ q. image h.write ((cond (not.0 i) (λ t. []) (h.now u)) q ++ waiting ps u q);
        aside = aside w u;
      })
      ∙ sym (λ i. cond (not.0 i) row (table w u))
    where
      either : (b : Bool) → (b || false) ≡ b
      either true = refl
      either false = refl

  pub table-defined : table with_volume ≡ at (table w) v row
  table-defined = λ i u. row-by u (eqb_tells u v) i

  -- no volume points to it
  no-source-yet : {P : Type 0} (u : ℕ) → source (table w u) ≡ Some v → P
  no-source-yet u h = false_true undefined (s.rows.structure.flash u v h).defined

  no-primary-yet : {P : Type 0} (u : ℕ) → its_secondary (table w u) ≡ Some v → P
  no-primary-yet u h = false_true undefined (s.rows.parts.secondary u v h).defined

  no-secondary-yet : {P : Type 0} (u : ℕ) → its_primary (table w u) ≡ Some v → P
  no-secondary-yet u h = false_true undefined (s.rows.parts.primary u v h).defined

  -- no volume points to it, and it points to none
  seals-defined : Seals (at (table w) v row)
  seals-defined = record {
    kinds = linked-at (table w) v row its_primary OneKind (λ u ne e. absurd cc) (λ e. absurd cc) (λ u ne e. no-secondary-yet u e) s.rows.seals.kinds;
    global = each-at (table w) v row (λ v r. SealedGlobal r) (λ nz. absurd (nz refl)) s.rows.seals.global;
    sent = linked-at (table w) v row its_secondary AllSent (λ u ne e. absurd cc) (λ e. absurd cc) (λ u ne e. no-primary-yet u e) s.rows.seals.sent;
    no_metro = linked-at (table w) v row source NoMetro (λ u ne e. absurd cc) (λ e. absurd cc) (λ u ne e. no-source-yet u e) s.rows.seals.no_metro;
    restored = λ x a b.
        at_cases (λ a r. source r ≡ Some x → source (at (table w) v row b) ≡ Some x → r.volume.fields.reversing ≡ true → (at (table w) v row b).volume.fields.revertible ≡ true → ⊥) (table w) v row (λ h. absurd cc)
        (λ a ne h. at_cases (λ b r. source r ≡ Some x → (fields (table w) a).reversing ≡ true → r.volume.fields.revertible ≡ true → ⊥) (table w) v row (λ k. absurd cc) (λ b ne k. s.rows.seals.restored x a b h k) b) a;
    flashed = λ x u y.
        at_cases (λ x r. its_secondary r ≡ Some u → its_primary (at (table w) v row u) ≡ Some x → source (at (table w) v row y) ≡ Some u → r.volume.fields.recording ≡ true → (at (table w) v row y).volume.fields.revertible ≡ true → (t : ℕ) → contains r.volume.fields.out_of_sync t ≡ false) (table w) v row (λ h. absurd cc)
        (λ x ne h. at_cases (λ u r. its_secondary (table w x) ≡ Some u → its_primary r ≡ Some x → source (at (table w) v row y) ≡ Some u → (fields (table w) x).recording ≡ true → (at (table w) v row y).volume.fields.revertible ≡ true → (t : ℕ) → contains (fields (table w) x).out_of_sync t ≡ false) (table w) v row (λ h k. absurd cc)
        (λ u ne h k. at_cases (λ y r. source r ≡ Some u → (fields (table w) x).recording ≡ true → r.volume.fields.revertible ≡ true → (t : ℕ) → contains (fields (table w) x).out_of_sync t ≡ false) (table w) v row (λ e. absurd cc) (λ y ne e. s.rows.seals.flashed x u y h k e) y) u h) x;
  }

  rows-defined : SoundRows (at (table w) v row)
  rows-defined = record {
    structure = structure-at h.write (table w) s.rows.structure v row (record {
      lawful = lawful-no_fields tracks;
      sets = record { apart = in_none _; noted_held = λ e. in_none _; rewritten_held = λ e. in_none _ };
      flags = record { persists = λ e. absurd cc; records = λ e. absurd cc; unchanged = λ e. absurd cc; some = λ e. absurd cc };
      reverts = λ e. absurd cc;
      defined = λ e. refl;
      from = λ u e. absurd cc;
      loop = λ e. cc;
      onto = λ u e. no-source-yet u e;
      restores = λ u e. absurd cc;
    });
    parts = record {
      fit = each-at (table w) v row (λ v r. RowParts r) (record { both = λ e. absurd cc; no_primary = λ e. refl; no_secondary = λ e. refl }) s.rows.parts.fit;
      secondary = linked-at (table w) v row its_secondary Partnered (λ u ne e. absurd cc) (λ e. absurd cc) (λ u ne e. no-primary-yet u e) s.rows.parts.secondary;
      primary = linked-at (table w) v row its_primary Partnered (λ u ne e. absurd cc) (λ e. absurd cc) (λ u ne e. no-secondary-yet u e) s.rows.parts.primary;
      one_way = linked-at (table w) v row its_primary OneWay (λ u ne e. absurd cc) (λ e. absurd cc) (λ u ne e. no-secondary-yet u e) s.rows.parts.one_way;
      free = linked-at (table w) v row source FreeSource (λ u ne e. absurd cc) (λ e. absurd cc) (λ u ne e. no-source-yet u e) s.rows.parts.free;
    };
    images = images-at (table w) v row s.rows.images (record {
      blank = λ t e. s.rows.images.fresh v undefined t;
      fresh = λ e. absurd cc;
      plain = λ none t lt. s.rows.images.fresh v undefined t;
      seen = λ u ne e. absurd cc;
      loop = λ e. cc;
      onto = λ u ne e. no-source-yet u e;
    });
    recorders = each-at (table w) v row (λ v r. RowRecords r) (record { holds = λ e. absurd cc; global = λ e. absurd cc; pending = λ e. absurd cc; none = λ e. empty_has }) s.rows.recorders;
    seals = seals-defined;
    recorded = linked-at (table w) v row source HoldsOld (λ u ne e. absurd cc) (λ e. absurd cc) (λ u ne e. no-source-yet u e) s.rows.recorded;
    asides = linked-at (table w) v row source ShowsAside (λ u ne e. absurd cc) (λ e. absurd cc) (λ u ne e. no-source-yet u e) s.rows.asides;
    pairs = linked-at (table w) v row its_secondary Alike (λ u ne e. absurd cc) (λ e. absurd cc) (λ u ne e. no-primary-yet u e) s.rows.pairs;
  }

  same-server : (p : Pending) → Waits None w.control h.write p → servers with_volume.control p.volume ≡ servers w.control p.volume
  same-server p waits = ap (λ (x : Volume). x.server) (at_other w.control.volume v (new_volume server tracks) p.volume (elsewhere p waits))

  same-size : (p : Pending) → Waits None w.control h.write p → sizes with_volume.control p.volume ≡ sizes w.control p.volume
  same-size p waits = ap (λ (x : Volume). x.tracks) (at_other w.control.volume v (new_volume server tracks) p.volume (elsewhere p waits))

  waits-on : (p : Pending) → Waits None w.control h.write p → Waits None with_volume.control (histories with_volume.events).write p
  waits-on p waits =
      let same = ap (λ (h : Histories). h.write p.w) lists in
      record {
        number = waits.number;
        positive = waits.positive;
        defined = any-more p.volume w.control.volumes ∙ ap (λ b. b || nat_eq p.volume v) waits.defined;
        low = subst (λ n. p.track < n) (sym (same-size p waits)) waits.low;
        volume = ap (λ (x : Write). x.volume) same ∙ waits.volume;
        track = ap (λ (x : Write). x.track) same ∙ waits.track;
        calm = λ l f. ap w.control.on (same-server p waits) ∙ waits.calm l f;
      }

  secondaries-defined : SecondariesUncascaded with_volume.control
  secondaries-defined x q i here = at_cases (λ u (y : Volume). q.b.0 ≡ u → is_part y.fields.primary ≡ true → is_part y.fields.secondary ≡ false) w.control.volume v (new_volume server tracks)
      (λ is h. absurd cc) (λ u ne is. subst (λ j. is_part (fields_at w.control j).primary ≡ true → is_part (fields_at w.control j).secondary ≡ false) is (s.secondaries x q i here)) q.b.0 refl

  pub sound-defined : Sound with_volume
  sound-defined = record {
    rows = subst SoundRows (sym table-defined) rows-defined;
    targets = few-defined w.control s.targets v server tracks undefined;
    secondaries = secondaries-defined;
    groups = groups-defined w.control v server tracks undefined s.groups;
    housed = housed-volume w.control v server tracks here s.housed;
    attempts = attempts-defined w.control v server tracks undefined s.groups s.attempts;
    flights = flights-defined w.control v server tracks undefined s.groups s.flights;
    queue = record {
      each = each-on waits-on ps s.queue.each;
      apart = s.queue.apart;
      lone = lone-each (servers w.control) (servers with_volume.control) ps (each-on same-server ps s.queue.each) s.queue.lone;
      numbers = subst (Numbered (w.control.issued + 1)) (sym lists) (numbered-after (w.control.issued + 1) h (VolumeDefined v server tracks) tt s.queue.numbers);
    };
  }
