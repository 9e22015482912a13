-- An image that lists the volumes of a sound world is a proper one, so its text is read back.
use Rattle.std.proofs.Common.{ℕ, ◌≡◌, ◌≢◌, ◌≤◌, inl, inr, Option, List, [], ◌∷◌, ◌++◌, length, map, refl, ap, ◌∙◌, sym, subst, arith, Bool, true, false, not, ◌||◌, cond, nat_eq, Some, None}
use Rattle.std.specs.Prelude.{All, AllPairs, Ok}
use Rattle.std.specs.List.{list_any}
use Rattle.std.proofs.lemmas.Bool.{eqb-true, eq-eqb, false_from_ne_true, and_from}
use Rattle.std.proofs.lemmas.List.{length-map}
use Rattle.std.proofs.lemmas.List.Elements.{All-nil, All-cons, All-head, All-tail, All-weaker}
use Rattle.dr_model.specs.Layout.{Fields, fields}
use Rattle.dr_model.specs.Control.{Control, World, Volume as Row, is_volume}
use Rattle.dr_model.specs.Entries.{fields_at, subsystem}
use Rattle.dr_model.specs.Views.{source_of}
use Rattle.dr_model.specs.Tables.{Once}
use Rattle.dr_model.specs.Groups.{In}
use Rattle.dr_model.specs.Laws.{Sound}
use Rattle.dr_model.specs.PlantImage.{Volume, IsVolume, IsLaid, IsImage, agrees, is_source_of, has_source, device_blocks, image_text, reading}
use Rattle.dr_model.specs.Listed.{IsListed, ListsAll, ListsIf, ListsBy, Lists}
use Rattle.dr_facts.proofs.Lists.{Image, any-some, is-met, from-map, to-map, once-later}
use Rattle.dr_image.proofs.SoundLemmas.{pairs_nil, pairs_cons}
use Rattle.dr_image.proofs.RoundLaws.{proper-reads}
use Rattle.dr_ids.specs.declared.refusal.Refusal.TheVariants.{JournalFull}
use Rattle.dr_model.specs.declared.said.Addition.TheVariants.{Alone}
use Rattle.dr_model.specs.declared.said.Said.TheVariants.{Done}
use Rattle.dr_model.specs.Answers.{answer}
use Rattle.dr_model.specs.Limits.{image_events}
use Rattle.dr_model.specs.Carry.{carry}
use Rattle.dr_model.specs.Plans.{refuses, has_room_for}
use Rattle.dr_model.specs.Runs.{Task, OwnCourse, Groups, Volumes, Devices, own_course, course_of, answered_part, image_told, image_plan, after_plan, after_task}
use Rattle.dr_facts.proofs.ImageLengths.{image-few}
use Rattle.dr_laws_sound.specs.Limits.{IsWithin}
use Rattle.dr_laws_images.specs.OneServer.{OneServer}
use Rattle.dr_laws_images.specs.Imaged.{IsImaged}

-- what holds of all holds of each, and the other way round
pub of-all : {X : Type 0} (P : X → Type 0) (xs : List X) (x : X) → All P xs → In x xs → P x
of-all P [] x all h = absurd h
of-all P (y ∷ ys) x all (inl is) = subst P (sym is) (All-head P y ys all)
of-all P (y ∷ ys) x all (inr more) = of-all P ys x (All-tail P y ys all) more

to-all : {X : Type 0} (P : X → Type 0) (xs : List X) → ((x : X) → In x xs → P x) → All P xs
to-all P [] each = All-nil P
to-all P (x ∷ xs) each = All-cons P x xs (each x (inl refl)) (to-all P xs (λ y h. each y (inr h)))

module _ (w : World) (sound : Sound w) (vs : List Volume) (all : ListsAll w vs) where
  abbrev k : Control
  k = w.control

  abbrev number : Volume → ℕ
  number v = v.volume

  pub is-listed : (v : Volume) → In v vs → IsListed w v
  is-listed v h = of-all (IsListed w) vs v all.each h

  pub is-defined : (v : Volume) → In v vs → is_volume k v.volume ≡ true
  is-defined v h = any-some (nat_eq v.volume) k.volumes v.volume (subst (In v.volume) all.volumes (to-map number vs v h)) (eq-eqb v.volume v.volume refl)

  -- one that is defined is listed
  pub is-there : (v : ℕ) → is_volume k v ≡ true → Image number vs v
  is-there v defined = from-map number vs v (subst (In v) (sym all.volumes) (is-met v k.volumes defined))

  -- the device of each gives the record of the volume
  pub its-record : (v : Volume) → In v vs → fields v.tracks (device_blocks v) ≡ fields_at k v.volume
  its-record v h = ap (λ n. fields n (device_blocks v)) (is-listed v h).tracks ∙ (is-listed v h).says.fields

  sourced : (v : Volume) → In v vs → has_source vs v ≡ true
  unfolding has_source
  sourced v h = by (fields_at k v.volume).related refl
    where
      f : Fields
      f = fields_at k v.volume

      by : (b : Bool) → f.related ≡ b → (let g : Fields = fields v.tracks (device_blocks v) in not g.related || list_any (is_source_of v g.source) vs) ≡ true
      by b is = subst (λ (g : Fields). (not g.related || list_any (is_source_of v g.source) vs) ≡ true) (sym (its-record v h)) (ap (λ b. not b || list_any (is_source_of v f.source) vs) is ∙ with b is)
        where
          with : (b : Bool) → f.related ≡ b → (not b || list_any (is_source_of v f.source) vs) ≡ true
          with false is = refl
          with true is =
              let from : source_of f ≡ Some f.source = ap (λ b. cond b (Some f.source) None) is in
              let flash = sound.rows.structure.flash v.volume f.source from in
              let u : Image number vs f.source = is-there f.source flash.defined in
              let own : f.source ≢ v.volume = λ e. (let none : Some f.source ≡ None = sym from ∙ (ap (λ x. source_of (fields_at k x)) (sym e) ∙ flash.plain) in absurd cc) in
              let at : k.volume f.source ≡ k.volume u.from.volume = ap k.volume u.is in
              any-some (is_source_of v f.source) vs u.from u.here
              (and_from (nat_eq u.from.volume f.source) _ (eq-eqb u.from.volume f.source (sym u.is))
              (and_from (not (nat_eq u.from.volume v.volume)) _ (ap not (false_from_ne_true _ (λ e. own (u.is ∙ eqb-true u.from.volume v.volume e))))
              (and_from (nat_eq u.from.server v.server) _
              (eq-eqb u.from.server v.server ((is-listed u.from u.here).server ∙ (ap (λ (r : Row). r.server) (sym at) ∙ (sym flash.same_server ∙ sym (is-listed v h).server))))
              (eq-eqb u.from.tracks v.tracks ((is-listed u.from u.here).tracks ∙ (ap (λ (r : Row). r.tracks) (sym at) ∙ (sym flash.same_tracks ∙ sym (is-listed v h).tracks)))))))

  -- two of them are no one's but their own, and of one server if of one subsystem
  agree : OneServer k → (v u : Volume) → In v vs → In u vs → u.volume ≢ v.volume → agrees v u ≡ true
  agree one v u here there ne =
      and_from (not (nat_eq u.volume v.volume)) _ (ap not (false_from_ne_true _ (λ e. ne (eqb-true u.volume v.volume e)))) (by (nat_eq (subsystem u.volume) (subsystem v.volume)) refl)
    where
      by : (b : Bool) → nat_eq (subsystem u.volume) (subsystem v.volume) ≡ b → (not b || nat_eq u.server v.server) ≡ true
      by false e = refl
      by true e = eq-eqb u.server v.server ((is-listed u there).server ∙ (one u.volume v.volume (is-defined u there) (is-defined v here) (eqb-true _ _ e) ∙ sym (is-listed v here).server))

  apart : OneServer k → (xs : List Volume) → ((v : Volume) → In v xs → In v vs) → Once (map number xs) → AllPairs (λ v u. agrees v u ≡ true) xs
  apart one [] in-all once = pairs_nil (λ (v : Volume) (u : Volume). agrees v u ≡ true)
  apart one (v ∷ xs) in-all once =
      pairs_cons (λ (v : Volume) (u : Volume). agrees v u ≡ true) v xs
      (to-all (λ u. agrees v u ≡ true) xs (λ u h. agree one v u (in-all v (inl refl)) (in-all u (inr h)) (once-later number v xs u once h)))
      (apart one xs (λ u h. in-all u (inr h)) once.1)

  is-laid : OneServer k → length k.volumes ≤ 64 → IsLaid vs
  is-laid one few = record {
    few = (let e : length (map number vs) ≡ length k.volumes = ap length all.volumes in let l : length (map number vs) ≡ length vs = length-map vs number in omega arith);
    each = to-all IsVolume vs (λ v h. (is-listed v h).proper);
    apart = apart one vs (λ v h. h) (subst Once (sym all.volumes) sound.targets.once);
  }

  pub is-image : OneServer k → length k.volumes ≤ 64 → IsImage vs
  is-image one few = record { laid = is-laid one few; sources = to-all (λ v. has_source vs v ≡ true) vs sourced }

  pub reads-back : OneServer k → length k.volumes ≤ 64 → reading (image_text vs) ≡ Ok vs
  reads-back one few = proper-reads vs (is-image one few)

-- what may be listed has few lines
images-by : (w : World) (vs : List Volume) → IsWithin w.control → (b : Bool) → ListsIf b w vs → length (image_told vs) ≤ 17794
images-by w vs within true all =
    let e : length (map (λ (v : Volume). v.volume) vs) ≡ length w.control.volumes = ap length all.volumes in
    let l : length (map (λ (v : Volume). v.volume) vs) ≡ length vs = length-map vs (λ v. v.volume) in
    let few = within.volumes in
    image-few vs (omega arith) (All-weaker (IsListed w) IsVolume (λ v h. h.proper) vs all.each)
images-by w vs within false none = subst (λ us. length (image_told us) ≤ 17794) (sym none) (omega arith)

pub images-short : (w : World) (t : Task) → IsWithin w.control → Lists w t → length (image_told t.listed) ≤ 17794
images-short w t within lists = by (own_course t.asked) lists
  where
    by : (o : Option OwnCourse) → ListsBy w t.listed o → length (image_told t.listed) ≤ 17794
    by (Some Devices) all = images-by w t.listed within (has_room_for image_events w.events) all
    by None none = images-by w t.listed within false none
    by (Some (Groups s n)) none = images-by w t.listed within false none
    by (Some (Volumes v u)) none = images-by w t.listed within false none

-- an image that the journal has room for tells its lines, and its answer
image-told : (w : World) (line : ℕ) (vs : List Volume) (room : Bool) → room ≡ true → (after_plan w line (cond room (image_plan vs) (refuses JournalFull))).events ≡ (w.events ++ image_told vs) ++ answer line (Done Alone) ∷ []
unfolding after_plan carry
image-told w line vs true is = refl
image-told w line vs false is = absurd cc

pub image-tells : (w : World) (t : Task) → IsImaged w t → (after_task w t).events ≡ (w.events ++ image_told t.listed) ++ answer t.line (Done Alone) ∷ []
image-tells w t i = ap (λ o. (answered_part t.line (course_of w t o).last).events) i.asks ∙ image-told w t.line t.listed (has_room_for image_events w.events) i.room
