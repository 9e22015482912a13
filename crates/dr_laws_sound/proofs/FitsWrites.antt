-- Host writes are allowed along: one that waits, one that lands on its volume alone, and one that its secondary stores first.
use Rattle.std.proofs.Common.{ℕ, ◌≡◌, ◌≢◌, ◌<◌, refl, ap, sym, ◌∙◌, subst, Bool, true, false, cond, ◌&&◌, List, [], ◌∷◌, ◌++◌, append_assoc, filter, Option, Some, None}
use Rattle.std.proofs.lemmas.Bool.{and_parts, eq-eqb, not-true}
use Rattle.std.specs.FinSet.{contains}
use Rattle.dr_facts.proofs.WriteStops.{after-any}
use Rattle.dr_model.specs.declared.event.Event.TheVariants.{Mirrored}
use Rattle.dr_model.specs.declared.state.Part.TheVariants.{Global}
use Rattle.dr_model.specs.Contents.{with_write}
use Rattle.dr_model.specs.Histories.{Histories, histories}
use Rattle.dr_model.specs.Layout.{Fields, is_part}
use Rattle.dr_model.specs.Pairs.{secondary_of, primary_of, is_metro, is_cascaded, is_kind, held, goes_over, collides}
use Rattle.dr_model.specs.Views.{source_of}
use Rattle.dr_model.specs.Control.{Control, Fuse, Pending, Volume, World}
use Rattle.dr_model.specs.Moves.{Move, Suspend, Unsync, Store, Strike, Mirror, LandBoth, target, is_write, tracks_after}
use Rattle.dr_model.specs.Carry.{Make, Pass, Do, Entry, now}
use Rattle.dr_model.specs.Entries.{fields_at, is_running, is_no_secondary, is_open, is_settled, secondary_state, copy_first, keep_on, land_alone}
use Rattle.dr_model.specs.PairEntries.{reach_refusal, belongs_to, send_refusal, send_first}
use Rattle.dr_model.specs.WriteEntries.{partner_of, is_grouped, mirror_and_land, land_mirrored, land_fed, land_parted, land_over, land_collided, is_parted, is_held_back, landing, part_running, part_after, after_write}
use Rattle.dr_model.specs.Table.{table}
use Rattle.dr_model.specs.Laws.{Sound}
use Rattle.dr_model.specs.Allowed.{Kept, Runs}
use Rattle.dr_model.proofs.Images.{histories-append}
use Rattle.dr_facts.proofs.Sets.{if_true}
use Rattle.dr_laws_cuts.proofs.Still.{first as recorder-leads, plain-free}
use Rattle.dr_laws_sound.proofs.Turns.{done, next_of, carried_in}
use Rattle.dr_laws_sound.proofs.RowsAfter.{idle}
use Rattle.dr_laws_sound.proofs.KeepsParts.{unrelated, unrelated_primary}
use Rattle.dr_laws_sound.proofs.KeepsSound.{Along, EachAlong, Then, over, decides, moves, checked}
use Rattle.dr_laws_sound.proofs.CopyFirst.{Still, from, copy-first}
use Rattle.dr_laws_sound.proofs.Lands.{Unrestored, unrestored, Unflashed, unflashed, waits, unlanded, may-ack, dropped-checked, plain-lands, lands-alone, held_back, not-back, back-parts}
use Rattle.dr_laws_sound.proofs.FitsPairs.{reached, its-first, row, runs-done, part-same}
use Rattle.dr_laws_sound.proofs.FitsDrain.{suspends-after}
use Rattle.dr_laws_sound.proofs.FitsCollide.{unrestored-done, unflashed-done, plain-primary, uncascaded-second, third-apart, Lasting, sends-first, collided}
use Rattle.dr_laws_sound.proofs.KeepsRecorders.{metro-idle}
use Rattle.dr_logic.proofs.Choices.{chosen, choose_some}
use Rattle.dr_logic.proofs.Options.{none_there}
use Rattle.dr_logic.proofs.Truth.{and-second-false, false_true}
use Rattle.dr_logic.proofs.Sets.{in_insert}
use Rattle.dr_facts.proofs.Parts.{metro-part, metro-second}
use Rattle.dr_facts.proofs.Refusals.{none-both, met}
use Rattle.dr_logic.proofs.Tables.{at_same, at_other}

module _ (w : World) (s : Sound w) (p : Pending) (one : filter (is_write p.w) w.control.pending ≡ p ∷ []) (on : Runs w p.volume) where
  abbrev n : ℕ
  n = p.w

  abbrev v : ℕ
  v = p.volume

  abbrev t : ℕ
  t = p.track

  abbrev f : Fields
  f = fields_at w.control v

  abbrev busy : Bool
  busy = is_grouped w.control v (partner_of w.control v)

  -- the volume is suspended, since it can't send; then the write waits, or lands alone
  parted : is_part f.primary ≡ true → is_part f.secondary ≡ false → f.related ≡ false → held_back f ≡ false → Unrestored w v → Unflashed w v → Along w (land_parted w.control n v t)
  parted first free plain open_to still calm = moves w (Suspend v busy) _ (record { runs = on; allowed = first; fits = tt; group = tt; ready = idle w v s.queue on }) (λ h y. by h y busy)
    where
      by : (h : Option Fuse) → Sound (done w (Suspend v busy) h) → (b : Bool) → Along (done w (Suspend v busy) h) (cond b [] (land_alone w.control.volumes n v t))
      by h y true = over _ y
      by h y false =
          let m : Move = Suspend v busy in
          plain-lands (done w m h) y p one (runs-done w m h v on) (part-same w m h (λ (g : Fields). is_part g.secondary) refl v ∙ free) (part-same w m h (λ (g : Fields). g.related) refl v ∙ plain)
          (ap (λ (x : Volume). held_back x.fields) (at_same w.control.volume v (row w m h)) ∙ (back-parts f open_to).1) (λ r. false_true (ap (λ (x : Volume). x.fields.recording) (at_same w.control.volume v (row w m h))) r) (unrestored-done v w m h refl refl still) (unflashed-done v w m h refl refl calm)

  -- it sends to u
  module _ (u : ℕ) where
    -- what lasts, once the track is out of sync
    record Both (k : World) : Type 0 where
      on_v : Runs k v
      on_u : Runs k u
      metro : is_metro (fields_at k.control v).primary ≡ true
      open_to : held_back (fields_at k.control v) ≡ false
      to : secondary_of (fields_at k.control v) ≡ Some u
      takes : primary_of (fields_at k.control u) ≡ Some v
      out : contains (fields_at k.control v).out_of_sync t ≡ true
      free : (fields_at k.control u).coordination ≡ false
      still : Unrestored k v
      calm : Unflashed k v
      one_is : filter (is_write n) k.control.pending ≡ p ∷ []
      volumes_are : k.control.volumes ≡ w.control.volumes

    plain_v : (k : World) → Sound k → Both k → from k v ≡ None
    plain_v k y b = unrelated_primary (table k) y.rows.parts v b.to

    plain_u : (k : World) → Sound k → Both k → from k u ≡ None
    plain_u k y b = unrelated (table k) y.rows.parts u b.takes

    apart : (k : World) → Sound k → Both k → v ≢ u
    apart k y b e = (y.rows.parts.secondary v u b.to).apart (ap (λ j. (k.control.volume j).server) e)

    low_u : (k : World) → Sound k → Both k → t < (k.control.volume u).tracks
    low_u k y b = subst (λ m. t < m) (y.rows.parts.secondary v u b.to).same_tracks (waits k y p b.one_is).low

    both-still : (k j : World) → Sound k → Both k → Still k j → Both j
    both-still k j y b st =
        let here_v : j.control.volume v ≡ k.control.volume v = st.volume v (plain_v k y b) in
        let here_u : j.control.volume u ≡ k.control.volume u = st.volume u (plain_u k y b) in
        record {
          on_v = (λ i. st.on i (here_v i).server) ∙ b.on_v;
          on_u = (λ i. st.on i (here_u i).server) ∙ b.on_u;
          metro = ap (λ (x : Volume). is_metro x.fields.primary) here_v ∙ b.metro;
          open_to = ap (λ (x : Volume). held_back x.fields) here_v ∙ b.open_to;
          to = ap (λ (x : Volume). secondary_of x.fields) here_v ∙ b.to;
          takes = ap (λ (x : Volume). primary_of x.fields) here_u ∙ b.takes;
          out = ap (λ (x : Volume). contains x.fields.out_of_sync t) here_v ∙ b.out;
          free = ap (λ (x : Volume). x.fields.coordination) here_u ∙ b.free;
          still = λ x h r. let was = st.turned x v h r in b.still x was.0 was.1;
          calm = λ x h r. let was = st.flashed x v h r in b.calm x was.0 was.1;
          one_is = ap (filter (is_write n)) st.pending ∙ b.one_is;
          volumes_are = st.volumes ∙ b.volumes_are;
        }

    -- moves elsewhere
    both-done : (k : World) (m : Move) (h : Option Fuse) → v ≢ target m → primary_of (next_of k m) ≡ primary_of (fields_at k.control (target m)) → source_of (next_of k m) ≡ source_of (fields_at k.control (target m)) → (next_of k m).reversing ≡ (fields_at k.control (target m)).reversing
        → (next_of k m).revertible ≡ (fields_at k.control (target m)).revertible → (done k m h).control.pending ≡ k.control.pending → (fields_at (done k m h).control u).coordination ≡ false → Both k → Both (done k m h)
    both-done k m h ne primary source reversing revertible pending free b =
        let here_v : (done k m h).control.volume v ≡ k.control.volume v = at_other k.control.volume (target m) (row k m h) v ne in
        record {
          on_v = runs-done k m h v b.on_v;
          on_u = runs-done k m h u b.on_u;
          metro = ap (λ (x : Volume). is_metro x.fields.primary) here_v ∙ b.metro;
          open_to = ap (λ (x : Volume). held_back x.fields) here_v ∙ b.open_to;
          to = ap (λ (x : Volume). secondary_of x.fields) here_v ∙ b.to;
          takes = part-same k m h primary_of primary u ∙ b.takes;
          out = ap (λ (x : Volume). contains x.fields.out_of_sync t) here_v ∙ b.out;
          free = free;
          still = unrestored-done v k m h source reversing b.still;
          calm = unflashed-done v k m h source revertible b.calm;
          one_is = ap (filter (is_write n)) pending ∙ b.one_is;
          volumes_are = b.volumes_are;
        }

    -- what u has still to send doesn't collide
    abbrev Sent : World → Type 0
    Sent k = (fields_at k.control u).recording ≡ true → contains (fields_at k.control u).out_of_sync t ≡ false

    sent-still : (k j : World) → Sound k → Both k → Still k j → Sent k → Sent j
    sent-still k j y b st sent = subst (λ (x : Volume). x.fields.recording ≡ true → contains x.fields.out_of_sync t ≡ false) (sym (st.volume u (plain_u k y b))) sent

    -- u contains what the write makes of the track of v
    abbrev Stored : World → Type 0
    Stored k = k.contents u t ≡ with_write (histories k.events).write (k.contents v t) n

    stored-still : (k j : World) → Sound k → Both k → Still k j → Stored k → Stored j
    stored-still k j y b st is =
        let here_v : j.contents v t ≡ k.contents v t = ap (λ (g : ℕ → List ℕ). g t) (st.contents v (plain_v k y b)) in
        let here_u : j.contents u t ≡ k.contents u t = ap (λ (g : ℕ → List ℕ). g t) (st.contents u (plain_u k y b)) in
        here_u ∙ is ∙ sym (λ i. with_write (st.lists i).write (here_v i) n)

    -- both have it
    lands-both : (k : World) → Sound k → Both k → Stored k → Kept (table k) v t → Along k (now (LandBoth n v t) ∷ [])
    lands-both k y b is kept =
        let held = waits k y p b.one_is in
        let back = back-parts (fields_at k.control v) b.open_to in
        moves k (LandBoth n v t) [] (record {
          runs = b.on_v;
          allowed = record {
            land = record {
              receives = record { low = held.low; kept = kept; free = back.0; sent = λ r. false_true (metro-idle (table k v) (y.rows.recorders v) b.metro) r };
              defined = held.defined;
              plain = plain_v k y b;
              first = metro-second (table k v) (y.rows.parts.fit v) b.metro;
              let_go = back.1;
            };
            metro = b.metro;
            to = u;
            sends = b.to;
            equal = is;
          };
          fits = tt;
          group = tt;
          ready = may-ack k y p b.one_is b.on_v;
        }) (λ h z. over _ z)

    -- the targets of v keep the track first
    keeps-own : (k : World) → Sound k → Both k → Stored k → Along k (copy_first w.control.volumes v t ++ now (LandBoth n v t) ∷ [])
    keeps-own k y b is =
        subst (λ vs. Along k (copy_first vs v t ++ now (LandBoth n v t) ∷ [])) b.volumes_are
        (copy-first v t k (plain_v k y b) (waits k y p b.one_is).low b.on_v (keep_on v t) (λ k x y st. refl) _
        (λ j sj st kept. lands-both j sj (both-still k j y b st) (stored-still k j y b st is) kept) (λ x h r. absurd (b.still x h r)) b.calm y)

    -- u stores what the write makes of it
    mirrors : (k : World) → Sound k → Both k → Sent k → Kept (table k) u t → Along k (now (Mirror u t v n) ∷ copy_first w.control.volumes v t ++ now (LandBoth n v t) ∷ [])
    mirrors k y b sent kept =
        let m : Move = Mirror u t v n in
        let held = waits k y p b.one_is in
        moves k m _ (record {
          runs = b.on_u;
          allowed = record { receives = record { low = low_u k y b; kept = kept; free = b.free; sent = sent }; metro = b.metro; sends = b.to; takes = b.takes; out = b.out };
          fits = tt;
          group = tt;
          ready = record { number = held.number; volume = held.volume; track = held.track; idle = idle k u y.queue b.on_u; from_idle = idle k v y.queue b.on_v };
        }) (λ h z.
        let j : World = done k m h in
        let bytes_u : j.contents u t ≡ with_write (histories k.events).write (k.contents v t) n = ap (λ (g : ℕ → List ℕ). g t) (at_same k.contents u (tracks_after (next_of k m) (carried_in k m) (k.contents u))) ∙ if_true _ _ (eq-eqb t t refl) in
        let bytes_v : j.contents v t ≡ k.contents v t = ap (λ (g : ℕ → List ℕ). g t) (at_other k.contents u _ v (apart k y b)) in
        let writes : (histories j.events).write ≡ (histories k.events).write = ap (λ (x : Histories). x.write) (histories-append k.events (Mirrored n u ∷ [])) in
        keeps-own j z (both-done k m h (apart k y b) refl refl refl refl refl (part-same k m h (λ (g : Fields). g.coordination) refl u ∙ b.free) b) (bytes_u ∙ sym (λ i. with_write (writes i) (bytes_v i) n)))

    -- the targets of u keep the track first
    stores : (k : World) → Sound k → Both k → Sent k → Along k (mirror_and_land w.control.volumes n v t u)
    stores k y b sent =
        subst (Along k) (sym (append_assoc (copy_first w.control.volumes u t) (now (Mirror u t v n) ∷ copy_first w.control.volumes v t) (now (LandBoth n v t) ∷ [])))
        (subst (λ vs. Along k (copy_first vs u t ++ (now (Mirror u t v n) ∷ copy_first w.control.volumes v t ++ now (LandBoth n v t) ∷ []))) b.volumes_are
        (copy-first u t k (plain_u k y b) (low_u k y b) b.on_u (keep_on u t) (λ k x y st. refl) _ (λ j sj st kept. mirrors j sj (both-still k j y b st) (sent-still k j y b st sent) kept)
        (λ x h r. false_true (y.rows.parts.free x u h r) (chosen (is_part (fields_at k.control u).secondary) _ v b.takes).0)
        (λ x h r. false_true (y.rows.seals.no_metro x u h r) (ap is_metro (y.rows.seals.kinds u v b.takes b.to) ∙ b.metro)) y))

    -- the track is out of sync until it has changed on both sides
    unsyncs : is_metro f.primary ≡ true → held_back f ≡ false → secondary_of f ≡ Some u → primary_of (fields_at w.control u) ≡ Some v → (fields_at w.control u).coordination ≡ false → Runs w u → Unrestored w v → Unflashed w v → (more : List Entry)
        → ((k : World) → Sound k → Both k → k.control.volume u ≡ w.control.volume u → Along k more) → Along w (now (Unsync v t) ∷ more)
    unsyncs metro open_to to takes free on_u still calm more go =
        let m : Move = Unsync v t in
        let ne : u ≢ v = λ e. (s.rows.parts.secondary v u to).apart (ap (λ j. (w.control.volume j).server) (sym e)) in
        moves w m more (record { runs = on; allowed = record { low = (waits w s p one).low; metro = metro }; fits = tt; group = tt; ready = idle w v s.queue on }) (λ h y. go (done w m h) y (record {
          on_v = runs-done w m h v on;
          on_u = runs-done w m h u on_u;
          metro = part-same w m h (λ (g : Fields). is_metro g.primary) refl v ∙ metro;
          open_to = part-same w m h held_back refl v ∙ open_to;
          to = part-same w m h secondary_of refl v ∙ to;
          takes = part-same w m h primary_of refl u ∙ takes;
          out = ap (λ (x : Volume). contains x.fields.out_of_sync t) (at_same w.control.volume v _) ∙ in_insert f.out_of_sync t;
          free = part-same w m h (λ (g : Fields). g.coordination) refl u ∙ free;
          still = unrestored-done v w m h refl refl still;
          calm = unflashed-done v w m h refl refl calm;
          one_is = one;
          volumes_are = refl;
        }) (at_other w.control.volume v (row w m h) u ne))

    -- u is cascaded, with a secondary c
    module _ (c : ℕ) where
      record Fed (k : World) : Type 0 where
        both : Both k
        leads : secondary_of (fields_at k.control u) ≡ Some c

      fed-done : (k : World) (m : Move) (h : Option Fuse) → secondary_of (next_of k m) ≡ secondary_of (fields_at k.control (target m)) → Both (done k m h) → Fed k → Fed (done k m h)
      fed-done k m h secondary both b = record { both = both; leads = part-same k m h secondary_of secondary u ∙ b.leads }

      lasting : Lasting u c t Fed
      lasting = record {
        runs = λ k b. b.both.on_u;
        leads = λ k b. b.leads;
        low = λ k y b. low_u k y b.both;
        stays = λ k j y b st. record { both = both-still k j y b.both st; leads = ap (λ (x : Volume). secondary_of x.fields) (st.volume u (plain_u k y b.both)) ∙ b.leads };
        suspends = λ k h y b. let m : Move = Suspend u false in fed-done k m h refl (both-done k m h (apart k y b.both) refl refl refl refl refl (ap (λ (x : Volume). x.fields.coordination) (at_same k.control.volume u (row k m h))) b.both) b;
        stores = λ k last h y b. let m : Move = Store c t u last in fed-done k m h refl (both-done k m h (λ e. third-apart k y v u c b.both.takes b.leads (sym e)) refl refl refl refl refl (part-same k m h (λ (g : Fields). g.coordination) refl u ∙ b.both.free) b.both) b;
        strikes = λ k last h y b. let m : Move = Strike u t last in fed-done k m h refl (both-done k m h (apart k y b.both) refl refl refl refl refl (part-same k m h (λ (g : Fields). g.coordination) refl u ∙ b.both.free) b.both) b;
      }

      feeds : (k : World) → Sound k → Fed k → Along k (send_first w.control.volumes u c t ++ mirror_and_land w.control.volumes n v t u)
      feeds k y b = subst (λ vs. Along k (send_first vs u c t ++ mirror_and_land w.control.volumes n v t u)) b.both.volumes_are (sends-first u c t Fed lasting _ (λ j z x sent. stores j z x.both sent) k y b)

  -- whichever it is
  module _ (free : is_part f.secondary ≡ false) (writable : is_open v w.control ≡ true) (settled : is_settled v w.control ≡ true) where
    abbrev there : ℕ
    there = partner_of w.control v

    abbrev third : ℕ
    third = partner_of w.control there

    module _ (metro : is_metro f.primary ≡ true) (open_to : held_back f ≡ false) (parts : is_parted w.control v ≡ false) where
      abbrev g : Fields
      g = fields_at w.control there

      reach : (reach_refusal v there w.control ≡ None) × (cond (belongs_to v there w.control) None (Some (secondary_state w.control there)) ≡ None)
      reach = none-both (reach_refusal v there w.control) _ (none_there (send_refusal v there w.control) parts)

      takes : primary_of g ≡ Some v
      takes = its-first v g (met (belongs_to v there w.control) _ reach.1)

      goes-both : g.coordination ≡ false → (more : List Entry) → ((k : World) → Sound k → Both there k → k.control.volume there ≡ w.control.volume there → Along k more) → Along w (now (Unsync v t) ∷ more)
      goes-both unheld = unsyncs there metro open_to (choose_some (is_part f.primary) f.primary_partner (metro-part f.primary metro)) takes unheld (reached w v there reach.0) (λ x h r. unrestored w s v settled x h r) (unflashed w s v settled)

      over-by : (h c : Bool) → is_held_back w.control v ≡ h → is_cascaded g ≡ c → Along w (cond h [] (cond c (land_fed w.control.volumes n v t there third) (land_mirrored w.control.volumes n v t there)))
      over-by true c back is = over w s
      over-by false true back is = goes-both (and-second-false (is_cascaded g) g.coordination back is) _
          (λ k y b same. feeds there third k y (record { both = b; leads = ap (λ (x : Volume). secondary_of x.fields) same ∙ choose_some (is_part g.primary) g.primary_partner (and_parts (is_part g.primary) _ is).0 }))
      over-by false false back is =
          let plain : is_part g.primary ≡ false = uncascaded-second g is (chosen _ _ v takes).0 in
          goes-both (plain-free (table w) s.rows there plain) _ (λ k y b same. stores there k y b (λ rec. false_true (ap (λ (x : Volume). is_part x.fields.primary) same ∙ plain) (recorder-leads (table k) y.rows there rec)))

    goes-over : is_metro f.primary ≡ true → held_back f ≡ false → (b : Bool) → is_parted w.control v ≡ b
        → Along w (cond b (land_parted w.control n v t) (cond (is_held_back w.control v) [] (cond (is_cascaded (fields_at w.control there)) (land_fed w.control.volumes n v t there third) (land_mirrored w.control.volumes n v t there))))
    goes-over metro open_to true is = parted (metro-part f.primary metro) free (plain-primary w s v (metro-part f.primary metro)) open_to (λ x h r. unrestored w s v settled x h r) (unflashed w s v settled)
    goes-over metro open_to false is = over-by metro open_to is (is_held_back w.control v) (is_cascaded (fields_at w.control there)) refl refl

    -- a track that doesn't collide was sent, where the volume records
    was-sent : collides f t ≡ false → f.recording ≡ true → contains f.out_of_sync t ≡ false
    was-sent not r = and-second-false f.recording _ (and-second-false (is_kind Global f.primary) _ not ((s.rows.recorders v).global r)) r

    lands-by : (h g c : Bool) → held f ≡ h → goes_over f t ≡ g → collides f t ≡ c
        → Along w (cond h [] (cond g (land_over w.control n v t) (cond c (land_collided w.control n v t) (land_alone w.control.volumes n v t))))
    lands-by true g c on_hold is not = over w s
    lands-by false true c on_hold is not = goes-over (and_parts (is_metro f.primary) _ is).0 (not-back f on_hold) (is_parted w.control v) refl
    lands-by false false true on_hold is hits = collided w s p one on free settled (not-back f on_hold) hits
    lands-by false false false on_hold is not = lands-alone w s p one on free writable settled (not-back f on_hold) (was-sent not) f.related refl

-- a pending write is carried out
pub lands : (w : World) (s : Sound w) (p : Pending) → filter (is_write p.w) w.control.pending ≡ p ∷ [] → Along w (landing w.control p.w p.volume p.track)
lands w s p one =
    let v : ℕ = p.volume in
    let f : Fields = fields_at w.control v in
    checked w (is_running v) _ _ s (λ on.
    dropped-checked w p.w (is_no_secondary v) _ _ s (unlanded w s p one on) refl (λ free.
    dropped-checked w p.w (is_open v) _ _ s (unlanded w s p one on) refl (λ open_to.
    dropped-checked w p.w (is_settled v) _ _ s (unlanded w s p one on) refl (λ settled.
    lands-by w s p one on (not-true (is_part f.secondary) free) open_to settled (held f) (goes_over f p.track) (collides f p.track) refl refl refl))))

-- where a server stopped in it, a primary whose own server runs is suspended
pub parts-after : (v : ℕ) (w : World) → Sound w → Along w (part_after v)
parts-after v w s = decides w (part_running v) [] _ refl (by _ refl)
  where
    by : (c : Bool) → (is_part (fields_at w.control v).primary && is_running v w.control) ≡ c → Then w (cond c (Do (Make (Suspend v (is_grouped w.control v (partner_of w.control v))))) Pass) (λ k. Along k [])
    by true is = let both = and_parts (is_part (fields_at w.control v).primary) _ is in (record { runs = both.1; allowed = both.0; fits = tt; group = tt; ready = idle w v s.queue both.1 }, λ f y. over _ y)
    by false is = over w s

-- what is sent before a write is followed as a send is; and in what a cascaded secondary sends on, that is suspended first
pub writes-after : (k : Control) (n v t i : ℕ) → EachAlong (after_write k n v t i)
writes-after k n v t i = after-any k n v t EachAlong i (suspends-after v, tt) (parts-after v, tt) (λ is. (suspends-after (partner_of k v), (parts-after v, tt)))
