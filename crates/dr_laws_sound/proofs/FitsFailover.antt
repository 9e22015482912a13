-- The plans that turn a pair round are allowed along: a secondary is taken over, and a pair goes the other way; and that two volumes are
-- compared.
use Rattle.std.proofs.Common.{ℕ, ◌≡◌, ◌≢◌, ◌<◌, refl, ap, sym, ◌∙◌, subst, Bool, true, false, cond, ◌||◌, List, [], ◌∷◌, Option, Some}
use Rattle.std.proofs.lemmas.Bool.{and_parts, or_right, not-true}
use Rattle.std.specs.Cmp.{nat_cmp_total}
use Rattle.std.specs.FinSet.{contains, contains-union}
use Rattle.dr_model.specs.declared.state.Part.{Part}
use Rattle.dr_model.specs.declared.step.Devs.{Devs}
use Rattle.dr_model.specs.Layout.{Tracks, Fields, is_part}
use Rattle.dr_model.specs.Pairs.{secondary_of, is_primary_of, is_cascaded, voided, state_with}
use Rattle.dr_model.specs.Views.{source_of}
use Rattle.dr_model.specs.Control.{Fuse, Volume, World, is_volume}
use Rattle.dr_model.specs.Moves.{Move, TakeOver, LeavePrimary, FallBack, Yield}
use Rattle.dr_model.specs.Carry.{Make, Do, now}
use Rattle.dr_model.specs.Entries.{fields_at, is_running, share_size, is_settled, is_no_secondary}
use Rattle.dr_model.specs.PairEntries.{reach_refusal, first_differing, differs_at, leads_to, belongs_to, may_take_over, leads_as, unsent_by, fall_back_on, yield_on}
use Rattle.dr_model.specs.Plans.{is_defined, yield_refusal, failover_plan, failback_plan, compare_plan}
use Rattle.dr_model.specs.Table.{table}
use Rattle.dr_model.specs.Laws.{Sound, PartnerFits, unsent}
use Rattle.dr_model.specs.Allowed.{MayFallBack, MayYield, Idle, Runs}
use Rattle.dr_laws_sound.proofs.Turns.{done}
use Rattle.dr_laws_sound.proofs.RowsAfter.{idle}
use Rattle.dr_laws_sound.proofs.KeepsSound.{Along, Then, StepHolds, over, decides, checked}
use Rattle.dr_laws_sound.proofs.FitsCollide.{uncascaded-second}
use Rattle.dr_laws_sound.proofs.FitsFlash.{refused, as_begun, sound-begun, holds-entries}
use Rattle.dr_laws_sound.proofs.FitsPairs.{found, reached, its-second, row, runs-done, part-same}
use Rattle.dr_laws_sound.proofs.Lands.{unrestored, unflashed}
use Rattle.dr_laws_sound.proofs.CopyFirst.{from, unturned}
use Rattle.dr_laws_sound.proofs.Counting.{may-follow}
use Rattle.dr_facts.proofs.Sets.{from_union}
use Rattle.dr_logic.proofs.Tables.{at_same, at_other}

module _ (w : World) (s : Sound w) where
  abbrev first : World
  first = as_begun w

  is-second : (b a : ℕ) (kind : Part) → may_take_over a b kind w.control ≡ true → is_part (fields_at w.control b).secondary ≡ true
  is-second b a kind may = (and_parts (is_part (fields_at w.control b).secondary) _ (and_parts (belongs_to a b w.control) _ may).0).0

  pub along-failover : (devs : Devs) (b a : ℕ) (kind : Part) → Along first (failover_plan w.control devs b a kind).entries
  along-failover devs b a kind =
      found first (sound-begun w s) devs b a _ (λ there_b there_a.
      checked first (is_running b) _ _ (sound-begun w s) (λ on.
      checked first (may_take_over a b kind) _ _ (sound-begun w s) (λ may.
      decides first (now (cond (is_cascaded (fields_at w.control b)) (LeavePrimary b) (TakeOver b))) [] _ refl (by on (is-second b a kind may) (is_cascaded (fields_at w.control b)) refl))))
    where
      ready : Runs first b → Idle first b
      ready on = idle first b (sound-begun w s).queue on

      by : Runs first b → is_part (fields_at w.control b).secondary ≡ true → (c : Bool) → is_cascaded (fields_at w.control b) ≡ c → Then first (Do (Make (cond c (LeavePrimary b) (TakeOver b)))) (λ k. Along k [])
      by on second true is = (record { runs = on; allowed = record { first = (and_parts (is_part (fields_at w.control b).primary) _ is).0; second = second }; fits = tt; group = tt; ready = ready on }, λ f y. over _ y)
      by on second false is = (record { runs = on; allowed = record { second = second; free = uncascaded-second (fields_at w.control b) is second }; fits = tt; group = tt; ready = ready on }, λ f y. over _ y)

  pub holds-failover : (devs : Devs) (b a : ℕ) (kind : Part) → StepHolds w (failover_plan w.control devs b a kind)
  holds-failover devs b a kind = holds-entries w _ _ s (along-failover devs b a kind)

  -- each is a primary of the other, and y's targets may be followed
  record MayTurn (x y : ℕ) : Type 0 where
    on_x : Runs first x
    on_y : Runs first y
    leads : is_primary_of y (fields_at w.control x) ≡ true
    back : is_primary_of x (fields_at w.control y) ≡ true
    free_x : is_part (fields_at w.control x).secondary ≡ false
    free_y : is_part (fields_at w.control y).secondary ≡ false
    settled : is_settled y w.control ≡ true

  module _ (x y : ℕ) (p : MayTurn x y) where
    abbrev more : Tracks
    more = unsent_by y w.control

    abbrev falls : Move
    falls = FallBack x more (state_with more (fields_at w.control x))

    abbrev half : Option Fuse → World
    half f = done first falls f

    fits : PartnerFits (is_volume w.control y) (w.control.volume x).server (w.control.volume y).server (w.control.volume x).tracks (w.control.volume y).tracks
    fits = (sound-begun w s).rows.parts.secondary x y (its-second y (fields_at w.control x) p.leads)

    may-fall : MayFallBack (table first) x more
    may-fall = let sets = ((sound-begun w s).rows.structure.lawful y).sets in record {
      first = (and_parts (is_part (fields_at w.control x).primary) _ p.leads).0;
      low = λ t h. subst (λ n. t < n) (sym fits.same_tracks) (from_union _ _ (λ t. t < (w.control.volume y).tracks) sets.out_of_sync_low sets.change_recording_low t h);
    }

    -- what y hasn't sent is out of sync at x from then on
    taken : (f : Option Fuse) (t : ℕ) → unsent (table (half f) y) t ≡ true → contains (fields_at (half f).control x).out_of_sync t ≡ true
    taken f t h =
        let ne : y ≢ x = λ e. fits.apart (ap (λ j. (w.control.volume j).server) (sym e)) in
        let new : Volume = row first falls f in
        let was : (contains (fields_at w.control y).out_of_sync t || contains (fields_at w.control y).change_recording t) ≡ true =
        sym (ap (λ (v : Volume). contains v.fields.out_of_sync t || contains v.fields.change_recording t) (at_other w.control.volume x new y ne)) ∙ h in
        ap (λ (v : Volume). contains v.fields.out_of_sync t) (at_same w.control.volume x new)
        ∙ (contains-union nat_cmp_total (voided (fields_at w.control x)).out_of_sync more t
        ∙ or_right (contains (voided (fields_at w.control x)).out_of_sync t) (contains more t) (contains-union nat_cmp_total (fields_at w.control y).out_of_sync (fields_at w.control y).change_recording t ∙ was))

    still-second : (f : Option Fuse) (v : ℕ) → secondary_of (fields_at (half f).control v) ≡ secondary_of (fields_at w.control v)
    still-second f v = part-same first falls f secondary_of refl v

    still-from : (f : Option Fuse) (z : ℕ) → from (half f) z ≡ from first z
    still-from f z = part-same first falls f source_of refl z

    none-revertible : (f : Option Fuse) (z : ℕ) → from (half f) z ≡ Some y → (fields_at (half f).control z).revertible ≡ true → ⊥
    none-revertible f z h r = unflashed first (sound-begun w s) y p.settled z (sym (still-from f z) ∙ h) (sym (part-same first falls f (λ (g : Fields). g.revertible) refl z) ∙ r)

    may-yield : (f : Option Fuse) → Sound (half f) → MayYield (table (half f)) y x (fields_at (half f).control x).primary
    may-yield f z =
        let sends = still-second f y ∙ its-second x (fields_at w.control y) p.back in
        let back = still-second f x ∙ its-second y (fields_at w.control x) p.leads in record {
          sends = sends;
          back = back;
          free = part-same first falls f (λ (g : Fields). is_part g.secondary) refl y ∙ p.free_y;
          from_free = part-same first falls f (λ (g : Fields). is_part g.secondary) refl x ∙ p.free_x;
          alike = refl;
          idle = ap (λ (v : Volume). v.fields.recording) (at_same w.control.volume x (row first falls f));
          out = taken f;
          still = λ u h r. unrestored first (sound-begun w s) y p.settled u (sym (still-from f u) ∙ h) (sym (part-same first falls f (λ (g : Fields). g.reversing) refl u) ∙ r);
          settled = λ u h. unturned (fields_at (half f).control u).revertible (none-revertible f u h);
        }

    yields : (f : Option Fuse) → Sound (half f) → Along (half f) (yield_on y x ∷ [])
    yields f z =
        let k : World = half f in
        let on : Runs k y = runs-done first falls f y p.on_y in
        decides k (yield_on y x) [] (Do (Make (Yield y x (fields_at k.control x).primary (fields_at k.control x).primary_state))) refl
        (record { runs = on; allowed = may-yield f z; fits = tt; group = (may-follow k z y (none-revertible f), (may-yield f z).idle); ready = idle k y z.queue on }, λ g u. over _ u)

    turns : Along first (fall_back_on x y ∷ yield_on y x ∷ [])
    turns = decides first (fall_back_on x y) _ (Do (Make falls)) refl (record { runs = p.on_x; allowed = may-fall; fits = tt; group = tt; ready = idle first x (sound-begun w s).queue p.on_x }, yields)

  pub along-failback : (devs : Devs) (x y : ℕ) (kind : Part) → Along first (failback_plan w.control devs x y kind).entries
  along-failback devs x y kind =
      found first (sound-begun w s) devs x y _ (λ there_x there_y.
      checked first (is_running x) _ _ (sound-begun w s) (λ on.
      refused first (reach_refusal x y) _ (sound-begun w s) (λ reach.
      checked first (leads_as x y kind) _ _ (sound-begun w s) (λ leads.
      checked first (leads_to y x) _ _ (sound-begun w s) (λ back.
      checked first (is_no_secondary x) _ _ (sound-begun w s) (λ free_x.
      checked first (is_no_secondary y) _ _ (sound-begun w s) (λ free_y.
      checked first (is_settled y) _ _ (sound-begun w s) (λ settled.
      checked first (is_settled x) _ _ (sound-begun w s) (λ other.
      refused first (yield_refusal y) _ (sound-begun w s) (λ none.
      turns x y (record { on_x = on; on_y = reached first x y reach; leads = (and_parts (leads_to x y w.control) _ leads).0; back = back; free_x = not-true _ free_x; free_y = not-true _ free_y; settled = settled })))))))))))

  pub holds-failback : (devs : Devs) (x y : ℕ) (kind : Part) → StepHolds w (failback_plan w.control devs x y kind)
  holds-failback devs x y kind = holds-entries w _ _ s (along-failback devs x y kind)

  pub along-compare : (contents : ℕ → ℕ → List ℕ) (v u : ℕ) → Along first (compare_plan w.control contents v u).entries
  along-compare contents v u =
      checked first (is_defined v) _ _ (sound-begun w s) (λ there.
      checked first (is_defined u) _ _ (sound-begun w s) (λ other.
      checked first (is_running v) _ _ (sound-begun w s) (λ on.
      checked first (is_running u) _ _ (sound-begun w s) (λ runs.
      checked first (share_size v u) _ _ (sound-begun w s) (λ size.
      refused first (differs_at (first_differing contents (w.control.volume v).tracks v u)) _ (sound-begun w s) (λ none. over first (sound-begun w s)))))))

  pub holds-compare : (contents : ℕ → ℕ → List ℕ) (v u : ℕ) → StepHolds w (compare_plan w.control contents v u)
  holds-compare contents v u = holds-entries w _ _ s (along-compare contents v u)
