-- The examples, carried out.
use Rattle.std.proofs.Common.{ℕ, zero, suc, ◌≡◌, ◌<◌, inl, inr, refl, ap, sym, ◌∙◌, true, false, nat_eq, List, [], ◌∷◌, ◌++◌, length, take, Option, Some, None, slice_index_or, arith}
use Rattle.std.specs.Prelude.{is_some}
use Rattle.std.specs.List.{slice_get}
use Rattle.std.specs.Option.{unwrap_or}
use Rattle.std.specs.FinSet.{contains, empty}
use Rattle.std.proofs.lemmas.Bool.{eq-eqb}
use Rattle.std.proofs.lemmas.Option.{same_Some}
use Rattle.dr_logic.specs.Bytes.{zeros}
use Rattle.dr_model.specs.declared.event.Event.{Event}
use Rattle.dr_model.specs.declared.event.Event.TheVariants.{Cut}
use Rattle.dr_model.specs.Contents.{image, laid}
use Rattle.dr_model.specs.Histories.{histories, lists}
use Rattle.dr_model.specs.Control.{World, nothing}
use Rattle.dr_model.specs.Sessions.{changed}
use Rattle.dr_model.specs.Phases.{servers_where}
use Rattle.dr_model.specs.Carry.{act, carry, turn, update_keeping, stopped_at}
use Rattle.dr_model.specs.Groups.{In}
use Rattle.dr_model.specs.Pairs.{is_full_duplex, is_cascaded}
use Rattle.dr_model.specs.Entries.{fields_at}
use Rattle.dr_model.specs.Table.{due}
use Rattle.dr_model.specs.Runs.{after_plan, after_tasks}
use Rattle.dr_facts.proofs.Sets.{insert_other, not_inserted}
use Rattle.dr_facts.proofs.Tracks.{empty_has}
use Rattle.dr_laws_freezes.specs.Moments.{worlds, worlds_each, parts_moments, moments_from, moments}
use Rattle.dr_laws_sites.specs.FirstSite.{IsFirst, ShowsFirst}
use Rattle.dr_laws_sites.specs.CutMoments.{IsJustCut}
use Rattle.dr_laws_sites.specs.Example.{three_sites, cut_moment, only, sites, first_write, both_have, first_has, second_has}
use Rattle.dr_logic.proofs.Truth.{false_true}

-- ---- the run

pub first : IsFirst cut_moment.control 4096 8192
unfolding after_tasks after_plan carry act turn update_keeping stopped_at image histories zeros changed servers_where worlds worlds_each parts_moments moments_from
first = record { sends = refl; metro = refl; takes = refl }

pub cascaded : is_cascaded (fields_at cut_moment.control 8192) ≡ true
unfolding after_tasks after_plan carry act turn update_keeping stopped_at image histories zeros changed servers_where worlds worlds_each parts_moments moments_from
cascaded = refl

pub duplex : is_full_duplex (fields_at cut_moment.control 4096).primary_state ≡ true
unfolding after_tasks after_plan carry act turn update_keeping stopped_at image histories zeros changed servers_where worlds worlds_each parts_moments moments_from
duplex = refl

pub clean : (fields_at cut_moment.control 4096).out_of_sync ≡ empty
unfolding after_tasks after_plan carry act turn update_keeping stopped_at image histories zeros changed servers_where worlds worlds_each parts_moments moments_from
clean = refl

is-there : is_some (slice_get (moments three_sites) 37) ≡ true
unfolding after_tasks after_plan carry act turn update_keeping stopped_at image histories zeros changed servers_where worlds worlds_each parts_moments moments_from
is-there = refl

-- an element of a list, by its place
pub at-place : (us : List World) (i : ℕ) (w : World) → slice_get us i ≡ Some w → In w us
at-place [] i w is = absurd cc
at-place (u ∷ us) zero w is = inl (sym (same_Some u w is))
at-place (u ∷ us) (suc i) w is = inr (at-place us i w is)

pub given : (o : Option World) → is_some o ≡ true → o ≡ Some (unwrap_or o nothing)
given None is = absurd cc
given (Some w) is = refl

pub among : In cut_moment (moments three_sites)
among = at-place (moments three_sites) 37 cut_moment (given (slice_get (moments three_sites) 37) is-there)

events-told : length cut_moment.events ≡ 25
unfolding after_tasks after_plan carry act turn update_keeping stopped_at image histories zeros changed servers_where worlds worlds_each parts_moments moments_from
events-told = refl

cut-told : slice_get cut_moment.events 24 ≡ Some (Cut 1 1 8192)
unfolding after_tasks after_plan carry act turn update_keeping stopped_at image histories zeros changed servers_where worlds worlds_each parts_moments moments_from
cut-told = refl

-- a list that ends with an element
pub ends-with : (es : List Event) (i : ℕ) (e : Event) → length es ≡ suc i → slice_get es i ≡ Some e → es ≡ take i es ++ e ∷ []
ends-with [] i e long is = absurd cc
ends-with (x ∷ []) zero e long is = ap (λ y. y ∷ []) (same_Some x e is)
ends-with (x ∷ y ∷ es) zero e long is = absurd cc
ends-with (x ∷ es) (suc i) e long is = let more : length es ≡ suc i = cc in ap (λ xs. x ∷ xs) (ends-with es i e more is)

pub just : IsJustCut cut_moment (take 24 cut_moment.events) 1 1 8192
just = record { after = []; is = ends-with cut_moment.events 24 (Cut 1 1 8192) events-told cut-told; last = tt }

-- ---- what the second site's volume may show

abbrev first_byte : List ℕ → ℕ
first_byte bytes = slice_index_or bytes 0 0

apart : (n m : ℕ) (bytes other : List ℕ) → first_byte bytes ≡ n → first_byte other ≡ m → nat_eq n m ≡ false → bytes ≡ other → ⊥
apart n m bytes other one two ne same = false_true ne (ap (nat_eq n) (sym two ∙ ap first_byte (sym same) ∙ one) ∙ nat_eq-same n)
  where
    nat_eq-same : (n : ℕ) → nat_eq n n ≡ true
    nat_eq-same n = eq-eqb n n refl

-- the second volume has what the first one is due to show, on each track of two, or on one that isn't out of sync
abbrev Same : World → ℕ → Type 0
Same w t = image (histories w.events).write (lists w.events 8192 t) ≡ due w 4096 t

on-two : (w : World) → Same w 0 → Same w 1 → (t : ℕ) → t < 2 → Same w t
on-two w one two zero lt = one
on-two w one two (suc zero) lt = two
on-two w one two (suc (suc t)) lt = absurd (omega arith)

pub even : ShowsFirst (sites empty [] both_have) 4096 8192
unfolding histories
even = record { size = refl; tracks = λ t lt out. on-two (sites empty [] both_have) refl refl t lt }

pub landed : ShowsFirst (sites empty (first_write true ∷ []) second_has) 4096 8192
unfolding histories
landed = record { size = refl; tracks = λ t lt out. on-two (sites empty (first_write true ∷ []) second_has) refl refl t lt }

pub out : ShowsFirst (sites (only 0) [] first_has) 4096 8192
unfolding histories
out = record { size = refl; tracks = λ t lt out. by t lt out }
  where
    by : (t : ℕ) → t < 2 → contains (only 0) t ≡ false → Same (sites (only 0) [] first_has) t
    by zero lt out = absurd ((not_inserted empty 0 0 out).1 refl)
    by (suc zero) lt out = refl
    by (suc (suc t)) lt out = absurd (omega arith)

pub less : ShowsFirst (sites empty [] first_has) 4096 8192 → ⊥
unfolding histories image laid zeros
less s = apart 0 97 _ _ refl refl refl (s.tracks 0 (omega arith) (empty_has 0))

pub out-elsewhere : ShowsFirst (sites (only 1) [] first_has) 4096 8192 → ⊥
unfolding histories image laid zeros
out-elsewhere s = apart 0 97 _ _ refl refl refl (s.tracks 0 (omega arith) (insert_other empty 1 0 (λ e. absurd (omega arith)) ∙ empty_has 0))

pub ahead : ShowsFirst (sites empty (first_write false ∷ []) second_has) 4096 8192 → ⊥
unfolding histories image laid zeros
ahead s = apart 97 0 _ _ refl refl refl (s.tracks 0 (omega arith) (empty_has 0))
