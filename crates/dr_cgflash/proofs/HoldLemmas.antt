-- The flash hold of a source, and what still holds behind it.
use Rattle.std.proofs.Common.{ℕ, ◌≡◌, ◌≢◌, inl, inr, ◌≤◌, arith, Bool, true, false, true≢false, refl, sym, ◌∙◌, ap, Option, None}
use Rattle.std.specs.Prelude.{is_some, if◌then◌else◌}
use Rattle.std.proofs.lemmas.Bool.{cases_eq}
use Rattle.dr_ids.specs.declared.names.VolumeId.{VolumeId}
use Rattle.dr_ids.specs.declared.refusal.Refusal.{Refusal}
use Rattle.dr_plant.specs.State.{PlantState}
use Rattle.dr_config.specs.Table.{ConfigTable, place_of}
use Rattle.dr_model.specs.Carry.{Pass as PassOn, Do as DoAct, Make}
use Rattle.dr_model.specs.Control.{Volume}
use Rattle.dr_model.specs.Moves.{FlashHold, moved}
use Rattle.dr_model.specs.Pairs.{flash_held}
use Rattle.dr_volume.specs.Update.{IsAsBefore, OthersStay}
use Rattle.dr_volume.specs.View.{volume_seen}
use Rattle.dr_moves.specs.Coming.{next_of, MayCome, Went, NotTarget, RefusedAs, cost_of}
use Rattle.dr_moves.specs.Checks.{is_stop}
use Rattle.dr_moves.specs.Made.{MayRelate}
use Rattle.dr_moves.specs.declared.carrying.Next.{Next}
use Rattle.dr_moves.specs.declared.carrying.Next.TheVariants.{Pass, Do}
use Rattle.dr_moves.specs.declared.moves.Move.TheVariants as move

-- nothing or the hold
abbrev by : VolumeId → Bool → Next
by s b = if b then Pass else Do (move.FlashHold s)

pub comes-by : (s : VolumeId) (b : Bool) → (if b then PassOn else DoAct (Make (FlashHold s.0))) ≡ next_of (by s b)
comes-by s true = refl
comes-by s false = refl

pub other-than : (s : VolumeId) (b : Bool) (q : ℕ) → q ≢ s.0 → NotTarget (by s b) q
other-than s true q ne = tt
other-than s false q ne = ne

module _ (x : PlantState) (c : ConfigTable) (s : VolumeId) where
  -- nothing but a stop ends it
  pub hold-stopped : (b : Bool) (r : Option Refusal) → RefusedAs x c (by s b) r → is_stop r ≡ true
  hold-stopped true r refused = absurd refused
  hold-stopped false r refused = ap is_stop refused

  pub may-hold : (b : Bool) → is_some (place_of c s.0) ≡ true → x.on (volume_seen x c s.0).server ≡ true → MayCome x c (by s b)
  may-hold true defined running = tt
  may-hold false defined running = record { may = record { defined = defined; running = running; asks = tt }; calm = refl; carries = λ w. refl }

  pub hold-cost : (b : Bool) → cost_of (by s b) x c ≤ 1
  hold-cost true = omega arith
  hold-cost false = omega arith

  -- the source has the hold, and nothing else of its fields has changed
  module _ (u : PlantState) where
    pub hold-there : (b : Bool) → (volume_seen x c s.0).fields.flash_hold ≡ b → Went x u c (by s b) → (volume_seen u c s.0).fields.flash_hold ≡ true
    hold-there true is same = ap (λ z. (volume_seen z c s.0).fields.flash_hold) same ∙ is
    hold-there false is went = ap (λ (y : Volume). y.fields.flash_hold) went.moved.volume

    pub on-held : (b : Bool) → Went x u c (by s b) → u.on ≡ x.on
    on-held true same = ap (λ (z : PlantState). z.on) same
    on-held false went = went.on

    -- what a choice of its fields says that aren't the hold
    source-as : {A : Type 0} (of : Volume → A) → of (moved (volume_seen x c s.0) (flash_held (volume_seen x c s.0).fields) None) ≡ of (volume_seen x c s.0) → (b : Bool) → Went x u c (by s b) → of (volume_seen u c s.0) ≡ of (volume_seen x c s.0)
    source-as of stays true same = ap (λ z. of (volume_seen z c s.0)) same
    source-as of stays false went = ap of went.moved.volume ∙ stays

    pub server-held : (b : Bool) → Went x u c (by s b) → (volume_seen u c s.0).server ≡ (volume_seen x c s.0).server
    server-held = source-as (λ y. y.server) refl

    tracks-held : (b : Bool) → Went x u c (by s b) → (volume_seen u c s.0).tracks ≡ (volume_seen x c s.0).tracks
    tracks-held = source-as (λ y. y.tracks) refl

    related-held : (b : Bool) → Went x u c (by s b) → (volume_seen u c s.0).fields.related ≡ (volume_seen x c s.0).fields.related
    related-held = source-as (λ y. y.fields.related) refl

    -- so t, another volume, can become a target of it as before
    pub may-held : (t : ℕ) (b : Bool) → Went x u c (by s b) → ((q : ℕ) → NotTarget (by s b) q → IsAsBefore x u c q) → MayRelate x c t s.0 → MayRelate u c t s.0
    may-held t b went others may =
        let target = others t (other-than s b t (λ is. may.apart (sym is))) in
        record {
          source = record {
            defined = may.source.defined;
            plain = related-held b went ∙ may.source.plain;
            same_tracks = ap (λ (y : Volume). y.tracks) target.volume ∙ may.source.same_tracks ∙ sym (tracks-held b went);
            same_server = ap (λ (y : Volume). y.server) target.volume ∙ may.source.same_server ∙ sym (server-held b went);
          };
          apart = may.apart;
          lone = λ q related. elim (cases_eq q s.0) as (λ _. (volume_seen u c q).fields.source ≢ t) [
            | inl is ↦ absurd (true≢false (sym related ∙ ap (λ z. (volume_seen u c z).fields.related) is ∙ related-held b went ∙ may.source.plain))
            | inr ne ↦
                let same = (others q (other-than s b q ne)).volume in
                λ at. may.lone q (ap (λ (y : Volume). y.fields.related) (sym same) ∙ related) (ap (λ (y : Volume). y.fields.source) (sym same) ∙ at)
          ];
        }

  -- and it keeps its hold as t is moved
  pub still-held : (u w : PlantState) (t : ℕ) → OthersStay u w c t → s.0 ≢ t → (volume_seen u c s.0).fields.flash_hold ≡ true → (volume_seen w c s.0).fields.flash_hold ≡ true
  still-held u w t others ne held = ap (λ (y : Volume). y.fields.flash_hold) (others s.0 ne).volume ∙ held
