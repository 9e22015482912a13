-- The targets of a source keep a track, from one place of the configuration to the next.
use Rattle.std.proofs.Common.{ℕ, ◌≡◌, ◌<◌, ◌+◌, ◌++◌, false, Bool, List, length, arith, inl, refl, sym, ◌∙◌, ap, subst, Option, Some}
use Rattle.std.specs.Prelude.{Result, Ok, Err}
use Rattle.dr_ids.specs.declared.refusal.Refusal.{Refusal}
use Rattle.dr_plant.specs.State.{PlantState}
use Rattle.dr_config.specs.Table.{ConfigTable}
use Rattle.dr_model.specs.Control.{Volume, World}
use Rattle.dr_model.specs.Carry.{Entry}
use Rattle.dr_model.specs.Entries.{copy_first}
use Rattle.dr_model.specs.Log.{Log}
use Rattle.dr_model.specs.ReadStops.{Ends}
use Rattle.dr_model.specs.Refusals.{stopped}
use Rattle.dr_volume.specs.Update.{IsAsBefore}
use Rattle.dr_volume.specs.View.{Rest, volume_seen, ids_of}
use Rattle.dr_moves.specs.Fit.{RelationsFit}
use Rattle.dr_moves.specs.Here.{world_seen, armed_in, refusal_of}
use Rattle.dr_moves.specs.Made.{IsAt, Kept}
use Rattle.dr_moves.proofs.EntryLemmas.{led, failed}
use Rattle.dr_moves.proofs.KeptLemmas.{kept-then, kept-more, before-then, wider-armed}
use Rattle.dr_moves.proofs.ReadLemmas.{before-same}
use Rattle.dr_facts.proofs.Ends.{ends-wider}
use Rattle.dr_flash.specs.Heads.{id_at}
use Rattle.dr_flash.specs.Keeping.{KeptOn, KeptAll}
use Rattle.dr_flash.specs.Views.{AllShow, kept_for}
use Rattle.dr_flash.proofs.CopyLemmas.{keeps_from, keeps-next, keeps-none, id-there, kept-no_own}
use Rattle.dr_flash.proofs.HeldLemmas.{HeldBelow, SameOrHeld, held-below, same-or-held, held-all}
use Rattle.dr_flash.proofs.ShowLemmas.{show-same}

-- From s to u the volumes at the places below this one were looked at: what ends the entries that are left ends all.
pub record KeptBelow (s u : PlantState) (c : ConfigTable) (old new : Log) (v t place : ℕ) : Type 0 where
  pub left : (r : Rest) (armed : ℕ → Bool) (x : World) (e : Option Refusal) (ds : List Entry) → Ends armed x e (world_seen u c r new.events) (keeps_from c v t place ++ ds) → Ends armed x e (world_seen s c r old.events) (copy_first (ids_of c.volumes) v t ++ ds)
  pub kept : Kept s u c old new place false {E = Refusal} (Ok tt)
  pub show : AllShow s u c
  pub held : HeldBelow s u c v t place
  pub same_or_held : SameOrHeld s u c t
  pub apart : (q : ℕ) → kept_for v (volume_seen s c q).fields ≡ false → IsAsBefore s u c q

pub below-none : (s : PlantState) (c : ConfigTable) (old : Log) (v t : ℕ) → IsAt s c → KeptBelow s s c old old v t 0
below-none s c old v t at = record {
  left = λ r armed x e ds h. h;
  kept = record { at = at; aside = λ fit. fit; unarmed = λ q none. none; faults = refl; on = refl; room = omega arith; spare = refl };
  show = show-same s s c (before-same c s s refl);
  held = λ d low. absurd (omega (arith, low));
  same_or_held = λ q. inl (before-same c s s refl q);
  apart = λ q other. before-same c s s refl q;
}

module _ (s m u : PlantState) (c : ConfigTable) (old mid new : Log) (v t place : ℕ) (low : place < length c.volumes) (below : KeptBelow s m c old mid v t place) where
  abbrev here : ℕ
  here = id_at c place

  still-apart : ((p : ℕ) → kept_for v (volume_seen m c p).fields ≡ false → IsAsBefore m u c p) → (q : ℕ) → kept_for v (volume_seen s c q).fields ≡ false → IsAsBefore s u c q
  still-apart apart q other =
      let a = below.apart q other in
      before-then s m u c q a (apart q (ap (λ (x : Volume). kept_for v x.fields) a.volume ∙ other))

  -- the volume there was looked at too
  pub below-next : KeptOn m u c mid new v t here (Ok tt) → KeptBelow s u c old new v t (place + 1)
  below-next on = record {
    left = λ r armed x e ds more. below.left r armed x e ds
        (subst (λ es. Ends armed x e (world_seen m c r mid.events) (es ++ ds)) (sym (keeps-next c v t place here (id-there c place low))) (on.unseen.advances r armed x e (keeps_from c v t (place + 1) ++ ds) more));
    kept = kept-then s m u c old mid new place 2 (place + 1) (Ok tt) below.kept on.unseen.kept (let a = below.kept.room in let b = on.unseen.room_left in omega (arith, a, b));
    show = λ q k. on.unseen.show q k ∙ below.show q k;
    held = held-below s m u c v t here on.unseen.others on.held on.apart place (id-there c place low) below.same_or_held below.held;
    same_or_held = same-or-held s m u c v t here on.unseen.others on.held on.apart below.same_or_held;
    apart = still-apart on.apart;
  }

  -- or a server stopped there
  pub all-stopped : RelationsFit s c → (why : Refusal) → KeptOn m u c mid new v t here (Err why) → KeptAll s u c old new v t (Err why)
  all-stopped fit why on = record {
    leads = tt;
    fails = λ r ds. below.left r (armed_in s) (world_seen u c r new.events) (Some why) ds
        (subst (λ es. Ends (armed_in s) (world_seen u c r new.events) (Some why) (world_seen m c r mid.events) (es ++ ds)) (sym (keeps-next c v t place here (id-there c place low)))
        (ends-wider (armed_in m) (armed_in s) (wider-armed s m below.kept.unarmed) (world_seen u c r new.events) (Some why) _ _ (on.unseen.halts r (keeps_from c v t (place + 1) ++ ds))));
    refused = on.unseen.refused ∙ ap (λ (x : Volume). Some (stopped x.server)) (below.apart v (kept-no_own s c v fit)).volume;
    kept = kept-then s m u c old mid new place 2 (length c.volumes + 1) (Err why) below.kept on.unseen.kept (let a = below.kept.room in let b = on.unseen.kept.room in omega (arith, a, b, low));
    show = λ q k. on.unseen.show q k ∙ below.show q k;
    held = tt;
    apart = still-apart on.apart;
    room_left = tt;
  }

-- all were
pub all-kept : (s u : PlantState) (c : ConfigTable) (old new : Log) (v t place : ℕ) → place ≡ length c.volumes → KeptBelow s u c old new v t place → KeptAll s u c old new v t (Ok tt)
all-kept s u c old new v t place all below = record {
  leads = λ r armed x e ds more. below.left r armed x e ds (subst (λ es. Ends armed x e (world_seen u c r new.events) (es ++ ds)) (sym (keeps-none c v t place (omega (arith, all)))) more);
  fails = tt;
  refused = tt;
  kept = kept-more s u c old new place (length c.volumes + 1) (Ok tt) (omega (arith, all)) below.kept;
  show = below.show;
  held = held-all s u c v t place (omega (arith, all)) below.held;
  apart = below.apart;
  room_left = let a = below.kept.room in omega (arith, a, all);
}

-- and so copy first was carried out
pub all-carried : (s u : PlantState) (c : ConfigTable) (old new : Log) (v t : ℕ) (res : Result (Unit {0}) Refusal) → KeptAll s u c old new v t res → (r : Rest) → Ends (armed_in s) (world_seen u c r new.events) (refusal_of res) (world_seen s c r old.events) (copy_first (ids_of c.volumes) v t)
all-carried s u c old new v t (Ok x) all r = led (armed_in s) (world_seen s c r old.events) (world_seen u c r new.events) (copy_first (ids_of c.volumes) v t) (all.leads r)
all-carried s u c old new v t (Err e) all r = failed (armed_in s) (world_seen s c r old.events) (world_seen u c r new.events) (Some e) (copy_first (ids_of c.volumes) v t) (all.fails r)
