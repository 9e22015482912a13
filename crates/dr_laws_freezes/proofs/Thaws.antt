-- A thaw changes no track, wherever a server stops in it.
use Rattle.std.proofs.Common.{ℕ, ◌≡◌, refl, ◌∙◌, Bool, true, false, cond, ◌&&◌, List, [], ◌∷◌, ◌++◌, map, Option, Some, None}
use Rattle.std.proofs.lemmas.Bool.{and_parts}
use Rattle.dr_ids.specs.declared.refusal.Refusal.{Refusal}
use Rattle.dr_ids.specs.declared.refusal.Kind.TheVariants.{Lss as OfLss}
use Rattle.dr_model.specs.declared.said.Addition.TheVariants.{Alone}
use Rattle.dr_model.specs.declared.said.Said.{Said}
use Rattle.dr_model.specs.declared.said.Said.TheVariants.{Done, Refused}
use Rattle.dr_model.specs.declared.step.Devs.{Devs}
use Rattle.dr_model.specs.declared.step.Step.TheVariants.{Unfreeze}
use Rattle.dr_model.specs.Refusals.{unknown}
use Rattle.dr_model.specs.Control.{Fuse, World}
use Rattle.dr_model.specs.Moves.{Move, Thaw, tracks_after}
use Rattle.dr_model.specs.Carry.{Act, Make, EndThaw, Pass, Do, Entry}
use Rattle.dr_model.specs.Entries.{fields_at}
use Rattle.dr_model.specs.WriteEntries.{is_between, thaw_on, end_thaw, thaw_entries}
use Rattle.dr_model.specs.Plans.{Plan, entries_plan, only_says, refuses, unless, on_owner, owner_of, thaw_refusal, has_room, step_plan}
use Rattle.dr_model.specs.Runs.{carried_out, after_plan}
use Rattle.dr_model.specs.Laws.{Sound}
use Rattle.dr_model.specs.Allowed.{May, Runs}
use Rattle.dr_facts.proofs.Tables.{at_cases}
use Rattle.dr_laws_sound.proofs.Turns.{done, not_done, place, server_of, after_act, next_of, carried_in, Writes}
use Rattle.dr_laws_sound.proofs.RowsAfter.{idle, bytes-after}
use Rattle.dr_laws_sound.proofs.KeepsSound.{keeps-sound}
use Rattle.dr_laws_sound.proofs.FitsFlash.{as_begun, sound-begun}
use Rattle.dr_laws_sound.proofs.FitsHolds.{between}
use Rattle.dr_laws_sound.proofs.Along as along

module _ (old : ℕ → ℕ → List ℕ) where
  -- a sound world with these tracks
  abbrev Within : World → Type 0
  Within w = Sound w × ((v t : ℕ) → w.contents v t ≡ old v t)

  -- what a thaw does
  abbrev MayThaw : World → Move → Type 0
  MayThaw w (Thaw v) = May w (Thaw v)
  MayThaw w m = ⊥

  abbrev Thawing : World → Act → Type 0
  Thawing w (Make m) = MayThaw w m
  Thawing w (EndThaw l m) = Unit {0}
  Thawing w a = ⊥

  thaw-may : (w : World) (m : Move) → MayThaw w m → May w m
  thaw-may w (Thaw v) may = may
  thaw-may w m may = absurd may

  -- no track changes, whether or not the server stops in it
  stays : (w : World) (m : Move) → Within w → MayThaw w m → (v t : ℕ) → (done w m None).contents v t ≡ old v t
  stays w (Thaw x) s may v t =
      at_cases (λ v (c : ℕ → List ℕ). c t ≡ old v t) w.contents x (tracks_after (next_of w (Thaw x)) (carried_in w (Thaw x)) (w.contents x))
      (bytes-after w s.0.rows.images.blank (Thaw x) t ∙ s.1 x t) (λ v ne. s.1 v t) v
  stays w m s may v t = absurd may

  keeps : along.Keeps Within Within Thawing
  keeps = record {
    runs = runs;
    does = does;
    opens = λ w v s n f j may. absurd may;
    counts = λ w m f s may. (keeps-sound.counts w m f s.0 (thaw-may w m may), stays w m s may);
    fails = fails;
  }
    where
      runs : (w : World) (a : Act) → Writes a → Thawing w a → Runs w (place a)
      runs w (Make m) d may = (thaw-may w m may).runs
      runs w (EndThaw l m) d may = absurd d
      runs w a d may = absurd may

      does : (w : World) (a : Act) (f : Option Fuse) → Within w → Thawing w a → Within (after_act w a f)
      does w (Make m) f s may = (keeps-sound.does w (Make m) f s.0 (thaw-may w m may), stays w m s may)
      does w (EndThaw l m) f s may = (keeps-sound.does w (EndThaw l m) f s.0 tt, s.1)
      does w a f s may = absurd may

      fails : (w : World) (a : Act) (f : Option Fuse) → Writes a → Within w → Thawing w a → Within (not_done w (server_of w a) f)
      fails w (Make m) f d s may = (keeps-sound.fails w (Make m) f d s.0 (thaw-may w m may), s.1)
      fails w (EndThaw l m) f d s may = absurd d
      fails w a f d s may = absurd may

  module _ (l m : ℕ) where
    thaws-by : (w : World) (v : ℕ) (more : World → Type 0) → Within w → ((k : World) → Within k → more k)
        → (b : Bool) → (is_between w.control l m v && (fields_at w.control v).long_busy) ≡ b → along.along_next Within Within Thawing w (cond b (Do (Make (Thaw v))) Pass) more
    thaws-by w v more s go false is = go w s
    thaws-by w v more s go true is =
        let primary = between l m w v (and_parts (is_between w.control l m v) _ is).0 in
        (record { runs = primary.0; allowed = tt; fits = tt; group = tt; ready = idle w v s.0.queue primary.0 }, λ f y. go _ y)

    thaws : (vs : List ℕ) (w : World) → Within w → along.Along Within Within Within Thawing w (map (thaw_on l m) vs ++ end_thaw l m ∷ [])
    thaws [] w s = along.along-entry Within Within Within Thawing w (end_thaw l m) [] (Do (EndThaw l m)) refl (tt, λ f y. along.along-nil Within Within Within Thawing _ y)
    thaws (v ∷ vs) w s = along.along-entry Within Within Within Thawing w (thaw_on l m v) _ _ refl (thaws-by w v _ s (λ k y. thaws vs k y) _ refl)

  module _ (w : World) (s : Within w) where
    begins : Within (as_begun w)
    begins = (sound-begun w s.0, s.1)

    leaves : (entries : List Entry) (a : Said) → along.Along Within Within Within Thawing (as_begun w) entries → Within (carried_out w (entries_plan entries a)).0
    leaves entries a all = along.plan-keeps Within Within Thawing keeps (λ v s. s) w (entries_plan entries a) (record {
      inner = Within;
      ends = Within;
      complete = λ v s. s;
      may = Thawing;
      keeps = keeps;
      within = λ v s. s;
      begins = begins;
      entries = all;
      follows = λ q. tt;
      last = λ v i. i;
    })

    says : (a : Said) → Within (carried_out w (only_says a)).0
    says a = leaves [] a (along.along-nil Within Within Within Thawing _ begins)

    abbrev Keeps : Plan → Type 0
    Keeps p = Within (carried_out w p).0

    owned : (o : Option ℕ) (p : ℕ → Plan) → ((q : ℕ) → Keeps (p q)) → Keeps (on_owner o p)
    owned None p go = says (Refused (unknown OfLss))
    owned (Some q) p go = go q

    allowed : (r : Option Refusal) (p : Plan) → Keeps p → Keeps (unless r p)
    allowed None p go = go
    allowed (Some r) p go = says (Refused r)

    roomy : (b : Bool) (p : Plan) (r : Refusal) → Keeps p → Keeps (cond b p (refuses r))
    roomy true p r go = go
    roomy false p r go = says (Refused r)

    step : (line : ℕ) (devs : Devs) (l m : ℕ) → Keeps (step_plan w.control w.events line (Unfreeze devs l m))
    step line devs l m =
        roomy (has_room w.events) _ _
        (owned (owner_of w.control l) _ (λ q. owned (owner_of w.control m) _ (λ u. allowed (thaw_refusal w.control devs q u) _ (leaves (thaw_entries w.control.volumes l m) (Done Alone) (thaws l m w.control.volumes (as_begun w) begins)))))

pub thaw-leaves : (w : World) (line : ℕ) (devs : Devs) (l m v t : ℕ) → Sound w → (after_plan w line (step_plan w.control w.events line (Unfreeze devs l m))).contents v t ≡ w.contents v t
unfolding after_plan
thaw-leaves w line devs l m v t s = (step w.contents w (s, λ v t. refl) line devs l m).1 v t
