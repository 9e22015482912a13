-- What starting a server comes to: its volumes write their staged tracks to their places and go on, and a write is
-- acknowledged.
use Rattle.std.proofs.Common.{ℕ, ◌≡◌, ◌≢◌, ◌<◌, ◌≤◌, ◌+◌, inl, inr, List, [], ◌∷◌, ◌++◌, length, slice_get, refl, ap, ◌∙◌, sym, subst, arith, Bool, true, false, ◌&&◌, cond, nat_eq, Option, Some, None}
use Rattle.std.specs.Prelude.{option_map, Result, Ok, Err, if◌then◌else◌}
use Rattle.std.proofs.lemmas.Bool.Decides.{eqb_tells}
use Rattle.std.proofs.lemmas.List.{drop_all, append_assoc}
use Rattle.dr_logic.specs.Tables.{at}
use Rattle.dr_ids.specs.declared.refusal.Refusal.{Refusal}
use Rattle.dr_plant.specs.State.{PlantState, started, started_read, started_write}
use Rattle.dr_plant.specs.declared.plant.WriteFuse.{WriteFuse}
use Rattle.dr_config.specs.Table.{ConfigTable, StandsFor}
use Rattle.dr_config.specs.declared.entries.VolumeEntry.{VolumeEntry}
use Rattle.dr_host.specs.Here.{here, rest_of}
use Rattle.dr_host.specs.Writes as writes
use Rattle.dr_host.specs.Writes.{Writes, has_owner, without}
use Rattle.dr_host.proofs.Seen.{seen-landed}
use Rattle.dr_model.specs.declared.event.Event.{Event}
use Rattle.dr_model.specs.declared.event.Event.TheVariants.{Started}
use Rattle.dr_model.specs.declared.said.Addition.TheVariants.{Alone}
use Rattle.dr_model.specs.declared.said.Said.TheVariants.{Done, Refused}
use Rattle.dr_model.specs.Control.{World}
use Rattle.dr_model.specs.Carry.{Entry, Do, Pass, Make, Redo, Acknowledge}
use Rattle.dr_model.specs.Messages as messages
use Rattle.dr_model.specs.ReadStops.{Ends}
use Rattle.dr_model.specs.Plans.{Plan, only_says, landed_on, acknowledge_if, acknowledge_on, says_acked, fuse_at_start, starting, start_plan, start_on}
use Rattle.dr_model.specs.Entries.{fields_at}
use Rattle.dr_model.specs.Moves.{Restart}
use Rattle.dr_model.specs.Pairs.{must_restart}
use Rattle.dr_model.specs.WriteEntries.{redo_on, restart_on, start_entries}
use Rattle.dr_volume.specs.View.{Rest, with_flight, ids_of, fuses_seen, fuse_seen}
use Rattle.dr_volume.proofs.WorldLaws.{on-at, on-seen, fuses-at, fuse-seen}
use Rattle.dr_moves.specs.Here.{world_seen, armed_in, IsAtRest}
use Rattle.dr_moves.specs.Turns.{Advances, Halts}
use Rattle.dr_flash.proofs.CopyLemmas.{ids-next}
use Rattle.dr_moves.proofs.KeptLemmas.{wider-armed}
use Rattle.dr_facts.proofs.Ends.{ends-none, ends-skips, ends-wider}
use Rattle.dr_moves.specs.Ready.{Stayed}
use Rattle.dr_model.specs.Log.{Log}
use Rattle.dr_logic.specs.Counts.{Counted}
use Rattle.dr_admin.specs.Answering.{Comes}
use Rattle.dr_admin.specs.Starting.{start_from, start_events, acks, without_acked}
use Rattle.dr_admin.proofs.OwnerLemmas.{belongs-seen}
use Rattle.dr_logic.proofs.Tables.{at_same, at_other}

-- what a volume writes to its place
module _ (s : PlantState) (t : ConfigTable) (r : Rest) (ev : List Event) (v server : ℕ) where
  abbrev w : World
  w = world_seen s t r ev

  -- what is looked at first is the volume
  entry_is : (b : Bool) → has_owner t v server ≡ b → redo_on server v w.control ≡ (if b then Do (Redo v) else Pass)
  entry_is b owned = ap (λ b. if b then Do (Redo v) else Pass) (belongs-seen s t r ev v server ∙ owned)

  pub redo-comes : has_owner t v server ≡ true → redo_on server v w.control ≡ Do (Redo v)
  redo-comes owned = entry_is true owned

  -- a volume of another server is passed over
  pub others-skip : (armed : ℕ → Bool) (u : World) (q : Option Refusal) (rest : List Entry) → has_owner t v server ≡ false → Ends armed u q w rest → Ends armed u q w (redo_on server v ∷ restart_on server v ∷ rest)
  others-skip armed u q rest other more =
      ends-skips armed u q w (redo_on server v) (restart_on server v ∷ rest) (entry_is false other)
      (ends-skips armed u q w (restart_on server v) rest (ap (λ b. if b && must_restart (fields_at w.control v) then Do (Make (Restart v)) else Pass) (belongs-seen s t r ev v server ∙ other)) more)

-- a volume's two entries come first of what is left
module _ (t : ConfigTable) (v server place : ℕ) (at : Some v ≡ option_map (λ (x : VolumeEntry). x.id) (slice_get t.volumes place)) (more : List Entry) where
  abbrev behind : List Entry
  behind = start_from t server (place + 1) ++ more

  next_is : start_from t server place ++ more ≡ redo_on server v ∷ restart_on server v ∷ behind
  next_is = ap (λ vs. start_entries server vs ++ more) (ids-next t place v at)

  pub started-skip : (s : PlantState) (r : Rest) (ev : List Event) (armed : ℕ → Bool) (u : World) (q : Option Refusal) → has_owner t v server ≡ false → Ends armed u q (world_seen s t r ev) behind → Ends armed u q (world_seen s t r ev) (start_from t server place ++ more)
  started-skip s r ev armed u q other ends = subst (Ends armed u q (world_seen s t r ev)) (sym next_is) (others-skip s t r ev v server armed u q behind other ends)

  -- it wrote its track, and went on
  pub started-goes : (w w1 w2 : World) → Advances w (redo_on server v) w1 → Advances w1 (restart_on server v) w2 → (armed : ℕ → Bool) (u : World) (q : Option Refusal) → Ends armed u q w2 behind → Ends armed u q w (start_from t server place ++ more)
  started-goes w w1 w2 first second armed u q ends = subst (Ends armed u q w) (sym next_is) (first armed u q (restart_on server v ∷ behind) (second armed u q behind ends))

  -- its server stopped as it wrote its track, or as it went on
  pub started-fails : (armed : ℕ → Bool) (w u : World) (q : Option Refusal) → Halts armed w (redo_on server v) u q → Ends armed u q w (start_from t server place ++ more)
  started-fails armed w u q ends = subst (Ends armed u q w) (sym next_is) (ends (restart_on server v ∷ behind))

  pub started-stops : (s s1 : PlantState) (w w1 u : World) (q : Option Refusal) → ((n : ℕ) → s.read_fuse n ≡ None → s1.read_fuse n ≡ None) → Advances w (redo_on server v) w1 → Halts (armed_in s1) w1 (restart_on server v) u q
      → Ends (armed_in s) u q w (start_from t server place ++ more)
  started-stops s s1 w w1 u q unarmed first ends =
      subst (Ends (armed_in s) u q w) (sym next_is)
      (first (armed_in s) u q (restart_on server v ∷ behind) (ends-wider (armed_in s1) (armed_in s) (wider-armed s s1 unarmed) u q w1 (restart_on server v ∷ behind) (ends behind)))

-- no volume is left
pub started-all : (t : ConfigTable) (server place : ℕ) → length t.volumes ≤ place → start_from t server place ≡ []
started-all t server place all = ap (λ es. start_entries server (ids_of es)) (drop_all place t.volumes all)

-- ---- what stays on the way

-- in more room
roomy : (mid old new few most : ℕ) → few ≤ most → mid ≡ old → mid ≤ new + few → old ≤ new + most
roomy mid old new few most le same h = omega (arith, le, same, h)

-- what stays along two calls in a row, where the first told nothing
pub stayed-then : (s m u : PlantState) (t : ConfigTable) (old mid new : Log) (server a few most : ℕ) (res : Result (Unit {0}) Refusal) → few ≤ most → mid ≡ old → Stayed s m t old mid server a {E = Refusal} (Ok tt) → Stayed m u t mid new server few res → Stayed s u t old new server most res
stayed-then s m u t old mid new server a few most (Ok x) le silent first second = record {
  stands = second.stands;
  unarmed = λ q none. second.unarmed q (first.unarmed q none);
  faults = second.faults ∙ first.faults;
  on = second.on ∙ first.on;
  off = tt;
  room = roomy mid.spare old.spare new.spare few most le (ap (λ (j : Log). j.spare) silent) second.room;
  spare = second.spare ∙ first.spare;
}
stayed-then s m u t old mid new server a few most (Err e) le silent first second = record {
  stands = second.stands;
  unarmed = λ q none. second.unarmed q (first.unarmed q none);
  faults = let same : m.faults ≡ s.faults = first.faults in subst (λ n. Counted true n u.faults) same second.faults;
  on = tt;
  off = second.off;
  room = roomy mid.spare old.spare new.spare few most le (ap (λ (j : Log). j.spare) silent) second.room;
  spare = second.spare ∙ first.spare;
}

-- where nothing was done
pub stayed-same : (s : PlantState) (t : ConfigTable) (j : Log) (server most : ℕ) → StandsFor t s → Stayed s s t j j server most {E = Refusal} (Ok tt)
stayed-same s t j server most stands = record {
  stands = stands;
  unarmed = λ q none. none;
  faults = refl;
  on = refl;
  off = tt;
  room = omega arith;
  spare = refl;
}

-- what holds of one volume and of all others holds of each
pub of-each : (P : ℕ → Type 0) (v : ℕ) → P v → ((u : ℕ) → u ≢ v → P u) → (u : ℕ) → P u
of-each P v here there u = elim (eqb_tells u v) [ inl p ↦ subst P (sym p.1) here | inr p ↦ there u p.1 ]

-- ---- a server is turned on

-- all is at rest then, as before
pub rest-started : (s u : PlantState) (t : ConfigTable) (server : ℕ) → u ≡ started s server → IsAtRest s t → IsAtRest u t
unfolding started
rest-started s u t server is rest = subst (λ (x : PlantState). IsAtRest x t) (sym is) (record { stands = record { count = rest.stands.count; device = rest.stands.device }; sizes = rest.sizes })

-- it arms no read fuse
pub started-unarmed : (s u : PlantState) (server q : ℕ) → u ≡ started s server → s.read_fuse q ≡ None → u.read_fuse q ≡ None
unfolding started
started-unarmed s u server q is none =
    ap (λ (x : PlantState). x.read_fuse q) is
    ∙ elim (eqb_tells q server) [
      | inl p ↦ ap (started s server).read_fuse p.1 ∙ at_same s.read_fuse server (started_read (s.read_fuse server)) ∙ ap started_read (ap s.read_fuse (sym p.1) ∙ none)
      | inr p ↦ at_other s.read_fuse server (started_read (s.read_fuse server)) q p.1 ∙ none
    ]

-- it is no fault
pub started-faults : (s u : PlantState) (server : ℕ) → u ≡ started s server → u.faults ≡ s.faults
unfolding started
started-faults s u server is = ap (λ (x : PlantState). x.faults) is

-- and no other server is turned on
pub started-on : (s u : PlantState) (server : ℕ) → u ≡ started s server → u.on ≡ at s.on server true
unfolding started
started-on s u server is = ap (λ (x : PlantState). x.on) is

-- a fuse that stands at 0 goes when its server starts
started-fuse : (f : Option WriteFuse) → fuse_seen (started_write f) ≡ fuse_at_start (fuse_seen f)
started-fuse None = refl
started-fuse (Some f) = elim (nat_eq f.after 0) as (λ b. fuse_seen (cond (cond b false true) (Some f) None) ≡ cond b None (fuse_seen (Some f))) [ true ↦ refl | false ↦ refl ]

-- the machine's state then
started-here : (s : PlantState) (t : ConfigTable) (r : Rest) (ev mid : List Event) (server : ℕ) → server < 8 → mid ≡ ev ++ Started server ∷ []
    → record (world_seen s t r ev) { control = starting server (world_seen s t r ev).control; events = ev ++ Started server ∷ [] } ≡ world_seen (started s server) t (with_flight (messages.started server r.flight) r) mid
unfolding started
started-here s t r ev mid server low told i =
    let w : World = world_seen s t r ev in
    record w {
      control = record w.control {
        on = sym (on-at s (started s server) server true low refl) i;
        fuse = (ap (λ f. at (fuses_seen s) server (fuse_at_start f)) (fuse-seen s server low) ∙ ap (at (fuses_seen s) server) (sym (started-fuse (s.write_fuse server))) ∙ sym (fuses-at s (started s server) server (started_write (s.write_fuse server)) low refl)) i;
        flight = messages.started server r.flight;
      };
      events = sym told i;
    }

-- ---- the write that is acknowledged

module _ (s : PlantState) (t : ConfigTable) (r : Rest) (h : Writes) (ev : List Event) (server : ℕ) where
  abbrev x : World
  x = here s t r h ev

  pub landed-here : writes.landed_on t server h.pending ≡ landed_on x.control server
  landed-here = seen-landed t x.control server h.pending refl (λ v. belongs-seen s t (rest_of r h ev) ev v server)

  pub acked-none : (armed : ℕ → Bool) → writes.landed_on t server h.pending ≡ None → Ends armed x None x (acknowledge_on server ∷ [])
  acked-none armed none = ends-skips armed x None x (acknowledge_on server) [] (ap acknowledge_if (sym landed-here ∙ none)) (ends-none armed x None x (record { world = refl; refusal = refl }))

  pub acked-comes : (n : ℕ) → writes.landed_on t server h.pending ≡ Some n → acknowledge_on server x.control ≡ Do (Acknowledge n)
  acked-comes n one = ap acknowledge_if (sym landed-here ∙ one)

  -- ---- the plan of a start

  plan-off : server < 8 → s.on server ≡ false → start_on x.control server ≡ start_plan x.control server
  plan-off low off = ap (λ b. cond b (only_says (Done Alone)) (start_plan x.control server)) (on-seen s server low ∙ off)

  -- how it went
  module _ (low : server < 8) (off : s.on server ≡ false) (mid : List Event) (told : mid ≡ ev ++ Started server ∷ []) (u : World) where
    abbrev entries : List Entry
    entries = start_from t server 0 ++ acknowledge_on server ∷ []

    -- as the entries begin
    abbrev begins_in : World
    begins_in = here (started s server) t (with_flight (messages.started server r.flight) r) h mid

    begins : (armed : ℕ → Bool) (q : Option Refusal) → Ends armed u q begins_in entries → Ends armed u q (record x { control = starting server x.control; events = ev ++ Started server ∷ [] }) entries
    begins armed q ends = subst (λ (y : World). Ends armed u q y entries) (sym (started-here s t (rest_of r h ev) ev mid server low told)) ends

    pub comes-done : (armed : ℕ → Bool) (a : Option ℕ) → Ends armed u None begins_in entries → a ≡ writes.landed_on t server h.pending → Comes armed x (start_on x.control server) u (says_acked a)
    comes-done armed a ends is = subst (λ (p : Plan). Comes armed x p u (says_acked a)) (sym (plan-off low off)) (record {
      refusal = None;
      carried = begins armed None ends;
      tables = refl;
      alone = λ q. refl;
      answer = ap says_acked (sym (is ∙ landed-here));
    })

    pub comes-failed : (armed : ℕ → Bool) (why : Refusal) → Ends armed u (Some why) begins_in entries → Comes armed x (start_on x.control server) u (Refused why)
    comes-failed armed why ends = subst (λ (p : Plan). Comes armed x p u (Refused why)) (sym (plan-off low off)) (record {
      refusal = Some why;
      carried = begins armed (Some why) ends;
      tables = refl;
      alone = λ q. refl;
      answer = refl;
    })

-- ---- what is told

pub told-both : (server : ℕ) (a : Option ℕ) (ev mid now : List Event) → mid ≡ ev ++ Started server ∷ [] → now ≡ mid ++ acks a → now ≡ ev ++ start_events server a
told-both server a ev mid now first second = second ∙ ap (λ es. es ++ acks a) first ∙ append_assoc ev (Started server ∷ []) (acks a)

-- a start issues no write
pub issued-without : (a : Option ℕ) (h h' : Writes) → h' ≡ without_acked a h → h'.issued ≡ h.issued
issued-without None h h' is = ap (λ (x : Writes). x.issued) is
issued-without (Some n) h h' is = ap (λ (x : Writes). x.issued) is
