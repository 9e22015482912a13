-- A step of a line that wants memory.
use Rattle.std.proofs.Common.{ℕ, ◌≡◌, ◌<◌, ◌+◌, List, length, refl, ap, ◌∙◌, sym, subst, arith, nat_le, true, Some, Ok, Err, Result, inl, inr}
use Rattle.std.specs.Prelude.{slice_get}
use Rattle.std.specs.Option.{option_map}
use Rattle.std.proofs.lemmas.Bool.{le-leb}
use Rattle.std.proofs.lemmas.Option.{slice_get-map}
use Rattle.dr_model.specs.Control.{World}
use Rattle.dr_model.specs.declared.event.Event.{Event}
use Rattle.dr_model.specs.declared.step.Step.{Step}
use Rattle.dr_model.specs.Limits.{most_events}
use Rattle.dr_model.specs.Lines.{task, tasks_read}
use Rattle.dr_model.specs.Log.{memory_for}
use Rattle.dr_model.proofs.MemoryLemmas.{memory-grows}
use Rattle.dr_steps.specs.Wants.{WantsMemory, room_taken}
use Rattle.dr_top.specs.Followed.{StepWants}

less : (len spare n : ℕ) → memory_for (len + spare) < n → memory_for len < n
less len spare n lt = let le = memory-grows len (len + spare) (omega arith) in omega (arith, le, lt)

-- whatever is spare, the memory is for the events at least
wants-less : (w : World) (asked : Result Step ℕ) (spare : ℕ) → WantsMemory w asked (length w.events + spare) → WantsMemory w asked (length w.events)
wants-less w asked spare wants = record {
  room = wants.room;
  asks = elim wants.asks [ inl grows ↦ inl (less (length w.events) spare (memory_for (length w.events + room_taken asked w.events)) grows) | inr row ↦ inr row ];
}

pub step-wants : (number : ℕ) (steps : List Step) (i : ℕ) (s : Step) (w : World) (spare : ℕ) → slice_get steps i ≡ Some s → WantsMemory w (Ok s) (length w.events + spare) → StepWants i (tasks_read number (Ok steps)) w
step-wants number steps i s w spare at wants = record {
  task = task number (Ok s);
  next = slice_get-map (λ (s : Step). task number (Ok s)) steps i ∙ ap (option_map (λ (s : Step). task number (Ok s))) at;
  wants = wants-less w (Ok s) spare wants;
}

one-more : (n m : ℕ) → n < m → nat_le (n + 1) m ≡ true
one-more n m lt = le-leb (n + 1) m (omega (arith, lt))

-- the answer to a line outside the grammar
pub fault-wants : (number column : ℕ) (w : World) (events : List Event) (spare : ℕ) → w.events ≡ events → length events < most_events → (length events < most_events → memory_for (length events + spare) < memory_for (length events + 1))
    → StepWants 0 (tasks_read number (Err column)) w
fault-wants number column w events spare is below grows = record {
  task = task number (Err column);
  next = refl;
  wants = subst (λ (es : List Event). WantsMemory (record w { events = es }) (Err column) (length es)) (sym is) (record {
    room = one-more (length events) most_events below;
    asks = inl (less (length events) spare (memory_for (length events + 1)) (grows below));
  });
}
