-- A line that arms a fuse, and a step after it: with a fuse that lets more writes pass the journal is told the same, if the step doesn't stop the server.
use Rattle.std.proofs.Common.{ℕ, ◌||◌, ◌+◌, ◌≤◌, ◌≡◌, ◌⊎◌, inl, inr, refl, ap, ◌∙◌, sym, subst, append_assoc, arith, Bool, true, false, cond, List, [], ◌∷◌, ◌++◌, Option, Some, None, Ok, nat_eq}
use Rattle.std.proofs.Math.Path.{fun_ext}
use Rattle.std.proofs.lemmas.List.Sums.{fold-append}
use Rattle.std.proofs.lemmas.Bool.{cases_eq}
use Rattle.std.proofs.lemmas.Bool.Decides.{nat_tests}
use Rattle.dr_ids.specs.declared.refusal.Refusal.{Refusal}
use Rattle.dr_ids.specs.declared.refusal.Refusal.TheVariants.{JournalFull}
use Rattle.dr_ids.specs.declared.refusal.Kind.TheVariants.{Server as OfServer}
use Rattle.dr_logic.specs.Tables.{at}
use Rattle.dr_logic.proofs.Tables.{at_same, at_other}
use Rattle.dr_model.specs.Refusals.{unknown}
use Rattle.dr_model.specs.declared.said.Said.TheVariants.{Done}
use Rattle.dr_model.specs.declared.said.Addition.TheVariants.{Alone}
use Rattle.dr_model.specs.declared.step.Name.{Name}
use Rattle.dr_model.specs.declared.step.Step.TheVariants.{Start, StopAfter}
use Rattle.dr_model.specs.declared.step.TornWord.{TornWord}
use Rattle.dr_model.specs.declared.step.TornWord.TheVariants.{Fill, Bytes}
use Rattle.dr_model.specs.Control.{Fuse, World, nothing}
use Rattle.dr_model.specs.PlanParts.{Plan, refuses}
use Rattle.dr_model.specs.Plans.{on_named, server_named, name_bytes, has_room, arm_on, armed, fuse_at_start}
use Rattle.dr_model.specs.Carried.{said, masters_lost}
use Rattle.dr_model.specs.declared.event.Event.{Event}
use Rattle.dr_model.specs.Entries.{is_at}
use Rattle.std.proofs.lemmas.List.Folds.{list_any-append}
use Rattle.dr_laws_sound.specs.Stops.{stop_in}
use Rattle.dr_laws_sound.proofs.Journal.{after_task-grows, after_tasks-grows}
use Rattle.dr_model.specs.Runs.{Task, answered_part, after_task, after_tasks, run}
use Rattle.dr_model.specs.Lines.{task}
use Rattle.dr_model.proofs.CarryLemmas.{plan-tables, plan-refuses}
use Rattle.dr_laws_fuses.specs.Fuses.{with_fuses}
use Rattle.dr_laws_fuses.specs.Laws.{told_since, tells_stop, Later, LaterBy, KeepsFuse, TearAlike, TornAlike, TearsAsFill}
use Rattle.dr_laws_fuses.proofs.Acts.{at-fuses}
use Rattle.dr_laws_fuses.proofs.Torn.{torn-alike, tears-as-fill}
use Rattle.dr_laws_fuses.proofs.Later.{unreached, told-since}

module _ (w : World) (line : ℕ) (name : Name) (writes d : ℕ) (torn other : TornWord) where
  abbrev pub one : World
  one = after_task w (task line (Ok (StopAfter name writes torn)))

  abbrev pub later : World
  later = after_task w (task line (Ok (StopAfter name (writes + d) other)))

  -- the fuse of the server was armed, in both worlds
  pub record BothArmed : Type 0 where
    pub server : ℕ
    pub named : server_named w.control (name_bytes name) ≡ Some server
    pub fuse : one.control.fuse server ≡ Some (armed writes torn)
    pub by : LaterBy server d one later

  abbrev ended : Plan → World
  ended p = answered_part line (record { world = w; plan = p })

  abbrev chosen : Bool → Option ℕ → ℕ → TornWord → Plan
  chosen b o n t = cond b (on_named o (arm_on n t)) (refuses JournalFull)

  -- the world then
  abbrev fused : ℕ → Fuse → World
  fused s f = masters_lost w (said (record w { control = record w.control { fuse = at w.control.fuse s (Some f) }; events = w.events ++ [] }) line (Done Alone))

  ends : (s n : ℕ) (t : TornWord) → ended (arm_on n t s) ≡ fused s (armed n t)
  ends s n t = ap (masters_lost w) (plan-tables w line (λ k. record k { fuse = at k.fuse s (Some (armed n t)) }) [] (Done Alone))

  -- armed anew, a fuse is the one that was armed last
  again : (s : ℕ) (f g : Fuse) → fused s g ≡ with_fuses (fused s f) (at (fused s f).control.fuse s (Some g))
  again s f g = ap (λ h. masters_lost w (said (record w { control = record w.control { fuse = h }; events = w.events ++ [] }) line (Done Alone))) (fun_ext (λ q. by q))
    where
      by : (q : ℕ) → at w.control.fuse s (Some g) q ≡ at (at w.control.fuse s (Some f)) s (Some g) q
      by q = elim (cases_eq q s) [
        | inl e ↦ ap (at w.control.fuse s (Some g)) e ∙ at_same w.control.fuse s (Some g) ∙ sym (at_same (at w.control.fuse s (Some f)) s (Some g)) ∙ ap (at (at w.control.fuse s (Some f)) s (Some g)) (sym e)
        | inr ne ↦ at_other w.control.fuse s (Some g) q ne ∙ sym (at_other w.control.fuse s (Some f) q ne) ∙ sym (at_other (at w.control.fuse s (Some f)) s (Some g) q ne)
      ]

  -- by what decides the line
  chooses : (n : ℕ) (t : TornWord) (b : Bool) (o : Option ℕ) → has_room w.events ≡ b → server_named w.control (name_bytes name) ≡ o → after_task w (task line (Ok (StopAfter name n t))) ≡ ended (chosen b o n t)
  chooses n t b o room named = ap (λ b. ended (chosen b (server_named w.control (name_bytes name)) n t)) room ∙ ap (λ o. ended (chosen b o n t)) named

  -- refused in both, or armed in both
  pub arms : (one ≡ later) ⊎ BothArmed
  arms = by (has_room w.events) (server_named w.control (name_bytes name)) refl refl
    where
      by : (b : Bool) (o : Option ℕ) → has_room w.events ≡ b → server_named w.control (name_bytes name) ≡ o → (one ≡ later) ⊎ BothArmed
      by false o full named = inl (chooses writes torn false o full named ∙ sym (chooses (writes + d) other false o full named))
      by true None room named = inl (chooses writes torn true None room named ∙ sym (chooses (writes + d) other true None room named))
      by true (Some s) room named =
          let f : Fuse = armed writes torn in
          let g : Fuse = armed (writes + d) other in
          let first : one ≡ fused s f = chooses writes torn true (Some s) room named ∙ ends s writes torn in
          let second : later ≡ fused s g = chooses (writes + d) other true (Some s) room named ∙ ends s (writes + d) other in
          let stands : (fused s f).control.fuse s ≡ Some f = at_same w.control.fuse s (Some f) in
          let both : LaterBy s d (fused s f) (fused s g) = record { fuse = Some g; is = again s f g; later = subst (λ x. Later d x (Some g)) (sym stands) refl } in
          inr (record {
            server = s;
            named = named;
            fuse = ap (λ (u : World). u.control.fuse s) first ∙ stands;
            by = subst (λ u. LaterBy s d u later) (sym first) (subst (λ v. LaterBy s d (fused s f) v) (sym second) both);
          })

  -- one step more, which the first fuse doesn't stop; if it starts that server, the fuse isn't at 0
  pub step-later : (t : Task) → ((start : Name) (s : ℕ) → t.asked ≡ Ok (Start start) → server_named one.control (name_bytes start) ≡ Some s → server_named w.control (name_bytes name) ≡ Some s → 1 ≤ writes)
      → ((s : ℕ) → server_named w.control (name_bytes name) ≡ Some s → tells_stop s (told_since one (after_task one t)) ≡ false) → (after_task later t).events ≡ (after_task one t).events
  step-later t keeps untold = by arms
    where
      by : (one ≡ later) ⊎ BothArmed → (after_task later t).events ≡ (after_task one t).events
      by (inl same) = ap (λ u. (after_task u t).events) (sym same)
      by (inr both) = elim (unreached both.server one later t d both.by kept (untold both.server both.named)) [
        | inl more ↦ ap (λ (u : World). u.events) more.is
        | inr (anew, same) ↦ ap (λ (u : World). u.events) same
      ]
        where
          kept : KeepsFuse one both.server t.asked
          kept start is named =
              let some : 1 ≤ writes = keeps start both.server is named both.named in
              let far : nat_eq writes 0 ≡ false = grind (arith, nat_tests) in
              ap fuse_at_start both.fuse ∙ ap (λ b. cond b None (Some (armed writes torn))) far ∙ sym both.fuse

  -- and the line itself tells the same
  pub arm-same : later.events ≡ one.events
  arm-same = elim arms [
    | inl same ↦ ap (λ (u : World). u.events) (sym same)
    | inr both ↦ ap (λ (u : World). u.events) both.by.is
  ]

  -- it leaves the names of servers
  pub arm-servers : one.control.servers ≡ w.control.servers
  arm-servers = by (has_room w.events) (server_named w.control (name_bytes name)) refl refl
    where
      refused : (r : Refusal) → (ended (refuses r)).control.servers ≡ w.control.servers
      refused r = ap (λ (u : World). u.control.servers) (plan-refuses w line r)

      by : (b : Bool) (o : Option ℕ) → has_room w.events ≡ b → server_named w.control (name_bytes name) ≡ o → one.control.servers ≡ w.control.servers
      by false o full named = ap (λ (u : World). u.control.servers) (chooses writes torn false o full named) ∙ refused JournalFull
      by true None room named = ap (λ (u : World). u.control.servers) (chooses writes torn true None room named) ∙ refused (unknown OfServer)
      by true (Some s) room named = ap (λ (u : World). u.control.servers) (chooses writes torn true (Some s) room named ∙ ends s writes torn)

-- a line that arms a fuse, with torn bytes that tear alike
module _ (w : World) (line : ℕ) (name : Name) (writes : ℕ) (torn other : TornWord) (alike : TearAlike (Some (armed writes torn)) (Some (armed writes other))) where
  pub arms-torn : TornAlike (after_task w (task line (Ok (StopAfter name writes torn)))) (after_task w (task line (Ok (StopAfter name writes other))))
  arms-torn = by (has_room w.events) (server_named w.control (name_bytes name)) refl refl
    where
      same : (f : Option Fuse) → TearAlike f f
      same None = tt
      same (Some f) = (refl, λ new. refl)

      equal : (u v : World) → u ≡ v → TornAlike u v
      equal u v e = record { fuse = u.control.fuse; is = sym e; alike = λ s. same (u.control.fuse s) }

      chosen-one : (t : TornWord) (b : Bool) (o : Option ℕ) → has_room w.events ≡ b → server_named w.control (name_bytes name) ≡ o → after_task w (task line (Ok (StopAfter name writes t))) ≡ ended w line name writes 0 torn other (chosen w line name writes 0 torn other b o writes t)
      chosen-one t b o room named = chooses w line name writes 0 torn other writes t b o room named

      by : (b : Bool) (o : Option ℕ) → has_room w.events ≡ b → server_named w.control (name_bytes name) ≡ o → TornAlike (after_task w (task line (Ok (StopAfter name writes torn)))) (after_task w (task line (Ok (StopAfter name writes other))))
      by false o full named = equal _ _ (chosen-one torn false o full named ∙ sym (chosen-one other false o full named))
      by true None room named = equal _ _ (chosen-one torn true None room named ∙ sym (chosen-one other true None room named))
      by true (Some s) room named =
          let f : Fuse = armed writes torn in
          let g : Fuse = armed writes other in
          let first : after_task w (task line (Ok (StopAfter name writes torn))) ≡ fused w line name writes 0 torn other s f = chosen-one torn true (Some s) room named ∙ ends w line name writes 0 torn other s writes torn in
          let second : after_task w (task line (Ok (StopAfter name writes other))) ≡ fused w line name writes 0 torn other s g = chosen-one other true (Some s) room named ∙ ends w line name writes 0 torn other s writes other in
          subst (λ u. TornAlike u (after_task w (task line (Ok (StopAfter name writes other))))) (sym first) (subst (λ v. TornAlike (fused w line name writes 0 torn other s f) v) (sym second)
          (record { fuse = at w.control.fuse s (Some g); is = refl; alike = at-fuses (λ q. TearAlike) w.control.fuse w.control.fuse s (Some f) (Some g) (λ q. same (w.control.fuse q)) alike }))

-- A run with any torn bytes comes to what one comes to whose block is filled with 00 or with 01, but for that fuse.
run-on : (before : List Task) (t : Task) (rest : List Task) → run (before ++ t ∷ rest) ≡ after_tasks (after_task (run before) t) rest
unfolding after_tasks
run-on before t rest = fold-append after_task nothing before (t ∷ rest)

pub any-torn : (before rest : List Task) (line : ℕ) (name : Name) (writes : ℕ) (bytes : List ℕ)
    → (let leads : TornWord → World = λ torn. run (before ++ task line (Ok (StopAfter name writes torn)) ∷ rest) in TornAlike (leads (Bytes bytes)) (leads (Fill 0)) ⊎ TornAlike (leads (Bytes bytes)) (leads (Fill 1)))
any-torn before rest line name writes bytes = by (tears-as-fill writes bytes)
  where
    leads : TornWord → World
    leads torn = run (before ++ task line (Ok (StopAfter name writes torn)) ∷ rest)

    filled : (fill : TornWord) → TearAlike (Some (armed writes (Bytes bytes))) (Some (armed writes fill)) → TornAlike (run (before ++ task line (Ok (StopAfter name writes (Bytes bytes))) ∷ rest)) (run (before ++ task line (Ok (StopAfter name writes fill)) ∷ rest))
    filled fill alike =
        subst (λ u. TornAlike u (run (before ++ task line (Ok (StopAfter name writes fill)) ∷ rest))) (sym (run-on before (task line (Ok (StopAfter name writes (Bytes bytes)))) rest))
        (subst (λ v. TornAlike (after_tasks (after_task (run before) (task line (Ok (StopAfter name writes (Bytes bytes))))) rest) v) (sym (run-on before (task line (Ok (StopAfter name writes fill))) rest))
        (torn-alike rest _ _ (arms-torn (run before) line name writes (Bytes bytes) fill alike)))

    by : TearsAsFill writes bytes → TornAlike (leads (Bytes bytes)) (leads (Fill 0)) ⊎ TornAlike (leads (Bytes bytes)) (leads (Fill 1))
    by (inl zeros) = inl (filled (Fill 0) zeros)
    by (inr ones) = inr (filled (Fill 1) ones)

-- ---- several steps

-- no step of these starts a server
abbrev pub StartNone : List Task → Type 0
StartNone [] = Unit {0}
StartNone (t ∷ ts) = ((name : Name) → t.asked ≡ Ok (Start name) → ⊥) × StartNone ts

-- if they don't stop the server, the journal is told the same with the later fuse
pub steps-later : (s d : ℕ) (ts : List Task) (w v : World) → LaterBy s d w v → StartNone ts → tells_stop s (told_since w (after_tasks w ts)) ≡ false → (after_tasks v ts).events ≡ (after_tasks w ts).events
unfolding after_tasks
steps-later s d [] w v apart none untold = ap (λ (u : World). u.events) apart.is
steps-later s d (t ∷ ts) w v apart none untold =
    let u : World = after_task w t in
    let one = after_task-grows w t in
    let rest = after_tasks-grows u ts in
    let all : (after_tasks u ts).events ≡ w.events ++ (one.0 ++ rest.0) = rest.1 ∙ ap (λ es. es ++ rest.0) one.1 ∙ append_assoc w.events one.0 rest.0 in
    let both : tells_stop s (one.0 ++ rest.0) ≡ false = sym (ap (tells_stop s) (told-since w (after_tasks u ts) (one.0 ++ rest.0) all)) ∙ untold in
    let first : tells_stop s (told_since w u) ≡ false = ap (tells_stop s) (told-since w u one.0 one.1) ∙ (none-both s one.0 rest.0 both).0 in
    let second : tells_stop s (told_since u (after_tasks u ts)) ≡ false = ap (tells_stop s) (told-since u (after_tasks u ts) rest.0 rest.1) ∙ (none-both s one.0 rest.0 both).1 in
    elim (unreached s w v t d apart (λ start is named. absurd (none.0 start is)) first) [
      | inl more ↦ steps-later s d ts u (after_task v t) more none.1 second
      | inr (anew, same) ↦ ap (λ (x : World). (after_tasks x ts).events) same
    ]
  where
    none-both : (s : ℕ) (es fs : List Event) → tells_stop s (es ++ fs) ≡ false → (tells_stop s es ≡ false) × (tells_stop s fs ≡ false)
    none-both s es fs none = by (tells_stop s es) (tells_stop s fs) (sym (list_any-append (λ e. is_at (stop_in e) s) es fs) ∙ none)
      where
        by : (a b : Bool) → (a || b) ≡ false → (a ≡ false) × (b ≡ false)
        by true b h = absurd cc
        by false b h = (refl, h)

-- after a line that arms a fuse
module _ (w : World) (line : ℕ) (name : Name) (writes d : ℕ) (torn other : TornWord) (ts : List Task) (none : StartNone ts) where
  pub arm-steps : ((s : ℕ) → server_named w.control (name_bytes name) ≡ Some s → tells_stop s (told_since (one w line name writes d torn other) (after_tasks (one w line name writes d torn other) ts)) ≡ false)
      → (after_tasks (later w line name writes d torn other) ts).events ≡ (after_tasks (one w line name writes d torn other) ts).events
  arm-steps untold = elim (arms w line name writes d torn other) [
    | inl same ↦ ap (λ u. (after_tasks u ts).events) (sym same)
    | inr both ↦ steps-later both.server d ts (one w line name writes d torn other) (later w line name writes d torn other) both.by none (untold both.server both.named)
  ]
