-- A pending write carried out: its checks, how it waits or goes on, what it leaves, and what follows a stop.
use Rattle.std.proofs.Common.{ℕ, ◌≡◌, Bool, true, false, not, ◌&&◌, ◌||◌, cond, nat_eq, List, [], ◌∷◌, ◌++◌, refl, sym, ◌∙◌, ap, subst, Option, None, Some}
use Rattle.std.specs.Prelude.{if◌then◌else◌, is_some, Result, Ok, Err, OnOk, OnErr, is_err}
use Rattle.std.specs.Result.{IfOk}
use Rattle.std.specs.Option.{option_or}
use Rattle.std.specs.FinSet.{contains, insert}
use Rattle.std.proofs.lemmas.Bool.{and_parts, or_right, and_right}
use Rattle.dr_logic.specs.Counts.{Counted}
use Rattle.dr_bits.proofs.Laws.{contains-insert_tracks}
use Rattle.dr_ids.specs.declared.refusal.Refusal.{Refusal}
use Rattle.dr_ids.specs.declared.refusal.Refusal.TheVariants.{Stopped, NotPrimary, Inhibited}
use Rattle.dr_model.specs.declared.state.Part.{Part}
use Rattle.dr_model.specs.declared.state.Part.TheVariants.{Global}
use Rattle.dr_model.specs.Layout.{Tracks, Fields, is_part}
use Rattle.dr_model.specs.Control.{Control, World}
use Rattle.dr_model.specs.Refusals.{server_off}
use Rattle.dr_model.specs.Relations.{closed, fetched, rewritten}
use Rattle.dr_model.specs.Pairs.{written, is_kind, is_metro, is_suspended, is_cascaded, held, goes_over, collides}
use Rattle.dr_model.specs.Moves.{Suspend}
use Rattle.dr_model.specs.Carry.{Entry, Stretch, Pass, Do, Make, Drop, dropped, check, now}
use Rattle.dr_model.specs.Entries.{fields_at, land_alone, is_running, is_no_secondary, is_open, is_settled, relation_state, drop_unless, check_or_drop, write_checks}
use Rattle.dr_model.specs.WriteEntries.{partner_of, is_grouped, is_parted, land_parted, land_mirrored, land_fed, land_collided, waits, part_running, part_after}
use Rattle.dr_model.specs.ReadStops.{Ends}
use Rattle.dr_host.specs.Writes.{Writes}
use Rattle.dr_moves.specs.Checks.{OnNone, is_stop}
use Rattle.dr_moves.specs.Here.{refusal_of}
use Rattle.dr_flash.specs.HostWrites.{write_refusal}
use Rattle.dr_facts.proofs.Ends.{ends-skips, ends-goes, ends-passed, ends-refused}
use Rattle.dr_moves.specs.Followed.{EndsEach, Follows}
use Rattle.dr_metro.specs.Here.{IsTold}
use Rattle.dr_metro.specs.Landing.{landed}
use Rattle.dr_metro.specs.Syncing.{over_entries, sent_stretches, fed_stretches, placed_stretches, parts, stretches_by, waits_by}
use Rattle.dr_metro.proofs.ToldLemmas.{told-through}
use Rattle.dr_logic.proofs.Results.{ok-two}
use Rattle.dr_logic.proofs.Truth.{false_true}
use Rattle.dr_model.proofs.CarryLemmas.{act-drop}

-- what follows a stop, by what is known of the primary
pub absent-part : (v : ℕ) (k : Control) → is_part (fields_at k v).primary ≡ false → part_running v k ≡ Pass
absent-part v k absent = ap (λ b. cond (b && is_running v k) (Do (Make (Suspend v (is_grouped k v (partner_of k v))))) Pass) absent

pub off-part : (v : ℕ) (k : Control) → is_running v k ≡ false → part_running v k ≡ Pass
off-part v k off = ap (λ b. cond b (Do (Make (Suspend v (is_grouped k v (partner_of k v))))) Pass) (and_right (is_part (fields_at k v).primary) (is_running v k) off)

pub on-part : (v : ℕ) (k : Control) (busy : Bool) → is_part (fields_at k v).primary ≡ true → is_running v k ≡ true → busy ≡ is_grouped k v (partner_of k v) → part_running v k ≡ now (Suspend v busy) k
on-part v k busy part on is = (λ i. cond (part i && on i) (Do (Make (Suspend v (sym is i)))) Pass)

-- what follows issues no write
told-each : (armed : ℕ → Bool) (h : Writes) (v u : World) (es : List Entry) → EndsEach armed v es u → IsTold h v.events → IsTold h u.events
told-each armed h v u [] same told = subst (λ (x : World). IsTold h x.events) (sym same) told
told-each armed h v u (d ∷ ds) f told = let first = f.first in told-each armed h f.middle u ds f.later (told-through armed h v f.middle (d ∷ []) first.refusal first.ends told)

pub told-followed : (armed : ℕ → Bool) (h : Writes) (v u : World) (r : Option Refusal) (follows : List Entry) → Follows armed v r follows u → IsTold h v.events → IsTold h u.events
told-followed armed h v u (Some (Stopped s)) follows f told = told-each armed h v u follows f told
told-followed armed h v u r follows f told = subst (λ (x : World). IsTold h x.events) (sym f) told

-- a landing leaves the state of the pair as it was, and a track that is out of sync stays so
pub state-landed : (n : ℕ) (f : Fields) (t : ℕ) → (landed n f t).primary_state ≡ f.primary_state
state-landed n f t = by f.related
  where
    by : (b : Bool) → (if b then closed n (rewritten (fetched f t) t) else written f t).primary_state ≡ f.primary_state
    by true = refl
    by false = refl

stays_in : (part : Bool) (s : Tracks) (t : ℕ) → contains s t ≡ true → contains (if part then insert s t else s) t ≡ true
stays_in true s t h = contains-insert_tracks s t t ∙ or_right (nat_eq t t) (contains s t) h
stays_in false s t h = h

pub out-landed : (n : ℕ) (f : Fields) (t : ℕ) → contains f.out_of_sync t ≡ true → contains (landed n f t).out_of_sync t ≡ true
out-landed n f t out = by f.related
  where
    by : (b : Bool) → contains (if b then closed n (rewritten (fetched f t) t) else written f t).out_of_sync t ≡ true
    by true = out
    by false = stays_in (is_part f.primary && not f.recording) f.out_of_sync t out

-- so a write that lands alone on a Metro Mirror primary leaves nothing that its secondary would have to have
pub nothing-mirrored : {P : Type 0} (n : ℕ) (f g : Fields) (t : ℕ) → g ≡ landed n f t → is_metro f.primary ≡ true → goes_over f t ≡ false → contains g.out_of_sync t ≡ false → is_suspended g.primary_state ≡ false → P
nothing-mirrored {P = P} n f g t is metro stays in_sync active =
    by (is_suspended f.primary_state) (contains f.out_of_sync t) refl refl (sym (ap (λ b. b && (not (is_suspended f.primary_state) && not (contains f.out_of_sync t))) metro) ∙ stays)
  where
    by : (s o : Bool) → is_suspended f.primary_state ≡ s → contains f.out_of_sync t ≡ o → (not s && not o) ≡ false → P
    by true o susp out h = (false_true active (ap (λ (x : Fields). is_suspended x.primary_state) is ∙ ap is_suspended (state-landed n f t) ∙ susp))
    by false true susp out h = (false_true in_sync (ap (λ (x : Fields). contains x.out_of_sync t) is ∙ out-landed n f t out))
    by false false susp out h = absurd cc

-- what the entries of a write are, and whether it waits, by the tests on its volume's fields
module _ (k : Control) (f : Fields) (n v t : ℕ) where
  abbrev u : ℕ
  u = f.primary_partner

  abbrev over : List Entry
  over = over_entries k.volumes (parts k v u) (is_grouped k v u) n v t u

  -- by whether it waits, goes over and collides
  abbrev by : Bool → Bool → Bool → List Stretch
  by waits goes meets =
      if not waits && (not goes && meets) then sent_stretches k.volumes n v t u
      else record { entries = if waits then [] else if goes then over else land_alone k.volumes n v t; follows = part_after v } ∷ []

  pub held-stretches : held f ≡ true → stretches_by k f n v t ≡ record { entries = []; follows = part_after v } ∷ []
  held-stretches is = λ i. by (is i) (goes_over f t) (collides f t)

  pub over-stretches : held f ≡ false → goes_over f t ≡ true → stretches_by k f n v t ≡ record { entries = over; follows = part_after v } ∷ []
  over-stretches free goes = λ i. by (free i) (goes i) (collides f t)

  pub sent-stretches : held f ≡ false → goes_over f t ≡ false → collides f t ≡ true → stretches_by k f n v t ≡ sent_stretches k.volumes n v t u
  sent-stretches free goes meets = λ i. by (free i) (goes i) (meets i)

  pub alone-stretches : held f ≡ false → goes_over f t ≡ false → collides f t ≡ false → stretches_by k f n v t ≡ record { entries = land_alone k.volumes n v t; follows = part_after v } ∷ []
  alone-stretches free goes meets = λ i. by (free i) (goes i) (meets i)

  pub held-waits : held f ≡ true → waits_by k f v t ≡ true
  held-waits is = ap (λ b. b || (goes_over f t && (parts k v u && is_grouped k v u))) is

  pub over-waits : held f ≡ false → goes_over f t ≡ true → waits_by k f v t ≡ (parts k v u && is_grouped k v u)
  over-waits free goes = (λ i. free i || (goes i && (parts k v u && is_grouped k v u)))

  pub here-waits : held f ≡ false → goes_over f t ≡ false → waits_by k f v t ≡ false
  here-waits free goes = (λ i. free i || (goes i && (parts k v u && is_grouped k v u)))

-- what it comes to behind its checks, and whether it waits, where its secondary isn't cascaded
module _ (k : Control) (n v t : ℕ) (uncascaded : goes_over (fields_at k v) t ≡ true → is_cascaded (fields_at k (partner_of k v)) ≡ false) where
  abbrev first : Fields
  first = fields_at k v

  abbrev to : ℕ
  to = partner_of k v

  abbrev is_coordinated : Bool
  is_coordinated = (fields_at k to).coordination

  abbrev plain_by : Bool → Bool → Bool → Bool → List Stretch
  plain_by waits goes parted meets =
      if not waits && (not goes && meets) then sent_stretches k.volumes n v t to
      else record { entries = if waits then [] else if goes then over_entries k.volumes parted (is_grouped k v to) n v t to else land_alone k.volumes n v t; follows = part_after v } ∷ []

  abbrev placed_by : Bool → Bool → Bool → Bool → Bool → List Stretch
  placed_by waits goes parted cascaded meets =
      if waits then record { entries = []; follows = part_after v } ∷ []
      else if goes && (not parted && (cascaded && not (cascaded && is_coordinated))) then fed_stretches k.volumes n v t to (partner_of k to)
      else if not goes && meets then sent_stretches k.volumes n v t to
      else record {
        entries =
            if waits then []
            else if goes then (if parted then land_parted k n v t else if cascaded && is_coordinated then [] else if cascaded then land_fed k.volumes n v t to (partner_of k to) else land_mirrored k.volumes n v t to)
            else if meets then land_collided k n v t
            else land_alone k.volumes n v t;
        follows = part_after v;
      } ∷ []

  pub uncascaded-stretches : stretches_by k first n v t ≡ placed_stretches k n v t
  uncascaded-stretches = by (held first) (goes_over first t) (is_parted k v) (is_cascaded (fields_at k to)) (collides first t) uncascaded
    where
      by : (waits goes parted cascaded meets : Bool) → (goes ≡ true → cascaded ≡ false) → plain_by waits goes parted meets ≡ placed_by waits goes parted cascaded meets
      by true goes parted cascaded meets free = refl
      by false true parted true meets free = absurd (let no : true ≡ false = free refl in cc)
      by false true true false meets free = refl
      by false true false false meets free = refl
      by false false parted cascaded true free = refl
      by false false parted cascaded false free = refl

  pub uncascaded-waits : waits_by k first v t ≡ waits k v t
  uncascaded-waits = by (held first) (goes_over first t) (is_parted k v) (is_cascaded (fields_at k to)) uncascaded
    where
      by : (waits goes parted cascaded : Bool) → (goes ≡ true → cascaded ≡ false)
          → (waits || (goes && (parted && is_grouped k v to))) ≡ (waits || (goes && (if parted then is_grouped k v to else cascaded && is_coordinated)))
      by true goes parted cascaded free = refl
      by false true parted true free = absurd (let no : true ≡ false = free refl in cc)
      by false true true false free = refl
      by false true false false free = refl
      by false false parted cascaded free = refl

pub collides-global : (p : Part) (rest : Bool) → (is_kind Global p && rest) ≡ true → is_kind Global p ≡ true
collides-global p rest h = (and_parts (is_kind Global p) rest h).0

-- whether v can send to u, from why u can't be reached and whether it belongs to v
pub unreached-parts : (o : Option Refusal) (b : Bool) (why : Refusal) → is_some o ≡ true → false ≡ not (is_some (option_or o (if b then None else Some why)))
unreached-parts None b why h = absurd cc
unreached-parts (Some e) b why h = refl

pub reached-parts : (o : Option Refusal) (b : Bool) (why : Refusal) → is_some o ≡ false → b ≡ not (is_some (option_or o (if b then None else Some why)))
reached-parts None true why h = refl
reached-parts None false why h = refl
reached-parts (Some e) b why h = absurd cc

pub not-sent : (p q : Bool) → p ≡ not q → p ≡ false → q ≡ true
not-sent p true is h = refl
not-sent p false is h = false_true h is

pub is-sent : (p q : Bool) → p ≡ not q → p ≡ true → q ≡ false
is-sent p true is h = false_true is h
is-sent p false is h = refl

pub none-gives : {P : Type 0} (o : Option Refusal) → is_some o ≡ false → OnNone o P → P
none-gives None h p = p
none-gives (Some x) h p = absurd cc

-- what holds behind a call that succeeded holds behind what follows it
pub followed-given : {T S : Type 0} (A : T → Type 0) (res out : Result T Refusal) → out ≡ res → (old new : S) (Q : S → Type 0) → OnOk res (new ≡ old) → OnOk res (Q old) → IfOk out (λ e. A e → Q new)
followed-given {T = T} A res out is old new Q stays holds = subst (λ (x : Result T Refusal). IfOk x (λ e. A e → Q new)) (sym is) (by res stays holds)
  where
    by : (x : Result T Refusal) → OnOk x (new ≡ old) → OnOk x (Q old) → IfOk x (λ e. A e → Q new)
    by (Ok x) stays holds = λ e. subst Q (sym stays) holds
    by (Err e) stays holds = tt

pub ok-given : {T : Type 0} (out : Result T Refusal) (A : T → Type 0) (P : Type 0) → OnOk out P → IfOk out (λ e. A e → P)
ok-given (Ok x) A P holds = λ e. holds
ok-given (Err e) A P holds = tt

pub followed-ok : {T S : Type 0} (res out : Result T Refusal) → out ≡ res → (old new : S) (Q : S → Type 0) → OnOk res (new ≡ old) → OnOk res (Q old) → OnOk out (Q new)
followed-ok {T = T} res out is old new Q stays holds = subst (λ (x : Result T Refusal). OnOk x (Q new)) (sym is) (ok-two res stays holds (λ same left. subst Q (sym same) left))

-- a call that fails only by stops
pub counted-stops : {T : Type 0} (r : Result T Refusal) (a b : ℕ) → Counted (is_err r) a b → OnErr r (is_stop (refusal_of r) ≡ true) → Counted (is_stop (refusal_of r)) a b
counted-stops (Ok x) a b counted stops = counted
counted-stops (Err e) a b counted stops = subst (λ z. Counted z a b) (sym stops) counted

module _ (armed : ℕ → Bool) (w : World) (n v : ℕ) where
  passes : (u : World) (r : Option Refusal) (ok : Control → Bool) (why : Refusal) (ds : List Entry) → ok w.control ≡ true → Ends armed u r w ds → Ends armed u r w (check_or_drop n ok why ++ ds)
  passes u r ok why ds is ends = ends-skips armed u r w (drop_unless n ok) (check ok why ∷ ds) (ap (λ b. cond b Pass (Do (Drop n))) is) (ends-passed armed u r w ok why ds is ends)

  drops : (ok : Control → Bool) (why : Refusal) (ds : List Entry) → ok w.control ≡ false → ok (dropped w n).control ≡ false → Ends armed (dropped w n) (Some why) w (check_or_drop n ok why ++ ds)
  drops ok why ds is still =
      ends-goes armed (dropped w n) (Some why) w (dropped w n) (drop_unless n ok) (check ok why ∷ ds) (Drop n) (ap (λ b. cond b Pass (Do (Drop n))) is) (act-drop w n)
      (ends-refused armed (dropped w n) (Some why) (dropped w n) ok why ds still refl refl)

  pub write-off : (es : List Entry) → is_running v w.control ≡ false → Ends armed w (Some (server_off (w.control.volume v).server)) w (write_checks w.control n v ++ es)
  write-off es off = ends-refused armed w (Some (server_off (w.control.volume v).server)) w (is_running v) (server_off (w.control.volume v).server) _ off refl refl

  -- the checks behind the first
  abbrev places : List Entry → List Entry
  places es = check_or_drop n (is_no_secondary v) (NotPrimary (record { 0 = v })) ++ (check_or_drop n (is_open v) (Inhibited (record { 0 = v })) ++ (check_or_drop n (is_settled v) (relation_state w.control v) ++ es))

  pub write-passes : (u : World) (r : Option Refusal) (es : List Entry) → is_running v w.control ≡ true → write_refusal w.control v ≡ None → Ends armed u r w es → Ends armed u r w (write_checks w.control n v ++ es)
  write-passes u r es on free ends =
      let all = may_write (is_no_secondary v w.control) (is_open v w.control) (is_settled v w.control) _ _ _ free in
      ends-passed armed u r w (is_running v) (server_off (w.control.volume v).server) (places es) on
      (passes u r (is_no_secondary v) (NotPrimary (record { 0 = v })) _ all.0
      (passes u r (is_open v) (Inhibited (record { 0 = v })) _ all.1
      (passes u r (is_settled v) (relation_state w.control v) es all.2 ends)))
    where
      may_write : (p o q : Bool) (a b d : Refusal) → (if not p then Some d else if not o then Some b else if not q then Some a else None) ≡ None → (p ≡ true) × (o ≡ true) × (q ≡ true)
      may_write true true true a b d e = (refl, refl, refl)
      may_write true true false a b d e = absurd cc
      may_write true false q a b d e = absurd cc
      may_write false o q a b d e = absurd cc

  pub write-drops : (r : Refusal) (es : List Entry) → is_running v w.control ≡ true → write_refusal w.control v ≡ Some r → Ends armed (dropped w n) (Some r) w (write_checks w.control n v ++ es)
  write-drops r es on why =
      ends-passed armed (dropped w n) (Some r) w (is_running v) (server_off (w.control.volume v).server) (places es) on
      (by (is_no_secondary v w.control) (is_open v w.control) (is_settled v w.control) refl refl refl why)
    where
      by : (p o q : Bool) → is_no_secondary v w.control ≡ p → is_open v w.control ≡ o → is_settled v w.control ≡ q
          → (if not p then Some (NotPrimary (record { 0 = v })) else if not o then Some (Inhibited (record { 0 = v })) else if not q then Some (relation_state w.control v) else None) ≡ Some r
          → Ends armed (dropped w n) (Some r) w (places es)
      by false o q first is there e = subst (λ x. Ends armed (dropped w n) x w (places es)) e (drops (is_no_secondary v) (NotPrimary (record { 0 = v })) _ first first)
      by true false q first is there e =
          passes (dropped w n) (Some r) (is_no_secondary v) (NotPrimary (record { 0 = v })) _ first
          (subst (λ x. Ends armed (dropped w n) x w (check_or_drop n (is_open v) (Inhibited (record { 0 = v })) ++ (check_or_drop n (is_settled v) (relation_state w.control v) ++ es))) e (drops (is_open v) (Inhibited (record { 0 = v })) _ is is))
      by true true false first is there e =
          passes (dropped w n) (Some r) (is_no_secondary v) (NotPrimary (record { 0 = v })) _ first
          (passes (dropped w n) (Some r) (is_open v) (Inhibited (record { 0 = v })) _ is
          (subst (λ x. Ends armed (dropped w n) x w (check_or_drop n (is_settled v) (relation_state w.control v) ++ es)) e (drops (is_settled v) (relation_state w.control v) es there there)))
      by true true true first is there e = absurd cc
