-- The lines of listings and images: no list, no cut and no group hears of them, and a listing has few.
use Rattle.std.proofs.Common.{ℕ, ◌≡◌, ◌≤◌, ◌+◌, ◌*◌, nat_eq, List, [], ◌∷◌, ◌++◌, length, map, filter, inl, inr, refl, ◌∙◌, arith, Bool, true, false, cond, Option, Some, None}
use Rattle.std.specs.List.{flat_map, fold, list_any}
use Rattle.std.proofs.lemmas.List.{length-append, length-map}
use Rattle.dr_ids.specs.declared.names.Member.{Member}
use Rattle.dr_model.specs.declared.event.Event.{Event}
use Rattle.dr_model.specs.declared.event.Event.TheVariants.{PairLine, FlashLine, SessionLine, MirrorLine, ImageStart, ImageVolume, ImageBlock, ImageEnd}
use Rattle.dr_model.specs.Histories.{Histories, histories, after_event}
use Rattle.dr_model.specs.HeldWrites.{is_answer}
use Rattle.dr_model.specs.Layout.{Fields, is_part}
use Rattle.dr_model.specs.Control.{Control}
use Rattle.dr_model.specs.Entries.{fields_at}
use Rattle.dr_model.specs.Groups.{In, Groups}
use Rattle.dr_model.specs.Listings.{primary_line, secondary_line, pair_lines, flash_line, is_flash_of, flash_lines, member_line, member_lines, mirror_lines, sessions_of}
use Rattle.dr_model.specs.PlantImage.{Volume, Kept}
use Rattle.dr_model.specs.Runs.{volume_told, blocks_told, image_told}
use Rattle.dr_model.specs.Sessions.{Session, Mirror, has_subsystem, subsystem_of}
use Rattle.dr_model.proofs.Images.{histories-append}
use Rattle.dr_logic.proofs.Lists.{filter-shorter}
use Rattle.dr_facts.proofs.Lists.{from-filter}
use Rattle.dr_laws_cuts.specs.Once.{NoCuts}
use Rattle.dr_laws_closed.specs.Silent.{AllStill}
use Rattle.dr_laws_sessions.proofs.Members.{session-few as of-session}
use Rattle.dr_laws_sound.specs.Acknowledged.{acknowledgements}
use Rattle.dr_laws_sound.proofs.Unacknowledged.{mirrors, cuts_any}
use Rattle.dr_facts.proofs.Emits.{Tag, Begins, Of, AllOf}
use Rattle.dr_laws_sound.proofs.KeepsQueue.{AllQuiet}

-- a line of a listing or of an image
abbrev pub IsLine : Event → Type 0
IsLine (PairLine line v u state kind k) = Unit {0}
IsLine (FlashLine line s t sequence previous state flags own) = Unit {0}
IsLine (SessionLine line s a b c state) = Unit {0}
IsLine (MirrorLine line s server phase n paused) = Unit {0}
IsLine ImageStart = Unit {0}
IsLine (ImageVolume v server tracks) = Unit {0}
IsLine (ImageBlock v index bytes) = Unit {0}
IsLine ImageEnd = Unit {0}
IsLine e = ⊥

abbrev pub AllLines : List Event → Type 0
AllLines [] = Unit {0}
AllLines (e ∷ es) = IsLine e × AllLines es

-- ---- what hears of them

-- what holds of each kind of line
pub each-line : (P : Event → Type 0) → ((line v u state kind k : ℕ) → P (PairLine line v u state kind k)) → ((line s t sequence previous state flags own : ℕ) → P (FlashLine line s t sequence previous state flags own))
    → ((line s a b c state : ℕ) → P (SessionLine line s a b c state)) → ((line s server phase n : ℕ) (paused : Bool) → P (MirrorLine line s server phase n paused))
    → P ImageStart → ((v server tracks : ℕ) → P (ImageVolume v server tracks)) → ((v index : ℕ) (bytes : List ℕ) → P (ImageBlock v index bytes)) → P ImageEnd → (e : Event) → IsLine e → P e
each-line P pair flash member mirror start volume block end (PairLine line v u state kind k) l = pair line v u state kind k
each-line P pair flash member mirror start volume block end (FlashLine line s t sequence previous state flags own) l = flash line s t sequence previous state flags own
each-line P pair flash member mirror start volume block end (SessionLine line s a b c state) l = member line s a b c state
each-line P pair flash member mirror start volume block end (MirrorLine line s server phase n paused) l = mirror line s server phase n paused
each-line P pair flash member mirror start volume block end ImageStart l = start
each-line P pair flash member mirror start volume block end (ImageVolume v server tracks) l = volume v server tracks
each-line P pair flash member mirror start volume block end (ImageBlock v index bytes) l = block v index bytes
each-line P pair flash member mirror start volume block end ImageEnd l = end
each-line P pair flash member mirror start volume block end e l = absurd l

-- and of all of them
pub all-lines : (A : List Event → Type 0) → A [] → ((e : Event) (es : List Event) → IsLine e → A es → A (e ∷ es)) → (es : List Event) → AllLines es → A es
all-lines A none more [] ls = none
all-lines A none more (e ∷ es) ls = more e es ls.0 (all-lines A none more es ls.1)

line-unheard : (h : Histories) (e : Event) → IsLine e → after_event h e ≡ h
line-unheard h = each-line (λ e. after_event h e ≡ h) (λ line v u state kind k. refl) (λ line s t sequence previous state flags own. refl) (λ line s a b c state. refl) (λ line s server phase n paused. refl) refl (λ v server tracks. refl) (λ v index bytes. refl) refl

lines-unheard : (es : List Event) (h : Histories) → AllLines es → fold after_event h es ≡ h
lines-unheard [] h ls = refl
lines-unheard (e ∷ es) h ls = lines-unheard es (after_event h e) ls.1 ∙ line-unheard h e ls.0

pub lines-lists : (events es : List Event) → AllLines es → histories (events ++ es) ≡ histories events
lines-lists events es ls = histories-append events es ∙ lines-unheard es (histories events) ls

-- no attempt begins by these events
abbrev pub begins_none : Tag → Bool
begins_none Begins = false
begins_none k = true

abbrev pub NoBegins : List Event → Type 0
NoBegins es = AllOf (Of begins_none) es

-- no answer is among them, nothing is acknowledged, mirrored, cut or begun, and no group hears of them
pub record Plain (es : List Event) : Type 0 where
  pub silent : list_any is_answer es ≡ false
  pub none : acknowledgements es ≡ []
  pub plain : mirrors es ≡ []
  pub uncut : cuts_any es ≡ false
  pub quiet : (n : ℕ) → AllQuiet n es
  pub cuts : NoCuts es
  pub still : AllStill es
  pub begins : NoBegins es

one-plain : (e : Event) (es : List Event) → IsLine e → Plain es → Plain (e ∷ es)
one-plain (PairLine line v u state kind k) es l p = record { silent = p.silent; none = p.none; plain = p.plain; uncut = p.uncut; quiet = λ n. (tt, p.quiet n); cuts = (tt, p.cuts); still = (tt, p.still); begins = (refl, p.begins) }
one-plain (FlashLine line s t sequence previous state flags own) es l p = record { silent = p.silent; none = p.none; plain = p.plain; uncut = p.uncut; quiet = λ n. (tt, p.quiet n); cuts = (tt, p.cuts); still = (tt, p.still); begins = (refl, p.begins) }
one-plain (SessionLine line s a b c state) es l p = record { silent = p.silent; none = p.none; plain = p.plain; uncut = p.uncut; quiet = λ n. (tt, p.quiet n); cuts = (tt, p.cuts); still = (tt, p.still); begins = (refl, p.begins) }
one-plain (MirrorLine line s server phase n paused) es l p = record { silent = p.silent; none = p.none; plain = p.plain; uncut = p.uncut; quiet = λ n. (tt, p.quiet n); cuts = (tt, p.cuts); still = (tt, p.still); begins = (refl, p.begins) }
one-plain ImageStart es l p = record { silent = p.silent; none = p.none; plain = p.plain; uncut = p.uncut; quiet = λ n. (tt, p.quiet n); cuts = (tt, p.cuts); still = (tt, p.still); begins = (refl, p.begins) }
one-plain (ImageVolume v server tracks) es l p = record { silent = p.silent; none = p.none; plain = p.plain; uncut = p.uncut; quiet = λ n. (tt, p.quiet n); cuts = (tt, p.cuts); still = (tt, p.still); begins = (refl, p.begins) }
one-plain (ImageBlock v index bytes) es l p = record { silent = p.silent; none = p.none; plain = p.plain; uncut = p.uncut; quiet = λ n. (tt, p.quiet n); cuts = (tt, p.cuts); still = (tt, p.still); begins = (refl, p.begins) }
one-plain ImageEnd es l p = record { silent = p.silent; none = p.none; plain = p.plain; uncut = p.uncut; quiet = λ n. (tt, p.quiet n); cuts = (tt, p.cuts); still = (tt, p.still); begins = (refl, p.begins) }
one-plain e es l p = absurd l

pub lines-plain : (es : List Event) → AllLines es → Plain es
lines-plain [] ls = record { silent = refl; none = refl; plain = refl; uncut = refl; quiet = λ n. tt; cuts = tt; still = tt; begins = tt }
lines-plain (e ∷ es) ls = one-plain e es ls.0 (lines-plain es ls.1)

-- ---- what tells them

lines-append : (es fs : List Event) → AllLines es → AllLines fs → AllLines (es ++ fs)
lines-append [] fs ls ms = ms
lines-append (e ∷ es) fs ls ms = (ls.0, lines-append es fs ls.1 ms)

lines-map : {X : Type 0} (f : X → Event) (xs : List X) → ((x : X) → IsLine (f x)) → AllLines (map f xs)
lines-map f [] each = tt
lines-map f (x ∷ xs) each = (each x, lines-map f xs each)

lines-flat : {X : Type 0} (f : X → List Event) (xs : List X) → ((x : X) → AllLines (f x)) → AllLines (flat_map f xs)
lines-flat f [] each = tt
lines-flat f (x ∷ xs) each = lines-append (f x) (flat_map f xs) (each x) (lines-flat f xs each)

pub pair-lines : (line v : ℕ) (f : Fields) → AllLines (pair_lines line v f)
pair-lines line v f = lines-append _ _ (by (primary_line line v f) tt (is_part f.primary)) (by (secondary_line line v f) tt (is_part f.secondary))
  where
    by : (e : Event) → IsLine e → (b : Bool) → AllLines (cond b (e ∷ []) [])
    by e l true = (l, tt)
    by e l false = tt

pub flash-lines : (k : Control) (line v : ℕ) → AllLines (flash_lines k line v)
flash-lines k line v = lines-map (λ u. flash_line line u (fields_at k u)) _ (λ u. tt)

pub session-lines : (k : Control) (line l : ℕ) → AllLines (flat_map (member_lines k line l) (sessions_of k l))
session-lines k line l = lines-flat (member_lines k line l) (sessions_of k l) (λ x. lines-map (member_line k line x.number) _ (λ m. tt))

pub mirrors-lines : (k : Control) (line l : ℕ) → AllLines (flat_map (λ x. mirror_lines line x.number x.mirror) (sessions_of k l))
mirrors-lines k line l = lines-flat (λ x. mirror_lines line x.number x.mirror) (sessions_of k l) (λ x. by x.number x.mirror)
  where
    by : (s : ℕ) (o : Option Mirror) → AllLines (mirror_lines line s o)
    by s None = tt
    by s (Some r) = (tt, tt)

pub image-lines : (vs : List Volume) → AllLines (image_told vs)
image-lines vs =
    lines-append (ImageStart ∷ map volume_told vs ++ flat_map blocks_told vs) (ImageEnd ∷ [])
    (lines-append (ImageStart ∷ map volume_told vs) (flat_map blocks_told vs) (tt, lines-map volume_told vs (λ v. tt)) (lines-flat blocks_told vs (λ v. lines-map (λ (b : Kept). ImageBlock v.volume b.index b.bytes) v.blocks (λ b. tt)))) (tt, tt)

-- ---- how many there are

flat-few : {X : Type 0} (f : X → List Event) (n : ℕ) (xs : List X) → ((x : X) → In x xs → length (f x) ≤ n) → length (flat_map f xs) ≤ length xs * n
flat-few f n [] each = omega arith
flat-few f n (x ∷ xs) each =
    let one : length (f x) ≤ n = each x (inl refl) in
    let rest : length (flat_map f xs) ≤ length xs * n = flat-few f n xs (λ y here. each y (inr here)) in
    let e : length (f x ++ flat_map f xs) ≡ length (f x) + length (flat_map f xs) = length-append (f x) (flat_map f xs) in omega arith

pub pair-few : (line v : ℕ) (f : Fields) → length (pair_lines line v f) ≤ 256
pair-few line v f = by (is_part f.primary) (is_part f.secondary)
  where
    by : (b c : Bool) → length (cond b (primary_line line v f ∷ []) [] ++ cond c (secondary_line line v f ∷ []) []) ≤ 256
    by true true = omega arith
    by true false = omega arith
    by false true = omega arith
    by false false = omega arith

pub flash-few : (k : Control) (line v : ℕ) → length k.volumes ≤ 64 → length (flash_lines k line v) ≤ 256
flash-few k line v few =
    let e : length (flash_lines k line v) ≡ length (filter (λ u. is_flash_of v u (fields_at k u)) k.volumes) = length-map _ _ in
    let le : length (filter (λ u. is_flash_of v u (fields_at k u)) k.volumes) ≤ length k.volumes = filter-shorter (λ u. is_flash_of v u (fields_at k u)) k.volumes in omega arith

few-sessions : (k : Control) (l : ℕ) → length k.sessions ≤ 4 → length (sessions_of k l) ≤ 4
few-sessions k l few = let le : length (sessions_of k l) ≤ length k.sessions = filter-shorter (has_subsystem l) k.sessions in omega arith

pub session-few : (k : Control) (line l : ℕ) → Groups k → length k.sessions ≤ 4 → length k.volumes ≤ 64 → length (flat_map (member_lines k line l) (sessions_of k l)) ≤ 256
session-few k line l groups sessions volumes =
    let n : ℕ = length (sessions_of k l) in
    let few : n ≤ 4 = few-sessions k l sessions in
    let le : length (flat_map (member_lines k line l) (sessions_of k l)) ≤ n * 64 = flat-few (member_lines k line l) 64 (sessions_of k l) each in omega arith
  where
    each : (x : Session) → In x (sessions_of k l) → length (member_lines k line l x) ≤ 64
    each x here =
        let e : length (member_lines k line l x) ≡ length (filter (λ (m : Member). nat_eq (subsystem_of m.a.0) l) x.members) = length-map _ _ in
        let le : length (filter (λ (m : Member). nat_eq (subsystem_of m.a.0) l) x.members) ≤ length x.members = filter-shorter (λ (m : Member). nat_eq (subsystem_of m.a.0) l) x.members in
        let few : length x.members ≤ length k.volumes = of-session k x groups (from-filter (has_subsystem l) k.sessions x here).0 in omega arith

pub mirrors-few : (k : Control) (line l : ℕ) → length k.sessions ≤ 4 → length (flat_map (λ x. mirror_lines line x.number x.mirror) (sessions_of k l)) ≤ 256
mirrors-few k line l sessions =
    let n : ℕ = length (sessions_of k l) in
    let few : n ≤ 4 = few-sessions k l sessions in
    let le : length (flat_map (λ x. mirror_lines line x.number x.mirror) (sessions_of k l)) ≤ n * 1 = flat-few (λ x. mirror_lines line x.number x.mirror) 1 (sessions_of k l) (λ x here. by x.number x.mirror) in omega arith
  where
    by : (s : ℕ) (o : Option Mirror) → length (mirror_lines line s o) ≤ 1
    by s None = omega arith
    by s (Some r) = omega arith
