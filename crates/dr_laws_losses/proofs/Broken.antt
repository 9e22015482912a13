-- With a write that is kept, each lost one on which it depends was given back.
use Rattle.std.proofs.Common.{ℕ, zero, suc, ◌≡◌, ◌<◌, ◌+◌, ◌⊎◌, inl, inr, refl, ap, sym, ◌∙◌, subst, arith, append_assoc, true, false, ◌||◌, List, [], ◌∷◌, ◌++◌, length, map, Some, None}
use Rattle.std.specs.Prelude.{is_some, slice_get}
use Rattle.std.specs.List.{fold, list_any}
use Rattle.std.proofs.lemmas.Option.{same_Some}
use Rattle.std.proofs.lemmas.List.{append-nil, length-append}
use Rattle.std.proofs.lemmas.List.Folds.{list_any-append}
use Rattle.std.proofs.Math.Bool.{or-true}
use Rattle.dr_logic.proofs.Lists.{cons-parts}
use Rattle.dr_logic.proofs.Tables.{at2_same}
use Rattle.dr_facts.proofs.Tables.{at2_other}
use Rattle.dr_ids.specs.declared.names.Member.{Member}
use Rattle.dr_ids.specs.Sizes.{most_tracks}
use Rattle.dr_model.specs.declared.event.Event.{Event}
use Rattle.dr_model.specs.declared.event.Event.TheVariants.{Issue, Ack, Cut}
use Rattle.dr_model.specs.Histories.{Histories, lists}
use Rattle.dr_model.specs.Control.{World}
use Rattle.dr_model.specs.Dependence.{DependsOn}
use Rattle.dr_model.specs.Groups.{In}
use Rattle.dr_model.specs.Cuts.{Cuts, Past, CutAt, past, cuts, past_event}
use Rattle.dr_model.specs.ClosedCuts.{InGroup, ClosedCuts, LastCut}
use Rattle.dr_model.specs.Runs.{Task, after_tasks, run}
use Rattle.dr_facts.proofs.Joined.{InFirst, InOther, place-in}
use Rattle.dr_facts.proofs.Lists.{in-first, in-second, from-map}
use Rattle.dr_laws_cuts.specs.Once.{CutOnce, AllNew, IsNew, no_past}
use Rattle.dr_laws_cuts.specs.Sound.{SoundCuts}
use Rattle.dr_laws_cuts.proofs.Journal.{past-history, cuts-append}
use Rattle.dr_laws_cuts.proofs.Places.{snoc}
use Rattle.dr_laws_sound.proofs.Journal.{run-more}
use Rattle.dr_laws_recovery.proofs.CountedAlong.{counts-run}
use Rattle.dr_laws_recovery.proofs.ClosesAlong.{closed-run}
use Rattle.dr_laws_recovery.proofs.OnTracks.{is_issue}
use Rattle.dr_lost.specs.declared.lost.Pair.{Pair}
use Rattle.dr_lost.specs.Lost.{IsLost, IsHeld}
use Rattle.dr_laws_losses.specs.Losses.{target_pair, recovered_world, RecoversAt, IsUncut, WasGivenBack}
use Rattle.dr_laws_losses.proofs.Alike.{NoIssue}
use Rattle.dr_laws_losses.proofs.Issued.{TellsFirst, tells-first}
use Rattle.dr_laws_losses.proofs.Known.{Longer, run-longer, below-in, in-its-group, its-cut, to-cut, told-of, to-uncut}

-- ---- where a write is issued

-- the step that issues it begins there, with the number that comes next
pub record IssuedAt (before : List Event) (n : ℕ) : Type 0 where
  pub first : List Task
  pub is : before ≡ (run first).events
  pub number : n ≡ (run first).control.issued + 1

abbrev pub IsIssue : ℕ → Event → Type 0
IsIssue n e = (v : ℕ) × (q : ℕ) × (offset : ℕ) × (len : ℕ) × (bytes : List ℕ) × (e ≡ Issue n v q offset len bytes)

abbrev pub HasIssues : List Task → Type 0
HasIssues tasks = (before after : List Event) (e : Event) (n : ℕ) → IsIssue n e → (run tasks).events ≡ before ++ e ∷ after → IssuedAt before n

is-issue : (n : ℕ) (e : Event) → IsIssue n e → is_issue e ≡ true
is-issue n e i = ap is_issue i.5

none-placed : {P : Type 0} (es before after : List Event) (e : Event) → NoIssue es → is_issue e ≡ true → es ≡ before ++ e ∷ after → P
none-placed es before after e none it is =
    absurd (let any : list_any is_issue es ≡ true = ap (list_any is_issue) is ∙ list_any-append is_issue before (e ∷ after) ∙ ap (λ b. list_any is_issue before || (b || list_any is_issue after)) it ∙ or-true (list_any is_issue before) in
    let no : true ≡ false = sym any ∙ none in cc)

one-placed : (x e : Event) (before after : List Event) → x ∷ [] ≡ before ++ e ∷ after → (before ≡ []) × (x ≡ e)
one-placed x e [] after is = (refl, (cons-parts is).0)
one-placed x e (y ∷ before) after is = absurd (empty before (cons-parts is).1)
  where
    empty : (before : List Event) → [] ≡ before ++ e ∷ after → ⊥
    empty [] is = cc
    empty (y ∷ before) is = cc

same-number : (n k : ℕ) (e : Event) → IsIssue n e → (v q offset len : ℕ) (bytes : List ℕ) → Issue k v q offset len bytes ≡ e → n ≡ k
same-number n k e i v q offset len bytes is = by (is ∙ i.5)
  where
    by : {x y z t : ℕ} {zs : List ℕ} → Issue k v q offset len bytes ≡ Issue n x y z t zs → n ≡ k
    by h = cc

no-steps : HasIssues []
unfolding after_tasks
no-steps [] after e n i is = absurd cc
no-steps (b ∷ before) after e n i is = absurd cc

one-more : (tasks : List Task) (t : Task) → HasIssues tasks → HasIssues (tasks ++ t ∷ [])
one-more tasks t old before after e n i is =
    let told : TellsFirst (run tasks) t = tells-first (run tasks) t in
    let leads : (run tasks).events ++ (told.first ++ told.more) ≡ before ++ e ∷ after = sym told.is ∙ (ap (λ (w : World). w.events) (sym (run-more tasks t)) ∙ is) in
    by told (place-in (run tasks).events (told.first ++ told.more) before e after leads)
  where
    in-way : (told : TellsFirst (run tasks) t) (middle behind : List Event) → told.first ≡ middle ++ e ∷ behind → before ≡ (run tasks).events ++ middle → IssuedAt before n
    in-way told middle behind placed begins = elim told.way [
      | inl none ↦ none-placed told.first middle behind e none (is-issue n e i) placed
      | inr one ↦
          let parts = one-placed _ e middle behind (sym one.6 ∙ placed) in
          record { first = tasks; is = begins ∙ ap (λ m. (run tasks).events ++ m) parts.0 ∙ append-nil (run tasks).events; number = same-number n ((run tasks).control.issued + 1) e i _ _ _ _ _ parts.1 }
    ]

    in-step : (told : TellsFirst (run tasks) t) (middle : List Event) → told.first ++ told.more ≡ middle ++ e ∷ after → before ≡ (run tasks).events ++ middle → IssuedAt before n
    in-step told middle placed begins = elim (place-in told.first told.more middle e after placed) [
      | inl p ↦ in-way told middle p.behind p.is begins
      | inr p ↦ none-placed told.more p.middle after e told.none (is-issue n e i) p.other
    ]

    by : (told : TellsFirst (run tasks) t) → InFirst (run tasks).events before e ⊎ InOther (run tasks).events (told.first ++ told.more) before e after → IssuedAt before n
    by told (inl p) = old before p.behind e n i p.is
    by told (inr p) = in-step told p.middle p.other p.first

pub issued-at : (tasks : List Task) → HasIssues tasks
issued-at tasks = snoc HasIssues no-steps one-more tasks

-- ---- what is held of a cut

-- an event that cuts no volume anew for a group leaves what that has
same-cut : (n a : ℕ) (p : Past) (e : Event) → IsNew p e → is_some (p.cuts.by n a) ≡ true → ((past_event p e).cuts.by n a ≡ p.cuts.by n a) × ((past_event p e).cuts.held n a ≡ p.cuts.held n a)
same-cut n a p (Cut s k x) fresh cut = (at2_other p.cuts.by k x (Some s) n a other, at2_other p.cuts.held k x (p.history.now x) n a other)
  where
    other : n ≡ k → a ≡ x → ⊥
    other here there = absurd (let gone : p.cuts.by n a ≡ None = (λ i. p.cuts.by (here i) (there i)) ∙ fresh in let e : true ≡ false = sym cut ∙ ap is_some gone in cc)
same-cut n a p e fresh cut = (refl, refl)

-- along events none of which cuts the volume for that number again
held-along : (n a : ℕ) (es : List Event) (p : Past) → AllNew p es → is_some (p.cuts.by n a) ≡ true → (fold past_event p es).cuts.held n a ≡ p.cuts.held n a
unfolding AllNew
held-along n a [] p new cut = refl
held-along n a (e ∷ es) p new cut =
    let same = same-cut n a p e new.0 cut in
    held-along n a es (past_event p e) new.1 (ap is_some same.0 ∙ cut) ∙ same.1

new-after : (p : Past) (es more : List Event) → AllNew p (es ++ more) → AllNew (fold past_event p es) more
unfolding AllNew
new-after p [] more new = new
new-after p (e ∷ es) more new = new-after (past_event p e) es more new.1

joined-held : (before behind : List Event) (s n a : ℕ) → CutOnce (before ++ Cut s n a ∷ behind) → (cuts (before ++ Cut s n a ∷ behind)).held n a ≡ lists before a
unfolding AllNew past
joined-held before behind s n a once =
    let p : Past = past before in
    let new : AllNew p (Cut s n a ∷ behind) = new-after no_past before (Cut s n a ∷ behind) once in
    ap (λ (c : Cuts). c.held n a) (cuts-append before (Cut s n a ∷ behind))
    ∙ (held-along n a behind (past_event p (Cut s n a)) new.1 (ap is_some (at2_same p.cuts.by n a (Some s)))
    ∙ (at2_same p.cuts.held n a (p.history.now a)
    ∙ ap (λ (h : Histories). h.now a) (past-history before)))

place-held : (es : List Event) → CutOnce es → (s n a : ℕ) (c : CutAt es s n a) → (cuts es).held n a ≡ lists c.before a
place-held es once s n a c = subst (λ es. CutOnce es → (cuts es).held n a ≡ lists c.before a) (sym c.is) (joined-held c.before c.behind s n a) once

-- ---- places by their numbers

record Split (es : List Event) (i : ℕ) (e : Event) : Type 0 where
  before : List Event
  after : List Event
  is : es ≡ before ++ e ∷ after
  at : length before ≡ i

split-at : (es : List Event) (i : ℕ) (e : Event) → slice_get es i ≡ Some e → Split es i e
split-at [] i e h = absurd cc
split-at (x ∷ es) zero e h = record { before = []; after = es; is = ap (λ x. x ∷ es) (same_Some _ _ h); at = refl }
split-at (x ∷ es) (suc i) e h = let s : Split es i e = split-at es i e h in record { before = x ∷ s.before; after = s.after; is = ap (λ es. x ∷ es) s.is; at = ap suc s.at }

-- of two places the earlier one is before the later one
earlier-in : (es before after early late : List Event) (e f : Event) → es ≡ before ++ e ∷ after → es ≡ early ++ f ∷ late → length early < length before → In f before
earlier-in es before after early late e f is other lt = elim (place-in before (e ∷ after) early f late (sym is ∙ other)) [
  | inl p ↦ subst (In f) (sym p.is) (in-second early (f ∷ p.behind) f (inl refl))
  | inr p ↦ absurd (let longer : length early ≡ length before + length p.middle = ap length p.first ∙ length-append before p.middle in omega arith)
]

-- ---- the recovery

module _ (before first : List Task) (t : Task) (rest : List Task) (s n : ℕ) (ms : List Member) (pairs : List Pair) (r : RecoversAt before first t rest s n ms pairs) where
  abbrev tasks : List Task
  tasks = before ++ first ++ t ∷ []

  abbrev u : World
  u = recovered_world before first t

  abbrev begun : World
  begun = run before

  abbrev end : World
  end = run (before ++ first ++ t ∷ rest)

  end-longer : Longer u.events end.events
  end-longer = subst (λ ts. Longer u.events (run ts).events) (append_assoc (before ++ first) (t ∷ []) rest) (run-longer tasks rest)

  -- a write of a cut was issued before it
  issued-before : (m : Member) (of : In m ms) (c : CutAt u.events s n m.a.0) (w q : ℕ) → In w (lists c.before m.a.0 q) → (bw aw : List Event) (e : Event) → IsIssue w e → end.events ≡ bw ++ e ∷ aw → Longer bw c.before
  issued-before m of c w q here bw aw e it is =
      let l : Longer u.events end.events = end-longer in
      let whole : c.before ++ Cut s n m.a.0 ∷ (c.behind ++ l.more) ≡ bw ++ e ∷ aw = sym (append_assoc c.before (Cut s n m.a.0 ∷ c.behind) l.more) ∙ (ap (λ es. es ++ l.more) (sym c.is) ∙ (sym l.is ∙ is)) in
      by (place-in bw (e ∷ aw) c.before (Cut s n m.a.0) (c.behind ++ l.more) (sym whole))
    where
      at : IssuedAt bw w
      at = issued-at (before ++ first ++ t ∷ rest) bw aw e w it is

      -- the cut came before the step
      late : InFirst bw c.before (Cut s n m.a.0) → ⊥
      late p =
          let v : World = run at.first in
          let cut : CutAt v.events s n m.a.0 = record { before = c.before; behind = p.behind; is = sym at.is ∙ p.is } in
          let sound : SoundCuts v = (counts-run at.first).0.0 in
          let held : In w ((cuts v.events).held n m.a.0 q) = subst (In w) (sym (ap (λ (f : ℕ → List ℕ). f q) (place-held v.events sound.once s n m.a.0 cut))) here in
          let low : w < v.control.issued + 1 = below-in (v.control.issued + 1) w ((cuts v.events).held n m.a.0 q) (sound.numbers n m.a.0 q) held in
          let number : w ≡ v.control.issued + 1 = at.number in
          omega arith

      by : InFirst bw c.before (Cut s n m.a.0) ⊎ InOther bw (e ∷ aw) c.before (Cut s n m.a.0) (c.behind ++ end-longer.more) → Longer bw c.before
      by (inl p) = absurd (late p)
      by (inr p) = record { more = p.middle; is = p.first }

  -- each cut of the group is before the last one, or that
  before-last : (a : ℕ) (c : CutAt u.events s n a) (p : LastCut u.events s n) (f : Event) → In f c.before → In f p.place.before
  before-last a c p f here = elim (place-in p.place.before (Cut s n p.volume ∷ p.place.behind) c.before (Cut s n a) c.behind (sym p.place.is ∙ c.is)) [
    | inl q ↦ subst (In f) (sym q.is) (in-first c.before (Cut s n a ∷ q.behind) f here)
    | inr q ↦ after q.middle q.first q.other
  ]
    where
      after : (middle : List Event) → c.before ≡ p.place.before ++ middle → Cut s n p.volume ∷ p.place.behind ≡ middle ++ Cut s n a ∷ c.behind → In f p.place.before
      after [] is other = subst (In f) (is ∙ append-nil p.place.before) here
      after (e ∷ middle) is other = absurd (p.last a (record { before = middle; behind = c.behind; is = (cons-parts other).1 }))

  -- a write that is kept is in a cut
  record IsInCut (w : ℕ) : Type 0 where
    member : Member
    here : In member ms
    track : ℕ
    held : In w (lists (its-cut before first t rest s n ms pairs r member here).before member.a.0 track)

  kept-in : (w : ℕ) → IsHeld most_tracks (lists end.events) (map (λ (p : Pair). p.first) pairs) w → IsHeld most_tracks (lists begun.events) (map (λ (p : Pair). p.second) pairs) w → IsInCut w
  kept-in w kept was =
      let o = from-map (λ (p : Pair). p.first) pairs kept.volume kept.among in
      let g = from-map target_pair ms o.from ((r.targets o.from).0 o.here) in
      let m : Member = g.from in
      let h : In w (lists end.events m.c.0 kept.track) = subst (λ v. In w (lists end.events v kept.track)) (o.is ∙ ap (λ (p : Pair). p.first) g.is) kept.held in
      record {
        member = m;
        here = g.here;
        track = kept.track;
        held = to-cut before first t rest s n ms pairs r m g.here w (told-of before first t rest s n ms pairs r w was.volume was.track was.held)
            (its-cut before first t rest s n ms pairs r m g.here) kept.track (subst (In w) (r.stays m g.here kept.track) h);
      }

  pub given-back : (w x : ℕ) → IsHeld most_tracks (lists end.events) (map (λ (p : Pair). p.first) pairs) w → IsHeld most_tracks (lists begun.events) (map (λ (p : Pair). p.second) pairs) w
      → IsLost most_tracks (lists begun.events) (lists end.events) pairs x → DependsOn end.events w x → WasGivenBack ms begun.events u.events s n x
  given-back w x kept was lost d =
      let issue : Split end.events d.issued (Issue w d.volume d.track d.offset d.len d.bytes) = split-at end.events d.issued _ d.issue in
      let ack : Split end.events d.acknowledged (Ack x) = split-at end.events d.acknowledged (Ack x) d.ack in
      let it : IsIssue w (Issue w d.volume d.track d.offset d.len d.bytes) = (d.volume, d.track, d.offset, d.len, d.bytes, refl) in
      let k : IsInCut w = kept-in w kept was in
      let c : CutAt u.events s n k.member.a.0 = its-cut before first t rest s n ms pairs r k.member k.here in
      let l : Longer issue.before c.before = issued-before k.member k.here c w k.track k.held issue.before issue.after _ it issue.is in
      let order : d.acknowledged < d.issued = d.order in
      let early : length ack.before < length issue.before = (let a : length ack.before ≡ d.acknowledged = ack.at in let b : length issue.before ≡ d.issued = issue.at in omega arith) in
      let acked : In (Ack x) issue.before = earlier-in end.events issue.before issue.after ack.before ack.after _ (Ack x) issue.is ack.is early in
      let closed : ClosedCuts u.events s n = closed-run tasks s n in
      let g : InGroup u.events s n k.member.a.0 = in-its-group before first t rest s n ms pairs r k.member k.here in
      let p : LastCut u.events s n = closed.last k.member.a.0 g in
      let gone : IsUncut ms begun.events u.events s n x = to-uncut before first t rest s n ms pairs r x lost in
      record {
        member = gone.member;
        here = gone.here;
        track = gone.track;
        held = gone.held;
        last = p;
        acknowledged = before-last k.member.a.0 c p (Ack x) (subst (In (Ack x)) (sym l.is) (in-first issue.before l.more (Ack x) acked));
        lacked = λ h. gone.without (subst (In x) (sym (closed.moment gone.member.a.0 (in-its-group before first t rest s n ms pairs r gone.member gone.here) gone.cut p gone.track)) h);
      }
