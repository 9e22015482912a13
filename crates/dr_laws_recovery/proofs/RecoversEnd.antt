-- At the end of a recovery none of the session is revertible, and what it answers is the group that was to be.
use Rattle.std.proofs.Common.{ℕ, ◌≡◌, inl, inr, refl, ap, sym, ◌∙◌, subst, Bool, true, false, cond, ◌&&◌, List, [], ◌∷◌, ◌++◌, map, filter, Option, Some, None, rules}
use Rattle.dr_ids.specs.declared.names.Member.{Member}
use Rattle.dr_ids.specs.declared.refusal.Refusal.{Refusal}
use Rattle.dr_ids.specs.declared.refusal.Decision.{Decision}
use Rattle.dr_ids.specs.declared.refusal.Decision.TheVariants.{NoMember, Nothing, RevertAll, CommitRest, RevertSome, Impossible}
use Rattle.dr_model.specs.declared.event.Event.{Event}
use Rattle.dr_model.specs.declared.event.Event.TheVariants.{Recovered}
use Rattle.dr_model.specs.Layout.{Fields}
use Rattle.dr_model.specs.Decisions.{numbers_in, decision}
use Rattle.dr_model.specs.Control.{Fuse, Volume, World}
use Rattle.dr_model.specs.Moves.{Move, Commit, Revert, target, keeps_staged, moved_keeping}
use Rattle.dr_model.specs.Carry.{Act, Make, Next, Pass, Do, End, Entry, carry}
use Rattle.dr_model.specs.Carried.{begun}
use Rattle.dr_model.specs.Entries.{fields_at}
use Rattle.dr_model.specs.SessionEntries.{counts_in, shown_of, is_flashed, shown_by_members}
use Rattle.dr_model.specs.RecoveryPlans.{decided_in, secondary_refusal, take_over_on, settle_on, end_recovery, recover_entries, recover_done, recover_plan, group_of, group_number, says_group}
use Rattle.dr_model.specs.PlanParts.{Plan, unless, on_session}
use Rattle.dr_model.specs.Sessions.{Session, session_in, members_in}
use Rattle.dr_model.specs.Groups.{In}
use Rattle.dr_model.specs.Attempts.{roles, seen, seen_in, NoneRevertible}
use Rattle.dr_model.specs.Laws.{Sound}
use Rattle.dr_facts.proofs.Lists.{from-filter, to-map}
use Rattle.dr_laws_sessions.proofs.Changes.{session-found}
use Rattle.dr_laws_attempts.proofs.Recover.{nothing-plain, nobody-plain}
use Rattle.dr_laws_attempts.proofs.Tables.{session-possible}
use Rattle.dr_laws_attempts.proofs.Orders.{unflashed-plain}
use Rattle.dr_model.specs.Recovery.{decided_over, goes_back, remains_in, number_after, common, view_before}
use Rattle.dr_laws_recovery.specs.Recovered.{recovered_in, HasRecovered}
use Rattle.dr_model.specs.Views.{view}
use Rattle.dr_facts.proofs.Tables.{at_cases}
use Rattle.dr_laws_sound.proofs.Turns.{next_of, carried_in, done}
use Rattle.dr_laws_sound.proofs.FitsFlash.{as_begun}
use Rattle.dr_laws_recovery.proofs.DecidedOver.{members-decide, turns, turns-last, counts-plain, counts-one, plain-group}
use Rattle.dr_laws_recovery.proofs.RecoverySame.{filter-same, map-same}
use Rattle.dr_laws_recovery.proofs.Recovers.{MayRecover, Inner, each-act, begins, done-goes, reverts, keeps-recovery}
use Rattle.dr_laws_recovery.proofs.Keeping.{LeftBut, left-passes, none-left}
use Rattle.dr_logic.proofs.Tables.{at_same}
use Rattle.dr_laws_sound.proofs.Along as along

module _ (w : World) (sound : Sound w) (s : ℕ) (x : Session) (found : session_in w.control.sessions s ≡ Some x) where
  abbrev I : World → Type 0
  I = Inner w sound s

  abbrev May : World → Act → Type 0
  May = MayRecover w s

  -- no member's target is revertible
  abbrev Settled : World → Type 0
  Settled u = (m : Member) → In m x.members → (fields_at u.control m.c.0).revertible ≡ false

  -- and the journal was told the group at last
  abbrev Told : World → Type 0
  Told u = (es : List Event) × (u.events ≡ es ++ Recovered s (group_number (recovered_in w s).group) ∷ [])

  abbrev E : World → Type 0
  E u = I u × (Settled u × Told u)

  abbrev Some_way : World → List Entry → Type 0
  Some_way = along.Along I I I May

  abbrev To_end : World → List Entry → Type 0
  To_end = along.Along I I E May

  found-in : (u : World) → I u → session_in u.control.sessions s ≡ Some x
  found-in u i = ap (λ ss. session_in ss s) i.1.sessions ∙ found

  -- ---- entries that come before

  first-next : (u : World) (n : Next) (more less : World → Type 0) → ((v : World) → I v → more v → less v) → I u → along.along_next I I May u n more → along.along_next I I May u n less
  first-next u Pass more less on i a = on u i a
  first-next u (End r) more less on i a = a
  first-next u (Do d) more less on i a = (a.0, λ f j. on _ j (a.1 f j))

  first : (ps es : List Entry) → ((u : World) → I u → Some_way u es → To_end u es) → (u : World) → I u → Some_way u (ps ++ es) → To_end u (ps ++ es)
  first [] es go u i a = go u i a
  first (d ∷ ps) es go u i a =
      along.along-entry I I E May u d (ps ++ es) (d u.control) refl
      (first-next u (d u.control) (λ v. Some_way v (ps ++ es)) (λ v. To_end v (ps ++ es)) (λ v i a. first ps es go v i a) i (along.along-comes I I I May u d (ps ++ es) (d u.control) refl a))

  -- ---- one target after another

  -- each is left to do, or not revertible
  abbrev NotRevertible : World → Member → Type 0
  NotRevertible u m = (fields_at u.control m.c.0).revertible ≡ false

  abbrev Left : World → List Member → Type 0
  Left u = LeftBut x.members (NotRevertible u)

  left-done : (u : World) (a : Move) (f : Option Fuse) (q : Member) (rest : List Member) → target a ≡ q.c.0 → (next_of u a).revertible ≡ false → Left u (q ∷ rest) → Left (done u a f) rest
  left-done u a f q rest is plain left =
      let y : Volume = moved_keeping (keeps_staged a) (u.control.volume (target a)) (next_of u a) (carried_in u a) in
      left-passes x.members (NotRevertible u) (NotRevertible (done u a f)) q rest left
      (λ m. at_cases (λ c (y : Volume). (fields_at u.control c).revertible ≡ false → y.fields.revertible ≡ false) u.control.volume (target a) y (λ h. plain) (λ c ne h. h) m.c.0)
      (subst (λ c. (fields_at (done u a f).control c).revertible ≡ false) is (ap (λ (y : Volume). y.fields.revertible) (at_same u.control.volume (target a) y) ∙ plain))

  -- an entry that makes a move of its member's target where that is revertible from attempt n
  module _ (n : ℕ) (last : n ≡ x.last) (act : Member → Move) (at_target : (m : Member) → target (act m) ≡ m.c.0) (plain : (u : World) (m : Member) → (next_of u (act m)).revertible ≡ false) where
    abbrev turn_on : Member → Entry
    turn_on m k = cond (is_flashed n (fields_at k m.c.0)) (Do (Make (act m))) Pass

    all-turn : (ms : List Member) (es : List Entry) → ((m : Member) → In m ms → In m x.members) → ((u : World) → I u → Settled u → Some_way u es → To_end u es) → (u : World) → I u → Left u ms → Some_way u (map turn_on ms ++ es) → To_end u (map turn_on ms ++ es)
    all-turn [] es here go u i left a = go u i (none-left x.members (NotRevertible u) left) a
    all-turn (m ∷ ms) es here go u i left a =
        along.along-entry I I E May u (turn_on m) (map turn_on ms ++ es) (turn_on m u.control) refl
        (by (λ v i left a. all-turn ms es (λ q h. here q (inr h)) go v i left a) (is_flashed n (fields_at u.control m.c.0)) refl (along.along-comes I I I May u (turn_on m) (map turn_on ms ++ es) (turn_on m u.control) refl a))
      where
        by : ((v : World) → I v → Left v ms → Some_way v (map turn_on ms ++ es) → To_end v (map turn_on ms ++ es)) → (b : Bool) → is_flashed n (fields_at u.control m.c.0) ≡ b
            → along.along_next I I May u (cond b (Do (Make (act m))) Pass) (λ v. Some_way v (map turn_on ms ++ es)) → along.along_next I I May u (cond b (Do (Make (act m))) Pass) (λ v. To_end v (map turn_on ms ++ es))
        by on true is a = (a.0, λ f j. on (done u (act m) f) j (left-done u (act m) f m ms (at_target m) (plain u m) left) (a.1 f j))
        by on false is a = on u i (left-passes x.members (NotRevertible u) (NotRevertible u) m ms left (λ q h. h) (unflashed-plain u.control i.0.groups i.0.attempts s x (found-in u i) m (here m (inl refl)) n (sym last) is)) a

  -- ---- the group that is left

  module _ (u : World) (i : I u) (settled : Settled u) where
    abbrev f : ℕ → Fields
    f v = fields_at u.control v

    there : In x u.control.sessions × (x.number ≡ s)
    there = session-found u.control.sessions s x (found-in u i)

    plain : (v : ℕ) → In v u.control.volumes → counts_in s (f v) ≡ true → (f v).revertible ≡ false
    plain = counts-plain u.control i.0.groups i.0.attempts s x there.0 there.1 settled

    back : (v : ℕ) → In v u.control.volumes → counts_in s (f v) ≡ true → goes_back (reverts w s u) (f v) ≡ false
    back v h c = by (reverts w s u) (f v).revertible (plain v h c)
      where
        by : (b r : Bool) → r ≡ false → (b && r) ≡ false
        by b r h = grind rules

    remains : (v : ℕ) → In v u.control.volumes → remains_in s (reverts w s u) (f v) ≡ counts_in s (f v)
    remains v h = by (counts_in s (f v)) refl
      where
        by : (n : Bool) → counts_in s (f v) ≡ n → (n && cond (goes_back (reverts w s u) (f v)) (f v).member true) ≡ n
        by true c = ap (λ g. cond g (f v).member true) (back v h c)
        by false c = refl

    -- the group is the number of those that count
    numbers-are : common (numbers_in (map (λ v. (f v).sequence) (filter (λ v. counts_in s (f v)) u.control.volumes))) ≡ (recovered_in w s).group
    numbers-are =
        sym (ap (λ ns. common (numbers_in ns))
        (ap (map (λ v. number_after (reverts w s u) (f v))) (filter-same _ _ u.control.volumes remains)
        ∙ map-same _ _ (filter (λ v. counts_in s (f v)) u.control.volumes) (λ v h. let p = from-filter (λ v. counts_in s (f v)) u.control.volumes v h in ap (λ g. cond g (f v).previous_sequence (f v).sequence) (back v p.0 p.1))))
        ∙ (keeps-recovery w s u i.1).group

    group-is : group_of (decided_in s u.control) ≡ (recovered_in w s).group
    group-is =
        ap group_of (ap (λ o. decision (shown_by_members s (members_in o) u.control)) (found-in u i) ∙ members-decide u.control i.0.groups i.0.attempts s x there.0 there.1)
        ∙ (plain-group (λ v. shown_of (f v)) (filter (λ v. counts_in s (f v)) u.control.volumes) (λ v h. let p = from-filter (λ v. counts_in s (f v)) u.control.volumes v h in plain v p.0 p.1)
        ∙ numbers-are)

    counted : filter (λ v. counts_in s (f v)) u.control.volumes ≡ (recovered_in w s).remaining
    counted = sym (filter-same _ _ u.control.volumes remains) ∙ (keeps-recovery w s u i.1).remaining

    counts : (v : ℕ) → In v (recovered_in w s).remaining → In v u.control.volumes × (counts_in s (f v) ≡ true)
    counts v h = from-filter (λ v. counts_in s (f v)) u.control.volumes v (subst (In v) (sym counted) h)

    has-recovered : HasRecovered w u s
    has-recovered = record {
      counted = counted;
      settled = λ v h. let c = counts v h in plain v c.0 c.1;
      numbered = λ v h. let c = counts v h in sym numbers-are ∙ ap common (counts-one u.control i.0.groups i.0.attempts s x there.0 there.1 settled v c.0 c.1);
      shows = λ v t h lt. let c = counts v h in
          sym (ap (λ g. cond g (view_before (fields_at u.control) u.contents v t) (view (fields_at u.control) u.contents v t)) (back v c.0 c.1)) ∙ (keeps-recovery w s u i.1).images v t h lt;
    }

  -- ---- the whole recovery

  ends : (u : World) → I u → Settled u → Some_way u (end_recovery s ∷ []) → To_end u (end_recovery s ∷ [])
  ends u i settled a =
      along.along-entry I I E May u (end_recovery s) [] (end_recovery s u.control) refl (
        (along.along-comes I I I May u (end_recovery s) [] (end_recovery s u.control) refl a).0,
        λ f j. along.along-nil I I E May _ (j, (settled, (u.events, ap (λ g. u.events ++ Recovered s (group_number g) ∷ []) (group-is u i settled)))),
      )

  abbrev told : Decision
  told = decided_in s w.control

  told-is : told ≡ decision (shown_by_members s x.members w.control)
  told-is = ap (λ o. decision (shown_by_members s (members_in o) w.control)) found

  over-is : told ≡ decided_over (fields_at w.control) w.control.volumes s
  over-is = let there = session-found w.control.sessions s x found in told-is ∙ members-decide w.control sound.groups sound.attempts s x there.0 there.1

  last-of : (d : Decision) (n : ℕ) → told ≡ d → turns d ≡ Some n → n ≡ x.last
  last-of d n is e =
      let there = session-found w.control.sessions s x found in
      turns-last w.control sound.groups sound.attempts s x there.0 there.1 n (ap turns (sym over-is ∙ is) ∙ e)

  -- where nothing is to do, none is revertible
  calm : NoneRevertible (seen_in w.control x) → (ds : List Entry) → (u : World) → I u → Some_way u (ds ++ end_recovery s ∷ []) → To_end u (ds ++ end_recovery s ∷ [])
  calm none ds = first ds (end_recovery s ∷ []) (λ u i a. ends u i (λ m h. i.1.plain m.c.0 (none (seen (roles w.control) m) (to-map (seen (roles w.control)) x.members m h))) a)

  settles : (d : Decision) → told ≡ d → (u : World) → I u → Some_way u (map (settle_on s d) x.members ++ end_recovery s ∷ []) → To_end u (map (settle_on s d) x.members ++ end_recovery s ∷ [])
  settles NoMember is = calm (nobody-plain w.control sound.groups sound.attempts s x found (sym told-is ∙ is)) (map (settle_on s NoMember) x.members)
  settles (Nothing n) is = calm (nothing-plain w.control sound.groups sound.attempts s x found n (sym told-is ∙ is)) (map (settle_on s (Nothing n)) x.members)
  settles (CommitRest n) is = λ u i. all-turn n (last-of (CommitRest n) n is refl) (λ m. Commit m.c.0 m.a.0 s n) (λ m. refl) (λ u m. refl) x.members (end_recovery s ∷ []) (λ m h. h) ends u i (λ m h. inl h)
  settles (RevertAll n) is = λ u i. all-turn n (last-of (RevertAll n) n is refl) (λ m. Revert m.c.0 m.a.0 s n) (λ m. refl) (λ u m. refl) x.members (end_recovery s ∷ []) (λ m h. h) ends u i (λ m h. inl h)
  settles (RevertSome o n) is = λ u i. all-turn n (last-of (RevertSome o n) n is refl) (λ m. Revert m.c.0 m.a.0 s n) (λ m. refl) (λ u m. refl) x.members (end_recovery s ∷ []) (λ m h. h) ends u i (λ m h. inl h)
  settles (Impossible a b) is = absurd (session-possible w.control s x a b sound.groups sound.attempts found (sym told-is ∙ is))

  -- ---- the answer

  module _ (running : secondary_refusal x.members w.control ≡ None) where
    abbrev p : Plan
    p = recover_plan w.control s

    is : p ≡ recover_done s told x.members
    is = ap (λ o. on_session o (λ x. unless (secondary_refusal x.members w.control) (recover_done s told x.members))) found ∙ ap (λ o. unless o (recover_done s told x.members)) running

    from-end : (u : World) (r : Option Refusal) → r ≡ None → along.EndedBy I I E May u r → E u
    from-end u None e k = k
    from-end u (Some r) e k = absurd cc

    abbrev Ended : Plan → Type 0
    Ended q = (carry (begun w q) q.entries).1 ≡ None → E (carry (begun w q) q.entries).0

    pub ended : Ended p
    ended = subst Ended (sym is) (λ none. from-end _ _ none (along.along I I E May (each-act w sound s) (as_begun w) (recover_entries s told x.members) (begins w sound s)
        (first (map take_over_on x.members) (map (settle_on s told) x.members ++ end_recovery s ∷ []) (settles told refl) (as_begun w) (begins w sound s) (done-goes w sound s s x found running).entries)))

    pub answers-group : (carry (begun w p) p.entries).1 ≡ None → p.says (carry (begun w p) p.entries).0.control ≡ says_group (decided_over (fields_at w.control) w.control.volumes s) (recovered_in w s).group
    answers-group none =
        let u : World = (carry (begun w p) p.entries).0 in
        let e = ended none in
        ap (λ (q : Plan). q.says u.control) is ∙ (λ i. says_group (over-is i) (group-is u e.0 e.1.0 i))

    pub group-ended : (carry (begun w p) p.entries).1 ≡ None → group_of (decided_in s (carry (begun w p) p.entries).0.control) ≡ (recovered_in w s).group
    group-ended none = let e = ended none in group-is (carry (begun w p) p.entries).0 e.0 e.1.0

    pub has-ended : (carry (begun w p) p.entries).1 ≡ None → HasRecovered w (carry (begun w p) p.entries).0 s
    has-ended none = let e = ended none in has-recovered (carry (begun w p) p.entries).0 e.0 e.1.0

    pub told-group : (carry (begun w p) p.entries).1 ≡ None → Told (carry (begun w p) p.entries).0
    told-group none = (ended none).1.1
