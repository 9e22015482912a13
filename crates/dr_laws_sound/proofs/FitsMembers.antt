-- The plans that make a volume a member of a session, and end that.
use Rattle.std.proofs.Common.{ℕ, ◌≡◌, ◌≢◌, ◌≤◌, inl, inr, refl, ap, sym, ◌∙◌, subst, Bool, true, false, cond, not, ◌||◌, nat_lt, List, [], ◌∷◌, Option, Some, None, arith}
use Rattle.std.specs.Prelude.{◌==◌}
use Rattle.std.specs.List.{find}
use Rattle.std.proofs.lemmas.Bool.{and_parts, ltb-true, ltb-false, not-false}
use Rattle.std.proofs.lemmas.Option.{same_Some}
use Rattle.dr_ids.specs.declared.names.Member.{Member}
use Rattle.dr_model.specs.declared.state.Part.TheVariants.{Global}
use Rattle.dr_model.specs.Refusals.{server_off}
use Rattle.dr_model.specs.Layout.{is_part}
use Rattle.dr_model.specs.Sessions.{Session, session_in, has_place_of, busy}
use Rattle.dr_model.specs.Control.{Control, Fuse, Volume, World, is_volume}
use Rattle.dr_model.specs.Pairs.{is_kind}
use Rattle.dr_model.specs.Moves.{Move, RaiseAttempt, RaiseFloor, Leave}
use Rattle.dr_model.specs.Carry.{Make, Pass, Do, Entry}
use Rattle.dr_model.specs.Entries.{fields_at, is_running, copies_from, targets_of, pair_state}
use Rattle.dr_model.specs.PairEntries.{reach_refusal, send_refusal}
use Rattle.dr_model.specs.SessionEntries.{first_number, raise_attempt_on, raise_floor_on}
use Rattle.dr_model.specs.SessionPlans.{off_refusal, lead_refusal, member_with, mirrored_targets, is_mirrored_target, settled_target, the_only}
use Rattle.dr_model.specs.Groups.{In, MemberStands}
use Rattle.dr_model.specs.Attempts.{MayGo, GoesAs, NoneRevertible, seen, seen_in, roles}
use Rattle.dr_model.specs.Laws.{FlashFits, PartnerFits, Sound}
use Rattle.dr_model.specs.Allowed.{Runs}
use Rattle.dr_laws_sessions.specs.Frames.{Framed, NoPlace}
use Rattle.dr_facts.proofs.Lists.{from-filter, to-map}
use Rattle.dr_laws_sessions.proofs.Changes.{session-found, same-session}
use Rattle.dr_laws_sessions.proofs.Sound.{quiet-of}
use Rattle.dr_laws_attempts.proofs.Tables.{quiet-unflashed}
use Rattle.dr_laws_attempts.proofs.Members.{raised-low, attempts-added, attempts-removed}
use Rattle.dr_laws_sessions.proofs.Frames.{stands-grows}
use Rattle.dr_laws_sessions.proofs.Volumes.{grows-framed}
use Rattle.dr_laws_sessions.proofs.Members.{groups-added, groups-removed, places-differ, no-place}
use Rattle.dr_facts.proofs.Sessions.{in-none}
use Rattle.dr_laws_sessions.proofs.Silent.{placeless-silent, member-found}
use Rattle.dr_laws_sessions.proofs.PlanTables.{taken-quiet}
use Rattle.dr_laws_sessions.proofs.Housed.{housed-low}
use Rattle.dr_laws_sound.proofs.Turns.{done}
use Rattle.dr_laws_sound.proofs.RowsAfter.{idle}
use Rattle.dr_laws_sound.proofs.KeepsSound.{MayDo, Then}
use Rattle.dr_laws_messages.proofs.Members.{flights-added, flights-removed}
use Rattle.dr_laws_sound.proofs.NewMessages.{adds-same}
use Rattle.dr_laws_sound.proofs.TablesGo.{goes-added, goes-removed}
use Rattle.dr_laws_closed.proofs.Regroups.{regroups-stay, regroups-added, stays-removed}
use Rattle.dr_laws_sound.proofs.KeepsGroups.{secondaries-stay, secondaries-added}
use Rattle.dr_laws_sound.proofs.Cases.{Joins, added, expelled, one-passed}
use Rattle.dr_laws_sound.proofs.CopyFirst.{from}
use Rattle.dr_laws_sound.proofs.FitsFlash.{as_begun, sound-begun}
use Rattle.dr_laws_sound.proofs.FitsPairs.{reached, row, runs-done}
use Rattle.dr_laws_sound.proofs.FitsSessions.{sound-sessions, Orders}
use Rattle.dr_laws_sound.proofs.Along as along
use Rattle.dr_logic.proofs.Choices.{choose_some, not_chosen}
use Rattle.dr_facts.proofs.Parts.{global-part}
use Rattle.dr_facts.proofs.Refusals.{none-both, met}
use Rattle.dr_facts.proofs.Tables.{at_part}
use Rattle.dr_facts.proofs.Relations.{copies-from}
use Rattle.dr_logic.proofs.Options.{none_some}
use Rattle.dr_logic.proofs.Tables.{at_same}

-- the only one of a list is in it
only-in : (us : List ℕ) (c : ℕ) → the_only us ≡ Some c → In c us
only-in [] c h = absurd cc
only-in (d ∷ []) c h = inl (let e : Some d ≡ Some c = h in cc)
only-in (d ∷ e ∷ us) c h = absurd cc

settled-only : (k : Control) (o : Option ℕ) (c : ℕ) → settled_target k o ≡ Some c → o ≡ Some c
settled-only k None c h = absurd cc
settled-only k (Some d) c h = by ((fields_at k d).revertible || (fields_at k d).reversing) h
  where
    by : (b : Bool) → cond b None (Some d) ≡ Some c → Some d ≡ Some c
    by true h = absurd cc
    by false h = h

-- the sessions are as they were, and so are volumes, servers and sizes
record Kept (w v : World) : Type 0 where
  sound : Sound v
  frame : Framed w.control v.control

kept-done : (w v : World) (m : Move) (f : Option Fuse) → Kept w v → Sound (done v m f) → Kept w (done v m f)
kept-done w v m f old sound = record {
  sound = sound;
  frame = record {
    sessions = old.frame.sessions;
    volumes = old.frame.volumes;
    server = λ u. at_part (λ x. x.server) v.control.volume _ (row v m f) refl u ∙ old.frame.server u;
    tracks = λ u. at_part (λ x. x.tracks) v.control.volume _ (row v m f) refl u ∙ old.frame.tracks u;
  };
}

module _ (w : World) (s : Sound w) where
  begins : Kept w (as_begun w)
  begins = record { sound = sound-begun w s; frame = record { sessions = refl; volumes = refl; server = λ v. refl; tracks = λ v. refl } }

  -- ---- a member more

  module _ (i a c : ℕ) (x : Session) (joins : Joins w.control i a c x) where
    abbrev b : ℕ
    b = (fields_at w.control a).primary_partner

    abbrev m : Member
    m = member_with w.control a c

    on : Runs w a
    on = not-false (is_running a w.control) (one-passed (not (is_running a w.control)) (server_off (w.control.volume a).server) _ joins.copies).0

    checks : (is_kind Global (fields_at w.control a).primary ≡ true) × (send_refusal a b w.control ≡ None) × (lead_refusal b w.control ≡ None)
    checks = let rest = one-passed (not (is_kind Global (fields_at w.control a).primary)) (pair_state w.control a) _ (one-passed (not (is_running a w.control)) (server_off (w.control.volume a).server) _ joins.copies).1 in let pair = none-both (send_refusal a b w.control) _ rest.1 in (not-false (is_kind Global (fields_at w.control a).primary) rest.0, pair.0, pair.1)

    on_b : Runs w b
    on_b = reached w a b (none-both (reach_refusal a b w.control) _ checks.1).0

    pair : PartnerFits (is_volume w.control b) (w.control.volume a).server (w.control.volume b).server (w.control.volume a).tracks (w.control.volume b).tracks
    pair = s.rows.parts.secondary a b (choose_some (is_part (fields_at w.control a).primary) b (global-part (fields_at w.control a).primary checks.0))

    target : copies_from b (fields_at w.control c) ≡ true
    target =
        let only : In c (mirrored_targets w.control b) = only-in (mirrored_targets w.control b) c (settled-only w.control (the_only (mirrored_targets w.control b)) c joins.target) in
        let one = from-filter (λ u. is_mirrored_target (fields_at w.control u)) (targets_of w.control b) c only in
        (from-filter (λ u. copies_from b (fields_at w.control u)) w.control.volumes c one.0).1

    related : from w c ≡ Some b
    related = copies-from b (fields_at w.control c) target

    flash : FlashFits (is_volume w.control b) (from w b) (w.control.volume c).server (w.control.volume b).server (w.control.volume c).tracks (w.control.volume b).tracks
    flash = s.rows.structure.flash c b related

    stands : MemberStands w.control m
    stands = record {
      a = joins.there;
      b = pair.defined;
      c = s.rows.structure.defined c (and_parts (fields_at w.control c).related _ target).0;
      server = refl;
      apart = λ e. pair.apart (sym e);
      target_server = flash.same_server;
      tracks = sym pair.same_tracks;
      target_tracks = flash.same_tracks;
    }

    other : b ≢ c
    other e = none_some (subst (λ u. from w u ≡ None) e flash.plain) related

    on_c : Runs w c
    on_c = ap w.control.on flash.same_server ∙ on_b

    none : find (has_place_of m) w.control.sessions ≡ None
    none = in-none (find (has_place_of m) w.control.sessions) joins.places

    abbrev n : ℕ
    n = first_number w.control x.last m

    apart : NoPlace w.control.sessions m
    apart = no-place w.control.sessions m none

    -- nothing of its volumes is past the number
    record Raised (v : World) : Type 0 where
      kept : Kept w v
      attempt : (fields_at v.control a).attempt ≤ n
      seal : (fields_at v.control b).seal ≤ n
      floor : (fields_at v.control c).floor ≤ n
      free : is_part (fields_at v.control b).primary ≡ false

    -- and its primary and target have come to the number
    record Risen (v : World) : Type 0 where
      raised : Raised v
      held : n ≤ (fields_at v.control a).attempt
      past : n ≤ (fields_at v.control c).floor

    raised : Raised (as_begun w)
    raised = record { kept = begins; attempt = omega arith; seal = omega arith; floor = omega arith; free = not_chosen (is_part (fields_at w.control b).primary) (pair_state w.control b) checks.2 }

    abbrev To : World → List Entry → Type 0
    To = along.Along Sound Sound Risen MayDo

    -- no attempt up to n is flashed on the target
    floors : (v : World) → Raised v → n ≤ (fields_at v.control a).attempt → Runs v c → To v (raise_floor_on c n ∷ [])
    floors v h held on = along.along-entry Sound Sound Risen MayDo v (raise_floor_on c n) [] _ refl (by (nat_lt (fields_at v.control c).floor n) refl)
      where
        raised-floor : (f : Option Fuse) → (fields_at (done v (RaiseFloor c n) f).control c).floor ≡ n
        raised-floor f = ap (λ (x : Volume). x.fields.floor) (at_same v.control.volume c (row v (RaiseFloor c n) f))

        attempt-stays : (f : Option Fuse) → (fields_at (done v (RaiseFloor c n) f).control a).attempt ≡ (fields_at v.control a).attempt
        attempt-stays f = at_part (λ (x : Volume). x.fields.attempt) v.control.volume c (row v (RaiseFloor c n) f) refl a

        by : (b : Bool) → nat_lt (fields_at v.control c).floor n ≡ b → Then v (cond b (Do (Make (RaiseFloor c n))) Pass) (λ u. To u [])
        by true lt = (
          record { runs = on; allowed = tt; fits = tt; group = λ y q listed here is. absurd (apart c y q (subst (In y) h.kept.frame.sessions listed) here (inr (inr refl)) (inr (inr (sym is)))); ready = idle v c h.kept.sound.queue on },
          λ f y. along.along-nil Sound Sound Risen MayDo _ (record {
            raised = record {
              kept = kept-done w v (RaiseFloor c n) f h.kept y;
              attempt = subst (λ i. i ≤ n) (sym (attempt-stays f)) h.attempt;
              seal = subst (λ i. i ≤ n) (sym (at_part (λ (x : Volume). x.fields.seal) v.control.volume c (row v (RaiseFloor c n) f) refl b)) h.seal;
              floor = let e = raised-floor f in omega (arith, e);
              free = at_part (λ (x : Volume). is_part x.fields.primary) v.control.volume c (row v (RaiseFloor c n) f) refl b ∙ h.free;
            };
            held = subst (λ i. n ≤ i) (sym (attempt-stays f)) held;
            past = let e = raised-floor f in omega (arith, e);
          }),
        )
        by false lt = along.along-nil Sound Sound Risen MayDo v (record { raised = h; held = held; past = ltb-false (fields_at v.control c).floor n lt })

    -- nor made with the primary
    raises : To (as_begun w) (raise_attempt_on a n ∷ raise_floor_on c n ∷ [])
    raises = along.along-entry Sound Sound Risen MayDo (as_begun w) (raise_attempt_on a n) _ _ refl (by (nat_lt (fields_at w.control a).attempt n) refl)
      where
        raised-attempt : (f : Option Fuse) → (fields_at (done (as_begun w) (RaiseAttempt a n) f).control a).attempt ≡ n
        raised-attempt f = ap (λ (x : Volume). x.fields.attempt) (at_same w.control.volume a (row (as_begun w) (RaiseAttempt a n) f))

        by : (b : Bool) → nat_lt (fields_at w.control a).attempt n ≡ b → Then (as_begun w) (cond b (Do (Make (RaiseAttempt a n))) Pass) (λ u. To u (raise_floor_on c n ∷ []))
        by true lt = (
          record {
            runs = on;
            allowed = record { idle = placeless-silent w.control m a s.groups none (inl refl); higher = let low = ltb-true (fields_at w.control a).attempt n lt in omega arith };
            fits = tt;
            group = λ y q listed here is. absurd (apart a y q listed here (inl refl) (inl (sym is)));
            ready = idle (as_begun w) a begins.sound.queue on;
          },
          λ f y. floors _ (record {
            kept = kept-done w (as_begun w) (RaiseAttempt a n) f begins y;
            attempt = let e = raised-attempt f in omega (arith, e);
            seal = subst (λ i. i ≤ n) (sym (at_part (λ (x : Volume). x.fields.seal) w.control.volume a (row (as_begun w) (RaiseAttempt a n) f) refl b)) raised.seal;
            floor = subst (λ i. i ≤ n) (sym (at_part (λ (x : Volume). x.fields.floor) w.control.volume a (row (as_begun w) (RaiseAttempt a n) f) refl c)) raised.floor;
            free = at_part (λ (x : Volume). is_part x.fields.primary) w.control.volume a (row (as_begun w) (RaiseAttempt a n) f) refl b ∙ raised.free;
          }) (let e = raised-attempt f in omega (arith, e)) (runs-done (as_begun w) (RaiseAttempt a n) f c on_c),
        )
        by false lt = floors (as_begun w) raised (ltb-false (fields_at w.control a).attempt n lt) on_c

    -- it is a member as the step ends
    joined : (v : World) → Risen v → Sound (record v { control = (added w.control i x m).last v.control })
    joined v e =
        let h : Raised v = e.raised in
        let kept : Kept w v = h.kept in
        let there : MemberStands v.control m = stands-grows w.control v.control m (grows-framed w.control v.control kept.frame) stands in
        let found : session_in v.control.sessions i ≡ Some x = ap (λ ss. session_in ss i) kept.frame.sessions ∙ joins.found in
        let free : find (has_place_of m) v.control.sessions ≡ None = ap (λ ss. find (has_place_of m) ss) kept.frame.sessions ∙ none in
        sound-sessions v _ (groups-added v.control i n x m kept.sound.groups found (taken-quiet w.control x a joins.free) (housed-low v.control m kept.sound.housed there) there (places-differ v.control m there other) free) (secondaries-added v.control i n m kept.sound.groups h.free kept.sound.secondaries)
        (attempts-added v.control i n x m kept.sound.groups kept.sound.attempts found (taken-quiet w.control x a joins.free) free joins.inside h.attempt h.seal h.floor (raised-low x.last _ (fields_at v.control a).attempt e.held) (raised-low x.last _ (fields_at v.control c).floor e.past))
        (flights-added v.control i n x m kept.sound.groups kept.sound.attempts kept.sound.flights found (taken-quiet w.control x a joins.free) free joins.inside h.attempt h.seal h.floor (raised-low x.last _ (fields_at v.control a).attempt e.held) (raised-low x.last _ (fields_at v.control c).floor e.past)) kept.sound

    pub orders-added : Orders w (added w.control i x m)
    orders-added = record {
      ends = Risen;
      complete = λ v e. e.raised.kept.sound;
      begins = sound-begun w s;
      entries = raises;
      follows = λ q. tt;
      last = joined;
      turns = λ v e. let kept : Kept w v = e.raised.kept in regroups-added v.control.sessions kept.sound.groups.once i n x m (ap (λ ss. session_in ss i) kept.frame.sessions ∙ joins.found) (quiet-of x (taken-quiet w.control x a joins.free)) (ap (λ ss. find (has_place_of m) ss) kept.frame.sessions ∙ none);
      adds = λ v e. adds-same v.control.sessions v.control.flight v.control.flight refl;
      goes = λ v e. let kept : Kept w v = e.raised.kept in goes-added v.control kept.sound.groups i n x m (ap (λ ss. session_in ss i) kept.frame.sessions ∙ joins.found) (quiet-of x (taken-quiet w.control x a joins.free));
    }

  -- ---- a member less

  -- its target counts no more
  record Gone (m : Member) (v : World) : Type 0 where
    kept : Kept w v
    plain : (fields_at v.control m.c.0).member ≡ false

  pub orders-expelled : (i a : ℕ) (x : Session) (m : Member) → session_in w.control.sessions i ≡ Some x → find (λ (m : Member). m.a.0 == a) x.members ≡ Some m → busy x.mirror ≡ None → off_refusal w.control (w.control.volume m.c.0).server ≡ None → Orders w (expelled i m)
  orders-expelled i a x m found is idles on =
      let first : World = as_begun w in
      let leave : Move = Leave m.c.0 m.a.0 i in
      let runs : Runs first m.c.0 = met (w.control.on (w.control.volume m.c.0).server) (server_off (w.control.volume m.c.0).server) on in
      let listed : In x w.control.sessions = (session-found w.control.sessions i x found).0 in
      let here : In m x.members = (member-found x.members a m is).0 in
      let quiet : NoneRevertible (seen_in w.control x) = quiet-unflashed (roles w.control) x (quiet-of x idles) (s.attempts.sessions x listed) in
      let lone : ((y : Session) (q : Member) → In y w.control.sessions → In q y.members → q.c.0 ≡ m.c.0 → x ≡ y) = λ y q h j e.
      same-session w.control.sessions x y s.groups.once listed h (s.groups.lone.one m.c.0 x y m q listed h here j (inr (inr refl)) (inr (inr (sym e)))).0 in
      let free : MayGo w.control m.c.0 = record {
        plain = quiet (seen (roles w.control) m) (to-map (seen (roles w.control)) x.members m here);
        settled = λ member y q h j e. subst (λ z. NoneRevertible (seen_in w.control z)) (lone y q h j e) quiet;
      } in
      let there : (x.number ≡ i) = (session-found w.control.sessions i x found).1 in
      let goes : GoesAs w.control m.c.0 (Some m.a.0) i = record {
        counted = λ member y q h j e.
            let one = s.groups.lone.one m.c.0 x y m q listed h here j (inr (inr refl)) (inr (inr (sym e))) in
            (ap (λ (q : Member). Some q.a.0) one.1, sym there ∙ one.0);
        named = λ p e. record { place = record { session = x; listed = listed; number = there; member = m; here = here; is = (same_Some _ _ e) }; target = refl };
      } in
      record {
        ends = Gone m;
        complete = λ v e. e.kept.sound;
        begins = sound-begun w s;
        entries = along.along-now Sound Sound (Gone m) MayDo first leave [] (record { runs = runs; allowed = tt; fits = tt; group = (free, goes); ready = idle first m.c.0 begins.sound.queue runs })
            (λ f y. along.along-nil Sound Sound (Gone m) MayDo _ (record { kept = kept-done w first leave f begins y; plain = ap (λ (z : Volume). z.fields.member) (at_same w.control.volume m.c.0 (row first leave f)) }));
        follows = λ q. tt;
        last = λ v e.
            let f : session_in v.control.sessions i ≡ Some x = ap (λ ss. session_in ss i) e.kept.frame.sessions ∙ found in
            let now : Sound v = e.kept.sound in
            let gone : ((q : Member) → In q x.members → q.a.0 ≡ m.a.0 → (fields_at v.control q.c.0).member ≡ false) = λ q h same. (
            let one = now.groups.lone.one m.a.0 x x m q (session-found v.control.sessions i x f).0 (session-found v.control.sessions i x f).0 here h (inl refl) (inl (sym same)) in
            subst (λ (z : Member). (fields_at v.control z.c.0).member ≡ false) one.1 e.plain) in
            sound-sessions v _ (groups-removed v.control i m.a.0 x now.groups f idles) (secondaries-stay v.control _ (stays-removed v.control.sessions now.groups.once i m.a.0) now.secondaries) (attempts-removed v.control i m.a.0 x now.groups now.attempts f idles gone)
            (flights-removed v.control i m.a.0 x now.groups now.attempts now.flights f idles gone) now;
        turns = λ v e. regroups-stay _ _ (stays-removed v.control.sessions e.kept.sound.groups.once i m.a.0);
        adds = λ v e. adds-same v.control.sessions v.control.flight v.control.flight refl;
        goes = λ v e. goes-removed v.control e.kept.sound.groups i m.a.0 x (ap (λ ss. session_in ss i) e.kept.frame.sessions ∙ found) (quiet-of x idles);
      }
