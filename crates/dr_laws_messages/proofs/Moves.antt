-- What the messages in flight say stays in each kind of move that comes where it may, in the first hold of an attempt, and where neither
-- sessions nor messages change.
use Rattle.std.proofs.Common.{ℕ, ◌≡◌, refl, sym, ◌∙◌, subst, true, false, arith, List, [], ◌∷◌, ◌++◌}
use Rattle.std.proofs.Math.Path.{fun_ext}
use Rattle.dr_logic.specs.Tables.{at}
use Rattle.dr_ids.specs.declared.refusal.PhaseName.{PhaseName}
use Rattle.dr_model.specs.Decisions.{Shown}
use Rattle.dr_model.specs.Layout.{no_fields}
use Rattle.dr_model.specs.Control.{Control, Volume, new_volume, is_volume}
use Rattle.dr_model.specs.Pairs.{held_for}
use Rattle.dr_model.specs.Moves.{Move, Carried, target, next_fields}
use Rattle.dr_model.specs.Entries.{fields_at}
use Rattle.dr_model.specs.Sessions.{Session, changed, begun}
use Rattle.dr_model.specs.Messages.{Flight, started}
use Rattle.dr_model.specs.Groups.{Groups, IsMember, OpensAttempt}
use Rattle.dr_model.specs.Attempts.{Roles, role_of, roles, Seen, all_seen, phase_of, owed_of, reports_of, IsAttempt, AttemptsIn, Attempts, InAttempt}
use Rattle.dr_model.specs.Flights.{members_at, FlightFits, FlightsIn, Flights}
use Rattle.dr_laws_sessions.specs.Frames.{Moves}
use Rattle.dr_laws_attempts.proofs.Places.{Turning, Stays, One, Steps, all-apart}
use Rattle.dr_laws_attempts.proofs.Moves.{at_map, roles-moved, keeps}
use Rattle.dr_laws_attempts.proofs.Tables.{with-opens, opened-steps}
use Rattle.dr_laws_attempts.proofs.Volumes.{no-place}
use Rattle.dr_laws_messages.proofs.Eased.{fits-fewer}
use Rattle.dr_laws_messages.proofs.Turned.{fits-on}
use Rattle.dr_laws_messages.proofs.Turns.{flights-begun}
use Rattle.dr_laws_messages.proofs.Messages.{members-at}

turning-fits : (f : Flight) (s : ℕ) (p : PhaseName) (n : ℕ) (owed : List ℕ) (reports : List Shown) (vs us : List Seen) → IsAttempt p n owed reports vs → FlightFits f s p n owed reports vs → ((server : ℕ) → members_at server us ≡ members_at server vs)
    → Turning f s p n owed reports vs us → FlightFits f s p n owed reports us
turning-fits f s p n owed reports vs us law fits same (Stays is) = subst (λ vs. FlightFits f s p n owed reports vs) (sym is) fits
turning-fits f s p n owed reports vs us law fits same (One v k move may) = fits-on f s p n owed reports vs (record { numbers = law.numbers; follows = law.follows }) fits v us same k move may

pub steps-fit : (f : Flight) (ss : List Session) (T S : Roles) → AttemptsIn ss T → FlightsIn f ss T → Steps f ss T S → FlightsIn f ss S
steps-fit f ss T S law flights steps = record {
  homes = flights.homes;
  fences = flights.fences;
  each = λ z i. turning-fits f z.number (phase_of z.mirror) z.last (owed_of z.mirror) (reports_of z.mirror) (all_seen T z.members) (all_seen S z.members) (law.sessions z i) (flights.each z i)
      (λ server. members-at S server z.members ∙ sym (members-at T server z.members)) (steps.turns z i);
}

-- where sessions, messages, and what volumes say of attempts are others by name alone
by-name : (j : Control) (f : Flight) (ss : List Session) (T : Roles) → j.flight ≡ f → j.sessions ≡ ss → roles j ≡ T → FlightsIn f ss T → Flights j
by-name j f ss T told same stays flights = subst (λ f. FlightsIn f j.sessions (roles j)) (sym told) (subst (λ ss. FlightsIn f ss (roles j)) (sym same) (subst (λ T. FlightsIn f ss T) (sym stays) flights))

pub flights-still : (k j : Control) → j.sessions ≡ k.sessions → j.flight ≡ k.flight → ((v : ℕ) → roles j v ≡ roles k v) → Flights k → Flights j
flights-still k j same told stays flights = by-name j k.flight k.sessions (roles k) told same (fun_ext stays) flights

pub flights-move : (k j : Control) (m : Move) (c : Carried) → j.sessions ≡ k.sessions → j.flight ≡ k.flight → Moves k j (target m) (next_fields m k.volume) c → InAttempt k m → Groups k → Attempts k → Flights k → Flights j
flights-move k j m c same told moves a groups law flights =
    by-name j k.flight k.sessions (at (roles k) (target m) (role_of (next_fields m k.volume))) told same (roles-moved k j (target m) (next_fields m k.volume) c moves)
    (steps-fit k.flight k.sessions (roles k) (at (roles k) (target m) (role_of (next_fields m k.volume))) law flights (keeps k groups law flights m a))

pub flights-opened : (k j : Control) (v s n : ℕ) (c : Carried) → j.sessions ≡ k.sessions → j.flight ≡ k.flight → Moves k j v (held_for n (fields_at k v)) c → OpensAttempt k v s n → Groups k → Attempts k → Flights k → Flights (record j { sessions = changed s begun j.sessions })
flights-opened k j v s n c same told moves opens groups law flights = let p : IsMember k v s = opens.place in
    by-name (record j { sessions = changed s begun j.sessions }) k.flight (changed s begun k.sessions) (at (roles k) v (record (roles k v) { attempt = n; recording = true; held = true })) told (λ i. changed s begun (same i)) (roles-moved k j v (held_for n (fields_at k v)) c moves)
    (steps-fit k.flight (changed s begun k.sessions) (roles k) (at (roles k) v (record (roles k v) { attempt = n; recording = true; held = true })) (with-opens k groups law v s n opens)
    (flights-begun k groups law flights s p.session p.mirror p.listed p.number p.has_master opens.idle) (opened-steps k groups law v s n opens))

-- ---- a volume is defined, a server started

pub flights-defined : (k : Control) (v server tracks : ℕ) → is_volume k v ≡ false → Groups k → Flights k → Flights (record k { volumes = k.volumes ++ v ∷ []; volume = at k.volume v (new_volume server tracks) })
flights-defined k v server tracks new groups flights =
    by-name (record k { volumes = k.volumes ++ v ∷ []; volume = at k.volume v (new_volume server tracks) }) k.flight k.sessions (at (roles k) v (role_of no_fields)) refl refl
    (fun_ext (λ u. at_map (λ (y : Volume). role_of y.fields) k.volume v (new_volume server tracks) u))
    (record {
      homes = flights.homes;
      fences = flights.fences;
      each = λ z i. subst (λ vs. FlightFits k.flight z.number (phase_of z.mirror) z.last (owed_of z.mirror) (reports_of z.mirror) vs) (sym (all-apart (roles k) v (role_of no_fields) z.members (λ m here. no-place k v new groups z m i here))) (flights.each z i);
    })

pub flights-started : (k : Control) (server : ℕ) → Flights k → Flights (record k { flight = started server k.flight })
flights-started k server flights = record {
  homes = flights.homes;
  fences = flights.fences;
  each = λ x i. fits-fewer k.flight (started server k.flight) x.number (record { orders = λ m o. record { here = o.here; session = o.session; starts = o.starts; asks = o.asks }; fence = λ y. omega arith })
      (phase_of x.mirror) x.last (owed_of x.mirror) (reports_of x.mirror) (all_seen (roles k) x.members) refl (flights.each x i) (λ m h at. h);
}
