-- What stays true of every flight.
use Rattle.std.proofs.Common.{◌≡◌, ◌<◌, ◌≤◌, ℕ, Bool, List, filter, subst, sym, All, AllPairs}
use Rattle.std.proofs.lemmas.List.Elements.{All-filter}
use Rattle.std.proofs.lemmas.List.Kept.{AllPairs-filter}
use Rattle.dr_model.specs.Messages.{Message, Flight}
use Rattle.dr_ctl.specs.Kept.{KeptFlight, AreRows}
use Rattle.dr_ctl.specs.Sound.{IsNumbered, IsSoundFlight}

-- some of the messages
pub numbered-filter : (f : Flight) (p : Message → Bool) → IsNumbered f → IsNumbered (record f { messages = filter p f.messages })
numbered-filter f p s = record { given = All-filter p (λ m. m.number ≤ f.made) f.messages s.given; order = AllPairs-filter (λ m q. m.number < q.number) p f.messages s.order }

-- a flight whose messages are some of those of one that is sound
pub sound-filter : (t u : KeptFlight) (p : Message → Bool) → u.messages ≡ filter p t.messages → u.made ≡ t.made → u.fences ≡ t.fences → IsSoundFlight t → IsSoundFlight u
sound-filter t u p is made fences s = record {
  numbered = record {
    given = subst (λ (n : ℕ). All (λ (m : Message). m.number ≤ n) u.messages) (sym made) (subst (λ (ms : List Message). All (λ m. m.number ≤ t.made) ms) (sym is) (All-filter p (λ m. m.number ≤ t.made) t.messages s.numbered.given));
    order = subst (λ (ms : List Message). AllPairs (λ m q. m.number < q.number) ms) (sym is) (AllPairs-filter (λ m q. m.number < q.number) p t.messages s.numbered.order);
  };
  low = subst (λ (ms : List Message). All (λ m. m.server < 8) ms) (sym is) (All-filter p (λ m. m.server < 8) t.messages s.low);
  rows = subst AreRows (sym fences) s.rows;
}
