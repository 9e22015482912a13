-- The laws of sessions stay in each kind of move: all but a hold make nothing record, and leave the attempt of what records.
use Rattle.std.proofs.Common.{ℕ, ◌≡◌, ◌≢◌, ◌⊎◌, inl, inr, refl, sym, ◌∙◌, subst, Bool, true, false, cond}
use Rattle.dr_model.specs.Layout.{Fields}
use Rattle.dr_model.specs.Control.{Control, Volume}
use Rattle.dr_model.specs.Pairs.{held_for}
use Rattle.dr_model.specs.Moves.{Move, Suspend, MakePrimary, DropPrimary, TakeOver, FallBack, Yield, Lift, Restart, Hold, Finish, RaiseAttempt, Carried, moved_keeping, target, next_fields}
use Rattle.dr_model.specs.Entries.{fields_at}
use Rattle.dr_model.specs.Sessions.{changed, begun}
use Rattle.dr_model.specs.Groups.{Groups, HoldsMember, OpensAttempt}
use Rattle.dr_laws_sessions.specs.Frames.{Framed, RecordedOr, Moves, Suits}
use Rattle.dr_facts.proofs.Tables.{at_cases}
use Rattle.dr_laws_sessions.proofs.Volumes.{groups-same, groups-held, groups-opened}
use Rattle.dr_logic.proofs.Truth.{false_true}

-- other fields of one volume, in a control state that differs elsewhere as it may
module _ (k j : Control) (v : ℕ) (f : Fields) (c : Carried) (same : j.sessions ≡ k.sessions) (moves : Moves k j v f c) where
  framed : Framed k j
  framed = record {
    sessions = same;
    volumes = moves.volumes;
    server = λ u. (λ i. (moves.volume i u).server) ∙ at_cases (λ u (y : Volume). y.server ≡ (k.volume u).server) k.volume v (moved_keeping moves.keeps (k.volume v) f c) refl (λ u ne. refl) u;
    tracks = λ u. (λ i. (moves.volume i u).tracks) ∙ at_cases (λ u (y : Volume). y.tracks ≡ (k.volume u).tracks) k.volume v (moved_keeping moves.keeps (k.volume v) f c) refl (λ u ne. refl) u;
  }

  -- what is so of the new fields, and of the others as they were, is so
  fields-by : (P : ℕ → Fields → Type 0) → P v f → ((u : ℕ) → u ≢ v → P u (fields_at k u)) → (u : ℕ) → P u (fields_at j u)
  fields-by P here there u = subst (λ (w : ℕ → Volume). P u (w u).fields) (sym moves.volume) (at_cases (λ u (y : Volume). P u y.fields) k.volume v (moved_keeping moves.keeps (k.volume v) f c) here there u)

  pub groups-moved : (f.recording ≡ true → ((fields_at k v).recording ≡ true) × ((f.attempt ≡ (fields_at k v).attempt) × (f.primary_partner ≡ (fields_at k v).primary_partner))) → Groups k → Groups j
  groups-moved quiet old = groups-same k j framed (fields-by (λ u g. g.recording ≡ true → ((fields_at k u).recording ≡ true) × ((g.attempt ≡ (fields_at k u).attempt) × (g.primary_partner ≡ (fields_at k u).primary_partner))) quiet (λ u ne h. (h, (refl, refl)))) old

  -- where v doesn't record any more, nothing more records, and v doesn't
  pub moved-silent : f.recording ≡ false → (u : ℕ) → (fields_at k u).recording ≡ false → (fields_at j u).recording ≡ false
  moved-silent silent = fields-by (λ u g. (fields_at k u).recording ≡ false → g.recording ≡ false) (λ h. silent) (λ u ne h. h)

  pub moved-itself : (P : Fields → Type 0) → P f → P (fields_at j v)
  moved-itself P here = fields-by (λ u g. u ≡ v → P g) (λ e. here) (λ u ne e. absurd (ne e)) v refl

  -- v records attempt n, or what it recorded
  records-or : (n : ℕ) → f.attempt ≡ n → f.primary_partner ≡ (fields_at k v).primary_partner → (u : ℕ) → (fields_at j u).recording ≡ true → RecordedOr k j v n u
  records-or n is to =
      fields-by (λ u g. g.recording ≡ true → ((u ≡ v) × ((g.attempt ≡ n) × (g.primary_partner ≡ (fields_at k u).primary_partner))) ⊎ (((fields_at k u).recording ≡ true) × ((g.attempt ≡ (fields_at k u).attempt) × (g.primary_partner ≡ (fields_at k u).primary_partner))))
      (λ h. inl (refl, (is, to))) (λ u ne h. inr (h, (refl, refl)))

  pub moved-held : (s n : ℕ) → f.attempt ≡ n → f.primary_partner ≡ (fields_at k v).primary_partner → HoldsMember k v s n → Groups k → Groups j
  moved-held s n is to holds old = groups-held k j v s n framed (records-or n is to) holds old

  pub moved-opened : (s n : ℕ) → f.attempt ≡ n → f.primary_partner ≡ (fields_at k v).primary_partner → OpensAttempt k v s n → Groups k → Groups (record j { sessions = changed s begun j.sessions })
  moved-opened s n is to opens old = groups-opened k j v s n framed (records-or n is to) opens old

-- what records recorded, for the same attempt and with the same partner
abbrev Went : Fields → Fields → Type 0
Went f g = g.recording ≡ true → (f.recording ≡ true) × ((g.attempt ≡ f.attempt) × (g.primary_partner ≡ f.primary_partner))

if-lifted : (b : Bool) (f : Fields) → cond b false f.recording ≡ true → f.recording ≡ true
if-lifted true f h = absurd cc
if-lifted false f h = h

went : (k : Control) (m : Move) → Suits k m → ((v s n : ℕ) (first : Bool) → m ≡ Hold v s n first → ⊥) → Went (fields_at k (target m)) (next_fields m k.volume)
went k (Suspend v busy) suits other h = absurd cc
went k (MakePrimary v u kind state full) suits other h = absurd cc
went k (DropPrimary v) suits other h = absurd cc
went k (TakeOver v) suits other h = absurd cc
went k (FallBack v more state) suits other h = absurd cc
went k (Yield v u kind state) suits other h = absurd cc
went k (Lift v) suits other h = (if-lifted (fields_at k v).coordination (fields_at k v) h, (refl, refl))
went k (Restart v) suits other h = absurd cc
went k (Hold v s n first) suits other h = absurd (other v s n first refl)
went k (Finish v n) suits other h = absurd cc
went k (RaiseAttempt v n) suits other h = false_true suits h
went k m suits other h = (h, (refl, refl))

pub groups-move : (k j : Control) (m : Move) (c : Carried) → j.sessions ≡ k.sessions → Moves k j (target m) (next_fields m k.volume) c → Suits k m → Groups k → Groups j
groups-move k j (Hold v s n first) c same moves suits groups = moved-held k j v (held_for n (fields_at k v)) c same moves s n refl refl suits groups
groups-move k j m c same moves suits groups = groups-moved k j (target m) (next_fields m k.volume) c same moves (went k m suits (λ v s n first e. absurd cc)) groups
