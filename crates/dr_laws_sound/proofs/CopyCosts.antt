-- What the background copy and the restore of a target tell: a restore tells of each track what is kept of it, at most 12
-- times, and that it came back; and at its end of each track, and that it ended.
use Rattle.std.proofs.Common.{ℕ, zero, suc, ◌≡◌, ◌≢◌, ◌≤◌, ◌+◌, ◌*◌, List, [], ◌∷◌, ◌++◌, append_assoc, length, map, filter, refl, ap, sym, ◌∙◌, subst, arith, Bool, true, false, cond, not, ◌&&◌, Option, Some, None, ◌⊎◌, inl, inr}
use Rattle.std.specs.FinSet.{contains, empty, insert}
use Rattle.dr_logic.specs.Tables.{at}
use Rattle.dr_model.specs.declared.event.Event.TheVariants.{Restored}
use Rattle.dr_model.specs.Layout.{Tracks, Fields}
use Rattle.dr_model.specs.Limits.{most_targets, most_tracks}
use Rattle.dr_model.specs.Relations.{lowest, is_bare, is_whole, given_up}
use Rattle.dr_model.specs.Control.{Fuse, Volume, World}
use Rattle.dr_model.specs.Moves.{Move, Keep, Note, Restore, Release, target, fields_left, moved, told_blank, keeps_staged, moved_keeping}
use Rattle.dr_model.specs.Carry.{Make, Pass, Do, Entry, now}
use Rattle.dr_model.specs.Entries.{fields_at, copies_from, keep_on, times, on_found, lowest_held, for_lowest, give_back}
use Rattle.dr_facts.proofs.Tables.{at_cases, at_part}
use Rattle.dr_laws_sound.proofs.Turns.{done, carried_in}
use Rattle.dr_laws_sound.proofs.KeepsTargets.{fewer, parted-copies}
use Rattle.dr_laws_sound.proofs.Costs.{Costs, costs_next, costs-nil, costs-entry}
use Rattle.dr_facts.proofs.Costs.{restored-by}
use Rattle.dr_facts.proofs.Tracks.{empty-lowest}
use Rattle.dr_logic.proofs.Truth.{false_true}
use Rattle.dr_logic.proofs.Tables.{at_same, at_other}

-- the targets of s
module _ (s : ℕ) where
  abbrev pub copies : World → ℕ → Bool
  copies w u = copies_from s (fields_at w.control u)

  abbrev pub count : World → List ℕ → ℕ
  count w us = length (filter (copies w) us)

  -- a move on x makes no new target of s
  pub copies-after : (w : World) (m : Move) (y : Volume) → (copies_from s y.fields ≡ true → copies w (target m) ≡ true) → (us : List ℕ) → length (filter (λ u. copies_from s (at w.control.volume (target m) y u).fields) us) ≤ count w us
  copies-after w m y still us =
      fewer (λ u. copies_from s (at w.control.volume (target m) y u).fields) (copies w)
      (at_cases (λ u (z : Volume). copies_from s z.fields ≡ true → copies w u ≡ true) w.control.volume (target m) y still (λ q ne h. h)) us

-- a move makes no new target of any volume
abbrev pub MakesNone : World → Move → Type 0
MakesNone w a = (q : ℕ) → copies_from q (fields_left a (w.control.volume (target a))) ≡ true → copies q w (target a) ≡ true

-- The targets of s keep track t, or note its change: each at its entry, or that is passed over, as long as `L` holds, which moves on volumes that aren't
-- restored leave.
module _ (s t : ℕ) (L : World → Type 0) (entry : ℕ → Entry) (comes : (x : ℕ) (w : World) → L w → (entry x w.control ≡ keep_on s t x w.control) ⊎ (entry x w.control ≡ Pass))
    (stays : (w : World) (a : Move) (f : Option Fuse) → L w → (fields_at w.control (target a)).reversing ≡ false → MakesNone w a → L (done w a f))
    (m : ℕ) (more : List Entry) (rest : (b : ℕ) → m ≤ b → (w : World) → L w → Costs b w more) where
  abbrev After : List ℕ → Type 0
  After us = (c b : ℕ) (w : World) → count s w us ≤ c → c + m ≤ b → L w → Costs b w (map entry us ++ more)

  moved-on : (us : List ℕ) → After us → (a : Move) (w : World) (c b : ℕ) → count s w us ≤ c → c + m ≤ b → L w → (fields_at w.control (target a)).reversing ≡ false
      → MakesNone w a → (f : Option Fuse) → Costs b (done w a f) (map entry us ++ more)
  moved-on us next a w c b cnt le l free still f =
      let fewer : count s (done w a f) us ≤ count s w us = copies-after s w a _ (still s) us in
      next c b (done w a f) (omega arith) le (stays w a f l free still)

  keep-by : (x : ℕ) (us : List ℕ) → After us → (w : World) → L w → (g rev own nt : Bool) → (fields_at w.control x).reversing ≡ rev → (c b : ℕ) → length (cond g (x ∷ filter (copies s w) us) (filter (copies s w) us)) ≤ c → c + m ≤ b
      → costs_next b w (cond (g && not rev) (cond (not own) (Do (Make (Keep x t))) (cond nt (Do (Make (Note x t))) Pass)) Pass) (λ m v. Costs m v (map entry us ++ more))
  keep-by x us next w l false rev own nt free c b cnt le = next c b w cnt le l
  keep-by x us next w l true true own nt free c b cnt le = next c b w (omega arith) le l
  keep-by x us next w l true false true false free c b cnt le = next c b w (omega arith) le l
  keep-by x us next w l true false true true free c b cnt le = (next c b w (omega arith) le l, (b, ((omega arith), λ f. moved-on us next (Note x t) w c b (omega arith) le l free (λ q h. h) f)))
  keep-by x us next w l true false false nt free zero b cnt le = absurd (omega arith)
  keep-by x us next w l true false false nt free (suc c) b cnt le =
      let u : Volume = w.control.volume x in (
        next (suc c) b w (omega arith) le l,
        (c + m, ((omega arith), λ f. moved-on us next (Keep x t) w c (c + m) (omega arith) (omega arith) l free (λ q. parted-copies (is_whole u.tracks (insert u.fields.own t) && not u.fields.persistent) u.fields.related u.fields.source q) f)),
      )

  count-rest : (x : ℕ) (us : List ℕ) (w : World) → count s w us ≤ count s w (x ∷ us)
  count-rest x us w = by (copies s w x)
    where
      by : (g : Bool) → count s w us ≤ length (cond g (x ∷ filter (copies s w) us) (filter (copies s w) us))
      by true = omega arith
      by false = omega arith

  pub keeps : (us : List ℕ) → After us
  keeps [] c b w cnt le l = rest b (omega arith) w l
  keeps (x ∷ us) c b w cnt le l =
      let f : Fields = fields_at w.control x in elim (comes x w l) [
        | inl is ↦ costs-entry b w (entry x) _ _ is (keep-by x us (keeps us) w l (copies s w x) f.reversing (contains f.own t) (f.recorded && not (contains f.source_changes t)) refl c b cnt le)
        | inr is ↦ costs-entry b w (entry x) _ Pass is (keeps us c b w (let fewer : count s w us ≤ count s w (x ∷ us) = count-rest x us w in omega arith) le l)
      ]

module _ (volumes : List ℕ) (v s : ℕ) where
  -- v is restored, and s has few targets
  pub record Live (w : World) : Type 0 where
    pub reversing : (fields_at w.control v).reversing ≡ true
    pub small : (w.control.volume v).tracks ≤ most_tracks
    pub few : count s w volumes ≤ most_targets

  -- and t is the lowest track that it holds: a move on another volume leaves that
  abbrev LiveAt : ℕ → World → Type 0
  LiveAt t w = Live w × (lowest_held v w.control ≡ Some t)

  live-stays : (t : ℕ) (w : World) (a : Move) (f : Option Fuse) → LiveAt t w → (fields_at w.control (target a)).reversing ≡ false → MakesNone w a → LiveAt t (done w a f)
  live-stays t w a f live free still =
      let k : World = done w a f in
      let ne : v ≢ target a = λ e. false_true free (ap (λ j. (fields_at w.control j).reversing) (sym e) ∙ live.0.reversing) in
      let same : k.control.volume v ≡ w.control.volume v = at_other w.control.volume (target a) _ v ne in
      let few_all : count s k volumes ≤ count s w volumes = copies-after s w a _ (still s) volumes in
      let few : count s w volumes ≤ most_targets = live.0.few in (
        record { reversing = ap (λ (x : Volume). x.fields.reversing) same ∙ live.0.reversing; small = subst (λ (x : Volume). x.tracks ≤ most_tracks) (sym same) live.0.small; few = omega arith },
        ap (λ (x : Volume). lowest x.tracks x.fields.own) same ∙ live.1,
      )

  -- v gives up track t, which s has taken back; it may be the last
  module _ (t p : ℕ) (more : List Entry) (enough : most_tracks + 1 ≤ p)
      (next : (b : ℕ) → p ≤ b → (k : World) → Live k → Costs b k more) (over : (k : World) → lowest_held v k.control ≡ None → Costs 0 k more) where
    release-by : (w : World) → Live w → (e : Bool) → is_bare (given_up (fields_at w.control v) t).own ≡ e
        → (b : ℕ) → p ≤ b → (m : ℕ) × ((length (cond e (told_blank v (w.control.volume v).tracks (given_up (fields_at w.control v) t).own ++ Restored (fields_at w.control v).source v ∷ []) []) + m ≤ b) × ((f : Option Fuse) → Costs m (done w (Release v t) f) more))
    release-by w live true is b le =
        let own : Tracks = (given_up (fields_at w.control v) t).own in
        let n : ℕ = (w.control.volume v).tracks in
        let few = restored-by true v (fields_at w.control v).source n own in
        let small : n ≤ most_tracks = live.small in (
          0,
          (
            (omega arith),
            λ f. over (done w (Release v t) f)
                (ap (λ (x : Volume). lowest x.tracks x.fields.own) (at_same w.control.volume v (moved (w.control.volume v) (fields_left (Release v t) (w.control.volume v)) (carried_in w (Release v t))))
                ∙ ap (λ (e : Bool). lowest n (cond e empty own)) is ∙ empty-lowest n),
          ),
        )
    release-by w live false is b le = (
      b,
      (
        (omega arith),
        λ f.
            let k : World = done w (Release v t) f in
            let here : k.control.volume v ≡ moved (w.control.volume v) (fields_left (Release v t) (w.control.volume v)) (carried_in w (Release v t)) = at_same w.control.volume v _ in
            let u : Volume = w.control.volume v in
            let few_all : count s k volumes ≤ count s w volumes = copies-after s w (Release v t) _ (parted-copies (is_bare (given_up u.fields t).own) u.fields.related u.fields.source s) volumes in
            let few : count s w volumes ≤ most_targets = live.few in
            next b le k (record {
              reversing = ap (λ (x : Volume). x.fields.reversing) here ∙ ap (λ (e : Bool). cond e false u.fields.reversing) is ∙ live.reversing;
              small = subst (λ (x : Volume). x.tracks ≤ most_tracks) (sym here) live.small;
              few = omega arith;
            }),
      ),
    )

    release : (b : ℕ) → p ≤ b → (w : World) → Live w → lowest_held v w.control ≡ Some t → Costs b w (for_lowest v (λ t. now (Release v t)) ∷ more)
    release b le w live is =
        costs-entry b w (for_lowest v (λ t. now (Release v t))) more (Do (Make (Release v t))) (ap (λ o. on_found o (λ t. now (Release v t)) w.control) is) (next b le w live, release-by w live _ refl b le)

    restore : (b : ℕ) → p + 1 ≤ b → (w : World) → Live w → lowest_held v w.control ≡ Some t → Costs b w (for_lowest v (λ t. now (Restore s t v)) ∷ for_lowest v (λ t. now (Release v t)) ∷ more)
    restore b le w live is =
        let m : Move = Restore s t v in
        let y : Volume = moved_keeping (keeps_staged m) (w.control.volume s) (fields_left m (w.control.volume s)) (carried_in w m) in
        costs-entry b w (for_lowest v (λ t. now (Restore s t v))) _ (Do (Make m)) (ap (λ o. on_found o (λ t. now (Restore s t v)) w.control) is) (
          release b (omega arith) w live is,
          (
            p,
            (
              (omega arith),
              λ f.
                  let k : World = done w m f in
                  let few_all : count s k volumes ≤ count s w volumes = copies-after s w m y (λ h. h) volumes in
                  let few : count s w volumes ≤ most_targets = live.few in
                  release p (omega arith) k (record {
                    reversing = at_part (λ (x : Volume). x.fields.reversing) w.control.volume s y refl v ∙ live.reversing;
                    small = subst (λ n. n ≤ most_tracks) (sym (at_part (λ (x : Volume). x.tracks) w.control.volume s y refl v)) live.small;
                    few = omega arith;
                  }) (at_part (λ (x : Volume). lowest x.tracks x.fields.own) w.control.volume s y refl v ∙ is),
            ),
          ),
        )

  -- nothing is left
  passes : (b : ℕ) (w : World) (d : ℕ → Entry) (more : List Entry) → lowest_held v w.control ≡ None → Costs b w more → Costs b w (for_lowest v d ∷ more)
  passes b w d more none go = costs-entry b w (for_lowest v d) more Pass (ap (λ o. on_found o d w.control) none) go

  all-pass : (b : ℕ) (w : World) (more : List Entry) → lowest_held v w.control ≡ None → Costs b w more → (us : List ℕ) → Costs b w (map (λ u. for_lowest v (λ t. keep_on s t u)) us ++ more)
  all-pass b w more none go [] = go
  all-pass b w more none go (x ∷ us) = passes b w (λ t. keep_on s t x) _ none (all-pass b w more none go us)

  -- a round in front of entries
  abbrev round : List Entry → List Entry
  round more = map (λ u. for_lowest v (λ t. keep_on s t u)) volumes ++ for_lowest v (λ t. now (Restore s t v)) ∷ for_lowest v (λ t. now (Release v t)) ∷ more

  rounds-pass : (n b : ℕ) (w : World) → lowest_held v w.control ≡ None → Costs b w (times n (give_back volumes s v))
  rounds-pass zero b w none = costs-nil b w
  rounds-pass (suc n) b w none =
      subst (Costs b w) (sym (append_assoc (map (λ u. for_lowest v (λ t. keep_on s t u)) volumes) _ _))
      (all-pass b w _ none (passes b w _ _ none (passes b w _ _ none (rounds-pass n b w none))) volumes)

  round-by : (p b : ℕ) (w : World) (more : List Entry) → most_tracks + 1 ≤ p → p + 13 ≤ b → Live w → ((b : ℕ) → p ≤ b → (k : World) → Live k → Costs b k more) → ((k : World) → lowest_held v k.control ≡ None → Costs 0 k more)
      → (o : Option ℕ) → lowest_held v w.control ≡ o → Costs b w (round more)
  round-by p b w more enough le live next over None is = all-pass b w _ is (passes b w _ _ is (passes b w _ _ is (next b (omega arith) w live))) volumes
  round-by p b w more enough le live next over (Some t) is =
      keeps s t (LiveAt t) (λ u. for_lowest v (λ t. keep_on s t u)) (λ x w live. inl (ap (λ o. on_found o (λ t. keep_on s t x) w.control) live.1)) (live-stays t) (p + 1) _ (λ b le w live. restore t p more enough next over b le w live.0 live.1) volumes 12 b w live.few (omega arith) (live, is)

  pub rounds : (n b : ℕ) (w : World) → n * 13 + 257 ≤ b → Live w → Costs b w (times n (give_back volumes s v))
  rounds zero b w le live = costs-nil b w
  rounds (suc n) b w le live =
      subst (Costs b w) (sym (append_assoc (map (λ u. for_lowest v (λ t. keep_on s t u)) volumes) _ _))
      (round-by (n * 13 + 257) b w _ (omega arith) (omega arith) live (λ b le k live. rounds n b k le live) (λ k none. rounds-pass n 0 k none) _ refl)
