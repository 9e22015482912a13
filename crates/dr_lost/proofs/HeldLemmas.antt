-- What a change of a table makes of the lists that it stands for.
use Rattle.std.proofs.Common.{◌≡◌, ℕ, ◌+◌, ◌≤◌, refl, sym, ap, subst, ◌∙◌, List, [], ◌∷◌, ◌++◌, length, zero, suc, slice_get, slice_index, Option, Some, Vec, Bool, true, false, cond, nat_eq, Result, Ok, Err, OnOk, OnErr, IsOk, MatchResult, arith, length-append}
use Rattle.std.specs.declared.alloc.Global.{Global}
use Rattle.dr_logic.specs.Tables.{at, at2}
use Rattle.dr_facts.proofs.Tables.{at_cases, at_two, at2_cases}
use Rattle.std.specs.declared.alloc.AllocError.{AllocError}
use Rattle.dr_model.specs.Histories.{Lists, Histories, Write, no_write}
use Rattle.dr_lost.specs.declared.nodes.Node.{Node}
use Rattle.dr_lost.specs.Rows.{cells}
use Rattle.dr_lost.specs.Nodes.{list_of, AreEarlier}
use Rattle.dr_lost.specs.Within.{AreWithin}
use Rattle.dr_lost.specs.declared.places.Place.{Place}
use Rattle.dr_lost.specs.Places.{place_in, place_of}
use Rattle.dr_lost.specs.Held.{held, Stand}
use Rattle.dr_lost.proofs.NodeLemmas.{list-empty, list-kept, list-added}

abbrev Rows : Type 0
Rows = List (ℕ × Vec ℕ Global)

-- ---- numbers stay within the arena

pub within-more : (nodes more : List Node) (rows : Rows) → AreWithin nodes rows → AreWithin (nodes ++ more) rows
within-more nodes more rows h v t = omega (arith, h v t, length-append nodes more)

pub within-set : (nodes : List Node) (old new : Rows) (v t k : ℕ) → cells new ≡ at2 (cells old) v t k → k ≤ length nodes → AreWithin nodes old → AreWithin nodes new
within-set nodes old new v t k is low h p q = subst (λ (f : ℕ → ℕ → ℕ). f p q ≤ length nodes) (sym is) (at2_cases (λ p q y. y ≤ length nodes) (cells old) v t k low (λ p q ne. h p q) p q)

pub within-put : (nodes : List Node) (old new : Rows) (v : ℕ) (row : ℕ → ℕ) → cells new ≡ at (cells old) v row → ((t : ℕ) → row t ≤ length nodes) → AreWithin nodes old → AreWithin nodes new
within-put nodes old new v row is low h p q = subst (λ (f : ℕ → ℕ → ℕ). f p q ≤ length nodes) (sym is) (at_cases (λ p (f : ℕ → ℕ). (q : ℕ) → f q ≤ length nodes) (cells old) v row low (λ p ne. h p) p q)

-- ---- rows as they are put

-- an empty row
pub none-within : (xs : List ℕ) (n : ℕ) → xs ≡ [] → (t : ℕ) → slice_index xs t ≤ n
none-within xs n none t = subst (λ xs. slice_index xs t ≤ n) (sym none) (omega arith)

pub none-listed : (nodes : List Node) (xs : List ℕ) → xs ≡ [] → (t : ℕ) → list_of nodes (slice_index xs t) ≡ []
none-listed nodes xs none t = ap (λ xs. list_of nodes (slice_index xs t)) none ∙ list-empty nodes

-- the row of a volume
pub row-within : (nodes : List Node) (rows : Rows) (v : ℕ) (row : ℕ → ℕ) → row ≡ cells rows v → AreWithin nodes rows → (t : ℕ) → row t ≤ length nodes
row-within nodes rows v row is h t = subst (λ (f : ℕ → ℕ). f t ≤ length nodes) (sym is) (h v t)

pub row-listed : (nodes : List Node) (rows : Rows) (ls : Lists) (v : ℕ) (row : ℕ → ℕ) → row ≡ cells rows v → held nodes rows ≡ ls → (t : ℕ) → list_of nodes (row t) ≡ ls v t
row-listed nodes rows ls v row is same t = ap (λ (f : ℕ → ℕ). list_of nodes (f t)) is ∙ ap (λ (f : Lists). f v t) same

-- ---- a node that is added

-- what holds of each element by its place, and of one that is put behind them
each-push : {A : Type 0} (P : ℕ → A → Type 0) (xs : List A) (y : A) → P (length xs) y → ((i : ℕ) (x : A) → slice_get xs i ≡ Some x → P i x) → (i : ℕ) (x : A) → slice_get (xs ++ y ∷ []) i ≡ Some x → P i x
each-push P [] y last each zero x found = let same : y ≡ x = cc in subst (P 0) same last
each-push P [] y last each (suc i) x found = cc
each-push P (z ∷ zs) y last each zero x found = each 0 x found
each-push P (z ∷ zs) y last each (suc i) x found = each-push (λ i x. P (suc i) x) zs y last (λ i x f. each (suc i) x f) i x found

pub earlier-added : (nodes : List Node) (n : Node) → n.before ≤ length nodes → AreEarlier nodes → AreEarlier (nodes ++ n ∷ [])
earlier-added nodes n low h = each-push (λ k m. m.before ≤ k) nodes n low h

-- ---- lists

pub held-more : (nodes more : List Node) (rows : Rows) → AreWithin nodes rows → held (nodes ++ more) rows ≡ held nodes rows
held-more nodes more rows h = λ d v t. list-kept nodes more (cells rows v t) (h v t) d

pub held-same : (nodes : List Node) (old new : Rows) → cells new ≡ cells old → held nodes new ≡ held nodes old
held-same nodes old new is = ap {B = Lists} (λ (f : ℕ → ℕ → ℕ) v t. list_of nodes (f v t)) is

through : {X Y : Type 0} (g : X → Y) (b : Bool) (x y : X) → g (cond b x y) ≡ cond b (g x) (g y)
through g true x y = refl
through g false x y = refl

pub held-set : (nodes : List Node) (old new : Rows) (v t k : ℕ) → cells new ≡ at2 (cells old) v t k → held nodes new ≡ at2 (held nodes old) v t (list_of nodes k)
held-set nodes old new v t k is =
    ap {B = Lists} (λ (f : ℕ → ℕ → ℕ) v t. list_of nodes (f v t)) is
    ∙ (λ d p q. (through (list_of nodes) (nat_eq p v) (cond (nat_eq q t) k (cells old p q)) (cells old p q) ∙ ap (λ l. cond (nat_eq p v) l (held nodes old p q)) (through (list_of nodes) (nat_eq q t) k (cells old p q))) d)

pub held-put : (nodes : List Node) (old new : Rows) (v : ℕ) (row : ℕ → ℕ) → cells new ≡ at (cells old) v row → held nodes new ≡ at (held nodes old) v (λ t. list_of nodes (row t))
held-put nodes old new v row is =
    ap {B = Lists} (λ (f : ℕ → ℕ → ℕ) v t. list_of nodes (f v t)) is
    ∙ (λ d p. through {Y = ℕ → List ℕ} (λ (f : ℕ → ℕ) t. list_of nodes (f t)) (nat_eq p v) row (cells old p) d)

-- ---- a call that changes a table, or fails

module _ (r : Result (Unit {0}) AllocError) (nodes : List Node) (old new : Rows) where
  pub within-after-set : (v t k : ℕ) → OnOk r (cells new ≡ at2 (cells old) v t k) → OnErr r (cells new ≡ cells old) → k ≤ length nodes → AreWithin nodes old → AreWithin nodes new
  within-after-set v t k is same low h = by r is same
    where
      by : (r : Result (Unit {0}) AllocError) → OnOk r (cells new ≡ at2 (cells old) v t k) → OnErr r (cells new ≡ cells old) → AreWithin nodes new
      by (Ok x) is same = within-set nodes old new v t k is low h
      by (Err x) is same = λ p q. subst (λ (f : ℕ → ℕ → ℕ). f p q ≤ length nodes) (sym same) (h p q)

  pub within-after-put : (v : ℕ) (row : ℕ → ℕ) → OnOk r (cells new ≡ at (cells old) v row) → OnErr r (new ≡ old) → ((t : ℕ) → row t ≤ length nodes) → AreWithin nodes old → AreWithin nodes new
  within-after-put v row is same low h = by r is same
    where
      by : (r : Result (Unit {0}) AllocError) → OnOk r (cells new ≡ at (cells old) v row) → OnErr r (new ≡ old) → AreWithin nodes new
      by (Ok x) is same = within-put nodes old new v row is low h
      by (Err x) is same = subst (AreWithin nodes) (sym same) h

pub stand-more : (nodes more : List Node) (current aside : Rows) (places : List (ℕ × Place)) (h : Histories) → AreWithin nodes current → AreWithin nodes aside → Stand nodes current aside places h → Stand (nodes ++ more) current aside places h
stand-more nodes more current aside places h low too s = record { now = held-more nodes more current low ∙ s.now; kept = held-more nodes more aside too ∙ s.kept; writes = s.writes }

module _ (nodes : List Node) (places : List (ℕ × Place)) (h : Histories) where
  -- a number at one track
  pub stand-set : (r : Result (Unit {0}) AllocError) (old new aside : Rows) (v t k : ℕ) (l : List ℕ) → OnOk r (cells new ≡ at2 (cells old) v t k) → OnErr r (cells new ≡ cells old) → list_of nodes k ≡ l
      → Stand nodes old aside places h → MatchResult r (λ _. Stand nodes new aside places (record h { now = at2 h.now v t l })) (λ _. Stand nodes new aside places h)
  stand-set (Ok x) old new aside v t k l is same list s = record {
    now = held-set nodes old new v t k is ∙ (ap (λ (f : Lists). at2 f v t (list_of nodes k)) s.now ∙ ap (at2 h.now v t) list);
    kept = s.kept;
    writes = s.writes;
  }
  stand-set (Err x) old new aside v t k l is same list s = record { now = held-same nodes old new same ∙ s.now; kept = s.kept; writes = s.writes }

  -- a row
  pub stand-put : (r : Result (Unit {0}) AllocError) (old new aside : Rows) (v : ℕ) (row : ℕ → ℕ) (ls : ℕ → List ℕ) → OnOk r (cells new ≡ at (cells old) v row) → OnErr r (new ≡ old) → ((t : ℕ) → list_of nodes (row t) ≡ ls t)
      → Stand nodes old aside places h → MatchResult r (λ _. Stand nodes new aside places (record h { now = at h.now v ls })) (λ _. Stand nodes new aside places h)
  stand-put (Ok x) old new aside v row ls is same list s = record {
    now = held-put nodes old new v row is ∙ (ap (λ (f : Lists). at f v (λ t. list_of nodes (row t))) s.now ∙ (λ d. at h.now v (λ t. list t d)));
    kept = s.kept;
    writes = s.writes;
  }
  stand-put (Err x) old new aside v row ls is same list s = record { now = held-same nodes old new (ap cells same) ∙ s.now; kept = s.kept; writes = s.writes }

  -- a row of what is kept aside
  pub stand-put-aside : (r : Result (Unit {0}) AllocError) (current old new : Rows) (v : ℕ) (row : ℕ → ℕ) (ls : ℕ → List ℕ) → OnOk r (cells new ≡ at (cells old) v row) → OnErr r (new ≡ old) → ((t : ℕ) → list_of nodes (row t) ≡ ls t)
      → Stand nodes current old places h → MatchResult r (λ _. Stand nodes current new places (record h { aside = at h.aside v ls })) (λ _. Stand nodes current new places h)
  stand-put-aside (Ok x) current old new v row ls is same list s = record {
    now = s.now;
    kept = held-put nodes old new v row is ∙ (ap (λ (f : Lists). at f v (λ t. list_of nodes (row t))) s.kept ∙ (λ d. at h.aside v (λ t. list t d)));
    writes = s.writes;
  }
  stand-put-aside (Err x) current old new v row ls is same list s = record { now = s.now; kept = held-same nodes old new (ap cells same) ∙ s.kept; writes = s.writes }

-- the number of tracks of volumes isn't seen
pub stand-defined : (r : Result (Unit {0}) AllocError) (nodes : List Node) (current aside : Rows) (places : List (ℕ × Place)) (h : Histories) (ls : Lists) (tracks : ℕ → Option ℕ)
    → MatchResult r (λ _. Stand nodes current aside places (record h { now = ls })) (λ _. Stand nodes current aside places h)
    → MatchResult r (λ _. Stand nodes current aside places (record h { now = ls; tracks = tracks })) (λ _. Stand nodes current aside places h)
stand-defined (Ok x) nodes current aside places h ls tracks s = record { now = s.now; kept = s.kept; writes = s.writes }
stand-defined (Err x) nodes current aside places h ls tracks s = s

-- a place
pub stand-issued : (r : Result (Unit {0}) AllocError) (nodes : List Node) (current aside : Rows) (old new : List (ℕ × Place)) (h : Histories) (w : ℕ) (is : Write)
    → OnOk r (place_in new ≡ at (place_in old) w (place_of is)) → OnErr r (new ≡ old) → Stand nodes current aside old h
    → MatchResult r (λ _. Stand nodes current aside new (record h { write = at h.write w is })) (λ _. Stand nodes current aside new h)
stand-issued (Ok x) nodes current aside old new h w is put same s = record {
  now = s.now;
  kept = s.kept;
  writes = λ q. ap (λ (f : ℕ → Place). f q) put ∙ at_two (λ q p (wr : Write). p ≡ place_of wr) (place_in old) h.write w (place_of is) is refl (λ q ne. s.writes q) q;
}
stand-issued (Err x) nodes current aside old new h w is put same s = subst (λ ps. Stand nodes current aside ps h) (sym same) s

-- ---- an arena with a node more

module _ (nodes new : List Node) (w before : ℕ) (is : new ≡ nodes ++ record { write = w; before = before } ∷ []) where
  pub joined-earlier : before ≤ length nodes → AreEarlier nodes → AreEarlier new
  joined-earlier low h = subst AreEarlier (sym is) (earlier-added nodes (record { write = w; before = before }) low h)

  pub joined-within : (rows : Rows) → AreWithin nodes rows → AreWithin new rows
  joined-within rows h = subst (λ ns. AreWithin ns rows) (sym is) (within-more nodes (record { write = w; before = before } ∷ []) rows h)

  pub joined-number : (k : ℕ) → k ≡ length nodes + 1 → k ≤ length new
  joined-number k number = omega (arith, ap length is, length-append nodes (record { write = w; before = before } ∷ []))

  pub joined-list : (k : ℕ) → k ≡ length nodes + 1 → list_of new k ≡ list_of nodes before ++ w ∷ []
  joined-list k number = ap (λ ns. list_of ns k) is ∙ (ap (list_of (nodes ++ record { write = w; before = before } ∷ [])) number ∙ list-added nodes (record { write = w; before = before }))

  pub joined-stand : (current aside : Rows) (places : List (ℕ × Place)) (h : Histories) → AreWithin nodes current → AreWithin nodes aside → Stand nodes current aside places h → Stand new current aside places h
  joined-stand current aside places h low too s = subst (λ ns. Stand ns current aside places h) (sym is) (stand-more nodes (record { write = w; before = before } ∷ []) current aside places h low too s)

-- a target's two rows, of which the second can't fail
pub stand-flashed : (nodes : List Node) (places : List (ℕ × Place)) (h : Histories) (r : Result (Unit {0}) AllocError) (old new kept aside : Rows) (source target : ℕ) (row held : ℕ → ℕ)
    → IsOk r → cells aside ≡ at (cells kept) target held → OnOk r (cells new ≡ at (cells old) target row) → held ≡ cells old target → row ≡ cells old source → Stand nodes old kept places h
    → MatchResult r (λ _. Stand nodes new aside places (record h { aside = at h.aside target (h.now target); now = at h.now target (h.now source) })) (λ _. Stand nodes new aside places h)
stand-flashed nodes places h (Ok x) old new kept aside source target row held ok put is own from s =
    let one = stand-put-aside nodes places h (Ok x) old kept aside target held (h.now target) put tt (row-listed nodes old h.now target held own s.now) s in
    stand-put nodes places (record h { aside = at h.aside target (h.now target) }) (Ok x) old new aside target row (h.now source) is tt (row-listed nodes old h.now source row from s.now) one
stand-flashed nodes places h (Err x) old new kept aside source target row held ok put is own from s = absurd (cc)

-- ---- before the first event

pub held-none : (nodes : List Node) (rows : Rows) → rows ≡ [] → held nodes rows ≡ (λ v t. [])
held-none nodes rows none = λ d v t. (ap (λ rows. held nodes rows v t) none ∙ list-empty nodes) d

pub places-none : (places : List (ℕ × Place)) → places ≡ [] → (w : ℕ) → place_in places w ≡ place_of no_write
places-none places none w = ap (λ places. place_in places w) none
