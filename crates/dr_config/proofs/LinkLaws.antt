-- What setting a link makes of the rows: it and no other is changed, in both directions.
use Rattle.std.proofs.Common.{◌≡◌, ℕ, ◌<◌, ◌≤◌, ◌⊎◌, Bool, true, false, cond, not, ◌&&◌, ◌||◌, if◌then◌else◌, List, [], length, get_or, set, replicate, inl, inr, refl, ◌∙◌, ap, arith, eqb, length-set}
use Rattle.std.proofs.lemmas.List.{get_or-set_other, get_or-replicate, get_or_past, length-replicate}
use Rattle.std.proofs.lemmas.Grind.{get_or-set_at}
use Rattle.std.proofs.lemmas.Bool.Decides.{nat_tests, leb_tells}
use Rattle.dr_ids.specs.Links.{joins}
use Rattle.dr_config.proofs.Lists.{copies}
use Rattle.dr_config.specs.Links.{is_down, set_from, set_between, none_down, IsSquare}
use Rattle.dr_config.specs.Table.{ConfigTable, link_up}
use Rattle.dr_config.specs.Rules.{with_link}

-- the rows stay square
ends-set : (rows : List (List Bool)) (a b x : ℕ) (d : Bool) → IsSquare rows → a < 8 → x < 8 → length (get_or (set rows a (set (get_or rows a []) b d)) x []) ≡ 8
ends-set rows a b x d square la lx =
    let size : length rows ≡ 8 = square.servers in
    let own : length (get_or rows a []) ≡ 8 = square.ends a la in
    let other : length (get_or rows x []) ≡ 8 = square.ends x lx in
    grind (arith, nat_tests, get_or-set_at, get_or-set_other, length-set)

square-from : (rows : List (List Bool)) (a b : ℕ) (d : Bool) → a < 8 → IsSquare rows → IsSquare (set_from rows a b d)
unfolding set_from
square-from rows a b d la square = record {
  servers = length-set rows a _ ∙ square.servers;
  ends = λ x lx. ends-set rows a b x d square la lx;
}

-- one direction
from-law : (rows : List (List Bool)) (a b : ℕ) (d : Bool) → IsSquare rows → a < 8 → b < 8 → (x y : ℕ) → is_down (set_from rows a b d) x y ≡ cond (eqb x a && eqb y b) d (is_down rows x y)
unfolding is_down set_from
from-law rows a b d square la lb x y =
    let size : length rows ≡ 8 = square.servers in
    let own : length (get_or rows a []) ≡ 8 = square.ends a la in
    grind (arith, nat_tests, get_or-set_at, get_or-set_other)

-- what two directions set, one after the other, is what both ends are joined by
both-join : (first second d old : Bool) → cond second d (cond first d old) ≡ cond (first || second) d old
both-join true true d old = refl
both-join true false d old = refl
both-join false true d old = refl
both-join false false d old = refl

-- both directions
between-law : (rows : List (List Bool)) (a b : ℕ) (d : Bool) → IsSquare rows → a < 8 → b < 8 → (x y : ℕ) → is_down (set_between rows a b d) x y ≡ cond (joins x y a b) d (is_down rows x y)
between-law rows a b d square la lb x y =
    from-law (set_from rows a b d) b a d (square-from rows a b d la square) lb la x y
    ∙ ap (λ old. cond (eqb x b && eqb y a) d old) (from-law rows a b d square la lb x y)
    ∙ both-join (eqb x a && eqb y b) (eqb x b && eqb y a) d (is_down rows x y)

up-not : (joined up old : Bool) → not (cond joined (not up) old) ≡ cond joined up (not old)
up-not true true old = refl
up-not true false old = refl
up-not false up old = refl

-- a table with a link set: that link is as it was set, seen from both ends, and each other is as it was
pub link_up-with_link : (t : ConfigTable) (a b : ℕ) (up : Bool) → IsSquare t.down → a < 8 → b < 8 → (x y : ℕ) → link_up (with_link t a b up) x y ≡ (if joins x y a b then up else link_up t x y)
link_up-with_link t a b up square la lb x y =
    ap not (between-law t.down a b (not up) square la lb x y) ∙ up-not (joins x y a b) up (is_down t.down x y)

-- the rows of a table with a link set are square
pub square-with_link : (t : ConfigTable) (a b : ℕ) (up : Bool) → a < 8 → b < 8 → IsSquare t.down → IsSquare (with_link t a b up).down
square-with_link t a b up la lb square = square-from (set_from t.down a b (not up)) b a (not up) lb (square-from t.down a b (not up) la square)

-- the ends may change places
pub joins-turned : (x y a b : ℕ) → joins x y a b ≡ joins y x a b
joins-turned x y a b = grind (arith, nat_tests)

-- a server isn't joined to itself by a link between two
pub joins-none : (x a b : ℕ) → (a ≡ b → ⊥) → joins x x a b ≡ false
joins-none x a b differ = grind (arith, nat_tests)

-- where no link is down, the rows are square and each link is up
pub square-none : IsSquare none_down
unfolding none_down
square-none = record {
  servers = length-replicate 8 (replicate 8 false);
  ends = λ x l. ap length (get_or-replicate 8 x (replicate 8 false) [] l) ∙ length-replicate 8 false;
}

pub none-down : (x y : ℕ) → is_down none_down x y ≡ false
unfolding is_down none_down
none-down x y = elim (leb_tells 8 x) as (λ _. get_or (get_or (replicate 8 (replicate 8 false)) x []) y false ≡ false) [
  | inl p ↦ ap (λ row. get_or row y false) (get_or_past (replicate 8 (replicate 8 false)) x [] (let h = p.1 in let l = length-replicate 8 (replicate 8 false) in omega (arith, l)))
  | inr p ↦ ap (λ row. get_or row y false) (get_or-replicate 8 x (replicate 8 false) [] (let h = p.1 in omega arith)) ∙ copies 8 false y
]

-- from and to what is no server of 0 to 7, links are up
pub link_up-beyond : (t : ConfigTable) (x y : ℕ) → IsSquare t.down → (8 ≤ x) ⊎ (8 ≤ y) → link_up t x y ≡ true
unfolding is_down
link_up-beyond t x y square past =
    let size : length t.down ≡ 8 = square.servers in
    let from : 8 ≤ x → get_or (get_or t.down x []) y false ≡ false = λ h. ap (λ row. get_or row y false) (get_or_past t.down x [] (omega (arith, size, h))) in
    ap not (elim past [
      | inl h ↦ from h
      | inr h ↦ elim (leb_tells 8 x) as (λ _. get_or (get_or t.down x []) y false ≡ false) [
        | inl p ↦ from p.1
        | inr p ↦ (let low = p.1 in let long : length (get_or t.down x []) ≡ 8 = square.ends x (omega (arith, low)) in get_or_past (get_or t.down x []) y false (omega (arith, long, h)))
      ]
    ])
