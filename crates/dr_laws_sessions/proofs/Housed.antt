-- Each volume is on one of the eight servers: so a new member is.
use Rattle.std.proofs.Common.{ℕ, ◌≡◌, ◌≢◌, ◌<◌, ◌≤◌, ◌+◌, inl, inr, refl, sym, ◌∙◌, subst, Bool, true, false, cond, ◌||◌, nat_eq, nat_lt, nat_le, List, [], ◌∷◌, ◌++◌, length, Option, None, Some, arith}
use Rattle.std.specs.List.{list_any}
use Rattle.std.specs.Option.{is_some}
use Rattle.std.specs.Str.{bytes_eq}
use Rattle.std.proofs.lemmas.List.{length-append}
use Rattle.std.proofs.lemmas.List.Folds.{list_any-append}
use Rattle.std.proofs.lemmas.List.Quantifiers.{position-Some}
use Rattle.std.proofs.lemmas.Bool.{lt-ltb, leb-false}
use Rattle.std.proofs.lemmas.Bool.Decides.{eqb_tells}
use Rattle.dr_logic.specs.Tables.{at}
use Rattle.dr_ids.specs.declared.names.Member.{Member}
use Rattle.dr_ids.specs.declared.refusal.Refusal.{Refusal}
use Rattle.dr_ids.specs.declared.refusal.Kind.TheVariants.{Server as OfServer}
use Rattle.dr_ids.specs.declared.refusal.Which.TheVariants.{Servers}
use Rattle.dr_model.specs.Refusals.{duplicate, over}
use Rattle.dr_model.specs.Limits.{most_servers}
use Rattle.dr_model.specs.Control.{Control, Volume, new_volume, no_control, is_volume}
use Rattle.dr_model.specs.Plans.{Plan, server_named, server_refusal, server_plan, server_done, volume_plan, volume_done, volume_refusal, unless, on_named, name_bytes}
use Rattle.dr_model.specs.declared.step.Name.{Name}
use Rattle.dr_model.specs.Groups.{MemberStands, Housed}
use Rattle.dr_facts.proofs.Tables.{IsOrNot, at_cases}

pub housed-none : Housed no_control
housed-none = (omega arith, λ v d. absurd cc)

-- a member whose volumes stand is on one of the servers 0 to 7
pub housed-low : (k : Control) (m : Member) → Housed k → MemberStands k m → nat_lt m.server.0 8 ≡ true
housed-low k m housed stands =
    let here : (k.volume m.a.0).server < length k.servers = housed.1 m.a.0 stands.a in
    let few : length k.servers ≤ 8 = housed.0 in
    let is : m.server.0 ≡ (k.volume m.a.0).server = stands.server in
    lt-ltb m.server.0 8 (omega arith)

-- servers and volumes stay
pub housed-stays : (j k : Control) → k.servers ≡ j.servers → k.volumes ≡ j.volumes → ((v : ℕ) → (k.volume v).server ≡ (j.volume v).server) → Housed j → Housed k
housed-stays j k servers volumes server housed = (
  subst (λ (xs : List (List ℕ)). length xs ≤ 8) (sym servers) housed.0,
  λ v d.
      let was : (j.volume v).server < length j.servers = housed.1 v (subst (λ vs. list_any (nat_eq v) vs ≡ true) volumes d) in
      subst (λ (xs : List (List ℕ)). (k.volume v).server < length xs) (sym servers) (subst (λ n. n < length j.servers) (sym (server v)) was),
)

-- one server more
pub housed-server : (k : Control) (name : List ℕ) → length k.servers < 8 → Housed k → Housed (record k { servers = k.servers ++ name ∷ [] })
housed-server k name room housed =
    let e : length (k.servers ++ name ∷ []) ≡ length k.servers + 1 = length-append k.servers (name ∷ []) in
    (omega arith, λ v d. let was : (k.volume v).server < length k.servers = housed.1 v d in omega arith)

-- one volume more, on one of the servers
pub housed-volume : (k : Control) (v server tracks : ℕ) → server < length k.servers → Housed k → Housed (record k { volumes = k.volumes ++ v ∷ []; volume = at k.volume v (new_volume server tracks) })
housed-volume k v server tracks here housed = (
  housed.0,
  λ u d. at_cases (λ u (y : Volume). list_any (nat_eq u) (k.volumes ++ v ∷ []) ≡ true → y.server < length k.servers) k.volume v (new_volume server tracks) (λ d. here) (λ u ne d. housed.1 u (was u ne d)) u d,
)
  where
    first : (b c : Bool) → c ≡ false → (b || (c || false)) ≡ true → b ≡ true
    first true c e h = refl
    first false true e h = absurd cc
    first false false e h = absurd cc

    was : (u : ℕ) → u ≢ v → list_any (nat_eq u) (k.volumes ++ v ∷ []) ≡ true → is_volume k u ≡ true
    was u ne d = by (eqb_tells u v)
      where
        by : IsOrNot u v → is_volume k u ≡ true
        by (inl is) = absurd (ne is.1)
        by (inr other) = first (is_volume k u) (nat_eq u v) other.0 (sym (list_any-append (nat_eq u) k.volumes (v ∷ [])) ∙ d)

-- ---- the two lines that define them

no-limit : (a b : Bool) (r q : Refusal) → cond a (Some r) (cond b (Some q) None) ≡ None → b ≡ false
no-limit true b r q h = absurd cc
no-limit false true r q h = absurd cc
no-limit false false r q h = refl

refuses-server : (k : Control) (name : List ℕ) → server_refusal k name ≡ None → length k.servers < 8
refuses-server k name h = leb-false most_servers (length k.servers) (no-limit (is_some (server_named k name)) (nat_le most_servers (length k.servers)) (duplicate OfServer) (over Servers) h)

unless-first : (k : Control) (o : Option Refusal) (p : Plan) → Housed k → (o ≡ None → Housed (p.first k)) → Housed ((unless o p).first k)
unless-first k None p housed go = go refl
unless-first k (Some r) p housed go = housed

pub servers-first : (k : Control) (name : Name) → Housed k → Housed ((server_plan k name).first k)
servers-first k name housed = unless-first k (server_refusal k (name_bytes name)) (server_done k name) housed (λ none. housed-server k (name_bytes name) (refuses-server k (name_bytes name) none) housed)

pub volumes-first : (k : Control) (v : ℕ) (name : Name) (tracks : ℕ) → Housed k → Housed ((volume_plan k v name tracks).first k)
volumes-first k v name tracks housed = by (server_named k (name_bytes name)) refl
  where
    by : (o : Option ℕ) → server_named k (name_bytes name) ≡ o → Housed ((on_named o (λ s. unless (volume_refusal k v s tracks) (volume_done v s tracks))).first k)
    by None is = housed
    by (Some s) is = unless-first k (volume_refusal k v s tracks) (volume_done v s tracks) housed (λ none. housed-volume k v s tracks (position-Some (bytes_eq (name_bytes name)) k.servers s [] is).0 housed)
