-- Of the parts of an `@run` each but the last is ok.
use Rattle.std.proofs.Common.{ℕ, zero, suc, ◌≡◌, ◌⊎◌, inl, inr, refl, ap, ◌∙◌, sym, subst, append_assoc, Bool, true, false, cond, List, [], ◌∷◌, ◌++◌, Option, Some, None, nat_eq}
use Rattle.std.proofs.lemmas.List.{append-nil}
use Rattle.dr_ids.specs.declared.names.Member.{Member}
use Rattle.dr_ids.specs.declared.refusal.PhaseName.{PhaseName}
use Rattle.dr_ids.specs.declared.refusal.Refusal.{Refusal}
use Rattle.dr_ids.specs.declared.refusal.Refusal.TheVariants.{OutOfOrder, JournalFull}
use Rattle.dr_model.specs.Control.{World}
use Rattle.dr_model.specs.PlanParts.{Plan}
use Rattle.dr_model.specs.Plans.{has_room, drain_plan}
use Rattle.dr_model.specs.PairEntries.{is_copying}
use Rattle.dr_model.specs.SessionEntries.{members_on}
use Rattle.dr_model.specs.SessionPlans.{asking}
use Rattle.dr_model.specs.Sessions.{Session, session_in, members_in}
use Rattle.dr_model.specs.Forming.{Part, Way, stays, ends, goes_on, and_then, unless_refused, after_part, part_refusal, part, drains, is_draining, ask, next_asked, master_in, phase_in, has_committed, still_left, turn_by, turns, most_turns, form_refusal, form_in}
use Rattle.dr_laws_runs.specs.Parts.{AllOk, LastIs, AsRun, NobodyLeft, NoRoom, AnsweredAs, PartsAreAnswered}

-- how a way without parts may end, where one with parts may come before it
data MayEnd : Option Refusal → Type 0 where
  Well : MayEnd None
  Nobody : (phase : PhaseName) → MayEnd (Some (OutOfOrder phase))
  Full : MayEnd (Some JournalFull)

abbrev Fits : List Part → Option Refusal → Type 0
Fits parts r = (parts ≡ []) × MayEnd r ⊎ AnsweredAs parts r

last-so : (r : Option Refusal) → MayEnd r → LastIs None r
last-so _ Well = AsRun None
last-so _ (Nobody phase) = NobodyLeft phase
last-so _ Full = NoRoom

ok-append : (xs ys : List Part) → AllOk xs → AllOk ys → AllOk (xs ++ ys)
ok-append [] ys p q = q
ok-append (x ∷ xs) ys p q = (p.0, ok-append xs ys p.1 q)

-- the last of a way that ended well is ok
ended-ok : (o r : Option Refusal) → LastIs o r → r ≡ None → o ≡ None
ended-ok _ _ (AsRun r) e = e
ended-ok _ _ (NobodyLeft phase) e = refl
ended-ok _ _ NoRoom e = refl

all-ok : (xs : List Part) → AnsweredAs xs None → AllOk xs
all-ok xs a = subst AllOk (sym a.cut) (ok-append a.before (a.last ∷ []) a.ok (ended-ok _ _ a.is refl, tt))

-- one way, and then another
both : (xs ys : List Part) (r : Option Refusal) → Fits xs None → Fits ys r → Fits (xs ++ ys) r
both xs ys r (inl (none, may)) rest = subst (λ xs. Fits (xs ++ ys) r) (sym none) rest
both xs ys r (inr a) (inl (none, may)) = inr (record {
  before = a.before;
  last = a.last;
  cut = ap (λ ys. xs ++ ys) none ∙ append-nil xs ∙ a.cut;
  ok = a.ok;
  is = subst (λ o. LastIs o r) (sym (ended-ok _ _ a.is refl)) (last-so r may);
})
both xs ys r (inr a) (inr b) = inr (record {
  before = xs ++ b.before;
  last = b.last;
  cut = ap (λ ys. xs ++ ys) b.cut ∙ sym (append_assoc xs b.before (b.last ∷ []));
  ok = ok-append xs b.before (all-ok xs a) b.ok;
  is = b.is;
})

fits-then : (xs : List Part) (u : World) (r : Option Refusal) (more : World → Way) → Fits xs r → ((v : World) → Fits (more v).parts (more v).refusal) → Fits (goes_on xs u r more).parts (goes_on xs u r more).refusal
fits-then xs u None more fits rest = both xs (more u).parts (more u).refusal fits (rest u)
fits-then xs u (Some r) more fits rest = fits

fits-if : (b : Bool) (x y : Way) → Fits x.parts x.refusal → Fits y.parts y.refusal → Fits (cond b x y).parts (cond b x y).refusal
fits-if true x y p q = p
fits-if false x y p q = q

fits-part : (w : World) (p : Plan) → Fits (part w p).parts (part w p).refusal
fits-part w p = fits-if (has_room w.events) (record { parts = record { world = w; plan = p } ∷ []; world = after_part w p; refusal = part_refusal w p }) (ends w JournalFull)
    (inr (record { before = []; last = record { world = w; plan = p }; cut = refl; ok = tt; is = AsRun (part_refusal w p) })) (inl (refl, Full))

fits-drains : (w : World) (ms : List Member) → Fits (drains w ms).parts (drains w ms).refusal
unfolding drains
fits-drains w [] = inl (refl, Well)
fits-drains w (m ∷ ms) =
    let x : Way = part w (drain_plan w.control m.a.0 None) in
    fits-if (is_copying m.a.0 w.control) (and_then x (λ v. drains v ms)) (drains w ms) (fits-then x.parts x.world x.refusal (λ v. drains v ms) (fits-part w (drain_plan w.control m.a.0 None)) (λ v. fits-drains v ms)) (fits-drains w ms)

fits-ask : (w : World) (s : ℕ) (p : PhaseName) (ms : List Member) (server : ℕ) → Fits (ask w s p ms server).parts (ask w s p ms server).refusal
fits-ask w s p ms server =
    let x : Way = cond (is_draining p) (drains w (members_on server ms)) (stays w) in
    fits-then x.parts x.world x.refusal (λ v. part v (asking v.control s server true)) (fits-if (is_draining p) (drains w (members_on server ms)) (stays w) (fits-drains w (members_on server ms)) (inl (refl, Well))) (λ v. fits-part v (asking v.control s server true))

fits-turn : (w : World) (s : ℕ) (p : PhaseName) (ms : List Member) (o : Option ℕ) (more : World → Way) → ((v : World) → Fits (more v).parts (more v).refusal) → Fits (turn_by w s p ms o more).parts (turn_by w s p ms o more).refusal
fits-turn w s p ms None more rest = inl (refl, Nobody p)
fits-turn w s p ms (Some server) more rest = let x : Way = ask w s p ms server in fits-then x.parts x.world x.refusal more (fits-ask w s p ms server) rest

fits-turns : (bound : ℕ) (w : World) (s left : ℕ) (committed : Bool) → Fits (turns bound w s left committed).parts (turns bound w s left committed).refusal
unfolding turns
fits-turns zero w s left committed = fits-if (nat_eq left 0) (stays w) (ends w (OutOfOrder (phase_in w.control s))) (inl (refl, Well)) (inl (refl, Nobody (phase_in w.control s)))
fits-turns (suc bound) w s left committed =
    let more : World → Way = λ v. turns bound v s (still_left committed (phase_in v.control s) left) (has_committed committed (phase_in w.control s) (phase_in v.control s)) in
    let p : PhaseName = phase_in w.control s in
    let ms : List Member = members_in (session_in w.control.sessions s) in
    fits-if (nat_eq left 0) (stays w) (turn_by w s p ms (next_asked (master_in w.control s)) more) (inl (refl, Well))
    (fits-turn w s p ms (next_asked (master_in w.control s)) more (λ v. fits-turns bound v s (still_left committed (phase_in v.control s) left) (has_committed committed (phase_in w.control s) (phase_in v.control s))))

pub parts-are-answered : (w : World) (s n : ℕ) → PartsAreAnswered w s n
parts-are-answered w s n = by (has_room w.events) (session_in w.control.sessions s)
  where
    wider : (x : Way) → Fits x.parts x.refusal → (x.parts ≡ []) ⊎ AnsweredAs x.parts x.refusal
    wider x (inl (none, may)) = inl none
    wider x (inr a) = inr a

    unrefused : (r : Option Refusal) (x : Way) → Fits x.parts x.refusal → ((unless_refused r w x).parts ≡ []) ⊎ AnsweredAs (unless_refused r w x).parts (unless_refused r w x).refusal
    unrefused None x fits = wider x fits
    unrefused (Some r) x fits = inl refl

    inside : (o : Option Session) → ((form_in w s n o).parts ≡ []) ⊎ AnsweredAs (form_in w s n o).parts (form_in w s n o).refusal
    inside None = inl refl
    inside (Some x) = unrefused (form_refusal n x.mirror) (turns (most_turns n) w s n false) (fits-turns (most_turns n) w s n false)

    by : (b : Bool) (o : Option Session) → (let x : Way = cond b (form_in w s n o) (ends w JournalFull) in (x.parts ≡ []) ⊎ AnsweredAs x.parts x.refusal)
    by true o = inside o
    by false o = inl refl
