-- The example, carried out: its seal entry by entry, and all else at once.
use Rattle.std.proofs.Common.{List, arith, ◌≡◌, inl, inr, subst, refl, ap, sym, ◌∙◌, true, false, nat_eq, [], ◌∷◌, ◌++◌, None}
use Rattle.std.specs.FinSet.{len, len-empty}
use Rattle.dr_logic.specs.Bytes.{zeros}
use Rattle.dr_ids.specs.declared.names.Member.{Member}
use Rattle.dr_ids.specs.declared.refusal.Decision.TheVariants.{Nothing}
use Rattle.dr_model.specs.declared.said.Addition.TheVariants.{InGroup}
use Rattle.dr_model.specs.declared.said.Said.TheVariants.{Done}
use Rattle.dr_model.specs.Control.{World}
use Rattle.dr_model.specs.Entries.{fields_at}
use Rattle.dr_model.specs.Sessions.{changed}
use Rattle.dr_model.specs.SessionEntries.{void_refusal}
use Rattle.dr_model.specs.PairEntries.{send_refusal, refuse_if}
use Rattle.dr_model.specs.Decisions.{decision, decided}
use Rattle.dr_model.specs.Phases.{servers_where}
use Rattle.dr_model.specs.Relations.{all_tracks, is_whole, rest, in_order}
use Rattle.dr_model.specs.Forming.{drains, turns}
use Rattle.dr_model.specs.Carry.{Pass, carry, act, turn, update_keeping, redo}
use Rattle.dr_model.specs.Carried.{begun, after_plan}
use Rattle.dr_ids.specs.Sizes.{most_tracks}
use Rattle.dr_lost.specs.Lost.{IsLost}
use Rattle.dr_model.specs.Histories.{histories, lists}
use Rattle.dr_model.specs.Contents.{image, laid}
use Rattle.dr_model.specs.Runs.{Task, course, after_task, after_tasks, run}
use Rattle.std.specs.Ordering.{nat_cmp}
use Rattle.dr_logic.proofs.Lists.{cons-parts}
use Rattle.dr_model.specs.declared.step.Step.TheVariants.{Write, Stop}
use Rattle.dr_model.specs.TakenWrites.{takes_from}
use Rattle.dr_model.specs.Groups.{In}
use Rattle.dr_laws_sound.specs.Acknowledged.{said_in}
use Rattle.dr_laws_sound.proofs.Journal.{run-more}
use Rattle.dr_model.specs.SessionEntries.{counts_at}
use Rattle.dr_model.specs.Control.{nothing}
use Rattle.dr_laws_losses.specs.Pairs.{PairsHoldSame}
use Rattle.dr_laws_losses.specs.Losses.{members_of, RecoversTargets, PrimariesKeep}
use Rattle.dr_laws_losses.specs.Example.{member, name_a, task, volumes, pairs_made, unsealed, exchange, work, before, recover, pairs}
use Rattle.dr_laws_losses.proofs.Known.{tasks-joined}
use Rattle.dr_laws_losses.proofs.Early.{hold-same}
use Rattle.dr_laws_losses.proofs.Sealed.{seals, moved_on, sealed, MaySeal, seal-is}

-- as the seal begins
w : World
w = run (volumes ++ pairs_made ++ unsealed)

plan-is : (course w (exchange 14)).last.plan ≡ seals
unfolding w after_tasks after_plan carry act turn update_keeping redo histories image laid changed zeros decision decided servers_where all_tracks is_whole rest in_order drains turns
plan-is = refl

first-is : refuse_if (void_refusal 256 1) (begun w seals).control ≡ Pass
unfolding w after_tasks after_plan carry act turn update_keeping redo histories image laid changed zeros decision decided servers_where all_tracks is_whole rest in_order drains turns
first-is = refl

bare : len (fields_at (begun w seals).control 256).out_of_sync ≡ 0
unfolding w after_tasks after_plan carry act turn update_keeping redo histories image laid changed zeros decision decided servers_where all_tracks is_whole rest in_order drains turns
bare = len-empty nat_cmp

reached : send_refusal 256 512 (begun w seals).control ≡ None
unfolding w after_tasks after_plan carry act turn update_keeping redo histories image laid changed zeros decision decided servers_where all_tracks is_whole rest in_order drains turns
reached = refl

unsealed-yet : nat_eq (fields_at (begun w seals).control 512).seal 1 ≡ false
unfolding w after_tasks after_plan carry act turn update_keeping redo histories image laid changed zeros decision decided servers_where all_tracks is_whole rest in_order drains turns
unsealed-yet = refl

ends-well : (moved_on w).1 ≡ None
unfolding w after_tasks after_plan carry act turn update_keeping redo histories image laid changed zeros decision decided servers_where all_tracks is_whole rest in_order drains turns
ends-well = refl

bare-then : len (fields_at (moved_on w).0.control 256).out_of_sync ≡ 0
unfolding w after_tasks after_plan carry act turn update_keeping redo histories image laid changed zeros decision decided servers_where all_tracks is_whole rest in_order drains turns
bare-then = len-empty nat_cmp

may-seal : MaySeal w
may-seal = record { plan = plan-is; first = first-is; bare = bare; reached = reached; unsealed = unsealed-yet; well = ends-well; bare_then = bare-then }

-- ---- all of it

before-is : run before ≡ after_tasks (sealed w) work
unfolding after_tasks w
before-is = tasks-joined (volumes ++ pairs_made ++ unsealed) (exchange 14 ∷ work) ∙ ap (λ v. after_tasks v work) (seal-is w may-seal)

-- the world as the recovery begins, and as it is answered
abbrev last_world : World
last_world = after_tasks (sealed w) work

abbrev found : World
found = after_task last_world recover

answers-there : said_in last_world recover ≡ Done (InGroup 1 (Nothing 1))
unfolding w after_tasks after_plan carry act turn update_keeping redo histories image laid changed zeros decision decided servers_where all_tracks is_whole rest in_order drains turns
answers-there = refl

members-there : members_of found 1 ≡ member ∷ []
unfolding w after_tasks after_plan carry act turn update_keeping redo histories image laid changed zeros decision decided servers_where all_tracks is_whole rest in_order drains turns
members-there = refl

counts-there : counts_at 1 found.control member ≡ true
unfolding w after_tasks after_plan carry act turn update_keeping redo histories image laid changed zeros decision decided servers_where all_tracks is_whole rest in_order drains turns
counts-there = refl

-- no write was issued when the pair was made
alike : PairsHoldSame nothing (before ++ recover ∷ [])
alike = hold-same (before ++ recover ∷ []) (record {
  early = volumes ++ pairs_made;
  late = unsealed ++ exchange 14 ∷ (work ++ recover ∷ []);
  cut = refl;
  unwritten = refl;
  copied = refl;
})

-- ---- the premises

one-member : (q : Member) → In q (member ∷ []) → q ≡ member
one-member q (inl is) = is
one-member q (inr none) = absurd none

found-is : run (before ++ recover ∷ []) ≡ found
found-is = run-more before recover ∙ ap (λ v. after_task v recover) before-is

pub meets : RecoversTargets before (recover ∷ []) 1 1 (member ∷ []) pairs
meets = record {
  first = [];
  step = recover;
  rest = [];
  cut = refl;
  so = record {
    asked = refl;
    decision = Nothing 1;
    answered = ap (λ v. said_in v recover) before-is ∙ answers-there;
    members = λ q here. subst (In q) (sym (ap (λ (v : World). members_of v 1) found-is ∙ members-there)) here;
    counted = λ q here. ap (λ (v : World). counts_at 1 v.control q) found-is ∙ (ap (counts_at 1 found.control) (one-member q here) ∙ counts-there);
    targets = λ p. (λ h. h, λ h. h);
    stays = λ q here t. refl;
    alike = alike;
  };
}

-- ---- what is lost

held-there : lists last_world.events 256 0 ≡ 1 ∷ []
unfolding w after_tasks after_plan carry act turn update_keeping redo histories image laid changed zeros decision decided servers_where all_tracks is_whole rest in_order drains turns
held-there = refl

kept-there : lists found.events 768 0 ≡ []
unfolding w after_tasks after_plan carry act turn update_keeping redo histories image laid changed zeros decision decided servers_where all_tracks is_whole rest in_order drains turns
kept-there = refl

pub holds : lists (run before).events 256 0 ≡ 1 ∷ []
holds = ap (λ (v : World). lists v.events 256 0) before-is ∙ held-there

pub loses : IsLost most_tracks (lists (run before).events) (lists (run (before ++ recover ∷ [])).events) pairs 1
loses = record {
  pair = record { second = 256; first = 768 };
  track = 0;
  among = inl refl;
  below = omega arith;
  held = subst (In 1) (sym holds) (inl refl);
  gone = λ h. subst (In 1) (ap (λ (v : World). lists v.events 768 0) found-is ∙ kept-there) h;
}

-- ---- and the primary keeps its writes

abbrev grouped : List Task
grouped = exchange 15 ∷ exchange 16 ∷ exchange 17 ∷ []

abbrev first_steps : List Task
first_steps = volumes ++ pairs_made ++ unsealed ++ exchange 14 ∷ grouped

grouped-is : run first_steps ≡ after_tasks (sealed w) grouped
unfolding after_tasks w
grouped-is = tasks-joined (volumes ++ pairs_made ++ unsealed) (exchange 14 ∷ grouped) ∙ ap (λ v. after_tasks v grouped) (seal-is w may-seal)

abbrev wrote : Task
wrote = task 18 (Write 256 0 0 1 (1 ∷ []))

abbrev stops : Task
stops = task 19 (Stop name_a)

write-keeps : takes_from (after_tasks (sealed w) grouped).control wrote.asked 256 ≡ false
unfolding w after_tasks after_plan carry act turn update_keeping redo histories image laid changed zeros decision decided servers_where all_tracks is_whole rest in_order drains turns
write-keeps = refl

recover-keeps : takes_from last_world.control recover.asked 256 ≡ false
unfolding w after_tasks after_plan carry act turn update_keeping redo histories image laid changed zeros decision decided servers_where all_tracks is_whole rest in_order drains turns
recover-keeps = refl

keep-by : (before after : List Task) (t : Task) → wrote ∷ stops ∷ recover ∷ [] ≡ before ++ t ∷ after → takes_from (run (first_steps ++ before)).control t.asked 256 ≡ false
keep-by [] after t is = subst (λ (t : Task). takes_from (run first_steps).control t.asked 256 ≡ false) (cons-parts is).0 (ap (λ (v : World). takes_from v.control wrote.asked 256) grouped-is ∙ write-keeps)
keep-by (x ∷ []) after t is = subst (λ (t : Task). takes_from (run (first_steps ++ x ∷ [])).control t.asked 256 ≡ false) (cons-parts (cons-parts is).1).0 refl
keep-by (x ∷ y ∷ []) after t is =
    subst (λ x. takes_from (run (first_steps ++ x ∷ y ∷ [])).control t.asked 256 ≡ false) (cons-parts is).0
    (subst (λ y. takes_from (run (first_steps ++ wrote ∷ y ∷ [])).control t.asked 256 ≡ false) (cons-parts (cons-parts is).1).0
    (subst (λ (t : Task). takes_from (run (first_steps ++ wrote ∷ stops ∷ [])).control t.asked 256 ≡ false) (cons-parts (cons-parts (cons-parts is).1).1).0
    (ap (λ (v : World). takes_from v.control recover.asked 256) before-is ∙ recover-keeps)))
keep-by (x ∷ y ∷ z ∷ before) after t is = absurd (empty before (cons-parts (cons-parts (cons-parts is).1).1).1)
  where
    empty : (before : List Task) → [] ≡ before ++ t ∷ after → ⊥
    empty [] is = cc
    empty (x ∷ before) is = cc

pub keeps : PrimariesKeep (before ++ recover ∷ []) (member ∷ [])
keeps = record {
  early = first_steps;
  late = wrote ∷ stops ∷ recover ∷ [];
  cut = refl;
  unwritten = refl;
  keep = λ before after t q is here. subst (λ (q : Member). takes_from (run (first_steps ++ before)).control t.asked q.a.0 ≡ false) (sym (one-member q here)) (keep-by before after t is);
}
