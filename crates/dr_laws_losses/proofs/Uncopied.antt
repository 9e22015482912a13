-- Why pairs that are made without a copy have to hold the same writes: here they contain the same, and a write that is in the cut is lost.
use Rattle.std.proofs.Common.{arith, ◌≡◌, inl, subst, refl, ap, sym, ◌∙◌, true, false, nat_eq, [], ◌∷◌, ◌++◌, None}
use Rattle.std.specs.FinSet.{len, len-empty}
use Rattle.dr_logic.specs.Bytes.{zeros}
use Rattle.dr_ids.specs.declared.refusal.Decision.TheVariants.{Nothing}
use Rattle.dr_model.specs.declared.said.Addition.TheVariants.{InGroup}
use Rattle.dr_model.specs.declared.said.Said.TheVariants.{Done}
use Rattle.dr_model.specs.Control.{World}
use Rattle.dr_model.specs.Entries.{fields_at}
use Rattle.dr_model.specs.Sessions.{changed}
use Rattle.dr_model.specs.SessionEntries.{void_refusal}
use Rattle.dr_model.specs.PairEntries.{send_refusal, refuse_if}
use Rattle.dr_model.specs.Decisions.{decision, decided}
use Rattle.dr_model.specs.Phases.{servers_where}
use Rattle.dr_model.specs.Relations.{all_tracks, is_whole, rest, in_order}
use Rattle.dr_model.specs.Forming.{drains, turns}
use Rattle.dr_model.specs.Carry.{Pass, carry, act, turn, update_keeping, redo}
use Rattle.dr_model.specs.Carried.{begun, after_plan}
use Rattle.dr_ids.specs.Sizes.{most_tracks}
use Rattle.dr_lost.specs.Lost.{IsLost}
use Rattle.dr_model.specs.Cuts.{past, cuts}
use Rattle.dr_model.specs.Histories.{histories, lists}
use Rattle.dr_model.specs.Contents.{image, laid}
use Rattle.dr_model.specs.Runs.{course, after_task, after_tasks, run}
use Rattle.std.specs.Ordering.{nat_cmp}
use Rattle.dr_model.specs.Groups.{In}
use Rattle.dr_laws_sound.specs.Acknowledged.{said_in}
use Rattle.dr_laws_sound.proofs.Journal.{run-more}
use Rattle.dr_model.specs.SessionEntries.{counts_at}
use Rattle.dr_laws_losses.specs.Losses.{members_of}
use Rattle.dr_laws_losses.specs.Example.{member, written, unwritten, uncopied, exchange, recover, pairs}
use Rattle.dr_laws_losses.proofs.Known.{tasks-joined, first-then}
use Rattle.dr_laws_losses.proofs.Sealed.{seals, moved_on, sealed, MaySeal, seal-is}

-- as the seal begins
seal_world : World
seal_world = run written

plan-is : (course seal_world (exchange 14)).last.plan ≡ seals
unfolding seal_world after_tasks after_plan carry act turn update_keeping redo histories image laid changed zeros decision decided servers_where all_tracks is_whole rest in_order drains turns
plan-is = refl

first-is : refuse_if (void_refusal 256 1) (begun seal_world seals).control ≡ Pass
unfolding seal_world after_tasks after_plan carry act turn update_keeping redo histories image laid changed zeros decision decided servers_where all_tracks is_whole rest in_order drains turns
first-is = refl

bare : len (fields_at (begun seal_world seals).control 256).out_of_sync ≡ 0
unfolding seal_world after_tasks after_plan carry act turn update_keeping redo histories image laid changed zeros decision decided servers_where all_tracks is_whole rest in_order drains turns
bare = len-empty nat_cmp

reached : send_refusal 256 512 (begun seal_world seals).control ≡ None
unfolding seal_world after_tasks after_plan carry act turn update_keeping redo histories image laid changed zeros decision decided servers_where all_tracks is_whole rest in_order drains turns
reached = refl

unsealed-yet : nat_eq (fields_at (begun seal_world seals).control 512).seal 1 ≡ false
unfolding seal_world after_tasks after_plan carry act turn update_keeping redo histories image laid changed zeros decision decided servers_where all_tracks is_whole rest in_order drains turns
unsealed-yet = refl

ends-well : (moved_on seal_world).1 ≡ None
unfolding seal_world after_tasks after_plan carry act turn update_keeping redo histories image laid changed zeros decision decided servers_where all_tracks is_whole rest in_order drains turns
ends-well = refl

bare-then : len (fields_at (moved_on seal_world).0.control 256).out_of_sync ≡ 0
unfolding seal_world after_tasks after_plan carry act turn update_keeping redo histories image laid changed zeros decision decided servers_where all_tracks is_whole rest in_order drains turns
bare-then = len-empty nat_cmp

may-seal : MaySeal seal_world
may-seal = record { plan = plan-is; first = first-is; bare = bare; reached = reached; unsealed = unsealed-yet; well = ends-well; bare_then = bare-then }

-- ---- all of it

before-is : run uncopied ≡ after_tasks (sealed seal_world) unwritten
unfolding seal_world
before-is = tasks-joined written (exchange 14 ∷ unwritten) ∙ (by ∙ ap (λ v. after_tasks v unwritten) (seal-is seal_world may-seal))
  where
    by : after_tasks (run written) (exchange 14 ∷ unwritten) ≡ after_tasks (after_task seal_world (exchange 14)) unwritten
    by = first-then (run written) (exchange 14) unwritten

-- the world as the recovery begins, and as it is answered
abbrev lost_world : World
lost_world = after_tasks (sealed seal_world) unwritten

abbrev recovered : World
recovered = after_task lost_world recover

answers-there : said_in lost_world recover ≡ Done (InGroup 1 (Nothing 1))
unfolding seal_world after_tasks after_plan carry act turn update_keeping redo histories image laid changed zeros decision decided servers_where all_tracks is_whole rest in_order drains turns
answers-there = refl

members-there : members_of recovered 1 ≡ member ∷ []
unfolding seal_world after_tasks after_plan carry act turn update_keeping redo histories image laid changed zeros decision decided servers_where all_tracks is_whole rest in_order drains turns
members-there = refl

counts-there : counts_at 1 recovered.control member ≡ true
unfolding seal_world after_tasks after_plan carry act turn update_keeping redo histories image laid changed zeros decision decided servers_where all_tracks is_whole rest in_order drains turns
counts-there = refl

found-is : run (uncopied ++ recover ∷ []) ≡ recovered
found-is = run-more uncopied recover ∙ ap (λ v. after_task v recover) before-is

pub answers : said_in (run uncopied) recover ≡ Done (InGroup 1 (Nothing 1))
answers = ap (λ v. said_in v recover) before-is ∙ answers-there

pub members : members_of (run (uncopied ++ recover ∷ [])) 1 ≡ member ∷ []
members = ap (λ v. members_of v 1) found-is ∙ members-there

pub counts : counts_at 1 (run (uncopied ++ recover ∷ [])).control member ≡ true
counts = ap (λ (v : World). counts_at 1 v.control member) found-is ∙ counts-there

-- ---- what is lost, and what is in the cut

held-there : lists lost_world.events 256 0 ≡ 1 ∷ []
unfolding seal_world after_tasks after_plan carry act turn update_keeping redo histories image laid changed zeros decision decided servers_where all_tracks is_whole rest in_order drains turns
held-there = refl

kept-there : lists recovered.events 768 0 ≡ []
unfolding seal_world after_tasks after_plan carry act turn update_keeping redo histories image laid changed zeros decision decided servers_where all_tracks is_whole rest in_order drains turns
kept-there = refl

cut-there : (cuts recovered.events).held 1 256 0 ≡ 1 ∷ []
unfolding seal_world after_tasks after_plan carry act turn update_keeping redo histories image laid changed zeros decision decided servers_where all_tracks is_whole rest in_order drains turns past
cut-there = refl

pub loses : IsLost most_tracks (lists (run uncopied).events) (lists (run (uncopied ++ recover ∷ [])).events) pairs 1
loses = record {
  pair = record { second = 256; first = 768 };
  track = 0;
  among = inl refl;
  below = omega arith;
  held = subst (In 1) (sym (ap (λ (v : World). lists v.events 256 0) before-is ∙ held-there)) (inl refl);
  gone = λ h. subst (In 1) (ap (λ (v : World). lists v.events 768 0) found-is ∙ kept-there) h;
}

pub cut : (cuts (run (uncopied ++ recover ∷ [])).events).held 1 256 0 ≡ 1 ∷ []
cut = ap (λ (v : World). (cuts v.events).held 1 256 0) found-is ∙ cut-there
