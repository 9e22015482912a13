-- The step table looks at no fuse.
use Rattle.std.proofs.Common.{ℕ, ◌≡◌, refl, ap, Bool, true, false, cond, List, Option, Some, None, Result, Ok, Err}
use Rattle.dr_ids.specs.declared.refusal.Decision.{Decision}
use Rattle.dr_ids.specs.declared.refusal.Refusal.TheVariants.{JournalFull}
use Rattle.dr_model.specs.declared.event.Event.{Event}
use Rattle.dr_model.specs.declared.step.Devs.{Devs}
use Rattle.dr_model.specs.declared.step.Name.{Name}
use Rattle.dr_model.specs.declared.step.Step.{Step}
use Rattle.dr_model.specs.declared.step.Step.TheVariants.{Server, MakePath, RemovePath, Freeze, Unfreeze, UnfreezeFlash, MakeSession, RemoveSession, AddMember, RemoveMember, MakeMirror, PauseMirror, ResumeMirror, RemoveMirror, CommitFlash, RevertFlash, ListPairs, ListFlashes, ListSession, ShowMirror}
use Rattle.dr_model.specs.Control.{Control, Fuse}
use Rattle.dr_model.specs.Listings.{list_pairs_plan, list_flashes_plan, list_session_plan, show_mirror_plan}
use Rattle.dr_model.specs.SessionPlans.{join_plan, leave_plan, add_plan, expel_plan, mirror_plan, pause_mirror_plan, unmirror_plan}
use Rattle.dr_model.specs.RecoveryPlans.{lets_commit, lets_revert, settle_plan}
use Rattle.dr_model.specs.Plans.{plan, plan_of, has_room, refuses, path_plan, unpath_plan, freeze_plan, thaw_plan, release_plan}
use Rattle.dr_laws_fuses.proofs.Blind.{fused}

module _ (k : Control) (g : ℕ → Option Fuse) (line : ℕ) where
  -- a step that names servers, or none
  path-blind : (dev remote : Option Name) (src tgt : ℕ) (group : Bool) → (let devs : Devs = record { dev = dev; remotedev = remote } in path_plan (fused k g) devs src tgt group ≡ path_plan k devs src tgt group)
  path-blind None None src tgt group = refl
  path-blind None (Some other) src tgt group = refl
  path-blind (Some name) None src tgt group = refl
  path-blind (Some name) (Some other) src tgt group = refl

  unpath-blind : (dev remote : Option Name) (src tgt : ℕ) (force : Bool) → (let devs : Devs = record { dev = dev; remotedev = remote } in unpath_plan (fused k g) devs src tgt force ≡ unpath_plan k devs src tgt force)
  unpath-blind None None src tgt force = refl
  unpath-blind None (Some other) src tgt force = refl
  unpath-blind (Some name) None src tgt force = refl
  unpath-blind (Some name) (Some other) src tgt force = refl

  freeze-blind : (dev remote : Option Name) (l m : ℕ) → (let devs : Devs = record { dev = dev; remotedev = remote } in freeze_plan (fused k g) devs l m ≡ freeze_plan k devs l m)
  freeze-blind None None l m = refl
  freeze-blind None (Some other) l m = refl
  freeze-blind (Some name) None l m = refl
  freeze-blind (Some name) (Some other) l m = refl

  thaw-blind : (dev remote : Option Name) (l m : ℕ) → (let devs : Devs = record { dev = dev; remotedev = remote } in thaw_plan (fused k g) devs l m ≡ thaw_plan k devs l m)
  thaw-blind None None l m = refl
  thaw-blind None (Some other) l m = refl
  thaw-blind (Some name) None l m = refl
  thaw-blind (Some name) (Some other) l m = refl

  -- one that names a server, or none
  release-blind : (dev : Option Name) (l : ℕ) → release_plan (fused k g) dev l ≡ release_plan k dev l
  release-blind None l = refl
  release-blind (Some name) l = refl

  join-blind : (dev : Option Name) (l s : ℕ) → join_plan (fused k g) dev l s ≡ join_plan k dev l s
  join-blind None l s = refl
  join-blind (Some name) l s = refl

  leave-blind : (dev : Option Name) (l s : ℕ) → leave_plan (fused k g) dev l s ≡ leave_plan k dev l s
  leave-blind None l s = refl
  leave-blind (Some name) l s = refl

  add-blind : (dev : Option Name) (l a s : ℕ) → add_plan (fused k g) dev l a s ≡ add_plan k dev l a s
  add-blind None l a s = refl
  add-blind (Some name) l a s = refl

  expel-blind : (dev : Option Name) (l a s : ℕ) → expel_plan (fused k g) dev l a s ≡ expel_plan k dev l a s
  expel-blind None l a s = refl
  expel-blind (Some name) l a s = refl

  mirror-blind : (dev : Option Name) (l s : ℕ) → mirror_plan (fused k g) dev l s ≡ mirror_plan k dev l s
  mirror-blind None l s = refl
  mirror-blind (Some name) l s = refl

  pause-blind : (dev : Option Name) (l s : ℕ) (on : Bool) → pause_mirror_plan (fused k g) dev l s on ≡ pause_mirror_plan k dev l s on
  pause-blind None l s on = refl
  pause-blind (Some name) l s on = refl

  unmirror-blind : (dev : Option Name) (l s : ℕ) → unmirror_plan (fused k g) dev l s ≡ unmirror_plan k dev l s
  unmirror-blind None l s = refl
  unmirror-blind (Some name) l s = refl

  settle-blind : (dev : Option Name) (lets : Decision → Bool) (source : ℕ) → settle_plan (fused k g) dev lets source ≡ settle_plan k dev lets source
  settle-blind None lets source = refl
  settle-blind (Some name) lets source = refl

  pairs-blind : (dev : Option Name) (v : ℕ) → list_pairs_plan (fused k g) line dev v ≡ list_pairs_plan k line dev v
  pairs-blind None v = refl
  pairs-blind (Some name) v = refl

  flashes-blind : (dev : Option Name) (v : ℕ) → list_flashes_plan (fused k g) line dev v ≡ list_flashes_plan k line dev v
  flashes-blind None v = refl
  flashes-blind (Some name) v = refl

  sessions-blind : (dev : Option Name) (l : ℕ) → list_session_plan (fused k g) line dev l ≡ list_session_plan k line dev l
  sessions-blind None l = refl
  sessions-blind (Some name) l = refl

  mirrors-blind : (dev : Option Name) (l : ℕ) → show_mirror_plan (fused k g) line dev l ≡ show_mirror_plan k line dev l
  mirrors-blind None l = refl
  mirrors-blind (Some name) l = refl

  of-blind : (events : List Event) (step : Step) → plan_of (fused k g) events line step ≡ plan_of k events line step
  of-blind events (Server name) = refl
  of-blind events (MakePath devs src tgt group) = path-blind devs.dev devs.remotedev src tgt group
  of-blind events (RemovePath devs src tgt force) = unpath-blind devs.dev devs.remotedev src tgt force
  of-blind events (Freeze devs l m) = freeze-blind devs.dev devs.remotedev l m
  of-blind events (Unfreeze devs l m) = thaw-blind devs.dev devs.remotedev l m
  of-blind events (UnfreezeFlash devs l) = release-blind devs.dev l
  of-blind events (MakeSession devs l s) = join-blind devs.dev l s
  of-blind events (RemoveSession devs l s) = leave-blind devs.dev l s
  of-blind events (AddMember devs l a s) = add-blind devs.dev l a s
  of-blind events (RemoveMember devs l a s) = expel-blind devs.dev l a s
  of-blind events (MakeMirror devs l s cginterval coordinate drain) = mirror-blind devs.dev l s
  of-blind events (PauseMirror devs l s) = pause-blind devs.dev l s true
  of-blind events (ResumeMirror devs l s cginterval coordinate drain) = pause-blind devs.dev l s false
  of-blind events (RemoveMirror devs l s) = unmirror-blind devs.dev l s
  of-blind events (CommitFlash devs source sequence) = settle-blind devs.dev lets_commit source
  of-blind events (RevertFlash devs source sequence) = settle-blind devs.dev lets_revert source
  of-blind events (ListPairs devs v) = pairs-blind devs.dev v
  of-blind events (ListFlashes devs v) = flashes-blind devs.dev v
  of-blind events (ListSession devs l) = sessions-blind devs.dev l
  of-blind events (ShowMirror devs l) = mirrors-blind devs.dev l
  of-blind events step = refl

  pub table-blind : (events : List Event) (asked : Result Step ℕ) → plan (fused k g) events line asked ≡ plan k events line asked
  table-blind events (Ok step) = ap (λ p. cond (has_room events) p (refuses JournalFull)) (of-blind events step)
  table-blind events (Err column) = refl
