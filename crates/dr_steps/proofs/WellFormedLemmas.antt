-- A step that a line of the grammar gives is well formed.
use Rattle.std.proofs.Common.{ℕ, ◌≡◌, ◌+◌, ◌-◌, ◌^◌, ◌≤◌, List, [], ◌∷◌, ◌++◌, length, arith, Bool, true, false, cond, not, replicate, Option, Some, None, ◌&&◌, ◌||◌, nat_eq, nat_le, nat_lt}
use Rattle.std.specs.Prelude.{is_some, unwrap_or}
use Rattle.std.specs.List.{list_all}
use Rattle.std.specs.Str.{bytes_eq}
use Rattle.std.proofs.lemmas.Bool.{and_parts}
use Rattle.std.proofs.lemmas.Bool.Decides.{nat_tests}
use Rattle.dr_model.specs.declared.step.Name.{Name}
use Rattle.dr_model.specs.declared.step.Devs.{Devs}
use Rattle.dr_model.specs.declared.step.Step.{Step}
use Rattle.dr_model.specs.declared.step.Step.TheVariants.{Server, Volume, Link, Stop, StopAfter, Start, Issue, Write, MakeFlash, RemoveFlash, ResyncFlash, ReverseFlash, UnfreezeFlash, MakePath, RemovePath, MakePair, RemovePair, PausePair, ResumePair, Failover, Failback, Expire, Freeze, Unfreeze, MakeSession, RemoveSession, AddMember, RemoveMember, MakeMirror, PauseMirror, ResumeMirror, RemoveMirror, Exchange, Send, CommitFlash, RevertFlash, ListPairs, ListFlashes, ListSession, ShowMirror}
use Rattle.dr_model.specs.LineTable as table
use Rattle.dr_model.specs.LineText as line
use Rattle.dr_model.specs.LineText.{at_sign, for_item, for_lss, for_session, said_fits, said_operands, settings_fit, operands_fit, remote_fits, IsWritten, name_fits, name_text, bytes_fit}
use Rattle.dr_model.specs.LineSteps.{has, no_options, no_operands, no_name}
use Rattle.dr_model.specs.declared.grammar.Saying.{Saying}
use Rattle.dr_model.specs.declared.grammar.Command.TheVariants.{AtServer, AtVolume, AtLink, AtStop, AtStart, AtExpire, AtIssue, AtWrite, Mkflash, Rmflash, Resyncflash, Reverseflash, Unfreezeflash, Mkpprcpath, Rmpprcpath, Mkpprc, Rmpprc, Pausepprc, Resumepprc, Failoverpprc, Failbackpprc, Freezepprc, Unfreezepprc, AtExchange, AtSend, Mksession, Rmsession, Chsession, Mkgmir, Resumegmir, Pausegmir, Rmgmir, Commitflash, Revertflash, Lspprc, Lsflash, Lssession, Showgmir}
use Rattle.dr_model.specs.LineWords.{is_name, is_name_byte, begins_with_letter}
use Rattle.dr_steps.specs.WellFormed.{FitsName, FitsOwner, FitsDevs, IsWellFormed}

some_letter : (word : List ℕ) → begins_with_letter word ≡ true → 1 ≤ length word
some_letter [] h = cc
some_letter (b ∷ bs) h = omega arith

fits-name : (name : Name) → name_fits name ≡ true → FitsName name
fits-name name h =
    let word : List ℕ = name_text name in
    let both = and_parts (is_name word && nat_eq (length word) name.len) (bytes_eq name.bytes (word ++ replicate (24 - length word) 0)) h in
    let parts = and_parts (is_name word) (nat_eq (length word) name.len) both.0 in
    let is = and_parts (nat_le (length word) 24 && begins_with_letter word) (list_all is_name_byte word) parts.0 in
    let sizes = and_parts (nat_le (length word) 24) (begins_with_letter word) is.0 in
    let some = some_letter word sizes.1 in
    sized (length word) name.len some sizes.0 parts.1
  where
    sized : (n m : ℕ) → 1 ≤ n → nat_le n 24 ≡ true → nat_eq n m ≡ true → (1 ≤ m) × (m ≤ 24)
    sized n m some few same = (grind (arith, nat_tests, some, few, same), grind (arith, nat_tests, some, few, same))

fits-write : (offset len : ℕ) (bytes : List ℕ) → (nat_le 1 len && nat_le (offset + len) 64 && bytes_fit len bytes) ≡ true → (1 ≤ len) × (offset + len ≤ 64)
fits-write offset len bytes h =
    let both = and_parts (nat_le 1 len && nat_le (offset + len) 64) (bytes_fit len bytes) h in
    let parts = and_parts (nat_le 1 len) (nat_le (offset + len) 64) both.0 in
    sized len (offset + len) parts.0 parts.1
  where
    sized : (n m : ℕ) → nat_le 1 n ≡ true → nat_le m 64 ≡ true → (1 ≤ n) × (m ≤ 64)
    sized n m some few = (grind (arith, nat_tests, some), grind (arith, nat_tests, few))

-- the operands of what is said fit
operands-fit : (said : Saying) → said_fits said ≡ true → operands_fit (said_operands said) said.operands said.item ≡ true
operands-fit said h =
    let a : Bool = settings_fit (table.settings said.command) said.options said.item in
    let b : Bool = operands_fit (said_operands said) said.operands said.item in
    (and_parts a b (and_parts (a && b) (remote_fits (table.settings said.command) said.options) h).0).1

-- and so do its options
settings-fit : (said : Saying) → said_fits said ≡ true → settings_fit (table.settings said.command) said.options said.item ≡ true
settings-fit said h =
    let a : Bool = settings_fit (table.settings said.command) said.options said.item in
    let b : Bool = operands_fit (said_operands said) said.operands said.item in
    (and_parts a b (and_parts (a && b) (remote_fits (table.settings said.command) said.options) h).0).0

-- the server that is named has a name
owner-fits : (dev : Option Name) (rest : Bool) → ((not (is_some dev) || name_fits (unwrap_or dev no_name)) && rest) ≡ true → FitsOwner dev
owner-fits None rest h = tt
owner-fits (Some name) rest h = fits-name name (and_parts (name_fits name) rest h).0

one-name : (name : Name) (rest : Bool) → (name_fits name && rest) ≡ true → FitsName name
one-name name rest h = fits-name name (and_parts (name_fits name) rest h).0

-- and both servers have names where they are named
devs-fit : (devs : Devs) (rest : Bool) → ((not (is_some devs.dev) || name_fits (unwrap_or devs.dev no_name)) && ((not (is_some devs.remotedev) || name_fits (unwrap_or devs.remotedev no_name)) && rest)) ≡ true → FitsDevs devs
devs-fit devs rest h = (owner-fits devs.dev _ h, owner-fits devs.remotedev rest ((and_parts (not (is_some devs.dev) || name_fits (unwrap_or devs.dev no_name)) _ h).1))

write-operands : (v t offset len : ℕ) (bytes : List ℕ) → (nat_lt v 65536 && (nat_lt t (2 ^ 32) && (nat_le offset 63 && ((nat_le 1 len && nat_le (offset + len) 64 && bytes_fit len bytes) && true)))) ≡ true → (1 ≤ len) × (offset + len ≤ 64)
write-operands v t offset len bytes h =
    let a : Bool = nat_le 1 len && nat_le (offset + len) 64 && bytes_fit len bytes in
    fits-write offset len bytes (and_parts a true ((and_parts (nat_le offset 63) (a && true) ((and_parts (nat_lt t (2 ^ 32)) (nat_le offset 63 && (a && true)) ((and_parts (nat_lt v 65536) (nat_lt t (2 ^ 32) && (nat_le offset 63 && (a && true))) h).1)).1)).1)).0

pub written-fits : (step : Step) → IsWritten step → IsWellFormed step
unfolding line.is_written line.at_saying line.pair_saying line.flash_saying line.session_saying line.operand_fits line.setting_fits line.said_count table.operands table.settings table.may_end_with has no_operands no_options table.form
written-fits (Server name) h = one-name name true (operands-fit (at_sign AtServer (record no_operands { server = name })) h)
written-fits (Volume v name tracks) h =
    let said : Saying = record { command = AtVolume; options = no_options; operands = record no_operands { server = name; count = tracks }; item = record { first = v; second = v } } in
    one-name name _ ((and_parts (nat_lt v 65536 && nat_eq v v) (name_fits name && (nat_lt tracks (2 ^ 32) && true)) (operands-fit said h)).1)
written-fits (Link a b up) h =
    let both = operands-fit (at_sign AtLink (record no_operands { server = a; other = b; up = up })) h in
    (one-name a (name_fits b && (true && true)) both, one-name b (true && true) ((and_parts (name_fits a) (name_fits b && (true && true)) both).1))
written-fits (Stop name) h = one-name name true (operands-fit (at_sign AtStop (record no_operands { server = name })) h)
written-fits (StopAfter name writes torn) h = one-name name _ (operands-fit (at_sign AtStop (record no_operands { server = name; after = true; torn = torn; count = writes })) h)
written-fits (Start name) h = one-name name true (operands-fit (at_sign AtStart (record no_operands { server = name })) h)
written-fits (Expire name) h = one-name name true (operands-fit (at_sign AtExpire (record no_operands { server = name })) h)
written-fits (Issue v t offset len bytes) h = write-operands v t offset len bytes (operands-fit (at_sign AtIssue (record no_operands { volume = v; track = t; offset = offset; len = len; bytes = bytes })) h)
written-fits (Write v t offset len bytes) h = write-operands v t offset len bytes (operands-fit (at_sign AtWrite (record no_operands { volume = v; track = t; offset = offset; len = len; bytes = bytes })) h)
written-fits (MakeFlash devs s t nocopy persistent recorded inhibited freeze sequence) h =
    owner-fits devs.dev _ (settings-fit (for_item Mkflash (record no_options { devs = devs; nocopy = nocopy; persistent = persistent; recorded = recorded; inhibited = inhibited; freeze = freeze; sequence = sequence }) s t) h)
written-fits (RemoveFlash devs s t sequence) h = owner-fits devs.dev _ (settings-fit (for_item Rmflash (record no_options { devs = devs; sequence = sequence }) s t) h)
written-fits (ResyncFlash devs s t nocopy persistent recorded inhibited sequence) h =
    owner-fits devs.dev _ (settings-fit (for_item Resyncflash (record no_options { devs = devs; nocopy = nocopy; persistent = persistent; recorded = recorded; inhibited = inhibited; sequence = sequence }) s t) h)
written-fits (ReverseFlash devs s t tgtpprc sequence) h =
    owner-fits devs.dev _ (settings-fit (for_item Reverseflash (record no_options { devs = devs; sequence = sequence; fast = true; tgtpprc = tgtpprc }) s t) h)
written-fits (UnfreezeFlash devs l) h = owner-fits devs.dev _ (settings-fit (for_item Unfreezeflash (record no_options { devs = devs }) l l) h)
written-fits (CommitFlash devs source sequence) h = owner-fits devs.dev _ (settings-fit (for_item Commitflash (record no_options { devs = devs; sequence = sequence }) source source) h)
written-fits (RevertFlash devs source sequence) h = owner-fits devs.dev _ (settings-fit (for_item Revertflash (record no_options { devs = devs; sequence = sequence }) source source) h)
written-fits (MakePath devs src tgt group) h = devs-fit devs _ (settings-fit (for_item Mkpprcpath (record no_options { devs = devs; src = Some src; tgt = Some tgt; group = group }) 0 0) h)
written-fits (RemovePath devs src tgt force) h = devs-fit devs _ (settings-fit (for_item Rmpprcpath (record no_options { devs = devs; force = force }) src tgt) h)
written-fits (MakePair devs a b kind choices) h = devs-fit devs _ (settings-fit (for_item Mkpprc (record no_options { devs = devs; kind = Some kind; full = cond choices.full None (Some false); cascade = choices.cascade }) a b) h)
written-fits (RemovePair devs a b source_only) h = devs-fit devs _ (settings-fit (for_item Rmpprc (record no_options { devs = devs; unconditional = source_only; at_source = source_only }) a b) h)
written-fits (PausePair devs a b) h = devs-fit devs _ (settings-fit (for_item Pausepprc (record no_options { devs = devs }) a b) h)
written-fits (ResumePair devs a b kind) h = devs-fit devs _ (settings-fit (for_item Resumepprc (record no_options { devs = devs; kind = Some kind }) a b) h)
written-fits (Failover devs b a kind) h = devs-fit devs _ (settings-fit (for_item Failoverpprc (record no_options { devs = devs; kind = Some kind }) b a) h)
written-fits (Failback devs x y kind) h = devs-fit devs _ (settings-fit (for_item Failbackpprc (record no_options { devs = devs; kind = Some kind }) x y) h)
written-fits (Freeze devs l m) h = devs-fit devs _ (settings-fit (for_item Freezepprc (record no_options { devs = devs }) l m) h)
written-fits (Unfreeze devs l m) h = devs-fit devs _ (settings-fit (for_item Unfreezepprc (record no_options { devs = devs }) l m) h)
written-fits (MakeSession devs l s) h = owner-fits devs.dev _ (settings-fit (for_session Mksession (record no_options { devs = devs; lss = Some l }) s 0) h)
written-fits (RemoveSession devs l s) h = owner-fits devs.dev _ (settings-fit (for_session Rmsession (record no_options { devs = devs; lss = Some l }) s 0) h)
written-fits (AddMember devs l a s) h = owner-fits devs.dev _ (settings-fit (for_session Chsession (record no_options { devs = devs; lss = Some l; members = true; adds = Some true }) s a) h)
written-fits (RemoveMember devs l a s) h = owner-fits devs.dev _ (settings-fit (for_session Chsession (record no_options { devs = devs; lss = Some l; members = true; adds = Some false }) s a) h)
written-fits (MakeMirror devs l s cginterval coordinate drain) h =
    owner-fits devs.dev _ (settings-fit (for_item Mkgmir (record no_options { devs = devs; lss = Some l; session = Some s; cginterval = cginterval; coordinate = coordinate; drain = drain }) 0 0) h)
written-fits (PauseMirror devs l s) h = owner-fits devs.dev _ (settings-fit (for_item Pausegmir (record no_options { devs = devs; lss = Some l; session = Some s }) 0 0) h)
written-fits (ResumeMirror devs l s cginterval coordinate drain) h =
    owner-fits devs.dev _ (settings-fit (for_item Resumegmir (record no_options { devs = devs; lss = Some l; session = Some s; cginterval = cginterval; coordinate = coordinate; drain = drain }) 0 0) h)
written-fits (RemoveMirror devs l s) h = owner-fits devs.dev _ (settings-fit (for_item Rmgmir (record no_options { devs = devs; lss = Some l; session = Some s }) 0 0) h)
written-fits (ListPairs devs v) h = owner-fits devs.dev _ (settings-fit (for_item Lspprc (record no_options { devs = devs }) v v) h)
written-fits (ListFlashes devs v) h = owner-fits devs.dev _ (settings-fit (for_item Lsflash (record no_options { devs = devs }) v v) h)
written-fits (ListSession devs l) h = owner-fits devs.dev _ (settings-fit (for_lss Lssession (record no_options { devs = devs }) l) h)
written-fits (ShowMirror devs l) h = owner-fits devs.dev _ (settings-fit (for_lss Showgmir (record no_options { devs = devs }) l) h)
written-fits (Exchange s name true) h = one-name name _ ((and_parts (nat_le 1 s && nat_lt s 256) _ (operands-fit (at_sign AtExchange (record no_operands { server = name; session = s; reply = true })) h)).1)
written-fits (Exchange s name false) h = one-name name _ ((and_parts (nat_le 1 s && nat_lt s 256) _ (operands-fit (at_sign AtExchange (record no_operands { server = name; session = s; reply = false })) h)).1)
written-fits (Send s name) h = one-name name true ((and_parts (nat_le 1 s && nat_lt s 256) _ (operands-fit (at_sign AtSend (record no_operands { server = name; session = s })) h)).1)
written-fits _ h = tt
