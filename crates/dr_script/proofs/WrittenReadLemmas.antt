-- What a reading has fits what is written.
use Rattle.std.proofs.Common.{ℕ, zero, suc, ◌≡◌, ◌<◌, ◌≤◌, ◌+◌, ◌/◌, ◌^◌, List, [], ◌∷◌, ◌++◌, take, length, refl, ap, ◌∙◌, sym, arith, Bool, true, false, not, ◌&&◌, ◌||◌, cond, Option, Some, None, nat_lt, nat_le, nat_eq}
use Rattle.std.specs.Prelude.{slice_get, codes}
use Rattle.std.specs.Option.{unwrap_or, is_some, is_none}
use Rattle.std.specs.Str.{bytes_eq}
use Rattle.std.proofs.lemmas.Bool.Decides.{nat_tests}
use Rattle.std.proofs.lemmas.Bool.{or_right, lt-ltb, and_from}
use Rattle.std.proofs.lemmas.Option.{same_Some}
use Rattle.dr_ids.specs.Spelling.{lss_word, session_word, volume_word, number_word}
use Rattle.dr_ids.specs.declared.names.Lss.{Lss}
use Rattle.dr_ids.specs.declared.names.SessionId.{SessionId}
use Rattle.dr_ids.specs.declared.names.VolumeId.{VolumeId}
use Rattle.dr_model.specs.declared.grammar.Command.{Command}
use Rattle.dr_model.specs.declared.grammar.Setting.{Setting}
use Rattle.dr_model.specs.declared.grammar.Setting.TheVariants.{Quiet, Dev, RemoteDev, RemotePort, SourceLss, TargetLss, ConsistencyGroup, Force, PairType, Mode, Cascade, Unconditional, AtSource, NoCopy, Persist, Recording, Inhibit, FreezeSource, Sequence, Fast, TargetPprc, OfLss, Members, Action, OfSession, Interval, Coordination, DrainTime}
use Rattle.dr_model.specs.declared.grammar.Operand.{Operand}
use Rattle.dr_model.specs.declared.grammar.Operand.TheVariants.{ServerName, OtherName, UpOrDown, AfterWord, TornMark, TornBytes, OneVolume, OtherVolume, Count, TrackNumber, Offset, WriteBytes, CountOrAll, SessionNumber, NoReply, LssNumber, VolumeRange, VolumeList, VolumePair, LssPair, EachLss, Ports, ControlPath}
use Rattle.dr_model.specs.declared.grammar.Options.{Options}
use Rattle.dr_model.specs.declared.grammar.Operands.{Operands}
use Rattle.dr_model.specs.declared.grammar.Item.{Item}
use Rattle.dr_model.specs.declared.grammar.LinePlace.{LinePlace}
use Rattle.dr_model.specs.LineWords.{◌>>=◌, onto, name_word, kind_word, either_word, sequence_word, is_hex, torn_word, decimal_word, most_word, spelled_bytes, are_ports, is_control_path}
use Rattle.dr_model.specs.LineTable.{setting_word, settings, operands, repeats}
use Rattle.dr_model.specs.LineSteps.{is_flag, has, flagged, valued, setting_items, setting_number, operand_value, operand_items, no_options, no_operands, no_name, or_zero}
use Rattle.dr_model.specs.LineText.{name_fits, torn_fits, most_fits, bytes_fit, takes_remote}
use Rattle.dr_model.specs.Grammar.{Reading, setting_named, setting_at, is_ready, again, or_again, next_operand, filled_after, is_within, grown, value_read, setting_read, with_items, operand_read, next_read, named_read, awaited_read, read_on, start_of}
use Rattle.dr_script.proofs.WrittenWordLemmas.{passed, mapped, carry, volume_below, lss_below, session_within, decimal_below, sequence_below, most_said, kind_said, name_said, torn_said, write_said, Smalls, smalls-append, range_small, list_small, pair_small, lss_pair_small, lss_small}
use Rattle.dr_ids.proofs.Digits.{number_word_at_most}
use Rattle.dr_facts.proofs.Options.{bound}

pub or_given : (a b : Bool) → a ≡ true → (not a || b) ≡ true → b ≡ true
or_given true b e f = f
or_given false b e f = cc

pub within : (n m : ℕ) → n ≤ m → nat_le n m ≡ true
within n m le = grind (arith, nat_tests, le)

-- what holds of the options that were read; the flag says that the command takes a second server
pub record OptionsSound (t : Bool) (o : Options) : Type 0 where
  pub remote_ok : (t || is_none o.devs.remotedev) ≡ true
  pub dev : (not (is_some o.devs.dev) || name_fits (unwrap_or o.devs.dev no_name)) ≡ true
  pub remote : (not (is_some o.devs.remotedev) || name_fits (unwrap_or o.devs.remotedev no_name)) ≡ true
  pub src : nat_lt (or_zero o.src) 256 ≡ true
  pub tgt : nat_lt (or_zero o.tgt) 256 ≡ true
  pub kind : (not (is_some o.kind) || (nat_eq (or_zero o.kind) 1 || nat_eq (or_zero o.kind) 2)) ≡ true
  pub sequence : nat_lt (or_zero o.sequence) (2 ^ 32) ≡ true
  pub lss : nat_lt (or_zero o.lss) 256 ≡ true
  pub session : (not (is_some o.session) || (nat_le 1 (or_zero o.session) && nat_lt (or_zero o.session) 256)) ≡ true
  pub cginterval : nat_le (or_zero o.cginterval) 65535 ≡ true
  pub coordinate : nat_le (or_zero o.coordinate) 65535 ≡ true
  pub drain : nat_le (or_zero o.drain) 65535 ≡ true

no_options_sound : (t : Bool) → OptionsSound t no_options
unfolding no_options
no_options_sound t = record { remote_ok = or_right t true refl; dev = refl; remote = refl; src = refl; tgt = refl; kind = refl; sequence = refl; lss = refl; session = refl; cginterval = refl; coordinate = refl; drain = refl }

flagged_sound : (s : Setting) (t : Bool) (o : Options) → OptionsSound t o → OptionsSound t (flagged s o)
unfolding flagged
flagged_sound Quiet t o h = record { remote_ok = h.remote_ok; dev = h.dev; remote = h.remote; src = h.src; tgt = h.tgt; kind = h.kind; sequence = h.sequence; lss = h.lss; session = h.session; cginterval = h.cginterval; coordinate = h.coordinate; drain = h.drain }
flagged_sound Dev t o h = h
flagged_sound RemoteDev t o h = h
flagged_sound RemotePort t o h = h
flagged_sound SourceLss t o h = h
flagged_sound TargetLss t o h = h
flagged_sound ConsistencyGroup t o h = record { remote_ok = h.remote_ok; dev = h.dev; remote = h.remote; src = h.src; tgt = h.tgt; kind = h.kind; sequence = h.sequence; lss = h.lss; session = h.session; cginterval = h.cginterval; coordinate = h.coordinate; drain = h.drain }
flagged_sound Force t o h = record { remote_ok = h.remote_ok; dev = h.dev; remote = h.remote; src = h.src; tgt = h.tgt; kind = h.kind; sequence = h.sequence; lss = h.lss; session = h.session; cginterval = h.cginterval; coordinate = h.coordinate; drain = h.drain }
flagged_sound PairType t o h = h
flagged_sound Mode t o h = h
flagged_sound Cascade t o h = record { remote_ok = h.remote_ok; dev = h.dev; remote = h.remote; src = h.src; tgt = h.tgt; kind = h.kind; sequence = h.sequence; lss = h.lss; session = h.session; cginterval = h.cginterval; coordinate = h.coordinate; drain = h.drain }
flagged_sound Unconditional t o h = record { remote_ok = h.remote_ok; dev = h.dev; remote = h.remote; src = h.src; tgt = h.tgt; kind = h.kind; sequence = h.sequence; lss = h.lss; session = h.session; cginterval = h.cginterval; coordinate = h.coordinate; drain = h.drain }
flagged_sound AtSource t o h = h
flagged_sound NoCopy t o h = record { remote_ok = h.remote_ok; dev = h.dev; remote = h.remote; src = h.src; tgt = h.tgt; kind = h.kind; sequence = h.sequence; lss = h.lss; session = h.session; cginterval = h.cginterval; coordinate = h.coordinate; drain = h.drain }
flagged_sound Persist t o h = record { remote_ok = h.remote_ok; dev = h.dev; remote = h.remote; src = h.src; tgt = h.tgt; kind = h.kind; sequence = h.sequence; lss = h.lss; session = h.session; cginterval = h.cginterval; coordinate = h.coordinate; drain = h.drain }
flagged_sound Recording t o h = record { remote_ok = h.remote_ok; dev = h.dev; remote = h.remote; src = h.src; tgt = h.tgt; kind = h.kind; sequence = h.sequence; lss = h.lss; session = h.session; cginterval = h.cginterval; coordinate = h.coordinate; drain = h.drain }
flagged_sound Inhibit t o h = record { remote_ok = h.remote_ok; dev = h.dev; remote = h.remote; src = h.src; tgt = h.tgt; kind = h.kind; sequence = h.sequence; lss = h.lss; session = h.session; cginterval = h.cginterval; coordinate = h.coordinate; drain = h.drain }
flagged_sound FreezeSource t o h = record { remote_ok = h.remote_ok; dev = h.dev; remote = h.remote; src = h.src; tgt = h.tgt; kind = h.kind; sequence = h.sequence; lss = h.lss; session = h.session; cginterval = h.cginterval; coordinate = h.coordinate; drain = h.drain }
flagged_sound Sequence t o h = h
flagged_sound Fast t o h = record { remote_ok = h.remote_ok; dev = h.dev; remote = h.remote; src = h.src; tgt = h.tgt; kind = h.kind; sequence = h.sequence; lss = h.lss; session = h.session; cginterval = h.cginterval; coordinate = h.coordinate; drain = h.drain }
flagged_sound TargetPprc t o h = record { remote_ok = h.remote_ok; dev = h.dev; remote = h.remote; src = h.src; tgt = h.tgt; kind = h.kind; sequence = h.sequence; lss = h.lss; session = h.session; cginterval = h.cginterval; coordinate = h.coordinate; drain = h.drain }
flagged_sound OfLss t o h = h
flagged_sound Members t o h = h
flagged_sound Action t o h = h
flagged_sound OfSession t o h = h
flagged_sound Interval t o h = h
flagged_sound Coordination t o h = h
flagged_sound DrainTime t o h = h

valued_sound : (s : Setting) (word : List ℕ) (t : Bool) (o new : Options) → (s ≡ RemoteDev → t ≡ true) → valued s word o ≡ Some new → OptionsSound t o → OptionsSound t new
unfolding valued
valued_sound Dev word t o new allowed e h =
    let m = mapped (λ n. record o { devs = record o.devs { dev = Some n } }) (name_word word) new e in
    carry (OptionsSound t) _ new m.2 (record { remote_ok = h.remote_ok; dev = name_said word m.0 m.1; remote = h.remote; src = h.src; tgt = h.tgt; kind = h.kind; sequence = h.sequence; lss = h.lss; session = h.session; cginterval = h.cginterval; coordinate = h.coordinate; drain = h.drain })
valued_sound RemoteDev word t o new allowed e h =
    let m = mapped (λ n. record o { devs = record o.devs { remotedev = Some n } }) (name_word word) new e in
    carry (OptionsSound t) _ new m.2 (record { remote_ok = ap (λ b. b || false) (allowed refl); dev = h.dev; remote = name_said word m.0 m.1; src = h.src; tgt = h.tgt; kind = h.kind; sequence = h.sequence; lss = h.lss; session = h.session; cginterval = h.cginterval; coordinate = h.coordinate; drain = h.drain })
valued_sound RemotePort word t o new allowed e h =
    let p = passed (is_hex word) (Some (record o { remote_port = true })) new e in
    carry (OptionsSound t) _ new (same_Some _ _ p.1) (record { remote_ok = h.remote_ok; dev = h.dev; remote = h.remote; src = h.src; tgt = h.tgt; kind = h.kind; sequence = h.sequence; lss = h.lss; session = h.session; cginterval = h.cginterval; coordinate = h.coordinate; drain = h.drain })
valued_sound SourceLss word t o new allowed e h =
    let m = mapped (λ (l : Lss). record o { src = Some l.0 }) (lss_word word) new e in
    carry (OptionsSound t) _ new m.2 (record { remote_ok = h.remote_ok; dev = h.dev; remote = h.remote; src = lt-ltb _ 256 (lss_below word m.0 m.1); tgt = h.tgt; kind = h.kind; sequence = h.sequence; lss = h.lss; session = h.session; cginterval = h.cginterval; coordinate = h.coordinate; drain = h.drain })
valued_sound TargetLss word t o new allowed e h =
    let m = mapped (λ (l : Lss). record o { tgt = Some l.0 }) (lss_word word) new e in
    carry (OptionsSound t) _ new m.2 (record { remote_ok = h.remote_ok; dev = h.dev; remote = h.remote; src = h.src; tgt = lt-ltb _ 256 (lss_below word m.0 m.1); kind = h.kind; sequence = h.sequence; lss = h.lss; session = h.session; cginterval = h.cginterval; coordinate = h.coordinate; drain = h.drain })
valued_sound PairType word t o new allowed e h =
    let m = mapped (λ k. record o { kind = Some k }) (kind_word word) new e in
    carry (OptionsSound t) _ new m.2 (record { remote_ok = h.remote_ok; dev = h.dev; remote = h.remote; src = h.src; tgt = h.tgt; kind = kind_said word m.0 m.1; sequence = h.sequence; lss = h.lss; session = h.session; cginterval = h.cginterval; coordinate = h.coordinate; drain = h.drain })
valued_sound Mode word t o new allowed e h =
    let m = mapped (λ f. record o { full = Some f }) (either_word (codes "full") (codes "nocp") word) new e in
    carry (OptionsSound t) _ new m.2 (record { remote_ok = h.remote_ok; dev = h.dev; remote = h.remote; src = h.src; tgt = h.tgt; kind = h.kind; sequence = h.sequence; lss = h.lss; session = h.session; cginterval = h.cginterval; coordinate = h.coordinate; drain = h.drain })
valued_sound AtSource word t o new allowed e h =
    let p = passed (bytes_eq word (codes "src")) (Some (record o { at_source = true })) new e in
    carry (OptionsSound t) _ new (same_Some _ _ p.1) (record { remote_ok = h.remote_ok; dev = h.dev; remote = h.remote; src = h.src; tgt = h.tgt; kind = h.kind; sequence = h.sequence; lss = h.lss; session = h.session; cginterval = h.cginterval; coordinate = h.coordinate; drain = h.drain })
valued_sound Sequence word t o new allowed e h =
    let m = mapped (λ n. record o { sequence = Some n }) (sequence_word word) new e in
    carry (OptionsSound t) _ new m.2 (record { remote_ok = h.remote_ok; dev = h.dev; remote = h.remote; src = h.src; tgt = h.tgt; kind = h.kind; sequence = lt-ltb _ (2 ^ 32) (sequence_below word m.0 m.1); lss = h.lss; session = h.session; cginterval = h.cginterval; coordinate = h.coordinate; drain = h.drain })
valued_sound OfLss word t o new allowed e h =
    let m = mapped (λ (l : Lss). record o { lss = Some l.0 }) (lss_word word) new e in
    carry (OptionsSound t) _ new m.2 (record { remote_ok = h.remote_ok; dev = h.dev; remote = h.remote; src = h.src; tgt = h.tgt; kind = h.kind; sequence = h.sequence; lss = lt-ltb _ 256 (lss_below word m.0 m.1); session = h.session; cginterval = h.cginterval; coordinate = h.coordinate; drain = h.drain })
valued_sound Members word t o new allowed e h =
    carry (OptionsSound t) _ new (same_Some _ _ e) (record { remote_ok = h.remote_ok; dev = h.dev; remote = h.remote; src = h.src; tgt = h.tgt; kind = h.kind; sequence = h.sequence; lss = h.lss; session = h.session; cginterval = h.cginterval; coordinate = h.coordinate; drain = h.drain })
valued_sound Action word t o new allowed e h =
    let m = mapped (λ a. record o { adds = Some a }) (either_word (codes "add") (codes "remove") word) new e in
    carry (OptionsSound t) _ new m.2 (record { remote_ok = h.remote_ok; dev = h.dev; remote = h.remote; src = h.src; tgt = h.tgt; kind = h.kind; sequence = h.sequence; lss = h.lss; session = h.session; cginterval = h.cginterval; coordinate = h.coordinate; drain = h.drain })
valued_sound OfSession word t o new allowed e h =
    let m = mapped (λ (s : SessionId). record o { session = Some s.0 }) (session_word word) new e in
    let z = session_within word m.0 m.1 in
    carry (OptionsSound t) _ new m.2 (record { remote_ok = h.remote_ok; dev = h.dev; remote = h.remote; src = h.src; tgt = h.tgt; kind = h.kind; sequence = h.sequence; lss = h.lss; session = and_from _ _ (within 1 _ z.0) (lt-ltb _ 256 z.1); cginterval = h.cginterval; coordinate = h.coordinate; drain = h.drain })
valued_sound Interval word t o new allowed e h =
    let m = mapped (λ n. record o { cginterval = Some n }) (setting_number word) new e in
    carry (OptionsSound t) _ new m.2 (record { remote_ok = h.remote_ok; dev = h.dev; remote = h.remote; src = h.src; tgt = h.tgt; kind = h.kind; sequence = h.sequence; lss = h.lss; session = h.session; cginterval = within _ 65535 (number_word_at_most 65535 word m.0 m.1); coordinate = h.coordinate; drain = h.drain })
valued_sound Coordination word t o new allowed e h =
    let m = mapped (λ n. record o { coordinate = Some n }) (setting_number word) new e in
    carry (OptionsSound t) _ new m.2 (record { remote_ok = h.remote_ok; dev = h.dev; remote = h.remote; src = h.src; tgt = h.tgt; kind = h.kind; sequence = h.sequence; lss = h.lss; session = h.session; cginterval = h.cginterval; coordinate = within _ 65535 (number_word_at_most 65535 word m.0 m.1); drain = h.drain })
valued_sound DrainTime word t o new allowed e h =
    let m = mapped (λ n. record o { drain = Some n }) (setting_number word) new e in
    carry (OptionsSound t) _ new m.2 (record { remote_ok = h.remote_ok; dev = h.dev; remote = h.remote; src = h.src; tgt = h.tgt; kind = h.kind; sequence = h.sequence; lss = h.lss; session = h.session; cginterval = h.cginterval; coordinate = h.coordinate; drain = within _ 65535 (number_word_at_most 65535 word m.0 m.1) })
valued_sound Quiet word t o new allowed e h = cc
valued_sound ConsistencyGroup word t o new allowed e h = cc
valued_sound Force word t o new allowed e h = cc
valued_sound Cascade word t o new allowed e h = cc
valued_sound Unconditional word t o new allowed e h = cc
valued_sound NoCopy word t o new allowed e h = cc
valued_sound Persist word t o new allowed e h = cc
valued_sound Recording word t o new allowed e h = cc
valued_sound Inhibit word t o new allowed e h = cc
valued_sound FreezeSource word t o new allowed e h = cc
valued_sound Fast word t o new allowed e h = cc
valued_sound TargetPprc word t o new allowed e h = cc

setting_items_small : (s : Setting) (word : List ℕ) (items : List Item) → setting_items s word ≡ Some items → Smalls items
unfolding setting_items
setting_items_small Quiet word items e = carry Smalls [] items (same_Some _ _ e) tt
setting_items_small Dev word items e = carry Smalls [] items (same_Some _ _ e) tt
setting_items_small RemoteDev word items e = carry Smalls [] items (same_Some _ _ e) tt
setting_items_small RemotePort word items e = carry Smalls [] items (same_Some _ _ e) tt
setting_items_small SourceLss word items e = carry Smalls [] items (same_Some _ _ e) tt
setting_items_small TargetLss word items e = carry Smalls [] items (same_Some _ _ e) tt
setting_items_small ConsistencyGroup word items e = carry Smalls [] items (same_Some _ _ e) tt
setting_items_small Force word items e = carry Smalls [] items (same_Some _ _ e) tt
setting_items_small PairType word items e = carry Smalls [] items (same_Some _ _ e) tt
setting_items_small Mode word items e = carry Smalls [] items (same_Some _ _ e) tt
setting_items_small Cascade word items e = carry Smalls [] items (same_Some _ _ e) tt
setting_items_small Unconditional word items e = carry Smalls [] items (same_Some _ _ e) tt
setting_items_small AtSource word items e = carry Smalls [] items (same_Some _ _ e) tt
setting_items_small NoCopy word items e = carry Smalls [] items (same_Some _ _ e) tt
setting_items_small Persist word items e = carry Smalls [] items (same_Some _ _ e) tt
setting_items_small Recording word items e = carry Smalls [] items (same_Some _ _ e) tt
setting_items_small Inhibit word items e = carry Smalls [] items (same_Some _ _ e) tt
setting_items_small FreezeSource word items e = carry Smalls [] items (same_Some _ _ e) tt
setting_items_small Sequence word items e = carry Smalls [] items (same_Some _ _ e) tt
setting_items_small Fast word items e = carry Smalls [] items (same_Some _ _ e) tt
setting_items_small TargetPprc word items e = carry Smalls [] items (same_Some _ _ e) tt
setting_items_small OfLss word items e = carry Smalls [] items (same_Some _ _ e) tt
setting_items_small Members word items e = list_small word items e
setting_items_small Action word items e = carry Smalls [] items (same_Some _ _ e) tt
setting_items_small OfSession word items e = carry Smalls [] items (same_Some _ _ e) tt
setting_items_small Interval word items e = carry Smalls [] items (same_Some _ _ e) tt
setting_items_small Coordination word items e = carry Smalls [] items (same_Some _ _ e) tt
setting_items_small DrainTime word items e = carry Smalls [] items (same_Some _ _ e) tt

-- which operands were read
pub record Known : Type 0 where
  pub server : Bool
  pub other : Bool
  pub session : Bool
  pub bytes : Bool

-- before any operand was read
abbrev pub nothing_known : Known
nothing_known = record { server = false; other = false; session = false; bytes = false }

abbrev pub learn : Operand → Known → Known
learn ServerName k = record { server = true; other = k.other; session = k.session; bytes = k.bytes }
learn OtherName k = record { server = k.server; other = true; session = k.session; bytes = k.bytes }
learn SessionNumber k = record { server = k.server; other = k.other; session = true; bytes = k.bytes }
learn WriteBytes k = record { server = k.server; other = k.other; session = k.session; bytes = true }
learn Offset k = record { server = k.server; other = k.other; session = k.session; bytes = false }
learn _ k = k

abbrev pub learned : Known → List Operand → Known
learned k [] = k
learned k (op ∷ ops) = learned (learn op k) ops

pub record OperandsSound (k : Known) (p : Operands) : Type 0 where
  pub server : k.server ≡ true → name_fits p.server ≡ true
  pub other : k.other ≡ true → name_fits p.other ≡ true
  pub torn : torn_fits p.torn ≡ true
  pub volume : nat_lt p.volume 65536 ≡ true
  pub with : nat_lt p.with 65536 ≡ true
  pub count : nat_lt p.count (2 ^ 32) ≡ true
  pub track : nat_lt p.track (2 ^ 32) ≡ true
  pub offset : nat_le p.offset 63 ≡ true
  pub most : most_fits p.most ≡ true
  pub lss : nat_lt p.lss 256 ≡ true
  pub session : k.session ≡ true → (nat_le 1 p.session && nat_lt p.session 256) ≡ true
  pub bytes : k.bytes ≡ true → (nat_le 1 p.len && nat_le (p.offset + p.len) 64 && bytes_fit p.len p.bytes) ≡ true

no_operands_sound : OperandsSound nothing_known no_operands
unfolding no_operands
no_operands_sound = record { server = λ y. cc; other = λ y. cc; torn = refl; volume = refl; with = refl; count = refl; track = refl; offset = refl; most = refl; lss = refl; session = λ y. cc; bytes = λ y. cc }

operand_sound : (op : Operand) (word : List ℕ) (k : Known) (p new : Operands) → operand_value op word p ≡ Some new → OperandsSound k p → OperandsSound (learn op k) new
unfolding operand_value
operand_sound ServerName word k p new e h =
    let m = mapped (λ n. record p { server = n }) (name_word word) new e in
    carry (OperandsSound (learn ServerName k)) _ new m.2 (record { server = λ y. name_said word m.0 m.1; other = h.other; torn = h.torn; volume = h.volume; with = h.with; count = h.count; track = h.track; offset = h.offset; most = h.most; lss = h.lss; session = h.session; bytes = h.bytes })
operand_sound OtherName word k p new e h =
    let m = mapped (λ n. record p { other = n }) (name_word word) new e in
    carry (OperandsSound (learn OtherName k)) _ new m.2 (record { server = h.server; other = λ y. name_said word m.0 m.1; torn = h.torn; volume = h.volume; with = h.with; count = h.count; track = h.track; offset = h.offset; most = h.most; lss = h.lss; session = h.session; bytes = h.bytes })
operand_sound UpOrDown word k p new e h =
    let m = mapped (λ u. record p { up = u }) (either_word (codes "up") (codes "down") word) new e in
    carry (OperandsSound (learn UpOrDown k)) _ new m.2 (record { server = h.server; other = h.other; torn = h.torn; volume = h.volume; with = h.with; count = h.count; track = h.track; offset = h.offset; most = h.most; lss = h.lss; session = h.session; bytes = h.bytes })
operand_sound AfterWord word k p new e h =
    let q = passed (bytes_eq word (codes "after")) (Some (record p { after = true })) new e in
    carry (OperandsSound (learn AfterWord k)) _ new (same_Some _ _ q.1) (record { server = h.server; other = h.other; torn = h.torn; volume = h.volume; with = h.with; count = h.count; track = h.track; offset = h.offset; most = h.most; lss = h.lss; session = h.session; bytes = h.bytes })
operand_sound TornMark word k p new e h =
    let q = passed (bytes_eq word (codes "torn")) (Some p) new e in
    carry (OperandsSound (learn TornMark k)) _ new (same_Some _ _ q.1) (h)
operand_sound TornBytes word k p new e h =
    let m = mapped (λ x. record p { torn = x }) (torn_word word) new e in
    carry (OperandsSound (learn TornBytes k)) _ new m.2 (record { server = h.server; other = h.other; torn = torn_said word m.0 m.1; volume = h.volume; with = h.with; count = h.count; track = h.track; offset = h.offset; most = h.most; lss = h.lss; session = h.session; bytes = h.bytes })
operand_sound OneVolume word k p new e h =
    let m = mapped (λ (v : VolumeId). record p { volume = v.0 }) (volume_word word) new e in
    carry (OperandsSound (learn OneVolume k)) _ new m.2 (record { server = h.server; other = h.other; torn = h.torn; volume = lt-ltb _ 65536 (volume_below word m.0 m.1); with = h.with; count = h.count; track = h.track; offset = h.offset; most = h.most; lss = h.lss; session = h.session; bytes = h.bytes })
operand_sound OtherVolume word k p new e h =
    let m = mapped (λ (v : VolumeId). record p { with = v.0 }) (volume_word word) new e in
    carry (OperandsSound (learn OtherVolume k)) _ new m.2 (record { server = h.server; other = h.other; torn = h.torn; volume = h.volume; with = lt-ltb _ 65536 (volume_below word m.0 m.1); count = h.count; track = h.track; offset = h.offset; most = h.most; lss = h.lss; session = h.session; bytes = h.bytes })
operand_sound Count word k p new e h =
    let m = mapped (λ n. record p { count = n }) (decimal_word word) new e in
    carry (OperandsSound (learn Count k)) _ new m.2 (record { server = h.server; other = h.other; torn = h.torn; volume = h.volume; with = h.with; count = lt-ltb _ (2 ^ 32) (decimal_below word m.0 m.1); track = h.track; offset = h.offset; most = h.most; lss = h.lss; session = h.session; bytes = h.bytes })
operand_sound TrackNumber word k p new e h =
    let m = mapped (λ n. record p { track = n }) (decimal_word word) new e in
    carry (OperandsSound (learn TrackNumber k)) _ new m.2 (record { server = h.server; other = h.other; torn = h.torn; volume = h.volume; with = h.with; count = h.count; track = lt-ltb _ (2 ^ 32) (decimal_below word m.0 m.1); offset = h.offset; most = h.most; lss = h.lss; session = h.session; bytes = h.bytes })
operand_sound Offset word k p new e h =
    let m = mapped (λ n. record p { offset = n }) (number_word 63 word) new e in
    carry (OperandsSound (learn Offset k)) _ new m.2 (record { server = h.server; other = h.other; torn = h.torn; volume = h.volume; with = h.with; count = h.count; track = h.track; offset = within _ 63 (number_word_at_most 63 word m.0 m.1); most = h.most; lss = h.lss; session = h.session; bytes = λ y. cc })
operand_sound WriteBytes word k p new e h =
    let q = passed (is_hex word && nat_le (p.offset + length word / 2) 64) (Some (record p { len = length word / 2; bytes = spelled_bytes word })) new e in
    carry (OperandsSound (learn WriteBytes k)) _ new (same_Some _ _ q.1) (record { server = h.server; other = h.other; torn = h.torn; volume = h.volume; with = h.with; count = h.count; track = h.track; offset = h.offset; most = h.most; lss = h.lss; session = h.session; bytes = λ y. write_said word p.offset q.0 })
operand_sound CountOrAll word k p new e h =
    let m = mapped (λ x. record p { most = x }) (most_word word) new e in
    carry (OperandsSound (learn CountOrAll k)) _ new m.2 (record { server = h.server; other = h.other; torn = h.torn; volume = h.volume; with = h.with; count = h.count; track = h.track; offset = h.offset; most = most_said word m.0 m.1; lss = h.lss; session = h.session; bytes = h.bytes })
operand_sound SessionNumber word k p new e h =
    let m = mapped (λ (s : SessionId). record p { session = s.0 }) (session_word word) new e in
    let z = session_within word m.0 m.1 in
    carry (OperandsSound (learn SessionNumber k)) _ new m.2 (record { server = h.server; other = h.other; torn = h.torn; volume = h.volume; with = h.with; count = h.count; track = h.track; offset = h.offset; most = h.most; lss = h.lss; session = λ y. and_from _ _ (within 1 _ z.0) (lt-ltb _ 256 z.1); bytes = h.bytes })
operand_sound NoReply word k p new e h =
    let q = passed (bytes_eq word (codes "noreply")) (Some (record p { reply = false })) new e in
    carry (OperandsSound (learn NoReply k)) _ new (same_Some _ _ q.1) (record { server = h.server; other = h.other; torn = h.torn; volume = h.volume; with = h.with; count = h.count; track = h.track; offset = h.offset; most = h.most; lss = h.lss; session = h.session; bytes = h.bytes })
operand_sound LssNumber word k p new e h =
    let m = mapped (λ (l : Lss). record p { lss = l.0 }) (lss_word word) new e in
    carry (OperandsSound (learn LssNumber k)) _ new m.2 (record { server = h.server; other = h.other; torn = h.torn; volume = h.volume; with = h.with; count = h.count; track = h.track; offset = h.offset; most = h.most; lss = lt-ltb _ 256 (lss_below word m.0 m.1); session = h.session; bytes = h.bytes })
operand_sound VolumeRange word k p new e h =
    carry (OperandsSound (learn VolumeRange k)) _ new (same_Some _ _ e) (h)
operand_sound VolumeList word k p new e h =
    carry (OperandsSound (learn VolumeList k)) _ new (same_Some _ _ e) (h)
operand_sound VolumePair word k p new e h =
    carry (OperandsSound (learn VolumePair k)) _ new (same_Some _ _ e) (h)
operand_sound LssPair word k p new e h =
    carry (OperandsSound (learn LssPair k)) _ new (same_Some _ _ e) (h)
operand_sound EachLss word k p new e h =
    carry (OperandsSound (learn EachLss k)) _ new (same_Some _ _ e) (h)
operand_sound Ports word k p new e h =
    let q = passed (are_ports word) (Some p) new e in
    carry (OperandsSound (learn Ports k)) _ new (same_Some _ _ q.1) (h)
operand_sound ControlPath word k p new e h =
    let q = passed (is_control_path word) (Some p) new e in
    carry (OperandsSound (learn ControlPath k)) _ new (same_Some _ _ q.1) (h)

operand_items_small : (op : Operand) (word : List ℕ) (items : List Item) → operand_items op word ≡ Some items → Smalls items
unfolding operand_items
operand_items_small ServerName word items e = carry Smalls [] items (same_Some _ _ e) tt
operand_items_small OtherName word items e = carry Smalls [] items (same_Some _ _ e) tt
operand_items_small UpOrDown word items e = carry Smalls [] items (same_Some _ _ e) tt
operand_items_small AfterWord word items e = carry Smalls [] items (same_Some _ _ e) tt
operand_items_small TornMark word items e = carry Smalls [] items (same_Some _ _ e) tt
operand_items_small TornBytes word items e = carry Smalls [] items (same_Some _ _ e) tt
operand_items_small OneVolume word items e = carry Smalls [] items (same_Some _ _ e) tt
operand_items_small OtherVolume word items e = carry Smalls [] items (same_Some _ _ e) tt
operand_items_small Count word items e = carry Smalls [] items (same_Some _ _ e) tt
operand_items_small TrackNumber word items e = carry Smalls [] items (same_Some _ _ e) tt
operand_items_small Offset word items e = carry Smalls [] items (same_Some _ _ e) tt
operand_items_small WriteBytes word items e = carry Smalls [] items (same_Some _ _ e) tt
operand_items_small CountOrAll word items e = carry Smalls [] items (same_Some _ _ e) tt
operand_items_small SessionNumber word items e = carry Smalls [] items (same_Some _ _ e) tt
operand_items_small NoReply word items e = carry Smalls [] items (same_Some _ _ e) tt
operand_items_small LssNumber word items e = carry Smalls [] items (same_Some _ _ e) tt
operand_items_small VolumeRange word items e = range_small word items e
operand_items_small VolumeList word items e = list_small word items e
operand_items_small VolumePair word items e = pair_small word items e
operand_items_small LssPair word items e = lss_pair_small word items e
operand_items_small EachLss word items e = lss_small word items e
operand_items_small Ports word items e = carry Smalls [] items (same_Some _ _ e) tt
operand_items_small ControlPath word items e = carry Smalls [] items (same_Some _ _ e) tt

repeat_learns : (op : Operand) (k : Known) → repeats op ≡ true → k ≡ learn op k
repeat_learns ServerName k e = cc
repeat_learns OtherName k e = cc
repeat_learns UpOrDown k e = cc
repeat_learns AfterWord k e = cc
repeat_learns TornMark k e = cc
repeat_learns TornBytes k e = cc
repeat_learns OneVolume k e = cc
repeat_learns OtherVolume k e = cc
repeat_learns Count k e = cc
repeat_learns TrackNumber k e = cc
repeat_learns Offset k e = cc
repeat_learns WriteBytes k e = cc
repeat_learns CountOrAll k e = cc
repeat_learns SessionNumber k e = cc
repeat_learns NoReply k e = cc
repeat_learns LssNumber k e = cc
repeat_learns VolumeRange k e = cc
repeat_learns VolumeList k e = refl
repeat_learns VolumePair k e = refl
repeat_learns LssPair k e = refl
repeat_learns EachLss k e = refl
repeat_learns Ports k e = refl
repeat_learns ControlPath k e = refl

learned_more : (k : Known) (ops : List Operand) (n : ℕ) (op : Operand) → slice_get ops n ≡ Some op → learned k (take (n + 1) ops) ≡ learn op (learned k (take n ops))
learned_more k [] n op e = cc
learned_more k (x ∷ xs) zero op e = ap (λ y. learn y k) (same_Some x op e)
learned_more k (x ∷ xs) (suc n) op e = ap (λ m. learned k (take m (x ∷ xs))) (let s : suc n + 1 ≡ suc (n + 1) = omega arith in s) ∙ learned_more (learn x k) xs n op e

get_within : (ops : List Operand) (n : ℕ) (op : Operand) → slice_get ops n ≡ Some op → n < length ops
get_within [] n op e = cc
get_within (x ∷ xs) zero op e = omega arith
get_within (x ∷ xs) (suc n) op e = let l = get_within xs n op e in omega (arith, l)

get_past : (ops : List Operand) (n : ℕ) → slice_get ops n ≡ None → length ops ≤ n
get_past [] n e = omega arith
get_past (x ∷ xs) zero e = cc
get_past (x ∷ xs) (suc n) e = let l = get_past xs n e in omega (arith, l)

-- what holds of a reading
pub record IsFitting (r : Reading) : Type 0 where
  pub options : OptionsSound (takes_remote (settings r.place.command)) r.place.options
  pub awaited : r.place.awaited ≡ Some RemoteDev → takes_remote (settings r.place.command) ≡ true
  pub operands : OperandsSound (learned nothing_known (take r.place.filled (operands r.place.command))) r.place.operands
  pub items : Smalls r.items

pub start_fits : (c : Command) → IsFitting (start_of c)
start_fits c = record { options = no_options_sound (takes_remote (settings c)); awaited = λ y. cc; operands = no_operands_sound; items = tt }

takes_more : (s : Setting) (ss : List Setting) → takes_remote ss ≡ true → takes_remote (s ∷ ss) ≡ true
takes_more Quiet ss e = e
takes_more Dev ss e = e
takes_more RemoteDev ss e = refl
takes_more RemotePort ss e = e
takes_more SourceLss ss e = e
takes_more TargetLss ss e = e
takes_more ConsistencyGroup ss e = e
takes_more Force ss e = e
takes_more PairType ss e = e
takes_more Mode ss e = e
takes_more Cascade ss e = e
takes_more Unconditional ss e = e
takes_more AtSource ss e = e
takes_more NoCopy ss e = e
takes_more Persist ss e = e
takes_more Recording ss e = e
takes_more Inhibit ss e = e
takes_more FreezeSource ss e = e
takes_more Sequence ss e = e
takes_more Fast ss e = e
takes_more TargetPprc ss e = e
takes_more OfLss ss e = e
takes_more Members ss e = e
takes_more Action ss e = e
takes_more OfSession ss e = e
takes_more Interval ss e = e
takes_more Coordination ss e = e
takes_more DrainTime ss e = e

named_remote : (ss : List Setting) (word : List ℕ) → setting_named ss word ≡ Some RemoteDev → takes_remote ss ≡ true
unfolding setting_named
named_remote [] word e = cc
named_remote (s ∷ ss) word e =
    elim (bytes_eq word (setting_word s)) as (λ b. cond b (Some s) (setting_named ss word) ≡ Some RemoteDev → takes_remote (s ∷ ss) ≡ true) [
      | true ↦ λ h. carry (λ x. takes_remote (x ∷ ss) ≡ true) RemoteDev s (sym (same_Some s RemoteDev h)) refl
      | false ↦ λ h. takes_more s ss (named_remote ss word h)
    ] e

onto_small : (old : List Item) (more : Option (List Item)) (all : List Item) → Smalls old → ((new : List Item) → more ≡ Some new → Smalls new) → onto old more ≡ Some all → Smalls all
onto_small old more all s each e =
    let m = mapped (λ new. old ++ new) more all e in
    carry Smalls _ all m.2 (smalls-append old m.0 s (each m.0 m.1))

grown_small : (c : Command) (all items : List Item) → Smalls all → grown c all ≡ Some items → Smalls items
grown_small c all items s e = let p = passed (is_within c all) (Some all) items e in carry Smalls all items (same_Some _ _ p.1) s

value_fits : (r next : Reading) (s : Setting) (word : List ℕ) → r.place.awaited ≡ Some s → IsFitting r → value_read r s word ≡ Some next → IsFitting next
value_fits r next s word waits h e =
    let a = bound (valued s word r.place.options) (λ o. onto r.items (setting_items s word) >>= λ all. grown r.place.command all >>= λ items. Some (record { place = record r.place { awaited = None; options = o }; items = items })) next e in
    let b = bound (onto r.items (setting_items s word)) (λ all. grown r.place.command all >>= λ items. Some (record { place = record r.place { awaited = None; options = a.0 }; items = items })) next a.2 in
    let c = bound (grown r.place.command b.0) (λ items. Some (record { place = record r.place { awaited = None; options = a.0 }; items = items })) next b.2 in
    carry IsFitting _ next (same_Some _ _ c.2) (record {
      options = valued_sound s word (takes_remote (settings r.place.command)) r.place.options a.0 (λ is. h.awaited (waits ∙ ap (λ x. Some x) is)) a.1 h.options;
      awaited = λ y. cc;
      operands = h.operands;
      items = grown_small r.place.command b.0 c.0 (onto_small r.items (setting_items s word) b.0 h.items (setting_items_small s word) b.1) c.1;
    })

operand_fits_next : (r next : Reading) (op : Operand) (word : List ℕ) → learned nothing_known (take (filled_after r.place) (operands r.place.command)) ≡ learn op (learned nothing_known (take r.place.filled (operands r.place.command)))
    → IsFitting r → operand_read r op word ≡ Some next → IsFitting next
operand_fits_next r next op word more h e =
    let a = bound (operand_value op word r.place.operands) (λ p. onto r.items (operand_items op word) >>= λ all. grown r.place.command all >>= λ items. Some (record { place = record r.place { filled = filled_after r.place; operands = p }; items = items })) next e in
    let b = bound (onto r.items (operand_items op word)) (λ all. grown r.place.command all >>= λ items. Some (record { place = record r.place { filled = filled_after r.place; operands = a.0 }; items = items })) next a.2 in
    let c = bound (grown r.place.command b.0) (λ items. Some (record { place = record r.place { filled = filled_after r.place; operands = a.0 }; items = items })) next b.2 in
    carry IsFitting _ next (same_Some _ _ c.2) (record {
      options = h.options;
      awaited = h.awaited;
      operands = carry (λ k. OperandsSound k a.0) _ _ (sym more) (operand_sound op word _ r.place.operands a.0 a.1 h.operands);
      items = grown_small r.place.command b.0 c.0 (onto_small r.items (operand_items op word) b.0 h.items (operand_items_small op word) b.1) c.1;
    })

repeated : (first : Option Operand) (op : Operand) → again first ≡ Some op → repeats op ≡ true
repeated None op e = cc
repeated (Some x) op e = let p = passed (repeats x) (Some x) op e in carry (λ y. repeats y ≡ true) x op (same_Some _ _ p.1) p.0

filled_more : (place : LinePlace) (op : Operand) (at : Option Operand) → slice_get (operands place.command) place.filled ≡ at → or_again at (slice_get (operands place.command) 0) ≡ Some op
    → learned nothing_known (take (filled_after place) (operands place.command)) ≡ learn op (learned nothing_known (take place.filled (operands place.command)))
filled_more place op (Some x) is e =
    let ops = operands place.command in
    let here : slice_get ops place.filled ≡ Some op = is ∙ e in
    let lt = get_within ops place.filled op here in
    ap (λ b. learned nothing_known (take (cond b (place.filled + 1) place.filled) ops)) (lt-ltb place.filled (length ops) lt) ∙ learned_more nothing_known ops place.filled op here
filled_more place op None is e =
    let ops = operands place.command in
    let past = get_past ops place.filled is in
    let test : nat_lt place.filled (length ops) ≡ false = grind (arith, nat_tests, past) in
    ap (λ b. learned nothing_known (take (cond b (place.filled + 1) place.filled) ops)) test
    ∙ repeat_learns op (learned nothing_known (take place.filled ops)) (repeated (slice_get ops 0) op e)

next_fits : (r next : Reading) (word : List ℕ) (op : Option Operand) → next_operand r.place ≡ op → IsFitting r → next_read r word op ≡ Some next → IsFitting next
next_fits r next word None is h e = cc
next_fits r next word (Some op) is h e =
    let p = passed (is_ready r.place) (operand_read r op word) next e in
    operand_fits_next r next op word (filled_more r.place op (slice_get (operands r.place.command) r.place.filled) refl is) h p.1

setting_read_fits : (r next : Reading) (s : Setting) → (s ≡ RemoteDev → takes_remote (settings r.place.command) ≡ true) → IsFitting r → with_items r.items (setting_read r.place s) ≡ Some next → IsFitting next
setting_read_fits r next s allowed h e =
    let m = mapped (λ p. record { place = p; items = r.items }) (setting_read r.place s) next e in
    elim (has s r.place.options) as (λ b. cond b None (cond (is_flag s) (Some (record r.place { options = flagged s r.place.options })) (Some (record r.place { awaited = Some s }))) ≡ Some m.0 → IsFitting next) [
      | true ↦ λ q. cc
      | false ↦ λ q. elim (is_flag s) as (λ b. cond b (Some (record r.place { options = flagged s r.place.options })) (Some (record r.place { awaited = Some s })) ≡ Some m.0 → IsFitting next) [
        | true ↦ λ z. carry IsFitting _ next (ap (λ p. record { place = p; items = r.items }) (same_Some _ _ z) ∙ m.2)
            (record { options = flagged_sound s (takes_remote (settings r.place.command)) r.place.options h.options; awaited = h.awaited; operands = h.operands; items = h.items })
        | false ↦ λ z. carry IsFitting _ next (ap (λ p. record { place = p; items = r.items }) (same_Some _ _ z) ∙ m.2)
            (record { options = h.options; awaited = λ is. allowed (same_Some _ _ is); operands = h.operands; items = h.items })
      ] q
    ] m.1

setting_at_allowed : (place : LinePlace) (word : List ℕ) (s : Setting) → setting_at place word ≡ Some s → s ≡ RemoteDev → takes_remote (settings place.command) ≡ true
setting_at_allowed place word s e is =
    let p = passed (nat_eq place.filled 0) (setting_named (settings place.command) word) s e in
    named_remote (settings place.command) word (p.1 ∙ ap (λ x. Some x) is)

named_fits : (r next : Reading) (word : List ℕ) (s : Option Setting) → setting_at r.place word ≡ s → IsFitting r → named_read r word s ≡ Some next → IsFitting next
named_fits r next word None is h e = next_fits r next word (next_operand r.place) refl h e
named_fits r next word (Some s) is h e = setting_read_fits r next s (setting_at_allowed r.place word s is) h e

awaited_fits : (r next : Reading) (word : List ℕ) (s : Option Setting) → r.place.awaited ≡ s → IsFitting r → awaited_read r word s ≡ Some next → IsFitting next
awaited_fits r next word None is h e = named_fits r next word (setting_at r.place word) refl h e
awaited_fits r next word (Some s) is h e = value_fits r next s word is h e

pub read_on_fits : (r next : Reading) (word : List ℕ) → IsFitting r → read_on r word ≡ Some next → IsFitting next
unfolding read_on
read_on_fits r next word h e = awaited_fits r next word r.place.awaited refl h e
