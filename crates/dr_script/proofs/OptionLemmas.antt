-- Options that are written read as these options.
use Rattle.std.proofs.Common.{ℕ, ◌≡◌, ◌<◌, ◌≤◌, ◌^◌, List, [], ◌∷◌, length, refl, ap, ◌∙◌, sym, arith, Bool, true, false, ◌||◌, cond, Option, Some, None, nat_lt, nat_le, nat_eq}
use Rattle.std.specs.Prelude.{codes}
use Rattle.std.specs.Option.{option_map, unwrap_or, is_some}
use Rattle.std.proofs.lemmas.Bool.Decides.{nat_tests}
use Rattle.std.proofs.lemmas.Fmt.{length-decimal-le}
use Rattle.std.proofs.lemmas.Bool.{and_parts}
use Rattle.dr_ids.specs.declared.names.Lss.{Lss}
use Rattle.dr_ids.specs.declared.names.SessionId.{SessionId}
use Rattle.dr_model.specs.declared.grammar.Setting.{Setting}
use Rattle.dr_model.specs.declared.grammar.Setting.TheVariants.{Quiet, Dev, RemoteDev, RemotePort, SourceLss, TargetLss, ConsistencyGroup, Force, PairType, Mode, Cascade, Unconditional, AtSource, NoCopy, Persist, Recording, Inhibit, FreezeSource, Sequence, Fast, TargetPprc, OfLss, Members, Action, OfSession, Interval, Coordination, DrainTime}
use Rattle.dr_model.specs.declared.grammar.Options.{Options}
use Rattle.dr_model.specs.declared.grammar.Item.{Item}
use Rattle.dr_model.specs.LineWords.{name_word, kind_word, sequence_word}
use Rattle.dr_model.specs.LineSteps.{has, is_flag, flagged, valued, setting_items, or_zero, no_name}
use Rattle.dr_model.specs.LineText.{kind_text, setting_text, setting_fits}
use Rattle.dr_script.proofs.CutLemmas.{is_inked}
use Rattle.dr_script.proofs.TextLemmas.{lss_reads, session_reads, decimal_reads, sequence_reads, sequence_inked, name_reads, decimal_inked, hex2_inked, hex4_inked}
use Rattle.dr_script.proofs.ItemTextLemmas.{list_reads}
use Rattle.dr_logic.proofs.Options.{none_there}

-- the options with one option as it is in others
unfoldable pub absorb : Setting → Options → Options → Options
absorb Dev o cur = record cur { devs = record cur.devs { dev = o.devs.dev } }
absorb RemoteDev o cur = record cur { devs = record cur.devs { remotedev = o.devs.remotedev } }
absorb Quiet o cur = record cur { quiet = o.quiet }
absorb RemotePort o cur = record cur { remote_port = o.remote_port }
absorb SourceLss o cur = record cur { src = o.src }
absorb TargetLss o cur = record cur { tgt = o.tgt }
absorb ConsistencyGroup o cur = record cur { group = o.group }
absorb Force o cur = record cur { force = o.force }
absorb PairType o cur = record cur { kind = o.kind }
absorb Mode o cur = record cur { full = o.full }
absorb Cascade o cur = record cur { cascade = o.cascade }
absorb Unconditional o cur = record cur { unconditional = o.unconditional }
absorb AtSource o cur = record cur { at_source = o.at_source }
absorb NoCopy o cur = record cur { nocopy = o.nocopy }
absorb Persist o cur = record cur { persistent = o.persistent }
absorb Recording o cur = record cur { recorded = o.recorded }
absorb Inhibit o cur = record cur { inhibited = o.inhibited }
absorb FreezeSource o cur = record cur { freeze = o.freeze }
absorb Sequence o cur = record cur { sequence = o.sequence }
absorb Fast o cur = record cur { fast = o.fast }
absorb TargetPprc o cur = record cur { tgtpprc = o.tgtpprc }
absorb OfLss o cur = record cur { lss = o.lss }
absorb Members o cur = record cur { members = o.members }
absorb Action o cur = record cur { adds = o.adds }
absorb OfSession o cur = record cur { session = o.session }
absorb Interval o cur = record cur { cginterval = o.cginterval }
absorb Coordination o cur = record cur { coordinate = o.coordinate }
absorb DrainTime o cur = record cur { drain = o.drain }

-- the items that an option gives
abbrev pub added : Setting → Item → List Item
added Members i = i ∷ []
added _ i = []

there : (x : Option ℕ) → is_some x ≡ true → Some (or_zero x) ≡ x
there None e = absurd (cc)
there (Some n) e = refl

there_or : {A : Type 0} (d : A) (x : Option A) → is_some x ≡ true → Some (unwrap_or x d) ≡ x
there_or d None e = absurd (cc)
there_or d (Some n) e = refl

-- an option that neither has
pub absent : (s : Setting) (o cur : Options) → has s o ≡ false → has s cur ≡ false → absorb s o cur ≡ cur
unfolding absorb has
absent Dev o cur e f = ap (λ d. record cur { devs = record cur.devs { dev = d } }) (none_there o.devs.dev e ∙ sym (none_there cur.devs.dev f))
absent RemoteDev o cur e f = ap (λ d. record cur { devs = record cur.devs { remotedev = d } }) (none_there o.devs.remotedev e ∙ sym (none_there cur.devs.remotedev f))
absent Quiet o cur e f = ap (λ x. record cur { quiet = x }) (e ∙ sym f)
absent RemotePort o cur e f = ap (λ x. record cur { remote_port = x }) (e ∙ sym f)
absent SourceLss o cur e f = ap (λ x. record cur { src = x }) (none_there o.src e ∙ sym (none_there cur.src f))
absent TargetLss o cur e f = ap (λ x. record cur { tgt = x }) (none_there o.tgt e ∙ sym (none_there cur.tgt f))
absent ConsistencyGroup o cur e f = ap (λ x. record cur { group = x }) (e ∙ sym f)
absent Force o cur e f = ap (λ x. record cur { force = x }) (e ∙ sym f)
absent PairType o cur e f = ap (λ x. record cur { kind = x }) (none_there o.kind e ∙ sym (none_there cur.kind f))
absent Mode o cur e f = ap (λ x. record cur { full = x }) (none_there o.full e ∙ sym (none_there cur.full f))
absent Cascade o cur e f = ap (λ x. record cur { cascade = x }) (e ∙ sym f)
absent Unconditional o cur e f = ap (λ x. record cur { unconditional = x }) (e ∙ sym f)
absent AtSource o cur e f = ap (λ x. record cur { at_source = x }) (e ∙ sym f)
absent NoCopy o cur e f = ap (λ x. record cur { nocopy = x }) (e ∙ sym f)
absent Persist o cur e f = ap (λ x. record cur { persistent = x }) (e ∙ sym f)
absent Recording o cur e f = ap (λ x. record cur { recorded = x }) (e ∙ sym f)
absent Inhibit o cur e f = ap (λ x. record cur { inhibited = x }) (e ∙ sym f)
absent FreezeSource o cur e f = ap (λ x. record cur { freeze = x }) (e ∙ sym f)
absent Sequence o cur e f = ap (λ x. record cur { sequence = x }) (none_there o.sequence e ∙ sym (none_there cur.sequence f))
absent Fast o cur e f = ap (λ x. record cur { fast = x }) (e ∙ sym f)
absent TargetPprc o cur e f = ap (λ x. record cur { tgtpprc = x }) (e ∙ sym f)
absent OfLss o cur e f = ap (λ x. record cur { lss = x }) (none_there o.lss e ∙ sym (none_there cur.lss f))
absent Members o cur e f = ap (λ x. record cur { members = x }) (e ∙ sym f)
absent Action o cur e f = ap (λ x. record cur { adds = x }) (none_there o.adds e ∙ sym (none_there cur.adds f))
absent OfSession o cur e f = ap (λ x. record cur { session = x }) (none_there o.session e ∙ sym (none_there cur.session f))
absent Interval o cur e f = ap (λ x. record cur { cginterval = x }) (none_there o.cginterval e ∙ sym (none_there cur.cginterval f))
absent Coordination o cur e f = ap (λ x. record cur { coordinate = x }) (none_there o.coordinate e ∙ sym (none_there cur.coordinate f))
absent DrainTime o cur e f = ap (λ x. record cur { drain = x }) (none_there o.drain e ∙ sym (none_there cur.drain f))

-- a flag that is given
pub flag_reads : (s : Setting) (o cur : Options) → is_flag s ≡ true → has s o ≡ true → flagged s cur ≡ absorb s o cur
unfolding absorb has flagged
flag_reads Quiet o cur e f = ap (λ x. record cur { quiet = x }) (sym f)
flag_reads Dev o cur e f = absurd (cc)
flag_reads RemoteDev o cur e f = absurd (cc)
flag_reads RemotePort o cur e f = absurd (cc)
flag_reads SourceLss o cur e f = absurd (cc)
flag_reads TargetLss o cur e f = absurd (cc)
flag_reads ConsistencyGroup o cur e f = ap (λ x. record cur { group = x }) (sym f)
flag_reads Force o cur e f = ap (λ x. record cur { force = x }) (sym f)
flag_reads PairType o cur e f = absurd (cc)
flag_reads Mode o cur e f = absurd (cc)
flag_reads Cascade o cur e f = ap (λ x. record cur { cascade = x }) (sym f)
flag_reads Unconditional o cur e f = ap (λ x. record cur { unconditional = x }) (sym f)
flag_reads AtSource o cur e f = absurd (cc)
flag_reads NoCopy o cur e f = ap (λ x. record cur { nocopy = x }) (sym f)
flag_reads Persist o cur e f = ap (λ x. record cur { persistent = x }) (sym f)
flag_reads Recording o cur e f = ap (λ x. record cur { recorded = x }) (sym f)
flag_reads Inhibit o cur e f = ap (λ x. record cur { inhibited = x }) (sym f)
flag_reads FreezeSource o cur e f = ap (λ x. record cur { freeze = x }) (sym f)
flag_reads Sequence o cur e f = absurd (cc)
flag_reads Fast o cur e f = ap (λ x. record cur { fast = x }) (sym f)
flag_reads TargetPprc o cur e f = ap (λ x. record cur { tgtpprc = x }) (sym f)
flag_reads OfLss o cur e f = absurd (cc)
flag_reads Members o cur e f = absurd (cc)
flag_reads Action o cur e f = absurd (cc)
flag_reads OfSession o cur e f = absurd (cc)
flag_reads Interval o cur e f = absurd (cc)
flag_reads Coordination o cur e f = absurd (cc)
flag_reads DrainTime o cur e f = absurd (cc)

-- an option's value that is given
pub record ValueReads (s : Setting) (o cur : Options) (i : Item) : Type 0 where
  pub reads : valued s (setting_text s o i) cur ≡ Some (absorb s o cur)
  pub items : setting_items s (setting_text s o i) ≡ Some (added s i)
  pub inked : is_inked (setting_text s o i) ≡ true
  pub few : length (setting_text s o i) ≤ 24

full_reads : (f : Option Bool) (cur : Options) → is_some f ≡ true
    → option_map (λ x. record cur { full = Some x }) (Rattle.dr_model.specs.LineWords.either_word (codes "full") (codes "nocp") (cond (unwrap_or f true) (codes "full") (codes "nocp"))) ≡ Some (record cur { full = f })
full_reads None cur e = absurd (cc)
full_reads (Some true) cur e = refl
full_reads (Some false) cur e = refl

adds_reads : (f : Option Bool) (cur : Options) → is_some f ≡ true
    → option_map (λ x. record cur { adds = Some x }) (Rattle.dr_model.specs.LineWords.either_word (codes "add") (codes "remove") (cond (unwrap_or f true) (codes "add") (codes "remove"))) ≡ Some (record cur { adds = f })
adds_reads None cur e = absurd (cc)
adds_reads (Some true) cur e = refl
adds_reads (Some false) cur e = refl

pub kind_is : (k : ℕ) → (nat_eq k 1 || nat_eq k 2) ≡ true → kind_word (kind_text k) ≡ Some k
kind_is k e =
    elim (nat_eq k 1) as (λ b. nat_eq k 1 ≡ b → (b || nat_eq k 2) ≡ true → kind_word (cond b (codes "mmir") (codes "gcp")) ≡ Some k) [
      | true ↦ λ one h. ap Some (let n : 1 ≡ k = grind (arith, nat_tests, one) in n)
      | false ↦ λ one h. ap Some (let n : 2 ≡ k = grind (arith, nat_tests, h) in n)
    ] refl e

pub either_text : (b : Bool) (x y : List ℕ) → is_inked x ≡ true → is_inked y ≡ true → length x ≤ 24 → length y ≤ 24 → (is_inked (cond b x y) ≡ true) × (length (cond b x y) ≤ 24)
either_text true x y e f g h = (e, g)
either_text false x y e f g h = (f, h)

pub item_is : (i : Item) → nat_eq i.second i.first ≡ true → Some (record { first = i.first; second = i.first } ∷ []) ≡ Some (i ∷ [])
item_is i e = (λ j. Some (record { first = i.first; second = (let n : i.first ≡ i.second = grind (arith, nat_tests, e) in n) j } ∷ []))

pub value_reads : (s : Setting) (o cur : Options) (i : Item) → is_flag s ≡ false → has s o ≡ true → setting_fits s o i ≡ true → ValueReads s o cur i
unfolding absorb has valued setting_items setting_text setting_fits
value_reads Quiet o cur i e f g = absurd (cc)
value_reads Dev o cur i e f g =
    let n = name_reads (unwrap_or o.devs.dev no_name) g in
    record {
      reads = ap (option_map (λ x. record cur { devs = record cur.devs { dev = Some x } })) n.reads ∙ ap (λ d. Some (record cur { devs = record cur.devs { dev = d } })) (there_or no_name o.devs.dev f);
      items = refl;
      inked = n.inked;
      few = n.few;
    }
value_reads RemoteDev o cur i e f g =
    let n = name_reads (unwrap_or o.devs.remotedev no_name) g in
    record {
      reads = ap (option_map (λ x. record cur { devs = record cur.devs { remotedev = Some x } })) n.reads ∙ ap (λ d. Some (record cur { devs = record cur.devs { remotedev = d } })) (there_or no_name o.devs.remotedev f);
      items = refl;
      inked = n.inked;
      few = n.few;
    }
value_reads RemotePort o cur i e f g = absurd (cc)
value_reads SourceLss o cur i e f g =
    let lt : or_zero o.src < 256 = grind (arith, nat_tests, g) in
    record {
      reads = ap (option_map (λ (l : Lss). record cur { src = Some l.0 })) (lss_reads (or_zero o.src) lt) ∙ ap (λ x. Some (record cur { src = x })) (there o.src f);
      items = refl;
      inked = hex2_inked (or_zero o.src);
      few = omega arith;
    }
value_reads TargetLss o cur i e f g =
    let lt : or_zero o.tgt < 256 = grind (arith, nat_tests, g) in
    record {
      reads = ap (option_map (λ (l : Lss). record cur { tgt = Some l.0 })) (lss_reads (or_zero o.tgt) lt) ∙ ap (λ x. Some (record cur { tgt = x })) (there o.tgt f);
      items = refl;
      inked = hex2_inked (or_zero o.tgt);
      few = omega arith;
    }
value_reads ConsistencyGroup o cur i e f g = absurd (cc)
value_reads Force o cur i e f g = absurd (cc)
value_reads PairType o cur i e f g =
    let t = either_text (nat_eq (or_zero o.kind) 1) (codes "mmir") (codes "gcp") refl refl (omega arith) (omega arith) in
    record {
      reads = ap (option_map (λ k. record cur { kind = Some k })) (kind_is (or_zero o.kind) g) ∙ ap (λ x. Some (record cur { kind = x })) (there o.kind f);
      items = refl;
      inked = t.0;
      few = t.1;
    }
value_reads Mode o cur i e f g =
    let t = either_text (unwrap_or o.full true) (codes "full") (codes "nocp") refl refl (omega arith) (omega arith) in
    record { reads = full_reads o.full cur f; items = refl; inked = t.0; few = t.1 }
value_reads Cascade o cur i e f g = absurd (cc)
value_reads Unconditional o cur i e f g = absurd (cc)
value_reads AtSource o cur i e f g =
    record { reads = ap (λ x. Some (record cur { at_source = x })) (sym f); items = refl; inked = refl; few = omega arith }
value_reads NoCopy o cur i e f g = absurd (cc)
value_reads Persist o cur i e f g = absurd (cc)
value_reads Recording o cur i e f g = absurd (cc)
value_reads Inhibit o cur i e f g = absurd (cc)
value_reads FreezeSource o cur i e f g = absurd (cc)
value_reads Sequence o cur i e f g =
    let lt : or_zero o.sequence < 2 ^ 32 = grind (arith, nat_tests, g) in
    let t = sequence_inked (or_zero o.sequence) lt in
    record {
      reads = ap (option_map (λ n. record cur { sequence = Some n })) (sequence_reads (or_zero o.sequence) lt) ∙ ap (λ x. Some (record cur { sequence = x })) (there o.sequence f);
      items = refl;
      inked = t.0;
      few = (let l = t.1 in omega (arith, l));
    }
value_reads Fast o cur i e f g = absurd (cc)
value_reads TargetPprc o cur i e f g = absurd (cc)
value_reads OfLss o cur i e f g =
    let lt : or_zero o.lss < 256 = grind (arith, nat_tests, g) in
    record {
      reads = ap (option_map (λ (l : Lss). record cur { lss = Some l.0 })) (lss_reads (or_zero o.lss) lt) ∙ ap (λ x. Some (record cur { lss = x })) (there o.lss f);
      items = refl;
      inked = hex2_inked (or_zero o.lss);
      few = omega arith;
    }
value_reads Members o cur i e f g =
    let p = and_parts (nat_lt i.first 65536) _ g in
    let lt : i.first < 65536 = grind (arith, nat_tests, p.0) in
    record {
      reads = ap (λ x. Some (record cur { members = x })) (sym f);
      items = list_reads i.first lt ∙ item_is i p.1;
      inked = hex4_inked i.first;
      few = omega arith;
    }
value_reads Action o cur i e f g =
    let t = either_text (unwrap_or o.adds true) (codes "add") (codes "remove") refl refl (omega arith) (omega arith) in
    record { reads = adds_reads o.adds cur f; items = refl; inked = t.0; few = t.1 }
value_reads OfSession o cur i e f g =
    let p = and_parts (nat_le 1 (or_zero o.session)) _ g in
    let some : 1 ≤ or_zero o.session = grind (arith, nat_tests, p.0) in
    let lt : or_zero o.session < 256 = grind (arith, nat_tests, p.1) in
    record {
      reads = ap (option_map (λ (l : SessionId). record cur { session = Some l.0 })) (session_reads (or_zero o.session) some lt) ∙ ap (λ x. Some (record cur { session = x })) (there o.session f);
      items = refl;
      inked = hex2_inked (or_zero o.session);
      few = omega arith;
    }
value_reads Interval o cur i e f g =
    let le : or_zero o.cginterval ≤ 65535 = grind (arith, nat_tests, g) in
    record {
      reads = ap (option_map (λ n. record cur { cginterval = Some n })) (decimal_reads 65535 (or_zero o.cginterval) le (omega arith)) ∙ ap (λ x. Some (record cur { cginterval = x })) (there o.cginterval f);
      items = refl;
      inked = decimal_inked (or_zero o.cginterval) (omega arith);
      few = (let l = length-decimal-le 10 (or_zero o.cginterval) (omega arith) (omega arith) (omega arith) in omega (arith, l));
    }
value_reads Coordination o cur i e f g =
    let le : or_zero o.coordinate ≤ 65535 = grind (arith, nat_tests, g) in
    record {
      reads = ap (option_map (λ n. record cur { coordinate = Some n })) (decimal_reads 65535 (or_zero o.coordinate) le (omega arith)) ∙ ap (λ x. Some (record cur { coordinate = x })) (there o.coordinate f);
      items = refl;
      inked = decimal_inked (or_zero o.coordinate) (omega arith);
      few = (let l = length-decimal-le 10 (or_zero o.coordinate) (omega arith) (omega arith) (omega arith) in omega (arith, l));
    }
value_reads DrainTime o cur i e f g =
    let le : or_zero o.drain ≤ 65535 = grind (arith, nat_tests, g) in
    record {
      reads = ap (option_map (λ n. record cur { drain = Some n })) (decimal_reads 65535 (or_zero o.drain) le (omega arith)) ∙ ap (λ x. Some (record cur { drain = x })) (there o.drain f);
      items = refl;
      inked = decimal_inked (or_zero o.drain) (omega arith);
      few = (let l = length-decimal-le 10 (or_zero o.drain) (omega arith) (omega arith) (omega arith) in omega (arith, l));
    }
