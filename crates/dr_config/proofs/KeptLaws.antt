-- What is kept stays sound with one more server, and stands for the table with it.
use Rattle.std.proofs.Common.{◌≡◌, ℕ, Bool, List, [], ◌∷◌, ◌++◌, None, Vec, sym, ◌∙◌, ap, subst}
use Rattle.std.specs.List.{position}
use Rattle.std.specs.Str.{bytes_eq}
use Rattle.std.specs.declared.alloc.Global.{Global}
use Rattle.std.proofs.lemmas.List.{map-append}
use Rattle.dr_config.specs.declared.entries.VolumeEntry.{VolumeEntry}
use Rattle.dr_config.specs.Table.{IsName, IsSoundConfig}
use Rattle.dr_config.specs.Kept.{names_of, table_of}
use Rattle.dr_config.specs.Rules.{server_refusal, with_server}
use Rattle.dr_config.proofs.Lists.{position-map}
use Rattle.dr_config.proofs.PathLaws.{PathEntries}
use Rattle.dr_config.proofs.Sound.{server-accepted, sound-with_server}

module _ (servers : List (Vec ℕ Global)) (es : List VolumeEntry) (rows : List (List Bool)) (ps : PathEntries) where
  -- a name that isn't refused is no server's
  pub name-free : (copy : Vec ℕ Global) (name : List ℕ) → copy.items ≡ name → server_refusal (table_of servers es rows ps) name ≡ None → position (λ (n : Vec ℕ Global). bytes_eq copy.items n.items) servers ≡ None
  name-free copy name same ok =
      ap (λ b. position (λ (n : Vec ℕ Global). bytes_eq b n.items) servers) same
      ∙ (sym (position-map (λ (n : Vec ℕ Global). n.items) (λ (n : List ℕ). bytes_eq name n) servers) ∙ (server-accepted (table_of servers es rows ps) name ok).0)

  -- one more server
  pub table-server : (copy : Vec ℕ Global) (name : List ℕ) → copy.items ≡ name → table_of (servers ++ copy ∷ []) es rows ps ≡ with_server (table_of servers es rows ps) name
  table-server copy name same =
      let names : names_of (servers ++ copy ∷ []) ≡ names_of servers ++ name ∷ [] =
      map-append (λ (n : Vec ℕ Global). n.items) servers (copy ∷ []) ∙ ap (λ b. names_of servers ++ b ∷ []) same in
      λ i. record (table_of servers es rows ps) { names = names i }

  pub kept-server : (copy : Vec ℕ Global) (name : List ℕ) → copy.items ≡ name → IsName name → server_refusal (table_of servers es rows ps) name ≡ None → IsSoundConfig (table_of servers es rows ps) → IsSoundConfig (table_of (servers ++ copy ∷ []) es rows ps)
  kept-server copy name same fits ok sound =
      subst IsSoundConfig (sym (table-server copy name same)) (sound-with_server (table_of servers es rows ps) name fits ok sound)
