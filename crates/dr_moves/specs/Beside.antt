-- What acts change beside devices and journal: the host's pending writes, the sessions, and the paths.
use Rattle.std.specs.Prelude.{◌≡◌, filter, Option, Some, None, refl}
use Rattle.dr_config.specs.Table.{ConfigTable}
use Rattle.dr_config.specs.Rules.{without_path_between}
use Rattle.dr_model.specs.Moves.{is_other, marked}
use Rattle.dr_model.specs.Sessions.{changed, begun}
use Rattle.dr_volume.specs.View.{Rest}
use Rattle.dr_moves.specs.declared.beside.News.{News}
use Rattle.dr_moves.specs.declared.beside.News.TheVariants.{Settled, Landed, Begun, Removed, Unchanged}

-- what a run knows behind the news
abbrev pub rest_after : News → Rest → Rest
rest_after (Settled w) r = record r { pending = filter (is_other w.0) r.pending }
rest_after (Landed w) r = record r { pending = marked w.0 r.pending }
rest_after (Begun s) r = record r { sessions = changed s.0 begun r.sessions }
rest_after (Removed l m) r = r
rest_after Unchanged r = r

-- the configuration behind them
abbrev pub table_after : News → ConfigTable → ConfigTable
table_after (Removed l m) c = without_path_between c l.0 m.0
table_after _ c = c

-- what lies beside behind the news, where there are any
abbrev pub heard : {B : Type 0} → (News → B → B) → Option News → B → B
heard after None x = x
heard after (Some n) x = after n x

-- the news can be heard, where there are any
abbrev pub Takes : (News → Type 0) → Option News → Type 0
Takes takes None = Unit {0}
Takes takes (Some n) = takes n

-- a configuration hears of paths
abbrev pub is_path : News → Type 0
is_path (Removed l m) = Unit {0}
is_path _ = ⊥

pub rest-of_paths : (n : News) (r : Rest) → is_path n → r ≡ rest_after n r
rest-of_paths (Removed l m) r is = refl
rest-of_paths (Settled w) r is = absurd is
rest-of_paths (Landed w) r is = absurd is
rest-of_paths (Begun s) r is = absurd is
rest-of_paths Unchanged r is = absurd is

-- they are none
abbrev pub is_unchanged : News → Type 0
is_unchanged Unchanged = Unit {0}
is_unchanged _ = ⊥

pub rest-unchanged : (n : News) (r : Rest) → is_unchanged n → r ≡ rest_after n r
rest-unchanged Unchanged r is = refl
rest-unchanged (Settled w) r is = absurd is
rest-unchanged (Landed w) r is = absurd is
rest-unchanged (Begun s) r is = absurd is
rest-unchanged (Removed l m) r is = absurd is

pub table-unchanged : (n : News) (c : ConfigTable) → is_unchanged n → c ≡ table_after n c
table-unchanged Unchanged c is = refl
table-unchanged (Settled w) c is = absurd is
table-unchanged (Landed w) c is = absurd is
table-unchanged (Begun s) c is = absurd is
table-unchanged (Removed l m) c is = absurd is
