-- What the host hears of moves and acts, and what it shows of a state behind that.
use Rattle.std.specs.Prelude.{◌≡◌, map, IsSome, refl}
use Rattle.std.specs.List.{find}
use Rattle.dr_config.specs.Table.{ConfigTable}
use Rattle.dr_host.specs.Seen as host
use Rattle.dr_host.specs.Seen.{seen-marked, seen-without}
use Rattle.dr_host.specs.Writes.{Writes, has_number, with_marked, without}
use Rattle.dr_moves.specs.Beside.{rest_after, table_after}
use Rattle.dr_moves.specs.declared.beside.News.{News}
use Rattle.dr_moves.specs.declared.beside.News.TheVariants.{Settled, Landed, Begun, Removed, Unchanged}
use Rattle.dr_volume.specs.View.{Rest}

-- the rest of a state, with the host's writes in it
abbrev pub with_writes : Rest → Writes → Rest
with_writes r h = record r { issued = h.issued; pending = map host.pending_seen h.pending }

-- it hears of the writes that are pending
abbrev pub Hears : Writes → News → Type 0
Hears h (Settled w) = IsSome (find (has_number w.0) h.pending)
Hears h (Landed w) = IsSome (find (has_number w.0) h.pending)
Hears h _ = ⊥

-- its writes behind the news
abbrev pub host_after : News → Writes → Writes
host_after (Settled w) h = without h w.0
host_after (Landed w) h = with_marked h w.0
host_after _ h = h

-- they are those that the machine has
pub shows-writes : (n : News) (h : Writes) (r : Rest) → Hears h n → with_writes r (host_after n h) ≡ rest_after n (with_writes r h)
shows-writes (Settled w) h r can = λ i. record r { issued = h.issued; pending = seen-without w.0 h.pending i }
shows-writes (Landed w) h r can = λ i. record r { issued = h.issued; pending = seen-marked w.0 h.pending i }
shows-writes (Begun s) h r can = absurd can
shows-writes (Removed l m) h r can = absurd can
shows-writes Unchanged h r can = absurd can

-- and no path is the host's
pub keeps-table : (n : News) (h : Writes) (c : ConfigTable) → Hears h n → c ≡ table_after n c
keeps-table (Settled w) h c can = refl
keeps-table (Landed w) h c can = refl
keeps-table (Begun s) h c can = absurd can
keeps-table (Removed l m) h c can = absurd can
keeps-table Unchanged h c can = absurd can
