-- Read first: `Stretch.antt`: which moments of a run are a window's. `Freeze.antt` has the freeze window and `Flash.antt` the flash window.
-- `WayHome.antt` has the run over both sites, up to its drain. Of a set nothing computes: if one decides, a lemma says what it holds.
-- `Compared.antt` and `Shown.antt` go on from its worlds. What a track contains doesn't compute after a move that doesn't carry it: the journal tells.
-- `Orders.antt` has the run with messages, and with a loss that is settled. `ToIdle.antt` goes on from it.
pub mod Stretch
pub mod Freeze
pub mod Flash
pub mod WayHome
pub mod Compared
pub mod Shown
pub mod Orders
pub mod ToIdle
