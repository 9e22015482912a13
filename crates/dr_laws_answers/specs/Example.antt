-- Examples: a run that ends with a listing of a pair, and steps that are answered ok.
use Rattle.std.specs.Prelude.{false, List, [], ◌∷◌, ◌++◌}
use Rattle.dr_model.specs.declared.step.Step.TheVariants.{Server, Volume, Link, StopAfter, MakePath, MakePair, Write, Destage, Freeze, Unfreeze, ListPairs}
use Rattle.dr_model.specs.declared.step.TornWord.TheVariants.{Fill}
use Rattle.dr_model.specs.Runs.{Task}
use Rattle.dr_laws_sites.specs.Example.{named, unnamed, uncopied, step}

-- Volume 1000 on server A and 2000 on server B, by hexadecimal numbers, with two tracks each. 2000 is the Global Copy secondary of 1000. The host
-- writes an a on track 1 of 1000, which isn't sent.
abbrev pub paired : List Task
paired =
    step (Server (named 65)) ∷ step (Server (named 66))
    ∷ step (Volume 4096 (named 65) 2) ∷ step (Volume 8192 (named 66) 2)
    ∷ step (MakePath unnamed 16 32 false)
    ∷ step (MakePair unnamed 4096 8192 2 (uncopied false))
    ∷ step (Write 4096 1 0 1 (97 ∷ []))
    ∷ []

-- the pair is listed, as a step of its own
abbrev pub lists : Task
lists = step (ListPairs unnamed 4096)

-- that comes last
abbrev pub listed_pair : List Task
listed_pair = paired ++ lists ∷ []

-- The pair is frozen.
abbrev pub frozen_pair : List Task
frozen_pair = paired ++ step (Freeze unnamed 16 32) ∷ []

-- it is thawed
abbrev pub thaws : Task
thaws = step (Unfreeze unnamed 16 32)

-- the link between both servers goes down
abbrev pub cuts : Task
cuts = step (Link (named 65) (named 66) false)

-- three more writes of server A pass, and the next one is cut short and leaves a block filled with 01
abbrev pub arms : Task
arms = step (StopAfter (named 65) 3 (Fill 1))

-- the track that the host wrote, which is staged, is written to its place
abbrev pub destages : Task
destages = step (Destage 4096)
