-- Read first `Proper.antt`: an image that lists the volumes of a sound world is a proper one; and `RecoveredOf.antt`: what recovery makes of an
-- image is a matter of the records and tracks that it gives (`Gives`), whatever they are of. `Stands.antt` has three kinds of them: a world,
-- the devices of a plant that fits it, and devices as they are listed.
-- - **Devices by their kept blocks** (`Blocks.antt`): what reads a device looks at its first blocks alone. A function of blocks that are a
--   function of numbers is that of a list of them (`six`), so blocks that are the same one by one give the same record.
-- - **A law on tables that only one kind of step changes** (`Servers.antt`): acts keep it whatever they are, so it goes along entries without
--   their plan; what is left is a clause for each case on the first tables and the last ones.
-- - **What no answer says** (`Built.antt`, `Unbuilt.antt`): entries by why they refuse (`case-does` of `dr_laws_sound`); answers by `case-answers`,
--   with a clause for each case that says more than one thing; a line of groups by its turns.
pub mod Blocks
pub mod Built
pub mod Proper
pub mod RecoveredOf
pub mod Servers
pub mod Stands
pub mod ImageTexts
pub mod Imaged
pub mod Unbuilt
