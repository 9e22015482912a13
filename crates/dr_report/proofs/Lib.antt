-- Read first: `ImageLaws.found-same`: what is found by what the devices say is what is found in the image.
-- - **What is read of a device is one value** (`known` of a `Device`, `known_by` of a volume of an image), so the devices are
--   one list equation, and no loop carries facts on places.
-- - **A chain of iterators proves itself** where its clause follows the chain over the slice's own items; `Chosen` brings it to
--   what is known of them.
-- - **A volume is found by its number** because volumes of an image are distinct (`each-found`).
pub mod Chosen
pub mod Lines
pub mod Same
pub mod DeviceLaws
pub mod FoundLaws
pub mod ImageLaws
