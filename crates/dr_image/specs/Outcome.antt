-- What a call that reads answers.
use Rattle.std.specs.Prelude.{◌≡◌, ◌≢◌, ℕ, Bool, true, false, List, Result, Ok, Err}
use Rattle.dr_model.specs.PlantImage.{Volume, IsImage, IsFirstBad, image_text}
use Rattle.dr_image.specs.declared.fault.ImageFault.{ImageFault}
use Rattle.dr_image.specs.declared.fault.ImageFault.TheVariants.{NoMemory, BadImage}

-- the fault is want of memory, or tells the first bad line
abbrev pub TellsFault : Result (List Volume) ℕ → ImageFault → Type 0
TellsFault reading NoMemory = Unit {0}
TellsFault reading (BadImage line) = reading ≡ Err line

-- an image is the one that the text reads as
abbrev pub ReadsAs : Result (List Volume) ℕ → Result (List Volume) ImageFault → Type 0
ReadsAs reading (Ok image) = reading ≡ Ok image
ReadsAs reading (Err fault) = TellsFault reading fault

-- want of memory comes exactly from a reader that has failed
abbrev pub EndsFault : Bool → Result (List Volume) ℕ → ImageFault → Type 0
EndsFault failed reading NoMemory = failed ≡ true
EndsFault failed reading (BadImage line) = (failed ≡ false) × (reading ≡ Err line)

-- what a reader answers as it is finished
abbrev pub FinishesAs : Bool → Result (List Volume) ℕ → Result (List Volume) ImageFault → Type 0
FinishesAs failed reading (Ok image) = (failed ≡ false) × (reading ≡ Ok image)
FinishesAs failed reading (Err fault) = EndsFault failed reading fault

-- a text with a bad line is the text of no proper image
abbrev pub IsNoImage : List ℕ → ImageFault → Type 0
IsNoImage text NoMemory = Unit {0}
IsNoImage text (BadImage line) = (image : List Volume) → IsImage image → text ≢ image_text image

-- the fault tells the first bad line of the text
abbrev pub TellsFirst : List ℕ → ImageFault → Type 0
TellsFirst text NoMemory = Unit {0}
TellsFirst text (BadImage line) = IsFirstBad text line
