-- The kinds of pairs.
use Rattle.dr_model.specs.declared.state.Part.{Part}
use Rattle.dr_model.specs.declared.state.Part.TheVariants as part
use Rattle.dr_gcopy.specs.declared.kinds.CopyKind.{CopyKind}
use Rattle.dr_gcopy.specs.declared.kinds.CopyKind.TheVariants.{Metro, Global}

-- the part of a volume in a pair of that kind
abbrev pub part_of : CopyKind → Part
part_of Metro = part.Metro
part_of Global = part.Global
