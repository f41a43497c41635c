-- Names of overlays one behind the other.
use Rattle.std.proofs.Common.{◌≡◌, ◌++◌, List}
use Rattle.std.proofs.lemmas.List.{map-append}
use Rattle.overlay_file.specs.declared.overlay.OverlayCode8086.{OverlayCode8086}
use Rattle.smart_linker.specs.Names.{name_of, names_of}

pub names_behind : (xs ys : List OverlayCode8086) → names_of (xs ++ ys) ≡ names_of xs ++ names_of ys
names_behind xs ys = map-append name_of xs ys
